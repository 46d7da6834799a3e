-- `put_entry` meets its contract: the offset's four bytes and the count's two make one piece.
use Rattle.std.proofs.Common.{◌∙◌, arith}
use Rattle.little_endian.specs.Numbers.{half_bytes, word_bytes}
use Rattle.little_endian.proofs.Placed.{put_both}
use Rattle.writer.proofs.writing.put_entry.Goals as goal

pub returns : goal.returns
returns c =
    c.put_half.ensures
    ∙ put_both (word_bytes c.args.offset) (half_bytes c.args.n) c.args.out.now c.args.at (omega (arith, c.requires.0)) _ c.put_word.ensures
