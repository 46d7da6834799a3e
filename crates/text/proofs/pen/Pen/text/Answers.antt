-- the text is copied into the part of the output from the pen on
use Rattle.std.proofs.Common.{◌+◌, ◌++◌, ℕ, List, length, take, drop, refl, ap, ◌∙◌, arith}
use Rattle.std.proofs.lemmas.Slice.{put_mid-paste}
use lib.Seq.{take-length}
use Rattle.text.specs.Text.{put}
use Rattle.text.proofs.Pens.{adds_put}
use Rattle.text.proofs.pen.Pen.text.Goals as goal

pub returns : goal.returns
unfolding put
returns c =
    let at = c.args.self.now.at in
    let out = c.args.self.now.out.now in
    let text = c.args.text.now in
    let pasted = put_mid-paste at _ out _ text (length text) c.copy_from_slice.ensures.after (omega arith) refl in
    adds_put refl (refl, pasted ∙ ap (λ (t : List ℕ). take at out ++ t ++ drop (at + length text) out) (take-length text), c.requires)
