-- a byte is written at its place
use Rattle.std.proofs.Common.{◌∷◌, [], refl, arith}
use lib.Seq.{sets-eq}
use Rattle.text.specs.Text.{put}
use Rattle.text.proofs.Pens.{adds_put}
use Rattle.text.proofs.pen.Pen.byte.Goals as goal

pub returns : goal.returns
unfolding put
returns c =
    let pen = c.args.self.now in
    adds_put refl (refl, sets-eq (c.args.b ∷ []) pen.out.now pen.at (omega arith), c.requires)
