-- the part of the output from the pen on is filled with spaces
use Rattle.std.proofs.Common.{◌≡◌, ◌+◌, ◌-◌, ◌++◌, ℕ, List, length, take, drop, refl, ap, ◌∙◌, arith}
use Rattle.std.proofs.lemmas.Slice.{put_mid-paste}
use lib.ListN.{length-drop, replicate}
use lib.Seq.{take-length, length-take-le}
use Rattle.text.specs.Text.{put, space, spaces}
use Rattle.text.proofs.Pens.{adds_put}
use Rattle.text.proofs.Right.{length_spaces, spaces_replicate}
use Rattle.text.proofs.pen.Pen.spaces.Goals as goal

pub returns : goal.returns
unfolding put
returns c =
    let at = c.args.self.now.at in
    let out = c.args.self.now.out.now in
    let n = c.args.count in
    let part : List ℕ = take (at + n - at) (drop at out) in
    let room : length part ≡ n =
    let rest = length-drop at out in
    let taken = length-take-le (at + n - at) (drop at out) (omega arith) in
    omega arith in
    let filled = c.fill.ensures.after (λ y e. e) ∙ ap (λ (k : ℕ). replicate k space) room ∙ spaces_replicate n in
    let l = length_spaces n in
    let pasted = put_mid-paste at _ out _ (spaces n) (length (spaces n)) filled (omega arith) refl in
    adds_put refl
    (omega arith, pasted ∙ ap (λ (t : List ℕ). take at out ++ t ++ drop (at + length (spaces n)) out) (take-length (spaces n)), c.requires)
