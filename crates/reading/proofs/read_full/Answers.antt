-- What a read gives stands behind what the reads before it gave.
use Rattle.std.proofs.Common.{◌≡◌, ℕ, ◌+◌, ◌≤◌, List, ◌++◌, length, take, sym, ap, subst, ◌∙◌, arith}
use Rattle.std.proofs.lemmas.List.{take-append-le, length-take-le}
use Rattle.std.proofs.Math.Seq.{take-append-add}
use Rattle.std.specs.Io.KnownBytes.{Consumes}
use Rattle.std.proofs.KnownBytes.{Consumes-trans}
use Rattle.reading.proofs.read_full.Goals as goal

take_behind :
    (whole part rest : List ℕ) (d n : ℕ) → d ≤ length whole → n ≤ length part →
    take (d + n) (take d whole ++ (part ++ rest)) ≡ take d whole ++ take n part
take_behind whole part rest d n inside within =
    ap (λ (k : ℕ). take (k + n) (take d whole ++ (part ++ rest))) (sym (length-take-le d whole inside))
    ∙ take-append-add (take d whole) (part ++ rest) n
    ∙ ap (λ (l : List ℕ). take d whole ++ l) (take-append-le n part rest within)

pub loop-done-preserved : goal.loop-done-preserved
loop-done-preserved g c =
    let i = c.loop-done.invariant in
    let b = c.in-Ok.ensures.bound in (
      omega arith,
      subst (Consumes _ _) (sym (take_behind _ _ _ c.loop-done.done c.in-Ok.n (omega arith) b.0)) (Consumes-trans _ _ _ _ _ i.1 c.in-Ok.ensures.bytes.0),
    )
