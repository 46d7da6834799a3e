-- `cut` meets its contract: the tests say whether the bytes are all there.
use Rattle.std.proofs.Common.{refl, arith}
use borrow.Author.Tests.{le-leb, lt-leb}
use native.Mathlib.Nat.{sub-eq-zero_of_le, le_of_lt}
use Rattle.job.specs.Open.{part_of}
use Rattle.parts.proofs.cut.Goals as goal
use Rattle.parts.proofs.cut.Goals.{then-end-file-via-then-end-file, then-end-file-via-else-end-file+then-start-end}

pub returns-then-end-file : goal.returns-then-end-file
unfolding part_of
returns-then-end-file c =
    elim c.then-end-file.branch [
      | then-end-file-via-then-end-file w ↦ (rw (lt-leb _ _ w.if-end-file.true), λ _ last. (refl, omega (arith, w.if-end-file.true, last)))
      | then-end-file-via-else-end-file+then-start-end w ↦
          (rw (le-leb _ _ w.if-end-file.false, sub-eq-zero_of_le (le_of_lt w.if-start-end.true)), λ first _. (refl, omega (arith, first)))
    ]

pub returns : goal.returns
unfolding part_of
returns c = (rw (le-leb _ _ c.if-end-file.false) c.part.ensures.0, λ _ _. c.part.ensures.1)
