-- `accesses_of` meets its contract: one for each access that is counted.
use mir.Val.{bool_byte}
use Rattle.std.proofs.Common.{ℕ, ◌+◌, ◌≤◌, ◌≡◌, Bool, true, false, cond, refl, ap, ap₂, ◌∙◌, arith}
use Rattle.machine.specs.Bus.{accesses_of}
use Rattle.bus.proofs.counting.accesses_of.Goals as goal

bit_is : (b : Bool) → bool_byte b ≡ cond b 1 0
bit_is true = refl
bit_is false = refl

one_at_most : (b : Bool) → bool_byte b ≤ 1
one_at_most true = omega arith
one_at_most false = omega arith

pub returns : goal.returns
unfolding accesses_of
returns c = (
  ap₂ (λ (m n : ℕ). m + n)
      (bit_is _ ∙ ap (λ (x : Bool). cond x 1 0) c.counts_fetch.ensures)
      (bit_is _ ∙ ap (λ (x : Bool). cond x 1 0) c.counts_data.ensures),
  omega (arith, one_at_most c.counts_fetch.result, one_at_most c.counts_data.result),
)
