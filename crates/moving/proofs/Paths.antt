-- "Moves" and "will be free", one law for each path through the code.
use mathlib.Core.Bool.{Bool, true, false, not}
use mathlib.Core.Path.{◌≡◌, ap, ap₂, ◌∙◌}
use Rattle.machine.specs.Test.{◌and◌, ◌or◌}
use Rattle.machine.specs.Instruction.{Kind}
use Rattle.machine.specs.Rules.{Stage, post, next, same}
use Rattle.machine.proofs.Connectives.{true_and, or_l, or_r, and_failed_l}
use Rattle.machine.proofs.BySlots.{moves_at, free_at, moves_at_lem, free_at_lem}

module _ (going full : Stage → Bool) (kinds : Stage → Kind) (k : Stage) where
  pub free_post : same k post ≡ true → free_at going full kinds k ≡ true
  free_post e = free_at_lem going full kinds k ∙ or_l _ _ e

  module _ (h : same k post ≡ false) where
    pub moves_off : going k ≡ false → moves_at going full kinds k ≡ false
    moves_off e = moves_at_lem going full kinds k h ∙ and_failed_l _ _ e

    pub moves_on : going k ≡ true → moves_at going full kinds k ≡ free_at going full kinds (next (kinds k) k)
    moves_on e =
        moves_at_lem going full kinds k h
        ∙ ap (λ (b : Bool). b and free_at going full kinds (next (kinds k) k)) e
        ∙ true_and _

    pub free_empty : full k ≡ false → free_at going full kinds k ≡ true
    free_empty e = free_at_lem going full kinds k ∙ or_r _ _ (or_l _ _ (ap not e))

    pub free_filled : full k ≡ true → free_at going full kinds k ≡ moves_at going full kinds k
    unfolding ◌or◌
    free_filled e =
        free_at_lem going full kinds k
        ∙ ap₂ ◌or◌ h (ap (λ (b : Bool). not b or moves_at going full kinds k) e)
