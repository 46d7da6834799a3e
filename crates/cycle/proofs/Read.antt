-- Who moves, and where to, is a matter of the kinds of those that could move: the kinds that are read of empty slots matter to nobody.
use Prim.Native.Nat.{ℕ, zero, suc}
use mathlib.Core.Bool.{Bool, true, not}
use mathlib.Core.Path.{◌≡◌, refl, sym, ap, ◌∙◌}
use Rattle.machine.specs.Test.{◌and◌, ◌or◌}
use Rattle.machine.specs.Instruction.{Kind, Instruction, Trace}
use Rattle.machine.specs.Rules.{Stage, pre, IF, ID, EX, MEM, ST, WB, post, next, same, budget}
use Rattle.machine.specs.declared.State.{State}
use Rattle.machine.proofs.Connectives.{Value, passed, failed, value, clash, and_failed_l}
use Rattle.machine.proofs.BySlots.{standing, kinds_in, moves_in, free_in, moves_at}
use Rattle.standing.specs.Inner.{Reads}
use Rattle.record.specs.declared.layout.Fields.{Fields}
use Rattle.stages.specs.declared.Stages.{Stages}
use Rattle.cycle.specs.Inner.{kind_read}

module _ (going full : Stage → Bool) (kinds other : Stage → Kind) (agree : (k : Stage) → going k ≡ true → kinds k ≡ other k) where
  step :
      (b : ℕ) →
      ((k : Stage) → free_in b going full kinds k ≡ free_in b going full other k) →
      (k : Stage) →
      Value (going k) →
      moves_in (suc b) going full kinds k ≡ moves_in (suc b) going full other k
  unfolding moves_in
  step b free k (passed g) =
      ap (λ (t : Bool). going k and t) (ap (λ (kind : Kind). free_in b going full kinds (next kind k)) (agree k g) ∙ free (next (other k) k))
  step b free k (failed g) = and_failed_l _ _ g ∙ sym (and_failed_l _ _ g)

  alike :
      (b : ℕ) →
      ((k : Stage) → moves_in b going full kinds k ≡ moves_in b going full other k)
      × ((k : Stage) → free_in b going full kinds k ≡ free_in b going full other k)
  unfolding moves_in
  alike zero = (λ k. refl, λ k. refl)
  alike (suc b) = (
    λ k. step b (alike b).1 k (value (going k)),
    λ k. ap (λ (m : Bool). same k post or (not (full k) or m)) ((alike b).0 k),
  )

  pub moves_alike : (k : Stage) → moves_at going full kinds k ≡ moves_at going full other k
  unfolding moves_at
  moves_alike k = (alike (budget k)).0 k

-- of what stands in a stage the kind is read
pub read_kind : {trace : Trace} {s : State} {w : Stages Fields} → Reads trace s w → (k : Stage) → (standing trace s k).filled ≡ true → kind_read w k ≡ kinds_in trace s k
unfolding kinds_in standing
read_kind h pre f = ap (λ (i : Instruction). i.kind) h.pre
read_kind h IF f = ap (λ (i : Instruction). i.kind) (h.IF f)
read_kind h ID f = ap (λ (i : Instruction). i.kind) (h.ID f)
read_kind h EX f = ap (λ (i : Instruction). i.kind) (h.EX f)
read_kind h MEM f = ap (λ (i : Instruction). i.kind) h.MEM
read_kind h ST f = ap (λ (i : Instruction). i.kind) (h.ST f)
read_kind h WB f = ap (λ (i : Instruction). i.kind) (h.WB f)
read_kind h post f = clash f refl
