-- Who could move: where no instruction waits for another, none is held back.
use Prim.Native.Nat.{ℕ}
use mathlib.Core.Bool.{Bool, true, false, not, ◌||◌}
use mathlib.Core.Path.{◌≡◌, refl, sym, ap, ◌∙◌}
use lib.Dec.{ltb}
use Rattle.machine.specs.Test.{◌and◌}
use Rattle.machine.specs.Instruction.{Instruction, Trace, instruction}
use Rattle.machine.specs.Rules.{Stage, IF, ID, EX, MEM, ST, WB}
use Rattle.machine.specs.declared.Slot.{Slot}
use Rattle.machine.specs.declared.State.{State}
use Rattle.machine.proofs.Connectives.{Value, passed, failed, value, and_failed_l, and_failed_r, and_true, or_failed}
use Rattle.machine.proofs.BySlots.{holds_back, held_back}
use Rattle.machine.proofs.Hazards.{pending, asks_for}
use Rattle.record.specs.declared.layout.Fields.{Fields}
use Rattle.record.specs.Rules.{instruction_of}
use Rattle.starting.specs.Inner.{pending_slot}
use Rattle.decode.proofs.Joined.{either_of, and_under}

pub is_pending
    : (trace : Trace) (k : Stage) (held : Slot) (f : Fields) {r : Bool} →
    (held.filled ≡ true → instruction_of f ≡ instruction trace held.index) →
    r ≡ (held.filled and pending (instruction_of f).kind (record { stage = k; count = held.count })) →
    r ≡ pending_slot trace k held
unfolding instruction_of
is_pending trace k held f e q =
    q ∙ and_under held.filled λ t. ap (λ (j : Instruction). pending j.kind (record { stage = k; count = held.count })) (e t)

-- what a slot holds keeps another back if it is pending, older and waited for
reorder : (a b c d : Bool) → (a and b and c and d) ≡ (a and c and (b and d))
unfolding ◌and◌
reorder true true c d = refl
reorder true false true d = refl
reorder true false false d = refl
reorder false b c d = refl

pub holds
    : (trace : Trace) (at : Stage) (i : ℕ) (k : Stage) (held : Slot) {pending r : Bool} {this that : Instruction} →
    this ≡ instruction trace i →
    (held.filled ≡ true → that ≡ instruction trace held.index) →
    pending ≡ pending_slot trace k held →
    r ≡ (pending and ltb held.index i and asks_for at this that) →
    r ≡ holds_back trace at i k held
unfolding holds_back
holds trace at i k held {pending} {r} {this} {that} e f p q = by (value held.filled)
  where
    by : Value held.filled → r ≡ holds_back trace at i k held
    by (passed t) = q ∙ rw (e, f t, p) (reorder _ _ _ _)
    by (failed t) = q ∙ and_failed_l _ _ (and_failed_l _ _ (p ∙ and_failed_l _ _ t)) ∙ sym (and_failed_l _ _ (and_failed_l _ _ t))

-- the six slots' answers joined
pub held_by
    : (trace : Trace) (s : State) (at : Stage) (i : ℕ) {a b c d e f : Bool} →
    a ≡ holds_back trace at i IF s.IF →
    b ≡ holds_back trace at i ID s.ID →
    c ≡ holds_back trace at i EX s.EX →
    d ≡ holds_back trace at i MEM s.MEM →
    e ≡ holds_back trace at i ST s.ST →
    f ≡ holds_back trace at i WB s.WB →
    (a || b || c || d || e || f) ≡ held_back trace s at i
unfolding held_back
held_by trace s at i p q r t u v = either_of (either_of (either_of (either_of (either_of p q) r) t) u) v

-- the stages where nothing waits
abbrev pub never : Stage → Type 0
never at = (i j : Instruction) → asks_for at i j ≡ false

module _ (trace : Trace) (s : State) (at : Stage) (i : ℕ) (free : never at) where
  holds_none : (k : Stage) (held : Slot) → holds_back trace at i k held ≡ false
  unfolding holds_back
  holds_none k held = and_failed_r _ _ (and_failed_r _ _ (free _ _))

  held_never : held_back trace s at i ≡ false
  unfolding held_back
  held_never =
      or_failed _ _
      (or_failed _ _
      (or_failed _ _ (or_failed _ _ (or_failed _ _ (holds_none IF s.IF) (holds_none ID s.ID)) (holds_none EX s.EX)) (holds_none MEM s.MEM))
      (holds_none ST s.ST))
      (holds_none WB s.WB)

  -- a stage in which nothing waits
  pub goes_free : (a : Bool) → a ≡ (a and not (held_back trace s at i))
  goes_free a = sym (ap (λ (b : Bool). a and not b) held_never ∙ and_true a)
