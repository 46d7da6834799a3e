-- Who moves in a cycle by slots is not a matter of the cycles that a data hit takes: these are counts on entry, and a cycle asks for the counts that
-- its state has. Nor is it a matter of a state's order.
use Prim.Native.Nat.{ℕ}
use mathlib.Core.Path.{◌≡◌, refl, sym, ap, ◌∙◌}
use Rattle.machine.specs.Instruction.{Instruction, Trace, instruction}
use Rattle.machine.specs.Rules.{Stage, pre, IF, ID, EX, MEM, ST, WB, post, reads_in_ID, misses_data}
use Rattle.machine.specs.Hits.{with_hit, with_hits}
use Rattle.machine.specs.declared.Slot.{Slot}
use Rattle.machine.specs.declared.State.{State}
use Rattle.machine.proofs.Hazards.{asks_for, waits_for}
use Rattle.machine.proofs.BySlots.{standing, holds_back, held_back, goes, occupied, kinds_in, moves_at, leaves, arrives_in, arrives}
use Rattle.machine.proofs.Hits.{length_hits, instruction_hits}

asks_alike : (h : ℕ) (k : Stage) (i j : Instruction) → asks_for k (with_hit h i) (with_hit h j) ≡ asks_for k i j
unfolding asks_for waits_for reads_in_ID misses_data
asks_alike h pre i j = refl
asks_alike h IF i j = refl
asks_alike h ID i j = refl
asks_alike h EX i j = refl
asks_alike h MEM i j = refl
asks_alike h ST i j = refl
asks_alike h WB i j = refl
asks_alike h post i j = refl

-- an instruction that is read from a record, in the trace
pub timed_read : (h : ℕ) (trace : Trace) (k : ℕ) {i : Instruction} → i ≡ instruction trace k → with_hit h i ≡ instruction (with_hits h trace) k
timed_read h trace k e = ap (with_hit h) e ∙ sym (instruction_hits h trace k)

module _ (h : ℕ) (trace : Trace) (s : State) where
  pub kind_alike : (k : ℕ) → (instruction (with_hits h trace) k).kind ≡ (instruction trace k).kind
  kind_alike k = ap (λ (i : Instruction). i.kind) (instruction_hits h trace k)

  holds_alike : (at : Stage) (i : ℕ) (k : Stage) (held : Slot) → holds_back (with_hits h trace) at i k held ≡ holds_back trace at i k held
  unfolding holds_back
  holds_alike at i k held =
      rw (instruction_hits h trace i, instruction_hits h trace held.index, asks_alike h at (instruction trace i) (instruction trace held.index))

  held_alike : (at : Stage) (i : ℕ) → held_back (with_hits h trace) s at i ≡ held_back trace s at i
  unfolding held_back
  held_alike at i =
      rw (
        holds_alike at i IF s.IF,
        holds_alike at i ID s.ID,
        holds_alike at i EX s.EX,
        holds_alike at i MEM s.MEM,
        holds_alike at i ST s.ST,
        holds_alike at i WB s.WB,
      )

  standing_alike : (k : Stage) → standing (with_hits h trace) s k ≡ standing trace s k
  unfolding standing
  standing_alike pre = rw (length_hits h trace)
  standing_alike IF = refl
  standing_alike ID = refl
  standing_alike EX = refl
  standing_alike MEM = refl
  standing_alike ST = refl
  standing_alike WB = refl
  standing_alike post = refl

  pub goes_alike : goes (with_hits h trace) s ≡ goes trace s
  unfolding goes
  goes_alike = λ t k. at k t
    where
      at : (k : Stage) → goes (with_hits h trace) s k ≡ goes trace s k
      at k = rw (standing_alike k, held_alike k (standing trace s k).index)

  occupied_alike : occupied (with_hits h trace) s ≡ occupied trace s
  unfolding occupied
  occupied_alike = λ t k. ap (λ (held : Slot). held.filled) (standing_alike k) t

  kinds_alike : kinds_in (with_hits h trace) s ≡ kinds_in trace s
  unfolding kinds_in
  kinds_alike = λ t k. at k t
    where
      at : (k : Stage) → kinds_in (with_hits h trace) s k ≡ kinds_in trace s k
      at k = ap (λ (held : Slot). (instruction (with_hits h trace) held.index).kind) (standing_alike k) ∙ kind_alike (standing trace s k).index

  pub leaves_alike : leaves (with_hits h trace) s ≡ leaves trace s
  unfolding leaves
  leaves_alike = λ t k. moves_at (goes_alike t) (occupied_alike t) (kinds_alike t) k

  pub arrives_alike : arrives (with_hits h trace) s ≡ arrives trace s
  unfolding arrives
  arrives_alike = λ t k. arrives_in (leaves_alike t) (kinds_alike t) k
