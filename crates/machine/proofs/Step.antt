-- One cycle by slots is one cycle of the rules on an orderly state: each slot afterwards gives its instruction the place that the rules give
-- it, and every instruction that the rules leave in a stage with a slot is in that slot. So a cycle keeps a state orderly.
use Prim.Native.Nat.{ℕ, ◌-◌, ◌≤◌, ◌<◌}
use native.Mathlib.Omega.{arith}
use mathlib.Core.Bool.{Bool, true, false, not}
use mathlib.Core.Path.{◌≡◌, refl, sym, ap, subst, ◌∙◌}
use lib.ListN.{length}
use borrow.Author.Tests.{lt-ltb, eq-eqb}
use Rattle.machine.specs.Instruction.{Kind, Trace, instruction}
use Rattle.machine.specs.Rules.{Stage, pre, IF, ID, EX, MEM, ST, WB, post, next, same, is_store, Place, Places, entry, moves, cycle}
use Rattle.machine.specs.State.{slot, holds, place_of, state_of, Orderly}
use Rattle.machine.specs.Claims.{CycleKeepsOrderly, CycleGivesPlaces}
use Rattle.machine.specs.declared.Slot.{Slot}
use Rattle.machine.specs.declared.State.{State}
use Rattle.machine.proofs.Numbers.{Tri, less, equal, more, tri}
use Rattle.machine.proofs.Connectives.{clash, Value, passed, failed, value, and_l, and_r, and_both}
use Rattle.machine.proofs.Stages.{stage_same, inside}
use Rattle.machine.proofs.Places.{state_agrees}
use Rattle.machine.proofs.Spots.{Spot, waiting, held, left, spot, slot_inside, place_waiting, places_give_state}
use Rattle.machine.proofs.Doing.{next_in, next_in_lem}
use Rattle.machine.proofs.BySlots.{standing, kinds_in, leaves, stage_before, takes, arrives, new_slot, step_by_slots}
use Rattle.machine.proofs.Moving.{standing_slot, standing_place, moves_by_slots, waiting_stays, left_stays}
use Rattle.machine.proofs.Flow.{After, came, stayed, vacant, after_cycle, takes_next, leaves_filled, arrives_free, bit, fetched_after}
use Rattle.machine.proofs.StepOrderly.{step_keeps_orderly}

-- where a stage leads: to a stage with a slot, which it comes before, or to post
data Leads (k to : Stage) : Type 0 where
  into : inside to ≡ true → stage_before to ≡ k → Leads k to
  out : to ≡ post → Leads k to

leads : (lane : Bool) (k : Stage) → Leads k (next_in lane k)
unfolding next_in stage_before
leads lane pre = into refl refl
leads lane IF = into refl refl
leads lane ID = into refl refl
leads lane EX = into refl refl
leads true MEM = into refl refl
leads false MEM = into refl refl
leads lane ST = out refl
leads lane WB = out refl
leads lane post = out refl

onward : (kind : Kind) (k : Stage) → Leads k (next kind k)
onward kind k = subst (Leads k) (sym (next_in_lem kind k)) (leads (is_store kind) k)

-- a stage takes what leads to it
taken : (kinds : Stage → Kind) (k : Stage) → stage_before (next (kinds k) k) ≡ k → takes kinds (next (kinds k) k) ≡ true
taken kinds k b =
    ap (λ (j : Stage). same (next (kinds j) j) (next (kinds k) k)) b ∙ stage_same (next (kinds k) k) (next (kinds k) k) refl

-- the place of an instruction that has just entered a stage, and the place, one cycle on, of one that stays
abbrev entering : Trace → ℕ → Stage → Place
entering trace i to = record { stage = to; count = entry (instruction trace i) to }

abbrev staying : Place → Place
staying p = record { stage = p.stage; count = p.count - 1 }

-- the rules' cycle, for one that moves and one that stays
module _ (trace : Trace) (places : Places) (i : ℕ) where
  cycle_moves : moves trace places i ≡ true → cycle trace places i ≡ entering trace i (next (instruction trace i).kind (places i).stage)
  unfolding cycle
  cycle_moves e = rw e

  cycle_stays : moves trace places i ≡ false → cycle trace places i ≡ staying (places i)
  unfolding cycle
  cycle_stays e = rw e

module _ (trace : Trace) (s : State) (o : Orderly trace s) where
  -- what the rules do to the instruction that stands in a stage
  goes_on :
      (k : Stage) →
      leaves trace s k ≡ true →
      cycle trace (place_of s) (standing trace s k).index
      ≡ entering trace (standing trace s k).index (next (kinds_in trace s k) k)
  unfolding kinds_in
  goes_on k l =
      let f = leaves_filled trace s k l in
      cycle_moves trace (place_of s) _ (moves_by_slots trace s o k f ∙ l)
      ∙ ap (entering trace (standing trace s k).index)
      (ap (λ (p : Place). next (instruction trace (standing trace s k).index).kind p.stage) (standing_place trace s o k f))

  stays_on :
      (k : Stage) →
      (standing trace s k).filled ≡ true →
      leaves trace s k ≡ false →
      cycle trace (place_of s) (standing trace s k).index ≡ record { stage = k; count = (standing trace s k).count - 1 }
  stays_on k f l =
      cycle_stays trace (place_of s) _ (moves_by_slots trace s o k f ∙ l)
      ∙ ap staying (standing_place trace s o k f)

  -- each slot afterwards has the place that the rules give its instruction
  slot_place :
      (k : Stage) →
      inside k ≡ true →
      {new : Slot} →
      After trace s k new →
      new.filled ≡ true →
      cycle trace (place_of s) new.index ≡ record { stage = k; count = new.count }
  unfolding arrives
  slot_place k w (came a) f =
      goes_on (stage_before k) (and_l _ _ a)
      ∙ ap (entering trace (standing trace s (stage_before k)).index) (takes_next (kinds_in trace s) k (and_r _ _ a))
  slot_place k w (stayed a g l) f =
      let q = standing_slot trace s k w in
      subst (λ (r : Slot). cycle trace (place_of s) r.index ≡ record { stage = k; count = r.count - 1 }) q
      (stays_on k (ap (λ (r : Slot). r.filled) q ∙ g) l)
  slot_place k w (vacant a e) f = clash f refl

  -- what stays in a slot or comes into it is in it afterwards
  stays_in :
      (k : Stage) →
      inside k ≡ true →
      (slot s k).filled ≡ true →
      leaves trace s k ≡ false →
      {new : Slot} →
      After trace s k new →
      holds new (slot s k).index ≡ true
  unfolding holds
  stays_in k w f l (came a) = clash (arrives_free trace s k w a f) l
  stays_in k w f l (stayed a g m) = and_both _ _ refl (eq-eqb (slot s k).index (slot s k).index refl)
  stays_in k w f l (vacant a e) = clash (and_both _ _ f (ap not l)) e

  comes_in : (k : Stage) → arrives trace s k ≡ true → {new : Slot} → After trace s k new → holds new (standing trace s (stage_before k)).index ≡ true
  unfolding holds
  comes_in k a (came b) = and_both _ _ refl (eq-eqb (standing trace s (stage_before k)).index (standing trace s (stage_before k)).index refl)
  comes_in k a (stayed b g m) = clash a b
  comes_in k a (vacant b e) = clash a b

  slot_after_lem : (k : Stage) → inside k ≡ true → slot (step_by_slots trace s) k ≡ new_slot trace s k
  unfolding step_by_slots
  slot_after_lem pre w = clash w refl
  slot_after_lem IF w = refl
  slot_after_lem ID w = refl
  slot_after_lem EX w = refl
  slot_after_lem MEM w = refl
  slot_after_lem ST w = refl
  slot_after_lem WB w = refl
  slot_after_lem post w = clash w refl

  -- an instruction that stood in a stage and is in no slot afterwards has gone to post
  gone :
      (k : Stage) →
      (standing trace s k).filled ≡ true →
      (leaves trace s k ≡ false → inside k ≡ true) →
      ((to : Stage) → holds (slot (step_by_slots trace s) to) (standing trace s k).index ≡ false) →
      Value (leaves trace s k) →
      Leads k (next (kinds_in trace s k) k) →
      cycle trace (place_of s) (standing trace s k).index ≡ record { stage = post; count = 0 }
  unfolding arrives entry
  gone k f stay none (passed l) (into w b) =
      let to = next (kinds_in trace s k) k in
      clash
      (subst (λ (k : Stage). holds (new_slot trace s to) (standing trace s k).index ≡ true) b
      (comes_in to (and_both _ _ (subst (λ (k : Stage). leaves trace s k ≡ true) (sym b) l) (taken (kinds_in trace s) k b)) (after_cycle trace s to)))
      (subst (λ (r : Slot). holds r (standing trace s k).index ≡ false) (slot_after_lem to w) (none to))
  gone k f stay none (passed l) (out e) =
      goes_on k l ∙ ap (entering trace (standing trace s k).index) e
  gone k f stay none (failed l) onward =
      let q = standing_slot trace s k (stay l) in
      clash
      (stays_in k (stay l) (ap (λ (r : Slot). r.filled) (sym q) ∙ f) l (after_cycle trace s k))
      (subst (λ (i : ℕ). holds (new_slot trace s k) i ≡ false) (ap (λ (r : Slot). r.index) q)
      (subst (λ (r : Slot). holds r (standing trace s k).index ≡ false) (slot_after_lem k (stay l)) (none k)))

  -- Each instruction's place afterwards: in pre, in a slot, or in post.
  in_pre_lem :
      (i : ℕ) →
      i < length trace →
      (step_by_slots trace s).fetched ≤ i →
      Tri s.fetched i →
      Value (leaves trace s pre) →
      cycle trace (place_of s) i ≡ record { stage = pre; count = 0 }
  unfolding standing
  in_pre_lem i h w (less l) v =
      cycle_stays trace (place_of s) i (waiting_stays trace s o i l) ∙ ap staying (place_waiting trace s o i (omega arith))
  in_pre_lem i h w (equal e) (passed l) = let all = fetched_after trace s in let one = ap bit l in absurd (omega arith)
  in_pre_lem i h w (equal e) (failed l) =
      subst (λ (i : ℕ). cycle trace (place_of s) i ≡ record { stage = pre; count = 0 }) e
      (stays_on pre (lt-ltb s.fetched (length trace) (omega arith)) l)
  in_pre_lem i h w (more l) v = let all = fetched_after trace s in absurd (omega arith)

  in_post_from :
      (i : ℕ) (k : Stage) →
      (standing trace s k).index ≡ i →
      (standing trace s k).filled ≡ true →
      (leaves trace s k ≡ false → inside k ≡ true) →
      ((to : Stage) → holds (slot (step_by_slots trace s) to) i ≡ false) →
      cycle trace (place_of s) i ≡ record { stage = post; count = 0 }
  in_post_from i k e f stay none =
      subst (λ (i : ℕ). cycle trace (place_of s) i ≡ record { stage = post; count = 0 }) e
      (gone k f stay
      (λ to. subst (λ (i : ℕ). holds (slot (step_by_slots trace s) to) i ≡ false) (sym e) (none to))
      (value (leaves trace s k))
      (onward (kinds_in trace s k) k))

  in_post :
      (i : ℕ) →
      i < length trace →
      i < (step_by_slots trace s).fetched →
      ((to : Stage) → holds (slot (step_by_slots trace s) to) i ≡ false) →
      {p : Place} →
      place_of s i ≡ p →
      Spot s i p →
      Value (leaves trace s pre) →
      cycle trace (place_of s) i ≡ record { stage = post; count = 0 }
  unfolding standing
  in_post i h w none e (waiting l) (passed m) =
      let all = fetched_after trace s in
      let one = ap bit m in
      in_post_from i pre (omega arith) (lt-ltb s.fetched (length trace) (omega arith)) (λ n. clash m n) none
  in_post i h w none e (waiting l) (failed m) = let all = fetched_after trace s in let off = ap bit m in absurd (omega arith)
  in_post i h w none e (held k l f d) v =
      let in-slot = slot_inside s k f in
      let q = standing_slot trace s k in-slot in
      in_post_from i k (ap (λ (r : Slot). r.index) q ∙ d) (ap (λ (r : Slot). r.filled) q ∙ f) (λ n. in-slot) none
  in_post i h w none e (left l off) v =
      cycle_stays trace (place_of s) i (left_stays trace s o i (ap (λ (p : Place). p.stage) e))
      ∙ ap staying e

  cycle_places : (i : ℕ) → i < length trace → {p : Place} → Spot (step_by_slots trace s) i p → p ≡ cycle trace (place_of s) i
  cycle_places i h (waiting w) = sym (in_pre_lem i h w (tri s.fetched i) (value (leaves trace s pre)))
  cycle_places i h (held k w f d) =
      let in-slot = slot_inside (step_by_slots trace s) k f in
      let a = subst (After trace s k) (sym (slot_after_lem k in-slot)) (after_cycle trace s k) in
      sym (slot_place k in-slot a f) ∙ ap (cycle trace (place_of s)) d
  cycle_places i h (left w none) = sym (in_post i h w none refl (spot s i) (value (leaves trace s pre)))

  pub step_places : (i : ℕ) → i < length trace → place_of (step_by_slots trace s) i ≡ cycle trace (place_of s) i
  step_places i h = cycle_places i h (spot (step_by_slots trace s) i)

pub step_by_slots_lem : (trace : Trace) (s : State) → Orderly trace s → step_by_slots trace s ≡ state_of trace (cycle trace (place_of s))
step_by_slots_lem trace s o =
    sym (places_give_state trace (step_by_slots trace s) (step_keeps_orderly trace s o))
    ∙ state_agrees (place_of (step_by_slots trace s)) (cycle trace (place_of s)) trace (step_places trace s o)

pub cycle_keeps_orderly : CycleKeepsOrderly
cycle_keeps_orderly trace s o = subst (Orderly trace) (step_by_slots_lem trace s o) (step_keeps_orderly trace s o)

pub cycle_gives_places : CycleGivesPlaces
cycle_gives_places trace s o i h = ap (λ (s : State). place_of s i) (sym (step_by_slots_lem trace s o)) ∙ step_places trace s o i h
