-- Ready, by slots, as far as a cycle has to ask: in an orderly state the older instructions that can hold another back are in slots.
use Prim.Native.Nat.{ℕ, ◌≤◌, ◌<◌}
use native.Mathlib.Omega.{arith}
use mathlib.Core.Bool.{Bool, true, false, not}
use mathlib.Core.Path.{◌≡◌, refl, ap, subst, ◌∙◌}
use borrow.Author.Tests.{ltb-true, lt-ltb, not-true}
use Rattle.machine.specs.Test.{◌and◌, ◌or◌, none}
use Rattle.machine.specs.Instruction.{Kind, Trace, instruction}
use Rattle.machine.specs.Rules.{Stage, pre, IF, ID, EX, MEM, ST, WB, post, same, Place, Places, further, short_of, no_older}
use Rattle.machine.specs.State.{slot, place_of, Orderly}
use Rattle.machine.specs.declared.State.{State}
use Rattle.machine.proofs.Connectives.{clash, Value, passed, failed, value, both_ways, and_l, and_r, and_both, and_failed_l, or_left, or_failed, or_failed_l, or_failed_r, none_at, none_below, none_same}
use Rattle.machine.proofs.Stages.{eight}
use Rattle.machine.proofs.Spots.{Spot, waiting, held, left, spot, place_held, not_waiting}
use Rattle.machine.proofs.Doing.{Does, holding, loading, storing, nothing, does}
use Rattle.machine.proofs.Hazards.{goal_of, goal, pending_to, pending, queues, detains, ready_asked, ready_detains}
use Rattle.machine.proofs.BySlots.{holds_back, held_back}

-- where no older instruction is in pre, ready is whether one is waited for
not_queuing : (k : Stage) (p : Place) → same p.stage pre ≡ false → queues k p ≡ false
unfolding queues
not_queuing pre p e = e
not_queuing IF p e = refl
not_queuing ID p e = refl
not_queuing EX p e = refl
not_queuing MEM p e = refl
not_queuing ST p e = refl
not_queuing WB p e = refl
not_queuing post p e = refl

ready_waits : (trace : Trace) (places : Places) (i : ℕ) →
    ((j : ℕ) → j < i → same (places j).stage pre ≡ false) →
    (k : Stage) →
    ready_asked trace places i k ≡ no_older trace places i (detains k (instruction trace i))
unfolding no_older
ready_waits trace places i fetched k =
    ready_detains trace places i k ∙ none_same _ _ i (λ j l. or_left _ _ (not_queuing k (places j) (fetched j l)))

-- one that has left is not pending
left_goal : {h l s : Bool} → Does h l s → pending_to (goal_of h l s) (record { stage = post; count = 0 }) ≡ false
unfolding short_of further ◌and◌ ◌or◌
left_goal holding = refl
left_goal loading = refl
left_goal storing = refl
left_goal nothing = refl

pending_left : (kind : Kind) → pending kind (record { stage = post; count = 0 }) ≡ false
unfolding pending goal
pending_left kind = left_goal (does kind)

module _ (trace : Trace) (s : State) (o : Orderly trace s) (k : Stage) (i : ℕ) where
  test : ℕ → Place → Bool
  test j p = detains k (instruction trace i) (instruction trace j) p

  -- where no older instruction is waited for, no slot holds the instruction back
  slot_waits :
      no_older trace (place_of s) i (detains k (instruction trace i)) ≡ true →
      (at : Stage) →
      Value (holds_back trace k i at (slot s at)) →
      holds_back trace k i at (slot s at) ≡ false
  unfolding no_older holds_back
  slot_waits e at (passed h) =
      let f = and_l _ _ (and_l _ _ h) in
      let l = ltb-true (slot s at).index i (and_r _ _ (and_l _ _ h)) in
      clash (and_r _ _ h) (rw (place_held trace s o at (slot s at).index f refl) at (none_at _ i e (slot s at).index l))
  slot_waits e at (failed h) = h

  no_slot : held_back trace s k i ≡ false → (at : Stage) → holds_back trace k i at (slot s at) ≡ false
  unfolding held_back holds_back
  no_slot e5 =
      let e4 = or_failed_l _ _ e5 in
      let e3 = or_failed_l _ _ e4 in
      let e2 = or_failed_l _ _ e3 in
      let e1 = or_failed_l _ _ e2 in
      eight (λ at. holds_back trace k i at (slot s at) ≡ false)
      (and_failed_l _ _ (and_failed_l _ _ refl))
      (or_failed_l _ _ e1)
      (or_failed_r _ _ e1)
      (or_failed_r _ _ e2)
      (or_failed_r _ _ e3)
      (or_failed_r _ _ e4)
      (or_failed_r _ _ e5)
      (and_failed_l _ _ (and_failed_l _ _ refl))

  not_held :
      (at : Stage) →
      (slot s at).filled ≡ true →
      (slot s at).index < i →
      holds_back trace k i at (slot s at) ≡ false →
      Value (test (slot s at).index (record { stage = at; count = (slot s at).count })) →
      test (slot s at).index (record { stage = at; count = (slot s at).count }) ≡ false
  unfolding holds_back test
  not_held at f l e (passed t) = clash (and_both _ _ (and_both _ _ f (lt-ltb (slot s at).index i l)) t) e
  not_held at f l e (failed t) = t

  spot_waits : i ≤ s.fetched → held_back trace s k i ≡ false → (j : ℕ) → j < i → {p : Place} → Spot s j p → test j p ≡ false
  unfolding test
  spot_waits h e j l (waiting w) = absurd (omega arith)
  spot_waits h e j l (held at w f d) =
      subst (λ (j : ℕ). detains k (instruction trace i) (instruction trace j) (record { stage = at; count = (slot s at).count }) ≡ false) d
      (not_held at f (omega arith) (no_slot e at) (value _))
  spot_waits h e j l (left w none) = and_failed_l _ _ (pending_left (instruction trace j).kind)

  waits_by_slots : i ≤ s.fetched → no_older trace (place_of s) i (detains k (instruction trace i)) ≡ not (held_back trace s k i)
  unfolding no_older held_back test
  waits_by_slots h = both_ways _ _ forth back
    where
      forth : none (λ j. test j (place_of s j)) i ≡ true → not (held_back trace s k i) ≡ true
      forth e =
          let at : (at : Stage) → holds_back trace k i at (slot s at) ≡ false = λ at. slot_waits e at (value _) in
          ap not (or_failed _ _ (or_failed _ _ (or_failed _ _ (or_failed _ _ (or_failed _ _ (at IF) (at ID)) (at EX)) (at MEM)) (at ST)) (at WB))

      back : not (held_back trace s k i) ≡ true → none (λ j. test j (place_of s j)) i ≡ true
      back e = none_below _ i (λ j l. spot_waits h (not-true _ e) j l (spot s j))

  -- an instruction that is fetched, or the next to be fetched, is ready, as far as a cycle has to ask, exactly when no slot holds it back
  pub ready_by_slots : i ≤ s.fetched → ready_asked trace (place_of s) i k ≡ not (held_back trace s k i)
  unfolding no_older
  ready_by_slots h = ready_waits trace (place_of s) i (λ j l. not_waiting trace s o j (omega arith)) k ∙ waits_by_slots h
