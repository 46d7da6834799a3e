-- Who moves, by slots: in an orderly state the rules' "moves" and "will be free" equal those computed from the bits of the six slots and pre, stage by
-- stage from post backwards. The bits leave out a store's wait in EX for its value, which never decides.
use Prim.Native.Nat.{ℕ, ◌≤◌, ◌<◌}
use native.Mathlib.Omega.{arith}
use mathlib.Core.Bool.{Bool, true, false, not, cond}
use mathlib.Core.Path.{◌≡◌, refl, sym, ap, ap₂, subst, ◌∙◌}
use lib.Dec.{eqb}
use lib.ListN.{length}
use Rattle.machine.specs.Test.{◌and◌, ◌or◌, every}
use Rattle.machine.specs.Instruction.{Trace, instruction}
use Rattle.machine.specs.Rules.{Stage, pre, IF, ID, EX, MEM, ST, WB, post, next, same, is_store, Place, no_older, access_ready, ready_in, ready, budget, moves_within, moves, will_be_free}
use Rattle.machine.specs.State.{slot, place_of, Orderly}
use Rattle.machine.specs.declared.Slot.{Slot}
use Rattle.machine.specs.declared.State.{State}
use Rattle.machine.proofs.Connectives.{clash, Value, passed, failed, value, both_ways, and_failed_l, and_failed_r, implied, implies, or_l, true_and, every_at, every_below, none_fails}
use Rattle.machine.proofs.Stages.{same_stage, stage_same, inside}
use Rattle.machine.proofs.Spots.{held_filled, held_index, held_at, slot_fetched, place_held, place_waiting}
use Rattle.machine.proofs.Doing.{next_in, next_in_lem}
use Rattle.machine.proofs.BySlots.{standing, held_back, goes, occupied, kinds_in, free_at, moves_at_lem, free_at_lem, leaves}
use Rattle.machine.proofs.Budget.{budget_never_decides}
use Rattle.machine.proofs.Hazards.{ready_asked}
use Rattle.machine.proofs.Ready.{ready_by_slots}
use Rattle.machine.proofs.LateValue.{value_never_decides}

pub standing_slot : (trace : Trace) (s : State) (k : Stage) → inside k ≡ true → standing trace s k ≡ slot s k
unfolding standing
standing_slot trace s pre w = clash w refl
standing_slot trace s IF w = refl
standing_slot trace s ID w = refl
standing_slot trace s EX w = refl
standing_slot trace s MEM w = refl
standing_slot trace s ST w = refl
standing_slot trace s WB w = refl
standing_slot trace s post w = refl

module _ (trace : Trace) (s : State) (o : Orderly trace s) where
  pub standing_place :
      (k : Stage) →
      (standing trace s k).filled ≡ true →
      place_of s (standing trace s k).index ≡ record { stage = k; count = (standing trace s k).count }
  unfolding standing
  standing_place pre f = place_waiting trace s o s.fetched (omega arith)
  standing_place IF f = place_held trace s o IF _ f refl
  standing_place ID f = place_held trace s o ID _ f refl
  standing_place EX f = place_held trace s o EX _ f refl
  standing_place MEM f = place_held trace s o MEM _ f refl
  standing_place ST f = place_held trace s o ST _ f refl
  standing_place WB f = place_held trace s o WB _ f refl
  standing_place post f = clash f refl

  pub standing_fetched : (k : Stage) → (standing trace s k).filled ≡ true → (standing trace s k).index ≤ s.fetched
  unfolding standing
  standing_fetched pre f = omega arith
  standing_fetched IF f = let h = slot_fetched trace s o IF f in omega arith
  standing_fetched ID f = let h = slot_fetched trace s o ID f in omega arith
  standing_fetched EX f = let h = slot_fetched trace s o EX f in omega arith
  standing_fetched MEM f = let h = slot_fetched trace s o MEM f in omega arith
  standing_fetched ST f = let h = slot_fetched trace s o ST f in omega arith
  standing_fetched WB f = let h = slot_fetched trace s o WB f in omega arith
  standing_fetched post f = clash f refl

  abbrev at : Stage → ℕ
  at k = (standing trace s k).index

  abbrev free : Stage → Bool
  free k = free_at (goes trace s) (occupied trace s) (kinds_in trace s) k

  -- what the first sentence says of the instruction in a stage: in EX without its wait for a store's value, which never decides
  Said : Stage → Type 0
  Said k =
      moves trace (place_of s) (at k)
      ≡ (eqb (standing trace s k).count 0
      and ready_asked trace (place_of s) (at k) k
      and will_be_free trace (place_of s) (next (instruction trace (at k)).kind k))

  as_ready :
      (k : Stage) →
      same k post ≡ false →
      ready_asked trace (place_of s) (at k) k ≡ ready_in k trace (place_of s) (at k) →
      (standing trace s k).filled ≡ true →
      Said k
  unfolding Said ready
  as_ready k n e f =
      (budget_never_decides trace (place_of s)).moving (at k)
      ∙ ap
      (λ (p : Place).
      not (same p.stage post)
      and eqb p.count 0
      and ready_in p.stage trace (place_of s) (at k)
      and will_be_free trace (place_of s) (next (instruction trace (at k)).kind p.stage))
      (standing_place k f)
      ∙ rw (n, true_and, e)

  said : (k : Stage) → (standing trace s k).filled ≡ true → Said k
  unfolding Said ready_asked standing next_in
  said pre f = as_ready pre refl refl f
  said IF f = as_ready IF refl refl f
  said ID f = as_ready ID refl refl f
  said EX f =
      let p = standing_place EX f in
      (value_never_decides trace s o s.EX.index (ap (λ (p : Place). p.stage) p)).1
      ∙ ap₂ (λ (p : Place) (to : Stage). eqb p.count 0 and access_ready trace (place_of s) s.EX.index and will_be_free trace (place_of s) to) p
      (sym (next_in_lem (instruction trace s.EX.index).kind EX))
  said MEM f = as_ready MEM refl refl f
  said ST f = as_ready ST refl refl f
  said WB f = as_ready WB refl refl f
  said post f = clash f refl

  goes_filled :
      (k : Stage) →
      (standing trace s k).filled ≡ true →
      goes trace s k ≡ eqb (standing trace s k).count 0 and not (held_back trace s k (at k))
  unfolding goes
  goes_filled k f = rw (f, true_and)

  -- By the two sentences, from post backwards. What stands in a stage moves by the rules as by slots, if the next stage will be free alike;
  Moves : Stage → Type 0
  Moves k = (standing trace s k).filled ≡ true → moves trace (place_of s) (at k) ≡ leaves trace s k

  Frees : Stage → Type 0
  Frees k = will_be_free trace (place_of s) k ≡ free k

  moves_step : (k : Stage) → same k post ≡ false → Frees (next_in (is_store (kinds_in trace s k)) k) → Moves k
  unfolding Moves Frees Said leaves kinds_in
  moves_step k n alike f =
      said k f
      ∙ ap₂ ◌and◌
      (ap (λ (b : Bool). eqb (standing trace s k).count 0 and b) (ready_by_slots trace s o k (at k) (standing_fetched k f)) ∙ sym (goes_filled k f))
      (subst Frees (sym (next_in_lem (kinds_in trace s k) k)) alike)
      ∙ sym (moves_at_lem (goes trace s) (occupied trace s) (kinds_in trace s) k n)

  -- the test that the rules make of each instruction to see whether a stage will be free
  asks : Stage → ℕ → Bool
  asks k j = not (same (place_of s j).stage k) or moves trace (place_of s) j

  asked_filled :
      (k : Stage) →
      inside k ≡ true →
      (slot s k).filled ≡ true →
      every (asks k) (length trace) ≡ moves trace (place_of s) (slot s k).index
  unfolding asks
  asked_filled k w f = both_ways _ _ forth back
    where
      forth : every (asks k) (length trace) ≡ true → moves trace (place_of s) (slot s k).index ≡ true
      forth e =
          let h = slot_fetched trace s o k f in
          let n = o.fetched in
          implies _ _
          (every_at (asks k) (length trace) e (slot s k).index (omega arith))
          (stage_same (place_of s (slot s k).index).stage k (ap (λ (p : Place). p.stage) (place_held trace s o k (slot s k).index f refl)))

      back : moves trace (place_of s) (slot s k).index ≡ true → every (asks k) (length trace) ≡ true
      back m =
          every_below (asks k) (length trace)
          (λ j l.
          implied _ _
          (λ e.
          let h = held_at trace s o k j w (same_stage (place_of s j).stage k e) in
          subst (λ (i : ℕ). moves trace (place_of s) i ≡ true) (held_index s j k h) m))

  asked_empty : (k : Stage) → inside k ≡ true → (slot s k).filled ≡ false → every (asks k) (length trace) ≡ true
  unfolding asks
  asked_empty k w f =
      every_below (asks k) (length trace)
      (λ j l. implied _ _ (λ e. clash (held_filled s j k (held_at trace s o k j w (same_stage (place_of s j).stage k e))) f))

  -- a stage with a slot is free when the slot is empty or what it holds moves
  asked :
      (k : Stage) →
      inside k ≡ true →
      Moves k →
      Value (slot s k).filled →
      every (asks k) (length trace) ≡ not (occupied trace s k) or leaves trace s k
  unfolding Moves occupied ◌or◌
  asked k w move (passed f) =
      let q = standing_slot trace s k w in
      let g = ap (λ (r : Slot). r.filled) q ∙ f in
      asked_filled k w f
      ∙ ap (λ (r : Slot). moves trace (place_of s) r.index) (sym q)
      ∙ move g
      ∙ sym (ap (λ (full : Bool). not full or leaves trace s k) g)
  asked k w move (failed f) =
      let g = ap (λ (r : Slot). r.filled) (standing_slot trace s k w) ∙ f in
      asked_empty k w f ∙ sym (ap (λ (full : Bool). not full or leaves trace s k) g)

  -- and a stage will be free alike, if what stands there moves alike
  frees_step : (k : Stage) → inside k ≡ true → Moves k → Frees k
  unfolding Frees asks leaves
  frees_step k w move =
      (budget_never_decides trace (place_of s)).freeing k
      ∙ ap (λ (t : Bool). same k post or t) (asked k w move (value (slot s k).filled))
      ∙ sym (free_at_lem (goes trace s) (occupied trace s) (kinds_in trace s) k)

  frees_post : Frees post
  unfolding Frees
  frees_post =
      (budget_never_decides trace (place_of s)).freeing post
      ∙ or_l _ _ refl
      ∙ sym (free_at_lem (goes trace s) (occupied trace s) (kinds_in trace s) post ∙ or_l _ _ refl)

  moves_ST : Moves ST
  unfolding next_in
  moves_ST = moves_step ST refl frees_post

  moves_WB : Moves WB
  unfolding next_in
  moves_WB = moves_step WB refl frees_post

  frees_last : (store : Bool) → Frees (cond store ST WB)
  frees_last true = frees_step ST refl moves_ST
  frees_last false = frees_step WB refl moves_WB

  moves_MEM : Moves MEM
  unfolding next_in
  moves_MEM = moves_step MEM refl (frees_last (is_store (kinds_in trace s MEM)))

  moves_EX : Moves EX
  unfolding next_in
  moves_EX = moves_step EX refl (frees_step MEM refl moves_MEM)

  moves_ID : Moves ID
  unfolding next_in
  moves_ID = moves_step ID refl (frees_step EX refl moves_EX)

  moves_IF : Moves IF
  unfolding next_in
  moves_IF = moves_step IF refl (frees_step ID refl moves_ID)

  moves_pre : Moves pre
  unfolding next_in
  moves_pre = moves_step pre refl (frees_step IF refl moves_IF)

  -- the instruction in a stage moves by the rules exactly when it leaves by slots
  pub moves_by_slots : (k : Stage) → (standing trace s k).filled ≡ true → moves trace (place_of s) (standing trace s k).index ≡ leaves trace s k
  unfolding Moves standing
  moves_by_slots pre = moves_pre
  moves_by_slots IF = moves_IF
  moves_by_slots ID = moves_ID
  moves_by_slots EX = moves_EX
  moves_by_slots MEM = moves_MEM
  moves_by_slots ST = moves_ST
  moves_by_slots WB = moves_WB
  moves_by_slots post = λ f. clash f refl

  -- of those in pre only the next to be fetched may move, since for all others an older one is in pre
  behind : (i : ℕ) → s.fetched < i → ready_in pre trace (place_of s) i ≡ false
  unfolding ready_in no_older
  behind i h =
      and_failed_l _ _
      (and_failed_l _ _
      (none_fails _ i s.fetched h (ap (λ (p : Place). same p.stage pre) (place_waiting trace s o s.fetched (omega arith)))))

  pub waiting_stays : (i : ℕ) → s.fetched < i → moves trace (place_of s) i ≡ false
  unfolding moves moves_within budget ready
  waiting_stays i h =
      let p = ap (λ (p : Place). p.stage) (place_waiting trace s o i (omega arith)) in
      ap (λ (k : Stage). moves_within (budget k) trace (place_of s) i) p
      ∙ and_failed_l _ _ (and_failed_r _ _ (ap (λ (k : Stage). ready_in k trace (place_of s) i) p ∙ behind i h))

  pub left_stays : (i : ℕ) → (place_of s i).stage ≡ post → moves trace (place_of s) i ≡ false
  unfolding moves budget moves_within
  left_stays i p = ap (λ (k : Stage). moves_within (budget k) trace (place_of s) i) p
