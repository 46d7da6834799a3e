-- Where an instruction is in a state: in pre, held by one slot, or in post. In an orderly state no two slots hold the same instruction, since of
-- two filled slots the one further on holds the older; so slots and places determine each other.
use Prim.Native.Nat.{ℕ, zero, suc, ◌+◌, ◌≤◌, ◌<◌}
use native.Mathlib.Omega.{arith}
use native.Mathlib.Decide.{le_ind}
use mathlib.Core.Bool.{Bool, true, false, cond}
use mathlib.Core.Path.{◌≡◌, refl, sym, ap, ap₂, subst, ◌∙◌}
use lib.Dec.{leb, eqb}
use lib.ListN.{length}
use borrow.Author.Tests.{leb-true, leb-false, le-leb, eqb-true, eq-eqb}
use Rattle.machine.specs.Test.{◌and◌}
use Rattle.machine.specs.Instruction.{Trace, instruction}
use Rattle.machine.specs.Rules.{Stage, pre, IF, ID, EX, MEM, ST, WB, post, rank, same, Place, is_store}
use Rattle.machine.specs.State.{empty_slot, slot, holds, place_of, state_of, occupant_below, younger, Orderly}
use Rattle.machine.specs.Claims.{PlacesGiveState, PlacesTellStates}
use Rattle.machine.specs.declared.State.{State}
use Rattle.machine.proofs.Numbers.{Tri, less, equal, more, tri}
use Rattle.machine.proofs.Connectives.{clash, Value, passed, failed, value, and_l, and_r, and_both}
use Rattle.machine.proofs.Stages.{stage_at, eight, same_stage, inside, inside_rank, inside_not_pre}
use Rattle.machine.proofs.Places.{fetched_is, occupant_none, occupant_is, state_agrees}

pub data Spot (s : State) (i : ℕ) : Place → Type 0 where
  waiting : s.fetched ≤ i → Spot s i (record { stage = pre; count = 0 })
  held : (k : Stage) → i < s.fetched → (slot s k).filled ≡ true → (slot s k).index ≡ i → Spot s i (record { stage = k; count = (slot s k).count })
  left : i < s.fetched → ((k : Stage) → holds (slot s k) i ≡ false) → Spot s i (record { stage = post; count = 0 })

module _ (s : State) (i : ℕ) where
  pub held_filled : (k : Stage) → holds (slot s k) i ≡ true → (slot s k).filled ≡ true
  unfolding holds
  held_filled k e = and_l _ _ e

  pub held_index : (k : Stage) → holds (slot s k) i ≡ true → (slot s k).index ≡ i
  unfolding holds
  held_index k e = eqb-true (slot s k).index i (and_r _ _ e)

  pub held_both : (k : Stage) → (slot s k).filled ≡ true → (slot s k).index ≡ i → holds (slot s k) i ≡ true
  unfolding holds
  held_both k f e = and_both _ _ f (eq-eqb (slot s k).index i e)

  -- one slot of several: if it holds i, it gives i's place; if not, the others do
  look :
      (k : Stage) (other : Place) →
      i < s.fetched →
      Value (holds (slot s k) i) →
      (holds (slot s k) i ≡ false → Spot s i other) →
      Spot s i (cond (holds (slot s k) i) (record { stage = k; count = (slot s k).count }) other)
  look k other h (passed e) rest = rw e (held k h (held_filled k e) (held_index k e))
  look k other h (failed e) rest = rw e (rest e)

  none_held : (k : Stage) → slot s k ≡ empty_slot → holds (slot s k) i ≡ false
  unfolding holds ◌and◌
  none_held k e = rw e

  pub spot : Spot s i (place_of s i)
  unfolding place_of
  spot = by (value (leb s.fetched i))
    where
      at : (k : Stage) → Value (holds (slot s k) i)
      at k = value (holds (slot s k) i)

      by : Value (leb s.fetched i) → Spot s i (place_of s i)
      by (passed e) = rw e (waiting (leb-true s.fetched i e))
      by (failed e) =
          let l = leb-false s.fetched i e in
          rw e
          (look IF _ l (at IF) (λ a.
          look ID _ l (at ID) (λ b.
          look EX _ l (at EX) (λ c.
          look MEM _ l (at MEM) (λ d.
          look ST _ l (at ST) (λ e.
          look WB _ l (at WB) (λ f.
          left l (eight (λ k. holds (slot s k) i ≡ false) (none_held pre refl) a b c d e f (none_held post refl)))))))))

-- the number of filled slots whose stages have a smaller rank, as a sum that grows with the rank
younger_at : State → ℕ → ℕ
younger_at s zero = 0
younger_at s (suc r) = younger_at s r + cond (slot s (stage_at r)).filled 1 0

younger_grows : (s : State) (a b : ℕ) → a ≤ b → younger_at s a ≤ younger_at s b
unfolding younger_at
younger_grows s a b h = le_ind (λ b. younger_at s a ≤ younger_at s b) (omega arith) (λ b l r. omega arith) b h

-- the stage of a rank, for a store or any other kind
stage_of : ℕ → Bool → Stage
stage_of r store = cond (eqb r 5) (cond store ST WB) (stage_at r)

pub slot_inside : (s : State) (k : Stage) → (slot s k).filled ≡ true → inside k ≡ true
slot_inside s =
    eight (λ k. (slot s k).filled ≡ true → inside k ≡ true) (λ f. f) (λ f. refl) (λ f. refl) (λ f. refl) (λ f. refl) (λ f. refl) (λ f. refl) (λ f. f)

module _ (trace : Trace) (s : State) (o : Orderly trace s) where
  -- a slot of IF to MEM or WB holds the youngest that no slot before it holds, a slot of ST an older one
  turn : (k : Stage) → (slot s k).filled ≡ true → rank k < 5 → (slot s k).index + younger_at s (rank k) + 1 ≡ s.fetched
  unfolding younger younger_at
  turn pre f h = clash f refl
  turn IF f h = let e = o.in_IF.index f in omega arith
  turn ID f h = let e = o.in_ID.index f in omega arith
  turn EX f h = let e = o.in_EX.index f in omega arith
  turn MEM f h = let e = o.in_MEM.index f in omega arith
  turn ST f h = absurd (omega arith)
  turn WB f h = absurd (omega arith)
  turn post f h = clash f refl

  under : (k : Stage) → (slot s k).filled ≡ true → (slot s k).index + younger_at s (rank k) < s.fetched
  unfolding younger younger_at
  under pre f = clash f refl
  under IF f = let e = o.in_IF.index f in omega arith
  under ID f = let e = o.in_ID.index f in omega arith
  under EX f = let e = o.in_EX.index f in omega arith
  under MEM f = let e = o.in_MEM.index f in omega arith
  under ST f = let e = o.in_ST f in omega arith
  under WB f = let e = o.in_WB.index f in omega arith
  under post f = clash f refl

  pub slot_fetched : (k : Stage) → (slot s k).filled ≡ true → (slot s k).index < s.fetched
  slot_fetched k f = let h = under k f in omega arith

  -- a filled slot at a rank below 5 adds one for the ranks above it
  counts : (k : Stage) → (slot s k).filled ≡ true → rank k < 5 → younger_at s (suc (rank k)) ≡ younger_at s (rank k) + 1
  unfolding younger_at
  counts pre f h = clash f refl
  counts IF f h = rw f
  counts ID f h = rw f
  counts EX f h = rw f
  counts MEM f h = rw f
  counts ST f h = absurd (omega arith)
  counts WB f h = absurd (omega arith)
  counts post f h = clash f refl

  -- the further slot holds the older instruction
  pub further_older : (a b : Stage) → (slot s a).filled ≡ true → (slot s b).filled ≡ true → rank a < rank b → (slot s b).index < (slot s a).index
  further_older a b f g h =
      let last = inside_rank b (slot_inside s b g) in
      let below = under b g in
      let here = turn a f (omega arith) in
      let one = counts a f (omega arith) in
      let grows = younger_grows s (suc (rank a)) (rank b) h in
      omega arith

  -- ST and WB have the same rank, and are told apart by the kind of what they hold
  told : (k : Stage) → (slot s k).filled ≡ true → stage_of (rank k) (is_store (instruction trace (slot s k).index).kind) ≡ k
  unfolding stage_of
  told pre f = refl
  told IF f = refl
  told ID f = refl
  told EX f = refl
  told MEM f = refl
  told ST f = rw (o.a_store f)
  told WB f = rw (o.no_store f)
  told post f = clash f refl

  pub one_slot : (a b : Stage) → (slot s a).filled ≡ true → (slot s b).filled ≡ true → (slot s a).index ≡ (slot s b).index → a ≡ b
  one_slot a b f g e = by (tri (rank a) (rank b))
    where
      by : Tri (rank a) (rank b) → a ≡ b
      by (less l) = let h = further_older a b f g l in absurd (omega arith)
      by (equal r) =
          sym (told a f) ∙ ap₂ (λ (r i : ℕ). stage_of r (is_store (instruction trace i).kind)) r e ∙ told b g
      by (more l) = let h = further_older b a g f l in absurd (omega arith)

  -- a filled slot gives its instruction its place
  pub place_held : (k : Stage) (i : ℕ) → (slot s k).filled ≡ true → (slot s k).index ≡ i → place_of s i ≡ record { stage = k; count = (slot s k).count }
  place_held k i f e = by (spot s i)
    where
      by : {p : Place} → Spot s i p → p ≡ record { stage = k; count = (slot s k).count }
      by (waiting h) = let l = slot_fetched k f in absurd (omega arith)
      by (held j h g d) = ap (λ (k : Stage). record { stage = k; count = (slot s k).count }) (one_slot j k g f (d ∙ sym e))
      by (left h none) = clash (held_both s i k f e) (none k)

  -- and conversely an instruction that stands in a stage with a slot is the one in it
  pub held_at : (k : Stage) (i : ℕ) → inside k ≡ true → (place_of s i).stage ≡ k → holds (slot s k) i ≡ true
  held_at k i w = by (spot s i)
    where
      by : {p : Place} → Spot s i p → p.stage ≡ k → holds (slot s k) i ≡ true
      by (waiting h) e = clash w (ap inside (sym e))
      by (held j h f d) e = held_both s i k (subst (λ (k : Stage). (slot s k).filled ≡ true) e f) (subst (λ (k : Stage). (slot s k).index ≡ i) e d)
      by (left h none) e = clash w (ap inside (sym e))

  pub place_waiting : (i : ℕ) → s.fetched ≤ i → place_of s i ≡ record { stage = pre; count = 0 }
  unfolding place_of
  place_waiting i h = rw (le-leb s.fetched i h)

  pub not_waiting : (i : ℕ) → i < s.fetched → same (place_of s i).stage pre ≡ false
  not_waiting i h = by (spot s i)
    where
      by : {p : Place} → Spot s i p → same p.stage pre ≡ false
      by (waiting l) = absurd (omega arith)
      by (held k l f e) = inside_not_pre k (slot_inside s k f)
      by (left l none) = refl

  slot_given : (k : Stage) → inside k ≡ true → occupant_below (place_of s) k (length trace) ≡ slot s k
  slot_given k w = by (value (slot s k).filled)
    where
      i : ℕ
      i = (slot s k).index

      only : (j : ℕ) → (place_of s j).stage ≡ k → j ≡ i
      only j e = sym (held_index s j k (held_at k j w e))

      elsewhere : (slot s k).filled ≡ false → (j : ℕ) → Value (same (place_of s j).stage k) → same (place_of s j).stage k ≡ false
      elsewhere f j (passed e) = clash (held_filled s j k (held_at k j w (same_stage (place_of s j).stage k e))) f
      elsewhere f j (failed e) = e

      by : Value (slot s k).filled → occupant_below (place_of s) k (length trace) ≡ slot s k
      by (passed f) =
          let p = place_held k i f refl in
          let h = slot_fetched k f in
          let n = o.fetched in
          occupant_is (place_of s) k i (ap (λ (p : Place). p.stage) p) only (length trace) (omega arith)
          ∙ ap₂ (λ (f : Bool) (c : ℕ). record { filled = f; index = i; count = c }) (sym f) (ap (λ (p : Place). p.count) p)
      by (failed f) =
          occupant_none (place_of s) k (length trace) (λ j h. elsewhere f j (value (same (place_of s j).stage k)))
          ∙ sym ((o.counted k).empty f)

  given : state_of trace (place_of s) ≡ s
  unfolding state_of
  given =
      λ t.
      record {
        fetched =
            fetched_is (place_of s) (length trace) s.fetched o.fetched not_waiting
            (λ j h l. ap (λ (p : Place). same p.stage pre) (place_waiting j h))
            t;
        IF = slot_given IF refl t;
        ID = slot_given ID refl t;
        EX = slot_given EX refl t;
        MEM = slot_given MEM refl t;
        ST = slot_given ST refl t;
        WB = slot_given WB refl t;
      }

pub places_give_state : PlacesGiveState
places_give_state = given

pub places_tell_states : PlacesTellStates
places_tell_states trace a b o q e = sym (given trace a o) ∙ state_agrees (place_of a) (place_of b) trace e ∙ given trace b q
