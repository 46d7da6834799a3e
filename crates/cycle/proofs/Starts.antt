-- Who moves is found from `starts`: an instruction whose next slot cannot become free does not move anyway. Where no instruction starts, none
-- moves.
use Prim.Native.Nat.{suc}
use mathlib.Core.Bool.{Bool, true, false, not, cond, ◌||◌}
use mathlib.Core.Path.{◌≡◌, refl, sym, ap, ap₂, fun_ext, ◌∙◌}
use Rattle.machine.specs.Test.{◌and◌, ◌or◌}
use Rattle.machine.specs.Instruction.{Kind, Trace, instruction}
use Rattle.machine.specs.Rules.{Stage, pre, IF, ID, EX, MEM, ST, WB, post, next, same, is_store, budget, entry}
use Rattle.machine.specs.State.{slot}
use Rattle.machine.specs.declared.State.{State}
use Rattle.machine.proofs.Connectives.{Value, passed, failed, value, clash, and_l, and_r, and_failed_l, or_l, or_r, or_else, not_passes}
use Rattle.machine.proofs.Doing.{next_in, next_in_lem}
use Rattle.machine.proofs.BySlots.{standing, goes, occupied, kinds_in, moves_in, moves_at, free_at, moves_at_lem, free_at_lem, stage_before, arrives_in, arrives, leaves, slot_after, new_slot, step_by_slots}
use Rattle.machine.proofs.Flow.{leaves_post}
use Rattle.machine.proofs.Masks.{goes_post, occupied_post}
use Rattle.moving.proofs.Seven.{bits_kept}
use Rattle.moving.specs.Inner.{Bits}
use Rattle.moving.specs.Inner.{bits_of, bit_of}
use Rattle.starting.specs.Inner.{opens, opens_after, starts}
use Rattle.cycle.specs.Inner.{stays, standstill}
use Rattle.decode.proofs.Joined.{and_under}
use Rattle.cycle.proofs.Read.{moves_alike}
use Rattle.cycle.proofs.Slots.{leaves_filled, state_is}

-- a test that another implies may be left out
implied : (g o f : Bool) → (f ≡ true → o ≡ true) → (g and o and f) ≡ (g and f)
unfolding ◌and◌
implied true true f h = refl
implied true false true h = clash (h refl) refl
implied true false false h = refl
implied false o f h = refl

not_true : {b : Bool} → b ≡ true → not b ≡ false
not_true e = ap not e

module _ (trace : Trace) (s : State) where
  abbrev moving : (Stage → Bool) → Stage → Bool
  moving going k = moves_at going (occupied trace s) (kinds_in trace s) k

  abbrev free : (Stage → Bool) → Stage → Bool
  free going k = free_at going (occupied trace s) (kinds_in trace s) k

  -- a slot that will be free is empty, or the count of what it holds is 0
  opened : (k : Stage) → same k post ≡ false → free (goes trace s) k ≡ true → opens (standing trace s k) ≡ true
  unfolding goes occupied
  opened k n e = by (value (standing trace s k).filled)
    where
      by : Value (standing trace s k).filled → opens (standing trace s k) ≡ true
      by (failed t) = or_l _ _ (not_passes _ t)
      by (passed t) =
          let m = or_else _ _ (or_else _ _ (sym (free_at_lem (goes trace s) (occupied trace s) (kinds_in trace s) k) ∙ e) n) (not_true t) in
          or_r _ _ (and_r _ _ (and_l _ _ (and_l _ _ (sym (moves_at_lem (goes trace s) (occupied trace s) (kinds_in trace s) k n) ∙ m))))

  free_same : (k : Stage) → moving (starts trace s) k ≡ moving (goes trace s) k → free (starts trace s) k ≡ free (goes trace s) k
  free_same k e =
      free_at_lem (starts trace s) (occupied trace s) (kinds_in trace s) k
      ∙ ap (λ (m : Bool). same k post or (not (occupied trace s k) or m)) e
      ∙ sym (free_at_lem (goes trace s) (occupied trace s) (kinds_in trace s) k)

  moves_same
      : (k : Stage) →
      same k post ≡ false →
      free (starts trace s) (next_in (is_store (kinds_in trace s k)) k) ≡ free (goes trace s) (next_in (is_store (kinds_in trace s k)) k) →
      (free (goes trace s) (next_in (is_store (kinds_in trace s k)) k) ≡ true → opens_after s k ≡ true) →
      moving (starts trace s) k ≡ moving (goes trace s) k
  moves_same k n f o =
      let lane = next_in_lem (kinds_in trace s k) k in
      moves_at_lem (starts trace s) (occupied trace s) (kinds_in trace s) k n
      ∙ ap (λ (b : Bool). starts trace s k and b) (ap (free (starts trace s)) lane ∙ f)
      ∙ implied (goes trace s k) (opens_after s k) _ o
      ∙ ap (λ (to : Stage). goes trace s k and free (goes trace s) to) (sym lane)
      ∙ sym (moves_at_lem (goes trace s) (occupied trace s) (kinds_in trace s) k n)

  from_post : moving (starts trace s) post ≡ moving (goes trace s) post
  unfolding moves_at moves_in budget
  from_post = refl

  from_ST : moving (starts trace s) ST ≡ moving (goes trace s) ST
  unfolding next_in
  from_ST = moves_same ST refl (free_same post from_post) (λ _. refl)

  from_WB : moving (starts trace s) WB ≡ moving (goes trace s) WB
  unfolding next_in
  from_WB = moves_same WB refl (free_same post from_post) (λ _. refl)

  into_last : (store : Bool) → free (starts trace s) (cond store ST WB) ≡ free (goes trace s) (cond store ST WB)
  into_last true = free_same ST from_ST
  into_last false = free_same WB from_WB

  from_MEM : moving (starts trace s) MEM ≡ moving (goes trace s) MEM
  unfolding next_in
  from_MEM = moves_same MEM refl (into_last (is_store (kinds_in trace s MEM))) (λ _. refl)

  from_EX : moving (starts trace s) EX ≡ moving (goes trace s) EX
  unfolding next_in standing
  from_EX = moves_same EX refl (free_same MEM from_MEM) (opened MEM refl)

  from_ID : moving (starts trace s) ID ≡ moving (goes trace s) ID
  unfolding next_in standing
  from_ID = moves_same ID refl (free_same EX from_EX) (opened EX refl)

  from_IF : moving (starts trace s) IF ≡ moving (goes trace s) IF
  unfolding next_in standing
  from_IF = moves_same IF refl (free_same ID from_ID) (opened ID refl)

  from_pre : moving (starts trace s) pre ≡ moving (goes trace s) pre
  unfolding next_in standing
  from_pre = moves_same pre refl (free_same IF from_IF) (opened IF refl)

  by_starts : (k : Stage) → moving (starts trace s) k ≡ leaves trace s k
  unfolding leaves
  by_starts pre = from_pre
  by_starts IF = from_IF
  by_starts ID = from_ID
  by_starts EX = from_EX
  by_starts MEM = from_MEM
  by_starts ST = from_ST
  by_starts WB = from_WB
  by_starts post = from_post

  starts_filled : (k : Stage) → starts trace s k ≡ true → (standing trace s k).filled ≡ true
  unfolding goes
  starts_filled k e = and_l _ _ (and_l _ _ (and_l _ _ e))

  -- for kinds that are those of all that stand in the stages
  module _ {kinds : Stage → Kind} (read : (k : Stage) → (standing trace s k).filled ≡ true → kinds k ≡ kinds_in trace s k) where
    pub leaving_is
        : {going full : Bits} →
        going ≡ bits_of (starts trace s) →
        full ≡ bits_of (occupied trace s) →
        bits_of (moves_at (bit_of going) (bit_of full) kinds) ≡ bits_of (leaves trace s)
    leaving_is g f =
        ap bits_of
        (fun_ext λ k.
        (λ i. moves_at (bit_of (g i)) (bit_of (f i)) kinds k)
        ∙ ap₂ (λ (going full : Stage → Bool). moves_at going full kinds k)
        (fun_ext (bits_kept (starts trace s) (and_failed_l _ _ (goes_post trace s))))
        (fun_ext (bits_kept (occupied trace s) (occupied_post trace s)))
        ∙ moves_alike (starts trace s) (occupied trace s) kinds (kinds_in trace s) (λ j e. read j (starts_filled j e)) k
        ∙ by_starts k)

    comes : (k : Stage) → same (stage_before k) post ≡ false → arrives_in (leaves trace s) kinds k ≡ arrives trace s k
    unfolding arrives
    comes k n =
        and_under (leaves trace s (stage_before k))
        (λ l. ap (λ (kind : Kind). same (next kind (stage_before k)) k) (read (stage_before k) (leaves_filled trace s (stage_before k) n l)))

    pub arriving_is : {moving : Bits} → moving ≡ bits_of (leaves trace s) → bits_of (arrives_in (bit_of moving) kinds) ≡ bits_of (arrives trace s)
    unfolding arrives stage_before
    arriving_is m =
        (λ i. bits_of (arrives_in (bit_of (m i)) kinds))
        ∙ (λ i.
        record {
          pre = none i;
          IF = comes IF refl i;
          ID = comes ID refl i;
          EX = comes EX refl i;
          MEM = comes MEM refl i;
          ST = comes ST refl i;
          WB = comes WB refl i;
        })
      where
        none : arrives_in (bit_of (bits_of (leaves trace s))) kinds pre ≡ arrives trace s pre
        none = and_failed_l _ _ refl ∙ sym (and_failed_l _ _ (leaves_post trace s))

  module _ (idle : (k : Stage) → starts trace s k ≡ false) where
    nobody_leaves : (k : Stage) → same k post ≡ false → leaves trace s k ≡ false
    nobody_leaves k n =
        sym (by_starts k) ∙ moves_at_lem (starts trace s) (occupied trace s) (kinds_in trace s) k n ∙ and_failed_l _ _ (idle k)

    slot_stays : (k : Stage) → leaves trace s (stage_before k) ≡ false → leaves trace s k ≡ false → stays (slot s k) ≡ new_slot trace s k
    unfolding new_slot slot_after arrives
    slot_stays k b l =
        let coming = (standing trace s (stage_before k)).index in
        let a = and_failed_l _ _ b in
        λ i. slot_after (sym a i) coming (entry (instruction trace coming) k) (sym l i) (slot s k)

    pub standstill_is : standstill s ≡ step_by_slots trace s
    unfolding stage_before
    standstill_is =
        state_is trace s
        (ap (λ (b : Bool). cond b (suc s.fetched) s.fetched) (sym (nobody_leaves pre refl)))
        (slot_stays IF (nobody_leaves pre refl) (nobody_leaves IF refl))
        (slot_stays ID (nobody_leaves IF refl) (nobody_leaves ID refl))
        (slot_stays EX (nobody_leaves ID refl) (nobody_leaves EX refl))
        (slot_stays MEM (nobody_leaves EX refl) (nobody_leaves MEM refl))
        (slot_stays ST (nobody_leaves MEM refl) (nobody_leaves ST refl))
        (slot_stays WB (nobody_leaves MEM refl) (nobody_leaves WB refl))

-- no bit is set
neither : (a b : Bool) → (a || b) ≡ false → (a ≡ false) × (b ≡ false)
neither true b e = clash refl e
neither false b e = (refl, e)

unset : (b : Bool) → not b ≡ true → b ≡ false
unset true e = clash e refl
unset false e = refl

abbrev AllUnset : Bits → Type 0
AllUnset b =
    (b.pre ≡ false) × (b.IF ≡ false) × (b.ID ≡ false) × (b.EX ≡ false) × (b.MEM ≡ false) × (b.ST ≡ false) × (b.WB ≡ false)

all_unset : (b : Bits) → (b.pre || b.IF || b.ID || b.EX || b.MEM || b.ST || b.WB) ≡ false → AllUnset b
all_unset b h =
    let six = neither _ b.WB h in
    let five = neither _ b.ST six.0 in
    let four = neither _ b.MEM five.0 in
    let three = neither _ b.EX four.0 in
    let two = neither _ b.ID three.0 in
    let one = neither b.pre b.IF two.0 in
    (one.0, one.1, two.1, three.1, four.1, five.1, six.1)

module _ (f : Stage → Bool) (last : f post ≡ false) {b : Bits} (e : b ≡ bits_of f) where
  bit_unset : AllUnset b → (k : Stage) → f k ≡ false
  bit_unset u pre = ap (λ (c : Bits). c.pre) (sym e) ∙ u.0
  bit_unset u IF = ap (λ (c : Bits). c.IF) (sym e) ∙ u.1
  bit_unset u ID = ap (λ (c : Bits). c.ID) (sym e) ∙ u.2
  bit_unset u EX = ap (λ (c : Bits). c.EX) (sym e) ∙ u.3
  bit_unset u MEM = ap (λ (c : Bits). c.MEM) (sym e) ∙ u.4
  bit_unset u ST = ap (λ (c : Bits). c.ST) (sym e) ∙ u.5
  bit_unset u WB = ap (λ (c : Bits). c.WB) (sym e) ∙ u.6
  bit_unset u post = last

  pub none_set : not (b.pre || b.IF || b.ID || b.EX || b.MEM || b.ST || b.WB) ≡ true → (k : Stage) → f k ≡ false
  none_set h = bit_unset (all_unset b (unset _ h))
