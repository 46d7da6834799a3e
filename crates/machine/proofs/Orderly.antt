-- The test of orderly states is equivalent to the definition, conjunct by conjunct; the starting state is orderly.
use Prim.Native.Nat.{ℕ, ◌+◌, ◌≤◌, zero-le}
use mathlib.Core.Bool.{Bool, true, false, not, cond}
use mathlib.Core.Path.{◌≡◌, refl, ap, ap₂}
use lib.Dec.{leb, eqb}
use lib.ListN.{length}
use borrow.Author.Tests.{leb-true, ltb-true, eqb-true, le-leb, lt-ltb, eq-eqb, not-true}
use Rattle.machine.specs.Test.{◌and◌, ◌or◌}
use Rattle.machine.specs.Instruction.{Trace, instruction}
use Rattle.machine.specs.Rules.{Stage, pre, IF, ID, EX, MEM, ST, WB, post, entry}
use Rattle.machine.specs.State.{empty_slot, start, slot, younger, InTurn, Counted, Orderly, orderly}
use Rattle.machine.specs.Claims.{OrderlyIsTested, StartIsOrderly}
use Rattle.machine.specs.declared.Slot.{Slot}
use Rattle.machine.specs.declared.State.{State}
use Rattle.machine.proofs.Connectives.{clash, and_l, and_r, and_both, implied, implies}
use Rattle.machine.proofs.Stages.{eight}

-- the test of one slot: its count, or that it is empty
abbrev counted_in : Slot → ℕ → Bool
counted_in slot most = cond slot.filled (leb slot.count most) (eqb slot.index 0 and eqb slot.count 0)

-- that test is the definition's
count_tested :
    (f : Bool) (i c most : ℕ) →
    (f ≡ true → c ≤ most) →
    (f ≡ false → ◌≡◌ {A = Slot} (record { filled = f; index = i; count = c }) empty_slot) →
    cond f (leb c most) (eqb i 0 and eqb c 0) ≡ true
count_tested true i c most within empty = le-leb c most (within refl)
count_tested false i c most within empty =
    and_both _ _ (eq-eqb i 0 (ap (λ (r : Slot). r.index) (empty refl))) (eq-eqb c 0 (ap (λ (r : Slot). r.count) (empty refl)))

count_within : (f : Bool) (i c most : ℕ) → cond f (leb c most) (eqb i 0 and eqb c 0) ≡ true → f ≡ true → c ≤ most
count_within true i c most e t = leb-true c most e
count_within false i c most e t = clash t refl

count_empty :
    (f : Bool) (i c most : ℕ) →
    cond f (leb c most) (eqb i 0 and eqb c 0) ≡ true →
    f ≡ false →
    ◌≡◌ {A = Slot} (record { filled = f; index = i; count = c }) empty_slot
count_empty true i c most e t = clash refl t
count_empty false i c most e t =
    ap₂ (λ (i c : ℕ). record { filled = false; index = i; count = c }) (eqb-true i 0 (and_l _ _ e)) (eqb-true c 0 (and_r _ _ e))

module _ (trace : Trace) (s : State) where
  turn_tested : (k : Stage) → InTurn s k → not (slot s k).filled or eqb ((slot s k).index + younger s k + 1) s.fetched ≡ true
  turn_tested k t = implied _ _ (λ f. eq-eqb ((slot s k).index + younger s k + 1) s.fetched (t.index f))

  turn_holds : (k : Stage) → not (slot s k).filled or eqb ((slot s k).index + younger s k + 1) s.fetched ≡ true → InTurn s k
  turn_holds k e = record { index = λ f. eqb-true ((slot s k).index + younger s k + 1) s.fetched (implies _ _ e f) }

  counted_tested :
      (k : Stage) →
      Counted trace s k →
      counted_in (slot s k) (entry (instruction trace (slot s k).index) k) ≡ true
  counted_tested k c = count_tested (slot s k).filled (slot s k).index (slot s k).count _ c.within c.empty

  counted_holds :
      (k : Stage) →
      counted_in (slot s k) (entry (instruction trace (slot s k).index) k) ≡ true →
      Counted trace s k
  counted_holds k e =
      record {
        within = count_within (slot s k).filled (slot s k).index (slot s k).count _ e;
        empty = count_empty (slot s k).filled (slot s k).index (slot s k).count _ e;
      }

  tested : Orderly trace s → orderly trace s ≡ true
  unfolding orderly
  tested o =
      and_both _ _
      (and_both _ _
      (and_both _ _
      (and_both _ _
      (and_both _ _
      (and_both _ _
      (and_both _ _
      (and_both _ _
      (and_both _ _
      (and_both _ _
      (and_both _ _
      (and_both _ _
      (and_both _ _
      (and_both _ _ (le-leb s.fetched (length trace) o.fetched) (turn_tested IF o.in_IF))
      (turn_tested ID o.in_ID))
      (turn_tested EX o.in_EX))
      (turn_tested MEM o.in_MEM))
      (turn_tested WB o.in_WB))
      (implied _ _ (λ f. ap not (o.no_store f))))
      (implied _ _ (λ f. lt-ltb (s.ST.index + younger s ST) s.fetched (o.in_ST f))))
      (implied _ _ o.a_store))
      (counted_tested IF (o.counted IF)))
      (counted_tested ID (o.counted ID)))
      (counted_tested EX (o.counted EX)))
      (counted_tested MEM (o.counted MEM)))
      (counted_tested ST (o.counted ST)))
      (counted_tested WB (o.counted WB))

  none_counted : (k : Stage) → slot s k ≡ empty_slot → Counted trace s k
  none_counted k e = record { within = λ f. clash f (ap (λ (r : Slot). r.filled) e); empty = λ f. e }

  holding : orderly trace s ≡ true → Orderly trace s
  unfolding orderly
  holding e14 =
      let e13 = and_l _ _ e14 in
      let e12 = and_l _ _ e13 in
      let e11 = and_l _ _ e12 in
      let e10 = and_l _ _ e11 in
      let e9 = and_l _ _ e10 in
      let e8 = and_l _ _ e9 in
      let e7 = and_l _ _ e8 in
      let e6 = and_l _ _ e7 in
      let e5 = and_l _ _ e6 in
      let e4 = and_l _ _ e5 in
      let e3 = and_l _ _ e4 in
      let e2 = and_l _ _ e3 in
      let e1 = and_l _ _ e2 in
      record {
        fetched = leb-true s.fetched (length trace) (and_l _ _ e1);
        in_IF = turn_holds IF (and_r _ _ e1);
        in_ID = turn_holds ID (and_r _ _ e2);
        in_EX = turn_holds EX (and_r _ _ e3);
        in_MEM = turn_holds MEM (and_r _ _ e4);
        in_WB = turn_holds WB (and_r _ _ e5);
        no_store = λ f. not-true _ (implies _ _ (and_r _ _ e6) f);
        in_ST = λ f. ltb-true (s.ST.index + younger s ST) s.fetched (implies _ _ (and_r _ _ e7) f);
        a_store = implies _ _ (and_r _ _ e8);
        counted =
            eight (Counted trace s)
            (none_counted pre refl)
            (counted_holds IF (and_r _ _ e9))
            (counted_holds ID (and_r _ _ e10))
            (counted_holds EX (and_r _ _ e11))
            (counted_holds MEM (and_r _ _ e12))
            (counted_holds ST (and_r _ _ e13))
            (counted_holds WB (and_r _ _ e14))
            (none_counted post refl);
      }

pub orderly_is_tested : OrderlyIsTested
orderly_is_tested trace s = (tested trace s, holding trace s)

pub start_is_orderly : StartIsOrderly
start_is_orderly trace =
    record {
      fetched = zero-le;
      in_IF = record { index = λ f. clash f refl };
      in_ID = record { index = λ f. clash f refl };
      in_EX = record { index = λ f. clash f refl };
      in_MEM = record { index = λ f. clash f refl };
      in_WB = record { index = λ f. clash f refl };
      no_store = λ f. clash f refl;
      in_ST = λ f. clash f refl;
      a_store = λ f. clash f refl;
      counted =
          eight (Counted trace start)
          (none_counted trace start pre refl)
          (none_counted trace start IF refl)
          (none_counted trace start ID refl)
          (none_counted trace start EX refl)
          (none_counted trace start MEM refl)
          (none_counted trace start ST refl)
          (none_counted trace start WB refl)
          (none_counted trace start post refl);
    }
