-- For each function that computes with the window, what its calls give together: one congruence for each, over plain variables.
use Prim.Native.Nat.{ℕ, ◌+◌, max}
use mathlib.Core.Bool.{Bool, cond}
use mathlib.Core.Path.{◌≡◌, ◌∙◌}
use native.Mathlib.Omega.{arith}
use Rattle.machine.specs.Instruction.{Instruction}
use Rattle.machine.specs.Rules.{IF, MEM, is_store, hits, entry, reads_in_ID, misses_data}
use Rattle.machine.specs.Hits.{with_hit}
use Rattle.machine.proofs.Window.{enter_IF, enter_ID, enter_EX, enter_MEM, enter_last}
use Rattle.record.specs.declared.layout.Fields.{Fields}
use Rattle.record.specs.Rules.{instruction_of}
use Rattle.entering.specs.Inner.{window_of}
use Rattle.entering.specs.declared.stages.Window.{Window}

-- The code first joins what is known early, so that only one sum and one choice wait for the time that is known last.
max_joins : (a b c : ℕ) → max a (max b c) ≡ max (max a b) c
max_joins a b c = omega arith

pub sum_joins : (a b c : ℕ) → a + (b + c) ≡ a + b + c
sum_joins a b c = omega arith

module _ (f : Fields) where
  abbrev i : Instruction
  i = instruction_of f

  module _ (w : Window) where
    pub IF_step
        : {waited r access : ℕ} {hit : Bool} →
        hit ≡ hits i.fetch →
        access ≡ max w.load_done w.store_done →
        waited ≡ cond hit 0 access →
        r ≡ max w.next_fetch waited →
        r ≡ enter_IF (window_of w) i
    unfolding enter_IF
    IF_step a b c d = d ∙ rw (c, b, a)

    pub ID_step : (from : ℕ) {count r : ℕ} → count ≡ entry i IF → r ≡ max (from + (count + 1)) w.EX → r ≡ enter_ID (window_of w) i from
    unfolding enter_ID
    ID_step from a b = b ∙ rw (a, sum_joins from (entry i IF) 1)

    pub EX_step
        : (from : ℕ) {free r : ℕ} {needed : Bool} →
        needed ≡ reads_in_ID i w.load_target →
        free ≡ cond needed w.last w.MEM →
        r ≡ max (from + 1) free →
        r ≡ enter_EX (window_of w) i from
    unfolding enter_EX
    EX_step from a b c = c ∙ rw (b, a)

    pub MEM_step
        : (from : ℕ) {held store r : ℕ} {missed : Bool} →
        missed ≡ misses_data i →
        store ≡ cond missed w.store_done 0 →
        held ≡ max w.last store →
        r ≡ max (from + (f.execution + 1)) held →
        r ≡ enter_MEM (window_of w) i from
    unfolding enter_MEM entry instruction_of
    MEM_step from {store = store} a b c d = d ∙ rw (c, max_joins (from + (f.execution + 1)) w.last store, sum_joins from f.execution 1, b, a)

    pub last_step
        : (from h : ℕ) {count store r : ℕ} {stores : Bool} →
        count ≡ entry (with_hit h i) MEM →
        stores ≡ is_store i.kind →
        store ≡ cond stores w.store_done 0 →
        r ≡ max (from + (count + 1)) store →
        r ≡ enter_last (window_of w) (with_hit h i) from
    unfolding enter_last
    last_step from h a b c d = d ∙ rw (a, sum_joins from (entry (with_hit h i) MEM) 1, c, b)
