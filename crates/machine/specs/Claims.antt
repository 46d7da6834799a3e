-- What is shown of the rules, as named types. `proofs/` has a term of each. The sentences are document 01's and, where it says so, the order's
-- (docs/CLAIMS.md has its three demands) or document 02's.
use Rattle.std.specs.Prelude.{ℕ, ◌+◌, ◌≤◌, ◌<◌, Bool, true, false, not, cond, List, [], ◌∷◌, ◌++◌, map, ◌↔◌, ◌≡◌, T, eqb, length}
use Rattle.machine.specs.Test.{◌and◌, ◌or◌, every}
use Rattle.machine.specs.Instruction.{Kind, hit, miss, Trace, instruction}
use Rattle.machine.specs.Rules.{Stage, pre, IF, ID, EX, MEM, ST, WB, post, next, same, is_store, Places, further, entry, access_ready, value_ready, ready, moves, will_be_free, cycle, after, all_left}
use Rattle.machine.specs.Time.{bound, finish, Settling, Delayed, Known, settle, best, worst}
use Rattle.machine.specs.Hits.{with_hits, HitsTake}
use Rattle.machine.specs.Before.{entry_before, cycle_before, after_before, finish_before}
use Rattle.machine.specs.Jumps.{as_branches}
use Rattle.machine.specs.Order.{Slower, SameFlags, added}
use Rattle.machine.specs.Bus.{bus_time, Access, UnderWay}
use Rattle.machine.specs.Cases.{cases, further as furtherCases, value_loaded, nothing_loaded, late_values, store_and_load, hit_cases, jump_and_plain, jumps, cases_hold, case_D, rows, chart_of_D, chart_of_value, chart_of_hits, chart_of_jump}
use Rattle.machine.specs.State.{start, place_of, state_of, Orderly, orderly}
use Rattle.machine.specs.declared.State.{State}

-- "A to L are collected as data and proved by one result about the rules."
abbrev pub CasesHold : Type 0
CasesHold = T (cases_hold cases)

-- and what A to L do not show, the same way
abbrev pub FurtherHold : Type 0
FurtherHold = T (cases_hold furtherCases)

-- and what document 02, F-3, amends
abbrev pub LateValuesHold : Type 0
LateValuesHold = T (cases_hold late_values)

-- and what document 02, F-4, amends
abbrev pub HitCasesHold : Type 0
HitCasesHold = T (cases_hold hit_cases)

-- and what document 02, F-6, amends
abbrev pub JumpsHold : Type 0
JumpsHold = T (cases_hold jumps)

-- D's chart, row by row, that of F-3's example with a latency of 2, that of F-4's store hit and load hit with h = 2, and that of F-6's jump with an
-- execution latency of 1
abbrev pub ChartHolds : Type 0
ChartHolds = rows case_D 9 ≡ chart_of_D

abbrev pub ValueChartHolds : Type 0
ValueChartHolds = rows (value_loaded 2) 10 ≡ chart_of_value

abbrev pub HitChartHolds : Type 0
HitChartHolds = rows (with_hits 2 store_and_load) 10 ≡ chart_of_hits

abbrev pub JumpChartHolds : Type 0
JumpChartHolds = rows (jump_and_plain 1) 11 ≡ chart_of_jump

-- "Stages run pre, IF, ID, EX, MEM, then ST for a store or WB for any other kind, then post.": the way of a kind
abbrev pub way : Kind → List Stage
way kind = pre ∷ IF ∷ ID ∷ EX ∷ MEM ∷ cond (is_store kind) ST WB ∷ post ∷ []

-- Document 02, F-5: "For each stage that a kind passes before post it is shown to be document 01's": with the next of each stage in its place, the way
-- is one stage on. "an instruction in post stays there"
abbrev pub NextOnTheWay : Type 0
NextOnTheWay = (kind : Kind) → pre ∷ map (next kind) (way kind) ≡ way kind ++ post ∷ []

-- `moves`, a test of instructions, and `will_be_free`, a test of stages, satisfy document 01's two sentences as equations: each is given by the other,
-- and no budget is named.
pub record KeepsSentences (trace : Trace) (places : Places) (moves : ℕ → Bool) (will_be_free : Stage → Bool) : Type 0 where
  -- "An instruction moves when its count is 0, it is ready and its next stage will be free. [..] an instruction in post stays there."
  pub moving :
      (i : ℕ) →
      moves i
      ≡ (not (same (places i).stage post)
      and eqb (places i).count 0
      and ready trace places i
      and will_be_free (next (instruction trace i).kind (places i).stage))
  -- "A stage will be free when it is empty or its occupant moves in this cycle; the occupant moves only if its own next stage will be free;
  -- post is always free." Every instruction that stands there is an occupant; only where the places are not those of a run can there be several.
  pub freeing : (s : Stage) → will_be_free s ≡ (same s post or every (λ j. not (same (places j).stage s) or moves j) (length trace))

-- The budget of `moves_within` and `will_be_free_within` never decides: wherever the instructions stand, the rules' tests satisfy the sentences,
abbrev pub BudgetNeverDecides : Type 0
BudgetNeverDecides = (trace : Trace) (places : Places) → KeepsSentences trace places (moves trace places) (will_be_free trace places)

-- and no other tests do, so that the sentences alone say who moves.
abbrev pub SentencesDecide : Type 0
SentencesDecide =
    (trace : Trace) (places : Places) (moving : ℕ → Bool) (free : Stage → Bool) →
    KeepsSentences trace places moving free →
    ((i : ℕ) → moving i ≡ moves trace places i) × ((s : Stage) → free s ≡ will_be_free trace places s)

-- Document 02, F-3, has a store wait in EX for its second source. That wait never decides anything, since an older load short of (MEM, 0) keeps MEM
-- busy: where the value is not ready, MEM will not be free, so that the rest of EX's rule says who moves. Of every orderly state, as are all that a
-- run goes through.
abbrev pub ValueNeverDecides : Type 0
ValueNeverDecides =
    (trace : Trace) (s : State) →
    Orderly trace s →
    (i : ℕ) →
    (place_of s i).stage ≡ EX →
    (value_ready trace (place_of s) i ≡ false → will_be_free trace (place_of s) MEM ≡ false)
    × (moves trace (place_of s) i ≡ (eqb (place_of s i).count 0 and access_ready trace (place_of s) i and will_be_free trace (place_of s) MEM))

-- There is such a wait. In F-3's example with a latency of 2 the store is ready in ID after three cycles; in EX it is not after four and five, where
-- the load is at (MEM, 2) and (MEM, 1), and is after six. Where both have register 0 it is ready throughout.
abbrev pub ValueWaits : Type 0
ValueWaits =
    (map (λ t. ready (value_loaded 2) (after (value_loaded 2) t) 1) (3 ∷ 4 ∷ 5 ∷ 6 ∷ []) ≡ true ∷ false ∷ false ∷ true ∷ [])
    × (map (λ t. ready (nothing_loaded 2) (after (nothing_loaded 2) t) 1) (3 ∷ 4 ∷ 5 ∷ 6 ∷ []) ≡ true ∷ true ∷ true ∷ true ∷ [])

-- demand 2: "the finishing time is the least number of cycles after which all have left": after it all have, and after no fewer
abbrev pub FinishIsLeast : Type 0
FinishIsLeast =
    (trace : Trace) →
    (all_left trace (after trace (finish trace)) ≡ true) × ((t : ℕ) → t < finish trace → all_left trace (after trace t) ≡ false)

-- "It is at most the sum over all instructions of 6 plus the three latencies", "with h in place of the data latency on hits"
abbrev pub FinishBounded : Type 0
FinishBounded = (trace : Trace) → finish trace ≤ bound trace

-- demand 3: "after every number of cycles from the start, no instruction is further on in the second than in the first, so the second never
-- finishes earlier." Document 02, F-4: "meant for one h throughout and for traces that 17 does not decline with it".
abbrev pub Ordered : Type 0
Ordered =
    (h : ℕ) (first second : Trace) → HitsTake h first → HitsTake h second →
    Slower first second →
    ((t i : ℕ) → i < length first → further (after second t i) (after first t i) ≡ false) × (finish first ≤ finish second)

-- demand 3: "Where only latencies differ, it finishes later by at most the sum of what was added."
abbrev pub AddedAtMost : Type 0
AddedAtMost =
    (h : ℕ) (first second : Trace) →
    HitsTake h first →
    HitsTake h second →
    Slower first second →
    SameFlags first second →
    finish second ≤ finish first + added first second

-- demand 3: "no settling of them finishes later than the worst time given or earlier than the best time given, and each of these two is the
-- finishing time of some settling."
abbrev pub SettlingsEnclosed : Type 0
SettlingsEnclosed =
    (h : ℕ) (trace : Trace) →
    HitsTake h trace →
    ((settling : Trace) → Settling trace settling → (best trace ≤ finish settling) × (finish settling ≤ worst trace))
    × Settling trace (settle hit trace)
    × Settling trace (settle miss trace)

-- "a trace without unknown flags is its own only settling"
abbrev pub OnlySettling : Type 0
OnlySettling =
    (trace settling : Trace) →
    Settling trace settling →
    ((k : ℕ) → k < length trace → Known (instruction trace k)) →
    settling ≡ trace

-- document 02, F-4: "With h = 0 every chart is as before". Where data hits take no cycles the counts on entry are document 01's, by which states are
-- judged, and so are a cycle from wherever the instructions stand, the places after every number of cycles and the finishing time.
pub record AsBefore (trace : Trace) : Type 0 where
  pub counts : (i : ℕ) (s : Stage) → entry (instruction trace i) s ≡ entry_before (instruction trace i) s
  pub cycles : (places : Places) (i : ℕ) → cycle trace places i ≡ cycle_before trace places i
  pub places : (t i : ℕ) → after trace t i ≡ after_before trace t i
  pub time : finish trace ≡ finish_before trace

abbrev pub ZeroIsBefore : Type 0
ZeroIsBefore = (trace : Trace) → AsBefore (with_hits 0 trace)

-- document 02, F-6: "It holds back later fetches as a branch does, until it stands at (EX, 0), and goes on through WB." Of every trace: with branches in
-- place of its jumps, and no target in place of theirs, every instruction stands where it does with the jumps, a cycle on from wherever the
-- instructions stand and after every number of cycles; the same states are orderly; and the times are the same, that on a shared bus among them. So
-- nobody waits for what a jump writes.
pub record TimedAsBranches (trace : Trace) : Type 0 where
  pub cycles : (places : Places) (i : ℕ) → cycle (as_branches trace) places i ≡ cycle trace places i
  pub places : (t i : ℕ) → after (as_branches trace) t i ≡ after trace t i
  pub states : (s : State) → orderly (as_branches trace) s ≡ orderly trace s
  pub time : finish (as_branches trace) ≡ finish trace
  pub best : best (as_branches trace) ≡ best trace
  pub worst : worst (as_branches trace) ≡ worst trace
  pub on_bus : (longest : ℕ) → bus_time (as_branches trace) longest ≡ bus_time trace longest

abbrev pub JumpsAsBranches : Type 0
JumpsAsBranches = (trace : Trace) → TimedAsBranches trace

-- document 02, F-1: "It must hold for every settling of the flags and every added wait from 0 to d on each missed access."
abbrev pub DelayedNoLater : Type 0
DelayedNoLater =
    (h : ℕ) (trace settling version : Trace) (longest : ℕ) →
    HitsTake h trace →
    Settling trace settling →
    Delayed longest settling version →
    finish version ≤ bus_time trace longest

-- document 02, F-1: "from the start, at most one of these is under way after any cycle": two accesses that are under way are the same access of the
-- same instruction.
abbrev pub OneUnderWay : Type 0
OneUnderWay =
    (trace : Trace) (t i j : ℕ) (a b : Access) →
    i < length trace →
    j < length trace →
    UnderWay (instruction trace i) (after trace t i) a →
    UnderWay (instruction trace j) (after trace t j) b →
    (i ≡ j) × (a ≡ b)

-- The test of orderly states is equivalent to the definition.
abbrev pub OrderlyIsTested : Type 0
OrderlyIsTested = (trace : Trace) (s : State) → Orderly trace s ↔ (orderly trace s ≡ true)

abbrev pub StartIsOrderly : Type 0
StartIsOrderly = (trace : Trace) → Orderly trace start

-- One cycle keeps a state orderly.
abbrev pub CycleKeepsOrderly : Type 0
CycleKeepsOrderly = (trace : Trace) (s : State) → Orderly trace s → Orderly trace (state_of trace (cycle trace (place_of s)))

-- An orderly state is the one that its places give, so two that give every instruction the same place are equal.
abbrev pub PlacesGiveState : Type 0
PlacesGiveState = (trace : Trace) (s : State) → Orderly trace s → state_of trace (place_of s) ≡ s

abbrev pub PlacesTellStates : Type 0
PlacesTellStates =
    (trace : Trace) (a b : State) →
    Orderly trace a →
    Orderly trace b →
    ((i : ℕ) → i < length trace → place_of a i ≡ place_of b i) →
    a ≡ b

-- The state that places give after a cycle gives every instruction the place that the cycle gives it.
abbrev pub CycleGivesPlaces : Type 0
CycleGivesPlaces =
    (trace : Trace) (s : State) →
    Orderly trace s →
    (i : ℕ) →
    i < length trace →
    place_of (state_of trace (cycle trace (place_of s))) i ≡ cycle trace (place_of s) i

-- The state after any number of cycles from the start gives every instruction the place that the rules give it: a slot holds one instruction, and no
-- stage ever has two. A chart's rows are such states.
abbrev pub StatesGivePlaces : Type 0
StatesGivePlaces =
    (trace : Trace) (t i : ℕ) → i < length trace → place_of (state_of trace (after trace t)) i ≡ after trace t i
