-- "Charts worked by hand": A to L as data, and the test that each has the finishing times that document 01 gives; then what document 02 amends.
use Rattle.std.specs.Prelude.{ℕ, zero, suc, Bool, true, List, [], ◌∷◌, ◌++◌, eqb}
use Rattle.machine.specs.Test.{◌and◌}
use Rattle.machine.specs.Instruction.{Kind, plain, load, store, branch, jump, Flag, hit, miss, unknown, Instruction, Trace}
use Rattle.machine.specs.Rules.{after}
use Rattle.machine.specs.Time.{best, worst}
use Rattle.machine.specs.Hits.{with_hits}
use Rattle.machine.specs.State.{empty_slot, state_of}
use Rattle.machine.specs.declared.Slot.{Slot}
use Rattle.machine.specs.declared.State.{State}

-- a trace, the cycles that its data hits take, and its times
pub record Case : Type 0 where
  pub trace : Trace
  pub hits : ℕ
  pub best : ℕ
  pub worst : ℕ

-- "Execution latency 0, fetch hits and no shared registers unless said": a kind, a data flag and its latency
simple : Kind → Flag → ℕ → Instruction
simple kind access latency =
    record {
      kind = kind;
      fetch = hit;
      access = access;
      source1 = 0;
      source2 = 0;
      target = 0;
      execution_latency = 0;
      fetch_latency = 1;
      data_latency = latency;
      hit_cycles = 0;
    }

plain_one : Instruction
unfolding simple
plain_one = simple plain hit 0

-- the same with another fetch flag and latency, another execution latency, or other registers
fetched : Flag → ℕ → Instruction → Instruction
fetched fetch latency i =
    record {
      kind = i.kind;
      fetch = fetch;
      access = i.access;
      source1 = i.source1;
      source2 = i.source2;
      target = i.target;
      execution_latency = i.execution_latency;
      fetch_latency = latency;
      data_latency = i.data_latency;
      hit_cycles = i.hit_cycles;
    }

executed : ℕ → Instruction → Instruction
executed latency i =
    record {
      kind = i.kind;
      fetch = i.fetch;
      access = i.access;
      source1 = i.source1;
      source2 = i.source2;
      target = i.target;
      execution_latency = latency;
      fetch_latency = i.fetch_latency;
      data_latency = i.data_latency;
      hit_cycles = i.hit_cycles;
    }

registers : ℕ → ℕ → ℕ → Instruction → Instruction
registers source1 source2 target i =
    record {
      kind = i.kind;
      fetch = i.fetch;
      access = i.access;
      source1 = source1;
      source2 = source2;
      target = target;
      execution_latency = i.execution_latency;
      fetch_latency = i.fetch_latency;
      data_latency = i.data_latency;
      hit_cycles = i.hit_cycles;
    }

-- a trace without unknown flags has one finishing time; only in the cases of document 02, F-4, does a data hit take cycles
hitting_case : Trace → ℕ → ℕ → Case
hitting_case trace hits time = record { trace = trace; hits = hits; best = time; worst = time }

settled_case : Trace → ℕ → Case
unfolding hitting_case
settled_case trace time = hitting_case trace 0 time

unfoldable pub case_C : Trace
unfolding simple
case_C = simple load miss 10 ∷ []

unfoldable pub case_D : Trace
unfolding simple plain_one registers
case_D = registers 0 0 1 (simple load hit 1) ∷ registers 1 0 2 plain_one ∷ []

unfoldable pub case_F : Trace
unfolding simple plain_one fetched
case_F = simple load hit 1 ∷ fetched miss 10 plain_one ∷ []

unfoldable pub case_I : Trace
unfolding simple
case_I = simple store miss 10 ∷ []

unfoldable pub case_L : Trace
unfolding simple plain_one fetched
case_L = simple load unknown 10 ∷ fetched unknown 1 plain_one ∷ []

unfoldable pub cases : List Case
unfolding simple plain_one fetched settled_case case_C case_D case_F case_I case_L
cases =
    settled_case [] 0
    ∷ settled_case (plain_one ∷ []) 6
    ∷ settled_case case_C 16
    ∷ settled_case case_D 8
    ∷ settled_case (simple branch hit 0 ∷ plain_one ∷ []) 9
    ∷ settled_case case_F 20
    ∷ settled_case (simple load miss 10 ∷ plain_one ∷ []) 17
    ∷ settled_case (simple load miss 10 ∷ fetched miss 1 plain_one ∷ []) 21
    ∷ settled_case case_I 15
    ∷ settled_case (simple store miss 10 ∷ simple store miss 10 ∷ []) 26
    ∷ settled_case (simple store miss 10 ∷ simple store hit 1 ∷ []) 16
    ∷ record { trace = case_L; hits = 0; best = 7; worst = 21 }
    ∷ []

-- What A to L do not show: a dependence through the second source, and none through register 0; behind an older store a fetch that misses, a fetch
-- that hits, a data access that hits and one that misses; a branch with an execution latency.
unfoldable pub further : List Case
unfolding simple plain_one fetched executed registers settled_case
further =
    settled_case (registers 0 0 1 (simple load hit 1) ∷ registers 0 1 2 plain_one ∷ []) 8
    ∷ settled_case (registers 0 0 0 (simple load hit 1) ∷ registers 0 0 2 plain_one ∷ []) 7
    ∷ settled_case (simple store hit 1 ∷ fetched miss 10 plain_one ∷ []) 21
    ∷ settled_case (simple store miss 10 ∷ plain_one ∷ []) 15
    ∷ settled_case (simple store miss 10 ∷ simple load hit 1 ∷ []) 15
    ∷ settled_case (simple store miss 10 ∷ simple load miss 10 ∷ []) 27
    ∷ settled_case (executed 2 (simple branch hit 0) ∷ plain_one ∷ []) 11
    ∷ []

-- Document 02, F-3: "A load into register 1 with miss 10, followed by a store of register 1 with first source 0 and a hit, then finishes one cycle
-- sooner."
unfoldable pub value_loaded : ℕ → Trace
unfolding simple registers
value_loaded latency = registers 0 0 1 (simple load miss latency) ∷ registers 0 1 0 (simple store hit 1) ∷ []

-- a store with both sources 0, after a load into 0
unfoldable pub nothing_loaded : ℕ → Trace
unfolding simple registers
nothing_loaded latency = registers 0 0 0 (simple load miss latency) ∷ registers 0 0 0 (simple store hit 1) ∷ []

-- That example, and the same with the load a hit and the store a miss, which take 18 and 17 by document 01's rule. What waits in ID for the load all
-- the same: a store by its first source, by both; any other kind by its second. Nothing waits by register 0.
unfoldable pub late_values : List Case
unfolding simple plain_one registers settled_case value_loaded nothing_loaded
late_values =
    settled_case (value_loaded 10) 17
    ∷ settled_case (registers 0 0 1 (simple load hit 1) ∷ registers 0 1 0 (simple store miss 10) ∷ []) 16
    ∷ settled_case (registers 0 0 1 (simple load miss 10) ∷ registers 1 0 0 (simple store hit 1) ∷ []) 18
    ∷ settled_case (registers 0 0 1 (simple load miss 10) ∷ registers 1 1 0 (simple store hit 1) ∷ []) 18
    ∷ settled_case (registers 0 0 1 (simple load miss 10) ∷ registers 0 1 2 plain_one ∷ []) 18
    ∷ settled_case (registers 0 0 1 (simple load miss 10) ∷ registers 0 1 2 (simple load hit 1) ∷ []) 18
    ∷ settled_case (registers 0 0 1 (simple load miss 10) ∷ registers 0 1 0 (simple branch hit 0) ∷ []) 18
    ∷ settled_case (nothing_loaded 10) 17
    ∷ []

-- Document 02, F-4: a load hit and a plain one that needs it, two store hits, a store hit and a load hit, each of latency 20
unfoldable pub loaded_and_used : Trace
unfolding simple plain_one registers
loaded_and_used = registers 0 0 1 (simple load hit 20) ∷ registers 1 0 2 plain_one ∷ []

unfoldable pub two_stores : Trace
unfolding simple
two_stores = simple store hit 20 ∷ simple store hit 20 ∷ []

unfoldable pub store_and_load : Trace
unfolding simple
store_and_load = simple store hit 20 ∷ simple load hit 20 ∷ []

-- a load that misses and a store hit behind it, each of the shortest latency that 17 leaves for every h
unfoldable pub miss_and_hit : Trace
unfolding simple
miss_and_hit = simple load miss 16 ∷ simple store hit 16 ∷ []

-- The first three for h = 0, 3 and 15. A miss takes no longer for it. An unknown load, and an unknown store, as a hit and as a miss.
unfoldable pub hit_cases : List Case
unfolding simple hitting_case loaded_and_used two_stores store_and_load miss_and_hit
hit_cases =
    hitting_case loaded_and_used 0 8
    ∷ hitting_case loaded_and_used 3 11
    ∷ hitting_case loaded_and_used 15 23
    ∷ hitting_case two_stores 0 7
    ∷ hitting_case two_stores 3 13
    ∷ hitting_case two_stores 15 37
    ∷ hitting_case store_and_load 0 7
    ∷ hitting_case store_and_load 3 10
    ∷ hitting_case store_and_load 15 22
    ∷ hitting_case miss_and_hit 0 23
    ∷ hitting_case miss_and_hit 15 38
    ∷ hitting_case (simple load miss 16 ∷ []) 15 22
    ∷ hitting_case (simple store miss 16 ∷ []) 15 21
    ∷ record { trace = simple load unknown 16 ∷ []; hits = 15; best = 21; worst = 22 }
    ∷ record { trace = simple store unknown 16 ∷ []; hits = 15; best = 21; worst = 21 }
    ∷ []

-- Document 02, F-6: a jump with an execution latency, and a plain one that reads its target
unfoldable pub jump_and_plain : ℕ → Trace
unfolding simple plain_one executed registers
jump_and_plain latency = registers 0 0 1 (executed latency (simple jump hit 0)) ∷ registers 1 0 2 plain_one ∷ []

-- A jump and a plain one take 9, as a branch and a plain one do, and 11 with an execution latency of 2, whether or not the plain one reads the target.
-- The fetch behind a jump misses, and is unknown; the jump's own fetch misses; a jump behind a jump. A jump waits in ID for what it reads, as any kind
-- but a store does; for a load hit the longer, the more cycles that takes. Past a store in ST it leaves through WB. Where the jump stands in EX until
-- row 14, behind a load that misses or a store that waits for ST, the plain one that reads its target enters EX as the jump leaves it.
unfoldable pub jumps : List Case
unfolding simple plain_one fetched executed registers hitting_case settled_case jump_and_plain
jumps =
    settled_case (simple jump hit 0 ∷ plain_one ∷ []) 9
    ∷ settled_case (executed 2 (simple jump hit 0) ∷ plain_one ∷ []) 11
    ∷ settled_case (jump_and_plain 0) 9
    ∷ settled_case (jump_and_plain 2) 11
    ∷ settled_case (simple jump hit 0 ∷ fetched miss 10 plain_one ∷ []) 19
    ∷ record { trace = simple jump hit 0 ∷ fetched unknown 10 plain_one ∷ []; hits = 0; best = 9; worst = 19 }
    ∷ settled_case (fetched miss 10 (simple jump hit 0) ∷ plain_one ∷ []) 19
    ∷ settled_case (simple jump hit 0 ∷ simple jump hit 0 ∷ plain_one ∷ []) 12
    ∷ settled_case (registers 0 0 1 (simple load hit 1) ∷ registers 1 0 2 (simple jump hit 0) ∷ []) 8
    ∷ hitting_case (registers 0 0 1 (simple load hit 20) ∷ registers 1 0 2 (simple jump hit 0) ∷ []) 3 11
    ∷ settled_case (registers 0 0 1 (simple load miss 10) ∷ registers 0 1 2 (simple jump hit 0) ∷ []) 18
    ∷ settled_case (simple store miss 10 ∷ simple jump hit 0 ∷ []) 15
    ∷ settled_case (simple load miss 10 ∷ jump_and_plain 0) 18
    ∷ settled_case (simple store miss 10 ∷ simple store hit 1 ∷ jump_and_plain 0) 18
    ∷ []

-- every case
abbrev pub all_cases : List Case
all_cases = cases ++ further ++ late_values ++ hit_cases ++ jumps

-- the trace of a case, its data hits as long as it says
abbrev pub timed : Case → Trace
timed c = with_hits c.hits c.trace

unfoldable pub cases_hold : List Case → Bool
cases_hold [] = true
cases_hold (c ∷ cs) = eqb (best (timed c)) c.best and eqb (worst (timed c)) c.worst and cases_hold cs

-- the rows of a chart: the states after 0, 1, .. n - 1 cycles
unfoldable pub rows : Trace → ℕ → List State
rows trace zero = []
rows trace (suc n) = rows trace n ++ (state_of trace (after trace n) ∷ [])

-- a slot as the chart shows it: index:count, or a dash
at : ℕ → ℕ → Slot
at index count = record { filled = true; index = index; count = count }

dash : Slot
dash = empty_slot

row : ℕ → Slot → Slot → Slot → Slot → Slot → Slot → State
row fetched in_IF in_ID in_EX in_MEM in_ST in_WB =
    record { fetched = fetched; IF = in_IF; ID = in_ID; EX = in_EX; MEM = in_MEM; ST = in_ST; WB = in_WB }

-- D's chart as document 01 prints it; the first number is the fetched count, which the chart does not show
unfoldable pub chart_of_D : List State
unfolding at dash row
chart_of_D =
    row 0 dash dash dash dash dash dash
    ∷ row 1 (at 0 0) dash dash dash dash dash
    ∷ row 2 (at 1 0) (at 0 0) dash dash dash dash
    ∷ row 2 dash (at 1 0) (at 0 0) dash dash dash
    ∷ row 2 dash (at 1 0) dash (at 0 0) dash dash
    ∷ row 2 dash dash (at 1 0) dash dash (at 0 0)
    ∷ row 2 dash dash dash (at 1 0) dash dash
    ∷ row 2 dash dash dash dash dash (at 1 0)
    ∷ row 2 dash dash dash dash dash dash
    ∷ []

-- F-3's example with a latency of 2. The store enters EX behind the load, and MEM when the load leaves it.
unfoldable pub chart_of_value : List State
unfolding at dash row
chart_of_value =
    row 0 dash dash dash dash dash dash
    ∷ row 1 (at 0 0) dash dash dash dash dash
    ∷ row 2 (at 1 0) (at 0 0) dash dash dash dash
    ∷ row 2 dash (at 1 0) (at 0 0) dash dash dash
    ∷ row 2 dash dash (at 1 0) (at 0 2) dash dash
    ∷ row 2 dash dash (at 1 0) (at 0 1) dash dash
    ∷ row 2 dash dash (at 1 0) (at 0 0) dash dash
    ∷ row 2 dash dash dash (at 1 0) dash (at 0 0)
    ∷ row 2 dash dash dash dash (at 1 0) dash
    ∷ row 2 dash dash dash dash dash dash
    ∷ []

-- F-4's store hit and load hit with h = 2. Both have their count at the same time, the store in ST and the load in MEM.
unfoldable pub chart_of_hits : List State
unfolding at dash row
chart_of_hits =
    row 0 dash dash dash dash dash dash
    ∷ row 1 (at 0 0) dash dash dash dash dash
    ∷ row 2 (at 1 0) (at 0 0) dash dash dash dash
    ∷ row 2 dash (at 1 0) (at 0 0) dash dash dash
    ∷ row 2 dash dash (at 1 0) (at 0 0) dash dash
    ∷ row 2 dash dash dash (at 1 2) (at 0 2) dash
    ∷ row 2 dash dash dash (at 1 1) (at 0 1) dash
    ∷ row 2 dash dash dash (at 1 0) (at 0 0) dash
    ∷ row 2 dash dash dash dash dash (at 1 0)
    ∷ row 2 dash dash dash dash dash dash
    ∷ []

-- F-6's jump with an execution latency of 1, and the plain one. It is fetched when the jump stands at (EX, 0), and the jump leaves through WB.
unfoldable pub chart_of_jump : List State
unfolding at dash row
chart_of_jump =
    row 0 dash dash dash dash dash dash
    ∷ row 1 (at 0 0) dash dash dash dash dash
    ∷ row 1 dash (at 0 0) dash dash dash dash
    ∷ row 1 dash dash (at 0 1) dash dash dash
    ∷ row 1 dash dash (at 0 0) dash dash dash
    ∷ row 2 (at 1 0) dash dash (at 0 0) dash dash
    ∷ row 2 dash (at 1 0) dash dash dash (at 0 0)
    ∷ row 2 dash dash (at 1 0) dash dash dash
    ∷ row 2 dash dash dash (at 1 0) dash dash
    ∷ row 2 dash dash dash dash dash (at 1 0)
    ∷ row 2 dash dash dash dash dash dash
    ∷ []
