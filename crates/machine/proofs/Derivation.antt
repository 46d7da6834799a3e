-- The behaviour of a trace's instructions, as the schedule needs it, from what they do, their flags and latencies.
use Prim.Native.Nat.{ℕ, ◌+◌, ◌-◌, ◌≤◌}
use mathlib.Core.Bool.{Bool, true, false, cond}
use mathlib.Core.Path.{◌≡◌, refl}
use native.Mathlib.Omega.{arith}
use Rattle.machine.specs.Instruction.{Instruction, Trace, instruction}
use Rattle.machine.specs.Rules.{Stage, rank, is_load, is_store, misses, entry}
use Rattle.machine.proofs.Numbers.{sum}
use Rattle.machine.proofs.Connectives.{Value, passed, failed, value}
use Rattle.machine.proofs.Schedule.{Behaviour}
use Rattle.machine.proofs.Levels.{stage_along}
use Rattle.machine.proofs.Doing.{Does, holding, loading, storing, nothing, does}
use Rattle.machine.proofs.Hazards.{goal_of, goal, waits_for}

-- at a level, the first instruction waits until the second, an older one, has reached the given level with count 0; in the last stage, ST or WB,
-- nothing is waited for
unfoldable pub waits : ℕ → Instruction → Instruction → ℕ
waits s i older = cond (waits_for (stage_along false s) i older) (rank (goal older.kind)) 0

pub waits_for_lem : (s : ℕ) (i older : Instruction) {to : Stage} →
    waits_for (stage_along false s) i older ≡ true →
    goal older.kind ≡ to →
    waits s i older ≡ rank to
unfolding waits
waits_for_lem s i older e g = rw (e, g)

-- what is waited for ends by a time, if the goal is reached by then; not waiting costs nothing
pub waits_within : (s : ℕ) (i older : Instruction) (d : ℕ → ℕ) (m : ℕ) → d 0 ≤ m →
    (waits_for (stage_along false s) i older ≡ true → d (rank (goal older.kind)) ≤ m) →
    d (waits s i older) ≤ m
unfolding waits
waits_within s i older d m o h = pick (value (waits_for (stage_along false s) i older))
  where
    pick : Value (waits_for (stage_along false s) i older) → d (cond (waits_for (stage_along false s) i older) (rank (goal older.kind)) 0) ≤ m
    pick (passed e) = rw e (h e)
    pick (failed e) = rw e o

pub goal_reach : {h l s : Bool} → Does h l s → rank (goal_of h l s) ≤ 5
goal_reach holding = omega arith
goal_reach loading = omega arith
goal_reach storing = omega arith
goal_reach nothing = omega arith

at_most : (w : Bool) {m n : ℕ} → m ≤ n → cond w m 0 ≤ n
at_most true l = l
at_most false l = omega arith

waits_reach : (s : ℕ) (i older : Instruction) → waits s i older ≤ 5
unfolding waits goal
waits_reach s i older = at_most (waits_for (stage_along false s) i older) (goal_reach (does older.kind))

-- the entry count of an instruction at a level
abbrev pub count_at : Instruction → ℕ → ℕ
count_at i s = entry i (stage_along (is_store i.kind) s)

-- at level 5 only a store has one
pub last_count_lem : (i : Instruction) (lane : Bool) → entry i (stage_along lane 5) ≡ cond lane (cond (misses i.access) (i.data_latency - 1) i.hit_cycles) 0
unfolding entry
last_count_lem i true = refl
last_count_lem i false = refl

-- the counts of a fetch and of a data access, and the sum of all counts
abbrev pub fetch_count : Bool → ℕ → ℕ
fetch_count missed n = cond missed n 0

abbrev pub data_count : Bool → Bool → Bool → ℕ → ℕ → ℕ
data_count loads stores missed n hit = cond loads (cond missed n hit) 0 + cond stores (cond missed (n - 1) hit) 0

pub counts_are : (i : Instruction) →
    sum (count_at i) 6
    ≡ fetch_count (misses i.fetch) i.fetch_latency
    + i.execution_latency
    + data_count (is_load i.kind) (is_store i.kind) (misses i.access) i.data_latency i.hit_cycles
unfolding sum entry
counts_are i = let e = last_count_lem i (is_store i.kind) in omega arith

no_count_in_pre : (i : Instruction) → count_at i 0 ≡ 0
unfolding entry
no_count_in_pre i = refl

unfoldable pub behaviour : Trace → Behaviour
unfolding no_count_in_pre waits_reach goal_reach at_most
behaviour trace =
    record {
      count = λ i s. count_at (instruction trace i) s;
      lane = λ i. is_store (instruction trace i).kind;
      until = λ i s j. waits s (instruction trace i) (instruction trace j);
      count_in_pre = λ i. no_count_in_pre (instruction trace i);
      until_before_post = λ i s j. waits_reach s (instruction trace i) (instruction trace j);
    }
