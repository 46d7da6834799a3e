-- Upper bounds on times: a level is entered after at most one cycle for each level of each instruction up to there, plus their entry counts. So the
-- finishing time is at most document 01's sum, and for traces within the format's limits that sum is at most 537,931,776.
use Prim.Native.Nat.{ℕ, zero, suc, ◌+◌, ◌*◌, ◌≤◌, ◌<◌}
use mathlib.Core.Bool.{Bool, true, false, cond}
use mathlib.Core.Path.{◌≡◌}
use native.Mathlib.Omega.{arith}
use mathlib.Core.List.{[], ◌∷◌}
use lib.ListN.{length, take}
use Rattle.machine.specs.Test.{◌or◌}
use Rattle.machine.specs.Instruction.{Instruction, Trace, instruction}
use Rattle.machine.specs.Rules.{has_access, misses}
use Rattle.machine.specs.Time.{data_cycles, bound, most_cycles, max_time}
use Rattle.machine.specs.State.{max_instructions}
use Rattle.machine.proofs.Numbers.{by_age, sum, sum_mono}
use Rattle.machine.proofs.Schedule.{Behaviour, Together, early, late, together, enters, done, starts, least}
use Rattle.machine.proofs.Doing.{Does, holding, loading, storing, nothing, does}
use Rattle.machine.proofs.Derivation.{count_at, fetch_count, data_count, counts_are, behaviour}

-- the number of an instruction's levels up to a level, plus their entry counts
unfoldable pub up_to : Behaviour → ℕ → ℕ → ℕ
up_to b i s = s + sum (b.count i) s

-- all levels and entry counts of all instructions before i
unfoldable pub older_cost : Behaviour → ℕ → ℕ
older_cost b i = sum (λ j. up_to b j 6) i

up_to_mono : (b : Behaviour) (i s u : ℕ) → s ≤ u → up_to b i s ≤ up_to b i u
unfolding up_to
up_to_mono b i s u l = let p = sum_mono (b.count i) u s l in omega arith

-- what an older instruction takes up to a level is part of what all instructions before i take
older_level : (b : Behaviour) (i j u : ℕ) → j < i → u ≤ 6 → older_cost b j + up_to b j u ≤ older_cost b i
unfolding older_cost sum
older_level b i j u l m = let p = sum_mono (λ j. up_to b j 6) i (suc j) l in let q = up_to_mono b j u 6 m in omega arith

abbrev Bounded : Behaviour → ℕ → Type 0
Bounded b i = (s : ℕ) → s ≤ 6 → enters b i s ≤ older_cost b i + up_to b i s

bounded_step : (b : Behaviour) (i : ℕ) → ((j : ℕ) → j < i → Bounded b j) → Bounded b i
unfolding done up_to sum
bounded_step b i ih zero l = let p = starts b i in omega arith
bounded_step b i ih (suc s) l =
    least b i s (older_cost b i + up_to b i (suc s))
    (let p = bounded_step b i ih s (omega arith) in omega arith)
    (λ j older e.
    let m = low (together b i j (suc s) e) in
    let p = ih j older (suc (suc s)) m in
    let q = older_level b i j (suc (suc s)) older m in
    omega arith)
    (λ j older.
    let h = b.until_before_post i s j in
    let p = ih j older (b.until i s j) (omega arith) in
    let q = older_level b i j (suc (b.until i s j)) older (omega arith) in
    omega arith)
  where
    low : {j : ℕ} → Together b i j (suc s) → suc (suc s) ≤ 6
    low (early m) = omega arith
    low (late m e) = omega arith

pub enters_bounded : (b : Behaviour) (i : ℕ) → Bounded b i
enters_bounded b = by_age (Bounded b) (bounded_step b)

-- An instruction's entry counts are at most its latencies.
fetch_count_lem : (x : Bool) (n : ℕ) → fetch_count x n ≤ n
fetch_count_lem true n = omega arith
fetch_count_lem false n = omega arith

data_count_lem : {h l s : Bool} → Does h l s → (m : Bool) (n a : ℕ) → data_count l s m n a ≤ cond (l or s) (cond m n a) 0
unfolding ◌or◌
data_count_lem holding m n a = omega arith
data_count_lem loading true n a = omega arith
data_count_lem loading false n a = omega arith
data_count_lem storing true n a = omega arith
data_count_lem storing false n a = omega arith
data_count_lem nothing m n a = omega arith

counts_bounded : (i : Instruction) → sum (count_at i) 6 ≤ i.execution_latency + i.fetch_latency + data_cycles i
counts_bounded i =
    let f = fetch_count_lem (misses i.fetch) i.fetch_latency in
    let e = counts_are i in
    let d = data_count_lem (does i.kind) (misses i.access) i.data_latency i.hit_cycles in
    omega arith

bound_step : (trace : Trace) (k : ℕ) → k < length trace →
    bound (take (suc k) trace) ≡ bound (take k trace) + (6 + (instruction trace k).execution_latency + (instruction trace k).fetch_latency + data_cycles (instruction trace k))
unfolding bound
bound_step [] k l = absurd (omega arith)
bound_step (i ∷ trace) zero l = omega arith
bound_step (i ∷ trace) (suc k) l = let h = bound_step trace k (omega arith) in omega arith

-- the first k instructions take at most their bound
cost_bounded : (trace : Trace) (k : ℕ) → k ≤ length trace → older_cost (behaviour trace) k ≤ bound (take k trace)
unfolding older_cost sum up_to behaviour bound
cost_bounded trace zero l = omega arith
cost_bounded trace (suc k) l =
    let h = cost_bounded trace k (omega arith) in
    let p = counts_bounded (instruction trace k) in
    let q = bound_step trace k l in
    omega arith

-- all times of the first k instructions lie within their bound
pub times_within : (trace : Trace) (k j s : ℕ) → j < k → k ≤ length trace → s ≤ 6 → enters (behaviour trace) j s ≤ bound (take k trace)
times_within trace k j s l m h =
    let p = enters_bounded (behaviour trace) j s h in
    let q = older_level (behaviour trace) k j s l h in
    let r = cost_bounded trace k m in
    omega arith

pub bound_take : (trace : Trace) (k : ℕ) → bound (take k trace) ≤ bound trace
unfolding bound
bound_take [] zero = omega arith
bound_take [] (suc k) = omega arith
bound_take (i ∷ trace) zero = omega arith
bound_take (i ∷ trace) (suc k) = let h = bound_take trace k in omega arith

-- "so at most 537,931,776"
pub record Limited (i : Instruction) : Type 0 where
  pub execution_latency : i.execution_latency ≤ 255
  pub fetch_latency : i.fetch_latency ≤ 65535
  pub data_latency : i.data_latency ≤ 65535
  pub hit_cycles : i.hit_cycles ≤ 65535

data_limited : (x m : Bool) {n a : ℕ} → n ≤ 65535 → a ≤ 65535 → cond x (cond m n a) 0 ≤ 65535
data_limited true true l h = l
data_limited true false l h = h
data_limited false m l h = omega arith

each_limited : (trace : Trace) → ((i : ℕ) → i < length trace → Limited (instruction trace i)) → bound trace ≤ most_cycles * length trace
unfolding bound
each_limited [] h = omega arith
each_limited (i ∷ trace) h =
    let p = each_limited trace (λ k l. h (suc k) (omega arith)) in
    let q : Limited i = h 0 (omega arith) in
    let d = data_limited (has_access i.kind) (misses i.access) q.data_latency q.hit_cycles in
    omega arith

pub bound_limited : (trace : Trace) → length trace ≤ max_instructions → ((i : ℕ) → i < length trace → Limited (instruction trace i)) → bound trace ≤ max_time
bound_limited trace l h = let p = each_limited trace h in omega arith
