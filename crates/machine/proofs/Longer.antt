-- Where only latencies differ, the schedule is later by at most what was added: at each level by at most the difference of the entry counts up to
-- there. The inequalities have sums on both sides, so that nothing is subtracted.
use Prim.Native.Nat.{ℕ, zero, suc, ◌+◌, ◌-◌, ◌≤◌, ◌<◌}
use mathlib.Core.Bool.{Bool, true, false}
use mathlib.Core.List.{◌∷◌}
use mathlib.Core.Path.{◌≡◌, refl, sym, subst, ◌∙◌}
use native.Mathlib.Omega.{arith}
use lib.ListN.{length}
use Rattle.machine.specs.Test.{◌or◌}
use Rattle.machine.specs.Instruction.{Instruction, Trace, instruction}
use Rattle.machine.specs.Rules.{Stage, pre, IF, ID, EX, MEM, ST, WB, post, misses, reads_in_ID, reads_in_EX, misses_data}
use Rattle.machine.specs.Order.{SlowerInstruction, Slower, slower_none, slower_more, SameFlags, same_none, same_more, added}
use Rattle.machine.specs.Hits.{HitTakes, HitsTake}
use Rattle.machine.specs.Claims.{AddedAtMost}
use Rattle.machine.proofs.Numbers.{by_age, greatest_le, sum, sum_grows, sum_first}
use Rattle.machine.proofs.Levels.{stage_along}
use Rattle.machine.proofs.Schedule.{Behaviour, Together, early, late, together, enters, done, starts, own, share, wait, least_plus}
use Rattle.machine.proofs.Doing.{Does, holding, loading, storing, nothing, does}
use Rattle.machine.proofs.Hazards.{waits_for}
use Rattle.machine.proofs.Derivation.{waits, count_at, fetch_count, data_count, counts_are, behaviour}
use Rattle.machine.proofs.Finish.{last_leaves, leaves_by, finish_is}
use Rattle.machine.proofs.Monotone.{shares_alike}
use Rattle.machine.proofs.Slower.{hit_alike, slower_at, slower_length, slower_behaviour}

-- all entry counts of an instruction, and all those before level s of instruction i in the order of the trace
counts : Behaviour → ℕ → ℕ
counts b j = sum (b.count j) 6

spent : Behaviour → ℕ → ℕ → ℕ
spent b i s = sum (counts b) i + sum (b.count i) s

record LongerBehaviour (a b : Behaviour) : Type 0 where
  count : (i s : ℕ) → a.count i s ≤ b.count i s
  lane : (i : ℕ) → b.lane i ≡ a.lane i
  until : (i s j : ℕ) → b.until i s j ≡ a.until i s j

-- between two points of the trace, the longer trace spends no less
module _ (a b : Behaviour) (longer : LongerBehaviour a b) where
  counts_rise : (i s u : ℕ) → u ≤ s → sum (a.count i) s + sum (b.count i) u ≤ sum (b.count i) s + sum (a.count i) u
  counts_rise i s u l = sum_grows (a.count i) (b.count i) (longer.count i) s u l

  counts_from_start : (i s : ℕ) → sum (a.count i) s ≤ sum (b.count i) s
  unfolding sum
  counts_from_start i s = let p = counts_rise i s 0 (omega arith) in omega arith

  spent_rises : (i s j u : ℕ) → j < i → u ≤ 6 → spent a i s + spent b j u ≤ spent b i s + spent a j u
  unfolding spent counts sum
  spent_rises i s j u older l =
      let p = sum_grows (counts a) (counts b) (λ k. counts_from_start k 6) i (suc j) older in
      let q = counts_rise j 6 u l in
      let r = counts_from_start i s in
      omega arith

  spent_from_start : (i s : ℕ) → spent a i s ≤ spent b i s
  unfolding spent counts sum
  spent_from_start i s =
      let p = sum_grows (counts a) (counts b) (λ k. counts_from_start k 6) i 0 (omega arith) in
      let q = counts_from_start i s in
      omega arith

  Near : ℕ → Type 0
  Near i = (s : ℕ) → s ≤ 6 → enters b i s + spent a i s ≤ enters a i s + spent b i s

  -- carries the bound from a level of an older instruction to a level that i enters no earlier
  near_older : (i s j u x y : ℕ) → j < i → u ≤ 6 → x + spent a j u ≤ y + spent b j u → y ≤ enters a i s → x + spent a i s ≤ enters a i s + spent b i s
  near_older i s j u x y older l h le = let p = spent_rises i s j u older l in omega arith

  near_step : (i : ℕ) → ((j : ℕ) → j < i → Near j) → Near i
  unfolding Near done spent sum
  near_step i ih zero l = let p = spent_from_start i 0 in let q = starts b i in omega arith
  near_step i ih (suc s) l =
      least_plus b i s (spent a i (suc s)) (enters a i (suc s) + spent b i (suc s))
      (let p = near_step i ih s (omega arith) in let q = own a i s in omega arith)
      (λ j older e.
      let m = low (together b i j (suc s) e) in
      near_older i (suc s) j (suc (suc s)) _ _ older m (ih j older (suc (suc s)) m) (share a i j s older (sym (shares_alike a b longer.lane i j (suc s)) ∙ e)))
      (λ j older.
      let m = b.until_before_post i s j in
      near_older i (suc s) j (suc (b.until i s j)) _ (done a j (b.until i s j)) older (omega arith)
      (let p = ih j older (b.until i s j) (omega arith) in omega arith)
      (subst (λ (x : ℕ). done a j x ≤ enters a i (suc s)) (sym (longer.until i s j)) (wait a i j s older)))
    where
      low : {j : ℕ} → Together b i j (suc s) → suc (suc s) ≤ 6
      low (early m) = omega arith
      low (late m e) = omega arith

  near : (i : ℕ) → Near i
  near = by_age Near near_step

  last_near : (n : ℕ) → last_leaves b n + sum (counts a) n ≤ last_leaves a n + sum (counts b) n
  unfolding last_leaves Near spent sum
  last_near n =
      greatest_le 0 (λ i. enters b i 6) n (sum (counts a) n) (last_leaves a n + sum (counts b) n)
      (let p = spent_from_start n 0 in omega arith)
      (λ i l.
      let p = near i 6 (omega arith) in
      let q = spent_rises n 0 i 6 l (omega arith) in
      let r = leaves_by a n i l in
      omega arith)

-- an instruction's counts grow by at most what its latencies grow by
added_fetch : (x : Bool) (m n : ℕ) → m ≤ n → fetch_count x n ≤ fetch_count x m + (n - m)
added_fetch true m n l = omega arith
added_fetch false m n l = omega arith

added_data : {h l s : Bool} → Does h l s → (x : Bool) (m n a b : ℕ) → m ≤ n → ((l or s) ≡ true → a ≡ b) → data_count l s x n b ≤ data_count l s x m a + (n - m)
unfolding ◌or◌
added_data holding x m n a b l e = omega arith
added_data loading true m n a b l e = omega arith
added_data loading false m n a b l e = let p = e refl in omega arith
added_data storing true m n a b l e = omega arith
added_data storing false m n a b l e = let p = e refl in omega arith
added_data nothing x m n a b l e = omega arith

added_counts : {h : ℕ} (i j : Instruction) → HitTakes h i → HitTakes h j → SlowerInstruction i j → j.fetch ≡ i.fetch → j.access ≡ i.access →
    sum (count_at j) 6 ≤ sum (count_at i) 6
    + ((j.execution_latency - i.execution_latency) + (j.fetch_latency - i.fetch_latency) + (j.data_latency - i.data_latency))
added_counts i j a b h f g =
    rw (counts_are i, counts_are j, f, g, h.kind)
    (let p = added_fetch (misses i.fetch) i.fetch_latency j.fetch_latency h.fetch_latency in
    let q =
    added_data (does i.kind) (misses i.access) i.data_latency j.data_latency i.hit_cycles j.hit_cycles h.data_latency
    (λ e. (hit_alike i j a b h.kind e).0) in
    omega arith)

trace_counts : Trace → ℕ
trace_counts trace = sum (λ k. sum (count_at (instruction trace k)) 6) (length trace)

first_counts : (i : Instruction) (trace : Trace) → trace_counts (i ∷ trace) ≡ sum (count_at i) 6 + trace_counts trace
unfolding trace_counts
first_counts i trace = sum_first (λ k. sum (count_at (instruction (i ∷ trace) k)) 6) (length trace)

added_at_most_counts : {h : ℕ} {first second : Trace} → HitsTake h first → HitsTake h second → Slower first second → SameFlags first second → trace_counts second ≤ trace_counts first + added first second
unfolding added
added_at_most_counts m n slower_none same_none = omega arith
added_at_most_counts m n (slower_more {a} {b} {first} {second} h hs) (same_more f g s) =
    let p = added_counts a b (m 0 (omega arith)) (n 0 (omega arith)) h f g in
    let q = added_at_most_counts (λ k l. m (suc k) (omega arith)) (λ k l. n (suc k) (omega arith)) hs s in
    rw (first_counts a first, first_counts b second) (omega arith)

-- with equal flags, equal waits
waiting_alike : (k : Stage) (i j older elder : Instruction) → SlowerInstruction i j → SlowerInstruction older elder → j.fetch ≡ i.fetch → j.access ≡ i.access →
    waits_for k j elder ≡ waits_for k i older
unfolding waits_for reads_in_ID reads_in_EX misses_data
waiting_alike pre i j older elder h o f g = rw (o.kind, f)
waiting_alike IF i j older elder h o f g = refl
waiting_alike ID i j older elder h o f g = rw (o.kind, o.target, h.kind, h.source1, h.source2)
waiting_alike EX i j older elder h o f g = rw (o.kind, o.target, h.kind, h.source2, g)
waiting_alike MEM i j older elder h o f g = refl
waiting_alike ST i j older elder h o f g = refl
waiting_alike WB i j older elder h o f g = refl
waiting_alike post i j older elder h o f g = refl

waits_alike : (s : ℕ) (i j older elder : Instruction) → SlowerInstruction i j → SlowerInstruction older elder → j.fetch ≡ i.fetch → j.access ≡ i.access →
    waits s j elder ≡ waits s i older
unfolding waits
waits_alike s i j older elder h o f g = rw (waiting_alike (stage_along false s) i j older elder h o f g, o.kind)

fetch_at : {first second : Trace} → SameFlags first second → (i : ℕ) → (instruction second i).fetch ≡ (instruction first i).fetch
fetch_at same_none i = refl
fetch_at (same_more f g s) zero = f
fetch_at (same_more f g s) (suc i) = fetch_at s i

access_at : {first second : Trace} → SameFlags first second → (i : ℕ) → (instruction second i).access ≡ (instruction first i).access
access_at same_none i = refl
access_at (same_more f g s) zero = g
access_at (same_more f g s) (suc i) = access_at s i

longer_behaviour : {h : ℕ} {first second : Trace} → HitsTake h first → HitsTake h second → Slower first second → SameFlags first second → LongerBehaviour (behaviour first) (behaviour second)
unfolding behaviour
longer_behaviour {h} {first} {second} a b slow same =
    record {
      count = (slower_behaviour first second a b slow).count;
      lane = (slower_behaviour first second a b slow).lane;
      until = λ i s j. waits_alike s _ _ _ _ (slower_at slow i) (slower_at slow j) (fetch_at same i) (access_at same i);
    }

pub added_at_most_lem : AddedAtMost
unfolding trace_counts counts behaviour
added_at_most_lem h first second a b slow same =
    rw (finish_is first, finish_is second, slower_length slow)
    (let p = last_near (behaviour first) (behaviour second) (longer_behaviour a b slow same) (length first) in
    let q : sum (counts (behaviour second)) (length first) ≤ sum (counts (behaviour first)) (length first) + added first second =
    subst (λ (n : ℕ). sum (counts (behaviour second)) n ≤ sum (counts (behaviour first)) (length first) + added first second) (slower_length slow) (added_at_most_counts a b slow same) in
    omega arith)
