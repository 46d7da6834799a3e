-- The slower trace of a pair that demand 3 compares has the slower behaviour: entry counts and waits rise with misses and latencies. So the order
-- of finishing times and of places follows from the schedule's.
use Prim.Native.Nat.{ℕ, zero, suc, ◌-◌, ◌≤◌, ◌<◌}
use mathlib.Core.Bool.{Bool, true, false, not, cond}
use mathlib.Core.Path.{◌≡◌, refl, sym, ap, ◌∙◌}
use native.Mathlib.Omega.{arith}
use lib.ListN.{length}
use Rattle.machine.specs.Test.{◌and◌, ◌or◌}
use Rattle.machine.specs.Instruction.{Kind, Flag, Instruction, Trace, blank, instruction}
use Rattle.machine.specs.Rules.{Stage, pre, IF, ID, EX, MEM, ST, WB, post, rank, is_load, is_store, has_access, holds_fetches, misses, hits, entry, reads_in_ID, reads_in_EX, misses_data}
use Rattle.machine.specs.Order.{FlagTo, hit_hit, hit_miss, miss_miss, SlowerInstruction, Slower, slower_none, slower_more}
use Rattle.machine.specs.Hits.{HitTakes, HitsTake}
use Rattle.machine.specs.Claims.{Ordered}
use Rattle.machine.proofs.Connectives.{or_l, or_r}
use Rattle.machine.proofs.Hits.{hit_at}
use Rattle.machine.proofs.Levels.{stage_along}
use Rattle.machine.proofs.Hazards.{goal, waits_for}
use Rattle.machine.proofs.Derivation.{waits, count_at, last_count_lem, behaviour}
use Rattle.machine.proofs.Bridge.{bridge}
use Rattle.machine.proofs.Finish.{leaves_by, last_leaves_by, finish_is}
use Rattle.machine.proofs.Monotone.{SlowerBehaviour, enters_later, not_further}

-- An entry count is no smaller in the slower trace: a miss costs no less than a hit, since a hit takes as many cycles in both and fewer than the miss.
miss_costs : {f g : Flag} (x : Bool) (m n a b : ℕ) → FlagTo f g → m ≤ n → (x ≡ true → (a ≡ b) × (b ≤ n)) → cond x (cond (misses f) m a) 0 ≤ cond x (cond (misses g) n b) 0
miss_costs true m n a b hit_hit l h = let p = (h refl).0 in omega arith
miss_costs true m n a b hit_miss l h = let p = (h refl).0 in let q = (h refl).1 in omega arith
miss_costs true m n a b miss_miss l h = l
miss_costs false m n a b f l h = omega arith

pub hit_alike : {h : ℕ} (i j : Instruction) → HitTakes h i → HitTakes h j → j.kind ≡ i.kind → has_access i.kind ≡ true →
    (i.hit_cycles ≡ j.hit_cycles) × (j.hit_cycles < j.data_latency)
hit_alike i j a b k e =
    let f : has_access j.kind ≡ true = rw k e in (a.cycles e ∙ sym (b.cycles f), omega (arith, b.cycles f, b.above f))

module _ {h : ℕ} (i j : Instruction) (a : HitTakes h i) (b : HitTakes h j) (slow : SlowerInstruction i j) where
  load_paid : is_load i.kind ≡ true → (i.hit_cycles ≡ j.hit_cycles) × (j.hit_cycles ≤ j.data_latency)
  load_paid e = let p = hit_alike i j a b slow.kind (or_l _ _ e) in (p.0, omega (arith, p.1))

  store_paid : is_store i.kind ≡ true → (i.hit_cycles ≡ j.hit_cycles) × (j.hit_cycles ≤ j.data_latency - 1)
  store_paid e = let p = hit_alike i j a b slow.kind (or_r _ _ e) in (p.0, omega (arith, p.1))

  count_rises : (s : ℕ) → count_at i s ≤ count_at j s
  unfolding entry
  count_rises zero = omega arith
  count_rises (suc zero) = miss_costs true i.fetch_latency j.fetch_latency 0 0 slow.fetch slow.fetch_latency (λ e. (refl, omega arith))
  count_rises (suc (suc zero)) = omega arith
  count_rises (suc (suc (suc zero))) = slow.execution_latency
  count_rises (suc (suc (suc (suc zero)))) =
      rw slow.kind
      (miss_costs (is_load i.kind) i.data_latency j.data_latency i.hit_cycles j.hit_cycles slow.access slow.data_latency load_paid)
  count_rises (suc (suc (suc (suc (suc zero))))) =
      rw (last_count_lem i (is_store i.kind), last_count_lem j (is_store j.kind), slow.kind)
      (miss_costs (is_store i.kind) (i.data_latency - 1) (j.data_latency - 1) i.hit_cycles j.hit_cycles slow.access (let l = slow.data_latency in omega arith) store_paid)
  count_rises (suc (suc (suc (suc (suc (suc s)))))) = omega arith

-- a miss waits for all that a hit waits for
fetch_waits : {f g : Flag} (h : Bool) → FlagTo f g → h or not (hits f) ≡ true → h or not (hits g) ≡ true
unfolding ◌or◌
fetch_waits true t e = refl
fetch_waits false hit_hit e = e
fetch_waits false hit_miss e = refl
fetch_waits false miss_miss e = e

access_waits : {f g : Flag} (s x r : Bool) → FlagTo f g → (s and (x and misses f)) or r ≡ true → (s and (x and misses g)) or r ≡ true
unfolding ◌and◌ ◌or◌
access_waits s x r hit_hit e = e
access_waits true true r hit_miss e = refl
access_waits true false r hit_miss e = e
access_waits false x r hit_miss e = e
access_waits s x r miss_miss e = e

waiting_rises : (k : Stage) (i j older elder : Instruction) → SlowerInstruction i j → SlowerInstruction older elder →
    waits_for k i older ≡ true → waits_for k j elder ≡ true
unfolding waits_for reads_in_ID reads_in_EX misses_data
waiting_rises pre i j older elder h o e = rw o.kind (fetch_waits (holds_fetches older.kind) h.fetch e)
waiting_rises IF i j older elder h o e = e
waiting_rises ID i j older elder h o e = rw (o.kind, o.target, h.kind, h.source1, h.source2) e
waiting_rises EX i j older elder h o e =
    rw (o.kind, o.target, h.kind, h.source2)
    (access_waits (is_store older.kind) (is_load i.kind or is_store i.kind) _ h.access e)
waiting_rises MEM i j older elder h o e = e
waiting_rises ST i j older elder h o e = e
waiting_rises WB i j older elder h o e = e
waiting_rises post i j older elder h o e = e

more_rises : (a b : Bool) {m n : ℕ} → n ≡ m → (a ≡ true → b ≡ true) → cond a m 0 ≤ cond b n 0
more_rises true b e h = rw (h refl, e) (omega arith)
more_rises false b e h = omega arith

waits_rise : (s : ℕ) (i j older elder : Instruction) → SlowerInstruction i j → SlowerInstruction older elder → waits s i older ≤ waits s j elder
unfolding waits
waits_rise s i j older elder h o =
    more_rises _ _ (ap (λ (kind : Kind). rank (goal kind)) o.kind) (waiting_rises (stage_along false s) i j older elder h o)

blank_slower : SlowerInstruction blank blank
blank_slower =
    record {
      kind = refl;
      fetch = hit_hit;
      access = hit_hit;
      source1 = refl;
      source2 = refl;
      target = refl;
      execution_latency = omega arith;
      fetch_latency = omega arith;
      data_latency = omega arith;
    }

pub slower_at : {first second : Trace} → Slower first second → (i : ℕ) → SlowerInstruction (instruction first i) (instruction second i)
slower_at slower_none i = blank_slower
slower_at (slower_more h rest) zero = h
slower_at (slower_more h rest) (suc i) = slower_at rest i

pub slower_length : {first second : Trace} → Slower first second → length second ≡ length first
slower_length slower_none = refl
slower_length (slower_more h rest) = ap suc (slower_length rest)

pub slower_behaviour : {h : ℕ} (first second : Trace) → HitsTake h first → HitsTake h second → Slower first second → SlowerBehaviour (behaviour first) (behaviour second)
unfolding behaviour
slower_behaviour first second a b slow =
    record {
      count = λ i s. count_rises (instruction first i) (instruction second i) (hit_at first a i) (hit_at second b i) (slower_at slow i) s;
      lane = λ i. ap is_store (slower_at slow i).kind;
      until = λ i s j. waits_rise s (instruction first i) (instruction second i) (instruction first j) (instruction second j) (slower_at slow i) (slower_at slow j);
    }

pub ordered : Ordered
ordered h first second a b slow = (
  λ t i l.
      let m = slower_length slow in
      rw (bridge first t i l, bridge second t i (omega arith)) (not_further (behaviour first) (behaviour second) (slower_behaviour first second a b slow) t i),
  rw (finish_is first, finish_is second)
      (last_leaves_by (behaviour first) (length first) _
      (λ i l.
      let m = slower_length slow in
      let p = enters_later (behaviour first) (behaviour second) (slower_behaviour first second a b slow) i 6 in
      let q = leaves_by (behaviour second) (length second) i (omega arith) in
      omega arith)),
)
