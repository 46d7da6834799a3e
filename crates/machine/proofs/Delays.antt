-- What a delay makes of a trace, instruction by instruction. And the time on a shared bus holds: a settling with waits is at most as slow as the trace
-- with all misses and the longest wait on each of them, and that finishes later than the worst time by at most what was added, the longest wait for
-- each access that is counted.
use Prim.Native.Nat.{ℕ, zero, suc, ◌*◌, ◌≤◌, ◌<◌}
use mathlib.Core.Bool.{Bool, true, false, not, cond}
use mathlib.Core.List.{[], ◌∷◌}
use mathlib.Core.Path.{◌≡◌, refl, sym, ap, subst}
use native.Mathlib.Nat.{le_of_eq, add-mul}
use native.Mathlib.Omega.{arith}
use lib.ListN.{length}
use Rattle.machine.specs.Test.{◌and◌, ◌or◌}
use Rattle.machine.specs.Instruction.{Flag, hit, miss, unknown, Instruction, Trace, instruction}
use Rattle.machine.specs.Rules.{is_load, is_store, hits, misses, misses_data}
use Rattle.machine.specs.Time.{Settled, hit_stays, miss_stays, unknown_hits, unknown_misses, SettledInstruction, Settling, settled_none, settled_more, with_waits, DelayedInstruction, Delayed, delayed_none, delayed_more, settle_flag, settle_instruction, settle, worst}
use Rattle.machine.specs.Order.{FlagTo, hit_hit, miss_miss, SlowerInstruction, Slower, slower_none, slower_more, SameFlags, same_none, same_more, added}
use Rattle.machine.specs.Bus.{counts_fetch, counts_data, accesses_of, accesses, bus_time}
use Rattle.machine.specs.Claims.{DelayedNoLater}
use Rattle.machine.proofs.Hits.{hits_settle, hits_delayed}
use Rattle.machine.proofs.Slower.{ordered}
use Rattle.machine.proofs.Longer.{added_at_most_lem}
use Rattle.machine.proofs.Settlings.{flag_below_misses, settles}

pub delayed_length : {wait : ℕ} {trace version : Trace} → Delayed wait trace version → length version ≡ length trace
delayed_length delayed_none = refl
delayed_length (delayed_more d rest) = ap suc (delayed_length rest)

pub delayed_at : {wait : ℕ} {trace version : Trace} → Delayed wait trace version → (k : ℕ) → k < length trace → DelayedInstruction wait (instruction trace k) (instruction version k)
delayed_at delayed_none k l = absurd (omega arith)
delayed_at (delayed_more d rest) zero l = d
delayed_at (delayed_more d rest) (suc k) l = delayed_at rest k (omega arith)

module _ (wait : ℕ) where
  -- every missed access longer by the whole wait
  unfoldable pub all_at_worst : Trace → Trace
  all_at_worst [] = []
  all_at_worst (i ∷ trace) = with_waits wait wait i ∷ all_at_worst trace

  pub worst_delayed : (trace : Trace) → Delayed wait trace (all_at_worst trace)
  unfolding all_at_worst
  worst_delayed [] = delayed_none
  worst_delayed (i ∷ trace) =
      delayed_more (record { on_fetch = wait; on_data = wait; fetch_within = omega arith; data_within = omega arith; waited = refl }) (worst_delayed trace)

  -- an access that is missed in a settling is missed if all unknown flags are misses
  wait_within : (x : Bool) {f g : Flag} {w : ℕ} → Settled f g → w ≤ wait → cond (x and misses g) w 0 ≤ cond (x and misses (settle_flag miss f)) wait 0
  unfolding ◌and◌ settle_flag
  wait_within true hit_stays l = omega arith
  wait_within true miss_stays l = l
  wait_within true unknown_hits l = omega arith
  wait_within true unknown_misses l = l
  wait_within false s l = omega arith

  below_worst : {i s : Instruction} (f m : ℕ) → f ≤ wait → m ≤ wait → SettledInstruction i s → SlowerInstruction (with_waits f m s) (with_waits wait wait (settle_instruction miss i))
  unfolding with_waits settle_instruction misses_data ◌and◌
  below_worst {i} {s} f m l n h =
      record {
        kind = sym h.kind;
        fetch = flag_below_misses h.fetch;
        access = flag_below_misses h.access;
        source1 = sym h.source1;
        source2 = sym h.source2;
        target = sym h.target;
        execution_latency = le_of_eq h.execution_latency;
        fetch_latency = omega (arith, h.fetch_latency, wait_within true h.fetch l);
        data_latency = rw (sym h.kind) (omega (arith, h.data_latency, wait_within (is_load s.kind or is_store s.kind) h.access n));
      }

  all_below_worst : {trace settling version : Trace} → Settling trace settling → Delayed wait settling version → Slower version (all_at_worst (settle miss trace))
  unfolding all_at_worst settle
  all_below_worst settled_none delayed_none = slower_none
  all_below_worst (settled_more {i} h hs) (delayed_more d ds) =
      slower_more
      (subst (λ (v : Instruction). SlowerInstruction v (with_waits wait wait (settle_instruction miss i))) (sym d.waited) (below_worst d.on_fetch d.on_data d.fetch_within d.data_within h))
      (all_below_worst hs ds)

  -- the whole wait, on each access that is counted
  flag_kept : (f : Flag) → FlagTo (settle_flag miss f) (settle_flag miss f)
  unfolding settle_flag
  flag_kept hit = hit_hit
  flag_kept miss = miss_miss
  flag_kept unknown = miss_miss

  longer_worst : (i : Instruction) → SlowerInstruction (settle_instruction miss i) (with_waits wait wait (settle_instruction miss i))
  unfolding with_waits settle_instruction
  longer_worst i =
      record {
        kind = refl;
        fetch = flag_kept i.fetch;
        access = flag_kept i.access;
        source1 = refl;
        source2 = refl;
        target = refl;
        execution_latency = le_of_eq refl;
        fetch_latency = omega arith;
        data_latency = omega arith;
      }

  worst_longer : (trace : Trace) → Slower (settle miss trace) (all_at_worst (settle miss trace))
  unfolding all_at_worst settle
  worst_longer [] = slower_none
  worst_longer (i ∷ trace) = slower_more (longer_worst i) (worst_longer trace)

  worst_same : (trace : Trace) → SameFlags trace (all_at_worst trace)
  unfolding with_waits all_at_worst
  worst_same [] = same_none
  worst_same (i ∷ trace) = same_more refl refl (worst_same trace)

  counted : (x : Bool) (f : Flag) → cond (x and misses (settle_flag miss f)) wait 0 ≡ cond (x and not (hits f)) 1 0 * wait
  unfolding ◌and◌ settle_flag
  counted true hit = omega arith
  counted true miss = omega arith
  counted true unknown = omega arith
  counted false f = omega arith

  added_counted : (trace : Trace) → added (settle miss trace) (all_at_worst (settle miss trace)) ≡ accesses trace * wait
  unfolding added all_at_worst with_waits settle settle_instruction misses_data accesses accesses_of counts_fetch counts_data ◌and◌
  added_counted [] = omega arith
  added_counted (i ∷ trace) =
      let fetched : cond (misses (settle_flag miss i.fetch)) wait 0 ≡ cond (counts_fetch i) 1 0 * wait = counted true i.fetch in
      let accessed : cond ((is_load i.kind or is_store i.kind) and misses (settle_flag miss i.access)) wait 0 ≡ cond (counts_data i) 1 0 * wait =
      counted (is_load i.kind or is_store i.kind) i.access in
      rw (add-mul (accesses_of i) (accesses trace) wait, add-mul (cond (counts_fetch i) 1 0) (cond (counts_data i) 1 0) wait)
      (omega (arith, fetched, accessed, added_counted trace))

pub delayed_no_later : DelayedNoLater
unfolding bus_time worst
delayed_no_later h trace settling version wait takes s d =
    let missed = hits_settle (settles miss unknown_misses trace) takes in
    let delayed = hits_delayed (worst_delayed wait (settle miss trace)) missed in
    let later = (ordered h version (all_at_worst wait (settle miss trace)) (hits_delayed d (hits_settle s takes)) delayed (all_below_worst wait s d)).1 in
    let sum = added_at_most_lem h (settle miss trace) (all_at_worst wait (settle miss trace)) missed delayed (worst_longer wait trace) (worst_same wait (settle miss trace)) in
    omega (arith, later, sum, added_counted wait trace)
