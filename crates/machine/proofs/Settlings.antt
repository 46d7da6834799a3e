-- Every settling finishes between the one with all hits and the one with all misses, and both are settlings: all hits are at most as slow as
-- any settling, and any settling at most as slow as all misses.
use mathlib.Core.List.{[], ◌∷◌}
use mathlib.Core.Path.{refl, sym}
use native.Mathlib.Nat.{le_of_eq}
use Rattle.machine.specs.Instruction.{Flag, hit, miss, unknown, Trace}
use Rattle.machine.specs.Time.{Settled, hit_stays, miss_stays, unknown_hits, unknown_misses, Settling, settled_none, settled_more, settle_flag, settle, best, worst}
use Rattle.machine.specs.Order.{FlagTo, hit_hit, hit_miss, miss_miss, Slower, slower_none, slower_more}
use Rattle.machine.specs.Claims.{SettlingsEnclosed}
use Rattle.machine.proofs.Hits.{hits_settle}
use Rattle.machine.proofs.Slower.{ordered}

flag_settled : (to : Flag) → Settled unknown to → (flag : Flag) → Settled flag (settle_flag to flag)
unfolding settle_flag
flag_settled to u hit = hit_stays
flag_settled to u miss = miss_stays
flag_settled to u unknown = u

flag_above_hits : {f g : Flag} → Settled f g → FlagTo (settle_flag hit f) g
unfolding settle_flag
flag_above_hits hit_stays = hit_hit
flag_above_hits miss_stays = miss_miss
flag_above_hits unknown_hits = hit_hit
flag_above_hits unknown_misses = hit_miss

pub flag_below_misses : {f g : Flag} → Settled f g → FlagTo g (settle_flag miss f)
unfolding settle_flag
flag_below_misses hit_stays = hit_hit
flag_below_misses miss_stays = miss_miss
flag_below_misses unknown_hits = hit_miss
flag_below_misses unknown_misses = miss_miss

pub settles : (to : Flag) → Settled unknown to → (trace : Trace) → Settling trace (settle to trace)
unfolding settle
settles to u [] = settled_none
settles to u (i ∷ trace) =
    settled_more
    (record {
      kind = refl;
      fetch = flag_settled to u i.fetch;
      access = flag_settled to u i.access;
      source1 = refl;
      source2 = refl;
      target = refl;
      execution_latency = refl;
      fetch_latency = refl;
      data_latency = refl;
      hit_cycles = refl;
    })
    (settles to u trace)

slower_than_hits : {trace settling : Trace} → Settling trace settling → Slower (settle hit trace) settling
unfolding settle
slower_than_hits settled_none = slower_none
slower_than_hits (settled_more h rest) =
    slower_more
    (record {
      kind = h.kind;
      fetch = flag_above_hits h.fetch;
      access = flag_above_hits h.access;
      source1 = h.source1;
      source2 = h.source2;
      target = h.target;
      execution_latency = le_of_eq (sym h.execution_latency);
      fetch_latency = le_of_eq (sym h.fetch_latency);
      data_latency = le_of_eq (sym h.data_latency);
    })
    (slower_than_hits rest)

misses_slower : {trace settling : Trace} → Settling trace settling → Slower settling (settle miss trace)
unfolding settle
misses_slower settled_none = slower_none
misses_slower (settled_more h rest) =
    slower_more
    (record {
      kind = sym h.kind;
      fetch = flag_below_misses h.fetch;
      access = flag_below_misses h.access;
      source1 = sym h.source1;
      source2 = sym h.source2;
      target = sym h.target;
      execution_latency = le_of_eq h.execution_latency;
      fetch_latency = le_of_eq h.fetch_latency;
      data_latency = le_of_eq h.data_latency;
    })
    (misses_slower rest)

pub settlings_enclosed : SettlingsEnclosed
unfolding best worst
settlings_enclosed h trace takes = (
  λ settling s. (
    (ordered h (settle hit trace) settling (hits_settle (settles hit unknown_hits trace) takes) (hits_settle s takes) (slower_than_hits s)).1,
    (ordered h settling (settle miss trace) (hits_settle s takes) (hits_settle (settles miss unknown_misses trace) takes) (misses_slower s)).1,
  ),
  settles hit unknown_hits trace,
  settles miss unknown_misses trace,
)
