-- Traces whose data hits take cycles: what `with_hits` makes of a trace, instruction by instruction, and which traces have one h throughout that 17 does
-- not decline. Past its end a trace reads as a plain instruction, which has no data hit, so that what is said of each instruction is said of that too.
use Prim.Native.Nat.{ℕ, zero, suc, ◌<◌}
use mathlib.Core.Bool.{Bool, true, false, cond}
use mathlib.Core.List.{[], ◌∷◌}
use mathlib.Core.Path.{◌≡◌, refl, sym, ap, ap₂, subst, ◌∙◌}
use native.Mathlib.Omega.{arith}
use lib.ListN.{length}
use Rattle.machine.specs.Test.{◌or◌}
use Rattle.machine.specs.Instruction.{Flag, Instruction, Trace, blank, instruction}
use Rattle.machine.specs.Rules.{has_access, misses_data}
use Rattle.machine.specs.Time.{SettledInstruction, Settling, settled_none, settled_more, with_waits, DelayedInstruction, Delayed, delayed_none, delayed_more, settle_instruction, settle}
use Rattle.machine.specs.Order.{SlowerInstruction, Slower, slower_none, slower_more, SameFlags, same_none, same_more, added}
use Rattle.machine.specs.Hits.{with_hit, with_hits, HitTakes, HitsTake}
use Rattle.machine.proofs.Connectives.{clash}

-- instruction by instruction
pub length_hits : (h : ℕ) (trace : Trace) → length (with_hits h trace) ≡ length trace
unfolding with_hits
length_hits h [] = refl
length_hits h (i ∷ trace) = ap suc (length_hits h trace)

pub instruction_hits : (h : ℕ) (trace : Trace) (k : ℕ) → instruction (with_hits h trace) k ≡ with_hit h (instruction trace k)
unfolding with_hits ◌or◌
instruction_hits h [] k = refl
instruction_hits h (i ∷ trace) zero = refl
instruction_hits h (i ∷ trace) (suc k) = instruction_hits h trace k

-- settlings, pairs and sums are not a matter of the hits' cycles
pub settle_hits : (h : ℕ) (to : Flag) (trace : Trace) → settle to (with_hits h trace) ≡ with_hits h (settle to trace)
unfolding with_hits settle settle_instruction
settle_hits h to [] = refl
settle_hits h to (i ∷ trace) = ap₂ ◌∷◌ refl (settle_hits h to trace)

hit_settled : (h : ℕ) {i s : Instruction} → SettledInstruction i s → SettledInstruction (with_hit h i) (with_hit h s)
hit_settled h settled =
    record {
      kind = settled.kind;
      fetch = settled.fetch;
      access = settled.access;
      source1 = settled.source1;
      source2 = settled.source2;
      target = settled.target;
      execution_latency = settled.execution_latency;
      fetch_latency = settled.fetch_latency;
      data_latency = settled.data_latency;
      hit_cycles = rw settled.kind;
    }

pub settling_hits : (h : ℕ) {trace settling : Trace} → Settling trace settling → Settling (with_hits h trace) (with_hits h settling)
unfolding with_hits
settling_hits h settled_none = settled_none
settling_hits h (settled_more s rest) = settled_more (hit_settled h s) (settling_hits h rest)

hit_slower : (h : ℕ) {a b : Instruction} → SlowerInstruction a b → SlowerInstruction (with_hit h a) (with_hit h b)
hit_slower h s =
    record {
      kind = s.kind;
      fetch = s.fetch;
      access = s.access;
      source1 = s.source1;
      source2 = s.source2;
      target = s.target;
      execution_latency = s.execution_latency;
      fetch_latency = s.fetch_latency;
      data_latency = s.data_latency;
    }

pub slower_hits : (h : ℕ) {first second : Trace} → Slower first second → Slower (with_hits h first) (with_hits h second)
unfolding with_hits
slower_hits h slower_none = slower_none
slower_hits h (slower_more s rest) = slower_more (hit_slower h s) (slower_hits h rest)

pub same_flags_hits : (h : ℕ) {first second : Trace} → SameFlags first second → SameFlags (with_hits h first) (with_hits h second)
unfolding with_hits
same_flags_hits h same_none = same_none
same_flags_hits h (same_more f g rest) = same_more f g (same_flags_hits h rest)

pub added_hits : (h : ℕ) (first second : Trace) → added (with_hits h first) (with_hits h second) ≡ added first second
unfolding with_hits added
added_hits h [] second = refl
added_hits h (a ∷ first) [] = refl
added_hits h (a ∷ first) (b ∷ second) = let e = added_hits h first second in omega arith

hit_delays : (h : ℕ) {wait : ℕ} {i v : Instruction} → DelayedInstruction wait i v → DelayedInstruction wait (with_hit h i) (with_hit h v)
unfolding with_waits misses_data
hit_delays h d =
    record { on_fetch = d.on_fetch; on_data = d.on_data; fetch_within = d.fetch_within; data_within = d.data_within; waited = ap (with_hit h) d.waited }

pub delayed_hits : (h : ℕ) {wait : ℕ} {trace version : Trace} → Delayed wait trace version → Delayed wait (with_hits h trace) (with_hits h version)
unfolding with_hits
delayed_hits h delayed_none = delayed_none
delayed_hits h (delayed_more d rest) = delayed_more (hit_delays h d) (delayed_hits h rest)

-- a trace whose data hits take none is as it is with h = 0
no_cycles : (b : Bool) → ◌≡◌ {A = ℕ} (cond b 0 0) 0
no_cycles true = refl
no_cycles false = refl

hit_none : (i : Instruction) → i.hit_cycles ≡ 0 → with_hit 0 i ≡ i
hit_none i e =
    λ t.
    record {
      kind = i.kind;
      fetch = i.fetch;
      access = i.access;
      source1 = i.source1;
      source2 = i.source2;
      target = i.target;
      execution_latency = i.execution_latency;
      fetch_latency = i.fetch_latency;
      data_latency = i.data_latency;
      hit_cycles = (no_cycles (has_access i.kind) ∙ sym e) t;
    }

pub hits_none : (trace : Trace) → ((k : ℕ) → k < length trace → (instruction trace k).hit_cycles ≡ 0) → with_hits 0 trace ≡ trace
unfolding with_hits
hits_none [] none = refl
hits_none (i ∷ trace) none = ap₂ ◌∷◌ (hit_none i (none 0 (omega arith))) (hits_none trace (λ k l. none (suc k) (omega arith)))

-- one h throughout
blank_takes : (h : ℕ) → HitTakes h blank
unfolding ◌or◌
blank_takes h = record { cycles = λ e. clash e refl; above = λ e. clash e refl }

pub hit_at : {h : ℕ} (trace : Trace) → HitsTake h trace → (k : ℕ) → HitTakes h (instruction trace k)
hit_at {h} [] p k = blank_takes h
hit_at (i ∷ trace) p zero = p 0 (omega arith)
hit_at (i ∷ trace) p (suc k) = hit_at trace (λ j l. p (suc j) (omega arith)) k

hit_taken : (h : ℕ) (i : Instruction) → (has_access i.kind ≡ true → h < i.data_latency) → HitTakes h (with_hit h i)
hit_taken h i above = record { cycles = λ e. rw e; above = above }

pub hits_taken : (h : ℕ) (trace : Trace) → ((k : ℕ) → k < length trace → has_access (instruction trace k).kind ≡ true → h < (instruction trace k).data_latency) → HitsTake h (with_hits h trace)
hits_taken h trace above k l =
    subst (HitTakes h) (sym (instruction_hits h trace k))
    (hit_taken h (instruction trace k) (above k (let e = length_hits h trace in omega arith)))

hit_settles : {h : ℕ} {i s : Instruction} → SettledInstruction i s → HitTakes h i → HitTakes h s
hit_settles settled takes =
    record {
      cycles = λ e. settled.hit_cycles ∙ takes.cycles (sym (ap has_access settled.kind) ∙ e);
      above = λ e. rw settled.data_latency (takes.above (sym (ap has_access settled.kind) ∙ e));
    }

pub hits_settle : {h : ℕ} {trace settling : Trace} → Settling trace settling → HitsTake h trace → HitsTake h settling
hits_settle settled_none p k l = p k l
hits_settle (settled_more s rest) p zero l = hit_settles s (p 0 (omega arith))
hits_settle (settled_more s rest) p (suc k) l = hits_settle rest (λ j m. p (suc j) (omega arith)) k (omega arith)

hit_waits : {h : ℕ} (on_fetch on_data : ℕ) (i : Instruction) → HitTakes h i → HitTakes h (with_waits on_fetch on_data i)
unfolding with_waits
hit_waits on_fetch on_data i takes = record { cycles = takes.cycles; above = λ e. let l = takes.above e in omega arith }

hit_delayed : {h wait : ℕ} {i v : Instruction} → DelayedInstruction wait i v → HitTakes h i → HitTakes h v
hit_delayed {h} {i = i} d takes = subst (HitTakes h) (sym d.waited) (hit_waits d.on_fetch d.on_data i takes)

pub hits_delayed : {h wait : ℕ} {trace version : Trace} → Delayed wait trace version → HitsTake h trace → HitsTake h version
hits_delayed delayed_none p k l = p k l
hits_delayed (delayed_more d rest) p zero l = hit_delayed d (p 0 (omega arith))
hits_delayed (delayed_more d rest) p (suc k) l = hits_delayed rest (λ j m. p (suc j) (omega arith)) k (omega arith)
