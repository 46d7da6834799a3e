-- Where a data hit takes no cycles, the amended rules are document 01's.
use Prim.Native.Nat.{ℕ, zero, suc, ◌-◌, ◌≤◌}
use mathlib.Core.Bool.{Bool, true, false, cond}
use mathlib.Core.List.{[], ◌∷◌}
use mathlib.Core.Path.{◌≡◌, refl, sym, ap, ◌∙◌}
use native.Mathlib.Omega.{arith}
use Rattle.machine.specs.Test.{◌and◌}
use Rattle.machine.specs.Instruction.{Instruction, Trace, instruction}
use Rattle.machine.specs.Rules.{Stage, pre, IF, ID, EX, MEM, ST, WB, post, Places, next, is_load, has_access, misses, entry, moves, cycle, after, all_left}
use Rattle.machine.specs.Time.{bound, finish}
use Rattle.machine.specs.Hits.{with_hits}
use Rattle.machine.specs.Before.{entry_before, cycle_before, after_before, bound_before, finish_before}
use Rattle.machine.specs.Claims.{ZeroIsBefore}
use Rattle.machine.proofs.Hits.{instruction_hits}
use Rattle.machine.proofs.Finish.{least_from_lem, finish_is_least, finish_bounded}

no_cycles : (b : Bool) → ◌≡◌ {A = ℕ} (cond b 0 0) 0
no_cycles true = refl
no_cycles false = refl

-- the count of a load, and of a store
load_count : (loads missed : Bool) (n : ℕ) → cond loads (cond missed n 0) 0 ≡ cond (loads and missed) n 0
unfolding ◌and◌
load_count true missed n = refl
load_count false missed n = refl

count_before : (i : Instruction) → i.hit_cycles ≡ 0 → (s : Stage) → entry i s ≡ entry_before i s
unfolding entry entry_before
count_before i e pre = refl
count_before i e IF = refl
count_before i e ID = refl
count_before i e EX = refl
count_before i e MEM = rw e (load_count (is_load i.kind) (misses i.access) i.data_latency)
count_before i e ST = rw e
count_before i e WB = refl
count_before i e post = refl

-- a kind without an access and a hit add no more than the latency
data_before : (x missed : Bool) (n : ℕ) → cond x (cond missed n 0) 0 ≤ n
data_before true true n = omega arith
data_before true false n = omega arith
data_before false missed n = omega arith

bound_before_lem : (trace : Trace) → bound (with_hits 0 trace) ≤ bound_before (with_hits 0 trace)
unfolding with_hits bound bound_before
bound_before_lem [] = omega arith
bound_before_lem (i ∷ trace) =
    let p = bound_before_lem trace in
    rw (no_cycles (has_access i.kind)) (omega (arith, data_before (has_access i.kind) (misses i.access) i.data_latency, p))

module _ (given : Trace) where
  abbrev trace : Trace
  trace = with_hits 0 given

  none_taken : (k : ℕ) → (instruction trace k).hit_cycles ≡ 0
  none_taken k =
      ap (λ (i : Instruction). i.hit_cycles) (instruction_hits 0 given k) ∙ no_cycles (has_access (instruction given k).kind)

  counts : (i : ℕ) (s : Stage) → entry (instruction trace i) s ≡ entry_before (instruction trace i) s
  counts i s = count_before (instruction trace i) (none_taken i) s

  cycles : (places : Places) → cycle trace places ≡ cycle_before trace places
  unfolding cycle cycle_before
  cycles places = λ t i.
      cond (moves trace places i)
      (record {
        stage = next (instruction trace i).kind (places i).stage;
        count = counts i (next (instruction trace i).kind (places i).stage) t;
      })
      (record { stage = (places i).stage; count = (places i).count - 1 })

  places : (t : ℕ) → after trace t ≡ after_before trace t
  unfolding after after_before
  places zero = refl
  places (suc t) = ap (cycle trace) (places t) ∙ cycles (after_before trace t)

  left : (t : ℕ) → all_left trace (after_before trace t) ≡ all_left trace (after trace t)
  left t = ap (all_left trace) (sym (places t))

  time : finish trace ≡ finish_before trace
  unfolding finish_before
  time =
      sym
      (least_from_lem (λ t. all_left trace (after_before trace t)) (bound_before trace) 0 (finish trace)
      (λ u l. left u ∙ (finish_is_least trace).1 u l)
      (left (finish trace) ∙ (finish_is_least trace).0)
      (omega arith)
      (let p = finish_bounded trace in let q = bound_before_lem given in omega arith))

pub zero_is_before : ZeroIsBefore
zero_is_before trace =
    record {
      counts = counts trace;
      cycles = λ from i. ap (λ (at : Places). at i) (cycles trace from);
      places = λ t i. ap (λ (at : Places). at i) (places trace t);
      time = time trace;
    }
