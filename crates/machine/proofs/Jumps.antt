-- With branches in place of its jumps a trace goes on as it did: the rules ask of a kind only what a jump and a branch share, and of a target only
-- where a load has it.
use Prim.Native.Nat.{ℕ, zero, suc, ◌+◌, ◌-◌, ◌*◌}
use mathlib.Core.Bool.{Bool, not, cond}
use mathlib.Core.List.{[], ◌∷◌}
use mathlib.Core.Path.{◌≡◌, refl, sym, ap, ap₂, ◌∙◌}
use lib.Dec.{ltb, leb, eqb}
use lib.ListN.{length}
use Rattle.machine.specs.Test.{◌and◌, ◌or◌, every, none}
use Rattle.machine.specs.Instruction.{Kind, plain, load, store, branch, jump, Flag, hit, miss, Instruction, Trace, instruction}
use Rattle.machine.specs.Rules.{Stage, pre, IF, ID, EX, MEM, ST, WB, post, Places, next, same, short_of, is_load, is_store, has_access, holds_fetches, hits, misses, entry, no_older, carries, reads_in_ID, reads_in_EX, no_load_into, misses_data, ready_in, ready, budget, moves_within, will_be_free_within, moves, cycle, after, all_left}
use Rattle.machine.specs.Time.{bound, least_from, finish, settle_instruction, settle, best, worst}
use Rattle.machine.specs.Bus.{counts_fetch, counts_data, accesses_of, accesses, bus_time}
use Rattle.machine.specs.State.{slot, younger, orderly}
use Rattle.machine.specs.declared.State.{State}
use Rattle.machine.specs.Jumps.{branch_kind, branch_target, as_branch, as_branches}
use Rattle.machine.specs.Claims.{JumpsAsBranches}
use Rattle.machine.proofs.Doing.{next_in, next_in_lem}

-- what the rules ask of a kind
holds : (k : Kind) → holds_fetches (branch_kind k) ≡ holds_fetches k
holds plain = refl
holds load = refl
holds store = refl
holds branch = refl
holds jump = refl

loads : (k : Kind) → is_load (branch_kind k) ≡ is_load k
loads plain = refl
loads load = refl
loads store = refl
loads branch = refl
loads jump = refl

stores : (k : Kind) → is_store (branch_kind k) ≡ is_store k
stores plain = refl
stores load = refl
stores store = refl
stores branch = refl
stores jump = refl

next_same : (k : Kind) (s : Stage) → next (branch_kind k) s ≡ next k s
next_same k s = next_in_lem (branch_kind k) s ∙ ap (λ (lane : Bool). next_in lane s) (stores k) ∙ sym (next_in_lem k s)

accesses_of_lem : (k : Kind) → has_access (branch_kind k) ≡ has_access k
accesses_of_lem k = λ t. loads k t or stores k t

-- of a target only where a load has it
load_into : (k : Kind) (x : Bool) (test : ℕ → Bool) (target : ℕ) → (is_load (branch_kind k) and x and test (branch_target k target)) ≡ (is_load k and x and test target)
unfolding ◌and◌
load_into plain x test target = refl
load_into load x test target = refl
load_into store x test target = refl
load_into branch x test target = refl
load_into jump x test target = refl

-- and of an instruction
entry_same : (i : Instruction) (s : Stage) → entry (as_branch i) s ≡ entry i s
unfolding entry
entry_same i pre = refl
entry_same i IF = refl
entry_same i ID = refl
entry_same i EX = refl
entry_same i MEM = λ t. cond (loads i.kind t) (cond (misses i.access) i.data_latency i.hit_cycles) 0
entry_same i ST = refl
entry_same i WB = refl
entry_same i post = refl

reads_in_ID_lem : (i : Instruction) → reads_in_ID (as_branch i) ≡ reads_in_ID i
unfolding reads_in_ID
reads_in_ID_lem i = λ t register. carries i.source1 register or (not (stores i.kind t) and carries i.source2 register)

reads_in_EX_lem : (i : Instruction) → reads_in_EX (as_branch i) ≡ reads_in_EX i
unfolding reads_in_EX
reads_in_EX_lem i = λ t register. stores i.kind t and carries i.source2 register

misses_data_lem : (i : Instruction) → misses_data (as_branch i) ≡ misses_data i
unfolding misses_data
misses_data_lem i = λ t. accesses_of_lem i.kind t and misses i.access

instruction_as : (trace : Trace) (k : ℕ) → instruction (as_branches trace) k ≡ as_branch (instruction trace k)
unfolding as_branches
instruction_as [] k = refl
instruction_as (i ∷ trace) zero = refl
instruction_as (i ∷ trace) (suc k) = instruction_as trace k

length_as : (trace : Trace) → length (as_branches trace) ≡ length trace
unfolding as_branches
length_as [] = refl
length_as (i ∷ trace) = ap suc (length_as trace)

bound_as : (trace : Trace) → bound (as_branches trace) ≡ bound trace
unfolding bound as_branches
bound_as [] = refl
bound_as (i ∷ trace) = λ t.
    (6 + i.execution_latency + i.fetch_latency + cond (accesses_of_lem i.kind t) (cond (misses i.access) i.data_latency i.hit_cycles) 0)
    + bound_as trace t

settle_as : (to : Flag) (trace : Trace) → settle to (as_branches trace) ≡ as_branches (settle to trace)
unfolding settle settle_instruction as_branches
settle_as to [] = refl
settle_as to (i ∷ trace) = ap₂ ◌∷◌ refl (settle_as to trace)

accesses_as : (trace : Trace) → accesses (as_branches trace) ≡ accesses trace
unfolding accesses accesses_of counts_fetch counts_data as_branches
accesses_as [] = refl
accesses_as (i ∷ trace) = λ t.
    cond (not (hits i.fetch)) 1 0 + cond (accesses_of_lem i.kind t and not (hits i.access)) 1 0 + accesses_as trace t

module _ (trace : Trace) where
  abbrev there : Trace
  there = as_branches trace

  -- what the rules ask of instruction j
  at : {A : Type 0} (f : Instruction → A) → ((i : Instruction) → f (as_branch i) ≡ f i) → (j : ℕ) → f (instruction there j) ≡ f (instruction trace j)
  at f same j = ap f (instruction_as trace j) ∙ same (instruction trace j)

  holds_at : (j : ℕ) → holds_fetches (instruction there j).kind ≡ holds_fetches (instruction trace j).kind
  holds_at = at (λ i. holds_fetches i.kind) (λ i. holds i.kind)

  loads_at : (j : ℕ) → is_load (instruction there j).kind ≡ is_load (instruction trace j).kind
  loads_at = at (λ i. is_load i.kind) (λ i. loads i.kind)

  stores_at : (j : ℕ) → is_store (instruction there j).kind ≡ is_store (instruction trace j).kind
  stores_at = at (λ i. is_store i.kind) (λ i. stores i.kind)

  entry_at_lem : (j : ℕ) (s : Stage) → entry (instruction there j) s ≡ entry (instruction trace j) s
  entry_at_lem j s = at (λ i. entry i s) (λ i. entry_same i s) j

  module _ (places : Places) where
    -- who is ready
    no_store_lem : (i : ℕ) → no_older there places i (λ j p. is_store j.kind and short_of p ST 0) ≡ no_older trace places i (λ j p. is_store j.kind and short_of p ST 0)
    unfolding no_older
    no_store_lem i = λ t. none (λ j. stores_at j t and short_of (places j) ST 0) i

    no_load_into_lem : (i : ℕ) (a b : ℕ → Bool) → a ≡ b → no_load_into there places i a ≡ no_load_into trace places i b
    unfolding no_older
    no_load_into_lem i a b e = λ t.
        none (λ j. at (λ k. is_load k.kind and short_of (places j) MEM 0 and e t k.target) (λ k. load_into k.kind (short_of (places j) MEM 0) (e t) k.target) j t) i

    ready_in_lem : (s : Stage) (i : ℕ) → ready_in s there places i ≡ ready_in s trace places i
    unfolding ready_in no_older
    ready_in_lem pre i = λ t.
        none (λ j. same (places j).stage pre) i
        and none (λ j. holds_at j t and short_of (places j) EX 0) i
        and (at (λ k. hits k.fetch) (λ k. refl) i t or (none (λ j. loads_at j t and short_of (places j) MEM 0) i and no_store_lem i t))
    ready_in_lem IF i = refl
    ready_in_lem ID i = no_load_into_lem i _ _ (at reads_in_ID reads_in_ID_lem i)
    ready_in_lem EX i = λ t.
        (not (at misses_data misses_data_lem i t) or no_store_lem i t)
        and no_load_into_lem i _ _ (at reads_in_EX reads_in_EX_lem i) t
    ready_in_lem MEM i = refl
    ready_in_lem ST i = refl
    ready_in_lem WB i = refl
    ready_in_lem post i = refl

    next_at : (i : ℕ) (s : Stage) → next (instruction there i).kind s ≡ next (instruction trace i).kind s
    next_at i s = at (λ k. next k.kind s) (λ k. next_same k.kind s) i

    -- who moves
    mutual
      unfolding moves_within ready

      moves_within_lem : (b i : ℕ) → moves_within b there places i ≡ moves_within b trace places i
      moves_within_lem zero i = refl
      moves_within_lem (suc b) i = λ t.
          eqb (places i).count 0
          and ready_in_lem (places i).stage i t
          and free_within b (next_at i (places i).stage t) t

      free_within : (b : ℕ) (s : Stage) → will_be_free_within b there places s ≡ will_be_free_within b trace places s
      free_within zero s = refl
      free_within (suc b) s = λ t.
          same s post or every (λ j. not (same (places j).stage s) or moves_within_lem b j t) (length_as trace t)

    cycle_at : cycle there places ≡ cycle trace places
    unfolding cycle moves
    cycle_at = λ t i.
        cond (moves_within_lem (budget (places i).stage) i t)
        (record {
          stage = next_at i (places i).stage t;
          count = entry_at_lem i (next_at i (places i).stage t) t;
        })
        (record { stage = (places i).stage; count = (places i).count - 1 })

  -- which states are orderly
  module _ (s : State) where
    abbrev in_turn : Stage → Bool
    in_turn stage = not (slot s stage).filled or eqb ((slot s stage).index + younger s stage + 1) s.fetched

    abbrev counted : (ℕ → Stage → ℕ) → Stage → Bool
    counted most stage =
        cond (slot s stage).filled
        (leb (slot s stage).count (most (slot s stage).index stage))
        (eqb (slot s stage).index 0 and eqb (slot s stage).count 0)

    orderly_as : orderly there s ≡ orderly trace s
    unfolding orderly
    orderly_as = λ t.
        leb s.fetched (length_as trace t)
        and in_turn IF
        and in_turn ID
        and in_turn EX
        and in_turn MEM
        and in_turn WB
        and (not s.WB.filled or not (stores_at s.WB.index t))
        and (not s.ST.filled or ltb (s.ST.index + younger s ST) s.fetched)
        and (not s.ST.filled or stores_at s.ST.index t)
        and counted (λ k stage. entry_at_lem k stage t) IF
        and counted (λ k stage. entry_at_lem k stage t) ID
        and counted (λ k stage. entry_at_lem k stage t) EX
        and counted (λ k stage. entry_at_lem k stage t) MEM
        and counted (λ k stage. entry_at_lem k stage t) ST
        and counted (λ k stage. entry_at_lem k stage t) WB

  after_as : (t : ℕ) → after there t ≡ after trace t
  unfolding after
  after_as zero = refl
  after_as (suc t) = ap (cycle there) (after_as t) ∙ cycle_at (after trace t)

  finish_as : finish there ≡ finish trace
  unfolding finish all_left
  finish_as = λ t. least_from (λ n. every (λ i. same (after_as n t i).stage post) (length_as trace t)) (bound_as trace t) 0

settled_as : (to : Flag) (trace : Trace) → finish (settle to (as_branches trace)) ≡ finish (settle to trace)
settled_as to trace = ap finish (settle_as to trace) ∙ finish_as (settle to trace)

pub jumps_as_branches : JumpsAsBranches
unfolding best worst bus_time
jumps_as_branches trace =
    record {
      cycles = λ places i. ap (λ (at : Places). at i) (cycle_at trace places);
      places = λ t i. ap (λ (at : Places). at i) (after_as trace t);
      states = orderly_as trace;
      time = finish_as trace;
      best = settled_as hit trace;
      worst = settled_as miss trace;
      on_bus = λ longest t. settled_as miss trace t + accesses_as trace t * longest;
    }
