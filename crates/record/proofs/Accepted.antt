-- What is known of an accepted body: at most 4,096 records, all whole, each within the rules; no unknown flag, where those are refused too; and where
-- 17 is given, that a data hit takes at most 15 cycles, and fewer than a load's or store's data latency.
use Prim.Native.Nat.{ℕ, zero-le, ◌+◌, ◌*◌, ◌%◌, ◌≤◌, ◌<◌}
use mathlib.Core.Bool.{Bool, true, false, cond, ◌&&◌, ◌||◌}
use mathlib.Core.List.{List}
use mathlib.Core.Path.{◌≡◌, refl, sym, ap, subst, ◌∙◌}
use native.Mathlib.Omega.{arith}
use borrow.Author.Tests.{eqb-true, eqb-false, leb-true, leb-false, eq-eqb, le-leb, lt-leb}
use lib.Dec.{leb, eqb}
use lib.ListN.{length}
use Rattle.machine.specs.Test.{◌or◌, none}
use Rattle.machine.specs.Instruction.{plain, load, store, branch, jump, Instruction, instruction}
use Rattle.machine.specs.Rules.{has_access}
use Rattle.machine.specs.Hits.{HitsTake}
use Rattle.machine.specs.State.{max_instructions}
use Rattle.machine.proofs.Hits.{hits_taken}
use Rattle.little_endian.specs.Numbers.{byte}
use Rattle.record.specs.Layout.{record_size, flags_at}
use Rattle.record.specs.Rules.{has_unknown, not_above, kind_of, instruction_of}
use Rattle.record.specs.Body.{Bytes, records, fields_at, breaks_at, unknown_at, not_above_at, max_hit_cycles, trace_of, trace_with, length_refusal, record_refusal, unknown_refusal, hit_refusal, body_refusal, known_refusal, timed_refusal, settled_refusal}
use Rattle.record.proofs.Refusals.{then_none, then_first, then_second, unless_passed, last_passes}
use Rattle.machine.proofs.Connectives.{Value, passed, failed, value, none_at, none_below}
use Rattle.record.proofs.Instructions.{length_trace_of, instruction_trace_of}
use Rattle.record.proofs.Within.{or_false, and_false, one_of_true, Within, within, flags_within, sized}

pub and_true : (a b : Bool) → (a && b) ≡ true → (a ≡ true) × (b ≡ true)
and_true true b e = (refl, e)
and_true false b e = (e, cc)

-- from the length alone
module _ (body : List ℕ) (lawful : length_refusal body ≡ 0) where
  lengths : (eqb (length body % record_size) 0 ≡ true) × (leb (records body) max_instructions ≡ true)
  unfolding length_refusal
  lengths = and_true _ _ (unless_passed _ _ lawful)

  pub few_by_length : records body ≤ max_instructions
  few_by_length = leb-true _ _ lengths.1

  pub whole_by_length : length body ≡ records body * record_size
  whole_by_length = let rest = eqb-true (length body % record_size) 0 lengths.0 in omega arith

module _ (body : List ℕ) where
  -- what suffices for a body to be accepted; below, what follows from it
  pub accepted_of
      : length body ≡ records body * record_size →
      records body ≤ max_instructions →
      ((k : ℕ) → k < records body → breaks_at body k ≡ false) →
      body_refusal body ≡ 0
  unfolding body_refusal length_refusal record_refusal
  accepted_of whole few lawful =
      then_none _ _ (sym (last_passes _ (rw (eq-eqb (length body % record_size) 0 (omega arith), le-leb (records body) max_instructions few))))
      ∙ sym (last_passes _ (none_below _ _ lawful))

  pub known_of : body_refusal body ≡ 0 → ((k : ℕ) → k < records body → unknown_at body k ≡ false) → known_refusal body ≡ 0
  unfolding known_refusal unknown_refusal
  known_of accepted known = then_none _ _ accepted ∙ sym (last_passes _ (none_below _ _ known))

  module _ (accepted : body_refusal body ≡ 0) where
    parts : (length_refusal body ≡ 0) × (record_refusal body ≡ 0)
    unfolding body_refusal
    parts = (then_first _ _ accepted, then_second _ _ accepted)

    pub lawful_length : length_refusal body ≡ 0
    lawful_length = parts.0

    pub few_records : records body ≤ max_instructions
    few_records = few_by_length body lawful_length

    pub whole_records : length body ≡ records body * record_size
    whole_records = whole_by_length body lawful_length

    pub breaks_none : (k : ℕ) → k < records body → breaks_at body k ≡ false
    unfolding record_refusal
    breaks_none = none_at _ _ (unless_passed _ _ parts.1)

    pub flags_byte : (k : ℕ) → k < records body → byte body (k * record_size + flags_at) ≤ 15
    unfolding breaks_at
    flags_byte k l = flags_within _ _ (breaks_none k l)

    pub fields_within : Bytes body → (k : ℕ) → k < records body → Within (fields_at body k)
    unfolding breaks_at
    fields_within b k l = within _ _ (breaks_none k l) (sized body (k * record_size) b)

  module _ (settled : known_refusal body ≡ 0) where
    both : (body_refusal body ≡ 0) × (unknown_refusal body ≡ 0)
    unfolding known_refusal
    both = (then_first _ _ settled, then_second _ _ settled)

    pub known_accepted : body_refusal body ≡ 0
    known_accepted = both.0

    pub unknown_none : (k : ℕ) → k < records body → unknown_at body k ≡ false
    unfolding unknown_refusal
    unknown_none = none_at _ _ (unless_passed _ _ both.1)

    -- a flag is 0 or 1
    pub flags_known : Bytes body → (k : ℕ) → k < records body → ((fields_at body k).fetch ≤ 1) × ((fields_at body k).access ≤ 1)
    unfolding unknown_at has_unknown
    flags_known b k l =
        let w = fields_within known_accepted b k l in
        let known = or_false (eqb (fields_at body k).fetch 2) (eqb (fields_at body k).access 2) (unknown_none k l) in
        let fetch = eqb-false (fields_at body k).fetch 2 known.0 in
        let access = eqb-false (fields_at body k).access 2 known.1 in
        omega arith

-- a load or store has kind 1 or 2
access_kind : (loads stores branches jumps : Bool) → has_access (cond loads load (cond stores store (cond branches branch (cond jumps jump plain)))) ≡ (loads || stores)
unfolding ◌or◌
access_kind true stores branches jumps = refl
access_kind false true branches jumps = refl
access_kind false false true jumps = refl
access_kind false false false true = refl
access_kind false false false false = refl

pub access_number : (n : ℕ) → has_access (kind_of n) ≡ (eqb n 1 || eqb n 2)
unfolding kind_of
access_number n = access_kind (eqb n 1) (eqb n 2) (eqb n 3) (eqb n 4)

-- its data latency is above 0
pub access_latency : (body : List ℕ) → body_refusal body ≡ 0 → Bytes body → (k : ℕ) → k < records body → has_access (instruction (trace_of body) k).kind ≡ true → 0 < (instruction (trace_of body) k).data_latency
unfolding instruction_of
access_latency body accepted b k l e =
    let this = instruction_trace_of body k l in
    let kind = sym (access_number (fields_at body k).kind) ∙ sym (ap (λ (i : Instruction). has_access i.kind) this) ∙ e in
    rw this ((fields_within body accepted b k l).some_access (one_of_true (fields_at body k).kind 1 2 kind))

module _ (body : List ℕ) (h : ℕ) where
  -- 17 is not given exactly where h is at most 15 and below the data latency of each load and store
  pub hits_of
      : h ≤ max_hit_cycles →
      ((k : ℕ) → k < records body → has_access (instruction (trace_of body) k).kind ≡ true → h < (instruction (trace_of body) k).data_latency) →
      hit_refusal body h ≡ 0
  unfolding hit_refusal not_above_at not_above instruction_of
  hits_of few above =
      sym (last_passes _
      (rw (le-leb h max_hit_cycles few)
      (none_below _ _ (λ k l. fails_at k l (value (eqb (fields_at body k).kind 1 || eqb (fields_at body k).kind 2))))))
    where
      fails_at : (k : ℕ) → k < records body → Value (eqb (fields_at body k).kind 1 || eqb (fields_at body k).kind 2) → ((eqb (fields_at body k).kind 1 || eqb (fields_at body k).kind 2) && leb (fields_at body k).data_latency h) ≡ false
      fails_at k l (passed e) =
          rw (e, lt-leb (fields_at body k).data_latency h (subst (λ (i : Instruction). has_access i.kind ≡ true → h < i.data_latency) (instruction_trace_of body k l) (above k l) (access_number (fields_at body k).kind ∙ e)))
      fails_at k l (failed e) = rw e

  module _ (passes : hit_refusal body h ≡ 0) where
    tests : (leb h max_hit_cycles ≡ true) × (none (not_above_at body h) (records body) ≡ true)
    unfolding hit_refusal
    tests = and_true _ _ (unless_passed _ _ passes)

    pub few_cycles : h ≤ max_hit_cycles
    few_cycles = leb-true _ _ tests.0

    pub above_hit : (k : ℕ) → k < records body → has_access (instruction (trace_of body) k).kind ≡ true → h < (instruction (trace_of body) k).data_latency
    unfolding not_above_at not_above instruction_of
    above_hit k l e =
        let this = instruction_trace_of body k l in
        let some : (eqb (fields_at body k).kind 1 || eqb (fields_at body k).kind 2) ≡ true =
        sym (access_number (fields_at body k).kind) ∙ sym (ap (λ (i : Instruction). has_access i.kind) this) ∙ e in
        rw this (leb-false (fields_at body k).data_latency h (and_false _ _ (none_at _ _ tests.1 k l) some))

    pub body_hits : HitsTake h (trace_with body h)
    body_hits = hits_taken h (trace_of body) (λ k l e. above_hit k (omega (arith, length_trace_of body)) e)

  module _ (passes : timed_refusal body h ≡ 0) where
    pub timed_accepted : body_refusal body ≡ 0
    unfolding timed_refusal
    timed_accepted = then_first _ _ passes

    pub timed_hits : hit_refusal body h ≡ 0
    unfolding timed_refusal
    timed_hits = then_second _ _ passes

  module _ (passes : settled_refusal body h ≡ 0) where
    pub settled_timed : timed_refusal body h ≡ 0
    unfolding settled_refusal
    settled_timed = then_first _ _ passes

    pub settled_known : known_refusal body ≡ 0
    unfolding settled_refusal known_refusal
    settled_known = then_none _ _ (timed_accepted settled_timed) ∙ then_second _ _ passes

  pub timed_of : body_refusal body ≡ 0 → hit_refusal body h ≡ 0 → timed_refusal body h ≡ 0
  unfolding timed_refusal
  timed_of accepted hits = then_none _ _ accepted ∙ hits

  pub settled_of : known_refusal body ≡ 0 → hit_refusal body h ≡ 0 → settled_refusal body h ≡ 0
  unfolding settled_refusal known_refusal
  settled_of known hits = then_none _ _ (timed_of (then_first _ _ known) hits) ∙ then_second _ _ known

-- with h = 0, 17 declines no accepted body
pub zero_hits : (body : List ℕ) → body_refusal body ≡ 0 → Bytes body → hit_refusal body 0 ≡ 0
zero_hits body accepted b = hits_of body 0 zero-le (access_latency body accepted b)

pub zero_timed : (body : List ℕ) → body_refusal body ≡ 0 → Bytes body → timed_refusal body 0 ≡ 0
zero_timed body accepted b = timed_of body 0 accepted (zero_hits body accepted b)
