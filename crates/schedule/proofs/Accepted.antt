-- What a pass over an accepted body needs: the trace's bound is within the limit, and at each instruction the functions of this crate may be called and
-- lead to the next.
use Prim.Native.Nat.{ℕ, ◌+◌, ◌≤◌, ◌<◌}
use mathlib.Core.List.{List}
use mathlib.Core.Bool.{Bool, true, false, cond}
use mathlib.Core.Logic.{inr}
use mathlib.Core.Path.{◌≡◌, sym, ap, subst, ◌∙◌}
use native.Mathlib.Omega.{arith}
use borrow.Author.Tests.{lt-ltb, eqb-true}
use lib.ListN.{length}
use Rattle.machine.specs.Instruction.{Flag, Instruction, Trace, instruction}
use Rattle.machine.specs.Rules.{is_store, has_access, entry}
use Rattle.machine.specs.Hits.{with_hit}
use Rattle.machine.specs.Time.{bound, max_time, settle_flag, settle_instruction, settle}
use Rattle.machine.proofs.Bounds.{Limited, bound_limited}
use Rattle.machine.proofs.Finish.{finish_bounded}
use Rattle.machine.proofs.Hits.{length_hits, instruction_hits, settle_hits}
use Rattle.machine.proofs.Window.{Window, Times, times_from, slide, window_before, times_at}
use Rattle.machine.proofs.WindowBounds.{TimesWithin}
use Rattle.record.specs.declared.layout.Fields.{Fields}
use Rattle.record.specs.declared.layout.Fields.{Fields}
use Rattle.record.specs.Rules.{kind_of, flag_of, instruction_of}
use Rattle.record.specs.Body.{Bytes, records, fields_at, firsts, trace_of, trace_with, max_hit_cycles, body_refusal, timed_refusal, read_answer}
use Rattle.record.proofs.Accepted.{access_number, few_records, fields_within, timed_accepted, timed_hits, few_cycles}
use Rattle.record.proofs.Instructions.{length_trace_of, instruction_trace_of}
use Rattle.record.proofs.Within.{OneOf, Within}
use Rattle.schedule.specs.Claims.{FinishWithin}
use Rattle.schedule.specs.Inner.{Room}
use Rattle.decode.specs.Inner.{AccessLawful}
use Rattle.decode.proofs.Numbers.{store_number}
use Rattle.schedule.proofs.Pass.{pass_fits, pass_room, pass_times, pass_slides}
use Rattle.settling.proofs.Settled.{length_settle, instruction_settle}

hit_limited : (x : Bool) (h : ℕ) → h ≤ max_hit_cycles → cond x h 0 ≤ 65535
hit_limited true h few = omega arith
hit_limited false h few = omega arith

within_limited : (to : Flag) (h : ℕ) (f : Fields) → Within f → h ≤ max_hit_cycles → Limited (with_hit h (settle_instruction to (instruction_of f)))
unfolding instruction_of settle_instruction
within_limited to h f w few =
    record {
      execution_latency = w.execution;
      fetch_latency = w.fetch_latency.1;
      data_latency = w.data_latency;
      hit_cycles = hit_limited (has_access (kind_of f.kind)) h few;
    }

-- a lawful record stands for an instruction whose access is lawful, settled or not
store_kind : (n : ℕ) → is_store (kind_of n) ≡ true → OneOf n 1 2
store_kind n e = inr (eqb-true n 2 (store_number n ∙ e))

within_lawful : (f : Fields) → Within f → AccessLawful (instruction_of f)
unfolding instruction_of flag_of
within_lawful f w =
    record {
      no_access = λ e. ap flag_of (w.no_access (sym (access_number f.kind) ∙ e)).0;
      some_access = λ e. w.some_access (store_kind f.kind e);
    }

settled_lawful : (to : Flag) (i : Instruction) → AccessLawful i → AccessLawful (settle_instruction to i)
unfolding settle_instruction settle_flag
settled_lawful to i lawful = record { no_access = λ e. ap (settle_flag to) (lawful.no_access e); some_access = lawful.some_access }

module _ (body : List ℕ) (h : ℕ) (to : Flag) where
  abbrev timed : Trace
  timed = settle to (trace_with body h)

  pub length_settled : length timed ≡ records body
  length_settled = length_settle to (trace_with body h) ∙ length_hits h (trace_of body) ∙ length_trace_of body

  -- an instruction is settled as its record is read, and then has the cycles of a hit
  pub settled_timed : (k : ℕ) → instruction timed k ≡ with_hit h (instruction (settle to (trace_of body)) k)
  settled_timed k = ap (λ (t : Trace). instruction t k) (settle_hits h to (trace_of body)) ∙ instruction_hits h (settle to (trace_of body)) k

  settled_at : (k : ℕ) → k < records body → instruction (settle to (trace_of body)) k ≡ settle_instruction to (instruction_of (fields_at body k))
  settled_at k inside = instruction_settle to (trace_of body) k ∙ ap (settle_instruction to) (instruction_trace_of body k inside)

  module _ (b : Bytes body) (passes : timed_refusal body h ≡ 0) where
    accepted : body_refusal body ≡ 0
    accepted = timed_accepted body h passes

    few : h ≤ max_hit_cycles
    few = few_cycles body h (timed_hits body h passes)

    pub settled_small : bound timed ≤ max_time
    settled_small =
        bound_limited timed (omega (arith, length_settled, few_records body accepted)) λ k l.
        let inside : k < records body = omega (arith, length_settled) in
        subst Limited (sym (settled_timed k ∙ ap (with_hit h) (settled_at k inside)))
        (within_limited to h (fields_at body k) (fields_within body accepted b k inside) few)

    -- One turn of a pass: with the window before instruction k of the settled trace, and that instruction as it is read, the code gives its times and
    -- the window before the next.
    module _ (k : ℕ) (inside : k < records body) {w : Window} {i : Instruction} (at : w ≡ window_before timed k) (read : i ≡ instruction (settle to (trace_of body)) k) where
      this : with_hit h i ≡ instruction timed k
      this = ap (with_hit h) read ∙ sym (settled_timed k)

      in_trace : k < length timed
      in_trace = omega (arith, length_settled)

      lawful : AccessLawful i
      lawful =
          subst AccessLawful (sym (read ∙ settled_at k inside))
          (settled_lawful to (instruction_of (fields_at body k)) (within_lawful (fields_at body k) (fields_within body accepted b k inside)))

      pub turn_fits : TimesWithin max_time (times_from w (with_hit h i)) × AccessLawful i × (h ≤ max_hit_cycles)
      turn_fits = (pass_fits timed settled_small k in_trace at this, lawful, few)

      module _ {e : Times} (times : e ≡ times_from w (with_hit h i)) where
        pub turn_room : Room i e
        unfolding entry
        turn_room = pass_room timed settled_small k in_trace at this times

        pub turn_times : e ≡ times_at timed k
        turn_times = pass_times timed settled_small k in_trace at this times

        pub turn_slides : {v : Window} → v ≡ slide w i e → v ≡ window_before timed (k + 1)
        unfolding slide entry
        turn_slides = pass_slides timed settled_small k in_trace at this times

pub finish_within : FinishWithin
finish_within body h b passes to = omega (arith, finish_bounded (settle to (trace_with body h)), settled_small body h to b passes)

module _ (body : List ℕ) where
  -- the first k instructions, which a pass has read when it comes to instruction k
  unfoldable pub read_first : ℕ → Trace
  read_first k = firsts (λ j. instruction_of (fields_at body j)) k

  pub read_fields : (k : ℕ) → k < records body → {f : Fields} → f ≡ (read_answer body k).fields → f ≡ fields_at body k
  unfolding read_answer
  read_fields k inside e = e ∙ rw (lt-ltb _ _ inside)
