-- Demand 3: of the rules it is what the machine's theory shows, at the traces of bodies; the calls answer what the rules give for every body that
-- they do not refuse, and after the finishing time nothing changes. The body of a settling is its encoding.
use Prim.Native.Nat.{ℕ, ◌+◌, ◌≤◌, ◌<◌}
use mathlib.Core.Bool.{false}
use mathlib.Core.List.{List}
use mathlib.Core.Path.{◌≡◌, ap, sym, subst, ◌∙◌}
use native.Mathlib.Omega.{arith}
use borrow.Author.Tests.{eq-eqb}
use lib.ListN.{length}
use Rattle.machine.specs.Instruction.{Flag, hit, miss, unknown, Trace}
use Rattle.machine.specs.Rules.{further, after}
use Rattle.machine.specs.Hits.{with_hits}
use Rattle.machine.specs.Time.{Settled, unknown_hits, unknown_misses, Settling, finish, settle, best, worst}
use Rattle.machine.proofs.Hits.{length_hits, settle_hits, settling_hits, slower_hits, same_flags_hits, added_hits}
use Rattle.machine.proofs.RunStates.{run_stops_places}
use Rattle.machine.proofs.Slower.{slower_length, ordered}
use Rattle.machine.proofs.Longer.{added_at_most_lem}
use Rattle.machine.proofs.Settlings.{settlings_enclosed}
use Rattle.record.specs.Body.{Bytes, records, trace_of, trace_with, known_refusal, timed_refusal, settled_refusal}
use Rattle.encoding.specs.Encoding.{body_of, settled_body}
use Rattle.running.specs.Run.{ran_for, run_answer}
use Rattle.timing.specs.Answers.{finish_answer, best_worst_answer}
use Rattle.claims.specs.Claim.{Passes, Compared, SettlingOf, Attained, Holds, rules, calls, SettlingsCovered, Demand3}
use Rattle.claims.proofs.Hits.{passed_hits, timed_takes, settled_takes, settling_passes}
use Rattle.record.proofs.Accepted.{timed_accepted, settled_of}
use Rattle.record.proofs.Instructions.{length_trace_of}
use Rattle.encoding.proofs.SettledBody.{settlings_are_bodies, settled_body_bytes, settled_body_passes, settled_body_decoded, settled_body_settles}

module _ (h : ℕ) where
  -- a body that 10, 8 and 11 do not decline and whose trace is a settling of one that can be timed
  settled_passes : (body other : List ℕ) → Passes timed_refusal h body → Bytes other → known_refusal other ≡ 0 → Settling (trace_of body) (trace_of other) → SettlingOf h body other
  settled_passes body other p b known settles =
      record {
        passes = record { bytes = b; passes = settled_of other h known (settling_passes h body (passed_hits p) other settles) };
        settles = settles;
      }

  -- the body with every unknown flag made one flag attains its trace's time
  attained : (to : Flag) → Settled unknown to → (body : List ℕ) → Passes timed_refusal h body → Attained h (rules h) body (finish (settle to (trace_with body h)))
  attained to u body p =
      let accepted = timed_accepted body h p.passes in
      record {
        settling = settled_body to body;
        settles =
            settled_passes body (settled_body to body) p
            (settled_body_bytes to u body p.bytes accepted)
            (settled_body_passes to u body p.bytes accepted)
            (settled_body_settles to u body p.bytes accepted);
        attains =
            ap (λ (trace : Trace). finish (with_hits h trace)) (settled_body_decoded to u body p.bytes accepted)
            ∙ ap finish (sym (settle_hits h to (trace_of body)));
      }

  length_timed : (body : List ℕ) → length (trace_with body h) ≡ records body
  length_timed body = length_hits h (trace_of body) ∙ length_trace_of body

  rules_hold : Holds h (rules h)
  unfolding best worst
  rules_hold =
      record {
        ordered = λ first second c cycles i l. (in_order_lem first second c).0 cycles i (omega (arith, length_timed first));
        later = λ first second c. (in_order_lem first second c).1;
        added_at_most =
            λ first second c same.
            subst (λ (sum : ℕ). finish (trace_with second h) ≤ finish (trace_with first h) + sum) (added_hits h (trace_of first) (trace_of second))
            (added_at_most_lem h (trace_with first h) (trace_with second h) (settled_takes c.first_passes) (settled_takes c.second_passes) (slower_hits h c.slower) (same_flags_hits h same));
        enclosed = λ body settling p s. (settlings_enclosed h (trace_with body h) (timed_takes p)).0 (trace_with settling h) (settling_hits h s.settles);
        best_attained = attained hit unknown_hits;
        worst_attained = attained miss unknown_misses;
      }
    where
      in_order_lem : (first second : List ℕ) → Compared h first second →
          ((t i : ℕ) → i < length (trace_with first h) → further (after (trace_with second h) t i) (after (trace_with first h) t i) ≡ false)
          × (finish (trace_with first h) ≤ finish (trace_with second h))
      in_order_lem first second c =
          ordered h (trace_with first h) (trace_with second h) (settled_takes c.first_passes) (settled_takes c.second_passes) (slower_hits h c.slower)

  same_records : (first second : List ℕ) → Compared h first second → records second ≡ records first
  same_records first second c = sym (length_trace_of second) ∙ slower_length c.slower ∙ length_trace_of first

  -- what the calls answer for a body that they do not refuse
  module _ (body : List ℕ) where
    pub run_answered : Passes settled_refusal h body → (limit i : ℕ) → i < records body → (calls h).places body limit i ≡ (rules h).places body limit i
    unfolding run_answer ran_for
    run_answered p limit i l =
        rw (eq-eqb (settled_refusal body h) 0 p.passes)
        (run_stops_places (trace_with body h) limit i (omega (arith, length_timed body)))

    pub finish_answered : Passes settled_refusal h body → (calls h).time body ≡ (rules h).time body
    unfolding finish_answer
    finish_answered p = rw (eq-eqb (settled_refusal body h) 0 p.passes)

    best_answered : Passes timed_refusal h body → (calls h).best body ≡ (rules h).best body
    unfolding best_worst_answer
    best_answered p = rw (eq-eqb (timed_refusal body h) 0 p.passes)

    pub worst_answered : Passes timed_refusal h body → (calls h).worst body ≡ (rules h).worst body
    unfolding best_worst_answer
    worst_answered p = rw (eq-eqb (timed_refusal body h) 0 p.passes)

  -- a time that a settling attains by the rules it attains by the calls
  answered : (body : List ℕ) {time answer : ℕ} → answer ≡ time → Attained h (rules h) body time → Attained h (calls h) body answer
  answered body e a =
      record {
        settling = a.settling;
        settles = a.settles;
        attains = finish_answered a.settling a.settles.passes ∙ a.attains ∙ sym e;
      }

  calls_hold : Holds h (calls h)
  calls_hold =
      record {
        ordered =
            λ first second c limit i l.
            rw (run_answered first c.first_passes limit i l, run_answered second c.second_passes limit i (omega (arith, same_records first second c)))
            (rules_hold.ordered first second c limit i l);
        later =
            λ first second c.
            rw (finish_answered first c.first_passes, finish_answered second c.second_passes) (rules_hold.later first second c);
        added_at_most =
            λ first second c same.
            rw (finish_answered first c.first_passes, finish_answered second c.second_passes) (rules_hold.added_at_most first second c same);
        enclosed =
            λ body settling p s.
            rw (best_answered body p, worst_answered body p, finish_answered settling s.passes) (rules_hold.enclosed body settling p s);
        best_attained = λ body p. answered body (best_answered body p) (rules_hold.best_attained body p);
        worst_attained = λ body p. answered body (worst_answered body p) (rules_hold.worst_attained body p);
      }

  settlings_covered : SettlingsCovered h
  settlings_covered body p settling s =
      let is_body = settlings_are_bodies body p.bytes (timed_accepted body h p.passes) settling s in
      record {
        encoding = body_of settling;
        settles = settled_passes body (body_of settling) p is_body.0 is_body.1 (subst (Settling (trace_of body)) (sym is_body.2) s);
        decodes = is_body.2;
      }

pub demand_3 : Demand3
demand_3 h = (rules_hold h, calls_hold h, settlings_covered h)
