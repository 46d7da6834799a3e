-- What `report` gives is its answer and its output: on a refusal, where the number of deadlines or the room is wrong, and with the report; and the
-- report fits the output.
use Prim.Native.Nat.{ℕ, ◌≤◌, ◌<◌}
use mathlib.Core.Bool.{true, false}
use mathlib.Core.List.{List}
use mathlib.Core.Path.{◌≡◌, refl, sym, ap, ◌∙◌}
use native.Mathlib.Omega.{arith}
use borrow.Author.Tests.{eq-eqb, ne_eqb, le-leb, lt-leb, leb-true, eqb-true}
use lib.Dec.{eqb}
use lib.ListN.{length, take}
use lib.Seq.{length-take-le}
use Rattle.machine.proofs.Connectives.{Value, passed, failed, value, and_l, and_r, and_both, and_failed_l, and_failed_r}
use Rattle.job.specs.Layout.{traces}
use Rattle.timed_file.specs.Refusal.{timed_file_refusal}
use Rattle.text.specs.Text.{Wrote}
use Rattle.text.proofs.Pieces.{length_put}
use Rattle.report_text.specs.Report.{report_text, longest, serves, written, report_answer, report_output}
use Rattle.report_text.specs.declared.whole.Reported.{Reported}
use Rattle.report_text.proofs.Fits.{report_short}

module _ (file deadlines out : List ℕ) (h : ℕ) where
  abbrev Given : Reported → List ℕ → Type 0
  Given r afterwards = (r ≡ report_answer file deadlines (length out) h) × (afterwards ≡ report_output file deadlines out h)

  pub refused : {r : ℕ} → r ≡ timed_file_refusal file h → (r ≡ 0 → ⊥) → Given (record { refusal = r; traces = 0; length = 0 }) out
  unfolding report_answer report_output written
  refused e some = let none = ap (λ (n : ℕ). eqb n 0) (sym e) ∙ ne_eqb _ _ some in rw (and_failed_l _ _ (and_failed_l _ _ none)) (rw (none, ← e) refl, refl)

  module _ (accepted : timed_file_refusal file h ≡ 0) {all : ℕ} (count : all ≡ traces file) where
    pub unserved : serves (length deadlines) all ≡ false → Given (record { refusal = 0; traces = all; length = 0 }) out
    unfolding report_answer report_output written
    unserved s =
        let none = sym (ap (serves (length deadlines)) count) ∙ s in
        rw (and_failed_l _ _ (and_failed_r _ _ none)) (rw (accepted, count) refl, refl)

    module _ (served : serves (length deadlines) all ≡ true) where
      some : serves (length deadlines) (traces file) ≡ true
      some = sym (ap (serves (length deadlines)) count) ∙ served

      pub cramped : length out < longest → Given (record { refusal = 0; traces = all; length = 0 }) out
      unfolding report_answer report_output written
      cramped few = rw (and_failed_r _ _ (lt-leb longest (length out) few)) (rw (accepted, count) refl, refl)

      pub reported :
          longest ≤ length out →
          {afterwards : List ℕ} {end : ℕ} →
          Wrote 0 (report_text file deadlines h) out afterwards end →
          Given (record { refusal = 0; traces = all; length = end }) afterwards
      unfolding report_answer report_output written
      reported room {afterwards} {end} (length-is, put-there, inside) =
          let whole : end ≡ length (report_text file deadlines h) = omega arith in
          rw (and_both _ _ (and_both _ _ (eq-eqb _ 0 accepted) some) (le-leb longest (length out) room)) (rw (accepted, count, whole) refl, put-there)

  inside : Value (written file deadlines (length out) h) → (report_answer file deadlines (length out) h).length ≤ length (report_output file deadlines out h)
  unfolding report_answer report_output written
  inside (passed e) =
      let short = report_short file h (eqb-true _ _ (and_l _ _ (and_l _ _ e))) deadlines in
      let room = leb-true longest (length out) (and_r _ _ e) in
      let kept = length_put 0 (report_text file deadlines h) out (omega arith) in
      rw e (omega arith)
  inside (failed e) = rw e (omega arith)

  -- the report fits the output
  pub report_inside :
      {r : Reported} {afterwards : List ℕ} →
      Given r afterwards →
      (r.length ≤ length afterwards) × (r.length ≡ length (take r.length afterwards))
  report_inside {r} {afterwards} (e, f) =
      let within : r.length ≤ length afterwards = rw (e, f) (inside (value (written file deadlines (length out) h))) in
      (within, sym (length-take-le r.length afterwards within))
