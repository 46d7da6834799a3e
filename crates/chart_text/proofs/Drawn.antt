-- What `draw` leaves in its output: the chart, or the output as it was where it is too short.
use Prim.Native.Nat.{ℕ, ◌≤◌, ◌<◌}
use mathlib.Core.List.{List}
use mathlib.Core.Path.{◌≡◌, refl, sym}
use native.Mathlib.Omega.{arith}
use borrow.Author.Tests.{le-leb, lt-leb, leb-true, ne_eqb}
use lib.Dec.{eqb, leb}
use lib.ListN.{length, take}
use lib.Seq.{length-take-le}
use Rattle.machine.proofs.Connectives.{Value, passed, failed, value}
use Rattle.record.specs.Body.{trace_with}
use Rattle.job.specs.Open.{open_refusal, open_body}
use Rattle.text.specs.Text.{Wrote}
use Rattle.chart_text.specs.Chart.{chart_of, chart_text, longest, chart_length, chart_output}
use Rattle.text.proofs.Pieces.{length_put}
use Rattle.chart_lines.specs.Lines.{refusal_text}
use Rattle.chart_lines.proofs.Lengths.{refusal_short}
use Rattle.chart_text.proofs.Length.{chart_short}

module _ (file out : List ℕ) where
  pub short_output_lem : length out < longest → (0 ≡ chart_length file (length out)) × (out ≡ chart_output file out)
  unfolding chart_length chart_output
  short_output_lem h = rw (lt-leb longest (length out) h) (refl, refl)

  pub drawn :
      longest ≤ length out →
      {afterwards : List ℕ} {end : ℕ} →
      Wrote 0 (chart_text file) out afterwards end →
      (end ≡ chart_length file (length out)) × (afterwards ≡ chart_output file out)
  unfolding chart_length chart_output
  drawn h {afterwards} {end} (length-is, put-there, inside) =
      let all : end ≡ length (chart_text file) = omega arith in
      rw (le-leb longest (length out) h) (all, put-there)

pub chart_refused : (file : List ℕ) → (open_refusal file 0 ≡ 0 → ⊥) → chart_text file ≡ refusal_text (open_refusal file 0)
unfolding chart_text
chart_refused file h = rw (ne_eqb _ _ h)

pub chart_given : (file : List ℕ) → open_refusal file 0 ≡ 0 → chart_text file ≡ chart_of (trace_with (open_body file 0) 0)
unfolding chart_text
chart_given file e = rw e

text_short : (file : List ℕ) → Value (eqb (open_refusal file 0) 0) → length (chart_text file) ≤ longest
unfolding chart_text
text_short file (passed e) = rw e (chart_short (trace_with (open_body file 0) 0))
text_short file (failed e) =
    let short = refusal_short (open_refusal file 0) in
    rw e (omega arith)

inside : (file out : List ℕ) → Value (leb longest (length out)) → chart_length file (length out) ≤ length (chart_output file out)
unfolding chart_length chart_output
inside file out (passed e) =
    let short = text_short file (value (eqb (open_refusal file 0) 0)) in
    let room = leb-true longest (length out) e in
    let kept = length_put 0 (chart_text file) out (omega arith) in
    rw e (omega arith)
inside file out (failed e) = rw e (omega arith)

-- the chart fits the output
pub chart_inside :
    (file out : List ℕ) {afterwards : List ℕ} {end : ℕ} →
    end ≡ chart_length file (length out) →
    afterwards ≡ chart_output file out →
    (end ≤ length afterwards) × (end ≡ length (take end afterwards))
chart_inside file out {afterwards} {end} e f =
    let within : end ≤ length afterwards = rw (e, f) (inside file out (value (leb longest (length out)))) in
    (within, sym (length-take-le end afterwards within))
