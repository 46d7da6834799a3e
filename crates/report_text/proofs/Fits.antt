-- The lines of an accepted file fit their columns, so that the whole report is no longer than an output must be.
use Prim.Native.Nat.{ℕ, zero, suc, ◌*◌, ◌≤◌, ◌<◌}
use mathlib.Core.List.{List, [], ◌∷◌, ◌++◌}
use mathlib.Core.Path.{◌≡◌, refl, sym, subst}
use native.Mathlib.Omega.{arith}
use lib.ListN.{length, length-append}
use Rattle.record.specs.Body.{trace_of, trace_with}
use Rattle.record.proofs.Accepted.{few_records, timed_accepted}
use Rattle.machine.proofs.Hits.{length_hits}
use Rattle.record.proofs.Instructions.{length_trace_of}
use Rattle.job.specs.Layout.{traces}
use Rattle.job.specs.Open.{open_body}
use Rattle.job.proofs.Accepted.{file_fine}
use Rattle.timed_file.specs.Refusal.{timed_file_refusal}
use Rattle.timed_file.proofs.Hits.{file_accepted, body_timed}
use Rattle.text.specs.Text.{space, newline, decimal, spaces, right}
use Rattle.text.proofs.Pieces.{decimal_short}
use Rattle.report_figures.specs.Figures.{unknown_flags, line_of}
use Rattle.report_lines.specs.Lines.{line_text, column, header_text, line_bytes, hit_text, hit_bytes, last_text, last_bytes}
use Rattle.report_text.specs.Report.{deadline_at, line_at, lines_text, met_below, report_text, longest}
use Rattle.report_text.specs.Claims.{LinesAligned}
use Rattle.report_figures.specs.declared.Line.{Line}
use Rattle.report_figures.proofs.Flags.{unknown_few}
use Rattle.report_lines.proofs.Columns.{line_width}

last_short : (met all : ℕ) → length (last_text met all) ≤ last_bytes
unfolding last_text
last_short met all =
    let of = space ∷ 111 ∷ 102 ∷ space ∷ [] in
    let end = space ∷ 100 ∷ 101 ∷ 97 ∷ 100 ∷ 108 ∷ 105 ∷ 110 ∷ 101 ∷ 115 ∷ space ∷ 109 ∷ 101 ∷ 116 ∷ newline ∷ [] in
    let three = length-append (decimal met ++ of ++ decimal all) end in
    let two = length-append (decimal met ++ of) (decimal all) in
    let one = length-append (decimal met) of in
    omega (arith, decimal_short met, decimal_short all)

pub hit_short : (h : ℕ) → length (hit_text h) ≤ hit_bytes
unfolding hit_text
hit_short zero = omega arith
hit_short (suc h) =
    let text : List ℕ = 99 ∷ 121 ∷ 99 ∷ 108 ∷ 101 ∷ 115 ∷ space ∷ 111 ∷ 102 ∷ space ∷ 97 ∷ space ∷ 100 ∷ 97 ∷ 116 ∷ 97 ∷ space ∷ 104 ∷ 105 ∷ 116 ∷ 58 ∷ space ∷ [] in
    let two = length-append (text ++ decimal (suc h)) (newline ∷ []) in
    let one = length-append text (decimal (suc h)) in
    omega (arith, decimal_short (suc h))

pub header_width : length header_text ≡ line_bytes
unfolding header_text column right spaces
header_width = refl

module _ (file : List ℕ) (h : ℕ) (accepted : timed_file_refusal file h ≡ 0) where
  pub few_traces : traces file ≤ 16
  few_traces = (file_fine file (file_accepted file h accepted)).table.few

  few_flags : (t : ℕ) → t < traces file → unknown_flags (trace_with (open_body file t) h) ≤ 8192
  few_flags t inside =
      let body = open_body file t in
      let records = few_records body (timed_accepted body h (body_timed file h accepted t inside)) in
      let flags = unknown_few (trace_with body h) in
      omega (arith, length_hits h (trace_of body), length_trace_of body)

  -- for any deadline
  line_fits : (t : ℕ) → t < traces file → (deadline : ℕ) → length (line_text (line_of t (trace_with (open_body file t) h) deadline)) ≡ line_bytes
  unfolding line_of
  line_fits t inside deadline =
      line_width _ (omega (arith, few_traces)) (omega (arith, few_flags t inside))

  module _ (deadlines : List ℕ) where
    pub line_small : (t : ℕ) → t < traces file → {line : Line} → line ≡ line_at file deadlines h t → (line.number < 100000) × (line.unknown < 10000000)
    unfolding line_at line_of
    line_small t inside e =
        subst
        (λ (l : Line). (l.number < 100000) × (l.unknown < 10000000))
        (sym e)
        (omega (arith, few_traces), omega (arith, few_flags t inside))

    pub lines_width : (n : ℕ) → n ≤ traces file → length (lines_text file deadlines h n) ≡ line_bytes * n
    unfolding lines_text line_at
    lines_width zero few = refl
    lines_width (suc t) few =
        let both = length-append (lines_text file deadlines h t) (line_text (line_at file deadlines h t)) in
        let line : length (line_text (line_at file deadlines h t)) ≡ line_bytes = line_fits t (omega arith) (deadline_at deadlines t) in
        let rest = lines_width t (omega arith) in
        omega arith

    pub report_short : length (report_text file deadlines h) ≤ longest
    unfolding report_text
    report_short =
        let all = traces file in
        let met = met_below file deadlines h all in
        let whole = length-append (header_text ++ lines_text file deadlines h all ++ hit_text h) (last_text met all) in
        let middle = length-append (header_text ++ lines_text file deadlines h all) (hit_text h) in
        let start = length-append header_text (lines_text file deadlines h all) in
        let lines = lines_width all (omega arith) in
        omega (arith, header_width, few_traces, hit_short h, last_short met all)

pub lines_aligned : LinesAligned
lines_aligned = record { header = header_width; line = λ file h accepted t inside deadline small. line_fits file h accepted t inside deadline }

-- a report has its header at least
pub report_some : (file deadlines : List ℕ) (h : ℕ) → 0 < length (report_text file deadlines h)
unfolding report_text header_text column right spaces
report_some file deadlines h = omega arith
