-- What is shown of the report, as named types.
use Rattle.std.specs.Prelude.{ℕ, ◌<◌, List, ◌≡◌, length}
use Rattle.record.specs.Body.{trace_with}
use Rattle.job.specs.Layout.{traces}
use Rattle.job.specs.Open.{open_body}
use Rattle.timed_file.specs.Refusal.{timed_file_refusal}
use Rattle.report_figures.specs.Figures.{line_of}
use Rattle.report_lines.specs.Lines.{line_text, header_text, line_bytes}

-- Columns stay aligned for the largest values: for every trace of an accepted file and every 32-bit deadline, the line has the header's length. A
-- column is never narrower than its width, so none is wider either.
pub record LinesAligned : Type 0 where
  pub header : length header_text ≡ line_bytes
  pub line :
      (file : List ℕ) (h : ℕ) →
      timed_file_refusal file h ≡ 0 →
      (t : ℕ) →
      t < traces file →
      (deadline : ℕ) →
      deadline < 4294967296 →
      length (line_text (line_of t (trace_with (open_body file t) h) deadline)) ≡ line_bytes
