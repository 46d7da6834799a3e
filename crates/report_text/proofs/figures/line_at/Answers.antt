-- the body is the one that Open hands back, which can be timed
use Rattle.std.proofs.Common.{ℕ, List, ap, ap₂, ◌∙◌}
use Rattle.record.specs.Body.{trace_with, timed_refusal}
use Rattle.timed_file.proofs.Hits.{file_accepted, body_timed}
use Rattle.report_figures.specs.Figures.{line_of}
use Rattle.report_text.specs.Report.{line_at}
use Rattle.report_text.proofs.figures.line_at.Goals as goal

pub body_of-requires : goal.body_of-requires
body_of-requires c = (file_accepted _ _ c.requires.0, c.requires.1)

pub line_of-requires : goal.line_of-requires
line_of-requires c =
    let a = c.args in
    ap (λ (body : List ℕ). timed_refusal body a.hit_cycles) c.body_of.ensures.0
    ∙ body_timed a.file.now a.hit_cycles c.requires.0 a.t c.requires.1

pub returns : goal.returns
unfolding line_at
returns c =
    let a = c.args in
    c.line_of.ensures
    ∙ ap₂
    (λ (body : List ℕ) (deadline : ℕ). line_of a.t (trace_with body a.hit_cycles) deadline)
    c.body_of.ensures.0
    c.deadline_at-deadline.ensures
