use Rattle.std.proofs.Common.{◌≡◌, ◌+◌, ◌*◌, ℕ, refl, sym, ap, ap₂, ◌∙◌, add-one, arith}
use Rattle.text.proofs.Pens.{adds_nothing, adds_then, adds_as}
use Rattle.report_figures.specs.Figures.{met}
use Rattle.report_lines.specs.Lines.{line_text, line_bytes}
use Rattle.report_text.specs.Report.{lines_text, met_below}
use Rattle.report_text.proofs.Fits.{few_traces, line_small}
use Rattle.report_text.proofs.whole.put_lines.Goals as goal

pub loop-t-init : goal.loop-t-init
unfolding lines_text met_below
loop-t-init c = (refl, omega arith, omega arith, adds_nothing _ (omega arith))

pub line_at-line-requires : goal.line_at-line-requires
line_at-line-requires c = (c.requires.0, omega arith)

pub put_line-requires : goal.put_line-requires
put_line-requires c =
    let a = c.args in
    let small =
    line_small a.file.now a.hit_cycles c.requires.0 a.deadlines.now c.loop-t.t (omega arith) c.line_at-line.ensures in
    (small.0, small.1, omega arith)

pub overflow_add-met : goal.overflow_add-met
overflow_add-met c = let few = few_traces _ _ c.requires.0 in omega arith

pub loop-t-preserved : goal.loop-t-preserved
unfolding lines_text met_below
loop-t-preserved c =
    let a = c.args in
    let file = a.file.now in
    let deadlines = a.deadlines.now in
    let t = c.loop-t.t in
    let i = c.loop-t.invariant in
    let line = c.line_at-line.ensures in (
      ap₂ (λ (m n : ℕ). m + n) i.0 (c.met_by-met.ensures.0 ∙ ap met line) ∙ ap (met_below file deadlines a.hit_cycles) (sym (add-one t)),
      omega arith,
      omega arith,
      adds_as (ap (lines_text file deadlines a.hit_cycles) (sym (add-one t)))
          (adds_then i.3 (adds_as (ap line_text line) c.put_line.ensures.1)),
    )

pub returns : goal.returns
returns c =
    let a = c.args in
    let i = c.loop-t.invariant in
    let end : c.loop-t.t ≡ a.all = omega arith in (
      i.0 ∙ ap (met_below a.file.now a.deadlines.now a.hit_cycles) end,
      i.2 ∙ ap (λ (n : ℕ). a.pen.now.at + line_bytes * n) end,
      adds_as (ap (lines_text a.file.now a.deadlines.now a.hit_cycles) end) i.3,
    )
