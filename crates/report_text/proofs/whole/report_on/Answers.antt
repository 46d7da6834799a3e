-- by cases of the number of deadlines and the room
use Rattle.std.proofs.Common.{rules, sym, ◌∙◌, arith}
use Rattle.text.proofs.Pens.{adds_whole}
use Rattle.report_text.proofs.Fits.{few_traces, report_some}
use Rattle.report_text.proofs.Given.{unserved, cramped, reported}
use Rattle.report_text.proofs.whole.report_on.Goals as goal

pub returns-then-not-serve-clause-answer : goal.returns-then-not-serve-clause-answer
returns-then-not-serve-clause-answer c =
    let a = c.args in
    unserved a.file.now a.deadlines.now a.out.now a.hit_cycles c.requires c.half-traces.ensures.0
    (sym c.serve.ensures ∙ c.if-not-serve.true)

pub returns-then-out-lt-REPORT_BYTES-clause-answer : goal.returns-then-out-lt-REPORT_BYTES-clause-answer
returns-then-out-lt-REPORT_BYTES-clause-answer c =
    let a = c.args in
    cramped a.file.now a.deadlines.now a.out.now a.hit_cycles c.requires c.half-traces.ensures.0
    (sym c.serve.ensures ∙ c.if-not-serve.false) (omega arith)

pub put_report-requires : goal.put_report-requires
put_report-requires c =
    let few = few_traces _ _ c.requires in
    let start = c.new-pen.ensures.start in
    (c.requires, c.half-traces.ensures.0, omega arith, rw start.1 (omega arith))

pub returns-clause-answer : goal.returns-clause-answer
returns-clause-answer c =
    let a = c.args in
    let wrote = adds_whole _ a.out.now c.new-pen.ensures.start c.put_report.ensures in
    let h = reported a.file.now a.deadlines.now a.out.now a.hit_cycles c.requires c.half-traces.ensures.0
    (sym c.serve.ensures ∙ c.if-not-serve.false) (omega arith) wrote in
    let same = c.put_report.ensures.same_output in
    let start = c.new-pen.ensures.same_output in
    search (rules, h, same, start)

pub returns-clause-written : goal.returns-clause-written
returns-clause-written c =
    let some = report_some c.args.file.now c.args.deadlines.now c.args.hit_cycles in
    let end = c.put_report.ensures.wrote.0 in omega (arith, some, end, c.written.ensures)
