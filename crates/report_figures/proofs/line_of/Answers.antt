-- the times are the definition's: all unknown flags as hits, and as misses
use Rattle.machine.specs.Time.{best, worst}
use Rattle.machine.proofs.Hits.{length_hits}
use Rattle.record.specs.Body.{trace_of}
use Rattle.record.proofs.Accepted.{few_records, timed_accepted}
use Rattle.record.proofs.Instructions.{length_trace_of}
use Rattle.report_figures.specs.Figures.{line_of}
use Rattle.report_figures.proofs.Flags.{unknown_hits}
use Rattle.report_figures.proofs.line_of.Goals as goal

pub count-requires : goal.count-requires
count-requires c = few_records _ (timed_accepted _ _ c.requires)

pub unknown_flags-requires : goal.unknown_flags-requires
unknown_flags-requires c = timed_accepted _ _ c.requires

pub returns : goal.returns
unfolding line_of best worst
returns c =
    let body = c.args.body.now in
    let h = c.args.hit_cycles in
    rw (
      c.finish_settled.ensures,
      c.finish_settled-2.ensures,
      c.unknown_flags.ensures,
      unknown_hits h (trace_of body),
      c.count.ensures,
      length_hits h (trace_of body),
      length_trace_of body,
    )
