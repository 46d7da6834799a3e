-- `body_of` meets its contract: the part between the body's bounds.
use Rattle.std.proofs.Common.{subst}
use Rattle.record.specs.Part.{StartsAt}
use Rattle.job.specs.declared.table.Bounds.{Bounds}
use Rattle.job.proofs.Part.{bounds_lie, bounds_body}
use Rattle.parts.proofs.body_of.Goals as goal

pub part-requires : goal.part-requires
part-requires c = bounds_lie _ _ c.requires.0 c.requires.1 c.bounds_of.result c.bounds_of.ensures

pub returns : goal.returns
returns c = (
  bounds_body _ _ c.requires.0 c.requires.1 c.bounds_of.result c.bounds_of.ensures c.part.ensures.0,
  subst (λ (b : Bounds). StartsAt c.args.file b.start c.part.result) c.bounds_of.ensures c.part.ensures.1,
)
