-- the chart fits its buffer
use Rattle.chart_text.proofs.Drawn.{chart_inside}
use Rattle.chart_command.proofs.main.Goals as goal

pub slice_bounds-text-end : goal.slice_bounds-text-end
slice_bounds-text-end c = (chart_inside _ _ c.draw-end.ensures.0 c.draw-end.ensures.1).0

pub slice_bounds-write_all-end : goal.slice_bounds-write_all-end
slice_bounds-write_all-end c = (chart_inside _ _ c.draw-end.ensures.0 c.draw-end.ensures.1).1
