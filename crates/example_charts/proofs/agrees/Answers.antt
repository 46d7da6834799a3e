-- the chart fits its buffer
use Rattle.chart_text.proofs.Drawn.{chart_inside}
use Rattle.example_charts.proofs.agrees.Goals as goal

pub slice_bounds-text-end : goal.slice_bounds-text-end
slice_bounds-text-end g c = (chart_inside _ _ c.draw-end.ensures.0 c.draw-end.ensures.1).0

pub slice_bounds-eq-end : goal.slice_bounds-eq-end
slice_bounds-eq-end g c = (chart_inside _ _ c.draw-end.ensures.0 c.draw-end.ensures.1).1
