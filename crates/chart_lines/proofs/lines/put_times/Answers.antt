-- two numbers, each after its label
use Rattle.std.proofs.Common.{[], ◌∷◌, arith}
use Rattle.text.proofs.Pens.{adds_then, adds_as}
use Rattle.chart_lines.proofs.Lengths.{labelled_short, times_joined}
use Rattle.chart_lines.proofs.lines.put_times.Goals as goal

pub put_labelled-requires-2 : goal.put_labelled-requires-2
put_labelled-requires-2 c =
    let short = labelled_short (119 ∷ 111 ∷ 114 ∷ 115 ∷ 116 ∷ 32 ∷ []) c.args.worst in
    omega arith

pub byte-requires : goal.byte-requires
byte-requires c =
    let short = labelled_short (119 ∷ 111 ∷ 114 ∷ 115 ∷ 116 ∷ 32 ∷ []) c.args.worst in
    let more = labelled_short (32 ∷ 98 ∷ 101 ∷ 115 ∷ 116 ∷ 32 ∷ []) c.args.best in
    omega arith

pub returns : goal.returns
returns c =
    adds_as (times_joined _ _) (adds_then (adds_then c.put_labelled.ensures c.put_labelled-2.ensures) c.byte.ensures)
