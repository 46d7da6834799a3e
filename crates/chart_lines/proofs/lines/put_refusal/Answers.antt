-- the number after its label, and the end of the line
use Rattle.std.proofs.Common.{[], ◌∷◌, arith}
use Rattle.text.proofs.Pens.{adds_then}
use Rattle.chart_lines.specs.Lines.{refusal_text}
use Rattle.chart_lines.proofs.Lengths.{labelled_short}
use Rattle.chart_lines.proofs.lines.put_refusal.Goals as goal

pub byte-requires : goal.byte-requires
byte-requires c =
    let short = labelled_short (114 ∷ 101 ∷ 102 ∷ 117 ∷ 115 ∷ 101 ∷ 100 ∷ 32 ∷ []) c.args.number in
    omega arith

pub returns : goal.returns
unfolding refusal_text
returns c = adds_then c.put_labelled.ensures c.byte.ensures
