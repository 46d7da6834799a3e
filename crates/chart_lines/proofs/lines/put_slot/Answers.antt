-- a space, then index:count or a dash
use Rattle.std.proofs.Common.{sym, arith}
use Rattle.text.proofs.Pieces.{decimal_short}
use Rattle.text.proofs.Pens.{adds_then, adds_as}
use Rattle.chart_lines.proofs.Lengths.{slot_filled, slot_empty}
use Rattle.chart_lines.proofs.lines.put_slot.Goals as goal

pub decimal-requires : goal.decimal-requires
decimal-requires c = let short = decimal_short c.args.s.index in omega arith

pub byte-requires-then-s : goal.byte-requires-then-s
byte-requires-then-s c = let short = decimal_short c.args.s.index in omega arith

pub decimal-requires-then-s : goal.decimal-requires-then-s
decimal-requires-then-s c =
    let short = decimal_short c.args.s.index in let more = decimal_short c.args.s.count in omega arith

pub returns-then-s : goal.returns-then-s
returns-then-s c =
    adds_as (sym (slot_filled _ c.if-s.true))
    (adds_then (adds_then (adds_then c.byte.ensures c.decimal.ensures) c.byte-then-s.ensures) c.decimal-then-s.ensures)

pub returns-else-s : goal.returns-else-s
returns-else-s c = adds_as (sym (slot_empty _ c.if-s.false)) (adds_then c.byte.ensures c.byte-else-s.ensures)
