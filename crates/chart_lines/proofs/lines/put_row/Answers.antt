-- the cycle, the six slots and the line's end are one text
use Rattle.std.proofs.Common.{◌≡◌, [], ◌∷◌, ◌++◌, ℕ, List, take, length-append, append_assoc, ap, ◌∙◌, arith}
use Rattle.std.specs.List.{flat_map}
use Rattle.text.specs.Text.{decimal}
use Rattle.text.proofs.Pieces.{decimal_short}
use Rattle.text.proofs.Pens.{adds_then, adds_as}
use Rattle.chart_lines.specs.Lines.{slot_text}
use Rattle.chart_lines.proofs.Lengths.{slots, first_slots_short, slots_more, row_joined}
use Rattle.chart_lines.proofs.lines.put_row.Goals as goal

pub decimal-requires : goal.decimal-requires
decimal-requires c = let short = decimal_short c.args.cycle in omega arith

pub put_slot-requires : goal.put_slot-requires
put_slot-requires c =
    let k = c.loop-slot.slot-index in
    let short = decimal_short c.args.cycle in
    let some = first_slots_short (slots c.args.s) k (omega arith) in
    omega (arith, length-append (decimal c.args.cycle) (flat_map slot_text (take k (slots c.args.s))))

pub loop-slot-preserved : goal.loop-slot-preserved
loop-slot-preserved c =
    let all = slots c.args.s in
    let k = c.loop-slot.slot-index in
    adds_as (append_assoc (decimal c.args.cycle) (flat_map slot_text (take k all)) _ ∙ ap (λ (t : List ℕ). decimal c.args.cycle ++ t) (slots_more all k _ c.loop-slot-test.true))
    (adds_then c.loop-slot.invariant c.put_slot.ensures)

pub byte-requires : goal.byte-requires
byte-requires c =
    let k = c.loop-slot.slot-index in
    let short = decimal_short c.args.cycle in
    let some = first_slots_short (slots c.args.s) k (omega arith) in
    omega (arith, length-append (decimal c.args.cycle) (flat_map slot_text (take k (slots c.args.s))))

pub returns : goal.returns
returns c =
    let all = slots c.args.s in
    let end : c.loop-slot.slot-index ≡ 6 = omega arith in
    adds_as (ap (λ (k : ℕ). decimal c.args.cycle ++ flat_map slot_text (take k all) ++ (10 ∷ [])) end ∙ row_joined c.args.cycle c.args.s)
    (adds_then c.loop-slot.invariant c.byte.ensures)
