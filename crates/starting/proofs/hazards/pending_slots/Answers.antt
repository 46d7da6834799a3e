-- `pending_slots` meets its contract: the six slots one by one.
use Rattle.std.proofs.Common.{refl, sym}
use Rattle.machine.specs.Rules.{IF, ID, EX, MEM, ST, WB}
use Rattle.machine.proofs.Connectives.{and_failed_l}
use Rattle.starting.specs.Inner.{pending_in}
use Rattle.moving.proofs.Seven.{bits_are}
use Rattle.record.specs.Body.{trace_of}
use Rattle.starting.proofs.Held.{is_pending}
use Rattle.starting.proofs.hazards.pending_slots.Goals as goal

pub returns : goal.returns
returns c =
    let w = c.args.w.now in
    let s = w.state in
    let h = w.reads in
    let trace = trace_of w.body.now in
    bits_are (pending_in trace s)
    (sym (and_failed_l _ _ refl))
    (is_pending trace IF s.IF w.fields.IF h.IF c.slot_pending.ensures)
    (is_pending trace ID s.ID w.fields.ID h.ID c.slot_pending-2.ensures)
    (is_pending trace EX s.EX w.fields.EX h.EX c.slot_pending-3.ensures)
    (is_pending trace MEM s.MEM w.fields.MEM (λ _. h.MEM) c.slot_pending-4.ensures)
    (is_pending trace ST s.ST w.fields.ST h.ST c.slot_pending-5.ensures)
    (is_pending trace WB s.WB w.fields.WB h.WB c.slot_pending-6.ensures)
