-- `held_back` meets its contract: the six slots one by one.
use Rattle.std.proofs.Common.{ap}
use Rattle.machine.specs.Rules.{IF, ID, EX, MEM, ST, WB}
use Rattle.machine.specs.Named.{stage_named}
use Rattle.moving.specs.Inner.{Bits}
use Rattle.record.specs.Body.{trace_of}
use Rattle.starting.proofs.Held.{held_by, holds}
use Rattle.starting.proofs.hazards.Waiting.held_back.Goals as goal

pub returns : goal.returns
returns c =
    λ ei.
    let a = c.args in
    let w = a.self.now.standing.now in
    let s = w.state in
    let h = w.reads in
    let p = a.self.now.found in
    let trace = trace_of w.body.now in
    let at = stage_named a.stage in
    held_by trace s at a.index
    (holds trace at a.index IF s.IF ei h.IF (ap (λ (b : Bits). b.IF) p) c.holds_back.ensures)
    (holds trace at a.index ID s.ID ei h.ID (ap (λ (b : Bits). b.ID) p) c.holds_back-2.ensures)
    (holds trace at a.index EX s.EX ei h.EX (ap (λ (b : Bits). b.EX) p) c.holds_back-3.ensures)
    (holds trace at a.index MEM s.MEM ei (λ _. h.MEM) (ap (λ (b : Bits). b.MEM) p) c.holds_back-4.ensures)
    (holds trace at a.index ST s.ST ei h.ST (ap (λ (b : Bits). b.ST) p) c.holds_back-5.ensures)
    (holds trace at a.index WB s.WB ei h.WB (ap (λ (b : Bits). b.WB) p) c.holds_back-6.ensures)
