-- `starts` meets its contract: bit by bit; only in pre, ID and EX can something be held back.
use Rattle.std.proofs.Common.{Bool, refl, sym, ap, ◌∙◌}
use mathlib.Core.Bool.{not}
use lib.Dec.{ltb}
use Rattle.machine.specs.Rules.{pre, IF, MEM, ST, WB}
use Rattle.machine.specs.Test.{◌and◌}
use Rattle.machine.proofs.Connectives.{and_true}
use Rattle.machine.proofs.BySlots.{standing, held_back, goes}
use Rattle.machine.proofs.Hazards.{waits_for, asks_for}
use Rattle.record.specs.Body.{trace_of}
use Rattle.starting.specs.Inner.{opens, starts}
use Rattle.moving.proofs.Seven.{bits_are}
use Rattle.starting.proofs.Held.{goes_free}
use Rattle.decode.proofs.Joined.{both_of}
use Rattle.starting.proofs.ready.starts.Goals as goal

pub returns : goal.returns
unfolding standing goes asks_for waits_for
returns c =
    λ e.
    let w = c.args.w.now in
    let s = w.state in
    let h = w.reads in
    let trace = trace_of w.body.now in
    bits_are (starts trace s)
    (c.fetchable.ensures
    ∙ ap (λ (b : Bool). b and not (held_back trace s pre s.fetched) and opens s.IF) (ap (ltb s.fetched) (sym e) ∙ sym (and_true _)))
    (both_of (c.counted_down.ensures ∙ goes_free trace s IF s.IF.index (λ i j. refl) _) c.opens.ensures)
    (c.released.ensures h.ID)
    (c.released-2.ensures h.EX)
    (c.counted_down-2.ensures ∙ goes_free trace s MEM s.MEM.index (λ i j. refl) _ ∙ sym (and_true _))
    (c.counted_down-3.ensures ∙ goes_free trace s ST s.ST.index (λ i j. refl) _ ∙ sym (and_true _))
    (c.counted_down-4.ensures ∙ goes_free trace s WB s.WB.index (λ i j. refl) _ ∙ sym (and_true _))
