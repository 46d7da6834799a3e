-- `in_order` meets its contract: each slot with the number of filled slots before it.
use Rattle.std.proofs.Common.{ℕ, ◌+◌, refl, ap, ap₂, ◌∙◌}
use Rattle.turns.proofs.Bits.{from_bit}
use Rattle.machine.specs.State.{younger}
use Rattle.turns.specs.Inner.{turn_of}
use Rattle.decode.proofs.Joined.{both_of}
use Rattle.turns.proofs.order.in_order.Goals as goal

pub returns : goal.returns
unfolding younger
returns c =
    let s = c.args.s in
    let one = from_bit s.IF.filled c.from-before_ID.ensures in
    let two = ap₂ ◌+◌ one (from_bit s.ID.filled c.from.ensures) in
    let three = ap₂ ◌+◌ two (from_bit s.EX.filled c.from-2.ensures) in
    both_of
    (both_of
    (both_of
    (both_of
    (both_of refl c.in_turn.ensures)
    (c.in_turn-2.ensures ∙ ap (λ (m : ℕ). turn_of s.ID m s.fetched) one))
    (c.in_turn-3.ensures ∙ ap (λ (m : ℕ). turn_of s.EX m s.fetched) two))
    (c.in_turn-4.ensures ∙ ap (λ (m : ℕ). turn_of s.MEM m s.fetched) three))
    (c.in_turn-5.ensures ∙ ap (λ (m : ℕ). turn_of s.WB m s.fetched) c.in_flight.ensures.0)
