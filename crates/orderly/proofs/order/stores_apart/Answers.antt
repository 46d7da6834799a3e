-- `stores_apart` meets its contract: each slot's test, where the slot is filled.
use Rattle.std.proofs.Common.{ℕ, ◌+◌, refl, ap, ◌∙◌}
use mathlib.Core.Bool.{not}
use lib.Dec.{ltb}
use Rattle.machine.specs.Rules.{is_store}
use Rattle.machine.specs.Instruction.{Instruction}
use Rattle.decode.proofs.Joined.{both_of, either, either_of, or_under}
use Rattle.orderly.proofs.order.stores_apart.Goals as goal

pub returns : goal.returns
returns c =
    let s = c.args.w.now.state in
    let h = c.args.w.now.reads in
    both_of
    (both_of
    (either _ _ ∙ or_under s.WB.filled (λ t. ap not (c.is_store.ensures ∙ ap (λ (i : Instruction). is_store i.kind) (h.WB t))))
    (either_of refl (ap (λ (m : ℕ). ltb (s.ST.index + m) s.fetched) c.in_flight.ensures.0)))
    (either _ _ ∙ or_under s.ST.filled (λ t. c.is_store-2.ensures ∙ ap (λ (i : Instruction). is_store i.kind) (h.ST t)))
