-- `orderly` meets its contract: the three parts, joined as the definition joins them.
use Rattle.std.proofs.Common.{ℕ, ◌≡◌, sym, ap, ◌∙◌}
use Rattle.machine.specs.State.{orderly}
use Rattle.machine.specs.Instruction.{Trace}
use Rattle.machine.specs.Hits.{with_hits}
use Rattle.machine.specs.declared.State.{State}
use Rattle.machine.proofs.Hits.{length_hits}
use Rattle.machine.proofs.HitSlots.{kind_alike}
use Rattle.record.specs.Body.{trace_of}
use Rattle.turns.specs.Inner.{in_order}
use Rattle.orderly.specs.Inner.{stores_apart}
use Rattle.decode.proofs.Joined.{both_of, nine}
use Rattle.orderly.proofs.order.orderly.Goals as goal

-- which of ST and WB hold a store is not a matter of a data hit's cycles
apart_alike : (h : ℕ) (trace : Trace) (s : State) → stores_apart (with_hits h trace) s ≡ stores_apart trace s
apart_alike h trace s = rw (kind_alike h trace s s.WB.index, kind_alike h trace s s.ST.index)

pub returns : goal.returns
unfolding orderly
returns c =
    λ e.
    let a = c.args in
    let s = a.w.now.state in
    let trace = trace_of a.w.now.body.now in
    both_of
    (both_of
    (c.in_order.ensures ∙ ap (λ (n : ℕ). in_order n s) (sym (length_hits a.hit_cycles trace ∙ e)))
    (c.stores_apart.ensures ∙ sym (apart_alike a.hit_cycles trace s)))
    c.all_counted.ensures
    ∙ nine _ _ _ _ _ _ _ _ _ _
