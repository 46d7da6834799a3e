-- `cycle` meets its contract: the bits say who moves, and from that come the new slots; where no instruction starts, none moves.
use Rattle.std.proofs.Common.{ℕ, ◌≡◌, true, sym, ap, ◌∙◌}
use Rattle.machine.proofs.Connectives.{and_failed_l}
use Rattle.machine.proofs.Masks.{goes_post}
use Rattle.machine.specs.Test.{◌and◌}
use Rattle.record.specs.Body.{trace_of}
use Rattle.machine.specs.Hits.{with_hits}
use Rattle.machine.specs.declared.State.{State}
use Rattle.machine.proofs.BySlots.{standing, kinds_in, leaves}
use Rattle.machine.proofs.HitSlots.{goes_alike}
use Rattle.machine.specs.Rules.{Stage}
use Rattle.machine.specs.Instruction.{Trace}
use Rattle.moving.specs.Inner.{bits_of, kind_in}
use Rattle.starting.specs.Inner.{starts, opens_after}
use Rattle.cycle.proofs.Read.{read_kind}
use Rattle.cycle.proofs.Starts.{leaving_is, arriving_is, standstill_is, none_set}
use Rattle.cycle.proofs.cycling.cycle.Goals as goal

-- which instructions could move is not a matter of a data hit's cycles
starts_alike : (h : ℕ) (trace : Trace) (s : State) → starts (with_hits h trace) s ≡ starts trace s
starts_alike h trace s = λ t k. goes_alike h trace s t k and opens_after s k

pub returns-then-none : goal.returns-then-none
returns-then-none c =
    λ e.
    let w = c.args.standing.now in
    let s = w.state in
    let given = trace_of w.body.now in
    let hits = c.args.hit_cycles in
    let trace = with_hits hits given in
    let idle = sym c.none.ensures ∙ c.if-none.true in
    c.all_stay.ensures
    ∙ standstill_is trace s (none_set (starts trace s) (and_failed_l _ _ (goes_post trace s)) (c.starts-starting.ensures e ∙ ap bits_of (sym (starts_alike hits given s))) idle)

pub returns : goal.returns
returns c =
    λ e.
    let w = c.args.standing.now in
    let s = w.state in
    let h = w.reads in
    let trace = trace_of w.body.now in
    let kinds : (k : Stage) → (standing trace s k).filled ≡ true → kind_in c.kinds_read.result k ≡ kinds_in trace s k =
    λ k f. c.kinds_read.ensures k ∙ read_kind h k f in
    let moving : c.leaving-moving.result ≡ bits_of (leaves trace s) =
    c.leaving-moving.ensures
    ∙ leaving_is trace s kinds
    (c.starts-starting.ensures e)
    (c.full.ensures trace e) in
    c.slots_after.ensures moving (c.arriving.ensures ∙ arriving_is trace s kinds moving)
