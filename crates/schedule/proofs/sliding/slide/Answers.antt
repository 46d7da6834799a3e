-- `slide` meets its contract: its calls together are the definition.
use Rattle.machine.specs.Rules.{entry}
use Rattle.record.specs.Rules.{instruction_of}
use native.Mathlib.Omega.{arith}
use Rattle.schedule.proofs.Calls.{slid}
use Rattle.schedule.proofs.sliding.slide.Goals as goal

pub overflow_add-f : goal.overflow_add-f
unfolding instruction_of entry
overflow_add-f c = omega arith

pub overflow_add-e : goal.overflow_add-e
unfolding instruction_of entry
overflow_add-e c = omega arith

pub returns : goal.returns
returns c =
    slid _ _ _
    c.is_load-load.ensures
    c.holds_fetches.ensures
    c.choose.ensures
    c.choose-2.ensures
    c.is_store.ensures
    c.choose-3.ensures
    c.choose-4.ensures
