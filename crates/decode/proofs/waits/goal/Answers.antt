-- `goal` meets its contract: the stage that the kind names, test by test.
use mathlib.Core.Path.{sym, ◌∙◌}
use Rattle.record.specs.Rules.{instruction_of}
use Rattle.machine.proofs.Hazards.{load_goal, store_goal, holder_goal, no_goal}
use Rattle.decode.proofs.waits.goal.Goals as goal

pub returns-then-is_load : goal.returns-then-is_load
returns-then-is_load c = sym (load_goal (instruction_of c.args.f).kind (sym c.is_load.ensures ∙ c.if-is_load.true))

pub returns-then-is_store : goal.returns-then-is_store
returns-then-is_store c = sym (store_goal (instruction_of c.args.f).kind (sym c.is_store.ensures ∙ c.if-is_store.true))

pub returns-then-holds_fetches : goal.returns-then-holds_fetches
returns-then-holds_fetches c = sym (holder_goal (instruction_of c.args.f).kind (sym c.holds_fetches.ensures ∙ c.if-holds_fetches.true))

pub returns : goal.returns
returns c =
    sym
    (no_goal (instruction_of c.args.f).kind
    (sym c.is_load.ensures ∙ c.if-is_load.false)
    (sym c.is_store.ensures ∙ c.if-is_store.false)
    (sym c.holds_fetches.ensures ∙ c.if-holds_fetches.false))
