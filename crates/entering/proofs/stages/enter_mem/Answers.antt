-- `enter_mem` meets its contract: its calls together are the definition.
use Rattle.machine.specs.Rules.{entry}
use Rattle.record.specs.Rules.{instruction_of}
use native.Mathlib.Omega.{arith}
use Rattle.entering.proofs.Steps.{MEM_step}
use mathlib.Core.Path.{◌∙◌}
use Rattle.decode.proofs.Entries.{misses_alone}
use Rattle.entering.proofs.stages.enter_mem.Goals as goal

pub overflow_add-f : goal.overflow_add-f
unfolding instruction_of entry
overflow_add-f c = omega arith

pub overflow_add-from : goal.overflow_add-from
unfolding instruction_of entry
overflow_add-from c = omega arith

pub returns : goal.returns
returns c = MEM_step _ _ _ (c.access_misses.ensures ∙ misses_alone _ c.requires.1) c.choose-store.ensures c.max.ensures c.max-2.ensures
