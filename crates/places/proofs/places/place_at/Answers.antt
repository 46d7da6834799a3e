-- `place_at` meets its contract: in each case the tests on the way choose the definition's place.
use Rattle.machine.specs.Rules.{entry}
use Rattle.machine.specs.Hits.{with_hit}
use Rattle.record.specs.Rules.{instruction_of}
use Rattle.places.proofs.Cases.{in_pre_lem, in_IF_lem, in_ID_lem, in_EX_lem, in_MEM_lem, in_last, in_post}
use Rattle.places.proofs.places.place_at.Goals as goal

pub returns-then-t-e : goal.returns-then-t-e
returns-then-t-e c = in_pre_lem (with_hit _ (instruction_of _)) _ _ c.if-t-e.true

pub returns-then-t-e-2 : goal.returns-then-t-e-2
unfolding entry
returns-then-t-e-2 c = in_IF_lem (with_hit _ (instruction_of _)) _ _ c.if-t-e.false c.if-t-e-2.true c.count_in_if.ensures c.saturating_sub.ensures

pub returns-then-t-e-3 : goal.returns-then-t-e-3
returns-then-t-e-3 c = in_ID_lem (with_hit _ (instruction_of _)) _ _ c.if-t-e.false c.if-t-e-2.false c.if-t-e-3.true

pub returns-then-t-e-4 : goal.returns-then-t-e-4
unfolding instruction_of entry
returns-then-t-e-4 c = in_EX_lem (with_hit _ (instruction_of _)) _ _ c.if-t-e.false c.if-t-e-2.false c.if-t-e-3.false c.if-t-e-4.true c.saturating_sub-then-t-e-4.ensures

pub returns-then-t-e-5 : goal.returns-then-t-e-5
returns-then-t-e-5 c = in_MEM_lem (with_hit _ (instruction_of _)) _ _ c.if-t-e.false c.if-t-e-2.false c.if-t-e-3.false c.if-t-e-4.false c.if-t-e-5.true c.count_in_mem.ensures c.saturating_sub-then-t-e-5.ensures

pub returns-then-t-e-6 : goal.returns-then-t-e-6
returns-then-t-e-6 c = in_last (with_hit _ (instruction_of _)) _ _ c.if-t-e.false c.if-t-e-2.false c.if-t-e-3.false c.if-t-e-4.false c.if-t-e-5.false c.if-t-e-6.true c.last_stage.ensures c.count_in_last.ensures c.saturating_sub-then-t-e-6.ensures

pub returns : goal.returns
returns c = in_post (with_hit _ (instruction_of _)) _ _ c.if-t-e.false c.if-t-e-2.false c.if-t-e-3.false c.if-t-e-4.false c.if-t-e-5.false c.if-t-e-6.false
