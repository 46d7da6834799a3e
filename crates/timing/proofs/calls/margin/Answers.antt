-- `margin` meets its contract: the worst time from one pass, and a difference that fits 64 signed bits.
use mir.Syntax.{w64}
use mir.ValLaws.{to_z-of_z}
use Rattle.std.proofs.Common.{sym, ◌∙◌}
use Rattle.record.proofs.Refusals.{handed, some_number}
use Rattle.timing.specs.Answers.{margin_left}
use Rattle.timing.proofs.Answered.{margin_refused, margin_given}
use Rattle.timing.proofs.calls.margin.Goals as goal

pub returns-in_err-check_timed : goal.returns-in_err-check_timed
returns-in_err-check_timed c =
    handed _ _ margin_left c.from_residual.ensures.1 (margin_refused _ _ _ c.in_err-check_timed.ensures (some_number _))

pub returns : goal.returns
returns c =
    margin_given _ _ _ (sym c.in_ok-check_timed.ensures) c.finish_settled-worst.ensures
    (to_z-of_z w64 c.difference.result (record { sfits = c.difference.type_inv }) ∙ c.difference.ensures)
