-- `make_view` meets its contract: the body is handed back as it lies, or its refusal and no part.
use Rattle.std.proofs.Common.{sym, ◌∙◌}
use borrow.Author.Tests.{eq-eqb, ne_eqb}
use Rattle.record.specs.Body.{body_refusal}
use Rattle.record.proofs.Refusals.{handed, some_number}
use Rattle.views.specs.View.{carried, view_body}
use Rattle.views.proofs.make_view.Goals as goal

pub returns-in_err-check_body-clause-bytes : goal.returns-in_err-check_body-clause-bytes
unfolding view_body carried
returns-in_err-check_body-clause-bytes c =
    handed _ _ carried c.from_residual.ensures.1
    (rw (ne_eqb (body_refusal c.args.body.now) 0 (λ z. some_number _ (c.in_err-check_body.ensures ∙ z))))

pub returns-clause-bytes : goal.returns-clause-bytes
unfolding view_body carried
returns-clause-bytes c = rw (eq-eqb (body_refusal c.args.body.now) 0 (sym c.in_ok-check_body.ensures))
