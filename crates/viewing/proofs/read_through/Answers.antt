-- `read_through` meets its contract: the view's refusal, or what reading through the view gave.
use Rattle.std.proofs.Common.{ℕ, List, ◌≡◌, Err, arith}
use borrow.Author.Tests.{ne_eqb, le-ltb}
use Rattle.record.specs.Body.{body_refusal, read_answer}
use Rattle.record.specs.Number.{number}
use Rattle.record.specs.declared.layout.Read.{Read}
use Rattle.record.specs.declared.refusal.Refusal.{Refusal}
use Rattle.record.proofs.Refusals.{handed, some_number}
use Rattle.views.specs.View.{carried, view_body}
use Rattle.viewing.specs.Viewing.{Viewed, viewed, read_through}
use Rattle.viewing.proofs.read_through.Goals as goal

-- of a body that is refused nothing is read
refused : (body : List ℕ) (k : ℕ) (r : Refusal) → number r ≡ body_refusal body → viewed (Err r) ≡ read_through body k
unfolding read_through view_body read_answer
refused body k r e = rw (← e, ne_eqb (number r) 0 (some_number r), le-ltb k 0 (omega arith))

-- of one that is not, through the part that is the body
given : (body part : List ℕ) (k : ℕ) {read : Read} → 0 ≡ body_refusal body → part ≡ view_body body → read ≡ read_answer part k →
    ◌≡◌ {A = Viewed} (record { made = 0; read = read }) (read_through body k)
unfolding read_through
given body part k z p e = rw (e, ← z, p)

pub returns-in_err-view : goal.returns-in_err-view
returns-in_err-view c = handed _ _ viewed c.from_residual.ensures.1 (refused _ _ _ c.in_err-view.ensures.refusal)

pub returns : goal.returns
unfolding carried
returns c = given _ _ _ c.in_ok-view.ensures.refusal c.in_ok-view.ensures.bytes c.record_at.ensures
