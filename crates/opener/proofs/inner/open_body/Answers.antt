-- `open_body` meets its contract: what Open hands back, or no bytes where it refuses.
use Rattle.std.proofs.Common.{ℕ, ◌≡◌, List, [], refl, ◌∙◌}
use Rattle.std.specs.Prelude.{Result, Ok, Err, IfOk}
use Rattle.std.specs.Borrow.{Bor}
use Rattle.std.specs.Result.{result_unwrap_or}
use Rattle.record.specs.Number.{refusal_in}
use Rattle.record.specs.Part.{StartsAt}
use Rattle.record.specs.declared.refusal.Refusal.{Refusal}
use Rattle.record.proofs.Refusals.{some_number}
use Rattle.job.specs.Layout.{start_at}
use Rattle.job.specs.Open.{open_refusal, open_body}
use Rattle.opener.specs.Opened.{opened}
use Rattle.opener.proofs.inner.open_body.Goals as goal

module _ (file : Bor (List ℕ)) (trace : ℕ) (none : Bor (List ℕ)) (empty : none.now ≡ []) where
  handed_on
      : (answer : Result (Bor (List ℕ)) Refusal) →
      refusal_in answer ≡ open_refusal file.now trace →
      opened answer ≡ open_body file.now trace →
      IfOk answer (λ body. StartsAt file (start_at file.now trace) body) →
      ((result_unwrap_or answer none).now ≡ open_body file.now trace)
      × (open_refusal file.now trace ≡ 0 → StartsAt file (start_at file.now trace) (result_unwrap_or answer none))
  unfolding opened
  handed_on (Ok body) e bytes place = (bytes, λ _. place)
  handed_on (Err r) e bytes place = (empty ∙ bytes, λ z. absurd (some_number r (e ∙ z)))

pub returns : goal.returns
returns c =
    rw c.unwrap_or.ensures
    (handed_on c.args.file c.args.trace _ refl c.open.result c.open.ensures.refusal c.open.ensures.bytes c.open.ensures.place)
