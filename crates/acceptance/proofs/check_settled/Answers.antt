-- `check_settled` meets its contract: 10, what one pass gives for 8 and 11, and 17 between them.
use Rattle.std.proofs.Common.{ℕ, ◌≡◌, Bool, true, false, not, sym, ap, ◌∙◌}
use Rattle.record.specs.Refusal.{◌unless◌, unknown_flag}
use Rattle.record.specs.Body.{timed_refusal, settled_refusal}
use Rattle.record.proofs.Refusals.{stopped, passed, then_joins, last_fails, last_passes}
use Rattle.acceptance.proofs.check_settled.Goals as goal

-- what the scan says of unknown flags, where there is one and where there is none
some : {unknown : Bool} {n : ℕ} → unknown ≡ true → (unknown_flag unless not unknown) ≡ n → unknown_flag ≡ n
some e f = last_fails unknown_flag (ap not e) ∙ f

none : {unknown : Bool} {n : ℕ} → unknown ≡ false → (unknown_flag unless not unknown) ≡ n → 0 ≡ n
none e f = last_passes unknown_flag (ap not e) ∙ f

pub returns-in_err-unknown : goal.returns-in_err-unknown
unfolding settled_refusal timed_refusal
returns-in_err-unknown c = stopped _ _ _ c.from_residual.ensures.1 c.in_err-unknown.ensures.broken ∙ then_joins _ _ _

pub check_hits-requires : goal.check_hits-requires
check_hits-requires c = sym c.in_ok-unknown.ensures.broken

pub returns-in_err-check_hits : goal.returns-in_err-check_hits
unfolding settled_refusal timed_refusal
returns-in_err-check_hits c =
    passed c.in_ok-unknown.ensures.broken (stopped _ _ _ c.from_residual-in_err-check_hits.ensures.1 c.in_err-check_hits.ensures)
    ∙ then_joins _ _ _

pub returns-then-unknown : goal.returns-then-unknown
unfolding settled_refusal timed_refusal
returns-then-unknown c =
    passed c.in_ok-unknown.ensures.broken (passed c.in_ok-check_hits.ensures (some c.if-unknown.true c.in_ok-unknown.ensures.unknown))
    ∙ then_joins _ _ _

pub returns : goal.returns
unfolding settled_refusal timed_refusal
returns c =
    passed c.in_ok-unknown.ensures.broken (passed c.in_ok-check_hits.ensures (none c.if-unknown.false c.in_ok-unknown.ensures.unknown))
    ∙ then_joins _ _ _
