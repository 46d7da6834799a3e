-- A call goes through its refusals in their order: where one holds, it is the answer; where it does not hold, the rest of the list decides.
use Prim.Native.Nat.{ℕ, suc}
use mathlib.Core.Path.{◌≡◌, refl, sym, ◌∙◌}
use mathlib.Core.Bool.{Bool, true, false}
use native.Mathlib.Decide.{ℕ_discrete}
use native.Mathlib.Nat.{suc-ne-zero}
use borrow.Author.Tests.{eq-eqb, ne_eqb}
use Rattle.record.specs.Refusal.{◌then◌, ◌unless◌}
use Rattle.std.specs.Prelude.{Result, Err}
use Rattle.std.specs.Result.{IsErrAnd}
use Rattle.std.proofs.lemmas.Result.{err_from_is_err_and}
use Rattle.record.specs.Number.{number, refusal_in}
use Rattle.record.specs.declared.refusal.Refusal.{Refusal}
use Rattle.record.specs.declared.refusal.Refusal.TheVariants as refusal

pub then_none : (first second : ℕ) → first ≡ 0 → (first then second) ≡ second
unfolding ◌then◌
then_none first second e = rw (eq-eqb _ _ e)

pub then_some : (first second : ℕ) → (first ≡ 0 → ⊥) → (first then second) ≡ first
unfolding ◌then◌
then_some first second h = rw (ne_eqb _ _ h)

-- the same for a callee's answer
pub stop : {r first : ℕ} (second : ℕ) → r ≡ first → (r ≡ 0 → ⊥) → r ≡ (first then second)
stop second e h = e ∙ sym (then_some _ second (λ q. h (e ∙ q)))

pub go_on : {r q first second : ℕ} → r ≡ first → r ≡ 0 → q ≡ second → q ≡ (first then second)
go_on e z f = f ∙ sym (then_none _ _ (sym e ∙ z))

-- a check refuses, and the call with it, or lets pass, and the rest of the list decides
pub some_number : (r : Refusal) → number r ≡ 0 → ⊥
some_number refusal.TooLong e = suc-ne-zero _ e
some_number refusal.TooShort e = suc-ne-zero _ e
some_number refusal.TooManyTraces e = suc-ne-zero _ e
some_number refusal.CutTable e = suc-ne-zero _ e
some_number refusal.LargeCount e = suc-ne-zero _ e
some_number refusal.WrongOffset e = suc-ne-zero _ e
some_number refusal.WrongEnd e = suc-ne-zero _ e
some_number refusal.BrokenRecord e = suc-ne-zero _ e
some_number refusal.OutOfRange e = suc-ne-zero _ e
some_number refusal.WrongLength e = suc-ne-zero _ e
some_number refusal.UnknownFlag e = suc-ne-zero _ e
some_number refusal.NotOrderly e = suc-ne-zero _ e
some_number refusal.WrongRecords e = suc-ne-zero _ e
some_number refusal.ShortOutput e = suc-ne-zero _ e
some_number refusal.LongWait e = suc-ne-zero _ e
some_number refusal.ShortList e = suc-ne-zero _ e
some_number refusal.LongHit e = suc-ne-zero _ e

-- what `?` hands on of a check that refused
pub handed :
    {A B : Type 0} (answer : Result A Refusal) (r : Refusal) (of : Result A Refusal → B) {b : B} →
    IsErrAnd answer (λ e. e ≡ r) →
    of (Err r) ≡ b →
    of answer ≡ b
handed answer r of given e = let q = err_from_is_err_and answer given in rw (q.1, q.2) e

pub stopped :
    {A : Type 0} (answer : Result A Refusal) (r : Refusal) {first : ℕ} (second : ℕ) →
    IsErrAnd answer (λ e. e ≡ r) →
    number r ≡ first →
    refusal_in answer ≡ (first then second)
stopped answer r second given e = handed answer r refusal_in given (stop second e (some_number r))

pub passed : {q first second : ℕ} → 0 ≡ first → q ≡ second → q ≡ (first then second)
passed z f = go_on z refl f

-- a list of three may be grouped either way
pub then_joins : (first second third : ℕ) → (first then second then third) ≡ ((first then second) then third)
then_joins first second third =
    elim (ℕ_discrete first 0) [
      | yes z ↦ then_none first (second then third) z ∙ rw (then_none first second z)
      | no h ↦ then_some first (second then third) h ∙ rw (then_some first second h) (sym (then_some first third h))
    ]

pub four_join :
    (first second third fourth : ℕ) →
    (first then second then third then fourth) ≡ (((first then second) then third) then fourth)
four_join first second third fourth =
    then_joins first second (third then fourth) ∙ then_joins (first then second) third fourth

-- if a list gives no refusal, neither part does
pub then_first : (first second : ℕ) → (first then second) ≡ 0 → first ≡ 0
then_first first second e = elim (ℕ_discrete first 0) [ yes z ↦ z | no h ↦ sym (then_some first second h) ∙ e ]

pub then_second : (first second : ℕ) → (first then second) ≡ 0 → second ≡ 0
then_second first second e = sym (then_none first second (then_first first second e)) ∙ e

-- a refusal that is given unless a test passes
pub unless_passed : (n : ℕ) (ok : Bool) → (suc n unless ok) ≡ 0 → ok ≡ true
unfolding ◌unless◌
unless_passed n true e = refl
unless_passed n false e = absurd (suc-ne-zero n e)

-- a test within the list that fails or passes, and the last test
pub fails : (n : ℕ) {ok : Bool} (second : ℕ) → ok ≡ false → suc n ≡ (suc n unless ok then second)
unfolding ◌unless◌
fails n second e = stop second (rw e) (λ z. suc-ne-zero n z)

pub passes : (n : ℕ) {ok : Bool} {q second : ℕ} → ok ≡ true → q ≡ second → q ≡ (suc n unless ok then second)
unfolding ◌unless◌
passes n e f = f ∙ sym (then_none _ _ (rw e))

pub last_fails : (n : ℕ) {ok : Bool} → ok ≡ false → n ≡ (n unless ok)
unfolding ◌unless◌
last_fails n e = rw e

pub last_passes : (n : ℕ) {ok : Bool} → ok ≡ true → 0 ≡ (n unless ok)
unfolding ◌unless◌
last_passes n e = rw e
