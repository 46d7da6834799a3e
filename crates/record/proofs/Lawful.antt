-- The rules refuse no kind, a jump's are a plain instruction's, and the others' are document 01's; a kind's number reads as that kind. By computation,
-- kind by kind.
use Prim.Native.Nat.{ℕ, zero, suc}
use mathlib.Core.Bool.{◌||◌, or-false}
use mathlib.Core.Path.{◌≡◌, refl}
use native.Mathlib.Omega.{arith}
use borrow.Author.Tests.{lt-ltb, ne_eqb}
use lib.Dec.{ltb, eqb}
use Rattle.machine.specs.Instruction.{plain, load, store, branch, jump}
use Rattle.record.specs.Rules.{breaks_rules, kind_of}
use Rattle.record.specs.Claims.{EachKindLawful, JumpAsPlain, breaks_before, RulesKept, KindIsRead}

pub each_kind_lawful : EachKindLawful
unfolding breaks_rules
each_kind_lawful = (refl, refl, refl, refl, refl)

pub jump_as_plain : JumpAsPlain
unfolding breaks_rules
jump_as_plain f flags = refl

-- the kinds above 4 are those above 3, but for 4
above : (n : ℕ) → ¬ (n ≡ 4) → ltb 4 n ≡ ltb 3 n
above zero other = refl
above (suc zero) other = refl
above (suc (suc zero)) other = refl
above (suc (suc (suc zero))) other = refl
above (suc (suc (suc (suc zero)))) other = absurd (other refl)
above (suc (suc (suc (suc (suc n))))) other = rw (lt-ltb 4 (suc (suc (suc (suc (suc n))))) (omega arith), lt-ltb 3 (suc (suc (suc (suc (suc n))))) (omega arith))

pub rules_kept : RulesKept
unfolding breaks_rules breaks_before
rules_kept f flags other = rw (above f.kind other, ne_eqb f.kind 4 other, or-false (eqb f.kind 0 || eqb f.kind 3))

pub kind_is_read : KindIsRead
unfolding kind_of
kind_is_read plain = refl
kind_is_read load = refl
kind_is_read store = refl
kind_is_read branch = refl
kind_is_read jump = refl
