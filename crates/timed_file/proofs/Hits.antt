-- 17 of a file, trace by trace; and that a file which it does not decline has bodies which it does not decline.
use Prim.Native.Nat.{ℕ, ◌≤◌, ◌<◌}
use mathlib.Core.Bool.{Bool, true, false, not, ◌&&◌}
use mathlib.Core.List.{List}
use mathlib.Core.Path.{◌≡◌, refl, subst, ◌∙◌}
use native.Mathlib.Nat.{le_antisymm}
use native.Mathlib.Omega.{arith}
use borrow.Author.Tests.{lt-leb, le-leb, ne_eqb, eqb-true}
use lib.Dec.{leb}
use Rattle.machine.specs.Test.{none}
use Rattle.machine.proofs.Connectives.{none_at, none_below, none_fails}
use Rattle.record.specs.Refusal.{◌unless◌, long_hit}
use Rattle.record.specs.Body.{max_hit_cycles, hit_refusal, timed_refusal}
use Rattle.record.proofs.Accepted.{and_true, timed_of}
use Rattle.record.proofs.Refusals.{then_first, then_second, unless_passed, last_fails, last_passes}
use Rattle.job.specs.Layout.{traces}
use Rattle.job.specs.Open.{file_refusal, open_body}
use Rattle.job.proofs.Accepted.{open_accepted}
use Rattle.job.proofs.Part.{opened_accepted}
use Rattle.timed_file.specs.Refusal.{declines_at, file_hit_refusal, timed_file_refusal}

found : (ok : Bool) (test : ℕ → Bool) (n k : ℕ) → k < n → test k ≡ true → (ok && none test n) ≡ false
found true test n k l e = none_fails test n k l e
found false test n k l e = refl

-- whether 17 declines the body of a trace, from its refusal
module _ (file : List ℕ) (h t : ℕ) {n : ℕ} (e : n ≡ hit_refusal (open_body file t) h) where
  pub declines : (n ≡ 0 → ⊥) → declines_at file h t ≡ true
  unfolding declines_at
  declines some = rw (ne_eqb (hit_refusal (open_body file t) h) 0 (λ z. some (e ∙ z)))

  pub lets_pass : n ≡ 0 → declines_at file h t ≡ false
  unfolding declines_at
  lets_pass z = rw (← e, z)

  -- the refusal of a body that 17 declines is 17
  pub is_long : (n ≡ 0 → ⊥) → n ≡ long_hit
  unfolding hit_refusal ◌unless◌
  is_long some = given_only _ e
    where
      given_only : (ok : Bool) → n ≡ (long_hit unless ok) → n ≡ long_hit
      given_only true z = absurd (some z)
      given_only false z = z

module _ (file : List ℕ) (h : ℕ) where
  pub long_refused : max_hit_cycles < h → long_hit ≡ file_hit_refusal file h
  unfolding file_hit_refusal
  long_refused l = last_fails long_hit (rw (lt-leb h max_hit_cycles l))

  pub one_refused : (t : ℕ) → t < traces file → declines_at file h t ≡ true → long_hit ≡ file_hit_refusal file h
  unfolding file_hit_refusal
  one_refused t l e = last_fails long_hit (found (leb h max_hit_cycles) (declines_at file h) (traces file) t l e)

  pub all_passed : h ≤ max_hit_cycles → (t : ℕ) → none (declines_at file h) t ≡ true → traces file ≤ t → t ≤ traces file → 0 ≡ file_hit_refusal file h
  unfolding file_hit_refusal
  all_passed few t seen up down =
      last_passes long_hit
      (rw (le-leb h max_hit_cycles few) (subst (λ (n : ℕ). none (declines_at file h) n ≡ true) (le_antisymm down up) seen))

  -- nor does 17 decline a file of whose bodies it declines none
  pub none_declined : h ≤ max_hit_cycles → ((t : ℕ) → t < traces file → hit_refusal (open_body file t) h ≡ 0) → 0 ≡ file_hit_refusal file h
  none_declined few passed = all_passed few (traces file) (none_below _ _ (λ t l. lets_pass file h t refl (passed t l))) (omega arith) (omega arith)

  module _ (passes : timed_file_refusal file h ≡ 0) where
    pub file_accepted : file_refusal file ≡ 0
    unfolding timed_file_refusal
    file_accepted = then_first _ _ passes

    tests : (leb h max_hit_cycles ≡ true) × (none (declines_at file h) (traces file) ≡ true)
    unfolding timed_file_refusal file_hit_refusal
    tests = and_true (leb h max_hit_cycles) (none (declines_at file h) (traces file)) (unless_passed _ _ (then_second _ _ passes))

    not_false : (b : Bool) → not b ≡ false → b ≡ true
    not_false true e = refl
    not_false false e = cc

    pub hit_passed : (t : ℕ) → t < traces file → hit_refusal (open_body file t) h ≡ 0
    unfolding declines_at
    hit_passed t l =
        eqb-true (hit_refusal (open_body file t) h) 0 (not_false _ (none_at (declines_at file h) (traces file) tests.1 t l))

    -- so each of its bodies can be timed
    pub body_timed : (t : ℕ) → t < traces file → timed_refusal (open_body file t) h ≡ 0
    body_timed t l = timed_of (open_body file t) h (opened_accepted file t (open_accepted file t file_accepted l)) (hit_passed t l)
