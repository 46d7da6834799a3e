-- Tests of a record's numbers are tests of the kind or flag that they stand for: tried on the numbers that name one, and the same beyond them.
use Prim.Native.Nat.{ℕ, ◌≤◌}
use mathlib.Core.Bool.{Bool, true, false, ◌||◌}
use mathlib.Core.Path.{◌≡◌, refl, sym, ◌∙◌}
use native.Mathlib.Omega.{arith}
use borrow.Author.Tests.{ne_eqb}
use lib.Dec.{eqb}
use Rattle.machine.specs.Test.{◌and◌, every}
use Rattle.machine.specs.Instruction.{Kind, plain, Flag, unknown}
use Rattle.machine.specs.Rules.{is_load, is_store, holds_fetches, hits, misses}
use Rattle.machine.proofs.Connectives.{clash, every_at}
use Rattle.machine.proofs.Numbers.{Tri, less, equal, more, tri}
use Rattle.record.specs.Rules.{kind_of, flag_of}

agree : Bool → Bool → Bool
agree true b = b
agree false true = false
agree false false = true

agreed : (a b : Bool) → agree a b ≡ true → a ≡ b
unfolding agree
agreed true b e = sym e
agreed false true e = clash e refl
agreed false false e = refl

-- two tests that agree below a bound, and give one value each from it on
alike : (t u : ℕ → Bool) (bound : ℕ) →
    every (λ n. agree (t n) (u n)) bound ≡ true →
    ((n : ℕ) → bound ≤ n → t n ≡ u n) →
    (n : ℕ) →
    t n ≡ u n
alike t u bound below beyond n = pick (tri n bound)
  where
    pick : Tri n bound → t n ≡ u n
    pick (less l) = agreed _ _ (every_at (λ n. agree (t n) (u n)) bound below n l)
    pick (equal e) = beyond n (omega arith)
    pick (more l) = beyond n (omega arith)

-- the numbers from 5 on read as plain, those from 2 on as unknown
kinds : (t : ℕ → Bool) (u : Kind → Bool) → ((n : ℕ) → 5 ≤ n → t n ≡ false) → u plain ≡ false → every (λ n. agree (t n) (u (kind_of n))) 5 ≡ true → (n : ℕ) → t n ≡ u (kind_of n)
unfolding kind_of
kinds t u beyond none below =
    alike t (λ n. u (kind_of n)) 5 below
    (λ n l. beyond n l ∙ rw (ne_eqb n 1 (omega arith), ne_eqb n 2 (omega arith), ne_eqb n 3 (omega arith), ne_eqb n 4 (omega arith)) (sym none))

flags : (number : ℕ) (u : Flag → Bool) → number ≤ 1 → u unknown ≡ false → every (λ n. agree (eqb n number) (u (flag_of n))) 2 ≡ true → (n : ℕ) → eqb n number ≡ u (flag_of n)
unfolding flag_of
flags number u l none below =
    alike (λ n. eqb n number) (λ n. u (flag_of n)) 2 below
    (λ n m. ne_eqb n number (omega arith) ∙ rw (ne_eqb n 0 (omega arith), ne_eqb n 1 (omega arith)) (sym none))

pub load_number : (n : ℕ) → eqb n 1 ≡ is_load (kind_of n)
unfolding kind_of every agree ◌and◌
load_number = kinds (λ n. eqb n 1) is_load (λ n l. ne_eqb n 1 (omega arith)) refl refl

pub store_number : (n : ℕ) → eqb n 2 ≡ is_store (kind_of n)
unfolding kind_of every agree ◌and◌
store_number = kinds (λ n. eqb n 2) is_store (λ n l. ne_eqb n 2 (omega arith)) refl refl

pub holding_numbers : (n : ℕ) → (eqb n 3 || eqb n 4) ≡ holds_fetches (kind_of n)
unfolding kind_of every agree ◌and◌
holding_numbers = kinds (λ n. eqb n 3 || eqb n 4) holds_fetches (λ n l. rw (ne_eqb n 3 (omega arith), ne_eqb n 4 (omega arith))) refl refl

pub hit_number : (n : ℕ) → eqb n 0 ≡ hits (flag_of n)
unfolding flag_of every agree ◌and◌
hit_number = flags 0 hits (omega arith) refl refl

pub miss_number : (n : ℕ) → eqb n 1 ≡ misses (flag_of n)
unfolding flag_of every agree ◌and◌
miss_number = flags 1 misses (omega arith) refl refl
