-- Writing kinds, flags and two-byte numbers and reading them gives them back, and so does reading and writing: by cases, and by arithmetic on
-- remainders. And what a wait leaves of a latency's rules, by cases of the kind.
use Prim.Native.Nat.{ℕ, zero, suc, ◌+◌, ◌*◌, ◌/◌, ◌%◌, ◌≤◌}
use mathlib.Core.Bool.{Bool, false, not, cond, ◌||◌, ◌&&◌}
use mathlib.Core.Path.{◌≡◌, refl}
use native.Mathlib.Nat.{add-zero}
use native.Mathlib.Omega.{arith}
use borrow.Author.Tests.{ne_eqb, eqb-false}
use lib.Dec.{eqb}
use Rattle.machine.specs.Test.{◌and◌, ◌or◌}
use Rattle.machine.specs.Instruction.{Kind, plain, load, store, branch, jump, Flag, hit, miss, unknown}
use Rattle.machine.specs.Rules.{is_load, is_store}
use Rattle.record.specs.Rules.{kind_of, kind_number, flag_of, flag_number}
use Rattle.record.proofs.Within.{or_false}

-- written, then read
pub flag_of_number : (g : Flag) → flag_of (flag_number g) ≡ g
unfolding flag_of
flag_of_number hit = refl
flag_of_number miss = refl
flag_of_number unknown = refl

pub kind_number_le : (k : Kind) → kind_number k ≤ 4
kind_number_le plain = omega arith
kind_number_le load = omega arith
kind_number_le store = omega arith
kind_number_le branch = omega arith
kind_number_le jump = omega arith

pub flag_number_le : (g : Flag) → flag_number g ≤ 2
flag_number_le hit = omega arith
flag_number_le miss = omega arith
flag_number_le unknown = omega arith

module _ (fetch access : Flag) where
  pub fetch_of_flags : (flag_number fetch + 4 * flag_number access) % 4 ≡ flag_number fetch
  fetch_of_flags = omega (arith, flag_number_le fetch)

  pub access_of_flags : (flag_number fetch + 4 * flag_number access) / 4 % 4 ≡ flag_number access
  access_of_flags = omega (arith, flag_number_le fetch, flag_number_le access)

-- read, then written
pub number_kind_of : (n : ℕ) → n ≤ 4 → kind_number (kind_of n) ≡ n
unfolding kind_of
number_kind_of zero l = refl
number_kind_of (suc zero) l = refl
number_kind_of (suc (suc zero)) l = refl
number_kind_of (suc (suc (suc zero))) l = refl
number_kind_of (suc (suc (suc (suc zero)))) l = refl
number_kind_of (suc (suc (suc (suc (suc n))))) l = absurd (omega arith)

pub number_flag_of : (n : ℕ) → n ≤ 2 → flag_number (flag_of n) ≡ n
unfolding flag_of
number_flag_of zero l = refl
number_flag_of (suc zero) l = refl
number_flag_of (suc (suc zero)) l = refl
number_flag_of (suc (suc (suc n))) l = absurd (omega arith)

pub flags_of_parts : (b : ℕ) → b ≤ 15 → b % 4 + 4 * (b / 4 % 4) ≡ b
flags_of_parts b l = omega arith

-- a latency that is above 0 stays above it with a wait
pub above_0 : (n w : ℕ) → eqb n 0 ≡ false → eqb (n + w) 0 ≡ false
above_0 n w e = ne_eqb (n + w) 0 (λ z. eqb-false n 0 e (omega arith))

-- a data latency keeps its rule with a wait: for a load or store it stays above 0, and any other kind has no access that could wait
abbrev DataLatency : ℕ → ℕ → Type 0
DataLatency kind n = ((eqb kind 1 || eqb kind 2) && eqb n 0 || (eqb kind 0 || eqb kind 3 || eqb kind 4) && not (eqb n 0)) ≡ false

access_kept : (n w : ℕ) → (eqb n 0 || false) ≡ false → (eqb (n + w) 0 || false) ≡ false
access_kept n w e = rw (above_0 n w (or_false (eqb n 0) false e).0)

pub data_latency_kept : (kind : Kind) (missed : Bool) (n w : ℕ) → DataLatency (kind_number kind) n → DataLatency (kind_number kind) (n + cond ((is_load kind or is_store kind) and missed) w 0)
unfolding ◌and◌ ◌or◌
data_latency_kept plain missed n w e = rw (add-zero n) e
data_latency_kept load missed n w e = access_kept n (cond missed w 0) e
data_latency_kept store missed n w e = access_kept n (cond missed w 0) e
data_latency_kept branch missed n w e = rw (add-zero n) e
data_latency_kept jump missed n w e = rw (add-zero n) e
