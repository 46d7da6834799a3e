-- A record's rules as limits that depend on its kind, which is how the code tests them. The tests of the flags byte agree by computation on each
-- number below 16; the rest is by cases of the kind.
use Prim.Native.Nat.{ℕ, zero, suc, ◌+◌, ◌/◌, ◌%◌, ◌<◌}
use mathlib.Core.Bool.{Bool, true, false, not, cond, ◌||◌, beq, or-true, or-false}
use mathlib.Core.List.{List}
use mathlib.Core.Path.{◌≡◌, refl, sym, ◌∙◌}
use native.Mathlib.Omega.{arith}
use borrow.Author.Tests.{lt-ltb, ne_eqb}
use lib.Dec.{ltb, eqb}
use Rattle.machine.specs.Test.{◌and◌, every}
use Rattle.little_endian.specs.Numbers.{byte}
use Rattle.machine.proofs.Connectives.{every_at}
use Rattle.machine.proofs.Numbers.{Tri, less, equal, more, tri}
use Rattle.record.specs.declared.layout.Fields.{Fields}
use Rattle.record.specs.Layout.{kind_at, flags_at, fields_from}
use Rattle.record.specs.Rules.{breaks_rules}

beq_true : (a : Bool) → beq true a ≡ (a || false)
beq_true true = refl
beq_true false = refl

beq_false : (a : Bool) → beq false a ≡ not a
beq_false true = refl
beq_false false = refl

beq_same : (a b : Bool) → beq a b ≡ true → a ≡ b
beq_same true true e = refl
beq_same true false e = cc
beq_same false true e = cc
beq_same false false e = refl

-- Two tests of the flags byte that agree on each number below 16, and both pass from 16 on, are equal.
module _ (a b : ℕ → Bool) (below : every (λ n. beq (a n) (b n)) 16 ≡ true) (above : (n : ℕ) → 15 < n → (a n ≡ true) × (b n ≡ true)) where
  either : (n : ℕ) → Tri n 16 → a n ≡ b n
  either n (less l) = beq_same _ _ (every_at _ 16 below n l)
  either n (equal e) = let t = above n (omega arith) in t.0 ∙ sym t.1
  either n (more l) = let t = above n (omega arith) in t.0 ∙ sym t.1

  agree : (n : ℕ) → a n ≡ b n
  agree n = either n (tri n 16)

-- `bad_flags` in terms of the byte; then the code's test of the byte, for kinds that have data bits and for kinds that have none
abbrev bad_byte : ℕ → Bool
bad_byte flags = eqb (flags % 4) 3 || eqb (flags / 4 % 4) 3 || ltb 15 flags

bad_above : (n : ℕ) → 15 < n → bad_byte n ≡ true
bad_above n l = rw (lt-ltb 15 n l) (or-true (eqb (n % 4) 3 || eqb (n / 4 % 4) 3))

data_flags : (flags : ℕ) → (ltb 10 flags || eqb (flags % 4) 3) ≡ (bad_byte flags || false)
unfolding every ◌and◌
data_flags =
    agree
    (λ n. ltb 10 n || eqb (n % 4) 3)
    (λ n. bad_byte n || false)
    refl
    (λ n l. (rw (lt-ltb 10 n (omega arith)), rw (bad_above n l)))

no_data_flags : (flags : ℕ) → (ltb 2 flags || eqb (flags % 4) 3) ≡ (bad_byte flags || not (eqb (flags / 4 % 4) 0))
unfolding every ◌and◌
no_data_flags =
    agree
    (λ n. ltb 2 n || eqb (n % 4) 3)
    (λ n. bad_byte n || not (eqb (n / 4 % 4) 0))
    refl
    (λ n l. (rw (lt-ltb 2 n (omega arith)), rw (bad_above n l)))

no_target : (target : ℕ) → ltb 0 target ≡ (ltb 31 target || not (eqb target 0))
no_target zero = refl
no_target (suc n) = rw (lt-ltb 0 (suc n) (omega arith), ne_eqb (suc n) 0 (omega arith)) (sym (or-true (ltb 31 (suc n))))

-- the rules test flags and stray data bits, target and stray target apart; the code makes one test of each pair
regroup
    : (bad stray-access a b c stray-target e d : Bool) →
    (bad || stray-access || a || b || (c || stray-target) || e || d) ≡ (bad || stray-access || (a || b || c) || stray-target || e || d)
regroup true s a b c t e d = refl
regroup false true a b c t e d = refl
regroup false false true b c t e d = refl
regroup false false false true c t e d = refl
regroup false false false false c t e d = refl

module _ (flags source1 source2 target execution fetch_latency data_latency : ℕ) where
  -- the whole test, given what the tests of flags, target and data latency come to for a kind
  joined
      : {on-flags on-target on-latency bad-latency : Bool} (stray-access stray-target : Bool) →
      on-flags ≡ (bad_byte flags || stray-access) →
      on-target ≡ (ltb 31 target || stray-target) →
      on-latency ≡ bad-latency →
      (on-flags || ltb 31 source1 || ltb 31 source2 || on-target || eqb fetch_latency 0 || on-latency)
      ≡ (bad_byte flags
      || stray-access
      || (ltb 31 source1 || ltb 31 source2 || ltb 31 target)
      || stray-target
      || eqb fetch_latency 0
      || bad-latency)
  joined {bad-latency} a t p q r =
      rw (p, q, r) (regroup (bad_byte flags) a (ltb 31 source1) (ltb 31 source2) (ltb 31 target) t (eqb fetch_latency 0) bad-latency)

  abbrev fields : ℕ → Fields
  fields kind =
      record {
        kind = kind;
        fetch = flags % 4;
        access = flags / 4 % 4;
        source1 = source1;
        source2 = source2;
        target = target;
        execution = execution;
        fetch_latency = fetch_latency;
        data_latency = data_latency;
      }

  by_kind
      : (kind : ℕ) →
      (ltb 4 kind
      || ltb (cond (eqb kind 1 || eqb kind 2) 10 2) flags
      || eqb (flags % 4) 3
      || ltb 31 source1
      || ltb 31 source2
      || ltb (cond (eqb kind 2 || eqb kind 3) 0 31) target
      || eqb fetch_latency 0
      || beq (eqb kind 1 || eqb kind 2) (eqb data_latency 0))
      ≡ breaks_rules (fields kind) flags
  unfolding breaks_rules
  by_kind zero = joined (not (eqb (flags / 4 % 4) 0)) false (no_data_flags flags) (sym (or-false (ltb 31 target))) (beq_false (eqb data_latency 0))
  by_kind (suc zero) = joined false false (data_flags flags) (sym (or-false (ltb 31 target))) (beq_true (eqb data_latency 0))
  by_kind (suc (suc zero)) = joined false (not (eqb target 0)) (data_flags flags) (no_target target) (beq_true (eqb data_latency 0))
  by_kind (suc (suc (suc zero))) =
      joined (not (eqb (flags / 4 % 4) 0)) (not (eqb target 0)) (no_data_flags flags) (no_target target) (beq_false (eqb data_latency 0))
  by_kind (suc (suc (suc (suc zero)))) =
      joined (not (eqb (flags / 4 % 4) 0)) false (no_data_flags flags) (sym (or-false (ltb 31 target))) (beq_false (eqb data_latency 0))
  by_kind (suc (suc (suc (suc (suc n))))) = rw (lt-ltb 4 (suc (suc (suc (suc (suc n))))) (omega arith))

-- the code's test is the rules', for the fields and the flags byte of a record
pub limits
    : (bytes : List ℕ) (at : ℕ) (f : Fields) (flags most-flags most-target : ℕ) →
    f ≡ fields_from bytes at →
    flags ≡ byte bytes (at + flags_at) →
    most-flags ≡ cond (eqb f.kind 1 || eqb f.kind 2) 10 2 →
    most-target ≡ cond (eqb f.kind 2 || eqb f.kind 3) 0 31 →
    (ltb 4 f.kind
    || ltb most-flags flags
    || eqb f.fetch 3
    || ltb 31 f.source1
    || ltb 31 f.source2
    || ltb most-target f.target
    || eqb f.fetch_latency 0
    || beq (eqb f.kind 1 || eqb f.kind 2) (eqb f.data_latency 0))
    ≡ breaks_rules (fields_from bytes at) (byte bytes (at + flags_at))
unfolding fields_from
limits bytes at f flags most-flags most-target read byte-read top-flags top-target =
    rw (top-flags, top-target, read, byte-read)
    (by_kind (byte bytes (at + flags_at)) _ _ _ _ _ _ (byte bytes (at + kind_at)))
