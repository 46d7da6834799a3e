-- What is known of the fields of a record that breaks no rule, as inequalities that arithmetic can use: the rules' joined tests, taken apart.
use Prim.Native.Nat.{ℕ, zero, suc, ◌+◌, ◌≤◌, ◌<◌}
use mathlib.Core.Bool.{Bool, true, false, not, ◌||◌, ◌&&◌}
use mathlib.Core.List.{List}
use mathlib.Core.Logic.{◌⊎◌, inl, inr}
use mathlib.Core.Path.{◌≡◌, refl}
use native.Mathlib.Omega.{arith}
use borrow.Author.Tests.{ltb-false, eqb-true, eqb-false, eq-eqb, not-false}
use lib.Dec.{ltb, eqb}
use Rattle.record.specs.declared.layout.Fields.{Fields}
use Rattle.record.specs.Layout.{execution_at, fetch_latency_at, data_latency_at, fields_from}
use Rattle.record.specs.Rules.{bad_kind, bad_flags, no_access, stray_access, bad_register, stray_target, bad_fetch_latency, bad_data_latency, breaks_rules, has_unknown}
use Rattle.record.specs.Body.{Bytes}

pub or_false : (a b : Bool) → (a || b) ≡ false → (a ≡ false) × (b ≡ false)
or_false true b e = (e, cc)
or_false false b e = (refl, e)

-- a rule for some kinds only: if the kind is one of them, the rest of the test fails
pub and_false : (a b : Bool) → (a && b) ≡ false → a ≡ true → b ≡ false
and_false true b e t = e
and_false false b e t = cc

zero_where : (test : Bool) (n : ℕ) → (test && not (eqb n 0)) ≡ false → test ≡ true → n ≡ 0
zero_where test n e t = eqb-true n 0 (not-false (eqb n 0) (and_false test (not (eqb n 0)) e t))

above_where : (test : Bool) (n : ℕ) → (test && eqb n 0) ≡ false → test ≡ true → 1 ≤ n
above_where test n e t = let some = eqb-false n 0 (and_false test (eqb n 0) e t) in omega arith

or_true : (a : Bool) → (a || true) ≡ true
or_true true = refl
or_true false = refl

abbrev pub OneOf : ℕ → ℕ → ℕ → Type 0
OneOf n a b = (n ≡ a) ⊎ (n ≡ b)

one_of : (n a b : ℕ) → OneOf n a b → (eqb n a || eqb n b) ≡ true
one_of n a b (inl e) = rw (eq-eqb n a e)
one_of n a b (inr e) = rw (eq-eqb n b e) (or_true (eqb n a))

one_of_tests : (a b : Bool) → (a || b) ≡ true → (a ≡ true) ⊎ (b ≡ true)
one_of_tests true b e = inl refl
one_of_tests false b e = inr e

pub one_of_true : (n a b : ℕ) → (eqb n a || eqb n b) ≡ true → OneOf n a b
one_of_true n a b e = by (one_of_tests (eqb n a) (eqb n b) e)
  where
    by : (eqb n a ≡ true) ⊎ (eqb n b ≡ true) → OneOf n a b
    by (inl t) = inl (eqb-true n a t)
    by (inr t) = inr (eqb-true n b t)

-- a kind that is neither a load nor a store has no data access
others : (n : ℕ) → n ≤ 4 → (eqb n 1 || eqb n 2) ≡ false → (eqb n 0 || eqb n 3 || eqb n 4) ≡ true
others zero l e = refl
others (suc zero) l e = cc
others (suc (suc zero)) l e = cc
others (suc (suc (suc zero))) l e = refl
others (suc (suc (suc (suc zero)))) l e = refl
others (suc (suc (suc (suc (suc n))))) l e = absurd (omega arith)

-- what holds for any bytes
pub record Sized (f : Fields) : Type 0 where
  pub fetch : f.fetch < 4
  pub access : f.access < 4
  pub execution : f.execution < 256
  pub fetch_latency : f.fetch_latency < 65536
  pub data_latency : f.data_latency < 65536

pub sized : (bytes : List ℕ) (at : ℕ) → Bytes bytes → Sized (fields_from bytes at)
unfolding fields_from
sized bytes at b =
    record {
      fetch = omega arith;
      access = omega arith;
      execution = b (at + execution_at);
      fetch_latency = omega (arith, b (at + fetch_latency_at), b (at + fetch_latency_at + 1));
      data_latency = omega (arith, b (at + data_latency_at), b (at + data_latency_at + 1));
    }

-- what the rules add to that
pub record Within (f : Fields) : Type 0 where
  pub kind : f.kind ≤ 4
  pub fetch : f.fetch ≤ 2
  pub access : f.access ≤ 2
  pub source1 : f.source1 ≤ 31
  pub source2 : f.source2 ≤ 31
  pub target : f.target ≤ 31
  pub execution : f.execution ≤ 255
  pub fetch_latency : (1 ≤ f.fetch_latency) × (f.fetch_latency ≤ 65535)
  pub data_latency : f.data_latency ≤ 65535
  pub no_access : (eqb f.kind 1 || eqb f.kind 2) ≡ false → (f.access ≡ 0) × (f.data_latency ≡ 0)
  pub some_access : OneOf f.kind 1 2 → 1 ≤ f.data_latency
  pub no_target : OneOf f.kind 2 3 → f.target ≡ 0

three : (a b c : Bool) → (a || b || c) ≡ false → (a ≡ false) × (b ≡ false) × (c ≡ false)
three a b c q =
    let p = or_false _ _ q in
    let o = or_false _ _ p.0 in
    (o.0, o.1, p.1)

seven : (a b c d e g h : Bool) → (a || b || c || d || e || g || h) ≡ false →
    (a ≡ false) × (b ≡ false) × (c ≡ false) × (d ≡ false) × (e ≡ false) × (g ≡ false) × (h ≡ false)
seven a b c d e g h q =
    let p = or_false _ _ q in
    let o = or_false _ _ p.0 in
    let n = or_false _ _ o.0 in
    let m = or_false _ _ n.0 in
    let l = or_false _ _ m.0 in
    let k = or_false _ _ l.0 in
    (k.0, k.1, l.1, m.1, n.1, o.1, p.1)

module _ (f : Fields) (flags : ℕ) (lawful : breaks_rules f flags ≡ false) where
  pub rules : (bad_kind f ≡ false)
      × (bad_flags f flags ≡ false)
      × (stray_access f ≡ false)
      × (bad_register f ≡ false)
      × (stray_target f ≡ false)
      × (bad_fetch_latency f ≡ false)
      × (bad_data_latency f ≡ false)
  unfolding breaks_rules
  rules = seven (bad_kind f) (bad_flags f flags) (stray_access f) (bad_register f) (stray_target f) (bad_fetch_latency f) (bad_data_latency f) lawful

  flag_rules : (eqb f.fetch 3 ≡ false) × (eqb f.access 3 ≡ false) × (ltb 15 flags ≡ false)
  flag_rules = three _ _ _ rules.1

  data_rules
      : ((eqb f.kind 1 || eqb f.kind 2) && eqb f.data_latency 0 ≡ false)
      × (no_access f && not (eqb f.data_latency 0) ≡ false)
  data_rules = or_false _ _ rules.6

  pub flags_within : flags ≤ 15
  flags_within = ltb-false 15 flags flag_rules.2

  pub registers_within : (f.source1 ≤ 31) × (f.source2 ≤ 31) × (f.target ≤ 31)
  registers_within =
      let each = three (ltb 31 f.source1) (ltb 31 f.source2) (ltb 31 f.target) rules.3 in
      (ltb-false 31 f.source1 each.0, ltb-false 31 f.source2 each.1, ltb-false 31 f.target each.2)

  pub within : Sized f → Within f
  within s =
      let kind = ltb-false 4 f.kind rules.0 in
      let fetch = eqb-false f.fetch 3 flag_rules.0 in
      let access = eqb-false f.access 3 flag_rules.1 in
      let fetch-latency = eqb-false f.fetch_latency 0 rules.5 in
      record {
        kind = kind;
        fetch = omega arith;
        access = omega arith;
        source1 = registers_within.0;
        source2 = registers_within.1;
        target = registers_within.2;
        execution = omega arith;
        fetch_latency = omega arith;
        data_latency = omega arith;
        no_access =
            λ e.
            let none = others f.kind kind e in
            (zero_where (no_access f) f.access rules.2 none, zero_where (no_access f) f.data_latency data_rules.1 none);
        some_access = λ k. above_where (eqb f.kind 1 || eqb f.kind 2) f.data_latency data_rules.0 (one_of f.kind 1 2 k);
        no_target = λ k. zero_where (eqb f.kind 2 || eqb f.kind 3) f.target rules.4 (one_of f.kind 2 3 k);
      }

-- a flag above 1 is unknown
above_one : (n : ℕ) → n ≤ 2 → ltb 1 n ≡ eqb n 2
above_one zero l = refl
above_one (suc zero) l = refl
above_one (suc (suc zero)) l = refl
above_one (suc (suc (suc n))) l = absurd (omega arith)

pub unknown_is : (f : Fields) → Within f → (ltb 1 f.fetch || ltb 1 f.access) ≡ has_unknown f
unfolding has_unknown
unknown_is f w = rw (above_one f.fetch w.fetch, above_one f.access w.access)
