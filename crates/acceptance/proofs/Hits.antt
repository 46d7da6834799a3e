-- 17, record by record: what a loop over the records has seen of it.
use Prim.Native.Nat.{ℕ, ◌+◌, ◌≤◌, ◌<◌}
use mathlib.Core.Bool.{Bool, true, false, not, ◌&&◌, ◌||◌, false≢true}
use mathlib.Core.List.{List}
use mathlib.Core.Path.{◌≡◌, refl, sym, ap, subst, ◌∙◌}
use native.Mathlib.Nat.{le_antisymm}
use borrow.Author.Tests.{lt-leb, le-leb}
use lib.Dec.{leb}
use Rattle.machine.specs.Test.{none}
use Rattle.machine.proofs.Connectives.{none_fails}
use Rattle.record.specs.Refusal.{long_hit}
use Rattle.record.specs.Body.{Bytes, records, not_above_at, max_hit_cycles, body_refusal, hit_refusal}
use Rattle.record.proofs.Accepted.{zero_hits}
use Rattle.record.proofs.Refusals.{last_fails, last_passes}
use Rattle.record.proofs.Scan.{none_zero, none_joined}

abbrev tested : List ℕ → ℕ → ℕ → Bool
tested body h k = leb h max_hit_cycles && none (not_above_at body h) k

-- of the first k records: whether a data hit takes too long
pub record Seen (body : List ℕ) (h k : ℕ) (long : Bool) : Type 0 where
  pub tests : tested body h k ≡ not long

and_zero : (ok : Bool) (test : ℕ → Bool) → (ok && none test 0) ≡ ok
and_zero true test = none_zero test
and_zero false test = refl

and_more : (ok : Bool) (test : ℕ → Bool) (k : ℕ) (long here : Bool) → (ok && none test k) ≡ not long → here ≡ test k → (ok && none test (k + 1)) ≡ not (long || here)
and_more true test k long here before now = none_joined test k long here before now
and_more false test k true here before now = before
and_more false test k false here before now = absurd (false≢true before)

module _ {body : List ℕ} {h : ℕ} where
  pub seen_more : {k : ℕ} {long here : Bool} → Seen body h k long → here ≡ not_above_at body h k → Seen body h (k + 1) (long || here)
  seen_more {k} {long} {here} s now = record { tests = and_more (leb h max_hit_cycles) (not_above_at body h) k long here s.tests now }

  all : {k : ℕ} {long : Bool} → Seen body h k long → records body ≤ k → k ≤ records body → tested body h (records body) ≡ not long
  all {k} {long} s up down = subst (λ (m : ℕ). tested body h m ≡ not long) (le_antisymm down up) s.tests

  pub seen_passed : {k : ℕ} {long : Bool} → Seen body h k long → long ≡ false → records body ≤ k → k ≤ records body → 0 ≡ hit_refusal body h
  unfolding hit_refusal
  seen_passed s e up down = last_passes long_hit (all s up down ∙ ap not e)

  pub seen_short : h ≤ max_hit_cycles → Seen body h 0 false
  seen_short few = record { tests = and_zero (leb h max_hit_cycles) (not_above_at body h) ∙ le-leb h max_hit_cycles few }

-- one record is enough, and so is h
found : (ok : Bool) (test : ℕ → Bool) (n k : ℕ) → k < n → test k ≡ true → (ok && none test n) ≡ false
found true test n k l e = none_fails test n k l e
found false test n k l e = refl

module _ (body : List ℕ) (h : ℕ) where
  -- no data latency of an accepted body is 0
  pub zero_passes : body_refusal body ≡ 0 → Bytes body → h ≡ 0 → 0 ≡ hit_refusal body h
  zero_passes accepted b e = rw e (sym (zero_hits body accepted b))

  pub one_refused : (k : ℕ) → k < records body → not_above_at body h k ≡ true → long_hit ≡ hit_refusal body h
  unfolding hit_refusal
  one_refused k l e = last_fails long_hit (found (leb h max_hit_cycles) (not_above_at body h) (records body) k l e)

  pub long_refused : max_hit_cycles < h → long_hit ≡ hit_refusal body h
  unfolding hit_refusal
  long_refused l = last_fails long_hit (rw (lt-leb h max_hit_cycles l))
