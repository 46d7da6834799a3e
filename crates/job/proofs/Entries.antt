-- Table entries: when an entry is refused, and what is known of the entries of a table that is not refused.
use Prim.Native.Nat.{ℕ, suc, ◌+◌, ◌*◌, ◌<◌, ◌≤◌}
use mathlib.Core.List.{List}
use mathlib.Core.Path.{◌≡◌, refl, sym, ap, ◌∙◌}
use native.Mathlib.Nat.{suc-ne-zero}
use native.Mathlib.Numerals.{add-one}
use borrow.Author.Tests.{le-leb, lt-leb, eq-eqb, ne_eqb, leb-true, eqb-true}
use Rattle.record.specs.Refusal.{◌then◌, ◌unless◌}
use Rattle.record.specs.Layout.{record_size}
use Rattle.record.proofs.Refusals.{then_first, then_second, unless_passed}
use Rattle.job.specs.Refusal.{first_refusal}
use Rattle.job.specs.Layout.{traces, count_at, offset_at, max_count, body_start, start_at}
use Rattle.job.specs.Open.{entry_refusal, entries_refusal}
use Rattle.job.proofs.First.{first_stop}

module _ (file : List ℕ) (t : ℕ) where
  pub entry_large : max_count < count_at file t → entry_refusal file t ≡ 5
  unfolding entry_refusal ◌then◌ ◌unless◌
  entry_large l = rw (lt-leb _ _ l)

  pub entry_offset : count_at file t ≤ max_count → (offset_at file t ≡ start_at file t → ⊥) → entry_refusal file t ≡ 6
  unfolding entry_refusal ◌then◌ ◌unless◌
  entry_offset l h = rw (le-leb _ _ l, ne_eqb _ _ h)

  pub entry_fine : count_at file t ≤ max_count → offset_at file t ≡ start_at file t → entry_refusal file t ≡ 0
  unfolding entry_refusal ◌then◌ ◌unless◌
  entry_fine l e = rw (le-leb _ _ l, eq-eqb _ _ e)

  pub entry_count : entry_refusal file t ≡ 0 → count_at file t ≤ max_count
  unfolding entry_refusal
  entry_count e = leb-true _ _ (unless_passed _ _ (then_first _ _ e))

  pub entry_at_lem : entry_refusal file t ≡ 0 → offset_at file t ≡ start_at file t
  unfolding entry_refusal
  entry_at_lem e = eqb-true _ _ (unless_passed _ _ (then_second _ _ e))

pub start_zero : (T : ℕ) (count : ℕ → ℕ) → body_start T count 0 ≡ 2 + 6 * T
unfolding body_start
start_zero T count = refl

pub start_suc : (T : ℕ) (count : ℕ → ℕ) (t : ℕ) → body_start T count (suc t) ≡ body_start T count t + record_size * count t
unfolding body_start
start_suc T count t = refl

pub start_more : (T : ℕ) (count : ℕ → ℕ) (t : ℕ) → body_start T count (t + 1) ≡ body_start T count t + record_size * count t
start_more T count t = ap (body_start T count) (add-one t) ∙ start_suc T count t

-- the scan stops at an entry that is refused, and passes a table none of whose entries is
pub entries_stop : (file : List ℕ) (t r : ℕ) → t < traces file → first_refusal (entry_refusal file) t ≡ 0 → entry_refusal file t ≡ suc r → suc r ≡ entries_refusal file
unfolding entries_refusal
entries_stop file t r l before here = sym (first_stop _ t _ l before (λ z. suc-ne-zero r (sym here ∙ z)) ∙ here)

pub entries_pass : (file : List ℕ) (t : ℕ) → t ≡ traces file → first_refusal (entry_refusal file) t ≡ 0 → 0 ≡ entries_refusal file
unfolding entries_refusal
entries_pass file t e before = sym (ap (first_refusal (entry_refusal file)) (sym e) ∙ before)
