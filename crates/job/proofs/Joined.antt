-- The records of all traces stand one after the other, so checking them joined is checking them trace by trace.
use Prim.Native.Nat.{ℕ, zero, suc, ◌+◌, ◌*◌, ◌-◌, ◌<◌, ◌≤◌}
use mathlib.Core.Bool.{Bool, true, false, not}
use mathlib.Core.List.{List}
use mathlib.Core.Path.{◌≡◌, refl, sym, ap, ap₂, ◌∙◌}
use native.Mathlib.Omega.{arith}
use native.Mathlib.Nat.{add-zero, add-suc, le_refl}
use lib.ListN.{length, drop, length-drop}
use lib.Seq.{get_or-take, get_or-drop, length-take-le}
use Rattle.machine.specs.Test.{◌and◌, every, none}
use Rattle.machine.proofs.Connectives.{and_true, none_same}
use Rattle.record.specs.Refusal.{◌then◌, ◌unless◌, broken_record}
use Rattle.little_endian.specs.Numbers.{byte}
use Rattle.record.specs.Layout.{record_size}
use Rattle.record.specs.Body.{records, breaks_at, record_refusal}
use Rattle.record.proofs.Alike.{breaks_alike}
use Rattle.job.specs.Refusal.{first_refusal}
use Rattle.job.specs.Layout.{traces, count_at, entry_at, before, start_at, body_at, records_of}
use Rattle.job.specs.Open.{traces_refusal}
use Rattle.job.proofs.First.{first_zero, first_suc}
use Rattle.job.proofs.Starts.{start_before, start_le}
use Rattle.job.proofs.Entries.{start_suc}

and_assoc : (a b c : Bool) → ((a and b) and c) ≡ (a and (b and c))
unfolding ◌and◌
and_assoc true b c = refl
and_assoc false b c = refl

-- a test of the numbers below n + m is a test of those below n and of the m after them
none_split : (test : ℕ → Bool) (n m : ℕ) → none test (n + m) ≡ (none test n and none (λ k. test (n + k)) m)
unfolding none every
none_split test n zero = ap (every (λ k. not (test k))) (add-zero n) ∙ sym (and_true _)
none_split test n (suc m) =
    ap (every (λ k. not (test k))) (add-suc n m)
    ∙ ap (λ (b : Bool). b and not (test (n + m))) (none_split test n m)
    ∙ and_assoc _ _ _

unless_and : (a b : Bool) → (broken_record unless (a and b)) ≡ ((broken_record unless a) then (broken_record unless b))
unfolding ◌unless◌ ◌then◌ ◌and◌
unless_and true b = refl
unless_and false b = refl

module _ (file : List ℕ) (ends : length file ≡ start_at file (traces file)) where
  -- a trace's body lies in the file
  pub body_inside : (t : ℕ) → t < traces file → start_at file t + record_size * count_at file t ≤ length file
  body_inside t l =
      let e = start_suc (traces file) (count_at file) t in
      let h = start_le (traces file) (count_at file) (suc t) (traces file) l in
      omega (arith, ends)

  pub body_length : (t : ℕ) → t < traces file → length (body_at file t) ≡ record_size * count_at file t
  body_length t l =
      length-take-le
      _
      _
      (let h = body_inside t l in let e = length-drop (start_at file t) file in omega arith)

  record_same : (t : ℕ) → t < traces file → (k : ℕ) → k < count_at file t → breaks_at (body_at file t) k ≡ breaks_at (records_of file) (before (count_at file) t + k)
  record_same t l k lk =
      breaks_alike _ _ k (before (count_at file) t + k) λ j lj.
      let e = start_before (traces file) (count_at file) t in
      let place : start_at file t + (k * record_size + j) ≡ entry_at (traces file) + ((before (count_at file) t + k) * record_size + j) = omega arith in
      get_or-take (record_size * count_at file t) (drop (start_at file t) file) (k * record_size + j) 0 (omega arith)
      ∙ get_or-drop (start_at file t) file (k * record_size + j) 0
      ∙ ap (byte file) place
      ∙ sym (get_or-drop (entry_at (traces file)) file ((before (count_at file) t + k) * record_size + j) 0)

  body_refusal_lem
      : (t : ℕ) → t < traces file →
      record_refusal (body_at file t) ≡ (broken_record unless none (λ k. breaks_at (records_of file) (before (count_at file) t + k)) (count_at file t))
  unfolding record_refusal
  body_refusal_lem t l =
      ap
      (λ (n : ℕ). broken_record unless none (breaks_at (body_at file t)) n)
      (let e = body_length t l in count_of e)
      ∙ ap (λ (b : Bool). broken_record unless b) (none_same _ _ _ (record_same t l))
    where
      count_of : length (body_at file t) ≡ record_size * count_at file t → records (body_at file t) ≡ count_at file t
      count_of e = omega arith

  joined_below
      : (t : ℕ) → t ≤ traces file →
      (broken_record unless none (breaks_at (records_of file)) (before (count_at file) t)) ≡ first_refusal (λ t. record_refusal (body_at file t)) t
  unfolding before none every ◌unless◌
  joined_below zero l = sym (first_zero _)
  joined_below (suc t) l =
      ap (λ (b : Bool). broken_record unless b) (none_split (breaks_at (records_of file)) (before (count_at file) t) (count_at file t))
      ∙ unless_and _ _
      ∙ ap₂ (λ (a b : ℕ). a then b) (joined_below t (omega arith)) (sym (body_refusal_lem t l))
      ∙ sym (first_suc _ t)

  pub joined : entry_at (traces file) ≤ length file → record_refusal (records_of file) ≡ traces_refusal file
  unfolding traces_refusal record_refusal
  joined fits =
      ap
      (λ (n : ℕ). broken_record unless none (breaks_at (records_of file)) n)
      (let e = start_before (traces file) (count_at file) (traces file) in
      let d = length-drop (entry_at (traces file)) file in
      count_of e d)
      ∙ joined_below (traces file) (le_refl _)
    where
      count_of
          : start_at file (traces file) ≡ entry_at (traces file) + record_size * before (count_at file) (traces file) →
          length (records_of file) ≡ length file - entry_at (traces file) →
          records (records_of file) ≡ before (count_at file) (traces file)
      count_of e d = omega (arith, ends)
