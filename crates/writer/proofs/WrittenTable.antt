-- The table as it is written, entry after entry.
use Prim.Native.Nat.{ℕ, zero, suc, ◌+◌, ◌*◌, ◌≤◌}
use mathlib.Core.List.{List, [], ◌++◌, append_assoc, append-nil}
use mathlib.Core.Path.{◌≡◌, refl, sym, ap, ap₂, ◌∙◌}
use native.Mathlib.Numerals.{add-one}
use native.Mathlib.Omega.{arith}
use lib.ListN.{length, take, drop, length-append, take-append-drop}
use lib.Seq.{length-take-le}
use Rattle.little_endian.specs.Numbers.{half_bytes, word_bytes}
use Rattle.job.specs.Layout.{header_size, entry_size, entry_at, body_start}
use Rattle.writer.specs.Write.{count, entry_bytes, table_of}
use Rattle.little_endian.proofs.Placed.{put_next}

pub table_zero : (counts : List ℕ) → table_of counts 0 ≡ []
unfolding table_of
table_zero counts = refl

pub table_suc : (counts : List ℕ) (t : ℕ) → table_of counts (suc t) ≡ table_of counts t ++ entry_bytes counts t
unfolding table_of
table_suc counts t = refl

pub length_table : (counts : List ℕ) (t : ℕ) → length (table_of counts t) ≡ entry_size * t
unfolding table_of entry_bytes
length_table counts zero = refl
length_table counts (suc t) =
    let e = length-append (table_of counts t) (entry_bytes counts t) in
    let h = length_table counts t in
    omega arith

-- nothing is written yet
pub entries_none : (counts o : List ℕ) → header_size ≤ length o → o ≡ take header_size o ++ table_of counts 0 ++ drop (entry_at 0) o
entries_none counts o l =
    sym
    (ap (λ (l : List ℕ). take header_size o ++ l ++ drop header_size o) (table_zero counts)
    ∙ ap (λ (l : List ℕ). l ++ drop header_size o) (append-nil (take header_size o))
    ∙ take-append-drop header_size o)

-- one entry more
pub entries_more
    : (counts o out w : List ℕ) (t at offset n : ℕ) →
    header_size ≤ length o →
    at ≡ entry_at t →
    offset ≡ body_start (length counts) (count counts) t →
    n ≡ count counts t →
    out ≡ take header_size o ++ table_of counts t ++ drop at o →
    w ≡ take at out ++ (word_bytes offset ++ half_bytes n) ++ drop (at + entry_size) out →
    w ≡ take header_size o ++ table_of counts (t + 1) ++ drop (at + entry_size) o
unfolding entry_bytes
entries_more counts o out w t at offset n l eat eoffset en eout ew =
    ew
    ∙ ap₂ (λ (a b : ℕ). take at out ++ (word_bytes a ++ half_bytes b) ++ drop (at + entry_size) out) eoffset en
    ∙ ap (λ (l : List ℕ). take at l ++ entry_bytes counts t ++ drop (at + entry_size) l) eout
    ∙ put_next (take header_size o ++ table_of counts t) (entry_bytes counts t) o at long
    ∙ ap (λ (l : List ℕ). l ++ drop (at + entry_size) o) (append_assoc (take header_size o) (table_of counts t) (entry_bytes counts t))
    ∙ ap (λ (l : List ℕ). take header_size o ++ l ++ drop (at + entry_size) o) (sym (ap (table_of counts) (add-one t) ∙ table_suc counts t))
  where
    long : length (take header_size o ++ table_of counts t) ≡ at
    long =
        let a = length-append (take header_size o) (table_of counts t) in
        let b = length-take-le header_size o l in
        let d = length_table counts t in
        omega arith
