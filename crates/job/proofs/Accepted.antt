-- What is known of a file that is not declined, and how its refusal is put together.
use Prim.Native.Nat.{ℕ, ◌+◌, ◌*◌, ◌-◌, ◌<◌, ◌≤◌}
use mathlib.Core.List.{List}
use mathlib.Core.Path.{◌≡◌, ap, ◌∙◌}
use borrow.Author.Tests.{leb-true, eqb-true, lt-ltb, le-ltb, eq-eqb, ne_eqb}
use native.Mathlib.Omega.{arith}
use lib.Dec.{eqb}
use lib.ListN.{length, take, drop, length-drop}
use lib.Seq.{take_all}
use Rattle.record.specs.Refusal.{◌then◌, ◌unless◌, out_of_range}
use Rattle.record.specs.Layout.{record_size}
use Rattle.record.proofs.Refusals.{then_first, then_second, then_none, stop, unless_passed}
use Rattle.record.specs.Body.{record_refusal}
use Rattle.job.specs.Refusal.{wrong_end}
use Rattle.job.specs.Layout.{traces, max_traces, entry_at, offset_at, count_at, max_count, max_file, start_at}
use Rattle.job.specs.Open.{entry_refusal, table_refusal, entries_refusal, traces_refusal, file_refusal, open_refusal, bounds_at, locate_answer}
use Rattle.job.specs.declared.table.Bounds.{Bounds}
use Rattle.job.proofs.First.{first_at}
use Rattle.job.proofs.Entries.{entry_count, entry_at_lem, start_suc}
use Rattle.job.proofs.Joined.{joined, body_inside}

pub record TableFine (file : List ℕ) : Type 0 where
  pub short : length file ≤ max_file
  pub header : 2 ≤ length file
  pub few : traces file ≤ max_traces
  pub whole : entry_at (traces file) ≤ length file

pub table_fine : (file : List ℕ) → table_refusal file ≡ 0 → TableFine file
unfolding table_refusal
table_fine file e =
    let e₂ = then_second _ _ e in
    let e₃ = then_second _ _ e₂ in
    record {
      short = leb-true _ _ (unless_passed _ _ (then_first _ _ e));
      header = leb-true _ _ (unless_passed _ _ (then_first _ _ e₂));
      few = leb-true _ _ (unless_passed _ _ (then_first _ _ e₃));
      whole = leb-true _ _ (unless_passed _ _ (then_second _ _ e₃));
    }

pub record FileFine (file : List ℕ) : Type 0 where
  pub table : TableFine file
  pub entries : (t : ℕ) → t < traces file → (count_at file t ≤ max_count) × (offset_at file t ≡ start_at file t)
  pub ends : length file ≡ start_at file (traces file)
  pub records : traces_refusal file ≡ 0

entries_fine : (file : List ℕ) → entries_refusal file ≡ 0 → (t : ℕ) → t < traces file → (count_at file t ≤ max_count) × (offset_at file t ≡ start_at file t)
unfolding entries_refusal
entries_fine file e t l = let h = first_at (entry_refusal file) (traces file) e t l in (entry_count file t h, entry_at_lem file t h)

pub file_fine : (file : List ℕ) → file_refusal file ≡ 0 → FileFine file
unfolding file_refusal
file_fine file e =
    let e₂ = then_second _ _ e in
    let e₃ = then_second _ _ e₂ in
    record {
      table = table_fine file (then_first _ _ e);
      entries = entries_fine file (then_first _ _ e₂);
      ends = eqb-true _ _ (unless_passed _ _ (then_first _ _ e₃));
      records = then_second _ _ e₃;
    }

-- one check of all records after the table gives the refusal of all traces
pub records_checked
    : (file : List ℕ) (count r : ℕ) →
    TableFine file →
    count ≡ traces file →
    length file ≡ start_at file (traces file) →
    r ≡ record_refusal (take (length file - entry_at count) (drop (entry_at count) file)) →
    r ≡ (wrong_end unless eqb (length file) (start_at file (traces file)) then traces_refusal file)
unfolding ◌unless◌ ◌then◌
records_checked file count r fine e ends said =
    said
    ∙ ap (λ (n : ℕ). record_refusal (take (length file - entry_at n) (drop (entry_at n) file))) e
    ∙ ap
    record_refusal
    (take_all
    (length file - entry_at (traces file))
    (drop (entry_at (traces file)) file)
    (let d = length-drop (entry_at (traces file)) file in omega arith))
    ∙ joined file ends fine.whole
    ∙ rw (eq-eqb _ _ ends)

-- a body ends within the greatest length that a file may have
pub body_fits : (file : List ℕ) → FileFine file → (t : ℕ) → t < traces file → offset_at file t + record_size * count_at file t ≤ max_file
body_fits file fine t l =
    let e = (fine.entries t l).1 in
    let h = body_inside file fine.ends t l in
    let s = fine.table.short in
    omega arith

-- a body starts at its entry's offset, and ends where the next one starts
pub bounds_read
    : (file : List ℕ) → file_refusal file ≡ 0 → (t : ℕ) → t < traces file → {start count : ℕ} →
    start ≡ offset_at file t →
    count ≡ count_at file t →
    record { start = start; end = start + record_size * count } ≡ bounds_at file t
bounds_read file e t l s c =
    let at = s ∙ ((file_fine file e).entries t l).1 in
    rw (start_suc (traces file) (count_at file) t, at, c)

-- what Open and `locate` give, by whether the file or the trace number is declined
module _ (file : List ℕ) (trace : ℕ) where
  pub open_accepted : file_refusal file ≡ 0 → trace < traces file → open_refusal file trace ≡ 0
  unfolding open_refusal ◌unless◌
  open_accepted e l = then_none _ _ e ∙ rw (lt-ltb _ _ l)

  pub locate_refused : (r : ℕ) → r ≡ open_refusal file trace → (r ≡ 0 → ⊥) → locate_answer file trace ≡ record { refusal = r; start = 0; end = 0 }
  unfolding locate_answer
  locate_refused r e h = rw (← e, ne_eqb _ _ h)

  pub locate_found
      : (b : Bounds) → file_refusal file ≡ 0 → trace < traces file → b ≡ bounds_at file trace →
      locate_answer file trace ≡ record { refusal = 0; start = b.start; end = b.end }
  unfolding locate_answer
  locate_found b e l f = rw (eq-eqb _ _ (open_accepted e l), f)

  pub open_out : (n : ℕ) → file_refusal file ≡ 0 → n ≡ traces file → n ≤ trace → open_refusal file trace ≡ out_of_range
  unfolding open_refusal ◌unless◌
  open_out n e c l = then_none _ _ e ∙ rw (← c, le-ltb _ _ l)

  pub open_declined : (r : ℕ) → r ≡ file_refusal file → (r ≡ 0 → ⊥) → r ≡ open_refusal file trace
  unfolding open_refusal
  open_declined r e h = stop _ e h
