-- The part of the file that `locate` names is the body that Open hands back, in its place: an accepted body lies in its file. Such a body is
-- accepted, and is bytes.
use Prim.Native.Nat.{ℕ, suc, ◌*◌, ◌-◌, ◌<◌, ◌≤◌, ◌/◌, ◌%◌}
use mathlib.Core.Bool.{Bool, true, false}
use mathlib.Core.List.{List, []}
use mathlib.Core.Path.{◌≡◌, refl, sym, ap, subst, ◌∙◌}
use borrow.Author.Tests.{ltb-true, le-leb, eqb-true, eq-eqb, ne_eqb}
use native.Mathlib.Decide.{dec_lt}
use native.Mathlib.Nat.{add-sub_cancel_left}
use native.Mathlib.Omega.{arith}
use lib.Dec.{eqb}
use lib.ListN.{length, take, drop, get_or-eq_default}
use lib.Seq.{get_or-take, get_or-drop}
use Rattle.machine.specs.State.{max_instructions}
use Rattle.record.specs.Layout.{record_size}
use Rattle.record.specs.Refusal.{◌unless◌}
use Rattle.little_endian.specs.Numbers.{byte}
use Rattle.record.specs.Body.{Bytes, length_refusal, record_refusal, body_refusal}
use Rattle.record.proofs.Refusals.{then_first, then_second, then_none, unless_passed}
use Rattle.job.specs.Layout.{traces, count_at, start_at, body_at}
use Rattle.job.specs.Open.{Located, traces_refusal, file_refusal, open_refusal, open_body, bounds_at, locate_answer}
use Rattle.job.specs.declared.table.Bounds.{Bounds}
use Rattle.job.proofs.Accepted.{file_fine, open_accepted}
use Rattle.job.proofs.Entries.{start_suc}
use Rattle.job.proofs.First.{first_at}
use Rattle.job.proofs.Joined.{body_inside, body_length}

-- a body lies in its file, up to where the next one starts
body_between
    : (file : List ℕ) (t : ℕ) →
    take (start_at file (suc t) - start_at file t) (drop (start_at file t) file) ≡ body_at file t
body_between file t = rw (start_suc (traces file) (count_at file) t, add-sub_cancel_left)

body_lies
    : (file : List ℕ) (t : ℕ) → file_refusal file ≡ 0 → t < traces file →
    (start_at file t ≤ start_at file (suc t)) × (start_at file (suc t) ≤ length file)
body_lies file t accepted below =
    let next = start_suc (traces file) (count_at file) t in
    let lies = body_inside file (file_fine file accepted).ends t below in
    (omega arith, omega arith)

module _ (file : List ℕ) (trace : ℕ) where
  pub opened_file : open_refusal file trace ≡ 0 → file_refusal file ≡ 0
  unfolding open_refusal
  opened_file e = then_first _ _ e

  pub opened_trace : open_refusal file trace ≡ 0 → trace < traces file
  unfolding open_refusal
  opened_trace e = ltb-true _ _ (unless_passed _ _ (then_second _ _ e))

  found_there
      : open_refusal file trace ≡ 0 →
      locate_answer file trace ≡ record { refusal = 0; start = start_at file trace; end = start_at file (suc trace) }
  unfolding locate_answer
  found_there e = rw (eq-eqb (open_refusal file trace) 0 e)

  pub bounds_lie
      : file_refusal file ≡ 0 → trace < traces file → (b : Bounds) → b ≡ bounds_at file trace →
      (b.start ≤ b.end) × (b.end ≤ length file)
  bounds_lie accepted below b e =
      subst (λ (x : Bounds). (x.start ≤ x.end) × (x.end ≤ length file)) (sym e) (body_lies file trace accepted below)

  -- the bytes between a body's bounds are what Open hands back
  pub bounds_body
      : file_refusal file ≡ 0 → trace < traces file → {part : List ℕ} → (b : Bounds) → b ≡ bounds_at file trace →
      part ≡ take (b.end - b.start) (drop b.start file) →
      part ≡ open_body file trace
  unfolding open_body
  bounds_body accepted below b e said =
      said
      ∙ ap (λ (x : Bounds). take (x.end - x.start) (drop x.start file)) e
      ∙ body_between file trace
      ∙ rw (eq-eqb _ _ (open_accepted file trace accepted below)) refl

  -- a refusal hands back no bytes
  pub no_body : (open_refusal file trace ≡ 0 → ⊥) → open_body file trace ≡ []
  unfolding open_body
  no_body refused = rw (ne_eqb (open_refusal file trace) 0 refused)

  -- what `locate` answers: Open's refusal; where there is none, where the body that it hands back lies
  refusal_said : (locate_answer file trace).refusal ≡ open_refusal file trace
  unfolding locate_answer
  refusal_said = by_refusal (eqb (open_refusal file trace) 0) refl
    where
      by_refusal : (accepts : Bool) → eqb (open_refusal file trace) 0 ≡ accepts → (locate_answer file trace).refusal ≡ open_refusal file trace
      by_refusal true e = rw e (sym (eqb-true _ _ e))
      by_refusal false e = rw e refl

  pub said_refusal : (l : Located) → l ≡ locate_answer file trace → l.refusal ≡ open_refusal file trace
  said_refusal l e = ap (λ (x : Located). x.refusal) e ∙ refusal_said

  pub said_bounds : (l : Located) → l ≡ locate_answer file trace → l.refusal ≡ 0 → (record { start = l.start; end = l.end }) ≡ bounds_at file trace
  said_bounds l e passes =
      ap (λ (x : Located). record { start = x.start; end = x.end }) (e ∙ found_there (sym (said_refusal l e) ∙ passes))

  -- the body that Open hands back is accepted: neither 10 nor 8 refuses it
  pub opened_accepted : open_refusal file trace ≡ 0 → body_refusal (open_body file trace) ≡ 0
  unfolding open_body traces_refusal body_refusal length_refusal ◌unless◌
  opened_accepted e =
      let fine = file_fine file (opened_file e) in
      let inside = opened_trace e in
      let whole = body_length file fine.ends trace inside in
      let few = (fine.entries trace inside).0 in
      rw (e)
      (then_none _ _
      (rw (eq-eqb (length (body_at file trace) % record_size) 0 (omega arith), le-leb (length (body_at file trace) / record_size) max_instructions (omega arith)))
      ∙ first_at (λ t. record_refusal (body_at file t)) (traces file) fine.records trace inside)

  -- and it is bytes, as the file is
  pub opened_bytes : Bytes file → open_refusal file trace ≡ 0 → Bytes (open_body file trace)
  unfolding open_body
  opened_bytes bytes e k = rw e (part_byte (dec_lt k (record_size * count_at file trace)))
    where
      part_byte : Dec (k < record_size * count_at file trace) → byte (body_at file trace) k < 256
      part_byte (yes h) = rw (get_or-take _ (drop (start_at file trace) file) k 0 h, get_or-drop (start_at file trace) file k 0) (bytes _)
      part_byte (no h) =
          let whole = body_length file (file_fine file (opened_file e)).ends trace (opened_trace e) in
          rw (get_or-eq_default (body_at file trace) 0 {n = k} (omega arith)) (omega arith)
