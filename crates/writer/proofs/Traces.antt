-- The round trip over traces: the bodies that Open hands back, joined, are the file's records, and bodies that are written joined are handed back
-- one by one.
use Prim.Native.Nat.{ℕ, zero, suc, ◌+◌, ◌*◌, ◌<◌, ◌≤◌}
use mathlib.Core.List.{List, [], ◌∷◌, ◌++◌, map, append_assoc, append-nil}
use mathlib.Core.Path.{◌≡◌, refl, sym, ap, ap₂, ◌∙◌}
use borrow.Author.Tests.{eq-eqb}
use native.Mathlib.Nat.{le_refl, le_of_suc-le-suc, not-suc-le-zero}
use native.Mathlib.Omega.{arith}
use lib.ListN.{length, get_or, take, drop, length-drop, length-map}
use lib.Seq.{take_all, take_at, take-add, drop-drop, drop-append-add, ext_get_or}
use Rattle.machine.specs.Instruction.{Trace}
use Rattle.machine.specs.Hits.{with_hits}
use Rattle.record.specs.Layout.{record_size}
use Rattle.record.specs.Body.{Bytes, records, firsts, trace_of}
use Rattle.encoding.specs.Encoding.{body_of}
use Rattle.record.proofs.Instructions.{length_firsts, get_or_firsts, trace_hits}
use Rattle.encoding.proofs.Encoding.{length_body_of}
use Rattle.encoding.proofs.RoundTrip.{accepted_is_encoded, timed_again}
use Rattle.job.specs.Layout.{traces, count_at, entry_at, before, start_at, body_at, records_of}
use Rattle.job.specs.Open.{file_refusal, open_body}
use Rattle.job.proofs.Accepted.{FileFine, file_fine, open_accepted}
use Rattle.job.proofs.Joined.{body_length}
use Rattle.job.proofs.Part.{opened_accepted, opened_bytes}
use Rattle.job.proofs.Starts.{start_before}
use Rattle.writer.specs.Write.{count, file_of, write_refusal}
use Rattle.writer.specs.RoundTrip.{counts_of, records_at, bodies_of, traces_of, counts_in, joined, file_of_bodies, bodies_refusal, TracesRoundTrip}
use Rattle.writer.proofs.RoundTrip.{round_trip}

-- lists that are made one element after the other
module _ {A : Type 0} where
  firsts_same : (f g : ℕ → A) (n : ℕ) → ((k : ℕ) → k < n → f k ≡ g k) → firsts f n ≡ firsts g n
  unfolding firsts
  firsts_same f g zero same = refl
  firsts_same f g (suc n) same =
      ap₂ (λ (l : List A) (a : A). l ++ (a ∷ [])) (firsts_same f g n (λ k l. same k (omega arith))) (same n (le_refl (suc n)))

  module _ {B : Type 0} (g : A → B) where
    map_snoc : (l : List A) (a : A) → map g (l ++ (a ∷ [])) ≡ map g l ++ (g a ∷ [])
    map_snoc [] a = refl
    map_snoc (x ∷ l) a = ap (λ (m : List B). g x ∷ m) (map_snoc l a)

    map_firsts : (f : ℕ → A) (n : ℕ) → map g (firsts f n) ≡ firsts (λ k. g (f k)) n
    unfolding firsts
    map_firsts f zero = refl
    map_firsts f (suc n) = map_snoc (firsts f n) (f n) ∙ ap (λ (m : List B). m ++ (g (f n) ∷ [])) (map_firsts f n)

joined_snoc : (bodies : List (List ℕ)) (body : List ℕ) → joined (bodies ++ (body ∷ [])) ≡ joined bodies ++ body
unfolding joined
joined_snoc [] body = append-nil body
joined_snoc (first ∷ bodies) body = ap (λ (l : List ℕ). first ++ l) (joined_snoc bodies body) ∙ sym (append_assoc first (joined bodies) body)

-- what Open hands back of an accepted file
module _ (file : List ℕ) (accepted : file_refusal file ≡ 0) where
  fine : FileFine file
  fine = file_fine file accepted

  opened : (t : ℕ) → t < traces file → open_body file t ≡ body_at file t
  unfolding open_body
  opened t l = rw (eq-eqb _ _ (open_accepted file t accepted l))

  counts_opened : counts_in (bodies_of file) ≡ counts_of file
  counts_opened =
      map_firsts (λ body. records body) (open_body file) (traces file)
      ∙ firsts_same _ _ (traces file) λ t l. ap (λ (body : List ℕ). records body) (opened t l) ∙ count_of t l
    where
      count_of : (t : ℕ) → t < traces file → records (body_at file t) ≡ count_at file t
      count_of t l = let e = body_length file fine.ends t l in omega arith

  joined_below : (t : ℕ) → t ≤ traces file → joined (firsts (open_body file) t) ≡ take (record_size * before (count_at file) t) (records_of file)
  unfolding firsts before joined
  joined_below zero l = refl
  joined_below (suc t) l =
      joined_snoc (firsts (open_body file) t) (open_body file t)
      ∙ ap₂ (λ (a b : List ℕ). a ++ b) (joined_below t (omega arith)) (opened t l ∙ ap (take (record_size * count_at file t)) part)
      ∙ sym (take-add (record_size * before (count_at file) t) (record_size * count_at file t) (records_of file))
      ∙ ap (λ (n : ℕ). take n (records_of file)) (ten_times (before (count_at file) t) (count_at file t))
    where
      part : drop (start_at file t) file ≡ drop (record_size * before (count_at file) t) (records_of file)
      part =
          ap (λ (n : ℕ). drop n file) (start_before (traces file) (count_at file) t)
          ∙ sym (drop-drop (record_size * before (count_at file) t) (entry_at (traces file)) file)

      ten_times : (m n : ℕ) → record_size * m + record_size * n ≡ record_size * (m + n)
      ten_times m n = omega arith

  joined_opened : joined (bodies_of file) ≡ records_of file
  joined_opened =
      joined_below (traces file) (le_refl (traces file))
      ∙ take_all
      (record_size * before (count_at file) (traces file))
      (records_of file)
      (let d = length-drop (entry_at (traces file)) file in
      let s = start_before (traces file) (count_at file) (traces file) in
      let e = fine.ends in
      omega arith)

  encoded_opened : Bytes file → bodies_of file ≡ map body_of (traces_of file)
  encoded_opened bytes =
      sym
      (ap (map body_of) (map_firsts trace_of (open_body file) (traces file))
      ∙ map_firsts body_of (λ t. trace_of (open_body file t)) (traces file)
      ∙ firsts_same _ _ (traces file) λ t l.
      let passes = open_accepted file t accepted l in
      accepted_is_encoded (open_body file t) (opened_bytes file t bytes passes) (opened_accepted file t passes))

-- where body t stands among joined ones
before_cons : (c : ℕ) (counts : List ℕ) (t : ℕ) → before (count (c ∷ counts)) (suc t) ≡ c + before (count counts) t
unfolding before
before_cons c counts zero = omega arith
before_cons c counts (suc t) = let h = before_cons c counts t in omega arith

-- the bodies hold whole records
abbrev Whole : List (List ℕ) → Type 0
Whole bodies = (k : ℕ) → k < length bodies → length (get_or bodies k []) ≡ record_size * records (get_or bodies k [])

piece : (bodies : List (List ℕ)) → Whole bodies → (t : ℕ) → t < length bodies → records_at (counts_in bodies) (joined bodies) t ≡ get_or bodies t []
unfolding before joined
piece [] whole t l = absurd (not-suc-le-zero l)
piece (body ∷ bodies) whole zero l = take_at body (joined bodies) (record_size * records body) (whole zero l)
piece (body ∷ bodies) whole (suc t) l =
    ap
    (take (record_size * count (counts_in bodies) t))
    (ap (λ (n : ℕ). drop n (body ++ joined bodies)) place
    ∙ drop-append-add body (joined bodies) (record_size * before (count (counts_in bodies)) t))
    ∙ piece bodies (λ k m. whole (suc k) (omega arith)) t (le_of_suc-le-suc l)
  where
    place : record_size * before (count (counts_in (body ∷ bodies))) (suc t) ≡ length body + record_size * before (count (counts_in bodies)) t
    place = let b = before_cons (records body) (counts_in bodies) t in let w = whole zero (omega arith) in omega arith

-- bodies that are written are handed back
module _ (bodies : List (List ℕ)) (whole : Whole bodies) (room : ℕ) (accepted : bodies_refusal bodies room ≡ 0) where
  abbrev file : List ℕ
  file = file_of_bodies bodies

  file_traces : traces file ≡ length bodies
  file_traces = (round_trip.written (counts_in bodies) (joined bodies) room accepted).1 ∙ length-map bodies (λ body. records body)

  bodies_again : bodies_of file ≡ bodies
  bodies_again =
      ext_get_or [] (bodies_of file) bodies same_length λ t l.
      let inside : t < length bodies = omega (arith, same_length) in
      get_or_firsts (open_body file) (traces file) t [] (omega (arith, file_traces))
      ∙ (round_trip.written (counts_in bodies) (joined bodies) room accepted).2 t (omega (arith, length-map bodies (λ body. records body)))
      ∙ piece bodies whole t inside
    where
      same_length : length (bodies_of file) ≡ length bodies
      same_length = length_firsts (open_body file) (traces file) ∙ file_traces

-- and the bodies of traces stand for these
encoded_whole : (list : List Trace) → Whole (map body_of list)
encoded_whole [] k l = absurd (not-suc-le-zero l)
encoded_whole (trace ∷ list) zero l = let e = length_body_of trace in omega arith
encoded_whole (trace ∷ list) (suc k) l = encoded_whole list k (le_of_suc-le-suc l)

traces_again : (h : ℕ) (list : List Trace) → map (with_hits h) (map trace_of (map body_of list)) ≡ map (with_hits h) list
traces_again h [] = refl
traces_again h (trace ∷ list) = ap₂ (λ (first : Trace) (rest : List Trace). first ∷ rest) (timed_again trace h) (traces_again h list)

-- the traces of bodies are as they are with data hits that take no cycles
pub traces_hits : (bodies : List (List ℕ)) → map (with_hits 0) (map trace_of bodies) ≡ map trace_of bodies
traces_hits [] = refl
traces_hits (body ∷ bodies) = ap₂ (λ (first : Trace) (rest : List Trace). first ∷ rest) (trace_hits body) (traces_hits bodies)

pub traces_round_trip : TracesRoundTrip
traces_round_trip =
    record {
      written = λ list room e. (
        (round_trip.written (counts_in (map body_of list)) (joined (map body_of list)) room e).0,
        λ h.
            ap (λ (bodies : List (List ℕ)). map (with_hits h) (map trace_of bodies)) (bodies_again (map body_of list) (encoded_whole list) room e)
            ∙ traces_again h list,
      );
      read = λ file bytes e.
          let again = round_trip.read file bytes e in (
            ap₂ file_of (counts_opened file e) (joined_opened file e) ∙ again.0,
            ap₂ (λ (counts records : List ℕ). write_refusal counts records (length file)) (counts_opened file e) (joined_opened file e) ∙ again.1,
            encoded_opened file e bytes,
          );
    }
