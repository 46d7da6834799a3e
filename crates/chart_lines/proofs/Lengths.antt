-- A slot's text by cases, and upper bounds on the lengths of the lines of a chart.
use Prim.Native.Nat.{ℕ, ◌+◌, ◌*◌, ◌≤◌, ◌<◌}
use mathlib.Core.Bool.{true, false}
use mathlib.Core.List.{List, [], ◌∷◌, ◌++◌, append-nil, append_assoc}
use mathlib.Core.Path.{◌≡◌, sym, ap, ◌∙◌}
use native.Mathlib.Omega.{arith}
use lib.ListN.{length, length-append, take, get_or}
use lib.Seq.{take-suc, length-take-le}
use Rattle.std.proofs.Common.{add-one}
use Rattle.std.specs.List.{flat_map}
use Rattle.std.proofs.lemmas.Grind.{flat_map-append}
use Rattle.machine.specs.declared.Slot.{Slot}
use Rattle.machine.specs.declared.State.{State}
use Rattle.machine.proofs.Connectives.{Value, passed, failed, value}
use Rattle.text.specs.Text.{most_digits, decimal}
use Rattle.chart_lines.specs.Lines.{slot_text, row_text, times_text, refusal_text, slot_bytes, row_bytes, times_bytes, refusal_bytes}
use Rattle.text.proofs.Pieces.{decimal_short}

pub slot_filled : (s : Slot) → s.filled ≡ true → slot_text s ≡ (32 ∷ []) ++ decimal s.index ++ (58 ∷ []) ++ decimal s.count
unfolding slot_text
slot_filled s e = rw e (ap (λ (t : List ℕ). 32 ∷ t) (sym (append_assoc (decimal s.index) (58 ∷ []) (decimal s.count))))

pub slot_empty : (s : Slot) → s.filled ≡ false → slot_text s ≡ (32 ∷ []) ++ (45 ∷ [])
unfolding slot_text
slot_empty s e = rw e

-- a text of at most n bytes
pub record Short (n : ℕ) (text : List ℕ) : Type 0 where
  pub within : length text ≤ n

one : (b : ℕ) → Short 1 (b ∷ [])
one b = record { within = omega arith }

number : (n : ℕ) → Short most_digits (decimal n)
number n = record { within = decimal_short n }

pub both : {m n : ℕ} {a b : List ℕ} → Short m a → Short n b → Short (m + n) (a ++ b)
both {m} {n} {a} {b} h k =
    let e = length-append a b in
    let first = h.within in
    let second = k.within in
    record { within = omega arith }

pub labelled_short : (label : List ℕ) (n : ℕ) → length (label ++ decimal n) ≤ length label + 10
labelled_short label n = let e = length-append label (decimal n) in let d = decimal_short n in omega arith

slot_by : (s : Slot) → Value s.filled → Short slot_bytes (slot_text s)
slot_by s (passed e) = rw (slot_filled s e) (both (both (both (one 32) (number s.index)) (one 58)) (number s.count))
slot_by s (failed e) = rw (slot_empty s e) (record { within = omega arith })

slot_is_short : (s : Slot) → Short slot_bytes (slot_text s)
slot_is_short s = slot_by s (value s.filled)

pub slot_short : (s : Slot) → length (slot_text s) ≤ slot_bytes
slot_short s = (slot_is_short s).within

pub slots_are_short : (slots : List Slot) → Short (slot_bytes * length slots) (flat_map slot_text slots)
slots_are_short [] = record { within = omega arith }
slots_are_short (slot ∷ slots) =
    let first = (slot_is_short slot).within in
    let rest = (slots_are_short slots).within in
    let e = length-append (slot_text slot) (flat_map slot_text slots) in
    record { within = omega arith }

-- the first of some slots, and one more
pub first_slots_short : (slots : List Slot) (k : ℕ) → k ≤ length slots → length (flat_map slot_text (take k slots)) ≤ slot_bytes * k
first_slots_short slots k inside =
    let short = (slots_are_short (take k slots)).within in
    let taken = length-take-le k slots inside in
    omega arith

pub slots_more
    : (slots : List Slot) (k : ℕ) (d : Slot) → k < length slots →
    flat_map slot_text (take k slots) ++ slot_text (get_or slots k d) ≡ flat_map slot_text (take (k + 1) slots)
slots_more slots k d inside =
    sym
    (ap (λ (n : ℕ). flat_map slot_text (take n slots)) (add-one k)
    ∙ ap (flat_map slot_text) (take-suc slots k d inside)
    ∙ flat_map-append slot_text (take k slots) (get_or slots k d ∷ [])
    ∙ ap (λ (t : List ℕ). flat_map slot_text (take k slots) ++ t) (append-nil (slot_text (get_or slots k d))))

abbrev pub slots : State → List Slot
slots s = s.IF ∷ s.ID ∷ s.EX ∷ s.MEM ∷ s.ST ∷ s.WB ∷ []

one_more : (a b c : List ℕ) → a ++ (b ++ c) ≡ a ++ b ++ c
one_more a b c = sym (append_assoc a b c)

pub row_joined : (n : ℕ) (s : State) → decimal n ++ flat_map slot_text (slots s) ++ (10 ∷ []) ≡ row_text n s
unfolding row_text
row_joined n s =
    ap (λ (t : List ℕ). t ++ (10 ∷ []))
    (one_more (decimal n) (slot_text s.IF) _
    ∙ one_more _ (slot_text s.ID) _
    ∙ one_more _ (slot_text s.EX) _
    ∙ one_more _ (slot_text s.MEM) _
    ∙ one_more _ (slot_text s.ST) _
    ∙ one_more _ (slot_text s.WB) []
    ∙ append-nil _)

pub row_is_short : (n : ℕ) (s : State) → Short row_bytes (row_text n s)
row_is_short n s = rw (sym (row_joined n s)) (both (both (number n) (slots_are_short (slots s))) (one 10))

-- the last line, whose numbers are put each with its label
pub times_joined
    : (latest earliest : ℕ) →
    (119 ∷ 111 ∷ 114 ∷ 115 ∷ 116 ∷ 32 ∷ [])
    ++ decimal latest
    ++ ((32 ∷ 98 ∷ 101 ∷ 115 ∷ 116 ∷ 32 ∷ []) ++ decimal earliest)
    ++ (10 ∷ [])
    ≡ times_text latest earliest
unfolding times_text
times_joined latest earliest =
    let worst = (119 ∷ 111 ∷ 114 ∷ 115 ∷ 116 ∷ 32 ∷ []) ++ decimal latest in
    ap (λ (t : List ℕ). t ++ (10 ∷ [])) (sym (append_assoc worst (32 ∷ 98 ∷ 101 ∷ 115 ∷ 116 ∷ 32 ∷ []) (decimal earliest)))

six : (a b c d e f : ℕ) → Short 6 (a ∷ b ∷ c ∷ d ∷ e ∷ f ∷ [])
six a b c d e f = record { within = omega arith }

pub times_is_short : (latest earliest : ℕ) → Short times_bytes (times_text latest earliest)
unfolding times_text
times_is_short latest earliest =
    both (both (both (both (six 119 111 114 115 116 32) (number latest)) (six 32 98 101 115 116 32)) (number earliest)) (one 10)

pub refusal_short : (number : ℕ) → length (refusal_text number) ≤ refusal_bytes
unfolding refusal_text
refusal_short n =
    let l = length-append ((114 ∷ 101 ∷ 102 ∷ 117 ∷ 115 ∷ 101 ∷ 100 ∷ 32 ∷ []) ++ decimal n) (10 ∷ []) in
    let m = length-append (114 ∷ 101 ∷ 102 ∷ 117 ∷ 115 ∷ 101 ∷ 100 ∷ 32 ∷ []) (decimal n) in
    let d = decimal_short n in
    omega arith
