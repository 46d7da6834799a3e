-- A word read digit by digit: what is read so far and what is left give the same number as the whole, and that is never below what is read so far.
use Prim.Native.Nat.{ℕ, ◌+◌, ◌*◌, ◌-◌, ◌≤◌, ◌<◌}
use mathlib.Core.Bool.{true, false}
use mathlib.Core.List.{List, [], ◌∷◌}
use Rattle.std.proofs.Common.{None, Some}
use mathlib.Core.Path.{◌≡◌, refl, sym, ap, ap₂, ◌∙◌}
use native.Mathlib.Numerals.{add-one}
use native.Mathlib.Omega.{arith}
use borrow.Author.Tests.{lt-ltb, le-ltb, le-leb, leb-true}
use lib.ListN.{length, get_or, drop}
use lib.Seq.{drop-cons, drop-length}
use Rattle.machine.proofs.Connectives.{and_l, and_r, and_both, and_failed_l, and_failed_r, and_left}
use Rattle.std.specs.Char.{digit_value}
use Rattle.std.proofs.lemmas.Bool.{false_from_ne_true}
use Rattle.std.proofs.lemmas.Str.{digit_value_digit}
use Rattle.std.proofs.lemmas.Str.Parse.{digit_from_value}
use Rattle.deadlines.specs.Deadline.{is_digit, all_digits, number_from, is_deadline, deadline_of}

-- a digit is what has a value below 10, and is 48 above that value
digit_within : (byte : ℕ) → is_digit byte ≡ true → digit_value byte + 48 ≡ byte
unfolding is_digit
digit_within byte e = digit_value_digit byte (leb-true 48 byte (and_l _ _ e), leb-true byte 57 (and_r _ _ e))

digit_taken : (byte : ℕ) → digit_value byte < 10 → is_digit byte ≡ true
unfolding is_digit
digit_taken byte small = let within = digit_from_value byte small in and_both _ _ (le-leb 48 byte within.0) (le-leb byte 57 within.1)

digit_refused : (byte : ℕ) → (digit_value byte < 10 → ⊥) → is_digit byte ≡ false
unfolding is_digit
digit_refused byte none =
    false_from_ne_true _ (λ e. none (let worth = digit_within byte e in let last = leb-true byte 57 (and_r _ _ e) in omega (arith, worth, last)))

digit_worth : (byte : ℕ) → digit_value byte < 10 → byte - 48 ≡ digit_value byte
digit_worth byte small = let worth = digit_value_digit byte (digit_from_value byte small) in omega (arith, worth)

number_grows : (word : List ℕ) (n : ℕ) → n ≤ number_from n word
unfolding number_from
number_grows [] n = omega arith
number_grows (byte ∷ word) n = let more = number_grows word (10 * n + (byte - 48)) in omega arith

module _ (word : List ℕ) where
  -- the first i bytes are digits that give n, as far as the tests of the whole word are concerned
  pub record Reading (i n : ℕ) : Type 0 where
    pub digits : all_digits word ≡ all_digits (drop i word)
    pub number : number_from 0 word ≡ number_from n (drop i word)

  pub reading_starts : Reading 0 0
  reading_starts = record { digits = refl; number = refl }

  pub reading_goes :
      (i n : ℕ) {byte more : ℕ} →
      i < length word →
      byte ≡ get_or word i 0 →
      digit_value byte < 10 →
      more ≡ 10 * n + digit_value byte →
      Reading i n →
      Reading (i + 1) more
  unfolding all_digits number_from
  reading_goes i n {byte} inside at small next before =
      let here = drop-cons word i 0 inside in
      let worth = digit_worth byte small in
      record {
        digits =
            before.digits
            ∙ ap all_digits here
            ∙ and_left _ _ (ap is_digit (sym at) ∙ digit_taken byte small)
            ∙ ap (λ (k : ℕ). all_digits (drop k word)) (sym (add-one i));
        number =
            before.number
            ∙ ap (number_from n) here
            ∙ ap₂ number_from (ap (λ (b : ℕ). 10 * n + (b - 48)) (sym at) ∙ omega (arith, worth, next)) (ap (λ (k : ℕ). drop k word) (sym (add-one i)));
      }

  none_given : is_deadline word ≡ false → deadline_of word ≡ None
  unfolding deadline_of
  none_given e = rw e

  pub word_empty : length word ≡ 0 → deadline_of word ≡ None
  unfolding is_deadline
  word_empty e = none_given (and_failed_l _ _ (and_failed_l _ _ (le-ltb 0 (length word) (omega arith))))

  pub word_stray : (i n : ℕ) {byte : ℕ} → i < length word → byte ≡ get_or word i 0 → (digit_value byte < 10 → ⊥) → Reading i n → deadline_of word ≡ None
  unfolding is_deadline all_digits
  word_stray i n inside at none before =
      none_given
      (and_failed_l _ _
      (and_failed_r _ _ (before.digits ∙ ap all_digits (drop-cons word i 0 inside) ∙ and_failed_l _ _ (ap is_digit (sym at) ∙ digit_refused _ none))))

  pub word_large :
      (i n : ℕ) {byte : ℕ} →
      i < length word →
      byte ≡ get_or word i 0 →
      digit_value byte < 10 →
      4294967296 ≤ 10 * n + digit_value byte →
      Reading i n →
      deadline_of word ≡ None
  unfolding is_deadline
  word_large i n {byte} inside at small large before =
      let more = reading_goes i n inside at small refl before in
      let grows = number_grows (drop (i + 1) word) (10 * n + digit_value byte) in
      none_given (and_failed_r _ _ (le-ltb (number_from 0 word) 4294967296 (omega (arith, more.number))))

  pub word_read : (i n : ℕ) → i ≡ length word → 0 < length word → n < 4294967296 → Reading i n → deadline_of word ≡ Some n
  unfolding deadline_of is_deadline all_digits number_from
  word_read i n end some small before =
      let none = ap (λ (k : ℕ). drop k word) end ∙ drop-length word in
      let digits = before.digits ∙ ap all_digits none in
      let number = before.number ∙ ap (number_from n) none in
      rw (number) (rw (and_both _ _ (and_both _ _ (lt-ltb 0 (length word) some) digits) (lt-ltb n 4294967296 small)))
