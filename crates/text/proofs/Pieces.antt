-- Pieces of text put one after the other make one text; upper bounds on the lengths of pieces; and a number's digits are those of the number
-- divided by ten, and its last digit.
use Prim.Native.Nat.{ℕ, zero, suc, ◌+◌, ◌*◌, ◌^◌, ◌/◌, ◌%◌, ◌≤◌, ◌<◌, max}
use native.Mathlib.Nat.{pow-succ'}
use mathlib.Core.List.{List, [], ◌∷◌, ◌++◌, append-nil}
use mathlib.Core.Path.{◌≡◌, refl, sym, ap, ap₂, subst, ◌∙◌}
use native.Mathlib.Omega.{arith}
use borrow.Author.Tests.{lt-ltb, le-ltb, ltb-true, ltb-false}
use lib.Dec.{ltb}
use lib.ListN.{length, take, drop, length-append, length-drop, take-append-drop}
use lib.Seq.{length-take-le}
use Rattle.machine.proofs.Connectives.{Value, passed, failed, value}
use Rattle.little_endian.proofs.Placed.{put_both}
use Rattle.text.specs.Text.{put, Wrote, decimal_within, decimal}

pub length_put : (at : ℕ) (text out : List ℕ) → at + length text ≤ length out → length (put at text out) ≡ length out
unfolding put
length_put at text out fits =
    let whole = length-append (take at out ++ text) (drop (at + length text) out) in
    let start = length-append (take at out) text in
    let kept = length-take-le at out (omega arith) in
    let rest = length-drop (at + length text) out in
    omega arith

pub wrote_nothing : (at : ℕ) (out : List ℕ) → at ≤ length out → Wrote at [] out out at
unfolding put
wrote_nothing at out fits =
    let same : at ≡ at + 0 = omega arith in
    (same, sym (take-append-drop at out) ∙ ap₂ (λ (a : List ℕ) (k : ℕ). a ++ drop k out) (sym (append-nil (take at out))) same, fits)

pub wrote_then :
    (at : ℕ) (a b before : List ℕ) {between afterwards : List ℕ} {middle end : ℕ} →
    Wrote at a before between middle →
    Wrote middle b between afterwards end →
    Wrote at (a ++ b) before afterwards end
unfolding put
wrote_then at a b before {between} (e, f, g) (e₂, f₂, g₂) =
    let fits : at + length a ≤ length before = omega arith in
    let l = length-append a b in
    let same = ap (λ (o : List ℕ). length o) f ∙ length_put at a before fits in (
      omega arith,
      f₂
          ∙ ap (λ (m : ℕ). put m b between) e
          ∙ put_both a b before at fits between f
          ∙ ap (λ (k : ℕ). take at before ++ (a ++ b) ++ drop (at + k) before) (sym l),
      omega arith,
    )

-- what was written, given as an equal text
pub as_text : (at : ℕ) (before : List ℕ) {end : ℕ} {a b afterwards : List ℕ} → a ≡ b → Wrote at a before afterwards end → Wrote at b before afterwards end
as_text at before {end} {a} {b} {afterwards} e = subst (λ (text : List ℕ). Wrote at text before afterwards end) e

-- ten to the power k: the numbers below it have at most k digits
unfoldable pub tens : ℕ → ℕ
tens zero = 1
tens (suc k) = 10 * tens k

-- allowing more digits than suffice does not change the text
Enough : ℕ → Type 0
Enough k = (n : ℕ) → n < tens (suc k) → decimal_within (suc (suc k)) n ≡ decimal_within (suc k) n

enough_one : (n : ℕ) → n < tens 1 → Value (ltb n 10) → decimal_within 2 n ≡ decimal_within 1 n
unfolding decimal_within tens
enough_one n h (passed l) = rw l
enough_one n h (failed l) = let m = ltb-false n 10 l in absurd (omega arith)

enough_more : (k : ℕ) → Enough k → (n : ℕ) → n < tens (suc (suc k)) → Value (ltb n 10) → decimal_within (suc (suc (suc k))) n ≡ decimal_within (suc (suc k)) n
unfolding Enough decimal_within tens
enough_more k h n l (passed t) = rw t
enough_more k h n l (failed t) = rw t (ap (λ (t : List ℕ). t ++ ((48 + n % 10) ∷ [])) (h (n / 10) (omega arith)))

enough : (k : ℕ) → Enough k
unfolding Enough
enough zero n h = enough_one n h (value (ltb n 10))
enough (suc k) n h = enough_more k (enough k) n h (value (ltb n 10))

pub decimal_one : (n : ℕ) → n < 10 → decimal n ≡ (48 + n) ∷ []
unfolding decimal decimal_within
decimal_one n h = rw (lt-ltb n 10 h)

pub decimal_more : (n : ℕ) → n < 4294967296 → 10 ≤ n → decimal n ≡ decimal (n / 10) ++ ((48 + n % 10) ∷ [])
unfolding decimal decimal_within Enough tens
decimal_more n h l =
    let m : n / 10 < tens 9 = omega arith in
    rw (le-ltb n 10 l) (ap (λ (t : List ℕ). t ++ ((48 + n % 10) ∷ [])) (sym (enough 8 (n / 10) m)))

pub decimal_grows : (n : ℕ) → n < 4294967296 → 10 ≤ n → length (decimal n) ≡ length (decimal (n / 10)) + 1
decimal_grows n h l = ap (λ (t : List ℕ). length t) (decimal_more n h l) ∙ length-append (decimal (n / 10)) ((48 + n % 10) ∷ [])

-- a number that fits k digits is written with at most k, however many are allowed
few_digits : (k m n : ℕ) → n < tens (suc k) → Value (ltb n 10) → length (decimal_within m n) ≤ suc k
unfolding decimal_within tens
few_digits k zero n h v = omega arith
few_digits k (suc m) n h (passed l) = rw l (omega arith)
few_digits zero (suc m) n h (failed l) = let more = ltb-false n 10 l in absurd (omega arith)
few_digits (suc k) (suc m) n h (failed l) =
    let rest = few_digits k m (n / 10) (omega arith) (value (ltb (n / 10) 10)) in
    let one = length-append (decimal_within m (n / 10)) ((48 + n % 10) ∷ []) in
    rw l (omega arith)

pub decimal_few : (k n : ℕ) → n < tens (suc k) → length (decimal n) ≤ suc k
unfolding decimal
decimal_few k n h = few_digits k 10 n h (value (ltb n 10))

digits_within : (k n : ℕ) → Value (ltb n 10) → length (decimal_within k n) ≤ k
unfolding decimal_within
digits_within zero n v = omega arith
digits_within (suc k) n (passed l) = rw l (omega arith)
digits_within (suc k) n (failed l) =
    let more = digits_within k (n / 10) (value (ltb (n / 10) 10)) in
    let one = length-append (decimal_within k (n / 10)) ((48 + n % 10) ∷ []) in
    rw l (omega arith)

pub decimal_short : (n : ℕ) → length (decimal n) ≤ 10
unfolding decimal
decimal_short n = digits_within 10 n (value (ltb n 10))

tens_power : (k : ℕ) → tens k ≡ 10 ^ k
unfolding tens
tens_power zero = refl
tens_power (suc k) = ap (λ (n : ℕ). 10 * n) (tens_power k) ∙ sym (pow-succ' 10 k)

tens_some : (k : ℕ) → 0 < tens k
unfolding tens
tens_some zero = omega arith
tens_some (suc k) = let some = tens_some k in omega arith

decimal_some : (n : ℕ) → n < 4294967296 → Value (ltb n 10) → 1 ≤ length (decimal n)
decimal_some n h (passed l) = let one = ap (λ (t : List ℕ). length t) (decimal_one n (ltb-true n 10 l)) in omega arith
decimal_some n h (failed l) = let more = decimal_grows n h (ltb-false n 10 l) in omega arith

-- a number of at least ten to the power k has more than k digits
decimal_many : (k n : ℕ) → n < 4294967296 → tens k ≤ n → suc k ≤ length (decimal n)
unfolding tens
decimal_many zero n h many = decimal_some n h (value (ltb n 10))
decimal_many (suc k) n h many =
    let some = tens_some k in
    let rest = decimal_many k (n / 10) (omega arith) (omega arith) in
    let more = decimal_grows n h (omega arith) in
    omega arith

digits_counted : (k n : ℕ) → n < 4294967296 → 0 < n → tens k ≤ n → n < tens (suc k) → k + 1 ≡ length (decimal n)
digits_counted k n h some low high = let many = decimal_many k n h low in let few = decimal_few k n high in omega arith

digits_none : (k : ℕ) → tens k ≤ 1 → k + 1 ≡ length (decimal 0)
unfolding tens
digits_none zero low = ap (λ (t : List ℕ). length t) (sym (decimal_one 0 (omega arith)))
digits_none (suc k) low = let some = tens_some k in absurd (omega arith)

-- the digits of a number are one more than the greatest power of ten in it; 0 has one
pub digits_by_power : (k n m : ℕ) → n < 4294967296 → m ≡ max n 1 → 10 ^ k ≤ m → m < 10 * 10 ^ k → k + 1 ≡ length (decimal n)
unfolding tens
digits_by_power k zero m h e low high = let power = tens_power k in digits_none k (omega arith)
digits_by_power k (suc n) m h e low high =
    let power = tens_power k in digits_counted k (suc n) h (omega arith) (omega arith) (omega arith)
