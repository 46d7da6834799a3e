-- Writing pieces one after the other: what is before the position is kept, and what is after the piece is as it was.
use Prim.Native.Nat.{ℕ, ◌+◌, ◌-◌, ◌≤◌}
use mathlib.Core.List.{List, ◌++◌, append_assoc}
use mathlib.Core.Path.{◌≡◌, sym, ap, ap₂, ◌∙◌}
use native.Mathlib.Nat.{add_assoc}
use native.Mathlib.Omega.{arith}
use borrow.Rule.Slice.PartMut.{put_mid}
use lib.ListN.{length, take, drop, length-append}
use lib.Seq.{take_at, drop-append-add, drop-drop, length-take-le}

-- q written right after p
pub put_next
    : (p q o : List ℕ) (n : ℕ) → length p ≡ n →
    take n (p ++ drop n o) ++ q ++ drop (n + length q) (p ++ drop n o) ≡ p ++ q ++ drop (n + length q) o
put_next p q o n e =
    ap₂ (λ (a b : List ℕ). a ++ q ++ b) (take_at p (drop n o) n e) past
  where
    past : drop (n + length q) (p ++ drop n o) ≡ drop (n + length q) o
    past =
        ap (λ (k : ℕ). drop (k + length q) (p ++ drop n o)) (sym e)
        ∙ drop-append-add p (drop n o) (length q)
        ∙ drop-drop (length q) n o

-- two pieces, one after the other
pub put_both
    : (p q o : List ℕ) (n : ℕ) → n + length p ≤ length o →
    (w : List ℕ) → w ≡ take n o ++ p ++ drop (n + length p) o →
    take (n + length p) w ++ q ++ drop (n + length p + length q) w ≡ take n o ++ (p ++ q) ++ drop (n + (length p + length q)) o
put_both p q o n fits w e =
    ap (λ (l : List ℕ). take (n + length p) l ++ q ++ drop (n + length p + length q) l) e
    ∙ put_next (take n o ++ p) q o (n + length p) (length-append (take n o) p ∙ ap (λ (k : ℕ). k + length p) (length-take-le n o (omega arith)))
    ∙ ap₂ (λ (a : List ℕ) (k : ℕ). a ++ drop k o) (append_assoc (take n o) p q) (add_assoc n (length p) (length q))

-- a piece copied into the part from n to e
pub put_part
    : (q o w : List ℕ) (n e : ℕ) → n + length q ≡ e →
    w ≡ q →
    put_mid n (e - n) o w ≡ take n o ++ q ++ drop e o
put_part q o w n e l same =
    let k : e - n ≡ length q = omega arith in
    ap₂ (λ (a : List ℕ) (m : ℕ). take n o ++ (a ++ drop m (drop n o))) same k
    ∙ ap (λ (b : List ℕ). take n o ++ (q ++ b)) (drop-drop (length q) n o)
    ∙ sym (append_assoc (take n o) q (drop (n + length q) o))
    ∙ ap (λ (m : ℕ). take n o ++ q ++ drop m o) l
