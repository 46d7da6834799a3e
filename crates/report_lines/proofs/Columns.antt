-- How wide the columns and the lines are, the margin's text by cases, and where a text of a known width ends.
use Prim.Native.Nat.{ℕ, zero, suc, ◌+◌, ◌-◌, ◌≤◌, ◌<◌}
use mathlib.Core.List.{List, [], ◌∷◌, ◌++◌}
use mathlib.Core.Path.{◌≡◌, refl, sym, ap, ◌∙◌}
use native.Mathlib.Omega.{arith}
use borrow.Author.Tests.{lt-ltb, le-ltb}
use lib.ListN.{length, length-append}
use lib.IntN.{pos, negsuc, ◌-ℤ◌}
use Rattle.machine.proofs.Numbers.{Tri, less, equal, more, tri}
use Rattle.text.specs.Text.{newline, decimal, spaces, right}
use Rattle.text.specs.Pen.{Adds}
use Rattle.text.specs.declared.pen.Pen.{Pen}
use Rattle.text.proofs.Pieces.{tens, decimal_one, decimal_few, decimal_short}
use Rattle.text.proofs.Right.{length_spaces, length_right}
use Rattle.report_lines.specs.Lines.{signed_text, margin_text, column, line_text, line_bytes}
use Rattle.report_figures.specs.declared.Line.{Line}

-- where a text of a known width ends
pub ends
    : (width : ℕ) {text : List ℕ} {before afterwards : Pen} →
    length text ≡ width →
    Adds text before afterwards →
    (afterwards.at ≡ before.at + width) × Adds text before afterwards
ends width {before = before} e h = (h.wrote.0 ∙ ap (λ (n : ℕ). before.at + n) e, h)

-- the difference of two numbers, by their order
minus_over : (a b : ℕ) → b ≤ a → pos a -ℤ pos b ≡ pos (a - b)
minus_over a zero h = ap pos (omega arith)
minus_over a (suc b) h = rw (le-ltb a (suc b) h)

minus_under : (a b : ℕ) → a < b → pos a -ℤ pos b ≡ negsuc (b - suc a)
minus_under a zero h = absurd (omega arith)
minus_under a (suc b) h = rw (lt-ltb a (suc b) h)

signed_over : (n : ℕ) → 0 < n → signed_text (pos n) ≡ 43 ∷ decimal n
unfolding signed_text
signed_over zero h = absurd (omega arith)
signed_over (suc n) h = refl

signed_under : (n : ℕ) → signed_text (negsuc n) ≡ 45 ∷ decimal (suc n)
unfolding signed_text
signed_under n = refl

signed_none : signed_text (pos 0) ≡ decimal 0
unfolding signed_text
signed_none = sym (decimal_one 0 (omega arith))

module _ (deadline worst : ℕ) where
  pub margin_none : deadline ≡ worst → decimal 0 ≡ margin_text deadline worst
  unfolding margin_text
  margin_none e = sym (ap signed_text (minus_over deadline worst (omega arith)) ∙ ap (λ (n : ℕ). signed_text (pos n)) (omega arith) ∙ signed_none)

  pub margin_over : worst < deadline → 43 ∷ decimal (deadline - worst) ≡ margin_text deadline worst
  unfolding margin_text
  margin_over h = sym (ap signed_text (minus_over deadline worst (omega arith)) ∙ signed_over (deadline - worst) (omega arith))

  pub margin_under : deadline < worst → 45 ∷ decimal (worst - deadline) ≡ margin_text deadline worst
  unfolding margin_text
  margin_under h =
      sym
      (ap signed_text (minus_under deadline worst h)
      ∙ signed_under (worst - suc deadline)
      ∙ ap (λ (n : ℕ). 45 ∷ decimal n) (omega arith))

  margin_by : Tri deadline worst → length (margin_text deadline worst) ≤ 11
  margin_by (less h) = let digits = decimal_short (worst - deadline) in rw (← margin_under h) (omega arith)
  margin_by (equal e) = let digits = decimal_short 0 in rw (← margin_none e) (omega arith)
  margin_by (more h) = let digits = decimal_short (deadline - worst) in rw (← margin_over h) (omega arith)

  pub margin_width : length (right 11 (margin_text deadline worst)) ≡ 11
  margin_width = length_right 11 (margin_text deadline worst) (margin_by (tri deadline worst))

pub column_width : (width : ℕ) (text : List ℕ) → length text ≤ width → length (column width text) ≡ 2 + width
unfolding column
column_width width text fits =
    let both = length-append (spaces 2) (right width text) in
    let gap = length_spaces 2 in
    let wide = length_right width text fits in
    omega arith

-- how large a trace's number and its count of unknown flags may be to fit their columns
pub five_digits : (n : ℕ) → n < 100000 → length (decimal n) ≤ 5
unfolding tens
five_digits n h = decimal_few 4 n (omega arith)

pub seven_digits : (n : ℕ) → n < 10000000 → length (decimal n) ≤ 7
unfolding tens
seven_digits n h = decimal_few 6 n (omega arith)

-- a text of exactly n bytes
record Wide (n : ℕ) (text : List ℕ) : Type 0 where
  exactly : length text ≡ n

join : {m n : ℕ} {a b : List ℕ} → Wide m a → Wide n b → Wide (m + n) (a ++ b)
join {m} {n} {a} {b} h k = record { exactly = length-append a b ∙ rw (h.exactly, k.exactly) }

a_column : (width n : ℕ) → length (decimal n) ≤ width → Wide (2 + width) (column width (decimal n))
a_column width n fits = record { exactly = column_width width (decimal n) fits }

pub line_width : (line : Line) → line.number < 100000 → line.unknown < 10000000 → length (line_text line) ≡ line_bytes
unfolding line_text
line_width line few flags =
    let margin : Wide 11 (right 11 (margin_text line.deadline line.worst)) = record { exactly = margin_width _ _ } in
    let digits = decimal_short line.instructions in
    let number = join margin (a_column 5 line.number (five_digits _ few)) in
    let instructions = join number (a_column 12 line.instructions (omega arith)) in
    let unknown = join instructions (a_column 7 line.unknown (seven_digits _ flags)) in
    let best = join unknown (a_column 10 line.best (decimal_short _)) in
    let worst = join best (a_column 10 line.worst (decimal_short _)) in
    let deadline = join worst (a_column 10 line.deadline (decimal_short _)) in
    let end : Wide 1 (newline ∷ []) = record { exactly = refl } in
    (join deadline end).exactly
