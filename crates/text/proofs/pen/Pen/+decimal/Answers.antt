-- a number's digits are those of the number divided by ten, then its last
use Rattle.std.proofs.Common.{◌≡◌, ◌∷◌, [], ◌++◌, ◌/◌, ℕ, List, length, sym, ap, ◌∙◌, arith}
use Rattle.text.specs.Text.{decimal}
use Rattle.text.proofs.Pieces.{decimal_one, decimal_more, decimal_grows}
use Rattle.text.proofs.Pens.{adds_then, adds_as}
use Rattle.text.proofs.pen.Pen.+decimal.Goals as goal

pub byte-requires : goal.byte-requires
byte-requires t c =
    let e : length (decimal c.args.n) ≡ 1 = ap (λ (t : List ℕ). length t) (decimal_one _ c.if-n-lt10.true) in
    omega arith

pub returns-then-n-lt10 : goal.returns-then-n-lt10
returns-then-n-lt10 t c =
    adds_as (ap (λ (b : ℕ). b ∷ []) c.digit.ensures ∙ sym (decimal_one _ c.if-n-lt10.true)) c.byte.ensures

pub decimal-requires : goal.decimal-requires
decimal-requires t c = let e = decimal_grows c.args.n (omega arith) c.if-n-lt10.false in (omega arith, omega arith)

pub byte-requires-2 : goal.byte-requires-2
byte-requires-2 t c = let e = decimal_grows c.args.n (omega arith) c.if-n-lt10.false in omega arith

pub returns : goal.returns
returns t c =
    let n = c.args.n in
    adds_as (ap (λ (b : ℕ). decimal (n / 10) ++ (b ∷ [])) c.digit-2.ensures ∙ sym (decimal_more n (omega arith) c.if-n-lt10.false))
    (adds_then c.decimal.ensures c.byte-2.ensures)
