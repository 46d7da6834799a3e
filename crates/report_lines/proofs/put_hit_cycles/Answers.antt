-- nothing for 0, else the line
use Rattle.std.proofs.Common.{◌≡◌, ℕ, zero, suc, [], ◌∷◌, ◌++◌, refl, arith}
use Rattle.text.specs.Text.{space, newline, decimal}
use Rattle.text.proofs.Pieces.{decimal_short}
use Rattle.text.proofs.Pens.{adds_nothing, adds_then, adds_as}
use Rattle.report_lines.specs.Lines.{hit_text}
use Rattle.report_lines.proofs.put_hit_cycles.Goals as goal

hit_none : (h : ℕ) → h ≡ 0 → [] ≡ hit_text h
unfolding hit_text
hit_none zero e = refl
hit_none (suc h) e = absurd (omega arith)

hit_some : (h : ℕ) → (h ≡ 0 → ⊥) →
    (99 ∷ 121 ∷ 99 ∷ 108 ∷ 101 ∷ 115 ∷ space ∷ 111 ∷ 102 ∷ space ∷ 97 ∷ space ∷ 100 ∷ 97 ∷ 116 ∷ 97 ∷ space ∷ 104 ∷ 105 ∷ 116 ∷ 58 ∷ space ∷ [])
    ++ decimal h
    ++ (newline ∷ [])
    ≡ hit_text h
unfolding hit_text
hit_some zero some = absurd (some refl)
hit_some (suc h) some = refl

pub returns-then-hit_cycles-eq0 : goal.returns-then-hit_cycles-eq0
returns-then-hit_cycles-eq0 c = adds_as (hit_none _ c.if-hit_cycles-eq0.true) (adds_nothing _ (omega arith))

pub decimal-requires : goal.decimal-requires
decimal-requires c = let short = decimal_short c.args.hit_cycles in omega arith

pub byte-requires : goal.byte-requires
byte-requires c = let short = decimal_short c.args.hit_cycles in omega arith

pub returns : goal.returns
returns c =
    adds_as (hit_some _ c.if-hit_cycles-eq0.false) (adds_then (adds_then c.text.ensures c.decimal.ensures) c.byte.ensures)
