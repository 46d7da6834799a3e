-- How long spaces and right-aligned texts are, and that a text put after its padding is right-aligned.
use Prim.Native.Nat.{ℕ, zero, suc, ◌+◌, ◌-◌, ◌≤◌}
use mathlib.Core.List.{List, [], ◌∷◌, ◌++◌}
use mathlib.Core.Path.{◌≡◌, refl, sym, ap, ◌∙◌}
use native.Mathlib.Omega.{arith}
use lib.ListN.{length, length-append, replicate}
use Rattle.std.proofs.lemmas.List.{replicate_more}
use Rattle.text.specs.Text.{Wrote, space, spaces, right}
use Rattle.text.proofs.Pieces.{wrote_then, as_text}

pub length_spaces : (n : ℕ) → length (spaces n) ≡ n
unfolding spaces
length_spaces zero = refl
length_spaces (suc n) =
    let more = length-append (spaces n) (space ∷ []) in
    let rest = length_spaces n in
    omega arith

pub spaces_replicate : (n : ℕ) → replicate n space ≡ spaces n
unfolding spaces
spaces_replicate zero = refl
spaces_replicate (suc n) =
    let more : suc n ≡ n + 1 = omega arith in
    ap (λ (k : ℕ). replicate k space) more ∙ sym (replicate_more n space) ∙ ap (λ (t : List ℕ). t ++ (space ∷ [])) (spaces_replicate n)

pub length_right : (width : ℕ) (text : List ℕ) → length text ≤ width → length (right width text) ≡ width
unfolding right
length_right width text fits =
    let both = length-append (spaces (width - length text)) text in
    let padding = length_spaces (width - length text) in
    omega arith

pub wrote_right :
    (at width taken : ℕ) (text before : List ℕ) {between afterwards : List ℕ} {middle end : ℕ} →
    taken ≡ length text →
    Wrote at (spaces (width - taken)) before between middle →
    Wrote middle text between afterwards end →
    Wrote at (right width text) before afterwards end
unfolding right
wrote_right at width taken text before e padding then =
    wrote_then at _ text before (as_text at before (ap (λ (k : ℕ). spaces (width - k)) e) padding) then
