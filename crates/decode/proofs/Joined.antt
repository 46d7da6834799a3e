-- The code's conjunctions and disjunctions are the rules' connectives.
use mathlib.Core.Bool.{Bool, true, false, not, cond, ◌&&◌, ◌||◌}
use mathlib.Core.Path.{◌≡◌, refl, ap, ap₂, ◌∙◌}
use Rattle.machine.proofs.Connectives.{clash}
use Rattle.machine.specs.Test.{◌and◌, ◌or◌}

pub both : (a b : Bool) → (a && b) ≡ (a and b)
unfolding ◌and◌
both true b = refl
both false b = refl

pub either : (a b : Bool) → (a || b) ≡ (a or b)
unfolding ◌or◌
either true b = refl
either false b = refl

pub both_l : (a b : Bool) → (a && b) ≡ true → a ≡ true
both_l true b e = refl
both_l false b e = e

pub both_of : {a b c d : Bool} → a ≡ c → b ≡ d → (a && b) ≡ (c and d)
both_of p q = both _ _ ∙ ap₂ ◌and◌ p q

pub either_of : {a b c d : Bool} → a ≡ c → b ≡ d → (a || b) ≡ (c or d)
either_of p q = either _ _ ∙ ap₂ ◌or◌ p q

-- what a test guards matters only where the test passes
pub and_under : (a : Bool) {b c : Bool} → (a ≡ true → b ≡ c) → (a and b) ≡ (a and c)
unfolding ◌and◌
and_under true h = h refl
and_under false h = refl

pub or_under : (a : Bool) {b c : Bool} → (a ≡ true → b ≡ c) → (not a or b) ≡ (not a or c)
unfolding ◌or◌
or_under true h = h refl
or_under false h = refl

pub cond_under : (a d : Bool) {b c : Bool} → (a ≡ true → b ≡ c) → cond a b d ≡ cond a c d
cond_under true d h = h refl
cond_under false d h = refl

-- a result that is asked for only where two tests pass
passing : (a o h : Bool) → (a && o) ≡ true → h ≡ (a and h and o)
unfolding ◌and◌
passing true true true e = refl
passing true true false e = refl
passing true false h e = clash e refl
passing false o h e = clash e refl

failing : (a o h : Bool) → (a && o) ≡ false → false ≡ (a and h and o)
unfolding ◌and◌
failing true true h e = clash refl e
failing true false true e = refl
failing true false false e = refl
failing false o h e = refl

module _ {a o x y : Bool} (p : a ≡ x) (q : o ≡ y) where
  pub guarded : {h r : Bool} → (a && o) ≡ true → r ≡ h → r ≡ (x and h and y)
  guarded {h} e f = f ∙ passing a o h e ∙ (λ i. p i and h and q i)

  pub unguarded : (h : Bool) → (a && o) ≡ false → false ≡ (x and h and y)
  unguarded h e = failing a o h e ∙ (λ i. p i and h and q i)

-- a conjunction of conjunctions is one conjunction
three : (a b c d : Bool) → (a and (b and c and d)) ≡ (a and b and c and d)
unfolding ◌and◌
three true b c d = refl
three false b c d = refl

six : (a b c d e f g : Bool) → (a and (b and c and d and e and f and g)) ≡ (a and b and c and d and e and f and g)
unfolding ◌and◌
six true b c d e f g = refl
six false b c d e f g = refl

pub nine
    : (a b c d e f g h i j : Bool) →
    (a and (b and c and d) and (e and f and g and h and i and j)) ≡ (a and b and c and d and e and f and g and h and i and j)
nine a b c d e f g h i j =
    six (a and (b and c and d)) e f g h i j ∙ ap (λ (x : Bool). x and e and f and g and h and i and j) (three a b c d)
