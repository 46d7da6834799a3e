-- The stages as the code names them are equal, and in order, as their numbers are.
use mathlib.Core.Path.{◌≡◌, refl, ap₂}
use lib.Dec.{eqb, ltb}
use denote.Enum.Bare.{sameb}
use denote.Enum.Declared.{tag_of}
use Rattle.std.specs.Ordering.{partial_lt}
use Rattle.machine.specs.Rules.{stage_number, same}
use Rattle.machine.specs.Named.{stage_named}
use Rattle.machine.specs.declared.stage.Stage.{Stage as StageName}
use Rattle.machine.specs.declared.stage.Stage.TheVariants as stage
use Rattle.machine.specs.contracts.stage.Stage.{the_type}
use Rattle.machine.specs.contracts.stage.StagePartialOrd.TheImpl.{partial_cmp-value}

-- a stage's place among the names is its number
tag_number : (a : StageName) → tag_of the_type a ≡ stage_number (stage_named a)
tag_number stage.Pre = refl
tag_number stage.IF = refl
tag_number stage.ID = refl
tag_number stage.EX = refl
tag_number stage.MEM = refl
tag_number stage.ST = refl
tag_number stage.WB = refl
tag_number stage.Post = refl

-- `a == b`
pub same_named : (a b : StageName) → sameb the_type a b ≡ same (stage_named a) (stage_named b)
same_named a b = ap₂ eqb (tag_number a) (tag_number b)

-- a fact that holds for each of the eight names
by_name : (P : StageName → Type 0) → P stage.Pre → P stage.IF → P stage.ID → P stage.EX → P stage.MEM → P stage.ST → P stage.WB → P stage.Post → (k : StageName) → P k
by_name P a b c d e f g h stage.Pre = a
by_name P a b c d e f g h stage.IF = b
by_name P a b c d e f g h stage.ID = c
by_name P a b c d e f g h stage.EX = d
by_name P a b c d e f g h stage.MEM = e
by_name P a b c d e f g h stage.ST = f
by_name P a b c d e f g h stage.WB = g
by_name P a b c d e f g h stage.Post = h

-- `a < b`
pub before_named : (a b : StageName) → partial_lt partial_cmp-value.it a b ≡ ltb (stage_number (stage_named a)) (stage_number (stage_named b))
before_named stage.Pre = by_name (λ b. partial_lt partial_cmp-value.it stage.Pre b ≡ ltb (stage_number (stage_named stage.Pre)) (stage_number (stage_named b))) refl refl refl refl refl refl refl refl
before_named stage.IF = by_name (λ b. partial_lt partial_cmp-value.it stage.IF b ≡ ltb (stage_number (stage_named stage.IF)) (stage_number (stage_named b))) refl refl refl refl refl refl refl refl
before_named stage.ID = by_name (λ b. partial_lt partial_cmp-value.it stage.ID b ≡ ltb (stage_number (stage_named stage.ID)) (stage_number (stage_named b))) refl refl refl refl refl refl refl refl
before_named stage.EX = by_name (λ b. partial_lt partial_cmp-value.it stage.EX b ≡ ltb (stage_number (stage_named stage.EX)) (stage_number (stage_named b))) refl refl refl refl refl refl refl refl
before_named stage.MEM = by_name (λ b. partial_lt partial_cmp-value.it stage.MEM b ≡ ltb (stage_number (stage_named stage.MEM)) (stage_number (stage_named b))) refl refl refl refl refl refl refl refl
before_named stage.ST = by_name (λ b. partial_lt partial_cmp-value.it stage.ST b ≡ ltb (stage_number (stage_named stage.ST)) (stage_number (stage_named b))) refl refl refl refl refl refl refl refl
before_named stage.WB = by_name (λ b. partial_lt partial_cmp-value.it stage.WB b ≡ ltb (stage_number (stage_named stage.WB)) (stage_number (stage_named b))) refl refl refl refl refl refl refl refl
before_named stage.Post = by_name (λ b. partial_lt partial_cmp-value.it stage.Post b ≡ ltb (stage_number (stage_named stage.Post)) (stage_number (stage_named b))) refl refl refl refl refl refl refl refl
