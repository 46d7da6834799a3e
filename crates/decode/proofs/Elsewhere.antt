-- Only in pre, ID and EX does an instruction wait for another.
use mathlib.Core.Bool.{false}
use mathlib.Core.Path.{◌≡◌, refl}
use Rattle.machine.specs.Named.{stage_named}
use Rattle.machine.specs.Instruction.{Instruction}
use Rattle.machine.specs.declared.stage.Stage.{Stage as StageName}
use Rattle.machine.specs.declared.stage.Stage.TheVariants as stage
use Rattle.machine.proofs.Hazards.{waits_for, asks_for}

pub waits_elsewhere
    : (k : StageName) → (k ≡ stage.Pre → ⊥) → (k ≡ stage.ID → ⊥) → (k ≡ stage.EX → ⊥) → (i j : Instruction) → asks_for (stage_named k) i j ≡ false
unfolding asks_for waits_for
waits_elsewhere stage.Pre a b c i j = absurd (a refl)
waits_elsewhere stage.IF a b c i j = refl
waits_elsewhere stage.ID a b c i j = absurd (b refl)
waits_elsewhere stage.EX a b c i j = absurd (c refl)
waits_elsewhere stage.MEM a b c i j = refl
waits_elsewhere stage.ST a b c i j = refl
waits_elsewhere stage.WB a b c i j = refl
waits_elsewhere stage.Post a b c i j = refl
