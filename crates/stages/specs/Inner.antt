-- One value for each stage that an instruction can move out of.
use Rattle.machine.specs.Rules.{Stage, pre, IF, ID, EX, MEM, ST, WB, post}
use Rattle.stages.specs.declared.Stages.{Stages}

-- the stage's value, where there is one for post too
abbrev pub at_or : {A : Type 0} → Stages A → A → Stage → A
at_or s last pre = s.pre
at_or s last IF = s.IF
at_or s last ID = s.ID
at_or s last EX = s.EX
at_or s last MEM = s.MEM
at_or s last ST = s.ST
at_or s last WB = s.WB
at_or s last post = last
