-- The kinds, flags and stages that the code's names stand for.
use Rattle.machine.specs.Instruction.{Kind, plain, load, store, branch, jump, Flag, hit, miss, unknown}
use Rattle.machine.specs.Rules.{Stage, pre, IF, ID, EX, MEM, ST, WB, post}
use Rattle.machine.specs.declared.Kind.{Kind as KindName}
use Rattle.machine.specs.declared.Kind.TheVariants as kind
use Rattle.machine.specs.declared.Flag.{Flag as FlagName}
use Rattle.machine.specs.declared.Flag.TheVariants as flag
use Rattle.machine.specs.declared.stage.Stage.{Stage as StageName}
use Rattle.machine.specs.declared.stage.Stage.TheVariants as stage

abbrev pub kind_named : KindName → Kind
kind_named kind.Plain = plain
kind_named kind.Load = load
kind_named kind.Store = store
kind_named kind.Branch = branch
kind_named kind.Jump = jump

abbrev pub flag_named : FlagName → Flag
flag_named flag.Hit = hit
flag_named flag.Miss = miss
flag_named flag.Unknown = unknown

abbrev pub stage_named : StageName → Stage
stage_named stage.Pre = pre
stage_named stage.IF = IF
stage_named stage.ID = ID
stage_named stage.EX = EX
stage_named stage.MEM = MEM
stage_named stage.ST = ST
stage_named stage.WB = WB
stage_named stage.Post = post
