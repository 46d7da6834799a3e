-- The numbers that the code's names have as enums are those of the record.
use Prim.Native.Nat.{◌≤◌}
use native.Mathlib.Omega.{arith}
use mathlib.Core.Path.{◌≡◌, refl}
use denote.Enum.Declared.{tag_of}
use Rattle.machine.specs.Named.{kind_named, flag_named}
use Rattle.machine.specs.declared.Kind.{Kind as KindName}
use Rattle.machine.specs.declared.Kind.TheVariants as kind
use Rattle.machine.specs.declared.Flag.{Flag as FlagName}
use Rattle.machine.specs.declared.Flag.TheVariants as flag
use Rattle.machine.specs.contracts.Kind.{the_type as kinds}
use Rattle.machine.specs.contracts.Flag.{the_type as flags}
use Rattle.record.specs.Rules.{kind_number, kind_of, flag_number, flag_of}

pub kind_enum : (k : KindName) → (tag_of kinds k ≡ kind_number (kind_named k)) × (kind_of (tag_of kinds k) ≡ kind_named k) × (tag_of kinds k ≤ 7)
unfolding kind_of
kind_enum kind.Plain = (refl, refl, omega arith)
kind_enum kind.Load = (refl, refl, omega arith)
kind_enum kind.Store = (refl, refl, omega arith)
kind_enum kind.Branch = (refl, refl, omega arith)
kind_enum kind.Jump = (refl, refl, omega arith)

pub flag_enum : (f : FlagName) → (tag_of flags f ≡ flag_number (flag_named f)) × (flag_of (tag_of flags f) ≡ flag_named f)
unfolding flag_of
flag_enum flag.Hit = (refl, refl)
flag_enum flag.Miss = (refl, refl)
flag_enum flag.Unknown = (refl, refl)
