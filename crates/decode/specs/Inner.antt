-- The record rules that the times rest on: "Kinds 0 and 3 have data bits 0", "Kind 4, a jump, has data bits [..] 0", and "data latency, 1 to 65,535 for
-- kinds 1 and 2".
use Rattle.std.specs.Prelude.{◌≤◌, true, false, ◌≡◌}
use Rattle.machine.specs.Test.{◌or◌}
use Rattle.machine.specs.Instruction.{hit, Instruction}
use Rattle.machine.specs.Rules.{is_load, is_store}

pub record AccessLawful (i : Instruction) : Type 0 where
  pub no_access : (is_load i.kind or is_store i.kind) ≡ false → i.access ≡ hit
  pub some_access : is_store i.kind ≡ true → 1 ≤ i.data_latency
