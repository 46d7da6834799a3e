-- Which records are within the rules, which have an unknown flag, and instructions as fields, both ways: document 01, "Job file and instruction
-- record", with document 02, F-6: "Kind 4, a jump, has data bits and data latency 0 and may have a target."
use Rattle.std.specs.Prelude.{ℕ, Bool, not, cond, ◌||◌, ◌&&◌, ltb, leb, eqb}
use Rattle.machine.specs.Instruction.{Kind, plain, load, store, branch, jump, Flag, hit, miss, unknown, Instruction}
use Rattle.record.specs.declared.layout.Fields.{Fields}

-- "Byte 0, kind: 0 plain, 1 load, 2 store, 3 conditional branch."; "Kind 4, a jump"
abbrev pub bad_kind : Fields → Bool
bad_kind f = ltb 4 f.kind

-- "0 hit, 1 miss, 2 unknown, 3 refused. Bits 4 to 7 are zero."
abbrev pub bad_flags : Fields → ℕ → Bool
bad_flags f flags = eqb f.fetch 3 || eqb f.access 3 || ltb 15 flags

-- "Kinds 0 and 3", and kind 4, have no data access
abbrev pub no_access : Fields → Bool
no_access f = eqb f.kind 0 || eqb f.kind 3 || eqb f.kind 4

-- "Kinds 0 and 3 have data bits 0."; "Kind 4, a jump, has data bits [..] 0"
abbrev pub stray_access : Fields → Bool
stray_access f = no_access f && not (eqb f.access 0)

-- "source registers; byte 4, target register; each 0 to 31"
abbrev pub bad_register : Fields → Bool
bad_register f = ltb 31 f.source1 || ltb 31 f.source2 || ltb 31 f.target

-- "Kinds 2 and 3 have target 0."; "a jump [..] may have a target"
abbrev pub stray_target : Fields → Bool
stray_target f = (eqb f.kind 2 || eqb f.kind 3) && not (eqb f.target 0)

-- "fetch latency, 1 to 65,535, also where the fetch hits"
abbrev pub bad_fetch_latency : Fields → Bool
bad_fetch_latency f = eqb f.fetch_latency 0

-- "data latency, 1 to 65,535 for kinds 1 and 2, and 0 for kinds 0 and 3"; "Kind 4, a jump, has [..] data latency 0"
abbrev pub bad_data_latency : Fields → Bool
bad_data_latency f =
    (eqb f.kind 1 || eqb f.kind 2) && eqb f.data_latency 0 || no_access f && not (eqb f.data_latency 0)

-- a record, by its fields and its flags byte, breaks its rules
unfoldable pub breaks_rules : Fields → ℕ → Bool
breaks_rules f flags =
    bad_kind f || bad_flags f flags || stray_access f || bad_register f || stray_target f || bad_fetch_latency f || bad_data_latency f

unfoldable pub has_unknown : Fields → Bool
has_unknown f = eqb f.fetch 2 || eqb f.access 2

-- document 02, F-4: "a load or store whose data latency is not above h"
unfoldable pub not_above : Fields → ℕ → Bool
not_above f h = (eqb f.kind 1 || eqb f.kind 2) && leb f.data_latency h

-- The kind or flag of a number, and the number of a kind or flag. A number that the rules refuse reads as plain or as unknown.
unfoldable pub kind_of : ℕ → Kind
kind_of n = cond (eqb n 1) load (cond (eqb n 2) store (cond (eqb n 3) branch (cond (eqb n 4) jump plain)))

abbrev pub kind_number : Kind → ℕ
kind_number plain = 0
kind_number load = 1
kind_number store = 2
kind_number branch = 3
kind_number jump = 4

unfoldable pub flag_of : ℕ → Flag
flag_of n = cond (eqb n 0) hit (cond (eqb n 1) miss unknown)

abbrev pub flag_number : Flag → ℕ
flag_number hit = 0
flag_number miss = 1
flag_number unknown = 2

-- the instruction that a record's fields stand for; the cycles of a data hit are no field of it
unfoldable pub instruction_of : Fields → Instruction
instruction_of f =
    record {
      kind = kind_of f.kind;
      fetch = flag_of f.fetch;
      access = flag_of f.access;
      source1 = f.source1;
      source2 = f.source2;
      target = f.target;
      execution_latency = f.execution;
      fetch_latency = f.fetch_latency;
      data_latency = f.data_latency;
      hit_cycles = 0;
    }

-- the fields of an instruction's record
unfoldable pub fields_of : Instruction → Fields
fields_of i =
    record {
      kind = kind_number i.kind;
      fetch = flag_number i.fetch;
      access = flag_number i.access;
      source1 = i.source1;
      source2 = i.source2;
      target = i.target;
      execution = i.execution_latency;
      fetch_latency = i.fetch_latency;
      data_latency = i.data_latency;
    }
