-- What is shown of records, as named types.
use Rattle.std.specs.Prelude.{ℕ, Bool, false, not, ◌||◌, ◌&&◌, ◌≡◌, ltb, eqb}
use Rattle.machine.specs.Instruction.{Kind}
use Rattle.record.specs.Layout.{fields_from, record_bytes, Fits}
use Rattle.record.specs.Rules.{breaks_rules, kind_of, kind_number}
use Rattle.record.specs.declared.layout.Fields.{Fields}

-- register 0 alone, hits, a fetch latency of 1
abbrev simplest : ℕ → ℕ → Fields
simplest kind latency =
    record {
      kind = kind;
      fetch = 0;
      access = 0;
      source1 = 0;
      source2 = 0;
      target = 0;
      execution = 0;
      fetch_latency = 1;
      data_latency = latency;
    }

-- A record of each kind keeps the rules. Were they to refuse everything, what is claimed of accepted bodies would hold and say nothing.
abbrev pub EachKindLawful : Type 0
EachKindLawful =
    (breaks_rules (simplest 0 0) 0 ≡ false)
    × (breaks_rules (simplest 1 1) 0 ≡ false)
    × (breaks_rules (simplest 2 1) 0 ≡ false)
    × (breaks_rules (simplest 3 0) 0 ≡ false)
    × (breaks_rules (simplest 4 0) 0 ≡ false)

-- the record with another kind
abbrev of_kind : ℕ → Fields → Fields
of_kind kind f =
    record {
      kind = kind;
      fetch = f.fetch;
      access = f.access;
      source1 = f.source1;
      source2 = f.source2;
      target = f.target;
      execution = f.execution;
      fetch_latency = f.fetch_latency;
      data_latency = f.data_latency;
    }

-- document 02, F-6: "Kind 4, a jump, has data bits and data latency 0 and may have a target.": it has the rules of a plain instruction
abbrev pub JumpAsPlain : Type 0
JumpAsPlain = (f : Fields) (flags : ℕ) → breaks_rules (of_kind 4 f) flags ≡ breaks_rules (of_kind 0 f) flags

-- Document 01's rules alone: "Byte 0, kind: 0 plain, 1 load, 2 store, 3 conditional branch. [..] 3 refused. Bits 4 to 7 are zero. Kinds 0 and 3 have data
-- bits 0. [..] source registers; byte 4, target register; each 0 to 31. [..] Kinds 2 and 3 have target 0. [..] fetch latency, 1 to 65,535 [..] data
-- latency, 1 to 65,535 for kinds 1 and 2, and 0 for kinds 0 and 3."
unfoldable pub breaks_before : Fields → ℕ → Bool
breaks_before f flags =
    ltb 3 f.kind
    || (eqb f.fetch 3 || eqb f.access 3 || ltb 15 flags)
    || (eqb f.kind 0 || eqb f.kind 3) && not (eqb f.access 0)
    || (ltb 31 f.source1 || ltb 31 f.source2 || ltb 31 f.target)
    || (eqb f.kind 2 || eqb f.kind 3) && not (eqb f.target 0)
    || eqb f.fetch_latency 0
    || ((eqb f.kind 1 || eqb f.kind 2) && eqb f.data_latency 0
    || (eqb f.kind 0 || eqb f.kind 3) && not (eqb f.data_latency 0))

-- They decide still, but for kind 4: nothing else that they declined is accepted, and nothing that they accepted is declined.
abbrev pub RulesKept : Type 0
RulesKept = (f : Fields) (flags : ℕ) → ¬ (f.kind ≡ 4) → breaks_rules f flags ≡ breaks_before f flags

-- The number of each kind is read as that kind.
abbrev pub KindIsRead : Type 0
KindIsRead = (kind : Kind) → kind_of (kind_number kind) ≡ kind

-- Fields that are written are read back.
abbrev pub WrittenIsRead : Type 0
WrittenIsRead = (f : Fields) → Fits f → fields_from (record_bytes f) 0 ≡ f
