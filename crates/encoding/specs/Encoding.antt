-- The bytes of a trace: document 01, "Job file and instruction record".
use Rattle.std.specs.Prelude.{ℕ, List, [], ◌∷◌, ◌++◌}
use Rattle.machine.specs.Instruction.{Flag, Instruction, Trace}
use Rattle.machine.specs.Time.{settle}
use Rattle.record.specs.Layout.{record_bytes}
use Rattle.record.specs.Rules.{fields_of}
use Rattle.record.specs.Body.{trace_of}

-- the ten bytes of an instruction, and the body of a trace
unfoldable pub record_of : Instruction → List ℕ
record_of i = record_bytes (fields_of i)

unfoldable pub body_of : Trace → List ℕ
body_of [] = []
body_of (i ∷ trace) = record_of i ++ body_of trace

-- the settling in which every unknown flag becomes the same flag, as a body
unfoldable pub settled_body : Flag → List ℕ → List ℕ
settled_body to body = body_of (settle to (trace_of body))
