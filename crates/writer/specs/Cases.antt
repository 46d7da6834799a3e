-- Job files are accepted at all: D's as document 01 prints it, and one of A to L. Were every file refused, the round trip would hold and say nothing.
use Rattle.std.specs.Prelude.{ℕ, List, [], ◌∷◌, map, ◌≡◌, length}
use Rattle.machine.specs.Instruction.{Trace}
use Rattle.machine.specs.Cases.{cases, case_D}
use Rattle.encoding.specs.Encoding.{body_of}
use Rattle.encoding.specs.Cases.{bytes_of_D}
use Rattle.job.specs.Layout.{max_file}
use Rattle.job.specs.Open.{file_refusal}
use Rattle.writer.specs.Write.{file_of, write_refusal}
use Rattle.writer.specs.RoundTrip.{traces_of, file_of_bodies, bodies_refusal}

-- D's job file as document 01 prints it, in hex: 01 00 08 00 00 00 02 00 and D's body
abbrev pub file_of_D : List ℕ
file_of_D = 1 ∷ 0 ∷ 8 ∷ 0 ∷ 0 ∷ 0 ∷ 2 ∷ 0 ∷ bytes_of_D

-- A to L
abbrev pub trace_list : List Trace
trace_list = map (λ c. c.trace) cases

pub record FilesAccepted : Type 0 where
  -- D's file is accepted and D is its one trace; Write makes these bytes of D's count and body
  pub accepted : file_refusal file_of_D ≡ 0
  pub read : traces_of file_of_D ≡ case_D ∷ []
  pub taken : write_refusal (2 ∷ []) bytes_of_D (length file_of_D) ≡ 0
  pub written : file_of (2 ∷ []) bytes_of_D ≡ file_of_D
  -- Write takes A to L as twelve traces of one file, and they read back
  pub all_taken : bodies_refusal (map body_of trace_list) max_file ≡ 0
  pub all_read : traces_of (file_of_bodies (map body_of trace_list)) ≡ trace_list
