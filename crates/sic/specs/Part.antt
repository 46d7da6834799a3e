-- What Open answers in other languages, where the part of the file is passed as numbers.
use Rattle.std.specs.Prelude.{ℕ, List, length}
use Rattle.job.specs.Open.{open_refusal, open_body, locate_answer}
use Rattle.sic.specs.declared.files.Part.{Part}

-- the refusal, where the body starts in its file, and how long it is; "A refusal gives its number, zeros for numbers"
unfoldable pub open_part : List ℕ → ℕ → Part
open_part file trace =
    record {
      refusal = open_refusal file trace;
      start = (locate_answer file trace).start;
      length = length (open_body file trace);
    }
