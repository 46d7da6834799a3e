-- What making a view of a body and reading instruction k through it give: document 01, "What each call does and when it declines".
use Rattle.std.specs.Prelude.{ℕ, List, Result, Ok, Err}
use Rattle.record.specs.Body.{body_refusal, no_fields, read_in, read_answer}
use Rattle.views.specs.View.{view_body}
use Rattle.record.specs.Refusal.{out_of_range}
use Rattle.record.specs.Number.{number}
use Rattle.record.specs.declared.refusal.Refusal.{Refusal}
use Rattle.record.specs.declared.layout.Fields.{Fields}
use Rattle.record.specs.declared.layout.Read.{Read}

-- the refusal on making the view, and what reading instruction k through it gave
pub record Viewed : Type 0 where
  pub made : ℕ
  pub read : Read

-- of a view that was not made no instruction is read
abbrev pub viewed : Result (Result Fields Refusal) Refusal → Viewed
viewed (Ok read) = record { made = 0; read = read_in read }
viewed (Err r) = record { made = number r; read = record { refusal = out_of_range; fields = no_fields } }

-- "On making it: 10 length not ten times a number up to 4,096, then 8. On k: 9 if k is not below the part's length divided by ten, rounded down."
-- The part of a refused view is empty, so that no k is below its length.
unfoldable pub read_through : List ℕ → ℕ → Viewed
read_through body k = record { made = body_refusal body; read = read_answer (view_body body) k }
