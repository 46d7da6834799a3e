-- What a view holds: document 01, "What each call does and when it declines".
use Rattle.std.specs.Prelude.{ℕ, cond, List, [], Result, Ok, Err, eqb}
use Rattle.record.specs.Body.{body_refusal}
use Rattle.record.specs.declared.refusal.Refusal.{Refusal}
use Rattle.views.specs.declared.View.{View}

-- "View carries a checked body along [..] On making it: 10 length not ten times a number up to 4,096, then 8"; a refusal gives "an empty part"
unfoldable pub view_body : List ℕ → List ℕ
view_body body = cond (eqb (body_refusal body) 0) body []

-- the part of a view that was made; where none was, an empty part
unfoldable pub carried : Result View Refusal → List ℕ
carried (Ok view) = view.body.now
carried (Err r) = []
