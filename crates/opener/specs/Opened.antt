-- What Open hands back: document 01, "What each call does and when it declines".
use Rattle.std.specs.Prelude.{ℕ, List, [], Result, Ok, Err}
use Rattle.std.specs.Borrow.{Bor}
use Rattle.record.specs.declared.refusal.Refusal.{Refusal}

-- the bytes of the part that is handed back; a refusal gives "an empty part"
unfoldable pub opened : Result (Bor (List ℕ)) Refusal → List ℕ
opened (Ok body) = body.now
opened (Err r) = []
