-- Document 01's "Charts worked by hand" in bytes: the bodies of A to L, and the test that each is accepted.
use Rattle.std.specs.Prelude.{ℕ, Bool, true, false, not, cond, List, [], ◌∷◌, eqb}
use Rattle.machine.specs.Test.{◌and◌}
use Rattle.machine.specs.Instruction.{Flag, hit, miss, unknown, Trace}
use Rattle.machine.specs.Cases.{Case}
use Rattle.record.specs.Refusal.{unknown_flag}
use Rattle.encoding.specs.Encoding.{body_of}
use Rattle.record.specs.Body.{timed_refusal, settled_refusal}

-- D's body as document 01 prints it: the chart program's hex input from the ninth byte on
abbrev pub bytes_of_D : List ℕ
bytes_of_D = 1 ∷ 0 ∷ 0 ∷ 0 ∷ 1 ∷ 0 ∷ 1 ∷ 0 ∷ 1 ∷ 0 ∷ 0 ∷ 0 ∷ 1 ∷ 0 ∷ 2 ∷ 0 ∷ 1 ∷ 0 ∷ 0 ∷ 0 ∷ []

is_unknown : Flag → Bool
is_unknown hit = false
is_unknown miss = false
is_unknown unknown = true

-- a trace without unknown flags
unfoldable pub known : Trace → Bool
unfolding is_unknown
known [] = true
known (i ∷ trace) = not (is_unknown i.fetch) and not (is_unknown i.access) and known trace

-- the refusal of a lawful trace where unknown flags are refused: 11 if it has one
unfoldable pub refusal_of : Trace → ℕ
refusal_of trace = cond (known trace) 0 unknown_flag

-- none of 10, 8 and 17 refuses the body of a case, and 11 only one with an unknown flag
unfoldable pub cases_accepted : List Case → Bool
cases_accepted [] = true
cases_accepted (c ∷ cs) =
    eqb (timed_refusal (body_of c.trace) c.hits) 0
    and eqb (settled_refusal (body_of c.trace) c.hits) (refusal_of c.trace)
    and cases_accepted cs
