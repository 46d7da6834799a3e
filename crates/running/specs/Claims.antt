-- What is shown of Run's answer, as a named type.
use Rattle.std.specs.Prelude.{ℕ, ◌<◌, List, ◌≡◌, length}
use Rattle.machine.specs.Rules.{after}
use Rattle.machine.specs.State.{place_of}
use Rattle.record.specs.Body.{trace_with}
use Rattle.running.specs.Run.{run_answer}

-- demand 2: "The pipeline after each cycle is the one that the cycle rules of the SIC paper, as document 01 sets them out, give for every
-- instruction". Run's state gives every instruction the place where the rules have it after as many cycles as Run counts: of two in one stage the
-- state would lose one, and there are never two. On a refusal these are the starting state and 0 cycles.
abbrev pub RunGivesPlaces : Type 0
RunGivesPlaces =
    (body : List ℕ) (limit h i : ℕ) →
    i < length (trace_with body h) →
    place_of (run_answer body limit h).state i ≡ after (trace_with body h) (run_answer body limit h).cycles i
