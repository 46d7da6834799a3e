-- Demand 3, as one claim: document 01, "Contracts and cases". What it says is said once, of anything that places instructions and gives times, and
-- claimed "for the cycle rules above and, in the same claim, for what the calls answer". The order's sentences (docs/CLAIMS.md) stand above what
-- says each. Document 02, F-4: "Demand 3, its order and its sum bound alike, and every statement about cycles or finishing times are meant for one h
-- throughout and for traces that 17 does not decline with it".
use Rattle.std.specs.Prelude.{ℕ, ◌+◌, ◌≤◌, ◌<◌, false, List, ◌≡◌}
use Rattle.machine.specs.Instruction.{Trace}
use Rattle.machine.specs.Rules.{Places, further, after}
use Rattle.machine.specs.State.{place_of}
use Rattle.machine.specs.Time.{finish, best, worst, Settling}
use Rattle.machine.specs.Order.{Slower, SameFlags, added}
use Rattle.record.specs.Body.{Bytes, records, trace_of, trace_with, timed_refusal, settled_refusal}
use Rattle.running.specs.Run.{run_answer}
use Rattle.timing.specs.Answers.{finish_answer, best_worst_answer}

-- a body that the refusals let pass, with h where they ask for it: with 10, 8 and 17 any accepted trace that 17 does not decline with h, with 11
-- besides one without unknown flags, and so on
pub record Passes (refusal : List ℕ → ℕ → ℕ) (h : ℕ) (body : List ℕ) : Type 0 where
  pub bytes : Bytes body
  pub passes : refusal body h ≡ 0

-- demand 3: "For every pair of accepted traces without unknown flags, alike in length, kinds and registers, where the second differs at most by hits
-- turned into misses, latencies made longer, or both, whichever and however many". Document 01: "Two traces that demand 3 compares have equally many
-- instructions, alike in kind, both sources and target; a flag that is a hit in the first may be a miss in the second, never the reverse; each of the
-- three latencies is at least as long in the second."
pub record Compared (h : ℕ) (first second : List ℕ) : Type 0 where
  pub first_passes : Passes settled_refusal h first
  pub second_passes : Passes settled_refusal h second
  pub slower : Slower (trace_of first) (trace_of second)

-- "A settling of it makes each unknown flag a hit or a miss, each on its own, and alters nothing else"
pub record SettlingOf (h : ℕ) (body settling : List ℕ) : Type 0 where
  pub passes : Passes settled_refusal h settling
  pub settles : Settling (trace_of body) (trace_of settling)

-- what tells, with data hits that take h cycles, where a body's instructions stand after a number of cycles, when it finishes, and its best and worst
-- times
pub record Engine : Type 0 where
  pub places : List ℕ → ℕ → Places
  pub time : List ℕ → ℕ
  pub best : List ℕ → ℕ
  pub worst : List ℕ → ℕ

-- a settling finishes at the time
pub record Attained (h : ℕ) (engine : Engine) (body : List ℕ) (time : ℕ) : Type 0 where
  pub settling : List ℕ
  pub settles : SettlingOf h body settling
  pub attains : engine.time settling ≡ time

-- what demand 3 says of it, for one h throughout
pub record Holds (h : ℕ) (engine : Engine) : Type 0 where
  -- "after every number of cycles from the start, no instruction is further on in the second than in the first,
  pub ordered :
      (first second : List ℕ) → Compared h first second →
      (cycles i : ℕ) → i < records first → further (engine.places second cycles i) (engine.places first cycles i) ≡ false
  -- so the second never finishes earlier."
  pub later : (first second : List ℕ) → Compared h first second → engine.time first ≤ engine.time second
  -- "Where only latencies differ, it finishes later by at most the sum of what was added."
  pub added_at_most :
      (first second : List ℕ) → Compared h first second → SameFlags (trace_of first) (trace_of second) →
      engine.time second ≤ engine.time first + added (trace_of first) (trace_of second)
  -- "And for every accepted trace, whatever its unknown flags turn out to be: no settling of them finishes later than the worst time given or
  -- earlier than the best time given,
  pub enclosed :
      (body settling : List ℕ) → Passes timed_refusal h body → SettlingOf h body settling →
      (engine.best body ≤ engine.time settling) × (engine.time settling ≤ engine.worst body)
  -- and each of these two is the finishing time of some settling."
  pub best_attained : (body : List ℕ) → Passes timed_refusal h body → Attained h engine body (engine.best body)
  pub worst_attained : (body : List ℕ) → Passes timed_refusal h body → Attained h engine body (engine.worst body)

-- the cycle rules, from the start
abbrev pub rules : ℕ → Engine
rules h =
    record {
      places = λ body cycles. after (trace_with body h) cycles;
      time = λ body. finish (trace_with body h);
      best = λ body. best (trace_with body h);
      worst = λ body. worst (trace_with body h);
    }

-- "what the calls answer: the states that Run gives for equal limits, and the times of Finish and of Best and worst"
abbrev pub calls : ℕ → Engine
calls h =
    record {
      places = λ body limit. place_of (run_answer body limit h).state;
      time = λ body. (finish_answer body h).time;
      best = λ body. (best_worst_answer body h).best;
      worst = λ body. (best_worst_answer body h).worst;
    }

-- a settling of the body's trace is itself the trace of a body, which 10, 8, 17 and 11 do not decline
pub record Embodied (h : ℕ) (body : List ℕ) (settling : Trace) : Type 0 where
  pub encoding : List ℕ
  pub settles : SettlingOf h body encoding
  pub decodes : trace_of encoding ≡ settling

-- "A trace with forty unknown flags has more settlings than anyone can run, so the claim has to cover them all." `Holds` speaks of the settlings that
-- are bodies. Every settling of an accepted body's trace is a body's trace, so that it leaves none out.
abbrev pub SettlingsCovered : ℕ → Type 0
SettlingsCovered h =
    (body : List ℕ) → Passes timed_refusal h body → (settling : Trace) → Settling (trace_of body) settling → Embodied h body settling

-- The claim, for every h; `proofs/` has its one proof.
abbrev pub Demand3 : Type 0
Demand3 = (h : ℕ) → Holds h (rules h) × Holds h (calls h) × SettlingsCovered h
