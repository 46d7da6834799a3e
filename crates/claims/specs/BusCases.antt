-- The time on a shared bus for document 01's "Charts worked by hand": what the call answers for the bodies of A to L. Without them the two claims could
-- hold of bodies that are all declined, of a time that nothing attains, and of accesses that are never under way.
use Rattle.std.specs.Prelude.{ℕ, List, [], ◌∷◌, map, ◌≡◌}
use Rattle.machine.specs.Instruction.{Trace, instruction}
use Rattle.machine.specs.Rules.{after}
use Rattle.machine.specs.Bus.{fetch_access, data_access, UnderWay}
use Rattle.machine.specs.Cases.{cases, case_C, case_F, case_I, case_L, miss_and_hit, jumps}
use Rattle.encoding.specs.Encoding.{body_of}
use Rattle.timing.specs.Answers.{finish_answer}
use Rattle.bus.specs.Answers.{bus_answer}
use Rattle.bus.specs.declared.answer.TimeOnBus.{TimeOnBus}
use Rattle.claims.specs.Bus.{VersionOf}

abbrev given : ℕ → ℕ → TimeOnBus
given accesses time = record { refusal = 0; accesses = accesses; time = time }

-- For a wait of 10: A, B, D and E have no access that is marked miss or unknown, H, J and L have two, the others one; each adds 10 to the worst time.
abbrev pub BusAnswered : Type 0
BusAnswered =
    map (λ c. bus_answer (body_of c.trace) 10 0) cases
    ≡ given 0 0
    ∷ given 0 6
    ∷ given 1 26
    ∷ given 0 8
    ∷ given 0 9
    ∷ given 1 30
    ∷ given 1 27
    ∷ given 2 41
    ∷ given 1 25
    ∷ given 2 46
    ∷ given 1 26
    ∷ given 2 41
    ∷ []

-- "15: a counted latency plus d exceeds 65,535": the longest wait is declined where an access is counted, since no latency is below 1, and only there;
-- for C, whose load takes 10, the border is between 65,525 and 65,526.
abbrev pub LongWaitDeclined : Type 0
LongWaitDeclined =
    (map (λ c. (bus_answer (body_of c.trace) 65535 0).refusal) cases ≡ 0 ∷ 0 ∷ 15 ∷ 0 ∷ 0 ∷ 15 ∷ 15 ∷ 15 ∷ 15 ∷ 15 ∷ 15 ∷ 15 ∷ [])
    × (map (λ longest. (bus_answer (body_of case_C) longest 0).refusal) (65525 ∷ 65526 ∷ []) ≡ 0 ∷ 15 ∷ [])

-- a version finishes at the time given, so that no smaller time would hold
pub record WaitsAttain (trace : Trace) (longest : ℕ) : Type 0 where
  pub version : List ℕ
  pub is_version : VersionOf 0 (body_of trace) longest version
  pub attains : (finish_answer version 0).time ≡ (bus_answer (body_of trace) longest 0).time

-- document 02, F-4: data hits are not counted, and take h; the load that misses and the store hit of latency 16 behind it, with a wait of 10
abbrev pub HitsOnBus : Type 0
HitsOnBus =
    map (λ h. bus_answer (body_of miss_and_hit) 10 h) (0 ∷ 3 ∷ 15 ∷ 16 ∷ [])
    ≡ given 1 33 ∷ given 1 36 ∷ given 1 48 ∷ record { refusal = 17; accesses = 0; time = 0 } ∷ []

-- document 02, F-6: a jump's fetch is counted; with a wait of 10. Of its cases four have no missed or unknown access, then the fetch behind a jump
-- misses, is unknown, and the jump's own misses; the jump behind a jump and the two that wait for a load hit have none, and the other four the load's
-- or the store's.
abbrev pub JumpsOnBus : Type 0
JumpsOnBus =
    map (λ c. bus_answer (body_of c.trace) 10 c.hits) jumps
    ≡ given 0 9
    ∷ given 0 11
    ∷ given 0 9
    ∷ given 0 11
    ∷ given 1 29
    ∷ given 1 29
    ∷ given 1 29
    ∷ given 0 12
    ∷ given 0 8
    ∷ given 0 11
    ∷ given 1 28
    ∷ given 1 25
    ∷ given 1 28
    ∷ given 1 28
    ∷ []

-- a load alone, a fetch behind a load, a store alone; two accesses that are unknown
abbrev pub TimeAttained : Type 0
TimeAttained = WaitsAttain case_C 10 × WaitsAttain case_F 10 × WaitsAttain case_I 10 × WaitsAttain case_L 10

-- "a missed fetch in IF or a missed load in MEM or store in ST with count above 0, or a missed store in MEM": each is met, the first three with the
-- least count that is above 0
abbrev pub EachUnderWay : Type 0
EachUnderWay =
    UnderWay (instruction case_F 1) (after case_F 14 1) fetch_access
    × UnderWay (instruction case_C 0) (after case_C 13 0) data_access
    × UnderWay (instruction case_I 0) (after case_I 13 0) data_access
    × UnderWay (instruction case_I 0) (after case_I 4 0) data_access
