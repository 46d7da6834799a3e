-- Time on a shared bus: document 02, F-1, "the longest wait d [..] that other cores can put on one memory access".
use Rattle.std.specs.Prelude.{ℕ, ◌+◌, ◌*◌, ◌<◌, Bool, true, not, cond, [], ◌∷◌, ◌≡◌}
use Rattle.machine.specs.Test.{◌and◌, ◌or◌}
use Rattle.machine.specs.Instruction.{Instruction, Trace}
use Rattle.machine.specs.Rules.{IF, MEM, ST, Place, is_load, is_store, hits, misses}
use Rattle.machine.specs.Time.{worst}

-- "the fetches and the load and store accesses marked miss or unknown"
unfoldable pub counts_fetch : Instruction → Bool
counts_fetch i = not (hits i.fetch)

unfoldable pub counts_data : Instruction → Bool
counts_data i = (is_load i.kind or is_store i.kind) and not (hits i.access)

-- how many of an instruction's two accesses are counted
unfoldable pub accesses_of : Instruction → ℕ
accesses_of i = cond (counts_fetch i) 1 0 + cond (counts_data i) 1 0

-- "counts N"
unfoldable pub accesses : Trace → ℕ
accesses [] = 0
accesses (i ∷ trace) = accesses_of i + accesses trace

-- "and gives worst time plus N times d"
unfoldable pub bus_time : Trace → ℕ → ℕ
bus_time trace longest = worst trace + accesses trace * longest

-- an instruction's accesses
pub data Access : Type 0 where
  fetch_access data_access : Access

-- "under way after any cycle: a missed fetch in IF or a missed load in MEM or store in ST with count above 0, or a missed store in MEM"
pub data UnderWay (i : Instruction) (p : Place) : Access → Type 0 where
  fetch_in_IF : misses i.fetch ≡ true → p.stage ≡ IF → 0 < p.count → UnderWay i p fetch_access
  load_in_MEM : is_load i.kind ≡ true → misses i.access ≡ true → p.stage ≡ MEM → 0 < p.count → UnderWay i p data_access
  store_in_ST : is_store i.kind ≡ true → misses i.access ≡ true → p.stage ≡ ST → 0 < p.count → UnderWay i p data_access
  store_in_MEM : is_store i.kind ≡ true → misses i.access ≡ true → p.stage ≡ MEM → UnderWay i p data_access
