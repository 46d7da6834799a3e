-- The state that places give, one instruction after the other: the pass starts from the starting state, adds one instruction at its place, and
-- ends with the state of all places.
use Prim.Native.Nat.{ℕ, suc, ◌+◌}
use mathlib.Core.Bool.{true, cond}
use mathlib.Core.Path.{◌≡◌, refl}
use native.Mathlib.Numerals.{add-one}
use lib.ListN.{length}
use Rattle.machine.specs.Instruction.{Trace}
use Rattle.machine.specs.Rules.{Stage, pre, IF, ID, EX, MEM, ST, WB, post, Places, same}
use Rattle.machine.specs.State.{start, fetched_below, occupant_below, state_of}
use Rattle.machine.specs.declared.State.{State}
use Rattle.seats.specs.Inner.{fetched_with, slot_with, state_with}
use Rattle.under_way.specs.Inner.{state_below}

-- one more instruction at its stage: by computation in each of the eight cases
grown : (k count : ℕ) (s : State) (stage : Stage) →
    record {
      fetched = cond (same stage pre) s.fetched (suc s.fetched);
      IF = cond (same stage IF) (record { filled = true; index = k; count = count }) s.IF;
      ID = cond (same stage ID) (record { filled = true; index = k; count = count }) s.ID;
      EX = cond (same stage EX) (record { filled = true; index = k; count = count }) s.EX;
      MEM = cond (same stage MEM) (record { filled = true; index = k; count = count }) s.MEM;
      ST = cond (same stage ST) (record { filled = true; index = k; count = count }) s.ST;
      WB = cond (same stage WB) (record { filled = true; index = k; count = count }) s.WB;
    }
    ≡ state_with (record { stage = stage; count = count }) k s
unfolding state_with fetched_with slot_with
grown k count s pre = refl
grown k count s IF = refl
grown k count s ID = refl
grown k count s EX = refl
grown k count s MEM = refl
grown k count s ST = refl
grown k count s WB = refl
grown k count s post = refl

module _ (places : Places) where
  pub state_starts : state_below places 0 ≡ start
  unfolding state_below fetched_below occupant_below
  state_starts = refl

  pub state_grows : (k : ℕ) → state_below places (k + 1) ≡ state_with (places k) k (state_below places k)
  unfolding state_below fetched_below occupant_below
  state_grows k = rw (add-one k) (grown k (places k).count (state_below places k) (places k).stage)

  pub state_ends : (trace : Trace) → state_below places (length trace) ≡ state_of trace places
  unfolding state_below state_of
  state_ends trace = refl
