-- The window: what one pass over a trace has to remember of the instructions so far, and the times of the next instruction from it. Finish and Run
-- are coded this way. A window of constant size suffices because the instruction directly before, and the last load and store, dominate all older
-- ones.
use Prim.Native.Nat.{ℕ, zero, suc, ◌+◌, ◌-◌, max}
use mathlib.Core.Bool.{cond}
use lib.Dec.{ltb}
use Rattle.machine.specs.Instruction.{Instruction, Trace, instruction}
use Rattle.machine.specs.Rules.{pre, IF, ID, EX, MEM, ST, WB, post, Place, is_load, is_store, holds_fetches, hits, entry, reads_in_ID, misses_data}

-- Times are numbers of cycles from the start; 0 stands for none.
pub record Window : Type 0 where
  -- when IF can be entered next: when the instruction directly before entered ID, or, where that holds fetches back, one cycle after it stood with
  -- count 0 in EX; before the first, 1
  pub next_fetch : ℕ
  -- when the instruction directly before entered EX, MEM, its last stage and post
  pub EX : ℕ
  pub MEM : ℕ
  pub last : ℕ
  pub post : ℕ
  -- one cycle after the last load and store stood with count 0 in MEM and ST
  pub load_done : ℕ
  pub store_done : ℕ
  -- the target of a load directly before
  pub load_target : ℕ

-- when an instruction enters each stage, `last` being ST or WB
pub record Times : Type 0 where
  pub IF : ℕ
  pub ID : ℕ
  pub EX : ℕ
  pub MEM : ℕ
  pub last : ℕ
  pub post : ℕ

unfoldable pub no_window : Window
no_window = record { next_fetch = 1; EX = 0; MEM = 0; last = 0; post = 0; load_done = 0; store_done = 0; load_target = 0 }

-- One function for each stage: the latest of the instruction's own arrival, the stage becoming free, and what it waits for.
unfoldable pub enter_IF : Window → Instruction → ℕ
enter_IF w i = max w.next_fetch (cond (hits i.fetch) 0 (max w.load_done w.store_done))

unfoldable pub enter_ID : Window → Instruction → ℕ → ℕ
enter_ID w i atIF = max (atIF + entry i IF + 1) w.EX

-- a load directly before is done in MEM when it enters WB
unfoldable pub enter_EX : Window → Instruction → ℕ → ℕ
enter_EX w i atID = max (atID + 1) (cond (reads_in_ID i w.load_target) w.last w.MEM)

-- a store's second source is not asked for: its load, if it is not done, keeps MEM busy (`ValueNeverDecides`; of times, `value_in_time`)
unfoldable pub enter_MEM : Window → Instruction → ℕ → ℕ
enter_MEM w i atEX = max (max (atEX + entry i EX + 1) w.last) (cond (misses_data i) w.store_done 0)

unfoldable pub enter_last : Window → Instruction → ℕ → ℕ
enter_last w i atMEM = max (atMEM + entry i MEM + 1) (cond (is_store i.kind) w.store_done 0)

unfoldable pub last_count : Instruction → ℕ
last_count i = cond (is_store i.kind) (entry i ST) 0

unfoldable pub enter_post : Instruction → ℕ → ℕ
enter_post i atLast = atLast + last_count i + 1

-- all six, each from the one before
unfoldable pub times_from : Window → Instruction → Times
times_from w i =
    let atIF = enter_IF w i in
    let atID = enter_ID w i atIF in
    let atEX = enter_EX w i atID in
    let atMEM = enter_MEM w i atEX in
    let atLast = enter_last w i atMEM in
    record { IF = atIF; ID = atID; EX = atEX; MEM = atMEM; last = atLast; post = enter_post i atLast }

-- the window after an instruction that has these times
unfoldable pub slide : Window → Instruction → Times → Window
slide w i e =
    record {
      next_fetch = cond (holds_fetches i.kind) (e.EX + entry i EX + 1) e.ID;
      EX = e.EX;
      MEM = e.MEM;
      last = e.last;
      post = e.post;
      load_done = cond (is_load i.kind) e.last w.load_done;
      store_done = cond (is_store i.kind) e.post w.store_done;
      load_target = cond (is_load i.kind) i.target 0;
    }

-- when all so far have left: the last of them leaves last, or the last store
unfoldable pub all_left_by : Window → ℕ
all_left_by w = max w.store_done w.post

-- the window before instruction k of a trace, and that instruction's times
unfoldable pub window_before : Trace → ℕ → Window
window_before trace zero = no_window
window_before trace (suc k) = let w = window_before trace k in slide w (instruction trace k) (times_from w (instruction trace k))

unfoldable pub times_at : Trace → ℕ → Times
times_at trace k = times_from (window_before trace k) (instruction trace k)

-- where an instruction with these times stands after t cycles
unfoldable pub place_at : Instruction → Times → ℕ → Place
place_at i e t =
    cond (ltb t e.IF)
    (record { stage = pre; count = 0 })
    (cond (ltb t e.ID)
    (record { stage = IF; count = entry i IF - (t - e.IF) })
    (cond (ltb t e.EX)
    (record { stage = ID; count = 0 })
    (cond (ltb t e.MEM)
    (record { stage = EX; count = entry i EX - (t - e.EX) })
    (cond (ltb t e.last)
    (record { stage = MEM; count = entry i MEM - (t - e.MEM) })
    (cond (ltb t e.post)
    (record { stage = cond (is_store i.kind) ST WB; count = last_count i - (t - e.last) })
    (record { stage = post; count = 0 }))))))
