-- Each sum that is computed for an instruction's times is at most the next time, so within the limit nothing wraps; and the six steps, each from
-- the one before, give the six times.
use Prim.Native.Nat.{ℕ, ◌+◌, ◌^◌, ◌<◌}
use mathlib.Core.Path.{◌≡◌, ◌∙◌, ap}
use native.Mathlib.Omega.{arith}
use Rattle.machine.specs.Instruction.{Instruction}
use Rattle.machine.specs.Rules.{IF, EX, MEM, entry, reads_in_ID, misses_data}
use Rattle.machine.specs.Hits.{with_hit}
use Rattle.machine.proofs.Window.{Window, Times, enter_IF, enter_ID, enter_EX, enter_MEM, enter_last, last_count, enter_post, times_from}
use Rattle.machine.proofs.WindowBounds.{TimesWithin}
use Rattle.machine.specs.Time.{max_time}
use Rattle.record.specs.declared.layout.Fields.{Fields}
use Rattle.record.specs.Rules.{instruction_of}
use Rattle.schedule.specs.Inner.{Room}

-- the cycles of a data hit are a matter of the last two steps alone
module _ (w : Window) (h : ℕ) (f : Fields) where
  abbrev given : Instruction
  given = instruction_of f

  abbrev i : Instruction
  i = with_hit h given

  abbrev e : Times
  e = times_from w i

  pub at_IF : {a : ℕ} → a ≡ enter_IF w given → a ≡ e.IF
  unfolding times_from enter_IF
  at_IF p = p

  pub at_ID : {a b : ℕ} → a ≡ e.IF → b ≡ enter_ID w given a → b ≡ e.ID
  unfolding times_from enter_ID entry
  at_ID p q = q ∙ ap (enter_ID w i) p

  pub at_EX : {a b : ℕ} → a ≡ e.ID → b ≡ enter_EX w given a → b ≡ e.EX
  unfolding times_from enter_EX reads_in_ID
  at_EX p q = q ∙ ap (enter_EX w i) p

  pub at_MEM : {a b : ℕ} → a ≡ e.EX → b ≡ enter_MEM w given a → b ≡ e.MEM
  unfolding times_from enter_MEM entry misses_data
  at_MEM p q = q ∙ ap (enter_MEM w i) p

  pub at_last : {a b : ℕ} → a ≡ e.MEM → b ≡ enter_last w i a → b ≡ e.last
  unfolding times_from
  at_last p q = q ∙ ap (enter_last w i) p

  pub at_post : {a b : ℕ} → a ≡ e.last → b ≡ enter_post i a → b ≡ e.post
  unfolding times_from
  at_post p q = q ∙ ap (enter_post i) p

  module _ (fit : TimesWithin max_time e) where
    pub room_in_IF : {a : ℕ} → a ≡ e.IF → a + entry given IF + 1 < 2 ^ 32
    unfolding times_from enter_ID entry
    room_in_IF p = let h = fit.ID in omega arith

    pub room_in_ID : {a : ℕ} → a ≡ e.ID → a + 1 < 2 ^ 32
    unfolding times_from enter_EX
    room_in_ID p = let h = fit.EX in omega arith

    pub room_in_EX : {a : ℕ} → a ≡ e.EX → a + entry given EX + 1 < 2 ^ 32
    unfolding times_from enter_MEM entry
    room_in_EX p = let h = fit.MEM in omega arith

    pub room_in_MEM : {a : ℕ} → a ≡ e.MEM → a + entry i MEM + 1 < 2 ^ 32
    unfolding times_from enter_last
    room_in_MEM p = let h = fit.last in omega arith

    pub room_in_last : {a : ℕ} → a ≡ e.last → a + last_count i + 1 < 2 ^ 32
    unfolding times_from enter_post
    room_in_last p = let h = fit.post in omega arith

-- and so the window may slide past it
module _ (w : Window) (i : Instruction) (fit : TimesWithin max_time (times_from w i)) where
  pub room : {times : Times} → times ≡ times_from w i → Room i times
  unfolding times_from enter_MEM
  room p = let h = fit.MEM in let q = ap (λ (t : Times). t.EX) p in omega arith
