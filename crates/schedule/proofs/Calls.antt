-- What the calls of `slide` and of `times_from` give together: one congruence for each, over plain variables.
use Prim.Native.Nat.{ℕ, ◌+◌}
use mathlib.Core.Bool.{Bool, cond}
use mathlib.Core.Path.{◌≡◌}
use Rattle.machine.specs.Rules.{is_load, is_store, holds_fetches, entry}
use Rattle.machine.proofs.Window as Theory
use Rattle.record.specs.declared.layout.Fields.{Fields}
use Rattle.record.specs.Rules.{instruction_of}
use Rattle.entering.specs.Inner.{window_of}
use Rattle.entering.specs.declared.stages.Window.{Window}
use Rattle.entering.proofs.Steps.{sum_joins}
use Rattle.schedule.specs.Inner.{times_of}
use Rattle.schedule.specs.declared.sliding.Times.{Times}

-- the window slides
pub slid
    : (f : Fields) (w : Window) (e : Times) {next_fetch load_done store_done load_target : ℕ} {load holds store : Bool} →
    load ≡ is_load (instruction_of f).kind →
    holds ≡ holds_fetches (instruction_of f).kind →
    next_fetch ≡ cond holds (e.EX + (f.execution + 1)) e.ID →
    load_done ≡ cond load e.last w.load_done →
    store ≡ is_store (instruction_of f).kind →
    store_done ≡ cond store e.post w.store_done →
    load_target ≡ cond load f.target 0 →
    ◌≡◌
    {A = Theory.Window}
    (record {
      next_fetch = next_fetch;
      EX = e.EX;
      MEM = e.MEM;
      last = e.last;
      post = e.post;
      load_done = load_done;
      store_done = store_done;
      load_target = load_target;
    })
    (Theory.slide (window_of w) (instruction_of f) (times_of e))
unfolding Theory.slide entry instruction_of
slid f w e load holds next_fetch load_done store store_done load_target =
    rw
    (next_fetch, load_done, store_done, load_target, sum_joins e.EX f.execution 1, load, holds, store)

-- times with six equal fields are equal
pub six_times
    : {e : Theory.Times} {IF ID EX MEM last post : ℕ} →
    IF ≡ e.IF →
    ID ≡ e.ID →
    EX ≡ e.EX →
    MEM ≡ e.MEM →
    last ≡ e.last →
    post ≡ e.post →
    ◌≡◌ {A = Theory.Times} (record { IF = IF; ID = ID; EX = EX; MEM = MEM; last = last; post = post }) e
six_times a b c d e f = λ k. record { IF = a k; ID = b k; EX = c k; MEM = d k; last = e k; post = f k }
