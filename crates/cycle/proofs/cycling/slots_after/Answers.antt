-- `slots_after` meets its contract: slot by slot, from who moves and the counts on entry.
use Rattle.std.proofs.Common.{Bool, suc, cond, refl, sym, ap, ◌∙◌}
use Rattle.machine.proofs.Connectives.{and_l}
use Rattle.machine.specs.Hits.{with_hits}
use Rattle.machine.proofs.BySlots.{standing, stage_before, arrives}
use Rattle.machine.proofs.HitSlots.{timed_read, leaves_alike, arrives_alike}
use Rattle.moving.specs.Inner.{bits_of}
use Rattle.machine.specs.Rules.{IF, ID, EX, MEM, ST, WB, entry}
use Rattle.record.specs.Body.{trace_of}
use Rattle.record.specs.Rules.{instruction_of}
use Rattle.moving.specs.Inner.{Bits}
use Rattle.decode.proofs.Entries.{entry_of}
use Rattle.cycle.proofs.Slots.{slot_is, state_is, leaves_filled}
use Rattle.cycle.proofs.cycling.slots_after.Goals as goal

pub returns : goal.returns
unfolding standing stage_before arrives entry instruction_of
returns c =
    λ m' n'.
    let a = c.args in
    let w = a.standing.now in
    let s = w.state in
    let h = w.reads in
    let given = trace_of w.body.now in
    let hits = a.hit_cycles in
    let trace = with_hits hits given in
    let m = m' ∙ ap bits_of (sym (leaves_alike hits given s)) in
    let n = n' ∙ ap bits_of (sym (arrives_alike hits given s)) in
    let atPre = ap (λ (b : Bits). b.pre) m in
    let atIF = ap (λ (b : Bits). b.IF) m in
    let atID = ap (λ (b : Bits). b.ID) m in
    let atEX = ap (λ (b : Bits). b.EX) m in
    let atMEM = ap (λ (b : Bits). b.MEM) m in
    let atST = ap (λ (b : Bits). b.ST) m in
    let atWB = ap (λ (b : Bits). b.WB) m in
    let intoIF = ap (λ (b : Bits). b.IF) n in
    let intoID = ap (λ (b : Bits). b.ID) n in
    let intoEX = ap (λ (b : Bits). b.EX) n in
    let intoMEM = ap (λ (b : Bits). b.MEM) n in
    let intoST = ap (λ (b : Bits). b.ST) n in
    let intoWB = ap (λ (b : Bits). b.WB) n in
    state_is trace s
    (c.fetched_after.ensures ∙ ap (λ (b : Bool). cond b (suc s.fetched) s.fetched) atPre)
    (slot_is trace s IF c.slot_after.ensures intoIF (λ _. c.count_in_if.ensures ∙ entry_of IF (timed_read hits given s.fetched h.pre)) atIF)
    (slot_is trace s ID c.slot_after-2.ensures intoID (λ _. refl) atID)
    (slot_is trace s EX c.slot_after-3.ensures intoEX (λ a. entry_of EX (timed_read hits given s.ID.index (h.ID (leaves_filled trace s ID refl (and_l _ _ (sym intoEX ∙ a)))))) atEX)
    (slot_is trace s MEM c.slot_after-4.ensures intoMEM (λ a. c.count_in_mem.ensures ∙ entry_of MEM (timed_read hits given s.EX.index (h.EX (leaves_filled trace s EX refl (and_l _ _ (sym intoMEM ∙ a)))))) atMEM)
    (slot_is trace s ST c.slot_after-5.ensures intoST (λ _. c.count_in_st.ensures ∙ entry_of ST (timed_read hits given s.MEM.index h.MEM)) atST)
    (slot_is trace s WB c.slot_after-6.ensures intoWB (λ _. refl) atWB)
