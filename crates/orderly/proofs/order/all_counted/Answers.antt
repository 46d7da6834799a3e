-- `all_counted` meets its contract: each slot's count against its entry count.
use Rattle.std.proofs.Common.{ℕ, ◌≡◌, true, ap, ◌∙◌}
use lib.Dec.{leb}
use Rattle.machine.specs.declared.Slot.{Slot}
use Rattle.machine.specs.Rules.{IF, EX, MEM, ST, entry}
use Rattle.machine.proofs.HitSlots.{timed_read}
use Rattle.record.specs.Rules.{instruction_of}
use Rattle.record.specs.Body.{trace_of}
use Rattle.orderly.specs.Inner.{count_of}
use Rattle.decode.proofs.Entries.{entry_of}
use Rattle.decode.proofs.Joined.{both_of, cond_under}
use Rattle.orderly.proofs.order.all_counted.Goals as goal

-- for an empty slot the entry count does not matter
count_under : (held : Slot) {m n : ℕ} → (held.filled ≡ true → m ≡ n) → count_of held m ≡ count_of held n
count_under held h = cond_under held.filled _ λ t. ap (leb held.count) (h t)

pub returns : goal.returns
unfolding entry instruction_of
returns c =
    let w = c.args.w.now in
    let s = w.state in
    let h = w.reads in
    let trace = trace_of w.body.now in
    let hits = c.args.hit_cycles in
    both_of
    (both_of
    (both_of
    (both_of
    (both_of
    (c.counted.ensures ∙ count_under s.IF (λ t. c.count_in_if.ensures ∙ entry_of IF (timed_read hits trace s.IF.index (h.IF t))))
    c.counted-2.ensures)
    (c.counted-3.ensures ∙ count_under s.EX (λ t. entry_of EX (timed_read hits trace s.EX.index (h.EX t)))))
    (c.counted-4.ensures ∙ count_under s.MEM (λ t. c.count_in_mem.ensures ∙ entry_of MEM (timed_read hits trace s.MEM.index h.MEM))))
    (c.counted-5.ensures ∙ count_under s.ST (λ t. c.count_in_st.ensures ∙ entry_of ST (timed_read hits trace s.ST.index (h.ST t)))))
    c.counted-6.ensures
