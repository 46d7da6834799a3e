-- `all_stay` meets its contract: slot by slot.
use Rattle.cycle.proofs.cycling.all_stay.Goals as goal

pub returns : goal.returns
returns c =
    let s = c.args.s in
    λ i.
    record {
      fetched = s.fetched;
      IF = c.slot_after.ensures i;
      ID = c.slot_after-2.ensures i;
      EX = c.slot_after-3.ensures i;
      MEM = c.slot_after-4.ensures i;
      ST = c.slot_after-5.ensures i;
      WB = c.slot_after-6.ensures i;
    }
