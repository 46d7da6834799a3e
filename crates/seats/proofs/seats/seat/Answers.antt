-- `seat` meets its contract: an instruction that is fetched and has not left is put into its slot.
use Rattle.seats.proofs.Seating.{seat_slot, seat_none}
use Rattle.seats.proofs.seats.seat.Goals as goal

pub returns-in-IF : goal.returns-in-IF
returns-in-IF c = seat_slot _ c.args.state.now _ _ _ c.requires.0 c.requires.1 _ c.place_at-place.ensures c.in-IF.is c.holding-slot.ensures

pub returns-in-ID : goal.returns-in-ID
returns-in-ID c = seat_slot _ c.args.state.now _ _ _ c.requires.0 c.requires.1 _ c.place_at-place.ensures c.in-ID.is c.holding-slot.ensures

pub returns-in-EX : goal.returns-in-EX
returns-in-EX c = seat_slot _ c.args.state.now _ _ _ c.requires.0 c.requires.1 _ c.place_at-place.ensures c.in-EX.is c.holding-slot.ensures

pub returns-in-MEM : goal.returns-in-MEM
returns-in-MEM c = seat_slot _ c.args.state.now _ _ _ c.requires.0 c.requires.1 _ c.place_at-place.ensures c.in-MEM.is c.holding-slot.ensures

pub returns-in-ST : goal.returns-in-ST
returns-in-ST c = seat_slot _ c.args.state.now _ _ _ c.requires.0 c.requires.1 _ c.place_at-place.ensures c.in-ST.is c.holding-slot.ensures

pub returns-in-WB : goal.returns-in-WB
returns-in-WB c = seat_slot _ c.args.state.now _ _ _ c.requires.0 c.requires.1 _ c.place_at-place.ensures c.in-WB.is c.holding-slot.ensures

pub returns-in-Pre : goal.returns-in-Pre
returns-in-Pre c = seat_none _ c.args.state.now _ _ _ c.requires.0 c.requires.1 _ c.place_at-place.ensures c.in-Pre.is
