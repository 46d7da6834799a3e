-- `waits_for` meets its contract: pre, ID and EX by their rules; elsewhere nothing waits.
use mathlib.Core.Bool.{not}
use mathlib.Core.Path.{sym, ap}
use Rattle.machine.proofs.Hazards.{waits_for, asks_for}
use Rattle.record.specs.Rules.{instruction_of}
use Rattle.decode.proofs.Joined.{both_of, either_of}
use Rattle.decode.proofs.Elsewhere.{waits_elsewhere}
use Rattle.decode.proofs.waits.waits_for.Goals as goal

pub returns-in-Pre : goal.returns-in-Pre
unfolding asks_for waits_for
returns-in-Pre c = rw c.in-Pre.is (either_of c.holds_fetches.ensures (ap not c.fetch_hits.ensures))

pub returns-in-ID : goal.returns-in-ID
unfolding asks_for waits_for instruction_of
returns-in-ID c = rw c.in-ID.is (both_of c.is_load.ensures c.reads_in_id.ensures)

pub returns-in-EX : goal.returns-in-EX
unfolding asks_for
returns-in-EX c = rw c.in-EX.is (both_of c.is_store.ensures c.misses_data.ensures)

pub returns-in_default : goal.returns-in_default
returns-in_default c = sym (waits_elsewhere _ c.in_default.not-Pre c.in_default.not-ID c.in_default.not-EX _ _)
