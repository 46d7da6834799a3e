-- A data hit takes at most 15 cycles, and fewer than each data latency so far.
use Rattle.std.proofs.Common.{false}
use Rattle.acceptance.proofs.Hits.{Seen}
use Rattle.acceptance.proofs.check_hits.Given as goal

abbrev pub invariant-loop-record : goal.invariant-loop-record
invariant-loop-record l = Seen l.body l.hit_cycles l.record-index false
