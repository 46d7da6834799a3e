-- at the loop's head the bytes read are digits that make the cycles so far
use Rattle.std.proofs.Common.{◌<◌}
use Rattle.deadlines.proofs.Words.{Reading}
use Rattle.deadlines.proofs.deadline_of.Given as goal

abbrev pub invariant-loop-byte : goal.invariant-loop-byte
invariant-loop-byte l = (l.cycles < 4294967296) × Reading l.word l.byte-index l.cycles
