-- 17 declines the body of no trace so far.
use Rattle.std.proofs.Common.{◌≡◌, true}
use Rattle.machine.specs.Test.{none}
use Rattle.timed_file.specs.Refusal.{declines_at}
use Rattle.timed_file.proofs.refusals.check_file_hits.Given as goal

abbrev pub invariant-loop-t : goal.invariant-loop-t
invariant-loop-t l = none (declines_at l.file l.hit_cycles) l.t ≡ true
