-- The first t places are filled, and the others hold what they held.
use Rattle.std.proofs.Common.{◌≡◌, ◌++◌, drop}
use Rattle.record.specs.Body.{firsts}
use Rattle.whole_job.specs.Answers.{timed_alone}
use Rattle.whole_job.proofs.filling.put_times.Given as goal

abbrev pub invariant-loop-t : goal.invariant-loop-t
invariant-loop-t l = l.times ≡ firsts (timed_alone l.file l.hit_cycles) l.t ++ drop l.t l.initial.times
