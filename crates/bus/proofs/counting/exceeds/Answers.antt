-- `exceeds` meets its contract: a latency is too long with the wait where it is above what the wait leaves.
use native.Mathlib.Omega.{arith}
use Rattle.record.specs.Rules.{instruction_of}
use Rattle.decode.proofs.Joined.{both_of, either_of}
use Rattle.bus.specs.Answers.{exceeds}
use Rattle.bus.proofs.Added.{above_rest}
use Rattle.bus.proofs.counting.exceeds.Goals as goal

pub returns : goal.returns
unfolding exceeds instruction_of
returns c =
    let f = c.args.f in
    let wait = c.args.wait in
    either_of
    (both_of c.counts_fetch.ensures (above_rest 65535 wait f.fetch_latency (omega arith)))
    (both_of c.counts_data.ensures (above_rest 65535 wait f.data_latency (omega arith)))
