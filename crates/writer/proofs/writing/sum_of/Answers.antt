-- `sum_of` meets its contract, count by count.
use Rattle.std.proofs.Common.{◌≡◌, ℕ, ◌+◌, length, sym, ap, ap₂, ◌∙◌, arith}
use Rattle.job.specs.Layout.{before}
use Rattle.job.proofs.Starts.{before_zero, before_more}
use Rattle.writer.specs.Write.{count}
use Rattle.writer.proofs.writing.sum_of.Goals as goal

pub loop-n-init : goal.loop-n-init
loop-n-init c = record { sum = sym (before_zero _); bound = omega arith }

pub loop-n-preserved : goal.loop-n-preserved
loop-n-preserved c =
    record {
      sum = ap₂ (λ (a b : ℕ). a + b) c.loop-n.invariant.sum c.from-total.ensures ∙ sym (before_more _ _);
      bound = omega arith;
    }

pub returns : goal.returns
returns c =
    let end : c.loop-n.n-index ≡ length c.args.counts.now = omega arith in
    (c.loop-n.invariant.sum ∙ ap (before (count c.args.counts.now)) end, omega arith)
