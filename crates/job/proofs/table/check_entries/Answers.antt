-- `check_entries` meets its contract, entry by entry.
use Rattle.std.proofs.Common.{◌≡◌, ℕ, ◌+◌, ◌*◌, sym, ◌∙◌, ap, ap₂, arith}
use Rattle.record.specs.Layout.{record_size}
use Rattle.job.specs.Layout.{start_at}
use Rattle.job.proofs.Entries.{entry_large, entry_offset, entry_fine, start_zero, start_more, entries_stop, entries_pass}
use Rattle.job.proofs.First.{first_zero, first_more}
use Rattle.job.proofs.table.check_entries.Goals as goal

pub loop-t-init : goal.loop-t-init
loop-t-init c =
    record {
      ends = ap (λ (n : ℕ). 2 + 6 * n) c.requires.0 ∙ sym (start_zero _ _);
      passes = first_zero _;
      bound = omega arith;
    }

pub returns-then-instructions-gt-MAX_INSTRUCTIONS-clause-refusal : goal.returns-then-instructions-gt-MAX_INSTRUCTIONS-clause-refusal
returns-then-instructions-gt-MAX_INSTRUCTIONS-clause-refusal c =
    entries_stop _ c.loop-t.t _ (omega arith) c.loop-t.invariant.passes (entry_large _ _ (rw c.half-instructions.ensures.0 at c.if-instructions-gt-MAX_INSTRUCTIONS.true))

pub returns-then-word-end-clause-refusal : goal.returns-then-word-end-clause-refusal
returns-then-word-end-clause-refusal c =
    entries_stop _ c.loop-t.t _ (omega arith) c.loop-t.invariant.passes (entry_offset _ _ (rw c.half-instructions.ensures.0 at c.if-instructions-gt-MAX_INSTRUCTIONS.false) (λ e. c.if-word-end.true (c.word.ensures.0 ∙ e ∙ sym c.loop-t.invariant.ends)))

pub loop-t-preserved : goal.loop-t-preserved
loop-t-preserved c =
    record {
      ends = ap₂ (λ (a b : ℕ). a + record_size * b) c.loop-t.invariant.ends c.half-instructions.ensures.0 ∙ sym (start_more _ _ _);
      passes = first_more _ _ c.loop-t.invariant.passes (entry_fine _ _ (rw c.half-instructions.ensures.0 at c.if-instructions-gt-MAX_INSTRUCTIONS.false) (sym c.word.ensures.0 ∙ c.if-word-end.false ∙ c.loop-t.invariant.ends));
      bound = omega arith;
    }

pub returns-clause-refusal : goal.returns-clause-refusal
returns-clause-refusal c = entries_pass _ _ (omega arith) c.loop-t.invariant.passes

pub returns-clause-end : goal.returns-clause-end
returns-clause-end c =
    let end : c.loop-t.t ≡ c.args.count = omega arith in
    c.loop-t.invariant.ends ∙ ap (start_at c.args.file.now) end
