-- `check_write` meets its contract: 3, 5, 13, 1, 8, 14, in that order.
use Rattle.std.proofs.Common.{ℕ, ◌*◌, sym, ◌∙◌, ap}
use borrow.Author.Tests.{le-leb, lt-leb, eq-eqb, ne_eqb}
use Rattle.record.specs.Layout.{record_size}
use Rattle.record.proofs.Refusals.{stopped, passed, fails, passes, last_fails, last_passes}
use Rattle.writer.specs.Write.{file_length, write_refusal}
use Rattle.writer.proofs.writing.check_write.Goals as goal

pub returns-then-counts : goal.returns-then-counts
unfolding write_refusal
returns-then-counts c = fails _ _ (lt-leb _ _ c.if-counts.true)

pub returns-in_err-check_counts : goal.returns-in_err-check_counts
unfolding write_refusal
returns-in_err-check_counts c = passes _ (le-leb _ _ c.if-counts.false) (stopped _ _ _ c.from_residual.ensures.1 c.in_err-check_counts.ensures)

pub returns-then-records-sum_of : goal.returns-then-records-sum_of
unfolding write_refusal
returns-then-records-sum_of c =
    passes _ (le-leb _ _ c.if-counts.false)
    (passed c.in_ok-check_counts.ensures
    (fails _ _ (ne_eqb _ _ (λ e. c.if-records-sum_of.true (e ∙ ap (λ (n : ℕ). record_size * n) (sym c.sum_of.ensures.0))))))

pub returns-then-end : goal.returns-then-end
unfolding write_refusal file_length
returns-then-end c =
    passes _ (le-leb _ _ c.if-counts.false)
    (passed c.in_ok-check_counts.ensures
    (passes _ (eq-eqb _ _ (c.if-records-sum_of.false ∙ ap (λ (n : ℕ). record_size * n) c.sum_of.ensures.0))
    (fails _ _ (lt-leb _ _ c.if-end.true))))

pub returns-in_err-check_records : goal.returns-in_err-check_records
unfolding write_refusal file_length
returns-in_err-check_records c =
    passes _ (le-leb _ _ c.if-counts.false)
    (passed c.in_ok-check_counts.ensures
    (passes _ (eq-eqb _ _ (c.if-records-sum_of.false ∙ ap (λ (n : ℕ). record_size * n) c.sum_of.ensures.0))
    (passes _ (le-leb _ _ c.if-end.false)
    (stopped _ _ _ c.from_residual-in_err-check_records.ensures.1 c.in_err-check_records.ensures))))

pub returns-then-room-end : goal.returns-then-room-end
unfolding write_refusal file_length
returns-then-room-end c =
    passes _ (le-leb _ _ c.if-counts.false)
    (passed c.in_ok-check_counts.ensures
    (passes _ (eq-eqb _ _ (c.if-records-sum_of.false ∙ ap (λ (n : ℕ). record_size * n) c.sum_of.ensures.0))
    (passes _ (le-leb _ _ c.if-end.false)
    (passed c.in_ok-check_records.ensures
    (last_fails _ (lt-leb _ _ c.if-room-end.true))))))

pub returns : goal.returns
unfolding write_refusal file_length
returns c =
    passes _ (le-leb _ _ c.if-counts.false)
    (passed c.in_ok-check_counts.ensures
    (passes _ (eq-eqb _ _ (c.if-records-sum_of.false ∙ ap (λ (n : ℕ). record_size * n) c.sum_of.ensures.0))
    (passes _ (le-leb _ _ c.if-end.false)
    (passed c.in_ok-check_records.ensures
    (last_passes _ (le-leb _ _ c.if-room-end.false))))))
