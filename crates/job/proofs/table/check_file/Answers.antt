-- `check_file` meets its contract: the refusals in their order, with one check of the records of all traces.
use Rattle.std.proofs.Common.{sym, ◌∙◌, ap}
use borrow.Author.Tests.{ne_eqb}
use Rattle.record.specs.Refusal.{◌then◌, ◌unless◌}
use Rattle.record.proofs.Refusals.{stopped, passed}
use Rattle.job.specs.Layout.{start_at}
use Rattle.job.specs.Open.{file_refusal}
use Rattle.job.proofs.Accepted.{TableFine, table_fine, records_checked}
use Rattle.job.proofs.table.check_file.Goals as goal

pub check_entries-requires : goal.check_entries-requires
check_entries-requires c =
    let fine = table_fine _ (sym c.in_ok-check_table.ensures) in
    (c.half-count.ensures.0, rw c.half-count.ensures.0 fine.few)

pub returns-in_err-check_table : goal.returns-in_err-check_table
unfolding file_refusal
returns-in_err-check_table c = stopped _ _ _ c.from_residual.ensures.1 c.in_err-check_table.ensures

pub returns-in_err-end : goal.returns-in_err-end
unfolding file_refusal
returns-in_err-end c = passed c.in_ok-check_table.ensures (stopped _ _ _ c.from_residual-in_err-end.ensures.1 c.in_err-end.ensures.refusal)

pub returns-then-file-end : goal.returns-then-file-end
unfolding file_refusal ◌then◌ ◌unless◌
returns-then-file-end c =
    passed c.in_ok-check_table.ensures (passed c.in_ok-end.ensures.refusal (rw (ne_eqb _ _ (λ e.
    c.if-file-end.true
    (e ∙ ap (start_at c.args.file.now) (sym c.half-count.ensures.0) ∙ sym c.in_ok-end.ensures.end)))))

pub slice_bounds-check_records-count : goal.slice_bounds-check_records-count
slice_bounds-check_records-count c =
    let fine : TableFine c.args.file.now = table_fine _ (sym c.in_ok-check_table.ensures) in
    rw c.half-count.ensures.0 fine.whole

pub slice_bounds-check_records-start : goal.slice_bounds-check_records-start
slice_bounds-check_records-start c =
    let fine : TableFine c.args.file.now = table_fine _ (sym c.in_ok-check_table.ensures) in
    rw c.half-count.ensures.0 fine.whole

pub returns : goal.returns
unfolding file_refusal
returns c =
    let fine : TableFine c.args.file.now = table_fine _ (sym c.in_ok-check_table.ensures) in
    passed c.in_ok-check_table.ensures
    (passed c.in_ok-end.ensures.refusal (records_checked _ c.half-count.result _ fine c.half-count.ensures.0
    (c.if-file-end.false ∙ c.in_ok-end.ensures.end ∙ ap (start_at c.args.file.now) c.half-count.ensures.0)
    c.check_records.ensures))
