-- `write` meets its contract: a refusal, or header, table and records written one after the other.
use Rattle.std.proofs.Common.{sym, arith}
use Rattle.record.proofs.Refusals.{handed, some_number}
use Rattle.writer.specs.Write.{file_length, written}
use Rattle.writer.proofs.WriteAnswer.{write_fine, last_end, write_refused, write_done}
use Rattle.writer.proofs.writing.write.Goals as goal

pub returns-in_err-check_write-clause-answer : goal.returns-in_err-check_write-clause-answer
returns-in_err-check_write-clause-answer c =
    handed _ _ written c.from_residual.ensures.1 (write_refused _ _ _ _ c.in_err-check_write.ensures (some_number _)).0

pub returns-in_err-check_write-clause-output : goal.returns-in_err-check_write-clause-output
returns-in_err-check_write-clause-output c = (write_refused _ _ _ _ c.in_err-check_write.ensures (some_number _)).1

pub overflow_cast-counts : goal.overflow_cast-counts
overflow_cast-counts c =
    let fine = write_fine _ _ _ (sym c.in_ok-check_write.ensures) in
    omega (arith, fine.few)

pub put_half-requires : goal.put_half-requires
unfolding file_length
put_half-requires c =
    let fine = write_fine _ _ _ (sym c.in_ok-check_write.ensures) in
    omega (arith, fine.few, fine.fits)

pub put_entries-requires : goal.put_entries-requires
unfolding file_length
put_entries-requires c =
    let fine = write_fine _ _ _ (sym c.in_ok-check_write.ensures) in
    let end = last_end c.args.counts.now c.args.records.now fine.sized in
    (fine.few, omega (arith, fine.fits), omega (arith, fine.short, end))

pub overflow_mul-end : goal.overflow_mul-end
overflow_mul-end c =
    let fine = write_fine _ _ _ (sym c.in_ok-check_write.ensures) in
    omega (arith, fine.few)

pub overflow_add-end : goal.overflow_add-end
overflow_add-end c =
    let fine = write_fine _ _ _ (sym c.in_ok-check_write.ensures) in
    omega (arith, fine.few)

pub put_records-requires : goal.put_records-requires
unfolding file_length
put_records-requires c =
    let fine = write_fine _ _ _ (sym c.in_ok-check_write.ensures) in
    omega (arith, fine.fits)

pub overflow_add-result : goal.overflow_add-result
unfolding file_length
overflow_add-result c =
    let fine = write_fine _ _ _ (sym c.in_ok-check_write.ensures) in
    omega (arith, fine.short)

pub overflow_cast-result : goal.overflow_cast-result
unfolding file_length
overflow_cast-result c =
    let fine = write_fine _ _ _ (sym c.in_ok-check_write.ensures) in
    omega (arith, fine.short)

pub returns-clause-answer : goal.returns-clause-answer
returns-clause-answer c =
    (write_done _ _ _ _ _ _ (sym c.in_ok-check_write.ensures) c.put_half.ensures c.put_entries.ensures c.put_records.ensures).0

pub returns-clause-output : goal.returns-clause-output
returns-clause-output c =
    (write_done _ _ _ _ _ _ (sym c.in_ok-check_write.ensures) c.put_half.ensures c.put_entries.ensures c.put_records.ensures).1
