-- `fields_at` meets its contract: a record that is there, and one that is not.
use Rattle.std.proofs.Common.{◌<◌, ◌≤◌, arith}
use borrow.Author.Tests.{lt-ltb, le-ltb}
use Rattle.record.specs.Body.{records, read_answer}
use Rattle.record.proofs.Chunks.{chunks_are_records, chunk_fields}
use Rattle.record.proofs.layout.fields_at.Goals as goal

pub returns-then-i-records : goal.returns-then-i-records
unfolding read_answer
returns-then-i-records c =
    let inside : c.args.k < records c.args.body.now = omega (arith, chunks_are_records _ c.records-records.ensures, c.if-i-records.true) in
    rw (lt-ltb c.args.k (records c.args.body.now) inside, ← chunk_fields _ c.records-records.ensures c.args.k inside, ← c.fields_of.ensures)

pub returns : goal.returns
unfolding read_answer
returns c =
    let past : records c.args.body.now ≤ c.args.k = omega (arith, chunks_are_records _ c.records-records.ensures, c.if-i-records.false) in
    rw (le-ltb c.args.k (records c.args.body.now) past)
