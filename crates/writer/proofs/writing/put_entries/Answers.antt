-- `put_entries` meets its contract, entry by entry.
use Rattle.std.proofs.Common.{◌≡◌, ℕ, ◌+◌, ◌*◌, ◌≤◌, ◌++◌, length, take, drop, refl, sym, ap, ap₂, ◌∙◌, arith}
use Rattle.record.specs.Layout.{record_size}
use Rattle.job.specs.Layout.{header_size, entry_at}
use Rattle.job.proofs.Starts.{start_le}
use Rattle.job.proofs.Entries.{start_zero, start_more}
use Rattle.writer.specs.Write.{count, table_of}
use Rattle.writer.proofs.WrittenTable.{entries_none, entries_more}
use Rattle.writer.proofs.writing.put_entries.Goals as goal

pub loop-count-init : goal.loop-count-init
loop-count-init c =
    record {
      place = refl;
      start = sym (start_zero _ _);
      written = entries_none _ _ (omega arith);
    }

pub overflow_add-offset-in-loop-count : goal.overflow_add-offset-in-loop-count
overflow_add-offset-in-loop-count c =
    let counts = c.args.counts.now in
    let t = c.loop-count.count-index in
    let h = start_le (length counts) (count counts) (t + 1) (length counts) (omega arith) in
    let e = start_more (length counts) (count counts) t in
    omega (arith, h, e, c.from-n.ensures, c.loop-count.invariant.start)

pub loop-count-preserved : goal.loop-count-preserved
loop-count-preserved c =
    let counts = c.args.counts.now in
    let o = c.args.out.now in
    let loop = c.loop-count in
    let room : 2 ≤ length o = omega arith in
    let started = sym (start_more (length counts) (count counts) loop.count-index) in
    record {
      place = omega arith;
      start = ap₂ (λ (a b : ℕ). a + record_size * b) loop.invariant.start c.from-n.ensures ∙ started;
      written = entries_more counts o loop.out _ loop.count-index loop.at _ _ room
          loop.invariant.place
          loop.invariant.start
          c.from-n.ensures
          loop.invariant.written
          c.put_entry.ensures;
    }

pub returns : goal.returns
returns c =
    let end : c.loop-count.count-index ≡ length c.args.counts.now = omega arith in
    c.loop-count.invariant.written
    ∙ ap₂ (λ (a b : ℕ). take header_size c.args.out.now ++ table_of c.args.counts.now a ++ drop b c.args.out.now) end (c.loop-count.invariant.place ∙ ap entry_at end)
