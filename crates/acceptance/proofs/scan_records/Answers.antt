-- `scan_records` meets its contract, record by record.
use Rattle.std.proofs.Common.{◌<◌, sym, ◌∙◌, arith}
use Rattle.record.specs.Body.{records, breaks_at, unknown_at, record_refusal, unknown_refusal}
use Rattle.record.proofs.Chunks.{chunks_are_records, chunk_breaks, chunk_unknown}
use Rattle.record.proofs.Scan.{none_zero, none_more, none_joined, scan_refused, scan_passed, scan_end}
use Rattle.acceptance.proofs.scan_records.Goals as goal

pub loop-record-init : goal.loop-record-init
loop-record-init c = record { lawful = none_zero _; flags = none_zero _ }

pub returns-then-breaks_rules-clause-broken : goal.returns-then-breaks_rules-clause-broken
unfolding record_refusal
returns-then-breaks_rules-clause-broken c =
    let body = c.args.body.now in
    let are = c.records-record-items.ensures in
    let k = c.loop-record.record-index in
    let inside : k < records body = omega (arith, chunks_are_records body are) in
    scan_refused (breaks_at body) _ k (records body) inside (sym (chunk_breaks body are k inside) ∙ sym c.breaks_rules.ensures ∙ c.if-breaks_rules.true)

pub unknown_from-unknown-requires : goal.unknown_from-unknown-requires
unknown_from-unknown-requires c = sym c.breaks_rules.ensures ∙ c.if-breaks_rules.false

pub loop-record-preserved : goal.loop-record-preserved
loop-record-preserved c =
    let body = c.args.body.now in
    let are = c.records-record-items.ensures in
    let k = c.loop-record.record-index in
    let inside : k < records body = omega (arith, chunks_are_records body are) in
    record {
      lawful =
          none_more (breaks_at body) k c.loop-record.invariant.lawful
          (sym (chunk_breaks body are k inside) ∙ sym c.breaks_rules.ensures ∙ c.if-breaks_rules.false);
      flags =
          none_joined (unknown_at body) k c.loop-record.unknown c.unknown_from-unknown.result c.loop-record.invariant.flags
          (c.unknown_from-unknown.ensures ∙ chunk_unknown body are k inside);
    }

pub returns-clause-broken : goal.returns-clause-broken
unfolding record_refusal
returns-clause-broken c =
    let all = chunks_are_records c.args.body.now c.records-record-items.ensures in
    scan_passed (breaks_at c.args.body.now) _ _ (records c.args.body.now) c.loop-record.invariant.lawful (omega (arith, all)) (omega (arith, all))

pub returns-clause-unknown : goal.returns-clause-unknown
unfolding unknown_refusal
returns-clause-unknown c =
    let all = chunks_are_records c.args.body.now c.records-record-items.ensures in
    scan_end (unknown_at c.args.body.now) _ _ (records c.args.body.now) c.loop-record.invariant.flags (omega (arith, all)) (omega (arith, all))
