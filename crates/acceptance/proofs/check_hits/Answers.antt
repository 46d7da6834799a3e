-- `check_hits` meets its contract, record by record.
use Rattle.std.proofs.Common.{◌<◌, refl, sym, subst, ◌∙◌, arith}
use Rattle.record.specs.Body.{records}
use Rattle.record.proofs.Chunks.{chunks_are_records, chunk_not_above}
use Rattle.acceptance.proofs.Hits.{zero_passes, Seen, seen_short, seen_more, seen_passed, one_refused, long_refused}
use Rattle.acceptance.proofs.check_hits.Goals as goal

pub returns-then-hit_cycles-gt-MAX_HIT_CYCLES : goal.returns-then-hit_cycles-gt-MAX_HIT_CYCLES
returns-then-hit_cycles-gt-MAX_HIT_CYCLES c = long_refused _ _ (omega arith)

pub returns-then-hit_cycles-eq0 : goal.returns-then-hit_cycles-eq0
returns-then-hit_cycles-eq0 c =
    zero_passes _ _ c.requires (λ n. (c.type_inv.body n).fits) c.if-hit_cycles-eq0.true

pub loop-record-init : goal.loop-record-init
loop-record-init c = seen_short c.if-hit_cycles-gt-MAX_HIT_CYCLES.false

pub returns-then-not_above_from : goal.returns-then-not_above_from
returns-then-not_above_from c =
    let body = c.args.body.now in
    let are = c.records-record-items.ensures in
    let k = c.loop-record.record-index in
    let inside : k < records body = omega (arith, chunks_are_records body are) in
    one_refused _ _ k inside (sym (chunk_not_above body are k inside c.args.hit_cycles) ∙ sym c.not_above_from.ensures ∙ c.if-not_above_from.true)

pub loop-record-preserved : goal.loop-record-preserved
loop-record-preserved c =
    let body = c.args.body.now in
    let are = c.records-record-items.ensures in
    let k = c.loop-record.record-index in
    let inside : k < records body = omega (arith, chunks_are_records body are) in
    subst (Seen _ _ _) c.if-not_above_from.false
    (seen_more c.loop-record.invariant (c.not_above_from.ensures ∙ chunk_not_above body are k inside c.args.hit_cycles))

pub returns : goal.returns
returns c =
    let all = chunks_are_records c.args.body.now c.records-record-items.ensures in
    seen_passed c.loop-record.invariant refl (omega (arith, all)) (omega (arith, all))
