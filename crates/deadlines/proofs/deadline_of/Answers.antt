use Rattle.std.proofs.Common.{sym, ◌∙◌, arith}
use Rattle.deadlines.proofs.Words.{reading_goes, word_empty, word_stray, word_large, word_read}
use Rattle.deadlines.proofs.deadline_of.Goals as goal

pub returns-then-is_empty : goal.returns-then-is_empty
returns-then-is_empty c = sym (word_empty c.args.word.now (grind arith))

pub returns-in_err-digit : goal.returns-in_err-digit
returns-in_err-digit c =
    c.from_residual.ensures ∙ sym (word_stray _ _ _ c.loop-byte-test.true c.from.ensures c.in_err-digit.ensures.value c.loop-byte.invariant.1)

pub returns-in_err-checked_mul : goal.returns-in_err-checked_mul
returns-in_err-checked_mul c =
    let d = c.in_ok-digit.ensures.value in
    c.from_residual-in_err-checked_mul.ensures
    ∙ sym (word_large _ _ _ c.loop-byte-test.true c.from.ensures d.0 (grind arith) c.loop-byte.invariant.1)

pub returns-in_err-cycles : goal.returns-in_err-cycles
returns-in_err-cycles c =
    let d = c.in_ok-digit.ensures.value in
    c.from_residual-in_err-cycles.ensures
    ∙ sym (word_large _ _ _ c.loop-byte-test.true c.from.ensures d.0 (grind arith) c.loop-byte.invariant.1)

pub loop-byte-preserved : goal.loop-byte-preserved
loop-byte-preserved c =
    let d = c.in_ok-digit.ensures.value in
    (grind arith, reading_goes _ _ _ c.loop-byte-test.true c.from.ensures d.0 (grind arith) c.loop-byte.invariant.1)

pub returns : goal.returns
returns c =
    let i = c.loop-byte.invariant in
    sym (word_read _ _ _ (omega arith) (grind arith) i.0 i.1)
