-- numbers above 1 stand for unknown
use Rattle.std.proofs.Common.{◌≡◌, ◌≤◌, ℕ, nat_lt, sym, arith}
use mir.Val.{bool_byte}
use borrow.Author.Tests.{ltb-true, ltb-false}
use Rattle.machine.proofs.Connectives.{Value, passed, failed, value}
use Rattle.record.specs.Rules.{flag_of}
use Rattle.report_figures.specs.Figures.{is_unknown}
use Rattle.report_figures.proofs.Flags.{flag_known, flag_unknown}
use Rattle.report_figures.proofs.unknown_of.Goals as goal

known_or_not : (n : ℕ) → Value (nat_lt 1 n) → (bool_byte (nat_lt 1 n) ≡ is_unknown (flag_of n)) × (bool_byte (nat_lt 1 n) ≤ 1)
known_or_not n (passed e) = rw e (sym (flag_unknown n (ltb-true _ _ e)), omega arith)
known_or_not n (failed e) = rw e (sym (flag_known n (ltb-false _ _ e)), omega arith)

pub returns : goal.returns
returns c = rw c.from.ensures (known_or_not c.args.flag (value _))
