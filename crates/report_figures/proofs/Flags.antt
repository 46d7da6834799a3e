-- The unknown flags of a trace: what one more instruction adds, that there are at most two for each, and which numbers stand for an unknown flag.
use Prim.Native.Nat.{ℕ, zero, suc, ◌+◌, ◌*◌, ◌≤◌, ◌<◌}
use mathlib.Core.List.{[], ◌∷◌, ◌++◌}
use mathlib.Core.Path.{◌≡◌, refl}
use native.Mathlib.Omega.{arith}
use borrow.Author.Tests.{ne_eqb}
use lib.ListN.{length}
use Rattle.machine.specs.Instruction.{Flag, hit, miss, unknown, Instruction, Trace}
use Rattle.machine.specs.Hits.{with_hits}
use Rattle.record.specs.Rules.{flag_of}
use Rattle.report_figures.specs.Figures.{is_unknown, unknown_flags}

pub flag_known : (n : ℕ) → n ≤ 1 → is_unknown (flag_of n) ≡ 0
unfolding is_unknown flag_of
flag_known zero h = refl
flag_known (suc zero) h = refl
flag_known (suc (suc n)) h = absurd (omega arith)

pub flag_unknown : (n : ℕ) → 1 < n → is_unknown (flag_of n) ≡ 1
unfolding is_unknown flag_of
flag_unknown n h = rw (ne_eqb n 0 (λ e. omega arith), ne_eqb n 1 (λ e. omega arith))

pub unknown_more : (trace : Trace) (i : Instruction) → unknown_flags (trace ++ (i ∷ [])) ≡ unknown_flags trace + (is_unknown i.fetch + is_unknown i.access)
unfolding unknown_flags
unknown_more [] i = omega arith
unknown_more (j ∷ trace) i = let rest = unknown_more trace i in omega arith

one_at_most : (f : Flag) → is_unknown f ≤ 1
unfolding is_unknown
one_at_most hit = omega arith
one_at_most miss = omega arith
one_at_most unknown = omega arith

-- the cycles of a data hit are no matter of it
pub unknown_hits : (h : ℕ) (trace : Trace) → unknown_flags (with_hits h trace) ≡ unknown_flags trace
unfolding with_hits unknown_flags
unknown_hits h [] = refl
unknown_hits h (i ∷ trace) = let rest = unknown_hits h trace in omega arith

pub unknown_few : (trace : Trace) → unknown_flags trace ≤ 2 * length trace
unfolding unknown_flags
unknown_few [] = omega arith
unknown_few (i ∷ trace) =
    let rest = unknown_few trace in
    let fetch = one_at_most i.fetch in
    let access = one_at_most i.access in
    omega arith
