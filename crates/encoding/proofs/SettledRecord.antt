-- The record of a settled instruction keeps the rules if the record that it settles does: settling alters the two flags only, leaves neither
-- unknown, and does not alter a hit, which is all that the rules allow where there is no data access.
use Prim.Native.Nat.{ℕ, ◌+◌, ◌*◌, ◌≤◌}
use mathlib.Core.Bool.{Bool, true, false, not, ◌&&◌}
use mathlib.Core.Path.{◌≡◌, refl, ap, subst, ◌∙◌}
use native.Mathlib.Omega.{arith}
use borrow.Author.Tests.{eqb-true, eq-eqb, ne_eqb, le-ltb, not-false}
use lib.Dec.{eqb}
use Rattle.machine.specs.Instruction.{Flag, hit, miss, unknown, Instruction}
use Rattle.machine.specs.Time.{Settled, hit_stays, SettledInstruction, Known}
use Rattle.machine.proofs.Settled.{settled_known}
use Rattle.record.specs.declared.layout.Fields.{Fields}
use Rattle.record.specs.Layout.{fields_from, record_bytes}
use Rattle.record.specs.Rules.{no_access, breaks_rules, has_unknown, flag_of, flag_number, instruction_of, fields_of}
use Rattle.record.specs.Body.{breaks_at}
use Rattle.encoding.specs.Encoding.{record_of}
use Rattle.encoding.specs.Claims.{Lawful}
use Rattle.encoding.proofs.Numbers.{number_kind_of}
use Rattle.encoding.proofs.Record.{fields_of_lem}
use Rattle.record.proofs.Within.{Within, rules}

-- the number of a flag that is not unknown
number_known : (flag : Flag) → ¬ (flag ≡ unknown) → flag_number flag ≤ 1
number_known hit k = omega arith
number_known miss k = omega arith
number_known unknown k = absurd (k refl)

-- a flag whose number has to be 0 is a hit, and settling does not alter a hit
hit_stays_0 : {flag : Flag} → Settled hit flag → flag_number flag ≡ 0
hit_stays_0 hit_stays = refl

still_0 : (n : ℕ) (flag : Flag) → Settled (flag_of n) flag → n ≡ 0 → flag_number flag ≡ 0
unfolding flag_of
still_0 n flag h e = hit_stays_0 (subst (λ (n : ℕ). Settled (flag_of n) flag) e h)

wanted_0 : (test : Bool) (n m : ℕ) → (n ≡ 0 → m ≡ 0) → (test && not (eqb n 0)) ≡ false → (test && not (eqb m 0)) ≡ false
wanted_0 true n m h e = ap not (eq-eqb m 0 (h (eqb-true n 0 (not-false (eqb n 0) e))))
wanted_0 false n m h e = refl

-- The record of a settled instruction.
module _ (f : Fields) (s : Instruction) (h : SettledInstruction (instruction_of f) s) where
  fetch : ℕ
  fetch = flag_number s.fetch

  access : ℕ
  access = flag_number s.access

  small : (fetch ≤ 1) × (access ≤ 1)
  unfolding fetch access
  small = (number_known s.fetch (settled_known h).fetch, number_known s.access (settled_known h).access)

  fields : Fields
  fields =
      record {
        kind = f.kind;
        fetch = fetch;
        access = access;
        source1 = f.source1;
        source2 = f.source2;
        target = f.target;
        execution = f.execution;
        fetch_latency = f.fetch_latency;
        data_latency = f.data_latency;
      }

  fields_settled : Within f → fields_from (record_of s) 0 ≡ fields
  unfolding fields_of instruction_of fields fetch access
  fields_settled w =
      fields_of_lem s
      ∙ rw (
        h.kind,
        number_kind_of _ w.kind,
        h.source1,
        h.source2,
        h.target,
        h.execution_latency,
        h.fetch_latency,
        h.data_latency,
      )

  keeps_rules : (flags : ℕ) → breaks_rules f flags ≡ false → breaks_rules fields (fetch + 4 * access) ≡ false
  unfolding breaks_rules instruction_of fields access
  keeps_rules flags lawful =
      let r = rules f flags lawful in
      let l = small in
      rw (
        r.0,
        ne_eqb fetch 3 (omega arith),
        ne_eqb access 3 (omega arith),
        le-ltb 15 (fetch + 4 * access) (omega arith),
        wanted_0 (no_access f) f.access access (still_0 f.access s.access h.access) r.2,
        r.3,
        r.4,
        r.5,
        r.6,
      )

  pub settled_lawful : (flags : ℕ) → breaks_rules f flags ≡ false → Within f → Lawful s
  unfolding breaks_at record_of record_bytes fields_of instruction_of fetch access
  settled_lawful flags lawful w =
      record {
        execution_latency = rw h.execution_latency (omega (arith, w.execution));
        fetch_latency = rw h.fetch_latency (omega (arith, w.fetch_latency.1));
        data_latency = rw h.data_latency (omega (arith, w.data_latency));
        hit_cycles = h.hit_cycles;
        rules = ap (λ (g : Fields). breaks_rules g (fetch + 4 * access)) (fields_settled w) ∙ keeps_rules flags lawful;
      }

-- the record of an instruction without an unknown flag
pub known_record : (i : Instruction) → Known i → has_unknown (fields_from (record_of i) 0) ≡ false
unfolding has_unknown fields_of
known_record i k =
    let fetch = number_known i.fetch k.fetch in
    let access = number_known i.access k.access in
    ap has_unknown (fields_of_lem i) ∙ rw (ne_eqb (flag_number i.fetch) 2 (omega arith), ne_eqb (flag_number i.access) 2 (omega arith))
