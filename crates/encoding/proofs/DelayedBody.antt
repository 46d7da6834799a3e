-- A settling that is delayed is the trace of a body that 10, 8 and 11 do not decline, as long as its latencies fit their bytes: of the rules of a
-- record only those of the latencies could break, and one that is above 0 is so with a wait, too; where there is no data access, there is no wait.
use Prim.Native.Nat.{ℕ, ◌+◌, ◌*◌, ◌<◌}
use mathlib.Core.Bool.{false, cond}
use mathlib.Core.Path.{◌≡◌, sym, ap, subst, ◌∙◌}
use native.Mathlib.Omega.{arith}
use lib.ListN.{length}
use Rattle.machine.specs.Instruction.{Instruction, instruction}
use Rattle.machine.specs.Rules.{misses, misses_data}
use Rattle.machine.specs.Time.{with_waits, Known}
use Rattle.machine.proofs.Delays.{delayed_length, delayed_at}
use Rattle.record.specs.declared.layout.Fields.{Fields}
use Rattle.record.specs.Layout.{record_bytes}
use Rattle.record.specs.Rules.{breaks_rules, flag_number, fields_of}
use Rattle.record.specs.Body.{breaks_at}
use Rattle.record.proofs.Within.{rules}
use Rattle.encoding.specs.Encoding.{record_of}
use Rattle.encoding.specs.Claims.{Lawful, LatenciesFit, DelayedAreBodies}
use Rattle.encoding.proofs.Numbers.{above_0, data_latency_kept}
use Rattle.encoding.proofs.Record.{fields_of_lem}
use Rattle.encoding.proofs.SettledBody.{trace_is_body, settling_few, settling_lawful, settling_known}

-- the flags byte of an instruction's record, and its rules
abbrev flags : Instruction → ℕ
flags i = flag_number i.fetch + 4 * flag_number i.access

breaks_record : (i : Instruction) → breaks_at (record_of i) 0 ≡ breaks_rules (fields_of i) (flags i)
unfolding breaks_at record_of record_bytes fields_of
breaks_record i = ap (λ (f : Fields). breaks_rules f (flags i)) (fields_of_lem i)

module _ (on_fetch on_data : ℕ) (i : Instruction) where
  keeps_rules : (flags : ℕ) → breaks_rules (fields_of i) flags ≡ false → breaks_rules (fields_of (with_waits on_fetch on_data i)) flags ≡ false
  unfolding breaks_rules fields_of with_waits misses_data
  keeps_rules flags lawful =
      let r = rules (fields_of i) flags lawful in
      rw (
        r.0,
        r.1,
        r.2,
        r.3,
        r.4,
        above_0 i.fetch_latency (cond (misses i.fetch) on_fetch 0) r.5,
        data_latency_kept i.kind (misses i.access) i.data_latency on_data r.6,
      )

  delayed_lawful : Lawful i → LatenciesFit (with_waits on_fetch on_data i) → Lawful (with_waits on_fetch on_data i)
  unfolding with_waits
  delayed_lawful l fit =
      record {
        execution_latency = l.execution_latency;
        fetch_latency = fit.fetch;
        data_latency = fit.access;
        hit_cycles = l.hit_cycles;
        rules = breaks_record (with_waits on_fetch on_data i) ∙ keeps_rules (flags i) (sym (breaks_record i) ∙ l.rules);
      }

  delayed_known : Known i → Known (with_waits on_fetch on_data i)
  unfolding with_waits
  delayed_known k = record { fetch = k.fetch; access = k.access }

pub delayed_are_bodies : DelayedAreBodies
delayed_are_bodies body b accepted settling version longest h d fit =
    let same = delayed_length d in
    trace_is_body version
    (omega (arith, same, settling_few body b accepted settling h))
    (λ k l.
    let inside : k < length settling = omega arith in
    let at = delayed_at d k inside in
    subst Lawful (sym at.waited)
    (delayed_lawful at.on_fetch at.on_data (instruction settling k) (settling_lawful body b accepted settling h k inside) (subst LatenciesFit at.waited (fit k l))))
    (λ k l.
    let inside : k < length settling = omega arith in
    let at = delayed_at d k inside in
    subst Known (sym at.waited) (delayed_known at.on_fetch at.on_data (instruction settling k) (settling_known body b accepted settling h k inside)))
