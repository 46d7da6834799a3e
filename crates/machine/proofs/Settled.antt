-- What a settling makes of a trace, instruction by instruction: it leaves no flag unknown, and a trace without unknown flags has no settling but
-- itself.
use Prim.Native.Nat.{ℕ, zero, suc, ◌<◌}
use mathlib.Core.List.{◌∷◌}
use mathlib.Core.Path.{◌≡◌, refl, ap, ap₂}
use native.Mathlib.Omega.{arith}
use lib.ListN.{length}
use Rattle.machine.specs.Instruction.{Flag, hit, miss, unknown, Instruction, Trace, instruction}
use Rattle.machine.specs.Claims.{OnlySettling}
use Rattle.machine.specs.Time.{Settled, hit_stays, miss_stays, unknown_hits, unknown_misses, SettledInstruction, Settling, settled_none, settled_more, Known}

hit_known : ¬ (hit ≡ unknown)
hit_known e = let z : ◌≡◌ {A = ℕ} 0 1 = cc in omega arith

miss_known : ¬ (miss ≡ unknown)
miss_known e = let z : ◌≡◌ {A = ℕ} 0 1 = cc in omega arith

flag_known : {f g : Flag} → Settled f g → ¬ (g ≡ unknown)
flag_known hit_stays = hit_known
flag_known miss_stays = miss_known
flag_known unknown_hits = hit_known
flag_known unknown_misses = miss_known

flag_stays : {f g : Flag} → Settled f g → ¬ (f ≡ unknown) → g ≡ f
flag_stays hit_stays k = refl
flag_stays miss_stays k = refl
flag_stays unknown_hits k = absurd (k refl)
flag_stays unknown_misses k = absurd (k refl)

pub settled_known : {i s : Instruction} → SettledInstruction i s → Known s
settled_known h = record { fetch = flag_known h.fetch; access = flag_known h.access }

known_stays : {i s : Instruction} → SettledInstruction i s → Known i → s ≡ i
known_stays h k =
    λ t.
    record {
      kind = h.kind t;
      fetch = flag_stays h.fetch k.fetch t;
      access = flag_stays h.access k.access t;
      source1 = h.source1 t;
      source2 = h.source2 t;
      target = h.target t;
      execution_latency = h.execution_latency t;
      fetch_latency = h.fetch_latency t;
      data_latency = h.data_latency t;
      hit_cycles = h.hit_cycles t;
    }

pub settling_length : {trace settling : Trace} → Settling trace settling → length settling ≡ length trace
settling_length settled_none = refl
settling_length (settled_more h rest) = ap suc (settling_length rest)

pub settling_at :
    {trace settling : Trace} → Settling trace settling → (k : ℕ) → k < length trace → SettledInstruction (instruction trace k) (instruction settling k)
settling_at settled_none k l = absurd (omega arith)
settling_at (settled_more h rest) zero l = h
settling_at (settled_more h rest) (suc k) l = settling_at rest k (omega arith)

its_own : {trace settling : Trace} → Settling trace settling → ((k : ℕ) → k < length trace → Known (instruction trace k)) → settling ≡ trace
its_own settled_none known = refl
its_own (settled_more h rest) known = ap₂ ◌∷◌ (known_stays h (known 0 (omega arith))) (its_own rest (λ k l. known (suc k) (omega arith)))

pub only_settling : OnlySettling
only_settling trace settling = its_own
