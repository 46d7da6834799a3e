-- Counts on entry by the numbers of a record's fields.
use Prim.Native.Nat.{ℕ, ◌+◌, ◌-◌}
use mathlib.Core.Bool.{Bool, true, false, cond, ◌||◌}
use mathlib.Core.Path.{◌≡◌, refl, ap, ◌∙◌}
use native.Mathlib.Omega.{arith}
use Rattle.machine.specs.Test.{◌and◌, ◌or◌}
use Rattle.machine.specs.Instruction.{Instruction}
use Rattle.machine.specs.Rules.{Stage, IF, MEM, ST, is_load, is_store, misses, entry, misses_data}
use Rattle.machine.proofs.Connectives.{Value, passed, failed, value, or_r}
use Rattle.machine.specs.Hits.{with_hit}
use Rattle.machine.proofs.Window.{last_count}
use Rattle.record.specs.declared.layout.Fields.{Fields}
use Rattle.record.specs.Rules.{instruction_of}
use Rattle.decode.specs.Inner.{AccessLawful}
use Rattle.decode.proofs.Joined.{either}

-- equal instructions have equal counts
pub entry_of : (k : Stage) {i j : Instruction} → i ≡ j → entry i k ≡ entry j k
entry_of k e = ap (λ (i : Instruction). entry i k) e

-- only a load or store misses
misses_only : (i : Instruction) → AccessLawful i → Value (is_load i.kind or is_store i.kind) → misses i.access ≡ misses_data i
unfolding misses_data ◌and◌
misses_only i lawful (passed e) = rw e
misses_only i lawful (failed e) = rw (e, lawful.no_access e)

pub misses_alone : (i : Instruction) → AccessLawful i → misses i.access ≡ misses_data i
misses_alone i lawful = misses_only i lawful (value (is_load i.kind or is_store i.kind))

-- the cycles that a hit takes, of a load, of a store, and one more
load_hit : (load store missed : Bool) (n h : ℕ) → cond load (cond missed n h) 0 ≡ cond load (cond missed n (cond (load or store) h 0)) 0
unfolding ◌or◌
load_hit true store missed n h = refl
load_hit false store missed n h = refl

cycles_more
    : (h : ℕ) (i : Instruction) →
    AccessLawful i →
    Value (is_store i.kind) →
    Value (misses i.access) →
    cond (is_store i.kind) (cond (misses i.access) i.data_latency (h + 1)) 1 ≡ last_count (with_hit h i) + 1
unfolding last_count entry
cycles_more h i lawful (passed e) (passed m) = rw (e, m) (let some = lawful.some_access e in omega arith)
cycles_more h i lawful (passed e) (failed m) = rw (or_r (is_load i.kind) _ e, e, m)
cycles_more h i lawful (failed e) m = rw e

module _ (f : Fields) where
  abbrev i : Instruction
  i = instruction_of f

  pub IF_count : {missed : Bool} {r : ℕ} → missed ≡ misses i.fetch → r ≡ cond missed f.fetch_latency 0 → r ≡ entry i IF
  unfolding instruction_of entry
  IF_count m q = q ∙ rw m

  module _ (h : ℕ) where
    pub MEM_count : {load missed : Bool} {taken r : ℕ} →
        load ≡ is_load i.kind →
        missed ≡ misses i.access →
        taken ≡ cond missed f.data_latency h →
        r ≡ cond load taken 0 →
        r ≡ entry (with_hit h i) MEM
    unfolding instruction_of entry
    MEM_count p m t q = q ∙ rw (t, p, m) (load_hit (is_load i.kind) (is_store i.kind) (misses i.access) f.data_latency h)

    pub ST_count : {load store missed : Bool} {hit late r : ℕ} →
        load ≡ is_load i.kind →
        store ≡ is_store i.kind →
        hit ≡ cond (load || store) h 0 →
        missed ≡ misses i.access →
        late ≡ f.data_latency - 1 →
        r ≡ cond missed late hit →
        r ≡ entry (with_hit h i) ST
    unfolding instruction_of entry
    ST_count l s t m p q = q ∙ rw (t, either _ _, l, s, m, p)

    pub last_count_lem : {store : Bool} {late r : ℕ} →
        store ≡ is_store i.kind →
        late ≡ entry (with_hit h i) ST →
        r ≡ cond store late 0 →
        r ≡ last_count (with_hit h i)
    unfolding last_count
    last_count_lem p q s = s ∙ rw (p, q)

    -- one cycle more than the count, which for a store that misses is the latency less 1
    pub last_cycles
        : AccessLawful i →
        {store missed : Bool} {taken r : ℕ} →
        store ≡ is_store i.kind →
        missed ≡ misses i.access →
        taken ≡ cond missed f.data_latency (h + 1) →
        r ≡ cond store taken 1 →
        r ≡ last_count (with_hit h i) + 1
    unfolding instruction_of
    last_cycles lawful p m t q = q ∙ rw (t, p, m) (cycles_more h i lawful (value (is_store i.kind)) (value (misses i.access)))
