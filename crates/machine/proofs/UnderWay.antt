-- At most one access is under way. An access is under way within an interval that the schedule gives, and of two instructions the younger one's
-- interval begins when the older one's has ended. The count is not needed: the intervals are apart with their cycles of count 0, too.
use Prim.Native.Nat.{ℕ, ◌≤◌, ◌<◌}
use mathlib.Core.Bool.{true, false, not}
use mathlib.Core.Path.{◌≡◌, refl, sym, ap, subst, ◌∙◌}
use native.Mathlib.Omega.{arith}
use lib.ListN.{length}
use Rattle.machine.specs.Instruction.{Flag, hit, miss, unknown, Trace, instruction}
use Rattle.machine.specs.Rules.{Stage, rank, after, is_load, is_store, hits, misses, misses_data}
use Rattle.machine.specs.Bus.{Access, fetch_access, data_access, UnderWay, fetch_in_IF, load_in_MEM, store_in_ST, store_in_MEM}
use Rattle.machine.specs.Claims.{OneUnderWay}
use Rattle.machine.proofs.Numbers.{Tri, less, equal, more, tri}
use Rattle.machine.proofs.Connectives.{and_both, or_l, or_r}
use Rattle.machine.proofs.Schedule.{Behaviour, enters, done, wait}
use Rattle.machine.proofs.Levels.{rank_stage}
use Rattle.machine.proofs.Standing.{Stands, level_at, stands, standing, scheduled, enters_before}
use Rattle.machine.proofs.Hazards.{goal, load_goal, store_goal, waits_for}
use Rattle.machine.proofs.Derivation.{waits_for_lem, behaviour}
use Rattle.machine.proofs.Dominance.{share_early}
use Rattle.machine.proofs.StageTimes.{at_post, load_enters_WB}
use Rattle.machine.proofs.Bridge.{bridge}

missed_not_hit : (f : Flag) → misses f ≡ true → hits f ≡ false
missed_not_hit hit e = sym e
missed_not_hit miss e = refl
missed_not_hit unknown e = refl

module _ (trace : Trace) (t : ℕ) where
  abbrev b : Behaviour
  b = behaviour trace

  -- an access of instruction k within its interval: from the stage in which it begins to the time by which it is over
  data Within (k : ℕ) : Access → Type 0 where
    fetching : misses (instruction trace k).fetch ≡ true → enters b k 1 ≤ t → t < enters b k 2 → Within k fetch_access
    loading : is_load (instruction trace k).kind ≡ true → misses (instruction trace k).access ≡ true → enters b k 4 ≤ t → t < enters b k 5 → Within k data_access
    storing : is_store (instruction trace k).kind ≡ true → misses (instruction trace k).access ≡ true → enters b k 4 ≤ t → t < enters b k 6 → Within k data_access

  stands_in : (k : ℕ) → k < length trace → {s : Stage} → (after trace t k).stage ≡ s → Stands b t k (rank s)
  unfolding scheduled standing
  stands_in k l {s} e =
      let st = stands b t k in
      subst (Stands b t k)
      (sym (rank_stage (b.lane k) (level_at (enters b k) t) st.level) ∙ ap (λ p. rank p.stage) (sym (bridge trace t k l)) ∙ ap rank e)
      st

  within : (k : ℕ) → k < length trace → {a : Access} → UnderWay (instruction trace k) (after trace t k) a → Within k a
  unfolding done
  within k l (fetch_in_IF m e c) =
      let st = stands_in k l e in
      fetching m st.entered (st.stays (omega arith))
  within k l (load_in_MEM o m e c) =
      let st = stands_in k l e in
      loading o m st.entered (st.stays (omega arith))
  within k l (store_in_ST o m e c) =
      let st = stands_in k l e in
      storing o m (omega (arith, st.entered, enters_before b k 4 5 (omega arith))) (st.stays (omega arith))
  within k l (store_in_MEM o m e) =
      let st = stands_in k l e in
      storing o m st.entered (omega (arith, st.stays (omega arith), enters_before b k 5 6 (omega arith)))

  begun : {k : ℕ} {a : Access} → Within k a → enters b k 1 ≤ t
  unfolding done
  begun (fetching m s e) = s
  begun {k} (loading o m s e) = omega (arith, s, enters_before b k 1 4 (omega arith))
  begun {k} (storing o m s e) = omega (arith, s, enters_before b k 1 4 (omega arith))

  -- a missed fetch of i waits in pre for an older load or store
  fetch_waits : (i j : ℕ) → j < i → misses (instruction trace i).fetch ≡ true → {to : Stage} → goal (instruction trace j).kind ≡ to → done b j (rank to) ≤ enters b i 1
  unfolding behaviour waits_for
  fetch_waits i j l m g =
      subst (λ (s : ℕ). done b j s ≤ enters b i 1)
      (waits_for_lem 0 (instruction trace i) (instruction trace j) (or_r _ _ (ap not (missed_not_hit (instruction trace i).fetch m))) g)
      (wait b i j 0 l)

  -- a missed data access of i waits in EX for an older store
  data_waits : (i j : ℕ) → j < i → misses_data (instruction trace i) ≡ true → is_store (instruction trace j).kind ≡ true → done b j 5 ≤ enters b i 4
  unfolding behaviour waits_for
  data_waits i j l m o =
      subst (λ (s : ℕ). done b j s ≤ enters b i 4)
      (waits_for_lem 3 (instruction trace i) (instruction trace j) (or_l _ _ (and_both _ _ o m)) (store_goal (instruction trace j).kind o))
      (wait b i j 3 l)

  apart : (i j : ℕ) → j < i → {a c : Access} → Within j a → Within i c → ⊥
  unfolding misses_data
  apart i j l (fetching m s e) w = omega (arith, e, share_early b i j 1 l (omega arith) (omega arith), begun w)
  apart i j l (loading o m s e) (fetching n u f) = omega (arith, e, u, load_enters_WB trace j o, fetch_waits i j l n (load_goal (instruction trace j).kind o))
  apart i j l (storing o m s e) (fetching n u f) = omega (arith, e, u, at_post trace j, fetch_waits i j l n (store_goal (instruction trace j).kind o))
  apart i j l (loading o m s e) (loading p n u f) = omega (arith, e, u, share_early b i j 4 l (omega arith) (omega arith))
  apart i j l (loading o m s e) (storing p n u f) = omega (arith, e, u, share_early b i j 4 l (omega arith) (omega arith))
  apart i j l (storing o m s e) (loading p n u f) = omega (arith, e, u, at_post trace j, data_waits i j l (and_both _ _ (or_l _ _ p) n) o)
  apart i j l (storing o m s e) (storing p n u f) = omega (arith, e, u, at_post trace j, data_waits i j l (and_both _ _ (or_r _ _ p) n) o)

  -- an instruction is in one stage at a time
  own_apart : (k : ℕ) {a c : Access} → Within k a → Within k c → a ≡ c
  unfolding done
  own_apart k (fetching m s e) (fetching n u f) = refl
  own_apart k (fetching m s e) (loading p n u f) = absurd (omega (arith, e, u, enters_before b k 2 4 (omega arith)))
  own_apart k (fetching m s e) (storing p n u f) = absurd (omega (arith, e, u, enters_before b k 2 4 (omega arith)))
  own_apart k (loading o m s e) (fetching n u f) = absurd (omega (arith, s, f, enters_before b k 2 4 (omega arith)))
  own_apart k (storing o m s e) (fetching n u f) = absurd (omega (arith, s, f, enters_before b k 2 4 (omega arith)))
  own_apart k (loading o m s e) (loading p n u f) = refl
  own_apart k (loading o m s e) (storing p n u f) = refl
  own_apart k (storing o m s e) (loading p n u f) = refl
  own_apart k (storing o m s e) (storing p n u f) = refl

  only_one : (i j : ℕ) {a c : Access} → Within i a → Within j c → (i ≡ j) × (a ≡ c)
  only_one i j {a} {c} v w = pick (tri i j)
    where
      pick : Tri i j → (i ≡ j) × (a ≡ c)
      pick (less l) = absurd (apart j i l v w)
      pick (equal e) = (e, own_apart j (subst (λ (k : ℕ). Within k a) e v) w)
      pick (more l) = absurd (apart i j l w v)

pub one_under_way : OneUnderWay
one_under_way trace t i j a c l m v w = only_one trace t i j (within trace t i l v) (within trace t j m w)
