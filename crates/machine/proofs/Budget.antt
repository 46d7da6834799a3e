-- The budget of "moves" and "will be free" never decides: a stage's budget is two more than the next one's, so that each call leaves to the one it
-- makes what that needs. And from post backwards the two sentences leave no choice, so any tests that keep them are these.
use Prim.Native.Nat.{ℕ, zero, suc, ◌+◌, ◌≤◌, ◌<◌}
use mathlib.Core.Bool.{Bool, true, false, not}
use mathlib.Core.Path.{◌≡◌, refl, sym, ap, ◌∙◌}
use native.Mathlib.Omega.{arith}
use lib.Dec.{eqb}
use lib.ListN.{length}
use Rattle.machine.specs.Test.{◌and◌, ◌or◌, every}
use Rattle.machine.specs.Instruction.{Kind, Trace, instruction}
use Rattle.machine.specs.Rules.{Stage, pre, IF, ID, EX, MEM, ST, WB, post, next, rank, same, is_store, Places, ready, budget, moves_within, will_be_free_within, moves, will_be_free}
use Rattle.machine.specs.Claims.{KeepsSentences, BudgetNeverDecides, SentencesDecide}
use Rattle.machine.proofs.Connectives.{Value, passed, failed, value, clash, and_failed_l, and_left, or_l, not_passes, every_same}
use Rattle.machine.proofs.Stages.{same_stage, eight}
use Rattle.machine.proofs.Doing.{next_in, next_in_lem}

before_post : (s : Stage) → same s post ≡ false → rank s < 6
before_post =
    eight (λ s. same s post ≡ false → rank s < 6)
    (λ h. omega arith)
    (λ h. omega arith)
    (λ h. omega arith)
    (λ h. omega arith)
    (λ h. omega arith)
    (λ h. omega arith)
    (λ h. omega arith)
    (λ h. clash refl h)

rank_along : (lane : Bool) (s : Stage) → same s post ≡ false → rank (next_in lane s) ≡ suc (rank s)
unfolding next_in
rank_along lane pre h = refl
rank_along lane IF h = refl
rank_along lane ID h = refl
rank_along lane EX h = refl
rank_along true MEM h = refl
rank_along false MEM h = refl
rank_along lane ST h = refl
rank_along lane WB h = refl
rank_along lane post h = clash refl h

rank_next : (kind : Kind) (s : Stage) → same s post ≡ false → rank (next kind s) ≡ suc (rank s)
rank_next kind s h = ap rank (next_in_lem kind s) ∙ rank_along (is_store kind) s h

pub budget_next : (kind : Kind) (s : Stage) → same s post ≡ false → budget s ≡ suc (suc (budget (next kind s)))
unfolding budget
budget_next kind s h = let r = rank_next kind s h in let l = before_post s h in omega arith

-- whether all that stand in a stage move depends on these alone
occupants_alike :
    (places : Places) (s : Stage) (m m' : ℕ → Bool) →
    ((j : ℕ) → (places j).stage ≡ s → m j ≡ m' j) →
    (n : ℕ) →
    every (λ j. not (same (places j).stage s) or m j) n ≡ every (λ j. not (same (places j).stage s) or m' j) n
occupants_alike places s m m' h n = every_same _ _ n (λ j l. pick j (value (same (places j).stage s)))
  where
    pick : (j : ℕ) → Value (same (places j).stage s) → not (same (places j).stage s) or m j ≡ not (same (places j).stage s) or m' j
    pick j (passed e) = ap (λ (t : Bool). not (same (places j).stage s) or t) (h j (same_stage (places j).stage s e))
    pick j (failed e) = or_l _ _ (not_passes _ e) ∙ sym (or_l _ _ (not_passes _ e))

module _ (trace : Trace) (places : Places) where
  -- what the first sentence says, with any test of stages
  says : (Stage → Bool) → ℕ → Bool
  says free i =
      not (same (places i).stage post)
      and eqb (places i).count 0
      and ready trace places i
      and free (next (instruction trace i).kind (places i).stage)

  in_post : (free : Stage → Bool) (i : ℕ) → same (places i).stage post ≡ true → says free i ≡ false
  unfolding says
  in_post free i e = and_failed_l _ _ (and_failed_l _ _ (and_failed_l _ _ (ap not e)))

  moves_said : (i : ℕ) → Value (same (places i).stage post) → moves trace places i ≡ says (will_be_free trace places) i
  unfolding says moves will_be_free moves_within budget
  moves_said i (passed e) =
      ap (λ (s : Stage). moves_within (budget s) trace places i) (same_stage (places i).stage post e)
      ∙ sym (in_post (will_be_free trace places) i e)
  moves_said i (failed e) =
      ap (λ (b : ℕ). moves_within b trace places i) (budget_next (instruction trace i).kind (places i).stage e)
      ∙ ap
      (λ (t : Bool). t and ready trace places i and will_be_free trace places (next (instruction trace i).kind (places i).stage))
      (sym (and_left (not (same (places i).stage post)) (eqb (places i).count 0) (not_passes _ e)))

  free_said :
      (s : Stage) →
      will_be_free trace places s ≡ (same s post or every (λ j. not (same (places j).stage s) or moves trace places j) (length trace))
  unfolding moves will_be_free will_be_free_within
  free_said s =
      ap (λ (t : Bool). same s post or t)
      (occupants_alike places s (moves_within (budget s) trace places) (moves trace places)
      (λ j e. ap (λ (s : Stage). moves_within (budget s) trace places j) (sym e))
      (length trace))

  module _ {m m' : ℕ → Bool} {f f' : Stage → Bool} (k : KeepsSentences trace places m f) (k' : KeepsSentences trace places m' f') where
    free_alike : (s : Stage) → ((j : ℕ) → (places j).stage ≡ s → m j ≡ m' j) → f s ≡ f' s
    free_alike s h =
        k.freeing s ∙ ap (λ (t : Bool). same s post or t) (occupants_alike places s m m' h (length trace)) ∙ sym (k'.freeing s)

    moves_alike : (i : ℕ) → Value (same (places i).stage post) →
        (same (places i).stage post ≡ false → f (next (instruction trace i).kind (places i).stage) ≡ f' (next (instruction trace i).kind (places i).stage)) →
        m i ≡ m' i
    unfolding says
    moves_alike i (passed e) h = k.moving i ∙ in_post f i e ∙ sym (in_post f' i e) ∙ sym (k'.moving i)
    moves_alike i (failed e) h =
        k.moving i
        ∙ ap (λ (t : Bool). not (same (places i).stage post) and eqb (places i).count 0 and ready trace places i and t) (h e)
        ∙ sym (k'.moving i)

    -- at most d stages from post
    alike_from : (d i : ℕ) → 6 ≤ rank (places i).stage + d → m i ≡ m' i
    alike_from zero i r = moves_alike i (value (same (places i).stage post)) (λ e. let l = before_post (places i).stage e in absurd (omega arith))
    alike_from (suc d) i r =
        moves_alike i (value (same (places i).stage post))
        (λ e.
        let to = next (instruction trace i).kind (places i).stage in
        let n = rank_next (instruction trace i).kind (places i).stage e in
        free_alike to (λ j p. alike_from d j (let q = ap rank p in omega arith)))

pub budget_never_decides : BudgetNeverDecides
unfolding says
budget_never_decides trace places =
    record {
      moving = λ i. moves_said trace places i (value (same (places i).stage post));
      freeing = free_said trace places;
    }

pub sentences_decide : SentencesDecide
sentences_decide trace places moving free k = (alike, λ s. free_alike trace places k kept s (λ j p. alike j))
  where
    kept : KeepsSentences trace places (moves trace places) (will_be_free trace places)
    kept = budget_never_decides trace places

    alike : (i : ℕ) → moving i ≡ moves trace places i
    alike i = alike_from trace places k kept 6 i (omega arith)
