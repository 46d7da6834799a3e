-- Where an instruction that is fetched and has not left is put into a slot, it is added to the state; one that has left changes nothing.
use Prim.Native.Nat.{ℕ, suc, ◌+◌, ◌-◌, ◌≤◌, ◌<◌}
use mathlib.Core.Bool.{Bool, true, false, cond}
use mathlib.Core.Logic.{◌⊎◌, inl, inr}
use mathlib.Core.Path.{◌≡◌, refl, ap, ◌∙◌}
use native.Mathlib.Numerals.{add-one}
use native.Mathlib.Omega.{arith}
use borrow.Author.Tests.{lt-ltb, le-ltb}
use lib.Dec.{ltb}
use Rattle.machine.specs.Instruction.{Instruction}
use Rattle.machine.specs.Named.{stage_named}
use Rattle.machine.specs.Rules.{IF, ID, EX, MEM, ST, WB, post, Place, is_store, entry}
use Rattle.machine.specs.declared.Slot.{Slot}
use Rattle.machine.specs.declared.State.{State}
use Rattle.machine.specs.declared.stage.Stage.{Stage as StageName}
use Rattle.machine.specs.declared.stage.Stage.TheVariants as stage
use Rattle.machine.proofs.Stages.{inside}
use Rattle.machine.proofs.Connectives.{clash}
use Rattle.machine.proofs.Window.{Times, last_count, place_at}
use Rattle.places.specs.Inner.{place_named}
use Rattle.places.specs.declared.places.Place as Code
use Rattle.places.proofs.Cases.{in_post}
use Rattle.seats.specs.Inner.{fetched_with, slot_with, state_with, with_fetched, Seated}

-- no time is later than that of leaving
pub record Rising (e : Times) : Type 0 where
  pub IF : e.IF ≤ e.post
  pub ID : e.ID ≤ e.post
  pub EX : e.EX ≤ e.post
  pub MEM : e.MEM ≤ e.post
  pub last : e.last ≤ e.post

slots : (a b c d store : Bool) (k l m n : ℕ) →
    inside
    (cond {A = Place} a
    (record { stage = IF; count = k })
    (cond b
    (record { stage = ID; count = 0 })
    (cond c
    (record { stage = EX; count = l })
    (cond d (record { stage = MEM; count = m }) (record { stage = cond store ST WB; count = n }))))).stage
    ≡ true
slots true b c d store k l m n = refl
slots false true c d store k l m n = refl
slots false false true d store k l m n = refl
slots false false false true store k l m n = refl
slots false false false false true k l m n = refl
slots false false false false false k l m n = refl

-- an instruction that is fetched and has not left is in a slot
within : (i : Instruction) (e : Times) (t : ℕ) → e.IF ≤ t → t < e.post → inside (place_at i e t).stage ≡ true
unfolding place_at
within i e t fetched h =
    rw (le-ltb _ _ fetched, lt-ltb _ _ h)
    (slots (ltb t e.ID) (ltb t e.EX) (ltb t e.MEM) (ltb t e.last) (is_store i.kind)
    (entry i IF - (t - e.IF))
    (entry i EX - (t - e.EX))
    (entry i MEM - (t - e.MEM))
    (last_count i - (t - e.last)))

-- a state with another slot at a stage
abbrev pub put : StageName → Slot → State → State
put stage.Pre x s = s
put stage.IF x s = record { fetched = s.fetched; IF = x; ID = s.ID; EX = s.EX; MEM = s.MEM; ST = s.ST; WB = s.WB }
put stage.ID x s = record { fetched = s.fetched; IF = s.IF; ID = x; EX = s.EX; MEM = s.MEM; ST = s.ST; WB = s.WB }
put stage.EX x s = record { fetched = s.fetched; IF = s.IF; ID = s.ID; EX = x; MEM = s.MEM; ST = s.ST; WB = s.WB }
put stage.MEM x s = record { fetched = s.fetched; IF = s.IF; ID = s.ID; EX = s.EX; MEM = x; ST = s.ST; WB = s.WB }
put stage.ST x s = record { fetched = s.fetched; IF = s.IF; ID = s.ID; EX = s.EX; MEM = s.MEM; ST = x; WB = s.WB }
put stage.WB x s = record { fetched = s.fetched; IF = s.IF; ID = s.ID; EX = s.EX; MEM = s.MEM; ST = s.ST; WB = x }
put stage.Post x s = s

module _ (k : ℕ) (s : State) where
  grown : (at : StageName) (count : ℕ) →
      inside (stage_named at) ≡ true →
      with_fetched (suc k) (put at (record { filled = true; index = k; count = count }) s)
      ≡ state_with (record { stage = stage_named at; count = count }) k (with_fetched k s)
  unfolding state_with fetched_with slot_with
  grown stage.Pre count h = clash h refl
  grown stage.IF count h = refl
  grown stage.ID count h = refl
  grown stage.EX count h = refl
  grown stage.MEM count h = refl
  grown stage.ST count h = refl
  grown stage.WB count h = refl
  grown stage.Post count h = clash h refl

  gone : with_fetched (suc k) s ≡ state_with (record { stage = post; count = 0 }) k (with_fetched k s)
  unfolding state_with fetched_with slot_with
  gone = refl

  module _ (i : Instruction) (e : Times) (t : ℕ) where
    abbrev place : Place
    place = place_at i e t

    pub seat_post : Rising e → e.IF ≤ t → e.post ≤ t → Seated s (k + 1) (state_with place k (with_fetched k s))
    seat_post r fetched h =
        let left = in_post i e t fetched (omega (arith, r.ID)) (omega (arith, r.EX)) (omega (arith, r.MEM)) (omega (arith, r.last)) h in
        record { state = rw (add-one k) (gone ∙ ap (λ (p : Place). state_with p k (with_fetched k s)) left) }

    pub seat_slot
        : e.IF ≤ t →
        t < e.post →
        (p : Code.Place) →
        place_named p ≡ place →
        {at : StageName} {slot : Slot} →
        p.stage ≡ at →
        slot ≡ record { filled = true; index = k; count = p.count } →
        Seated (put at slot s) (k + 1) (state_with place k (with_fetched k s))
    seat_slot fetched h p q at x =
        record { state = rw (add-one k, ← at, x, ← q) (grown p.stage p.count (ap (λ (p : Place). inside p.stage) q ∙ within i e t fetched h)) }

    -- it is neither in pre nor in post
    pub seat_none
        : e.IF ≤ t →
        t < e.post →
        (p : Code.Place) →
        place_named p ≡ place →
        (p.stage ≡ stage.Pre) ⊎ (p.stage ≡ stage.Post) →
        Seated s (k + 1) (state_with place k (with_fetched k s))
    seat_none fetched h p q (inl at) = seat_slot fetched h p q at refl
    seat_none fetched h p q (inr at) = seat_slot fetched h p q at refl
