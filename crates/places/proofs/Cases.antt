-- In each of its seven cases the code gives the place that the definition's tests choose: stated over plain variables.
use Prim.Native.Nat.{ℕ, ◌-◌, ◌≤◌, ◌<◌}
use mathlib.Core.Path.{◌≡◌}
use borrow.Author.Tests.{lt-ltb, le-ltb}
use Rattle.machine.specs.Instruction.{Instruction}
use Rattle.machine.specs.Rules.{Stage, pre, IF, ID, EX, MEM, post, next, entry, Place}
use Rattle.machine.proofs.Doing.{next_in, next_in_lem}
use Rattle.machine.proofs.Window.{Times, last_count, place_at}

abbrev at : Stage → ℕ → Place
at stage count = record { stage = stage; count = count }

module _ (i : Instruction) (e : Times) (t : ℕ) where
  abbrev place : Place
  place = place_at i e t

  pub in_pre_lem : t < e.IF → at pre 0 ≡ place
  unfolding place_at
  in_pre_lem h = rw (lt-ltb _ _ h)

  module _ (fetched : e.IF ≤ t) where
    pub in_IF_lem : t < e.ID → {n r : ℕ} → n ≡ entry i IF → r ≡ n - (t - e.IF) → at IF r ≡ place
    unfolding place_at
    in_IF_lem h p q = rw (q, p, le-ltb _ _ fetched, lt-ltb _ _ h)

    module _ (decoded : e.ID ≤ t) where
      pub in_ID_lem : t < e.EX → at ID 0 ≡ place
      unfolding place_at
      in_ID_lem h = rw (le-ltb _ _ fetched, le-ltb _ _ decoded, lt-ltb _ _ h)

      module _ (executed : e.EX ≤ t) where
        pub in_EX_lem : t < e.MEM → {r : ℕ} → r ≡ entry i EX - (t - e.EX) → at EX r ≡ place
        unfolding place_at
        in_EX_lem h q = rw (q, le-ltb _ _ fetched, le-ltb _ _ decoded, le-ltb _ _ executed, lt-ltb _ _ h)

        module _ (accessed : e.MEM ≤ t) where
          pub in_MEM_lem : t < e.last → {n r : ℕ} → n ≡ entry i MEM → r ≡ n - (t - e.MEM) → at MEM r ≡ place
          unfolding place_at
          in_MEM_lem h p q = rw (q, p, le-ltb _ _ fetched, le-ltb _ _ decoded, le-ltb _ _ executed, le-ltb _ _ accessed, lt-ltb _ _ h)

          module _ (ended : e.last ≤ t) where
            pub in_last
                : t < e.post →
                {stage : Stage} {n r : ℕ} →
                stage ≡ next i.kind MEM →
                n ≡ last_count i →
                r ≡ n - (t - e.last) →
                at stage r ≡ place
            unfolding place_at next_in
            in_last h l p q =
                rw (l, next_in_lem i.kind MEM, q, p, le-ltb _ _ fetched, le-ltb _ _ decoded, le-ltb _ _ executed, le-ltb _ _ accessed, le-ltb _ _ ended, lt-ltb _ _ h)

            pub in_post : e.post ≤ t → at post 0 ≡ place
            unfolding place_at
            in_post h =
                rw (le-ltb _ _ fetched, le-ltb _ _ decoded, le-ltb _ _ executed, le-ltb _ _ accessed, le-ltb _ _ ended, le-ltb _ _ h)
