-- A part that is cut out of a file is its bytes from the same start, as many as the part is long.
use Prim.Native.Nat.{ℕ, zero, suc, ◌-◌}
use mathlib.Core.List.{List, [], ◌∷◌}
use mathlib.Core.Path.{◌≡◌, refl, ap}
use lib.Dec.{leb}
use lib.ListN.{length, take, drop}
use Rattle.machine.proofs.Connectives.{Value, passed, failed, value}
use Rattle.job.specs.Open.{part_of}

taken : (n : ℕ) (l : List ℕ) → take (length (take n l)) l ≡ take n l
taken zero l = refl
taken (suc n) [] = refl
taken (suc n) (x ∷ l) = ap (λ (t : List ℕ). x ∷ t) (taken n l)

by_room : (file : List ℕ) (start end : ℕ) → Value (leb end (length file)) → take (length (part_of file start end)) (drop start file) ≡ part_of file start end
unfolding part_of
by_room file start end (passed e) = rw e (taken (end - start) (drop start file))
by_room file start end (failed e) = rw e

pub part_taken : (file : List ℕ) (start end : ℕ) → take (length (part_of file start end)) (drop start file) ≡ part_of file start end
part_taken file start end = by_room file start end (value (leb end (length file)))
