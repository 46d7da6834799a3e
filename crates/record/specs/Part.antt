-- A part of a lent slice is a place and a length, not only bytes: two parts with equal bytes are two parts.
use Rattle.std.specs.Prelude.{ℕ, ◌+◌, List, ◌≡◌}
use Rattle.std.specs.Borrow.{Bor}

-- the part lies in the memory of the whole, from this byte of it on. A pointer is a block of memory and a place in that block.
abbrev pub StartsAt : Bor (List ℕ) → ℕ → Bor (List ℕ) → Type 0
StartsAt whole start part = (part.ref_ptr.0 ≡ whole.ref_ptr.0) × (part.ref_ptr.1 ≡ whole.ref_ptr.1 + start)
