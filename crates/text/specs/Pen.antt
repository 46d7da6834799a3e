-- A pen on a lent output: what room it has, and what it has written.
use Rattle.std.specs.Prelude.{ℕ, ◌+◌, ◌≤◌, ◌≡◌, List, length}
use Rattle.text.specs.Text.{Wrote}
use Rattle.text.specs.declared.pen.Pen.{Pen}

-- the output has room for so many more bytes
abbrev pub Room : ℕ → Pen → Type 0
Room n pen = pen.at + n ≤ length pen.out.now

-- a method has put the text where the pen stood, in the same output, which keeps its length, and the pen stands where the text ends
pub record Adds (text : List ℕ) (before afterwards : Pen) : Type 0 where
  pub same_output : afterwards.out.ghost_name ≡ before.out.ghost_name
  pub same_length : length afterwards.out.now ≡ length before.out.now
  pub wrote : Wrote before.at text before.out.now afterwards.out.now afterwards.at
