-- What a pen adds: nothing, one text after another, an equal text; and what it has left in the lent output that it began on.
use Prim.Native.Nat.{ℕ, ◌-◌}
use mathlib.Core.List.{List, [], ◌++◌}
use mathlib.Core.Path.{◌≡◌, refl, ap, subst, ◌∙◌}
use native.Mathlib.Omega.{arith}
use lib.ListN.{length}
use Rattle.text.specs.Text.{Wrote, spaces, right}
use Rattle.text.specs.Pen.{Room, Adds}
use Rattle.text.specs.declared.pen.Pen.{Pen}
use Rattle.text.proofs.Pieces.{length_put, wrote_nothing, wrote_then, as_text}
use Rattle.text.proofs.Right.{wrote_right}

-- what a method has put leaves the output as long as it was
pub adds_put :
    {text : List ℕ} {before afterwards : Pen} →
    afterwards.out.ghost_name ≡ before.out.ghost_name →
    Wrote before.at text before.out.now afterwards.out.now afterwards.at →
    Adds text before afterwards
adds_put {text} {before} same (end, put, fits) =
    record {
      same_output = same;
      same_length = ap (λ (o : List ℕ). length o) put ∙ length_put before.at text before.out.now (omega arith);
      wrote = (end, put, fits);
    }

pub adds_nothing : (pen : Pen) → Room 0 pen → Adds [] pen pen
adds_nothing pen room = record { same_output = refl; same_length = refl; wrote = wrote_nothing pen.at pen.out.now (omega arith) }

pub adds_then : {a b : List ℕ} {before between afterwards : Pen} → Adds a before between → Adds b between afterwards → Adds (a ++ b) before afterwards
adds_then {a} {b} {before} h k =
    record {
      same_output = k.same_output ∙ h.same_output;
      same_length = k.same_length ∙ h.same_length;
      wrote = wrote_then before.at a b before.out.now h.wrote k.wrote;
    }

-- what was added, given as an equal text
pub adds_as : {a b : List ℕ} {before afterwards : Pen} → a ≡ b → Adds a before afterwards → Adds b before afterwards
adds_as {before = before} {afterwards = afterwards} e h = record { same_output = h.same_output; same_length = h.same_length; wrote = as_text before.at before.out.now e h.wrote }

pub adds_right :
    (width taken : ℕ) (text : List ℕ) {before between afterwards : Pen} →
    taken ≡ length text →
    Adds (spaces (width - taken)) before between →
    Adds text between afterwards →
    Adds (right width text) before afterwards
adds_right width taken text {before} e h k =
    record {
      same_output = k.same_output ∙ h.same_output;
      same_length = k.same_length ∙ h.same_length;
      wrote = wrote_right before.at width taken text before.out.now e h.wrote k.wrote;
    }

-- what a pen has left of a lent output, at whose start it began
pub adds_whole :
    (text out : List ℕ) {start afterwards : Pen} →
    (start.at ≡ 0) × (start.out.now ≡ out) →
    Adds text start afterwards →
    Wrote 0 text out afterwards.out.now afterwards.at
adds_whole text out {start} {afterwards} (at, now) h =
    subst (λ (k : ℕ). Wrote k text out afterwards.out.now afterwards.at) at
    (subst (λ (o : List ℕ). Wrote start.at text o afterwards.out.now afterwards.at) now h.wrote)
