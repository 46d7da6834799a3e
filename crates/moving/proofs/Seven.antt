-- Seven bits, each given by a test of its stage.
use mathlib.Core.Bool.{Bool, false}
use mathlib.Core.Path.{◌≡◌, refl, sym}
use Rattle.machine.specs.Rules.{Stage, pre, IF, ID, EX, MEM, ST, WB, post}
use Rattle.machine.proofs.Stages.{eight}
use Rattle.moving.specs.Inner.{Bits, bits_of, bit_of}

pub bits_are
    : (f : Stage → Bool) {a b c d e g h : Bool} →
    a ≡ f pre →
    b ≡ f IF →
    c ≡ f ID →
    d ≡ f EX →
    e ≡ f MEM →
    g ≡ f ST →
    h ≡ f WB →
    ◌≡◌ {A = Bits} (record { pre = a; IF = b; ID = c; EX = d; MEM = e; ST = g; WB = h }) (bits_of f)
bits_are f p q r s t u v = λ i. record { pre = p i; IF = q i; ID = r i; EX = s i; MEM = t i; ST = u i; WB = v i }

-- a test that nothing in post passes is kept by its seven bits
pub bits_kept : (f : Stage → Bool) → f post ≡ false → (k : Stage) → bit_of (bits_of f) k ≡ f k
bits_kept f e = eight (λ k. bit_of (bits_of f) k ≡ f k) refl refl refl refl refl refl refl (sym e)
