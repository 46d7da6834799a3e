-- What an instruction does, by its kind. The theory of the rules goes by these facts alone, so that a kind more is a line in each and no case in its
-- proofs.
use mathlib.Core.Bool.{Bool, true, false, not, cond}
use mathlib.Core.Path.{◌≡◌, refl, ap, ◌∙◌}
use Rattle.machine.specs.Instruction.{Kind, plain, load, store, branch, jump}
use Rattle.machine.specs.Rules.{Stage, pre, IF, ID, EX, MEM, ST, WB, post, next, same, is_load, is_store, holds_fetches}
use Rattle.machine.proofs.Stages.{eight}

-- of the three things that others wait for, an instruction does one or none: it holds fetches back, loads, or stores
pub data Does : Bool → Bool → Bool → Type 0 where
  holding : Does true false false
  loading : Does false true false
  storing : Does false false true
  nothing : Does false false false

pub does : (kind : Kind) → Does (holds_fetches kind) (is_load kind) (is_store kind)
does plain = nothing
does load = loading
does store = storing
does branch = holding
does jump = holding

-- the stage after another, by the lane: a store's, or that of any other kind
unfoldable pub next_in : Bool → Stage → Stage
next_in lane pre = IF
next_in lane IF = ID
next_in lane ID = EX
next_in lane EX = MEM
next_in lane MEM = cond lane ST WB
next_in lane ST = post
next_in lane WB = post
next_in lane post = post

pub next_in_lem : (kind : Kind) (k : Stage) → next kind k ≡ next_in (is_store kind) k
unfolding next_in
next_in_lem plain = eight (λ k. next plain k ≡ next_in false k) refl refl refl refl refl refl refl refl
next_in_lem load = eight (λ k. next load k ≡ next_in false k) refl refl refl refl refl refl refl refl
next_in_lem store = eight (λ k. next store k ≡ next_in true k) refl refl refl refl refl refl refl refl
next_in_lem branch = eight (λ k. next branch k ≡ next_in false k) refl refl refl refl refl refl refl refl
next_in_lem jump = eight (λ k. next jump k ≡ next_in false k) refl refl refl refl refl refl refl refl

-- what comes next in its lane, as tests
pub into : (kind : Kind) (k to : Stage) → same (next_in (is_store kind) k) to ≡ true → same (next kind k) to ≡ true
into kind k to e = ap (λ (t : Stage). same t to) (next_in_lem kind k) ∙ e

last_ST : (lane : Bool) → same (cond lane ST WB) ST ≡ lane
last_ST true = refl
last_ST false = refl

last_WB : (lane : Bool) → same (cond lane ST WB) WB ≡ not lane
last_WB true = refl
last_WB false = refl

pub into_ST : (kind : Kind) → same (next kind MEM) ST ≡ is_store kind
unfolding next_in
into_ST kind = ap (λ (t : Stage). same t ST) (next_in_lem kind MEM) ∙ last_ST (is_store kind)

pub into_WB : (kind : Kind) → same (next kind MEM) WB ≡ not (is_store kind)
unfolding next_in
into_WB kind = ap (λ (t : Stage). same t WB) (next_in_lem kind MEM) ∙ last_WB (is_store kind)
