-- Whom an instruction waits for, in which stage and until when: the rules' conditions on older instructions, joined into one test of each older
-- instruction. The schedule and the cycle by slots both rest on this.
use Prim.Native.Nat.{ℕ}
use mathlib.Core.Bool.{Bool, true, false, not, cond, false≢true}
use mathlib.Core.Path.{◌≡◌, refl, sym, ap₂, ◌∙◌}
use Rattle.machine.specs.Test.{◌and◌, ◌or◌, none}
use Rattle.machine.specs.Instruction.{Kind, Instruction, Trace, instruction}
use Rattle.machine.specs.Rules.{Stage, pre, IF, ID, EX, MEM, ST, WB, post, same, Place, Places, short_of, is_load, is_store, holds_fetches, hits, no_older, reads_in_ID, reads_in_EX, misses_data, access_ready, ready_in}
use Rattle.machine.proofs.Connectives.{and_true, and_false, or_false, none_either, none_unless, none_same, none_false, not_or_none}
use Rattle.machine.proofs.Doing.{Does, holding, loading, storing, nothing, does}

-- The stage that an instruction has to reach with count 0 before those that wait for it go on; nobody waits for one whose goal is pre.
abbrev pub goal_of : Bool → Bool → Bool → Stage
goal_of holds loads stores = cond loads MEM (cond stores ST (cond holds EX pre))

unfoldable pub goal : Kind → Stage
goal kind = goal_of (holds_fetches kind) (is_load kind) (is_store kind)

goal_of_lem : {h l s : Bool} → Does h l s → (h ≡ true → goal_of h l s ≡ EX) × (s ≡ true → goal_of h l s ≡ ST)
goal_of_lem holding = (λ e. refl, λ e. absurd (false≢true e))
goal_of_lem loading = (λ e. absurd (false≢true e), λ e. absurd (false≢true e))
goal_of_lem storing = (λ e. absurd (false≢true e), λ e. refl)
goal_of_lem nothing = (λ e. absurd (false≢true e), λ e. absurd (false≢true e))

pub load_goal : (kind : Kind) → is_load kind ≡ true → goal kind ≡ MEM
unfolding goal
load_goal kind e = rw e

pub store_goal : (kind : Kind) → is_store kind ≡ true → goal kind ≡ ST
unfolding goal
store_goal kind e = (goal_of_lem (does kind)).1 e

pub holder_goal : (kind : Kind) → holds_fetches kind ≡ true → goal kind ≡ EX
unfolding goal
holder_goal kind e = (goal_of_lem (does kind)).0 e

pub no_goal : (kind : Kind) → is_load kind ≡ false → is_store kind ≡ false → holds_fetches kind ≡ false → goal kind ≡ pre
unfolding goal
no_goal kind l s h = rw (l, s, h)

-- an instruction at this place is short of the goal
abbrev pub pending_to : Stage → Place → Bool
pending_to to p = not (same to pre) and short_of p to 0

unfoldable pub pending : Kind → Place → Bool
pending kind p = pending_to (goal kind) p

-- in this stage the first instruction waits for the second, if the second is older and pending
unfoldable pub waits_for : Stage → Instruction → Instruction → Bool
waits_for pre i j = holds_fetches j.kind or not (hits i.fetch)
waits_for IF i j = false
waits_for ID i j = is_load j.kind and reads_in_ID i j.target
waits_for EX i j = (is_store j.kind and misses_data i) or (is_load j.kind and reads_in_EX i j.target)
waits_for MEM i j = false
waits_for ST i j = false
waits_for WB i j = false
waits_for post i j = false

-- Whom a cycle has to ask about: all of these, but for the load of a store's value, which never decides (`value_never_decides`).
unfoldable pub asks_for : Stage → Instruction → Instruction → Bool
asks_for pre i j = waits_for pre i j
asks_for IF i j = waits_for IF i j
asks_for ID i j = waits_for ID i j
asks_for EX i j = is_store j.kind and misses_data i
asks_for MEM i j = waits_for MEM i j
asks_for ST i j = waits_for ST i j
asks_for WB i j = waits_for WB i j
asks_for post i j = waits_for post i j

-- in pre it also waits for older ones to leave pre
unfoldable pub queues : Stage → Place → Bool
queues pre p = same p.stage pre
queues IF p = false
queues ID p = false
queues EX p = false
queues MEM p = false
queues ST p = false
queues WB p = false
queues post p = false

-- the second instruction, an older one at this place, holds the first back in this stage
abbrev pub holds : Stage → Instruction → Instruction → Place → Bool
holds k i j p = pending j.kind p and waits_for k i j

-- the same, as far as a cycle has to ask
abbrev pub detains : Stage → Instruction → Instruction → Place → Bool
detains k i j p = pending j.kind p and asks_for k i j

-- Each rule, for an older instruction.
in_pre_lem :
    {h l s : Bool} → Does h l s → (p : Place) (hit x : Bool) →
    x or (h and short_of p EX 0) or (not hit and (l and short_of p MEM 0 or s and short_of p ST 0)) ≡ x or (pending_to (goal_of h l s) p and (h or not hit))
unfolding ◌and◌ ◌or◌
in_pre_lem d p hit true = refl
in_pre_lem nothing p true false = refl
in_pre_lem nothing p false false = refl
in_pre_lem loading p true false = sym (and_false (short_of p MEM 0))
in_pre_lem loading p false false = or_false (short_of p MEM 0) ∙ sym (and_true (short_of p MEM 0))
in_pre_lem storing p true false = sym (and_false (short_of p ST 0))
in_pre_lem storing p false false = sym (and_true (short_of p ST 0))
in_pre_lem holding p true false = or_false (short_of p EX 0) ∙ sym (and_true (short_of p EX 0))
in_pre_lem holding p false false = or_false (short_of p EX 0) ∙ sym (and_true (short_of p EX 0))

in_ID_lem : {h l s : Bool} → Does h l s → (p : Place) (read : Bool) → l and short_of p MEM 0 and read ≡ pending_to (goal_of h l s) p and (l and read)
unfolding ◌and◌
in_ID_lem nothing p read = refl
in_ID_lem loading p read = refl
in_ID_lem storing p read = sym (and_false (short_of p ST 0))
in_ID_lem holding p read = sym (and_false (short_of p EX 0))

in_EX_lem : {h l s : Bool} → Does h l s → (p : Place) (misses : Bool) → misses and (s and short_of p ST 0) ≡ pending_to (goal_of h l s) p and (s and misses)
unfolding ◌and◌
in_EX_lem nothing p true = refl
in_EX_lem nothing p false = refl
in_EX_lem loading p true = sym (and_false (short_of p MEM 0))
in_EX_lem loading p false = sym (and_false (short_of p MEM 0))
in_EX_lem storing p true = sym (and_true (short_of p ST 0))
in_EX_lem storing p false = sym (and_false (short_of p ST 0))
in_EX_lem holding p true = sym (and_false (short_of p EX 0))
in_EX_lem holding p false = sym (and_false (short_of p EX 0))

either_pending : (a b c : Bool) → (a and b) or (a and c) ≡ a and (b or c)
unfolding ◌and◌ ◌or◌
either_pending true b c = refl
either_pending false b c = refl

gather : (h : Bool) (a c l s : ℕ → Bool) (n : ℕ) →
    none a n and none c n and (h or (none l n and none s n)) ≡ none (λ k. a k or c k or (not h and (l k or s k))) n
gather h a c l s n =
    rw (none_either a c n, none_either l s n, none_unless h (λ k. l k or s k) n)
    (none_either (λ k. a k or c k) (λ k. not h and (l k or s k)) n)

module _ (trace : Trace) (places : Places) (i : ℕ) where
  abbrev kind : ℕ → Kind
  kind j = (instruction trace j).kind

  -- ready is one test of each older instruction
  abbrev pub none_holds : Stage → Bool
  none_holds k = none (λ j. queues k (places j) or holds k (instruction trace i) (instruction trace j) (places j)) i

  never : (waits : ℕ → Bool) → true ≡ none (λ j. false or (waits j and false)) i
  unfolding ◌or◌
  never waits = sym (none_same _ _ i (λ j l. and_false (waits j)) ∙ none_false i)

  access_asked : access_ready trace places i ≡ none (λ j. detains EX (instruction trace i) (instruction trace j) (places j)) i
  unfolding no_older asks_for pending goal
  access_asked = not_or_none _ _ i ∙ none_same _ _ i (λ j l. in_EX_lem (does (kind j)) (places j) _)

  pub ready_holds : (k : Stage) → ready_in k trace places i ≡ none_holds k
  unfolding ready_in no_older waits_for asks_for queues pending goal ◌or◌
  ready_holds pre =
      gather (hits (instruction trace i).fetch)
      (λ j. same (places j).stage pre)
      (λ j. holds_fetches (kind j) and short_of (places j) EX 0)
      (λ j. is_load (kind j) and short_of (places j) MEM 0)
      (λ j. is_store (kind j) and short_of (places j) ST 0)
      i
      ∙ none_same _ _ i (λ j l. in_pre_lem (does (kind j)) (places j) (hits (instruction trace i).fetch) (same (places j).stage pre))
  ready_holds IF = never _
  ready_holds ID = none_same _ _ i (λ j l. in_ID_lem (does (kind j)) (places j) _)
  ready_holds EX =
      ap₂ ◌and◌ access_asked (none_same _ _ i (λ j l. in_ID_lem (does (kind j)) (places j) _))
      ∙ none_either _ _ i
      ∙ none_same _ _ i (λ j l. either_pending (pending (kind j) (places j)) _ _)
  ready_holds MEM = never _
  ready_holds ST = never _
  ready_holds WB = never _
  ready_holds post = never _

  -- ready, as far as a cycle has to ask
  unfoldable pub ready_asked : Stage → Bool
  ready_asked pre = ready_in pre trace places i
  ready_asked IF = ready_in IF trace places i
  ready_asked ID = ready_in ID trace places i
  ready_asked EX = access_ready trace places i
  ready_asked MEM = ready_in MEM trace places i
  ready_asked ST = ready_in ST trace places i
  ready_asked WB = ready_in WB trace places i
  ready_asked post = ready_in post trace places i

  pub ready_detains : (k : Stage) → ready_asked k ≡ none (λ j. queues k (places j) or detains k (instruction trace i) (instruction trace j) (places j)) i
  unfolding ready_asked asks_for queues ◌or◌
  ready_detains pre = ready_holds pre
  ready_detains IF = ready_holds IF
  ready_detains ID = ready_holds ID
  ready_detains EX = access_asked
  ready_detains MEM = ready_holds MEM
  ready_detains ST = ready_holds ST
  ready_detains WB = ready_holds WB
  ready_detains post = ready_holds post
