-- The cycle rules: document 01, "One cycle", sentence by sentence, as amended by document 02. Every test is made on the state before the cycle.
use Rattle.std.specs.Prelude.{ℕ, zero, suc, ◌+◌, ◌-◌, Bool, true, false, not, cond, ltb, eqb, length}
use Rattle.machine.specs.Test.{◌and◌, ◌or◌, every, none}
use Rattle.machine.specs.Instruction.{Kind, plain, load, store, branch, jump, Flag, hit, miss, unknown, Instruction, Trace, instruction}

-- "Stages run pre, IF, ID, EX, MEM, then ST for a store or WB for any other kind, then post."
pub data Stage : Type 0 where
  pre IF ID EX MEM ST WB post : Stage

-- The next stage; document 02, F-5: "let each stage and kind have its own case, in the figure's order". The lines above the cases are the
-- figure's; no kind here is its nop. It has no jump; F-6: "and goes on through WB".
abbrev pub next : Kind → Stage → Stage
-- post : stage(i) ∈ {ST, WB} ∨ (stage(i) = ID ∧ opc(i) = nop)
next plain ST = post
next load ST = post
next store ST = post
next branch ST = post
next jump ST = post
next plain WB = post
next load WB = post
next store WB = post
next branch WB = post
next jump WB = post
-- WB : stage(i) = MEM ∧ opc(i) ≠ store
next plain MEM = WB
next load MEM = WB
next branch MEM = WB
next jump MEM = WB
-- ST : stage(i) = MEM ∧ opc(i) = store
next store MEM = ST
-- MEM : stage(i) = EX
next plain EX = MEM
next load EX = MEM
next store EX = MEM
next branch EX = MEM
next jump EX = MEM
-- EX : stage(i) = ID ∧ opc(i) ≠ nop
next plain ID = EX
next load ID = EX
next store ID = EX
next branch ID = EX
next jump ID = EX
-- ID : stage(i) = IF
next plain IF = ID
next load IF = ID
next store IF = ID
next branch IF = ID
next jump IF = ID
-- IF : stage(i) = pre
next plain pre = IF
next load pre = IF
next store pre = IF
next branch pre = IF
next jump pre = IF
-- "an instruction in post stays there"; the figure has no such line
next plain post = post
next load post = post
next store post = post
next branch post = post
next jump post = post

-- how many stages an instruction passes through before this one
abbrev pub rank : Stage → ℕ
rank pre = 0
rank IF = 1
rank ID = 2
rank EX = 3
rank MEM = 4
rank ST = 5
rank WB = 5
rank post = 6

-- a number for each stage, by which two stages are compared
abbrev pub stage_number : Stage → ℕ
stage_number pre = 0
stage_number IF = 1
stage_number ID = 2
stage_number EX = 3
stage_number MEM = 4
stage_number ST = 5
stage_number WB = 6
stage_number post = 7

abbrev pub same : Stage → Stage → Bool
same a b = eqb (stage_number a) (stage_number b)

-- "Each instruction has a stage and a remaining count."
pub record Place : Type 0 where
  pub stage : Stage
  pub count : ℕ

-- where each instruction stands
abbrev pub Places : Type 0
Places = ℕ → Place

-- "Further means a later stage, or the same stage with a smaller count."
unfoldable pub further : Place → Place → Bool
further a b = ltb (rank b.stage) (rank a.stage) or (same a.stage b.stage and ltb a.count b.count)

-- "Short of (s, c) means that (s, c), a stage and a count, is further."
unfoldable pub short_of : Place → Stage → ℕ → Bool
short_of a s c = further (record { stage = s; count = c }) a

-- tests of a kind, and of a flag
abbrev pub is_load : Kind → Bool
is_load plain = false
is_load load = true
is_load store = false
is_load branch = false
is_load jump = false

abbrev pub is_store : Kind → Bool
is_store plain = false
is_store load = false
is_store store = true
is_store branch = false
is_store jump = false

-- "a load or store": the kinds with a data access
abbrev pub has_access : Kind → Bool
has_access kind = is_load kind or is_store kind

-- "no older branch is short of (EX, 0)"; of a jump, document 02, F-6: "It holds back later fetches as a branch does"
abbrev pub holds_fetches : Kind → Bool
holds_fetches plain = false
holds_fetches load = false
holds_fetches store = false
holds_fetches branch = true
holds_fetches jump = true

abbrev pub hits : Flag → Bool
hits hit = true
hits miss = false
hits unknown = false

abbrev pub misses : Flag → Bool
misses hit = false
misses miss = true
misses unknown = false

-- "Count on entry: IF, the fetch latency on a miss, else 0. EX, the execution latency. MEM, a load's data latency on a miss, else 0. ST, the
-- data latency less 1 on a miss, else 0. All others 0." Document 02, F-4: "The count on entry to MEM for a load hit, and to ST for a store hit,
-- becomes h".
unfoldable pub entry : Instruction → Stage → ℕ
entry i pre = 0
entry i IF = cond (misses i.fetch) i.fetch_latency 0
entry i ID = 0
entry i EX = i.execution_latency
entry i MEM = cond (is_load i.kind) (cond (misses i.access) i.data_latency i.hit_cycles) 0
entry i ST = cond (misses i.access) (i.data_latency - 1) i.hit_cycles
entry i WB = 0
entry i post = 0

-- "older" means earlier in the trace: no older instruction passes the test, which is given the instruction and its place
unfoldable pub no_older : Trace → Places → ℕ → (Instruction → Place → Bool) → Bool
no_older trace places i test = none (λ j. test (instruction trace j) (places j)) i

-- "In pre it is ready when no older one is in pre, no older branch is short of (EX, 0), and its fetch hits or no older load is short of
-- (MEM, 0) and no older store short of (ST, 0)." F-6: nor an older jump, as `holds_fetches` has it.
ready_in_pre : Trace → Places → ℕ → Bool
ready_in_pre trace places i =
    no_older trace places i (λ j p. same p.stage pre)
    and no_older trace places i (λ j p. holds_fetches j.kind and short_of p EX 0)
    and (hits (instruction trace i).fetch
    or (no_older trace places i (λ j p. is_load j.kind and short_of p MEM 0)
    and no_older trace places i (λ j p. is_store j.kind and short_of p ST 0)))

-- "Register 0 never carries a dependence."
abbrev pub carries : ℕ → ℕ → Bool
carries source register = not (eqb register 0) and eqb source register

-- Where a source is needed; document 02, F-3: "From now on a store waits in ID for its first source only, and in EX for its second." Any other kind
-- waits in ID for both.
unfoldable pub reads_in_ID : Instruction → ℕ → Bool
reads_in_ID i register = carries i.source1 register or (not (is_store i.kind) and carries i.source2 register)

unfoldable pub reads_in_EX : Instruction → ℕ → Bool
reads_in_EX i register = is_store i.kind and carries i.source2 register

-- "no older load short of (MEM, 0) has as target" a register that passes the test
abbrev pub no_load_into : Trace → Places → ℕ → (ℕ → Bool) → Bool
no_load_into trace places i test = no_older trace places i (λ j p. is_load j.kind and short_of p MEM 0 and test j.target)

-- "In ID it is ready when no older load short of (MEM, 0) has as target one of its sources other than register 0", but for a store's second.
ready_in_ID : Trace → Places → ℕ → Bool
ready_in_ID trace places i = no_load_into trace places i (reads_in_ID (instruction trace i))

-- "a load or store with a data miss"
unfoldable pub misses_data : Instruction → Bool
misses_data i = (is_load i.kind or is_store i.kind) and misses i.access

-- "In EX a load or store with a data miss is ready when no older store is short of (ST, 0)."
abbrev pub access_ready : Trace → Places → ℕ → Bool
access_ready trace places i =
    not (misses_data (instruction trace i)) or no_older trace places i (λ j p. is_store j.kind and short_of p ST 0)

-- "a store's second source is the value to be stored, fetched only on the way into MEM"
abbrev pub value_ready : Trace → Places → ℕ → Bool
value_ready trace places i = no_load_into trace places i (reads_in_EX (instruction trace i))

-- In EX it is ready when both are; that `value_ready` never decides is shown (`ValueNeverDecides`).
ready_in_EX : Trace → Places → ℕ → Bool
ready_in_EX trace places i = access_ready trace places i and value_ready trace places i

-- "Elsewhere it is always ready."
unfoldable pub ready_in : Stage → Trace → Places → ℕ → Bool
unfolding ready_in_pre ready_in_ID ready_in_EX
ready_in pre trace places i = ready_in_pre trace places i
ready_in IF trace places i = true
ready_in ID trace places i = ready_in_ID trace places i
ready_in EX trace places i = ready_in_EX trace places i
ready_in MEM trace places i = true
ready_in ST trace places i = true
ready_in WB trace places i = true
ready_in post trace places i = true

unfoldable pub ready : Trace → Places → ℕ → Bool
ready trace places i = ready_in (places i).stage trace places i

-- How far a stage is from post. "Moves" and "will be free" call each other with this distance falling; each call takes one from a budget of
-- twice the distance. The budget is 0 only in post, where an instruction stays; elsewhere it never decides (`BudgetNeverDecides`).
unfoldable pub budget : Stage → ℕ
budget s = (6 - rank s) + (6 - rank s)

unfoldable mutual
  -- "An instruction moves when its count is 0, it is ready and its next stage will be free. [..] an instruction in post stays there."
  pub moves_within : ℕ → Trace → Places → ℕ → Bool
  moves_within zero trace places i = false
  moves_within (suc b) trace places i =
      eqb (places i).count 0
      and ready trace places i
      and will_be_free_within b trace places (next (instruction trace i).kind (places i).stage)

  -- "A stage will be free when it is empty or its occupant moves in this cycle; the occupant moves only if its own next stage will be free;
  -- post is always free."
  pub will_be_free_within : ℕ → Trace → Places → Stage → Bool
  will_be_free_within zero trace places s = true
  will_be_free_within (suc b) trace places s =
      same s post or every (λ j. not (same (places j).stage s) or moves_within b trace places j) (length trace)

unfoldable pub moves : Trace → Places → ℕ → Bool
moves trace places i = moves_within (budget (places i).stage) trace places i

unfoldable pub will_be_free : Trace → Places → Stage → Bool
will_be_free trace places s = will_be_free_within (suc (budget s)) trace places s

-- "Otherwise a count above 0 falls by 1 and a count of 0 stays."
unfoldable pub cycle : Trace → Places → Places
cycle trace places i =
    cond (moves trace places i)
    (let s = next (instruction trace i).kind (places i).stage in record { stage = s; count = entry (instruction trace i) s })
    (record { stage = (places i).stage; count = (places i).count - 1 })

-- "The starting state has everything in pre"
unfoldable pub all_pre : Places
all_pre i = record { stage = pre; count = 0 }

-- the places after t cycles from the start
unfoldable pub after : Trace → ℕ → Places
after trace zero = all_pre
after trace (suc t) = cycle trace (after trace t)

-- "every instruction has left, that is, is in post"
unfoldable pub all_left : Trace → Places → Bool
all_left trace places = every (λ i. same (places i).stage post) (length trace)
