-- `length_refusal` meets its contract: one case for each way out.
use Rattle.machine.specs.State.{max_instructions}
use Rattle.record.specs.Body.{records, length_refusal}
use Rattle.record.specs.Layout.{record_size}
use Rattle.record.specs.Refusal.{◌unless◌, wrong_length}
use borrow.Author.Tests.{eq-eqb, ne_eqb, lt-leb, le-leb}
use Rattle.std.proofs.Common.{arith, ◌≡◌, ℕ, ◌%◌, ◌≤◌, ◌<◌, List, length}
use Rattle.acceptance.proofs.check_length.Goals as goal

-- the answer from what the tests mean, so that the proof does not depend on how the code writes them
module _ (body : List ℕ) where
  broken : (length body % record_size ≡ 0 → ⊥) → wrong_length ≡ length_refusal body
  unfolding length_refusal ◌unless◌
  broken rest = rw (ne_eqb (length body % record_size) 0 rest)

  long : length body % record_size ≡ 0 → max_instructions < records body → wrong_length ≡ length_refusal body
  unfolding length_refusal ◌unless◌
  long whole many = rw (eq-eqb (length body % record_size) 0 whole, lt-leb (records body) max_instructions many)

  right : length body % record_size ≡ 0 → records body ≤ max_instructions → 0 ≡ length_refusal body
  unfolding length_refusal ◌unless◌
  right whole few = rw (eq-eqb (length body % record_size) 0 whole, le-leb (records body) max_instructions few)

pub returns-then-body-ne0 : goal.returns-then-body-ne0
returns-then-body-ne0 c = broken _ (omega arith)

pub returns-then-body-gt-MAX_RECORDS : goal.returns-then-body-gt-MAX_RECORDS
returns-then-body-gt-MAX_RECORDS c = long _ (omega arith) (omega arith)

pub returns : goal.returns
returns c = right _ (omega arith) (omega arith)
