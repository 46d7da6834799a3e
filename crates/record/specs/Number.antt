-- The number of each refusal: documents 01 and 02. Where a call has given its answer the number is 0.
use Rattle.std.specs.Prelude.{ℕ, Result, Ok, Err}
use Rattle.record.specs.Refusal.{broken_record, out_of_range, wrong_length, unknown_flag, long_hit}
use Rattle.record.specs.declared.refusal.Refusal.{Refusal}
use Rattle.record.specs.declared.refusal.Refusal.TheVariants as refusal

abbrev pub number : Refusal → ℕ
number refusal.TooLong = 1
number refusal.TooShort = 2
number refusal.TooManyTraces = 3
number refusal.CutTable = 4
number refusal.LargeCount = 5
number refusal.WrongOffset = 6
number refusal.WrongEnd = 7
number refusal.BrokenRecord = broken_record
number refusal.OutOfRange = out_of_range
number refusal.WrongLength = wrong_length
number refusal.UnknownFlag = unknown_flag
number refusal.NotOrderly = 12
number refusal.WrongRecords = 13
number refusal.ShortOutput = 14
number refusal.LongWait = 15
number refusal.ShortList = 16
number refusal.LongHit = long_hit

-- 0, or the number of the refusal
abbrev pub refusal_in : {A : Type 0} → Result A Refusal → ℕ
refusal_in (Ok _) = 0
refusal_in (Err r) = number r
