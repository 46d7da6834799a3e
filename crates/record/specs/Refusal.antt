-- The refusal numbers of document 01, "What each call does and when it declines", and of document 02 that calls share, each under its words; 0 is
-- no refusal.
use Rattle.std.specs.Prelude.{ℕ, Bool, cond, eqb}

infixr 20 ◌then◌
infixl 25 ◌unless◌
-- "where several hold, the first in its list is named": the first refusal, or the second where the first is none
unfoldable pub ◌then◌ : ℕ → ℕ → ℕ
first then second = cond (eqb first 0) second first

-- the refusal, or none where the test passes
unfoldable pub ◌unless◌ : ℕ → Bool → ℕ
refusal unless ok = cond ok 0 refusal

-- "8 a record of any trace breaks its rules"
abbrev pub broken_record : ℕ
broken_record = 8

-- "9 trace number not below T", "9 if k is not below the part's length divided by ten, rounded down"
abbrev pub out_of_range : ℕ
out_of_range = 9

-- "10 length not ten times a number up to 4,096"
abbrev pub wrong_length : ℕ
wrong_length = 10

-- "11 an unknown flag"
abbrev pub unknown_flag : ℕ
unknown_flag = 11

-- "17, after 8: h above 15, or a load or store whose data latency is not above h"
abbrev pub long_hit : ℕ
long_hit = 17
