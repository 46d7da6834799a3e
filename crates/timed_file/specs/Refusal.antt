-- Which job files can be timed with data hits that take h cycles: document 02, F-4, and F-2 of a whole job.
use Rattle.std.specs.Prelude.{ℕ, Bool, not, ◌&&◌, List, leb, eqb}
use Rattle.machine.specs.Test.{none}
use Rattle.record.specs.Refusal.{◌then◌, ◌unless◌, long_hit}
use Rattle.record.specs.Body.{max_hit_cycles, hit_refusal}
use Rattle.job.specs.Layout.{traces}
use Rattle.job.specs.Open.{file_refusal, open_body}

-- 17 declines the body of trace t
unfoldable pub declines_at : List ℕ → ℕ → ℕ → Bool
declines_at file h t = not (eqb (hit_refusal (open_body file t) h) 0)

-- "h above 15, or a load or store whose data latency is not above h": of any trace; h above 15 also where there is none
unfoldable pub file_hit_refusal : List ℕ → ℕ → ℕ
file_hit_refusal file h = long_hit unless (leb h max_hit_cycles && none (declines_at file h) (traces file))

-- "1 to 8 as in Open", then "17, after 8"
unfoldable pub timed_file_refusal : List ℕ → ℕ → ℕ
timed_file_refusal file h = file_refusal file then file_hit_refusal file h
