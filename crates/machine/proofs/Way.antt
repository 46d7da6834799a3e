-- Each stage's next is the one that comes after it on its kind's way: by computation.
use mathlib.Core.Path.{refl}
use Rattle.machine.specs.Instruction.{plain, load, store, branch, jump}
use Rattle.machine.specs.Claims.{NextOnTheWay}

pub next_on_the_way : NextOnTheWay
next_on_the_way plain = refl
next_on_the_way load = refl
next_on_the_way store = refl
next_on_the_way branch = refl
next_on_the_way jump = refl
