-- `no_window` meets its contract: it is the definition.
use Rattle.machine.proofs.Window.{no_window}
use mathlib.Core.Path.{refl}
use Rattle.schedule.proofs.sliding.no_window.Goals as goal

pub returns : goal.returns
unfolding no_window
returns c = refl
