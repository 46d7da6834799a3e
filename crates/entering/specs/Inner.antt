-- What the crate's window stands for in the theory of the schedule.
use Rattle.machine.proofs.Window as Theory
use Rattle.entering.specs.declared.stages.Window.{Window}

abbrev pub window_of : Window → Theory.Window
window_of w =
    record {
      next_fetch = w.next_fetch;
      EX = w.EX;
      MEM = w.MEM;
      last = w.last;
      post = w.post;
      load_done = w.load_done;
      store_done = w.store_done;
      load_target = w.load_target;
    }
