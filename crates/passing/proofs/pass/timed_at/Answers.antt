-- `timed_at` meets its contract: one turn of a pass over an accepted body.
use Rattle.record.specs.Body.{Bytes}
use Rattle.schedule.proofs.Accepted.{turn_fits, turn_room, turn_times, turn_slides}
use Rattle.passing.proofs.pass.timed_at.Goals as goal

pub times_from-times-requires : goal.times_from-times-requires
times_from-times-requires c =
    let p = c.requires in
    turn_fits _ _ _ (λ n. (c.type_inv.body n).fits) p.0 _ p.1 p.2 c.settled_at-f.ensures

pub slide-requires : goal.slide-requires
slide-requires c =
    let p = c.requires in
    turn_room _ _ _ (λ n. (c.type_inv.body n).fits) p.0 _ p.1 p.2 c.settled_at-f.ensures c.times_from-times.ensures

pub returns : goal.returns
returns c =
    let p = c.requires in
    let this = c.settled_at-f.ensures in
    let from = c.times_from-times.ensures in
    let bytes : Bytes c.args.body.now = λ n. (c.type_inv.body n).fits in (
      turn_times _ _ _ bytes p.0 _ p.1 p.2 this from,
      turn_slides _ _ _ bytes p.0 _ p.1 p.2 this from c.slide.ensures,
    )
