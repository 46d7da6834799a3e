-- `times_from` meets its contract: each time follows from the one before, and each sum on the way is at most the next time.
use Rattle.schedule.proofs.Room.{at_IF, at_ID, at_EX, at_MEM, at_last, at_post, room_in_IF, room_in_ID, room_in_EX, room_in_MEM, room_in_last}
use Rattle.schedule.proofs.Calls.{six_times}
use Rattle.schedule.proofs.sliding.times_from.Goals as goal

pub enter_id-at_id-requires : goal.enter_id-at_id-requires
enter_id-at_id-requires c = let fetched = at_IF _ _ _ c.enter_if-at_if.ensures in room_in_IF _ _ _ c.requires.0 fetched

pub enter_ex-at_ex-requires : goal.enter_ex-at_ex-requires
enter_ex-at_ex-requires c =
    let fetched = at_IF _ _ _ c.enter_if-at_if.ensures in
    let decoded = at_ID _ _ _ fetched c.enter_id-at_id.ensures in
    room_in_ID _ _ _ c.requires.0 decoded

pub enter_mem-at_mem-requires : goal.enter_mem-at_mem-requires
enter_mem-at_mem-requires c =
    let fetched = at_IF _ _ _ c.enter_if-at_if.ensures in
    let decoded = at_ID _ _ _ fetched c.enter_id-at_id.ensures in
    let executed = at_EX _ _ _ decoded c.enter_ex-at_ex.ensures in
    (room_in_EX _ _ _ c.requires.0 executed, c.requires.1)

pub enter_last-at_last-requires : goal.enter_last-at_last-requires
enter_last-at_last-requires c =
    let fetched = at_IF _ _ _ c.enter_if-at_if.ensures in
    let decoded = at_ID _ _ _ fetched c.enter_id-at_id.ensures in
    let executed = at_EX _ _ _ decoded c.enter_ex-at_ex.ensures in
    let accessed = at_MEM _ _ _ executed c.enter_mem-at_mem.ensures in
    room_in_MEM _ _ _ c.requires.0 accessed

pub enter_post-requires : goal.enter_post-requires
enter_post-requires c =
    let fetched = at_IF _ _ _ c.enter_if-at_if.ensures in
    let decoded = at_ID _ _ _ fetched c.enter_id-at_id.ensures in
    let executed = at_EX _ _ _ decoded c.enter_ex-at_ex.ensures in
    let accessed = at_MEM _ _ _ executed c.enter_mem-at_mem.ensures in
    let ended = at_last _ _ _ accessed c.enter_last-at_last.ensures in (
      room_in_last _ _ _ c.requires.0 ended,
      c.requires.1,
      c.requires.2,
    )

pub returns : goal.returns
returns c =
    let fetched = at_IF _ _ _ c.enter_if-at_if.ensures in
    let decoded = at_ID _ _ _ fetched c.enter_id-at_id.ensures in
    let executed = at_EX _ _ _ decoded c.enter_ex-at_ex.ensures in
    let accessed = at_MEM _ _ _ executed c.enter_mem-at_mem.ensures in
    let ended = at_last _ _ _ accessed c.enter_last-at_last.ensures in
    let left = at_post _ _ _ ended c.enter_post.ensures in
    six_times fetched decoded executed accessed ended left
