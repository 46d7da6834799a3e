-- `moves` and `will_be_free` meet their contracts: they call each other, the distance to post falling.
use Rattle.std.proofs.Common.{sym, ap, ◌∙◌, arith}
use Rattle.machine.specs.Instruction.{Kind}
use Rattle.machine.specs.Named.{kind_named, stage_named}
use Rattle.machine.specs.Rules.{next}
use Rattle.machine.specs.declared.stage.Stage.TheVariants as stage
use Rattle.machine.proofs.Names.{same_named}
use Rattle.machine.proofs.BySlots.{free_at}
use Rattle.moving.specs.Inner.{bit_of, kind_in}
use Rattle.moving.proofs.Nearer.{nearer}
use Rattle.moving.proofs.Paths.{moves_on, moves_off, free_post, free_filled, free_empty}
use Rattle.moving.proofs.moving.Traffic.+moves_will_be_free.Goals as goal

pub moves-will_be_free-requires : goal.moves-will_be_free-requires
moves-will_be_free-requires t c =
    let l = nearer (kind_named c.kind.result) (stage_named c.args.stage) c.next-to.ensures c.requires in
    let e = c.decreases in
    (omega arith, tt)

pub moves-returns-then-at_or : goal.moves-returns-then-at_or
moves-returns-then-at_or t c =
    let s = c.args.self.now in
    let k = stage_named c.args.stage in
    c.will_be_free.ensures
    ∙ ap (free_at (bit_of s.going) (bit_of s.full) (kind_in s.kinds))
    (c.next-to.ensures ∙ ap (λ (kind : Kind). next kind k) c.kind.ensures)
    ∙ sym (moves_on (bit_of s.going) (bit_of s.full) (kind_in s.kinds) k c.requires (sym c.at_or.ensures ∙ c.if-at_or.true))

pub moves-returns : goal.moves-returns
moves-returns t c =
    let s = c.args.self.now in
    sym (moves_off (bit_of s.going) (bit_of s.full) (kind_in s.kinds) (stage_named c.args.stage) c.requires (sym c.at_or.ensures ∙ c.if-at_or.false))

pub will_be_free-returns-then-eq : goal.will_be_free-returns-then-eq
will_be_free-returns-then-eq t c =
    let s = c.args.self.now in
    sym (free_post (bit_of s.going) (bit_of s.full) (kind_in s.kinds) (stage_named c.args.stage) (sym (c.eq.ensures ∙ same_named c.args.stage stage.Post) ∙ c.if-eq.true))

pub will_be_free-returns-then-at_or : goal.will_be_free-returns-then-at_or
will_be_free-returns-then-at_or t c =
    let s = c.args.self.now in
    c.moves.ensures
    ∙ sym (free_filled (bit_of s.going) (bit_of s.full) (kind_in s.kinds) (stage_named c.args.stage)
    (sym (c.eq.ensures ∙ same_named c.args.stage stage.Post) ∙ c.if-eq.false)
    (sym c.at_or.ensures ∙ c.if-at_or.true))

pub will_be_free-returns : goal.will_be_free-returns
will_be_free-returns t c =
    let s = c.args.self.now in
    sym (free_empty (bit_of s.going) (bit_of s.full) (kind_in s.kinds) (stage_named c.args.stage)
    (sym (c.eq.ensures ∙ same_named c.args.stage stage.Post) ∙ c.if-eq.false)
    (sym c.at_or.ensures ∙ c.if-at_or.false))
