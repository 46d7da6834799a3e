-- `worst_time_at` meets its contract: the body is the one that Open hands back, which can be timed.
use Rattle.std.proofs.Common.{ℕ, List, ap, ◌∙◌}
use Rattle.record.specs.Body.{timed_refusal}
use Rattle.timed_file.proofs.Hits.{file_accepted, body_timed}
use Rattle.whole_job.proofs.Filled.{passed_alone}
use Rattle.whole_job.proofs.filling.worst_time_at.Goals as goal

pub body_of-requires : goal.body_of-requires
body_of-requires c = (file_accepted _ _ c.requires.0, c.requires.1)

pub finish_settled-requires : goal.finish_settled-requires
finish_settled-requires c =
    ap (λ (b : List ℕ). timed_refusal b c.args.hit_cycles) c.body_of.ensures.0
    ∙ body_timed c.args.file.now c.args.hit_cycles c.requires.0 c.args.t c.requires.1

pub returns : goal.returns
returns c =
    passed_alone c.args.file.now c.args.hit_cycles c.requires.0 c.args.t c.requires.1 c.body_of.ensures.0 c.finish_settled.ensures
