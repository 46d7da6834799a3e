-- `put_times` meets its contract, place by place.
use Rattle.std.proofs.Common.{◌≡◌, ℕ, ◌<◌, ◌++◌, List, length, drop, set, refl, sym, ap, ap₂, ◌∙◌, add-one, arith}
use Rattle.record.specs.Body.{firsts}
use Rattle.whole_job.specs.Answers.{timed_alone}
use Rattle.whole_job.proofs.Filled.{one_more}
use Rattle.whole_job.proofs.filling.put_times.Goals as goal

pub loop-t-init : goal.loop-t-init
unfolding firsts
loop-t-init c = refl

pub loop-t-preserved : goal.loop-t-preserved
loop-t-preserved c =
    let times = c.args.times.now in
    let timed = timed_alone c.args.file.now c.args.hit_cycles in
    let t = c.loop-t.t in
    let inside : t < length times = omega arith in
    c.put_time.ensures
    ∙ ap₂ (λ (places : List ℕ) (time : ℕ). set places t time) c.loop-t.invariant c.worst_time_at.ensures
    ∙ one_more timed times t inside
    ∙ ap (λ (n : ℕ). firsts timed n ++ drop n times) (sym (add-one t))

pub returns : goal.returns
returns c =
    let end : c.loop-t.t ≡ c.args.all = omega arith in
    c.loop-t.invariant
    ∙ ap (λ (n : ℕ). firsts (timed_alone c.args.file.now c.args.hit_cycles) n ++ drop n c.args.times.now) end
