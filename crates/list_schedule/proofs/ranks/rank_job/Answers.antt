use Rattle.std.proofs.Common.{◌+◌, ◌≤◌, ◌^◌, get_or, arith}
use Rattle.list_schedule.proofs.SetLemmas.{set_small}
use Rattle.list_schedule.proofs.ranks.rank_job.Goals as goal

pub returns-clause-small : goal.returns-clause-small
returns-clause-small c = λ n all a.
    let mean = c.mean.ensures.small in
    let own : c.mean.result + get_or c.args.ranks.now c.args.job.0 0 ≤ n + 2 ^ 64 = omega (arith, mean, all c.args.job.0) in
    let more = c.raise.ensures.small (n + 2 ^ 64) own (set_small c.args.ranks.now c.args.job.0 _ (n + 2 ^ 64) c.requires.job own (λ b. let small = all b in omega (arith, small))) a in
    omega (arith, more)
