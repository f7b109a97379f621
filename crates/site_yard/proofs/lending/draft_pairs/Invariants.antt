use Rattle.std.proofs.Common.{◌≡◌, map, take, vec_capacity, vec_len}
use Rattle.outside.specs.code.Counts.{IsLater}
use Rattle.plan_core.specs.Words.{pair_numbers}
use Rattle.site_yard.specs.code.Failures.{AreMore}
use Rattle.site_yard.specs.code.Loan.{fresh_at, pair_target}
use Rattle.site_yard.proofs.lending.draft_pairs.Given as goal

abbrev pub invariant-loop-k : goal.invariant-loop-k
invariant-loop-k g l =
    (g.H.Host.told l.host ≡ g.H.Host.told l.initial.host) × (g.H.Host.marked l.host ≡ g.H.Host.marked l.initial.host)
    × IsLater (g.H.Host.counts l.initial.host) (g.H.Host.counts l.host)
    × (map g.H.Draft.WritePart.state l.drafts.items ≡ map (fresh_at (g.H.Host.told l.initial.host)) (map (pair_target l.plan) (pair_numbers (take l.k l.pairs))))
    × AreMore l.k 0 0 (g.H.Host.counts l.initial.host) (g.H.Host.counts l.host)
    × (vec_len l.drafts ≡ l.k)
    × (vec_capacity l.drafts ≡ vec_capacity l.initial.drafts)
