use Rattle.std.proofs.Common.{◌≡◌, map, take, vec_capacity, vec_len}
use Rattle.outside.specs.code.Counts.{IsLater}
use Rattle.plan_core.specs.Words.{pair_numbers}
use Rattle.site_yard.specs.code.Failures.{AreMore}
use Rattle.site_yard.specs.code.Loan.{AreOpened}
use Rattle.site_yard.proofs.lending.open_pairs.Given as goal

abbrev pub invariant-loop-k : goal.invariant-loop-k
invariant-loop-k g l =
    (g.H.Host.told l.host ≡ g.H.Host.told l.initial.host) × (g.H.Host.marked l.host ≡ g.H.Host.marked l.initial.host)
    × IsLater (g.H.Host.counts l.initial.host) (g.H.Host.counts l.host)
    × AreOpened l.plan (pair_numbers (take l.k l.pairs)) (g.H.Host.told l.initial.host) (map g.H.Reading.ReadPart.state l.readings.items)
    × AreMore l.k 0 0 (g.H.Host.counts l.initial.host) (g.H.Host.counts l.host)
    × (vec_len l.readings ≡ l.k)
    × (vec_capacity l.readings ≡ vec_capacity l.initial.readings)
