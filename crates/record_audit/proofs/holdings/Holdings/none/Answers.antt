use Rattle.std.proofs.Common.{length, ap, ◌∙◌}
use Rattle.record_audit.proofs.HoldingsLemmas.{none_adds_up}
use Rattle.record_audit.proofs.holdings.Holdings.none.Goals as goal

pub returns-clause-adds_up : goal.returns-clause-adds_up
returns-clause-adds_up c =
    none_adds_up c.args.plan.now (record { sizes = c.in_ok-sizes.sizes; sums = c.in_ok-sums.sums })
    (c.in_ok-sizes.ensures.long ∙ ap length c.as_slice.ensures) (c.in_ok-sums.ensures.long ∙ ap length c.as_slice-2.ensures)
    c.in_ok-sizes.ensures.zero c.in_ok-sums.ensures.zero
