use Rattle.std.proofs.Common.{◌∙◌}
use Rattle.list_schedule.proofs.ranks.upward_ranks.Goals as goal

pub rank_all-requires-clause-zeros : goal.rank_all-requires-clause-zeros
rank_all-requires-clause-zeros c = c.deref_mut.ensures.value ∙ c.in_ok-ranks.ensures.items_if_clones_equal (λ y h. h)
