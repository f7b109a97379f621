use Rattle.lease_book.proofs.StateLemmas.{line_is_rest}
use Rattle.lease_book.proofs.fresh.fresh_task.Goals as goal

pub first_with_order-requires-clause-line : goal.first_with_order-requires-clause-line
first_with_order-requires-clause-line c = line_is_rest c.args.plan.now c.args.state.now c.requires.peaks c.requires.unfailed c.requires.no_choice
