use Rattle.transfer_refiner.specs.code.View.{draft_of}
use Rattle.transfer_refiner.proofs.MovingLemmas.{moved_low, requested_low}
use Rattle.transfer_refiner.proofs.listing.kinds_of.Goals as goal

pub push_transfers-requires-clause-in_range : goal.push_transfers-requires-clause-in_range
push_transfers-requires-clause-in_range c = moved_low (draft_of c.args.view.now) c.args.moved.now c.requires.moved

pub push_deliveries-requires-clause-in_range : goal.push_deliveries-requires-clause-in_range
push_deliveries-requires-clause-in_range c = requested_low (draft_of c.args.view.now) c.args.tables.now.requested.items c.requires.tables.requested
