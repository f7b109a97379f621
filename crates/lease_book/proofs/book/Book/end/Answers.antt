use Rattle.storage_simulation.specs.Goods.{makes}
use Rattle.place_peaks.proofs.Offered.{declared_long}
use Rattle.run_record.specs.Events.{End}
use Rattle.lease_book.proofs.BookLemmas.{allowed_in, has_room, has_sizes, kept_more}
use Rattle.lease_book.proofs.book.Book.end.Goals as goal

pub push-requires-clause-room : goal.push-requires-clause-room
push-requires-clause-room c = has_room c.args.self.now (End c.args.worker c.args.task.0 c.args.sizes.now) (allowed_in c.args.self.now (End c.args.worker c.args.task.0 c.args.sizes.now) c.requires)

pub push-requires-clause-sizes : goal.push-requires-clause-sizes
push-requires-clause-sizes c = has_sizes c.args.self.now (End c.args.worker c.args.task.0 c.args.sizes.now) (allowed_in c.args.self.now (End c.args.worker c.args.task.0 c.args.sizes.now) c.requires)

pub invariant_of-self : goal.invariant_of-self
invariant_of-self c = record {
  proper = c.args.self.now.proper;
  kept = kept_more c.args.self.now (End c.args.worker c.args.task.0 c.args.sizes.now) c.push.new.self c.enter_end.new.self (allowed_in c.args.self.now (End c.args.worker c.args.task.0 c.args.sizes.now) c.requires) c.push.ensures.events c.push.ensures.room c.push.ensures.sizes_room c.enter_end.ensures.state c.enter_end.ensures.room c.enter_end.ensures.peaks;
  place = c.args.self.now.place;
  fresh = c.args.self.now.fresh;
}

pub enter_end-requires-clause-sizes : goal.enter_end-requires-clause-sizes
enter_end-requires-clause-sizes c = declared_long c.args.self.now.plan (makes c.args.self.now.plan c.args.task.0) c.args.sizes.now c.requires.3
