use Rattle.run_record.specs.Events.{Fail}
use Rattle.lease_book.proofs.BookLemmas.{has_room, has_sizes, kept_more}
use Rattle.lease_book.proofs.book.Book.add_fail.Goals as goal

pub push-requires-clause-room : goal.push-requires-clause-room
push-requires-clause-room c = has_room c.args.self.now (Fail c.args.worker c.args.task c.args.cause.now c.args.published.now) c.requires

pub push-requires-clause-sizes : goal.push-requires-clause-sizes
push-requires-clause-sizes c = has_sizes c.args.self.now (Fail c.args.worker c.args.task c.args.cause.now c.args.published.now) c.requires

pub invariant_of-self : goal.invariant_of-self
invariant_of-self c = record {
  proper = c.args.self.now.proper;
  kept = kept_more c.args.self.now (Fail c.args.worker c.args.task c.args.cause.now c.args.published.now) c.push.new.self c.enter_fail.new.self c.requires c.push.ensures.events c.push.ensures.room c.push.ensures.sizes_room c.enter_fail.ensures.state c.enter_fail.ensures.room c.enter_fail.ensures.peaks;
  place = c.args.self.now.place;
  fresh = c.args.self.now.fresh;
}
