use Rattle.run_record.specs.Events.{Arrive}
use Rattle.lease_book.proofs.BookLemmas.{allowed_in, has_room, has_sizes, kept_more}
use Rattle.lease_book.proofs.book.Book.arrive.Goals as goal

pub push-requires-clause-room : goal.push-requires-clause-room
push-requires-clause-room c = has_room c.args.self.now (Arrive c.args.worker c.args.task.0 c.args.size) (allowed_in c.args.self.now (Arrive c.args.worker c.args.task.0 c.args.size) c.requires)

pub push-requires-clause-sizes : goal.push-requires-clause-sizes
push-requires-clause-sizes c = has_sizes c.args.self.now (Arrive c.args.worker c.args.task.0 c.args.size) (allowed_in c.args.self.now (Arrive c.args.worker c.args.task.0 c.args.size) c.requires)

pub invariant_of-self : goal.invariant_of-self
invariant_of-self c = record {
  proper = c.args.self.now.proper;
  kept = kept_more c.args.self.now (Arrive c.args.worker c.args.task.0 c.args.size) c.push.new.self c.enter_arrive.new.self (allowed_in c.args.self.now (Arrive c.args.worker c.args.task.0 c.args.size) c.requires) c.push.ensures.events c.push.ensures.room c.push.ensures.sizes_room c.enter_arrive.ensures.state c.enter_arrive.ensures.room c.enter_arrive.ensures.peaks;
  place = c.args.self.now.place;
  fresh = c.args.self.now.fresh;
}
