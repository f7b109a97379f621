use Rattle.lease_book.specs.RunState.{state_of}
use Rattle.run_record.specs.Events.{Regrant}
use Rattle.lease_book.proofs.BookLemmas.{has_room, has_sizes, kept_more, regrant_task}
use Rattle.lease_book.proofs.book.Book.regrant.Goals as goal

pub push-requires-clause-room : goal.push-requires-clause-room
push-requires-clause-room c = has_room c.args.self.now (Regrant c.args.worker c.args.task) c.requires.allowed

pub push-requires-clause-sizes : goal.push-requires-clause-sizes
push-requires-clause-sizes c = has_sizes c.args.self.now (Regrant c.args.worker c.args.task) c.requires.allowed

pub invariant_of-self : goal.invariant_of-self
invariant_of-self c = record {
  proper = c.args.self.now.proper;
  kept = kept_more c.args.self.now (Regrant c.args.worker c.args.task) c.push.new.self c.enter_regrant.new.self c.requires.allowed c.push.ensures.events c.push.ensures.room c.push.ensures.sizes_room c.enter_regrant.ensures.state c.enter_regrant.ensures.room c.enter_regrant.ensures.peaks;
  place = c.args.self.now.place;
  fresh = c.args.self.now.fresh;
}

pub enter_regrant-requires-clause-task : goal.enter_regrant-requires-clause-task
enter_regrant-requires-clause-task c = regrant_task c.args.self.now.plan (state_of c.args.self.now.state) c.args.worker c.args.task c.args.self.now.kept.consistent.sound c.requires.allowed
