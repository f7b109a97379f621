use Rattle.worker_gate.proofs.HandsLemmas.{first_and_rest, gathered, others_of}
use Rattle.worker_gate.proofs.hands.gather.Goals as goal

pub gather_others-requires-clause-others : goal.gather_others-requires-clause-others
gather_others-requires-clause-others g c =
    let hand = c.remove-first.result in
    let e = c.remove-first.ensures in
    (others_of c.args.lock.now hand c.args.hands.items c.remove-first.new.self.items (first_and_rest c.args.hands.items c.remove-first.new.self.items hand c.requires.members e.value e.by_index.2) c.requires.hands).1

pub returns-clause-gathered : goal.returns-clause-gathered
returns-clause-gathered g c =
    let hand = c.remove-first.result in
    let rest = c.remove-first.new.self.items in
    let e = c.remove-first.ensures in
    let is = first_and_rest c.args.hands.items rest hand c.requires.members e.value e.by_index.2 in
    let j = c.gather_others.ensures in
    gathered hand c.args.hands.items rest c.gather_others.new.first c.args.lock.now is (others_of c.args.lock.now hand c.args.hands.items rest is c.requires.hands).0 j.worker j.mine j.charter j.seen j.others_seen j.count j.joined
