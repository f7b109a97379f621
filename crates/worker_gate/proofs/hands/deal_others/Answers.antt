use Rattle.std.proofs.Common.{◌+◌, ◌∙◌, arith, length}
use Rattle.ruled_lock.specs.Pass.{charter_of, count_of, seen_of}
use Rattle.worker_gate.specs.declared.hands.Hand.{Hand}
use Rattle.worker_gate.proofs.HandsLemmas.{first_and_rest, members_more, others_more, still_first}
use Rattle.worker_gate.proofs.hands.deal_others.Goals as goal

pub loop-alloc-preserved : goal.loop-alloc-preserved
loop-alloc-preserved g c =
    let i = c.loop-alloc.invariant in
    let here = c.loop-alloc.first in
    let first = c.args.first.now in
    let left = c.loop-alloc.crew.items in
    let hand : Hand g.row.C.Denot g.row.M.Denot g.row.C-Charter.Denot g.row.C-Item.Denot g.C.Chronicle = record { pass = c.in-Ok.pass; member = c.remove-member.result } in
    let e = c.remove-member.ensures in
    let s = c.in-Ok.ensures in
    let taken = first_and_rest left c.remove-member.new.self.items c.remove-member.result (omega (arith, c.loop-alloc-test.ensures)) e.value e.by_index.2 in
    let pushed = c.push_reserved.ensures.items in (
      still_first c.args.lock.now (charter_of first) (seen_of first) (length c.loop-alloc.hands.items + 1) (length c.push_reserved.new.self.items + 1) here c.split.new.pass (omega (arith, c.push_reserved.ensures.len)) i.0 s.of s.idle s.count s.worker s.charter s.joined s.lists,
      others_more c.args.lock.now (charter_of first) (charter_of here) (seen_of first) (seen_of here) (count_of here) c.loop-alloc.hands.items c.push_reserved.new.self.items hand pushed i.0.new.count_is i.0.new.charter_is i.0.new.seen_is i.1 s.new_of s.new,
      members_more c.loop-alloc.hands.items c.push_reserved.new.self.items hand left c.remove-member.new.self.items c.args.crew.now.items pushed taken i.2,
      omega (arith, c.push_reserved.ensures.len, e.len, i.3),
      e.capacity ∙ i.4,
      c.push_reserved.ensures.capacity ∙ i.5,
    )
