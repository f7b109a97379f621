use Rattle.std.proofs.Common.{◌≡◌, ◌∙◌, arith, map, ◌++◌, refl, sym, vec_len}
use Rattle.std.proofs.lemmas.Bool.{eqb-true}
use Rattle.ruled_lock.specs.Pass.{joined_of, seen_of}
use Rattle.ruled_lock.proofs.ListLemmas.{prefix_self, prefix_trans}
use Rattle.worker_gate.specs.code.Hands.{member_of, own_list}
use Rattle.worker_gate.proofs.HandsLemmas.{first_and_rest, lists_more, members_back, none_left, others_left, some_all, some_first, some_more}
use Rattle.worker_gate.proofs.hands.gather_others.Goals as goal

pub loop-hands-preserved : goal.loop-hands-preserved
loop-hands-preserved g c =
    let i = c.loop-hands.invariant in
    let here = c.loop-hands.first in
    let first = c.args.first.now in
    let left = c.loop-hands.hands.items in
    let rest = c.remove-pass.new.self.items in
    let hand = c.remove-pass.result in
    let e = c.remove-pass.ensures in
    let j = c.join.ensures in
    let p = c.push_reserved.ensures in
    let taken = first_and_rest left rest hand (omega (arith, c.loop-hands-test.ensures)) e.value e.by_index.2 in
    let ready = others_left c.args.lock.now hand left rest taken i.2 in (
      j.of,
      j.idle,
      ready.1,
      j.worker ∙ i.3,
      j.charter ∙ i.4,
      j.mine ∙ i.5,
      prefix_trans (seen_of first) (seen_of here) (seen_of c.join.new.pass) i.6 j.before.0,
      omega (arith, j.count, ready.0.count_is, i.7),
      lists_more hand left rest (joined_of here) (joined_of c.join.new.pass) (joined_of first ++ map own_list c.args.hands.items) taken ready.0.joined j.joined i.8,
      members_back hand left rest c.loop-hands.crew.items c.push_reserved.new.self.items (c.args.crew.now.items ++ map member_of c.args.hands.items) taken p.items i.9,
      omega (arith, p.len, p.capacity, e.len, i.10),
      some_more hand c.args.hands.items left rest here c.join.new.pass taken j.before.0 j.before.1 i.11,
    )

pub loop-hands-init : goal.loop-hands-init
loop-hands-init g c =
    let first = c.args.first.now in (
      c.requires.of,
      c.requires.idle,
      c.requires.others,
      refl,
      refl,
      refl,
      prefix_self (seen_of first),
      refl,
      refl,
      refl,
      c.requires.room,
      some_first c.args.hands.items first,
    )

pub returns-clause-others_seen : goal.returns-clause-others_seen
returns-clause-others_seen g c =
    let left = c.loop-hands.hands.items in
    let none : vec_len c.loop-hands.hands ≡ 0 = eqb-true (vec_len c.loop-hands.hands) 0 (sym c.is_empty.ensures ∙ c.loop-hands-test.false) in
    some_all c.args.hands.items left c.loop-hands.first (none_left left (omega (arith, none, c.loop-hands.hands.ok))) c.loop-hands.invariant.11
