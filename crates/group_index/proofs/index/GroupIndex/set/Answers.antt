use Rattle.std.proofs.Common.{ℕ, ◌&&◌, cond, nat_eq, sym, ap, ◌∙◌, arith}
use Rattle.group_index.specs.Index.{group, key_at, seat, width_at}
use Rattle.group_index.proofs.IndexLemmas.{inside, set_keys, set_number}
use Rattle.group_index.proofs.index.GroupIndex.set.Goals as goal

pub key_of-requires : goal.key_of-requires
key_of-requires c = let few = c.requires.index.few in let l = c.requires.within in omega (arith, few, l)

pub put-requires-clause-group : goal.put-requires-clause-group
put-requires-clause-group c = let l = c.requires.index.in_groups c.args.k c.requires.within in let e = c.group-group.ensures in omega (arith, l, e)

pub put-requires-clause-at : goal.put-requires-clause-at
put-requires-clause-at c =
    let l = inside c.args.self.now c.args.k c.requires.index c.requires.within in
    let at = c.seat-seat.ensures in
    let in_group = ap (width_at c.args.self.now.trees.items) c.group-group.ensures in
    omega (arith, l, at, in_group)

pub returns-clause-index : goal.returns-clause-index
returns-clause-index c = record {
  few = c.requires.index.few;
  seats_long = c.requires.index.seats_long;
  used_long = c.requires.index.used_long ∙ sym c.put.ensures.long;
  in_groups = λ k l. let had = c.requires.index.in_groups k l in let long = c.put.ensures.long in omega (arith, had, long);
  places = c.requires.index.places;
  trees = c.put.ensures.trees;
  wide = λ g l. c.put.ensures.wide g ∙ c.requires.index.wide g (let long = c.put.ensures.long in omega (arith, l, long));
  keys = λ g i key is. let p = set_keys c.args.self.now c.put.new.trees.items c.args.k c.args.score c.requires.index c.requires.within
      (λ g i. c.put.ensures.each g i ∙ ap (λ (n : ℕ). cond (nat_eq g n && nat_eq i c.seat-seat.result) c.key_of.result (key_at c.args.self.now.trees.items g i)) c.group-group.ensures
      ∙ ap (λ (n : ℕ). cond (nat_eq g (group c.args.self.now c.args.k) && nat_eq i n) c.key_of.result (key_at c.args.self.now.trees.items g i)) c.seat-seat.ensures
      ∙ ap (λ key. cond (nat_eq g (group c.args.self.now c.args.k) && nat_eq i (seat c.args.self.now c.args.k)) key (key_at c.args.self.now.trees.items g i)) c.key_of.ensures) g i key is in
      record { within = p.within; in_group = p.in_group; in_seat = p.in_seat };
}

pub returns-clause-numbers : goal.returns-clause-numbers
returns-clause-numbers c = λ j l. set_number c.args.self.now c.put.new.trees.items c.args.k c.args.score c.requires.index c.requires.within
    (λ g i. c.put.ensures.each g i ∙ ap (λ (n : ℕ). cond (nat_eq g n && nat_eq i c.seat-seat.result) c.key_of.result (key_at c.args.self.now.trees.items g i)) c.group-group.ensures
    ∙ ap (λ (n : ℕ). cond (nat_eq g (group c.args.self.now c.args.k) && nat_eq i n) c.key_of.result (key_at c.args.self.now.trees.items g i)) c.seat-seat.ensures
    ∙ ap (λ key. cond (nat_eq g (group c.args.self.now c.args.k) && nat_eq i (seat c.args.self.now c.args.k)) key (key_at c.args.self.now.trees.items g i)) c.key_of.ensures) j l
