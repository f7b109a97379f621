use Rattle.std.proofs.Common.{◌≡◌, map}
use Rattle.peg_json.specs.code.Tree.{with_front}
use Rattle.peg_json.specs.code.Entries.{seen_members}
use Rattle.peg_json.specs.Entries.{entries_from}
use Rattle.peg_json.proofs.entries.entries_of.Given as goal

abbrev pub invariant-loop-member : goal.invariant-loop-member
invariant-loop-member g l =
    let f = g.T.FromTree.reads in
    with_front (map (λ e. (e.0, g.T.FromTree.seen e.1)) l.out.items) (entries_from f l.path (seen_members l.member-iterator)) ≡ entries_from f l.path (seen_members l.members.entries)
