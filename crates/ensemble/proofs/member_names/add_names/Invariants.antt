use Rattle.std.proofs.Common.{◌≡◌, drop}
use Rattle.std.specs.Str.{bytes_eq}
use Rattle.peg_json.specs.Elements.{first_repeat}
use Rattle.ensemble.specs.Reader.{names_of}
use Rattle.ensemble.proofs.member_names.add_names.Given as goal

abbrev pub invariant-loop-member : goal.invariant-loop-member
invariant-loop-member l = first_repeat bytes_eq l.known (names_of (drop l.member-index l.members)) ≡ first_repeat bytes_eq l.fn.known (names_of l.members)
