use Rattle.std.proofs.Common.{◌≡◌, [], drop, take}
use Rattle.peg_json.specs.Elements.{first_repeat}
use Rattle.workflow_reader.specs.Linking.{same_use}
use Rattle.workflow_reader.proofs.duplicates.repeated_of_few.Given as goal

abbrev pub invariant-loop-used : goal.invariant-loop-used
invariant-loop-used l =
    (l.index ≡ l.used-index) × (first_repeat same_use (take l.used-index l.uses) (drop l.used-index l.uses) ≡ first_repeat same_use [] l.uses)
