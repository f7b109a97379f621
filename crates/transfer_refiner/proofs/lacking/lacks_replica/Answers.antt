use Rattle.std.proofs.Common.{◌∙◌}
use Rattle.transfer_refiner.specs.code.View.{draft_of}
use Rattle.transfer_refiner.proofs.LackingLemmas.{replica_lacks, is_some_map}
use Rattle.transfer_refiner.proofs.lacking.lacks_replica.Goals as goal

pub returns : goal.returns
returns c = replica_lacks (draft_of c.args.view.now) c.args.file.0 _ c.is_there-there.result c.is_some.result c.is_registered-registered.result c.lacks_pfn.ensures c.is_there-there.ensures (c.is_some.ensures ∙ is_some_map _ _ c.home-home.ensures) c.is_registered-registered.ensures
