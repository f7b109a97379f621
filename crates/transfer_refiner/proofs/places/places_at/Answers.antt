use Rattle.transfer_refiner.specs.code.Places.{place_of}
use Rattle.transfer_refiner.proofs.PlacesLemmas.{flat_more}
use Rattle.transfer_refiner.proofs.places.places_at.Goals as goal

pub loop-i-preserved : goal.loop-i-preserved
loop-i-preserved c = flat_more (place_of c.args.places.now c.args.site) c.args.files.now c.loop-i.i 0 c.loop-i.list.items c.push_place.new.list.items _ c.loop-i-test.true c.in_ok-push_place.ensures c.loop-i.invariant
