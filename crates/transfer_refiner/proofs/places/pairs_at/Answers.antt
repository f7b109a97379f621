use Rattle.std.proofs.Common.{◌∙◌, ap}
use Rattle.transfer_refiner.proofs.PlacesLemmas.{listed_are}
use Rattle.transfer_refiner.specs.code.Places.{places_at}
use Rattle.transfer_refiner.proofs.places.pairs_at.Goals as goal

pub returns : goal.returns
returns c = λ test are. c.in_ok-ids.ensures ∙ c.deref-2.ensures.value ∙ listed_are c.args.places.now test c.args.found.now c.in_ok-places_at.field-0.items c.sorted-numbers.result.items c.requires.once are (c.in_ok-places_at.ensures ∙ ap (places_at c.args.places.now c.args.found.now.site.0) c.deref.ensures.value) c.sorted-numbers.ensures.rises c.sorted-numbers.ensures.same
