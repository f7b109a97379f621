use Rattle.std.proofs.Common.{◌≡◌, ◌∙◌, ◌<◌, Vec, Bool, Global, length, sym, ap, subst, arith}
use Rattle.std.specs.Prelude.{Some, slice_get}
use Rattle.std.proofs.lemmas.Option.{slice_get-get_or}
use Rattle.site_selector.specs.code.Offers.{Offered, IsFound}
use Rattle.site_selector.proofs.OfferLemmas.{found_is}
use Rattle.site_selector.proofs.offers.Offers.of.Goals as goal

pub returns-in-Some-get : goal.returns-in-Some-get
returns-in-Some-get c =
    let table = c.self.inside.table.items in
    let o : Offered = record { execute = c.self.inside.execute.now; entries = c.self.inside.entries } in
    let flags : Vec Bool Global = c.in-Some-get.flags.now in
    let within = c.in-Some-get.ensures.lookup.0 in
    let below : c.in-Some.place < length c.deref.result.now = grind (arith, within) in
    let at : slice_get table c.in-Some.place ≡ Some flags =
    ap (λ xs. slice_get xs c.in-Some.place) (sym c.deref.ensures.value)
    ∙ slice_get-get_or c.deref.result.now c.in-Some.place flags below
    ∙ ap (λ (x : Vec Bool Global). Some x) (sym c.in-Some-get.ensures.lookup.1) in
    subst (λ (x : Offered). IsFound x c.args.transformation.now (Some c.as_slice.result.now)) c.self.view_is
    (subst (λ bs. IsFound o c.args.transformation.now (Some bs)) (sym c.as_slice.ensures.value)
    (found_is o table c.args.transformation.now c.in-Some.place c.self.invariant (sym c.in-Some.ensures.place) flags at))
