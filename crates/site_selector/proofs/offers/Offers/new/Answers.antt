use Rattle.std.proofs.Common.{◌∙◌, List, ℕ, sym, ap, subst}
use Rattle.site_selector.specs.code.Offers.{AreDistinct, offer_table}
use Rattle.site_selector.proofs.OfferLemmas.{distinct_names, names_are}
use Rattle.site_selector.proofs.offers.Offers.new.Goals as goal

pub offer_table-requires : goal.offer_table-requires
offer_table-requires c = record { distinct = subst AreDistinct (sym c.in_ok-names.ensures) (distinct_names c.args.execute.now c.requires.sites) }

pub invariant_of-result : goal.invariant_of-result
invariant_of-result c =
    let names = c.in_ok-names.ensures ∙ names_are c.args.execute.now c.requires.sites in
    c.in_ok-table.ensures ∙ ap (λ (ns : List (List ℕ)). offer_table ns c.as_slice.result.now) names ∙ ap (offer_table _) (c.as_slice.ensures ∙ sym c.in_ok-entries.ensures)
