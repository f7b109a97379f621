use Rattle.std.proofs.Common.{List, ◌∙◌, sym, ap}
use Rattle.std.specs.Prelude.{Some, find}
use Rattle.replica_catalog.specs.declared.catalog.Replica.{Replica}
use Rattle.replica_catalog.specs.Lookup.{is_of}
use Rattle.replica_catalog.proofs.LookupLemmas.{entry_at, no_entry}
use Rattle.replica_catalog.proofs.lookup.Replicas.entry_of.Goals as goal

pub returns-in-Some : goal.returns-in-Some
returns-in-Some c =
    let at = sym (c.self.inside.exact c.args.lfn.now) ∙ sym c.in-Some.ensures.value in
    ap Some (sym c.index-self-place.is) ∙ (entry_at c.self.inside.entries.now c.args.lfn.now _ at).1 c.index-self-place.result c.index-self-place.is ∙ ap (λ (es : List Replica). find (is_of c.args.lfn.now) es) c.self.view_is

pub returns-in-None : goal.returns-in-None
returns-in-None c =
    let at = sym (c.self.inside.exact c.args.lfn.now) ∙ sym c.in-None.ensures.value in
    sym (no_entry c.self.inside.entries.now c.args.lfn.now at) ∙ ap (λ (es : List Replica). find (is_of c.args.lfn.now) es) c.self.view_is
