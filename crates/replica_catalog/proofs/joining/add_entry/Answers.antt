use Rattle.std.proofs.Common.{◌≡◌, ◌<◌, ◌++◌, [], ◌∷◌, false, ap, sym, ◌∙◌, subst, arith}
use Rattle.std.specs.List.{list_any, position}
use Rattle.std.specs.Str.{bytes_eq}
use Rattle.std.specs.Prelude.{Some}
use Rattle.std.proofs.lemmas.Grind.{common_steps}
use Rattle.std.proofs.lemmas.List.Quantifiers.{position-Some}
use Rattle.std.proofs.lemmas.List.{length-map}
use Rattle.std.proofs.Math.Seq.{map-set_same}
use Rattle.replica_catalog.specs.declared.catalog.Replica.{Replica}
use Rattle.replica_catalog.specs.Lookup.{lfns_of}
use Rattle.replica_catalog.specs.code.Merged.{absorbed}
use Rattle.replica_catalog.proofs.JoiningLemmas.{at_place, not_there}
use Rattle.replica_catalog.proofs.joining.add_entry.Goals as goal

pub returns-in_ok-absorb-in-Some-clause-merged : goal.returns-in_ok-absorb-in-Some-clause-merged
returns-in_ok-absorb-in-Some-clause-merged c =
    let place : position (bytes_eq c.args.entry.lfn) (lfns_of c.args.merged.now.items) ≡ Some c.in-Some.place = grind (arith, common_steps) in
    let found = position-Some (bytes_eq c.args.entry.lfn) (lfns_of c.args.merged.now.items) c.in-Some.place [] place in
    at_place c.args.merged.now.items c.in-Some.place c.args.entry c.index_mut.result.now c.absorb.new.self [] (subst (λ n. c.in-Some.place < n) (length-map c.args.merged.now.items (λ (r : Replica). r.lfn)) found.0) found.1 found.2 c.index_mut.ensures.value c.in_ok-absorb-in-Some.ensures

pub returns-in_ok-absorb-in-Some-clause-lfns : goal.returns-in_ok-absorb-in-Some-clause-lfns
returns-in_ok-absorb-in-Some-clause-lfns c =
    let grows : c.absorb.new.self ≡ absorbed c.index_mut.result.now c.args.entry = c.in_ok-absorb-in-Some.ensures in
    let named : c.absorb.new.self.lfn ≡ c.index_mut.result.now.lfn = ap (λ (r : Replica). r.lfn) grows in
    c.requires
    ∙ sym (map-set_same (λ (r : Replica). r.lfn) c.args.merged.now.items c.in-Some.place c.absorb.new.self c.index_mut.result.now (named ∙ ap (λ (r : Replica). r.lfn) c.index_mut.ensures.value))

pub returns-in_ok-push-in-None-clause-merged : goal.returns-in_ok-push-in-None-clause-merged
returns-in_ok-push-in-None-clause-merged c =
    let absent : list_any (bytes_eq c.args.entry.lfn) (lfns_of c.args.merged.now.items) ≡ false = grind (arith, common_steps) in
    let pushed : c.push.new.self.items ≡ c.args.merged.now.items ++ c.args.entry ∷ [] = grind (arith, common_steps) in
    pushed ∙ sym (not_there c.args.merged.now.items c.args.entry absent)
