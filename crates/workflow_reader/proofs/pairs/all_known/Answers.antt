use Rattle.std.proofs.Common.{◌≡◌, ◌+◌, ◌∷◌, drop, ap, sym, ◌∙◌, arith}
use Rattle.std.specs.Prelude.{Some, None}
use Rattle.std.proofs.lemmas.Grind.{common_steps}
use Rattle.std.proofs.lemmas.List.{drop_more}
use Rattle.workflow_reader.specs.declared.document.Dependency.{Dependency}
use Rattle.peg_json.specs.Elements.{first_unknown}
use Rattle.workflow_reader.specs.Linking.{ids_in}
use Rattle.workflow_reader.proofs.DuplicatesLemmas.{none_unknown, one_unknown}
use Rattle.workflow_reader.proofs.pairs.all_known.Goals as goal

pub loop-dependency-preserved : goal.loop-dependency-preserved
loop-dependency-preserved c =
    let d = c.dependency-item.result in
    let rest = drop (c.loop-dependency.dependency-index + 1) c.args.dependencies.now in
    let none : None ≡ first_unknown c.args.ids.now (c.dependency-item.result.id ∷ c.dependency-item.result.children) = grind (arith, common_steps) in
    none_unknown c.args.ids.now (drop c.loop-dependency.dependency-index c.args.dependencies.now) rest d (first_unknown c.args.ids.now (ids_in c.args.dependencies.now))
    (drop_more c.args.dependencies.now c.loop-dependency.dependency-index d (omega arith) ∙ ap (λ (e : Dependency). e ∷ rest) (sym c.dependency-item.is))
    none
    c.loop-dependency.invariant

pub returns-in-Some : goal.returns-in-Some
returns-in-Some c =
    let d = c.dependency-item.result in
    let rest = drop (c.loop-dependency.dependency-index + 1) c.args.dependencies.now in
    let one : Some c.in-Some.id.now ≡ first_unknown c.args.ids.now (c.dependency-item.result.id ∷ c.dependency-item.result.children) = grind (arith, common_steps) in
    let h = one_unknown c.args.ids.now (drop c.loop-dependency.dependency-index c.args.dependencies.now) rest d (first_unknown c.args.ids.now (ids_in c.args.dependencies.now)) c.in-Some.id.now
    (drop_more c.args.dependencies.now c.loop-dependency.dependency-index d (omega arith) ∙ ap (λ (e : Dependency). e ∷ rest) (sym c.dependency-item.is))
    one
    c.loop-dependency.invariant in
    grind (arith, h)
