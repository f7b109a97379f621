use Rattle.std.proofs.Common.{◌≡◌, ◌<◌, ◌∙◌, ℕ, List, length, map, sym, ap, subst, refl}
use Rattle.std.specs.Prelude.{Err}
use Rattle.workflow_core.specs.declared.workflow.Job.{Job}
use Rattle.dependency_graph.specs.declared.makers.Makers.{Makers}
use Rattle.dependency_graph.specs.declared.fault.GraphFault.{GraphFault}
use Rattle.dependency_graph.specs.Edges.{makers_from}
use Rattle.dependency_graph.specs.code.Makers.{known, first_two}
use Rattle.dependency_graph.specs.code.Built.{FindsProducers}
use Rattle.dependency_graph.proofs.BuiltLemmas.{contested_is, producers_are}
use Rattle.dependency_graph.proofs.BuiltLemmas.{no_answer}
use Rattle.dependency_graph.proofs.built.producers_of.Goals as goal

pub two_producers-requires-clause-first : goal.two_producers-requires-clause-first
two_producers-requires-clause-first c =
    let long : length c.deref.result.now ≡ length c.args.workflow.now.files = ap length c.deref.ensures.value ∙ c.in_ok-table.ensures.long ∙ ap length c.as_slice-2.ensures in
    let tells : (f : ℕ) → f < length c.args.workflow.now.files → known c.deref.result.now f ≡ first_two (makers_from f 0 c.args.workflow.now.jobs) =
    λ f h. ap (λ (t : List Makers). known t f) c.deref.ensures.value ∙ c.in_ok-table.ensures.first f (subst (λ (fs : List (List ℕ)). f < length fs) (sym c.as_slice-2.ensures) h) ∙ ap (λ (js : List Job). first_two (makers_from f 0 js)) c.as_slice.ensures in
    let here = contested_is c.args.workflow.now c.deref.result.now c.in-Some.file.0 c.in-Some.first c.in-Some.second long tells c.in-Some.ensures.0 c.in-Some.ensures.1 c.in-Some.ensures.2 c.in-Some.ensures.3 in
    here.first_in

pub two_producers-requires-clause-second : goal.two_producers-requires-clause-second
two_producers-requires-clause-second c =
    let long : length c.deref.result.now ≡ length c.args.workflow.now.files = ap length c.deref.ensures.value ∙ c.in_ok-table.ensures.long ∙ ap length c.as_slice-2.ensures in
    let tells : (f : ℕ) → f < length c.args.workflow.now.files → known c.deref.result.now f ≡ first_two (makers_from f 0 c.args.workflow.now.jobs) =
    λ f h. ap (λ (t : List Makers). known t f) c.deref.ensures.value ∙ c.in_ok-table.ensures.first f (subst (λ (fs : List (List ℕ)). f < length fs) (sym c.as_slice-2.ensures) h) ∙ ap (λ (js : List Job). first_two (makers_from f 0 js)) c.as_slice.ensures in
    let here = contested_is c.args.workflow.now c.deref.result.now c.in-Some.file.0 c.in-Some.first c.in-Some.second long tells c.in-Some.ensures.0 c.in-Some.ensures.1 c.in-Some.ensures.2 c.in-Some.ensures.3 in
    here.second_in

pub returns-in-Some : goal.returns-in-Some
returns-in-Some c =
    let long : length c.deref.result.now ≡ length c.args.workflow.now.files = ap length c.deref.ensures.value ∙ c.in_ok-table.ensures.long ∙ ap length c.as_slice-2.ensures in
    let tells : (f : ℕ) → f < length c.args.workflow.now.files → known c.deref.result.now f ≡ first_two (makers_from f 0 c.args.workflow.now.jobs) =
    λ f h. ap (λ (t : List Makers). known t f) c.deref.ensures.value ∙ c.in_ok-table.ensures.first f (subst (λ (fs : List (List ℕ)). f < length fs) (sym c.as_slice-2.ensures) h) ∙ ap (λ (js : List Job). first_two (makers_from f 0 js)) c.as_slice.ensures in
    let here = contested_is c.args.workflow.now c.deref.result.now c.in-Some.file.0 c.in-Some.first c.in-Some.second long tells c.in-Some.ensures.0 c.in-Some.ensures.1 c.in-Some.ensures.2 c.in-Some.ensures.3 in
    subst (λ (e : GraphFault). FindsProducers c.args.workflow.now (Err e)) (sym c.in_ok-two_producers.ensures)
    (record { file = c.in-Some.file.0; first = c.in-Some.first.0; second = c.in-Some.second.0; contested = here.contested; name_is = refl; one_is = refl; two_is = refl })

pub returns : goal.returns
returns c =
    let long : length c.deref.result.now ≡ length c.args.workflow.now.files = ap length c.deref.ensures.value ∙ c.in_ok-table.ensures.long ∙ ap length c.as_slice-2.ensures in
    let tells : (f : ℕ) → f < length c.args.workflow.now.files → known c.deref.result.now f ≡ first_two (makers_from f 0 c.args.workflow.now.jobs) =
    λ f h. ap (λ (t : List Makers). known t f) c.deref.ensures.value ∙ c.in_ok-table.ensures.first f (subst (λ (fs : List (List ℕ)). f < length fs) (sym c.as_slice-2.ensures) h) ∙ ap (λ (js : List Job). first_two (makers_from f 0 js)) c.as_slice.ensures in
    producers_are c.args.workflow.now c.deref.result.now c.in_ok-first_makers.field-0.items long tells
    (no_answer c.contested.result _ _ (λ x e. c.in_default.not-Some x e) c.contested.ensures)
    (c.in_ok-first_makers.ensures ∙ ap (map (λ (m : Makers). m.first)) (c.deref-2.ensures.value ∙ sym c.deref.ensures.value))
