use Rattle.std.proofs.Common.{◌≡◌, ◌+◌, List, [], ◌∷◌, ◌++◌, drop, ap, sym, ◌∙◌, arith}
use Rattle.std.specs.Prelude.{is_some}
use Rattle.std.specs.Map.{lookup}
use Rattle.std.proofs.lemmas.List.{drop_more}
use Rattle.indexmap.proofs.CallerLemmas.{insert_entry-new}
use Rattle.workflow_core.specs.declared.workflow.Transformation.{Transformation}
use Rattle.transformation_catalog.specs.declared.catalog.TransformationEntry.{TransformationEntry}
use Rattle.transformation_catalog.specs.Catalog.{same_transformation}
use Rattle.transformation_catalog.specs.Lookup.{place_of}
use Rattle.transformation_catalog.proofs.LookupLemmas.{Places, place_in, at_first, step_known, step_new, none_of}
use Rattle.transformation_catalog.proofs.lookup.places_of.Goals as goal
use Rattle.transformation_catalog.proofs.lookup.places_of.Goals.{then-not-contains_key+in_ok-insert, else-not-contains_key}

pub loop-place-init : goal.loop-place-init
loop-place-init c = λ t. ap (λ (known : Places). place_in known 0 c.args.entries.now t) c.new-places.ensures.empty ∙ at_first c.args.entries.now t

pub loop-place-preserved : goal.loop-place-preserved
loop-place-preserved c =
    let items = c.args.entries.now in
    let e = c.index-entries-place.result in
    let i = c.loop-place.place in
    let known : Places = c.loop-place.places.entries in
    let later = drop (i + 1) items in
    let cut : drop i items ≡ e ∷ later = drop_more items i e (omega arith) ∙ ap (λ (v : TransformationEntry). v ∷ later) (sym c.index-entries-place.is) in
    let so_far : (t : Transformation) → place_in known i (e ∷ later) t ≡ place_of items t = λ t. sym (ap (λ (es : List TransformationEntry). place_in known i es t) cut) ∙ c.loop-place.invariant t in
    elim c.if-not-contains_key.branch [
      | then-not-contains_key+in_ok-insert w ↦
          let absent = none_of _ (sym c.contains_key.ensures ∙ w.if-not-contains_key.true) in
          let added =
          w.in_ok-insert.ensures.entries
          ∙ insert_entry-new same_transformation c.loop-place.places c.new-key.result i absent
          ∙ ap (λ (s : Transformation). known ++ (s, i) ∷ []) c.new-key.ensures in
          λ t. (λ j. place_in ((w.places-is j).entries) (i + 1) later t)
          ∙ ap (λ (ks : Places). place_in ks (i + 1) later t) added
          ∙ step_new known i e later t
          ∙ so_far t
      | else-not-contains_key w ↦
          let there = ap (λ (s : Transformation). is_some (lookup (same_transformation s) known)) (sym c.new-key.ensures) ∙ sym c.contains_key.ensures ∙ w.if-not-contains_key.false in
          λ t. (λ j. place_in ((w.places-is j).entries) (i + 1) later t) ∙ step_known known i e later t there ∙ so_far t
    ]
