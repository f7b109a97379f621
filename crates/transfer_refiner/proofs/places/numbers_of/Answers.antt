use Rattle.std.proofs.Common.{◌≡◌, ℕ, ◌+◌, List, [], ◌∷◌, ◌++◌, drop, ap, sym, ◌∙◌, arith}
use Rattle.std.specs.Prelude.{is_some, position, slice_index_or}
use Rattle.std.specs.Map.{lookup}
use Rattle.std.proofs.lemmas.List.{drop_more}
use Rattle.indexmap.proofs.CallerLemmas.{insert_entry-new}
use Rattle.plan_core.specs.declared.plan.Pair.{Pair}
use Rattle.transfer_refiner.specs.code.Places.{is_pair_of}
use Rattle.transfer_refiner.proofs.PlacesLemmas.{Known, pair_eq, place_in, at_first, step_known, step_new, none_of}
use Rattle.transfer_refiner.proofs.places.numbers_of.Goals as goal
use Rattle.transfer_refiner.proofs.places.numbers_of.Goals.{then-not-contains_key+in_ok-insert, else-not-contains_key}

pub loop-place-init : goal.loop-place-init
loop-place-init c = λ s f. ap (λ (known : Known). place_in known 0 c.args.pairs.now s f) c.new-numbers.ensures.empty ∙ at_first c.args.pairs.now s f

pub loop-place-preserved : goal.loop-place-preserved
loop-place-preserved c =
    let items = c.args.pairs.now in
    let i = c.loop-place.place in
    let none : Pair = record { site = record { 0 = 0 }; file = record { 0 = 0 } } in
    let e = slice_index_or items i none in
    let known : Known = c.loop-place.numbers.entries in
    let later = drop (i + 1) items in
    let cut : drop i items ≡ e ∷ later = drop_more items i none (omega arith) in
    let so_far : (s f : ℕ) → place_in known i (e ∷ later) s f ≡ position (is_pair_of s f) items = λ s f. sym (ap (λ (es : List Pair). place_in known i es s f) cut) ∙ c.loop-place.invariant s f in
    elim c.if-not-contains_key.branch [
      | then-not-contains_key+in_ok-insert w ↦
          let absent = none_of _ (sym c.contains_key.ensures ∙ w.if-not-contains_key.true) in
          let added = w.in_ok-insert.ensures.entries ∙ insert_entry-new pair_eq c.loop-place.numbers _ i absent ∙ ap (λ (k : ℕ × ℕ). known ++ (k, i) ∷ []) c.key_of-key.ensures in
          λ s f. (λ j. place_in ((w.numbers-is j).entries) (i + 1) later s f)
          ∙ ap (λ (ks : Known). place_in ks (i + 1) later s f) added
          ∙ step_new known i e later s f
          ∙ so_far s f
      | else-not-contains_key w ↦
          let there = ap (λ (k : ℕ × ℕ). is_some (lookup (pair_eq k) known)) (sym c.key_of-key.ensures) ∙ sym c.contains_key.ensures ∙ w.if-not-contains_key.false in
          λ s f. (λ j. place_in ((w.numbers-is j).entries) (i + 1) later s f) ∙ step_known known i e later s f there ∙ so_far s f
    ]
