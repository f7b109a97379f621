-- What the building answers is what a workflow has.
use Rattle.std.proofs.Common.{◌≡◌, ℕ, ◌<◌, ◌≤◌, false, List, [], ◌∷◌, length, map, refl, sym, ap, subst, ◌∙◌, arith}
use Rattle.std.specs.Prelude.{Option, Some, None, MatchOption}
use Rattle.std.specs.List.{AllByRecursion}
use Rattle.std.proofs.lemmas.List.{get_or-map, length-map}
use Rattle.values.specs.declared.numbers.JobId.{JobId}
use Rattle.workflow_core.specs.declared.workflow.Workflow.{Workflow}
use Rattle.dependency_graph.proofs.MakersLemmas.{makers_below}
use Rattle.dependency_graph.specs.code.Built.{AreProducers, IsContested}
use Rattle.dependency_graph.specs.Edges.{makers, makers_from}
use Rattle.dependency_graph.specs.Graph.{producer_of_file}
use Rattle.dependency_graph.specs.code.Makers.{are_two, first_two, known}
use Rattle.dependency_graph.specs.declared.makers.Makers.{Makers}

two_ones : (ns : List ℕ) (a b : JobId) → (first_two ns).first ≡ Some a → (first_two ns).second ≡ Some b → (later : List ℕ) × (ns ≡ a.0 ∷ b.0 ∷ later)
two_ones [] a b e f = absurd cc
two_ones (x ∷ []) a b e f = absurd cc
two_ones (x ∷ y ∷ ns) a b e f =
    let one : record { 0 = x } ≡ a = cc in
    let two : record { 0 = y } ≡ b = cc in
    (ns, ap (λ (j : JobId). j.0 ∷ y ∷ ns) one ∙ ap (λ (j : JobId). a.0 ∷ j.0 ∷ ns) two)

not_two : (ns : List ℕ) → are_two (first_two ns) ≡ false → length ns ≤ 1
not_two [] e = omega arith
not_two (x ∷ []) e = omega arith
not_two (x ∷ y ∷ ns) e = absurd cc

only_first : (ns : List ℕ) → length ns ≤ 1 → MatchOption (first_two ns).first (ns ≡ []) (λ (j : JobId). ns ≡ j.0 ∷ [])
only_first [] h = refl
only_first (x ∷ []) h = refl
only_first (x ∷ y ∷ ns) h = absurd (omega arith)

at_most_one : (o : Option JobId) (ns : List ℕ) → MatchOption o (ns ≡ []) (λ (j : JobId). ns ≡ j.0 ∷ []) → length ns ≤ 1
at_most_one None ns e = let l : length ns ≡ 0 = ap length e in omega (arith, l)
at_most_one (Some j) ns e = let l : length ns ≡ 1 = ap length e in omega (arith, l)

pub one_producer : (w : Workflow) (ps : List (Option JobId)) → AreProducers w ps → (f : ℕ) → f < length w.files → length (makers w f) ≤ 1
one_producer w ps are f h = at_most_one (producer_of_file ps f) (makers w f) (are.each f h)

-- the first contested file, its jobs in range
pub record Contested (w : Workflow) (file first second : ℕ) : Type 0 where
  pub contested : IsContested w file first second
  pub first_in : first < length w.jobs
  pub second_in : second < length w.jobs

pub contested_is : (w : Workflow) (table : List Makers) (file : ℕ) (first second : JobId) → length table ≡ length w.files → ((f : ℕ) → f < length w.files → known table f ≡ first_two (makers_from f 0 w.jobs))
    → file < length table → (known table file).first ≡ Some first → (known table file).second ≡ Some second → ((f : ℕ) → f < file → are_two (known table f) ≡ false) → Contested w file first.0 second.0
unfolding makers
contested_is w table file first second long tells low one two none =
    let within : file < length w.files = omega arith in
    let at : known table file ≡ first_two (makers_from file 0 w.jobs) = tells file within in
    let found = two_ones (makers_from file 0 w.jobs) first second (sym (ap (λ (m : Makers). m.first) at) ∙ one) (sym (ap (λ (m : Makers). m.second) at) ∙ two) in
    let all : AllByRecursion (λ a. a < length w.jobs) (first.0 ∷ second.0 ∷ found.0) = subst (λ (ns : List ℕ). AllByRecursion (λ a. a < length w.jobs) ns) found.1 (makers_below file 0 (length w.jobs) w.jobs (omega arith)) in
    record {
      contested = record {
        later = found.0;
        is = found.1;
        in_range = within;
        least = λ f h. not_two (makers_from f 0 w.jobs) (sym (ap are_two (tells f (omega arith))) ∙ none f h);
      };
      first_in = all.0;
      second_in = all.1.0;
    }

pub producers_are : (w : Workflow) (table : List Makers) (ps : List (Option JobId)) → length table ≡ length w.files → ((f : ℕ) → f < length w.files → known table f ≡ first_two (makers_from f 0 w.jobs))
    → ((f : ℕ) → f < length table → are_two (known table f) ≡ false) → ps ≡ map (λ (m : Makers). m.first) table → AreProducers w ps
unfolding makers
producers_are w table ps long tells none is = record {
  long = ap length is ∙ length-map table (λ (m : Makers). m.first) ∙ long;
  each = λ f h.
      let low : f < length table = omega arith in
      let at : producer_of_file ps f ≡ (first_two (makers_from f 0 w.jobs)).first = ap (λ (x : List (Option JobId)). producer_of_file x f) is ∙ get_or-map (λ (m : Makers). m.first) table f (record { first = None; second = None }) None low ∙ ap (λ (m : Makers). m.first) (tells f h) in
      let one : length (makers_from f 0 w.jobs) ≤ 1 = not_two (makers_from f 0 w.jobs) (sym (ap are_two (tells f h)) ∙ none f low) in
      subst (λ (o : Option JobId). MatchOption o (makers_from f 0 w.jobs ≡ []) (λ (j : JobId). makers_from f 0 w.jobs ≡ j.0 ∷ [])) (sym at) (only_first (makers_from f 0 w.jobs) one);
}

-- what holds where there is no answer
pub no_answer : {A : Type 0} (o : Option A) (P : Type 0) (Q : A → Type 0) → ((x : A) → o ≡ Some x → ⊥) → MatchOption o P Q → P
no_answer None P Q none h = h
no_answer (Some x) P Q none h = absurd (none x refl)

pub answer_none : {A : Type 0} (o : Option A) (P : Type 0) (Q : A → Type 0) → o ≡ None → MatchOption o P Q → P
answer_none None P Q e h = h
answer_none (Some x) P Q e h = absurd cc
