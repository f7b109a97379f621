-- The jobs of a Run are in sequence.
use Rattle.std.proofs.Common.{◌≡◌, ℕ, zero, suc, ◌<◌, Bool, true, false, not, ◌||◌, List, [], ◌∷◌, ◌++◌, length, map, refl, sym, ap, subst, ◌∙◌, nat_eq, arith, ◌⊎◌, inl, inr}
use Rattle.std.specs.Prelude.{Some, slice_get, slice_index_or}
use Rattle.std.specs.List.{list_any, AllByRecursion}
use Rattle.std.proofs.lemmas.List.{append_assoc, append-nil}
use Rattle.std.proofs.lemmas.List.Folds.{list_any-append}
use Rattle.std.proofs.lemmas.Option.{get_or_from_slice_get}
use Rattle.values.specs.declared.numbers.JobId.{JobId}
use Rattle.workflow_core.specs.declared.workflow.Job.{Job}
use Rattle.workflow_core.specs.code.WellFormed as formed
use Rattle.workflow_core.specs.WellFormed.{outputs_of}
use Rattle.workflow_core.specs.code.WellFormed.{IsJobOver}
use Rattle.dependency_graph.specs.Edges.{read_by, written_by}
use Rattle.plan_core.specs.declared.plan.Plan.{Plan}
use Rattle.plan_core.specs.Numbers.{has}
use Rattle.plan_core.specs.Words.{inputs, outputs, job_numbers}
use Rattle.plan_core.specs.code.Proper.{are_new, is_sequence}
use Rattle.transfer_refiner.specs.Draft.{Draft, part_uses, part_makes}
use Rattle.transfer_refiner.specs.Tasks.{count_files}
use Rattle.transfer_refiner.specs.code.Conditions.{IsDraft, IsOrdered}
use Rattle.transfer_refiner.specs.Refined.{IsRefined}
use Rattle.plan_core.proofs.TestLemmas.{both, and_both, either, not_true, or_left, or_right}
use Rattle.plan_core.proofs.NumbersLemmas.{any_one}
use Rattle.transfer_refiner.proofs.JobsLemmas.{made_below}
use Rattle.transfer_refiner.proofs.MakersLemmas.{job_of_any, one_maker}
use Rattle.transfer_refiner.proofs.PlanJobsLemmas.{inputs_are, outputs_are}

twice : (d : Draft) → IsDraft d → (c : ℕ) (js done later : List JobId) (j : JobId) (f : ℕ) → slice_get d.parts c ≡ Some js → js ≡ done ++ j ∷ later → has (written_by d.workflow j.0) f ≡ true → part_makes d later f ≡ true → ⊥
twice d draft c js done later j f at is one two =
    let other = job_of_any (λ i. has (written_by d.workflow i) f) later two in
    let low : f < count_files d = made_below d draft later f two in
    let same : j.0 ≡ other.0 = one_maker d draft j.0 other.0 f low one other.2 in
    let none : has (job_numbers later) j.0 ≡ false = draft.once c done later j (get_or_from_slice_get d.parts c js [] at ∙ is) in
    (let x : false ≡ true = sym none ∙ ap (has (job_numbers later)) same ∙ other.1 in cc)

turn_false : (b : Bool) → (b ≡ true → ⊥) → b ≡ false
turn_false true h = absurd (h refl)
turn_false false h = refl

-- a job reads nothing that it or a later job makes
earlier : (d : Draft) → IsDraft d → (c : ℕ) (js done later : List JobId) (j : JobId) (f : ℕ) → slice_get d.parts c ≡ Some js → js ≡ done ++ j ∷ later → has (read_by d.workflow j.0) f ≡ true → part_makes d (j ∷ later) f ≡ true → ⊥
earlier d draft c js done later j f at is reads_it makes_it =
    let ordered : IsOrdered d js = subst (IsOrdered d) (get_or_from_slice_get d.parts c js [] at) (draft.ordered c) in
    let all : part_makes d js f ≡ true = ap (λ (xs : List JobId). part_makes d xs f) is ∙ list_any-append (λ (i : JobId). has (written_by d.workflow i.0) f) done (j ∷ later) ∙ or_right (part_makes d done f) (part_makes d (j ∷ later) f) makes_it in
    let found = any_one (λ (i : JobId). has (written_by d.workflow i.0) f) done (ordered done later j is f reads_it all) in
    twice d draft c js found.1 (found.2 ++ j ∷ later) found.0 f at
    (is ∙ ap (λ (xs : List JobId). xs ++ j ∷ later) found.3 ∙ append_assoc found.1 (found.0 ∷ found.2) (j ∷ later)) found.4
    (list_any-append (λ (i : JobId). has (written_by d.workflow i.0) f) found.2 (j ∷ later) ∙ or_right (part_makes d found.2 f) (part_makes d (j ∷ later) f) makes_it)

eq_turned : (a b : ℕ) → nat_eq a b ≡ nat_eq b a
eq_turned a b = grind arith

has_turned : (xs : List ℕ) (f : ℕ) → list_any (nat_eq f) xs ≡ has xs f
has_turned [] f = refl
has_turned (x ∷ xs) f = ap (λ (b : Bool). b || list_any (nat_eq f) xs) (eq_turned f x) ∙ ap (λ (b : Bool). nat_eq x f || b) (has_turned xs f)

fresh : (base prev fs : List ℕ) → formed.are_new nat_eq prev fs ≡ true → ((f : ℕ) → has fs f ≡ true → has base f ≡ false) → are_new (base ++ prev) fs ≡ true
fresh base prev [] h low = refl
fresh base prev (f ∷ fs) h low =
    let parts = both (not (list_any (nat_eq f) prev)) (formed.are_new nat_eq (prev ++ f ∷ []) fs) h in
    let one : has base f ≡ false = low f (or_left (nat_eq f f) (has fs f) (let e : nat_eq f f ≡ true = grind arith in e)) in
    let two : has prev f ≡ false = sym (has_turned prev f) ∙ not_true (list_any (nat_eq f) prev) parts.0 in
    let none : has (base ++ prev) f ≡ false = list_any-append (λ y. nat_eq y f) base prev ∙ ap (λ (b : Bool). b || has prev f) one ∙ two in
    and_both (not (has (base ++ prev) f)) (are_new ((base ++ prev) ++ f ∷ []) fs) (ap not none)
    (ap (λ (xs : List ℕ). are_new xs fs) (append_assoc base prev (f ∷ [])) ∙ fresh base (prev ++ f ∷ []) fs parts.1 (λ g k. low g (or_right (nat_eq f g) (has fs g) k)))

once_at : (n : ℕ) (js : List Job) → AllByRecursion (IsJobOver n) js → (j : ℕ) → formed.are_new nat_eq [] (slice_index_or (map outputs_of js) j []) ≡ true
once_at n [] all j = refl
once_at n (x ∷ js) all zero = all.0.outputs_once
once_at n (x ∷ js) all (suc j) = once_at n js all.1 j

pub sequence : (d : Draft) (p : Plan) → IsDraft d → IsRefined d p → (c : ℕ) (js done later : List JobId) (seen : List ℕ) → slice_get d.parts c ≡ Some js → js ≡ done ++ later → ((f : ℕ) → has seen f ≡ true → (part_uses d done f || part_makes d done f) ≡ true) → is_sequence p.jobs seen later ≡ true
sequence d p draft refined c js done [] seen at is known = refl
sequence d p draft refined c js done (j ∷ later) seen at is known =
    and_both (are_new (seen ++ inputs p.jobs j.0) (outputs p.jobs j.0)) (is_sequence p.jobs (seen ++ inputs p.jobs j.0 ++ outputs p.jobs j.0) later)
    (ap (λ (xs : List ℕ). are_new xs (outputs p.jobs j.0)) (sym (append-nil (seen ++ inputs p.jobs j.0))) ∙ fresh (seen ++ inputs p.jobs j.0) [] (outputs p.jobs j.0)
    (ap (λ (xs : List ℕ). formed.are_new nat_eq [] xs) (outputs_are d p draft refined j.0) ∙ once_at (length d.workflow.files) d.workflow.jobs draft.formed.jobs j.0)
    (λ f h. turn_false (has (seen ++ inputs p.jobs j.0) f) (λ k. old f (ap (λ (xs : List ℕ). has xs f) (sym (outputs_are d p draft refined j.0)) ∙ h) (either (has seen f) (has (inputs p.jobs j.0) f) (sym (list_any-append (λ y. nat_eq y f) seen (inputs p.jobs j.0)) ∙ k)))))
    (sequence d p draft refined c js (done ++ j ∷ []) later (seen ++ inputs p.jobs j.0 ++ outputs p.jobs j.0) at (is ∙ sym (append_assoc done (j ∷ []) later)) more)
  where
    old : (f : ℕ) → has (written_by d.workflow j.0) f ≡ true → (has seen f ≡ true) ⊎ (has (inputs p.jobs j.0) f ≡ true) → ⊥
    old f writes_it (inr h) = earlier d draft c js done later j f at is (ap (λ (xs : List ℕ). has xs f) (sym (inputs_are d p draft refined j.0)) ∙ h) (or_left (has (written_by d.workflow j.0) f) (part_makes d later f) writes_it)
    old f writes_it (inl h) = on (either (part_uses d done f) (part_makes d done f) (known f h))
      where
        later_makes : (rest : List JobId) → part_makes d (rest ++ j ∷ later) f ≡ true
        later_makes rest = list_any-append (λ (i : JobId). has (written_by d.workflow i.0) f) rest (j ∷ later) ∙ or_right (part_makes d rest f) (part_makes d (j ∷ later) f) (or_left (has (written_by d.workflow j.0) f) (part_makes d later f) writes_it)

        on : (part_uses d done f ≡ true) ⊎ (part_makes d done f ≡ true) → ⊥
        on (inl k) =
            let found = any_one (λ (i : JobId). has (read_by d.workflow i.0) f) done k in
            earlier d draft c js found.1 (found.2 ++ j ∷ later) found.0 f at (is ∙ ap (λ (xs : List JobId). xs ++ j ∷ later) found.3 ∙ append_assoc found.1 (found.0 ∷ found.2) (j ∷ later)) found.4
            (or_right (has (written_by d.workflow found.0.0) f) (part_makes d (found.2 ++ j ∷ later) f) (later_makes found.2))
        on (inr k) =
            let found = any_one (λ (i : JobId). has (written_by d.workflow i.0) f) done k in
            twice d draft c js found.1 (found.2 ++ j ∷ later) found.0 f at (is ∙ ap (λ (xs : List JobId). xs ++ j ∷ later) found.3 ∙ append_assoc found.1 (found.0 ∷ found.2) (j ∷ later)) found.4 (later_makes found.2)

    shift : (u m a b : Bool) → (u || m) ≡ true → ((u || (a || false)) || (m || (b || false))) ≡ true
    shift true m a b h = refl
    shift false true true b h = refl
    shift false true false b h = refl
    shift false false a b h = absurd cc

    fresh_read : (u m a b : Bool) → a ≡ true → ((u || (a || false)) || (m || (b || false))) ≡ true
    fresh_read true m a b h = refl
    fresh_read false m true b h = refl
    fresh_read false m false b h = absurd cc

    fresh_made : (u m a b : Bool) → b ≡ true → ((u || (a || false)) || (m || (b || false))) ≡ true
    fresh_made true m a b h = refl
    fresh_made false m true b h = refl
    fresh_made false true false b h = refl
    fresh_made false false false true h = refl
    fresh_made false false false false h = absurd cc

    whole : (f : ℕ) → ((part_uses d done f || (has (read_by d.workflow j.0) f || false)) || (part_makes d done f || (has (written_by d.workflow j.0) f || false))) ≡ true → (part_uses d (done ++ j ∷ []) f || part_makes d (done ++ j ∷ []) f) ≡ true
    whole f h =
        ap (λ (b : Bool). b || part_makes d (done ++ j ∷ []) f) (list_any-append (λ (i : JobId). has (read_by d.workflow i.0) f) done (j ∷ []))
        ∙ ap (λ (b : Bool). (part_uses d done f || (has (read_by d.workflow j.0) f || false)) || b) (list_any-append (λ (i : JobId). has (written_by d.workflow i.0) f) done (j ∷ [])) ∙ h

    more : (f : ℕ) → has (seen ++ inputs p.jobs j.0 ++ outputs p.jobs j.0) f ≡ true → (part_uses d (done ++ j ∷ []) f || part_makes d (done ++ j ∷ []) f) ≡ true
    more f h = whole f (top (either (has (seen ++ inputs p.jobs j.0) f) (has (outputs p.jobs j.0) f) (sym (list_any-append (λ y. nat_eq y f) (seen ++ inputs p.jobs j.0) (outputs p.jobs j.0)) ∙ h)))
      where
        rest : (has (inputs p.jobs j.0) f ≡ true) ⊎ (has (outputs p.jobs j.0) f ≡ true) → ((part_uses d done f || (has (read_by d.workflow j.0) f || false)) || (part_makes d done f || (has (written_by d.workflow j.0) f || false))) ≡ true
        rest (inl k) = fresh_read (part_uses d done f) (part_makes d done f) (has (read_by d.workflow j.0) f) (has (written_by d.workflow j.0) f) (ap (λ (xs : List ℕ). has xs f) (sym (inputs_are d p draft refined j.0)) ∙ k)
        rest (inr k) = fresh_made (part_uses d done f) (part_makes d done f) (has (read_by d.workflow j.0) f) (has (written_by d.workflow j.0) f) (ap (λ (xs : List ℕ). has xs f) (sym (outputs_are d p draft refined j.0)) ∙ k)

        low : (has seen f ≡ true) ⊎ (has (inputs p.jobs j.0) f ≡ true) → ((part_uses d done f || (has (read_by d.workflow j.0) f || false)) || (part_makes d done f || (has (written_by d.workflow j.0) f || false))) ≡ true
        low (inl k) = shift (part_uses d done f) (part_makes d done f) (has (read_by d.workflow j.0) f) (has (written_by d.workflow j.0) f) (known f k)
        low (inr k) = rest (inl k)

        top : (has (seen ++ inputs p.jobs j.0) f ≡ true) ⊎ (has (outputs p.jobs j.0) f ≡ true) → ((part_uses d done f || (has (read_by d.workflow j.0) f || false)) || (part_makes d done f || (has (written_by d.workflow j.0) f || false))) ≡ true
        top (inl k) = low (either (has seen f) (has (inputs p.jobs j.0) f) (sym (list_any-append (λ y. nat_eq y f) seen (inputs p.jobs j.0)) ∙ k))
        top (inr k) = rest (inr k)
