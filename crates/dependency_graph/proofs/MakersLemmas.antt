-- A table of the first two jobs that make each file, one job more.
use Rattle.std.proofs.Common.{◌≡◌, ℕ, suc, ◌+◌, ◌<◌, ◌≤◌, Bool, true, false, cond, ◌||◌, List, [], ◌∷◌, ◌++◌, length, map, refl, sym, ap, ◌∙◌, nat_eq, arith}
use Rattle.std.specs.Prelude.{Option, Some, None, slice_set}
use Rattle.std.specs.List.{All, AllByRecursion}
use Rattle.std.proofs.lemmas.List.Elements.{All-same, All-nil, All-cons, recursion_from_All}
use Rattle.workflow_core.specs.declared.workflow.Output.{Output}
use Rattle.std.proofs.lemmas.Grind.{common_steps}
use Rattle.std.proofs.lemmas.List.{append-nil}
use Rattle.std.proofs.lemmas.List.Folds.{list_any-append}
use Rattle.values.specs.declared.numbers.JobId.{JobId}
use Rattle.workflow_core.specs.declared.workflow.Job.{Job}
use Rattle.workflow_core.specs.WellFormed.{outputs_of}
use Rattle.std.proofs.Math.Bool.{or-false, or-true}
use Rattle.std.proofs.lemmas.Bool.{eq-eqb, eqb-true, ne_eqb}
use Rattle.dependency_graph.specs.Edges.{has_output, is_among, makers_from}
use Rattle.dependency_graph.specs.code.Makers.{AreNoted, first_two, known, noted, noted_after, or_job}
use Rattle.dependency_graph.specs.declared.makers.Makers.{Makers}

or_job_twice : (s : Option JobId) (j : JobId) → or_job (or_job s j) j ≡ or_job s j
or_job_twice None j = refl
or_job_twice (Some a) j = refl

after_twice : (o s : Option JobId) (j : JobId) → noted_after (noted_after o s j).first (noted_after o s j).second j ≡ noted_after o s j
after_twice None s j = ap (λ (b : Bool). record { first = Some j; second = cond b s (or_job s j) }) (eq-eqb j.0 j.0 refl)
after_twice (Some a) s j = by (nat_eq a.0 j.0)
  where
    with_second : Option JobId → Makers
    with_second x = record { first = Some a; second = x }

    by : (t : Bool) → with_second (cond t (cond t s (or_job s j)) (or_job (cond t s (or_job s j)) j)) ≡ with_second (cond t s (or_job s j))
    by true = refl
    by false = ap with_second (or_job_twice s j)

pub noted_twice : (j : JobId) (m : Makers) → noted j (noted j m) ≡ noted j m
noted_twice j m = after_twice m.first m.second j

known_set : (table : List Makers) (o f : ℕ) (m : Makers) → o < length table → known (slice_set table o m) f ≡ cond (nat_eq o f) m (known table f)
known_set table o f m h = grind (arith, common_steps)

among_push : (fs : List ℕ) (o f : ℕ) → is_among f (fs ++ o ∷ []) ≡ (is_among f fs || nat_eq o f)
among_push fs o f = list_any-append (λ p. nat_eq p f) fs (o ∷ []) ∙ ap (λ (b : Bool). is_among f fs || b) (or-false (nat_eq o f))

-- one file more
pub note_more : (old cur : List Makers) (j : JobId) (fs : List ℕ) (o : ℕ) → AreNoted old cur j fs → o < length cur → AreNoted old (slice_set cur o (noted j (known cur o))) j (fs ++ o ∷ [])
note_more old cur j fs o are h f = known_set cur o f (noted j (known cur o)) h ∙ by (nat_eq o f) refl
  where
    once : (b : Bool) (m : Makers) → noted j (cond b (noted j m) m) ≡ noted j m
    once true m = noted_twice j m
    once false m = refl

    by : (t : Bool) → nat_eq o f ≡ t → cond t (noted j (known cur o)) (known cur f) ≡ cond (is_among f (fs ++ o ∷ [])) (noted j (known old f)) (known old f)
    by true e =
        ap (λ (n : ℕ). noted j (known cur n)) (eqb-true o f e)
        ∙ ap (noted j) (are f) ∙ once (is_among f fs) (known old f)
        ∙ sym (ap (λ (b : Bool). cond b (noted j (known old f)) (known old f)) (among_push fs o f ∙ ap (λ (b : Bool). is_among f fs || b) e ∙ or-true (is_among f fs)))
    by false e =
        are f ∙ sym (ap (λ (b : Bool). cond b (noted j (known old f)) (known old f)) (among_push fs o f ∙ ap (λ (b : Bool). is_among f fs || b) e ∙ or-false (is_among f fs)))

pub first_two_more : (ns : List ℕ) (i : ℕ) → AllByRecursion (λ a. a < i) ns → first_two (ns ++ i ∷ []) ≡ noted (record { 0 = i }) (first_two ns)
first_two_more [] i low = refl
first_two_more (a ∷ []) i low = sym (ap (λ (b : Bool). record { first = Some (record { 0 = a }); second = cond b None (Some (record { 0 = i })) }) (ne_eqb a i (λ e. let h : a < i = low.0 in omega arith)))
first_two_more (a ∷ b ∷ ns) i low = by (nat_eq a i)
  where
    by : (t : Bool) → first_two (a ∷ b ∷ ns) ≡ record { first = Some (record { 0 = a }); second = cond t (Some (record { 0 = b })) (Some (record { 0 = b })) }
    by true = refl
    by false = refl

-- the jobs that make a file, one job more
pub makers_push : (f i : ℕ) (js : List Job) (j : Job) → makers_from f i (js ++ j ∷ []) ≡ makers_from f i js ++ cond (has_output f j) ((i + length js) ∷ []) []
makers_push f i [] j = ap (λ (n : ℕ). cond (has_output f j) (n ∷ []) []) (omega arith)
makers_push f i (k ∷ js) j = by (has_output f k) (makers_push f (suc i) js j ∙ ap (λ (n : ℕ). makers_from f (suc i) js ++ cond (has_output f j) (n ∷ []) []) shift)
  where
    shift : suc i + length js ≡ i + length (k ∷ js)
    shift = omega arith

    by : (t : Bool) → makers_from f (suc i) (js ++ j ∷ []) ≡ makers_from f (suc i) js ++ cond (has_output f j) ((i + length (k ∷ js)) ∷ []) []
        → cond t (i ∷ makers_from f (suc i) (js ++ j ∷ [])) (makers_from f (suc i) (js ++ j ∷ [])) ≡ cond t (i ∷ makers_from f (suc i) js) (makers_from f (suc i) js) ++ cond (has_output f j) ((i + length (k ∷ js)) ∷ []) []
    by true e = ap (λ (ns : List ℕ). i ∷ ns) e
    by false e = e

wider : (m n : ℕ) (ns : List ℕ) → m ≤ n → AllByRecursion (λ a. a < m) ns → AllByRecursion (λ a. a < n) ns
wider m n [] h low = tt
wider m n (a ∷ ns) h low = (let k : a < m = low.0 in omega arith, wider m n ns h low.1)

pub makers_below : (f i n : ℕ) (js : List Job) → i + length js ≤ n → AllByRecursion (λ a. a < n) (makers_from f i js)
makers_below f i n [] h = tt
makers_below f i n (j ∷ js) h = by (has_output f j) (makers_below f (suc i) n js (omega arith))
  where
    by : (t : Bool) → AllByRecursion (λ a. a < n) (makers_from f (suc i) js) → AllByRecursion (λ a. a < n) (cond t (i ∷ makers_from f (suc i) js) (makers_from f (suc i) js))
    by true low = (omega arith, low)
    by false low = low

-- one job more
pub table_more : (old new : List Makers) (js : List Job) (j : Job) (i f : ℕ) → i ≡ length js → known old f ≡ first_two (makers_from f 0 js) → AreNoted old new (record { 0 = i }) (outputs_of j) → known new f ≡ first_two (makers_from f 0 (js ++ j ∷ []))
table_more old new js j i f long is are =
    are f ∙ ap (λ (m : Makers). cond (has_output f j) (noted (record { 0 = i }) m) m) is ∙ by (has_output f j)
    ∙ ap (λ (n : ℕ). first_two (makers_from f 0 js ++ cond (has_output f j) (n ∷ []) [])) count ∙ sym (ap first_two (makers_push f 0 js j))
  where
    count : i ≡ 0 + length js
    count = omega arith

    by : (t : Bool) → cond t (noted (record { 0 = i }) (first_two (makers_from f 0 js))) (first_two (makers_from f 0 js)) ≡ first_two (makers_from f 0 js ++ cond t (i ∷ []) [])
    by true = sym (first_two_more (makers_from f 0 js) i (makers_below f 0 i js (omega arith)))
    by false = sym (ap first_two (append-nil (makers_from f 0 js)))

-- each output's file has a place
pub outputs_within : (os ps : List Output) (m n : ℕ) → os ≡ ps → n ≡ m → All (λ f. f < m) (map (λ (o : Output). o.file.0) ps) → All (λ (o : Output). o.file.0 < n) os
outputs_within os ps m n same e all = All-same (λ (o : Output). o.file.0 < n) os ps same (go ps (recursion_from_All (λ f. f < m) (map (λ (o : Output). o.file.0) ps) all))
  where
    go : (ps : List Output) → AllByRecursion (λ f. f < m) (map (λ (o : Output). o.file.0) ps) → All (λ (o : Output). o.file.0 < n) ps
    go [] all = All-nil (λ (o : Output). o.file.0 < n)
    go (o ∷ ps) all = All-cons (λ (o : Output). o.file.0 < n) o ps (let h : o.file.0 < m = all.0 in omega arith) (go ps all.1)
