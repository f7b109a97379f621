-- A linked workflow is well formed.
use Rattle.std.proofs.Common.{◌≡◌, ℕ, ◌<◌, ◌≤◌, Bool, true, false, not, cond, ◌&&◌, ◌||◌, List, [], ◌∷◌, ◌++◌, length, map, refl, sym, ap, subst, ◌∙◌, nat_eq, nat_lt, arith}
use Rattle.std.specs.Prelude.{Option, Some, None, Result, Ok, Err}
use Rattle.std.specs.List.{list_any, list_all, flat_map, AllByRecursion}
use Rattle.std.specs.Str.{bytes_eq}
use Rattle.std.proofs.lemmas.Bool.{and_from, and_parts, not-true}
use Rattle.std.proofs.lemmas.List.{append-nil, length-map}
use Rattle.std.proofs.lemmas.List.Folds.{list_all-append}
use Rattle.values.specs.declared.numbers.FileId.{FileId}
use Rattle.values.specs.declared.numbers.JobId.{JobId}
use Rattle.peg_json.specs.Elements.{few}
use Rattle.peg_json.specs.declared.read_fault.Counted.{Counted}
use Rattle.peg_json.specs.declared.read_fault.Counted.TheVariants.{Jobs, Files}
use Rattle.peg_json.specs.declared.read_fault.ReadFault.{ReadFault}
use Rattle.peg_json.specs.declared.read_fault.ReadFault.TheVariants.{TooMany, DuplicateJob, UnknownJob}
use Rattle.workflow_core.specs.code.Law.{NumbersNames}
use Rattle.workflow_core.specs.Names.{number}
use Rattle.workflow_core.specs.View.{WorkflowEntry, workflow_view}
use Rattle.workflow_core.specs.code.WellFormed.{are_new, are_distinct, IsJobOver, IsSmallSize, IsWellFormed}
use Rattle.workflow_core.specs.WellFormed.{parent_of, child_of}
use Rattle.workflow_core.specs.declared.workflow.Job.{Job}
use Rattle.workflow_core.specs.declared.workflow.Output.{Output}
use Rattle.workflow_core.specs.declared.workflow.Workflow.{Workflow}
use Rattle.workflow_reader.specs.declared.document.Direction.{Direction}
use Rattle.workflow_reader.specs.declared.document.Direction.TheVariants.{Input, Output as Made}
use Rattle.workflow_reader.specs.declared.document.JobEntry.{JobEntry}
use Rattle.workflow_reader.specs.declared.document.Use.{Use}
use Rattle.workflow_reader.specs.declared.document.Dependency.{Dependency}
use Rattle.workflow_reader.specs.Workflow.{DocumentEntry}
use Rattle.peg_json.specs.Elements.{first_repeat, refused, first_unknown}
use Rattle.workflow_reader.specs.Linking.{same_direction, lfns_of_uses, lfns_in, files_of, uses_as, file_of, output_of}
use Rattle.workflow_reader.specs.Linking.{ids_of, same_use, used_once, all_used_once, ids_in, job_with_id, pairs_from, dependency_pairs, linked_job, workflow_entry, linked}
use Rattle.workflow_reader.specs.code.Small.{AreSmall}
use Rattle.workflow_reader.proofs.StepLemmas.{passed}
use Rattle.workflow_reader.proofs.DuplicatesLemmas.{same_as, known_as, names_more}
use Rattle.workflow_reader.proofs.SmallLemmas.{all_joined, sizes_small}

few_of : (c : Counted) (limit n : ℕ) (u : Unit {0}) → few c limit n ≡ Ok u → n ≤ limit
few_of c limit n u h = by (nat_lt limit n) refl h
  where
    by : (b : Bool) → nat_lt limit n ≡ b → cond b (Err (TooMany c n limit)) (Ok tt) ≡ Ok u → n ≤ limit
    by true e k = absurd cc
    by false e k = grind (arith, e)

not_refused : {A : Type 0} (fault : A → ReadFault) (o : Option A) (u : Unit {0}) → refused fault o ≡ Ok u → o ≡ None
not_refused fault None u h = refl
not_refused fault (Some x) u h = absurd cc

-- ---- what comes once

are_once : {A : Type 0} (same : A → A → Bool) (known xs : List A) → first_repeat same known xs ≡ None → are_new same known xs ≡ true
are_once same known [] h = refl
are_once {A} same known (x ∷ xs) h = by (list_any (same x) known) h (λ rest. are_once same (known ++ x ∷ []) xs rest)
  where
    by : (b : Bool) → cond b (Some x) (first_repeat same (known ++ x ∷ []) xs) ≡ None → (first_repeat same (known ++ x ∷ []) xs ≡ None → are_new same (known ++ x ∷ []) xs ≡ true) → (not b && are_new same (known ++ x ∷ []) xs) ≡ true
    by true k rest = absurd cc
    by false k rest = rest k

-- the names of a job's uses as d
names_once : (d : Direction) (known us : List Use) → first_repeat same_use known us ≡ None → are_new bytes_eq (lfns_of_uses (uses_as d known)) (lfns_of_uses (uses_as d us)) ≡ true
names_once d known [] h = refl
names_once d known (u ∷ us) h = by (list_any (same_use u) known) refl h (λ rest. subst (λ (ks : List (List ℕ)). are_new bytes_eq ks (lfns_of_uses (uses_as d us)) ≡ true) (names_more d known u) (names_once d (known ++ u ∷ []) us rest))
  where
    -- a use as d that isn't the same as a known one
    here : (e : Direction) → u.direction ≡ e → list_any (same_use u) known ≡ false → (b : Bool) → same_direction d e ≡ b
        → are_new bytes_eq (lfns_of_uses (uses_as d known) ++ lfns_of_uses (cond b (u ∷ []) [])) (lfns_of_uses (uses_as d us)) ≡ true
        → are_new bytes_eq (lfns_of_uses (uses_as d known)) (lfns_of_uses (cond b (u ∷ uses_as d us) (uses_as d us))) ≡ true
    here e is new true same rest = and_from _ _ (ap not (sym (known_as d u.lfn known) ∙ as_this d e is same)) rest
      where
        as_this : (d e : Direction) → u.direction ≡ e → same_direction d e ≡ true → list_any (same_as d u.lfn) known ≡ false
        as_this Input Input is same = ap (λ (f : Direction). list_any (same_as f u.lfn) known) (sym is) ∙ new
        as_this Input Made is same = absurd cc
        as_this Made Input is same = absurd cc
        as_this Made Made is same = ap (λ (f : Direction). list_any (same_as f u.lfn) known) (sym is) ∙ new
    here e is new false same rest = subst (λ (ks : List (List ℕ)). are_new bytes_eq ks (lfns_of_uses (uses_as d us)) ≡ true) (append-nil (lfns_of_uses (uses_as d known))) rest

    by : (b : Bool) → list_any (same_use u) known ≡ b → cond b (Some u) (first_repeat same_use (known ++ u ∷ []) us) ≡ None
        → (first_repeat same_use (known ++ u ∷ []) us ≡ None → are_new bytes_eq (lfns_of_uses (uses_as d known) ++ lfns_of_uses (uses_as d (u ∷ []))) (lfns_of_uses (uses_as d us)) ≡ true)
        → are_new bytes_eq (lfns_of_uses (uses_as d known)) (lfns_of_uses (uses_as d (u ∷ us))) ≡ true
    by true e k rest = absurd cc
    by false e k rest = here u.direction refl e (same_direction d u.direction) refl (rest k)

-- ---- files

-- each of the names is among the files
abbrev are_files : List (List ℕ) → List (List ℕ) → Bool
are_files files ns = list_all (λ n. list_any (bytes_eq n) files) ns

files_as : (files : List (List ℕ)) (d : Direction) (us : List Use) → are_files files (lfns_of_uses us) ≡ true → are_files files (lfns_of_uses (uses_as d us)) ≡ true
files_as files d [] there = refl
files_as files d (u ∷ us) there = by (same_direction d u.direction) (files_as files d us (and_parts _ _ there).1)
  where
    by : (b : Bool) → are_files files (lfns_of_uses (uses_as d us)) ≡ true → are_files files (lfns_of_uses (cond b (u ∷ uses_as d us) (uses_as d us))) ≡ true
    by true rest = and_from _ _ (and_parts _ _ there).0 rest
    by false rest = rest

input_numbers : (files : List (List ℕ)) (us : List Use) → map (number files) (lfns_of_uses us) ≡ map (λ (f : FileId). f.0) (map (file_of files) us)
input_numbers files [] = refl
input_numbers files (u ∷ us) = ap (λ (ks : List ℕ). number files u.lfn ∷ ks) (input_numbers files us)

output_numbers : (files : List (List ℕ)) (us : List Use) → map (number files) (lfns_of_uses us) ≡ map (λ (o : Output). o.file.0) (map (output_of files) us)
output_numbers files [] = refl
output_numbers files (u ∷ us) = ap (λ (ks : List ℕ). number files u.lfn ∷ ks) (output_numbers files us)

-- ---- pairs

-- both jobs of a pair are there
abbrev IsPair : ℕ → JobId × JobId → Type 0
IsPair jobs p = (parent_of p < jobs) × (child_of p < jobs)

all_there : (known ns : List (List ℕ)) → first_unknown known ns ≡ None → list_all (λ n. list_any (bytes_eq n) known) ns ≡ true
all_there known [] h = refl
all_there known (n ∷ ns) h = by (list_any (bytes_eq n) known) h (λ rest. all_there known ns rest)
  where
    by : (b : Bool) → cond (not b) (Some n) (first_unknown known ns) ≡ None → (first_unknown known ns ≡ None → list_all (λ m. list_any (bytes_eq m) known) ns ≡ true) → (b && list_all (λ m. list_any (bytes_eq m) known) ns) ≡ true
    by true k rest = rest k
    by false k rest = absurd cc

-- ---- a document without a fault

abbrev reading : {A : Type 0} → A → Result A ReadFault
reading x = Ok x

-- what is known of a document that has no fault
record Faultless (e : DocumentEntry) (w : WorkflowEntry) : Type 0 where
  few_jobs : length e.jobs ≤ 10000
  few_files : length (files_of e.jobs) ≤ 50000
  ids : are_distinct bytes_eq (ids_of e.jobs) ≡ true
  used_once : all_used_once e.jobs ≡ Ok tt
  known_ids : list_all (λ n. list_any (bytes_eq n) (ids_of e.jobs)) (ids_in e.dependencies) ≡ true
  is : workflow_entry e ≡ w

faultless : (e : DocumentEntry) (w : WorkflowEntry) → linked e ≡ Ok w → Faultless e w
unfolding linked
faultless e w h =
    let one = passed (few Jobs 10000 (length e.jobs)) _ w h in
    let two = passed (few Files 50000 (length (files_of e.jobs))) _ w one.rest in
    let three = passed (refused DuplicateJob (first_repeat bytes_eq [] (ids_of e.jobs))) _ w two.rest in
    let four = passed (all_used_once e.jobs) _ w three.rest in
    let five = passed (refused UnknownJob (first_unknown (ids_of e.jobs) (ids_in e.dependencies))) _ w four.rest in
    record {
      few_jobs = few_of Jobs 10000 (length e.jobs) one.value one.is;
      few_files = few_of Files 50000 (length (files_of e.jobs)) two.value two.is;
      ids = are_once bytes_eq [] (ids_of e.jobs) (not_refused DuplicateJob _ three.value three.is);
      used_once = four.is;
      known_ids = all_there (ids_of e.jobs) (ids_in e.dependencies) (not_refused UnknownJob _ five.value five.is);
      is = unwrapped (workflow_entry e) w five.rest;
    }
  where
    unwrapped : {A : Type 0} (x y : A) → reading x ≡ Ok y → x ≡ y
    unwrapped x y k = cc

pub passes : (e : DocumentEntry) → few Jobs 10000 (length e.jobs) ≡ Ok tt → few Files 50000 (length (files_of e.jobs)) ≡ Ok tt → refused DuplicateJob (first_repeat bytes_eq [] (ids_of e.jobs)) ≡ Ok tt → all_used_once e.jobs ≡ Ok tt → refused UnknownJob (first_unknown (ids_of e.jobs) (ids_in e.dependencies)) ≡ Ok tt → linked e ≡ Ok (workflow_entry e)
unfolding linked
passes e one two three four five = rw (one, two, three, four, five) refl

-- ---- the workflow

ids_kept : (files : List (List ℕ)) (js : List JobEntry) → ids_of js ≡ map (λ (j : Job). j.id) (map (linked_job files) js)
ids_kept files [] = refl
ids_kept files (j ∷ js) = ap (λ (ns : List (List ℕ)). j.id ∷ ns) (ids_kept files js)

-- what a workflow's entry says of the workflow
abbrev IsWell : WorkflowEntry → Type 0
IsWell w =
    (length w.jobs ≤ 10000)
    × (length w.files ≤ 50000)
    × (length w.sizes ≡ length w.files)
    × AllByRecursion IsSmallSize w.sizes
    × (are_distinct bytes_eq (map (λ (j : Job). j.id) w.jobs) ≡ true)
    × (are_distinct bytes_eq w.files ≡ true)
    × AllByRecursion (IsJobOver (length w.files)) w.jobs
    × AllByRecursion (IsPair (length w.jobs)) w.pairs

-- by what numbering comes to
module _ (law : NumbersNames) where
  number_once : (files known : List (List ℕ)) (n : List ℕ) → list_any (bytes_eq n) files ≡ true → list_any (bytes_eq n) known ≡ false → list_any (nat_eq (number files n)) (map (number files) known) ≡ false
  number_once files [] n there new = refl
  number_once files (m ∷ known) n there new = by (bytes_eq n m) refl new (λ k. number_once files known n there k)
    where
      by : (b : Bool) → bytes_eq n m ≡ b → (b || list_any (bytes_eq n) known) ≡ false → (list_any (bytes_eq n) known ≡ false → list_any (nat_eq (number files n)) (map (number files) known) ≡ false) → (nat_eq (number files n) (number files m) || list_any (nat_eq (number files n)) (map (number files) known)) ≡ false
      by true e k rest = absurd cc
      by false e k rest = ap (λ (b : Bool). b || list_any (nat_eq (number files n)) (map (number files) known)) (law.apart files n m there e) ∙ rest k

  numbers_once : (files known ns : List (List ℕ)) → are_files files ns ≡ true → are_new bytes_eq known ns ≡ true → are_new nat_eq (map (number files) known) (map (number files) ns) ≡ true
  numbers_once files known [] there new = refl
  numbers_once files known (n ∷ ns) there new =
      and_from _ _
      (ap not (number_once files known n (and_parts _ _ there).0 (not-true _ (and_parts _ _ new).0)))
      (subst (λ (ks : List ℕ). are_new nat_eq ks (map (number files) ns) ≡ true) (one_more known) (numbers_once files (known ++ n ∷ []) ns (and_parts _ _ there).1 (and_parts _ _ new).1))
    where
      one_more : (ms : List (List ℕ)) → map (number files) (ms ++ n ∷ []) ≡ map (number files) ms ++ number files n ∷ []
      one_more [] = refl
      one_more (m ∷ ms) = ap (λ (ks : List ℕ). number files m ∷ ks) (one_more ms)

  numbers_below : (files ns : List (List ℕ)) → are_files files ns ≡ true → AllByRecursion (λ f. f < length files) (map (number files) ns)
  numbers_below files [] there = tt
  numbers_below files (n ∷ ns) there = (law.within files n (and_parts _ _ there).0, numbers_below files ns (and_parts _ _ there).1)

  -- those of a job's uses as d
  below_as : (files : List (List ℕ)) (d : Direction) (us : List Use) → are_files files (lfns_of_uses us) ≡ true → AllByRecursion (λ f. f < length files) (map (number files) (lfns_of_uses (uses_as d us)))
  below_as files d us there = numbers_below files (lfns_of_uses (uses_as d us)) (files_as files d us there)

  once_as : (files : List (List ℕ)) (d : Direction) (us : List Use) → are_files files (lfns_of_uses us) ≡ true → first_repeat same_use [] us ≡ None → are_distinct nat_eq (map (number files) (lfns_of_uses (uses_as d us))) ≡ true
  once_as files d us there once = numbers_once files [] (lfns_of_uses (uses_as d us)) (files_as files d us there) (names_once d [] us once)

  job_over : (files : List (List ℕ)) (j : JobEntry) → are_files files (lfns_in j) ≡ true → first_repeat same_use [] j.uses ≡ None → IsJobOver (length files) (linked_job files j)
  job_over files j there once = record {
    inputs = subst (AllByRecursion (λ f. f < length files)) (input_numbers files (uses_as Input j.uses)) (below_as files Input j.uses there);
    outputs = subst (AllByRecursion (λ f. f < length files)) (output_numbers files (uses_as Made j.uses)) (below_as files Made j.uses there);
    inputs_once = subst (λ (ks : List ℕ). are_distinct nat_eq ks ≡ true) (input_numbers files (uses_as Input j.uses)) (once_as files Input j.uses there once);
    outputs_once = subst (λ (ks : List ℕ). are_distinct nat_eq ks ≡ true) (output_numbers files (uses_as Made j.uses)) (once_as files Made j.uses there once);
  }

  jobs_over : (files : List (List ℕ)) (js : List JobEntry) (u : Unit {0}) → are_files files (flat_map lfns_in js) ≡ true → all_used_once js ≡ Ok u → AllByRecursion (IsJobOver (length files)) (map (linked_job files) js)
  jobs_over files [] u there once = tt
  jobs_over files (j ∷ js) u there once =
      let both = and_parts _ _ (sym (list_all-append (λ n. list_any (bytes_eq n) files) (lfns_in j) (flat_map lfns_in js)) ∙ there) in
      let steps = passed (used_once j) (λ _. all_used_once js) u once in
      (job_over files j both.0 (not_refused _ (first_repeat same_use [] j.uses) steps.value steps.is), jobs_over files js u both.1 steps.rest)

  children_there : (ids : List (List ℕ)) (id : List ℕ) (cs : List (List ℕ)) → number ids id < length ids → are_files ids cs ≡ true → AllByRecursion (IsPair (length ids)) (map (λ (c : List ℕ). (job_with_id ids id, job_with_id ids c)) cs)
  children_there ids id [] own there = tt
  children_there ids id (c ∷ cs) own there = ((own, law.within ids c (and_parts _ _ there).0), children_there ids id cs own (and_parts _ _ there).1)

  pairs_there : (ids : List (List ℕ)) (ds : List Dependency) → are_files ids (ids_in ds) ≡ true → AllByRecursion (IsPair (length ids)) (dependency_pairs ids ds)
  pairs_there ids [] there = tt
  pairs_there ids (d ∷ ds) there =
      let both = and_parts _ _ (sym (list_all-append (λ n. list_any (bytes_eq n) ids) (d.id ∷ d.children) (ids_in ds)) ∙ there) in
      let own = and_parts _ _ both.0 in
      all_joined (IsPair (length ids)) (pairs_from ids d) (dependency_pairs ids ds)
      (children_there ids d.id d.children (law.within ids d.id own.0) own.1)
      (pairs_there ids ds both.1)

  well_entry : (e : DocumentEntry) (w : WorkflowEntry) → AreSmall e.jobs → linked e ≡ Ok w → IsWell w
  well_entry e w small h =
      let known = faultless e w h in
      let same_count : length (map (linked_job (files_of e.jobs)) e.jobs) ≡ length e.jobs = length-map e.jobs (linked_job (files_of e.jobs)) in
      let ids_count : length (ids_of e.jobs) ≡ length e.jobs = length-map e.jobs (λ (j : JobEntry). j.id) in
      subst IsWell known.is (
        subst (λ (n : ℕ). n ≤ 10000) (sym same_count) known.few_jobs,
        known.few_files,
        length-map (files_of e.jobs) _,
        sizes_small e.jobs small,
        subst (λ (ns : List (List ℕ)). are_distinct bytes_eq ns ≡ true) (ids_kept (files_of e.jobs) e.jobs) known.ids,
        law.once (flat_map lfns_in e.jobs),
        jobs_over (files_of e.jobs) e.jobs tt (law.known (flat_map lfns_in e.jobs)) known.used_once,
        subst (λ (n : ℕ). AllByRecursion (IsPair n) (dependency_pairs (ids_of e.jobs) e.dependencies)) (ids_count ∙ sym same_count) (pairs_there (ids_of e.jobs) e.dependencies known.known_ids),
      )

  pub well_formed : (e : DocumentEntry) (w : Workflow) → linked e ≡ Ok (workflow_view w) → AreSmall e.jobs → IsWellFormed w
  well_formed e w h small =
      let well = well_entry e (workflow_view w) small h in
      record { few_jobs = well.0; few_files = well.1; sizes = well.2; small_sizes = well.3; ids = well.4; names = well.5; jobs = well.6; pairs = well.7 }
