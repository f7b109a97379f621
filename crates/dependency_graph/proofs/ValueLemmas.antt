-- Values settle after as many edges as there are jobs, and nothing else fits together so.
use Rattle.std.proofs.Common.{◌≡◌, ℕ, zero, suc, ◌+◌, ◌-◌, ◌<◌, ◌≤◌, Bool, true, false, cond, ◌||◌, List, [], ◌∷◌, length, map, get_or, refl, sym, ap, ◌∙◌, nat_eq, arith, subst}
use Rattle.std.specs.Prelude.{Option, Some, None, option_and_then}
use Rattle.std.specs.List.{list_any, AllByRecursion}
use Rattle.std.proofs.lemmas.List.{get_or-map}
use Rattle.workflow_core.specs.declared.workflow.Workflow.{Workflow}
use Rattle.workflow_core.specs.declared.workflow.Job.{Job}
use Rattle.workflow_core.specs.WellFormed.{inputs_of, outputs_of}
use Rattle.workflow_core.specs.code.WellFormed.{IsJobOver, IsWellFormed}
use Rattle.std.proofs.Math.Bool.{or-true}
use Rattle.std.proofs.lemmas.Bool.{eq-eqb, eqb-true}
use Rattle.dependency_graph.proofs.EdgesLemmas.{makes}
use Rattle.dependency_graph.specs.Edges.{edge, has_output, is_among, is_paired, producer, read_by, written_by}
use Rattle.dependency_graph.specs.Graph.{IsSound}
use Rattle.dependency_graph.specs.Value.{Basis, base_at, by_producer, made_for, run_of, tool_for, value, value_within}
use Rattle.dependency_graph.specs.code.Value.{IsValuation}
use Rattle.values.specs.Apply.{all_of, part}
use Rattle.digraph.proofs.OrderLemmas.{fresh, fresh_less, fresh_small}
use Rattle.digraph.specs.Distances.{Walk}

-- the job with this number makes the file
pub record Makes (w : Workflow) (a : ℕ) (j : Job) (f : ℕ) : Type 0 where
  pub below : a < length w.jobs
  pub is : get_or w.jobs a j ≡ j
  pub makes : has_output f j ≡ true

producer_at : (js : List Job) (f : ℕ) (j : Job) → producer js f ≡ Some j → (i : ℕ) × (i < length js) × (get_or js i j ≡ j) × (has_output f j ≡ true)
producer_at [] f j e = absurd cc
producer_at (x ∷ js) f j e = by (has_output f x) refl e (λ h. producer_at js f j h)
  where
    by : (t : Bool) → has_output f x ≡ t → cond t (Some x) (producer js f) ≡ Some j → (producer js f ≡ Some j → (i : ℕ) × (i < length js) × (get_or js i j ≡ j) × (has_output f j ≡ true)) → (i : ℕ) × (i < length (x ∷ js)) × (get_or (x ∷ js) i j ≡ j) × (has_output f j ≡ true)
    by true h g rest = let same : x ≡ j = cc in (0, omega arith, same, ap (has_output f) (sym same) ∙ h)
    by false h g rest = let found = rest g in (suc found.0, (let l : found.0 < length js = found.1 in omega arith), found.2, found.3)

pub maker : (w : Workflow) (f : ℕ) (j : Job) → producer w.jobs f ≡ Some j → (a : ℕ) × Makes w a j f
maker w f j e = let found = producer_at w.jobs f j e in (found.0, record { below = found.1; is = found.2; makes = found.3 })

pub any_in : (p : ℕ → Bool) (g : ℕ) (fs : List ℕ) → is_among g fs ≡ true → p g ≡ true → list_any p fs ≡ true
any_in p g [] h e = absurd cc
any_in p g (f ∷ fs) h e = by (nat_eq f g) refl h (λ k. any_in p g fs k e)
  where
    by : (t : Bool) → nat_eq f g ≡ t → (t || is_among g fs) ≡ true → (is_among g fs ≡ true → list_any p fs ≡ true) → (p f || list_any p fs) ≡ true
    by true s k rest = ap (λ (b : Bool). b || list_any p fs) (ap p (eqb-true f g s) ∙ e)
    by false s k rest = ap (λ (b : Bool). p f || b) (rest k) ∙ or-true (p f)

-- an edge leads from the producer of an input
pub edge_in : (w : Workflow) (a b g : ℕ) (j q : Job) → a < length w.jobs → get_or w.jobs a j ≡ j → is_among g (inputs_of j) ≡ true → Makes w b q g → edge w b a ≡ true
unfolding edge
edge_in w a b g j q h is reads made =
    let read : read_by w a ≡ inputs_of j = get_or-map inputs_of w.jobs a j [] h ∙ ap inputs_of is in
    let written : written_by w b ≡ outputs_of q = get_or-map outputs_of w.jobs b q [] made.below ∙ ap outputs_of made.is in
    let there : is_among g (read_by w a) ≡ true = ap (is_among g) read ∙ reads in
    let here : is_among g (written_by w b) ≡ true = ap (is_among g) written ∙ made.makes in
    ap (λ (t : Bool). t || is_paired w b a) (any_in (λ f. is_among f (written_by w b)) g (read_by w a) there here)

pub same_all : (u v : ℕ → Option (List ℕ)) (gs : List ℕ) → ((g : ℕ) → is_among g gs ≡ true → u g ≡ v g) → map u gs ≡ map v gs
same_all u v [] same = refl
same_all u v (g ∷ gs) same =
    ap (λ (x : Option (List ℕ)). x ∷ map u gs) (same g (ap (λ (t : Bool). t || is_among g gs) (eq-eqb g g refl)))
    ∙ ap (λ (xs : List (Option (List ℕ))). v g ∷ xs) (same_all u v gs (λ h e. same h (ap (λ (t : Bool). nat_eq g h || t) e ∙ or-true (nat_eq g h))))

-- the base of a file that no job makes
pub unmade : (b : Basis) (js : List Job) (m f : ℕ) → producer js f ≡ None → value_within b js m f ≡ base_at b f
unfolding value_within
unmade b js zero f e = ap (λ (o : Option Job). by_producer o (base_at b f) (λ j. None)) e
unmade b js (suc m) f e = ap (λ (o : Option Job). by_producer o (base_at b f) (made_for b js (value_within b js m) f)) e

pub one_down : (b : Basis) (js : List Job) (f m : ℕ) (j : Job) → producer js f ≡ Some j → value_within b js (suc m) f ≡ made_for b js (value_within b js m) f j
unfolding value_within
one_down b js f m j e = ap (λ (o : Option Job). by_producer o (base_at b f) (made_for b js (value_within b js m) f)) e

-- what is made of the same inputs
same_made : (b : Basis) (js : List Job) (u v : ℕ → Option (List ℕ)) (f : ℕ) (j : Job) → ((g : ℕ) → is_among g (inputs_of j) ≡ true → u g ≡ v g) → made_for b js u f j ≡ made_for b js v f j
same_made b js u v f j same = ap (λ (xs : List (Option (List ℕ))). option_and_then (part f (outputs_of j)) (run_of b.apply (tool_for js b.tools f) j (all_of xs))) (same_all u v (inputs_of j) same)

-- who makes the file leads to each of these jobs
abbrev pub LeadsTo : Workflow → List ℕ → ℕ → Type 0
LeadsTo w vs f = (a : ℕ) (j : Job) → Makes w a j f → (v : ℕ) → is_among v vs ≡ true → (x : ℕ) × Walk (edge w) (suc x) a v

-- the producer is none of those to which it leads
pub is_new : (w : Workflow) → IsSound w → (vs : List ℕ) (f a : ℕ) (j : Job) → Makes w a j f → LeadsTo w vs f → is_among a vs ≡ false
is_new w sound vs f a j made leads = by (is_among a vs) refl
  where
    by : (t : Bool) → is_among a vs ≡ t → is_among a vs ≡ false
    by true h = absurd (sound.no_return a (leads a j made a h))
    by false h = h

-- the producers of a job's inputs lead to it, and to all to which it leads
pub leads_on : (w : Workflow) (vs : List ℕ) (f a g : ℕ) (j : Job) → Makes w a j f → LeadsTo w vs f → is_among g (inputs_of j) ≡ true → LeadsTo w (a ∷ vs) g
leads_on w vs f a g j made leads reads b q makes v h = by (nat_eq a v) refl h
  where
    into : edge w b a ≡ true
    into = edge_in w a b g j q made.below made.is reads makes

    by : (t : Bool) → nat_eq a v ≡ t → (t || is_among v vs) ≡ true → (x : ℕ) × Walk (edge w) (suc x) b v
    by true s e = (0, (a, into, eqb-true a v s))
    by false s e = let way = leads a j made v e in (suc way.0, (a, into, way.1))

step : (b : Basis) (w : Workflow) → IsSound w → (k m : ℕ) (vs : List ℕ) (f : ℕ) → fresh (length w.jobs) vs ≤ suc k → LeadsTo w vs f
    → ((g a : ℕ) → fresh (length w.jobs) (a ∷ vs) ≤ k → LeadsTo w (a ∷ vs) g → value_within b w.jobs m g ≡ value_within b w.jobs k g) → (o : Option Job) → producer w.jobs f ≡ o → value_within b w.jobs (suc m) f ≡ value_within b w.jobs (suc k) f
step b w sound k m vs f small leads rest None e = unmade b w.jobs (suc m) f e ∙ sym (unmade b w.jobs (suc k) f e)
step b w sound k m vs f small leads rest (Some j) e =
    let found = maker w f j e in
    let less : fresh (length w.jobs) (found.0 ∷ vs) + 1 ≡ fresh (length w.jobs) vs = fresh_less (length w.jobs) found.0 vs found.1.below (is_new w sound vs f found.0 j found.1 leads) in
    one_down b w.jobs f m j e
    ∙ same_made b w.jobs (value_within b w.jobs m) (value_within b w.jobs k) f j (λ g reads. rest g found.0 (omega (arith, less, small)) (leads_on w vs f found.0 g j found.1 leads reads))
    ∙ sym (one_down b w.jobs f k j e)

none_left : (b : Basis) (w : Workflow) → IsSound w → (m : ℕ) (vs : List ℕ) (f : ℕ) → fresh (length w.jobs) vs ≤ 0 → LeadsTo w vs f → (o : Option Job) → producer w.jobs f ≡ o → value_within b w.jobs m f ≡ value_within b w.jobs 0 f
none_left b w sound m vs f small leads None e = unmade b w.jobs m f e ∙ sym (unmade b w.jobs 0 f e)
none_left b w sound m vs f small leads (Some j) e =
    let found = maker w f j e in
    absurd (let less : fresh (length w.jobs) (found.0 ∷ vs) + 1 ≡ fresh (length w.jobs) vs = fresh_less (length w.jobs) found.0 vs found.1.below (is_new w sound vs f found.0 j found.1 leads) in omega (arith, less, small))

settles : (b : Basis) (w : Workflow) → IsSound w → (k m : ℕ) (vs : List ℕ) (f : ℕ) → fresh (length w.jobs) vs ≤ k → k ≤ m → LeadsTo w vs f → value_within b w.jobs m f ≡ value_within b w.jobs k f
settles b w sound zero m vs f small h leads = none_left b w sound m vs f small leads (producer w.jobs f) refl
settles b w sound (suc k) zero vs f small h leads = absurd (omega arith)
settles b w sound (suc k) (suc m) vs f small h leads =
    step b w sound k m vs f small leads (λ g a less on. settles b w sound k m (a ∷ vs) g less (omega arith) on) (producer w.jobs f) refl

pub value_law : (b : Basis) (w : Workflow) (f : ℕ) (j : Job) → IsSound w → producer w.jobs f ≡ Some j → value b w f ≡ made_for b w.jobs (value b w) f j
value_law b w f j sound e =
    let found = maker w f j e in
    let n : ℕ = length w.jobs in
    let one_less : length w.jobs ≡ suc (length w.jobs - 1) = omega (arith, found.1.below) in
    let less : fresh (length w.jobs) (found.0 ∷ []) + 1 ≡ fresh (length w.jobs) [] = fresh_less (length w.jobs) found.0 [] found.1.below refl in
    let none : LeadsTo w [] f = λ a q made v h. absurd (let t : false ≡ true = h in cc) in
    ap (λ (m : ℕ). value_within b w.jobs m f) one_less
    ∙ one_down b w.jobs f (length w.jobs - 1) j e
    ∙ sym (same_made b w.jobs (value_within b w.jobs (length w.jobs)) (value_within b w.jobs (length w.jobs - 1)) f j (λ g reads.
    settles b w sound (length w.jobs - 1) (length w.jobs) (found.0 ∷ []) g (omega (arith, less, fresh_small (length w.jobs) [])) (omega arith) (leads_on w [] f found.0 g j found.1 none reads)))

-- the job at a place of a list of such jobs
pub job_over : (n : ℕ) (js : List Job) (a : ℕ) (j : Job) → AllByRecursion (IsJobOver n) js → a < length js → get_or js a j ≡ j → IsJobOver n j
job_over n [] a j all h is = absurd (omega arith)
job_over n (x ∷ js) zero j all h is = subst (IsJobOver n) is all.0
job_over n (x ∷ js) (suc a) j all h is = job_over n js a j all.1 (omega arith) is

-- one of some numbers below a bound
pub among_below : (n g : ℕ) (fs : List ℕ) → AllByRecursion (λ f. f < n) fs → is_among g fs ≡ true → g < n
among_below n g [] all h = absurd cc
among_below n g (f ∷ fs) all h = by (nat_eq f g) refl h (λ k. among_below n g fs all.1 k)
  where
    by : (t : Bool) → nat_eq f g ≡ t → (t || is_among g fs) ≡ true → (is_among g fs ≡ true → g < n) → g < n
    by true e k rest = let same : f ≡ g = eqb-true f g e in let below : f < n = all.0 in omega (arith, same, below)
    by false e k rest = rest k

-- what is made by the producer, if there is one
by_this : (b : Basis) (w : Workflow) (v : ℕ → Option (List ℕ)) (f : ℕ) (o : Option Job) → producer w.jobs f ≡ o
    → by_producer (producer w.jobs f) (base_at b f) (made_for b w.jobs v f) ≡ by_producer o (base_at b f) (made_for b w.jobs v f)
by_this b w v f o e = ap (λ (p : Option Job). by_producer p (base_at b f) (made_for b w.jobs v f)) e

pub fits : (b : Basis) (w : Workflow) → IsSound w → IsValuation b w (value b w)
fits b w sound f h = by (producer w.jobs f) refl
  where
    by : (o : Option Job) → producer w.jobs f ≡ o → value b w f ≡ by_producer (producer w.jobs f) (base_at b f) (made_for b w.jobs (value b w) f)
    by None e = unmade b w.jobs (length w.jobs) f e ∙ sym (by_this b w (value b w) f None e)
    by (Some j) e = value_law b w f j sound e ∙ sym (by_this b w (value b w) f (Some j) e)

-- as far down as there are new jobs
agrees : (b : Basis) (w : Workflow) (v : ℕ → Option (List ℕ)) → IsWellFormed w → IsSound w → IsValuation b w v → (k : ℕ) (vs : List ℕ) (f : ℕ) → f < length w.files → fresh (length w.jobs) vs ≤ k → LeadsTo w vs f → v f ≡ value_within b w.jobs k f
agrees b w v formed sound fit zero vs f h small leads = by (producer w.jobs f) refl
  where
    by : (o : Option Job) → producer w.jobs f ≡ o → v f ≡ value_within b w.jobs 0 f
    by None e = fit f h ∙ by_this b w v f None e ∙ sym (unmade b w.jobs 0 f e)
    by (Some j) e =
        let found = maker w f j e in
        absurd (let less : fresh (length w.jobs) (found.0 ∷ vs) + 1 ≡ fresh (length w.jobs) vs = fresh_less (length w.jobs) found.0 vs found.1.below (is_new w sound vs f found.0 j found.1 leads) in omega (arith, less, small))
agrees b w v formed sound fit (suc k) vs f h small leads = by (producer w.jobs f) refl (λ g a within less on. agrees b w v formed sound fit k (a ∷ vs) g within less on)
  where
    by : (o : Option Job) → producer w.jobs f ≡ o → ((g a : ℕ) → g < length w.files → fresh (length w.jobs) (a ∷ vs) ≤ k → LeadsTo w (a ∷ vs) g → v g ≡ value_within b w.jobs k g) → v f ≡ value_within b w.jobs (suc k) f
    by None e rest = fit f h ∙ by_this b w v f None e ∙ sym (unmade b w.jobs (suc k) f e)
    by (Some j) e rest =
        let found = maker w f j e in
        let less : fresh (length w.jobs) (found.0 ∷ vs) + 1 ≡ fresh (length w.jobs) vs = fresh_less (length w.jobs) found.0 vs found.1.below (is_new w sound vs f found.0 j found.1 leads) in
        let over : IsJobOver (length w.files) j = job_over (length w.files) w.jobs found.0 j formed.jobs found.1.below found.1.is in
        fit f h
        ∙ by_this b w v f (Some j) e
        ∙ same_made b w.jobs v (value_within b w.jobs k) f j (λ g reads. rest g found.0 (among_below (length w.files) g (inputs_of j) over.inputs reads) (omega (arith, less, small)) (leads_on w vs f found.0 g j found.1 leads reads))
        ∙ sym (one_down b w.jobs f k j e)

pub alone : (b : Basis) (w : Workflow) (v : ℕ → Option (List ℕ)) → IsWellFormed w → IsSound w → IsValuation b w v → (f : ℕ) → f < length w.files → v f ≡ value b w f
alone b w v formed sound fit f h =
    let none : LeadsTo w [] f = λ a q made g e. absurd (let t : false ≡ true = e in cc) in
    agrees b w v formed sound fit (length w.jobs) [] f h (fresh_small (length w.jobs) []) none
