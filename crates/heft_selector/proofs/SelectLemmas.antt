-- What the tables of candidates, times and moves come to together.
use Rattle.std.proofs.Common.{◌≡◌, ℕ, zero, suc, ◌+◌, ◌*◌, ◌/◌, ◌%◌, ◌<◌, ◌≤◌, Bool, true, false, cond, List, [], ◌∷◌, length, map, get_or, refl, sym, ap, subst, ◌∙◌, arith}
use Rattle.std.specs.Prelude.{sum, slice_get, slice_index_or, Vec, Option, Some, None, Ok, Err}
use Rattle.std.specs.declared.alloc.Global.{Global}
use Rattle.std.specs.List.{All, AllByRecursion}
use Rattle.std.proofs.Math.Nat.{div-add-mod}
use Rattle.std.proofs.lemmas.List.{length-map, get_or-map, get_or_default}
use Rattle.std.proofs.lemmas.List.Sums.{sum_by-cons}
use Rattle.values.specs.declared.numbers.JobId.{JobId}
use Rattle.values.specs.declared.select_fault.SelectFault.{SelectFault}
use Rattle.values.specs.declared.select_fault.SelectFault.TheVariants.{NoSite, NoTransformation, Memory}
use Rattle.workflow_core.specs.declared.workflow.Workflow.{Workflow}
use Rattle.workflow_core.specs.declared.workflow.Job.{Job}
use Rattle.workflow_core.specs.code.WellFormed.{IsWellFormed}
use Rattle.transformation_catalog.specs.declared.catalog.TransformationCatalog.{TransformationCatalog}
use Rattle.plan_request.specs.declared.request.Execution.{Execution}
use Rattle.plan_request.specs.declared.request.PlanRequest.{PlanRequest}
use Rattle.plan_request.specs.FileSizes.{declared_sizes}
use Rattle.plan_request.specs.code.Limits.{IsRuntimeInRange, IsWithinLimits}
use Rattle.digraph.specs.code.Adjacency.{lists_of}
use Rattle.digraph.specs.Adjacency.{neighbours}
use Rattle.dependency_graph.specs.Graph.{IsGraphOf, Links, jobs_at}
use Rattle.dependency_graph.specs.Levels.{is_kept}
use Rattle.dependency_graph.proofs.LevelsLemmas.{parents_in}
use Rattle.site_selector.specs.Offers.{sites_of}
use Rattle.site_selector.specs.Candidates.{candidates_from, candidates, is_candidate, unknown_site}
use Rattle.site_selector.specs.code.Candidates.{offered_unless}
use Rattle.heft_selector.specs.Costs.{transformation_name, name_at, seconds, time, move}
use Rattle.heft_selector.specs.Candidates.{Offering, offering, candidates_at, candidates_in}
use Rattle.heft_selector.specs.code.Candidates.{AreOffered, FindsAll}
use Rattle.heft_selector.specs.code.Stated.{site_name_at, AreTimes}
use Rattle.heft_selector.specs.code.Carried.{AreMoves}
use Rattle.list_schedule.specs.code.Tables.{moves_to, AreCosts, AreCandidates, AreFull, AreSites}
use Rattle.heft_selector.specs.Selecting.{offering_of, estimates}
use Rattle.heft_selector.specs.code.Selecting.{SelectsHeft}
use Rattle.heft_selector.proofs.TimeLemmas.{seconds_are}
use Rattle.heft_selector.proofs.BridgeLemmas.{moves_are}

pub kept_low : (kept : List Bool) (a : ℕ) → is_kept kept a ≡ true → a < length kept
kept_low [] zero h = absurd cc
kept_low [] (suc a) h = absurd cc
kept_low (x ∷ kept) zero h = omega arith
kept_low (x ∷ kept) (suc a) h = let less = kept_low kept a h in omega (arith, less)

-- the job of a number, in both ways of looking
record There (js : List Job) (a : ℕ) : Type 0 where
  job : Job
  got : slice_get js a ≡ Some job
  at : slice_index_or js a job ≡ job

job_there : (js : List Job) (a : ℕ) → a < length js → There js a
job_there [] a low = absurd (omega (arith, low))
job_there (x ∷ js) zero low = record { job = x; got = refl; at = refl }
job_there (x ∷ js) (suc a) low = let rest = job_there js a (omega (arith, low)) in record { job = rest.job; got = rest.got; at = rest.at }

by_unless : (a : ℕ) (o : Option (List ℕ)) (cs l : List ℕ) → offered_unless a o cs ≡ Ok l → (l ≡ cs) × (0 < length l)
by_unless a (Some n) cs l h = absurd cc
by_unless a None [] l h = absurd cc
by_unless a None (s ∷ ss) l h = let same : (s ∷ ss) ≡ l = cc in (sym same, subst (λ (xs : List ℕ). 0 < length xs) same (omega arith))

-- a kept job's list is that of its candidates, and there is one
offered_at : (x : Offering) (lists : List (List ℕ)) → AreOffered x lists (length x.jobs) → length x.kept ≡ length x.jobs → (a : ℕ) → is_kept x.kept a ≡ true → (neighbours lists a ≡ candidates_at x a) × (0 < length (neighbours lists a))
offered_at x lists are many a on =
    let low : a < length x.jobs = (let l = kept_low x.kept a on in omega (arith, l, many)) in
    let there = job_there x.jobs a low in
    let is = by_unless a (unknown_site x.execute there.job.pinned) (candidates x.execute (sites_of x.entries there.job.transformation) there.job.pinned) (neighbours lists a) (are.each a there.job low (on, there.got)) in
    (is.0 ∙ sym (ap (candidates_in x) there.got), is.1)

candidate_below : (test : Execution → Bool) (s : ℕ) (es : List Execution) (k : ℕ) → k < length (candidates_from test s es) → get_or (candidates_from test s es) k 0 < s + length es
candidate_below test s [] k l = absurd (omega (arith, l))
candidate_below test s (e ∷ es) k l = by (test e) (candidate_below test (suc s) es) k l
  where
    by : (b : Bool) → ((k : ℕ) → k < length (candidates_from test (suc s) es) → get_or (candidates_from test (suc s) es) k 0 < suc s + length es) → (k : ℕ) → k < length (cond b (s ∷ candidates_from test (suc s) es) (candidates_from test (suc s) es))
        → get_or (cond b (s ∷ candidates_from test (suc s) es) (candidates_from test (suc s) es)) k 0 < s + suc (length es)
    by true less zero l = omega arith
    by true less (suc k) l = let here = less k (omega (arith, l)) in omega (arith, here)
    by false less k l = let here = less k l in omega (arith, here)

all_below : (n : ℕ) (xs : List ℕ) → ((k : ℕ) → k < length xs → get_or xs k 0 < n) → All (λ s. s < n) xs
all_below n xs low = λ k d l. subst (λ (m : ℕ). m < n) (get_or_default xs k 0 d l) (low k l)

pub candidates_low : (x : Offering) (a : ℕ) → All (λ s. s < length x.execute) (candidates_at x a)
candidates_low x a = by (slice_get x.jobs a)
  where
    by : (o : Option Job) → All (λ s. s < length x.execute) (candidates_in x o)
    by None = λ k d l. absurd (omega (arith, l))
    by (Some j) = all_below (length x.execute) (candidates x.execute (sites_of x.entries j.transformation) j.pinned) (λ k l. let low = candidate_below (is_candidate (sites_of x.entries j.transformation) j.pinned) 0 x.execute k l in omega (arith, low))

pub lists_low : (x : Offering) (lists : List (List ℕ)) → AreOffered x lists (length x.jobs) → length x.kept ≡ length x.jobs → (a : ℕ) → is_kept x.kept a ≡ true → All (λ s. s < length x.execute) (neighbours lists a)
lists_low x lists are many a on = subst (λ (xs : List ℕ). All (λ s. s < length x.execute) xs) (sym (offered_at x lists are many a on).0) (candidates_low x a)

-- ---- a mean of numbers from 1

sum_big : (f : ℕ → ℕ) (xs : List ℕ) → ((x : ℕ) → 1 ≤ f x) → length xs ≤ sum (map f xs)
sum_big f [] big = omega arith
sum_big f (x ∷ xs) big = let rest = sum_big f xs big in let here = big x in let more : sum (f x ∷ map f xs) ≡ f x + sum (map f xs) = sum_by-cons (λ (y : ℕ). y) (f x) (map f xs) in omega (arith, rest, here, more)

mean_big : (n m : ℕ) → 0 < m → m ≤ n → 1 ≤ n / m
mean_big n m some big = by (n / m) refl
  where
    by : (q : ℕ) → n / m ≡ q → 1 ≤ n / m
    by zero e =
        let whole = div-add-mod n m in
        let none : m * (n / m) ≡ 0 = ap (λ (k : ℕ). m * k) e ∙ (let z : m * 0 ≡ 0 = omega arith in z) in
        let rest : n % m < m = omega (arith, some) in
        absurd (omega (arith, whole, none, rest, big))
    by (suc q) e = omega (arith, e)

-- ---- all together

-- the tables of a request
pub record AreTables (w : Workflow) (g : Links) (kept : List Bool) (r : PlanRequest) (t : TransformationCatalog) (lists times moves : List (List ℕ)) : Type 0 where
  pub formed : IsWellFormed w
  pub graph : IsGraphOf w g
  pub many : length kept ≡ length w.jobs
  pub small : AllByRecursion IsRuntimeInRange r.runtimes
  pub offered : AreOffered (offering_of w kept r t) lists (length w.jobs)
  pub times_are : AreTimes w.jobs kept r.execute r.runtimes lists times (length w.jobs)
  pub moves_is : AreMoves g w.jobs (declared_sizes r w.files w.sizes) r.rate moves (length w.jobs)

time_big : (w : Workflow) (r : PlanRequest) → AllByRecursion IsRuntimeInRange r.runtimes → (a s : ℕ) → 1 ≤ time w r a s
time_big w r small a s = let is = seconds_are r.runtimes (name_at w a) (site_name_at r.execute s) small in omega (arith, is)

times_at : (w : Workflow) (g : Links) (kept : List Bool) (r : PlanRequest) (t : TransformationCatalog) (lists times moves : List (List ℕ)) → AreTables w g kept r t lists times moves → (a : ℕ) → is_kept kept a ≡ true → neighbours times a ≡ map (time w r a) (neighbours lists a)
times_at w g kept r t lists times moves are a on =
    let low : a < length w.jobs = (let l = kept_low kept a on in let m = are.many in omega (arith, l, m)) in
    let there = job_there w.jobs a low in
    are.times_are.each a there.job low on there.at
    ∙ ap (λ (n : List ℕ). map (λ (s : ℕ). seconds r.runtimes n (site_name_at r.execute s)) (neighbours lists a)) (sym (get_or-map transformation_name w.jobs a there.job [] low ∙ ap transformation_name there.at))

pub costs_are : (w : Workflow) (g : Links) (kept : List Bool) (r : PlanRequest) (t : TransformationCatalog) (lists times moves : List (List ℕ)) → AreTables w g kept r t lists times moves → AreCosts g kept (estimates w kept r t) times moves
costs_are w g kept r t lists times moves are = record {
  at_sites = λ a on. times_at w g kept r t lists times moves are a on ∙ ap (λ (ss : List ℕ). map (time w r a) ss) (offered_at (offering_of w kept r t) lists are.offered are.many a on).0;
  from_parents = λ a on. from a on;
}
  where
    from : (a : ℕ) → is_kept kept a ≡ true → neighbours moves a ≡ moves_to (estimates w kept r t) a (jobs_at g.parents a)
    from a on =
        let low : a < length w.jobs = (let l = kept_low kept a on in let m = are.many in omega (arith, l, m)) in
        let there = job_there w.jobs a low in
        are.moves_is.each a there.job low there.at
        ∙ moves_are w g (declared_sizes r w.files w.sizes) r.rate are.formed are.graph a there.job low there.at (parents_in w g are.graph a)

pub candidates_are : (w : Workflow) (g : Links) (kept : List Bool) (r : PlanRequest) (t : TransformationCatalog) (lists times moves : List (List ℕ)) → AreTables w g kept r t lists times moves → AreCandidates kept (estimates w kept r t) lists
candidates_are w g kept r t lists times moves are = record {
  same = λ a on. (offered_at (offering_of w kept r t) lists are.offered are.many a on).0;
  costly = λ a on.
      let is = offered_at (offering_of w kept r t) lists are.offered are.many a on in
      let cs : List ℕ = candidates_at (offering_of w kept r t) a in
      mean_big (sum (map (time w r a) (candidates_at (offering_of w kept r t) a))) (length (candidates_at (offering_of w kept r t) a)) (subst (λ (xs : List ℕ). 0 < length xs) is.0 is.1) (sum_big (time w r a) (candidates_at (offering_of w kept r t) a) (time_big w r are.small a));
}

pub full_are : (w : Workflow) (g : Links) (kept : List Bool) (r : PlanRequest) (t : TransformationCatalog) (lists times moves : List (List ℕ)) → AreTables w g kept r t lists times moves → AreFull g kept times moves
full_are w g kept r t lists times moves are = record {
  times_long = are.times_are.long ∙ sym are.many;
  moves_long = are.moves_is.long ∙ sym are.many;
  some = λ a on.
      let some = (offered_at (offering_of w kept r t) lists are.offered are.many a on).1 in
      let long : length (neighbours times a) ≡ length (neighbours lists a) = ap (λ (xs : List ℕ). length xs) (times_at w g kept r t lists times moves are a on) ∙ length-map (neighbours lists a) (time w r a) in
      omega (arith, some, long);
  one_each = λ a on. moves_long a on;
}
  where
    moves_long : (a : ℕ) → is_kept kept a ≡ true → length (neighbours moves a) ≡ length (jobs_at g.parents a)
    moves_long a on = ap (λ (xs : List ℕ). length xs) ((costs_are w g kept r t lists times moves are).from_parents a on) ∙ length-map (jobs_at g.parents a) (λ (p : JobId). move w r p.0 a)

pub sites_are : (w : Workflow) (g : Links) (kept : List Bool) (r : PlanRequest) (t : TransformationCatalog) (lists times moves : List (List ℕ)) → AreTables w g kept r t lists times moves → AreSites kept (length r.execute) lists times
sites_are w g kept r t lists times moves are = record {
  long = are.offered.long ∙ sym are.many;
  some = λ a on. (offered_at (offering_of w kept r t) lists are.offered are.many a on).1;
  below = λ a on. lists_low (offering_of w kept r t) lists are.offered are.many a on;
  one_each = λ a on. ap (λ (xs : List ℕ). length xs) (times_at w g kept r t lists times moves are a on) ∙ length-map (neighbours lists a) (time w r a);
}

-- ---- in the words of the calls

pub tables_are : (w : Workflow) (g : Links) (kept : List Bool) (r : PlanRequest) (t : TransformationCatalog) (lists : List (List ℕ)) (times time_now moves move_now : List (Vec ℕ Global)) (sizes size_now : List (Option ℕ))
    → IsWellFormed w → IsGraphOf w g → length kept ≡ length w.jobs → IsWithinLimits r → AreOffered (offering_of w kept r t) lists (length w.jobs) → time_now ≡ times → move_now ≡ moves → size_now ≡ sizes → sizes ≡ declared_sizes r w.files w.sizes
    → AreTimes w.jobs kept r.execute r.runtimes lists (lists_of times) (length w.jobs) → AreMoves g w.jobs size_now r.rate (lists_of moves) (length w.jobs) → AreTables w g kept r t lists (lists_of time_now) (lists_of move_now)
tables_are w g kept r t lists times time_now moves move_now sizes size_now formed graph many limits offers one two three four five six = record {
  formed = formed;
  graph = graph;
  many = many;
  small = limits.runtimes;
  offered = offers;
  times_are = subst (λ (vs : List (Vec ℕ Global)). AreTimes w.jobs kept r.execute r.runtimes lists (lists_of vs) (length w.jobs)) (sym one) five;
  moves_is = subst (λ (vs : List (Vec ℕ Global)). AreMoves g w.jobs (declared_sizes r w.files w.sizes) r.rate (lists_of vs) (length w.jobs)) (sym two)
      (subst (λ (os : List (Option ℕ)). AreMoves g w.jobs os r.rate (lists_of moves) (length w.jobs)) (three ∙ four) six);
}

pub offered_is : (w : Workflow) (kept : List Bool) (r : PlanRequest) (t : TransformationCatalog) (js : List Job) (es : List Execution) (vs now : List (Vec ℕ Global)) → js ≡ w.jobs → es ≡ r.execute → now ≡ vs → AreOffered (offering js kept es t) (lists_of vs) (length js) → AreOffered (offering_of w kept r t) (lists_of now) (length w.jobs)
offered_is w kept r t js es vs now one two three is =
    subst (λ (xs : List (Vec ℕ Global)). AreOffered (offering_of w kept r t) (lists_of xs) (length w.jobs)) (sym three)
    (subst (λ (xs : List Execution). AreOffered (offering w.jobs kept xs t) (lists_of vs) (length w.jobs)) two
    (subst (λ (xs : List Job). AreOffered (offering xs kept es t) (lists_of vs) (length xs)) one is))

pub refused_is : (w : Workflow) (g : Links) (kept : List Bool) (r : PlanRequest) (t : TransformationCatalog) (js : List Job) (es : List Execution) (f : SelectFault) → js ≡ w.jobs → es ≡ r.execute → FindsAll (offering js kept es t) (Err f) → SelectsHeft w g kept r t (Err f)
refused_is w g kept r t js es f one two is = by f (subst (λ (xs : List Execution). FindsAll (offering w.jobs kept xs t) (Err f)) two (subst (λ (xs : List Job). FindsAll (offering xs kept es t) (Err f)) one is))
  where
    by : (f : SelectFault) → FindsAll (offering w.jobs kept r.execute t) (Err f) → SelectsHeft w g kept r t (Err f)
    by Memory is = tt
    by (NoSite a name) is = is
    by (NoTransformation a) is = is
