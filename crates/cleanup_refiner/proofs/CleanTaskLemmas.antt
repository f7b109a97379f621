-- The tasks of a plan with Cleans: the old ones, and then one Clean for each pair.
use Rattle.std.proofs.Common.{◌≡◌, ℕ, zero, suc, ◌+◌, ◌-◌, ◌<◌, ◌≤◌, Bool, true, false, cond, ◌||◌, List, [], ◌∷◌, ◌++◌, length, map, refl, sym, ap, ◌∙◌, arith, ◌⊎◌, inl, inr, length-append}
use Rattle.std.specs.Prelude.{Option, Some, None, slice_get}
use Rattle.std.specs.List.{list_any}
use Rattle.std.proofs.lemmas.Option.{slice_get_past}
use Rattle.std.proofs.lemmas.Bool.{cases_lt}
use Rattle.std.proofs.lemmas.List.{length-map, append-nil}
use Rattle.plan_core.specs.declared.plan.Plan.{Plan}
use Rattle.plan_core.specs.declared.plan.Task.{Task}
use Rattle.plan_core.specs.declared.plan.TaskKind.{TaskKind}
use Rattle.plan_core.specs.declared.plan.TaskKind.TheVariants.{Transfer, Run, Clean}
use Rattle.plan_core.specs.Numbers.{has, below}
use Rattle.plan_core.specs.Words.{reads_in, writes_in, parents_in, kind_in, reads, writes, parents, kind, task_numbers, count_tasks, count_pairs}
use Rattle.plan_core.specs.Kinds.{sweeps, task_waits, waits_for}
use Rattle.cleanup_refiner.specs.Cleans.{clean_of, cleans_of, task, touches, with_cleans}
use Rattle.cleanup_refiner.proofs.NumbersLemmas.{below_has, has_append, has_below, same_below}

-- ---- one list after another

left : {A : Type 0} (xs ys : List A) (i : ℕ) → i < length xs → slice_get (xs ++ ys) i ≡ slice_get xs i
left [] ys i l = absurd (omega arith)
left (x ∷ xs) ys zero l = refl
left (x ∷ xs) ys (suc i) l = left xs ys i (omega arith)

right : {A : Type 0} (xs ys : List A) (i : ℕ) → length xs ≤ i → slice_get (xs ++ ys) i ≡ slice_get ys (i - length xs)
right [] ys i l = let e : i ≡ i - 0 = omega arith in ap (slice_get ys) e
right (x ∷ xs) ys zero l = absurd (omega arith)
right (x ∷ xs) ys (suc i) l = let e : suc i - length (x ∷ xs) ≡ i - length xs = omega arith in right xs ys i (omega arith) ∙ ap (slice_get ys) (sym e)

-- all numbers below a bound, each at its place
many_below : (n : ℕ) → length (below n (λ x. true)) ≡ n
unfolding below
many_below zero = refl
many_below (suc n) = let e = length-append (below n (λ x. true)) (n ∷ []) in let m = many_below n in omega (arith, e, m)

at_below : (n i : ℕ) → i < n → slice_get (below n (λ x. true)) i ≡ Some i
unfolding below
at_below zero i l = absurd (omega arith)
at_below (suc n) i l = by (cases_lt i n) (λ k. at_below n i k)
  where
    by : (i < n) ⊎ (n ≤ i) → (i < n → slice_get (below n (λ x. true)) i ≡ Some i) → slice_get (below n (λ x. true) ++ n ∷ []) i ≡ Some i
    by (inl k) rest = left (below n (λ x. true)) (n ∷ []) i (let m = many_below n in omega (arith, k, m)) ∙ rest k
    by (inr k) rest =
        let m = many_below n in
        let same : n ≡ i = omega arith in
        let none : i - length (below n (λ x. true)) ≡ 0 = omega (arith, m) in
        right (below n (λ x. true)) (n ∷ []) i (omega (arith, m, k)) ∙ ap (slice_get (n ∷ [])) none ∙ ap Some same

get_map : {A B : Type 0} (f : A → B) (xs : List A) (i : ℕ) (x : A) → slice_get xs i ≡ Some x → slice_get (map f xs) i ≡ Some (f x)
get_map f [] i x e = absurd cc
get_map {A} f (y ∷ xs) zero x e = let same : y ≡ x = (let s : ◌≡◌ {A = Option A} (Some y) (Some x) = e in cc) in ap (λ z. Some (f z)) same
get_map f (y ∷ xs) (suc i) x e = get_map f xs i x e

-- ---- the tasks

pub many_tasks : (p : Plan) → count_tasks (with_cleans p) ≡ count_tasks p + count_pairs p
many_tasks p = length-append p.tasks (cleans_of p) ∙ ap (λ (n : ℕ). count_tasks p + n) (length-map (below (count_pairs p) (λ x. true)) (clean_of p) ∙ many_below (count_pairs p))

pub old_task : (p : Plan) (t : ℕ) → t < count_tasks p → slice_get (with_cleans p).tasks t ≡ slice_get p.tasks t
old_task p t l = left p.tasks (cleans_of p) t l

pub new_task : (p : Plan) (t : ℕ) → count_tasks p ≤ t → t < count_tasks (with_cleans p) → slice_get (with_cleans p).tasks t ≡ Some (clean_of p (t - count_tasks p))
new_task p t l m =
    let many = many_tasks p in
    right p.tasks (cleans_of p) t l ∙ get_map (clean_of p) (below (count_pairs p) (λ x. true)) (t - count_tasks p) (t - count_tasks p) (at_below (count_pairs p) (t - count_tasks p) (omega (arith, many, l, m)))

pub no_task : (p : Plan) (t : ℕ) → count_tasks (with_cleans p) ≤ t → slice_get (with_cleans p).tasks t ≡ None
no_task p t l = slice_get_past (with_cleans p).tasks t l

-- an old task, a Clean, or none
pub data Standing (p : Plan) (t : ℕ) : Type 0 where
  Old : t < count_tasks p → slice_get (with_cleans p).tasks t ≡ slice_get p.tasks t → Standing p t
  New : (n : ℕ) → n < count_pairs p → t ≡ count_tasks p + n → slice_get (with_cleans p).tasks t ≡ Some (clean_of p n) → Standing p t
  Past : count_tasks (with_cleans p) ≤ t → slice_get (with_cleans p).tasks t ≡ None → Standing p t

pub standing : (p : Plan) (t : ℕ) → Standing p t
standing p t = by (cases_lt t (count_tasks p)) (cases_lt t (count_tasks (with_cleans p)))
  where
    by : (t < count_tasks p) ⊎ (count_tasks p ≤ t) → (t < count_tasks (with_cleans p)) ⊎ (count_tasks (with_cleans p) ≤ t) → Standing p t
    by (inl l) other = Old l (old_task p t l)
    by (inr l) (inl m) = let many = many_tasks p in New (t - count_tasks p) (omega (arith, many, l, m)) (omega arith) (new_task p t l m)
    by (inr l) (inr m) = Past m (no_task p t m)

-- ---- what they write, read and wait for

pub new_touches_nothing : (p : Plan) (t : ℕ) → count_tasks p ≤ t → (writes_in (slice_get (with_cleans p).tasks t) ≡ []) × (reads_in (slice_get (with_cleans p).tasks t) ≡ [])
new_touches_nothing p t l = by (standing p t)
  where
    by : Standing p t → (writes_in (slice_get (with_cleans p).tasks t) ≡ []) × (reads_in (slice_get (with_cleans p).tasks t) ≡ [])
    by (Old m e) = absurd (omega arith)
    by (New n m i e) = (ap writes_in e, ap reads_in e)
    by (Past m e) = (ap writes_in e, ap reads_in e)

pub old_writes : (p : Plan) (t : ℕ) → t < count_tasks p → writes (with_cleans p) t ≡ writes p t
unfolding writes
old_writes p t l = ap writes_in (old_task p t l)

pub old_reads : (p : Plan) (t : ℕ) → t < count_tasks p → reads (with_cleans p) t ≡ reads p t
unfolding reads
old_reads p t l = ap reads_in (old_task p t l)

pub old_kind : (p : Plan) (t : ℕ) → t < count_tasks p → kind (with_cleans p) t ≡ kind p t
unfolding kind
old_kind p t l = ap kind_in (old_task p t l)

pub old_parents : (p : Plan) (t : ℕ) → t < count_tasks p → parents (with_cleans p) t ≡ parents p t
unfolding parents
old_parents p t l = ap parents_in (old_task p t l)

pub writer_is_old : (p : Plan) (t q : ℕ) → has (writes (with_cleans p) t) q ≡ true → t < count_tasks p
unfolding writes
writer_is_old p t q h = by (cases_lt t (count_tasks p))
  where
    by : (t < count_tasks p) ⊎ (count_tasks p ≤ t) → t < count_tasks p
    by (inl l) = l
    by (inr l) = absurd (let x : false ≡ true = sym (ap (λ (xs : List ℕ). has xs q) (new_touches_nothing p t l).0) ∙ h in cc)

-- ---- for whom they wait

any_none : (xs : List ℕ) → list_any (λ q. has [] q) xs ≡ false
any_none [] = refl
any_none (x ∷ xs) = any_none xs

sweeps_none : (o : Option TaskKind) → sweeps o [] ≡ false
sweeps_none None = refl
sweeps_none (Some (Transfer g from to)) = refl
sweeps_none (Some (Run s js)) = refl
sweeps_none (Some (Clean q)) = refl

-- nobody waits for what touches nothing
waits_for_none : (o u : Option Task) → writes_in u ≡ [] → reads_in u ≡ [] → task_waits o u ≡ false
waits_for_none o u none_written none_read =
    ap (λ (ns : List ℕ). list_any (λ n. has ns n) (reads_in o) || (sweeps (kind_in o) ns || sweeps (kind_in o) (reads_in u))) none_written
    ∙ ap (λ (ns : List ℕ). list_any (λ n. has [] n) (reads_in o) || (sweeps (kind_in o) [] || sweeps (kind_in o) ns)) none_read
    ∙ ap (λ (b : Bool). b || (sweeps (kind_in o) [] || sweeps (kind_in o) [])) (any_none (reads_in o))
    ∙ ap (λ (b : Bool). b || b) (sweeps_none (kind_in o))

pub waits_for_old : (p : Plan) (t u : ℕ) → waits_for (with_cleans p) t u ≡ true → u < count_tasks p
unfolding waits_for
waits_for_old p t u h = by (cases_lt u (count_tasks p))
  where
    by : (u < count_tasks p) ⊎ (count_tasks p ≤ u) → u < count_tasks p
    by (inl l) = l
    by (inr l) = absurd (let none = new_touches_nothing p u l in let x : false ≡ true = sym (waits_for_none (slice_get (with_cleans p).tasks t) (slice_get (with_cleans p).tasks u) none.0 none.1) ∙ h in cc)

pub old_waits : (p : Plan) (t u : ℕ) → t < count_tasks p → u < count_tasks p → waits_for (with_cleans p) t u ≡ waits_for p t u
unfolding waits_for
old_waits p t u l m = ap (λ (o : Option Task). task_waits o (slice_get (with_cleans p).tasks u)) (old_task p t l) ∙ ap (task_waits (slice_get p.tasks t)) (old_task p u m)

pub past_waits : (p : Plan) (t u : ℕ) → slice_get (with_cleans p).tasks t ≡ None → waits_for (with_cleans p) t u ≡ false
unfolding waits_for
past_waits p t u e = ap (λ (o : Option Task). task_waits o (slice_get (with_cleans p).tasks u)) e

-- a Clean waits for who touches its pair
pub clean_waits : (p : Plan) (t u n : ℕ) → slice_get (with_cleans p).tasks t ≡ Some (clean_of p n) → u < count_tasks p → waits_for (with_cleans p) t u ≡ touches p n u
unfolding waits_for reads writes
clean_waits p t u n e l =
    ap (λ (o : Option Task). task_waits o (slice_get (with_cleans p).tasks u)) e
    ∙ ap (λ (o : Option Task). has (writes_in o) n || has (reads_in o) n) (old_task p u l)
    ∙ sym (has_append (writes_in (slice_get p.tasks u)) (reads_in (slice_get p.tasks u)) n)

numbers_of_tasks : (xs : List ℕ) → task_numbers (map task xs) ≡ xs
numbers_of_tasks [] = refl
numbers_of_tasks (x ∷ xs) = ap (λ (ys : List ℕ). x ∷ ys) (numbers_of_tasks xs)

pub clean_parents : (p : Plan) (t n : ℕ) → slice_get (with_cleans p).tasks t ≡ Some (clean_of p n) → parents (with_cleans p) t ≡ below (count_tasks p) (touches p n)
unfolding parents
clean_parents p t n e = ap parents_in e ∙ numbers_of_tasks (below (count_tasks p) (touches p n))

pub past_parents : (p : Plan) (t : ℕ) → slice_get (with_cleans p).tasks t ≡ None → parents (with_cleans p) t ≡ []
unfolding parents
past_parents p t e = ap parents_in e

-- ---- lists of numbers

by_bool : (b : Bool) → (b ≡ true → b ≡ false) → b ≡ false
by_bool true h = h refl
by_bool false h = refl

pub nothing_below : (n : ℕ) (test : ℕ → Bool) → ((x : ℕ) → test x ≡ false) → below n test ≡ []
unfolding below
nothing_below zero test none = refl
nothing_below (suc n) test none = ap (λ (b : Bool). below n test ++ cond b (n ∷ []) []) (none n) ∙ ap (λ (xs : List ℕ). xs ++ []) (nothing_below n test none)

-- a list that is in range below m is in range below n
pub longer : (m n : ℕ) (xs : List ℕ) → m ≤ n → xs ≡ below m (has xs) → xs ≡ below n (has xs)
unfolding below
longer m zero xs l e = let z : m ≡ 0 = omega arith in e ∙ ap (λ (k : ℕ). below k (has xs)) z
longer m (suc n) xs l e = by (cases_lt n m) (λ k. longer m n xs k e)
  where
    out : m ≤ n → has xs n ≡ false
    out k = by_bool (has xs n) (λ h. absurd (let b = below_has m (has xs) n (ap (λ (ys : List ℕ). has ys n) (sym e) ∙ h) in let c : n < m = b.0 in omega arith))

    by : (n < m) ⊎ (m ≤ n) → (m ≤ n → xs ≡ below n (has xs)) → xs ≡ below n (has xs) ++ cond (has xs n) (n ∷ []) []
    by (inl k) rest = let z : m ≡ suc n = omega arith in e ∙ ap (λ (k : ℕ). below k (has xs)) z
    by (inr k) rest = rest k ∙ sym (ap (λ (b : Bool). below n (has xs) ++ cond b (n ∷ []) []) (out k) ∙ append-nil (below n (has xs)))

pub listed_is : (n : ℕ) (test : ℕ → Bool) (xs : List ℕ) → xs ≡ below n test → xs ≡ below n (has xs)
listed_is n test xs e = e ∙ same_below n test (has xs) (λ x l. by x l (test x) refl)
  where
    other : (x : ℕ) → test x ≡ false → (c : Bool) → has xs x ≡ c → false ≡ c
    other x k true h = absurd (let t : test x ≡ true = (below_has n test x (ap (λ (ys : List ℕ). has ys x) (sym e) ∙ h)).1 in cc)
    other x k false h = refl

    by : (x : ℕ) → x < n → (b : Bool) → test x ≡ b → test x ≡ has xs x
    by x l true k = k ∙ sym (ap (λ (ys : List ℕ). has ys x) e ∙ has_below n test x l k)
    by x l false k = k ∙ other x k (has xs x) refl
