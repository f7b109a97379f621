-- Which tasks write or read each pair.
use Rattle.std.proofs.Common.{◌≡◌, ℕ, zero, suc, ◌+◌, ◌<◌, ◌≤◌, ◌||◌, ◌⊎◌, inl, inr, Bool, true, false, List, [], ◌∷◌, ◌++◌, length, map, max, refl, sym, ap, ◌∙◌, nat_eq, arith, get_or}
use Rattle.std.specs.Prelude.{Vec}
use Rattle.std.specs.List.{All}
use Rattle.std.specs.declared.alloc.Global.{Global}
use Rattle.std.proofs.lemmas.Bool.{cases_lt}
use Rattle.std.proofs.lemmas.Option.{slice_get_past}
use Rattle.std.proofs.lemmas.List.Folds.{list_any_at}
use Rattle.std.proofs.lemmas.List.Elements.{All-from_get_or}
use Rattle.std.proofs.Math.Nat.{le-max_left, le-max_right}
use Rattle.digraph.specs.Adjacency.{AreNeighbours, IsRising, neighbours}
use Rattle.digraph.specs.code.Adjacency.{lists_of}
use Rattle.plan_core.specs.declared.plan.Plan.{Plan}
use Rattle.plan_core.specs.code.Numbers.{RisesFrom}
use Rattle.plan_core.specs.Numbers.{below, has}
use Rattle.plan_core.specs.Words.{count_pairs, count_tasks, reads, reads_in, writes, writes_in}
use Rattle.cleanup_refiner.specs.Cleans.{clean_of, touched, touches}
use Rattle.cleanup_refiner.proofs.NumbersLemmas.{has_append}

is_itself : (n : ℕ) → nat_eq n n ≡ true
is_itself n = grind arith

all_low : (n : ℕ) (xs : List ℕ) → ((x : ℕ) → has xs x ≡ true → x < n) → All (λ m. m < n) xs
all_low n xs h = All-from_get_or (λ m. m < n) xs 0 (λ i l. h (get_or xs i 0) (list_any_at (λ y. nat_eq y (get_or xs i 0)) xs i 0 l (is_itself (get_or xs i 0))))

none_past : (vs : List (Vec ℕ Global)) (k : ℕ) → length vs ≤ k → neighbours (lists_of vs) k ≡ []
none_past [] k l = refl
none_past (v ∷ vs) zero l = absurd (omega arith)
none_past (v ∷ vs) (suc k) l = none_past vs k (omega arith)

-- no task touches nothing
none_touched : (p : Plan) (t : ℕ) → count_tasks p ≤ t → touched p t ≡ []
unfolding reads writes
none_touched p t h = ap (λ (xs : List ℕ). xs ++ reads p t) (ap writes_in (slice_get_past p.tasks t h)) ∙ ap reads_in (slice_get_past p.tasks t h)

-- who touches a pair is a task
pub toucher : (p : Plan) (q t : ℕ) → touches p q t ≡ true → t < count_tasks p
toucher p q t h = by (cases_lt t (count_tasks p))
  where
    by : (t < count_tasks p) ⊎ (count_tasks p ≤ t) → t < count_tasks p
    by (inl l) = l
    by (inr l) = absurd (let x : false ≡ true = sym (ap (λ (xs : List ℕ). has xs q) (none_touched p t l)) ∙ h in cc)

turn : (a b : Bool) → (a || b) ≡ true → (b || a) ≡ true
turn true true h = refl
turn true false h = refl
turn false true h = refl
turn false false h = h

-- the lists of what each task touches
pub all_lists : (p : Plan) (vs : List (Vec ℕ Global)) (n : ℕ) → length vs ≡ n → count_tasks p ≤ n → ((t : ℕ) → t < n → neighbours (lists_of vs) t ≡ touched p t) → (t : ℕ) → neighbours (lists_of vs) t ≡ touched p t
all_lists p vs n long enough are t = by (cases_lt t n)
  where
    by : (t < n) ⊎ (n ≤ t) → neighbours (lists_of vs) t ≡ touched p t
    by (inl l) = are t l
    by (inr l) = none_past vs t (omega (arith, long, l)) ∙ sym (none_touched p t (omega (arith, enough, l)))

pub lists_low : (p : Plan) (vs : List (Vec ℕ Global)) (n : ℕ) → length vs ≡ n → count_pairs p ≤ n → ((t : ℕ) → neighbours (lists_of vs) t ≡ touched p t) → ((t q : ℕ) → (has (reads p t) q || has (writes p t) q) ≡ true → q < count_pairs p)
    → (k : ℕ) → All (λ m. m < length vs) (neighbours (lists_of vs) k)
lists_low p vs n long enough are low k = all_low (length vs) (neighbours (lists_of vs) k) (λ x h.
    let there : (has (writes p k) x || has (reads p k) x) ≡ true = sym (has_append (writes p k) (reads p k) x) ∙ ap (λ (xs : List ℕ). has xs x) (sym (are k)) ∙ h in
    let l : x < count_pairs p = low k x (turn (has (writes p k) x) (has (reads p k) x) there) in
    omega (arith, long, l, enough))

pub max_left : (a b : ℕ) → a ≤ max a b
max_left a b = le-max_left a b

pub max_right : (a b : ℕ) → b ≤ max a b
max_right a b = le-max_right a b

-- ---- the tasks of a pair

-- each number from a bound on
rises : (b : ℕ) (xs : List ℕ) → All (λ m. b ≤ m) xs → IsRising xs → RisesFrom b xs
rises b [] low rising = tt
rises b (x ∷ xs) low rising = (low 0 0 (omega arith), rises (suc x) xs (λ k d h. let l : x < get_or xs k d = rising.0 k d h in omega (arith, l)) rising.1)

abbrev OneList : Type 0
OneList = (n : ℕ) (test : ℕ → Bool) (xs : List ℕ) → RisesFrom 0 xs → ((x : ℕ) → has xs x ≡ true → (x < n) × (test x ≡ true)) → ((x : ℕ) → x < n → test x ≡ true → has xs x ≡ true) → xs ≡ below n test

-- the list of a pair has the tasks that touch it
pub tasks_of : OneList → (p : Plan) (e : ℕ → ℕ → Bool) (n : ℕ) (ls : List (List ℕ)) → AreNeighbours e n ls → ((q t : ℕ) → e q t ≡ touches p q t) → (q : ℕ) → neighbours ls q ≡ below (count_tasks p) (touches p q)
tasks_of one p e n ls are edges q =
    one (count_tasks p) (touches p q) (neighbours ls q) (rises 0 (neighbours ls q) (λ k d h. omega arith) (are.rising q))
    (λ x h. let t : touches p q x ≡ true = sym (edges q x) ∙ sym (are.same q x) ∙ h in (toucher p q x t, t))
    (λ x l t. are.same q x ∙ edges q x ∙ t)

-- ---- one Clean more

pub no_clean_yet : (p : Plan) → map (clean_of p) (below 0 (λ q. true)) ≡ []
unfolding below
no_clean_yet p = refl

pub map_append : {A B : Type 0} (f : A → B) (xs ys : List A) → map f (xs ++ ys) ≡ map f xs ++ map f ys
map_append f [] ys = refl
map_append {A} {B} f (x ∷ xs) ys = ap (λ (zs : List B). f x ∷ zs) (map_append f xs ys)

pub one_clean_more : (p : Plan) (q : ℕ) → map (clean_of p) (below (q + 1) (λ n. true)) ≡ map (clean_of p) (below q (λ n. true)) ++ clean_of p q ∷ []
unfolding below
one_clean_more p q =
    let next : q + 1 ≡ suc q = omega arith in
    ap (λ (n : ℕ). map (clean_of p) (below n (λ n. true))) next ∙ map_append (clean_of p) (below q (λ n. true)) (q ∷ [])
