-- Graphs of tasks and what is listed of them.
use Rattle.std.proofs.Common.{◌≡◌, ℕ, zero, suc, ◌<◌, ◌≤◌, true, List, [], ◌∷◌, length, max, refl, sym, ap, ◌∙◌, nat_eq, arith, get_or, ◌⊎◌, inl, inr}
use Rattle.std.specs.Prelude.{Option, Vec}
use Rattle.std.specs.List.{All}
use Rattle.std.specs.declared.alloc.Global.{Global}
use Rattle.std.proofs.lemmas.Bool.{cases_lt}
use Rattle.std.proofs.lemmas.Option.{slice_get_past}
use Rattle.std.proofs.lemmas.List.Folds.{list_any_at}
use Rattle.std.proofs.lemmas.List.Elements.{All-from_get_or}
use Rattle.std.proofs.Math.Nat.{le-max_left, le-max_right}
use Rattle.digraph.specs.code.Adjacency.{lists_of}
use Rattle.digraph.specs.Adjacency.{neighbours}
use Rattle.plan_core.specs.declared.listing.Listing.{Listing}
use Rattle.plan_core.specs.declared.listing.Listing.TheVariants.{Reads, Writes, Cleaned, Delivered, Parents}
use Rattle.plan_core.specs.declared.plan.Plan.{Plan}
use Rattle.plan_core.specs.declared.plan.Task.{Task}
use Rattle.plan_core.specs.Numbers.{has}
use Rattle.plan_core.specs.Words.{reads, writes, parents, kind, reads_in, writes_in, parents_in, kind_in, count_tasks}
use Rattle.plan_core.specs.code.Listing.{listed, cleaned, delivered, nodes}
use Rattle.plan_core.proofs.TestLemmas.{is_itself}

none_past : (vs : List (Vec ℕ Global)) (k : ℕ) → length vs ≤ k → neighbours (lists_of vs) k ≡ []
none_past [] k l = refl
none_past (v ∷ vs) zero l = absurd (omega arith)
none_past (v ∷ vs) (suc k) l = none_past vs k (omega arith)

pub none_listed : (p : Plan) (l : Listing) (t : ℕ) → count_tasks p ≤ t → listed p l t ≡ []
unfolding reads writes parents kind
none_listed p Reads t h = ap reads_in (slice_get_past p.tasks t h)
none_listed p Writes t h = ap writes_in (slice_get_past p.tasks t h)
none_listed p Cleaned t h = ap (λ (o : Option Task). cleaned (kind_in o)) (slice_get_past p.tasks t h)
none_listed p Delivered t h = ap (λ (o : Option Task). delivered (kind_in o)) (slice_get_past p.tasks t h)
none_listed p Parents t h = ap parents_in (slice_get_past p.tasks t h)

pub all_low : (n : ℕ) (xs : List ℕ) → ((x : ℕ) → has xs x ≡ true → x < n) → All (λ m. m < n) xs
all_low n xs h = All-from_get_or (λ m. m < n) xs 0 (λ i l. h (get_or xs i 0) (list_any_at (λ y. nat_eq y (get_or xs i 0)) xs i 0 l (is_itself (get_or xs i 0))))

pub tasks_are_nodes : (p : Plan) → count_tasks p ≤ nodes p
tasks_are_nodes p = le-max_left (length p.tasks) (max (length p.pairs) (length p.files))

pub pairs_are_nodes : (p : Plan) → length p.pairs ≤ nodes p
pairs_are_nodes p = let a = le-max_left (length p.pairs) (length p.files) in let b = le-max_right (length p.tasks) (max (length p.pairs) (length p.files)) in omega (arith, a, b)

pub files_are_nodes : (p : Plan) → length p.files ≤ nodes p
files_are_nodes p = let a = le-max_right (length p.pairs) (length p.files) in let b = le-max_right (length p.tasks) (max (length p.pairs) (length p.files)) in omega (arith, a, b)

-- lists of r for each node, where r is nothing past the nodes
pub made_lists : (vs : List (Vec ℕ Global)) (n : ℕ) (r : ℕ → List ℕ) → length vs ≡ n → ((t : ℕ) → t < n → neighbours (lists_of vs) t ≡ r t) → ((t : ℕ) → n ≤ t → r t ≡ []) → (t : ℕ) → neighbours (lists_of vs) t ≡ r t
made_lists vs n r long is none t = by (cases_lt t n)
  where
    by : (t < n) ⊎ (n ≤ t) → neighbours (lists_of vs) t ≡ r t
    by (inl l) = is t l
    by (inr l) = none_past vs t (omega (arith, long, l)) ∙ sym (none t l)

pub lists_low : (vs : List (Vec ℕ Global)) (n : ℕ) (r : ℕ → List ℕ) → length vs ≡ n → ((t : ℕ) → neighbours (lists_of vs) t ≡ r t) → ((t x : ℕ) → has (r t) x ≡ true → x < n) → (k : ℕ) → All (λ m. m < length vs) (neighbours (lists_of vs) k)
lists_low vs n r long is low k = all_low (length vs) (neighbours (lists_of vs) k) (λ x h. let l : x < n = low k x (ap (λ (xs : List ℕ). has xs x) (sym (is k)) ∙ h) in omega (arith, long, l))

pub listed_lists : (p : Plan) (l : Listing) (vs : List (Vec ℕ Global)) → length vs ≡ nodes p → ((t : ℕ) → t < nodes p → neighbours (lists_of vs) t ≡ listed p l t) → (t : ℕ) → neighbours (lists_of vs) t ≡ listed p l t
listed_lists p l vs long is = made_lists vs (nodes p) (listed p l) long is (λ t h. none_listed p l t (let low = tasks_are_nodes p in omega (arith, low, h)))
