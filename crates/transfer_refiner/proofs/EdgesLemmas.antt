-- Which edges are listed.
use Rattle.std.proofs.Common.{◌≡◌, ◌≢◌, ℕ, zero, suc, ◌<◌, ◌≤◌, ◌||◌, ◌&&◌, Bool, true, false, not, cond, List, [], ◌∷◌, ◌++◌, length, nat_eq, nat_lt, refl, sym, ap, ◌∙◌, arith, ◌+◌, add-one, All, ◌⊎◌, inl, inr}
use Rattle.std.specs.Prelude.{slice_index_or}
use Rattle.std.specs.List.{list_any, flat_map}
use Rattle.std.proofs.lemmas.Bool.{cases_lt}
use Rattle.std.proofs.lemmas.List.Folds.{list_any-append}
use Rattle.std.proofs.lemmas.List.Elements.{All-nil, All-cons}
use Rattle.values.specs.declared.numbers.JobId.{JobId}
use Rattle.workflow_core.specs.declared.workflow.Workflow.{Workflow}
use Rattle.workflow_core.specs.WellFormed.{parent_of, child_of}
use Rattle.dependency_graph.specs.Edges.{read_by, written_by}
use Rattle.plan_core.specs.Numbers.{has}
use Rattle.plan_core.specs.Words.{job_numbers}
use Rattle.transfer_refiner.specs.Draft.{Draft, part_uses, part_makes, part_needs, site_of, stands}
use Rattle.transfer_refiner.specs.Tasks.{part_of, comes_after}
use Rattle.transfer_refiner.specs.code.Edges.{fan, held_edges, job_edges, part_edges, stood_edges, fan_apart, all_apart}
use Rattle.transfer_refiner.specs.code.Conditions.{IsDraft}
use Rattle.plan_core.proofs.TestLemmas.{same_number, other_number, is_itself, both, and_both, or_left, or_right, by_bool}
use Rattle.transfer_refiner.proofs.JobsLemmas.{any_same}
use Rattle.transfer_refiner.proofs.StandingLemmas.{stands_within}

abbrev pub is_edge : ℕ → ℕ → ℕ × ℕ → Bool
is_edge a b p = nat_eq p.0 a && nat_eq p.1 b

pub any_flat : {A B : Type 0} (test : B → Bool) (g : A → List B) (xs : List A) → list_any test (flat_map g xs) ≡ list_any (λ x. list_any test (g x)) xs
any_flat test g [] = refl
any_flat test g (x ∷ xs) = list_any-append test (g x) (flat_map g xs) ∙ ap (λ (b : Bool). list_any test (g x) || b) (any_flat test g xs)

mix : (a b c d : Bool) → ((a || b) || (c || d)) ≡ ((a || c) || (b || d))
mix true b c d = refl
mix false true true d = refl
mix false true false d = refl
mix false false true d = refl
mix false false false d = refl

pub any_or : {A : Type 0} (p q : A → Bool) (xs : List A) → list_any (λ x. p x || q x) xs ≡ (list_any p xs || list_any q xs)
any_or p q [] = refl
any_or p q (x ∷ xs) = ap (λ (b : Bool). (p x || q x) || b) (any_or p q xs) ∙ mix (p x) (q x) (list_any p xs) (list_any q xs)

pub any_and : {A : Type 0} (e : Bool) (p : A → Bool) (xs : List A) → list_any (λ x. e && p x) xs ≡ (e && list_any p xs)
any_and true p xs = refl
any_and false p [] = refl
any_and false p (x ∷ xs) = any_and false p xs

join : (x y z : Bool) → ((x && y) || (x && z)) ≡ (x && (y || z))
join true y z = refl
join false y z = refl

and_no : (x : Bool) → false ≡ (x && false)
and_no true = refl
and_no false = refl

pub fan_any : (a : ℕ) (bs : List ℕ) (c j : ℕ) → list_any (is_edge c j) (fan a bs) ≡ (nat_eq a c && has bs j)
fan_any a [] c j = and_no (nat_eq a c)
fan_any a (b ∷ bs) c j = ap (λ (t : Bool). (nat_eq a c && nat_eq b j) || t) (fan_any a bs c j) ∙ join (nat_eq a c) (nat_eq b j) (has bs j)

low : (a b : ℕ) → a < b → nat_lt a b ≡ true
low a b l = grind arith

not_low : (a b : ℕ) → b ≤ a → nat_lt a b ≡ false
not_low a b l = grind arith

past : {A : Type 0} (xs : List A) (i : ℕ) (d : A) → length xs ≤ i → slice_index_or xs i d ≡ d
past [] i d l = refl
past (x ∷ xs) zero d l = absurd (omega arith)
past (x ∷ xs) (suc i) d l = past xs i d (omega arith)

-- ---- who holds a job

pub held_none : (d : Draft) → held_edges d 0 ≡ []
unfolding held_edges
held_none d = refl

pub held_more : (d : Draft) (n : ℕ) → held_edges d (n + 1) ≡ held_edges d n ++ fan n (part_of d n)
unfolding held_edges
held_more d n = rw add-one refl

held_any : (d : Draft) (n c j : ℕ) → list_any (is_edge c j) (held_edges d n) ≡ (nat_lt c n && has (part_of d c) j)
unfolding held_edges
held_any d zero c j = sym (ap (λ (b : Bool). b && has (part_of d c) j) (not_low c 0 (omega arith)))
held_any d (suc n) c j =
    list_any-append (is_edge c j) (held_edges d n) (fan n (part_of d n))
    ∙ ap (λ (b : Bool). b || list_any (is_edge c j) (fan n (part_of d n))) (held_any d n c j)
    ∙ ap (λ (b : Bool). (nat_lt c n && has (part_of d c) j) || b) (fan_any n (part_of d n) c j)
    ∙ by_bool (nat_eq n c) here there
  where
    none : (b : Bool) → (b || false) ≡ b
    none true = refl
    none false = refl

    here : nat_eq n c ≡ true → ((nat_lt c n && has (part_of d c) j) || (nat_eq n c && has (part_of d n) j)) ≡ (nat_lt c (suc n) && has (part_of d c) j)
    here e =
        let same : n ≡ c = same_number n c e in
        ap (λ (b : Bool). (b && has (part_of d c) j) || (nat_eq n c && has (part_of d n) j)) (not_low c n (omega arith))
        ∙ ap (λ (b : Bool). b && has (part_of d n) j) e ∙ ap (λ (m : ℕ). has (part_of d m) j) same
        ∙ sym (ap (λ (b : Bool). b && has (part_of d c) j) (low c (suc n) (omega arith)))

    lower : nat_eq n c ≡ false → (c < n) ⊎ (n ≤ c) → nat_lt c n ≡ nat_lt c (suc n)
    lower e (inl l) = low c n l ∙ sym (low c (suc n) (omega arith))
    lower e (inr l) = let off : n ≢ c = other_number n c e in not_low c n l ∙ sym (not_low c (suc n) (omega arith))

    there : nat_eq n c ≡ false → ((nat_lt c n && has (part_of d c) j) || (nat_eq n c && has (part_of d n) j)) ≡ (nat_lt c (suc n) && has (part_of d c) j)
    there e = ap (λ (b : Bool). (nat_lt c n && has (part_of d c) j) || (b && has (part_of d n) j)) e ∙ none (nat_lt c n && has (part_of d c) j) ∙ ap (λ (b : Bool). b && has (part_of d c) j) (lower e (cases_lt c n))

pub part_below : (d : Draft) (c j : ℕ) → has (part_of d c) j ≡ true → c < length d.parts
part_below d c j h = by (cases_lt c (length d.parts))
  where
    by : (c < length d.parts) ⊎ (length d.parts ≤ c) → c < length d.parts
    by (inl l) = l
    by (inr l) = absurd (let e : part_of d c ≡ [] = ap job_numbers (past d.parts c [] l) in let x : false ≡ true = ap (λ (ns : List ℕ). has ns j) (sym e) ∙ h in cc)

held_all : (d : Draft) (c j : ℕ) → list_any (is_edge c j) (held_edges d (length d.parts)) ≡ has (part_of d c) j
held_all d c j = held_any d (length d.parts) c j ∙ by_bool (has (part_of d c) j)
    (λ h. ap (λ (b : Bool). b && has (part_of d c) j) (low c (length d.parts) (part_below d c j h)))
    (λ h. ap (λ (b : Bool). nat_lt c (length d.parts) && b) h ∙ sym (and_no (nat_lt c (length d.parts))) ∙ sym h)

pub held_are : (d : Draft) (es : List (ℕ × ℕ)) → es ≡ held_edges d (length d.parts) → (c j : ℕ) → list_any (is_edge c j) es ≡ has (part_of d c) j
held_are d es is c j = ap (list_any (is_edge c j)) is ∙ held_all d c j

pub all_edges : (P : ℕ × ℕ → Type 0) (es : List (ℕ × ℕ)) → ((a b : ℕ) → list_any (is_edge a b) es ≡ true → P (a, b)) → All P es
all_edges P [] h = All-nil P
all_edges P (e ∷ es) h =
    All-cons P e es (h e.0 e.1 (or_left (is_edge e.0 e.1 e) (list_any (is_edge e.0 e.1) es) (and_both (nat_eq e.0 e.0) (nat_eq e.1 e.1) (is_itself e.0) (is_itself e.1))))
    (all_edges P es (λ a b k. h a b (or_right (is_edge a b e) (list_any (is_edge a b) es) k)))

pub held_within : (d : Draft) (es : List (ℕ × ℕ)) (n : ℕ) → IsDraft d → es ≡ held_edges d (length d.parts) → n ≡ length d.workflow.jobs → All (λ (p : ℕ × ℕ). (p.0 < n) × (p.1 < n)) es
held_within d es n draft is long = all_edges (λ (p : ℕ × ℕ). (p.0 < n) × (p.1 < n)) es (λ a b k.
    let h : has (part_of d a) b ≡ true = sym (held_are d es is a b) ∙ k in
    let one : a < length d.parts = part_below d a b h in
    let few : length d.parts ≤ length d.workflow.jobs = draft.few_parts in
    let two : b < length d.workflow.jobs = draft.jobs_below a b h in
    (omega (arith, one, few, long), omega (arith, two, long)))

-- ---- where files stand

job_any : (w : Workflow) (a s f : ℕ) (j : JobId) → list_any (is_edge s f) (job_edges w a j) ≡ (nat_eq a s && (has (read_by w j.0) f || has (written_by w j.0) f))
job_any w a s f j =
    list_any-append (is_edge s f) (fan a (read_by w j.0)) (fan a (written_by w j.0))
    ∙ ap (λ (b : Bool). b || list_any (is_edge s f) (fan a (written_by w j.0))) (fan_any a (read_by w j.0) s f)
    ∙ ap (λ (b : Bool). (nat_eq a s && has (read_by w j.0) f) || b) (fan_any a (written_by w j.0) s f)
    ∙ join (nat_eq a s) (has (read_by w j.0) f) (has (written_by w j.0) f)

part_any : (d : Draft) (s f : ℕ) (js : List JobId) → list_any (is_edge s f) (part_edges d js) ≡ (nat_eq (site_of d js) s && (part_uses d js f || part_makes d js f))
part_any d s f js =
    any_flat (is_edge s f) (job_edges d.workflow (site_of d js)) js
    ∙ any_same (λ (j : JobId). list_any (is_edge s f) (job_edges d.workflow (site_of d js) j)) (λ (j : JobId). nat_eq (site_of d js) s && (has (read_by d.workflow j.0) f || has (written_by d.workflow j.0) f)) js (λ j. job_any d.workflow (site_of d js) s f j)
    ∙ any_and (nat_eq (site_of d js) s) (λ (j : JobId). has (read_by d.workflow j.0) f || has (written_by d.workflow j.0) f) js
    ∙ ap (λ (b : Bool). nat_eq (site_of d js) s && b) (any_or (λ (j : JobId). has (read_by d.workflow j.0) f) (λ (j : JobId). has (written_by d.workflow j.0) f) js)

split : (e u m : Bool) → (e && (u || m)) ≡ ((e && m) || (e && (u && not m)))
split false u m = refl
split true true true = refl
split true true false = refl
split true false true = refl
split true false false = refl

stood_all : (d : Draft) (s f : ℕ) → list_any (is_edge s f) (stood_edges d) ≡ stands d s f
unfolding stands
stood_all d s f =
    any_flat (is_edge s f) (part_edges d) d.parts
    ∙ any_same (λ (js : List JobId). list_any (is_edge s f) (part_edges d js)) (λ (js : List JobId). (nat_eq (site_of d js) s && part_makes d js f) || (nat_eq (site_of d js) s && part_needs d js f)) d.parts
    (λ js. part_any d s f js ∙ split (nat_eq (site_of d js) s) (part_uses d js f) (part_makes d js f))
    ∙ any_or (λ (js : List JobId). nat_eq (site_of d js) s && part_makes d js f) (λ (js : List JobId). nat_eq (site_of d js) s && part_needs d js f) d.parts

pub stood_are : (d : Draft) (es : List (ℕ × ℕ)) → es ≡ stood_edges d → (s f : ℕ) → list_any (is_edge s f) es ≡ stands d s f
stood_are d es is s f = ap (list_any (is_edge s f)) is ∙ stood_all d s f

pub stood_within : (d : Draft) (es : List (ℕ × ℕ)) (n : ℕ) → IsDraft d → es ≡ stood_edges d → length d.workflow.files ≤ n → length d.request.execute ≤ n → All (λ (p : ℕ × ℕ). (p.0 < n) × (p.1 < n)) es
stood_within d es n draft is files sites = all_edges (λ (p : ℕ × ℕ). (p.0 < n) × (p.1 < n)) es (λ a b k.
    let within = stands_within d draft a b (sym (stood_are d es is a b) ∙ k) in
    let one : a < length d.request.execute = within.site in
    let two : b < length d.workflow.files = within.file in
    (omega (arith, one, sites), omega (arith, two, files)))

-- ---- which parts follow each other

apart_any : (ts : List ℕ) (v u t : ℕ) → list_any (is_edge u t) (fan_apart ts v) ≡ (nat_eq v u && (not (nat_eq t u) && has ts t))
apart_any [] v u t = nothing (nat_eq v u) (nat_eq t u)
  where
    nothing : (x y : Bool) → false ≡ (x && (not y && false))
    nothing true true = refl
    nothing true false = refl
    nothing false y = refl
apart_any (x ∷ ts) v u t =
    list_any-append (is_edge u t) (cond (not (nat_eq x v)) ((v, x) ∷ []) []) (fan_apart ts v)
    ∙ ap (λ (b : Bool). list_any (is_edge u t) (cond (not (nat_eq x v)) ((v, x) ∷ []) []) || b) (apart_any ts v u t)
    ∙ by (nat_eq v u) refl (nat_eq x t) refl
  where
    one : (b : Bool) → list_any (is_edge u t) (cond b ((v, x) ∷ []) []) ≡ (b && (nat_eq v u && nat_eq x t))
    one true = no (nat_eq v u && nat_eq x t)
      where
        no : (b : Bool) → (b || false) ≡ b
        no true = refl
        no false = refl
    one false = refl

    fold : (a b c : Bool) → ((a && b) || (a && c)) ≡ (a && (b || c))
    fold true b c = refl
    fold false b c = refl

    off : (a b : Bool) → ((a && (false && b)) || false) ≡ false
    off true b = refl
    off false b = refl

    none : (a : Bool) → (a && false) ≡ false
    none true = refl
    none false = refl

    by : (p : Bool) → nat_eq v u ≡ p → (q : Bool) → nat_eq x t ≡ q → (list_any (is_edge u t) (cond (not (nat_eq x v)) ((v, x) ∷ []) []) || (nat_eq v u && (not (nat_eq t u) && has ts t))) ≡ (nat_eq v u && (not (nat_eq t u) && (nat_eq x t || has ts t)))
    by false e q g =
        ap (λ (b : Bool). b || (nat_eq v u && (not (nat_eq t u) && has ts t))) (one (not (nat_eq x v)) ∙ ap (λ (b : Bool). not (nat_eq x v) && (b && nat_eq x t)) e ∙ none (not (nat_eq x v)))
        ∙ ap (λ (b : Bool). b && (not (nat_eq t u) && has ts t)) e ∙ sym (ap (λ (b : Bool). b && (not (nat_eq t u) && (nat_eq x t || has ts t))) e)
    by true e true g =
        ap (λ (b : Bool). b || (nat_eq v u && (not (nat_eq t u) && has ts t))) (one (not (nat_eq x v)) ∙ ap (λ (b : Bool). not (nat_eq x v) && (b && nat_eq x t)) e ∙ ap (λ (b : Bool). not (nat_eq x v) && b) g ∙ yes (not (nat_eq x v)) ∙ ap not (ap (λ (m : ℕ). nat_eq m v) (same_number x t g) ∙ ap (nat_eq t) (same_number v u e)))
        ∙ ap (λ (b : Bool). not (nat_eq t u) || (b && (not (nat_eq t u) && has ts t))) e
        ∙ absorb (not (nat_eq t u)) (has ts t)
        ∙ sym (ap (λ (b : Bool). b && (not (nat_eq t u) && (nat_eq x t || has ts t))) e ∙ ap (λ (b : Bool). not (nat_eq t u) && (b || has ts t)) g)
      where
        yes : (a : Bool) → (a && true) ≡ a
        yes true = refl
        yes false = refl

        absorb : (a b : Bool) → (a || (a && b)) ≡ (a && true)
        absorb true b = refl
        absorb false b = refl
    by true e false g =
        ap (λ (b : Bool). b || (nat_eq v u && (not (nat_eq t u) && has ts t))) (one (not (nat_eq x v)) ∙ ap (λ (b : Bool). not (nat_eq x v) && (b && nat_eq x t)) e ∙ ap (λ (b : Bool). not (nat_eq x v) && b) g ∙ none (not (nat_eq x v)))
        ∙ sym (ap (λ (b : Bool). nat_eq v u && (not (nat_eq t u) && (b || has ts t))) g)

all_apart_any : (us ts : List ℕ) (u t : ℕ) → list_any (is_edge u t) (all_apart us ts) ≡ (has us u && (not (nat_eq t u) && has ts t))
all_apart_any us ts u t =
    any_flat (is_edge u t) (fan_apart ts) us
    ∙ any_same (λ (v : ℕ). list_any (is_edge u t) (fan_apart ts v)) (λ (v : ℕ). nat_eq v u && (not (nat_eq t u) && has ts t)) us (λ v. apart_any ts v u t)
    ∙ out us
  where
    step : (a b c : Bool) → ((a && c) || (b && c)) ≡ ((a || b) && c)
    step true true true = refl
    step true true false = refl
    step true false true = refl
    step true false false = refl
    step false b c = refl

    out : (vs : List ℕ) → list_any (λ (v : ℕ). nat_eq v u && (not (nat_eq t u) && has ts t)) vs ≡ (has vs u && (not (nat_eq t u) && has ts t))
    out [] = refl
    out (v ∷ vs) = ap (λ (b : Bool). (nat_eq v u && (not (nat_eq t u) && has ts t)) || b) (out vs) ∙ step (nat_eq v u) (has vs u) (not (nat_eq t u) && has ts t)

-- the edges of one pair more
pub stated_pair : (d : Draft) (old new : List (ℕ × ℕ)) (us ts : List ℕ) (p : JobId × JobId) (u t : ℕ) → new ≡ old ++ all_apart us ts → ((c : ℕ) → has us c ≡ has (part_of d c) (parent_of p)) → ((c : ℕ) → has ts c ≡ has (part_of d c) (child_of p))
    → list_any (is_edge u t) new ≡ (list_any (is_edge u t) old || (not (nat_eq t u) && (has (part_of d u) (parent_of p) && has (part_of d t) (child_of p))))
stated_pair d old new us ts p u t is one two =
    ap (list_any (is_edge u t)) is ∙ list_any-append (is_edge u t) old (all_apart us ts) ∙ ap (λ (b : Bool). list_any (is_edge u t) old || b) (all_apart_any us ts u t
    ∙ turn (has us u) (not (nat_eq t u)) (has ts t)
    ∙ ap (λ (b : Bool). not (nat_eq t u) && (b && has ts t)) (one u)
    ∙ ap (λ (b : Bool). not (nat_eq t u) && (has (part_of d u) (parent_of p) && b)) (two t))
  where
    turn : (a n b : Bool) → (a && (n && b)) ≡ (n && (a && b))
    turn true n b = refl
    turn false true b = refl
    turn false false b = refl

pub stated_more : (o n p r : Bool) → ((o || (n && p)) || (n && r)) ≡ (o || (n && (p || r)))
stated_more true n p r = refl
stated_more false true p r = refl
stated_more false false p r = refl

pub after_within : (d : Draft) (u t : ℕ) → comes_after d t u ≡ true → (u < length d.parts) × (t < length d.parts)
unfolding comes_after
after_within d u t h = at d.workflow.pairs (both (not (nat_eq t u)) (list_any (λ (pair : JobId × JobId). has (part_of d u) (parent_of pair) && has (part_of d t) (child_of pair)) d.workflow.pairs) h).1
  where
    at : (ps : List (JobId × JobId)) → list_any (λ (pair : JobId × JobId). has (part_of d u) (parent_of pair) && has (part_of d t) (child_of pair)) ps ≡ true → (u < length d.parts) × (t < length d.parts)
    at [] k = absurd cc
    at (p ∷ ps) k = by_bool (has (part_of d u) (parent_of p) && has (part_of d t) (child_of p))
        (λ e. let parts = both (has (part_of d u) (parent_of p)) (has (part_of d t) (child_of p)) e in (part_below d u (parent_of p) parts.0, part_below d t (child_of p) parts.1))
        (λ e. at ps (sym (ap (λ (b : Bool). b || list_any (λ (pair : JobId × JobId). has (part_of d u) (parent_of pair) && has (part_of d t) (child_of pair)) ps) e) ∙ k))

pub stated_within : (d : Draft) (es : List (ℕ × ℕ)) (n : ℕ) → ((u t : ℕ) → list_any (is_edge u t) es ≡ comes_after d t u) → n ≡ length d.parts → All (λ (p : ℕ × ℕ). (p.0 < n) × (p.1 < n)) es
stated_within d es n are long = all_edges (λ (p : ℕ × ℕ). (p.0 < n) × (p.1 < n)) es (λ a b k.
    let within = after_within d a b (sym (are a b) ∙ k) in
    let one : a < length d.parts = within.0 in
    let two : b < length d.parts = within.1 in
    (omega (arith, one, long), omega (arith, two, long)))

pub stated_none : (d : Draft) (u t : ℕ) → (not (nat_eq t u) && list_any (λ (pair : JobId × JobId). has (part_of d u) (parent_of pair) && has (part_of d t) (child_of pair)) d.workflow.pairs) ≡ comes_after d t u
unfolding comes_after
stated_none d u t = refl
