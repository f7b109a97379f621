-- What the parts of rising jobs are: apart from one another, each rising, and of jobs that go with its first one.
use Rattle.std.proofs.Common.{◌≡◌, ℕ, zero, suc, ◌+◌, ◌≤◌, ◌||◌, Bool, true, false, cond, eqb, eqb-true, List, [], ◌∷◌, ◌++◌, append_assoc, length, refl, sym, ap, subst, ◌∙◌, arith}
use Rattle.std.specs.Prelude.{slice_index_or}
use Rattle.std.specs.Cmp.{IsEquivalence}
use Rattle.values.specs.declared.numbers.JobId.{JobId}
use Rattle.dependency_graph.specs.Edges.{is_among}
use Rattle.dependency_graph.specs.Ranking.{HasNoRepeats}
use Rattle.dependency_graph.proofs.TestLemmas.{by_bool}
use Rattle.dependency_graph.specs.Graph.{numbers as job_numbers}
use Rattle.clustering.specs.Gathering.{gathered, is_of_part, with_job, with_jobs}

abbrev pub Every : {X : Type 0} → (X → Type 0) → List X → Type 0
Every P [] = Unit {0}
Every P (x ∷ xs) = P x × Every P xs

-- each comes before those after it
abbrev pub Rises : (JobId → JobId → Bool) → List JobId → Type 0
Rises lt [] = Unit {0}
Rises lt (j ∷ js) = Every (λ (i : JobId). lt j i ≡ true) js × Rises lt js

-- ---- what holds of every job

pub every_more : {X : Type 0} (P : X → Type 0) (xs : List X) (x : X) → Every P xs → P x → Every P (xs ++ x ∷ [])
every_more P [] x h k = (k, tt)
every_more P (y ∷ xs) x h k = (h.0, every_more P xs x h.1 k)

every_drop : {X : Type 0} (P : X → Type 0) (xs : List X) (x : X) (ys : List X) → Every P (xs ++ x ∷ ys) → Every P (xs ++ ys)
every_drop P [] x ys h = h.1
every_drop P (y ∷ xs) x ys h = (h.0, every_drop P xs x ys h.1)

pub every_as : {X : Type 0} (P Q : X → Type 0) (xs : List X) → ((x : X) → P x → Q x) → Every P xs → Every Q xs
every_as P Q [] f h = tt
every_as P Q (x ∷ xs) f h = (f x h.0, every_as P Q xs f h.1)

-- the jobs of a list are told by their numbers
pub every_at : (P : JobId → Type 0) (js : List JobId) (n : ℕ) → Every P js → is_among n (job_numbers js) ≡ true → P (record { 0 = n })
every_at P [] n h k = absurd cc
every_at P (j ∷ js) n h k = by_bool (eqb j.0 n)
    (λ e. subst (λ (m : ℕ). P (record { 0 = m })) (eqb-true j.0 n e) h.0)
    (λ e. every_at P js n h.1 (ap (λ (b : Bool). b || is_among n (job_numbers js)) (sym e) ∙ k))

-- ---- rising jobs

rises_drop : (lt : JobId → JobId → Bool) (xs : List JobId) (x : JobId) (ys : List JobId) → Rises lt (xs ++ x ∷ ys) → Rises lt (xs ++ ys)
rises_drop lt [] x ys h = h.1
rises_drop lt (y ∷ xs) x ys h = (every_drop (λ (i : JobId). lt y i ≡ true) xs x ys h.0, rises_drop lt xs x ys h.1)

pub rises_after : (lt : JobId → JobId → Bool) (done : List JobId) (j : JobId) (later : List JobId) → Rises lt (done ++ j ∷ later) → Every (λ (i : JobId). lt j i ≡ true) later
rises_after lt [] j later h = h.0
rises_after lt (i ∷ done) j later h = rises_after lt done j later h.1

pub rises_once : (lt : JobId → JobId → Bool) → ((j : JobId) → lt j j ≡ false) → (js : List JobId) → Rises lt js → HasNoRepeats (job_numbers js)
rises_once lt never [] h = tt
rises_once lt never (j ∷ js) h = (
  by_bool (is_among j.0 (job_numbers js))
      (λ e. absurd (let k : lt j j ≡ true = every_at (λ (i : JobId). lt j i ≡ true) js j.0 h.0 e in let l = never j in cc))
      (λ e. e),
  rises_once lt never js h.1,
)

-- ---- parts

-- A part of rising jobs of which some are still to come.
abbrev pub IsPart : (JobId → JobId → Bool) → (JobId → JobId → Bool) → (JobId → Type 0) → List JobId → List JobId → Type 0
IsPart goes lt P rest [] = ⊥
IsPart goes lt P rest (first ∷ js) = Every (λ (j : JobId). goes j first ≡ true) js × Rises lt (first ∷ js ++ rest) × Every P (first ∷ js)

-- the first job of one part doesn't go with the other's
abbrev Differ : (JobId → JobId → Bool) → List JobId → List JobId → Type 0
Differ goes p [] = Unit {0}
Differ goes p (x ∷ xs) = is_of_part goes x p ≡ false

abbrev pub AreApart : (JobId → JobId → Bool) → List (List JobId) → Type 0
AreApart goes [] = Unit {0}
AreApart goes (p ∷ ps) = Every (Differ goes p) ps × AreApart goes ps

-- one job more in a part; in another part
grown : (goes lt : JobId → JobId → Bool) (P : JobId → Type 0) (j : JobId) (rest p : List JobId) → IsPart goes lt P (j ∷ rest) p → is_of_part goes j p ≡ true → P j → IsPart goes lt P rest (p ++ j ∷ [])
grown goes lt P j rest [] h e k = absurd h
grown goes lt P j rest (first ∷ js) h e k = (
  every_more (λ (i : JobId). goes i first ≡ true) js j h.0 e,
  subst (Rises lt) (ap (λ (xs : List JobId). first ∷ xs) (sym (append_assoc js (j ∷ []) rest))) h.1,
  every_more P (first ∷ js) j h.2 k,
)

same_part : (goes lt : JobId → JobId → Bool) (P : JobId → Type 0) (j : JobId) (rest p : List JobId) → IsPart goes lt P (j ∷ rest) p → IsPart goes lt P rest p
same_part goes lt P j rest [] h = absurd h
same_part goes lt P j rest (first ∷ js) h = (h.0, rises_drop lt (first ∷ js) j rest h.1, h.2)

parts_more : (goes lt : JobId → JobId → Bool) (P : JobId → Type 0) (j : JobId) (rest : List JobId) (ps : List (List JobId)) → Every (IsPart goes lt P (j ∷ rest)) ps → P j → Rises lt (j ∷ rest) → Every (IsPart goes lt P rest) (with_job goes ps j)
parts_more goes lt P j rest [] h k r = ((tt, r, (k, tt)), tt)
parts_more goes lt P j rest (p ∷ ps) h k r = by (is_of_part goes j p) refl (parts_more goes lt P j rest ps h.1 k r)
  where
    by : (b : Bool) → is_of_part goes j p ≡ b → Every (IsPart goes lt P rest) (with_job goes ps j) → Every (IsPart goes lt P rest) (cond b ((p ++ j ∷ []) ∷ ps) (p ∷ with_job goes ps j))
    by true e more = (grown goes lt P j rest p h.0 e k, every_as (IsPart goes lt P (j ∷ rest)) (IsPart goes lt P rest) ps (same_part goes lt P j rest) h.1)
    by false e more = (same_part goes lt P j rest p h.0, more)

differ_more : (goes : JobId → JobId → Bool) (p : List JobId) (j : JobId) (ps : List (List JobId)) → Every (Differ goes p) ps → is_of_part goes j p ≡ false → Every (Differ goes p) (with_job goes ps j)
differ_more goes p j [] h e = (e, tt)
differ_more goes p j (q ∷ ps) h e = by (is_of_part goes j q) (differ_more goes p j ps h.1 e)
  where
    longer : (xs : List JobId) → Differ goes p xs → Differ goes p (xs ++ j ∷ [])
    longer [] k = e
    longer (x ∷ xs) k = k

    by : (b : Bool) → Every (Differ goes p) (with_job goes ps j) → Every (Differ goes p) (cond b ((q ++ j ∷ []) ∷ ps) (q ∷ with_job goes ps j))
    by true more = (longer q h.0, h.1)
    by false more = (h.0, more)

apart_more : (goes : JobId → JobId → Bool) (j : JobId) (ps : List (List JobId)) → AreApart goes ps → AreApart goes (with_job goes ps j)
apart_more goes j [] h = (tt, tt)
apart_more goes j (p ∷ ps) h = by (is_of_part goes j p) refl (apart_more goes j ps h.1)
  where
    same : (xs q : List JobId) → is_of_part goes j xs ≡ true → Differ goes xs q → Differ goes (xs ++ j ∷ []) q
    same [] q e k = absurd cc
    same (x ∷ xs) [] e k = tt
    same (x ∷ xs) (y ∷ q) e k = k

    by : (b : Bool) → is_of_part goes j p ≡ b → AreApart goes (with_job goes ps j) → AreApart goes (cond b ((p ++ j ∷ []) ∷ ps) (p ∷ with_job goes ps j))
    by true e more = (every_as (Differ goes p) (Differ goes (p ++ j ∷ [])) ps (λ q k. same p q e k) h.0, h.1)
    by false e more = (differ_more goes p j ps h.0 e, more)

all_parts : (goes lt : JobId → JobId → Bool) (P : JobId → Type 0) (ps : List (List JobId)) (js : List JobId) → Every (IsPart goes lt P js) ps → Every P js → Rises lt js → Every (IsPart goes lt P []) (with_jobs goes ps js)
all_parts goes lt P ps [] h k r = h
all_parts goes lt P ps (j ∷ js) h k r = all_parts goes lt P (with_job goes ps j) js (parts_more goes lt P j js ps h k.0 r) k.1 r.1

all_apart : (goes : JobId → JobId → Bool) (ps : List (List JobId)) (js : List JobId) → AreApart goes ps → AreApart goes (with_jobs goes ps js)
all_apart goes ps [] h = h
all_apart goes ps (j ∷ js) h = all_apart goes (with_job goes ps j) js (apart_more goes j ps h)

pub gathered_parts : (goes lt : JobId → JobId → Bool) (P : JobId → Type 0) (js : List JobId) → Every P js → Rises lt js → Every (IsPart goes lt P []) (gathered goes js)
unfolding gathered
gathered_parts goes lt P js k r = all_parts goes lt P [] js tt k r

pub gathered_apart : (goes : JobId → JobId → Bool) (js : List JobId) → AreApart goes (gathered goes js)
unfolding gathered
gathered_apart goes js = all_apart goes [] js tt

-- ---- how many

one_longer : (goes : JobId → JobId → Bool) (ps : List (List JobId)) (j : JobId) → length (with_job goes ps j) ≤ length ps + 1
one_longer goes [] j = omega arith
one_longer goes (p ∷ ps) j = by (is_of_part goes j p) (one_longer goes ps j)
  where
    by : (b : Bool) → length (with_job goes ps j) ≤ length ps + 1 → length (cond b ((p ++ j ∷ []) ∷ ps) (p ∷ with_job goes ps j)) ≤ suc (length ps) + 1
    by true h = omega arith
    by false h = omega (arith, h)

not_longer : (goes : JobId → JobId → Bool) (ps : List (List JobId)) (js : List JobId) → length (with_jobs goes ps js) ≤ length ps + length js
not_longer goes ps [] = omega arith
not_longer goes ps (j ∷ js) = omega (arith, one_longer goes ps j, not_longer goes (with_job goes ps j) js)

pub gathered_few : (goes : JobId → JobId → Bool) (js : List JobId) → length (gathered goes js) ≤ length js
unfolding gathered
gathered_few goes js = omega (arith, not_longer goes [] js)

-- ---- parts by number

abbrev pub part : List (List JobId) → ℕ → List JobId
part ps c = slice_index_or ps c []

-- a part that has a job is one of them
pub part_at : (Q : List JobId → Type 0) (ps : List (List JobId)) (c n : ℕ) → Every Q ps → is_among n (job_numbers (part ps c)) ≡ true → Q (part ps c)
part_at Q [] c n h k = absurd cc
part_at Q (p ∷ ps) zero n h k = h.0
part_at Q (p ∷ ps) (suc c) n h k = part_at Q ps c n h.1 k

-- a job goes with the first one of its part
pub goes_with : (goes lt : JobId → JobId → Bool) (P : JobId → Type 0) → IsEquivalence goes → (p : List JobId) (n : ℕ) → IsPart goes lt P [] p → is_among n (job_numbers p) ≡ true → is_of_part goes (record { 0 = n }) p ≡ true
goes_with goes lt P eq [] n h k = absurd h
goes_with goes lt P eq (first ∷ js) n h k = every_at (λ (j : JobId). goes j first ≡ true) (first ∷ js) n (eq.refl first, h.0) k

clash : (goes : JobId → JobId → Bool) → IsEquivalence goes → (j : JobId) (p q : List JobId) → is_of_part goes j p ≡ true → is_of_part goes j q ≡ true → Differ goes p q → ⊥
clash goes eq j [] q h k d = absurd cc
clash goes eq j (f ∷ p) [] h k d = absurd cc
clash goes eq j (f ∷ p) (x ∷ q) h k d = let same = eq.congr j x f k in cc

pub one_part : (goes lt : JobId → JobId → Bool) (P : JobId → Type 0) → IsEquivalence goes → (ps : List (List JobId)) → Every (IsPart goes lt P []) ps → AreApart goes ps
    → (a b n : ℕ) → is_among n (job_numbers (part ps a)) ≡ true → is_among n (job_numbers (part ps b)) ≡ true → a ≡ b
one_part goes lt P eq [] h d a b n k l = absurd cc
one_part goes lt P eq (p ∷ ps) h d zero zero n k l = refl
one_part goes lt P eq (p ∷ ps) h d zero (suc b) n k l = absurd (clash goes eq (record { 0 = n }) p (part ps b)
    (goes_with goes lt P eq p n h.0 k)
    (goes_with goes lt P eq (part ps b) n (part_at (IsPart goes lt P []) ps b n h.1 l) l)
    (part_at (Differ goes p) ps b n d.0 l))
one_part goes lt P eq (p ∷ ps) h d (suc a) zero n k l = absurd (clash goes eq (record { 0 = n }) p (part ps a)
    (goes_with goes lt P eq p n h.0 l)
    (goes_with goes lt P eq (part ps a) n (part_at (IsPart goes lt P []) ps a n h.1 k) k)
    (part_at (Differ goes p) ps a n d.0 k))
one_part goes lt P eq (p ∷ ps) h d (suc a) (suc b) n k l = ap suc (one_part goes lt P eq ps h.1 d.1 a b n k l)
