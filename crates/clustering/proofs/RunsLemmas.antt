-- The runs of a group's jobs, noted one after the other.
use Rattle.std.proofs.Common.{◌≡◌, ℕ, zero, suc, ◌+◌, ◌<◌, ◌||◌, nat_eq, eqb-true, Bool, true, false, cond, List, [], ◌∷◌, length, map, take, drop, get_or, refl, sym, ap, ◌∙◌, arith}
use Rattle.std.specs.Prelude.{Vec, slice_index_or, slice_set}
use Rattle.std.specs.declared.alloc.Global.{Global}
use Rattle.std.specs.List.{list_any, position_or_len}
use Rattle.std.proofs.lemmas.Grind.{get_or-set_at}
use Rattle.std.proofs.lemmas.List.{drop_more, get_or-set_other, take_more}
use Rattle.std.proofs.lemmas.List.Sums.{position_or_len_is}
use Rattle.values.specs.declared.numbers.JobId.{JobId}
use Rattle.dependency_graph.specs.Edges.{is_among}
use Rattle.dependency_graph.specs.Ranking.{HasNoRepeats}
use Rattle.dependency_graph.proofs.TestLemmas.{any_more, by_bool, itself}
use Rattle.clustering.specs.declared.numbers.Numbers.{Numbers}
use Rattle.dependency_graph.specs.code.Graph.{job_lists}
use Rattle.clustering.specs.Basis.{ClusteringInput, group_numbers}
use Rattle.clustering.specs.Runs.{is_job, run_among, run_at, run_from, run_in, run_length}
use Rattle.dependency_graph.specs.Graph.{numbers as job_numbers}

abbrev pub at : List ℕ → ℕ → ℕ
at runs n = slice_index_or runs n 0

-- The first i jobs have their runs; the next one is in this run, of which so many jobs are left.
pub record IsNoted (n : Numbers) (group : List JobId) (old new : List ℕ) (i run left : ℕ) : Type 0 where
  pub runs : (p : ℕ) → run_from n (length group) run left p ≡ run_at n (length group) (i + p)
  pub noted : (j : JobId) → at new j.0 ≡ cond (list_any (is_job j) (take i group)) (run_in n group j) (at old j.0)

pub noted_none : (n : Numbers) (group : List JobId) (old : List ℕ) → IsNoted n group old old 0 0 (run_length n (length group) 0)
noted_none n group old = record { runs = λ p. ap (run_at n (length group)) (sym (zero_more p)); noted = λ j. refl }
  where
    zero_more : (p : ℕ) → 0 + p ≡ p
    zero_more p = omega arith

abbrev pub no_job : JobId
no_job = record { 0 = 0 }

-- no job before the i-th one is it
not_before : (js : List JobId) (k i : ℕ) → HasNoRepeats (job_numbers js) → k < i → i < length js → is_job (get_or js i no_job) (get_or js k no_job) ≡ false
not_before [] k i once l m = absurd (omega (arith, m))
not_before (x ∷ js) k zero once l m = absurd (omega (arith, l))
not_before (x ∷ js) zero (suc i) once l m = by_bool (nat_eq x.0 (get_or js i no_job).0)
    (λ e. absurd (let twice : is_among x.0 (job_numbers js) ≡ true = there js i x.0 (omega (arith, m)) (sym (eqb-true x.0 (get_or js i no_job).0 e)) in let never = once.0 in cc))
    (λ e. e)
  where
    there : (ys : List JobId) (n a : ℕ) → n < length ys → (get_or ys n no_job).0 ≡ a → is_among a (job_numbers ys) ≡ true
    there [] n a l e = absurd (omega (arith, l))
    there (y ∷ ys) zero a l e = ap (λ (b : ℕ). nat_eq b a || is_among a (job_numbers ys)) e ∙ ap (λ (b : Bool). b || is_among a (job_numbers ys)) (itself a)
    there (y ∷ ys) (suc n) a l e = by_bool (nat_eq y.0 a)
        (λ f. ap (λ (b : Bool). b || is_among a (job_numbers ys)) f)
        (λ f. ap (λ (b : Bool). b || is_among a (job_numbers ys)) f ∙ there ys n a (omega (arith, l)) e)
not_before (x ∷ js) (suc k) (suc i) once l m = not_before js k i once.1 (omega (arith, l)) (omega (arith, m))

place_of : (js : List JobId) (i : ℕ) → HasNoRepeats (job_numbers js) → i < length js → position_or_len (is_job (get_or js i no_job)) js ≡ i
place_of js i once l = position_or_len_is (is_job (get_or js i no_job)) js i no_job (omega (arith, l)) (λ k m. not_before js k i once m l) (λ m. itself (get_or js i no_job).0)

pub noted_more : (n : Numbers) (group : List JobId) (old new : List ℕ) (i run left run2 left2 : ℕ) → HasNoRepeats (job_numbers group) → i < length group → (get_or group i no_job).0 < length new
    → IsNoted n group old new i run left → ((p : ℕ) → run_from n (length group) run2 left2 p ≡ run_from n (length group) run left (suc p))
    → IsNoted n group old (slice_set new (get_or group i no_job).0 run) (i + 1) run2 left2
noted_more n group old new i run left run2 left2 once l m h next = record {
  runs = λ p. next p ∙ (h.runs (suc p) ∙ ap (run_at n (length group)) (moved p));
  noted = λ j. by_bool (is_job j here) (now j) (before j);
}
  where
    here : JobId
    here = get_or group i no_job

    moved : (p : ℕ) → i + suc p ≡ (i + 1) + p
    moved p = omega arith

    at_i : run ≡ run_at n (length group) i
    at_i = h.runs 0 ∙ ap (run_at n (length group)) (same i)
      where
        same : (k : ℕ) → k + 0 ≡ k
        same k = omega arith

    more : (j : JobId) → list_any (is_job j) (take (i + 1) group) ≡ (list_any (is_job j) (take i group) || is_job j here)
    more j = ap (list_any (is_job j)) (take_more group i no_job l) ∙ any_more (is_job j) (take i group) here

    or_true : (b : Bool) → (b || true) ≡ true
    or_true true = refl
    or_true false = refl

    or_false : (b : Bool) → (b || false) ≡ b
    or_false true = refl
    or_false false = refl

    now : (j : JobId) → is_job j here ≡ true → at (slice_set new here.0 run) j.0 ≡ cond (list_any (is_job j) (take (i + 1) group)) (run_in n group j) (at old j.0)
    now j e =
        let same : here.0 ≡ j.0 = eqb-true here.0 j.0 e in
        let found : position_or_len (is_job j) group ≡ i = ap (λ (a : ℕ). position_or_len (λ (x : JobId). nat_eq x.0 a) group) (sym same) ∙ place_of group i once l in
        let run_is : run ≡ run_in n group j = at_i ∙ ap (run_at n (length group)) (sym found) in
        get_or-set_at new here.0 j.0 run 0 (sym same) m
        ∙ run_is
        ∙ sym (ap (λ (b : Bool). cond b (run_in n group j) (at old j.0)) (more j ∙ ap (λ (b : Bool). list_any (is_job j) (take i group) || b) e ∙ or_true (list_any (is_job j) (take i group))))

    before : (j : JobId) → is_job j here ≡ false → at (slice_set new here.0 run) j.0 ≡ cond (list_any (is_job j) (take (i + 1) group)) (run_in n group j) (at old j.0)
    before j e =
        get_or-set_other new here.0 j.0 run 0 (λ same. let g : nat_eq here.0 j.0 ≡ true = ap (nat_eq here.0) same ∙ itself here.0 in cc)
        ∙ h.noted j
        ∙ sym (ap (λ (b : Bool). cond b (run_in n group j) (at old j.0)) (more j ∙ ap (λ (b : Bool). list_any (is_job j) (take i group) || b) e ∙ or_false (list_any (is_job j) (take i group))))

-- ---- group by group, the last one first

pub items_at : (vs : List (Vec JobId Global)) (i : ℕ) (v : Vec JobId Global) → i < length vs → v ≡ get_or vs i v → v.items ≡ get_or (job_lists vs) i []
items_at [] i v l is = absurd (omega (arith, l))
items_at (u ∷ vs) zero v l is = ap (λ (x : Vec JobId Global). x.items) is
items_at (u ∷ vs) (suc i) v l is = items_at vs i v (omega (arith, l)) is

pub run_step : (c : ClusteringInput) (groups : List (List JobId)) (i : ℕ) (group : List JobId) (j : JobId) → i < length groups → group ≡ get_or groups i []
    → run_among c (drop i groups) j ≡ cond (list_any (is_job j) group) (run_in (group_numbers c group) group j) (run_among c (drop (i + 1) groups) j)
run_step c groups i group j l is =
    ap (λ (gs : List (List JobId)). run_among c gs j) (drop_more groups i [] l)
    ∙ sym (ap (λ (g : List JobId). cond (list_any (is_job j) g) (run_in (group_numbers c g) g j) (run_among c (drop (i + 1) groups) j)) is)

pub map_as : {X Y : Type 0} (f g : X → Y) (xs : List X) → ((x : X) → f x ≡ g x) → map f xs ≡ map g xs
map_as f g [] h = refl
map_as f g (x ∷ xs) h = ap (λ y. y ∷ map f xs) (h x) ∙ ap (λ ys. g x ∷ ys) (map_as f g xs h)
