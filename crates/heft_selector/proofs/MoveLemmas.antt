-- What is carried from one job to another, by the reader's files or by the maker's.
use Rattle.std.proofs.Common.{◌≡◌, ℕ, zero, suc, ◌+◌, ◌<◌, ◌≤◌, ◌||◌, ◌&&◌, ◌⊎◌, inl, inr, not, Bool, true, false, cond, List, [], ◌∷◌, ◌++◌, length, map, take, get_or, refl, sym, ap, subst, ◌∙◌, nat_eq, arith}
use Rattle.std.specs.Prelude.{slice_set, slice_index_or, Vec, Option, Some, None, MatchOption, ◌-◌}
use Rattle.std.specs.declared.alloc.Global.{Global}
use Rattle.workflow_core.specs.declared.workflow.Job.{Job}
use Rattle.std.specs.List.{list_any}
use Rattle.std.proofs.lemmas.List.{take_more, get_or_default}
use Rattle.list_schedule.proofs.SetLemmas.{set_at}
use Rattle.std.proofs.lemmas.Bool.{eqb-true, eqb-false, eq-eqb, ne_eqb, cases_order}
use Rattle.values.specs.declared.numbers.FileId.{FileId}
use Rattle.values.specs.declared.numbers.JobId.{JobId}
use Rattle.workflow_core.specs.declared.workflow.Workflow.{Workflow}
use Rattle.workflow_core.specs.code.WellFormed.{are_new, are_distinct}
use Rattle.digraph.specs.Adjacency.{has_node as has, neighbours}
use Rattle.digraph.specs.code.Adjacency.{lists_of}
use Rattle.dependency_graph.specs.Edges.{is_among, makers, read_by, written_by}
use Rattle.dependency_graph.specs.Graph.{IsGraphOf, Links, jobs_at, producer_of_file}
use Rattle.dependency_graph.specs.Ranking.{HasNoRepeats}
use Rattle.dependency_graph.proofs.EdgesLemmas.{makes}
use Rattle.dependency_graph.proofs.TestLemmas.{any_more}
use Rattle.heft_selector.specs.Costs.{size_at, bytes_read, seconds_for}
use Rattle.heft_selector.specs.code.Carried.{bytes_at, made_for, carried, moves_by, AreMoves}
use Rattle.list_schedule.proofs.GraphLemmas.{by_bool}

-- ---- each once

same_test : (a b : ℕ) → nat_eq a b ≡ nat_eq b a
same_test a b = by (nat_eq a b) refl
  where
    by : (t : Bool) → nat_eq a b ≡ t → t ≡ nat_eq b a
    by true e = sym (eq-eqb b a (sym (eqb-true a b e)))
    by false e = sym (ne_eqb b a (λ k. eqb-false a b e (sym k)))

new_apart : (known xs : List ℕ) → are_new nat_eq known xs ≡ true → (a : ℕ) → has a xs ≡ true → list_any (nat_eq a) known ≡ false
new_apart known [] h a there = absurd cc
new_apart known (x ∷ xs) h a there = split (list_any (nat_eq x) known) refl h (λ k t. new_apart (known ++ x ∷ []) xs k a t)
  where
    split : (t : Bool) → list_any (nat_eq x) known ≡ t → (not t && are_new nat_eq (known ++ x ∷ []) xs) ≡ true → (are_new nat_eq (known ++ x ∷ []) xs ≡ true → has a xs ≡ true → list_any (nat_eq a) (known ++ x ∷ []) ≡ false) → list_any (nat_eq a) known ≡ false
    split true e k rest = absurd cc
    split false e k rest = by_bool (nat_eq x a)
        (λ t. ap (λ (n : ℕ). list_any (nat_eq n) known) (sym (eqb-true x a t)) ∙ e)
        (λ f. left (list_any (nat_eq a) known) (nat_eq a x) (sym (any_more (nat_eq a) known x) ∙ rest k (sym (ap (λ (b : Bool). b || has a xs) f) ∙ there)))
      where
        left : (t u : Bool) → (t || u) ≡ false → t ≡ false
        left true u h = absurd cc
        left false u h = refl

once_after : (known xs : List ℕ) → are_new nat_eq known xs ≡ true → HasNoRepeats xs
once_after known [] h = tt
once_after known (x ∷ xs) h = split (list_any (nat_eq x) known) h (λ k. once_after (known ++ x ∷ []) xs k)
  where
    split : (t : Bool) → (not t && are_new nat_eq (known ++ x ∷ []) xs) ≡ true → (are_new nat_eq (known ++ x ∷ []) xs ≡ true → HasNoRepeats xs) → HasNoRepeats (x ∷ xs)
    split true k rest = absurd cc
    split false k rest = (
      by_bool (has x xs) (λ t. absurd (let out = new_apart (known ++ x ∷ []) xs k x t in let more = any_more (nat_eq x) known x in let itself : nat_eq x x ≡ true = eq-eqb x x refl in right (list_any (nat_eq x) known) (nat_eq x x) itself (sym more ∙ out))) (λ f. f),
      rest k,
    )
      where
        right : (t u : Bool) → u ≡ true → (t || u) ≡ false → ⊥
        right true u e h = absurd cc
        right false u e h = absurd (let clash = sym e ∙ h in cc)

pub once_distinct : (xs : List ℕ) → are_distinct nat_eq xs ≡ true → HasNoRepeats xs
once_distinct xs h = once_after [] xs h

-- ---- two lists, each counted by the other

abbrev single : List (Option ℕ) → ℕ → List ℕ → ℕ
single sizes x [] = 0
single sizes x (f ∷ fs) = cond {A = ℕ} (nat_eq x f) (size_at sizes f) 0 + single sizes x fs

single_none : (sizes : List (Option ℕ)) (x : ℕ) (fs : List ℕ) → has x fs ≡ false → single sizes x fs ≡ 0
single_none sizes x [] off = refl
single_none sizes x (f ∷ fs) off = by (nat_eq f x) refl off (λ k. single_none sizes x fs k)
  where
    by : (t : Bool) → nat_eq f x ≡ t → (t || has x fs) ≡ false → (has x fs ≡ false → single sizes x fs ≡ 0) → cond {A = ℕ} (nat_eq x f) (size_at sizes f) 0 + single sizes x fs ≡ 0
    by true e k more = absurd cc
    by false e k more = let rest = more k in let none : cond {A = ℕ} (nat_eq x f) (size_at sizes f) 0 ≡ 0 = ap (λ (b : Bool). cond {A = ℕ} b (size_at sizes f) 0) (same_test x f ∙ e) in omega (arith, rest, none)

single_is : (sizes : List (Option ℕ)) (x : ℕ) (fs : List ℕ) → HasNoRepeats fs → single sizes x fs ≡ cond {A = ℕ} (has x fs) (size_at sizes x) 0
single_is sizes x [] once = refl
single_is sizes x (f ∷ fs) once = by (nat_eq f x) refl (single_is sizes x fs once.1)
  where
    by : (t : Bool) → nat_eq f x ≡ t → single sizes x fs ≡ cond {A = ℕ} (has x fs) (size_at sizes x) 0 → cond {A = ℕ} (nat_eq x f) (size_at sizes f) 0 + single sizes x fs ≡ cond {A = ℕ} (t || has x fs) (size_at sizes x) 0
    by true e more =
        let one : cond {A = ℕ} (nat_eq x f) (size_at sizes f) 0 ≡ size_at sizes x = ap (λ (b : Bool). cond {A = ℕ} b (size_at sizes f) 0) (same_test x f ∙ e) ∙ ap (size_at sizes) (eqb-true f x e) in
        let rest = single_none sizes x fs (ap (λ (n : ℕ). has n fs) (sym (eqb-true f x e)) ∙ once.0) in
        omega (arith, one, rest)
    by false e more =
        let none : cond {A = ℕ} (nat_eq x f) (size_at sizes f) 0 ≡ 0 = ap (λ (b : Bool). cond {A = ℕ} b (size_at sizes f) 0) (same_test x f ∙ e) in
        omega (arith, none, more)

read_cons : (sizes : List (Option ℕ)) (x : ℕ) (xs fs : List ℕ) → has x xs ≡ false → bytes_read sizes (x ∷ xs) fs ≡ single sizes x fs + bytes_read sizes xs fs
read_cons sizes x xs [] off = refl
read_cons sizes x xs (f ∷ fs) off = by (nat_eq x f) refl (read_cons sizes x xs fs off)
  where
    by : (t : Bool) → nat_eq x f ≡ t → bytes_read sizes (x ∷ xs) fs ≡ single sizes x fs + bytes_read sizes xs fs
        → cond {A = ℕ} (t || has f xs) (size_at sizes f) 0 + bytes_read sizes (x ∷ xs) fs ≡ (cond {A = ℕ} t (size_at sizes f) 0 + single sizes x fs) + (cond {A = ℕ} (has f xs) (size_at sizes f) 0 + bytes_read sizes xs fs)
    by true e rest = let none : cond {A = ℕ} (has f xs) (size_at sizes f) 0 ≡ 0 = ap (λ (b : Bool). cond {A = ℕ} b (size_at sizes f) 0) (ap (λ (n : ℕ). has n xs) (sym (eqb-true x f e)) ∙ off) in omega (arith, rest, none)
    by false e rest = omega (arith, rest)

read_nothing : (sizes : List (Option ℕ)) (fs : List ℕ) → bytes_read sizes [] fs ≡ 0
read_nothing sizes [] = refl
read_nothing sizes (f ∷ fs) = let rest = read_nothing sizes fs in omega (arith, rest)

-- those of xs that are in ys are those of ys that are in xs
pub read_turned : (sizes : List (Option ℕ)) (xs ys : List ℕ) → HasNoRepeats xs → HasNoRepeats ys → bytes_read sizes ys xs ≡ bytes_read sizes xs ys
read_turned sizes [] ys one two = sym (read_nothing sizes ys)
read_turned sizes (x ∷ xs) ys one two =
    let rest = read_turned sizes xs ys one.1 two in
    let here = single_is sizes x ys two in
    let more = read_cons sizes x xs ys one.0 in
    omega (arith, rest, here, more)

-- ---- what is carried

pub carried_read : (producers : List (Option JobId)) (sizes : List (Option ℕ)) (a : ℕ) (out : List ℕ) (fs : List FileId)
    → ((f n : ℕ) → has f (map (λ (g : FileId). g.0) fs) ≡ true → made_for (producer_of_file producers f) a n ≡ cond {A = ℕ} (has f out) n 0) → carried producers sizes a fs ≡ bytes_read sizes out (map (λ (g : FileId). g.0) fs)
carried_read producers sizes a out [] same = refl
carried_read producers sizes a out (f ∷ fs) same =
    let here = same f.0 (size_at sizes f.0) (ap (λ (t : Bool). t || has f.0 (map (λ (g : FileId). g.0) fs)) (eq-eqb f.0 f.0 refl)) in
    let rest = carried_read producers sizes a out fs (λ g n there. same g n (later (nat_eq f.0 g) (has g (map (λ (h : FileId). h.0) fs)) there)) in
    omega (arith, here, rest)
  where
    later : (t u : Bool) → u ≡ true → (t || u) ≡ true
    later true u e = refl
    later false u e = e

-- the maker of a file is the job that has it among its outputs
pub maker_is : (w : Workflow) (g : Links) → IsGraphOf w g → (a f n : ℕ) → f < length w.files → made_for (producer_of_file g.producers f) a n ≡ cond {A = ℕ} (has f (written_by w a)) n 0
maker_is w g graph a f n low = by (producer_of_file g.producers f) (graph.producer f low) ∙ ap (λ (t : Bool). cond {A = ℕ} t n 0) (makes w f a)
  where
    by : (o : Option JobId) → MatchOption o (makers w f ≡ []) (λ (j : JobId). makers w f ≡ j.0 ∷ []) → made_for o a n ≡ cond {A = ℕ} (is_among a (makers w f)) n 0
    by None is = sym (ap (λ (xs : List ℕ). cond {A = ℕ} (is_among a xs) n 0) is)
    by (Some j) is = sym (ap (λ (xs : List ℕ). cond {A = ℕ} (is_among a xs) n 0) is ∙ ap (λ (t : Bool). cond {A = ℕ} t n 0) (or_nothing (nat_eq j.0 a)))
      where
        or_nothing : (t : Bool) → (t || false) ≡ t
        or_nothing true = refl
        or_nothing false = refl

-- the bytes that one job carries to another
pub carried_is : (w : Workflow) (g : Links) → IsGraphOf w g → (sizes : List (Option ℕ)) (a b : ℕ) (fs : List FileId) → map (λ (f : FileId). f.0) fs ≡ read_by w b → ((f : ℕ) → has f (read_by w b) ≡ true → f < length w.files)
    → HasNoRepeats (read_by w b) → HasNoRepeats (written_by w a) → carried g.producers sizes a fs ≡ bytes_read sizes (read_by w b) (written_by w a)
carried_is w g graph sizes a b fs is low once_read once_written =
    carried_read g.producers sizes a (written_by w a) fs (λ f n there. maker_is w g graph a f n (low f (ap (has f) (sym is) ∙ there)))
    ∙ ap (bytes_read sizes (written_by w a)) is
    ∙ read_turned sizes (read_by w b) (written_by w a) once_read once_written

-- ---- the bytes, one file more

pub added_at : (xs : List ℕ) (x v n a : ℕ) → x < length xs → v ≡ get_or xs x 0 + n → get_or (slice_set xs x v) a 0 ≡ get_or xs a 0 + cond {A = ℕ} (nat_eq x a) n 0
added_at xs x v n a low is = set_at 0 xs x v a low ∙ by (nat_eq x a) refl
  where
    by : (t : Bool) → nat_eq x a ≡ t → cond t v (get_or xs a 0) ≡ get_or xs a 0 + cond {A = ℕ} t n 0
    by true e = is ∙ ap (λ (k : ℕ). get_or xs k 0 + n) (eqb-true x a e)
    by false e = omega arith

pub taken_at : (xs : List ℕ) (x v n a : ℕ) → x < length xs → n ≤ get_or xs x 0 → v ≡ get_or xs x 0 - n → get_or (slice_set xs x v) a 0 + cond {A = ℕ} (nat_eq x a) n 0 ≡ get_or xs a 0
taken_at xs x v n a low few is = ap (λ (k : ℕ). k + cond {A = ℕ} (nat_eq x a) n 0) (set_at 0 xs x v a low) ∙ by (nat_eq x a) refl
  where
    by : (t : Bool) → nat_eq x a ≡ t → cond t v (get_or xs a 0) + cond {A = ℕ} t n 0 ≡ get_or xs a 0
    by true e = let here : get_or xs x 0 ≡ get_or xs a 0 = ap (λ (k : ℕ). get_or xs k 0) (eqb-true x a e) in omega (arith, is, few, here)
    by false e = omega arith

carried_push : (producers : List (Option JobId)) (sizes : List (Option ℕ)) (a : ℕ) (fs : List FileId) (f : FileId) → carried producers sizes a (fs ++ f ∷ []) ≡ carried producers sizes a fs + made_for (producer_of_file producers f.0) a (size_at sizes f.0)
carried_push producers sizes a [] f = omega arith
carried_push producers sizes a (g ∷ fs) f = let rest = carried_push producers sizes a fs f in omega (arith, rest)

pub carried_more : (producers : List (Option JobId)) (sizes : List (Option ℕ)) (a i : ℕ) (fs : List FileId) → i < length fs
    → carried producers sizes a (take (i + 1) fs) ≡ carried producers sizes a (take i fs) + made_for (producer_of_file producers (get_or fs i (record { 0 = 0 })).0) a (size_at sizes (get_or fs i (record { 0 = 0 })).0)
carried_more producers sizes a i fs low = ap (carried producers sizes a) (take_more fs i (record { 0 = 0 }) low) ∙ carried_push producers sizes a (take i fs) (get_or fs i (record { 0 = 0 }))

-- the first files carry no more than all
pub carried_within : (producers : List (Option JobId)) (sizes : List (Option ℕ)) (a i : ℕ) (fs : List FileId) → carried producers sizes a (take i fs) ≤ carried producers sizes a fs
carried_within producers sizes a zero fs = omega arith
carried_within producers sizes a (suc i) [] = omega arith
carried_within producers sizes a (suc i) (f ∷ fs) = let rest = carried_within producers sizes a i fs in omega (arith, rest)

pub made_own : (j : JobId) (n : ℕ) → made_for (Some j) j.0 n ≡ n
made_own j n = ap (λ (t : Bool). cond {A = ℕ} t n 0) (eq-eqb j.0 j.0 refl)

pub made_few : (o : Option JobId) (a n m : ℕ) → n ≤ m → made_for o a n ≤ m
made_few None a n m few = omega arith
made_few (Some j) a n m few = by (nat_eq j.0 a)
  where
    by : (t : Bool) → cond {A = ℕ} t n 0 ≤ m
    by true = few
    by false = omega arith

pub moves_same : (g : Links) (sizes : List (Option ℕ)) (rate : ℕ) (fs : List FileId) (b : ℕ) (bytes : List ℕ) → ((a : ℕ) → bytes_at bytes a ≡ carried g.producers sizes a fs)
    → map (λ (p : JobId). seconds_for (bytes_at bytes p.0) rate) (jobs_at g.parents b) ≡ moves_by g sizes rate fs b
moves_same g sizes rate fs b bytes same = by (jobs_at g.parents b)
  where
    by : (ps : List JobId) → map (λ (p : JobId). seconds_for (bytes_at bytes p.0) rate) ps ≡ map (λ (p : JobId). seconds_for (carried g.producers sizes p.0 fs) rate) ps
    by [] = refl
    by (p ∷ ps) = ap (λ (n : ℕ). seconds_for n rate ∷ map (λ (q : JobId). seconds_for (bytes_at bytes q.0) rate) ps) (same p.0) ∙ ap (λ (ns : List ℕ). seconds_for (carried g.producers sizes p.0 fs) rate ∷ ns) (by ps)

-- ---- the table, one job more

pub at_last : (ls : List (List ℕ)) (l : List ℕ) → neighbours (ls ++ l ∷ []) (length ls) ≡ l
at_last [] l = refl
at_last (x ∷ ls) l = at_last ls l

pub at_left : (ls : List (List ℕ)) (l : List ℕ) (a : ℕ) → a < length ls → neighbours (ls ++ l ∷ []) a ≡ neighbours ls a
at_left [] l a low = absurd (omega arith)
at_left (x ∷ ls) l zero low = refl
at_left (x ∷ ls) l (suc a) low = at_left ls l a (omega (arith, low))

pub pushed : (vs : List (Vec ℕ Global)) (v : Vec ℕ Global) → lists_of (vs ++ v ∷ []) ≡ lists_of vs ++ v.items ∷ []
pushed [] v = refl
pushed (x ∷ vs) v = ap (λ (ls : List (List ℕ)). x.items ∷ ls) (pushed vs v)

pub longer : (ls : List (List ℕ)) (l : List ℕ) → length (ls ++ l ∷ []) ≡ length ls + 1
longer [] l = omega arith
longer (x ∷ ls) l = let rest = longer ls l in omega (arith, rest)

pub no_moves : (g : Links) (jobs : List Job) (sizes : List (Option ℕ)) (rate : ℕ) → AreMoves g jobs sizes rate [] 0
no_moves g jobs sizes rate = record { long = refl; each = λ a j low at. absurd (omega (arith, low)) }

pub moves_more : (g : Links) (jobs : List Job) (sizes : List (Option ℕ)) (rate : ℕ) (vs new : List (Vec ℕ Global)) (v : Vec ℕ Global) (n : ℕ) (job : Job) → n < length jobs → AreMoves g jobs sizes rate (lists_of vs) n → slice_index_or jobs n job ≡ job
    → v.items ≡ moves_by g sizes rate job.inputs n → new ≡ vs ++ v ∷ [] → AreMoves g jobs sizes rate (lists_of new) (n + 1)
moves_more g jobs sizes rate vs new v n job inside are at is grown = subst (λ (ls : List (List ℕ)). AreMoves g jobs sizes rate ls (n + 1)) (sym (ap (λ (xs : List (Vec ℕ Global)). lists_of xs) grown ∙ pushed vs v)) (record {
  long = longer (lists_of vs) v.items ∙ ap (λ (k : ℕ). k + 1) are.long;
  each = λ a j low there. by (cases_order a n) j low there;
})
  where
    by : {a : ℕ} → ((a ≡ n) ⊎ ((a < n) ⊎ (n < a))) → (j : Job) → a < n + 1 → slice_index_or jobs a j ≡ j → neighbours (lists_of vs ++ v.items ∷ []) a ≡ moves_by g sizes rate j.inputs a
    by {a} (inl same) j low there = subst (λ (k : ℕ). neighbours (lists_of vs ++ v.items ∷ []) k ≡ moves_by g sizes rate j.inputs k) (sym same)
        (ap (λ (k : ℕ). neighbours (lists_of vs ++ v.items ∷ []) k) (sym are.long) ∙ at_last (lists_of vs) v.items ∙ is ∙ ap (λ (x : Job). moves_by g sizes rate x.inputs n) one_job)
      where
        one_job : job ≡ j
        one_job = sym at ∙ get_or_default jobs n job j inside ∙ subst (λ (k : ℕ). slice_index_or jobs k j ≡ j) same there
    by {a} (inr (inl less)) j low there = at_left (lists_of vs) v.items a (let l = are.long in omega (arith, l, less)) ∙ are.each a j less there
    by {a} (inr (inr more)) j low there = absurd (omega (arith, more, low))
