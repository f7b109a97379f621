-- Parts that are found by the keys of their first jobs.
use Rattle.std.proofs.Common.{◌≡◌, ℕ, zero, suc, ◌<◌, ◌≤◌, get_or, arith, Bool, true, false, not, cond, ◌||◌, List, [], ◌∷◌, ◌++◌, length, map, refl, sym, ap, subst, ◌∙◌, ◌+◌}
use Rattle.std.specs.Prelude.{Vec, slice_set}
use Rattle.std.specs.List.{list_any, position_or_len}
use Rattle.std.specs.declared.alloc.Global.{Global}
use Rattle.indexmap.specs.IndexSet.{insert_key}
use Rattle.values.specs.declared.numbers.JobId.{JobId}
use Rattle.dependency_graph.specs.code.Graph.{job_lists}
use Rattle.clustering.specs.Gathering.{gathered, with_job, with_jobs}
use Rattle.clustering.specs.code.Gathering.{with_at}

-- the keys are those of the parts' first jobs
abbrev pub AreFirstKeys : {K : Type 0} → (JobId → K) → List K → List (List JobId) → Type 0
AreFirstKeys key [] [] = Unit {0}
AreFirstKeys key [] (p ∷ ps) = ⊥
AreFirstKeys key (k ∷ ks) [] = ⊥
AreFirstKeys key (k ∷ ks) ([] ∷ ps) = ⊥
AreFirstKeys key (k ∷ ks) ((first ∷ js) ∷ ps) = (k ≡ key first) × AreFirstKeys key ks ps

pub as_long : {K : Type 0} (key : JobId → K) (ks : List K) (ps : List (List JobId)) → AreFirstKeys key ks ps → length ks ≡ length ps
as_long key [] [] h = refl
as_long key [] (p ∷ ps) h = absurd h
as_long key (k ∷ ks) [] h = absurd h
as_long key (k ∷ ks) ([] ∷ ps) h = absurd h
as_long key (k ∷ ks) ((first ∷ js) ∷ ps) h = ap suc (as_long key ks ps h.1)

-- ---- one job more at a place

pub at_place : (vs : List (Vec JobId Global)) (i : ℕ) (v w : Vec JobId Global) (j : JobId) → i < length vs → v ≡ get_or vs i v → w.items ≡ v.items ++ j ∷ []
    → job_lists (slice_set vs i w) ≡ with_at (job_lists vs) i j
at_place [] i v w j l is grows = absurd (omega arith)
at_place (u ∷ vs) zero v w j l is grows = ap (λ (js : List JobId). js ∷ job_lists vs) (grows ∙ ap (λ (x : Vec JobId Global). x.items ++ j ∷ []) is)
at_place (u ∷ vs) (suc i) v w j l is grows = ap (λ (ps : List (List JobId)). u.items ∷ ps) (at_place vs i v w j (omega arith) is grows)

pub at_end : (vs : List (Vec JobId Global)) (i : ℕ) (v : Vec JobId Global) (j : JobId) → length vs ≤ i → v.items ≡ j ∷ [] → job_lists (vs ++ v ∷ []) ≡ with_at (job_lists vs) i j
at_end [] i v j l is = ap (λ (js : List JobId). js ∷ []) is
at_end (u ∷ vs) zero v j l is = absurd (omega arith)
at_end (u ∷ vs) (suc i) v j l is = ap (λ (ps : List (List JobId)). u.items ∷ ps) (at_end vs i v j (omega arith) is)

next_place : (n : ℕ) → 1 + n ≡ suc n
next_place n = omega arith

-- the part of a key is the one whose first job has it
pub at_key : {K : Type 0} (eq : K → K → Bool) (key : JobId → K) (ks : List K) (ps : List (List JobId)) (j : JobId) → AreFirstKeys key ks ps
    → with_at ps (position_or_len (eq (key j)) ks) j ≡ with_job (λ j first. eq (key j) (key first)) ps j
at_key eq key [] [] j h = refl
at_key eq key [] (p ∷ ps) j h = absurd h
at_key eq key (k ∷ ks) [] j h = absurd h
at_key eq key (k ∷ ks) ([] ∷ ps) j h = absurd h
at_key eq key (k ∷ ks) ((first ∷ js) ∷ ps) j h = by (eq (key j) k) (ap (eq (key j)) h.0) (at_key eq key ks ps j h.1)
  where
    by : (b : Bool) → b ≡ eq (key j) (key first) → with_at ps (position_or_len (eq (key j)) ks) j ≡ with_job (λ j first. eq (key j) (key first)) ps j
        → with_at ((first ∷ js) ∷ ps) (cond (not b) (1 + position_or_len (eq (key j)) ks) 0) j
        ≡ cond (eq (key j) (key first)) ((first ∷ js ++ j ∷ []) ∷ ps) ((first ∷ js) ∷ with_job (λ j first. eq (key j) (key first)) ps j)
    by true e rest = ap (λ (c : Bool). cond c ((first ∷ js ++ j ∷ []) ∷ ps) ((first ∷ js) ∷ with_job (λ j first. eq (key j) (key first)) ps j)) e
    by false e rest =
        ap (λ (i : ℕ). with_at ((first ∷ js) ∷ ps) i j) (next_place (position_or_len (eq (key j)) ks))
        ∙ ap (λ (qs : List (List JobId)). (first ∷ js) ∷ qs) rest
        ∙ ap (λ (c : Bool). cond c ((first ∷ js ++ j ∷ []) ∷ ps) ((first ∷ js) ∷ with_job (λ j first. eq (key j) (key first)) ps j)) e

-- one key more
pub keys_more : {K : Type 0} (eq : K → K → Bool) (key : JobId → K) (ks : List K) (ps : List (List JobId)) (j : JobId) → AreFirstKeys key ks ps
    → AreFirstKeys key (insert_key eq ks (key j)) (with_job (λ j first. eq (key j) (key first)) ps j)
keys_more eq key [] [] j h = (refl, tt)
keys_more eq key [] (p ∷ ps) j h = absurd h
keys_more eq key (k ∷ ks) [] j h = absurd h
keys_more eq key (k ∷ ks) ([] ∷ ps) j h = absurd h
keys_more {K} eq key (k ∷ ks) ((first ∷ js) ∷ ps) j h = by (eq (key j) k) (eq (key j) (key first)) (ap (eq (key j)) h.0) (list_any (eq (key j)) ks) refl (keys_more eq key ks ps j h.1)
  where
    Rest : List K → Type 0
    Rest xs = AreFirstKeys key xs (with_job (λ j first. eq (key j) (key first)) ps j)

    by : (b c : Bool) → b ≡ c → (d : Bool) → list_any (eq (key j)) ks ≡ d → Rest (cond (list_any (eq (key j)) ks) ks (ks ++ key j ∷ []))
        → AreFirstKeys key (cond (b || list_any (eq (key j)) ks) (k ∷ ks) (k ∷ ks ++ key j ∷ [])) (cond c ((first ∷ js ++ j ∷ []) ∷ ps) ((first ∷ js) ∷ with_job (λ j first. eq (key j) (key first)) ps j))
    by true true e d f rest = h
    by true false e d f rest = absurd cc
    by false true e d f rest = absurd cc
    by false false e true f rest = subst (λ (x : Bool). AreFirstKeys key (cond x (k ∷ ks) (k ∷ ks ++ key j ∷ [])) ((first ∷ js) ∷ with_job (λ j first. eq (key j) (key first)) ps j)) (sym f) (h.0, subst (λ (x : Bool). Rest (cond x ks (ks ++ key j ∷ []))) f rest)
    by false false e false f rest = subst (λ (x : Bool). AreFirstKeys key (cond x (k ∷ ks) (k ∷ ks ++ key j ∷ [])) ((first ∷ js) ∷ with_job (λ j first. eq (key j) (key first)) ps j)) (sym f) (h.0, subst (λ (x : Bool). Rest (cond x ks (ks ++ key j ∷ []))) f rest)

-- what was gathered of some jobs with their keys, and what the rest adds
abbrev pub Gathers : {K : Type 0} → (K → K → Bool) → List (JobId × K) → List K → List (List JobId) → List (JobId × K) → Type 0
Gathers {K} eq all ks ps rest = (key : JobId → K) (jobs : List JobId) → all ≡ map (λ (j : JobId). (j, key j)) jobs
    → (later : List JobId) × (rest ≡ map (λ (j : JobId). (j, key j)) later) × AreFirstKeys key ks ps
    × (with_jobs (λ j first. eq (key j) (key first)) ps later ≡ gathered (λ j first. eq (key j) (key first)) jobs)

pub gathers_first : {K : Type 0} (eq : K → K → Bool) (all : List (JobId × K)) (ks : List K) (ps : List (List JobId)) (rest : List (JobId × K)) → ks ≡ [] → ps ≡ [] → rest ≡ all → Gathers eq all ks ps rest
unfolding gathered
gathers_first eq all [] [] rest a b c key jobs e = (jobs, c ∙ e, tt, refl)
gathers_first eq all (k ∷ ks) ps rest a b c key jobs e = absurd cc
gathers_first eq all [] (p ∷ ps) rest a b c key jobs e = absurd cc

pub gathers_more : {K : Type 0} (eq : K → K → Bool) (all : List (JobId × K)) (ks : List K) (ps : List (List JobId)) (j : JobId) (k : K) (rest : List (JobId × K))
    → Gathers eq all ks ps ((j, k) ∷ rest) → Gathers eq all (insert_key eq ks k) (with_at ps (position_or_len (eq k) ks) j) rest
gathers_more {K} eq all ks ps j k rest h key jobs e = by (h key jobs e).0 (h key jobs e).1 (h key jobs e).2 (h key jobs e).3
  where
    goes : JobId → JobId → Bool
    goes i first = eq (key i) (key first)

    keyed : JobId → JobId × K
    keyed i = (i, key i)

    Next : JobId → K → List (JobId × K) → Type 0
    Next i l more = (later : List JobId) × (more ≡ map keyed later) × AreFirstKeys key (insert_key eq ks l) (with_at ps (position_or_len (eq l) ks) i)
        × (with_jobs goes (with_at ps (position_or_len (eq l) ks) i) later ≡ gathered goes jobs)

    next : (x : JobId) (xs : List JobId) → AreFirstKeys key ks ps → with_jobs goes ps (x ∷ xs) ≡ gathered goes jobs → Next x (key x) (map keyed xs)
    next x xs f g =
        let is = at_key eq key ks ps x f in (
          xs,
          refl,
          subst (AreFirstKeys key (insert_key eq ks (key x))) (sym is) (keys_more eq key ks ps x f),
          ap (λ (qs : List (List JobId)). with_jobs goes qs xs) is ∙ g,
        )

    by : (later : List JobId) → (j, k) ∷ rest ≡ map keyed later → AreFirstKeys key ks ps → with_jobs goes ps later ≡ gathered goes jobs → Next j k rest
    by [] e f g = absurd cc
    by (x ∷ xs) e f g =
        let one : (j, k) ≡ keyed x = cc in
        let more : rest ≡ map keyed xs = cc in
        subst (λ (y : JobId × K). Next y.0 y.1 rest) (sym one) (subst (Next x (key x)) (sym more) (next x xs f g))

pub gathers_all : {K : Type 0} (eq : K → K → Bool) (all : List (JobId × K)) (ks : List K) (ps : List (List JobId)) (rest : List (JobId × K)) → Gathers eq all ks ps rest → rest ≡ []
    → (key : JobId → K) (jobs : List JobId) → all ≡ map (λ (j : JobId). (j, key j)) jobs → ps ≡ gathered (λ j first. eq (key j) (key first)) jobs
gathers_all {K} eq all ks ps rest h last key jobs e = by (h key jobs e).0 (sym last ∙ (h key jobs e).1) (h key jobs e).3
  where
    by : (later : List JobId) → [] ≡ map {A = JobId} {B = JobId × K} (λ (j : JobId). (j, key j)) later → with_jobs (λ j first. eq (key j) (key first)) ps later ≡ gathered (λ j first. eq (key j) (key first)) jobs → ps ≡ gathered (λ j first. eq (key j) (key first)) jobs
    by [] f g = g
    by (x ∷ xs) f g = absurd cc

-- there is a part for each key
pub long_more : {K : Type 0} (eq : K → K → Bool) (ks : List K) (ps : List (List JobId)) (k : K) (j : JobId) → length ks ≡ length ps → length (insert_key eq ks k) ≡ length (with_at ps (position_or_len (eq k) ks) j)
long_more eq [] [] k j h = refl
long_more eq [] (p ∷ ps) k j h = absurd cc
long_more eq (x ∷ ks) [] k j h = absurd cc
long_more {K} eq (x ∷ ks) (p ∷ ps) k j h = by (eq k x) (list_any (eq k) ks) (long_more eq ks ps k j cc)
  where
    by : (b c : Bool) → length (cond c ks (ks ++ k ∷ [])) ≡ length (with_at ps (position_or_len (eq k) ks) j)
        → length (cond (b || c) (x ∷ ks) (x ∷ ks ++ k ∷ [])) ≡ length (with_at (p ∷ ps) (cond (not b) (1 + position_or_len (eq k) ks) 0) j)
    by true c rest = h
    by false true rest = ap suc rest ∙ ap (λ (i : ℕ). length (with_at (p ∷ ps) i j)) (sym (next_place (position_or_len (eq k) ks)))
    by false false rest = ap suc rest ∙ ap (λ (i : ℕ). length (with_at (p ∷ ps) i j)) (sym (next_place (position_or_len (eq k) ks)))
