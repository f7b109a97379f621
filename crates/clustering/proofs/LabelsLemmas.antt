-- Which part holds a job, noted one job after the other.
use Rattle.std.proofs.Common.{◌≡◌, ℕ, suc, ◌+◌, ◌<◌, ◌||◌, Bool, true, false, cond, eqb-true, nat_eq, List, [], length, take, drop, get_or, refl, sym, ap, ◌∙◌, arith}
use Rattle.std.specs.Prelude.{Option, Some, None, slice_set}
use Rattle.std.specs.List.{list_any}
use Rattle.std.proofs.lemmas.Grind.{get_or-set_at}
use Rattle.std.proofs.lemmas.List.{drop_more, get_or-set_other, take_more}
use Rattle.values.specs.declared.numbers.JobId.{JobId}
use Rattle.dependency_graph.proofs.TestLemmas.{any_more, by_bool, itself}
use Rattle.clustering.specs.code.Labels.{holder_from, holder_in}
use Rattle.clustering.specs.Runs.{is_job}
use Rattle.clustering.proofs.RunsLemmas.{no_job}

-- the first i jobs have this number, others what they had
abbrev pub AreHeld : ℕ → List JobId → List (Option ℕ) → List (Option ℕ) → ℕ → Type 0
AreHeld n part old new i = (j : JobId) → holder_in new j ≡ cond (list_any (is_job j) (take i part)) (Some n) (holder_in old j)

or_true : (b : Bool) → (b || true) ≡ true
or_true true = refl
or_true false = refl

or_false : (b : Bool) → (b || false) ≡ b
or_false true = refl
or_false false = refl

pub held_more : (n : ℕ) (part : List JobId) (old new : List (Option ℕ)) (i : ℕ) → i < length part → (get_or part i no_job).0 < length new
    → AreHeld n part old new i → AreHeld n part old (slice_set new (get_or part i no_job).0 (Some n)) (i + 1)
held_more n part old new i l m h j = by_bool (is_job j here) now before
  where
    here : JobId
    here = get_or part i no_job

    more : list_any (is_job j) (take (i + 1) part) ≡ (list_any (is_job j) (take i part) || is_job j here)
    more = ap (list_any (is_job j)) (take_more part i no_job l) ∙ any_more (is_job j) (take i part) here

    now : is_job j here ≡ true → holder_in (slice_set new here.0 (Some n)) j ≡ cond (list_any (is_job j) (take (i + 1) part)) (Some n) (holder_in old j)
    now e =
        get_or-set_at new here.0 j.0 (Some n) None (sym (eqb-true here.0 j.0 e)) m
        ∙ sym (ap (λ (b : Bool). cond b (Some n) (holder_in old j)) (more ∙ ap (λ (b : Bool). list_any (is_job j) (take i part) || b) e ∙ or_true (list_any (is_job j) (take i part))))

    before : is_job j here ≡ false → holder_in (slice_set new here.0 (Some n)) j ≡ cond (list_any (is_job j) (take (i + 1) part)) (Some n) (holder_in old j)
    before e =
        get_or-set_other new here.0 j.0 (Some n) None (λ same. let g : nat_eq here.0 j.0 ≡ true = ap (nat_eq here.0) same ∙ itself here.0 in cc)
        ∙ h j
        ∙ sym (ap (λ (b : Bool). cond b (Some n) (holder_in old j)) (more ∙ ap (λ (b : Bool). list_any (is_job j) (take i part) || b) e ∙ or_false (list_any (is_job j) (take i part))))

pub holder_step : (ps : List (List JobId)) (i : ℕ) (part : List JobId) (j : JobId) → i < length ps → part ≡ get_or ps i []
    → holder_from i (drop i ps) j ≡ cond (list_any (is_job j) part) (Some i) (holder_from (i + 1) (drop (i + 1) ps) j)
holder_step ps i part j l is =
    ap (λ (qs : List (List JobId)). holder_from i qs j) (drop_more ps i [] l)
    ∙ (ap (λ (n : ℕ). cond (list_any (is_job j) (get_or ps i [])) (Some i) (holder_from n (drop (i + 1) ps) j)) next
    ∙ sym (ap (λ (g : List JobId). cond (list_any (is_job j) g) (Some i) (holder_from (i + 1) (drop (i + 1) ps) j)) is))
  where
    next : suc i ≡ i + 1
    next = omega arith
