-- Sites of jobs are execution sites.
use Rattle.std.proofs.Common.{◌≡◌, ℕ, zero, suc, ◌+◌, ◌<◌, ◌%◌, Bool, true, false, List, [], ◌∷◌, length, get_or, refl, sym, ap, subst, ◌∙◌, arith}
use Rattle.std.specs.Prelude.{if◌then◌else◌, slice_get, Option, Some, None, Result, Ok, Err}
use Rattle.std.proofs.lemmas.Nat.{mod_below}
use Rattle.std.proofs.lemmas.Option.{slice_get-get_or, slice_get_within, get_or_from_slice_get}
use Rattle.values.specs.declared.numbers.SiteId.{SiteId}
use Rattle.values.specs.declared.select_fault.SelectFault.{SelectFault}
use Rattle.workflow_core.specs.declared.workflow.Job.{Job}
use Rattle.plan_request.specs.declared.request.Execution.{Execution}
use Rattle.dependency_graph.specs.Levels.{is_kept}
use Rattle.dependency_graph.proofs.TestLemmas.{by_bool}
use Rattle.site_selector.specs.Turns.{turn_of}
use Rattle.site_selector.specs.Offers.{sites_of}
use Rattle.site_selector.specs.Candidates.{candidates, candidates_from, round_robin_site, chosen_unless, is_candidate, unknown_site}
use Rattle.values.specs.Numbers.{site_id}
use Rattle.site_selector.specs.Selecting.{Selection, answer_of, Gets, IsSelected}

candidate_below : (test : Execution → Bool) (s : ℕ) (es : List Execution) (k : ℕ) → k < length (candidates_from test s es) → get_or (candidates_from test s es) k 0 < s + length es
candidate_below test s [] k l = absurd (omega arith)
candidate_below test s (e ∷ es) k l = by (test e) (candidate_below test (suc s) es) k l
  where
    later : List ℕ
    later = candidates_from test (suc s) es

    by : (b : Bool) → ((k : ℕ) → k < length later → get_or later k 0 < suc s + length es) → (k : ℕ) → k < length (if b then s ∷ later else later) → get_or (if b then s ∷ later else later) k 0 < s + suc (length es)
    by true less zero l = omega arith
    by true less (suc k) l = let here = less k (omega (arith, l)) in omega (arith, here)
    by false less k l = let here = less k l in omega (arith, here)

chosen_below : (a turn n : ℕ) (cs : List ℕ) (s : SiteId) → ((k : ℕ) → k < length cs → get_or cs k 0 < n) → round_robin_site a turn cs ≡ Ok s → s.0 < n
chosen_below a turn n [] s below h = absurd cc
chosen_below a turn n (c ∷ cs) s below h =
    let at : site_id (get_or (c ∷ cs) (turn % length (c ∷ cs)) 0) ≡ s = cc in
    subst (λ (t : SiteId). t.0 < n) at (below (turn % length (c ∷ cs)) (mod_below turn (length (c ∷ cs)) (omega arith)))

unless_below : (a turn n : ℕ) (o : Option (List ℕ)) (cs : List ℕ) (s : SiteId) → ((k : ℕ) → k < length cs → get_or cs k 0 < n) → chosen_unless a turn o cs ≡ Ok s → s.0 < n
unless_below a turn n None cs s below h = chosen_below a turn n cs s below h
unless_below a turn n (Some name) cs s below h = absurd cc

answer_below : (c : Selection) (a : ℕ) (j : Job) (s : SiteId) → answer_of c a j ≡ Ok s → s.0 < length c.execute
answer_below c a j s h = unless_below a (turn_of c.kept c.levels a) (length c.execute) (unknown_site c.execute j.pinned) (candidates c.execute (sites_of c.entries j.transformation) j.pinned) s
    (λ k l. let below = candidate_below (is_candidate (sites_of c.entries j.transformation) j.pinned) 0 c.execute k l in omega (arith, below)) h

-- what a job got
data Got (c : Selection) (a : ℕ) (j : Job) (found : Option SiteId) : Type 0 where
  Site : (s : SiteId) → answer_of c a j ≡ Ok s → found ≡ Some s → Got c a j found

got : (c : Selection) (a : ℕ) (j : Job) (found : Option SiteId) → Gets (answer_of c a j) found → Got c a j found
got c a j found h = by (answer_of c a j) refl h
  where
    by : (r : Result SiteId SelectFault) → answer_of c a j ≡ r → Gets r found → Got c a j found
    by (Ok s) e is = Site s e is
    by (Err f) e is = absurd is

got_at : (c : Selection) (sites : List (Option SiteId)) → IsSelected c sites → (a : ℕ) → is_kept c.kept a ≡ true → a < length c.jobs → (j : Job) × Got c a j (get_or sites a None)
got_at c sites is a kept l = by (slice_get c.jobs a) refl
  where
    none : slice_get c.jobs a ≡ None → ⊥
    none e = by_jobs c.jobs a l e
      where
        by_jobs : (js : List Job) (a : ℕ) → a < length js → slice_get js a ≡ None → ⊥
        by_jobs [] a l e = absurd (omega arith)
        by_jobs (j ∷ js) zero l e = cc
        by_jobs (j ∷ js) (suc a) l e = by_jobs js a (omega (arith, l)) e

    by : (o : Option Job) → slice_get c.jobs a ≡ o → (j : Job) × Got c a j (get_or sites a None)
    by None e = absurd (none e)
    by (Some j) e = (j, got c a j (get_or sites a None) (is.kept a j (kept, e)))

pub kept_placed : (c : Selection) (sites : List (Option SiteId)) → IsSelected c sites → (a : ℕ) → is_kept c.kept a ≡ true → a < length c.jobs → (s : SiteId) × (slice_get sites a ≡ Some (Some s))
kept_placed c sites is a kept l = by (got_at c sites is a kept l).1
  where
    by : {j : Job} → Got c a j (get_or sites a None) → (s : SiteId) × (slice_get sites a ≡ Some (Some s))
    by (Site s e found) = (s, slice_get-get_or sites a None (let long = is.long in omega (arith, l, long)) ∙ ap (λ (o : Option SiteId). Some o) found)

pub site_below : (c : Selection) (sites : List (Option SiteId)) → IsSelected c sites → (a : ℕ) (s : SiteId) → slice_get sites a ≡ Some (Some s) → s.0 < length c.execute
site_below c sites is a s h = by_bool (is_kept c.kept a) (λ kept. by (got_at c sites is a kept below).1) (λ dropped. absurd (let e = sym at ∙ is.others a dropped in cc))
  where
    below : a < length c.jobs
    below = let l = slice_get_within sites a (Some s) h in let long = is.long in omega (arith, l, long)

    at : get_or sites a None ≡ Some s
    at = get_or_from_slice_get sites a (Some s) None h

    by : {j : Job} → Got c a j (get_or sites a None) → s.0 < length c.execute
    by {j} (Site t e found) = let both : Some t ≡ Some s = sym found ∙ at in let same : t ≡ s = cc in answer_below c a j s (e ∙ ap (λ (u : SiteId). Ok u) same)
