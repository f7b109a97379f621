-- How often the tools of a crew were run, where one of them was used.
use Rattle.std.proofs.Common.{◌≡◌, ℕ, zero, suc, ◌+◌, ◌<◌, ◌≤◌, false, eqb, get_or, List, [], ◌∷◌, ◌++◌, length, map, refl, sym, ap, subst, ◌∙◌, arith}
use Rattle.std.specs.Prelude.{slice_set}
use Rattle.plan_core.specs.declared.plan.Plan.{Plan}
use Rattle.plan_core.proofs.TestLemmas.{by_bool}
use Rattle.run_record.specs.Events.{Event}
use Rattle.worker_gate.specs.code.Runs.{RunsWithin, tool_runs}
use Rattle.worker_gate.proofs.RunsLemmas.{runs_append, runs_both, runs_same, runs_still}
use Rattle.plan_run.specs.Moments.{MemberMoment}
use Rattle.plan_run.specs.code.Moments.{runs_of}
use Rattle.resume_run.specs.Redoing.{AreRunsWithin}

module _ {A : Type 0} (shown : A → MemberMoment) where
  runs_here : (crew : List A) (w : ℕ) (m : A) → w < length crew → m ≡ get_or crew w m → runs_of (map shown crew) w ≡ (shown m).runs
  runs_here [] w m l is = absurd (omega (arith, l))
  runs_here (c ∷ cs) zero m l is = ap (λ x. (shown x).runs) (sym is)
  runs_here (c ∷ cs) (suc w) m l is = runs_here cs w m (omega (arith, l)) is

  runs_set : (crew : List A) (w : ℕ) (m : A) → w < length crew → runs_of (map shown (slice_set crew w m)) w ≡ (shown m).runs
  runs_set [] w m l = absurd (omega (arith, l))
  runs_set (c ∷ cs) zero m l = refl
  runs_set (c ∷ cs) (suc w) m l = runs_set cs w m (omega (arith, l))

  runs_other : (crew : List A) (w k : ℕ) (m : A) → eqb w k ≡ false → runs_of (map shown (slice_set crew w m)) k ≡ runs_of (map shown crew) k
  runs_other [] w k m off = refl
  runs_other (c ∷ cs) zero zero m off = absurd cc
  runs_other (c ∷ cs) zero (suc k) m off = refl
  runs_other (c ∷ cs) (suc w) zero m off = refl
  runs_other (c ∷ cs) (suc w) (suc k) m off = runs_other cs w k m (grind (arith, off))

  -- the tool of one member was run, and no other one
  pub used_runs : (p : Plan) (crew : List A) (w : ℕ) (old new : A) (r after added : List Event) → w < length crew → old ≡ get_or crew w old → after ≡ r ++ added → RunsWithin p w r after (shown old).runs (shown new).runs → AreRunsWithin p r after (map shown crew) (map shown (slice_set crew w new))
  used_runs p crew w old new r after added l is adds within k = by_bool (eqb w k)
      (λ at. let same : w ≡ k = grind (arith, at) in
      subst (λ j. RunsWithin p j r after (runs_of (map shown crew) j) (runs_of (map shown (slice_set crew w new)) j)) same
      (subst (λ x. RunsWithin p w r after x (runs_of (map shown (slice_set crew w new)) w)) (sym (runs_here crew w old l is))
      (subst (λ y. RunsWithin p w r after (shown old).runs y) (sym (runs_set crew w new l)) within)))
      (λ off. subst (λ y. RunsWithin p k r after (runs_of (map shown crew) k) y) (sym (runs_other crew w k new off)) (runs_still p k r after added (runs_of (map shown crew) k) adds))

pub none_ran : (p : Plan) (r : List Event) (ms : List MemberMoment) → AreRunsWithin p r r ms ms
none_ran p r ms k = runs_same p k r r (runs_of ms k) refl

pub ran_more : (p : Plan) (a b c : List Event) (before mid later : List MemberMoment) → AreRunsWithin p a b before mid → AreRunsWithin p b c mid later → AreRunsWithin p a c before later
ran_more p a b c before mid later first next k = runs_both p k a b c (runs_of before k) (runs_of mid k) (runs_of later k) (first k) (next k)

-- of what was added
pub ran_since : (p : Plan) (first r whole : List Event) (before later : List MemberMoment) → whole ≡ first ++ r → AreRunsWithin p first whole before later → (k : ℕ) → runs_of later k ≤ runs_of before k + tool_runs p k r
ran_since p first r whole before later is within k =
    let here : RunsWithin p k first whole (runs_of before k) (runs_of later k) = within k in
    let all : tool_runs p k whole ≡ tool_runs p k first + tool_runs p k r = ap (tool_runs p k) is ∙ runs_append p k first r in
    omega (arith, here, all)
