-- A run of a plan by several workers: what its yard shows at the end.
use Rattle.std.proofs.Common.{◌≡◌, ◌⊎◌, ℕ, zero, suc, ◌+◌, ◌≤◌, ◌<◌, Bool, true, false, List, [], ◌∷◌, ◌++◌, length, map, get_or, refl, sym, ap, subst, ◌∙◌, inl, inr, arith}
use Rattle.std.specs.Prelude.{Option, Some, IfSome, is_some}
use Rattle.std.proofs.lemmas.List.{length-map}
use Rattle.craft.specs.declared.crew.Crew.{Crew}
use Rattle.craft.specs.declared.gate.Gate as gate
use Rattle.outside.specs.declared.tool.Tool as tool
use Rattle.outside.specs.declared.store.Store.{Store}
use Rattle.plan_core.specs.declared.plan.Plan.{Plan}
use Rattle.run_record.specs.Events.{Event}
use Rattle.lease_rules.specs.code.Owning.{entries_by}
use Rattle.lease_rules.specs.State.{now}
use Rattle.site_yard.specs.code.Failures.{RoseBy, tool_faults}
use Rattle.worker_gate.specs.code.Alone.{IsOver}
use Rattle.worker_gate.specs.code.Asking.{AreGatesAsked}
use Rattle.worker_gate.specs.code.Inputs.{AreOfInputs}
use Rattle.worker_gate.specs.code.Telling.{AreGatesTold}
use Rattle.worker_gate.specs.Telling.{placed_by}
use Rattle.worker_gate.specs.code.Many.{AreToolsCounted, WorksMany}
use Rattle.worker_gate.specs.code.Runs.{AreToolsRun, tool_runs}
use Rattle.plan_run.specs.Moments.{Tools, Work, told_of}
use Rattle.plan_run.specs.code.Moments.{asked_of, count_of, crew_moment, runs_of}
use Rattle.plan_run.specs.code.Running.{HasAsked}
use Rattle.plan_run.proofs.RunningLemmas.{IsYardEnd}

over_so : (p : Plan) (order : List ℕ) (r : List Event) (unstarted : Bool) → (unstarted ≡ true → r ≡ []) → (unstarted ≡ false → IsOver p (now p order r)) → (r ≡ []) ⊎ IsOver p (now p order r)
over_so p order r true none over = inl (none refl)
over_so p order r false none over = inr (over refl)

pub many_end : (w : Work) (t : Tools) (n : ℕ) (p : Plan) (order : List ℕ) (r : List Event) (unstarted : Bool) (told : Option Store) (marked : Store) (faults misses : ℕ) → w.after.told ≡ told → is_some told ≡ is_some w.before.told → IfSome w.before.told (λ s. marked ≡ s) → faults ≡ w.before.counts.faults → misses ≡ w.before.counts.misses
    → WorksMany p order n unstarted r → (unstarted ≡ true → r ≡ []) → ((k : ℕ) → k < n → RoseBy (tool_faults k r) (count_of t.before k) (count_of t.after k)) → ((k : ℕ) → k < n → runs_of t.after k ≤ runs_of t.before k + tool_runs p k r) → ((k : ℕ) → k < n → told_of t.after k ≡ told_of t.before k ++ placed_by k 0 r) → AreOfInputs w.apply p r → IsYardEnd w t n p order [] r told marked faults misses
many_end w t n p order r unstarted told marked faults misses told_is tells marked_is faults_are misses_are works none tools ran entered inputs = record {
  told_is = told_is;
  tells = tells;
  marked_is = marked_is;
  faults_are = faults_are;
  misses_are = misses_are;
  below = works.below;
  over = over_so p order r unstarted none works.over;
  inputs = inputs;
  tools = tools;
  ran = ran;
  entered = entered;
}

-- what the members show of their tools and gates
module _ {T G : Type 0} where
  counts_are : (t : tool.Ghosts T) (g : gate.Ghosts G) (crew : List (Crew T G)) (k : ℕ) → count_of (crew_moment t g crew) k ≡ get_or (map (λ c. t.faults c.tool) crew) k 0
  counts_are t g [] k = refl
  counts_are t g (m ∷ ms) zero = refl
  counts_are t g (m ∷ ms) (suc k) = counts_are t g ms k

  runs_are : (t : tool.Ghosts T) (g : gate.Ghosts G) (crew : List (Crew T G)) (k : ℕ) → runs_of (crew_moment t g crew) k ≡ get_or (map (λ c. t.runs c.tool) crew) k 0
  runs_are t g [] k = refl
  runs_are t g (m ∷ ms) zero = refl
  runs_are t g (m ∷ ms) (suc k) = runs_are t g ms k

  asked_are : (t : tool.Ghosts T) (g : gate.Ghosts G) (crew : List (Crew T G)) (k : ℕ) → k < length crew → asked_of (crew_moment t g crew) k ≡ Some (get_or (map (λ c. g.asked c.gate) crew) k [])
  asked_are t g [] k l = absurd (omega (arith, l))
  asked_are t g (m ∷ ms) zero l = refl
  asked_are t g (m ∷ ms) (suc k) l = asked_are t g ms k (omega (arith, l))

  tolds_are : (t : tool.Ghosts T) (g : gate.Ghosts G) (crew : List (Crew T G)) (k : ℕ) → told_of (crew_moment t g crew) k ≡ get_or (map (λ c. g.told c.gate) crew) k []
  tolds_are t g [] k = refl
  tolds_are t g (m ∷ ms) zero = refl
  tolds_are t g (m ∷ ms) (suc k) = tolds_are t g ms k

  pub told_shown : (t : tool.Ghosts T) (g : gate.Ghosts G) (r : List Event) (old new : List (Crew T G)) → AreGatesTold r (map (λ c. g.told c.gate) old) (map (λ c. g.told c.gate) new) → (k : ℕ) → k < length old → told_of (crew_moment t g new) k ≡ told_of (crew_moment t g old) k ++ placed_by k 0 r
  told_shown t g r old new tells k l =
      let many = length-map old (λ c. g.told c.gate) in
      tolds_are t g new k ∙ tells.each k (omega (arith, l, many)) ∙ ap (λ (x : List (ℕ × Event)). x ++ placed_by k 0 r) (sym (tolds_are t g old k))

  pub tools_shown : (t : tool.Ghosts T) (g : gate.Ghosts G) (r : List Event) (old new : List (Crew T G)) → AreToolsCounted r (map (λ c. t.faults c.tool) old) (map (λ c. t.faults c.tool) new) → (k : ℕ) → k < length old → RoseBy (tool_faults k r) (count_of (crew_moment t g old) k) (count_of (crew_moment t g new) k)
  tools_shown t g r old new tools k l =
      let many = length-map old (λ c. t.faults c.tool) in
      subst (λ (n : ℕ). RoseBy (tool_faults k r) n (count_of (crew_moment t g new) k)) (sym (counts_are t g old k))
      (subst (RoseBy (tool_faults k r) (get_or (map (λ c. t.faults c.tool) old) k 0)) (sym (counts_are t g new k)) (tools.each k (omega (arith, l, many))).1)

  pub runs_shown : (t : tool.Ghosts T) (g : gate.Ghosts G) (p : Plan) (r : List Event) (old new : List (Crew T G)) → AreToolsRun p r (map (λ c. t.runs c.tool) old) (map (λ c. t.runs c.tool) new) → (k : ℕ) → k < length old → runs_of (crew_moment t g new) k ≤ runs_of (crew_moment t g old) k + tool_runs p k r
  runs_shown t g p r old new runs k l =
      let many = length-map old (λ c. t.runs c.tool) in
      let first = runs_are t g old k in
      let last = runs_are t g new k in
      let few = runs.each k (omega (arith, l, many)) in
      omega (arith, few, first, last)

  pub gates_shown : (t : tool.Ghosts T) (g : gate.Ghosts G) (r : List Event) (old new : List (Crew T G)) → length new ≡ length old → AreGatesAsked r (map (λ c. g.asked c.gate) old) (map (λ c. g.asked c.gate) new) → (k : ℕ) → k < length old → HasAsked (entries_by k r) (asked_of (crew_moment t g old) k) (asked_of (crew_moment t g new) k)
  gates_shown t g r old new same gates k l =
      let many = length-map old (λ c. g.asked c.gate) in
      subst (λ (x : Option (List ℕ)). HasAsked (entries_by k r) x (asked_of (crew_moment t g new) k)) (sym (asked_are t g old k l))
      (subst (HasAsked (entries_by k r) (Some (get_or (map (λ c. g.asked c.gate) old) k []))) (sym (asked_are t g new k (omega (arith, l, same)))) (gates.each k (omega (arith, l, many))))
