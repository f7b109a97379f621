-- The answers of `plan`.
use Rattle.std.proofs.Common.{◌≡◌, ℕ, ◌+◌, ◌<◌, Bool, true, false, List, [], ◌∷◌, ◌++◌, length, get_or, refl, sym, ap, subst, ◌∙◌, nat_eq, arith}
use Rattle.std.proofs.Math.Seq.{get_or-append_seam}
use Rattle.std.proofs.lemmas.List.{get_or_append_left, length-append}
use Rattle.values.specs.declared.numbers.TaskId.{TaskId}
use Rattle.plan_core.specs.declared.plan.Plan.{Plan}
use Rattle.plan_core.specs.Words.{task_numbers}
use Rattle.storage_simulation.specs.Goods.{places}
use Rattle.storage_simulation.specs.code.Ordering.{IsPeak}
use Rattle.storage_simulation.specs.Ordering.{at_start}
use Rattle.planner.specs.code.Planning.{CannotPlan}
use Rattle.planner.specs.declared.plan_fault.PlanFault.{PlanFault}
use Rattle.planner.specs.declared.plan_fault.PlanFault.TheVariants as plan_faults
use Rattle.std.specs.Prelude.{Ok, Err}
use Rattle.planner.specs.declared.surveyed.Surveyed.{Surveyed}
use Rattle.pegasus_commands.specs.declared.fault.CallFault.{CallFault}
use Rattle.pegasus_commands.specs.declared.fault.CallFault.TheVariants.{Memory}
use Rattle.pegasus_commands.specs.code.Commands.Plan.{ArePeaksOf, HasNoFault, Plans, Says, plan, task_limit}
use Rattle.pegasus_commands.specs.code.CommandSpec.{Finishes}
use Rattle.pegasus_commands.specs.code.Fault.{Answer, IsDoneOrMemory, not_for, plan_answer}
use Rattle.pegasus_commands.specs.code.Survey.{survey_of}
use Rattle.pegasus_commands.proofs.InputSpecLemmas.{finishes_over}

-- the answer for a fault
pub refused_says : (s : Surveyed) (fault : PlanFault) → CannotPlan s.request s.survey task_limit fault → Says s [] (not_for (plan_answer fault))
refused_says s plan_faults.Memory h = tt
refused_says s (plan_faults.Exceeds site task needed bound) h = (record { fault = plan_faults.Exceeds site task needed bound; comes = h; answers = refl }, refl)
refused_says s fault h = (record { fault = fault; comes = h; answers = refl }, refl)

pub says_refused : (s : Surveyed) (fault : PlanFault) (text : List ℕ) (a : Answer) → CannotPlan s.request s.survey task_limit fault → text ≡ [] → a ≡ not_for (plan_answer fault) → Says s text a
says_refused s fault text a h none is = rw (none, is) (refused_says s fault h)

-- without a fault there is a plan, or memory runs out
says_done : (s : Surveyed) (text : List ℕ) (a : Answer) → Says s text a → HasNoFault s → IsDoneOrMemory a
says_done s text (Ok given) h none = tt
says_done s text (Err Memory) h none = tt
says_done s text (Err fault) h none = subst (λ (f : CallFault). IsDoneOrMemory (not_for f)) (sym (h.0.answers ∙ ap plan_answer (none h.0.fault h.0.comes))) tt

pub plan_finishes : (name : List ℕ) → Finishes (plan name)
plan_finishes name = finishes_over (survey_of name) Plans (λ w s. HasNoFault s) (λ w t s text a works can still. says_done s text a works.says can)

-- ---- peaks

pub no_peaks : (p : Plan) (order : List TaskId) → ArePeaksOf p order 0 []
no_peaks p order = record { long = refl; each = λ s l. absurd (omega arith) }

pub peaks_more : (p : Plan) (order : List TaskId) (n : ℕ) (peaks : List ℕ) (x : ℕ) → ArePeaksOf p order n peaks → ∥ IsPeak p at_start (task_numbers order) n x ∥₁ → ArePeaksOf p order (n + 1) (peaks ++ x ∷ [])
peaks_more p order n peaks x known peak = record {
  long = let l = length-append peaks (x ∷ []) in let m = known.long in omega (arith, l, m);
  each = λ s l. by s l (nat_eq s n) refl;
}
  where
    last : get_or (peaks ++ x ∷ []) n 0 ≡ x
    last = ap (λ (k : ℕ). get_or (peaks ++ x ∷ []) k 0) (sym known.long) ∙ get_or-append_seam peaks x [] 0

    by : (s : ℕ) → s < n + 1 → (b : Bool) → nat_eq s n ≡ b → ∥ IsPeak p at_start (task_numbers order) s (get_or (peaks ++ x ∷ []) s 0) ∥₁
    by s l true e =
        let at : s ≡ n = grind (arith, e) in
        subst (λ (k : ℕ). ∥ IsPeak p at_start (task_numbers order) k (get_or (peaks ++ x ∷ []) k 0) ∥₁) (sym at) (subst (λ (y : ℕ). ∥ IsPeak p at_start (task_numbers order) n y ∥₁) (sym last) peak)
    by s l false e =
        let below : s < n = grind (arith, e, l) in
        let long : s < length peaks = let m = known.long in omega (arith, below, m) in
        subst (λ (y : ℕ). ∥ IsPeak p at_start (task_numbers order) s y ∥₁) (sym (get_or_append_left peaks (x ∷ []) 0 s long)) (known.each s below)

pub site_is_place : (p : Plan) (s : ℕ) → s < length p.sites → s < places p
unfolding places
site_is_place p s l = omega (arith, l)
