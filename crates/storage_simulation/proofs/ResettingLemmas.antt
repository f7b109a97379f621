-- A front that is set to a standing.
use Rattle.std.proofs.Common.{◌≡◌, ℕ, zero, suc, ◌+◌, ◌^◌, ◌<◌, ◌≤◌, ◌||◌, Bool, true, false, cond, nat_eq, List, [], length, take, get_or, refl, sym, ap, subst, ◌∙◌, arith}
use Rattle.std.specs.Prelude.{not, set, vec_capacity}
use Rattle.std.proofs.lemmas.Bool.{eqb-true, eqb-false}
use Rattle.digraph.specs.code.Digraph.{count, edge}
use Rattle.digraph.specs.declared.digraph.Digraph.{Digraph}
use Rattle.plan_core.specs.declared.plan.Plan.{Plan}
use Rattle.plan_core.specs.Words.{count_tasks, parents, task_numbers}
use Rattle.storage_simulation.specs.declared.front.Front.{Front}
use Rattle.storage_simulation.specs.declared.standing.Standing.{Standing}
use Rattle.storage_simulation.specs.code.Front.{IsFrontFor, IsOrderable, IsSet, front_of, missing}
use Rattle.storage_simulation.specs.code.Goods.{IsWithinLimits}
use Rattle.storage_simulation.specs.Goods.{places}
use Rattle.storage_simulation.specs.Ordering.{Progress, size, is_done}
use Rattle.storage_simulation.specs.code.Ordering.{progress, AreSteps, IsPeak}
use Rattle.storage_simulation.specs.code.Standings.{IsStanding}
use Rattle.storage_simulation.specs.Standings.{waits}
use Rattle.storage_simulation.specs.Usage.{usage, IsWithin}
use Rattle.storage_simulation.proofs.PlacingLemmas.{flag_set, number_set}
use Rattle.storage_simulation.proofs.ScoringLemmas.{rises_few, sum_small}
use Rattle.storage_simulation.proofs.StepsLemmas.{steps_none}

pub done_first : (st : Progress) (t : ℕ) → not (waits (st.phase t)) ≡ is_done st [] t
done_first st t = by (not (waits (st.phase t)))
  where
    by : (b : Bool) → b ≡ (b || false)
    by true = refl
    by false = refl

-- at most as many parents as tasks
pub missing_few : (p : Plan) (st : Progress) (front : List ℕ) (t : ℕ) → IsOrderable p → IsWithinLimits p → missing p st front t < 2 ^ 32
missing_few p st front t able limits =
    let sum = sum_small (λ u. cond (is_done st front u) 0 1) 1 (parents p t) (λ u. one (is_done st front u)) in
    let few = rises_few 0 (count_tasks p) (parents p t) (able.parents_rise t) (omega arith) (able.parents_below t) in
    let most = limits.tasks in omega (arith, sum, few, most)
  where
    one : (b : Bool) → cond b zero 1 ≤ 1
    one true = omega arith
    one false = omega arith

-- a list is written anew
pub numbers_set : (f : ℕ → ℕ) (xs : List ℕ) (i x : ℕ) → ((k : ℕ) → k < i → get_or xs k 0 ≡ f k) → x ≡ f i → i < length xs → (k : ℕ) → k < i + 1 → get_or (set xs i x) k 0 ≡ f k
numbers_set f xs i x so is l k m = number_set xs i k x l ∙ by_place (nat_eq i k) refl
  where
    by_place : (b : Bool) → nat_eq i k ≡ b → cond b x (get_or xs k 0) ≡ f k
    by_place true e = is ∙ ap f (eqb-true i k e)
    by_place false e = so k (let ne = eqb-false i k e in omega (arith, ne, m))

pub flags_set : (f : ℕ → Bool) (xs : List Bool) (i : ℕ) (x : Bool) → ((k : ℕ) → k < i → get_or xs k true ≡ f k) → x ≡ f i → i < length xs → (k : ℕ) → k < i + 1 → get_or (set xs i x) k true ≡ f k
flags_set f xs i x so is l k m = flag_set xs i k x l ∙ by_place (nat_eq i k) refl
  where
    by_place : (b : Bool) → nat_eq i k ≡ b → cond b x (get_or xs k true) ≡ f k
    by_place true e = is ∙ ap f (eqb-true i k e)
    by_place false e = so k (let ne = eqb-false i k e in omega (arith, ne, m))

-- nothing is placed
pub record IsReset (p : Plan) (st : Standing) (b new : Front) : Type 0 where
  pub placed : new.placed.items ≡ []
  pub room : vec_capacity new.placed ≡ vec_capacity b.placed
  pub graph : new.graph ≡ b.graph
  pub done_long : length new.done.items ≡ count_tasks p
  pub done_is : (t : ℕ) → t < count_tasks p → get_or new.done.items t true ≡ is_done (progress st) [] t
  pub missing_long : length new.missing.items ≡ count_tasks p
  pub missing_is : (t : ℕ) → t < count_tasks p → get_or new.missing.items t 0 ≡ missing p (progress st) [] t
  pub used_long : length new.used.items ≡ places p
  pub used_is : (s : ℕ) → s < places p → get_or new.used.items s 0 ≡ usage p (size (progress st)) [] s
  pub peaks : new.peaks.items ≡ new.used.items

pub reset_is : (p : Plan) (st : Standing) (b new : Front) → IsFrontFor p b → IsOrderable p → IsWithinLimits p → IsStanding p st → IsWithin p (size (progress st)) [] → IsReset p st b new → IsSet p st new
reset_is p st b new made_for able limits standing within is = record {
  orderable = able;
  limits = limits;
  standing = standing;
  made_for = record {
    room = let room = is.room in omega (arith, made_for.room, room);
    done_long = is.done_long;
    missing_long = is.missing_long;
    used_long = is.used_long;
    peaks_long = ap length is.peaks ∙ is.used_long;
    nodes = ap count is.graph ∙ made_for.nodes;
    edges = λ u t. ap (λ (g : Digraph). edge g u t) is.graph ∙ made_for.edges u t;
  };
  front = record {
    steps = subst (AreSteps p (progress st)) (sym none) (steps_none p (progress st));
    within = subst (IsWithin p (size (progress st))) (sym none) within;
    done_is = λ t l. is.done_is t l ∙ ap (λ (f : List ℕ). is_done (progress st) f t) (sym none);
    missing_is = λ t l. is.missing_is t l ∙ ap (λ (f : List ℕ). missing p (progress st) f t) (sym none);
    used_is = λ s l. is.used_is s l ∙ ap (λ (f : List ℕ). usage p (size (progress st)) f s) (sym none);
    peaks_are = λ s l. subst (λ (f : List ℕ). IsPeak p (progress st) f s (get_or new.peaks.items s 0)) (sym none) (peak s (ap (λ (xs : List ℕ). get_or xs s 0) is.peaks ∙ is.used_is s l));
  };
}
  where
    none : front_of new ≡ []
    none = ap task_numbers is.placed

    first : (k s n : ℕ) → n ≡ usage p (size (progress st)) [] s → usage p (size (progress st)) (take k []) s ≤ n
    first zero s n e = omega (arith, e)
    first (suc k) s n e = omega (arith, e)

    peak : (s : ℕ) {n : ℕ} → n ≡ usage p (size (progress st)) [] s → IsPeak p (progress st) [] s n
    peak s {n} e = record { most = λ k m. first k s n e; reached = (0, omega arith, sym e) }
