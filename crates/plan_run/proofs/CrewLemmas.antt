-- A run by the first members of a crew, told of the whole crew.
use Rattle.std.proofs.Common.{◌≡◌, ℕ, ◌+◌, ◌≤◌, ◌<◌, ◌++◌, List, [], length, map, take, drop, sym, ap, subst, ◌∙◌, arith}
use Rattle.std.proofs.Math.Logic.{∥∥₁_map}
use Rattle.std.proofs.lemmas.List.{get_or_append_left, length-map, take-append-drop}
use Rattle.plan_core.specs.declared.plan.Plan.{Plan}
use Rattle.site_yard.specs.code.Failures.{RoseBy, tool_faults}
use Rattle.lease_rules.specs.code.Owning.{entries_by}
use Rattle.worker_gate.specs.code.Runs.{tool_runs}
use Rattle.worker_gate.specs.Telling.{placed_by}
use Rattle.plan_run.specs.Moments.{MemberMoment, Tools, Work, gateless, shown_of}
use Rattle.plan_run.specs.code.Moments.{asked_of, count_of, counting, first_shown, runs_of}
use Rattle.plan_run.specs.code.Running.{End, HasAsked, HasRun, Report}
use Rattle.plan_run.proofs.MembersLemmas.{first_of_both, map_both}

-- of a run it counts only what its workers show
with_tools : (w : Work) (t u : Tools) (n : ℕ) (p : Plan) (order : List ℕ) (x : Report) (a : End) → ((k : ℕ) → k < n → shown_of u.before k ≡ shown_of t.before k) → ((k : ℕ) → k < n → shown_of u.after k ≡ shown_of t.after k) → HasRun w t n p order x a → HasRun w u n p order x a
with_tools w t u n p order x a before after h = record {
  r = h.r;
  run = record {
    legal = h.run.legal;
    below = h.run.below;
    over = h.run.over;
    safe = h.run.safe;
    output = h.run.output;
    left = h.run.left;
    shown = h.run.shown;
    inputs = h.run.inputs;
    counted = h.run.counted;
    tools = λ k l. subst (λ (m : MemberMoment). RoseBy (tool_faults k h.r) m.faults (count_of u.after k)) (sym (before k l)) (subst (λ (m : MemberMoment). RoseBy (tool_faults k h.r) (count_of t.before k) m.faults) (sym (after k l)) (h.run.tools k l));
    ran = λ k l. subst (λ (m : MemberMoment). runs_of u.after k ≤ m.runs + tool_runs p k h.r) (sym (before k l)) (subst (λ (m : MemberMoment). m.runs ≤ runs_of t.before k + tool_runs p k h.r) (sym (after k l)) (h.run.ran k l));
    told = λ k l. ap (λ (m : MemberMoment). m.told) (after k l) ∙ h.run.told k l ∙ ap (λ (m : MemberMoment). m.told ++ placed_by k 0 h.r) (sym (before k l));
  };
  none_open = h.none_open;
  gates = λ k l. subst (λ (m : MemberMoment). HasAsked (entries_by k h.r) m.asked (asked_of u.after k)) (sym (before k l)) (subst (λ (m : MemberMoment). HasAsked (entries_by k h.r) (asked_of t.before k) m.asked) (sym (after k l)) (h.gates k l));
  tells = h.tells;
  reports = h.reports;
}

-- what a crew's first members show
shown_before : (xs ys : List MemberMoment) (n k : ℕ) → length xs ≡ n → k < n → shown_of (xs ++ ys) k ≡ shown_of xs k
shown_before xs ys n k many l = get_or_append_left xs ys (gateless 0 0 []) k (omega (arith, many, l))

-- A plan was run by the first members of the crew.
many_is : (w : Work) (n : ℕ) (xs ys zs : List MemberMoment) (p : Plan) (order : List ℕ) (x : Report) (a : End) → length xs ≡ n → length ys ≡ n → ∥ HasRun w (counting xs ys) n p order x a ∥₁ → ∥ HasRun w (counting (xs ++ zs) (ys ++ zs)) n p order x a ∥₁
many_is w n xs ys zs p order x a before after run = ∥∥₁_map run (λ (h : HasRun w (counting xs ys) n p order x a).
    with_tools w (counting xs ys) (counting (xs ++ zs) (ys ++ zs)) n p order x a (λ k l. shown_before xs zs n k before l) (λ k l. shown_before ys zs n k after l) h)

-- The same of the whole crew, by a work in which the first member before and after is left open.
pub many_of : {A : Type 0} (shown : A → MemberMoment) (crew new members back : List A) (n : ℕ) (w : MemberMoment → MemberMoment → Work) (p : Plan) (order : List ℕ) (x : Report) (a : End) → members ≡ take n crew → length members ≡ n → 0 < n → length back ≡ length members → new ≡ back ++ drop n crew
    → ∥ HasRun (w (first_shown (map shown members)) (first_shown (map shown back))) (counting (map shown members) (map shown back)) (length members) p order x a ∥₁
    → ∥ HasRun (w (first_shown (map shown crew)) (first_shown (map shown new))) (counting (map shown crew) (map shown new)) n p order x a ∥₁
many_of shown crew new members back n w p order x a taken many some backs news run =
    rw (before, after, first_of_both xs zs n longs some, first_of_both ys zs n longer some)
    (many_is (w (first_shown xs) (first_shown ys)) n xs ys zs p order x a longs longer (rw many at run))
  where
    xs : List MemberMoment
    xs = map shown members

    ys : List MemberMoment
    ys = map shown back

    zs : List MemberMoment
    zs = map shown (drop n crew)

    longs : length xs ≡ n
    longs = length-map members shown ∙ many

    longer : length ys ≡ n
    longer = length-map back shown ∙ backs ∙ many

    before : map shown crew ≡ xs ++ zs
    before = ap (map shown) (sym (take-append-drop n crew) ∙ ap (λ ms. ms ++ drop n crew) (sym taken)) ∙ map_both shown members (drop n crew)

    after : map shown new ≡ ys ++ zs
    after = ap (map shown) news ∙ map_both shown back (drop n crew)
