-- How often tools are run, from entry to entry.
use Rattle.std.proofs.Common.{◌≡◌, ℕ, ◌+◌, ◌≤◌, Bool, true, false, cond, eqb, eqb-true, eq-eqb, List, [], ◌∷◌, ◌++◌, refl, sym, ap, subst, ◌∙◌, arith}
use Rattle.std.specs.Prelude.{Option, Some, None, Result, Ok, Err}
use Rattle.values.specs.declared.memory.Memory.{Memory}
use Rattle.plan_core.specs.declared.plan.Plan.{Plan}
use Rattle.run_record.specs.Events.{Event, Grant, Arrive, End, Clean, Fail, Again, Regrant}
use Rattle.lease_rules.specs.code.Owning.{entries_by}
use Rattle.lease_rules.specs.Owning.{worker}
use Rattle.site_yard.specs.declared.chronicle.Charter.{Charter}
use Rattle.worker_gate.specs.code.Runs.{OwnRunsWithin, RunsTask, RunsWithin, job_count, tool_runs, tool_runs_of}
use Rattle.worker_gate.specs.code.Tending.{IsLast}
use Rattle.worker_gate.specs.code.Turning.{IsPlanOf, plan_of}
use Rattle.worker_gate.proofs.StateLemmas.{same_number}

pub no_runs : (p : Plan) (w : ℕ) → tool_runs p w [] ≡ 0
unfolding tool_runs
no_runs p w = refl

pub one_entry_runs : (p : Plan) (w : ℕ) (e : Event) → tool_runs p w (e ∷ []) ≡ tool_runs_of p w e
unfolding tool_runs
one_entry_runs p w e = omega arith

pub runs_append : (p : Plan) (w : ℕ) (r s : List Event) → tool_runs p w (r ++ s) ≡ tool_runs p w r + tool_runs p w s
unfolding tool_runs
runs_append p w [] s = omega arith
runs_append p w (e ∷ r) s = let rest = runs_append p w r s in omega (arith, rest)

-- the tool wasn't run
pub runs_still : (p : Plan) (w : ℕ) (r after added : List Event) (x : ℕ) → after ≡ r ++ added → RunsWithin p w r after x x
runs_still p w r after added x is = let e : tool_runs p w after ≡ tool_runs p w r + tool_runs p w added = ap (tool_runs p w) is ∙ runs_append p w r added in omega (arith, e)

pub runs_same : (p : Plan) (w : ℕ) (r after : List Event) (x : ℕ) → after ≡ r → RunsWithin p w r after x x
runs_same p w r after x is = let e : tool_runs p w after ≡ tool_runs p w r = ap (tool_runs p w) is in omega (arith, e)

pub runs_both : (p : Plan) (w : ℕ) (a b c : List Event) (x y z : ℕ) → RunsWithin p w a b x y → RunsWithin p w b c y z → RunsWithin p w a c x z
runs_both p w a b c x y z first second = omega (arith, first, second)

-- an entry that ends an attempt has the task's jobs
counted : (p : Plan) (w v t u : ℕ) → v ≡ w → u ≡ t → cond (eqb w v) (job_count p u) 0 ≡ job_count p t
counted p w v t u a b =
    ap (λ (k : ℕ). cond (eqb w k) (job_count p u) 0) a
    ∙ ap (λ (x : Bool). cond x (job_count p u) 0) (same_number w)
    ∙ ap (job_count p) b

last_runs : (p : Plan) (w t : ℕ) (e : Event) → IsLast w t e → tool_runs_of p w e ≡ job_count p t
last_runs p w t (Grant v u) h = absurd h
last_runs p w t (Regrant v u) h = absurd h
last_runs p w t (Arrive v u n) h = counted p w v t u h.0 h.1
last_runs p w t (End v u ns) h = counted p w v t u h.0 h.1
last_runs p w t (Clean v u) h = counted p w v t u h.0 h.1
last_runs p w t (Fail v u c ns) h = counted p w v t u h.0 h.1
last_runs p w t (Again v u c ns) h = counted p w v t u h.0 h.1

pub last_within : (p : Plan) (w t : ℕ) (r after : List Event) (e : Event) (x y : ℕ) → after ≡ r ++ e ∷ [] → IsLast w t e → y ≤ x + job_count p t → RunsWithin p w r after x y
last_within p w t r after e x y is last few =
    let all : tool_runs p w after ≡ tool_runs p w r + tool_runs p w (e ∷ []) = ap (tool_runs p w) is ∙ runs_append p w r (e ∷ []) in
    let one : tool_runs p w (e ∷ []) ≡ job_count p t = one_entry_runs p w e ∙ last_runs p w t e last in
    omega (arith, all, one, few)

-- where the charter is known
pub own_runs_both : (g h : Option Charter) (w v : ℕ) (m0 m1 m2 : List Event) (x y z : ℕ) → h ≡ g → v ≡ w → OwnRunsWithin g w m0 m1 x y → OwnRunsWithin h v m1 m2 y z → OwnRunsWithin g w m0 m2 x z
own_runs_both g h w v m0 m1 m2 x y z same number a b = by g a (subst (λ (n : ℕ). OwnRunsWithin g n m1 m2 y z) number (subst (λ (k : Option Charter). OwnRunsWithin k v m1 m2 y z) same b))
  where
    by : (k : Option Charter) → OwnRunsWithin k w m0 m1 x y → OwnRunsWithin k w m1 m2 y z → OwnRunsWithin k w m0 m2 x z
    by None u u2 = tt
    by (Some c) u u2 = runs_both (plan_of c) w m0 m1 m2 x y z u u2

pub own_runs_still : (g : Option Charter) (w : ℕ) (m m1 added : List Event) (x : ℕ) → m1 ≡ m ++ added → OwnRunsWithin g w m m1 x x
own_runs_still None w m m1 added x is = tt
own_runs_still (Some c) w m m1 added x is = runs_still (plan_of c) w m m1 added x is

pub own_runs_same : (g : Option Charter) (w : ℕ) (m m1 : List Event) (x : ℕ) → m1 ≡ m → OwnRunsWithin g w m m1 x x
own_runs_same None w m m1 x is = tt
own_runs_same (Some c) w m m1 x is = runs_same (plan_of c) w m m1 x is

-- before a lease, in which the tool isn't run
pub leased_runs : (g h : Option Charter) (w v : ℕ) (m0 m1 m2 added : List Event) (x y : ℕ) → h ≡ g → v ≡ w → OwnRunsWithin g w m0 m1 x y → m2 ≡ m1 ++ added → OwnRunsWithin g w m0 m2 x y
leased_runs g h w v m0 m1 m2 added x y same number a is = own_runs_both g h w v m0 m1 m2 x y y same number a (own_runs_still h v m1 m2 added y is)

-- a task was done by a copy of the plan, v being the worker's number still, and m its entries
pub own_runs_task : (g : Option Charter) (plan : Result Plan Memory) (w v t : ℕ) (mine m after : List Event) (e : Event) (x y : ℕ) → IsPlanOf g plan → v ≡ w → m ≡ mine → after ≡ m ++ e ∷ [] → IsLast v t e → RunsTask plan t x y → OwnRunsWithin g w mine after x y
own_runs_task None plan w v t mine m after e x y of number same is last ran = tt
own_runs_task (Some c) (Ok p) w v t mine m after e x y of number same is last ran =
    last_within (plan_of c) w t mine after e x y (is ∙ ap (λ (l : List Event). l ++ e ∷ []) same) (subst (λ (n : ℕ). IsLast n t e) number last) (subst (λ (q : Plan). y ≤ x + job_count q t) of ran)
own_runs_task (Some c) (Err refused) w v t mine m after e x y of number same is last ran =
    last_within (plan_of c) w t mine after e x y (is ∙ ap (λ (l : List Event). l ++ e ∷ []) same) (subst (λ (n : ℕ). IsLast n t e) number last) (omega (arith, ran))

-- entries of other workers
others_zero : (p : Plan) (w v t : ℕ) → eqb v w ≡ false → cond (eqb w v) (job_count p t) 0 ≡ 0
others_zero p w v t off = by (eqb w v) refl
  where
    by : (b : Bool) → eqb w v ≡ b → cond b (job_count p t) 0 ≡ 0
    by false is = refl
    by true is = absurd (let k : true ≡ false = sym (eq-eqb v w (sym (eqb-true w v is))) ∙ off in cc)

runs_where : (p : Plan) (w : ℕ) (e : Event) → eqb (worker e) w ≡ false → tool_runs_of p w e ≡ 0
runs_where p w (Grant v t) off = refl
runs_where p w (Regrant v t) off = refl
runs_where p w (Arrive v t n) off = others_zero p w v t off
runs_where p w (End v t ns) off = others_zero p w v t off
runs_where p w (Clean v t) off = others_zero p w v t off
runs_where p w (Fail v t c ns) off = others_zero p w v t off
runs_where p w (Again v t c ns) off = others_zero p w v t off

pub runs_own : (p : Plan) (k : ℕ) (r : List Event) → tool_runs p k r ≡ tool_runs p k (entries_by k r)
unfolding tool_runs
runs_own p k [] = refl
runs_own p k (e ∷ r) = by_worker (eqb (worker e) k) refl (runs_own p k r)
  where
    by_worker : (b : Bool) → eqb (worker e) k ≡ b → tool_runs p k r ≡ tool_runs p k (entries_by k r) → tool_runs_of p k e + tool_runs p k r ≡ tool_runs p k (cond b (e ∷ entries_by k r) (entries_by k r))
    by_worker true is rest = omega (arith, rest)
    by_worker false is rest = let none = runs_where p k e is in omega (arith, rest, none)
