-- How many parents of a task haven't ended.
use Rattle.std.proofs.Common.{◌≡◌, ℕ, ◌+◌, ◌||◌, Bool, true, false, cond, nat_eq, List, [], ◌∷◌, get_or, refl, sym, ap, ◌∙◌, arith, eqb-true}
use Rattle.place_peaks.proofs.Offered.{once_parts, or_case, or_left, or_right}
use Rattle.lease_rules.specs.Choice.{HaveParentsEnded}
use Rattle.lease_rules.specs.State.{State, ended, put}
use Rattle.plan_core.specs.declared.plan.Plan.{Plan}
use Rattle.plan_core.specs.Numbers.{has}
use Rattle.plan_core.specs.Words.{parents}
use Rattle.storage_simulation.specs.declared.standing.Phase.{Phase}
use Rattle.storage_simulation.specs.declared.standing.Phase.TheVariants.{Ended, Runs, Waits}
use Rattle.storage_simulation.specs.Following.{AreOnce}
use Rattle.storage_simulation.specs.Standings.{waits}
use Rattle.storage_simulation.specs.Usage.{sum_of}
use Rattle.place_peaks.specs.declared.peaks.Peaks.{Peaks}
use Rattle.place_peaks.specs.Peaks.{AreBehind}

abbrev if_open : Bool → ℕ
if_open b = cond b 0 1

abbrev if_so : Bool → ℕ
if_so b = cond b 1 0

abbrev pub open_one : (ℕ → Phase) → ℕ → ℕ
open_one f u = cond (ended (f u)) 0 1

sum_none : (f : ℕ → Phase) (us : List ℕ) → sum_of (open_one f) us ≡ 0 → (u : ℕ) → has us u ≡ true → ended (f u) ≡ true
sum_none f [] e u m = absurd cc
sum_none f (x ∷ xs) e u m = or_case (nat_eq x u) (has xs u) m
    (λ at. ap (λ (n : ℕ). ended (f n)) (sym (eqb-true x u at)) ∙ by (ended (f x)) (omega (arith, e)))
    (λ n. sum_none f xs (omega (arith, e)) u n)
  where
    by : (b : Bool) → if_open b ≡ 0 → b ≡ true
    by true h = refl
    by false h = absurd (omega (arith, h))

none_sum : (f : ℕ → Phase) (us : List ℕ) → ((u : ℕ) → has us u ≡ true → ended (f u) ≡ true) → sum_of (open_one f) us ≡ 0
none_sum f [] h = refl
none_sum f (x ∷ xs) h =
    let here : if_open (ended (f x)) ≡ 0 = ap if_open (h x (or_left (nat_eq x x) (has xs x) (let e : nat_eq x x ≡ true = grind arith in e))) in
    let rest = none_sum f xs (λ u m. h u (or_right (nat_eq x u) (has xs u) m)) in omega (arith, here, rest)

pub none_open : (p : Plan) (s : State) (b : Peaks) (front : List ℕ) → AreBehind p s b front → (t : ℕ) → has s.rest t ≡ true → get_or b.missing.items t 1 ≡ 0 → HaveParentsEnded p s t
none_open p s b front peaks t m e = sum_none s.phase (parents p t) (sym (peaks.counts t (peaks.sound.safe.tasks t m)) ∙ e)

pub open_none : (p : Plan) (s : State) (b : Peaks) (front : List ℕ) → AreBehind p s b front → (t : ℕ) → has s.rest t ≡ true → HaveParentsEnded p s t → get_or b.missing.items t 1 ≡ 0
open_none p s b front peaks t m ended_all = peaks.counts t (peaks.sound.safe.tasks t m) ∙ none_sum s.phase (parents p t) ended_all

-- a task that waited runs
pub sum_map : (v w : ℕ → ℕ) (us : List ℕ) → ((u : ℕ) → v u ≡ w u) → sum_of v us ≡ sum_of w us
sum_map v w [] h = refl
sum_map v w (x ∷ xs) h = let a = h x in let b = sum_map v w xs h in omega (arith, a, b)

pub counts_run : (f : ℕ → Phase) (t : ℕ) (us : List ℕ) → waits (f t) ≡ true → sum_of (open_one f) us ≡ sum_of (open_one (put f t Runs)) us
counts_run f t us w = sum_map (open_one f) (open_one (put f t Runs)) us (λ u. by u (nat_eq t u) refl)
  where
    one : (x : Phase) → waits x ≡ true → if_open (ended x) ≡ 1
    one Waits h = refl
    one Runs h = absurd cc
    one Ended h = absurd cc

    by : (u : ℕ) (b : Bool) → nat_eq t u ≡ b → open_one f u ≡ if_open (ended (cond b Runs (f u)))
    by u true e = one (f u) (ap (λ (n : ℕ). waits (f n)) (sym (eqb-true t u e)) ∙ w)
    by u false e = refl

-- a task that waited, or ran, has ended
pub still_open : (x : Phase) → waits x ≡ true → ended x ≡ false
still_open Waits h = refl
still_open Runs h = absurd cc
still_open Ended h = absurd cc

pub counts_end : (f : ℕ → Phase) (t : ℕ) (us : List ℕ) → AreOnce us → ended (f t) ≡ false → sum_of (open_one (put f t Ended)) us + cond (has us t) 1 0 ≡ sum_of (open_one f) us
counts_end f t [] o w = refl
counts_end f t (x ∷ xs) o w = let parts = once_parts x xs o in let rest = counts_end f t xs parts.1 w in by (nat_eq t x) refl parts.0 rest
  where
    one : (z : Phase) → ended z ≡ false → if_open (ended z) ≡ 1
    one z h = ap if_open h

    other : (b c : Bool) → b ≡ false → if_so (b || c) ≡ if_so c
    other true c e = absurd cc
    other false c e = refl

    mine : (b c : Bool) → b ≡ true → if_so (b || c) ≡ 1
    mine true c e = refl
    mine false c e = absurd cc

    by : (b : Bool) → nat_eq t x ≡ b → has xs x ≡ false → sum_of (open_one (put f t Ended)) xs + cond (has xs t) 1 0 ≡ sum_of (open_one f) xs
        → if_open (ended (cond b Ended (f x))) + sum_of (open_one (put f t Ended)) xs + if_so (nat_eq x t || has xs t) ≡ if_open (ended (f x)) + sum_of (open_one f) xs
    by true e off rest =
        let same : t ≡ x = eqb-true t x e in
        let gone : if_so (has xs t) ≡ 0 = ap if_so (ap (has xs) same ∙ off) in
        let it = mine (nat_eq x t) (has xs t) (let k : nat_eq x t ≡ true = grind (arith, same) in k) in
        let was = one (f x) (ap (λ (n : ℕ). ended (f n)) (sym same) ∙ w) in
        omega (arith, rest, gone, it, was)
    by false e off rest =
        let it = other (nat_eq x t) (has xs t) (let k : nat_eq x t ≡ false = grind (arith, e) in k) in
        omega (arith, rest, it)
