-- An order follows where each of its tasks may follow the tasks before it.
use Rattle.std.proofs.Common.{◌≡◌, ℕ, zero, suc, ◌+◌, ◌<◌, ◌||◌, ◌&&◌, Bool, true, false, nat_eq, nat_lt, List, [], ◌∷◌, ◌++◌, length, take, get_or, refl, ap, subst, ◌∙◌, arith, eqb-true}
use Rattle.std.specs.Prelude.{not}
use Rattle.std.specs.List.{list_all}
use Rattle.std.proofs.lemmas.Bool.{ltb-true, lt-ltb}
use Rattle.plan_core.specs.declared.plan.Plan.{Plan}
use Rattle.plan_core.specs.Numbers.{has}
use Rattle.plan_core.specs.Words.{count_tasks, parents}
use Rattle.storage_simulation.specs.declared.standing.Phase.{Phase}
use Rattle.storage_simulation.specs.Standings.{waits}
use Rattle.storage_simulation.specs.code.Following.{AreMarked, Follows, is_marked, may_come, may_follow}
use Rattle.storage_simulation.specs.Following.{AreOnce, IsReady, is_ready, once}

-- booleans
pub or_left : (a b : Bool) → a ≡ true → (a || b) ≡ true
or_left true b h = refl
or_left false b h = absurd cc

pub or_right : (a b : Bool) → b ≡ true → (a || b) ≡ true
or_right true b h = refl
or_right false b h = h

pub or_case : {P : Type 0} (a b : Bool) → (a || b) ≡ true → (a ≡ true → P) → (b ≡ true → P) → P
or_case true b h f g = f refl
or_case false b h f g = g h

pub by_bool : {P : Type 0} (a : Bool) → (a ≡ true → P) → (a ≡ false → P) → P
by_bool true f g = f refl
by_bool false f g = g refl

pub both : (a b : Bool) → (a && b) ≡ true → (a ≡ true) × (b ≡ true)
both true b m = (refl, m)
both false b m = absurd cc

pub un_not : (a : Bool) → not a ≡ true → a ≡ false
un_not true h = absurd cc
un_not false h = refl

pub not_of : (b : Bool) → b ≡ false → not b ≡ true
not_of true h = absurd cc
not_of false h = refl

pub false_of : (b : Bool) → (b ≡ true → ⊥) → b ≡ false
false_of true f = absurd (f refl)
false_of false f = refl

pub or_false_right : (a b : Bool) → (a || b) ≡ false → b ≡ false
or_false_right true b h = absurd cc
or_false_right false b h = h

pub is_itself : (n : ℕ) → nat_eq n n ≡ true
is_itself n = grind arith

-- lists of numbers
pub has_head : (t : ℕ) (ts : List ℕ) → has (t ∷ ts) t ≡ true
has_head t ts = or_left (nat_eq t t) (has ts t) (is_itself t)

pub all_have : (test : ℕ → Bool) (xs : List ℕ) → list_all test xs ≡ true → (u : ℕ) → has xs u ≡ true → test u ≡ true
all_have test [] h u k = absurd cc
all_have test (x ∷ xs) h u k = let parts = both (test x) (list_all test xs) h in or_case (nat_eq x u) (has xs u) k (λ e. subst (λ (y : ℕ). test y ≡ true) (eqb-true x u e) parts.0) (all_have test xs parts.1 u)

pub have_both : (a b : Bool) → a ≡ true → b ≡ true → (a && b) ≡ true
have_both true b m n = n
have_both false b m n = absurd cc

pub have_all : (test : ℕ → Bool) (xs : List ℕ) → ((u : ℕ) → has xs u ≡ true → test u ≡ true) → list_all test xs ≡ true
have_all test [] h = refl
have_all test (x ∷ xs) h = have_both (test x) (list_all test xs) (h x (has_head x xs)) (have_all test xs (λ u k. h u (or_right (nat_eq x u) (has xs u) k)))

pub once_parts : (t : ℕ) (ts : List ℕ) → AreOnce (t ∷ ts) → (has ts t ≡ false) × AreOnce ts
once_parts t ts h = parts (has ts t) (once ts) h
  where
    parts : (a b : Bool) → (not a && b) ≡ true → (a ≡ false) × (b ≡ true)
    parts true b k = absurd cc
    parts false b k = (refl, k)

pub once_more : (t : ℕ) (ts : List ℕ) → has ts t ≡ false → AreOnce ts → AreOnce (t ∷ ts)
once_more t ts h k = have_both (not (has ts t)) (once ts) (not_of (has ts t) h) k

-- what stands in a list has a place there
pub place_of : (xs : List ℕ) (t : ℕ) → has xs t ≡ true → (k : ℕ) × (k < length xs) × (get_or xs k 0 ≡ t)
place_of [] t h = absurd cc
place_of (x ∷ xs) t h = or_case (nat_eq x t) (has xs t) h (λ e. (0, omega arith, eqb-true x t e)) (λ m. let l = place_of xs t m in (suc l.0, (let a = l.1 in omega arith), l.2))

pub at_place : (xs : List ℕ) (k : ℕ) → k < length xs → has xs (get_or xs k 0) ≡ true
at_place [] k l = absurd (omega arith)
at_place (x ∷ xs) zero l = has_head x xs
at_place (x ∷ xs) (suc k) l = or_right (nat_eq x (get_or xs k 0)) (has xs (get_or xs k 0)) (at_place xs k (omega arith))

-- each once, by places
pub once_of : (xs : List ℕ) → ((k : ℕ) → k < length xs → has (take k xs) (get_or xs k 0) ≡ false) → AreOnce xs
once_of [] h = refl
once_of (x ∷ xs) h = once_more x xs (false_of (has xs x) absent) (once_of xs (λ k l. or_false_right (nat_eq x (get_or xs k 0)) (has (take k xs) (get_or xs k 0)) (h (suc k) (omega arith))))
  where
    absent : has xs x ≡ true → ⊥
    absent m =
        let at = place_of xs x m in
        let no : (nat_eq x (get_or xs at.0 0) || has (take at.0 xs) (get_or xs at.0 0)) ≡ false = h (suc at.0) (let a = at.1 in omega arith) in
        let yes : nat_eq x (get_or xs at.0 0) ≡ true = ap (nat_eq x) at.2 ∙ is_itself x in
        let both_ways = or_left (nat_eq x (get_or xs at.0 0)) (has (take at.0 xs) (get_or xs at.0 0)) yes in
        absurd cc

pub once_at : (xs : List ℕ) (k : ℕ) → AreOnce xs → k < length xs → has (take k xs) (get_or xs k 0) ≡ false
once_at [] k o l = absurd (omega arith)
once_at (x ∷ xs) zero o l = refl
once_at (x ∷ xs) (suc k) o l = neither (nat_eq x (get_or xs k 0)) (has (take k xs) (get_or xs k 0)) head (once_at xs k (once_parts x xs o).1 (omega arith))
  where
    neither : (a b : Bool) → a ≡ false → b ≡ false → (a || b) ≡ false
    neither true b m n = absurd cc
    neither false b m n = n

    head : nat_eq x (get_or xs k 0) ≡ false
    head = false_of (nat_eq x (get_or xs k 0)) (λ e. let there : has xs x ≡ true = ap (has xs) (eqb-true x (get_or xs k 0) e) ∙ at_place xs k (omega arith) in let off = (once_parts x xs o).0 in absurd cc)

-- one more of a front
pub take_more : (xs : List ℕ) (k : ℕ) → k < length xs → take (suc k) xs ≡ take k xs ++ get_or xs k 0 ∷ []
take_more [] k l = absurd (omega arith)
take_more (x ∷ xs) zero l = refl
take_more (x ∷ xs) (suc k) l = ap (λ (ys : List ℕ). x ∷ ys) (take_more xs k (omega arith))

pub front_more : (xs : List ℕ) (k : ℕ) → k < length xs → take (k + 1) xs ≡ take k xs ++ get_or xs k 0 ∷ []
front_more xs k l = ap (λ (n : ℕ). take n xs) (let e : k + 1 ≡ suc k = omega arith in e) ∙ take_more xs k l

-- parents, as a test
pub ready_of : (p : Plan) (phase : ℕ → Phase) (front : List ℕ) (t : ℕ) → is_ready p phase front t ≡ true → IsReady p phase front t
ready_of p phase front t h u m w = by_waits (waits (phase u)) (has front u) w (all_have (λ v. not (waits (phase v)) || has front v) (parents p t) h u m)
  where
    by_waits : (a b : Bool) → a ≡ true → (not a || b) ≡ true → b ≡ true
    by_waits true b e k = k
    by_waits false b e k = absurd cc

of_ready : (p : Plan) (phase : ℕ → Phase) (front : List ℕ) (t : ℕ) → IsReady p phase front t → is_ready p phase front t ≡ true
of_ready p phase front t h = have_all (λ u. not (waits (phase u)) || has front u) (parents p t) (λ u m. by_waits (waits (phase u)) (has front u) (h u m))
  where
    by_waits : (a b : Bool) → (a ≡ true → b ≡ true) → (not a || b) ≡ true
    by_waits true b f = f refl
    by_waits false b f = refl

pub follows_of : (p : Plan) (phase : ℕ → Phase) (order : List ℕ) → ((k : ℕ) → k < length order → may_follow p phase (take k order) (get_or order k 0) ≡ true) → Follows p phase order
follows_of p phase order h = record {
  tasks = λ t m. let at = place_of order t m in subst (λ (x : ℕ). x < count_tasks p) at.2 (ltb-true (get_or order at.0 0) (count_tasks p) (first at.0 at.1).0);
  waiting = λ t m. let at = place_of order t m in subst (λ (x : ℕ). waits (phase x) ≡ true) at.2 (second at.0 at.1).0;
  once = once_of order (λ k l. un_not (has (take k order) (get_or order k 0)) (third k l).0);
  ready = λ k l. ready_of p phase (take k order) (get_or order k 0) (third k l).1;
}
  where
    first : (k : ℕ) → k < length order → (nat_lt (get_or order k 0) (count_tasks p) ≡ true) × ((waits (phase (get_or order k 0)) && (not (has (take k order) (get_or order k 0)) && is_ready p phase (take k order) (get_or order k 0))) ≡ true)
    first k l = both (nat_lt (get_or order k 0) (count_tasks p)) (waits (phase (get_or order k 0)) && (not (has (take k order) (get_or order k 0)) && is_ready p phase (take k order) (get_or order k 0))) (h k l)

    second : (k : ℕ) → k < length order → (waits (phase (get_or order k 0)) ≡ true) × ((not (has (take k order) (get_or order k 0)) && is_ready p phase (take k order) (get_or order k 0)) ≡ true)
    second k l = both (waits (phase (get_or order k 0))) (not (has (take k order) (get_or order k 0)) && is_ready p phase (take k order) (get_or order k 0)) (first k l).1

    third : (k : ℕ) → k < length order → (not (has (take k order) (get_or order k 0)) ≡ true) × (is_ready p phase (take k order) (get_or order k 0) ≡ true)
    third k l = both (not (has (take k order) (get_or order k 0))) (is_ready p phase (take k order) (get_or order k 0)) (second k l).1

pub follow_at : (p : Plan) (phase : ℕ → Phase) (order : List ℕ) (k : ℕ) → k < length order → Follows p phase order → may_follow p phase (take k order) (get_or order k 0) ≡ true
follow_at p phase order k l f =
    have_both (nat_lt (get_or order k 0) (count_tasks p)) (waits (phase (get_or order k 0)) && (not (has (take k order) (get_or order k 0)) && is_ready p phase (take k order) (get_or order k 0))) (lt-ltb (get_or order k 0) (count_tasks p) (f.tasks (get_or order k 0) (at_place order k l)))
    (have_both (waits (phase (get_or order k 0))) (not (has (take k order) (get_or order k 0)) && is_ready p phase (take k order) (get_or order k 0)) (f.waiting (get_or order k 0) (at_place order k l))
    (have_both (not (has (take k order) (get_or order k 0))) (is_ready p phase (take k order) (get_or order k 0)) (not_of (has (take k order) (get_or order k 0)) (once_at order k f.once l)) (of_ready p phase (take k order) (get_or order k 0) (f.ready k l))))

-- with marks in place of the front
all_same : (v w : ℕ → Bool) (xs : List ℕ) → ((u : ℕ) → v u ≡ w u) → list_all v xs ≡ list_all w xs
all_same v w [] h = refl
all_same v w (x ∷ xs) h = ap (λ (b : Bool). b && list_all v xs) (h x) ∙ ap (λ (b : Bool). w x && b) (all_same v w xs h)

pub come_is_follow : (p : Plan) (phase : ℕ → Phase) (marks : List Bool) (front : List ℕ) (t : ℕ) → AreMarked marks front → may_come p phase marks t ≡ may_follow p phase front t
come_is_follow p phase marks front t h =
    ap (λ (b : Bool). nat_lt t (count_tasks p) && (waits (phase t) && (not b && list_all (λ u. not (waits (phase u)) || is_marked marks u) (parents p t)))) (h t)
    ∙ ap (λ (b : Bool). nat_lt t (count_tasks p) && (waits (phase t) && (not (has front t) && b))) (all_same (λ u. not (waits (phase u)) || is_marked marks u) (λ u. not (waits (phase u)) || has front u) (parents p t) (λ u. ap (λ (b : Bool). not (waits (phase u)) || b) (h u)))
