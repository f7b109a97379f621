-- From one entry of a replay to the next.
use Rattle.std.proofs.Common.{◌≡◌, ℕ, ◌+◌, Bool, true, false, cond, not, List, [], ◌∷◌, ◌++◌, length, take, refl, sym, ap, subst, ◌∙◌}
use Rattle.std.specs.Prelude.{Some, slice_get, Vec}
use Rattle.std.specs.declared.alloc.Global.{Global}
use Rattle.values.specs.declared.numbers.TaskId.{TaskId}
use Rattle.plan_core.specs.declared.plan.Plan.{Plan}
use Rattle.plan_core.specs.Words.{task_numbers}
use Rattle.storage_simulation.specs.declared.standing.Phase.TheVariants.{Runs, Waits}
use Rattle.run_record.specs.Events.{Event}
use Rattle.lease_book.specs.declared.book.Book.{Book}
use Rattle.lease_book.specs.Book.{state_at}
use Rattle.lease_rules.specs.code.Law.{FitsFromStart}
use Rattle.lease_rules.specs.Legal.{Allowed, Legal, LegalFrom}
use Rattle.lease_rules.specs.code.Reading.{is_fail}
use Rattle.lease_rules.specs.State.{State, after, now, now_from, opened}
use Rattle.record_audit.proofs.LawLemmas.{legal_take, take_all, take_next, take_none}
use Rattle.resume_run.specs.Lost.{HaveFewWorkers}
use Rattle.resume_run.specs.Replaying.{HasFollowed, without_fails}
use Rattle.resume_run.proofs.FailsLemmas.{legal_without}
use Rattle.resume_run.proofs.LostLemmas.{few_from}

-- ---- lists

filter_append : (xs ys : List Event) → without_fails (xs ++ ys) ≡ without_fails xs ++ without_fails ys
filter_append [] ys = refl
filter_append (x ∷ xs) ys = by_test (not (is_fail x)) (filter_append xs ys)
  where
    by_test : (b : Bool) → without_fails (xs ++ ys) ≡ without_fails xs ++ without_fails ys → cond b (x ∷ without_fails (xs ++ ys)) (without_fails (xs ++ ys)) ≡ cond b (x ∷ without_fails xs) (without_fails xs) ++ without_fails ys
    by_test true rest = ap (λ l. x ∷ l) rest
    by_test false rest = rest

nothing : (xs : List Event) → xs ++ [] ≡ xs
nothing [] = refl
nothing (x ∷ xs) = ap (λ l. x ∷ l) (nothing xs)

skipped : (r : List Event) (k : ℕ) (e : Event) → slice_get r k ≡ Some e → is_fail e ≡ true → without_fails (take k r) ≡ without_fails (take (k + 1) r)
skipped r k e at fails =
    sym (ap without_fails (take_next r k e at) ∙ filter_append (take k r) (e ∷ []) ∙ ap (λ b. without_fails (take k r) ++ cond (not b) (e ∷ []) []) fails ∙ nothing (without_fails (take k r)))

one_more : (r : List Event) (k : ℕ) (e : Event) → slice_get r k ≡ Some e → is_fail e ≡ false → without_fails (take k r) ++ e ∷ [] ≡ without_fails (take (k + 1) r)
one_more r k e at stays =
    sym (ap without_fails (take_next r k e at) ∙ filter_append (take k r) (e ∷ []) ∙ ap (λ b. without_fails (take k r) ++ cond (not b) (e ∷ []) []) stays)

-- ---- the book

followed_state : (p : Plan) (order : List ℕ) (r : List Event) (b : Book) → HasFollowed p order r b → state_at b ≡ now p order r
followed_state p order r b has =
    ap (λ (q : Plan). now q (task_numbers b.order.items) b.history.events) has.plan
    ∙ ap (λ (os : List ℕ). now p os b.history.events) has.order_is
    ∙ ap (now p order) has.history

pub follows_first : (p : Plan) (order : List ℕ) (r : List Event) (b : Book) → b.plan ≡ p → task_numbers b.order.items ≡ order → b.history.events ≡ [] → HasFollowed p order (without_fails (take 0 r)) b
follows_first p order r b plan order_is history = record { plan = plan; order_is = order_is; history = history ∙ sym (ap without_fails (take_none r)) }

pub follows_skip : (p : Plan) (order : List ℕ) (r : List Event) (k : ℕ) (e : Event) (b : Book) → slice_get r k ≡ Some e → is_fail e ≡ true → HasFollowed p order (without_fails (take k r)) b → HasFollowed p order (without_fails (take (k + 1) r)) b
follows_skip p order r k e b at fails has = subst (λ l. HasFollowed p order l b) (skipped r k e at fails) has

pub follows_next : (p : Plan) (order : List ℕ) (r : List Event) (k : ℕ) (e : Event) (b c : Book) → slice_get r k ≡ Some e → is_fail e ≡ false → HasFollowed p order (without_fails (take k r)) b → c.history.events ≡ b.history.events ++ e ∷ [] → c.plan ≡ b.plan → c.order ≡ b.order
    → HasFollowed p order (without_fails (take (k + 1) r)) c
follows_next p order r k e b c at stays has added same_plan same_order = record {
  plan = same_plan ∙ has.plan;
  order_is = ap (λ (v : Vec TaskId Global). task_numbers v.items) same_order ∙ has.order_is;
  history = added ∙ ap (λ l. l ++ e ∷ []) has.history ∙ one_more r k e at stays;
}

pub follows_all : (p : Plan) (order : List ℕ) (r : List Event) (k : ℕ) (b : Book) → k ≡ length r → HasFollowed p order (without_fails (take k r)) b → HasFollowed p order (without_fails r) b
follows_all p order r k b end has = subst (λ l. HasFollowed p order (without_fails l) b) (ap (λ n. take n r) end ∙ take_all r) has

last_allowed : (p : Plan) (s : State) (r : List Event) (e : Event) → LegalFrom p s (r ++ e ∷ []) → Allowed p (now_from p s r) e
last_allowed p s [] e legal = legal.0
last_allowed p s (f ∷ r) e legal = last_allowed p (after p s f) r e legal.1

-- what comes next is allowed
pub follows_allowed : (p : Plan) (order : List ℕ) (r : List Event) (k : ℕ) (e : Event) (b : Book) → slice_get r k ≡ Some e → is_fail e ≡ false → Legal p order r → HasFollowed p order (without_fails (take k r)) b → Allowed b.plan (state_at b) e
follows_allowed p order r k e b at stays legal has =
    let whole : Legal p order (without_fails (take k r) ++ e ∷ []) = subst (Legal p order) (sym (one_more r k e at stays)) (legal_without p order (take (k + 1) r) (legal_take p (opened order) r (k + 1) legal)) in
    subst (λ (q : Plan). Allowed q (state_at b) e) (sym has.plan)
    (subst (λ (s : State). Allowed p s e) (sym (followed_state p order (without_fails (take k r)) b has))
    (last_allowed p (opened order) (without_fails (take k r)) e whole))

pub follows_fits : (p : Plan) (order : List ℕ) (r : List Event) (b : Book) → FitsFromStart p order → HasFollowed p order r b → FitsFromStart p (task_numbers b.order.items)
follows_fits p order r b fits has = subst (FitsFromStart p) (sym has.order_is) fits

pub follows_few : (p : Plan) (order : List ℕ) (r : List Event) (b : Book) → Legal p order r → HasFollowed p order (without_fails r) b → HaveFewWorkers (state_at b)
follows_few p order r b legal has =
    subst HaveFewWorkers (sym (followed_state p order (without_fails r) b has))
    (few_from p (opened order) (without_fails r) (λ t run. (let e : Waits ≡ Runs = run in absurd cc)) (legal_without p order r legal))
