-- What holds after every entry of a Legal record.
use Rattle.std.proofs.Common.{◌≡◌, ℕ, zero, suc, ◌+◌, ◌-◌, ◌*◌, ◌++◌, take, ◌^◌, ◌≤◌, ◌||◌, ◌&&◌, Bool, true, false, cond, eqb, List, [], ◌∷◌, length, get_or, refl, sym, ap, subst, ◌∙◌, arith}
use Rattle.std.specs.Prelude.{Option, Some, None, slice_get, sum_by}
use Rattle.std.specs.List.{list_any}
use Rattle.std.proofs.lemmas.List.Sums.{sum_by-append}
use Rattle.plan_core.specs.declared.plan.Pair.{Pair}
use Rattle.plan_core.specs.declared.plan.Plan.{Plan}
use Rattle.plan_core.specs.declared.plan.Target.TheVariants.{Delivery, Site}
use Rattle.plan_core.specs.declared.plan.TaskKind.{TaskKind}
use Rattle.plan_core.specs.declared.plan.TaskKind.TheVariants.{Transfer, Run, Clean}
use Rattle.plan_core.specs.Kinds.{kind_writes, writes_file}
use Rattle.plan_core.specs.Numbers.{has}
use Rattle.plan_core.specs.code.Proper.{IsProper}
use Rattle.plan_core.specs.Words.{count_pairs, count_tasks, is_run, is_run_kind, is_transfer, is_transfer_kind, kind, retries, task_numbers, writes}
use Rattle.plan_core.specs.code.Words.{is_pair, pair_at}
use Rattle.storage_simulation.specs.code.Goods.{IsWithinLimits}
use Rattle.storage_simulation.specs.Goods.{is_delivery, is_delivery_kind, makes}
use Rattle.run_record.specs.Events.{Event, Again, Arrive, Clean as Sweep, End, Fail, Grant, Regrant}
use Rattle.lease_rules.specs.code.Law.{FitsFromStart, IsConsistent, IsSoundState}
use Rattle.lease_rules.specs.Legal.{Allowed, AreDeclared, IsComplete, Legal, LegalFrom}
use Rattle.lease_rules.specs.code.Room.{entries_room}
use Rattle.lease_rules.specs.State.{State, after, now, now_from, opened}
use Rattle.std.specs.Prelude.{Vec}
use Rattle.std.specs.declared.alloc.Global.{Global}
use Rattle.values.specs.declared.numbers.TaskId.{TaskId}
use Rattle.lease_book.specs.Book.{state_at}
use Rattle.lease_book.specs.declared.book.Book.{Book}
use Rattle.record_audit.specs.Verdict.{IsIllegalAt, IsJudged}
use Rattle.record_audit.specs.declared.verdict.Verdict.{Verdict}
use Rattle.record_audit.specs.declared.verdict.Verdict.TheVariants as verdict
use Rattle.lease_rules.proofs.GoodsLemmas.{good_small}
use Rattle.lease_rules.proofs.TotalLemmas.{total_bound}
use Rattle.record_audit.specs.Holdings.{IsSized}
use Rattle.record_audit.specs.Sums.{arrived}
use Rattle.record_audit.proofs.HoldingsLemmas.{makes_writes}

-- ---- one entry after the other

pub now_more : (p : Plan) (s : State) (r : List Event) (e : Event) → now_from p s (r ++ e ∷ []) ≡ after p (now_from p s r) e
now_more p s [] e = refl
now_more p s (f ∷ r) e = now_more p (after p s f) r e

pub legal_more : (p : Plan) (s : State) (r : List Event) (e : Event) → LegalFrom p s r → Allowed p (now_from p s r) e → LegalFrom p s (r ++ e ∷ [])
legal_more p s [] e legal allowed = (allowed, tt)
legal_more p s (f ∷ r) e legal allowed = (legal.0, legal_more p (after p s f) r e legal.1 allowed)

-- what the entry after the first k of a Legal record is allowed
pub legal_at : (p : Plan) (s : State) (r : List Event) (k : ℕ) (e : Event) → LegalFrom p s r → slice_get r k ≡ Some e → Allowed p (now_from p s (take k r)) e
legal_at p s [] k e legal at = absurd cc
legal_at p s (f ∷ r) zero e legal at = let is : f ≡ e = cc in subst (Allowed p s) is legal.0
legal_at p s (f ∷ r) (suc k) e legal at = legal_at p (after p s f) r k e legal.1 at

pub take_next : (r : List Event) (k : ℕ) (e : Event) → slice_get r k ≡ Some e → take (k + 1) r ≡ take k r ++ e ∷ []
take_next [] k e at = absurd cc
take_next (f ∷ r) zero e at = let is : f ≡ e = cc in ap (λ (x : Event). x ∷ take zero r) is
take_next (f ∷ r) (suc k) e at = let one : suc k + 1 ≡ suc (k + 1) = omega arith in ap (λ (n : ℕ). take n (f ∷ r)) one ∙ ap (λ (l : List Event). f ∷ l) (take_next r k e at)

pub take_none : (r : List Event) → take 0 r ≡ []
take_none [] = refl
take_none (f ∷ r) = refl

pub take_all : (r : List Event) → take (length r) r ≡ r
take_all [] = refl
take_all (f ∷ r) = ap (λ (l : List Event). f ∷ l) (take_all r)

pub take_few : (r : List Event) (k : ℕ) → length (take k r) ≤ k
take_few [] zero = omega arith
take_few [] (suc k) = omega arith
take_few (f ∷ r) zero = omega arith
take_few (f ∷ r) (suc k) = let l = take_few r k in omega (arith, l)

pub legal_take : (p : Plan) (s : State) (r : List Event) (k : ℕ) → LegalFrom p s r → LegalFrom p s (take k r)
legal_take p s [] zero legal = tt
legal_take p s [] (suc k) legal = tt
legal_take p s (f ∷ r) zero legal = tt
legal_take p s (f ∷ r) (suc k) legal = (legal.0, legal_take p (after p s f) r k legal.1)

-- ---- consistent

abbrev pub KeepsConsistent : Type 0
KeepsConsistent = (p : Plan) (s : State) (e : Event) → IsProper p → IsConsistent p s → Allowed p s e → IsConsistent p (after p s e)

pub consistent_from : KeepsConsistent → (p : Plan) (s : State) (r : List Event) → IsProper p → IsConsistent p s → LegalFrom p s r → IsConsistent p (now_from p s r)
consistent_from keeps p s [] proper good legal = good
consistent_from keeps p s (e ∷ r) proper good legal = consistent_from keeps p (after p s e) r proper (keeps p s e proper good legal.0) legal.1

pub opened_consistent : (p : Plan) (order : List ℕ) → IsSoundState p (opened order) → IsConsistent p (opened order)
opened_consistent p order sound = record { sound = sound; failed_fails = λ t h. absurd cc; few_agains = λ t. omega arith }

-- ---- few

abbrev pub LeavesLess : Type 0
LeavesLess = (p : Plan) (s : State) (e : Event) → IsConsistent p s → Allowed p s e → entries_room p (after p s e) + 1 ≤ entries_room p s

short_from : KeepsConsistent → LeavesLess → (p : Plan) (s : State) (r : List Event) → IsProper p → IsConsistent p s → LegalFrom p s r → length r ≤ entries_room p s
short_from keeps less p s [] proper good legal = omega arith
short_from keeps less p s (e ∷ r) proper good legal =
    let rest = short_from keeps less p (after p s e) r proper (keeps p s e proper good legal.0) legal.1 in
    let one = less p s e good legal.0 in
    omega (arith, rest, one)

opened_room : (p : Plan) (order : List ℕ) → IsWithinLimits p → retries p ≤ 10 → entries_room p (opened order) ≤ 120000 * 22
opened_room p order limits few =
    let all = total_bound (λ t. 2 * (retries p - 0) + 2) 22 (count_tasks p) (λ t l. omega (arith, few)) in
    omega (arith, all, limits.tasks)

pub short : KeepsConsistent → LeavesLess → (p : Plan) (order : List ℕ) (r : List Event) → IsProper p → IsWithinLimits p → retries p ≤ 10 → IsSoundState p (opened order) → Legal p order r → length r ≤ 120000 * 22
short keeps less p order r proper limits few sound legal =
    let room = short_from keeps less p (opened order) r proper (opened_consistent p order sound) legal in
    let all = opened_room p order limits few in
    omega (arith, room, all)

-- ---- what arrives is small

found_pair : (xs : List Pair) (s f : ℕ) → list_any (λ (q : Pair). pair_at (Some q) s f) xs ≡ true → (k : ℕ) × (pair_at (slice_get xs k) s f ≡ true)
found_pair [] s f h = absurd cc
found_pair (x ∷ xs) s f h = by_first (pair_at (Some x) s f) refl h (found_pair xs s f)
  where
    by_first : (b : Bool) → pair_at (Some x) s f ≡ b → (b || list_any (λ (q : Pair). pair_at (Some q) s f) xs) ≡ true
        → (list_any (λ (q : Pair). pair_at (Some q) s f) xs ≡ true → (k : ℕ) × (pair_at (slice_get xs k) s f ≡ true)) → (k : ℕ) × (pair_at (slice_get (x ∷ xs) k) s f ≡ true)
    by_first true e m less = (0, e)
    by_first false e m less = let k = less m in (suc k.0, k.1)

abbrev pub ListsPairs : Type 0
ListsPairs = (p : Plan) → IsProper p → (t q s f : ℕ) → is_pair p q s f ≡ true → has (writes p t) q ≡ writes_file p t s f

self_written : (s f : ℕ) → (eqb s s && eqb f f) ≡ true
self_written s f = let a : eqb s s ≡ true = grind arith in let b : eqb f f ≡ true = grind arith in cc

-- a Transfer makes some good
some_made : ListsPairs → (p : Plan) (t : ℕ) → IsProper p → is_transfer p t ≡ true → (g : ℕ) × (has (makes p t) g ≡ true)
unfolding makes is_delivery is_pair kind
some_made lists p t proper h = by_kind (kind p t) refl h
  where
    here : (n : ℕ) → (eqb n n || false) ≡ true
    here n = let a : eqb n n ≡ true = grind arith in cc

    by_kind : (o : Option TaskKind) → kind p t ≡ o → is_transfer_kind o ≡ true → (g : ℕ) × (has (cond (is_delivery_kind (kind p t)) ((count_pairs p + t) ∷ []) (writes p t)) g ≡ true)
    by_kind None e k = absurd cc
    by_kind (Some (Run s js)) e k = absurd cc
    by_kind (Some (Clean q)) e k = absurd cc
    by_kind (Some (Transfer f from Delivery)) e k =
        (count_pairs p + t, ap (λ (o : Option TaskKind). has (cond (is_delivery_kind o) ((count_pairs p + t) ∷ []) (writes p t)) (count_pairs p + t)) e ∙ here (count_pairs p + t))
    by_kind (Some (Transfer f from (Site s))) e k =
        let written : kind_writes p.jobs (kind p t) s.0 f.0 ≡ true = ap (λ (o : Option TaskKind). kind_writes p.jobs o s.0 f.0) e ∙ self_written s.0 f.0 in
        let pair = found_pair p.pairs s.0 f.0 ((proper.tasks t).written_stands s.0 f.0 written) in
        let listed : has (writes p t) pair.0 ≡ true = lists p proper t pair.0 s.0 f.0 pair.1 ∙ written in
        (pair.0, ap (λ (o : Option TaskKind). has (cond (is_delivery_kind o) ((count_pairs p + t) ∷ []) (writes p t)) pair.0) e ∙ listed)

arrived_small : ListsPairs → (p : Plan) (s : State) (e : Event) → IsProper p → IsWithinLimits p → Allowed p s e → arrived e ≤ 2 ^ 40
arrived_small lists p s (Grant w t) proper limits h = omega arith
arrived_small lists p s (Regrant w t) proper limits h = omega arith
arrived_small lists p s (Sweep w t) proper limits h = omega arith
arrived_small lists p s (End w t ns) proper limits h = omega arith
arrived_small lists p s (Fail w t c ns) proper limits h = omega arith
arrived_small lists p s (Again w t c ns) proper limits h = omega arith
arrived_small lists p s (Arrive w t n) proper limits h =
    let some = some_made lists p t proper h.1 in
    let size = h.3 some.0 some.1 in
    let small = good_small p some.0 limits in
    omega (arith, size, small)

-- ---- the sizes of an entry

runs_delivers_none : (o : Option TaskKind) → is_run_kind o ≡ true → is_delivery_kind o ≡ false
runs_delivers_none None h = refl
runs_delivers_none (Some (Run s js)) h = refl
runs_delivers_none (Some (Clean q)) h = refl
runs_delivers_none (Some (Transfer f from to)) h = absurd cc

run_makes_pairs : (p : Plan) (t : ℕ) → is_run p t ≡ true → is_delivery p t ≡ false
unfolding is_delivery
run_makes_pairs p t h = runs_delivers_none (kind p t) h

declared_long : (p : Plan) (gs ns : List ℕ) → AreDeclared p gs ns → length ns ≡ length gs
declared_long p [] [] h = refl
declared_long p [] (n ∷ ns) h = absurd h
declared_long p (g ∷ gs) [] h = absurd h
declared_long p (g ∷ gs) (n ∷ ns) h = ap suc (declared_long p gs ns h.1)

declared_small : (p : Plan) (gs ns : List ℕ) → IsWithinLimits p → AreDeclared p gs ns → (k : ℕ) → get_or ns k 0 ≤ 2 ^ 40
declared_small p [] [] limits h k = omega arith
declared_small p [] (n ∷ ns) limits h k = absurd h
declared_small p (g ∷ gs) [] limits h k = absurd h
declared_small p (g ∷ gs) (n ∷ ns) limits h zero = let few = h.0 in let small = good_small p g limits in omega (arith, few, small)
declared_small p (g ∷ gs) (n ∷ ns) limits h (suc k) = declared_small p gs ns limits h.1 k

pub sized : ListsPairs → (p : Plan) (s : State) (e : Event) → IsProper p → IsWithinLimits p → Allowed p s e → IsSized p e
sized lists p s (Grant w t) proper limits h = tt
sized lists p s (Regrant w t) proper limits h = tt
sized lists p s (Sweep w t) proper limits h = tt
sized lists p s (Fail w t c ns) proper limits h = tt
sized lists p s (Again w t c ns) proper limits h = tt
sized lists p s (Arrive w t n) proper limits h = arrived_small lists p s (Arrive w t n) proper limits h
sized lists p s (End w t ns) proper limits h =
    let off = run_makes_pairs p t h.1 in
    (off, declared_long p (makes p t) ns h.3 ∙ ap length (makes_writes p t off), declared_small p (makes p t) ns limits h.3)

pub moved_from : ListsPairs → (p : Plan) (s : State) (r : List Event) → IsProper p → IsWithinLimits p → LegalFrom p s r → sum_by arrived r ≤ length r * 2 ^ 40
moved_from lists p s [] proper limits legal = omega arith
moved_from lists p s (e ∷ r) proper limits legal =
    let rest = moved_from lists p (after p s e) r proper limits legal.1 in
    let one = arrived_small lists p s e proper limits legal.0 in
    let is : sum_by arrived (e ∷ r) ≡ (0 + arrived e) + sum_by arrived r = sum_by-append arrived (e ∷ []) r in
    omega (arith, rest, one, is)

-- ---- a book that has come to the first k entries of a record

-- what the loops over a record keep
pub record HasCome (p : Plan) (order : List ℕ) (r : List Event) (k : ℕ) (b : Book) : Type 0 where
  pub history : b.history.events ≡ take k r
  pub plan : b.plan ≡ p
  pub order_is : task_numbers b.order.items ≡ order

pub come_state : (p : Plan) (order : List ℕ) (r : List Event) (k : ℕ) (b : Book) → HasCome p order r k b → state_at b ≡ now p order (take k r)
come_state p order r k b come =
    ap (λ (q : Plan). now q (task_numbers b.order.items) b.history.events) come.plan
    ∙ ap (λ (os : List ℕ). now p os b.history.events) come.order_is
    ∙ ap (now p order) come.history

pub come_fits : (p q : Plan) (order : List ℕ) (r : List Event) (k : ℕ) (b : Book) → HasCome p order r k b → q ≡ p → FitsFromStart p order → FitsFromStart q (task_numbers b.order.items)
come_fits p q order r k b come e fits = subst (λ (x : Plan). FitsFromStart x (task_numbers b.order.items)) (sym e) (subst (FitsFromStart p) (sym come.order_is) fits)

-- the entry after them decides
pub come_allowed : (p : Plan) (order : List ℕ) (r : List Event) (k : ℕ) (b : Book) (e : Event) → HasCome p order r k b → Allowed b.plan (state_at b) e → Allowed p (now p order (take k r)) e
come_allowed p order r k b e come allowed = subst (λ (s : State). Allowed p s e) (come_state p order r k b come) (subst (λ (q : Plan). Allowed q (state_at b) e) come.plan allowed)

pub come_back : (p : Plan) (order : List ℕ) (r : List Event) (k : ℕ) (b : Book) (e : Event) → HasCome p order r k b → Allowed p (now p order (take k r)) e → Allowed b.plan (state_at b) e
come_back p order r k b e come allowed = subst (λ (q : Plan). Allowed q (state_at b) e) (sym come.plan) (subst (λ (s : State). Allowed p s e) (sym (come_state p order r k b come)) allowed)

pub come_next : (p : Plan) (order : List ℕ) (r : List Event) (k : ℕ) (b c : Book) (e : Event) → HasCome p order r k b → slice_get r k ≡ Some e → c.history.events ≡ b.history.events ++ e ∷ [] → c.plan ≡ b.plan → c.order ≡ b.order → HasCome p order r (k + 1) c
come_next p order r k b c e come at added same_plan same_order = record {
  history = added ∙ ap (λ (l : List Event). l ++ e ∷ []) come.history ∙ sym (take_next r k e at);
  plan = same_plan ∙ come.plan;
  order_is = ap (λ (v : Vec TaskId Global). task_numbers v.items) same_order ∙ come.order_is;
}

pub legal_next : (p : Plan) (order : List ℕ) (r : List Event) (k : ℕ) (e : Event) → slice_get r k ≡ Some e → Legal p order (take k r) → Allowed p (now p order (take k r)) e → Legal p order (take (k + 1) r)
legal_next p order r k e at legal allowed = subst (Legal p order) (sym (take_next r k e at)) (legal_more p (opened order) (take k r) e legal allowed)

-- where it isn't allowed, it is the first such entry
pub illegal_at : (p : Plan) (order : List ℕ) (r : List Event) (k : ℕ) (e : Event) → slice_get r k ≡ Some e → Legal p order (take k r) → (Allowed p (now p order (take k r)) e → ⊥) → IsIllegalAt p order r (k + 1)
illegal_at p order r k e at legal off = record {
  counted = omega arith;
  before = subst (λ (n : ℕ). Legal p order (take n r)) (sym less) legal;
  entry = e;
  is = ap (slice_get r) less ∙ at;
  not_allowed = λ a. off (subst (λ (n : ℕ). Allowed p (now p order (take n r)) e) less a);
}
  where
    less : (k + 1) - 1 ≡ k
    less = omega arith

pub legal_all : (p : Plan) (order : List ℕ) (r : List Event) (k : ℕ) → k ≡ length r → Legal p order (take k r) → Legal p order r
legal_all p order r k e legal = subst (Legal p order) (ap (λ (n : ℕ). take n r) e ∙ take_all r) legal

pub complete_all : (p : Plan) (order : List ℕ) (r : List Event) (k : ℕ) (b : Book) → k ≡ length r → HasCome p order r k b → IsComplete b.plan (state_at b) → IsComplete p (now p order r)
complete_all p order r k b e come complete = subst (IsComplete p) (come_state p order r k b come ∙ ap (now p order) (ap (λ (n : ℕ). take n r) e ∙ take_all r)) (subst (λ (q : Plan). IsComplete q (state_at b)) come.plan complete)

pub complete_back : (p : Plan) (order : List ℕ) (r : List Event) (k : ℕ) (b : Book) → k ≡ length r → HasCome p order r k b → IsComplete p (now p order r) → IsComplete b.plan (state_at b)
complete_back p order r k b e come complete = subst (λ (q : Plan). IsComplete q (state_at b)) (sym come.plan) (subst (IsComplete p) (sym (come_state p order r k b come ∙ ap (now p order) (ap (λ (n : ℕ). take n r) e ∙ take_all r))) complete)

-- ---- one verdict

-- each entry of a legal record was allowed
allowed_at : (p : Plan) (s : State) (r : List Event) (k : ℕ) (e : Event) → LegalFrom p s r → slice_get r k ≡ Some e → Allowed p (now_from p s (take k r)) e
allowed_at p s [] k e legal at = absurd cc
allowed_at p s (x ∷ r) zero e legal at = let same : x ≡ e = cc in subst (Allowed p s) same legal.0
allowed_at p s (x ∷ r) (suc k) e legal at = allowed_at p (after p s x) r k e legal.1 at

pub judged_complete : (p : Plan) (order : List ℕ) (r : List Event) (v : Verdict) → Legal p order r → IsComplete p (now p order r) → IsJudged p order r v → v ≡ verdict.Complete
judged_complete p order r verdict.Complete legal complete judged = refl
judged_complete p order r verdict.Legal legal complete judged = absurd (judged.1 complete)
judged_complete p order r (verdict.Illegal k) legal complete judged = absurd (judged.not_allowed (allowed_at p (opened order) r (k - 1) judged.entry legal judged.is))
