-- Each entry of a Legal record suits its task.
use Rattle.std.proofs.Common.{◌≡◌, ℕ, zero, suc, ◌+◌, ◌-◌, ◌≤◌, ◌<◌, inl, inr, Bool, true, false, cond, List, [], ◌∷◌, length, take, refl, sym, ap, ◌∙◌, subst, nat_eq, nat_lt, arith}
use Rattle.std.specs.Prelude.{Option, Some, None, slice_get}
use Rattle.std.specs.List.{list_any}
use Rattle.plan_core.specs.declared.plan.Plan.{Plan}
use Rattle.plan_core.specs.declared.plan.Pair.{Pair}
use Rattle.plan_core.specs.declared.plan.TaskKind.{TaskKind}
use Rattle.plan_core.specs.declared.plan.TaskKind.TheVariants.{Transfer, Run, Clean as CleanTask}
use Rattle.plan_core.specs.Numbers.{has}
use Rattle.plan_core.specs.Words.{count_pairs, declared, is_clean, is_run, is_run_kind, is_transfer, kind, pair, writes}
use Rattle.plan_core.proofs.TestLemmas.{either, or_left, or_right, same_number}
use Rattle.storage_simulation.specs.Goods.{delivered_size, good_size, is_delivery, is_delivery_kind, makes, or_zero, pair_size}
use Rattle.run_record.specs.declared.entry.Cause.{Cause}
use Rattle.run_record.specs.declared.entry.Cause.TheVariants.{Absent, TooLong, Checksum, Oversize, Declined, ToolFailed, HostFailed, Memory}
use Rattle.run_record.specs.Events.{Event, Grant, Arrive, End, Clean, Fail, Again, Regrant}
use Rattle.lease_rules.specs.Legal.{Allowed, AreDeclared, AreOfFirst, ArePublished, CauseFits, LegalFrom}
use Rattle.lease_rules.specs.code.Reading.{ends}
use Rattle.lease_rules.specs.State.{State, after}
use Rattle.site_yard.specs.code.Law.{HasPlanLaws}
use Rattle.plan_core.specs.Names.{file_in, pair_file}
use Rattle.site_yard.specs.code.Places.{is_published, publishes_pair}
use Rattle.site_yard.proofs.PlanLemmas.{not_none}

-- an entry is of the kind of its task, and its sizes are within the declared ones
abbrev pub Suits : Plan → Event → Type 0
Suits p (Grant w t) = Unit {0}
Suits p (Regrant w t) = Unit {0}
Suits p (Arrive w t n) = (is_transfer p t ≡ true) × ((g : ℕ) → has (makes p t) g ≡ true → n ≤ good_size p g)
Suits p (End w t ns) = (is_run p t ≡ true) × AreDeclared p (makes p t) ns
Suits p (Clean w t) = is_clean p t ≡ true
Suits p (Fail w t c ns) = ArePublished p t ns
Suits p (Again w t c ns) = ArePublished p t ns

abbrev pub AllSuit : Plan → List Event → Type 0
AllSuit p [] = Unit {0}
AllSuit p (e ∷ r) = Suits p e × AllSuit p r

none_published : (p : Plan) (t : ℕ) (ns : List ℕ) → ns ≡ [] → ArePublished p t ns
none_published p t ns e = subst (ArePublished p t) (sym e) (λ h. refl, tt)

pub cause_published : (p : Plan) (t : ℕ) (c : Cause) (ns : List ℕ) → CauseFits p t c ns → ArePublished p t ns
cause_published p t Absent ns h = none_published p t ns h.1
cause_published p t (TooLong n) ns h = none_published p t ns h.2
cause_published p t (Checksum d) ns h = none_published p t ns h.2
cause_published p t (Oversize j f n) ns h = none_published p t ns h.3
cause_published p t (Declined j) ns h = none_published p t ns h.1
cause_published p t (ToolFailed j) ns h = none_published p t ns h.1
cause_published p t HostFailed ns h = h
cause_published p t Memory ns h = h

allowed_suits : (p : Plan) (s : State) (e : Event) → Allowed p s e → Suits p e
allowed_suits p s (Grant w t) a = tt
allowed_suits p s (Regrant w t) a = tt
allowed_suits p s (Arrive w t n) a = (a.1, a.3)
allowed_suits p s (End w t ns) a = (a.1, a.3)
allowed_suits p s (Clean w t) a = a.1
allowed_suits p s (Fail w t c ns) a = cause_published p t c ns a.2
allowed_suits p s (Again w t c ns) a = cause_published p t c ns a.2

pub legal_suits : (p : Plan) (s : State) (r : List Event) → LegalFrom p s r → AllSuit p r
legal_suits p s [] l = tt
legal_suits p s (e ∷ r) l = (allowed_suits p s e l.0, legal_suits p (after p s e) r l.1)

-- a Run makes what it writes
run_no_delivery : (o : Option TaskKind) → is_run_kind o ≡ true → is_delivery_kind o ≡ false
run_no_delivery None h = refl
run_no_delivery (Some (Transfer g from to)) h = absurd cc
run_no_delivery (Some (Run s js)) h = refl
run_no_delivery (Some (CleanTask q)) h = refl

pub run_makes : (p : Plan) (t : ℕ) → is_run p t ≡ true → makes p t ≡ writes p t
unfolding makes is_delivery
run_makes p t h = ap (λ b. cond b ((count_pairs p + t) ∷ []) (writes p t)) (run_no_delivery (kind p t) h)

-- the declared size of a pair is that of its file
pub good_of : (p : Plan) (q : ℕ) → q < count_pairs p → good_size p q ≡ or_zero (declared p (pair_file p q))
unfolding good_size pair_file pair
good_of p q l = ap (λ b. cond b (pair_size p (slice_get p.pairs q)) (delivered_size p (q - count_pairs p))) lower ∙ by (slice_get p.pairs q) refl
  where
    lower : nat_lt q (count_pairs p) ≡ true
    lower = grind (arith, l)

    by : (o : Option Pair) → slice_get p.pairs q ≡ o → pair_size p o ≡ or_zero (declared p (file_in o))
    by None e = absurd (not_none p.pairs q l e)
    by (Some x) e = refl

pub has_take : (k : ℕ) (qs : List ℕ) (q : ℕ) → has (take k qs) q ≡ true → has qs q ≡ true
has_take zero qs q h = absurd cc
has_take (suc k) [] q h = h
has_take (suc k) (y ∷ qs) q h = elim (either (nat_eq y q) (has (take k qs) q) h) [
  | inl e ↦ or_left (nat_eq y q) (has qs q) e
  | inr e ↦ or_right (nat_eq y q) (has qs q) (has_take k qs q e)
]

pub take_all : (xs : List ℕ) (n : ℕ) → n ≡ length xs → take n xs ≡ xs
take_all [] zero e = refl
take_all [] (suc n) e = refl
take_all (x ∷ xs) zero e = absurd (omega (arith, e))
take_all (x ∷ xs) (suc n) e = ap (λ l. x ∷ l) (take_all xs n (omega (arith, e)))

pub declared_long : (p : Plan) (gs ns : List ℕ) → AreDeclared p gs ns → length ns ≡ length gs
declared_long p [] [] h = refl
declared_long p [] (n ∷ ns) h = absurd h
declared_long p (g ∷ gs) [] h = absurd h
declared_long p (g ∷ gs) (n ∷ ns) h = ap suc (declared_long p gs ns h.1)

declared_first : (p : Plan) (gs ns : List ℕ) → AreDeclared p gs ns → AreOfFirst p gs ns
declared_first p [] [] h = tt
declared_first p [] (n ∷ ns) h = absurd h
declared_first p (g ∷ gs) [] h = absurd h
declared_first p (g ∷ gs) (n ∷ ns) h = (h.0, declared_first p gs ns h.1)

-- the writes whose sizes stand in an End are all of them
pub end_writes : (p : Plan) (t : ℕ) (ns : List ℕ) → is_run p t ≡ true → AreDeclared p (makes p t) ns → (take (length ns) (writes p t) ≡ writes p t) × AreOfFirst p (writes p t) ns
end_writes p t ns run sizes =
    let same = run_makes p t run in
    let small : AreDeclared p (writes p t) ns = subst (λ l. AreDeclared p l ns) same sizes in
    (take_all (writes p t) (length ns) (declared_long p (writes p t) ns small), declared_first p (writes p t) ns small)

-- what a failed task published
pub fail_writes : (p : Plan) (t : ℕ) (ns : List ℕ) → ArePublished p t ns → AreOfFirst p (writes p t) ns
fail_writes p t ns h = by (is_run p t) refl
  where
    by : (b : Bool) → is_run p t ≡ b → AreOfFirst p (writes p t) ns
    by true e = subst (λ l. AreOfFirst p l ns) (run_makes p t e) h.1
    by false e = subst (AreOfFirst p (writes p t)) (sym (h.0 e)) (first_none (writes p t))
      where
        first_none : (gs : List ℕ) → AreOfFirst p gs []
        first_none [] = tt
        first_none (g ∷ gs) = tt

-- the pairs of a task that has ended were published
ending_puts : (p : Plan) → HasPlanLaws p → (e : Event) (t q : ℕ) → Suits p e → has (writes p t) q ≡ true → ends t e ≡ true → publishes_pair p q e ≡ true
ending_puts p laws (Grant w u) t q s h e = absurd cc
ending_puts p laws (Regrant w u) t q s h e = absurd cc
ending_puts p laws (Fail w u c ns) t q s h e = absurd cc
ending_puts p laws (Again w u c ns) t q s h e = absurd cc
ending_puts p laws (Arrive w u n) t q s h e = subst (λ x. has (writes p x) q ≡ true) (sym (same_number u t e)) h
ending_puts p laws (End w u ns) t q s h e = subst (λ x. has (writes p x) q ≡ true) (sym (same_number u t e)) h
ending_puts p laws (Clean w u) t q s h e =
    let mine : has (writes p u) q ≡ true = subst (λ x. has (writes p x) q ≡ true) (sym (same_number u t e)) h in
    absurd (let x = sym (laws.cleans_only u q s) ∙ or_left (has (writes p u) q) _ mine in cc)

pub ended_published : (p : Plan) → HasPlanLaws p → (r : List Event) (t q : ℕ) → AllSuit p r → has (writes p t) q ≡ true → list_any (ends t) r ≡ true → is_published p r q ≡ true
unfolding is_published
ended_published p laws [] t q s h e = absurd cc
ended_published p laws (x ∷ r) t q s h e = elim (either (ends t x) (list_any (ends t) r) e) [
  | inl d ↦ or_left (publishes_pair p q x) (list_any (publishes_pair p q) r) (ending_puts p laws x t q s.0 h d)
  | inr d ↦ or_right (publishes_pair p q x) (list_any (publishes_pair p q) r) (ended_published p laws r t q s.1 h d)
]
