-- There is room for each delivery: a task that is open has not arrived yet.
use Rattle.std.proofs.Common.{◌≡◌, ◌≢◌, ℕ, zero, suc, ◌+◌, ◌≤◌, ◌<◌, Bool, true, false, cond, not, ◌&&◌, ◌||◌, eqb, eqb-true, List, [], ◌∷◌, ◌++◌, length, length-append, refl, sym, ap, ◌∙◌, subst, append_assoc, arith}
use Rattle.std.proofs.lemmas.Bool.{eqb-false}
use Rattle.std.proofs.lemmas.List.Folds.{list_any-append}
use Rattle.std.specs.List.{list_any}
use Rattle.std.specs.Prelude.{Option, Some, None, is_some}
use Rattle.plan_core.specs.declared.plan.Plan.{Plan}
use Rattle.plan_core.specs.declared.plan.TaskKind.{TaskKind}
use Rattle.plan_core.specs.declared.plan.TaskKind.TheVariants.{Transfer, Run, Clean as CleanTask}
use Rattle.plan_core.specs.declared.plan.Target.TheVariants.{Site as Into, Delivery}
use Rattle.plan_core.specs.Numbers.{below}
use Rattle.plan_core.specs.Words.{count_tasks, kind}
use Rattle.plan_core.proofs.TestLemmas.{is_itself}
use Rattle.storage_simulation.specs.Goods.{is_delivery, is_delivery_kind}
use Rattle.run_record.specs.Events.{Event, Arrive}
use Rattle.lease_rules.specs.Legal.{Allowed, IsOpen, Legal, LegalFrom}
use Rattle.lease_rules.specs.code.Reading.{ends}
use Rattle.lease_rules.specs.State.{now}
use Rattle.site_yard.specs.Delivered.{arrival_at, arrivals, arrivals_of, delivered_file}
use Rattle.site_yard.specs.code.Delivered.{count_deliveries}
use Rattle.site_yard.specs.code.Law.{HasPlanLaws, HasRecordLaws}
use Rattle.site_yard.proofs.FollowLemmas.{from_next, legal_next, open_not_ended}

-- how many numbers pass
abbrev one_if : Bool → ℕ
one_if true = 1
one_if false = 0

below_next : (test : ℕ → Bool) (n : ℕ) → length (below (suc n) test) ≡ length (below n test) + one_if (test n)
unfolding below
below_next test n = length-append (below n test) (cond (test n) (n ∷ []) []) ∙ ap (λ k. length (below n test) + k) (one (test n))
  where
    one : (b : Bool) → length (cond b (n ∷ []) []) ≡ one_if b
    one true = refl
    one false = refl

one_fewer : (a b : Bool) → (a ≡ true → b ≡ true) → one_if a ≤ one_if b
one_fewer true true h = omega arith
one_fewer true false h = absurd (let x = h refl in cc)
one_fewer false true h = omega arith
one_fewer false false h = omega arith

below_none : (test : ℕ → Bool) → length (below zero test) ≡ 0
unfolding below
below_none test = refl

-- so many below n pass, which are no more than n
abbrev pub IsCount : (ℕ → Bool) → ℕ → ℕ → Type 0
IsCount test n count = (count ≡ length (below n test)) × (count ≤ n)

pub count_none : (test : ℕ → Bool) → IsCount test 0 0
count_none test = (sym (below_none test), omega arith)

next_is : (n : ℕ) → suc n ≡ n + 1
next_is n = omega arith

pub count_more : (test : ℕ → Bool) (n count new : ℕ) (b : Bool) → b ≡ test n → new ≡ count + one_if b → IsCount test n count → IsCount test (n + 1) new
count_more test n count new b is more old =
    let next = below_next test n in
    let same : one_if b ≡ one_if (test n) = ap one_if is in
    let at : length (below (suc n) test) ≡ length (below (n + 1) test) = ap (λ k. length (below k test)) (next_is n) in
    (omega (arith, next, same, at, more, old.0), omega (arith, small b, more, old.1))
  where
    small : (c : Bool) → one_if c ≤ 1
    small true = omega arith
    small false = omega arith

below_fewer : (new old : ℕ → Bool) (n : ℕ) → ((t : ℕ) → new t ≡ true → old t ≡ true) → length (below n new) ≤ length (below n old)
below_fewer new old zero h = omega (arith, below_none new, below_none old)
below_fewer new old (suc n) h = omega (arith, below_next new n, below_next old n, below_fewer new old n h, one_fewer (new n) (old n) (h n))

below_fewer_at : (new old : ℕ → Bool) (n a : ℕ) → ((t : ℕ) → new t ≡ true → old t ≡ true) → a < n → new a ≡ false → old a ≡ true → length (below n new) + 1 ≤ length (below n old)
below_fewer_at new old zero a h l off on = absurd (omega (arith, l))
below_fewer_at new old (suc n) a h l off on = by_place (eqb a n) refl (λ less. below_fewer_at new old n a h less off on)
  where
    here : a ≡ n → length (below (suc n) new) + 1 ≤ length (below (suc n) old)
    here at =
        let no : one_if (new n) ≡ 0 = ap one_if (ap new (sym at) ∙ off) in
        let yes : one_if (old n) ≡ 1 = ap one_if (ap old (sym at) ∙ on) in
        omega (arith, below_next new n, below_next old n, below_fewer new old n h, no, yes)

    by_place : (b : Bool) → eqb a n ≡ b → (a < n → length (below n new) + 1 ≤ length (below n old)) → length (below (suc n) new) + 1 ≤ length (below (suc n) old)
    by_place true e under = here (eqb-true a n e)
    by_place false e under =
        let other : a ≢ n = eqb-false a n e in
        omega (arith, below_next new n, below_next old n, under (omega (arith, l, other)), one_fewer (new n) (old n) (h n))

-- a delivery that hasn't arrived
abbrev is_left : Plan → List Event → ℕ → Bool
is_left p r t = is_delivery p t && not (list_any (ends t) r)

abbrev left : Plan → List Event → ℕ
left p r = length (below (count_tasks p) (is_left p r))

was_left : (d a b : Bool) → (d && not (a || b)) ≡ true → (d && not a) ≡ true
was_left true true b h = absurd cc
was_left true false b h = refl
was_left false a b h = absurd cc

left_longer : (p : Plan) (r s : List Event) (t : ℕ) → is_left p (r ++ s) t ≡ true → is_left p r t ≡ true
left_longer p r s t h = was_left (is_delivery p t) (list_any (ends t) r) (list_any (ends t) s) (ap (λ b. is_delivery p t && not b) (sym (list_any-append (ends t) r s)) ∙ h)

left_fewer : (p : Plan) (r s : List Event) → left p (r ++ s) ≤ left p r
left_fewer p r s = below_fewer (is_left p (r ++ s)) (is_left p r) (count_tasks p) (left_longer p r s)

plus_none : (x y : ℕ) → x ≤ y → 0 + x ≤ y
plus_none x y h = omega (arith, h)

arrival_one : (t n : ℕ) (k : Option TaskKind) → length (arrival_at t n (delivered_file k)) ≡ one_if (is_delivery_kind k)
arrival_one t n None = refl
arrival_one t n (Some (Transfer f from (Into s))) = refl
arrival_one t n (Some (Transfer f from Delivery)) = refl
arrival_one t n (Some (Run s js)) = refl
arrival_one t n (Some (CleanTask q)) = refl

arrival_counts : (p : Plan) (t n : ℕ) → length (arrival_at t n (delivered_file (kind p t))) ≡ one_if (is_delivery p t)
unfolding is_delivery
arrival_counts p t n = arrival_one t n (kind p t)

arrive_ends : (t w n : ℕ) (d a : Bool) → (d && not (a || list_any (ends t) (Arrive w t n ∷ []))) ≡ false
arrive_ends t w n true true = refl
arrive_ends t w n true false = ap (λ b. not (b || false)) (is_itself t)
arrive_ends t w n false a = refl

-- a file is delivered
pub is_delivered : (p : Plan) (t : ℕ) → is_some (delivered_file (kind p t)) ≡ true → is_delivery p t ≡ true
unfolding is_delivery
is_delivered p t = of (kind p t)
  where
    of : (k : Option TaskKind) → is_some (delivered_file k) ≡ true → is_delivery_kind k ≡ true
    of None h = absurd cc
    of (Some (Transfer f from (Into s))) h = absurd cc
    of (Some (Transfer f from Delivery)) h = refl
    of (Some (Run s js)) h = absurd cc
    of (Some (CleanTask q)) h = absurd cc

module _ (p : Plan) (plan_laws : HasPlanLaws p) (order : List ℕ) (laws : HasRecordLaws p order) where
  open_left : (r : List Event) (w t : ℕ) → Legal p order r → IsOpen (now p order r) w t → is_delivery p t ≡ true → is_left p r t ≡ true
  open_left r w t legal opened_ d = ap (λ b. b && not (list_any (ends t) r)) d ∙ ap not (open_not_ended p plan_laws order laws r w t legal opened_)

  open_below : (r : List Event) (w t : ℕ) → Legal p order r → IsOpen (now p order r) w t → t < count_tasks p
  open_below r w t legal opened_ = ((laws.sound r legal).running_kind t opened_.runs).1

  arrive_left : (past : List Event) (w t n : ℕ) → Legal p order past → IsOpen (now p order past) w t → (b : Bool) → is_delivery p t ≡ b → one_if b + left p (past ++ Arrive w t n ∷ []) ≤ left p past
  arrive_left past w t n legal opened_ true d =
      let off : is_left p (past ++ Arrive w t n ∷ []) t ≡ false = ap (λ b. is_delivery p t && not b) (list_any-append (ends t) past (Arrive w t n ∷ [])) ∙ arrive_ends t w n (is_delivery p t) (list_any (ends t) past) in
      let fewer = below_fewer_at (is_left p (past ++ Arrive w t n ∷ [])) (is_left p past) (count_tasks p) t (left_longer p past (Arrive w t n ∷ [])) (open_below past w t legal opened_) off (open_left past w t legal opened_ d) in
      omega (arith, fewer)
  arrive_left past w t n legal opened_ false d = plus_none (left p (past ++ Arrive w t n ∷ [])) (left p past) (left_fewer p past (Arrive w t n ∷ []))

  left_more : (past : List Event) (e : Event) → Legal p order past → Allowed p (now p order past) e → length (arrivals_of p e) + left p (past ++ e ∷ []) ≤ left p past
  left_more past (Arrive w t n) legal a =
      subst (λ k. k + left p (past ++ Arrive w t n ∷ []) ≤ left p past) (sym (arrival_counts p t n)) (arrive_left past w t n legal a.2 (is_delivery p t) refl)
  left_more past e legal a = plus_none (left p (past ++ e ∷ [])) (left p past) (left_fewer p past (e ∷ []))

  arrived_left : (past r : List Event) → Legal p order past → LegalFrom p (now p order past) r → length (arrivals p r) + left p (past ++ r) ≤ left p past
  arrived_left past [] legal l = plus_none (left p (past ++ [])) (left p past) (left_fewer p past [])
  arrived_left past (e ∷ r) legal l =
      let first = left_more past e legal l.0 in
      let rest = arrived_left (past ++ e ∷ []) r (legal_next p plan_laws order laws past e legal l.0) (from_next p plan_laws order laws past r e l.1) in
      let same : left p ((past ++ e ∷ []) ++ r) ≡ left p (past ++ e ∷ r) = ap (left p) (append_assoc past (e ∷ []) r) in
      omega (arith, first, rest, same, length-append (arrivals_of p e) (arrivals p r))

  left_at_first : left p [] ≤ count_deliveries p
  unfolding count_deliveries
  left_at_first = below_fewer (is_left p []) (is_delivery p) (count_tasks p) (λ t h. was (is_delivery p t) h)
    where
      was : (d : Bool) → (d && true) ≡ true → d ≡ true
      was true h = refl
      was false h = absurd cc

  -- an open delivery is one more than those that arrived
  pub room_for : (r : List Event) (w t : ℕ) → Legal p order r → IsOpen (now p order r) w t → is_delivery p t ≡ true → length (arrivals p r) < count_deliveries p
  room_for r w t legal opened_ d =
      let arrived = arrived_left [] r tt legal in
      let one = below_fewer_at (λ x. false) (is_left p r) (count_tasks p) t (λ x h. absurd cc) (open_below r w t legal opened_) refl (open_left r w t legal opened_ d) in
      omega (arith, arrived, one, left_at_first)
