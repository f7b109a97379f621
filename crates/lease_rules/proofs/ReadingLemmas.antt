-- The state after a Legal record, read off its list.
use Rattle.std.proofs.Common.{◌≡◌, ℕ, ◌+◌, ◌||◌, ◌&&◌, Bool, true, false, cond, eqb, eqb-true, inl, inr, List, [], ◌∷◌, length, refl, sym, ap, subst, ◌∙◌, arith}
use Rattle.std.specs.Prelude.{not, filter, Option, Some, None, is_some}
use Rattle.std.specs.List.{list_any}
use Rattle.lease_rules.proofs.ListLemmas.{by_bool, or_left, or_right}
use Rattle.lease_rules.proofs.SoundLemmas.{choice_in, fresh_among, is_waiting, sound_more, sound_opened}
use Rattle.lease_rules.specs.code.Law.{FitsFromStart, HasStorageLaws, IsSoundState}
use Rattle.lease_rules.specs.Legal.{Allowed, Legal, LegalFrom, MayFail}
use Rattle.lease_rules.specs.code.Reading.{IsRead, again_of, ends, fails, frees, grants, held_by, is_fail, is_grant_in, is_granted, last_of, reserves, size_among, stored, stores, worker_in}
use Rattle.lease_rules.specs.State.{State, after, ended, now, now_from, opened, stored_among}
use Rattle.lease_rules.specs.code.State.{runs}
use Rattle.plan_core.specs.Numbers.{has, or_else}
use Rattle.plan_core.specs.Words.{cleans}
use Rattle.plan_core.specs.declared.plan.Plan.{Plan}
use Rattle.run_record.specs.Events.{Again, Arrive, Clean, End, Event, Fail, Grant, Regrant}
use Rattle.storage_simulation.specs.Goods.{good_size, makes}
use Rattle.storage_simulation.specs.declared.standing.Held.{Held}
use Rattle.storage_simulation.specs.declared.standing.Held.TheVariants.{Nothing, Reserved, Stored}
use Rattle.storage_simulation.specs.declared.standing.Phase.{Phase}
use Rattle.storage_simulation.specs.declared.standing.Phase.TheVariants.{Ended, Runs, Waits}

-- how an entry turns a task's phase, by what the entry says of the task
abbrev pub turn : Bool → Bool → Bool → Phase → Phase
turn g a e x = cond g Runs (cond a Waits (cond e Ended x))

turned : (e : Event) (s : State) (p : Plan) (t : ℕ) → (after p s e).phase t ≡ turn (grants t e) (again_of t e) (ends t e) (s.phase t)
turned (Grant w u) s p t = refl
turned (Regrant w u) s p t = refl
turned (Again w u c ns) s p t = refl
turned (Arrive w u n) s p t = refl
turned (End w u ns) s p t = refl
turned (Clean w u) s p t = refl
turned (Fail w u c ns) s p t = refl

-- a task that is granted waits, and a task that is tried again hasn't ended
pub grants_waits : (p : Plan) (s : State) (e : Event) (t : ℕ) → IsSoundState p s → Allowed p s e → grants t e ≡ true → s.phase t ≡ Waits
grants_waits p s (Grant w u) t sound a h = subst (λ (n : ℕ). s.phase n ≡ Waits) (eqb-true u t h) (is_waiting (s.phase u) (sound.safe.waiting u (choice_in p s u a.2)))
grants_waits p s (Regrant w u) t sound a h = subst (λ (n : ℕ). s.phase n ≡ Waits) (eqb-true u t h) (is_waiting (s.phase u) (sound.safe.waiting u (fresh_among p s 4 s.rest u a.1.among).2))
grants_waits p s (Again w u c ns) t sound a h = absurd cc
grants_waits p s (Arrive w u n) t sound a h = absurd cc
grants_waits p s (End w u ns) t sound a h = absurd cc
grants_waits p s (Clean w u) t sound a h = absurd cc
grants_waits p s (Fail w u c ns) t sound a h = absurd cc

caught_unended : (p : Plan) (s : State) (w u : ℕ) → IsSoundState p s → MayFail p s w u → ended (s.phase u) ≡ false
caught_unended p s w u sound (inl o) = ap ended o.runs
caught_unended p s w u sound (inr k) = ap ended (is_waiting (s.phase u) (sound.safe.waiting u (choice_in p s u k.1)))

again_unended : (p : Plan) (s : State) (e : Event) (t : ℕ) → IsSoundState p s → Allowed p s e → again_of t e ≡ true → ended (s.phase t) ≡ false
again_unended p s (Again w u c ns) t sound a h = subst (λ (n : ℕ). ended (s.phase n) ≡ false) (eqb-true u t h) (caught_unended p s w u sound a.1)
again_unended p s (Grant w u) t sound a h = absurd cc
again_unended p s (Regrant w u) t sound a h = absurd cc
again_unended p s (Arrive w u n) t sound a h = absurd cc
again_unended p s (End w u ns) t sound a h = absurd cc
again_unended p s (Clean w u) t sound a h = absurd cc
again_unended p s (Fail w u c ns) t sound a h = absurd cc

-- an entry says one thing
one_thing : (e : Event) (t : ℕ) → (ends t e && (grants t e || again_of t e)) ≡ false
one_thing (Grant w u) t = refl
one_thing (Regrant w u) t = refl
one_thing (Again w u c ns) t = refl
one_thing (Arrive w u n) t = no (eqb u t)
  where
    no : (b : Bool) → (b && false) ≡ false
    no true = refl
    no false = refl
one_thing (End w u n) t = no (eqb u t)
  where
    no : (b : Bool) → (b && false) ≡ false
    no true = refl
    no false = refl
one_thing (Clean w u) t = no (eqb u t)
  where
    no : (b : Bool) → (b && false) ≡ false
    no true = refl
    no false = refl
one_thing (Fail w u c ns) t = refl

ended_turn : (g a e : Bool) (x : Phase) (d : Bool) → (e && (g || a)) ≡ false → (g ≡ true → x ≡ Waits) → (a ≡ true → ended x ≡ false) → ended (turn g a e x) ≡ (ended x || e)
ended_turn true a true x d o f h = absurd cc
ended_turn true a false Waits d o f h = refl
ended_turn true a false Runs d o f h = absurd (let k = f refl in cc)
ended_turn true a false Ended d o f h = absurd (let k = f refl in cc)
ended_turn false true true x d o f h = absurd cc
ended_turn false true false Waits d o f h = refl
ended_turn false true false Runs d o f h = refl
ended_turn false true false Ended d o f h = absurd (let k = h refl in cc)
ended_turn false false true Waits d o f h = refl
ended_turn false false true Runs d o f h = refl
ended_turn false false true Ended d o f h = refl
ended_turn false false false Waits d o f h = refl
ended_turn false false false Runs d o f h = refl
ended_turn false false false Ended d o f h = refl

-- d: a grant stands and no Again stands after the last one
runs_turn : (g a e : Bool) (x : Phase) (d b : Bool) → (e && (g || a)) ≡ false → (g ≡ true → x ≡ Waits) → ended x ≡ b → runs x ≡ (d && not b) → runs (turn g a e x) ≡ ((g || (not a && d)) && not (b || e))
runs_turn true a true x d b o f h k = absurd cc
runs_turn true a false x d true o f h k = absurd (let m : ended x ≡ false = ap ended (f refl) in cc)
runs_turn true a false x d false o f h k = refl
runs_turn false true true x d b o f h k = absurd cc
runs_turn false true false x d b o f h k = refl
runs_turn false false true x d true o f h k = sym (no d)
  where
    no : (c : Bool) → (c && false) ≡ false
    no true = refl
    no false = refl
runs_turn false false true x d false o f h k = sym (no d)
  where
    no : (c : Bool) → (c && false) ≡ false
    no true = refl
    no false = refl
runs_turn false false false x d true o f h k = k
runs_turn false false false x d false o f h k = k

-- what the list so far says, with d, b, .. for it
pub any_from : (f : Event → Bool) (r : List Event) (e : Event) (b : Bool) → ((b || f e) || list_any f r) ≡ (b || list_any f (e ∷ r))
any_from f r e true = refl
any_from f r e false = refl

-- the last of the task's grants and Agains is a grant, where d says so of the entries before
abbrev pub granted_or : ℕ → Option Event → Bool → Bool
granted_or t None d = d
granted_or t (Some e) d = grants t e

abbrev pub granted_last : ℕ → List Event → Bool → Bool
granted_last t r d = granted_or t (last_of (λ e. grants t e || again_of t e) r) d

pub granted_step : (t : ℕ) (e : Event) (r : List Event) (d : Bool) → granted_last t r (grants t e || (not (again_of t e) && d)) ≡ granted_last t (e ∷ r) d
granted_step t e r d = by_last (last_of (λ x. grants t x || again_of t x) r)
  where
    by_tests : (g a : Bool) → grants t e ≡ g → (g || (not a && d)) ≡ granted_or t (cond (g || a) (Some e) None) d
    by_tests true a h = sym h
    by_tests false true h = sym h
    by_tests false false h = refl

    by_last : (o : Option Event) → granted_or t o (grants t e || (not (again_of t e) && d)) ≡ granted_or t (or_else o (cond (grants t e || again_of t e) (Some e) None)) d
    by_last (Some x) = refl
    by_last None = by_tests (grants t e) (again_of t e) refl

pub granted_none : (t : ℕ) (r : List Event) → granted_last t r false ≡ is_granted t r
granted_none t r = by_last (last_of (λ x. grants t x || again_of t x) r)
  where
    by_last : (o : Option Event) → granted_or t o false ≡ is_grant_in t o
    by_last None = refl
    by_last (Some e) = refl

pub read_phase : (p : Plan) → HasStorageLaws p → (s : State) (r : List Event) (t : ℕ) (d b : Bool) → IsSoundState p s → LegalFrom p s r → ended (s.phase t) ≡ b → runs (s.phase t) ≡ (d && not b)
    → (ended ((now_from p s r).phase t) ≡ (b || list_any (ends t) r)) × (runs ((now_from p s r).phase t) ≡ (granted_last t r d && not (b || list_any (ends t) r)))
read_phase p proper s [] t d b sound legal h k = (h ∙ sym (or_false b), k ∙ ap (λ (c : Bool). d && not c) (sym (or_false b)))
  where
    or_false : (c : Bool) → (c || false) ≡ c
    or_false true = refl
    or_false false = refl
read_phase p proper s (e ∷ r) t d b sound legal h k =
    let less = read_phase p proper (after p s e) r t (grants t e || (not (again_of t e) && d)) (b || ends t e) (sound_more p s e proper sound legal.0) legal.1
    (ap ended (turned e s p t) ∙ ended_turn (grants t e) (again_of t e) (ends t e) (s.phase t) d (one_thing e t) (grants_waits p s e t sound legal.0) (again_unended p s e t sound legal.0) ∙ ap (λ (c : Bool). c || ends t e) h)
    (ap runs (turned e s p t) ∙ runs_turn (grants t e) (again_of t e) (ends t e) (s.phase t) d b (one_thing e t) (grants_waits p s e t sound legal.0) h k) in
    (less.0 ∙ any_from (ends t) r e b, less.1 ∙ ap (λ (c : Bool). c && not ((b || ends t e) || list_any (ends t) r)) (granted_step t e r d) ∙ ap (λ (c : Bool). granted_last t (e ∷ r) d && not c) (any_from (ends t) r e b))

pub or_no : (c : Bool) → c ≡ (c || false)
or_no true = refl
or_no false = refl

or_yes : (c : Bool) → true ≡ (c || true)
or_yes true = refl
or_yes false = refl

cond_or : (b c : Bool) → cond b true c ≡ (c || b)
cond_or true true = refl
cond_or true false = refl
cond_or false true = refl
cond_or false false = refl

failing_step : (p : Plan) (s : State) (e : Event) → (after p s e).failing ≡ (s.failing || is_fail e)
failing_step p s (Grant w u) = or_no s.failing
failing_step p s (Regrant w u) = or_no s.failing
failing_step p s (Again w u c ns) = or_no s.failing
failing_step p s (Arrive w u n) = or_no s.failing
failing_step p s (End w u ns) = or_no s.failing
failing_step p s (Clean w u) = or_no s.failing
failing_step p s (Fail w u c ns) = or_yes s.failing

failed_step : (p : Plan) (s : State) (e : Event) (t : ℕ) → (after p s e).failed t ≡ (s.failed t || fails t e)
failed_step p s (Grant w u) t = or_no (s.failed t)
failed_step p s (Regrant w u) t = or_no (s.failed t)
failed_step p s (Again w u c ns) t = or_no (s.failed t)
failed_step p s (Arrive w u n) t = or_no (s.failed t)
failed_step p s (End w u ns) t = or_no (s.failed t)
failed_step p s (Clean w u) t = or_no (s.failed t)
failed_step p s (Fail w u c ns) t = cond_or (eqb u t) (s.failed t)

agains_step : (p : Plan) (s : State) (e : Event) (t : ℕ) → (after p s e).agains t ≡ cond (again_of t e) (s.agains t + 1) (s.agains t)
agains_step p s (Grant w u) t = refl
agains_step p s (Regrant w u) t = refl
agains_step p s (Again w u c ns) t = by_test (eqb u t) refl
  where
    by_test : (b : Bool) → eqb u t ≡ b → cond b (s.agains u + 1) (s.agains t) ≡ cond b (s.agains t + 1) (s.agains t)
    by_test true e = ap (λ (n : ℕ). s.agains n + 1) (eqb-true u t e)
    by_test false e = refl
agains_step p s (Arrive w u n) t = refl
agains_step p s (End w u ns) t = refl
agains_step p s (Clean w u) t = refl
agains_step p s (Fail w u c ns) t = refl

read_failing : (p : Plan) (s : State) (r : List Event) (b : Bool) → s.failing ≡ b → (now_from p s r).failing ≡ (b || list_any is_fail r)
read_failing p s [] b h = h ∙ or_no b
read_failing p s (e ∷ r) b h = read_failing p (after p s e) r (b || is_fail e) (failing_step p s e ∙ ap (λ (c : Bool). c || is_fail e) h) ∙ any_from is_fail r e b

read_failed : (p : Plan) (s : State) (r : List Event) (t : ℕ) (b : Bool) → s.failed t ≡ b → (now_from p s r).failed t ≡ (b || list_any (fails t) r)
read_failed p s [] t b h = h ∙ or_no b
read_failed p s (e ∷ r) t b h = read_failed p (after p s e) r t (b || fails t e) (failed_step p s e t ∙ ap (λ (c : Bool). c || fails t e) h) ∙ any_from (fails t) r e b

read_agains : (p : Plan) (s : State) (r : List Event) (t : ℕ) → (now_from p s r).agains t ≡ s.agains t + length (filter (again_of t) r)
read_agains p s [] t = omega arith
read_agains p s (e ∷ r) t = read_agains p (after p s e) r t ∙ ap (λ (n : ℕ). n + length (filter (again_of t) r)) (agains_step p s e t) ∙ by_test (again_of t e)
  where
    by_test : (b : Bool) → cond b (s.agains t + 1) (s.agains t) + length (filter (again_of t) r) ≡ s.agains t + length (cond b (e ∷ filter (again_of t) r) (filter (again_of t) r))
    by_test true = omega arith
    by_test false = refl

-- whom the last grant names, where n says it of the entries before
abbrev pub holder_or : Option Event → ℕ → ℕ
holder_or None n = n
holder_or (Some e) n = worker_in (Some e)

holder_step : (p : Plan) (s : State) (e : Event) (t : ℕ) → (after p s e).holder t ≡ holder_or (cond (grants t e) (Some e) None) (s.holder t)
holder_step p s (Grant w u) t = by_test (eqb u t)
  where
    by_test : (b : Bool) → cond b w (s.holder t) ≡ holder_or (cond b (Some (Grant w u)) None) (s.holder t)
    by_test true = refl
    by_test false = refl
holder_step p s (Regrant w u) t = by_test (eqb u t)
  where
    by_test : (b : Bool) → cond b w (s.holder t) ≡ holder_or (cond b (Some (Regrant w u)) None) (s.holder t)
    by_test true = refl
    by_test false = refl
holder_step p s (Again w u c ns) t = refl
holder_step p s (Arrive w u n) t = refl
holder_step p s (End w u ns) t = refl
holder_step p s (Clean w u) t = refl
holder_step p s (Fail w u c ns) t = refl

read_holder : (p : Plan) (s : State) (r : List Event) (t : ℕ) → (now_from p s r).holder t ≡ holder_or (last_of (grants t) r) (s.holder t)
read_holder p s [] t = refl
read_holder p s (e ∷ r) t = read_holder p (after p s e) r t ∙ by_last (last_of (grants t) r)
  where
    by_last : (o : Option Event) → holder_or o ((after p s e).holder t) ≡ holder_or (or_else o (cond (grants t e) (Some e) None)) (s.holder t)
    by_last (Some x) = refl
    by_last None = holder_step p s e t

holder_none : (o : Option Event) → holder_or o 0 ≡ worker_in o
holder_none None = refl
holder_none (Some e) = refl

-- goods
self : (t : ℕ) → eqb t t ≡ true
self t = grind arith

ended_step : (p : Plan) (s : State) (e : Event) (t : ℕ) → IsSoundState p s → Allowed p s e → ended ((after p s e).phase t) ≡ (ended (s.phase t) || ends t e)
ended_step p s e t sound a = ap ended (turned e s p t) ∙ ended_turn (grants t e) (again_of t e) (ends t e) (s.phase t) true (one_thing e t) (grants_waits p s e t sound a) (again_unended p s e t sound a)

-- what a good was, and is now
same_held : (f : Bool) (x : Option ℕ) (v : Bool) (d : ℕ) (h : Held) → h ≡ held_by f x v d → h ≡ held_by (f || false) (or_else x None) (v || false) d
same_held f x v d h e = e ∙ by_all f x v
  where
    by_all : (a : Bool) (y : Option ℕ) (b : Bool) → held_by a y b d ≡ held_by (a || false) (or_else y None) (b || false) d
    by_all true y b = refl
    by_all false (Some n) b = refl
    by_all false None true = refl
    by_all false None false = refl

reserve_held : (m f : Bool) (x : Option ℕ) (v : Bool) (d : ℕ) (h : Held) → h ≡ held_by f x v d → (m ≡ true → (f || is_some x) ≡ false) → cond m (Reserved d) h ≡ held_by (f || false) (or_else x None) (v || m) d
reserve_held false f x v d h e o = same_held f x v d h e
reserve_held true true x v d h e o = absurd (let k = o refl in cc)
reserve_held true false (Some n) v d h e o = absurd (let k = o refl in cc)
reserve_held true false None true d h e o = refl
reserve_held true false None false d h e o = refl

store_held : (m f : Bool) (x : Option ℕ) (v : Bool) (d n : ℕ) (h : Held) → h ≡ held_by f x v d → (m ≡ true → (f || is_some x) ≡ false) → cond m (Stored n) h ≡ held_by (f || false) (or_else x (cond m (Some n) None)) (v || false) d
store_held false f x v d n h e o = same_held f x v d h e
store_held true true x v d n h e o = absurd (let k = o refl in cc)
store_held true false (Some k) v d n h e o = absurd (let j = o refl in cc)
store_held true false None true d n h e o = refl
store_held true false None false d n h e o = refl

free_held : (m f : Bool) (x : Option ℕ) (v : Bool) (d : ℕ) (h : Held) → h ≡ held_by f x v d → cond m Nothing h ≡ held_by (f || m) (or_else x None) (v || false) d
free_held false f x v d h e = same_held f x v d h e
free_held true true x v d h e = refl
free_held true false x v d h e = refl

among_held : (xs ns : List ℕ) (g : ℕ) (f : Bool) (x : Option ℕ) (v : Bool) (d : ℕ) (h : Held) → h ≡ held_by f x v d → (has xs g ≡ true → (f || is_some x) ≡ false) → stored_among xs ns g h ≡ held_by (f || false) (or_else x (size_among xs ns g)) (v || false) d
among_held [] ns g f x v d h e o = same_held f x v d h e
among_held (y ∷ xs) [] g f x v d h e o = same_held f x v d h e
among_held (y ∷ xs) (n ∷ ns) g f x v d h e o = by_test (eqb y g) refl o (among_held xs ns g f x v d h e)
  where
    by_test : (b : Bool) → eqb y g ≡ b → ((b || has xs g) ≡ true → (f || is_some x) ≡ false) → ((has xs g ≡ true → (f || is_some x) ≡ false) → stored_among xs ns g h ≡ held_by (f || false) (or_else x (size_among xs ns g)) (v || false) d)
        → cond b (Stored n) (stored_among xs ns g h) ≡ held_by (f || false) (or_else x (cond b (Some n) (size_among xs ns g))) (v || false) d
    by_test true i k less = store_held true f x v d n h e (λ m. k refl)
    by_test false i k less = less k

held_step : (p : Plan) (s : State) (e : Event) (g : ℕ) (f : Bool) (x : Option ℕ) (v : Bool) → IsSoundState p s → Allowed p s e → s.held g ≡ held_by f x v (good_size p g)
    → ((f || is_some x) ≡ true → (t : ℕ) → has (makes p t) g ≡ true → ended (s.phase t) ≡ true)
    → (after p s e).held g ≡ held_by (f || frees p g e) (or_else x (stores p g e)) (v || reserves p g e) (good_size p g)
held_step p s e g f x v sound allowed h old = by_entry e allowed
  where
    unspent : (t : ℕ) → ended (s.phase t) ≡ false → has (makes p t) g ≡ true → (f || is_some x) ≡ false
    unspent t u m = by_bool (f || is_some x) (λ k. absurd (let y = old k t m in cc)) (λ k. k)

    by_entry : (d : Event) → Allowed p s d → (after p s d).held g ≡ held_by (f || frees p g d) (or_else x (stores p g d)) (v || reserves p g d) (good_size p g)
    by_entry (Grant w t) a = reserve_held (has (makes p t) g) f x v (good_size p g) (s.held g) h (unspent t (ap ended (grants_waits p s (Grant w t) t sound a (self t))))
    by_entry (Regrant w t) a = reserve_held (has (makes p t) g) f x v (good_size p g) (s.held g) h (unspent t (ap ended (grants_waits p s (Regrant w t) t sound a (self t))))
    by_entry (Again w t c ns) a = same_held f x v (good_size p g) (s.held g) h
    by_entry (Arrive w t n) a = store_held (has (makes p t) g) f x v (good_size p g) n (s.held g) h (unspent t (ap ended a.2.runs))
    by_entry (End w t ns) a = among_held (makes p t) ns g f x v (good_size p g) (s.held g) h (unspent t (ap ended a.2.runs))
    by_entry (Clean w t) a = free_held (cleans p t g) f x v (good_size p g) (s.held g) h
    by_entry (Fail w t c ns) a = same_held f x v (good_size p g) (s.held g) h

spent_step : (p : Plan) (s : State) (e : Event) (g : ℕ) (f : Bool) (x : Option ℕ) → HasStorageLaws p → IsSoundState p s → Allowed p s e
    → ((f || is_some x) ≡ true → (t : ℕ) → has (makes p t) g ≡ true → ended (s.phase t) ≡ true)
    → ((f || frees p g e) || is_some (or_else x (stores p g e))) ≡ true → (t : ℕ) → has (makes p t) g ≡ true → ended ((after p s e).phase t) ≡ true
spent_step p s e g f x proper sound allowed old now t m = ended_step p s e t sound allowed ∙ parts f (frees p g e) x (stores p g e) now
    (λ k. or_left (ended (s.phase t)) (ends t e) (old k t m))
    (λ k. or_left (ended (s.phase t)) (ends t e) (freed e allowed k))
    (λ k. or_right (ended (s.phase t)) (ends t e) (stored_by e k))
  where
    parts : {P : Type 0} (a b : Bool) (y z : Option ℕ) → ((a || b) || is_some (or_else y z)) ≡ true → ((a || is_some y) ≡ true → P) → (b ≡ true → P) → (is_some z ≡ true → P) → P
    parts true b y z h i j k = i refl
    parts false true y z h i j k = j refl
    parts false false (Some n) z h i j k = i refl
    parts false false None (Some n) h i j k = k refl
    parts false false None None h i j k = absurd cc

    freed : (d : Event) → Allowed p s d → frees p g d ≡ true → ended (s.phase t) ≡ true
    freed (Grant w u) a k = absurd cc
    freed (Regrant w u) a k = absurd cc
    freed (Again w u c ns) a k = absurd cc
    freed (Arrive w u n) a k = absurd cc
    freed (End w u ns) a k = absurd cc
    freed (Clean w u) a k = a.2.can.parents_ended t (proper.cleans_after u t g k m)
    freed (Fail w u c ns) a k = absurd cc

    test_has : (b : Bool) (n : ℕ) → is_some (cond b (Some n) None) ≡ true → b ≡ true
    test_has true n h = refl
    test_has false n h = absurd cc

    size_has : (xs ns : List ℕ) → is_some (size_among xs ns g) ≡ true → has xs g ≡ true
    size_has [] ns h = absurd cc
    size_has (y ∷ xs) [] h = absurd cc
    size_has (y ∷ xs) (n ∷ ns) h = by_test (eqb y g) (size_has xs ns) h
      where
        by_test : (b : Bool) → (is_some (size_among xs ns g) ≡ true → has xs g ≡ true) → is_some (cond b (Some n) (size_among xs ns g)) ≡ true → (b || has xs g) ≡ true
        by_test true less k = refl
        by_test false less k = less k

    is_it : (u : ℕ) → has (makes p u) g ≡ true → eqb u t ≡ true
    is_it u k = let at : u ≡ t = proper.one_maker u t g k m in subst (λ (n : ℕ). eqb u n ≡ true) at (self u)

    stored_by : (d : Event) → is_some (stores p g d) ≡ true → ends t d ≡ true
    stored_by (Grant w u) k = absurd cc
    stored_by (Regrant w u) k = absurd cc
    stored_by (Again w u c ns) k = absurd cc
    stored_by (Arrive w u n) k = is_it u (test_has (has (makes p u) g) n k)
    stored_by (End w u ns) k = is_it u (size_has (makes p u) ns k)
    stored_by (Clean w u) k = absurd cc
    stored_by (Fail w u c ns) k = absurd cc

or_else_assoc : (x y z : Option ℕ) → or_else (or_else x y) z ≡ or_else x (or_else y z)
or_else_assoc None y z = refl
or_else_assoc (Some n) y z = refl

read_held : (p : Plan) → HasStorageLaws p → (s : State) (r : List Event) (g : ℕ) (f : Bool) (x : Option ℕ) (v : Bool) → IsSoundState p s → LegalFrom p s r → s.held g ≡ held_by f x v (good_size p g)
    → ((f || is_some x) ≡ true → (t : ℕ) → has (makes p t) g ≡ true → ended (s.phase t) ≡ true)
    → (now_from p s r).held g ≡ held_by (f || list_any (frees p g) r) (or_else x (stored p r g)) (v || list_any (reserves p g) r) (good_size p g)
read_held p proper s [] g f x v sound legal h old = same_held f x v (good_size p g) (s.held g) h
read_held p proper s (e ∷ r) g f x v sound legal h old =
    read_held p proper (after p s e) r g (f || frees p g e) (or_else x (stores p g e)) (v || reserves p g e) (sound_more p s e proper sound legal.0) legal.1
    (held_step p s e g f x v sound legal.0 h old) (spent_step p s e g f x proper sound legal.0 old)
    ∙ ap (λ (c : Bool). held_by c (or_else (or_else x (stores p g e)) (stored p r g)) ((v || reserves p g e) || list_any (reserves p g) r) (good_size p g)) (any_from (frees p g) r e f)
    ∙ ap (λ (c : Option ℕ). held_by (f || list_any (frees p g) (e ∷ r)) c ((v || reserves p g e) || list_any (reserves p g) r) (good_size p g)) (or_else_assoc x (stores p g e) (stored p r g))
    ∙ ap (λ (c : Bool). held_by (f || list_any (frees p g) (e ∷ r)) (or_else x (stored p (e ∷ r) g)) c (good_size p g)) (any_from (reserves p g) r e v)

-- the state after a Legal record says what its list says
pub record_reads : (p : Plan) (order : List ℕ) (r : List Event) → HasStorageLaws p → FitsFromStart p order → Legal p order r → IsRead p r (now p order r)
record_reads p order r proper fit legal = record {
  held = λ g. read_held p proper (opened order) r g false None false sound legal refl (λ h. absurd cc);
  ended = λ t. (read_phase p proper (opened order) r t false false sound legal refl refl).0;
  runs = λ t. (read_phase p proper (opened order) r t false false sound legal refl refl).1 ∙ ap (λ (c : Bool). c && not (list_any (ends t) r)) (granted_none t r);
  holder = λ t. read_holder p (opened order) r t ∙ holder_none (last_of (grants t) r);
  failed = λ t. read_failed p (opened order) r t false refl;
  failing = read_failing p (opened order) r false refl;
  agains = λ t. read_agains p (opened order) r t ∙ (let n = length (filter (again_of t) r) in omega arith);
}
  where
    sound : IsSoundState p (opened order)
    sound = sound_opened p order fit
