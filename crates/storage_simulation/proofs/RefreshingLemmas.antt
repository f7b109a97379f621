-- What is told of tasks, and the best of homes, made anew for some tasks.
use Rattle.std.proofs.Common.{◌≡◌, ◌≢◌, ℕ, ◌+◌, ◌<◌, ◌≤◌, ◌&&◌, ◌⊎◌, inl, inr, Bool, true, false, cond, nat_eq, eqb-true, List, [], ◌∷◌, ◌++◌, length, take, get_or, refl, sym, ap, subst, ◌∙◌, arith}
use Rattle.std.specs.Prelude.{Option, Some, None}
use Rattle.std.proofs.lemmas.Bool.{eqb-false}
use Rattle.std.proofs.lemmas.List.{take_all}
use Rattle.tournament_tree.specs.declared.tree.Key.{Key}
use Rattle.tournament_tree.specs.Tree.{entry}
use Rattle.plan_core.specs.declared.plan.Plan.{Plan}
use Rattle.plan_core.specs.Numbers.{has}
use Rattle.plan_core.specs.Words.{count_tasks, parents}
use Rattle.storage_simulation.specs.declared.index.Index.{Index}
use Rattle.storage_simulation.specs.code.Front.{missing}
use Rattle.storage_simulation.specs.code.Goods.{place}
use Rattle.storage_simulation.specs.code.Index.{AreBestsBut, AreGoes, AreOwnBests, IsApart, IsAway, IsBestAt, IsKeyed, IsLast, IsSettled, IsToldBut, home, homes, ready_key, told}
use Rattle.storage_simulation.specs.Ordering.{Progress, frees}
use Rattle.storage_simulation.proofs.FollowingLemmas.{front_more, or_case}
use Rattle.storage_simulation.proofs.StepsLemmas.{any_more}
use Rattle.storage_simulation.proofs.UpkeepLemmas.{raise_none}

abbrev pub IsTold1 : Plan → Progress → List ℕ → Index → Index → ℕ → Type 0
IsTold1 p st front old new t = (u : ℕ) → u < count_tasks p → told new u ≡ cond (nat_eq u t) (ready_key p st front t) (told old u)

none_last : (h m : Bool) (x : ℕ) → (h ≡ true → ⊥) → cond (h && m) x 0 ≡ 0
none_last true m x f = absurd (f refl)
none_last false m x f = refl

pub touched_ready : (p : Plan) (st : Progress) (front : List ℕ) (old new : Index) (t : ℕ) → IsTold1 p st front old new t → missing p st front t ≡ 0 → IsToldBut p st front old new (λ c. nat_eq c t)
touched_ready p st front old new t one none u l = by_task (nat_eq u t) refl
  where
    by_task : (b : Bool) → nat_eq u t ≡ b → (told new u ≡ ready_key p st front u) ⊎ ((told new u ≡ told old u) × ((c : ℕ) → nat_eq c t ≡ true → IsApart p st front c u))
    by_task true e = inl (one u l ∙ ap (λ (b : Bool). cond b (ready_key p st front t) (told old u)) e ∙ ap (ready_key p st front) (sym (eqb-true u t e)))
    by_task false e = inr (
      one u l ∙ ap (λ (b : Bool). cond b (ready_key p st front t) (told old u)) e,
      λ c m. (λ same. absurd (eqb-false u t e (same ∙ eqb-true c t m)), λ w. raise_none p st front c u (λ k. let z = ap (missing p st front) (eqb-true c t m) in omega (arith, k, z, none))),
    )

pub touched_last : (p : Plan) (st : Progress) (front : List ℕ) (old new : Index) (t v : ℕ) → IsTold1 p st front old new v → missing p st front t ≡ 1 → IsLast p st front t v → IsToldBut p st front old new (λ c. nat_eq c t)
touched_last p st front old new t v one single last u l = by_last (nat_eq u v) refl
  where
    by_last : (b : Bool) → nat_eq u v ≡ b → (told new u ≡ ready_key p st front u) ⊎ ((told new u ≡ told old u) × ((c : ℕ) → nat_eq c t ≡ true → IsApart p st front c u))
    by_last true e = inl (one u l ∙ ap (λ (b : Bool). cond b (ready_key p st front v) (told old u)) e ∙ ap (ready_key p st front) (sym (eqb-true u v e)))
    by_last false e = inr (
      one u l ∙ ap (λ (b : Bool). cond b (ready_key p st front v) (told old u)) e,
      λ c m. (
        λ same k. let z = ap (missing p st front) (eqb-true c t m) in omega (arith, k, z, single),
        λ w. none_last (has (parents p c) u) (nat_eq (missing p st front c) 1) (frees p st c) (λ h. eqb-false u v e (last.alone u (ap (λ (n : ℕ). has (parents p n) u) (sym (eqb-true c t m)) ∙ h) w)),
      ),
    )

pub touched_none : (p : Plan) (st : Progress) (front : List ℕ) (old : Index) (t : ℕ) → (missing p st front t ≡ 0 → ⊥) → (missing p st front t ≡ 1 → ⊥) → IsToldBut p st front old old (λ c. nat_eq c t)
touched_none p st front old t a b u l = inr (
  refl,
  λ c m. (
    λ same k. a (ap (missing p st front) (sym (eqb-true c t m)) ∙ k),
    λ w. raise_none p st front c u (λ k. b (ap (missing p st front) (sym (eqb-true c t m)) ∙ k)),
  ),
)

flip : (a b : ℕ) → nat_eq a b ≡ nat_eq b a
flip a b = grind arith

pub told_more : (p : Plan) (st : Progress) (front : List ℕ) (a b c : Index) (xs : List ℕ) (x : ℕ) → IsToldBut p st front a b (has xs) → IsToldBut p st front b c (λ n. nat_eq n x) → IsToldBut p st front a c (has (xs ++ x ∷ []))
told_more p st front a b c xs x one two u l = by_two (two u l)
  where
    by_one : told c u ≡ told b u → ((n : ℕ) → nat_eq n x ≡ true → IsApart p st front n u) → (told b u ≡ ready_key p st front u) ⊎ ((told b u ≡ told a u) × ((n : ℕ) → has xs n ≡ true → IsApart p st front n u)) → (told c u ≡ ready_key p st front u) ⊎ ((told c u ≡ told a u) × ((n : ℕ) → has (xs ++ x ∷ []) n ≡ true → IsApart p st front n u))
    by_one same apart (inl e) = inl (same ∙ e)
    by_one same apart (inr r) = inr (same ∙ r.0, λ n m. or_case (has xs n) (nat_eq x n) (sym (any_more (λ y. nat_eq y n) xs x) ∙ m) (λ h. r.1 n h) (λ h. apart n (flip n x ∙ h)))

    by_two : (told c u ≡ ready_key p st front u) ⊎ ((told c u ≡ told b u) × ((n : ℕ) → nat_eq n x ≡ true → IsApart p st front n u)) → (told c u ≡ ready_key p st front u) ⊎ ((told c u ≡ told a u) × ((n : ℕ) → has (xs ++ x ∷ []) n ≡ true → IsApart p st front n u))
    by_two (inl e) = inl e
    by_two (inr r) = by_one r.0 r.1 (one u l)

pub told_next : (p : Plan) (st : Progress) (front : List ℕ) (a b c : Index) (tasks : List ℕ) (i : ℕ) → i < length tasks → IsToldBut p st front a b (has (take i tasks)) → IsToldBut p st front b c (λ n. nat_eq n (get_or tasks i 0)) → IsToldBut p st front a c (has (take (i + 1) tasks))
told_next p st front a b c tasks i l one two = subst (λ (xs : List ℕ). IsToldBut p st front a c (has xs)) (sym (front_more tasks i l)) (told_more p st front a b c (take i tasks) (get_or tasks i 0) one two)

none_has : (P : Type 0) (c : ℕ) → has [] c ≡ true → P
none_has P c h = absurd cc

pub told_start : (p : Plan) (st : Progress) (front : List ℕ) (a : Index) (tasks : List ℕ) → IsToldBut p st front a a (has (take 0 tasks))
told_start p st front a [] u l = inr (refl, λ c m. none_has (IsApart p st front c u) c m)
told_start p st front a (t ∷ ts) u l = inr (refl, λ c m. none_has (IsApart p st front c u) c m)

pub told_end : (p : Plan) (st : Progress) (front : List ℕ) (a b : Index) (tasks : List ℕ) (i : ℕ) → length tasks ≤ i → IsToldBut p st front a b (has (take i tasks)) → IsToldBut p st front a b (has tasks)
told_end p st front a b tasks i l so = subst (λ (xs : List ℕ). IsToldBut p st front a b (has xs)) (take_all i tasks l) so

pub keyed_none : (a : Index) → IsKeyed a a
keyed_none a = record { spots = refl; slots = refl; best = refl; comes = refl; goes = refl }

pub keyed_more : (a b c : Index) → IsKeyed a b → IsKeyed b c → IsKeyed a c
keyed_more a b c x y = record { spots = y.spots ∙ x.spots; slots = y.slots ∙ x.slots; best = y.best ∙ x.best; comes = y.comes ∙ x.comes; goes = y.goes ∙ x.goes }

pub settled_none : (a : Index) → IsSettled a a
settled_none a = record { spots = refl; slots = refl; keys = refl; comes = refl; goes = refl }

pub settled_more : (a b c : Index) → IsSettled a b → IsSettled b c → IsSettled a c
settled_more a b c x y = record { spots = y.spots ∙ x.spots; slots = y.slots ∙ x.slots; keys = y.keys ∙ x.keys; comes = y.comes ∙ x.comes; goes = y.goes ∙ x.goes }

pub goes_keyed : (p : Plan) (st : Progress) (front : List ℕ) (a b : Index) → IsKeyed a b → AreGoes p st front a.goes.items → AreGoes p st front b.goes.items
goes_keyed p st front a b k is = subst (λ v. AreGoes p st front v.items) (sym k.goes) is

pub told_settled : (a b : Index) (u : ℕ) → IsSettled a b → told b u ≡ told a u
told_settled a b u s = ap (λ t. entry t.rows.items 0 (get_or b.slots.items u 0)) s.keys ∙ ap (λ v. entry a.keys.rows.items 0 (get_or v.items u 0)) s.slots

-- the whole of a rekeying
pub all_told : (p : Plan) (st : Progress) (front : List ℕ) (old mid new : Index) (t : ℕ) (children : List ℕ) → IsTold1 p st front old mid t → IsToldBut p st front mid new (has children)
    → ((u : ℕ) → u < count_tasks p → u ≢ t → ((c : ℕ) → has children c ≡ true → IsApart p st front c u) → told old u ≡ ready_key p st front u) → (u : ℕ) → u < count_tasks p → told new u ≡ ready_key p st front u
all_told p st front old mid new t children one but kept u l = by_but (but u l)
  where
    by_task : (b : Bool) → nat_eq u t ≡ b → ((c : ℕ) → has children c ≡ true → IsApart p st front c u) → told mid u ≡ ready_key p st front u
    by_task true e apart = one u l ∙ ap (λ (b : Bool). cond b (ready_key p st front t) (told old u)) e ∙ ap (ready_key p st front) (sym (eqb-true u t e))
    by_task false e apart = one u l ∙ ap (λ (b : Bool). cond b (ready_key p st front t) (told old u)) e ∙ kept u l (eqb-false u t e) apart

    by_but : (told new u ≡ ready_key p st front u) ⊎ ((told new u ≡ told mid u) × ((c : ℕ) → has children c ≡ true → IsApart p st front c u)) → told new u ≡ ready_key p st front u
    by_but (inl e) = e
    by_but (inr r) = r.0 ∙ by_task (nat_eq u t) refl r.1

-- the best of homes
abbrev pub best_at : Index → ℕ → Option Key
best_at ix h = entry ix.best.rows.items 0 h

abbrev Or : Plan → Progress → List ℕ → Index → Index → (ℕ → Bool) → ℕ → Type 0
Or p st front old new among h = IsBestAt p st front h (best_at new h) ⊎ ((best_at new h ≡ best_at old h) × ((c : ℕ) → among c ≡ true → IsAway p st front c h))

pub settled_ready : (p : Plan) (st : Progress) (front : List ℕ) (old new : Index) (t at : ℕ) → at ≡ home p t → IsBestAt p st front at (best_at new at) → ((h : ℕ) → h ≢ at → best_at new h ≡ best_at old h) → missing p st front t ≡ 0 → AreBestsBut p st front old new (λ c. nat_eq c t)
settled_ready p st front old new t at is here others none h l = by_home (nat_eq h at) refl
  where
    by_home : (b : Bool) → nat_eq h at ≡ b → Or p st front old new (λ c. nat_eq c t) h
    by_home true e = inl (subst (λ (n : ℕ). IsBestAt p st front n (best_at new n)) (sym (eqb-true h at e)) here)
    by_home false e = inr (
      others h (eqb-false h at e),
      λ c m. (λ there. absurd (eqb-false h at e (sym there ∙ ap (home p) (eqb-true c t m) ∙ sym is)), λ u one last. absurd (let z = ap (missing p st front) (eqb-true c t m) in omega (arith, one, z, none))),
    )

pub settled_last : (p : Plan) (st : Progress) (front : List ℕ) (old new : Index) (t v at : ℕ) → at ≡ home p v → IsBestAt p st front at (best_at new at) → ((h : ℕ) → h ≢ at → best_at new h ≡ best_at old h) → missing p st front t ≡ 1 → IsLast p st front t v → AreBestsBut p st front old new (λ c. nat_eq c t)
settled_last p st front old new t v at is here others single last h l = by_home (nat_eq h at) refl
  where
    by_home : (b : Bool) → nat_eq h at ≡ b → Or p st front old new (λ c. nat_eq c t) h
    by_home true e = inl (subst (λ (n : ℕ). IsBestAt p st front n (best_at new n)) (sym (eqb-true h at e)) here)
    by_home false e = inr (
      others h (eqb-false h at e),
      λ c m. (
        λ there k. let z = ap (missing p st front) (eqb-true c t m) in omega (arith, k, z, single),
        λ u one lu there. eqb-false h at e (sym there ∙ ap (home p) (last.alone u (ap (λ (n : ℕ). has (parents p n) u) (sym (eqb-true c t m)) ∙ lu.parent) lu.waits) ∙ sym is),
      ),
    )

pub settled_else : (p : Plan) (st : Progress) (front : List ℕ) (old : Index) (t : ℕ) → (missing p st front t ≡ 0 → ⊥) → (missing p st front t ≡ 1 → ⊥) → AreBestsBut p st front old old (λ c. nat_eq c t)
settled_else p st front old t a b h l = inr (
  refl,
  λ c m. (λ there k. a (ap (missing p st front) (sym (eqb-true c t m)) ∙ k), λ u one last. absurd (b (ap (missing p st front) (sym (eqb-true c t m)) ∙ one))),
)

pub bests_more : (p : Plan) (st : Progress) (front : List ℕ) (a b c : Index) (xs : List ℕ) (x : ℕ) → AreBestsBut p st front a b (has xs) → AreBestsBut p st front b c (λ n. nat_eq n x) → AreBestsBut p st front a c (has (xs ++ x ∷ []))
bests_more p st front a b c xs x one two h l = by_two (two h l)
  where
    by_one : best_at c h ≡ best_at b h → ((n : ℕ) → nat_eq n x ≡ true → IsAway p st front n h) → Or p st front a b (has xs) h → Or p st front a c (has (xs ++ x ∷ [])) h
    by_one same away (inl e) = inl (subst (IsBestAt p st front h) (sym same) e)
    by_one same away (inr r) = inr (same ∙ r.0, λ n m. or_case (has xs n) (nat_eq x n) (sym (any_more (λ y. nat_eq y n) xs x) ∙ m) (λ k. r.1 n k) (λ k. away n (flip n x ∙ k)))

    by_two : Or p st front b c (λ n. nat_eq n x) h → Or p st front a c (has (xs ++ x ∷ [])) h
    by_two (inl e) = inl e
    by_two (inr r) = by_one r.0 r.1 (one h l)

pub bests_next : (p : Plan) (st : Progress) (front : List ℕ) (a b c : Index) (tasks : List ℕ) (i : ℕ) → i < length tasks → AreBestsBut p st front a b (has (take i tasks)) → AreBestsBut p st front b c (λ n. nat_eq n (get_or tasks i 0)) → AreBestsBut p st front a c (has (take (i + 1) tasks))
bests_next p st front a b c tasks i l one two = subst (λ (xs : List ℕ). AreBestsBut p st front a c (has xs)) (sym (front_more tasks i l)) (bests_more p st front a b c (take i tasks) (get_or tasks i 0) one two)

pub bests_start : (p : Plan) (st : Progress) (front : List ℕ) (a : Index) (tasks : List ℕ) → AreBestsBut p st front a a (has (take 0 tasks))
bests_start p st front a [] h l = inr (refl, λ c m. none_has (IsAway p st front c h) c m)
bests_start p st front a (t ∷ ts) h l = inr (refl, λ c m. none_has (IsAway p st front c h) c m)

pub bests_end : (p : Plan) (st : Progress) (front : List ℕ) (a b : Index) (tasks : List ℕ) (i : ℕ) → length tasks ≤ i → AreBestsBut p st front a b (has (take i tasks)) → AreBestsBut p st front a b (has tasks)
bests_end p st front a b tasks i l so = subst (λ (xs : List ℕ). AreBestsBut p st front a b (has xs)) (take_all i tasks l) so

-- a task's own homes are set
abbrev Own : Plan → Progress → List ℕ → Index → Index → ℕ → ℕ → Type 0
Own p st front old new t h = IsBestAt p st front h (best_at new h) ⊎ ((best_at new h ≡ best_at old h) × (h ≢ home p t) × (place p t ≡ Some h → ⊥))

some_one : (m n : ℕ) → Some m ≡ Some n → m ≡ n
some_one m n e = cc

pub own_one : (p : Plan) (st : Progress) (front : List ℕ) (old one : Index) (t a : ℕ) → a ≡ home p t → place p t ≡ None → IsBestAt p st front a (best_at one a) → ((h : ℕ) → h ≢ a → best_at one h ≡ best_at old h) → AreOwnBests p st front old one t
own_one p st front old one t a is at here others h l = by_first (nat_eq h a) refl
  where
    by_first : (x : Bool) → nat_eq h a ≡ x → Own p st front old one t h
    by_first true e = inl (subst (λ (n : ℕ). IsBestAt p st front n (best_at one n)) (sym (eqb-true h a e)) here)
    by_first false e = inr (others h (eqb-false h a e), λ k. eqb-false h a e (k ∙ sym is), λ k. absurd (let x = sym at ∙ k in cc))

pub own_two : (p : Plan) (st : Progress) (front : List ℕ) (old one two : Index) (t a b : ℕ) → a ≡ home p t → place p t ≡ Some b → IsBestAt p st front a (best_at one a) → ((h : ℕ) → h ≢ a → best_at one h ≡ best_at old h) → IsBestAt p st front b (best_at two b) → ((h : ℕ) → h ≢ b → best_at two h ≡ best_at one h)
    → AreOwnBests p st front old two t
own_two p st front old one two t a b is at here others there rest h l = by_second (nat_eq h b) refl
  where
    by_first : (x : Bool) → nat_eq h a ≡ x → h ≢ b → Own p st front old two t h
    by_first true e off = inl (subst (IsBestAt p st front h) (sym (rest h off)) (subst (λ (n : ℕ). IsBestAt p st front n (best_at one n)) (sym (eqb-true h a e)) here))
    by_first false e off = inr (rest h off ∙ others h (eqb-false h a e), λ k. eqb-false h a e (k ∙ sym is), λ k. off (some_one h b (sym k ∙ at)))

    by_second : (x : Bool) → nat_eq h b ≡ x → Own p st front old two t h
    by_second true e = inl (subst (λ (n : ℕ). IsBestAt p st front n (best_at two n)) (sym (eqb-true h b e)) there)
    by_second false e = by_first (nat_eq h a) refl (eqb-false h b e)

pub bests_all : (p : Plan) (st : Progress) (front : List ℕ) (old mid new : Index) (t : ℕ) (children : List ℕ) → AreOwnBests p st front old mid t → AreBestsBut p st front mid new (has children)
    → ((h : ℕ) → h < homes p → h ≢ home p t → (place p t ≡ Some h → ⊥) → ((c : ℕ) → has children c ≡ true → IsAway p st front c h) → IsBestAt p st front h (best_at old h)) → (h : ℕ) → h < homes p → IsBestAt p st front h (best_at new h)
bests_all p st front old mid new t children own but kept h l = by_but (but h l)
  where
    by_own : ((c : ℕ) → has children c ≡ true → IsAway p st front c h) → Own p st front old mid t h → IsBestAt p st front h (best_at mid h)
    by_own away (inl e) = e
    by_own away (inr r) = subst (IsBestAt p st front h) (sym r.0) (kept h l r.1 r.2 away)

    by_but : Or p st front mid new (has children) h → IsBestAt p st front h (best_at new h)
    by_but (inl e) = e
    by_but (inr r) = subst (IsBestAt p st front h) (sym r.0) (by_own r.1 (own h l))
