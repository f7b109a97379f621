-- What keeps the rule: at the start, where one view changes, where a number is added, and at the end.
use Rattle.std.proofs.Common.{◌≡◌, ◌≢◌, ℕ, ◌+◌, ◌%◌, ◌^◌, ◌<◌, ◌≤◌, ◌==◌, ◌||◌, ◌⊎◌, List, [], ◌∷◌, ◌++◌, length, set, get_or, true, false, Some, refl, sym, ap, ◌∙◌, subst, inl, inr, ⊎_elim, arith, length-set, true≢false}
use Rattle.std.specs.Prelude.{Option, All}
use Rattle.std.specs.List.{count_by}
use mathlib.Core.Option.{some, none, some-injective}
use mathlib.Core.List.{IsPrefix}
use mathlib.Core.Logic.{dite}
use native.Mathlib.Decide.{ℕ_discrete}
use lib.ListN.{get_elem?}
use Rattle.atomic_table.specs.Table.{State, Me, opening, Final, Seen}
use Rattle.atomic_table.proofs.Lists.{at_longer, set_else}
use Rattle.ruled_lock.specs.declared.view.View.{View}
use Rattle.ruled_lock.specs.declared.view.Stage.{Stage}
use Rattle.ruled_lock.specs.declared.view.Stage.TheVariants.{Idle, Turn}
use Rattle.ruled_lock.specs.Chronicle.{items_of}
use Rattle.ruled_lock.specs.Rule.{Agrees, IsKept}
use Rattle.ruled_lock.specs.Steps.{staged}
use Rattle.ruled_lock.specs.View.{compares, is_live, is_resting, lists, names, newcomer, ticket, tickets, waiting}
use Rattle.ruled_lock.proofs.ListLemmas.{all_cons, all_none, at_there, not_below, only, set_all, set_at}
use Rattle.ruled_lock.proofs.OwnerLemmas.{count_all, count_snoc, hit, hit_none}
use Rattle.ruled_lock.proofs.ViewLemmas.{names_one, names_self, waiting_set}

module _ {C G I : Type 0} (charter : C → G) (journal : C → List I) (author : I → ℕ) (g : G) where
  abbrev pub St : Type 0
  St = State (Option C) (View G I)

  abbrev pub M : Type 0
  M = Me (Option C) (View G I)

  abbrev pub Rule : St → Type 0
  Rule = IsKept charter journal author g

  abbrev pub Agree : List I → ℕ → ℕ → List ℕ → ℕ → View G I → Type 0
  Agree = Agrees charter journal author g

  abbrev pub Home : List I → St → Type 0
  Home log s = ((x : C) × (s.homes ≡ some (Some x) ∷ []) × (charter x ≡ g) × (journal x ≡ log))
      ⊎ ((s.homes ≡ none ∷ []) × ((j : ℕ) × (v : View G I) × (t : ℕ) × (get_elem? s.views j ≡ some v) × (v.stage ≡ Turn t log)))

  -- a pass that stands for the same numbers is a pass of the same place
  abbrev pub Alike : View G I → View G I → Type 0
  Alike v w = (w.worker ≡ v.worker) × (w.joined ≡ v.joined) × (is_live w.stage ≡ true)

  pub names_alike : (v w : View G I) (k : ℕ) → Alike v w → names k (lists v) ≡ true → names k (lists w) ≡ true
  names_alike v w k a e = subst (λ (x : ℕ × List (ℕ × List I)). ((x.0 == k) || names k x.1) ≡ true) (λ i. (sym a.0 i, sym a.1 i)) e

  -- a step after which the pass id has the view w, the number served is n, and the journal is log
  pub moved : (s : St) (r : Rule s) (id : ℕ) (v w : View G I) (n : ℕ) (log : List I) (ws : List ℕ) (hs : _) → get_elem? s.views id ≡ some v → Alike v w
      → ws ≡ ((n + waiting (set s.views id w)) % 2 ^ 64) ∷ (n % 2 ^ 64) ∷ []
      → Home log record { words = ws; homes = hs; views = set s.views id w }
      → Agree log n (n + waiting (set s.views id w)) r.owners id w
      → ((j : ℕ) (d : View G I) → j ≢ id → get_elem? s.views j ≡ some d → is_live d.stage ≡ true → Agree r.log r.served (r.served + waiting s.views) r.owners j d → Agree log n (n + waiting (set s.views id w)) r.owners j d)
      → ((j t : ℕ) (d : View G I) → j ≢ id → get_elem? s.views j ≡ some d → ticket w.stage ≡ Some t → ticket d.stage ≡ Some t → ⊥)
      → ((k : ℕ) → length r.owners ≤ k → items_of author k log ≡ [])
      → Rule record { words = ws; homes = hs; views = set s.views id w }
  moved s r id v w n log ws hs at alike words home mine others apart later = record {
    log = log;
    served = n;
    owners = r.owners;
    words = words;
    few = let same : length (set s.views id w) ≡ length s.views = length-set s.views id w in let f = r.few in omega arith;
    owned = r.owned ∙ sym (length-set s.views id w);
    home = home;
    fits = set_all (λ j d. is_live d.stage ≡ true → Agree log n (n + waiting (set s.views id w)) r.owners j d) s.views id w (λ _. mine) (λ j d other e live. others j d other e live (r.fits j d e live));
    apart = λ i j t x y ex ey tx ty.
        set_all (λ i x. ticket x.stage ≡ Some t → i ≡ j) s.views id w
        (λ mt. set_all (λ j y. ticket y.stage ≡ Some t → id ≡ j) s.views id w (λ _. refl) (λ j d other e dt. absurd (apart j t d other e mt dt)) j y ey ty)
        (λ i d other e dt. set_all (λ j y. ticket y.stage ≡ Some t → i ≡ j) s.views id w (λ mt. absurd (apart i t d other e mt dt)) (λ j f _ e' ft. r.apart i j t d f e e' dt ft) j y ey ty)
        i x ex tx;
    covers = λ k j e.
        let c = r.covers k j e in
        dite (ℕ_discrete j id)
        (λ is. (w, subst (λ i. get_elem? (set s.views id w) i ≡ some w) (sym is) (set_at s.views id v w at), alike.2, names_alike v w k alike (subst (λ (x : View G I). names k (lists x) ≡ true) (some-injective c.0 v (sym c.1 ∙ (ap (get_elem? s.views) is ∙ at))) c.3)))
        (λ other. (c.0, set_else s.views id j w other ∙ c.1, c.2, c.3));
    later = later;
  }

  -- what a pass knows stays, where the journal and the number served do
  abbrev pub keeps_fit : (log : List I) (n a b : ℕ) (os : List ℕ) (j : ℕ) (d : View G I) → a ≤ b → Agree log n a os j d → Agree log n b os j d
  keeps_fit log n a b os j d le f = record {
    worker = f.worker;
    same = f.same;
    seen = f.seen;
    mine = f.mine;
    whole = f.whole;
    count = f.count;
    ticket_in = λ t e. let q = f.ticket_in t e in let l = q.0 in let m = q.1 in (l, omega arith);
    turn = f.turn;
    other = f.other;
    alone = f.alone;
    named = f.named;
    owns = f.owns;
  }

  -- what a pass knows stays, where one more number is given
  pub grown : (log : List I) (n a b : ℕ) (os : List ℕ) (m j : ℕ) (d e : View G I) → a ≡ b → e.worker ≡ d.worker → e.charter ≡ d.charter → e.seen ≡ d.seen → e.mine ≡ d.mine → e.joined ≡ d.joined → e.stage ≡ d.stage
      → (e.count ≢ 0 → (e.count ≡ length (os ++ m ∷ [])) × (get_elem? (os ++ m ∷ []) 0 ≡ some j)) → (m ≢ j) → Agree log n a os j d → Agree log n b (os ++ m ∷ []) j e
  grown log n a b os m j d e ab en ec es em ej est count apart f = record {
    worker = en ∙ f.worker;
    same = ec ∙ f.same;
    seen = subst (λ l. IsPrefix l log) (sym es) f.seen;
    mine = ap (items_of author j) es ∙ (f.mine ∙ sym em);
    whole = subst (λ (x : ℕ × List I × List (ℕ × List I)). All (λ (p : ℕ × List I). items_of author p.0 log ≡ p.1) ((x.0, x.1) ∷ x.2)) (λ i. (sym en i, sym em i, sym ej i)) f.whole;
    count = count;
    ticket_in = λ t h. let q = f.ticket_in t (ap ticket (sym est) ∙ h) in let l = q.0 in let u = q.1 in (l, omega arith);
    turn = λ t xs h. f.turn t xs (sym est ∙ h);
    other = subst (λ st. IsPrefix (compares st) log) (sym est) f.other;
    alone = (λ i. names (en i) (ej i)) ∙ f.alone;
    named = λ k h. at_longer os (m ∷ []) k j (f.named k (subst (λ (x : ℕ × List (ℕ × List I)). ((x.0 == k) || names k x.1) ≡ true) (λ i. (en i, ej i)) h));
    owns = let c : count_by (λ o. o == j) (os ++ m ∷ []) ≡ count_by (λ o. o == j) os + hit m j = count_snoc j os m in let z : hit m j ≡ 0 = hit_none m j apart in let o = f.owns in
        let l : length (lists e) ≡ length (lists d) = ap (λ (q : List (ℕ × List I)). length ((0, []) ∷ q)) ej in let goal : count_by (λ o. o == j) (os ++ m ∷ []) ≡ length (lists e) = omega arith in goal;
  }

  -- the same pass at another stage
  pub restaged : (log : List I) (n a b : ℕ) (os : List ℕ) (j : ℕ) (d : View G I) (st : Stage I)
      → ((t : ℕ) → ticket st ≡ Some t → (n ≤ t) × (t < b)) → ((t : ℕ) (xs : List I) → st ≡ Turn t xs → (t ≡ n) × (xs ≡ log)) → IsPrefix (compares st) log
      → Agree log n a os j d → Agree log n b os j (staged d st)
  restaged log n a b os j d st tin turn other f = record {
    worker = f.worker;
    same = f.same;
    seen = f.seen;
    mine = f.mine;
    whole = f.whole;
    count = f.count;
    ticket_in = tin;
    turn = turn;
    other = other;
    alone = f.alone;
    named = f.named;
    owns = f.owns;
  }

  -- a load leaves the words
  pub words_stay : (s : St) (r : Rule s) (i id : ℕ) (v w : View G I) → get_elem? s.views id ≡ some v → tickets w.stage ≡ tickets v.stage → (set s.words i (get_or s.words i 0)) ≡ s.words
      → set s.words i (get_or s.words i 0) ≡ ((r.served + waiting (set s.views id w)) % 2 ^ 64) ∷ (r.served % 2 ^ 64) ∷ []
  words_stay s r i id v w at same back =
      let sums = waiting_set s.views id v w at in
      let so : waiting (set s.views id w) ≡ waiting s.views = omega arith in
      back ∙ (r.words ∙ ap (λ n. ((r.served + n) % 2 ^ 64) ∷ (r.served % 2 ^ 64) ∷ []) (sym so))

  -- the value is where it was, after a step of a pass without the turn
  pub home_set : (log : List I) (s : St) (id : ℕ) (v w : View G I) → get_elem? s.views id ≡ some v → is_resting v.stage ≡ true → (ws : List ℕ) → Home log s → Home log record { words = ws; homes = s.homes; views = set s.views id w }
  home_set log s id v w at rests ws h =
      ⊎_elim (λ h. inl h)
      (λ (h : (s.homes ≡ none ∷ []) × ((j : ℕ) × (x : View G I) × (t : ℕ) × (get_elem? s.views j ≡ some x) × (x.stage ≡ Turn t log))).
      let o = h.1 in
      let differs : o.0 ≢ id = λ is. let same : v ≡ o.1 = some-injective v o.1 (sym at ∙ (ap (get_elem? s.views) (sym is) ∙ o.3)) in absurd (true≢false (sym rests ∙ ap is_resting (ap (λ (z : View G I). z.stage) same ∙ o.4))) in
      inr (h.0, (o.0, o.1, o.2, set_else s.views id o.0 w differs ∙ o.3, o.4)))
      h

  pub home_rest : (s : St) (r : Rule s) (id : ℕ) (v w : View G I) → get_elem? s.views id ≡ some v → is_resting v.stage ≡ true → (ws : List ℕ) → Home r.log record { words = ws; homes = s.homes; views = set s.views id w }
  home_rest s r id v w at rests ws = home_set r.log s id v w at rests ws r.home

  pub home_else : (s : St) (r : Rule s) (id : ℕ) (v w : View G I) → get_elem? s.views id ≡ some v → v.stage ≡ Idle → (ws : List ℕ) → Home r.log record { words = ws; homes = s.homes; views = set s.views id w }
  home_else s r id v w at idle ws = home_rest s r id v w at (ap is_resting idle) ws

  pub home_snoc : (log : List I) (s : St) (n : View G I) → Home log s → Home log record { words = s.words; homes = s.homes; views = s.views ++ n ∷ [] }
  home_snoc log s n h =
      ⊎_elim (λ h. inl h)
      (λ (h : (s.homes ≡ none ∷ []) × ((j : ℕ) × (x : View G I) × (t : ℕ) × (get_elem? s.views j ≡ some x) × (x.stage ≡ Turn t log))).
      let o = h.1 in inr (h.0, (o.0, o.1, o.2, at_longer s.views (n ∷ []) o.0 o.1 o.3, o.4)))
      h

  -- the lock at the start
  pub begins : (x : C) → charter x ≡ g → journal x ≡ [] → Rule (opening (0 ∷ 0 ∷ []) (Some x ∷ []) (newcomer g))
  begins x is none_yet = record {
    log = [];
    served = 0;
    owners = 0 ∷ [];
    words = refl;
    few = omega arith;
    owned = refl;
    home = inl (x, refl, is, none_yet);
    fits = only (λ j d. is_live d.stage ≡ true → Agree [] 0 (0 + 0) (0 ∷ []) j d) (newcomer g) (λ _. record {
      worker = refl;
      same = refl;
      seen = ([], refl);
      mine = refl;
      whole = all_cons (λ (p : ℕ × List I). items_of author p.0 [] ≡ p.1) (0, []) [] refl (all_none (λ (p : ℕ × List I). items_of author p.0 [] ≡ p.1));
      count = λ _. (refl, refl);
      ticket_in = λ t e. absurd (cc e);
      turn = λ t xs e. absurd (cc e);
      other = ([], refl);
      alone = refl;
      named = λ k e. let os : List ℕ = 0 ∷ [] in subst (λ z. get_elem? os z ≡ some 0) (names_one {I = I} 0 k [] e) refl;
      owns = refl;
    });
    apart = λ i j t v w ev ew tv tw. only (λ i v. ticket v.stage ≡ Some t → i ≡ j) (newcomer g) (λ e. absurd (cc e)) i v ev tv;
    covers = only (λ k j. (v : View G I) × (get_elem? (newcomer g ∷ []) j ≡ some v) × (is_live v.stage ≡ true) × (names k (lists v) ≡ true)) 0 (newcomer g, refl, refl, refl);
    later = λ k _. refl;
  }

  -- what the value is at the end, where one pass stands for all numbers
  abbrev pub Ends : View G I → List (Option C) → Type 0
  Ends v xs = (x : C) × (get_elem? xs 0 ≡ some (Some x)) × (v.charter ≡ Some (charter x)) × IsPrefix v.seen (journal x) × All (λ (p : ℕ × List I). items_of author p.0 (journal x) ≡ p.1) (lists v)
      × ((k : ℕ) → names k (lists v) ≡ false → items_of author k (journal x) ≡ []) × ((k : ℕ) → v.count ≤ k → items_of author k (journal x) ≡ [])

  pub ends : (id : ℕ) (v : View G I) (ws : List ℕ) (xs : List (Option C)) → v.stage ≡ Idle → v.count ≡ length v.joined + 1 → Final (Seen Rule id v) ws xs → Ends v xs
  ends id v ws xs idle all fin =
      let s : St = fin.0 in
      let r : Rule s = fin.1.0 in
      let at : get_elem? s.views id ≡ some v = fin.1.1 in
      let f = r.fits id v at (ap is_live idle) in
      let os = r.owners in
      let has_count : v.count ≢ 0 = λ z. omega arith in
      let c = (f.count has_count).0 in
      let owns = f.owns in
      let every : (k o : ℕ) → get_elem? os k ≡ some o → o ≡ id = count_all id os (omega arith) in
      let own : (k o : ℕ) → get_elem? os k ≡ some o → names k (lists v) ≡ true = λ k o e.
      let cv = r.covers k o e in
      subst (λ (x : View G I). names k (lists x) ≡ true) (some-injective cv.0 v (sym cv.1 ∙ (ap (get_elem? s.views) (every k o e) ∙ at))) cv.3 in
      ⊎_elim
      (λ (h : (x : C) × (s.homes ≡ some (Some x) ∷ []) × (charter x ≡ g) × (journal x ≡ r.log)). (
        h.0,
        fin.4 0 (Some h.0) (ap (λ hs. get_elem? hs 0) h.1),
        f.same ∙ ap Some (sym h.2),
        subst (IsPrefix v.seen) (sym h.3) f.seen,
        subst (λ l. All (λ (p : ℕ × List I). items_of author p.0 l ≡ p.1) (lists v)) (sym h.3) f.whole,
        λ k no_name. ap (items_of author k) h.3 ∙ r.later k (not_below k (length os) (λ below. let o = at_there os k below in true≢false (sym (own k o.0 o.1) ∙ no_name))),
        λ k far. ap (items_of author k) h.3 ∙ r.later k (omega arith),
      ))
      (λ (h : (s.homes ≡ none ∷ []) × ((j : ℕ) × (x : View G I) × (t : ℕ) × (get_elem? s.views j ≡ some x) × (x.stage ≡ Turn t r.log))).
      let o = h.1 in
      let fo = r.fits o.0 o.1 o.3 (ap is_live o.4) in
      let here : o.0 ≡ id = every o.1.worker o.0 (fo.named o.1.worker (names_self o.1.worker o.1.mine o.1.joined)) in
      let same : v ≡ o.1 = some-injective v o.1 (sym at ∙ (ap (get_elem? s.views) (sym here) ∙ o.3)) in
      absurd (cc (sym idle ∙ (ap (λ (z : View G I). z.stage) same ∙ o.4))))
      r.home
