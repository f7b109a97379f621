-- The step that joins two passes keeps the rule.
use Rattle.std.proofs.Common.{◌≡◌, ◌≢◌, ℕ, ◌+◌, ◌%◌, ◌^◌, ◌==◌, List, [], ◌∷◌, ◌++◌, length, set, map, true, false, cond, leb, Some, refl, sym, ap, ◌∙◌, subst, ⊎_elim, arith, length-append, length-set, true≢false}
use Rattle.std.specs.Prelude.{Option}
use Rattle.std.specs.List.{count_by}
use Rattle.std.proofs.lemmas.List.Elements.{All-append}
use mathlib.Core.Option.{some, some-injective}
use mathlib.Core.List.{IsPrefix}
use mathlib.Core.Logic.{dite}
use native.Mathlib.Decide.{ℕ_discrete}
use lib.ListN.{get_elem?}
use Rattle.atomic_table.specs.Table.{State, Joins}
use Rattle.atomic_table.proofs.Lists.{set_else}
use Rattle.ruled_lock.specs.declared.view.View.{View}
use Rattle.ruled_lock.specs.declared.view.Stage.TheVariants.{Idle}
use Rattle.ruled_lock.specs.Chronicle.{shorter, items_of}
use Rattle.ruled_lock.specs.Rule.{Agrees, IsKept}
use Rattle.ruled_lock.specs.Steps.{both_of, spent}
use Rattle.ruled_lock.specs.View.{is_live, is_resting, lists, names, ticket, tickets, waiting}
use Rattle.ruled_lock.proofs.ChronicleLemmas.{items_squeezed, not_true}
use Rattle.ruled_lock.proofs.ListLemmas.{prefix_shorter, set_all, set_at}
use Rattle.ruled_lock.proofs.OwnerLemmas.{at_owners, count_joined, count_kept, owner_else, owner_gone, owner_of, owners_at, owners_long}
use Rattle.ruled_lock.proofs.RuleLemmas.{home_set}
use Rattle.ruled_lock.proofs.ViewLemmas.{longer_of, names_append, names_back, names_front, names_self, waiting_set}

module _ {C G I : Type 0} (charter : C → G) (journal : C → List I) (author : I → ℕ) (g : G) where
  abbrev St : Type 0
  St = State (Option C) (View G I)

  abbrev Rule : St → Type 0
  Rule = IsKept charter journal author g

  abbrev Agree : List I → ℕ → ℕ → List ℕ → ℕ → View G I → Type 0
  Agree = Agrees charter journal author g

  -- what another pass knows stays, where the numbers of the pass `gone` go to the pass id
  reowned : (log : List I) (n a b : ℕ) (os : List ℕ) (id gone j : ℕ) (d : View G I) → a ≡ b → j ≢ id → j ≢ gone → Agree log n a os j d → Agree log n b (map (owner_of gone id) os) j d
  reowned log n a b os id gone j d ab ni ng f = record {
    worker = f.worker;
    same = f.same;
    seen = f.seen;
    mine = f.mine;
    whole = f.whole;
    count = λ z. let c = f.count z in (c.0 ∙ sym (owners_long gone id os), at_owners gone id os 0 j c.1 ∙ ap some (owner_else gone id j ng));
    ticket_in = λ t h. let q = f.ticket_in t h in let l = q.0 in let u = q.1 in (l, omega arith);
    turn = f.turn;
    other = f.other;
    alone = f.alone;
    named = λ k h. at_owners gone id os k j (f.named k h) ∙ ap some (owner_else gone id j ng);
    owns = count_kept gone id j os ni ng ∙ f.owns;
  }

  shorter_begins : (log xs ys : List I) → IsPrefix xs log → IsPrefix ys log → IsPrefix (shorter xs ys) log
  shorter_begins log xs ys p q = elim (leb (length ys) (length xs)) as (λ b. IsPrefix (cond b ys xs) log) [ true ↦ q | false ↦ p ]

  -- what the pass id knows, after it took in the pass `gone`
  glued : (log : List I) (n a b : ℕ) (os : List ℕ) (id gone : ℕ) (v w : View G I) → gone ≢ id → Agree log n a os id v → Agree log n a os gone w → Agree log n b (map (owner_of gone id) os) id (both_of v w)
  glued log n a b os id gone v w apart f e = record {
    worker = f.worker;
    same = f.same;
    seen = longer_of (λ l. IsPrefix l log) v.seen w.seen (λ _. f.seen) (λ _. e.seen);
    mine = longer_of (λ l. items_of author id l ≡ v.mine) v.seen w.seen (λ _. f.mine)
        (λ less. items_squeezed author id v.seen w.seen log v.mine (prefix_shorter v.seen w.seen log f.seen e.seen less) e.seen f.mine (ap (λ k. items_of author k log) (sym f.worker) ∙ f.whole 0 (0, []) (omega arith)));
    whole = All-append (λ (p : ℕ × List I). items_of author p.0 log ≡ p.1) (lists v) (lists w) f.whole e.whole;
    count = λ z. dite (ℕ_discrete v.count 0)
        (λ zero_here. let c = e.count (λ y. z (let h : v.count + w.count ≡ 0 = omega arith in h)) in let l : length (map (owner_of gone id) os) ≡ length os = owners_long gone id os in let c0 = c.0 in (omega arith, at_owners gone id os 0 gone c.1 ∙ ap some (owner_gone gone id)))
        (λ here. let c = f.count here in let l : length (map (owner_of gone id) os) ≡ length os = owners_long gone id os in let c0 = c.0 in
        let no_more : w.count ≡ 0 = dite (ℕ_discrete w.count 0) (λ q. q) (λ there. absurd (apart (some-injective gone id (sym (e.count there).1 ∙ c.1)))) in
        (omega arith, at_owners gone id os 0 id c.1 ∙ ap some (owner_else gone id id (λ q. apart (sym q)))));
    ticket_in = λ u h. absurd (cc h);
    turn = λ u xs h. absurd (cc h);
    other = shorter_begins log v.seen w.seen f.seen e.seen;
    alone = not_true (names v.worker (v.joined ++ lists w)) (λ h.
        ⊎_elim
        (λ (q : names v.worker v.joined ≡ true). true≢false (sym q ∙ f.alone))
        (λ (q : names v.worker (lists w) ≡ true). apart (some-injective gone id (sym (e.named v.worker q) ∙ f.named v.worker (names_self v.worker v.mine v.joined))))
        (names_append v.worker v.joined (lists w) h));
    named = λ k h.
        ⊎_elim
        (λ (q : names k (lists v) ≡ true). at_owners gone id os k id (f.named k q) ∙ ap some (owner_else gone id id (λ q. apart (sym q))))
        (λ (q : names k (lists w) ≡ true). at_owners gone id os k gone (e.named k q) ∙ ap some (owner_gone gone id))
        (names_append k (lists v) (lists w) h);
    owns = let c = count_joined gone id os apart in let p = f.owns in let q = e.owns in let l : length (lists v ++ lists w) ≡ length (lists v) + length (lists w) = length-append (lists v) (lists w) in
        let goal : count_by (λ o. o == id) (map (owner_of gone id) os) ≡ length (lists v ++ lists w) = omega arith in goal;
  }

  -- 7 join
  pub joins : (id : ℕ) (v : View G I) (gone : ℕ) (w : View G I) → v.stage ≡ Idle → w.stage ≡ Idle → Joins Rule id v gone w (both_of v w) spent
  joins id v gone w idle idle' s r at apart there =
      let u : View G I = both_of v w in
      let vs = set s.views id u in
      let vs' = set vs gone spent in
      let was : get_elem? s.views gone ≡ some w = sym (set_else s.views id gone u apart) ∙ there in
      let f = r.fits id v at (ap is_live idle) in
      let e = r.fits gone w was (ap is_live idle') in
      let os = r.owners in
      let os' = map (owner_of gone id) os in
      let los : length os' ≡ length os = owners_long gone id os in
      let owned = r.owned in
      let few = r.few in
      let l1 : length vs ≡ length s.views = length-set s.views id u in
      let l2 : length vs' ≡ length vs = length-set vs gone spent in
      let none_v : tickets v.stage ≡ 0 = ap tickets idle in
      let none_w : tickets w.stage ≡ 0 = ap tickets idle' in
      let sums : waiting vs + tickets v.stage ≡ waiting s.views + 0 = waiting_set s.views id v u at in
      let sums' : waiting vs' + tickets w.stage ≡ waiting vs + 0 = waiting_set vs gone w spent there in
      let so : waiting vs' ≡ waiting s.views = omega arith in
      let a : ℕ = r.served + waiting s.views in
      let b : ℕ = r.served + waiting vs' in
      record {
        log = r.log;
        served = r.served;
        owners = os';
        words = r.words ∙ ap (λ k. ((r.served + k) % 2 ^ 64) ∷ (r.served % 2 ^ 64) ∷ []) (sym so);
        few = omega arith;
        owned = omega arith;
        home = home_set charter journal author g r.log record { words = s.words; homes = s.homes; views = vs } gone w spent there (ap is_resting idle') s.words (home_set charter journal author g r.log s id v u at (ap is_resting idle) s.words r.home);
        fits = set_all (λ j d. is_live d.stage ≡ true → Agree r.log r.served b os' j d) vs gone spent (λ l. absurd (cc l))
            (λ j d ng q live. set_all (λ j d. j ≢ gone → is_live d.stage ≡ true → Agree r.log r.served b os' j d) s.views id u
            (λ _ _. glued r.log r.served a b os id gone v w apart f e)
            (λ j d ni q ng live. reowned r.log r.served a b os id gone j d (omega arith) ni ng (r.fits j d q live))
            j d q ng live);
        apart = λ i j t x y ex ey tx ty.
            set_all (λ i x. ticket x.stage ≡ Some t → i ≡ j) vs gone spent (λ q. absurd (cc q))
            (λ i x _ ex tx. set_all (λ i x. ticket x.stage ≡ Some t → i ≡ j) s.views id u (λ q. absurd (cc q))
            (λ i x _ ex tx. set_all (λ j y. ticket y.stage ≡ Some t → i ≡ j) vs gone spent (λ q. absurd (cc q))
            (λ j y _ ey ty. set_all (λ j y. ticket y.stage ≡ Some t → i ≡ j) s.views id u (λ q. absurd (cc q)) (λ j y _ ey ty. r.apart i j t x y ex ey tx ty) j y ey ty)
            j y ey ty)
            i x ex tx)
            i x ex tx;
        covers = λ k j q.
            let o = owners_at gone id os k j q in
            let cv = r.covers k o.0 o.1 in
            let at_id : get_elem? vs' id ≡ some u = set_else vs gone id spent (λ h. apart (sym h)) ∙ set_at s.views id v u at in
            dite (ℕ_discrete o.0 gone)
            (λ (is : o.0 ≡ gone).
            let to : j ≡ id = sym o.2 ∙ (ap (owner_of gone id) is ∙ owner_gone gone id) in
            let same : cv.0 ≡ w = some-injective cv.0 w (sym cv.1 ∙ (ap (get_elem? s.views) is ∙ was)) in
            (u, subst (λ i. get_elem? vs' i ≡ some u) (sym to) at_id, refl, names_back k (lists v) (lists w) (subst (λ (x : View G I). names k (lists x) ≡ true) same cv.3)))
            (λ (not : o.0 ≢ gone).
            let to : j ≡ o.0 = sym o.2 ∙ owner_else gone id o.0 not in
            dite (ℕ_discrete o.0 id)
            (λ (is : o.0 ≡ id).
            let same : cv.0 ≡ v = some-injective cv.0 v (sym cv.1 ∙ (ap (get_elem? s.views) is ∙ at)) in
            (u, subst (λ i. get_elem? vs' i ≡ some u) (sym (to ∙ is)) at_id, refl, names_front k (lists v) (lists w) (subst (λ (x : View G I). names k (lists x) ≡ true) same cv.3)))
            (λ (other : o.0 ≢ id).
            (cv.0, subst (λ i. get_elem? vs' i ≡ some cv.0) (sym to) (set_else vs gone o.0 spent not ∙ (set_else s.views id o.0 u other ∙ cv.1)), cv.2, cv.3)));
        later = λ k far. r.later k (omega arith);
      }
