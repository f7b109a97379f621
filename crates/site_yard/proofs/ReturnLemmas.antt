-- Parts, given back one by one.
use Rattle.std.proofs.Common.{◌≡◌, ℕ, zero, suc, ◌+◌, ◌-◌, ◌^◌, ◌≤◌, ◌<◌, min, List, [], ◌∷◌, ◌++◌, length, map, take, drop, refl, sym, ap, ◌∙◌, subst, append_assoc, arith}
use Rattle.std.specs.Prelude.{Option, Some, None, option_map, Err}
use Rattle.std.proofs.lemmas.List.{map-append}
use Rattle.outside.specs.code.Counts.{IsLater, one_done}
use Rattle.outside.specs.code.Store.{Change, changed, changed_by}
use Rattle.outside.specs.declared.counts.Counts.{Counts}
use Rattle.outside.specs.declared.store.Store.{Store}
use Rattle.outside.specs.declared.host.HostFault.{HostFault}
use Rattle.outside.specs.declared.host.HostFault.TheVariants.{Failed, Memory}
use Rattle.outside.specs.code.Lending.{Publishing, published, with_faults}
use Rattle.outside.specs.code.Parts.{DraftState, Drafted, ReadState, draft_faults, reading_faults}
use Rattle.site_yard.specs.code.Failures.{AreMore, IsMore}
use Rattle.site_yard.specs.code.Returning.{IsRefused, placing_of, placings, refusal_faults}

-- While parts are given back: so many calls did what was asked, and of all faults of the parts those of the parts that are
-- left aren't counted yet.
pub record IsGivingBack (done all left : ℕ) (before now_ : Counts) : Type 0 where
  pub done_is : IsMore done before.done now_.done
  pub faults_is : now_.faults < 2 ^ 64 - 1 → now_.faults + left ≡ before.faults + all
  pub misses_is : IsMore 0 before.misses now_.misses

pub begun : (all : ℕ) (c : Counts) → IsGivingBack 0 all all c c
begun all c = record { done_is = λ x. omega arith; faults_is = λ x. omega arith; misses_is = λ x. omega arith }

pub given_back : (done all left : ℕ) (a b : Counts) → left ≡ 0 → IsGivingBack done all left a b → AreMore done all 0 a b
given_back done all left a b none g = record { done_is = g.done_is; faults_is = λ x. let f = g.faults_is x in omega (arith, f, none); misses_is = g.misses_is }

pub reading_last : (xs : List ReadState) (x : ReadState) → reading_faults (xs ++ x ∷ []) ≡ reading_faults xs + x.faults
reading_last [] x = omega arith
reading_last (y ∷ xs) x = let more = reading_last xs x in omega (arith, more)

pub draft_last : (xs : List DraftState) (x : DraftState) → draft_faults (xs ++ x ∷ []) ≡ draft_faults xs + x.faults
draft_last [] x = omega arith
draft_last (y ∷ xs) x = let more = draft_last xs x in omega (arith, more)

-- one part more
pub count_more : (done all left rest one : ℕ) (before c n : Counts) → left ≡ rest + one → n ≡ with_faults c one → IsGivingBack done all left before c → IsGivingBack done all rest before n
count_more done all left rest one before c n split is h =
    let d : n.done ≡ c.done = ap (λ (z : Counts). z.done) is in
    let f : n.faults ≡ min (c.faults + one) (2 ^ 64 - 1) = ap (λ (z : Counts). z.faults) is in
    let m : n.misses ≡ c.misses = ap (λ (z : Counts). z.misses) is in
    record {
      done_is = λ x. let k = h.done_is (omega (arith, d, x)) in omega (arith, d, k);
      faults_is = λ x. let k = h.faults_is (omega (arith, f, x)) in omega (arith, f, k, split, x);
      misses_is = λ x. let k = h.misses_is (omega (arith, m, x)) in omega (arith, m, k);
    }

-- one draft more was published
pub publish_more : (done all left rest one : ℕ) (before c n : Counts) → left ≡ rest + one → n ≡ one_done (with_faults c one) → IsGivingBack done all left before c → IsGivingBack (done + 1) all rest before n
publish_more done all left rest one before c n split is h =
    let d : n.done ≡ min (c.done + 1) (2 ^ 64 - 1) = ap (λ (z : Counts). z.done) is in
    let f : n.faults ≡ min (c.faults + one) (2 ^ 64 - 1) = ap (λ (z : Counts). z.faults) is in
    let m : n.misses ≡ c.misses = ap (λ (z : Counts). z.misses) is in
    record {
      done_is = λ x. let k = h.done_is (omega (arith, d, x)) in omega (arith, d, k, x);
      faults_is = λ x. let k = h.faults_is (omega (arith, f, x)) in omega (arith, f, k, split, x);
      misses_is = λ x. let k = h.misses_is (omega (arith, m, x)) in omega (arith, m, k);
    }

-- the next one was refused, and the rest was discarded
refused_counts : (e : HostFault) (d : DraftState) (o m : Option Store) (c n : Counts) → Publishing d o m c n (Err e) → (n.done ≡ c.done) × (n.misses ≡ c.misses) × (n.faults ≡ min (min (c.faults + d.faults) (2 ^ 64 - 1) + refusal_faults (Some e)) (2 ^ 64 - 1))
refused_counts Failed d o m c n h = (ap (λ (z : Counts). z.done) h.0, ap (λ (z : Counts). z.misses) h.0, ap (λ (z : Counts). z.faults) h.0)
refused_counts Memory d o m c n h =
    let f : n.faults ≡ min (c.faults + d.faults) (2 ^ 64 - 1) = ap (λ (z : Counts). z.faults) h.0 in
    (ap (λ (z : Counts). z.done) h.0, ap (λ (z : Counts). z.misses) h.0, omega (arith, f))
refused_counts e d o m c n h = absurd h

pub refuse_more : (e : HostFault) (d : DraftState) (o m : Option Store) (done all left rest : ℕ) (before c n after : Counts) → left ≡ rest + d.faults → Publishing d o m c n (Err e) → IsGivingBack done all left before c → AreMore 0 rest 0 n after → IsLater n after → AreMore done (all + refusal_faults (Some e)) 0 before after
refuse_more e d o m done all left rest before c n after split answer h gone later =
    let r = refused_counts e d o m c n answer in
    let ld : n.done ≤ after.done = later.done in
    let lf : n.faults ≤ after.faults = later.faults in
    let lm : n.misses ≤ after.misses = later.misses in
    record {
      done_is = λ x. let g = gone.done_is x in let k = h.done_is (omega (arith, r.0, ld, x)) in omega (arith, g, k, r.0);
      faults_is = λ x. let g = gone.faults_is x in let k = h.faults_is (omega (arith, r.2, lf, x)) in omega (arith, g, k, r.2, split, lf, x);
      misses_is = λ x. let g = gone.misses_is x in let k = h.misses_is (omega (arith, r.1, lm, x)) in omega (arith, g, k, r.1);
    }

changed_append : (s : Store) (xs ys : List Change) → changed_by s (xs ++ ys) ≡ changed_by (changed_by s xs) ys
changed_append s [] ys = refl
changed_append s (x ∷ xs) ys = changed_append (changed s x) xs ys

published_is : (d : Option Drafted) (s : Store) → published d s ≡ changed_by s (placing_of d)
published_is None s = refl
published_is (Some d) s = refl

nil_after : {A : Type 0} (r : List A) → r ++ [] ≡ r
nil_after [] = refl
nil_after (e ∷ r) = ap (λ l. e ∷ l) (nil_after r)

placings_append : (xs ys : List DraftState) → placings (xs ++ ys) ≡ placings xs ++ placings ys
placings_append [] ys = refl
placings_append (d ∷ xs) ys = ap (λ l. placing_of d.told ++ l) (placings_append xs ys) ∙ sym (append_assoc (placing_of d.told) (placings xs) (placings ys))

-- one draft more was published
pub placed_more : (o m n : Option Store) (xs : List DraftState) (d : DraftState) → m ≡ option_map (λ s. changed_by s (placings xs)) o → n ≡ option_map (published d.told) m → n ≡ option_map (λ s. changed_by s (placings (xs ++ d ∷ []))) o
placed_more None m n xs d is more = more ∙ ap (option_map (published d.told)) is
placed_more (Some s) m n xs d is more =
    more ∙ ap (option_map (published d.told)) is
    ∙ ap Some (published_is d.told (changed_by s (placings xs)) ∙ sym (changed_append s (placings xs) (placing_of d.told)))
    ∙ ap (λ cs. Some (changed_by s cs)) (ap (λ l. placings xs ++ l) (sym (nil_after (placing_of d.told))) ∙ sym (placings_append xs (d ∷ [])))

take_next : {A : Type 0} (xs ys : List A) (k : ℕ) (x : A) → drop k xs ≡ x ∷ ys → (take (k + 1) xs ≡ take k xs ++ x ∷ []) × (drop (k + 1) xs ≡ ys)
take_next xs ys k x h = subst (λ n. (take n xs ≡ take k xs ++ x ∷ []) × (drop n xs ≡ ys)) one (by xs k h)
  where
    one : suc k ≡ k + 1
    one = omega arith

    by : (xs : _) (k : ℕ) → drop k xs ≡ x ∷ ys → (take (suc k) xs ≡ take k xs ++ x ∷ []) × (drop (suc k) xs ≡ ys)
    by [] zero h = absurd (let e = ap length h in omega (arith, e))
    by [] (suc k) h = absurd (let e = ap length h in omega (arith, e))
    by (z ∷ zs) zero h = (ap (λ l. take 1 l) h, ap (λ l. drop 1 l) h)
    by (z ∷ zs) (suc k) h = let r = by zs k h in (ap (λ l. z ∷ l) r.0, r.1)

drop_none : {A : Type 0} (xs : List A) (k : ℕ) → drop k xs ≡ [] → length xs ≤ k
drop_none [] k h = omega arith
drop_none (x ∷ xs) zero h = absurd (let e = ap length h in omega (arith, e))
drop_none (x ∷ xs) (suc k) h = let r = drop_none xs k h in omega (arith, r)

drop_some : {A : Type 0} (xs ys : List A) (k : ℕ) (x : A) → drop k xs ≡ x ∷ ys → k < length xs
drop_some [] ys zero x h = absurd (let e = ap length h in omega (arith, e))
drop_some [] ys (suc k) x h = absurd (let e = ap length h in omega (arith, e))
drop_some (z ∷ zs) ys zero x h = omega arith
drop_some (z ∷ zs) ys (suc k) x h = let r = drop_some zs ys k x h in omega (arith, r)

pub next_left : {X : Type 0} (f : X → DraftState) (all left rest : List X) (x : X) (k : ℕ) → left ≡ x ∷ rest → map f left ≡ drop k (map f all) → drop k (map f all) ≡ f x ∷ map f rest
next_left f all left rest x k is h = sym h ∙ ap (map f) is

pub still_placed : (ds : List DraftState) (d : DraftState) (rest : List DraftState) (k : ℕ) (o m n : Option Store) → drop k ds ≡ d ∷ rest → m ≡ option_map (λ s. changed_by s (placings (take k ds))) o → n ≡ option_map (published d.told) m → n ≡ option_map (λ s. changed_by s (placings (take (k + 1) ds))) o
still_placed ds d rest k o m n left is more =
    placed_more o m n (take k ds) d is more ∙ ap (λ (l : List DraftState). option_map (λ s. changed_by s (placings l)) o) (sym (take_next ds rest k d left).0)

pub still_left : (ds : List DraftState) (d : DraftState) (rest : List DraftState) (k : ℕ) → drop k ds ≡ d ∷ rest → (rest ≡ drop (k + 1) ds) × (k + 1 ≤ length ds)
still_left ds d rest k left = let small = drop_some ds rest k d left in (sym (take_next ds rest k d left).1, omega (arith, small))

pub all_placed : {X : Type 0} (f : X → DraftState) (all left : List X) (k : ℕ) → length left ≡ 0 → map f left ≡ drop k (map f all) → k ≤ length (map f all) → k ≡ length (map f all)
all_placed f all [] k none h small = let long = drop_none (map f all) k (sym h) in omega (arith, long, small)
all_placed f all (x ∷ left) k none h small = absurd (omega (arith, none))

pub unpublished : (e : HostFault) (d : DraftState) (o m : Option Store) (before mid : Counts) → Publishing d o m before mid (Err e) → m ≡ o
unpublished Failed d o m before mid h = h.1
unpublished Memory d o m before mid h = h.1
unpublished e d o m before mid h = absurd h

pub refuses : (e : HostFault) (ds : List DraftState) (d : DraftState) (rest : List DraftState) (k : ℕ) (o m : Option Store) (before mid : Counts) → drop k ds ≡ d ∷ rest → Publishing d o m before mid (Err e) → IsRefused k (length ds) (Some e)
refuses Failed ds d rest k o m before mid left h = drop_some ds rest k d left
refuses Memory ds d rest k o m before mid left h = drop_some ds rest k d left
refuses e ds d rest k o m before mid left h = absurd h

pub later_both : (a b c : Counts) → IsLater a b → IsLater b c → IsLater a c
later_both a b c x y =
    let xd : a.done ≤ b.done = x.done in
    let xf : a.faults ≤ b.faults = x.faults in
    let xm : a.misses ≤ b.misses = x.misses in
    let yd : b.done ≤ c.done = y.done in
    let yf : b.faults ≤ c.faults = y.faults in
    let ym : b.misses ≤ c.misses = y.misses in
    record { done = omega (arith, xd, yd); faults = omega (arith, xf, yf); misses = omega (arith, xm, ym) }

pub readings_left : {X : Type 0} (f : X → ReadState) (old new : List X) (x : X) → old ≡ new ++ x ∷ [] → reading_faults (map f old) ≡ reading_faults (map f new) + (f x).faults
readings_left f old new x e = ap (λ l. reading_faults (map f l)) e ∙ ap reading_faults (map-append f new (x ∷ [])) ∙ reading_last (map f new) (f x)

pub drafts_left : {X : Type 0} (f : X → DraftState) (old new : List X) (x : X) → old ≡ new ++ x ∷ [] → draft_faults (map f old) ≡ draft_faults (map f new) + (f x).faults
drafts_left f old new x e = ap (λ l. draft_faults (map f l)) e ∙ ap draft_faults (map-append f new (x ∷ [])) ∙ draft_last (map f new) (f x)

pub first_faults : {X : Type 0} (f : X → DraftState) (left rest : List X) (x : X) → left ≡ x ∷ rest → draft_faults (map f left) ≡ draft_faults (map f rest) + (f x).faults
first_faults f left rest x e = let is = ap (λ l. draft_faults (map f l)) e in omega (arith, is)
