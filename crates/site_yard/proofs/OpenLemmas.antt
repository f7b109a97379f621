-- The opening of a yard, and the looks at its sites.
use Rattle.std.proofs.Common.{◌≡◌, ℕ, suc, ◌+◌, ◌<◌, Bool, true, false, cond, List, [], length, drop, take, refl, sym, ap, ◌∙◌, subst, nat_lt, arith}
use Rattle.std.specs.Prelude.{Option, Some, None, IfSome, Ok, Err, Decides, if◌then◌else◌}
use Rattle.outside.specs.code.Counts.{IsLater, one_done, one_miss}
use Rattle.outside.specs.code.Host.{Empties}
use Rattle.values.specs.code.SiteMap.{IsEmptyAt}
use Rattle.values.specs.Apply.{Apply}
use Rattle.outside.specs.declared.counts.Counts.{Counts}
use Rattle.outside.specs.declared.store.Store.{Store}
use Rattle.plan_core.specs.declared.plan.Plan.{Plan}
use Rattle.run_record.specs.Events.{Event}
use Rattle.lease_rules.specs.State.{now}
use Rattle.site_yard.specs.code.Failures.{AreMore, host_faults, host_misses}
use Rattle.site_yard.specs.code.Kept.{HoldsSizes, IsKept}
use Rattle.plan_core.specs.code.Names.{is_used}
use Rattle.plan_core.specs.Names.{site_name}
use Rattle.site_yard.specs.code.Opening.{AreUnusedBelow, IsInUse, IsUnusedAt, Looked, LookedAt, Refuses, looks_at, looks_below}
use Rattle.site_yard.specs.declared.opening.OpenFault.{OpenFault}
use Rattle.site_yard.specs.declared.opening.OpenFault.TheVariants.{ScratchInUse, HostFailed, Memory, PairAbsent, LengthDiffers}
use Rattle.site_yard.proofs.CountingLemmas.{done_before, done_once, missed_once, same_more}

in_use_told : (o : Option Store) (site : List ℕ) (b : Bool) → b ≡ false → IfSome o (λ s. Decides b (IsEmptyAt s.scratch site)) → IfSome o (λ s. IsEmptyAt s.scratch site → ⊥)
in_use_told None site b e h = tt
in_use_told (Some s) site b e h = λ empty. absurd (let t = h.1 empty in cc)

-- a look at a site
empty_told : (o : Option Store) (site : List ℕ) (b : Bool) → b ≡ true → IfSome o (λ s. Decides b (IsEmptyAt s.scratch site)) → IfSome o (λ s. IsEmptyAt s.scratch site)
empty_told None site b e h = tt
empty_told (Some s) site b e h = h.0 e

pub looked : (p : Plan) (x : ℕ) (o : Option Store) (site : List ℕ) (b : Bool) (before now_ : Counts) → site ≡ site_name p x → is_used p x ≡ true → b ≡ true → Empties o site before now_ (Ok b) → IsUnusedAt p o x × AreMore (looks_at p x) 0 0 before now_
looked p x o site b before now_ is used e answer = (
  λ h. subst (λ z. IfSome o (λ s. IsEmptyAt s.scratch z)) is (empty_told o site b e answer.1),
  subst (λ n. AreMore n 0 0 before now_) (sym (ap (λ z. cond z 1 0) used)) (done_once before now_ (answer.0 ∙ ap (λ z. if z then one_done before else one_miss before) e)),
)

pub not_looked : (p : Plan) (x : ℕ) (o : Option Store) (c : Counts) → is_used p x ≡ false → IsUnusedAt p o x × AreMore (looks_at p x) 0 0 c c
not_looked p x o c off = (
  λ h. absurd (let y : true ≡ false = sym h ∙ off in cc),
  subst (λ n. AreMore n 0 0 c c) (sym (ap (λ z. cond z 1 0) off)) (same_more c c refl),
)

-- a site that isn't empty
pub in_use : (p : Plan) (x : ℕ) (o : Option Store) (site : List ℕ) (b : Bool) (before now_ : Counts) → site ≡ site_name p x → is_used p x ≡ true → b ≡ false → Empties o site before now_ (Ok b) → IsInUse p o x × AreMore 0 0 1 before now_
in_use p x o site b before now_ is used e answer = (
  (used, subst (λ z. IfSome o (λ s. IsEmptyAt s.scratch z → ⊥)) is (in_use_told o site b e answer.1)),
  missed_once before now_ (answer.0 ∙ ap (λ z. if z then one_done before else one_miss before) e),
)

-- the sites up to one more
pub looked_more : (p : Plan) (k : ℕ) (first before now_ : Counts) → AreMore (looks_below p k) 0 0 first before → AreMore (looks_at p k) 0 0 before now_ → IsLater before now_ → AreMore (looks_below p (k + 1)) 0 0 first now_
looked_more p k first before now_ done more later =
    let next : suc k ≡ k + 1 = omega arith in
    subst (λ n. AreMore (looks_below p n) 0 0 first now_) next (done_before (looks_below p k) (looks_at p k) 0 0 first before now_ done more later)

unused_more : (p : Plan) (o : Option Store) (k : ℕ) → AreUnusedBelow p o k → IsUnusedAt p o k → AreUnusedBelow p o (k + 1)
unused_more p o k below at x l = by (nat_lt x k) refl
  where
    by : (b : Bool) → nat_lt x k ≡ b → IsUnusedAt p o x
    by true h = below x (grind (arith, h))
    by false h = let same : k ≡ x = grind (arith, h, l) in subst (IsUnusedAt p o) same at

pub still_looked : (p : Plan) (o n : Option Store) (k : ℕ) (first before now_ : Counts) → n ≡ o → AreUnusedBelow p o k → AreMore (looks_below p k) 0 0 first before → LookedAt p k n before now_ (Ok tt) → IsLater before now_ → AreUnusedBelow p o (k + 1) × AreMore (looks_below p (k + 1)) 0 0 first now_
still_looked p o n k first before now_ same below done at later =
    (unused_more p o k below (subst (λ z. IsUnusedAt p z k) same at.0), looked_more p k first before now_ done at.1 later)

-- why an opening stops at a site
pub look_stops : (p : Plan) (o n : Option Store) (k : ℕ) (first before now_ : Counts) (fault : OpenFault) → k < length p.sites → n ≡ o → AreUnusedBelow p o k → AreMore (looks_below p k) 0 0 first before → LookedAt p k n before now_ (Err fault) → IsLater before now_ → Refuses p o first now_ fault
look_stops p o n k first before now_ (ScratchInUse x) less same below done at later =
    let here : x.0 ≡ k = at.0 in
    let plus : looks_below p k ≡ looks_below p k + 0 = omega arith in (
      omega (arith, here, less),
      subst (λ z. IsInUse p z x.0) same at.1,
      subst (AreUnusedBelow p o) (sym here) below,
      subst (λ z. AreMore (looks_below p z) 0 1 first now_) (sym here) (subst (λ z. AreMore z 0 1 first now_) (sym plus) (done_before (looks_below p k) 0 0 1 first before now_ done at.2 later)),
    )
look_stops p o n k first before now_ HostFailed less same below done at later =
    let plus : looks_below p k ≡ looks_below p k + 0 = omega arith in
    record { site = k; below = less; used = at.0; empty = below; asked = subst (λ z. AreMore z 1 0 first now_) (sym plus) (done_before (looks_below p k) 0 1 0 first before now_ done at.1 later) }
look_stops p o n k first before now_ Memory less same below done at later =
    let plus : looks_below p k ≡ looks_below p k + 0 = omega arith in
    record { site = k; below = omega (arith, less); empty = below; asked = subst (λ z. AreMore z 0 0 first now_) (sym plus) (done_before (looks_below p k) 0 0 0 first before now_ done at later) }
look_stops p o n k first before now_ (PairAbsent x) less same below done at later = at
look_stops p o n k first before now_ (LengthDiffers x recorded found) less same below done at later = at

-- want of memory before the first look, or after the last
none_below : (p : Plan) (o : Option Store) → AreUnusedBelow p o 0
none_below p o x l = absurd (omega (arith, l))

pub wants_first : (p : Plan) (o : Option Store) (c : Counts) → Refuses p o c c Memory
wants_first p o c = record { site = 0; below = omega arith; empty = none_below p o; asked = same_more c c refl }

pub wants_last : (p : Plan) (o : Option Store) (before now_ : Counts) → Looked p o before now_ (Ok tt) → Refuses p o before now_ Memory
wants_last p o before now_ looked_ = record { site = length p.sites; below = omega arith; empty = looked_.0; asked = looked_.1 }

-- the same before the host was marked
pub refuses_as : (p q : Plan) (o n : Option Store) (first before now_ : Counts) (fault : OpenFault) → q ≡ p → n ≡ o → before ≡ first → Refuses q n before now_ fault → Refuses p o first now_ fault
refuses_as p q o n first before now_ fault plan told start h =
    subst (λ z. Refuses z o first now_ fault) plan (subst (λ z. Refuses q z first now_ fault) told (subst (λ z. Refuses q n z now_ fault) start h))

-- nothing is stored yet
nothing_stored : (p : Plan) (order : List ℕ) (s : Store) → HoldsSizes p (now p order []).held s
nothing_stored p order s q n low e = absurd cc

empty_kept : (apply : Apply) (p : Plan) (order : List ℕ) (o : Option Store) (m : Store) (calls : ℕ) (before now_ : Counts) → IfSome o (λ s. m ≡ s) → AreMore calls 0 0 before now_ → IsKept apply p order [] [] o m before.faults before.misses now_
unfolding host_faults host_misses
empty_kept apply p order None m calls before now_ is more =
    record { become = tt; truthful = λ o. tt; sized = tt; counted = λ x y. let f = more.faults_is x in let g = more.misses_is y in omega (arith, f, g) }
empty_kept apply p order (Some s) m calls before now_ is more =
    record { become = record { made = []; is = sym is; operations = refl; are = λ o. refl }; truthful = λ o. tt; sized = nothing_stored p order s; counted = (more.faults_is, more.misses_is) }

pub opens : (apply : Apply) (p : Plan) (order : List ℕ) (r : List Event) (o n : Option Store) (m k : Store) (f0 m0 calls : ℕ) (before now_ : Counts) → r ≡ [] → n ≡ o → k ≡ m → IfSome o (λ s. m ≡ s) → f0 ≡ before.faults → m0 ≡ before.misses → AreMore calls 0 0 before now_ → ∥ IsKept apply p order (take 0 r) (drop 0 r) n k f0 m0 now_ ∥₁
opens apply p order r o n m k f0 m0 calls before now_ none same still is ef em more =
    subst (λ (l : List Event). ∥ IsKept apply p order (take 0 l) (drop 0 l) n k f0 m0 now_ ∥₁) (sym none)
    (subst (λ z. ∥ IsKept apply p order [] [] z k f0 m0 now_ ∥₁) (sym same)
    (subst (λ z. ∥ IsKept apply p order [] [] o z f0 m0 now_ ∥₁) (sym still)
    (subst (λ z. ∥ IsKept apply p order [] [] o m z m0 now_ ∥₁) (sym ef)
    (subst (λ z. ∥ IsKept apply p order [] [] o m before.faults z now_ ∥₁) (sym em) (∣ empty_kept apply p order o m calls before now_ is more ∣₁)))))
