-- One entry more of what a yard keeps.
use Rattle.std.proofs.Common.{◌≡◌, ℕ, zero, suc, ◌+◌, ◌≤◌, Bool, true, false, cond, List, [], ◌∷◌, ◌++◌, map, length, take, drop, refl, sym, ap, ◌∙◌, subst, append_assoc, arith}
use Rattle.std.specs.Prelude.{Option, Some, None, option_map, IfSome}
use Rattle.std.specs.FinMap as files
use Rattle.std.proofs.Math.Logic.{∥∥₁_map}
use Rattle.std.proofs.lemmas.List.{map-append}
use Rattle.outside.specs.code.Counts.{IsLater}
use Rattle.outside.specs.declared.counts.Counts.{Counts}
use Rattle.outside.specs.declared.store.Store.{Store}
use Rattle.outside.specs.code.Store.{Change, changed, changed_by, operation}
use Rattle.values.specs.Apply.{Apply}
use Rattle.plan_core.specs.declared.plan.Plan.{Plan}
use Rattle.plan_core.specs.Numbers.{has}
use Rattle.storage_simulation.specs.declared.standing.Held.{Held}
use Rattle.storage_simulation.specs.declared.standing.Held.TheVariants.{Stored, Reserved}
use Rattle.storage_simulation.specs.Goods.{good_size, makes}
use Rattle.run_record.specs.declared.entry.Cause.{Cause}
use Rattle.run_record.specs.Events.{Event, Grant, Regrant, Fail, Again}
use Rattle.lease_rules.specs.State.{State, after, now, now_from, opened}
use Rattle.site_yard.specs.Changes.{carries}
use Rattle.site_yard.specs.code.Changes.{changes, changes_of}
use Rattle.site_yard.specs.code.Failures.{AreCounted, AreMore, IsCounted, faults_of, host_faults, host_misses, misses_of}
use Rattle.site_yard.specs.code.Kept.{HasBecome, HoldsSizes, IsKept, IsOpening}
use Rattle.site_yard.specs.Trace.{operations_of, trace_of}
use Rattle.site_yard.specs.code.Truthful.{IsTrue, Truthful}
use Rattle.site_yard.proofs.CountingLemmas.{is_more_then}

nil_after : {A : Type 0} (r : List A) → r ++ [] ≡ r
nil_after [] = refl
nil_after (e ∷ r) = ap (λ l. e ∷ l) (nil_after r)

pub changed_append : (s : Store) (xs ys : List Change) → changed_by s (xs ++ ys) ≡ changed_by (changed_by s xs) ys
changed_append s [] ys = refl
changed_append s (x ∷ xs) ys = changed_append (changed s x) xs ys

changes_append : (p : Plan) (c : ℕ → ℕ → Option (List ℕ)) (r s : List Event) → changes p c (r ++ s) ≡ changes p c r ++ changes p c s
changes_append p c [] s = refl
changes_append p c (e ∷ r) s = ap (λ l. changes_of p c e ++ l) (changes_append p c r s) ∙ sym (append_assoc (changes_of p c e) (changes p c r) (changes p c s))

changes_more : (p : Plan) (c : ℕ → ℕ → Option (List ℕ)) (r : List Event) (e : Event) → changes p c (r ++ e ∷ []) ≡ changes p c r ++ changes_of p c e
changes_more p c r e = changes_append p c r (e ∷ []) ∙ ap (λ l. changes p c r ++ l) (nil_after (changes_of p c e))

trace_append : (p : Plan) (r s : List Event) → trace_of p (r ++ s) ≡ trace_of p r ++ trace_of p s
trace_append p [] s = refl
trace_append p (e ∷ r) s = ap (λ l. operations_of p e ++ l) (trace_append p r s) ∙ sym (append_assoc (operations_of p e) (trace_of p r) (trace_of p s))

trace_more : (p : Plan) (r : List Event) (e : Event) → trace_of p (r ++ e ∷ []) ≡ trace_of p r ++ operations_of p e
trace_more p r e = trace_append p r (e ∷ []) ∙ ap (λ l. trace_of p r ++ l) (nil_after (operations_of p e))

truthful_more : (apply : Apply) (told : List ℕ → Option (List ℕ)) (p : Plan) (c : ℕ → ℕ → Option (List ℕ)) (r : List Event) (e : Event) → Truthful apply told p c r → IsTrue apply told p c e → Truthful apply told p c (r ++ e ∷ [])
truthful_more apply told p c [] e truth is = (is, tt)
truthful_more apply told p c (f ∷ r) e truth is = (truth.0, truthful_more apply told p c r e truth.1 is)

faults_more : (r : List Event) (e : Event) → host_faults (r ++ e ∷ []) ≡ host_faults r + faults_of e
unfolding host_faults
faults_more [] e = omega arith
faults_more (f ∷ r) e = let more = faults_more r e in omega (arith, more)

misses_more : (r : List Event) (e : Event) → host_misses (r ++ e ∷ []) ≡ host_misses r + misses_of e
unfolding host_misses
misses_more [] e = omega arith
misses_more (f ∷ r) e = let more = misses_more r e in omega (arith, more)

counted_more : (o n : Option Store) (g : Store → Store) (f0 m0 : ℕ) (before now_ : Counts) (r : List Event) (e : Event) → n ≡ option_map g o → AreCounted o f0 m0 before r → IsCounted o before now_ e → AreCounted n f0 m0 now_ (r ++ e ∷ [])
counted_more None n g f0 m0 before now_ r e is counted one =
    let fs = faults_more r e in
    let ms = misses_more r e in
    let lf : before.faults ≤ now_.faults = one.0.faults in
    let lm : before.misses ≤ now_.misses = one.0.misses in
    subst (λ v. AreCounted v f0 m0 now_ (r ++ e ∷ [])) (sym is) (λ a b.
    let old = counted (omega (arith, a, lf)) (omega (arith, b, lm)) in
    let new = one.1 a b in
    omega (arith, old, new, fs, ms))
counted_more (Some s) n g f0 m0 before now_ r e is counted one =
    subst (λ v. AreCounted v f0 m0 now_ (r ++ e ∷ [])) (sym is) (
      is_more_then (host_faults r) (faults_of e) (host_faults (r ++ e ∷ [])) f0 before.faults now_.faults (faults_more r e) counted.0 one.1 one.0.faults,
      is_more_then (host_misses r) (misses_of e) (host_misses (r ++ e ∷ [])) m0 before.misses now_.misses (misses_more r e) counted.1 one.2 one.0.misses,
    )

state_more : (p : Plan) (s : State) (r : List Event) (e : Event) → now_from p s (r ++ e ∷ []) ≡ after p (now_from p s r) e
state_more p s [] e = refl
state_more p s (f ∷ r) e = state_more p (after p s f) r e

-- the changes that were made at one entry
abbrev pub Makes : Apply → Plan → List Event → Store → Option Store → Event → List Change → Type 0
Makes apply p first marked o e cs = IsOpening apply p first marked → IfSome o (λ s. (cs ≡ changes_of p (carries apply p marked) e) × IsTrue apply (λ pfn. files.get marked.replicas pfn) p (carries apply p marked) e)

abbrev pub KeepsSizes : Plan → State → Event → List Change → Type 0
KeepsSizes p st e cs = (s : Store) → HoldsSizes p st.held s → HoldsSizes p (after p st e).held (changed_by s cs)

become_more : (apply : Apply) (p : Plan) (first r : List Event) (e : Event) (marked s : Store) (cs : List Change) → HasBecome apply p first r marked s → map operation cs ≡ operations_of p e → (IsOpening apply p first marked → cs ≡ changes_of p (carries apply p marked) e) → HasBecome apply p first (r ++ e ∷ []) marked (changed_by s cs)
become_more apply p first r e marked s cs b ops are = record {
  made = b.made ++ cs;
  is = ap (λ z. changed_by z cs) b.is ∙ sym (changed_append marked b.made cs);
  operations = map-append operation b.made cs ∙ ap (λ l. l ++ map operation cs) b.operations ∙ ap (λ l. trace_of p r ++ l) ops ∙ sym (trace_more p r e);
  are = λ o. ap (λ l. l ++ cs) (b.are o) ∙ ap (λ l. changes p (carries apply p marked) r ++ l) (are o) ∙ sym (changes_more p (carries apply p marked) r e);
}

pub told_all : (P : Type 0) (o : Option Store) → P → IfSome o (λ s. P)
told_all P None h = tt
told_all P (Some s) h = h

-- one entry more
pub kept_more : (apply : Apply) (p : Plan) (order : List ℕ) (first r : List Event) (e : Event) (o n : Option Store) (marked : Store) (f0 m0 : ℕ) (before now_ : Counts) (cs : List Change)
    → IsKept apply p order first r o marked f0 m0 before
    → n ≡ option_map (λ s. changed_by s cs) o
    → IfSome o (λ s. map operation cs ≡ operations_of p e)
    → Makes apply p first marked o e cs
    → IfSome o (λ s. KeepsSizes p (now p order (first ++ r)) e cs)
    → IsCounted o before now_ e
    → IsKept apply p order first (r ++ e ∷ []) n marked f0 m0 now_
kept_more apply p order first r e None n marked f0 m0 before now_ cs kept is ops made sizes counted = record {
  become = subst (λ v. IfSome v (HasBecome apply p first (r ++ e ∷ []) marked)) (sym is) tt;
  truthful = λ o. subst (λ v. IfSome v (λ s. Truthful apply (λ pfn. files.get marked.replicas pfn) p (carries apply p marked) (first ++ (r ++ e ∷ [])))) (sym is) tt;
  sized = subst (λ v. IfSome v (HoldsSizes p (now p order (first ++ (r ++ e ∷ []))).held)) (sym is) tt;
  counted = counted_more None n (λ s. changed_by s cs) f0 m0 before now_ r e is kept.counted counted;
}
kept_more apply p order first r e (Some s) n marked f0 m0 before now_ cs kept is ops made sizes counted = record {
  become = subst (λ v. IfSome v (HasBecome apply p first (r ++ e ∷ []) marked)) (sym is) (become_more apply p first r e marked s cs kept.become ops (λ o. (made o).0));
  truthful = λ o. subst (λ v. IfSome v (λ s. Truthful apply (λ pfn. files.get marked.replicas pfn) p (carries apply p marked) (first ++ (r ++ e ∷ [])))) (sym is)
      (subst (Truthful apply (λ pfn. files.get marked.replicas pfn) p (carries apply p marked)) (append_assoc first r (e ∷ [])) (truthful_more apply (λ pfn. files.get marked.replicas pfn) p (carries apply p marked) (first ++ r) e (kept.truthful o) (made o).1));
  sized = subst (λ v. IfSome v (HoldsSizes p (now p order (first ++ (r ++ e ∷ []))).held)) (sym is)
      (subst (λ (z : State). HoldsSizes p z.held (changed_by s cs)) (sym (state_more p (opened order) (first ++ r) e) ∙ ap (now p order) (append_assoc first r (e ∷ []))) (sizes s kept.sized));
  counted = counted_more (Some s) n (λ s. changed_by s cs) f0 m0 before now_ r e is kept.counted counted;
}

-- the entries of the opening, and those since
pub take_same : {A : Type 0} (h x : List A) (m : ℕ) → m ≤ length h → take m (h ++ x) ≡ take m h
take_same [] x zero l = refl
take_same [] x (suc m) l = absurd (omega (arith, l))
take_same (y ∷ h) x zero l = refl
take_same (y ∷ h) x (suc m) l = ap (λ z. y ∷ z) (take_same h x m (omega (arith, l)))

pub drop_more : {A : Type 0} (h x : List A) (m : ℕ) → m ≤ length h → drop m (h ++ x) ≡ drop m h ++ x
drop_more [] x zero l = refl
drop_more [] x (suc m) l = absurd (omega (arith, l))
drop_more (y ∷ h) x zero l = refl
drop_more (y ∷ h) x (suc m) l = drop_more h x m (omega (arith, l))

pub parts : {A : Type 0} (h : List A) (m : ℕ) → take m h ++ drop m h ≡ h
parts [] zero = refl
parts [] (suc m) = refl
parts (y ∷ h) zero = refl
parts (y ∷ h) (suc m) = ap (λ z. y ∷ z) (parts h m)

-- the same of a record, that was opened with m entries
pub keeps : (apply : Apply) (p : Plan) (order : List ℕ) (h : List Event) (m : ℕ) (e : Event) (o n : Option Store) (marked : Store) (f0 m0 : ℕ) (before now_ : Counts) (cs : List Change)
    → m ≤ length h
    → ∥ IsKept apply p order (take m h) (drop m h) o marked f0 m0 before ∥₁
    → n ≡ option_map (λ s. changed_by s cs) o
    → IfSome o (λ s. map operation cs ≡ operations_of p e)
    → Makes apply p (take m h) marked o e cs
    → IfSome o (λ s. KeepsSizes p (now p order h) e cs)
    → IsCounted o before now_ e
    → ∥ IsKept apply p order (take m (h ++ e ∷ [])) (drop m (h ++ e ∷ [])) n marked f0 m0 now_ ∥₁
keeps apply p order h m e o n marked f0 m0 before now_ cs begun kept is ops made sizes counted =
    subst (λ l. ∥ IsKept apply p order l (drop m (h ++ e ∷ [])) n marked f0 m0 now_ ∥₁) (sym (take_same h (e ∷ []) m begun))
    (subst (λ l. ∥ IsKept apply p order (take m h) l n marked f0 m0 now_ ∥₁) (sym (drop_more h (e ∷ []) m begun))
    (∥∥₁_map kept (λ k. kept_more apply p order (take m h) (drop m h) e o n marked f0 m0 before now_ cs k is ops made (subst (λ l. IfSome o (λ s. KeepsSizes p (now p order l) e cs)) (sym (parts h m)) sizes) counted)))

-- a record that stays, while its host does what it is asked
counted_still : (o : Option Store) (n f0 m0 : ℕ) (before now_ : Counts) (r : List Event) → AreCounted o f0 m0 before r → AreMore n 0 0 before now_ → IsLater before now_ → AreCounted o f0 m0 now_ r
counted_still None n f0 m0 before now_ r counted more later = λ a b.
    let lf : before.faults ≤ now_.faults = later.faults in
    let lm : before.misses ≤ now_.misses = later.misses in
    let old = counted (omega (arith, a, lf)) (omega (arith, b, lm)) in
    let fs = more.faults_is a in
    let ms = more.misses_is b in
    omega (arith, old, fs, ms)
counted_still (Some s) n f0 m0 before now_ r counted more later = (
  is_more_then (host_faults r) 0 (host_faults r) f0 before.faults now_.faults (omega arith) counted.0 more.faults_is later.faults,
  is_more_then (host_misses r) 0 (host_misses r) m0 before.misses now_.misses (omega arith) counted.1 more.misses_is later.misses,
)

pub still_keeps : (apply : Apply) (p : Plan) (order : List ℕ) (first r : List Event) (o n : Option Store) (m : Store) (f0 m0 calls : ℕ) (before now_ : Counts) → ∥ IsKept apply p order first r o m f0 m0 before ∥₁ → n ≡ o → AreMore calls 0 0 before now_ → IsLater before now_ → ∥ IsKept apply p order first r n m f0 m0 now_ ∥₁
still_keeps apply p order first r o n m f0 m0 calls before now_ kept same more later =
    subst (λ z. ∥ IsKept apply p order first r z m f0 m0 now_ ∥₁) (sym same)
    (∥∥₁_map kept (λ k. record { become = k.become; truthful = k.truthful; sized = k.sized; counted = counted_still o calls f0 m0 before now_ r k.counted more later }))

-- sizes that stay where nothing is stored anew and nothing changes
reserved_stored : (b : Bool) (h : Held) (k n : ℕ) → cond b (Reserved k) h ≡ Stored n → h ≡ Stored n
reserved_stored true h k n e = absurd cc
reserved_stored false h k n e = e

pub sized_granted : (p : Plan) (st : State) (w t : ℕ) → KeepsSizes p st (Grant w t) []
sized_granted p st w t s h q n low e = h q n low (reserved_stored (has (makes p t) q) (st.held q) (good_size p q) n e)

pub sized_regranted : (p : Plan) (st : State) (w t : ℕ) → KeepsSizes p st (Regrant w t) []
sized_regranted p st w t s h q n low e = h q n low (reserved_stored (has (makes p t) q) (st.held q) (good_size p q) n e)

-- a failure, tried again or not, before anything was published
abbrev pub failed : Bool → ℕ → ℕ → Cause → List ℕ → Event
failed b w t cause ns = cond b (Again w t cause ns) (Fail w t cause ns)

pub sized_failed : (p : Plan) (st : State) (b : Bool) (w t : ℕ) (cause : Cause) (ns : List ℕ) → KeepsSizes p st (failed b w t cause ns) []
sized_failed p st true w t cause ns s h = h
sized_failed p st false w t cause ns s h = h
