-- What `next` adds to a yard.
use Rattle.std.proofs.Common.{◌≡◌, ℕ, zero, suc, ◌≤◌, ◌⊎◌, inl, inr, Bool, true, false, cond, List, [], ◌∷◌, ◌++◌, map, length, length-append, drop, take, refl, sym, ap, ◌∙◌, subst, arith}
use Rattle.std.specs.Prelude.{Option, Some, None, option_map}
use Rattle.outside.specs.code.Counts.{IsLater}
use Rattle.values.specs.Apply.{Apply}
use Rattle.outside.specs.declared.counts.Counts.{Counts}
use Rattle.values.specs.declared.numbers.PairId.{PairId}
use Rattle.values.specs.declared.numbers.TaskId.{TaskId}
use Rattle.outside.specs.declared.store.Store.{Store}
use Rattle.outside.specs.code.Store.{changed_by, operation}
use Rattle.plan_core.specs.declared.plan.Plan.{Plan}
use Rattle.plan_core.specs.declared.plan.TaskKind.TheVariants.{Clean as CleanTask}
use Rattle.plan_core.specs.Words.{is_clean, is_clean_kind, kind, task_numbers}
use Rattle.run_record.specs.Events.{Event, Grant, Regrant}
use Rattle.lease_book.specs.declared.book.Book.{Book}
use Rattle.lease_book.specs.Book.{IsNext, state_at}
use Rattle.lease_book.specs.declared.leasing.Next.{Next}
use Rattle.lease_book.specs.declared.leasing.Next.TheVariants as next
use Rattle.lease_rules.specs.Choice.{IsChoice, IsFresh, IsFreshAmong}
use Rattle.lease_rules.specs.State.{State, now}
use Rattle.site_yard.specs.code.Failures.{AreMore, IsCounted, faults_of, misses_of}
use Rattle.site_yard.specs.code.Kept.{IsKept}
use Rattle.site_yard.specs.code.Yard.{Leases}
use Rattle.site_yard.specs.declared.leased.Leased.{Leased}
use Rattle.site_yard.proofs.CountingLemmas.{same_more, shows}
use Rattle.site_yard.proofs.KeptLemmas.{KeepsSizes, Makes, keeps, sized_granted, sized_regranted, told_all}

later_self : (c : Counts) → IsLater c c
later_self c = record { done = omega arith; faults = omega arith; misses = omega arith }

-- an entry that tells of no failure
pub rose_none : (o : Option Store) (n : ℕ) (before now_ : Counts) (e : Event) → faults_of e ≡ 0 → misses_of e ≡ 0 → AreMore n 0 0 before now_ → IsLater before now_ → IsCounted o before now_ e
rose_none o n before now_ e f m more later = shows o n 0 0 before now_ e (sym f) (sym m) more later

pub unchanged : (o : Option Store) → o ≡ option_map (λ s. changed_by s []) o
unchanged None = refl
unchanged (Some s) = refl

nothing_made : (apply : Apply) (p : Plan) (first : List Event) (m : Store) (o : Option Store) (w t : ℕ) → Makes apply p first m o (Grant w t) []
nothing_made apply p first m None w t = λ opening. tt
nothing_made apply p first m (Some s) w t = λ opening. (refl, tt)

nothing_remade : (apply : Apply) (p : Plan) (first : List Event) (m : Store) (o : Option Store) (w t : ℕ) → Makes apply p first m o (Regrant w t) []
nothing_remade apply p first m None w t = λ opening. tt
nothing_remade apply p first m (Some s) w t = λ opening. (refl, tt)

granted : (apply : Apply) (p : Plan) (order : List ℕ) (h : List Event) (k w t : ℕ) (o : Option Store) (m : Store) (f0 m0 : ℕ) (c : Counts) → k ≤ length h → ∥ IsKept apply p order (take k h) (drop k h) o m f0 m0 c ∥₁ → ∥ IsKept apply p order (take k (h ++ Grant w t ∷ [])) (drop k (h ++ Grant w t ∷ [])) o m f0 m0 c ∥₁
granted apply p order h k w t o m f0 m0 c begun kept = keeps apply p order h k (Grant w t) o o m f0 m0 c c [] begun kept (unchanged o) (told_all (map operation [] ≡ []) o refl) (nothing_made apply p (take k h) m o w t) (told_all (KeepsSizes p (now p order h) (Grant w t) []) o (sized_granted p (now p order h) w t)) (rose_none o 0 c c (Grant w t) refl refl (same_more c c refl) (later_self c))

regranted : (apply : Apply) (p : Plan) (order : List ℕ) (h : List Event) (k w t : ℕ) (o : Option Store) (m : Store) (f0 m0 : ℕ) (c : Counts) → k ≤ length h → ∥ IsKept apply p order (take k h) (drop k h) o m f0 m0 c ∥₁ → ∥ IsKept apply p order (take k (h ++ Regrant w t ∷ [])) (drop k (h ++ Regrant w t ∷ [])) o m f0 m0 c ∥₁
regranted apply p order h k w t o m f0 m0 c begun kept = keeps apply p order h k (Regrant w t) o o m f0 m0 c c [] begun kept (unchanged o) (told_all (map operation [] ≡ []) o refl) (nothing_remade apply p (take k h) m o w t) (told_all (KeepsSizes p (now p order h) (Regrant w t) []) o (sized_regranted p (now p order h) w t)) (rose_none o 0 c c (Regrant w t) refl refl (same_more c c refl) (later_self c))

same_kept : (apply : Apply) (p : Plan) (order : List ℕ) (h new : List Event) (k : ℕ) (o : Option Store) (m : Store) (f0 m0 : ℕ) (c : Counts) → new ≡ h → ∥ IsKept apply p order (take k h) (drop k h) o m f0 m0 c ∥₁ → ∥ IsKept apply p order (take k new) (drop k new) o m f0 m0 c ∥₁
same_kept apply p order h new k o m f0 m0 c is kept = subst (λ l. ∥ IsKept apply p order (take k l) (drop k l) o m f0 m0 c ∥₁) (sym is) kept

task_kept : (apply : Apply) (p : Plan) (order : List ℕ) (h new : List Event) (k w t : ℕ) (o : Option Store) (m : Store) (f0 m0 : ℕ) (c : Counts) (b : Bool) → k ≤ length h → new ≡ cond b h (h ++ Grant w t ∷ []) → ∥ IsKept apply p order (take k h) (drop k h) o m f0 m0 c ∥₁ → ∥ IsKept apply p order (take k new) (drop k new) o m f0 m0 c ∥₁
task_kept apply p order h new k w t o m f0 m0 c true begun is kept = same_kept apply p order h new k o m f0 m0 c is kept
task_kept apply p order h new k w t o m f0 m0 c false begun is kept = same_kept apply p order (h ++ Grant w t ∷ []) new k o m f0 m0 c is (granted apply p order h k w t o m f0 m0 c begun kept)

pub next_keeps : (apply : Apply) (p : Plan) (order : List ℕ) (s : State) (w : ℕ) (x : Next) (h new : List Event) (k : ℕ) (o : Option Store) (m : Store) (f0 m0 : ℕ) (c : Counts) → k ≤ length h → IsNext p s w x h new → ∥ IsKept apply p order (take k h) (drop k h) o m f0 m0 c ∥₁ → ∥ IsKept apply p order (take k new) (drop k new) o m f0 m0 c ∥₁
next_keeps apply p order s w (next.Task t) h new k o m f0 m0 c begun (inl is) kept = task_kept apply p order h new k w t.0 o m f0 m0 c (is_clean p t.0) begun is.1 kept
next_keeps apply p order s w (next.Task t) h new k o m f0 m0 c begun (inr is) kept = same_kept apply p order (h ++ Regrant w t.0 ∷ []) new k o m f0 m0 c is.1 (regranted apply p order h k w t.0 o m f0 m0 c begun kept)
next_keeps apply p order s w next.Done h new k o m f0 m0 c begun is kept = same_kept apply p order h new k o m f0 m0 c is.1 kept
next_keeps apply p order s w next.Stopped h new k o m f0 m0 c begun is kept = same_kept apply p order h new k o m f0 m0 c is.1 kept
next_keeps apply p order s w next.NotYet h new k o m f0 m0 c begun is kept = same_kept apply p order h new k o m f0 m0 c is.4 kept

-- the record is no shorter
longer : {A : Type 0} (h x : List A) (k : ℕ) → k ≤ length h → k ≤ length (h ++ x)
longer h x k l = let both = length-append h x in omega (arith, both, l)

pub next_begun : (p : Plan) (s : State) (w : ℕ) (x : Next) (h new : List Event) (k : ℕ) → k ≤ length h → IsNext p s w x h new → k ≤ length new
next_begun p s w (next.Task t) h new k begun (inl is) = by (is_clean p t.0) is.1
  where
    by : (b : Bool) → new ≡ cond b h (h ++ Grant w t.0 ∷ []) → k ≤ length new
    by true e = subst (λ (l : List Event). k ≤ length l) (sym e) begun
    by false e = subst (λ (l : List Event). k ≤ length l) (sym e) (longer h (Grant w t.0 ∷ []) k begun)
next_begun p s w (next.Task t) h new k begun (inr is) = subst (λ (l : List Event). k ≤ length l) (sym is.1) (longer h (Regrant w t.0 ∷ []) k begun)
next_begun p s w next.Done h new k begun is = subst (λ (l : List Event). k ≤ length l) (sym is.1) begun
next_begun p s w next.Stopped h new k begun is = subst (λ (l : List Event). k ≤ length l) (sym is.1) begun
next_begun p s w next.NotYet h new k begun is = subst (λ (l : List Event). k ≤ length l) (sym is.4) begun

pub grown : (h new : List Event) (e : Event) (k : ℕ) → k ≤ length h → new ≡ h ++ e ∷ [] → k ≤ length new
grown h new e k begun is = subst (λ (l : List Event). k ≤ length l) (sym is) (longer h (e ∷ []) k begun)

-- a fresh order begins with no Clean
fresh_no_clean : (p : Plan) (s : State) (n : ℕ) (xs : List ℕ) (t : ℕ) → IsFreshAmong p s n xs t → is_clean p t ≡ false
fresh_no_clean p s n [] t is = absurd is
fresh_no_clean p s zero (x ∷ xs) t is = absurd is
fresh_no_clean p s (suc n) (x ∷ xs) t (inl is) = fresh_no_clean p s (suc n) xs t is.1
fresh_no_clean p s (suc n) (x ∷ xs) t (inr (inl is)) = subst (λ z. is_clean p z ≡ false) is.2 is.0.no_clean
fresh_no_clean p s (suc n) (x ∷ xs) t (inr (inr is)) = fresh_no_clean p s n xs t is.2

pub clean_is : (p : Plan) (t : ℕ) (q : PairId) → kind p t ≡ Some (CleanTask q) → is_clean p t ≡ true
clean_is p t q e = ap is_clean_kind e

-- a Clean that `next` answers is the Choice, and nothing is added
next_clean : (p : Plan) (s : State) (w t : ℕ) (r new : List Event) → is_clean p t ≡ true → (IsChoice p s t × (new ≡ cond (is_clean p t) r (r ++ Grant w t ∷ []))) ⊎ (IsFresh p s t × (new ≡ r ++ Regrant w t ∷ [])) → IsChoice p s t × (new ≡ r)
next_clean p s w t r new clean (inl is) = (is.0, is.1 ∙ ap (λ b. cond b r (r ++ Grant w t ∷ [])) clean)
next_clean p s w t r new clean (inr is) = absurd (let x : true ≡ false = sym clean ∙ fresh_no_clean p s 4 s.rest t is.0.among in cc)

pub next_choice : (b a : Book) (w t : ℕ) → a.plan ≡ b.plan → a.order.items ≡ b.order.items → is_clean b.plan t ≡ true → (IsChoice b.plan (state_at b) t × (a.history.events ≡ cond (is_clean b.plan t) b.history.events (b.history.events ++ Grant w t ∷ []))) ⊎ (IsFresh b.plan (state_at b) t × (a.history.events ≡ b.history.events ++ Regrant w t ∷ []))
    → IsChoice a.plan (state_at a) t
next_choice b a w t same ordered clean is =
    let found = next_clean b.plan (state_at b) w t b.history.events a.history.events clean is in
    subst (λ p. IsChoice p (now p (task_numbers a.order.items) a.history.events) t) (sym same)
    (subst (λ (l : List TaskId). IsChoice b.plan (now b.plan (task_numbers l) a.history.events) t) (sym ordered)
    (subst (λ (l : List Event). IsChoice b.plan (now b.plan (task_numbers b.order.items) l) t) (sym found.1) found.0))

pub next_leases : (b a : Book) (q : Plan) (w t : ℕ) (new : List Event) (o : Option Store) (before now_ : Counts) (answer : Leased) → b.plan ≡ q → a.plan ≡ b.plan → a.order.items ≡ b.order.items → is_clean b.plan t ≡ true → (IsChoice b.plan (state_at b) t × (a.history.events ≡ cond (is_clean b.plan t) b.history.events (b.history.events ++ Grant w t ∷ []))) ⊎ (IsFresh b.plan (state_at b) t × (a.history.events ≡ b.history.events ++ Regrant w t ∷ []))
    → Leases a.plan (state_at a) w a.history.events new o before now_ answer → Leases q (state_at b) w b.history.events new o before now_ answer
next_leases b a q w t new o before now_ answer is_q same ordered clean is leased =
    let found = next_clean b.plan (state_at b) w t b.history.events a.history.events clean is in
    subst (λ p. Leases p (state_at b) w b.history.events new o before now_ answer) is_q
    (subst (λ (l : List Event). Leases b.plan (now b.plan (task_numbers b.order.items) l) w l new o before now_ answer) found.1
    (subst (λ (l : List TaskId). Leases b.plan (now b.plan (task_numbers l) a.history.events) w a.history.events new o before now_ answer) ordered
    (subst (λ p. Leases p (now p (task_numbers a.order.items) a.history.events) w a.history.events new o before now_ answer) same leased)))
