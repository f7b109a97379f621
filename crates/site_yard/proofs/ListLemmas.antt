-- The list of what was delivered, with one entry more of the record.
use Rattle.std.proofs.Common.{◌≡◌, ℕ, ◌≤◌, inl, inr, Bool, true, false, cond, List, [], ◌∷◌, ◌++◌, map, length, drop, take, refl, sym, ap, ◌∙◌, subst, append_assoc}
use Rattle.std.specs.Prelude.{Option, is_some}
use Rattle.std.proofs.lemmas.List.Elements.{All-nil}
use Rattle.std.proofs.Math.Logic.{∥∥₁_map}
use Rattle.values.specs.Apply.{Apply}
use Rattle.outside.specs.declared.store.Store.{Store}
use Rattle.plan_core.specs.declared.plan.Plan.{Plan}
use Rattle.plan_core.specs.Words.{is_clean}
use Rattle.run_record.specs.declared.entry.Cause.{Cause}
use Rattle.run_record.specs.Events.{Event, Grant, Regrant}
use Rattle.lease_rules.specs.State.{State}
use Rattle.lease_book.specs.declared.leasing.Next.{Next}
use Rattle.lease_book.specs.declared.leasing.Next.TheVariants as next
use Rattle.lease_book.specs.Book.{IsNext}
use Rattle.site_yard.specs.Changes.{carries}
use Rattle.site_yard.specs.code.Delivered.{AreDelivered}
use Rattle.site_yard.specs.Delivered.{Arrival, IsDigestOf, arrivals, arrivals_of, carried_digest}
use Rattle.site_yard.specs.declared.delivered.Delivered.{Delivered}
use Rattle.site_yard.proofs.KeptLemmas.{drop_more, failed, take_same}

nil_after : {A : Type 0} (r : List A) → r ++ [] ≡ r
nil_after [] = refl
nil_after (e ∷ r) = ap (λ l. e ∷ l) (nil_after r)

pub arrivals_append : (p : Plan) (r s : List Event) → arrivals p (r ++ s) ≡ arrivals p r ++ arrivals p s
arrivals_append p [] s = refl
arrivals_append p (e ∷ r) s = ap (λ l. arrivals_of p e ++ l) (arrivals_append p r s) ∙ sym (append_assoc (arrivals_of p e) (arrivals p r) (arrivals p s))

pub arrivals_more : (p : Plan) (r : List Event) (e : Event) → arrivals p (r ++ e ∷ []) ≡ arrivals p r ++ arrivals_of p e
arrivals_more p r e = arrivals_append p r (e ∷ []) ∙ ap (λ l. arrivals p r ++ l) (nil_after (arrivals_of p e))

-- a record of the same arrivals
list_same : (apply : Apply) (p : Plan) (first r new : List Event) (o n : Option Store) (m : Store) (ds : List Delivered) → arrivals p new ≡ arrivals p r → is_some n ≡ is_some o → AreDelivered apply p first r o m ds → AreDelivered apply p first new n m ds
list_same apply p first r new o n m ds same tells old = record {
  files = old.files ∙ sym (ap (map (λ (a : Arrival). a.file)) same);
  lengths = old.lengths ∙ sym (ap (map (λ (a : Arrival). a.size)) same);
  digests = λ opening told. old.digests opening (sym tells ∙ told) ∙ sym (ap (map (carried_digest (carries apply p m))) same);
  of_bytes = old.of_bytes;
}

pub list_told : (apply : Apply) (p : Plan) (first r : List Event) (o n : Option Store) (m : Store) (ds : List Delivered) → is_some n ≡ is_some o → ∥ AreDelivered apply p first r o m ds ∥₁ → ∥ AreDelivered apply p first r n m ds ∥₁
list_told apply p first r o n m ds tells old = ∥∥₁_map old (list_same apply p first r r o n m ds refl tells)

-- an entry by which no delivery arrives
quiet : (p : Plan) (r : List Event) (e : Event) → arrivals_of p e ≡ [] → arrivals p (r ++ e ∷ []) ≡ arrivals p r
quiet p r e none = arrivals_more p r e ∙ ap (λ l. arrivals p r ++ l) none ∙ nil_after (arrivals p r)

pub list_still : (apply : Apply) (p : Plan) (h : List Event) (k : ℕ) (e : Event) (o n : Option Store) (m : Store) (ds : List Delivered) → k ≤ length h → arrivals_of p e ≡ [] → is_some n ≡ is_some o → ∥ AreDelivered apply p (take k h) (drop k h) o m ds ∥₁ → ∥ AreDelivered apply p (take k (h ++ e ∷ [])) (drop k (h ++ e ∷ [])) n m ds ∥₁
list_still apply p h k e o n m ds begun none tells old =
    subst (λ l. ∥ AreDelivered apply p l (drop k (h ++ e ∷ [])) n m ds ∥₁) (sym (take_same h (e ∷ []) k begun))
    (subst (λ l. ∥ AreDelivered apply p (take k h) l n m ds ∥₁) (sym (drop_more h (e ∷ []) k begun))
    (∥∥₁_map old (list_same apply p (take k h) (drop k h) (drop k h ++ e ∷ []) o n m ds (quiet p (drop k h) e none) tells)))

pub none_fails : (p : Plan) (b : Bool) (w t : ℕ) (cause : Cause) (ns : List ℕ) → arrivals_of p (failed b w t cause ns) ≡ []
none_fails p true w t cause ns = refl
none_fails p false w t cause ns = refl

pub list_empty : (apply : Apply) (p : Plan) (r : List Event) (o : Option Store) (m : Store) (ds : List Delivered) → r ≡ [] → ds ≡ [] → ∥ AreDelivered apply p (take 0 r) (drop 0 r) o m ds ∥₁
list_empty apply p r o m ds none empty =
    subst (λ l. ∥ AreDelivered apply p (take 0 l) (drop 0 l) o m ds ∥₁) (sym none)
    (subst (λ l. ∥ AreDelivered apply p [] [] o m l ∥₁) (sym empty) (∣ (record { files = refl; lengths = refl; digests = λ opening told. refl; of_bytes = All-nil (λ (d : Delivered). IsDigestOf d.length d.digest) }) ∣₁))

-- what `next` adds
next_one : (apply : Apply) (p : Plan) (h new : List Event) (k : ℕ) (b : Bool) (e : Event) (o : Option Store) (m : Store) (ds : List Delivered) → k ≤ length h → arrivals_of p e ≡ [] → new ≡ cond b h (h ++ e ∷ []) → ∥ AreDelivered apply p (take k h) (drop k h) o m ds ∥₁ → ∥ AreDelivered apply p (take k new) (drop k new) o m ds ∥₁
next_one apply p h new k true e o m ds begun none is old = subst (λ l. ∥ AreDelivered apply p (take k l) (drop k l) o m ds ∥₁) (sym is) old
next_one apply p h new k false e o m ds begun none is old = subst (λ l. ∥ AreDelivered apply p (take k l) (drop k l) o m ds ∥₁) (sym is) (list_still apply p h k e o o m ds begun none refl old)

pub next_lists : (apply : Apply) (p : Plan) (s : State) (w : ℕ) (x : Next) (h new : List Event) (k : ℕ) (o : Option Store) (m : Store) (ds : List Delivered) → k ≤ length h → IsNext p s w x h new → ∥ AreDelivered apply p (take k h) (drop k h) o m ds ∥₁ → ∥ AreDelivered apply p (take k new) (drop k new) o m ds ∥₁
next_lists apply p s w (next.Task t) h new k o m ds begun (inl is) old = next_one apply p h new k (is_clean p t.0) (Grant w t.0) o m ds begun refl is.1 old
next_lists apply p s w (next.Task t) h new k o m ds begun (inr is) old = next_one apply p h new k false (Regrant w t.0) o m ds begun refl is.1 old
next_lists apply p s w next.Done h new k o m ds begun is old = next_one apply p h new k true (Regrant w 0) o m ds begun refl is.1 old
next_lists apply p s w next.Stopped h new k o m ds begun is old = next_one apply p h new k true (Regrant w 0) o m ds begun refl is.1 old
next_lists apply p s w next.NotYet h new k o m ds begun is old = next_one apply p h new k true (Regrant w 0) o m ds begun refl is.4 old
