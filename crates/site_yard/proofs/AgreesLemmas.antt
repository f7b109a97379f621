-- What a store shows of a record.
use Rattle.std.proofs.Common.{◌≡◌, ℕ, zero, suc, true, List, [], ◌∷◌, ◌++◌, drop, take, refl, sym, ap, ◌∙◌, subst, length}
use Rattle.std.specs.Prelude.{Option, Some, None, option_map, is_some, IfSome}
use Rattle.std.proofs.lemmas.List.{append-nil}
use Rattle.std.proofs.Math.Logic.{∥∥₁_map, ∥∥₁_elim, ∥∥₁_prop}
use Rattle.values.specs.Apply.{Apply}
use Rattle.outside.specs.declared.counts.Counts.{Counts}
use Rattle.outside.specs.declared.store.Store.{Store}
use Rattle.outside.specs.code.Store.{changed_by}
use Rattle.plan_core.specs.declared.plan.Plan.{Plan}
use Rattle.plan_core.specs.code.Proper.{IsProper}
use Rattle.plan_core.specs.Words.{task_numbers}
use Rattle.run_record.specs.Events.{Event}
use Rattle.lease_book.specs.declared.book.Book.{Book}
use Rattle.lease_rules.specs.Legal.{Legal, LegalFrom}
use Rattle.lease_rules.specs.State.{State, after, now, now_from, opened}
use Rattle.site_yard.specs.Changes.{carries}
use Rattle.site_yard.specs.code.Changes.{changes}
use Rattle.site_yard.specs.code.Failures.{AreCounted}
use Rattle.site_yard.specs.code.Kept.{IsKept, IsOpening, IsTruthful}
use Rattle.site_yard.specs.code.Law.{AgreesSince, HasPlanLaws, HasRecordLaws, Holds}
use Rattle.plan_core.specs.Names.{pair_file}
use Rattle.site_yard.specs.code.Places.{is_delivered, is_published, is_swept}
use Rattle.site_yard.specs.code.Truthful.{Truthful}
use Rattle.site_yard.proofs.DeliveredLemmas.{delivered_kept, undelivered_kept}
use Rattle.site_yard.proofs.GoneLemmas.{swept_gone}
use Rattle.site_yard.proofs.KeptLemmas.{parts}
use Rattle.site_yard.proofs.LoanLemmas.{HasBookLaws}
use Rattle.site_yard.proofs.OthersLemmas.{others_kept}
use Rattle.site_yard.proofs.PlaceLemmas.{replicas_changed}
use Rattle.site_yard.proofs.SourceLemmas.{published_kept}
use Rattle.site_yard.proofs.SuitsLemmas.{legal_suits}
use Rattle.site_yard.proofs.TraceLemmas.{trace_changed}

there : (x o : Option (List ℕ)) (n : ℕ) → x ≡ o → option_map length o ≡ Some n → is_some x ≡ true
there x None n e h = absurd cc
there x (Some b) n e h = ap is_some e

-- the entries of the opening, and those since
pub legal_parts : (p : Plan) (s : State) (first r : List Event) → LegalFrom p s (first ++ r) → LegalFrom p s first × LegalFrom p (now_from p s first) r
legal_parts p s [] r l = (tt, l)
legal_parts p s (e ∷ first) r l = let more = legal_parts p (after p s e) first r l.1 in ((l.0, more.0), more.1)

pub truthful_since : (apply : Apply) (told : List ℕ → Option (List ℕ)) (p : Plan) (c : ℕ → ℕ → Option (List ℕ)) (first r : List Event) → Truthful apply told p c (first ++ r) → Truthful apply told p c r
truthful_since apply told p c [] r h = h
truthful_since apply told p c (e ∷ first) r h = truthful_since apply told p c first r h.1

module _ (p : Plan) (proper : IsProper p) (plan_laws : HasPlanLaws p) (order : List ℕ) (laws : HasRecordLaws p order) (apply : Apply) (first r : List Event) (m : Store) where
  holds : (s : Store) → Legal p order (first ++ r) → s ≡ changed_by m (changes p (carries apply p m) r) → IsTruthful apply p m (first ++ r) → Holds apply p first r m s
  holds s legal changed truthful =
      let parted = legal_parts p (opened order) first r legal in
      let since : IsTruthful apply p m r = truthful_since apply _ p _ first r truthful in
      record {
        truthful = truthful;
        published = λ q put free.
            let found = published_kept p proper plan_laws apply r s m (legal_suits p (now p order first) r parted.1) changed since q put free in
            (found.0, found.1.0, found.1.1, there _ (carries apply p m found.0 (pair_file p q)) found.1.2.0 found.1.1 found.1.2.1);
        swept = swept_gone p proper plan_laws order laws apply first r s m parted.0 parted.1 changed;
        untouched = others_kept p proper plan_laws apply r s m changed;
        delivered = λ f h.
            let found = delivered_kept p proper plan_laws apply r s m changed since f h in
            (found.0, found.2, found.3, there _ (carries apply p m found.0 f) found.1 found.3 found.4);
        undelivered = undelivered_kept p apply r s m changed;
      }

  pub agrees : (s : Store) (f0 m0 : ℕ) (counts : Counts) → Legal p order (first ++ r) → IsKept apply p order first r (Some s) m f0 m0 counts → AgreesSince apply p first r m s
  agrees s f0 m0 counts legal kept = record {
    replicas = ap (λ z. z.replicas) kept.become.is ∙ replicas_changed m kept.become.made;
    trace = ap (λ z. z.trace) kept.become.is ∙ trace_changed m kept.become.made ∙ ap (λ l. m.trace ++ l) kept.become.operations;
    holds = λ opening. holds s legal (kept.become.is ∙ ap (changed_by m) (kept.become.are opening)) (kept.truthful opening);
  }

  agrees_told : (o : Option Store) (f0 m0 : ℕ) (counts : Counts) → Legal p order (first ++ r) → IsKept apply p order first r o m f0 m0 counts → IfSome o (AgreesSince apply p first r m)
  agrees_told None f0 m0 counts legal kept = tt
  agrees_told (Some s) f0 m0 counts legal kept = agrees s f0 m0 counts legal kept

pub book_agrees : (b : Book) → HasBookLaws b → (apply : Apply) (k : ℕ) (o : Option Store) (m : Store) (f0 m0 : ℕ) (counts : Counts) → ∥ IsKept apply b.plan (task_numbers b.order.items) (take k b.history.events) (drop k b.history.events) o m f0 m0 counts ∥₁
    → ∥ IfSome o (AgreesSince apply b.plan (take k b.history.events) (drop k b.history.events) m) ∥₁
book_agrees b laws apply k o m f0 m0 counts kept =
    let first : List Event = take k b.history.events in
    let r : List Event = drop k b.history.events in
    ∥∥₁_elim b.kept.legal ∥∥₁_prop (λ l. ∥∥₁_map kept (λ x. agrees_told b.plan b.proper laws.plans (task_numbers b.order.items) laws.records apply first r m o f0 m0 counts (subst (Legal b.plan (task_numbers b.order.items)) (sym (parts b.history.events k)) l) x))

pub book_counted : (b : Book) (apply : Apply) (k : ℕ) (o : Option Store) (m : Store) (f0 m0 : ℕ) (counts : Counts) → ∥ IsKept apply b.plan (task_numbers b.order.items) (take k b.history.events) (drop k b.history.events) o m f0 m0 counts ∥₁ → ∥ AreCounted o f0 m0 counts (drop k b.history.events) ∥₁
book_counted b apply k o m f0 m0 counts kept = ∥∥₁_map kept (λ x. x.counted)

-- what is said of a yard that was opened with no entry
pub opening_of_none : (apply : Apply) (p : Plan) (m : Store) → IsOpening apply p [] m
unfolding is_delivered
opening_of_none apply p m = record { truthful = tt; stored = λ t q h e free. absurd cc; delivered = λ t f h e. absurd cc }

pub all_since : {A : Type 0} (k : ℕ) (h : List A) → take k h ≡ [] → drop k h ≡ h
all_since zero h e = refl
all_since (suc k) [] e = refl
all_since (suc k) (x ∷ h) e = absurd cc

-- a store shows no entries of itself
pub none_agrees : (apply : Apply) (p : Plan) (first : List Event) (m : Store) → AgreesSince apply p first [] m m
unfolding is_delivered is_published is_swept
none_agrees apply p first m = record {
  replicas = refl;
  trace = sym (append-nil m.trace);
  holds = λ opening. record {
    truthful = subst (IsTruthful apply p m) (sym (append-nil first)) opening.truthful;
    published = λ q put free. absurd cc;
    swept = λ q h. absurd cc;
    untouched = λ site name none. refl;
    delivered = λ f h. absurd cc;
    undelivered = λ name none. refl;
  };
}
