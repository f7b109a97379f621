-- What told readings of a loan hold: what is carried.
use Rattle.std.proofs.Common.{◌≡◌, ℕ, true, cond, List, [], ◌∷◌, ◌++◌, map, drop, take, refl, sym, ap, ◌∙◌, subst, nat_eq}
use Rattle.std.specs.Prelude.{Option, Some, None, IfSome}
use Rattle.std.specs.FinMap as files
use Rattle.std.proofs.Math.Logic.{∥∥₁_elim}
use Rattle.std.proofs.Props.{props}
use Rattle.values.specs.Apply.{Apply}
use Rattle.outside.specs.declared.counts.Counts.{Counts}
use Rattle.values.specs.declared.numbers.FileId.{FileId}
use Rattle.values.specs.declared.numbers.SiteId.{SiteId}
use Rattle.outside.specs.declared.store.Store.{Store}
use Rattle.outside.specs.code.Lending.{TellsFound}
use Rattle.outside.specs.code.Parts.{DraftState, ReadState}
use Rattle.plan_core.specs.Carried.{carried_by, read, stored}
use Rattle.plan_core.specs.declared.plan.Plan.{Plan}
use Rattle.plan_core.specs.declared.plan.TaskKind.{TaskKind}
use Rattle.plan_core.specs.declared.plan.TaskKind.TheVariants.{Transfer, Run, Clean as CleanTask}
use Rattle.plan_core.specs.declared.plan.Target.{Target}
use Rattle.plan_core.specs.declared.plan.Source.TheVariants.{Pfn, Site}
use Rattle.plan_core.specs.Kinds.{reads_file}
use Rattle.plan_core.specs.Numbers.{has}
use Rattle.plan_core.specs.code.Proper.{IsProper}
use Rattle.plan_core.specs.Words.{kind, reads, task_numbers}
use Rattle.plan_core.proofs.TestLemmas.{is_itself, or_left, or_right}
use Rattle.run_record.specs.Events.{Event}
use Rattle.lease_book.specs.declared.book.Book.{Book}
use Rattle.lease_book.specs.Book.{state_at}
use Rattle.lease_rules.specs.Legal.{IsOpen, Legal}
use Rattle.lease_rules.specs.State.{now}
use Rattle.site_yard.specs.Changes.{carries}
use Rattle.site_yard.specs.code.Kept.{IsKept, IsOpening}
use Rattle.site_yard.specs.code.Law.{HasPlanLaws, HasRecordLaws}
use Rattle.site_yard.specs.code.Loan.{AreOpened, AreReadings, IsLent, IsReplica, at_pair, fresh_at, inputs, read_told, targets}
use Rattle.plan_core.specs.Names.{pair_file, pair_site}
use Rattle.plan_core.specs.code.Names.{content}
use Rattle.site_yard.proofs.FollowLemmas.{not_swept, open_after}
use Rattle.site_yard.proofs.KeptLemmas.{parts}
use Rattle.site_yard.proofs.LoanLemmas.{HasBookLaws}
use Rattle.site_yard.proofs.PlaceLemmas.{replicas_changed}
use Rattle.site_yard.proofs.StandsLemmas.{pair_stands}
use Rattle.site_yard.proofs.PlanLemmas.{has_writer, read_below, read_file, stored_is, transfer_reads, written_file}

tells : (x o : Option (List ℕ)) → TellsFound (Some x) o → o ≡ x
tells None o h = absurd h
tells (Some b) o h = h

same_id : (q : ℕ) (qs : List ℕ) → has (q ∷ qs) q ≡ true
same_id q qs = or_left (nat_eq q q) (has qs q) (is_itself q)

head_is : (n : ℕ) (a b : Option (List ℕ)) → a ≡ b → a ∷ [] ≡ b ∷ []
head_is n a b e = ap (λ x. x ∷ []) e

module _ (p : Plan) (proper : IsProper p) (plan_laws : HasPlanLaws p) (order : List ℕ) (laws : HasRecordLaws p order) (apply : Apply) (first r : List Event) (s m : Store) (f0 m0 : ℕ) (c : Counts) (legal : Legal p order (first ++ r)) (kept : IsKept apply p order first r (Some s) m f0 m0 c) (opening : IsOpening apply p first m) (w t : ℕ) (opened_ : IsOpen (now p order (first ++ r)) w t) where
  -- a pair that an open task reads
  read_content : (q : ℕ) → has (reads p t) q ≡ true → at_pair p s q ≡ content p (carries apply p m) q
  read_content q h =
      let found = has_writer p plan_laws q (read_below p plan_laws t q h) in
      let u : ℕ = found.0 in
      let end = open_after p plan_laws order laws (first ++ r) w t u legal opened_ (plan_laws.readers_after t u q h found.1) in
      let free = not_swept p plan_laws order laws (first ++ r) w t q legal opened_ h in
      pair_stands p proper plan_laws order laws apply first r s m f0 m0 c legal kept opening u q found.1 end free
      ∙ sym (stored_is p plan_laws (carries apply p m) u (pair_site p q) (pair_file p q) (written_file p plan_laws u q found.1))

  opened_content : (qs : List ℕ) (rs : List ReadState) → ((q : ℕ) → has qs q ≡ true → has (reads p t) q ≡ true) → AreOpened p qs (Some s) rs → map read_told rs ≡ map (content p (carries apply p m)) qs
  opened_content [] [] sub h = refl
  opened_content [] (x ∷ rs) sub h = absurd h
  opened_content (q ∷ qs) [] sub h = absurd h
  opened_content (q ∷ qs) (x ∷ rs) sub h =
      ap (λ z. z ∷ map read_told rs) (tells (at_pair p s q) x.told h.0.told ∙ read_content q (sub q (same_id q qs)))
      ∙ ap (λ l. content p (carries apply p m) q ∷ l) (opened_content qs rs (λ g e. sub g (or_right (nat_eq q g) (has qs g) e)) h.1)

  replica_content : (g : FileId) (x : List ℕ) (to : Target) (rs : List ReadState) → kind p t ≡ Some (Transfer g (Pfn x) to) → IsReplica p g.0 x (Some s) rs → map read_told rs ≡ carries apply p m t g.0 ∷ []
  replica_content g x to [] e h = absurd h
  replica_content g x to (a ∷ b ∷ rs) e h = absurd h
  replica_content g x to (a ∷ []) e h =
      ap (λ z. z ∷ []) (tells (files.get s.replicas x) a.told h.told
      ∙ ap (λ z. files.get z x) (ap (λ z. z.replicas) kept.become.is ∙ replicas_changed m kept.become.made)
      ∙ sym (ap (λ (k : Option TaskKind). carried_by apply (λ pfn. files.get m.replicas pfn) p.jobs (read p (carries apply p m) t) k g.0) e)
      ∙ sym (plan_laws.carrying apply (λ pfn. files.get m.replicas pfn) t g.0))

  site_content : (g : FileId) (a : SiteId) (to : Target) (rs : List ReadState) → kind p t ≡ Some (Transfer g (Site a) to) → AreOpened p (reads p t) (Some s) rs → map read_told rs ≡ carries apply p m t g.0 ∷ []
  site_content g a to rs e h =
      let found = transfer_reads p proper plan_laws t g a to e in
      let q : ℕ = found.0 in
      let cs : ℕ → ℕ → Option (List ℕ) = carries apply p m in
      let mine : has (reads p t) q ≡ true = ap (λ (l : List ℕ). has l q) found.3 ∙ same_id q [] in
      let reads_it : reads_file p t a.0 g.0 ≡ true = ap (λ x. reads_file p t x g.0) (sym found.1) ∙ ap (λ y. reads_file p t (pair_site p q) y) (sym found.2) ∙ read_file p plan_laws t q mine in
      let carried_is : cs t g.0 ≡ stored p cs a.0 g.0 =
      plan_laws.carrying apply (λ pfn. files.get m.replicas pfn) t g.0
      ∙ ap (λ (k : Option TaskKind). carried_by apply (λ pfn. files.get m.replicas pfn) p.jobs (read p cs t) k g.0) e
      ∙ ap (λ b. cond b (stored p cs a.0 g.0) None) reads_it in
      opened_content (reads p t) rs (λ g e. e) h
      ∙ ap (map (content p cs)) found.3
      ∙ ap (λ x. stored p cs x (pair_file p q) ∷ []) found.1
      ∙ ap (λ y. stored p cs a.0 y ∷ []) found.2
      ∙ ap (λ x. x ∷ []) (sym carried_is)

  kind_content : (k : Option TaskKind) (rs : List ReadState) → kind p t ≡ k → AreReadings p k (reads p t) (Some s) rs → map read_told rs ≡ inputs p (carries apply p m) t k (reads p t)
  kind_content None rs e h = opened_content (reads p t) rs (λ g e. e) h
  kind_content (Some (Run a js)) rs e h = opened_content (reads p t) rs (λ g e. e) h
  kind_content (Some (CleanTask q)) rs e h = opened_content (reads p t) rs (λ g e. e) h
  kind_content (Some (Transfer g (Site a) to)) rs e h = site_content g a to rs e h
  kind_content (Some (Transfer g (Pfn x) to)) rs e h = replica_content g x to rs e h

told_content : (b : Book) (apply : Apply) (k : ℕ) (o : Option Store) (m : Store) (f0 m0 : ℕ) (c : Counts) (w t : ℕ) (rs : List ReadState) → HasBookLaws b → Legal b.plan (task_numbers b.order.items) b.history.events → IsOpen (state_at b) w t → IsKept apply b.plan (task_numbers b.order.items) (take k b.history.events) (drop k b.history.events) o m f0 m0 c → IsOpening apply b.plan (take k b.history.events) m → AreReadings b.plan (kind b.plan t) (reads b.plan t) o rs
    → IfSome o (λ s. map read_told rs ≡ inputs b.plan (carries apply b.plan m) t (kind b.plan t) (reads b.plan t))
told_content b apply k None m f0 m0 c w t rs laws legal opened_ kept opening h = tt
told_content b apply k (Some s) m f0 m0 c w t rs laws legal opened_ kept opening h =
    kind_content b.plan b.proper laws.plans (task_numbers b.order.items) laws.records apply (take k b.history.events) (drop k b.history.events) s m f0 m0 c
    (subst (Legal b.plan (task_numbers b.order.items)) (sym (parts b.history.events k)) legal) kept opening w t
    (subst (λ (l : List Event). IsOpen (now b.plan (task_numbers b.order.items) l) w t) (sym (parts b.history.events k)) opened_) (kind b.plan t) rs refl h

told_prop : (p : Plan) (o : Option Store) (x y : List (Option (List ℕ))) → IsProp (IfSome o (λ s. x ≡ y))
told_prop p None x y = hlevel props
told_prop p (Some s) x y = hlevel props

pub lend_lends : (b : Book) (q : Plan) (apply : Apply) (k : ℕ) (o : Option Store) (m : Store) (f0 m0 : ℕ) (c : Counts) (w t : ℕ) (rs : List ReadState) (ds : List DraftState) → b.plan ≡ q → HasBookLaws b → IsOpen (state_at b) w t → ∥ IsKept apply b.plan (task_numbers b.order.items) (take k b.history.events) (drop k b.history.events) o m f0 m0 c ∥₁
    → AreReadings q (kind q t) (reads q t) o rs → ds ≡ map (fresh_at o) (targets q t) → IsLent apply q (take k b.history.events) m o t rs ds
lend_lends b q apply k o m f0 m0 c w t rs ds same laws opened_ kept readings drafts = record {
  readings = readings;
  drafts = drafts;
  carried = λ opening.
      let prop = told_prop b.plan o (map read_told rs) (inputs b.plan (carries apply b.plan m) t (kind b.plan t) (reads b.plan t)) in
      subst (λ p. IfSome o (λ s. map read_told rs ≡ inputs p (carries apply p m) t (kind p t) (reads p t))) same
      (∥∥₁_elim b.kept.legal prop (λ l. ∥∥₁_elim kept prop (λ x.
      told_content b apply k o m f0 m0 c w t rs laws l opened_ x (subst (λ p. IsOpening apply p (take k b.history.events) m) (sym same) opening) (subst (λ p. AreReadings p (kind p t) (reads p t) o rs) (sym same) readings))));
}
