-- A loan that is out: its parts are the task's, whatever was done with them.
use Rattle.std.proofs.Common.{◌≡◌, ℕ, ◌+◌, ◌≤◌, true, List, [], ◌∷◌, ◌++◌, map, length, refl, sym, ap, ◌∙◌, subst, arith}
use Rattle.std.specs.Prelude.{Option, Some, None, option_map, is_some, Err}
use Rattle.std.specs.FinMap as files
use Rattle.std.proofs.lemmas.List.{length-append, length-map}
use Rattle.values.specs.Apply.{Apply}
use Rattle.outside.specs.code.Lending.{IsOpened, TellsFound}
use Rattle.outside.specs.code.Parts.{DraftState, ReadState, extended, draft_faults, part_faults, reading_faults}
use Rattle.outside.specs.declared.store.Store.{Store}
use Rattle.plan_core.specs.declared.plan.Plan.{Plan}
use Rattle.plan_core.specs.declared.plan.Source.TheVariants.{Pfn, Site}
use Rattle.plan_core.specs.declared.plan.TaskKind.{TaskKind}
use Rattle.plan_core.specs.declared.plan.TaskKind.TheVariants.{Transfer, Run, Clean as CleanTask}
use Rattle.plan_core.specs.code.Proper.{IsProper}
use Rattle.plan_core.specs.Words.{declared, is_transfer_kind, kind, reads, writes}
use Rattle.storage_simulation.specs.Goods.{or_zero}
use Rattle.run_record.specs.declared.entry.Cause.TheVariants as why
use Rattle.run_record.specs.Events.{Event}
use Rattle.site_yard.specs.code.Law.{HasPlanLaws}
use Rattle.lease_rules.specs.code.Storing.{pair_limit}
use Rattle.site_yard.specs.code.Loan.{Aim, AreDrafts, AreOpened, AreReadings, IsDraftOf, IsLent, IsLoan, IsReplica, at_pair, count_readings, fresh_at, pair_target, targets, targets_in}
use Rattle.site_yard.specs.code.Yard.{IsTold}
use Rattle.site_yard.proofs.AimLemmas.{aim_of, moved_limit}
use Rattle.site_yard.proofs.PlanLemmas.{transfer_reads}
use Rattle.task_work.specs.Filling.{AreParts}
use Rattle.task_work.specs.Making.{AreBegun, AreEmpty, Each, limit_of}
use Rattle.task_work.specs.Pieces.{IsSteadyDraft, IsSteadyReading}
use Rattle.worker_gate.specs.code.Tending.{AreUnread, CanFinish, HasLoan, IsHeld, IsUnread, limits_in}

-- as it was lent
tells_all : (found o : Option (List ℕ)) → TellsFound (Some found) o → is_some o ≡ true
tells_all None o h = absurd h
tells_all (Some b) o h = ap is_some h

opened_unread : (o : Option Store) (found : Store → Option (List ℕ)) (limit : ℕ) (r : ReadState) → IsOpened (option_map found o) limit r → IsUnread o limit r
opened_unread None found limit r h = record { given = h.given; faults = h.faults; within = h.within; tells = tt }
opened_unread (Some s) found limit r h = record { given = h.given; faults = h.faults; within = h.within; tells = tells_all (found s) r.told h.told }

pairs_unread : (p : Plan) (o : Option Store) (qs : List ℕ) (rs : List ReadState) → AreOpened p qs o rs → AreUnread o (map (pair_limit p) qs) rs
pairs_unread p o [] [] h = tt
pairs_unread p o [] (r ∷ rs) h = absurd h
pairs_unread p o (q ∷ qs) [] h = absurd h
pairs_unread p o (q ∷ qs) (r ∷ rs) h = (opened_unread o (λ z. at_pair p z q) (pair_limit p q) r h.0, pairs_unread p o qs rs h.1)

replica_unread : (p : Plan) (o : Option Store) (f : ℕ) (x : List ℕ) (rs : List ReadState) → IsReplica p f x o rs → AreUnread o (or_zero (declared p f) ∷ []) rs
replica_unread p o f x [] h = absurd h
replica_unread p o f x (a ∷ b ∷ rs) h = absurd h
replica_unread p o f x (a ∷ []) h = (opened_unread o (λ z. files.get z.replicas x) (or_zero (declared p f)) a h, tt)

lent_unread : (p : Plan) (k : Option TaskKind) (qs : List ℕ) (o : Option Store) (rs : List ReadState) → AreReadings p k qs o rs → AreUnread o (limits_in p k qs) rs
lent_unread p None qs o rs h = pairs_unread p o qs rs h
lent_unread p (Some (Run a js)) qs o rs h = pairs_unread p o qs rs h
lent_unread p (Some (CleanTask q)) qs o rs h = pairs_unread p o qs rs h
lent_unread p (Some (Transfer f (Site a) to)) qs o rs h = pairs_unread p o qs rs h
lent_unread p (Some (Transfer f (Pfn x) to)) qs o rs h = replica_unread p o f.0 x rs h

pub lent_held : (apply : Apply) (p : Plan) (first : List Event) (m : Store) (o : Option Store) (t : ℕ) (rs : List ReadState) (ds : List DraftState) → IsLent apply p first m o t rs ds → IsHeld apply p first m o t rs ds
lent_held apply p first m o t rs ds lent = record { unread = lent_unread p (kind p t) (reads p t) o rs lent.readings; drafts = lent.drafts; carried = lent.carried }

-- only the case of `told` matters
unread_by : (o n : Store) (ns : List ℕ) (rs : List ReadState) → AreUnread (Some o) ns rs → AreUnread (Some n) ns rs
unread_by o n [] [] h = tt
unread_by o n [] (r ∷ rs) h = absurd h
unread_by o n (x ∷ ns) [] h = absurd h
unread_by o n (x ∷ ns) (r ∷ rs) h = (record { given = h.0.given; faults = h.0.faults; within = h.0.within; tells = h.0.tells }, unread_by o n ns rs h.1)

fresh_by : (o n : Store) (xs : List Aim) → map (fresh_at (Some o)) xs ≡ map (fresh_at (Some n)) xs
fresh_by o n [] = refl
fresh_by o n (x ∷ xs) = ap (λ l. fresh_at (Some o) x ∷ l) (fresh_by o n xs)

pub held_by : (apply : Apply) (p : Plan) (first : List Event) (m : Store) (o n : Option Store) (t : ℕ) (rs : List ReadState) (ds : List DraftState) → is_some n ≡ is_some o → IsHeld apply p first m o t rs ds → IsHeld apply p first m n t rs ds
held_by apply p first m None None t rs ds e h = h
held_by apply p first m None (Some n) t rs ds e h = absurd cc
held_by apply p first m (Some o) None t rs ds e h = absurd cc
held_by apply p first m (Some o) (Some n) t rs ds e h = record {
  unread = unread_by o n (limits_in p (kind p t) (reads p t)) rs h.unread;
  drafts = h.drafts ∙ fresh_by o n (targets p t);
  carried = h.carried;
}

-- lists of parts
unread_many : (o : Option Store) (ns : List ℕ) (rs : List ReadState) → AreUnread o ns rs → length rs ≡ length ns
unread_many o [] [] h = refl
unread_many o [] (r ∷ rs) h = absurd h
unread_many o (n ∷ ns) [] h = absurd h
unread_many o (n ∷ ns) (r ∷ rs) h = let more = unread_many o ns rs h.1 in omega (arith, more)

pub are_begun : (o : Option Store) (ns : List ℕ) (rs : List ReadState) → AreUnread o ns rs → AreBegun rs
are_begun o [] [] h = tt
are_begun o [] (r ∷ rs) h = absurd h
are_begun o (n ∷ ns) [] h = absurd h
are_begun o (n ∷ ns) (r ∷ rs) h = (h.0.given, are_begun o ns rs h.1)

fresh_empty : (o : Option Store) (xs : List Aim) → AreEmpty (map (fresh_at o) xs)
fresh_empty o [] = tt
fresh_empty o (x ∷ xs) = (refl, fresh_empty o xs)

pub are_empty : (o : Option Store) (xs : List Aim) (ds : List DraftState) → ds ≡ map (fresh_at o) xs → AreEmpty ds
are_empty o xs ds is = subst AreEmpty (sym is) (fresh_empty o xs)

-- how many readings a task has, and the one limit of a Transfer
count_limits : (p : Plan) (k : Option TaskKind) (qs : List ℕ) → length (limits_in p k qs) ≡ count_readings k qs
count_limits p None qs = length-map qs (pair_limit p)
count_limits p (Some (Run a js)) qs = length-map qs (pair_limit p)
count_limits p (Some (CleanTask q)) qs = length-map qs (pair_limit p)
count_limits p (Some (Transfer f (Site a) to)) qs = length-map qs (pair_limit p)
count_limits p (Some (Transfer f (Pfn x) to)) qs = refl

pub one_limit : (p : Plan) → IsProper p → HasPlanLaws p → (t : ℕ) (k : Option TaskKind) → kind p t ≡ k → is_transfer_kind k ≡ true → limits_in p k (reads p t) ≡ moved_limit p k ∷ []
one_limit p proper laws t None e h = absurd cc
one_limit p proper laws t (Some (Run a js)) e h = absurd cc
one_limit p proper laws t (Some (CleanTask q)) e h = absurd cc
one_limit p proper laws t (Some (Transfer f (Pfn x) to)) e h = refl
one_limit p proper laws t (Some (Transfer f (Site a) to)) e h =
    let found = transfer_reads p proper laws t f a to e in
    ap (map (pair_limit p)) found.3 ∙ ap (λ y. or_zero (declared p y) ∷ []) found.2

pub record IsOneReading (o : Option Store) (n : ℕ) (rs : List ReadState) : Type 0 where
  pub r : ReadState
  pub is : rs ≡ r ∷ []
  pub unread : IsUnread o n r

one_reading : (o : Option Store) (n : ℕ) (rs : List ReadState) → AreUnread o (n ∷ []) rs → IsOneReading o n rs
one_reading o n [] h = absurd h
one_reading o n (r ∷ []) h = record { r = r; is = refl; unread = h.0 }
one_reading o n (a ∷ b ∷ rs) h = absurd h.1

-- the parts of a loan are the task's
limits_of : (p : Plan) (o : Option Store) (qs : List ℕ) → map limit_of (map (fresh_at o) (map (pair_target p) qs)) ≡ map (pair_limit p) qs
limits_of p o [] = refl
limits_of p o (q ∷ qs) = ap (λ l. pair_limit p q ∷ l) (limits_of p o qs)

parts_in : (p : Plan) → IsProper p → HasPlanLaws p → (t : ℕ) (k : Option TaskKind) → kind p t ≡ k → HasLoan k → (o : Option Store) (rs : List ReadState) (ds : List DraftState) → AreUnread o (limits_in p k (reads p t)) rs → ds ≡ map (fresh_at o) (targets p t) → AreParts p t k rs ds
parts_in p proper laws t None e h o rs ds unread is = absurd h
parts_in p proper laws t (Some (CleanTask q)) e h o rs ds unread is = absurd h
parts_in p proper laws t (Some (Run a js)) e h o rs ds unread is = (
  unread_many o (map (pair_limit p) (reads p t)) rs unread ∙ length-map (reads p t) (pair_limit p),
  ap (map limit_of) (is ∙ ap (λ k. map (fresh_at o) (targets_in p k (writes p t))) e) ∙ limits_of p o (writes p t),
)
parts_in p proper laws t (Some (Transfer f from to)) e h o rs ds unread is =
    let k : Option TaskKind = Some (Transfer f from to) in
    let aim = aim_of p proper laws t k e refl in
    let one = one_reading o (moved_limit p k) rs (subst (λ l. AreUnread o l rs) (one_limit p proper laws t k e refl) unread) in
    let d : ds ≡ fresh_at o aim.0 ∷ [] = is ∙ ap (map (fresh_at o)) aim.1.are in
    subst (λ l. AreParts p t k rs l) (sym d) (subst (λ l. AreParts p t k l (fresh_at o aim.0 ∷ [])) (sym one.is) (subst (λ n. one.r.size ≤ n) aim.1.limit_is one.unread.within))

pub parts_are : (apply : Apply) (p : Plan) → IsProper p → HasPlanLaws p → (first : List Event) (m : Store) (o : Option Store) (t : ℕ) (rs : List ReadState) (ds : List DraftState) → HasLoan (kind p t) → IsHeld apply p first m o t rs ds → AreParts p t (kind p t) rs ds
parts_are apply p proper laws first m o t rs ds has held = parts_in p proper laws t (kind p t) refl has o rs ds held.unread held.drafts

pub held_begun : (apply : Apply) (p : Plan) (first : List Event) (m : Store) (o : Option Store) (t : ℕ) (rs : List ReadState) (ds : List DraftState) → IsHeld apply p first m o t rs ds → AreBegun rs
held_begun apply p first m o t rs ds held = are_begun o (limits_in p (kind p t) (reads p t)) rs held.unread

pub held_empty : (apply : Apply) (p : Plan) (first : List Event) (m : Store) (o : Option Store) (t : ℕ) (rs : List ReadState) (ds : List DraftState) → IsHeld apply p first m o t rs ds → AreEmpty ds
held_empty apply p first m o t rs ds held = are_empty o (targets p t) ds held.drafts

-- the loan is the task's, whatever was done with its parts
fresh_drafts : (o : Option Store) (xs : List Aim) → AreDrafts o xs (map (fresh_at o) xs)
fresh_drafts o [] = tt
fresh_drafts None (x ∷ xs) = (refl, fresh_drafts None xs)
fresh_drafts (Some s) (x ∷ xs) = (([], refl, refl), fresh_drafts (Some s) xs)

steady_draft : (o : Option Store) (x : Aim) (d e : DraftState) → IsSteadyDraft d e → IsDraftOf o x d → IsDraftOf o x e
steady_draft None x d e steady h = steady.told ∙ ap (option_map (extended steady.bytes)) h
steady_draft (Some s) x d e steady h = (
  h.0 ++ steady.bytes,
  steady.told ∙ ap (option_map (extended steady.bytes)) h.1,
  steady.size ∙ ap (λ n. n + length steady.bytes) h.2 ∙ sym (length-append h.0 steady.bytes),
)

steady_drafts : (o : Option Store) (xs : List Aim) (ds es : List DraftState) → Each IsSteadyDraft ds es → AreDrafts o xs ds → AreDrafts o xs es
steady_drafts o [] [] [] steady h = tt
steady_drafts o [] [] (e ∷ es) steady h = absurd steady
steady_drafts o [] (d ∷ ds) es steady h = absurd h
steady_drafts o (x ∷ xs) [] es steady h = absurd h
steady_drafts o (x ∷ xs) (d ∷ ds) [] steady h = absurd steady
steady_drafts o (x ∷ xs) (d ∷ ds) (e ∷ es) steady h = (steady_draft o x d e steady.0 h.0, steady_drafts o xs ds es steady.1 h.1)

pub steady_many : (rs ss : List ReadState) → Each IsSteadyReading rs ss → length ss ≡ length rs
steady_many [] [] h = refl
steady_many [] (s ∷ ss) h = absurd h
steady_many (r ∷ rs) [] h = absurd h
steady_many (r ∷ rs) (s ∷ ss) h = let more = steady_many rs ss h.1 in omega (arith, more)

-- parts of which no call has failed
unread_faults : (o : Option Store) (ns : List ℕ) (rs : List ReadState) → AreUnread o ns rs → reading_faults rs ≡ 0
unread_faults o [] [] h = refl
unread_faults o [] (r ∷ rs) h = absurd h
unread_faults o (n ∷ ns) [] h = absurd h
unread_faults o (n ∷ ns) (r ∷ rs) h = let one = h.0.faults in let more = unread_faults o ns rs h.1 in omega (arith, one, more)

fresh_faults : (o : Option Store) (xs : List Aim) → draft_faults (map (fresh_at o) xs) ≡ 0
fresh_faults o [] = refl
fresh_faults o (x ∷ xs) = let more = fresh_faults o xs in omega (arith, more)

module _ (apply : Apply) (p : Plan) (proper : IsProper p) (laws : HasPlanLaws p) (first : List Event) (m : Store) (t : ℕ) where
  held_loan : (o : Option Store) (rs : List ReadState) (ds : List DraftState) → IsHeld apply p first m o t rs ds → IsLoan p o t rs ds
  held_loan o rs ds held = record {
    readings = unread_many o (limits_in p (kind p t) (reads p t)) rs held.unread ∙ count_limits p (kind p t) (reads p t);
    drafts = subst (AreDrafts o (targets p t)) (sym held.drafts) (fresh_drafts o (targets p t));
  }

  pub steady_loan : (o : Option Store) (rs0 rs1 : List ReadState) (ds0 ds1 : List DraftState) → IsHeld apply p first m o t rs0 ds0 → Each IsSteadyReading rs0 rs1 → Each IsSteadyDraft ds0 ds1 → IsLoan p o t rs1 ds1
  steady_loan o rs0 rs1 ds0 ds1 held readings drafts =
      let loan : IsLoan p o t rs0 ds0 = held_loan o rs0 ds0 held in
      record { readings = steady_many rs0 rs1 readings ∙ loan.readings; drafts = steady_drafts o (targets p t) ds0 ds1 drafts loan.drafts }

  pub no_faults : (o : Option Store) (rs : List ReadState) (ds : List DraftState) → IsHeld apply p first m o t rs ds → part_faults rs ds ≡ 0
  no_faults o rs ds held =
      let a = unread_faults o (limits_in p (kind p t) (reads p t)) rs held.unread in
      let b = ap draft_faults held.drafts ∙ fresh_faults o (targets p t) in
      omega (arith, a, b)

  memory_told : (o : Option Store) → IsTold apply p m o t why.Memory
  memory_told None = tt
  memory_told (Some s) = tt

  -- without a copy of the plan nothing is done with the loan
  pub memory_finishes : (o : Option Store) (rs : List ReadState) (ds : List DraftState) → IsHeld apply p first m o t rs ds → CanFinish apply p first m o t rs ds (Err why.Memory)
  memory_finishes o rs ds held = record { loan = held_loan o rs ds held; kind_is = tt; fits = (λ e. refl, tt); shown = no_faults o rs ds held; is_told = λ opening. memory_told o }

-- where one call of a part fails at most, and none had failed before
pub still_whole : (before later : ℕ) → before ≡ 0 → later ≤ before + 0 → later ≡ 0
still_whole before later none few = omega (arith, none, few)
