-- What a Transfer's loan holds once its bytes were moved, and what a digest that differs says.
use Rattle.std.proofs.Common.{◌≡◌, ℕ, ◌≤◌, Bool, true, false, List, [], ◌∷◌, map, length, refl, sym, ap, ◌∙◌, subst, arith}
use Rattle.std.specs.Prelude.{Option, Some, None, option_map, is_some, IfSome}
use Rattle.std.specs.FinMap as files
use Rattle.sha2.specs.Sha256.{sha256}
use Rattle.values.specs.Apply.{Apply}
use Rattle.outside.specs.code.Parts.{DraftState, Drafted, ReadState, extended, part_faults}
use Rattle.outside.specs.declared.store.Store.{Store}
use Rattle.plan_core.specs.declared.plan.Plan.{Plan}
use Rattle.plan_core.specs.declared.plan.Source.TheVariants.{Pfn, Site}
use Rattle.plan_core.specs.declared.plan.TaskKind.{TaskKind}
use Rattle.plan_core.specs.declared.plan.TaskKind.TheVariants.{Transfer, Run, Clean as CleanTask}
use Rattle.plan_core.specs.Carried.{carried_by, read}
use Rattle.plan_core.specs.code.Proper.{IsProper}
use Rattle.plan_core.specs.Words.{is_transfer, is_transfer_kind, kind, reads}
use Rattle.storage_simulation.specs.Goods.{is_delivery}
use Rattle.run_record.specs.Events.{Event}
use Rattle.lease_rules.specs.Legal.{checksum, is_from_pfn}
use Rattle.site_yard.specs.Changes.{carries}
use Rattle.site_yard.specs.code.Changes.{moved}
use Rattle.site_yard.specs.Delivered.{IsDigestOf}
use Rattle.site_yard.specs.code.Kept.{IsOpening}
use Rattle.site_yard.specs.code.Law.{HasPlanLaws}
use Rattle.site_yard.specs.code.Loan.{Aim, AreCarried, AreSmall, CanSettle, draft_bytes, draft_size, fresh_at, inputs, read_told}
use Rattle.site_yard.specs.code.Truthful.{HasChecksum, HasSum, IsAtPfn, IsDigest}
use Rattle.site_yard.proofs.AimLemmas.{IsAimOf, aim_of, moved_limit}
use Rattle.task_work.specs.Filling.{AreMoved, IsTransferred}
use Rattle.task_work.specs.Making.{Each}
use Rattle.task_work.specs.Moving.{IsAgreeing, digest_of}
use Rattle.task_work.specs.Pieces.{HasMoved, IsSteadyDraft, IsSteadyReading}
use Rattle.worker_gate.specs.code.Inputs.{AreBytesMoved, IsDigestOfBytes}
use Rattle.worker_gate.specs.code.Tending.{AreUnread, IsHeld, IsUnread}
use Rattle.worker_gate.proofs.LoanLemmas.{one_limit, steady_loan}

-- the one reading, and the one draft before and after
pub record IsMovedBy (rs : List ReadState) (ds es : List DraftState) (n : ℕ) (digest : List ℕ) : Type 0 where
  pub r : ReadState
  pub d : DraftState
  pub e : DraftState
  pub reading : rs ≡ r ∷ []
  pub draft : ds ≡ d ∷ []
  pub later : es ≡ e ∷ []
  pub moved : HasMoved r d e n digest

moved_by : (rs : List ReadState) (ds es : List DraftState) (n : ℕ) (digest : List ℕ) → AreMoved rs ds es n digest → IsMovedBy rs ds es n digest
moved_by [] ds es n digest h = absurd h
moved_by (r ∷ q ∷ rs) ds es n digest h = absurd h
moved_by (r ∷ []) [] es n digest h = absurd h
moved_by (r ∷ []) (d ∷ c ∷ ds) es n digest h = absurd h
moved_by (r ∷ []) (d ∷ []) [] n digest h = absurd h
moved_by (r ∷ []) (d ∷ []) (e ∷ f ∷ es) n digest h = absurd h
moved_by (r ∷ []) (d ∷ []) (e ∷ []) n digest h = record { r = r; d = d; e = e; reading = refl; draft = refl; later = refl; moved = h }

-- what a Transfer carries is what its reading told
transfer_inputs : (p : Plan) (c : ℕ → ℕ → Option (List ℕ)) (t : ℕ) (k : Option TaskKind) (qs : List ℕ) → is_transfer_kind k ≡ true → inputs p c t k qs ≡ moved (c t) k ∷ []
transfer_inputs p c t None qs h = absurd cc
transfer_inputs p c t (Some (Run a js)) qs h = absurd cc
transfer_inputs p c t (Some (CleanTask q)) qs h = absurd cc
transfer_inputs p c t (Some (Transfer f from to)) qs h = refl

head_of : Option (List ℕ) → List (Option (List ℕ)) → Option (List ℕ)
head_of d [] = d
head_of d (x ∷ xs) = x

first_is : (a b : Option (List ℕ)) → a ∷ [] ≡ b ∷ [] → a ≡ b
unfolding head_of
first_is a b e = ap (head_of None) e

draft_in : DraftState → List DraftState → DraftState
draft_in d [] = d
draft_in d (x ∷ xs) = x

first_draft : (a b : DraftState) → a ∷ [] ≡ b ∷ [] → a ≡ b
unfolding draft_in
first_draft a b e = ap (draft_in a) e

told_bytes : (told : Option (List ℕ)) (bytes : List ℕ) → is_some told ≡ true → IfSome told (λ all. bytes ≡ all) → told ≡ Some bytes
told_bytes None bytes some is = absurd cc
told_bytes (Some all) bytes some is = ap Some (sym is)

agreed : (p : Plan) (v : ℕ → Option (List ℕ)) (k : Option TaskKind) (bytes digest : List ℕ) → moved v k ≡ Some bytes → digest ≡ sha256 bytes → IsAgreeing p k digest → HasChecksum p v k
agreed p v None bytes digest is d a = tt
agreed p v (Some (Run s js)) bytes digest is d a = tt
agreed p v (Some (CleanTask q)) bytes digest is d a = tt
agreed p v (Some (Transfer f (Site s) to)) bytes digest is d a = tt
agreed p v (Some (Transfer f (Pfn x) to)) bytes digest is d a = by (checksum p f.0) a
  where
    by : (o : Option (List ℕ)) → IfSome o (λ wanted. digest ≡ wanted) → HasSum o (v f.0)
    by None h = tt
    by (Some wanted) h = ap (option_map sha256) is ∙ ap Some (sym d ∙ h)

digest_given : (delivers : Bool) (digest : List ℕ) → is_some (digest_of delivers digest) ≡ delivers
digest_given true digest = refl
digest_given false digest = refl

digest_holds : (delivers : Bool) (digest : List ℕ) (P : List ℕ → Type 0) → P digest → IfSome (digest_of delivers digest) P
digest_holds true digest P h = h
digest_holds false digest P h = tt

pfn_moves : (k : Option TaskKind) → is_from_pfn k ≡ true → is_transfer_kind k ≡ true
pfn_moves None h = absurd cc
pfn_moves (Some (Run s js)) h = absurd cc
pfn_moves (Some (CleanTask q)) h = absurd cc
pfn_moves (Some (Transfer f (Site s) to)) h = absurd cc
pfn_moves (Some (Transfer f (Pfn x) to)) h = refl

module _ (apply : Apply) (p : Plan) (proper : IsProper p) (laws : HasPlanLaws p) (first : List Event) (m : Store) (t : ℕ) (moves : is_transfer p t ≡ true) where
  -- the reading is within what is declared of the file
  unread_one : (o : Option Store) (rs : List ReadState) (ds es : List DraftState) (n : ℕ) (digest : List ℕ) → IsHeld apply p first m o t rs ds → (by : IsMovedBy rs ds es n digest) → IsUnread o (moved_limit p (kind p t)) by.r
  unread_one o rs ds es n digest held by =
      (subst (λ l. AreUnread o (moved_limit p (kind p t) ∷ []) l) by.reading (subst (λ l. AreUnread o l rs) (one_limit p proper laws t (kind p t) refl moves) held.unread)).0

  pub within_limit : (o : Option Store) (rs : List ReadState) (ds es : List DraftState) (n : ℕ) (digest : List ℕ) → IsHeld apply p first m o t rs ds → (by : IsMovedBy rs ds es n digest) → length by.moved.bytes ≤ moved_limit p (kind p t)
  within_limit o rs ds es n digest held by =
      let a : length by.moved.bytes ≤ by.r.size = by.moved.within in
      let b : by.r.size ≤ moved_limit p (kind p t) = (unread_one o rs ds es n digest held by).within in
      omega (arith, a, b)

  -- the bytes that were moved are those that the Transfer carries
  carries_bytes : (s : Store) (rs : List ReadState) (ds es : List DraftState) (n : ℕ) (digest : List ℕ) → IsHeld apply p first m (Some s) t rs ds → IsOpening apply p first m → (by : IsMovedBy rs ds es n digest) → moved (carries apply p m t) (kind p t) ≡ Some by.moved.bytes
  carries_bytes s rs ds es n digest held opening by =
      let c : ℕ → ℕ → Option (List ℕ) = carries apply p m in
      let is : by.r.told ∷ [] ≡ moved (c t) (kind p t) ∷ [] = sym (ap (map read_told) by.reading) ∙ held.carried opening ∙ transfer_inputs p c t (kind p t) (reads p t) moves in
      sym (first_is by.r.told (moved (c t) (kind p t)) is) ∙ told_bytes by.r.told by.moved.bytes (unread_one (Some s) rs ds es n digest held by).tells by.moved.read

  module _ (x : Aim) (aim : IsAimOf p t (kind p t) x) where
    fresh_one : (o : Option Store) (rs : List ReadState) (ds es : List DraftState) (n : ℕ) (digest : List ℕ) → IsHeld apply p first m o t rs ds → (by : IsMovedBy rs ds es n digest) → by.d ≡ fresh_at o x
    fresh_one o rs ds es n digest held by = first_draft by.d (fresh_at o x) (sym by.draft ∙ held.drafts ∙ ap (map (fresh_at o)) aim.are)

    carried_so : (o : Option Store) (rs : List ReadState) (ds es : List DraftState) (n : ℕ) (digest : List ℕ) → IsHeld apply p first m o t rs ds → IsMovedBy rs ds es n digest → IsAgreeing p (kind p t) digest → IsOpening apply p first m → IfSome o (λ s. AreCarried p (carries apply p m) t es (digest_of (is_delivery p t) digest))
    carried_so None rs ds es n digest held by agrees opening = tt
    carried_so (Some s) rs ds es n digest held by agrees opening =
        let c : ℕ → ℕ → Option (List ℕ) = carries apply p m in
        let is = carries_bytes s rs ds es n digest held opening by in
        let holds : draft_bytes by.e ≡ Some by.moved.bytes = ap (option_map (λ (y : Drafted). y.bytes)) (by.moved.written ∙ ap (λ (d : DraftState). option_map (extended by.moved.bytes) d.told) (fresh_one (Some s) rs ds es n digest held by)) in
        record {
          bytes = ap (map draft_bytes) by.later ∙ ap (λ z. z ∷ []) (holds ∙ sym is ∙ aim.moved_is (c t)) ∙ sym (ap (map (λ (y : Aim). c t y.file)) aim.are);
          digest_is = digest_holds (is_delivery p t) digest (λ d. option_map sha256 (moved (c t) (kind p t)) ≡ Some d) (ap (option_map sha256) is ∙ ap Some (sym by.moved.digest_is));
          sum = agreed p (c t) (kind p t) by.moved.bytes digest is by.moved.digest_is agrees;
        }

    settles_so : (o : Option Store) (rs0 rs1 : List ReadState) (ds0 ds1 : List DraftState) (n : ℕ) (digest : List ℕ) → IsHeld apply p first m o t rs0 ds0 → IsMovedBy rs0 ds0 ds1 n digest → IsAgreeing p (kind p t) digest → part_faults rs1 ds1 ≡ 0 → Each IsSteadyReading rs0 rs1 → Each IsSteadyDraft ds0 ds1 → CanSettle apply p first m o t rs1 ds1 (n ∷ []) (digest_of (is_delivery p t) digest)
    settles_so o rs0 rs1 ds0 ds1 n digest held by agrees whole readings drafts =
        let a : length by.moved.bytes ≤ moved_limit p (kind p t) = within_limit o rs0 ds0 ds1 n digest held by in
        let b : n ≡ length by.moved.bytes = by.moved.length_is in
        let c : moved_limit p (kind p t) ≡ x.limit = aim.limit_is in
        record {
          loan = steady_loan apply p proper laws first m t o rs0 rs1 ds0 ds1 held readings drafts;
          sizes_are = ap (map draft_size) by.later ∙ ap (λ z. z ∷ []) (by.moved.size ∙ sym by.moved.length_is);
          small = subst (λ l. AreSmall l (n ∷ [])) (sym aim.are) (omega (arith, a, b, c), tt);
          delivery = digest_given (is_delivery p t) digest;
          of_bytes = digest_holds (is_delivery p t) digest (λ d. (k : ℕ) × (n ∷ [] ≡ k ∷ []) × IsDigestOf k d) (n, refl, ∣ (by.moved.bytes, sym by.moved.length_is, sym by.moved.digest_is) ∣₁);
          whole = whole;
          carried = carried_so o rs0 ds0 ds1 n digest held by agrees;
        }

  pub moved_settles : (o : Option Store) (rs0 rs1 : List ReadState) (ds0 ds1 : List DraftState) (n : ℕ) (given : Option (List ℕ)) → IsHeld apply p first m o t rs0 ds0 → IsTransferred p t rs0 ds0 ds1 n given → part_faults rs1 ds1 ≡ 0 → Each IsSteadyReading rs0 rs1 → Each IsSteadyDraft ds0 ds1 → CanSettle apply p first m o t rs1 ds1 (n ∷ []) given
  moved_settles o rs0 rs1 ds0 ds1 n given held h whole readings drafts =
      let aim = aim_of p proper laws t (kind p t) refl moves in
      subst (CanSettle apply p first m o t rs1 ds1 (n ∷ [])) (sym h.given_is)
      (settles_so aim.0 aim.1 o rs0 rs1 ds0 ds1 n h.digest held (moved_by rs0 ds0 ds1 n h.digest h.moved) h.agrees whole readings drafts)

-- a digest that differs is that of what stands at the pfn
at_pfn : (told : List ℕ → Option (List ℕ)) (p : Plan) (k : Option TaskKind) (bytes digest : List ℕ) → is_from_pfn k ≡ true → IsAtPfn told k (λ f o. o ≡ Some bytes) → digest ≡ sha256 bytes → length bytes ≤ moved_limit p k → IsAtPfn told k (IsDigest p digest)
at_pfn told p None bytes digest h is d small = absurd cc
at_pfn told p (Some (Run s js)) bytes digest h is d small = absurd cc
at_pfn told p (Some (CleanTask q)) bytes digest h is d small = absurd cc
at_pfn told p (Some (Transfer g (Site s) to)) bytes digest h is d small = absurd cc
at_pfn told p (Some (Transfer g (Pfn x) to)) bytes digest h is d small = subst (IsDigest p digest g.0) (sym is) (sym d, small)

stands_at : (apply : Apply) (p : Plan) (laws : HasPlanLaws p) (m : Store) (t : ℕ) (k : Option TaskKind) (bytes : List ℕ) → kind p t ≡ k → is_from_pfn k ≡ true → moved (carries apply p m t) k ≡ Some bytes → IsAtPfn (λ pfn. files.get m.replicas pfn) k (λ f o. o ≡ Some bytes)
stands_at apply p laws m t None bytes e h is = absurd cc
stands_at apply p laws m t (Some (Run s js)) bytes e h is = absurd cc
stands_at apply p laws m t (Some (CleanTask q)) bytes e h is = absurd cc
stands_at apply p laws m t (Some (Transfer g (Site s) to)) bytes e h is = absurd cc
stands_at apply p laws m t (Some (Transfer g (Pfn x) to)) bytes e h is =
    sym (laws.carrying apply (λ pfn. files.get m.replicas pfn) t g.0 ∙ ap (λ (k : Option TaskKind). carried_by apply (λ pfn. files.get m.replicas pfn) p.jobs (read p (carries apply p m) t) k g.0) e) ∙ is

pub checksum_so : (apply : Apply) (p : Plan) → IsProper p → HasPlanLaws p → (first : List Event) (m : Store) (t : ℕ) (s : Store) (rs : List ReadState) (ds es : List DraftState) (n : ℕ) (digest : List ℕ) → is_from_pfn (kind p t) ≡ true → IsHeld apply p first m (Some s) t rs ds → IsOpening apply p first m → AreMoved rs ds es n digest → IsAtPfn (λ pfn. files.get m.replicas pfn) (kind p t) (IsDigest p digest)
checksum_so apply p proper laws first m t s rs ds es n digest from held opening h =
    let moves = pfn_moves (kind p t) from in
    let by = moved_by rs ds es n digest h in
    at_pfn (λ pfn. files.get m.replicas pfn) p (kind p t) by.moved.bytes digest from
    (stands_at apply p laws m t (kind p t) by.moved.bytes refl from (carries_bytes apply p proper laws first m t moves s rs ds es n digest held opening by))
    by.moved.digest_is (within_limit apply p proper laws first m t moves (Some s) rs ds es n digest held by)

-- told or not, it is that of some bytes
of_bytes : (p : Plan) (k : Option TaskKind) (bytes digest : List ℕ) → is_transfer_kind k ≡ true → digest ≡ sha256 bytes → length bytes ≤ moved_limit p k → IsDigestOfBytes p k digest
of_bytes p None bytes digest h d small = absurd cc
of_bytes p (Some (Run s js)) bytes digest h d small = absurd cc
of_bytes p (Some (CleanTask q)) bytes digest h d small = absurd cc
of_bytes p (Some (Transfer f from to)) bytes digest h d small = (bytes, sym d, small)

pub digest_of_bytes : (apply : Apply) (p : Plan) → IsProper p → HasPlanLaws p → (first : List Event) (m : Store) (t : ℕ) (o : Option Store) (rs : List ReadState) (ds es : List DraftState) (n : ℕ) (digest : List ℕ) → is_from_pfn (kind p t) ≡ true → IsHeld apply p first m o t rs ds → AreMoved rs ds es n digest → IsDigestOfBytes p (kind p t) digest
digest_of_bytes apply p proper laws first m t o rs ds es n digest from held h =
    let moves = pfn_moves (kind p t) from in
    let by = moved_by rs ds es n digest h in
    of_bytes p (kind p t) by.moved.bytes digest moves by.moved.digest_is (within_limit apply p proper laws first m t moves o rs ds es n digest held by)

-- told or not, the bytes that were moved
bytes_in : (p : Plan) (k : Option TaskKind) (n : ℕ) (bytes digest : List ℕ) → is_transfer_kind k ≡ true → n ≡ length bytes → digest ≡ sha256 bytes → IsAgreeing p k digest → AreBytesMoved p k n
bytes_in p None n bytes digest h is d agrees = absurd cc
bytes_in p (Some (Run s js)) n bytes digest h is d agrees = absurd cc
bytes_in p (Some (CleanTask q)) n bytes digest h is d agrees = absurd cc
bytes_in p (Some (Transfer f (Site s) to)) n bytes digest h is d agrees = (bytes, sym is)
bytes_in p (Some (Transfer f (Pfn x) to)) n bytes digest h is d agrees = (bytes, sym is, by (checksum p f.0) agrees)
  where
    by : (o : Option (List ℕ)) → IfSome o (λ wanted. digest ≡ wanted) → IfSome o (λ wanted. sha256 bytes ≡ wanted)
    by None a = tt
    by (Some wanted) a = sym d ∙ a

pub moved_bytes : (p : Plan) (t : ℕ) (rs : List ReadState) (ds es : List DraftState) (n : ℕ) (given : Option (List ℕ)) → is_transfer p t ≡ true → IsTransferred p t rs ds es n given → AreBytesMoved p (kind p t) n
moved_bytes p t rs ds es n given moves h =
    let by = moved_by rs ds es n h.digest h.moved in
    bytes_in p (kind p t) n by.moved.bytes h.digest moves by.moved.length_is by.moved.digest_is h.agrees
