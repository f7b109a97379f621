-- What is delivered has room, and is listed.
use Rattle.std.proofs.Common.{◌≡◌, ℕ, ◌+◌, ◌≤◌, ◌<◌, true, List, [], ◌∷◌, ◌++◌, map, length, length-append, drop, take, refl, sym, ap, ◌∙◌, subst, arith}
use Rattle.std.specs.Prelude.{Option, Some, None, option_map, is_some, IfSome}
use Rattle.std.specs.Coded.{le_prop}
use Rattle.std.proofs.lemmas.List.{length-map, map-append}
use Rattle.std.proofs.lemmas.List.Elements.{All-append, All-cons, All-nil}
use Rattle.std.proofs.Math.Logic.{∥∥₁_elim, ∥∥₁_map}
use Rattle.sha2.specs.Sha256.{sha256}
use Rattle.values.specs.Apply.{Apply}
use Rattle.values.specs.declared.numbers.FileId.{FileId}
use Rattle.outside.specs.declared.store.Store.{Store}
use Rattle.outside.specs.code.Parts.{DraftState, ReadState}
use Rattle.plan_core.specs.declared.plan.Plan.{Plan}
use Rattle.plan_core.specs.declared.plan.TaskKind.{TaskKind}
use Rattle.plan_core.specs.declared.plan.TaskKind.TheVariants.{Transfer, Run, Clean as CleanTask}
use Rattle.plan_core.specs.declared.plan.Target.TheVariants.{Site as Into, Delivery}
use Rattle.plan_core.specs.Words.{kind, task_numbers}
use Rattle.run_record.specs.Events.{Event, Arrive}
use Rattle.lease_book.specs.declared.book.Book.{Book}
use Rattle.lease_book.specs.Book.{state_at}
use Rattle.lease_rules.specs.Legal.{IsOpen}
use Rattle.site_yard.specs.Changes.{carries}
use Rattle.site_yard.specs.code.Changes.{moved}
use Rattle.site_yard.specs.code.Delivered.{AreDelivered, count_deliveries, delivery_of, kept_at}
use Rattle.site_yard.specs.Delivered.{AreDigests, AreFiles, AreLengths, AreOfBytes, Arrival, IsDigestOf, arrival_at, arrivals, arrivals_of, carried_digest, delivered_file}
use Rattle.site_yard.specs.code.Kept.{IsOpening}
use Rattle.site_yard.specs.code.Loan.{CanSettle}
use Rattle.site_yard.specs.declared.delivered.Delivered.{Delivered}
use Rattle.site_yard.proofs.DeliveryRoomLemmas.{is_delivered, room_for}
use Rattle.site_yard.proofs.KeptLemmas.{drop_more, parts, take_same}
use Rattle.site_yard.proofs.ListLemmas.{arrivals_append, arrivals_more}
use Rattle.site_yard.proofs.LoanLemmas.{HasBookLaws}

list_length : (apply : Apply) (p : Plan) (first r : List Event) (o : Option Store) (m : Store) (ds : List Delivered) → AreDelivered apply p first r o m ds → length ds ≡ length (arrivals p r)
list_length apply p first r o m ds listed = sym (length-map ds (λ (d : Delivered). d.file.0)) ∙ ap length listed.files ∙ length-map (arrivals p r) (λ (a : Arrival). a.file)

-- those since the opening are no more than all
since_fewer : (p : Plan) (h : List Event) (k : ℕ) → length (arrivals p (drop k h)) ≤ length (arrivals p h)
since_fewer p h k =
    let all : length (arrivals p h) ≡ length (arrivals p (take k h)) + length (arrivals p (drop k h)) = ap (λ l. length (arrivals p l)) (sym (parts h k)) ∙ ap length (arrivals_append p (take k h) (drop k h)) ∙ length-append (arrivals p (take k h)) (arrivals p (drop k h)) in
    omega (arith, all)

pub settle_room : (b : Book) (q : Plan) (apply : Apply) (k : ℕ) (o : Option Store) (m : Store) (w t room : ℕ) (ds : List Delivered) → q ≡ b.plan → HasBookLaws b → IsOpen (state_at b) w t → ∥ AreDelivered apply b.plan (take k b.history.events) (drop k b.history.events) o m ds ∥₁ → count_deliveries b.plan ≤ room → is_some (delivered_file (kind q t)) ≡ true → length ds < room
settle_room b q apply k o m w t room ds same laws opened_ listed fits is =
    ∥∥₁_elim b.kept.legal (hlevel le_prop) (λ l. ∥∥₁_elim listed (hlevel le_prop) (λ x.
    let here = room_for b.plan laws.plans (task_numbers b.order.items) laws.records b.history.events w t l opened_ (is_delivered b.plan t (subst (λ p. is_some (delivered_file (kind p t)) ≡ true) same is)) in
    let many = list_length apply b.plan (take k b.history.events) (drop k b.history.events) o m ds x in
    let fewer = since_fewer b.plan b.history.events k in
    omega (arith, here, many, fewer, fits)))

-- two lists that go along, by a view of each
along_more : {X : Type 0} (p : Plan) (r : List Event) (e : Event) (f : Delivered → X) (g : Arrival → X) (ds more : List Delivered) → map f ds ≡ map g (arrivals p r) → map f more ≡ map g (arrivals_of p e) → map f (ds ++ more) ≡ map g (arrivals p (r ++ e ∷ []))
along_more p r e f g ds more h k =
    map-append f ds more ∙ ap (λ l. l ++ map f more) h ∙ ap (λ l. map g (arrivals p r) ++ l) k ∙ sym (map-append g (arrivals p r) (arrivals_of p e)) ∙ ap (map g) (sym (arrivals_more p r e))

list_more : (apply : Apply) (p : Plan) (first r : List Event) (e : Event) (o n : Option Store) (m : Store) (ds more : List Delivered) → is_some n ≡ is_some o
    → AreFiles more (arrivals_of p e) → AreLengths more (arrivals_of p e) → (IsOpening apply p first m → is_some o ≡ true → AreDigests (carries apply p m) more (arrivals_of p e)) → AreOfBytes more
    → AreDelivered apply p first r o m ds → AreDelivered apply p first (r ++ e ∷ []) n m (ds ++ more)
list_more apply p first r e o n m ds more tells files lengths digests of_bytes old = record {
  files = along_more p r e (λ (d : Delivered). d.file.0) (λ (a : Arrival). a.file) ds more old.files files;
  lengths = along_more p r e (λ (d : Delivered). d.length) (λ (a : Arrival). a.size) ds more old.lengths lengths;
  digests = λ opening told. along_more p r e (λ (d : Delivered). Some d.digest) (carried_digest (carries apply p m)) ds more (old.digests opening (sym tells ∙ told)) (digests opening (sym tells ∙ told));
  of_bytes = All-append (λ (d : Delivered). IsDigestOf d.length d.digest) ds more old.of_bytes of_bytes;
}

kept_files : (t size : ℕ) (digest : Option (List ℕ)) (f : Option FileId) → (is_some f ≡ true → is_some digest ≡ true) → AreFiles (kept_at size digest f) (arrival_at t size f)
kept_files t size None None h = refl
kept_files t size (Some d) None h = refl
kept_files t size None (Some f) h = absurd (let x = h refl in cc)
kept_files t size (Some d) (Some f) h = refl

kept_lengths : (t size : ℕ) (digest : Option (List ℕ)) (f : Option FileId) → (is_some f ≡ true → is_some digest ≡ true) → AreLengths (kept_at size digest f) (arrival_at t size f)
kept_lengths t size None None h = refl
kept_lengths t size (Some d) None h = refl
kept_lengths t size None (Some f) h = absurd (let x = h refl in cc)
kept_lengths t size (Some d) (Some f) h = refl

kept_digests : (c : ℕ → ℕ → Option (List ℕ)) (t size : ℕ) (digest : Option (List ℕ)) (f : Option FileId) → (is_some f ≡ true → is_some digest ≡ true) → ((g : FileId) → f ≡ Some g → IfSome digest (λ d. option_map sha256 (c t g.0) ≡ Some d)) → AreDigests c (kept_at size digest f) (arrival_at t size f)
kept_digests c t size None None h is = refl
kept_digests c t size (Some d) None h is = refl
kept_digests c t size None (Some f) h is = absurd (let x = h refl in cc)
kept_digests c t size (Some d) (Some f) h is = ap (λ x. x ∷ []) (sym (is f refl))

one_number : (n k : ℕ) → n ∷ [] ≡ k ∷ [] → n ≡ k
one_number n k e = cc

kept_of_bytes : (size : ℕ) (sizes : List ℕ) (digest : Option (List ℕ)) (f : Option FileId) → sizes ≡ size ∷ [] → IfSome digest (λ d. (n : ℕ) × (sizes ≡ n ∷ []) × IsDigestOf n d) → AreOfBytes (kept_at size digest f)
kept_of_bytes size sizes None f one h = All-nil (λ (d : Delivered). IsDigestOf d.length d.digest)
kept_of_bytes size sizes (Some d) None one h = All-nil (λ (d : Delivered). IsDigestOf d.length d.digest)
kept_of_bytes size sizes (Some d) (Some f) one h = All-cons (λ (d : Delivered). IsDigestOf d.length d.digest) _ [] (subst (λ n. IsDigestOf n d) (one_number h.0 size (sym h.1 ∙ one)) h.2) (All-nil (λ (d : Delivered). IsDigestOf d.length d.digest))

-- what a delivery carries is what it moves
delivers_moved : (v : ℕ → Option (List ℕ)) (k : Option TaskKind) (g : FileId) → delivered_file k ≡ Some g → moved v k ≡ v g.0
delivers_moved v None g e = absurd cc
delivers_moved v (Some (Run a js)) g e = absurd cc
delivers_moved v (Some (CleanTask q)) g e = absurd cc
delivers_moved v (Some (Transfer f from (Into a))) g e = absurd cc
delivers_moved v (Some (Transfer f from Delivery)) g e = ap (λ (x : Option FileId). or_moved x) e
  where
    or_moved : Option FileId → Option (List ℕ)
    or_moved None = None
    or_moved (Some x) = v x.0

digest_of : (v : ℕ → Option (List ℕ)) (k : Option TaskKind) (digest : Option (List ℕ)) (g : FileId) → delivered_file k ≡ Some g → IfSome digest (λ d. option_map sha256 (moved v k) ≡ Some d) → IfSome digest (λ d. option_map sha256 (v g.0) ≡ Some d)
digest_of v k None g e h = tt
digest_of v k (Some d) g e h = ap (option_map sha256) (sym (delivers_moved v k g e)) ∙ h

carried_digests : (apply : Apply) (p : Plan) (first : List Event) (m : Store) (o : Option Store) (t : ℕ) (rs : List ReadState) (ds : List DraftState) (sizes : List ℕ) (digest : Option (List ℕ)) (g : FileId) → CanSettle apply p first m o t rs ds sizes digest → IsOpening apply p first m → is_some o ≡ true → delivered_file (kind p t) ≡ Some g → IfSome digest (λ d. option_map sha256 (carries apply p m t g.0) ≡ Some d)
carried_digests apply p first m None t rs ds sizes digest g can opening told e = absurd cc
carried_digests apply p first m (Some s) t rs ds sizes digest g can opening told e = digest_of (carries apply p m t) (kind p t) digest g e (can.carried opening).digest_is

pub arrive_lists : (apply : Apply) (p q : Plan) (h : List Event) (k w t size : ℕ) (o n : Option Store) (m : Store) (list : List Delivered) (rs : List ReadState) (ds : List DraftState) (sizes : List ℕ) (digest : Option (List ℕ)) → q ≡ p → k ≤ length h → is_some n ≡ is_some o → sizes ≡ size ∷ [] → CanSettle apply p (take k h) m o t rs ds sizes digest → ∥ AreDelivered apply p (take k h) (drop k h) o m list ∥₁
    → ∥ AreDelivered apply p (take k (h ++ Arrive w t size ∷ [])) (drop k (h ++ Arrive w t size ∷ [])) n m (list ++ delivery_of (kind q t) size digest) ∥₁
arrive_lists apply p q h k w t size o n m list rs ds sizes digest same begun tells one can old =
    let f : Option FileId = delivered_file (kind p t) in
    let some : is_some f ≡ true → is_some digest ≡ true = λ is. can.delivery ∙ is_delivered p t is in
    subst (λ z. ∥ AreDelivered apply p (take k (h ++ Arrive w t size ∷ [])) (drop k (h ++ Arrive w t size ∷ [])) n m (list ++ delivery_of (kind z t) size digest) ∥₁) (sym same)
    (subst (λ l. ∥ AreDelivered apply p l (drop k (h ++ Arrive w t size ∷ [])) n m (list ++ kept_at size digest f) ∥₁) (sym (take_same h (Arrive w t size ∷ []) k begun))
    (subst (λ l. ∥ AreDelivered apply p (take k h) l n m (list ++ kept_at size digest f) ∥₁) (sym (drop_more h (Arrive w t size ∷ []) k begun))
    (∥∥₁_map old (list_more apply p (take k h) (drop k h) (Arrive w t size) o n m list (kept_at size digest f) tells (kept_files t size digest f some) (kept_lengths t size digest f some)
    (λ opening told. kept_digests (carries apply p m) t size digest f some (λ g e. carried_digests apply p (take k h) m o t rs ds sizes digest g can opening told e)) (kept_of_bytes size sizes digest f one can.of_bytes)))))
