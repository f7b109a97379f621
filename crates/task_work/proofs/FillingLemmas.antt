-- Lists of parts, and what a caller has of the promises.
use Rattle.std.proofs.Common.{◌≡◌, ℕ, ◌+◌, ◌≤◌, ◌<◌, true, List, [], ◌∷◌, length, map, get_or, set, refl, sym, ap, ◌∙◌, subst, arith}
use Rattle.std.specs.Prelude.{Option, Some, None, option_map, is_some, IfSome, Result, Ok, Err}
use Rattle.outside.specs.code.Counts.{Rose}
use Rattle.outside.specs.code.Parts.{DraftState, Drafted, ReadState, extended, part_faults}
use Rattle.outside.specs.declared.host.HostFault.{HostFault}
use Rattle.outside.specs.declared.host.HostFault.TheVariants as fault
use Rattle.outside.specs.declared.place.Place.{Place}
use Rattle.values.specs.declared.numbers.FileId.{FileId}
use Rattle.plan_core.specs.declared.plan.Plan.{Plan}
use Rattle.plan_core.specs.declared.plan.Source.TheVariants.{Pfn}
use Rattle.plan_core.specs.declared.plan.Target.{Target}
use Rattle.plan_core.specs.declared.plan.TaskKind.{TaskKind}
use Rattle.plan_core.specs.declared.plan.TaskKind.TheVariants.{Transfer, Run, Clean as CleanTask}
use Rattle.plan_core.specs.Words.{is_transfer_kind, kind, writes}
use Rattle.run_record.specs.declared.entry.Cause.{Cause}
use Rattle.run_record.specs.declared.entry.Cause.TheVariants as why
use Rattle.lease_rules.specs.Legal.{checksum, is_wrong_for}
use Rattle.plan_core.specs.Names.{pair_file}
use Rattle.task_work.specs.Computing.{IsComputed, Makes, computed}
use Rattle.task_work.specs.Filling.{AreParts}
use Rattle.task_work.specs.Making.{AreWritten, Each}
use Rattle.task_work.specs.Moving.{Agrees, IsAgreed, Moves, part_cause}
use Rattle.task_work.specs.Pieces.{HasMoved, HasRead, IsPartFault, IsSteadyDraft}
use Rattle.values.specs.Apply.{Apply}

-- a Transfer has one reading and one draft
pub record IsOneEach (rs : List ReadState) (ds : List DraftState) : Type 0 where
  pub r : ReadState
  pub d : DraftState
  pub reading : rs ≡ r ∷ []
  pub draft : ds ≡ d ∷ []
  pub room : r.size ≤ d.limit

pub one_each : (p : Plan) (t : ℕ) (k : Option TaskKind) (rs : List ReadState) (ds : List DraftState) → is_transfer_kind k ≡ true → AreParts p t k rs ds → IsOneEach rs ds
one_each p t None rs ds h parts = absurd cc
one_each p t (Some (Run a js)) rs ds h parts = absurd cc
one_each p t (Some (CleanTask q)) rs ds h parts = absurd cc
one_each p t (Some (Transfer f from to)) [] ds h parts = absurd parts
one_each p t (Some (Transfer f from to)) (r ∷ s ∷ rs) ds h parts = absurd parts
one_each p t (Some (Transfer f from to)) (r ∷ []) [] h parts = absurd parts
one_each p t (Some (Transfer f from to)) (r ∷ []) (d ∷ e ∷ ds) h parts = absurd parts
one_each p t (Some (Transfer f from to)) (r ∷ []) (d ∷ []) h parts = record { r = r; d = d; reading = refl; draft = refl; room = parts }

-- a replica's digest
pub agrees_replica : (p : Plan) (k : Option TaskKind) (f : FileId) (x : List ℕ) (to : Target) (d : List ℕ) (r : Result (Unit {0}) Cause) → k ≡ Some (Transfer f (Pfn x) to) → IsAgreed (checksum p f.0) d r → Agrees p k d r
agrees_replica p k f x to d r is h = subst (λ z. Agrees p z d r) (sym is) (by r h)
  where
    by : (r : Result (Unit {0}) Cause) → IsAgreed (checksum p f.0) d r → Agrees p (Some (Transfer f (Pfn x) to)) d r
    by (Ok u) h = h
    by (Err (why.Checksum e)) h = (h.0, refl, h.1)
    by (Err e) h = absurd h

-- what was moved, or why not
pub part_moves : (p : Plan) (t : ℕ) (r0 r1 : ReadState) (d0 d1 : DraftState) (e : HostFault) → IsPartFault r0 r1 d0 d1 e → Moves p t r0 r1 d0 d1 (Err (part_cause e))
part_moves p t r0 r1 d0 d1 fault.Failed h = h
part_moves p t r0 r1 d0 d1 fault.Memory h = tt
part_moves p t r0 r1 d0 d1 e h = absurd h

pub differs_moves : (p : Plan) (t : ℕ) (r0 r1 : ReadState) (d0 d1 : DraftState) (n : ℕ) (digest : List ℕ) (c : Cause) → HasMoved r0 d0 d1 n digest → Agrees p (kind p t) digest (Err c) → Moves p t r0 r1 d0 d1 (Err c)
differs_moves p t r0 r1 d0 d1 n digest (why.Checksum d) moved h = (
  (n, subst (HasMoved r0 d0 d1 n) (sym h.0) moved),
  h.1,
  subst (λ z. is_wrong_for p (kind p t) z ≡ true) (sym h.0) h.2,
)
differs_moves p t r0 r1 d0 d1 n digest c moved h = absurd h

-- the one part of a list
pub set_first : {X S : Type 0} (f : X → S) (xs : List X) (s : S) (y : X) → map f xs ≡ s ∷ [] → map f (set xs 0 y) ≡ f y ∷ []
set_first f [] s y e = absurd cc
set_first f (x ∷ []) s y e = refl
set_first f (x ∷ z ∷ xs) s y e = absurd cc

pub first_of : {X S : Type 0} (f : X → S) (xs : List X) (s : S) (d : X) → map f xs ≡ s ∷ [] → f (get_or xs 0 d) ≡ s
first_of f [] s d e = absurd cc
first_of f (x ∷ []) s d e = cc
first_of f (x ∷ z ∷ xs) s d e = absurd cc

pub some_first : {X S : Type 0} (f : X → S) (xs : List X) (s : S) → map f xs ≡ s ∷ [] → 0 < length xs
some_first f [] s e = absurd cc
some_first f (x ∷ xs) s e = omega arith

-- For callers: where a Run's readings told what the writers of its reads carry, its drafts tell what it carries.
abbrev pub AllTell : List ReadState → Type 0
AllTell [] = Unit {0}
AllTell (r ∷ rs) = (is_some r.told ≡ true) × AllTell rs

abbrev pub AllTellNone : List DraftState → Type 0
AllTellNone [] = Unit {0}
AllTellNone (d ∷ ds) = ((place : Place) × (d.told ≡ Some (record { place = place; bytes = [] }))) × AllTellNone ds

abbrev pub told_in : DraftState → Option (List ℕ)
told_in d = option_map (λ (x : Drafted). x.bytes) d.told

both_heads : {A : Type 0} (x y : A) (xs ys : List A) → x ≡ y → xs ≡ ys → x ∷ xs ≡ y ∷ ys
both_heads x y xs ys a b = λ i. a i ∷ b i

is_told : (told : Option (List ℕ)) (bytes : List ℕ) → is_some told ≡ true → IfSome told (λ all. bytes ≡ all) → told ≡ Some bytes
is_told None bytes some is = absurd cc
is_told (Some all) bytes some is = ap Some (sym is)

pub told_read : (rs : List ReadState) (blobs : List (List ℕ)) → AllTell rs → Each HasRead rs blobs → map (λ (r : ReadState). r.told) rs ≡ map Some blobs
told_read [] [] tells h = refl
told_read [] (b ∷ blobs) tells h = absurd h
told_read (r ∷ rs) [] tells h = absurd h
told_read (r ∷ rs) (b ∷ blobs) tells h = both_heads r.told (Some b) (map (λ (x : ReadState). x.told) rs) (map Some blobs) (is_told r.told b tells.0 h.0.read) (told_read rs blobs tells.1 h.1)

pub told_written : (ds0 ds1 : List DraftState) (outs : List (List ℕ)) → AllTellNone ds0 → AreWritten ds0 ds1 outs → map told_in ds1 ≡ map Some outs
told_written [] [] [] tells h = refl
told_written [] [] (b ∷ outs) tells h = absurd h
told_written [] (e ∷ ds1) outs tells h = absurd h
told_written (d ∷ ds0) [] outs tells h = absurd h
told_written (d ∷ ds0) (e ∷ ds1) [] tells h = absurd h
told_written (d ∷ ds0) (e ∷ ds1) (b ∷ outs) tells h =
    both_heads (told_in e) (Some b) (map told_in ds1) (map Some outs)
    (ap (option_map (λ (x : Drafted). x.bytes)) h.0.0 ∙ ap (λ o. option_map (λ (x : Drafted). x.bytes) (option_map (extended b) o)) tells.0.1)
    (told_written ds0 ds1 outs tells.1 h.1)

carried_map : (p : Plan) (v w : ℕ → Option (List ℕ)) (qs : List ℕ) → ((f : ℕ) → v f ≡ w f) → map (λ q. v (pair_file p q)) qs ≡ map w (map (pair_file p) qs)
carried_map p v w [] same = refl
carried_map p v w (q ∷ qs) same = both_heads (v (pair_file p q)) (w (pair_file p q)) (map (λ x. v (pair_file p x)) qs) (map w (map (pair_file p) qs)) (same (pair_file p q)) (carried_map p v w qs same)

pub run_drafts_carry : (apply : Apply) (p : Plan) (c : ℕ → ℕ → Option (List ℕ)) (t : ℕ) (blobs outs : List (List ℕ)) (ds0 ds1 : List DraftState) → IsComputed apply p c t blobs → Makes apply p t blobs outs → AllTellNone ds0 → AreWritten ds0 ds1 outs → map told_in ds1 ≡ map (λ q. c t (pair_file p q)) (writes p t)
run_drafts_carry apply p c t blobs outs ds0 ds1 is made tells written =
    told_written ds0 ds1 outs tells written ∙ sym (carried_map p (c t) (computed apply p t blobs) (writes p t) is.carries ∙ made.0)

-- the sizes of drafts that were written
pub sizes_written : (ds0 ds1 : List DraftState) (outs : List (List ℕ)) → AreWritten ds0 ds1 outs → map (λ (d : DraftState). d.size) ds1 ≡ map length outs
sizes_written [] [] [] h = refl
sizes_written [] [] (b ∷ outs) h = absurd h
sizes_written [] (e ∷ ds1) outs h = absurd h
sizes_written (d ∷ ds0) [] outs h = absurd h
sizes_written (d ∷ ds0) (e ∷ ds1) [] h = absurd h
sizes_written (d ∷ ds0) (e ∷ ds1) (b ∷ outs) h = both_heads e.size (length b) (map (λ (x : DraftState). x.size) ds1) (map length outs) h.0.1 (sizes_written ds0 ds1 outs h.1)

-- of parts whose counts were 0 a count shows that one rose
pub none_before : (rs0 rs1 : List ReadState) (ds0 ds1 : List DraftState) → part_faults rs0 ds0 ≡ 0 → Rose (part_faults rs0 ds0) (part_faults rs1 ds1) → 1 ≤ part_faults rs1 ds1
none_before rs0 rs1 ds0 ds1 none rose = omega (arith, none, rose)

-- whatever came of it, a draft that told its place and no bytes tells its place and bytes of its size
pub still_tells : (d0 d1 : DraftState) (place : Place) → d0.told ≡ Some (record { place = place; bytes = [] }) → d0.size ≡ 0 → (h : IsSteadyDraft d0 d1) → (d1.told ≡ Some (record { place = place; bytes = h.bytes })) × (d1.size ≡ length h.bytes)
still_tells d0 d1 place told empty h = (h.told ∙ ap (option_map (extended h.bytes)) told, (let s : d1.size ≡ d0.size + length h.bytes = h.size in omega (arith, s, empty)))

pub still_untold : (d0 d1 : DraftState) → d0.told ≡ None → IsSteadyDraft d0 d1 → d1.told ≡ None
still_untold d0 d1 told h = h.told ∙ ap (option_map (extended h.bytes)) told
