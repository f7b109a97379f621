-- The sizes that a Truthful record has of what is stored are those of what is carried.
use Rattle.std.proofs.Common.{◌≡◌, ℕ, ◌+◌, ◌<◌, ◌||◌, ◌&&◌, Bool, true, false, cond, List, [], ◌∷◌, length, map, take, refl, sym, ap, ◌∙◌, nat_eq, arith}
use Rattle.std.specs.Prelude.{Option, Some, None, option_map}
use Rattle.std.specs.List.{list_any}
use Rattle.std.specs.FinMap as files
use Rattle.std.proofs.lemmas.Bool.{and_parts, eqb-true, eq-eqb, ne_eqb}
use Rattle.std.proofs.lemmas.Option.{cond_some, none-some}
use Rattle.values.specs.Apply.{Apply}
use Rattle.outside.specs.declared.store.Store.{Store}
use Rattle.plan_core.specs.declared.plan.Plan.{Plan}
use Rattle.plan_core.specs.declared.plan.TaskKind.{TaskKind}
use Rattle.plan_core.specs.declared.plan.TaskKind.TheVariants.{Transfer, Run, Clean as CleanTask}
use Rattle.plan_core.specs.declared.plan.Target.TheVariants.{Site as Into, Delivery}
use Rattle.plan_core.specs.Kinds.{kind_writes}
use Rattle.plan_core.specs.Names.{pair_file, pair_site}
use Rattle.plan_core.specs.Numbers.{has, or_else}
use Rattle.plan_core.specs.Words.{count_pairs, kind, writes}
use Rattle.storage_simulation.specs.Goods.{good_size, is_delivery, makes}
use Rattle.run_record.specs.Events.{Event, Grant, Arrive, End, Clean, Fail, Again, Regrant}
use Rattle.lease_rules.specs.code.Reading.{IsRead, ends, frees, held_by, reserves, size_among, stored, stores}
use Rattle.lease_rules.specs.State.{now}
use Rattle.site_yard.specs.Changes.{carries}
use Rattle.site_yard.specs.code.Changes.{moved}
use Rattle.site_yard.specs.code.Kept.{IsOpening}
use Rattle.site_yard.specs.code.Law.{HasPlanLaws}
use Rattle.site_yard.specs.code.Places.{is_swept}
use Rattle.site_yard.specs.code.Reopening.{AreRecorded, recorded_size}
use Rattle.site_yard.specs.code.Truthful.{IsLongAs, IsTrue, Truthful}
use Rattle.site_yard.proofs.PlanLemmas.{written_file}

abbrev Contents : Type 0
Contents = ℕ → ℕ → Option (List ℕ)

-- ---- what a task makes of pairs

made_is_written : (p : Plan) (t q : ℕ) → q < count_pairs p → has (makes p t) q ≡ true → has (writes p t) q ≡ true
unfolding makes
made_is_written p t q low there = by (is_delivery p t) there
  where
    by : (b : Bool) → has (cond b ((count_pairs p + t) ∷ []) (writes p t)) q ≡ true → has (writes p t) q ≡ true
    by true h = absurd (let other : nat_eq (count_pairs p + t) q ≡ false = ne_eqb (count_pairs p + t) q (λ e. omega (arith, e, low)) in
        let clash : false ≡ true = sym (ap (λ (b : Bool). b || false) other) ∙ h in cc)
    by false h = h

size_of_written : (p : Plan) (t q n : ℕ) (ns : List ℕ) → q < count_pairs p → size_among (makes p t) ns q ≡ Some n → size_among (writes p t) ns q ≡ Some n
unfolding makes
size_of_written p t q n ns low there = by (is_delivery p t) ns there
  where
    by : (b : Bool) (ms : List ℕ) → size_among (cond b ((count_pairs p + t) ∷ []) (writes p t)) ms q ≡ Some n → size_among (writes p t) ms q ≡ Some n
    by true [] h = absurd (none-some n h)
    by true (m ∷ ms) h = absurd (let other : nat_eq (count_pairs p + t) q ≡ false = ne_eqb (count_pairs p + t) q (λ e. omega (arith, e, low)) in
        none-some n (sym (ap (λ (b : Bool). cond b (Some m) None) other) ∙ h))
    by false ms h = h

-- ---- one entry

-- a pair's file is carried by a task that writes it, at this length
record IsCarriedBy (p : Plan) (c : Contents) (q n t : ℕ) : Type 0 where
  written : has (writes p t) q ≡ true
  long : option_map length (c t (pair_file p q)) ≡ Some n

-- what a Transfer moves is what it carries for its pair's file
moved_for : (p : Plan) → HasPlanLaws p → (c : Contents) (t q n : ℕ) (k : Option TaskKind) → kind p t ≡ k → has (writes p t) q ≡ true → IsLongAs n (moved (c t) k) → option_map length (c t (pair_file p q)) ≡ Some n
moved_for p laws c t q n None is written long = absurd (none-some n long)
moved_for p laws c t q n (Some (Transfer g from (Into a))) is written long =
    let both : (nat_eq a.0 (pair_site p q) && nat_eq g.0 (pair_file p q)) ≡ true = sym (ap (λ (k : Option TaskKind). kind_writes p.jobs k (pair_site p q) (pair_file p q)) is) ∙ written_file p laws t q written in
    let file : g.0 ≡ pair_file p q = eqb-true g.0 (pair_file p q) (and_parts (nat_eq a.0 (pair_site p q)) (nat_eq g.0 (pair_file p q)) both).1 in
    ap (λ (f : ℕ). option_map length (c t f)) (sym file) ∙ long
moved_for p laws c t q n (Some (Transfer g from Delivery)) is written long =
    absurd (let clash : false ≡ true = sym (ap (λ (k : Option TaskKind). kind_writes p.jobs k (pair_site p q) (pair_file p q)) is) ∙ written_file p laws t q written in cc)
moved_for p laws c t q n (Some (Run s js)) is written long = absurd (none-some n long)
moved_for p laws c t q n (Some (CleanTask x)) is written long = absurd (none-some n long)

-- of sizes that are those of a list's first elements, each is that of its element
size_among_is : (f : ℕ → Option ℕ) (xs ns : List ℕ) (q n : ℕ) → map f (take (length ns) xs) ≡ map Some ns → size_among xs ns q ≡ Some n → (f q ≡ Some n) × (has xs q ≡ true)
size_among_is f [] ns q n same there = absurd (none-some n there)
size_among_is f (x ∷ xs) [] q n same there = absurd (none-some n there)
size_among_is f (x ∷ xs) (m ∷ ns) q n same there = by (nat_eq x q) refl there (size_among_is f xs ns q n rest)
  where
    whole : f x ∷ map f (take (length ns) xs) ≡ Some m ∷ map Some ns
    whole = same

    first : f x ≡ Some m
    first = let both = whole in cc

    rest : map f (take (length ns) xs) ≡ map Some ns
    rest = let both = whole in cc

    by : (t : Bool) → nat_eq x q ≡ t → cond t (Some m) (size_among xs ns q) ≡ Some n → (size_among xs ns q ≡ Some n → (f q ≡ Some n) × (has xs q ≡ true)) → (f q ≡ Some n) × ((t || has xs q) ≡ true)
    by true e h later = (ap f (sym (eqb-true x q e)) ∙ first ∙ h, refl)
    by false e h later = later h

-- an entry that stores a pair is of a task that carries its file
stored_by : (apply : Apply) (told : List ℕ → Option (List ℕ)) (p : Plan) → HasPlanLaws p → (c : Contents) (q n : ℕ) → q < count_pairs p → (e : Event) → IsTrue apply told p c e → stores p q e ≡ Some n
    → (t : ℕ) × (ends t e ≡ true) × IsCarriedBy p c q n t
stored_by apply told p laws c q n low (Grant w t) is there = absurd (none-some n there)
stored_by apply told p laws c q n low (Regrant w t) is there = absurd (none-some n there)
stored_by apply told p laws c q n low (Clean w t) is there = absurd (none-some n there)
stored_by apply told p laws c q n low (Fail w t cause ns) is there = absurd (none-some n there)
stored_by apply told p laws c q n low (Again w t cause ns) is there = absurd (none-some n there)
stored_by apply told p laws c q n low (Arrive w t m) is there =
    let parts = cond_some (has (makes p t) q) m n there in
    let written = made_is_written p t q low parts.0 in
    (t, eq-eqb t t refl, record { written = written; long = moved_for p laws c t q m (kind p t) refl written is.0 ∙ ap Some parts.1 })
stored_by apply told p laws c q n low (End w t ns) is there =
    let parts = size_among_is (λ x. option_map length (c t (pair_file p x))) (writes p t) ns q n is (size_of_written p t q n ns low there) in
    (t, eq-eqb t t refl, record { written = parts.1; long = parts.0 })

-- ---- all entries

-- a task that ends by these entries carries the file of a pair, at this length
record HasCarrier (p : Plan) (c : Contents) (r : List Event) (q n : ℕ) : Type 0 where
  task : ℕ
  ended : list_any (ends task) r ≡ true
  carries_it : IsCarriedBy p c q n task

or_after : (a b : Bool) → b ≡ true → (a || b) ≡ true
or_after true b h = refl
or_after false b h = h

stored_among : (apply : Apply) (told : List ℕ → Option (List ℕ)) (p : Plan) → HasPlanLaws p → (c : Contents) (q n : ℕ) → q < count_pairs p → (r : List Event) → Truthful apply told p c r → stored p r q ≡ Some n → HasCarrier p c r q n
stored_among apply told p laws c q n low [] are there = absurd (none-some n there)
stored_among apply told p laws c q n low (e ∷ r) are there = by (stores p q e) refl there (stored_among apply told p laws c q n low r are.1)
  where
    by : (o : Option ℕ) → stores p q e ≡ o → or_else o (stored p r q) ≡ Some n → (stored p r q ≡ Some n → HasCarrier p c r q n) → HasCarrier p c (e ∷ r) q n
    by None is h later = let found = later h in record { task = found.task; ended = or_after (ends found.task e) (list_any (ends found.task) r) found.ended; carries_it = found.carries_it }
    by (Some m) is h later =
        let found = stored_by apply told p laws c q n low e are.0 (is ∙ h) in
        record { task = found.0; ended = ap (λ (b : Bool). b || list_any (ends found.0) r) found.1; carries_it = found.2 }

-- ---- what is held

-- what is held at a size was stored so, and isn't swept
held_so : (freed : Bool) (size : Option ℕ) (reserved : Bool) (m n : ℕ) → recorded_size (held_by freed size reserved m) ≡ Some n → (freed ≡ false) × (size ≡ Some n)
held_so true size reserved m n h = absurd (none-some n h)
held_so false (Some k) reserved m n h = (refl, h)
held_so false None true m n h = absurd (none-some n h)
held_so false None false m n h = absurd (none-some n h)

unswept : (p : Plan) (r : List Event) (q : ℕ) → list_any (frees p q) r ≡ false → is_swept p r q ≡ false
unfolding is_swept
unswept p r q h = h

pub sizes_are_carried : (apply : Apply) (p : Plan) (order : List ℕ) (r : List Event) (store : Store) → HasPlanLaws p → IsRead p r (now p order r) → IsOpening apply p r store → AreRecorded p (now p order r).held (Some store)
sizes_are_carried apply p order r store laws read opening q low n size =
    let is = held_so (list_any (frees p q) r) (stored p r q) (list_any (reserves p q) r) (good_size p q) n (ap recorded_size (sym (read.held q)) ∙ size) in
    let found = stored_among apply (λ pfn. files.get store.replicas pfn) p laws (carries apply p store) q n low r opening.truthful is.1 in
    ap (λ (o : Option (List ℕ)). option_map length o) (opening.stored found.task q found.carries_it.written found.ended (unswept p r q is.0)) ∙ found.carries_it.long
