-- In a Legal record of a proper plan no file arrives twice as a delivery, and each that does is in range.
use Rattle.std.proofs.Common.{◌≡◌, ℕ, ◌<◌, ◌||◌, ◌&&◌, Bool, true, false, List, [], ◌∷◌, ◌++◌, map, length, refl, sym, ap, subst, ◌∙◌, inl, inr, nat_eq, nat_lt, append_assoc}
use Rattle.std.specs.Prelude.{Option, Some, None}
use Rattle.std.specs.List.{AllByRecursion, IsDistinct, list_any}
use Rattle.std.proofs.lemmas.Bool.{ltb-true}
use Rattle.std.proofs.lemmas.List.Folds.{list_any-append}
use Rattle.std.proofs.lemmas.Map.Keys.{IsDistinct-cons}
use Rattle.values.specs.declared.numbers.FileId.{FileId}
use Rattle.plan_core.specs.declared.plan.Plan.{Plan}
use Rattle.plan_core.specs.declared.plan.TaskKind.{TaskKind}
use Rattle.plan_core.specs.declared.plan.TaskKind.TheVariants.{Transfer, Run, Clean as CleanTask}
use Rattle.plan_core.specs.declared.plan.Target.TheVariants.{Site as Into, Delivery}
use Rattle.plan_core.specs.code.Proper.{is_kind_in_range, is_source_below, is_target_below}
use Rattle.plan_core.specs.Words.{delivers, kind, kind_delivers}
use Rattle.plan_core.proofs.TestLemmas.{both, either, is_itself, or_left, or_right, same_number}
use Rattle.run_record.specs.Events.{Event, Arrive}
use Rattle.lease_rules.specs.Legal.{Allowed, Legal, LegalFrom}
use Rattle.lease_rules.specs.code.Reading.{IsRead, ends}
use Rattle.lease_rules.specs.State.{State, after, ended, now, now_from, opened}
use Rattle.site_yard.specs.Delivered.{Arrival, arrival_at, arrivals, arrivals_of, delivered_file}
use Rattle.site_yard.specs.code.Places.{delivers_file, is_delivered}

abbrev pub files_of : List Arrival → List ℕ
files_of arrived = map (λ (a : Arrival). a.file) arrived

abbrev pub IsOther : ℕ → List ℕ → Type 0
IsOther f gs = AllByRecursion (λ g. nat_eq f g ≡ false) gs

all_append : (P : ℕ → Type 0) (front back : List Arrival) → AllByRecursion P (files_of front) → AllByRecursion P (files_of back) → AllByRecursion P (files_of (front ++ back))
all_append P [] back one two = two
all_append P (a ∷ front) back one two = (one.0, all_append P front back one.1 two)

legal_at : (p : Plan) (s : State) (front rest : List Event) (e : Event) → LegalFrom p s (front ++ e ∷ rest) → LegalFrom p s front × Allowed p (now_from p s front) e
legal_at p s [] rest e legal = (tt, legal.0)
legal_at p s (d ∷ front) rest e legal = let later = legal_at p (after p s d) front rest e legal.1 in ((legal.0, later.0), later.1)

-- a delivery's kind delivers its file
delivers_so : (k : Option TaskKind) (g : FileId) → delivered_file k ≡ Some g → kind_delivers k g.0 ≡ true
delivers_so None g e = absurd cc
delivers_so (Some (Transfer f from (Into a))) g e = absurd cc
delivers_so (Some (Transfer f from Delivery)) g e = let same : f ≡ g = cc in subst (λ (x : FileId). nat_eq f.0 x.0 ≡ true) same (is_itself f.0)
delivers_so (Some (Run s js)) g e = absurd cc
delivers_so (Some (CleanTask q)) g e = absurd cc

ends_last : (front : List Event) (w t n : ℕ) → list_any (ends t) (front ++ Arrive w t n ∷ []) ≡ true
ends_last front w t n = list_any-append (ends t) front (Arrive w t n ∷ []) ∙ or_right (list_any (ends t) front) (nat_eq t t || false) (or_left (nat_eq t t) false (is_itself t))

ends_still : (front : List Event) (e : Event) (t : ℕ) → list_any (ends t) front ≡ true → list_any (ends t) (front ++ e ∷ []) ≡ true
ends_still front e t h = list_any-append (ends t) front (e ∷ []) ∙ or_left (list_any (ends t) front) (list_any (ends t) (e ∷ [])) h

module _ (p : Plan) (order : List ℕ) (one_delivery : (t u f : ℕ) → delivers p t f ≡ true → delivers p u f ≡ true → t ≡ u) (reads : (r : List Event) → Legal p order r → IsRead p r (now p order r)) where
  -- a task that has ended doesn't arrive
  not_again : (front rest : List Event) (w t n : ℕ) → Legal p order (front ++ Arrive w t n ∷ rest) → list_any (ends t) front ≡ true → ⊥
  not_again front rest w t n legal before =
      let found = legal_at p (opened order) front rest (Arrive w t n) legal in
      let over : ended ((now p order front).phase t) ≡ true = (reads front found.0).ended t ∙ before in
      let running : ended ((now p order front).phase t) ≡ false = ap ended found.1.2.runs in
      let no : true ≡ false = sym over ∙ running in cc

  legal_on : (front r : List Event) (e : Event) → Legal p order (front ++ e ∷ r) → Legal p order ((front ++ e ∷ []) ++ r)
  legal_on front r e legal = subst (Legal p order) (sym (append_assoc front (e ∷ []) r)) legal

  -- no later delivery of a file that an ended task delivers
  other_here : (front r : List Event) (e : Event) (t f : ℕ) → Legal p order (front ++ e ∷ r) → list_any (ends t) front ≡ true → delivers p t f ≡ true → IsOther f (files_of (arrivals_of p e))
  other_here front r (Arrive w u n) t f legal before h = by (delivered_file (kind p u)) refl
    where
      again : (g : FileId) → delivered_file (kind p u) ≡ Some g → nat_eq f g.0 ≡ true → ⊥
      again g is same =
          let also : delivers p u f ≡ true = subst (λ x. kind_delivers (kind p u) x ≡ true) (sym (same_number f g.0 same)) (delivers_so (kind p u) g is) in
          not_again front r w u n legal (subst (λ x. list_any (ends x) front ≡ true) (one_delivery t u f h also) before)

      apart : (g : FileId) → delivered_file (kind p u) ≡ Some g → (b : Bool) → nat_eq f g.0 ≡ b → nat_eq f g.0 ≡ false
      apart g is true same = absurd (again g is same)
      apart g is false same = same

      by : (o : Option FileId) → delivered_file (kind p u) ≡ o → IsOther f (files_of (arrival_at u n o))
      by None is = tt
      by (Some g) is = (apart g is (nat_eq f g.0) refl, tt)
  other_here front r _ t f legal before h = tt

  other_after : (front r : List Event) (t f : ℕ) → Legal p order (front ++ r) → list_any (ends t) front ≡ true → delivers p t f ≡ true → IsOther f (files_of (arrivals p r))
  other_after front [] t f legal before h = tt
  other_after front (e ∷ r) t f legal before h =
      all_append (λ g. nat_eq f g ≡ false) (arrivals_of p e) (arrivals p r) (other_here front r e t f legal before h)
      (other_after (front ++ e ∷ []) r t f (legal_on front r e legal) (ends_still front e t before) h)

  once_more : (front r : List Event) (e : Event) → Legal p order (front ++ e ∷ r) → IsDistinct nat_eq (files_of (arrivals p r)) → IsDistinct nat_eq (files_of (arrivals_of p e ++ arrivals p r))
  once_more front r (Arrive w u n) legal later = by (delivered_file (kind p u)) refl
    where
      by : (o : Option FileId) → delivered_file (kind p u) ≡ o → IsDistinct nat_eq (files_of (arrival_at u n o ++ arrivals p r))
      by None is = later
      by (Some g) is =
          IsDistinct-cons nat_eq g.0 (files_of (arrivals p r))
          (other_after (front ++ Arrive w u n ∷ []) r u g.0 (legal_on front r (Arrive w u n) legal) (ends_last front w u n) (delivers_so (kind p u) g is))
          later
  once_more front r _ legal later = later

  pub once : (front r : List Event) → Legal p order (front ++ r) → IsDistinct nat_eq (files_of (arrivals p r))
  unfolding IsDistinct
  once front [] legal = tt
  once front (e ∷ r) legal = once_more front r e legal (once (front ++ e ∷ []) r (legal_on front r e legal))

-- ---- in range

module _ (p : Plan) (kinds : (t : ℕ) (k : TaskKind) → kind p t ≡ Some k → is_kind_in_range p k ≡ true) where
  within : (t : ℕ) (o : Option TaskKind) (g : FileId) → kind p t ≡ o → delivered_file o ≡ Some g → g.0 < length p.files
  within t None g is e = absurd cc
  within t (Some (Transfer f from (Into a))) g is e = absurd cc
  within t (Some (Transfer f from Delivery)) g is e =
      let same : f ≡ g = cc in
      let low : nat_lt f.0 (length p.files) ≡ true = (both (nat_lt f.0 (length p.files)) (is_source_below (length p.sites) from && is_target_below (length p.sites) Delivery) (kinds t (Transfer f from Delivery) is)).0 in
      subst (λ (x : FileId). x.0 < length p.files) same (ltb-true f.0 (length p.files) low)
  within t (Some (Run s js)) g is e = absurd cc
  within t (Some (CleanTask q)) g is e = absurd cc

  within_here : (e : Event) → AllByRecursion (λ f. f < length p.files) (files_of (arrivals_of p e))
  within_here (Arrive w t n) = by (delivered_file (kind p t)) refl
    where
      by : (o : Option FileId) → delivered_file (kind p t) ≡ o → AllByRecursion (λ f. f < length p.files) (files_of (arrival_at t n o))
      by None is = tt
      by (Some g) is = (within t (kind p t) g refl is, tt)
  within_here _ = tt

  pub all_within : (r : List Event) → AllByRecursion (λ f. f < length p.files) (files_of (arrivals p r))
  all_within [] = tt
  all_within (e ∷ r) = all_append (λ f. f < length p.files) (arrivals_of p e) (arrivals p r) (within_here e) (all_within r)

-- ---- the files that a record delivers

arrival_delivers : (p : Plan) (e : Event) → AllByRecursion (λ f. delivers_file p f e ≡ true) (files_of (arrivals_of p e))
arrival_delivers p (Arrive w t n) = by (delivered_file (kind p t)) refl
  where
    by : (o : Option FileId) → delivered_file (kind p t) ≡ o → AllByRecursion (λ f. delivers p t f ≡ true) (files_of (arrival_at t n o))
    by None is = tt
    by (Some g) is = (delivers_so (kind p t) g is, tt)
arrival_delivers p _ = tt

all_map : (P Q : ℕ → Type 0) → ((f : ℕ) → P f → Q f) → (fs : List ℕ) → AllByRecursion P fs → AllByRecursion Q fs
all_map P Q h [] all = tt
all_map P Q h (f ∷ fs) all = (h f all.0, all_map P Q h fs all.1)

pub all_delivered : (p : Plan) (r : List Event) → AllByRecursion (λ f. is_delivered p r f ≡ true) (files_of (arrivals p r))
unfolding is_delivered
all_delivered p [] = tt
all_delivered p (e ∷ r) =
    all_append (λ f. (delivers_file p f e || list_any (delivers_file p f) r) ≡ true) (arrivals_of p e) (arrivals p r)
    (all_map (λ f. delivers_file p f e ≡ true) (λ f. (delivers_file p f e || list_any (delivers_file p f) r) ≡ true) (λ f h. or_left (delivers_file p f e) (list_any (delivers_file p f) r) h) (files_of (arrivals_of p e)) (arrival_delivers p e))
    (all_map (λ f. list_any (delivers_file p f) r ≡ true) (λ f. (delivers_file p f e || list_any (delivers_file p f) r) ≡ true) (λ f h. or_right (delivers_file p f e) (list_any (delivers_file p f) r) h) (files_of (arrivals p r)) (all_delivered p r))

file_so : (k : Option TaskKind) (f t n : ℕ) → kind_delivers k f ≡ true → list_any (λ g. nat_eq g f) (files_of (arrival_at t n (delivered_file k))) ≡ true
file_so None f t n h = absurd cc
file_so (Some (Transfer g from (Into a))) f t n h = absurd cc
file_so (Some (Transfer g from Delivery)) f t n h = or_left (nat_eq g.0 f) false h
file_so (Some (Run s js)) f t n h = absurd cc
file_so (Some (CleanTask q)) f t n h = absurd cc

arrives_here : (p : Plan) (e : Event) (f : ℕ) → delivers_file p f e ≡ true → list_any (λ g. nat_eq g f) (files_of (arrivals_of p e)) ≡ true
arrives_here p (Arrive w t n) f h = file_so (kind p t) f t n h
arrives_here p _ f h = absurd cc

any_append : (f : ℕ) (front back : List Arrival) → (list_any (λ g. nat_eq g f) (files_of front) || list_any (λ g. nat_eq g f) (files_of back)) ≡ true → list_any (λ g. nat_eq g f) (files_of (front ++ back)) ≡ true
any_append f [] back h = h
any_append f (a ∷ front) back h = by (nat_eq a.file f) h (any_append f front back)
  where
    by : (b : Bool) → ((b || list_any (λ g. nat_eq g f) (files_of front)) || list_any (λ g. nat_eq g f) (files_of back)) ≡ true
        → ((list_any (λ g. nat_eq g f) (files_of front) || list_any (λ g. nat_eq g f) (files_of back)) ≡ true → list_any (λ g. nat_eq g f) (files_of (front ++ back)) ≡ true)
        → (b || list_any (λ g. nat_eq g f) (files_of (front ++ back))) ≡ true
    by true k later = refl
    by false k later = later k

pub arrives : (p : Plan) (r : List Event) (f : ℕ) → is_delivered p r f ≡ true → list_any (λ g. nat_eq g f) (files_of (arrivals p r)) ≡ true
unfolding is_delivered
arrives p [] f h = absurd cc
arrives p (e ∷ r) f h = any_append f (arrivals_of p e) (arrivals p r) (elim (either (delivers_file p f e) (list_any (delivers_file p f) r) h) [
  | inl here ↦ or_left (list_any (λ g. nat_eq g f) (files_of (arrivals_of p e))) (list_any (λ g. nat_eq g f) (files_of (arrivals p r))) (arrives_here p e f here)
  | inr there ↦ or_right (list_any (λ g. nat_eq g f) (files_of (arrivals_of p e))) (list_any (λ g. nat_eq g f) (files_of (arrivals p r))) (arrives p r f there)
])
