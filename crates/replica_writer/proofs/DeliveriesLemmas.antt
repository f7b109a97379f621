-- What a run delivered can be written.
use Rattle.std.proofs.Common.{◌≡◌, ℕ, ◌<◌, ◌||◌, Bool, true, false, List, [], ◌∷◌, map, length, get_or, refl, sym, ap, ap₂, subst, ◌∙◌, ◌⊎◌, inl, inr, nat_eq, arith}
use Rattle.std.specs.Prelude.{Some, slice_get, ◌≤◌}
use Rattle.std.specs.List.{AllByRecursion, IsDistinct, list_any}
use Rattle.std.specs.Str.{bytes_eq}
use Rattle.std.specs.Cmp.Lexicographic.{nat_list_eq_equiv}
use Rattle.std.proofs.lemmas.Bool.{cases_lt}
use Rattle.std.proofs.lemmas.List.{get_or-map, length-map}
use Rattle.std.proofs.lemmas.List.Elements.{All-from_recursion}
use Rattle.std.proofs.lemmas.Option.{slice_get-get_or}
use Rattle.std.proofs.lemmas.Map.Keys.{IsDistinct-cons, IsDistinct-head, IsDistinct-tail, apart_from_distinct}
use Rattle.plan_core.specs.declared.plan.Plan.{Plan}
use Rattle.plan_core.specs.declared.plan.PlanFile.{PlanFile}
use Rattle.plan_core.specs.declared.plan.TaskKind.{TaskKind}
use Rattle.plan_core.specs.code.Proper.{IsProper, is_kind_in_range}
use Rattle.plan_core.specs.Words.{kind}
use Rattle.plan_core.proofs.TestLemmas.{other_number}
use Rattle.run_record.specs.Events.{Event}
use Rattle.lease_rules.specs.code.Law.{FitsFromStart}
use Rattle.lease_rules.specs.Legal.{Legal}
use Rattle.lease_rules.specs.code.Reading.{IsRead}
use Rattle.lease_rules.specs.State.{now}
use Rattle.site_yard.specs.code.Places.{is_delivered}
use Rattle.plan_core.specs.Names.{file_name, lfn_in}
use Rattle.site_yard.specs.declared.delivered.Delivered.{Delivered}
use Rattle.replica_writer.specs.Law.{RunsCanBeWritten, has_file}
use Rattle.replica_writer.specs.Writer.{delivered_name}
use Rattle.replica_writer.proofs.ArrivalsLemmas.{IsOther, all_delivered, all_within, arrives, once}
use Rattle.replica_writer.proofs.JoiningLemmas.{IsFar}

abbrev numbers : List Delivered → List ℕ
numbers ds = map (λ (d : Delivered). d.file.0) ds

abbrev lfns : Plan → List (List ℕ)
lfns p = map (λ (f : PlanFile). f.lfn) p.files

-- two files of a proper plan have two names
name_at : (p : Plan) (f : ℕ) → f < length p.files → file_name p f ≡ get_or (lfns p) f []
unfolding file_name
name_at p f low = by p.files low
  where
    by : (fs : List PlanFile) → f < length fs → lfn_in (slice_get fs f) ≡ get_or (map (λ (x : PlanFile). x.lfn) fs) f []
    by [] l = absurd (omega (arith, l))
    by (x ∷ xs) l = ap lfn_in (slice_get-get_or (x ∷ xs) f x l) ∙ sym (get_or-map (λ (y : PlanFile). y.lfn) (x ∷ xs) f x [] l)

names_apart : (p : Plan) → IsDistinct bytes_eq (lfns p) → (f g : ℕ) → f < g → g < length p.files → bytes_eq (file_name p f) (file_name p g) ≡ false
names_apart p distinct f g less low =
    ap₂ bytes_eq (name_at p f (omega (arith, less, low))) (name_at p g low)
    ∙ apart_from_distinct bytes_eq (lfns p) f g [] distinct less (omega (arith, low, length-map p.files (λ (x : PlanFile). x.lfn)))

names_differ : (p : Plan) → IsDistinct bytes_eq (lfns p) → (f g : ℕ) → f < length p.files → g < length p.files → nat_eq f g ≡ false → bytes_eq (file_name p f) (file_name p g) ≡ false
names_differ p distinct f g one two other = by (cases_lt f g) (cases_lt g f)
  where
    by : (f < g) ⊎ (g ≤ f) → (g < f) ⊎ (f ≤ g) → bytes_eq (file_name p f) (file_name p g) ≡ false
    by (inl less) k = names_apart p distinct f g less two
    by (inr past) (inl less) = nat_list_eq_equiv.symm (file_name p f) (file_name p g) ∙ names_apart p distinct g f less one
    by (inr past) (inr also) = absurd (other_number f g other (omega (arith, past, also)))

far_names : (p : Plan) → IsDistinct bytes_eq (lfns p) → (f : ℕ) → f < length p.files → (ds : List Delivered) → AllByRecursion (λ g. g < length p.files) (numbers ds) → IsOther f (numbers ds) → IsFar (file_name p f) (map (delivered_name p) ds)
far_names p distinct f low [] within other = tt
far_names p distinct f low (d ∷ ds) within other = (names_differ p distinct f d.file.0 low within.0 other.0, far_names p distinct f low ds within.1 other.1)

distinct_names : (p : Plan) → IsDistinct bytes_eq (lfns p) → (ds : List Delivered) → AllByRecursion (λ g. g < length p.files) (numbers ds) → IsDistinct nat_eq (numbers ds) → IsDistinct bytes_eq (map (delivered_name p) ds)
unfolding IsDistinct
distinct_names p distinct [] within once_ = tt
distinct_names p distinct (d ∷ ds) within once_ =
    IsDistinct-cons bytes_eq (delivered_name p d) (map (delivered_name p) ds)
    (far_names p distinct d.file.0 within.0 ds within.1 (IsDistinct-head nat_eq d.file.0 (numbers ds) once_))
    (distinct_names p distinct ds within.1 (IsDistinct-tail nat_eq d.file.0 (numbers ds) once_))

-- the same of the files
each_number : (P : ℕ → Type 0) (ds : List Delivered) → AllByRecursion P (numbers ds) → AllByRecursion (λ (d : Delivered). P d.file.0) ds
each_number P [] all = tt
each_number P (d ∷ ds) all = (all.0, each_number P ds all.1)

has_so : (f : ℕ) (ds : List Delivered) → list_any (λ g. nat_eq g f) (numbers ds) ≡ has_file f ds
has_so f [] = refl
has_so f (d ∷ ds) = ap (λ (b : Bool). nat_eq d.file.0 f || b) (has_so f ds)

pub can_be_written : ((p : Plan) → IsProper p → (t : ℕ) (k : TaskKind) → kind p t ≡ Some k → is_kind_in_range p k ≡ true)
    → ((p : Plan) (order : List ℕ) (r : List Event) → IsProper p → FitsFromStart p order → Legal p order r → IsRead p r (now p order r))
    → (p : Plan) (order : List ℕ) (r : List Event) (ds : List Delivered) → RunsCanBeWritten p order r ds
can_be_written kinds reads p order r ds proper fits legal files = record {
  in_range = All-from_recursion (λ (d : Delivered). d.file.0 < length p.files) ds (each_number (λ g. g < length p.files) ds within);
  apart = distinct_names p proper.tables.file_names ds within (subst (IsDistinct nat_eq) (sym files) (once p order proper.flow.one_delivery (λ r legal. reads p order r proper fits legal) [] r legal));
  delivered = All-from_recursion (λ (d : Delivered). is_delivered p r d.file.0 ≡ true) ds (each_number (λ g. is_delivered p r g ≡ true) ds (subst (AllByRecursion (λ g. is_delivered p r g ≡ true)) (sym files) (all_delivered p r)));
  held = λ f is. sym (has_so f ds) ∙ ap (list_any (λ g. nat_eq g f)) files ∙ arrives p r f is;
}
  where
    within : AllByRecursion (λ g. g < length p.files) (numbers ds)
    within = subst (AllByRecursion (λ g. g < length p.files)) (sym files) (all_within p (kinds p proper) r)
