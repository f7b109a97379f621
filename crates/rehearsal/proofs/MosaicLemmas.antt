-- The one requested file.
use Rattle.std.proofs.Common.{◌≡◌, ℕ, ◌<◌, ◌||◌, ◌&&◌, Bool, true, false, not, List, [], ◌∷◌, length, refl, sym, ◌∙◌, nat_eq}
use Rattle.std.specs.Prelude.{◌==◌, codes, slice_index_or}
use Rattle.std.specs.List.{list_any}
use Rattle.std.proofs.lemmas.Bool.{eqb-true}
use Rattle.workflow_core.specs.declared.workflow.Job.{Job}
use Rattle.workflow_core.specs.declared.workflow.Output.{Output}
use Rattle.workflow_core.specs.Requested.{is_requested, requests}
use Rattle.planner.specs.declared.surveyed.Surveyed.{Surveyed}
use Rattle.rehearsal.specs.Mosaic.{requests_other}
use Rattle.rehearsal.specs.Preparing.{HasMosaic}

or_left : (a b : Bool) → (a || b) ≡ false → a ≡ false
or_left true b h = h
or_left false b h = refl

or_right : (a b : Bool) → (a || b) ≡ false → b ≡ false
or_right true b h = absurd (let clash : true ≡ false = h in cc)
or_right false b h = h

-- where none passes the first test, and one passes the second, it fails the one and passes the other
among : {X : Type 0} (other this : X → Bool) (Q : Type 0) → ((x : X) → other x ≡ false → this x ≡ true → Q) → (xs : List X) → list_any other xs ≡ false → list_any this xs ≡ true → Q
among other this Q each [] none some = absurd (let clash : false ≡ true = some in cc)
among other this Q each (x ∷ xs) none some = by (this x) refl some (λ later. among other this Q each xs (or_right (other x) (list_any other xs) none) later)
  where
    by : (t : Bool) → this x ≡ t → (t || list_any this xs) ≡ true → (list_any this xs ≡ true → Q) → Q
    by true is k later = each x (or_left (other x) (list_any other xs) none) is
    by false is k later = later k

same_file : (f g : ℕ) (o : Output) → (o.stage_out && not (o.file.0 == f)) ≡ false → (o.stage_out && (o.file.0 == g)) ≡ true → g ≡ f
same_file f g o p q = by o.stage_out (nat_eq o.file.0 f) (nat_eq o.file.0 g) refl refl p q
  where
    by : (out is that : Bool) → nat_eq o.file.0 f ≡ is → nat_eq o.file.0 g ≡ that → (out && not is) ≡ false → (out && that) ≡ true → g ≡ f
    by false is that a b h k = absurd (let clash : false ≡ true = k in cc)
    by true false that a b h k = absurd (let clash : true ≡ false = h in cc)
    by true true false a b h k = absurd (let clash : false ≡ true = k in cc)
    by true true true a b h k = sym (eqb-true o.file.0 g b) ∙ eqb-true o.file.0 f a

-- where no other file is requested, a requested one is this
pub only_this : (f g : ℕ) (js : List Job) → list_any (requests_other f) js ≡ false → list_any (requests g) js ≡ true → g ≡ f
only_this f g js none some =
    among (requests_other f) (requests g) (g ≡ f)
    (λ j p q. among (λ (o : Output). o.stage_out && not (o.file.0 == f)) (λ (o : Output). o.stage_out && (o.file.0 == g)) (g ≡ f) (same_file f g) j.outputs p q) js none some

pub has_mosaic : (s : Surveyed) (f : ℕ) → f < length s.survey.workflow.files → slice_index_or s.survey.workflow.files f [] ≡ codes "mosaic.txt" → is_requested s.survey.workflow f ≡ true
    → list_any (requests_other f) s.survey.workflow.jobs ≡ false → HasMosaic s
has_mosaic s f below named requested none = record {
  mosaic = f;
  requested = record { in_range = below; requested = requested };
  named = named;
  only = λ g also. only_this f g s.survey.workflow.jobs none also.requested;
}
