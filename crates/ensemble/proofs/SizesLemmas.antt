-- The joint request states for each file the size that the file's member declares.
use Rattle.std.proofs.Common.{◌≡◌, ℕ, zero, suc, ◌+◌, ◌<◌, Bool, true, false, cond, List, [], ◌∷◌, ◌++◌, length, map, get_or, refl, ap, subst, ◌∙◌, arith}
use Rattle.std.specs.Prelude.{Option, Some, None, slice_get}
use Rattle.std.specs.List.{AllByRecursion}
use Rattle.std.specs.Map.{lookup}
use Rattle.std.specs.Option.{option_or}
use Rattle.std.specs.Str.{bytes_eq}
use Rattle.std.proofs.Math.ListN.{get_or-append}
use Rattle.std.proofs.lemmas.List.{get_or-append-add, map-append}
use Rattle.workflow_core.specs.code.WellFormed.{are_distinct}
use Rattle.plan_request.specs.declared.request.PlanRequest.{PlanRequest}
use Rattle.plan_request.specs.declared.request.SizeOf.{SizeOf}
use Rattle.plan_request.specs.FileSizes.{declared_size, declared_sizes, named_size}
use Rattle.ensemble.specs.declared.member.Member.{Member}
use Rattle.ensemble.specs.Law.{first_file}
use Rattle.ensemble.specs.Member.{IsMember, files_of}
use Rattle.ensemble.specs.MemberEntry.{has_slash}
use Rattle.ensemble.specs.Prefix.{prefixed}
use Rattle.ensemble.specs.Requests.{joint_sizes, sizes_of}
use Rattle.ensemble.specs.Stated.{stated_sizes}
use Rattle.ensemble.specs.Workflows.{joint_stated}
use Rattle.ensemble.proofs.DistinctLemmas.{all_hold, all_weaker, first_apart, rest_distinct}
use Rattle.ensemble.proofs.LawLemmas.{AreLater, all_at, later, names_in}
use Rattle.ensemble.proofs.LookupLemmas.{lookup_joined, or_nothing}
use Rattle.ensemble.proofs.PrefixLemmas.{not_same, other_prefixed, own_name, own_prefixed}

abbrev found_size : List SizeOf → List ℕ → Option ℕ
found_size ss name = lookup (bytes_eq name) (map named_size ss)

sizes_joined : (name : List ℕ) (xs ys : List SizeOf) → found_size (xs ++ ys) name ≡ option_or (found_size xs name) (found_size ys name)
sizes_joined name xs ys = ap (lookup (bytes_eq name)) (map-append named_size xs ys) ∙ lookup_joined (bytes_eq name) (map named_size xs) (map named_size ys)

-- ---- of one member

not_stated : (name m : List ℕ) (fs : List (List ℕ)) (ds : List (Option ℕ)) → AllByRecursion (λ (f : List ℕ). bytes_eq name (prefixed m f) ≡ false) fs → found_size (stated_sizes m fs ds) name ≡ None
not_stated name m [] ds apart = refl
not_stated name m (f ∷ fs) [] apart = refl
not_stated name m (f ∷ fs) (None ∷ ds) apart = not_stated name m fs ds apart.1
not_stated name m (f ∷ fs) (Some n ∷ ds) apart =
    ap (λ (b : Bool). cond b (Some n) (found_size (stated_sizes m fs ds) name)) apart.0 ∙ not_stated name m fs ds apart.1

place_of : (P : List ℕ → Type 0) (fs : List (List ℕ)) (i : ℕ) → AllByRecursion P fs → i < length fs → P (get_or fs i [])
place_of P [] i all h = absurd (omega arith)
place_of P (f ∷ fs) zero all h = all.0
place_of P (f ∷ fs) (suc i) all h = place_of P fs i all.1 (omega arith)

own_size : (m : List ℕ) → has_slash m ≡ false → (fs : List (List ℕ)) (ds : List (Option ℕ)) → are_distinct bytes_eq fs ≡ true → length ds ≡ length fs → (i : ℕ) → i < length fs
    → found_size (stated_sizes m fs ds) (prefixed m (get_or fs i [])) ≡ get_or ds i None
own_size m p [] ds once long i h = absurd (omega arith)
own_size m p (f ∷ fs) [] once long i h = absurd (omega (arith, long))
own_size m p (f ∷ fs) (None ∷ ds) once long zero h =
    not_stated (prefixed m f) m fs ds (all_weaker (λ (g : List ℕ). bytes_eq g f ≡ false) (λ (g : List ℕ). bytes_eq (prefixed m f) (prefixed m g) ≡ false) fs (λ g differ. own_prefixed m f g p ∙ not_same g f differ) (first_apart bytes_eq f fs once))
own_size m p (f ∷ fs) (Some n ∷ ds) once long zero h =
    ap (λ (b : Bool). cond b (Some n) (found_size (stated_sizes m fs ds) (prefixed m f))) (own_prefixed m f f p ∙ own_name f)
own_size m p (f ∷ fs) (None ∷ ds) once long (suc i) h = own_size m p fs ds (rest_distinct bytes_eq f fs once) (omega (arith, long)) i (omega arith)
own_size m p (f ∷ fs) (Some n ∷ ds) once long (suc i) h =
    ap (λ (b : Bool). cond b (Some n) (found_size (stated_sizes m fs ds) (prefixed m (get_or fs i []))))
    (own_prefixed m (get_or fs i []) f p ∙ place_of (λ g. bytes_eq g f ≡ false) fs i (first_apart bytes_eq f fs once) (omega arith))
    ∙ own_size m p fs ds (rest_distinct bytes_eq f fs once) (omega (arith, long)) i (omega arith)

declared_at : (r : PlanRequest) (fs : List (List ℕ)) (ss : List (Option ℕ)) → length ss ≡ length fs → (i : ℕ) → i < length fs → get_or (declared_sizes r fs ss) i None ≡ declared_size r (get_or fs i []) (get_or ss i None)
declared_at r [] ss long i h = absurd (omega arith)
declared_at r (f ∷ fs) [] long i h = absurd (omega (arith, long))
declared_at r (f ∷ fs) (s ∷ ss) long zero h = refl
declared_at r (f ∷ fs) (s ∷ ss) long (suc i) h = declared_at r fs ss (omega (arith, long)) i (omega arith)

declared_long : (r : PlanRequest) (fs : List (List ℕ)) (ss : List (Option ℕ)) → length ss ≡ length fs → length (declared_sizes r fs ss) ≡ length fs
declared_long r [] ss long = refl
declared_long r (f ∷ fs) [] long = absurd (omega (arith, long))
declared_long r (f ∷ fs) (s ∷ ss) long = let rest = declared_long r fs ss (omega (arith, long)) in omega (arith, rest)

-- ---- of all of them

abbrev declared_of : Member → List (Option ℕ)
declared_of m = declared_sizes m.request m.survey.workflow.files m.survey.workflow.sizes

other_size : (x m : Member) (f : List ℕ) → IsMember x → IsMember m → bytes_eq x.name m.name ≡ false → found_size (sizes_of m) (prefixed x.name f) ≡ None
other_size x m f is are differ = not_stated (prefixed x.name f) m.name m.survey.workflow.files (declared_of m) (all_hold (λ (g : List ℕ). bytes_eq (prefixed x.name f) (prefixed m.name g) ≡ false) m.survey.workflow.files (λ g. other_prefixed x.name m.name f g is.plain_name are.plain_name differ))

no_size : (x : Member) (f : List ℕ) → IsMember x → (ms : List Member) → AllByRecursion IsMember ms → AreLater x ms → found_size (joint_sizes ms) (prefixed x.name f) ≡ None
no_size x f is [] all differ = refl
no_size x f is (m ∷ ms) all differ =
    sizes_joined (prefixed x.name f) (sizes_of m) (joint_sizes ms)
    ∙ ap (λ (o : Option ℕ). option_or o (found_size (joint_sizes ms) (prefixed x.name f))) (other_size x m f is all.0 (not_same m.name x.name differ.0))
    ∙ no_size x f is ms all.1 differ.1

first_size : (x : Member) (ms : List Member) → AllByRecursion IsMember (x ∷ ms) → are_distinct bytes_eq (names_in (x ∷ ms)) ≡ true → (f : ℕ) → f < files_of x
    → found_size (joint_sizes (x ∷ ms)) (prefixed x.name (get_or x.survey.workflow.files f [])) ≡ get_or (declared_of x) f None
first_size x ms all once f h =
    sizes_joined (prefixed x.name (get_or x.survey.workflow.files f [])) (sizes_of x) (joint_sizes ms)
    ∙ ap (λ (o : Option ℕ). option_or (found_size (sizes_of x) (prefixed x.name (get_or x.survey.workflow.files f []))) o) (no_size x (get_or x.survey.workflow.files f []) all.0 ms all.1 (later x ms once))
    ∙ or_nothing (found_size (sizes_of x) (prefixed x.name (get_or x.survey.workflow.files f [])))
    ∙ own_size x.name all.0.plain_name x.survey.workflow.files (declared_of x) all.0.well_formed.names (declared_long x.request x.survey.workflow.files x.survey.workflow.sizes all.0.well_formed.sizes) f h

size_in : (ms : List Member) → AllByRecursion IsMember ms → are_distinct bytes_eq (names_in ms) ≡ true → (i : ℕ) (m : Member) (f : ℕ) → slice_get ms i ≡ Some m → f < files_of m
    → found_size (joint_sizes ms) (prefixed m.name (get_or m.survey.workflow.files f [])) ≡ get_or (declared_of m) f None
size_in [] all once i m f e h = absurd cc
size_in (x ∷ ms) all once zero m f e h =
    let same : x ≡ m = cc in
    let long : files_of x ≡ files_of m = ap files_of same in
    subst (λ (y : Member). found_size (joint_sizes (x ∷ ms)) (prefixed y.name (get_or y.survey.workflow.files f [])) ≡ get_or (declared_of y) f None) same (first_size x ms all once f (omega (arith, h, long)))
size_in (x ∷ ms) all once (suc i) m f e h =
    let is : IsMember m = all_at IsMember ms i m all.1 e in
    let differ : bytes_eq m.name x.name ≡ false = all_at (λ (y : Member). bytes_eq y.name x.name ≡ false) ms i m (later x ms once) e in
    sizes_joined (prefixed m.name (get_or m.survey.workflow.files f [])) (sizes_of x) (joint_sizes ms)
    ∙ ap (λ (o : Option ℕ). option_or o (found_size (joint_sizes ms) (prefixed m.name (get_or m.survey.workflow.files f [])))) (other_size m x (get_or m.survey.workflow.files f []) is all.0 differ)
    ∙ size_in ms all.1 (rest_distinct bytes_eq x.name (names_in ms) once) i m f e h

stated_in : (ms : List Member) → AllByRecursion IsMember ms → (i n : ℕ) (m : Member) (f : ℕ) → slice_get ms i ≡ Some m → f < files_of m → n ≡ first_file ms i + f → get_or (joint_stated ms) n None ≡ get_or m.survey.workflow.sizes f None
stated_in [] all i n m f e h at = absurd cc
stated_in (x ∷ ms) all zero n m f e h at =
    let same : x ≡ m = cc in
    let here : n ≡ f = omega (arith, at) in
    let long : files_of x ≡ files_of m = ap files_of same in
    let sized = all.0.well_formed.sizes in
    ap (λ (t : ℕ). get_or (joint_stated (x ∷ ms)) t None) here
    ∙ get_or-append x.survey.workflow.sizes (joint_stated ms) None f (omega (arith, h, long, sized))
    ∙ ap (λ (y : Member). get_or y.survey.workflow.sizes f None) same
stated_in (x ∷ ms) all (suc i) n m f e h at =
    let sized = all.0.well_formed.sizes in
    let there : n ≡ length x.survey.workflow.sizes + (first_file ms i + f) = omega (arith, at, sized) in
    ap (λ (t : ℕ). get_or (joint_stated (x ∷ ms)) t None) there
    ∙ get_or-append-add x.survey.workflow.sizes (joint_stated ms) (first_file ms i + f) None
    ∙ stated_in ms all.1 i (first_file ms i + f) m f e h refl

settled : (found stated default : Option ℕ) → option_or (option_or found (option_or stated default)) (option_or stated None) ≡ option_or found (option_or stated default)
settled (Some n) stated default = refl
settled None (Some n) default = refl
settled None None default = or_nothing default

-- the joint's declared size of a member's file, by what the joint request and the joint workflow say
pub sized_in : (ms : List Member) → AllByRecursion IsMember ms → are_distinct bytes_eq (names_in ms) ≡ true → (r : PlanRequest) (files : List (List ℕ)) (stated : List (Option ℕ))
    → r.sizes ≡ joint_sizes ms → r.default_size ≡ None → stated ≡ joint_stated ms → (i : ℕ) (m : Member) (f : ℕ) → slice_get ms i ≡ Some m → f < files_of m
    → get_or files (first_file ms i + f) [] ≡ prefixed m.name (get_or m.survey.workflow.files f [])
    → declared_size r (get_or files (first_file ms i + f) []) (get_or stated (first_file ms i + f) None) ≡ declared_size m.request (get_or m.survey.workflow.files f []) (get_or m.survey.workflow.sizes f None)
sized_in ms all once r files stated sizes none is i m f e h named =
    let is_member : IsMember m = all_at IsMember ms i m all e in
    ap (λ (n : List ℕ). declared_size r n (get_or stated (first_file ms i + f) None)) named
    ∙ ap (λ (ss : List SizeOf). option_or (found_size ss (prefixed m.name (get_or m.survey.workflow.files f []))) (option_or (get_or stated (first_file ms i + f) None) r.default_size)) sizes
    ∙ ap (λ (o : Option ℕ). option_or o (option_or (get_or stated (first_file ms i + f) None) r.default_size)) (size_in ms all once i m f e h ∙ declared_at m.request m.survey.workflow.files m.survey.workflow.sizes is_member.well_formed.sizes f h)
    ∙ ap (λ (o : Option ℕ). option_or (declared_size m.request (get_or m.survey.workflow.files f []) (get_or m.survey.workflow.sizes f None)) (option_or (get_or stated (first_file ms i + f) None) o)) none
    ∙ ap (λ (o : Option ℕ). option_or (declared_size m.request (get_or m.survey.workflow.files f []) (get_or m.survey.workflow.sizes f None)) (option_or o None)) (ap (λ (ss : List (Option ℕ)). get_or ss (first_file ms i + f) None) is ∙ stated_in ms all i (first_file ms i + f) m f e h refl)
    ∙ settled (lookup (bytes_eq (get_or m.survey.workflow.files f [])) (map named_size m.request.sizes)) (get_or m.survey.workflow.sizes f None) m.request.default_size
