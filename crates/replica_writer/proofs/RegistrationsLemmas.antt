-- What holds of the delivered files holds of those that are registered.
use Rattle.std.proofs.Common.{◌≡◌, ℕ, ◌<◌, ◌+◌, Bool, true, false, cond, List, [], ◌∷◌, ◌++◌, map, filter, length, take, get_or, refl, sym, ap, subst, ◌∙◌, append-nil}
use Rattle.std.specs.List.{AllByRecursion, IsDistinct}
use Rattle.std.specs.Str.{bytes_eq}
use Rattle.std.proofs.lemmas.List.{map-append, take_more}
use Rattle.std.proofs.lemmas.List.Elements.{All-push, All-same, filter-append}
use Rattle.std.proofs.lemmas.Map.Keys.{IsDistinct-cons, IsDistinct-head, IsDistinct-tail}
use Rattle.std.specs.Prelude.{Option, Some, slice_get}
use Rattle.std.proofs.lemmas.Option.{slice_get-get_or}
use Rattle.plan_core.specs.declared.plan.Plan.{Plan}
use Rattle.plan_core.specs.declared.plan.PlanFile.{PlanFile}
use Rattle.serde_json.specs.View.{view}
use Rattle.serde_json.specs.declared.value.Value.{Value}
use Rattle.plan_core.specs.Names.{file_name, lfn_in}
use Rattle.serde_json.specs.Data.{Data}
use Rattle.replica_writer.specs.Document.{Registration, entry_tree}
use Rattle.replica_writer.specs.Writer.{AreDigests, IsDigest, delivered_name, flag_in, has_flag, registration, registrations}
use Rattle.site_yard.specs.declared.delivered.Delivered.{Delivered}
use Rattle.replica_writer.proofs.JoiningLemmas.{IsFar}
use Rattle.replica_writer.proofs.ReadingLemmas.{IsReadable, is_named}

abbrev names : List Registration → List (List ℕ)
names rs = map (λ (r : Registration). r.lfn) rs

abbrev rest : Plan → List Delivered → List Delivered
rest p ds = filter (has_flag p) ds

far_kept : (p : Plan) (n : List ℕ) (ds : List Delivered) → IsFar n (map (delivered_name p) ds) → IsFar n (names (registrations p ds))
far_kept p n [] far = tt
far_kept p n (d ∷ ds) far = by (has_flag p d) (far_kept p n ds far.1)
  where
    by : (b : Bool) → IsFar n (names (registrations p ds)) → IsFar n (names (map (registration p) (cond b (d ∷ rest p ds) (rest p ds))))
    by true later = (far.0, later)
    by false later = later

pub apart_kept : (p : Plan) (ds : List Delivered) → IsDistinct bytes_eq (map (delivered_name p) ds) → IsDistinct bytes_eq (names (registrations p ds))
apart_kept p [] apart = apart
apart_kept p (d ∷ ds) apart = by (has_flag p d) (apart_kept p ds (IsDistinct-tail bytes_eq (delivered_name p d) (map (delivered_name p) ds) apart))
  where
    far : IsFar (delivered_name p d) (names (registrations p ds))
    far = far_kept p (delivered_name p d) ds (IsDistinct-head bytes_eq (delivered_name p d) (map (delivered_name p) ds) apart)

    by : (b : Bool) → IsDistinct bytes_eq (names (registrations p ds)) → IsDistinct bytes_eq (names (map (registration p) (cond b (d ∷ rest p ds) (rest p ds))))
    by true later = IsDistinct-cons bytes_eq (delivered_name p d) (names (registrations p ds)) far later
    by false later = later

pub readable_kept : (p : Plan) (ds : List Delivered) → AllByRecursion (λ (d : Delivered). 0 < length (delivered_name p d)) ds → AllByRecursion (λ (d : Delivered). IsDigest d.digest) ds → AllByRecursion IsReadable (registrations p ds)
readable_kept p [] named digests = tt
readable_kept p (d ∷ ds) named digests = by (has_flag p d) (readable_kept p ds named.1 digests.1)
  where
    by : (b : Bool) → AllByRecursion IsReadable (registrations p ds) → AllByRecursion IsReadable (map (registration p) (cond b (d ∷ rest p ds) (rest p ds)))
    by true later = (record { named = is_named (length (delivered_name p d)) named.0; digest = digests.0 }, later)
    by false later = later

-- one file
abbrev pub shown : Delivered → List ℕ → Registration
shown d lfn = record { lfn = lfn; digest = d.digest }

one_or_none : (p : Plan) (d : Delivered) (b : Bool) → map (registration p) (cond b (d ∷ []) []) ≡ cond b (shown d (delivered_name p d) ∷ []) []
one_or_none p d true = refl
one_or_none p d false = refl

registered_one : (p : Plan) (d : Delivered) (files : List PlanFile) (f : PlanFile) → files ≡ p.files → d.file.0 < length p.files → f ≡ get_or files d.file.0 f
    → registrations p (d ∷ []) ≡ cond f.register (shown d f.lfn ∷ []) []
unfolding file_name
registered_one p d files f are low is =
    let here : slice_get p.files d.file.0 ≡ Some f = ap (λ (fs : List PlanFile). slice_get fs d.file.0) (sym are) ∙ slice_get-get_or files d.file.0 f (subst (λ (fs : List PlanFile). d.file.0 < length fs) (sym are) low) ∙ ap Some (sym is) in
    one_or_none p d (has_flag p d) ∙ ap (λ (o : Option PlanFile). cond (flag_in o) (shown d (lfn_in o) ∷ []) []) here

-- the entries with one more, or none
pub added : (p : Plan) (d : Delivered) (files : List PlanFile) (f : PlanFile) (old new : List Value) (v : Value) → files ≡ p.files → d.file.0 < length p.files → f ≡ get_or files d.file.0 f → f.register ≡ true
    → view v ≡ entry_tree (shown d f.lfn) → new ≡ old ++ v ∷ [] → map view new ≡ map view old ++ map entry_tree (registrations p (d ∷ []))
added p d files f old new v are low is flag tree more =
    ap (map view) more ∙ map-append view old (v ∷ []) ∙ ap (λ (t : Data). map view old ++ t ∷ []) tree
    ∙ ap (λ (rs : List Registration). map view old ++ map entry_tree rs) (sym (registered_one p d files f are low is ∙ ap (λ (b : Bool). cond b (shown d f.lfn ∷ []) []) flag))

pub left_out : (p : Plan) (d : Delivered) (files : List PlanFile) (f : PlanFile) (old : List Value) → files ≡ p.files → d.file.0 < length p.files → f ≡ get_or files d.file.0 f → f.register ≡ false
    → map view old ≡ map view old ++ map entry_tree (registrations p (d ∷ []))
left_out p d files f old are low is flag =
    sym (append-nil (map view old))
    ∙ ap (λ (rs : List Registration). map view old ++ map entry_tree rs) (sym (registered_one p d files f are low is ∙ ap (λ (b : Bool). cond b (shown d f.lfn ∷ []) []) flag))

-- one file more
registered_more : (p : Plan) (ds more : List Delivered) → registrations p (ds ++ more) ≡ registrations p ds ++ registrations p more
registered_more p ds more = ap (map (registration p)) (filter-append (has_flag p) ds more) ∙ map-append (registration p) (rest p ds) (rest p more)

entries_more : (p : Plan) (ds : List Delivered) (i : ℕ) (d : Delivered) → i < length ds → map entry_tree (registrations p (take (i + 1) ds)) ≡ map entry_tree (registrations p (take i ds)) ++ map entry_tree (registrations p (get_or ds i d ∷ []))
entries_more p ds i d low =
    ap (λ (l : List Delivered). map entry_tree (registrations p l)) (take_more ds i d low)
    ∙ ap (map entry_tree) (registered_more p (take i ds) (get_or ds i d ∷ []))
    ∙ map-append entry_tree (registrations p (take i ds)) (registrations p (get_or ds i d ∷ []))

pub entries_step : (p : Plan) (ds : List Delivered) (i : ℕ) (d : Delivered) (old new : List Data) → i < length ds → new ≡ old ++ map entry_tree (registrations p (get_or ds i d ∷ [])) → old ≡ map entry_tree (registrations p (take i ds))
    → new ≡ map entry_tree (registrations p (take (i + 1) ds))
entries_step p ds i d old new low more so_far =
    more ∙ ap (λ (ts : List Data). ts ++ map entry_tree (registrations p (get_or ds i d ∷ []))) so_far ∙ sym (entries_more p ds i d low)

pub digests_step : (ds : List Delivered) (i : ℕ) (d : Delivered) → i < length ds → AreDigests (take i ds) → IsDigest (get_or ds i d).digest → AreDigests (take (i + 1) ds)
digests_step ds i d low so_far one =
    All-same (λ (e : Delivered). IsDigest e.digest) (take (i + 1) ds) (take i ds ++ get_or ds i d ∷ []) (take_more ds i d low)
    (All-push (λ (e : Delivered). IsDigest e.digest) (take i ds) (get_or ds i d) so_far one)
