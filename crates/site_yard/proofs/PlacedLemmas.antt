-- What published drafts come to: their operations are those of the entry, and where they hold what is carried, so are their
-- changes and sizes.
use Rattle.std.proofs.Common.{◌≡◌, ℕ, zero, suc, List, [], ◌∷◌, ◌++◌, map, length, take, refl, sym, ap, ◌∙◌}
use Rattle.std.specs.Prelude.{Option, Some, None, option_map}
use Rattle.outside.specs.declared.operation.Operation.{Operation}
use Rattle.outside.specs.declared.operation.Operation.TheVariants.{Publish, Deliver}
use Rattle.outside.specs.declared.store.Store.{Store}
use Rattle.outside.specs.code.Store.{Change, operation}
use Rattle.outside.specs.code.Lending.{placing}
use Rattle.outside.specs.code.Parts.{DraftState, Drafted}
use Rattle.outside.specs.declared.place.Place.{Place}
use Rattle.outside.specs.declared.place.Place.TheVariants.{Scratch, Delivery as Out}
use Rattle.site_yard.specs.code.Returning.{placing_of, placings}
use Rattle.plan_core.specs.declared.plan.Plan.{Plan}
use Rattle.site_yard.specs.code.Changes.{or_nil, publishes}
use Rattle.site_yard.specs.code.Loan.{Aim, AreDrafts, IsDraftOf, draft_bytes, draft_size, pair_target}
use Rattle.plan_core.specs.Names.{pair_file}
use Rattle.site_yard.specs.Trace.{published_at}

-- the operation by which so many bytes come to a place
abbrev pub operation_at : Place → ℕ → Operation
operation_at (Scratch site name) n = Publish site name n
operation_at (Out name) n = Deliver name n

abbrev pub operations_at : List Aim → List ℕ → List Operation
operations_at [] ns = []
operations_at (x ∷ xs) [] = []
operations_at (x ∷ xs) (n ∷ ns) = operation_at x.place n ∷ operations_at xs ns

placing_operation : (l : Place) (bytes : List ℕ) → operation (placing l bytes) ≡ operation_at l (length bytes)
placing_operation (Scratch site name) bytes = refl
placing_operation (Out name) bytes = refl

one_placed : (s : Store) (x : Aim) (d : DraftState) → IsDraftOf (Some s) x d → map operation (placing_of d.told) ≡ operation_at x.place d.size ∷ []
one_placed s x d (bytes, told, size) = ap (λ t. map operation (placing_of t)) told ∙ ap (λ o. o ∷ []) (placing_operation x.place bytes ∙ ap (operation_at x.place) (sym size))

map_both : (xs ys : List Change) → map operation (xs ++ ys) ≡ map operation xs ++ map operation ys
map_both [] ys = refl
map_both (x ∷ xs) ys = ap (λ l. operation x ∷ l) (map_both xs ys)

pub placed_operations : (s : Store) (xs : List Aim) (ds : List DraftState) (k : ℕ) → AreDrafts (Some s) xs ds → map operation (placings (take k ds)) ≡ operations_at xs (take k (map draft_size ds))
placed_operations s [] [] zero h = refl
placed_operations s [] [] (suc k) h = refl
placed_operations s [] (d ∷ ds) k h = absurd h
placed_operations s (x ∷ xs) [] k h = absurd h
placed_operations s (x ∷ xs) (d ∷ ds) zero h = refl
placed_operations s (x ∷ xs) (d ∷ ds) (suc k) h =
    map_both (placing_of d.told) (placings (take k ds))
    ∙ ap (λ l. l ++ map operation (placings (take k ds))) (one_placed s x d h.0)
    ∙ ap (λ l. operation_at x.place d.size ∷ l) (placed_operations s xs ds k h.1)

-- of pairs they are those that the record names
pub pairs_operations : (p : Plan) (qs ns : List ℕ) → operations_at (map (pair_target p) qs) ns ≡ published_at p qs ns
pairs_operations p [] ns = refl
pairs_operations p (q ∷ qs) [] = refl
pairs_operations p (q ∷ qs) (n ∷ ns) = ap (λ l. operation_at (pair_target p q).place n ∷ l) (pairs_operations p qs ns)

abbrev head_of : {A : Type 0} → A → List A → A
head_of d [] = d
head_of d (x ∷ xs) = x

abbrev tail_of : {A : Type 0} → List A → List A
tail_of [] = []
tail_of (x ∷ xs) = xs

-- under the premise: the changes
abbrev pub placed_as : (ℕ → ℕ → Option (List ℕ)) → ℕ → Aim → Change
placed_as c t x = placing x.place (or_nil (c t x.file))

one_change : (s : Store) (c : ℕ → ℕ → Option (List ℕ)) (t : ℕ) (x : Aim) (d : DraftState) → IsDraftOf (Some s) x d → draft_bytes d ≡ c t x.file → placing_of d.told ≡ placed_as c t x ∷ []
one_change s c t x d (bytes, told, size) is =
    ap placing_of told ∙ ap (λ o. placing x.place (or_nil o) ∷ []) (sym (ap (option_map (λ (y : Drafted). y.bytes)) told) ∙ is)

pub placed_changes : (s : Store) (c : ℕ → ℕ → Option (List ℕ)) (t : ℕ) (xs : List Aim) (ds : List DraftState) (k : ℕ) → AreDrafts (Some s) xs ds → map draft_bytes ds ≡ map (λ (x : Aim). c t x.file) xs → placings (take k ds) ≡ map (placed_as c t) (take k xs)
placed_changes s c t [] [] zero h is = refl
placed_changes s c t [] [] (suc k) h is = refl
placed_changes s c t [] (d ∷ ds) k h is = absurd h
placed_changes s c t (x ∷ xs) [] k h is = absurd h
placed_changes s c t (x ∷ xs) (d ∷ ds) zero h is = refl
placed_changes s c t (x ∷ xs) (d ∷ ds) (suc k) h is =
    ap (λ l. l ++ placings (take k ds)) (one_change s c t x d h.0 (ap (head_of None) is))
    ∙ ap (λ l. placed_as c t x ∷ l) (placed_changes s c t xs ds k h.1 (ap tail_of is))

pub pairs_changes : (p : Plan) (c : ℕ → ℕ → Option (List ℕ)) (t : ℕ) (qs : List ℕ) (k : ℕ) → map (placed_as c t) (take k (map (pair_target p) qs)) ≡ map (publishes p c t) (take k qs)
pairs_changes p c t [] zero = refl
pairs_changes p c t [] (suc k) = refl
pairs_changes p c t (q ∷ qs) zero = refl
pairs_changes p c t (q ∷ qs) (suc k) = ap (λ l. publishes p c t q ∷ l) (pairs_changes p c t qs k)

-- and the sizes
one_size_of : (s : Store) (c : ℕ → ℕ → Option (List ℕ)) (t : ℕ) (x : Aim) (d : DraftState) → IsDraftOf (Some s) x d → draft_bytes d ≡ c t x.file → option_map length (c t x.file) ≡ Some d.size
one_size_of s c t x d (bytes, told, size) is =
    ap (option_map length) (sym is) ∙ ap (λ z. option_map length (option_map (λ (y : Drafted). y.bytes) z)) told ∙ ap Some (sym size)

pub placed_sizes : (s : Store) (p : Plan) (c : ℕ → ℕ → Option (List ℕ)) (t : ℕ) (qs : List ℕ) (ds : List DraftState) (k : ℕ) → AreDrafts (Some s) (map (pair_target p) qs) ds → map draft_bytes ds ≡ map (λ (x : Aim). c t x.file) (map (pair_target p) qs) → map (λ q. option_map length (c t (pair_file p q))) (take k qs) ≡ map Some (take k (map draft_size ds))
placed_sizes s p c t [] [] zero h is = refl
placed_sizes s p c t [] [] (suc k) h is = refl
placed_sizes s p c t [] (d ∷ ds) k h is = absurd h
placed_sizes s p c t (q ∷ qs) [] k h is = absurd h
placed_sizes s p c t (q ∷ qs) (d ∷ ds) zero h is = refl
placed_sizes s p c t (q ∷ qs) (d ∷ ds) (suc k) h is =
    ap (λ z. z ∷ map (λ q. option_map length (c t (pair_file p q))) (take k qs)) (one_size_of s c t (pair_target p q) d h.0 (ap (head_of None) is))
    ∙ ap (λ l. Some d.size ∷ l) (placed_sizes s p c t qs ds k h.1 (ap tail_of is))

-- of one draft
pub one_long : (s : Store) (c : ℕ → ℕ → Option (List ℕ)) (t : ℕ) (x : Aim) (ds : List DraftState) (n : ℕ) → AreDrafts (Some s) (x ∷ []) ds → map draft_bytes ds ≡ c t x.file ∷ [] → map draft_size ds ≡ n ∷ [] → option_map length (c t x.file) ≡ Some n
one_long s c t x [] n h is e = absurd h
one_long s c t x (d ∷ []) n h is e = one_size_of s c t x d h.0 (ap (head_of None) is) ∙ ap Some (ap (head_of 0) e)
one_long s c t x (d ∷ f ∷ ds) n h is e = absurd h.1
