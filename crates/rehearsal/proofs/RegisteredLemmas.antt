-- What a catalogue registers of images.
use Rattle.std.proofs.Common.{◌≡◌, ℕ, ◌+◌, ◌<◌, ◌&&◌, Bool, true, false, not, List, [], ◌∷◌, length, drop, get_or, refl, sym, ap, ◌∙◌, arith}
use Rattle.std.specs.Prelude.{Option, Some, None, is_some}
use Rattle.std.specs.Str.{bytes_eq}
use Rattle.std.proofs.lemmas.List.{drop_more}
use Rattle.std.proofs.lemmas.Slice.Eq.{bytes_eq-Decides}
use Rattle.replica_catalog.specs.declared.catalog.Pfn.{Pfn}
use Rattle.replica_catalog.specs.declared.catalog.Replica.{Replica}
use Rattle.rehearsal.specs.Registered.{are_at, is_at, is_only}

-- An entry has one pfn, this one, and no checksum.
pub record IsAt (pfn : List ℕ) (e : Replica) : Type 0 where
  pub place : Pfn
  pub is : place.pfn ≡ pfn
  pub alone : e.pfns ≡ place ∷ []
  pub plain : e.checksum ≡ None

and_left : (a b : Bool) → (a && b) ≡ true → a ≡ true
and_left true b h = refl
and_left false b h = h

and_right : (a b : Bool) → (a && b) ≡ true → b ≡ true
and_right true b h = h
and_right false b h = absurd (let clash : false ≡ true = h in cc)

pub one_pfn : (pfn : List ℕ) (e : Replica) → is_at pfn e ≡ true → IsAt pfn e
one_pfn pfn e h = by e.pfns refl e.checksum refl h
  where
    by : (ps : List Pfn) → e.pfns ≡ ps → (sum : Option (List ℕ)) → e.checksum ≡ sum → (is_only pfn ps && not (is_some sum)) ≡ true → IsAt pfn e
    by [] alone sum plain k = absurd cc
    by (x ∷ []) alone None plain k = record { place = x; is = (bytes_eq-Decides x.pfn pfn).0 (and_left (bytes_eq x.pfn pfn) true k); alone = alone; plain = plain }
    by (x ∷ []) alone (Some sum) plain k = absurd (let clash : false ≡ true = and_right (bytes_eq x.pfn pfn) false k in cc)
    by (x ∷ y ∷ ys) alone sum plain k = absurd cc

-- the test of the first ones
pub first_at : (pfn : List ℕ) (e : Replica) (xs : List (List ℕ × List ℕ)) (es : List Replica) → (is_at pfn e && are_at xs es) ≡ true → is_at pfn e ≡ true
first_at pfn e xs es h = and_left (is_at pfn e) (are_at xs es) h

pub others_at : (pfn : List ℕ) (e : Replica) (xs : List (List ℕ × List ℕ)) (es : List Replica) → (is_at pfn e && are_at xs es) ≡ true → are_at xs es ≡ true
others_at pfn e xs es h = and_right (is_at pfn e) (are_at xs es) h

-- ---- place by place

-- too few images
pub too_few : (xs : List (List ℕ × List ℕ)) (es : List Replica) → length xs < length es → are_at xs es ≡ false
too_few [] [] h = absurd (omega arith)
too_few [] (e ∷ es) h = refl
too_few (x ∷ xs) [] h = absurd (omega arith)
too_few (x ∷ xs) (e ∷ es) h = rest (is_at x.0 e) (too_few xs es (omega arith))
  where
    rest : (b : Bool) → are_at xs es ≡ false → (b && are_at xs es) ≡ false
    rest true k = k
    rest false k = refl

-- one place more
pub at_place : (xs : List (List ℕ × List ℕ)) (es : List Replica) (i : ℕ) (x : List ℕ × List ℕ) (e : Replica) → i < length xs → i < length es → x ≡ get_or xs i x → e ≡ get_or es i e
    → are_at (drop i xs) (drop i es) ≡ (is_at x.0 e && are_at (drop (i + 1) xs) (drop (i + 1) es))
at_place xs es i x e h k x_is e_is =
    ap (λ (l : List (List ℕ × List ℕ)). are_at l (drop i es)) (drop_more xs i x h ∙ ap (λ (y : List ℕ × List ℕ). y ∷ drop (i + 1) xs) (sym x_is))
    ∙ ap (λ (l : List Replica). are_at (x ∷ drop (i + 1) xs) l) (drop_more es i e k ∙ ap (λ (d : Replica). d ∷ drop (i + 1) es) (sym e_is))
