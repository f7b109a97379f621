-- The places of files that are known, and those that the rest of a list adds.
use Rattle.std.proofs.Common.{◌≡◌, ℕ, ◌+◌, ◌<◌, length, nat_lt, Bool, true, false, cond, List, [], ◌∷◌, ◌++◌, refl, sym, ap, subst, ◌∙◌, arith}
use Rattle.std.specs.Prelude.{Option, Some, None, is_some, find, position, slice_get, slice_index_or}
use Rattle.std.specs.List.{position_from, position_or_len}
use Rattle.std.specs.Map.{lookup}
use Rattle.std.specs.Option.{option_or}
use Rattle.std.proofs.lemmas.Iterator.Adapters.{position_from-zero}
use Rattle.std.specs.Str.{bytes_eq}
use Rattle.std.specs.Cmp.Lexicographic.{bytes_decides}
use Rattle.std.proofs.lemmas.List.Folds.{find_at}
use Rattle.std.proofs.lemmas.Option.{slice_get_past, slice_get_read}
use Rattle.replica_catalog.specs.declared.catalog.Replica.{Replica}
use Rattle.replica_catalog.specs.Lookup.{is_of}

abbrev pub Places : Type 0
Places = List (List ℕ × ℕ)

-- a file's place among the known ones, else among the rest, which begins at place i
abbrev pub place_in : Places → ℕ → List Replica → List ℕ → Option ℕ
place_in known i rest t = option_or (lookup (bytes_eq t) known) (position_from (is_of t) i rest)

lookup_alike : (p q : List ℕ → Bool) → ((z : List ℕ) → p z ≡ q z) → (known : Places) → lookup p known ≡ lookup q known
lookup_alike p q h [] = refl
lookup_alike p q h (k ∷ known) =
    ap (λ (b : Bool). cond b (Some k.1) (lookup p known)) (h k.0)
    ∙ ap (λ (o : Option ℕ). cond (q k.0) (Some k.1) o) (lookup_alike p q h known)

lookup_more : (p : List ℕ → Bool) (known : Places) (s : List ℕ) (i : ℕ) → lookup p (known ++ (s, i) ∷ []) ≡ option_or (lookup p known) (cond (p s) (Some i) None)
lookup_more p [] s i = refl
lookup_more p (k ∷ known) s i = by (p k.0) (lookup_more p known s i)
  where
    by : (b : Bool) → lookup p (known ++ (s, i) ∷ []) ≡ option_or (lookup p known) (cond (p s) (Some i) None)
        → cond b (Some k.1) (lookup p (known ++ (s, i) ∷ [])) ≡ option_or (cond b (Some k.1) (lookup p known)) (cond (p s) (Some i) None)
    by true rest = refl
    by false rest = rest

-- before all entries
pub at_first : (es : List Replica) (t : List ℕ) → place_in [] 0 es t ≡ position (is_of t) es
at_first es t = sym (position_from-zero (is_of t) es)

-- no place is known
pub none_of : {X : Type 0} (o : Option X) → is_some o ≡ false → o ≡ None
none_of None h = refl
none_of (Some x) h = absurd cc

-- an entry whose file is known
pub step_known : (known : Places) (i : ℕ) (e : Replica) (rest : List Replica) (t : List ℕ)
    → is_some (lookup (bytes_eq e.lfn) known) ≡ true → place_in known (i + 1) rest t ≡ place_in known i (e ∷ rest) t
step_known known i e rest t h = by (bytes_eq t e.lfn) refl
  where
    held : (o : Option ℕ) (a b : Option ℕ) → is_some o ≡ true → option_or o a ≡ option_or o b
    held None a b k = absurd cc
    held (Some n) a b k = refl

    by : (b : Bool) → bytes_eq t e.lfn ≡ b → place_in known (i + 1) rest t ≡ option_or (lookup (bytes_eq t) known) (cond b (Some i) (position_from (is_of t) (i + 1) rest))
    by true same =
        held (lookup (bytes_eq t) known) _ _
        (ap is_some (ap (λ (n : List ℕ). lookup (bytes_eq n) known) ((bytes_decides t e.lfn).0 same)) ∙ h)
    by false same = refl

-- an entry whose file becomes known
pub step_new : (known : Places) (i : ℕ) (e : Replica) (rest : List Replica) (t : List ℕ)
    → place_in (known ++ (e.lfn, i) ∷ []) (i + 1) rest t ≡ place_in known i (e ∷ rest) t
step_new known i e rest t =
    ap (λ (o : Option ℕ). option_or o (position_from (is_of t) (i + 1) rest)) (lookup_more (bytes_eq t) known e.lfn i)
    ∙ by (lookup (bytes_eq t) known) (bytes_eq t e.lfn)
  where
    by : (o : Option ℕ) (b : Bool) → option_or (option_or o (cond b (Some i) None)) (position_from (is_of t) (i + 1) rest) ≡ option_or o (cond b (Some i) (position_from (is_of t) (i + 1) rest))
    by None true = refl
    by None false = refl
    by (Some n) b = refl

-- the entry at the place of a file
pub entry_at : (es : List Replica) (lfn : List ℕ) (i : ℕ) → position (is_of lfn) es ≡ Some i → (i < length es) × ((e : Replica) → e ≡ slice_index_or es i e → Some e ≡ find (is_of lfn) es)
entry_at es lfn i at = by (nat_lt (position_or_len (is_of lfn) es) (length es)) refl at
  where
    by : (b : Bool) → nat_lt (position_or_len (is_of lfn) es) (length es) ≡ b → cond b (Some (position_or_len (is_of lfn) es)) None ≡ Some i → (i < length es) × ((e : Replica) → e ≡ slice_index_or es i e → Some e ≡ find (is_of lfn) es)
    by true h is =
        let same : position_or_len (is_of lfn) es ≡ i = cc in
        let below : i < length es = subst (λ (n : ℕ). n < length es) same (grind arith) in
        (below, λ e read. sym (find_at (is_of lfn) es ∙ ap (slice_get es) same ∙ slice_get_read es (length es) i e refl below read))
    by false h is = absurd cc

-- a file without an entry
pub no_entry : (es : List Replica) (lfn : List ℕ) → position (is_of lfn) es ≡ None → find (is_of lfn) es ≡ None
no_entry es lfn at = by (nat_lt (position_or_len (is_of lfn) es) (length es)) refl at
  where
    by : (b : Bool) → nat_lt (position_or_len (is_of lfn) es) (length es) ≡ b → cond b (Some (position_or_len (is_of lfn) es)) None ≡ None → find (is_of lfn) es ≡ None
    by true h is = absurd cc
    by false h is = find_at (is_of lfn) es ∙ slice_get_past es (position_or_len (is_of lfn) es) (grind arith)
