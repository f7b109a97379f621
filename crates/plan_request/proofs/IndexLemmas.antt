-- Values by name, and how more of them are added.
use Rattle.std.proofs.Common.{◌≡◌, ℕ, Bool, true, false, cond, List, [], ◌∷◌, ◌++◌, refl, sym, ap, ◌∙◌, is_some}
use Rattle.std.specs.Prelude.{Option, Some, None}
use Rattle.std.specs.Cmp.Lexicographic.{bytes_decides}
use Rattle.std.specs.Map.{lookup}
use Rattle.std.specs.Option.{option_or}
use Rattle.std.specs.Str.{bytes_eq}
use Rattle.indexmap.specs.IndexMap.{insert_entry}
use Rattle.plan_request.specs.code.Index.{with_entry, with_entries}

new_last : {V : Type 0} (es : List (List ℕ × V)) (name : List ℕ) (v : V) → is_some (lookup (bytes_eq name) es) ≡ false → insert_entry bytes_eq es name v ≡ es ++ (name, v) ∷ []
new_last [] name v new = refl
new_last {V} (e ∷ es) name v new = by (bytes_eq name e.0) new (λ h. new_last es name v h)
  where
    by : (b : Bool) → is_some (cond b (Some e.1) (lookup (bytes_eq name) es)) ≡ false → (is_some (lookup (bytes_eq name) es) ≡ false → insert_entry bytes_eq es name v ≡ es ++ (name, v) ∷ []) → cond b ((e.0, v) ∷ es) (e ∷ insert_entry bytes_eq es name v) ≡ e ∷ es ++ (name, v) ∷ []
    by true h rest = absurd cc
    by false h rest = ap (λ (ds : List (List ℕ × V)). e ∷ ds) (rest h)

pub inserted : {V : Type 0} (old es all : List (List ℕ × V)) (key name : List ℕ) (v : V) → old ≡ es → key ≡ name → is_some (lookup (bytes_eq name) es) ≡ false → all ≡ insert_entry bytes_eq es key v → all ≡ with_entry old name v
inserted {V} old es all key name v seen copied new is =
    is
    ∙ ap (λ (k : List ℕ). insert_entry bytes_eq es k v) copied
    ∙ new_last es name v new
    ∙ sym (ap (λ (b : Bool). cond b es (es ++ (name, v) ∷ [])) new)
    ∙ sym (ap (λ (ds : List (List ℕ × V)). with_entry ds name v) seen)

-- ---- what is found

or_none : {V : Type 0} (o : Option V) → option_or o None ≡ o
or_none None = refl
or_none (Some v) = refl

found_joined : {V : Type 0} (test : List ℕ → Bool) (es : List (List ℕ × V)) (key : List ℕ) (v : V) (rest : Option V) → option_or (lookup test (es ++ (key, v) ∷ [])) rest ≡ option_or (lookup test es) (cond (test key) (Some v) rest)
found_joined {V} test [] key v rest = by (test key)
  where
    by : (b : Bool) → option_or (cond b (Some v) None) rest ≡ cond b (Some v) rest
    by true = refl
    by false = refl
found_joined {V} test (e ∷ es) key v rest = by (test e.0) (found_joined test es key v rest)
  where
    by : (b : Bool) → option_or (lookup test (es ++ (key, v) ∷ [])) rest ≡ option_or (lookup test es) (cond (test key) (Some v) rest) → option_or (cond b (Some e.1) (lookup test (es ++ (key, v) ∷ []))) rest ≡ option_or (cond b (Some e.1) (lookup test es)) (cond (test key) (Some v) rest)
    by true h = refl
    by false h = h

-- a name that has a value keeps it
kept : {V : Type 0} (es : List (List ℕ × V)) (key name : List ℕ) (v : V) (rest : Option V) → is_some (lookup (bytes_eq key) es) ≡ true → option_or (lookup (bytes_eq name) es) rest ≡ option_or (lookup (bytes_eq name) es) (cond (bytes_eq name key) (Some v) rest)
kept {V} es key name v rest known = by (bytes_eq name key) refl
  where
    some : (o : Option V) → is_some o ≡ true → option_or o rest ≡ option_or o (Some v)
    some None h = absurd cc
    some (Some x) h = refl

    by : (b : Bool) → bytes_eq name key ≡ b → option_or (lookup (bytes_eq name) es) rest ≡ option_or (lookup (bytes_eq name) es) (cond b (Some v) rest)
    by true e = some (lookup (bytes_eq name) es) (ap (λ (n : List ℕ). is_some (lookup (bytes_eq n) es)) ((bytes_decides name key).0 e) ∙ known)
    by false e = refl

one_found : {V : Type 0} (es : List (List ℕ × V)) (key name : List ℕ) (v : V) (rest : Option V) → option_or (lookup (bytes_eq name) (with_entry es key v)) rest ≡ option_or (lookup (bytes_eq name) es) (cond (bytes_eq name key) (Some v) rest)
one_found {V} es key name v rest = by (is_some (lookup (bytes_eq key) es)) refl
  where
    by : (b : Bool) → is_some (lookup (bytes_eq key) es) ≡ b → option_or (lookup (bytes_eq name) (cond b es (es ++ (key, v) ∷ []))) rest ≡ option_or (lookup (bytes_eq name) es) (cond (bytes_eq name key) (Some v) rest)
    by true e = kept es key name v rest e
    by false e = found_joined (bytes_eq name) es key v rest

found : {V : Type 0} (so_far es : List (List ℕ × V)) (name : List ℕ) → lookup (bytes_eq name) (with_entries so_far es) ≡ option_or (lookup (bytes_eq name) so_far) (lookup (bytes_eq name) es)
found so_far [] name = sym (or_none (lookup (bytes_eq name) so_far))
found so_far (e ∷ es) name = found (with_entry so_far e.0 e.1) es name ∙ one_found so_far e.0 name e.1 (lookup (bytes_eq name) es)

-- what is found among entries that were added one after the other is found among them in a list
pub all_found : {V : Type 0} (es : List (List ℕ × V)) (name : List ℕ) → lookup (bytes_eq name) (with_entries [] es) ≡ lookup (bytes_eq name) es
all_found es name = found [] es name
