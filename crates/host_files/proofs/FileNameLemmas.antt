-- Names as parts of a path.
use Rattle.std.proofs.Common.{◌≡◌, ◌≢◌, ℕ, Bool, true, false, List, [], ◌∷◌, ◌++◌, ◌==◌, length, refl, sym, ap, ◌∙◌, append_assoc, encode_utf8, encode_utf8_all}
use Rattle.std.specs.Prelude.{if◌then◌else◌, codes}
use Rattle.std.specs.Str.{IsUtf8, chars}
use Rattle.std.proofs.lemmas.Bool.{eqb-true}
use Rattle.std.proofs.lemmas.List.{append-nil, nil_from_length}
use Rattle.std.proofs.lemmas.Str.{chars_from_encodes}
use Rattle.host_files.specs.FileName.{escaped, escaped_text}

one_more : (xs : List ℕ) (c : ℕ) (rest : List ℕ) → encode_utf8_all (xs ++ c ∷ []) ++ rest ≡ encode_utf8_all xs ++ (encode_utf8 c ++ rest)
one_more [] c rest = ap (λ (l : List ℕ). l ++ rest) (append-nil (encode_utf8 c))
one_more (x ∷ xs) c rest = append_assoc (encode_utf8 x) (encode_utf8_all (xs ++ c ∷ [])) rest ∙ ap (λ (l : List ℕ). encode_utf8 x ++ l) (one_more xs c rest) ∙ sym (append_assoc (encode_utf8 x) (encode_utf8_all xs) (encode_utf8 c ++ rest))

-- the characters that are passed, and the bytes that are left
pub char_more : (xs : List ℕ) (c : ℕ) (before rest text : List ℕ) → before ≡ encode_utf8 c ++ rest → encode_utf8_all xs ++ before ≡ text → encode_utf8_all (xs ++ c ∷ []) ++ rest ≡ text
char_more xs c before rest text cut so_far = one_more xs c rest ∙ sym (ap (λ (l : List ℕ). encode_utf8_all xs ++ l) cut) ∙ so_far

pub chars_done : (xs rest text : List ℕ) → IsUtf8 text → length rest ≡ 0 → encode_utf8_all xs ++ rest ≡ text → xs ≡ chars text
chars_done xs rest text utf8 none so_far = chars_from_encodes xs text utf8 (sym (append-nil (encode_utf8_all xs)) ∙ sym (ap (λ (l : List ℕ). encode_utf8_all xs ++ l) (nil_from_length rest none)) ∙ so_far)

-- a name that no dot begins
by_dot : (b : ℕ) (bs : List ℕ) (is_dot : Bool) → (b == 46) ≡ is_dot → ((rest : List ℕ) → b ∷ bs ≢ 46 ∷ rest) → escaped_text (b ∷ bs) ≡ (if is_dot then codes "%2E" ++ escaped_text bs else escaped_text (b ∷ bs))
by_dot b bs true e no_dot = absurd (no_dot bs (ap (λ (x : ℕ). x ∷ bs) (eqb-true b 46 e)))
by_dot b bs false e no_dot = refl

nothing : escaped_text [] ≡ []
unfolding escaped_text chars
nothing = refl

pub without_dot : (name : List ℕ) → ((rest : List ℕ) → name ≢ 46 ∷ rest) → escaped_text name ≡ escaped name
without_dot [] no_dot = nothing
without_dot (b ∷ bs) no_dot = by_dot b bs (b == 46) refl no_dot
