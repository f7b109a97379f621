-- An escaped key reads back as the key.
use Rattle.std.proofs.Common.{◌≡◌, ℕ, ◌+◌, ◌%◌, ◌/◌, ◌≤◌, Bool, true, false, cond, ◌&&◌, List, [], ◌∷◌, ◌++◌, ◌==◌, refl, sym, ap, ◌∙◌, arith, encode_utf8_all}
use Rattle.std.specs.Prelude.{nat_lt, if◌then◌else◌}
use Rattle.std.specs.List.{flat_map}
use Rattle.std.specs.Char.{encode_utf8}
use Rattle.std.specs.Str.{IsUtf8, chars}
use Rattle.std.proofs.lemmas.Bool.{eqb-true, ne_eqb}
use Rattle.std.proofs.lemmas.Str.{encodes-chars}
use Rattle.serde_json.specs.Find.{unescape}
use Rattle.peg_json.specs.Path.{escaped, escaped_char}

-- a byte that is no tilde stands for itself
plain : (x : ℕ) (rest : List ℕ) → (x == 126) ≡ false → unescape (x ∷ rest) ≡ x ∷ unescape rest
unfolding unescape
plain x [] e = refl
plain x (y ∷ rest) e = ap (λ (b : Bool). if b && y == 49 then 47 ∷ unescape rest else (if b && y == 48 then 126 ∷ unescape rest else x ∷ unescape (y ∷ rest))) e

abbrev Stands : List ℕ → List ℕ → Type 0
Stands front rest = unescape (front ++ rest) ≡ front ++ unescape rest

high : (x : ℕ) → 128 ≤ x → (x == 126) ≡ false
high x h = ne_eqb x 126 (λ e. omega (arith, e, h))

more : (x : ℕ) (front rest : List ℕ) → 128 ≤ x → Stands front rest → Stands (x ∷ front) rest
more x front rest h stands = plain x (front ++ rest) (high x h) ∙ ap (λ (l : List ℕ). x ∷ l) stands

one_of : (a b d : Bool) (w x y z rest : List ℕ) → Stands w rest → Stands x rest → Stands y rest → Stands z rest → Stands (cond a w (cond b x (cond d y z))) rest
one_of true b d w x y z rest f g h k = f
one_of false true d w x y z rest f g h k = g
one_of false false true w x y z rest f g h k = h
one_of false false false w x y z rest f g h k = k

last : (c : ℕ) (rest : List ℕ) → Stands ((128 + c % 64) ∷ []) rest
last c rest = more (128 + c % 64) [] rest (omega arith) refl

last_two : (c : ℕ) (rest : List ℕ) → Stands ((128 + (c / 64) % 64) ∷ (128 + c % 64) ∷ []) rest
last_two c rest = more (128 + (c / 64) % 64) ((128 + c % 64) ∷ []) rest (omega arith) (last c rest)

last_three : (c : ℕ) (rest : List ℕ) → Stands ((128 + (c / 4096) % 64) ∷ (128 + (c / 64) % 64) ∷ (128 + c % 64) ∷ []) rest
last_three c rest = more (128 + (c / 4096) % 64) ((128 + (c / 64) % 64) ∷ (128 + c % 64) ∷ []) rest (omega arith) (last_two c rest)

-- a character that is no tilde stands for itself
char_plain : (c : ℕ) (rest : List ℕ) → (c == 126) ≡ false → Stands (encode_utf8 c) rest
unfolding encode_utf8
char_plain c rest e =
    one_of (nat_lt c 128) (nat_lt c 2048) (nat_lt c 65536) (c ∷ [])
    ((192 + c / 64) ∷ (128 + c % 64) ∷ [])
    ((224 + c / 4096) ∷ (128 + (c / 64) % 64) ∷ (128 + c % 64) ∷ [])
    ((240 + c / 262144) ∷ (128 + (c / 4096) % 64) ∷ (128 + (c / 64) % 64) ∷ (128 + c % 64) ∷ [])
    rest
    (plain c rest e)
    (more (192 + c / 64) ((128 + c % 64) ∷ []) rest (omega arith) (last c rest))
    (more (224 + c / 4096) ((128 + (c / 64) % 64) ∷ (128 + c % 64) ∷ []) rest (omega arith) (last_two c rest))
    (more (240 + c / 262144) ((128 + (c / 4096) % 64) ∷ (128 + (c / 64) % 64) ∷ (128 + c % 64) ∷ []) rest (omega arith) (last_three c rest))

tilde : (rest : List ℕ) → unescape (126 ∷ 48 ∷ rest) ≡ encode_utf8 126 ++ unescape rest
unfolding unescape encode_utf8
tilde rest = refl

slash : (rest : List ℕ) → unescape (126 ∷ 49 ∷ rest) ≡ encode_utf8 47 ++ unescape rest
unfolding unescape encode_utf8
slash rest = refl

by_slash : (c : ℕ) (rest : List ℕ) (b : Bool) → (c == 47) ≡ b → (c == 126) ≡ false → unescape ((if b then 126 ∷ 49 ∷ [] else encode_utf8 c) ++ rest) ≡ encode_utf8 c ++ unescape rest
by_slash c rest true e not_tilde = slash rest ∙ ap (λ (n : ℕ). encode_utf8 n ++ unescape rest) (sym (eqb-true c 47 e))
by_slash c rest false e not_tilde = char_plain c rest not_tilde

by_tilde : (c : ℕ) (rest : List ℕ) (b : Bool) → (c == 126) ≡ b → unescape ((if b then 126 ∷ 48 ∷ [] else (if c == 47 then 126 ∷ 49 ∷ [] else encode_utf8 c)) ++ rest) ≡ encode_utf8 c ++ unescape rest
by_tilde c rest true e = tilde rest ∙ ap (λ (n : ℕ). encode_utf8 n ++ unescape rest) (sym (eqb-true c 126 e))
by_tilde c rest false e = by_slash c rest (c == 47) refl e

chars_back : (cs : List ℕ) → unescape (flat_map escaped_char cs) ≡ encode_utf8_all cs
unfolding unescape
chars_back [] = refl
chars_back (c ∷ cs) = by_tilde c (flat_map escaped_char cs) (c == 126) refl ∙ ap (λ (l : List ℕ). encode_utf8 c ++ l) (chars_back cs)

pub key_back : (key : List ℕ) → IsUtf8 key → unescape (escaped key) ≡ key
unfolding escaped
key_back key utf8 = chars_back (chars key) ∙ encodes-chars key utf8
