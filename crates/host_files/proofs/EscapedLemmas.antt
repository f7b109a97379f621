-- An escaped name tells its name, and has no slash.
use Rattle.std.proofs.Common.{◌≡◌, ℕ, ◌+◌, ◌%◌, ◌/◌, ◌≤◌, Bool, true, false, cond, List, [], ◌∷◌, ◌++◌, ◌==◌, refl, sym, ap, subst, ◌∙◌, arith, encode_utf8_all}
use Rattle.std.specs.Prelude.{nat_lt, if◌then◌else◌, codes}
use Rattle.std.specs.List.{flat_map}
use Rattle.std.specs.Char.{encode_utf8}
use Rattle.std.specs.Str.{IsUtf8, chars}
use Rattle.std.proofs.lemmas.Bool.{eqb-true, ne_eqb}
use Rattle.std.proofs.lemmas.Str.{IsUtf8-encode, chars-append, chars_from_encodes, encodes-chars}
use Rattle.host_files.specs.FileName.{HasNoSlash, escaped, escaped_char, escaped_text}

-- ---- no slash

both : (xs ys : List ℕ) → HasNoSlash xs → HasNoSlash ys → HasNoSlash (xs ++ ys)
both [] ys f g = g
both (x ∷ xs) ys f g = (f.0, both xs ys f.1 g)

one_without : (a b d : Bool) (w x y z : List ℕ) → HasNoSlash w → HasNoSlash x → HasNoSlash y → HasNoSlash z → HasNoSlash (cond a w (cond b x (cond d y z)))
one_without true b d w x y z f g h k = f
one_without false true d w x y z f g h k = g
one_without false false true w x y z f g h k = h
one_without false false false w x y z f g h k = k

char_without : (c : ℕ) → (c ≡ 47 → ⊥) → HasNoSlash (encode_utf8 c)
unfolding encode_utf8
char_without c other =
    one_without (nat_lt c 128) (nat_lt c 2048) (nat_lt c 65536) (c ∷ [])
    ((192 + c / 64) ∷ (128 + c % 64) ∷ [])
    ((224 + c / 4096) ∷ (128 + (c / 64) % 64) ∷ (128 + c % 64) ∷ [])
    ((240 + c / 262144) ∷ (128 + (c / 4096) % 64) ∷ (128 + (c / 64) % 64) ∷ (128 + c % 64) ∷ [])
    (other, tt)
    (λ e. omega (arith, e), (λ e. omega (arith, e), tt))
    (λ e. omega (arith, e), (λ e. omega (arith, e), (λ e. omega (arith, e), tt)))
    (λ e. omega (arith, e), (λ e. omega (arith, e), (λ e. omega (arith, e), (λ e. omega (arith, e), tt))))

differs : (c : ℕ) → (c == 47) ≡ false → c ≡ 47 → ⊥
differs c e is = absurd (let f : (47 == 47) ≡ false = sym (ap (λ (n : ℕ). n == 47) is) ∙ e in cc)

percent_without : (n : ℕ) → (n ≡ 47 → ⊥) → HasNoSlash (37 ∷ 50 ∷ n ∷ [])
percent_without n other = (λ e. omega (arith, e), (λ e. omega (arith, e), (other, tt)))

escaped_without : (c : ℕ) → HasNoSlash (escaped_char c)
escaped_without c = by (c == 37) (c == 47) refl
  where
    by : (a b : Bool) → (c == 47) ≡ b → HasNoSlash (if a then codes "%25" else (if b then codes "%2F" else encode_utf8 c))
    by true b e = percent_without 53 (λ e. omega (arith, e))
    by false true e = percent_without 70 (λ e. omega (arith, e))
    by false false e = char_without c (differs c e)

all_without : (cs : List ℕ) → HasNoSlash (flat_map escaped_char cs)
all_without [] = tt
all_without (c ∷ cs) = both (escaped_char c) (flat_map escaped_char cs) (escaped_without c) (all_without cs)

text_without : (text : List ℕ) → HasNoSlash (escaped_text text)
unfolding escaped_text
text_without text = all_without (chars text)

pub no_slash : (name : List ℕ) → HasNoSlash (escaped name)
no_slash [] = tt
no_slash (b ∷ bs) = by (b == 46)
  where
    by : (t : Bool) → HasNoSlash (if t then codes "%2E" ++ escaped_text bs else escaped_text (b ∷ bs))
    by true = both (codes "%2E") (escaped_text bs) (percent_without 69 (λ e. omega (arith, e))) (text_without bs)
    by false = text_without (b ∷ bs)

-- ---- read back

-- the byte that the last digit of an escape tells
abbrev told : ℕ → ℕ
told n = if n == 53 then 37 else (if n == 70 then 47 else 46)

abbrev unescaped : List ℕ → List ℕ
unescaped [] = []
unescaped (a ∷ []) = a ∷ []
unescaped (a ∷ b ∷ []) = a ∷ b ∷ []
unescaped (a ∷ b ∷ c ∷ rest) = if a == 37 then told c ∷ unescaped rest else a ∷ unescaped (b ∷ c ∷ rest)

plain : (x : ℕ) (rest : List ℕ) → (x == 37) ≡ false → unescaped (x ∷ rest) ≡ x ∷ unescaped rest
plain x [] e = refl
plain x (y ∷ []) e = refl
plain x (y ∷ z ∷ rest) e = ap (λ (b : Bool). if b then told z ∷ unescaped rest else x ∷ unescaped (y ∷ z ∷ rest)) e

abbrev Stands : List ℕ → List ℕ → Type 0
Stands front rest = unescaped (front ++ rest) ≡ front ++ unescaped rest

high : (x : ℕ) → 128 ≤ x → (x == 37) ≡ false
high x h = ne_eqb x 37 (λ e. omega (arith, e, h))

more : (x : ℕ) (front rest : List ℕ) → 128 ≤ x → Stands front rest → Stands (x ∷ front) rest
more x front rest h stands = plain x (front ++ rest) (high x h) ∙ ap (λ (l : List ℕ). x ∷ l) stands

one_of : (a b d : Bool) (w x y z rest : List ℕ) → Stands w rest → Stands x rest → Stands y rest → Stands z rest → Stands (cond a w (cond b x (cond d y z))) rest
one_of true b d w x y z rest f g h k = f
one_of false true d w x y z rest f g h k = g
one_of false false true w x y z rest f g h k = h
one_of false false false w x y z rest f g h k = k

last : (c : ℕ) (rest : List ℕ) → Stands ((128 + c % 64) ∷ []) rest
last c rest = more (128 + c % 64) [] rest (omega arith) refl

last_two : (c : ℕ) (rest : List ℕ) → Stands ((128 + (c / 64) % 64) ∷ (128 + c % 64) ∷ []) rest
last_two c rest = more (128 + (c / 64) % 64) ((128 + c % 64) ∷ []) rest (omega arith) (last c rest)

last_three : (c : ℕ) (rest : List ℕ) → Stands ((128 + (c / 4096) % 64) ∷ (128 + (c / 64) % 64) ∷ (128 + c % 64) ∷ []) rest
last_three c rest = more (128 + (c / 4096) % 64) ((128 + (c / 64) % 64) ∷ (128 + c % 64) ∷ []) rest (omega arith) (last_two c rest)

-- a character that is no percent sign stands for itself
char_plain : (c : ℕ) (rest : List ℕ) → (c == 37) ≡ false → Stands (encode_utf8 c) rest
unfolding encode_utf8
char_plain c rest e =
    one_of (nat_lt c 128) (nat_lt c 2048) (nat_lt c 65536) (c ∷ [])
    ((192 + c / 64) ∷ (128 + c % 64) ∷ [])
    ((224 + c / 4096) ∷ (128 + (c / 64) % 64) ∷ (128 + c % 64) ∷ [])
    ((240 + c / 262144) ∷ (128 + (c / 4096) % 64) ∷ (128 + (c / 64) % 64) ∷ (128 + c % 64) ∷ [])
    rest
    (plain c rest e)
    (more (192 + c / 64) ((128 + c % 64) ∷ []) rest (omega arith) (last c rest))
    (more (224 + c / 4096) ((128 + (c / 64) % 64) ∷ (128 + c % 64) ∷ []) rest (omega arith) (last_two c rest))
    (more (240 + c / 262144) ((128 + (c / 4096) % 64) ∷ (128 + (c / 64) % 64) ∷ (128 + c % 64) ∷ []) rest (omega arith) (last_three c rest))

percent : (rest : List ℕ) → unescaped (codes "%25" ++ rest) ≡ encode_utf8 37 ++ unescaped rest
unfolding encode_utf8
percent rest = refl

slash : (rest : List ℕ) → unescaped (codes "%2F" ++ rest) ≡ encode_utf8 47 ++ unescaped rest
unfolding encode_utf8
slash rest = refl

by_slash : (c : ℕ) (rest : List ℕ) (b : Bool) → (c == 47) ≡ b → (c == 37) ≡ false → unescaped ((if b then codes "%2F" else encode_utf8 c) ++ rest) ≡ encode_utf8 c ++ unescaped rest
by_slash c rest true e not_percent = slash rest ∙ ap (λ (n : ℕ). encode_utf8 n ++ unescaped rest) (sym (eqb-true c 47 e))
by_slash c rest false e not_percent = char_plain c rest not_percent

by_percent : (c : ℕ) (rest : List ℕ) (b : Bool) → (c == 37) ≡ b → unescaped ((if b then codes "%25" else (if c == 47 then codes "%2F" else encode_utf8 c)) ++ rest) ≡ encode_utf8 c ++ unescaped rest
by_percent c rest true e = percent rest ∙ ap (λ (n : ℕ). encode_utf8 n ++ unescaped rest) (sym (eqb-true c 37 e))
by_percent c rest false e = by_slash c rest (c == 47) refl e

chars_back : (cs : List ℕ) → unescaped (flat_map escaped_char cs) ≡ encode_utf8_all cs
chars_back [] = refl
chars_back (c ∷ cs) = by_percent c (flat_map escaped_char cs) (c == 37) refl ∙ ap (λ (l : List ℕ). encode_utf8 c ++ l) (chars_back cs)

text_back : (text : List ℕ) → unescaped (escaped_text text) ≡ encode_utf8_all (chars text)
unfolding escaped_text
text_back text = chars_back (chars text)

is_dot : IsUtf8 (46 ∷ [])
unfolding encode_utf8
is_dot = IsUtf8-encode 46 refl

dot : 46 ∷ [] ≡ chars (46 ∷ [])
unfolding encode_utf8
dot = chars_from_encodes (46 ∷ []) (46 ∷ []) is_dot refl

-- what follows a dot
after_dot : (bs : List ℕ) → IsUtf8 (46 ∷ bs) → 46 ∷ encode_utf8_all (chars bs) ≡ 46 ∷ bs
unfolding encode_utf8
after_dot bs utf8 =
    ap encode_utf8_all (ap (λ (l : List ℕ). l ++ chars bs) dot ∙ sym (chars-append (46 ∷ []) bs is_dot)) ∙ encodes-chars (46 ∷ bs) utf8

pub name_back : (name : List ℕ) → IsUtf8 name → unescaped (escaped name) ≡ name
name_back [] utf8 = refl
name_back (b ∷ bs) utf8 = by (b == 46) refl
  where
    by : (t : Bool) → (b == 46) ≡ t → unescaped (if t then codes "%2E" ++ escaped_text bs else escaped_text (b ∷ bs)) ≡ b ∷ bs
    by true e =
        ap (λ (l : List ℕ). 46 ∷ l) (text_back bs)
        ∙ after_dot bs (subst (λ (n : ℕ). IsUtf8 (n ∷ bs)) (eqb-true b 46 e) utf8)
        ∙ ap (λ (n : ℕ). n ∷ bs) (sym (eqb-true b 46 e))
    by false e = text_back (b ∷ bs) ∙ encodes-chars (b ∷ bs) utf8

-- ---- what follows

pub escaped_apart : (x y : List ℕ) → IsUtf8 x → IsUtf8 y → escaped x ≡ escaped y → x ≡ y
escaped_apart x y p q e = sym (name_back x p) ∙ ap unescaped e ∙ name_back y q

abbrev first : List ℕ → ℕ
first [] = 0
first (x ∷ xs) = x

pub no_dot : (name rest : List ℕ) → IsUtf8 name → escaped name ≡ 46 ∷ rest → ⊥
no_dot name rest utf8 e =
    let begins : name ≡ 46 ∷ unescaped rest = sym (name_back name utf8) ∙ ap unescaped e ∙ plain 46 rest refl in
    let same : 46 ≡ 37 = ap first (sym e ∙ ap escaped begins) in
    omega (arith, same)
