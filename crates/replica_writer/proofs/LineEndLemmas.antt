-- A line feed behind a JSON text of strings, keys and brackets changes nothing of what is read.
use Rattle.std.proofs.Common.{◌≡◌, ℕ, ◌&&◌, Bool, true, false, cond, List, [], ◌∷◌, ◌++◌, refl, sym, ap, ◌∙◌, append_assoc}
use Rattle.std.specs.Prelude.{option_and_then}
use Rattle.std.specs.List.{list_all}
use Rattle.std.proofs.lemmas.Bool.{and_parts}
use Rattle.json.specs.Token.{Token, begin_object, end_object, begin_array, end_array, key, string, number, boolean, null, bad}
use Rattle.json.specs.Lex.{Lexeme, between, colon, comma, fresh, in_string, lex, punctuate, string_token, token, tokens}
use Rattle.json.specs.Print.{begins, ends, escape, print_from, quoted, token_text}
use Rattle.json.specs.Json as json
use Rattle.json.specs.Tree as tree
use Rattle.json.proofs.Printed.Strings.{content-escape, lex-escape}
use Rattle.serde_json.specs.Data.{Data}
use Rattle.serde_json.specs.Read.{max_depth, of_json, read}
use Rattle.serde_json.specs.Written.{compact_text, outline}
use Rattle.serde_json.proofs.Texts.{print-outline}

abbrev pub is_plain : Token → Bool
is_plain (number s) = false
is_plain (boolean b) = false
is_plain null = false
is_plain bad = false
is_plain _ = true

abbrev pub are_plain : List Token → Bool
are_plain ts = list_all is_plain ts

lex_quoted : (s r : List ℕ) → lex between (quoted s ++ r) ≡ token (string s) ∷ lex between r
unfolding lex
lex_quoted s r =
    ap (λ (l : List ℕ). lex between (34 ∷ l)) (append_assoc (escape s) (34 ∷ []) r)
    ∙ ap (λ o. token (string_token o) ∷ lex in_string (escape s ++ 34 ∷ r)) (content-escape s r)
    ∙ ap (λ (l : List Lexeme). token (string s) ∷ l) (lex-escape s r)

lex_key : (s r : List ℕ) → lex between ((quoted s ++ 58 ∷ []) ++ r) ≡ token (string s) ∷ colon ∷ lex between r
unfolding lex
lex_key s r = ap (lex between) (append_assoc (quoted s) (58 ∷ []) r) ∙ lex_quoted s (58 ∷ r)

-- the same token before two texts that are read alike
lex_along : (t : Token) (r s : List ℕ) → is_plain t ≡ true → lex between r ≡ lex between s → lex between (token_text t ++ r) ≡ lex between (token_text t ++ s)
unfolding lex
lex_along begin_object r s plain same = ap (λ (l : List Lexeme). token begin_object ∷ l) same
lex_along end_object r s plain same = ap (λ (l : List Lexeme). token end_object ∷ l) same
lex_along begin_array r s plain same = ap (λ (l : List Lexeme). token begin_array ∷ l) same
lex_along end_array r s plain same = ap (λ (l : List Lexeme). token end_array ∷ l) same
lex_along (key x) r s plain same = lex_key x r ∙ ap (λ (l : List Lexeme). token (string x) ∷ colon ∷ l) same ∙ sym (lex_key x s)
lex_along (string x) r s plain same = lex_quoted x r ∙ ap (λ (l : List Lexeme). token (string x) ∷ l) same ∙ sym (lex_quoted x s)
lex_along (number x) r s plain same = absurd cc
lex_along (boolean b) r s plain same = absurd cc
lex_along null r s plain same = absurd cc
lex_along bad r s plain same = absurd cc

after_comma_if : (b : Bool) (r s : List ℕ) → lex between r ≡ lex between s → lex between (cond b (44 ∷ []) [] ++ r) ≡ lex between (cond b (44 ∷ []) [] ++ s)
unfolding lex
after_comma_if true r s same = ap (λ (l : List Lexeme). comma ∷ l) same
after_comma_if false r s same = same

line_end : (c : Bool) (ts : List Token) → are_plain ts ≡ true → lex between (print_from c ts ++ 10 ∷ []) ≡ lex between (print_from c ts)
unfolding lex print_from
line_end c [] plain = refl
line_end c (t ∷ ts) plain =
    let both = and_parts (is_plain t) (are_plain ts) plain in
    ap (lex between) (append_assoc (cond (c && begins t) (44 ∷ []) []) (token_text t ++ print_from (ends t) ts) (10 ∷ []) ∙ ap (λ (l : List ℕ). cond (c && begins t) (44 ∷ []) [] ++ l) (append_assoc (token_text t) (print_from (ends t) ts) (10 ∷ [])))
    ∙ after_comma_if (c && begins t) (token_text t ++ (print_from (ends t) ts ++ 10 ∷ [])) (token_text t ++ print_from (ends t) ts)
    (lex_along t (print_from (ends t) ts ++ 10 ∷ []) (print_from (ends t) ts) both.0 (line_end (ends t) ts both.1))

-- a value's text with a line feed reads as its text
pub read_line : (d : Data) → are_plain (tree.json_tokens (outline d)) ≡ true → read (compact_text d ++ 10 ∷ []) ≡ read (compact_text d)
read_line d plain =
    ap (λ (ts : List Token). option_and_then of_json (option_and_then (λ p. json.if_last p.0 p.1) (json.value max_depth ts)))
    (ap (λ (l : List ℕ). tokens (l ++ 10 ∷ [])) (sym (print-outline d)) ∙ ap (punctuate fresh) (line_end false (tree.json_tokens (outline d)) plain) ∙ ap tokens (print-outline d))
