-- The lines of a text, and the words of an entry's line.
use Rattle.std.proofs.Common.{◌≡◌, ℕ, suc, ◌≤◌, ◌==◌, ◌++◌, ◌&&◌, Bool, true, false, ltb, List, [], ◌∷◌, length, map, if◌then◌else◌, nat_eq, refl, ap, ◌∙◌, arith}
use Rattle.std.specs.List.{All, list_all, onto_first, slice_index_or}
use Rattle.std.specs.Str.{IsUtf8}
use Rattle.std.proofs.lemmas.Bool.{and_parts, and_from, ltb-true, lt-ltb, ne_eqb}
use Rattle.std.proofs.lemmas.List.{append-nil}
use Rattle.std.proofs.lemmas.List.Sums.{AllPass-from_list_all}
use Rattle.std.proofs.lemmas.List.Folds.{list_all-append}
use Rattle.std.proofs.lemmas.List.Splits.{slice_split_at, slice_split_none}
use Rattle.std.proofs.lemmas.Str.{IsUtf8-from_ascii}
use Rattle.std.proofs.lemmas.Str.Ascii.{IsAscii-from_all}
use Rattle.run_record.specs.RecordText.{Word, word_text, spaced, joined_words}
use Rattle.run_record.specs.code.Words.{words_of}
use Rattle.run_record.specs.code.Lines.{lines, line_length}
use Rattle.run_record.proofs.WordTextLemmas.{visible, AllVisible}

pub line_within : (text : List ℕ) → line_length text ≤ length text
line_within [] = omega arith
line_within (b ∷ bs) = by (nat_eq b 10) (line_within bs)
  where
    by : (t : Bool) → line_length bs ≤ length bs → (if t then 1 else suc (line_length bs)) ≤ length (b ∷ bs)
    by true h = omega arith
    by false h = omega (arith, h)

not_space : (b : ℕ) → visible b ≡ true → (b == 32) ≡ false
not_space b h = let l = ltb-true 32 b (and_parts (ltb 32 b) (ltb b 128) h).0 in ne_eqb b 32 (λ s. omega (arith, l, s))

no_space : (xs : List ℕ) → list_all visible xs ≡ true → All (λ (x : ℕ). (x == 32) ≡ false) xs
no_space xs h = λ k d l. not_space (slice_index_or xs k d) (AllPass-from_list_all visible xs h k d l)

pub words_are : (w : Word) (ws : List Word) → AllVisible (w ∷ ws) → words_of (joined_words (w ∷ ws)) ≡ map word_text (w ∷ ws)
words_are w [] h = ap words_of (append-nil (word_text w)) ∙ slice_split_none (λ (b : ℕ). b == 32) (word_text w) (no_space (word_text w) h.0)
words_are w (v ∷ ws) h =
    slice_split_at (λ (b : ℕ). b == 32) (word_text w) 32 (joined_words (v ∷ ws)) (no_space (word_text w) h.0) refl
    ∙ ap (λ (l : List (List ℕ)). word_text w ∷ l) (words_are v ws h.1)

-- a visible byte or a space
abbrev pub plain : ℕ → Bool
plain b = ltb 31 b && ltb b 128

visible_plain : (xs : List ℕ) → list_all visible xs ≡ true → list_all plain xs ≡ true
visible_plain [] h = refl
visible_plain (x ∷ xs) h =
    let parts = and_parts (visible x) (list_all visible xs) h in
    let bounds = and_parts (ltb 32 x) (ltb x 128) parts.0 in
    let l = ltb-true 32 x bounds.0 in
    and_from (plain x) (list_all plain xs) (and_from (ltb 31 x) (ltb x 128) (lt-ltb 31 x (omega (arith, l))) bounds.1) (visible_plain xs parts.1)

spaced_plain : (ws : List Word) → AllVisible ws → list_all plain (spaced ws) ≡ true
spaced_plain [] h = refl
spaced_plain (w ∷ ws) h = list_all-append plain (word_text w) (spaced ws) ∙ and_from (list_all plain (word_text w)) (list_all plain (spaced ws)) (visible_plain (word_text w) h.0) (spaced_plain ws h.1)

pub joined_plain : (ws : List Word) → AllVisible ws → list_all plain (joined_words ws) ≡ true
joined_plain [] h = refl
joined_plain (w ∷ ws) h = list_all-append plain (word_text w) (spaced ws) ∙ and_from (list_all plain (word_text w)) (list_all plain (spaced ws)) (visible_plain (word_text w) h.0) (spaced_plain ws h.1)

pub plain_utf8 : (xs : List ℕ) → list_all plain xs ≡ true → IsUtf8 xs
plain_utf8 xs h = IsUtf8-from_ascii xs (IsAscii-from_all xs (λ k d l.
    let x = slice_index_or xs k d in
    ltb-true x 128 (and_parts (ltb 31 x) (ltb x 128) (AllPass-from_list_all plain xs h k d l)).1))

pub lines_from_first : (xs rest : List ℕ) → list_all plain xs ≡ true → lines (xs ++ 10 ∷ rest) ≡ (xs ++ 10 ∷ []) ∷ lines rest
lines_from_first [] rest h = refl
lines_from_first (x ∷ xs) rest h =
    let parts = and_parts (plain x) (list_all plain xs) h in
    let l = ltb-true 31 x (and_parts (ltb 31 x) (ltb x 128) parts.0).0 in
    ap (λ (t : Bool). if t then (x ∷ []) ∷ lines (xs ++ 10 ∷ rest) else onto_first x (lines (xs ++ 10 ∷ rest))) (ne_eqb x 10 (λ s. omega (arith, l, s)))
    ∙ ap (onto_first x) (lines_from_first xs rest parts.1)

pub first_length : (xs rest : List ℕ) → list_all plain xs ≡ true → line_length (xs ++ 10 ∷ rest) ≡ suc (length xs)
first_length [] rest h = refl
first_length (x ∷ xs) rest h =
    let parts = and_parts (plain x) (list_all plain xs) h in
    let l = ltb-true 31 x (and_parts (ltb 31 x) (ltb x 128) parts.0).0 in
    ap (λ (t : Bool). if t then 1 else suc (line_length (xs ++ 10 ∷ rest))) (ne_eqb x 10 (λ s. omega (arith, l, s)))
    ∙ ap suc (first_length xs rest parts.1)
