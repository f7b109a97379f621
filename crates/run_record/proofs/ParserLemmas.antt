-- The line of an entry is read as that entry.
use Rattle.std.proofs.Common.{◌≡◌, ℕ, ◌==◌, ◌<◌, ◌++◌, append_assoc, length-append, map, Bool, true, false, List, [], ◌∷◌, Some, None, length, drop, codes, subst, refl, sym, ap, ◌∙◌, arith}
use Rattle.std.specs.List.{concat, list_all}
use Rattle.std.specs.Str.{IsUtf8}
use Rattle.std.proofs.lemmas.Bool.{and_from, eqb-true}
use Rattle.std.proofs.lemmas.List.Folds.{concat-append, list_all-append}
use Rattle.std.proofs.lemmas.List.{append_cancel_right, append-nil, map-append, nil_from_length, take-append-drop, length-take, length-drop}
use Rattle.run_record.specs.Events.{Event}
use Rattle.run_record.specs.code.RecordText.{AreEntries, IsEntry}
use Rattle.run_record.specs.RecordText.{closed_line, version_line, entry_line, entry_words, joined_words}
use Rattle.run_record.specs.code.Reading.{event_in, event_with, listed_words, sizes_of}
use Rattle.run_record.specs.code.Words.{words_of}
use Rattle.run_record.specs.code.Lines.{first_line, line_length}
use Rattle.run_record.specs.code.Parser.{AddsEntry, IsLineOf, IsNoEntry, IsRead, fits_version}
use Rattle.run_record.proofs.OneTextLemmas.{read_back}
use Rattle.run_record.proofs.WordTextLemmas.{entry_visible}
use Rattle.run_record.proofs.LineLemmas.{joined_plain, plain_utf8}

front_is : (e : Event) (text : List ℕ) → entry_line e ≡ text ++ codes "\n" → joined_words (entry_words e) ≡ text
unfolding entry_line
front_is e text h = append_cancel_right (joined_words (entry_words e)) text (codes "\n") h

read_as : (e : Event) (text line : List ℕ) → IsEntry e → text ++ codes "\n" ≡ line → entry_line e ≡ line → event_in (words_of text) ≡ Some e
read_as e text line p t h = ap (λ (l : List ℕ). event_in (words_of l)) (sym (front_is e text (h ∙ sym t))) ∙ read_back e p

-- the sizes that were read are those of the line
abbrev pub AreSizesOf : List ℕ → List ℕ → Type 0
AreSizesOf sizes text = sizes ≡ sizes_of (listed_words (words_of text))

pub none_read : (second : Bool) (text line sizes : List ℕ) → text ++ codes "\n" ≡ line → AreSizesOf sizes text → None ≡ event_with sizes (words_of text) → IsNoEntry second line
none_read second text line sizes t s n e p l =
    absurd (let r = n ∙ ap (λ (l : List ℕ). event_with l (words_of text)) s ∙ read_as e text line p t l.2 in cc r)

same_some : (d e : Event) → Some d ≡ Some e → d ≡ e
same_some d e h = cc h

pub other_read : (second : Bool) (text line sizes : List ℕ) (d : Event) → text ++ codes "\n" ≡ line → AreSizesOf sizes text → Some d ≡ event_with sizes (words_of text)
    → (IsLineOf second d line → ⊥) → IsNoEntry second line
other_read second text line sizes d t s n none e p l =
    let same = same_some d e (n ∙ ap (λ (l : List ℕ). event_with l (words_of text)) s ∙ read_as e text line p t l.2) in
    none (rw same l.0, rw same l.1, rw same l.2)

-- the line of an entry ends with a line feed, and is text
pub ends_line : (line : List ℕ) → ((front : List ℕ) → line ≡ front ++ codes "\n" → ⊥) → (e : Event) → IsEntry e → entry_line e ≡ line → ⊥
unfolding entry_line
ends_line line none e p h = none (joined_words (entry_words e)) (sym h)

pub is_text : (front line : List ℕ) → line ≡ front ++ codes "\n" → (IsUtf8 front → ⊥) → (e : Event) → IsEntry e → entry_line e ≡ line → ⊥
is_text front line t none e p h =
    let same = front_is e front (h ∙ t) in
    let text : IsUtf8 (joined_words (entry_words e)) = plain_utf8 (joined_words (entry_words e)) (joined_plain (entry_words e) (entry_visible e p)) in
    none (subst IsUtf8 same text)

pub entry_read : (second : Bool) (es more : List Event) (rest text : List ℕ) → concat (map entry_line es) ++ rest ≡ text → AddsEntry second (first_line rest) es more
    → concat (map entry_line more) ++ drop (line_length rest) rest ≡ text
entry_read second es more rest text h a =
    let left = drop (line_length rest) rest in
    ap (λ (xs : List Event). concat (map entry_line xs) ++ left) a.2
    ∙ ap (λ (l : List ℕ). l ++ left) (ap concat (map-append entry_line es (a.0 ∷ [])) ∙ concat-append (map entry_line es) (entry_line a.0 ∷ []) ∙ ap (λ (l : List ℕ). concat (map entry_line es) ++ l) (append-nil (entry_line a.0) ∙ a.1.2))
    ∙ append_assoc (concat (map entry_line es)) (first_line rest) left
    ∙ ap (λ (l : List ℕ). concat (map entry_line es) ++ l) (take-append-drop (line_length rest) rest)
    ∙ h

pub version_kept : (second : Bool) (es more : List Event) (line : List ℕ) → list_all (fits_version second) es ≡ true → AddsEntry second line es more → list_all (fits_version second) more ≡ true
version_kept second es more line h a =
    ap (list_all (fits_version second)) a.2 ∙ list_all-append (fits_version second) es (a.0 ∷ [])
    ∙ and_from (list_all (fits_version second) es) (list_all (fits_version second) (a.0 ∷ [])) h (and_from (fits_version second a.0) true a.1.1 refl)

line_not_empty : (e : Event) (line : List ℕ) → entry_line e ≡ line → 0 < length line
unfolding entry_line
line_not_empty e line h = let l = sym (ap length h) ∙ length-append (joined_words (entry_words e)) (codes "\n") in omega (arith, l)

pub less_left : (second : Bool) (es more : List Event) (rest : List ℕ) → AddsEntry second (first_line rest) es more → length (drop (line_length rest) rest) < length rest
less_left second es more rest a =
    let some = line_not_empty a.0 (first_line rest) a.1.2 in
    let front = length-take (line_length rest) rest in
    let back = length-drop (line_length rest) rest in
    omega (arith, some, front, back)

pub more_left : (text : List ℕ) (second : Bool) (es : List Event) (rest line more : List ℕ) → line ≡ first_line rest → more ≡ drop (line_length rest) rest → line ≡ closed_line
    → IsRead text second es rest → IsRead text second es (closed_line ++ more)
more_left text second es rest line more a b h r =
    let same : rest ≡ closed_line ++ more = sym (take-append-drop (line_length rest) rest) ∙ ap (λ (l : List ℕ). l ++ drop (line_length rest) rest) (sym a ∙ h) ∙ ap (λ (l : List ℕ). closed_line ++ l) (sym b) in
    let P : List ℕ → Type 0 = IsRead text second es in
    subst P same r

pub some_left : (more : List ℕ) (empty : Bool) → empty ≡ (length more == 0) → empty ≡ false → 0 < length more
some_left [] empty e h = absurd (let k = sym e ∙ h in cc)
some_left (b ∷ bs) empty e h = omega arith

pub none_left : (more : List ℕ) (empty : Bool) → empty ≡ (length more == 0) → empty ≡ true → more ≡ []
none_left more empty e h = nil_from_length more (eqb-true (length more) 0 (sym e ∙ h))

pub is_read : (bytes line text rest : List ℕ) (second : Bool) (es : List Event) → line ≡ first_line bytes → text ≡ drop (line_length bytes) bytes → version_line second ≡ line
    → concat (map entry_line es) ++ rest ≡ text → AreEntries es → list_all (fits_version second) es ≡ true → IsRead bytes second es rest
is_read bytes line text rest second es a b v h p k = record {
  text_is =
      sym (take-append-drop (line_length bytes) bytes)
      ∙ ap (λ (l : List ℕ). l ++ drop (line_length bytes) bytes) (sym (v ∙ a))
      ∙ ap (λ (l : List ℕ). version_line second ++ l) (sym (h ∙ b));
  entries = p;
  versions = k;
}
