-- The lines of a text, one after the other.
use Rattle.std.proofs.Common.{◌≡◌, ℕ, zero, suc, ◌+◌, ◌≤◌, ◌<◌, ◌++◌, Bool, true, false, List, [], ◌∷◌, length, map, codes, take, drop, if◌then◌else◌, nat_eq, refl, sym, ap, ◌∙◌, arith}
use Rattle.std.specs.List.{concat, list_any, onto_first}
use Rattle.std.specs.Str.{bytes_eq}
use Rattle.std.proofs.Math.Seq.{take-add}
use Rattle.std.proofs.lemmas.List.{append-nil, append_assoc, drop-drop}
use Rattle.std.proofs.lemmas.Slice.Eq.{bytes_eq-Decides}
use Rattle.run_record.specs.code.Lines.{first_line, line_length, lines}
use Rattle.run_record.specs.Events.{Event, is_second}
use Rattle.run_record.specs.code.RecordText.{AreEntries}
use Rattle.run_record.specs.RecordText.{closed_line, entry_line, record_lines, record_text, version_line}
use Rattle.run_record.proofs.LineLemmas.{lines_from_first}
use Rattle.run_record.proofs.OneTextLemmas.{entry_lines, not_closed, version_cut}
use Rattle.run_record.proofs.RecordTextLemmas.{lines_closed}
use Rattle.record_audit.specs.Part.{record_part, up_to_closed}

line_counts : (b : ℕ) (bs : List ℕ) → 0 < line_length (b ∷ bs)
line_counts b bs = by (nat_eq b 10)
  where
    by : (t : Bool) → 0 < (if t then 1 else suc (line_length bs))
    by true = omega arith
    by false = omega arith

-- each line of a text that isn't empty has a byte
pub some_line : (text : List ℕ) → 0 < length text → 0 < line_length text
some_line [] l = absurd (omega (arith, l))
some_line (b ∷ bs) l = line_counts b bs

-- the first line, then those of what follows
lines_are : (b : ℕ) (bs : List ℕ) → lines (b ∷ bs) ≡ first_line (b ∷ bs) ∷ lines (drop (line_length (b ∷ bs)) (b ∷ bs))
lines_are b [] = by (nat_eq b 10)
  where
    by : (t : Bool)
        → (if t then (b ∷ []) ∷ lines [] else onto_first b (lines []))
        ≡ take (if t then 1 else 1) (b ∷ []) ∷ lines (drop (if t then 1 else 1) (b ∷ []))
    by true = refl
    by false = refl
lines_are b (c ∷ cs) = by (nat_eq b 10) (lines_are c cs)
  where
    rest : List ℕ
    rest = c ∷ cs

    by : (t : Bool) → lines rest ≡ first_line rest ∷ lines (drop (line_length rest) rest)
        → (if t then (b ∷ []) ∷ lines rest else onto_first b (lines rest))
        ≡ take (if t then 1 else suc (line_length rest)) (b ∷ rest) ∷ lines (drop (if t then 1 else suc (line_length rest)) (b ∷ rest))
    by true others = refl
    by false others = ap (onto_first b) others

-- the part of a text by its first line
part_of : (line : List ℕ) (others : List (List ℕ)) (closed : Bool) → bytes_eq line closed_line ≡ closed
    → concat (up_to_closed (line ∷ others)) ≡ line ++ (if closed then [] else concat (up_to_closed others))
part_of line others true e = ap (λ (b : Bool). concat (if b then line ∷ [] else line ∷ up_to_closed others)) e
part_of line others false e = ap (λ (b : Bool). concat (if b then line ∷ [] else line ∷ up_to_closed others)) e

first_part : (text : List ℕ) (closed : Bool) → 0 < length text → bytes_eq (first_line text) closed_line ≡ closed
    → record_part text ≡ first_line text ++ (if closed then [] else record_part (drop (line_length text) text))
first_part [] closed l e = absurd (omega (arith, l))
first_part (b ∷ bs) closed l e =
    ap (λ (ls : List (List ℕ)). concat (up_to_closed ls)) (lines_are b bs)
    ∙ part_of (first_line (b ∷ bs)) (lines (drop (line_length (b ∷ bs)) (b ∷ bs))) closed e

-- what a loop over the lines keeps
abbrev pub HasCome : List ℕ → ℕ → Type 0
HasCome text n = record_part text ≡ take n text ++ record_part (drop n text)

pub come_next : (text : List ℕ) (n k : ℕ) → k ≡ line_length (drop n text) → HasCome text n → 0 < length (drop n text)
    → bytes_eq (first_line (drop n text)) closed_line ≡ false → HasCome text (n + k)
come_next text n k is come some going =
    come
    ∙ ap (λ (l : List ℕ). take n text ++ l) (first_part (drop n text) false some going)
    ∙ sym (append_assoc (take n text) (take (line_length (drop n text)) (drop n text)) (record_part (drop (line_length (drop n text)) (drop n text))))
    ∙ ap (λ (l : List ℕ). l ++ record_part (drop (line_length (drop n text)) (drop n text))) (sym (take-add n (line_length (drop n text)) text))
    ∙ ap (λ (l : List ℕ). take (n + line_length (drop n text)) text ++ record_part l) (drop-drop (line_length (drop n text)) n text)
    ∙ ap (λ (m : ℕ). take (n + m) text ++ record_part (drop (n + m) text)) (sym is)

pub come_end : (text : List ℕ) (n k : ℕ) → k ≡ line_length (drop n text) → HasCome text n → 0 < length (drop n text)
    → bytes_eq (first_line (drop n text)) closed_line ≡ true → take (n + k) text ≡ record_part text
come_end text n k is come some closed = sym (
    come
    ∙ ap (λ (l : List ℕ). take n text ++ l) (first_part (drop n text) true some closed ∙ append-nil (first_line (drop n text)))
    ∙ sym (take-add n (line_length (drop n text)) text)
    ∙ ap (λ (m : ℕ). take (n + m) text) (sym is))

pub come_last : (text : List ℕ) (n : ℕ) → length text ≤ n → HasCome text n → take n text ≡ record_part text
come_last text n l come = sym (come ∙ ap (λ (rest : List ℕ). take n text ++ record_part rest) (none text n l) ∙ append-nil (take n text))
  where
    none : (xs : List ℕ) (m : ℕ) → length xs ≤ m → drop m xs ≡ []
    none [] zero h = refl
    none [] (suc m) h = refl
    none (x ∷ xs) zero h = absurd (omega (arith, h))
    none (x ∷ xs) (suc m) h = none xs m (omega (arith, h))

-- ---- the part of a text that begins with that of a record

other_line : (xs ys : List ℕ) → (xs ≡ ys → ⊥) → bytes_eq xs ys ≡ false
other_line xs ys apart = by (bytes_eq xs ys) refl
  where
    by : (t : Bool) → bytes_eq xs ys ≡ t → bytes_eq xs ys ≡ false
    by true e = absurd (apart ((bytes_eq-Decides xs ys).0 e))
    by false e = e

-- up to the line `closed` behind lines that are other ones
up_to : (es : List Event) (others : List (List ℕ)) → AreEntries es → up_to_closed (map entry_line es ++ closed_line ∷ others) ≡ map entry_line es ++ closed_line ∷ []
up_to [] others are = refl
up_to (e ∷ es) others are =
    ap (λ (t : Bool). if t then entry_line e ∷ [] else entry_line e ∷ up_to_closed (map entry_line es ++ closed_line ∷ others)) (other_line (entry_line e) closed_line (not_closed e are.0))
    ∙ ap (λ (ls : List (List ℕ)). entry_line e ∷ ls) (up_to es others are.1)

after_version : (second : Bool) (ls : List (List ℕ)) → up_to_closed (version_line second ∷ ls) ≡ version_line second ∷ up_to_closed ls
after_version true ls = refl
after_version false ls = refl

pub part_of_record : (es : List Event) (rest : List ℕ) → AreEntries es → record_part (record_text es ++ rest) ≡ record_text es
unfolding record_lines
part_of_record es rest are =
    let second = list_any is_second es in
    let front = concat (map entry_line es) in
    let cut : record_text es ++ rest ≡ version_line second ++ (front ++ (closed_line ++ rest)) =
    append_assoc (version_line second) (concat (map entry_line es ++ closed_line ∷ [])) rest
    ∙ ap (λ (l : List ℕ). version_line second ++ (l ++ rest)) (lines_closed (map entry_line es))
    ∙ ap (λ (l : List ℕ). version_line second ++ l) (append_assoc front closed_line rest) in
    let cut_lines : lines (record_text es ++ rest) ≡ version_line second ∷ (map entry_line es ++ closed_line ∷ lines rest) =
    ap lines cut
    ∙ version_cut second (front ++ (closed_line ++ rest))
    ∙ ap (λ (ls : List (List ℕ)). version_line second ∷ ls) (entry_lines es (closed_line ++ rest) are ∙ ap (λ (ls : List (List ℕ)). map entry_line es ++ ls) (lines_from_first (codes "closed") rest refl)) in
    ap (λ (ls : List (List ℕ)). concat (up_to_closed ls)) cut_lines
    ∙ ap concat (after_version second (map entry_line es ++ closed_line ∷ lines rest) ∙ ap (λ (ls : List (List ℕ)). version_line second ∷ ls) (up_to es (lines rest) are))
