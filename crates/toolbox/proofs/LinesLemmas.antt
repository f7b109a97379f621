-- Lines: their order, and what they are when they are written again.
use Rattle.std.proofs.Common.{◌≡◌, ℕ, ◌+◌, ◌<◌, Bool, true, false, cond, eqb, nat_eq, length, get_or, take, drop, add-one, List, [], ◌∷◌, ◌++◌, Bor, Ordering, refl, sym, ap, ◌∙◌, append_assoc, arith}
use Rattle.std.proofs.Math.Seq.{drop-cons}
use Rattle.std.specs.Cmp.Lexicographic.{slice_cmp}
use Rattle.std.specs.Ordering.{nat_cmp}
use Rattle.std.specs.List.{slice_split, onto_first}
use Rattle.std.proofs.lemmas.Bool.{eqb-true}
use Rattle.std.proofs.lemmas.List.{append-nil, map-append, take_more}
use Rattle.toolbox.specs.Lines.{bytes_of, lines, without_empty_last, written}

abbrev pub Line : Type 0
Line = Bor (List ℕ)

abbrev pub line_cmp : Line → Line → Ordering
line_cmp x y = slice_cmp nat_cmp x.now y.now

-- a text, a line and the rest
pub line_end : (text line rest : List ℕ) → (text ++ (line ++ 10 ∷ [])) ++ rest ≡ text ++ (line ++ 10 ∷ rest)
line_end text line rest = simp append_assoc

-- a line that is wanted, before the others
pub line_if : (wanted : Bool) (line : List ℕ) (rest : List (List ℕ)) (old new : List ℕ) → new ≡ old ++ cond wanted (line ++ 10 ∷ []) [] → new ++ written rest ≡ old ++ written (cond wanted (line ∷ rest) rest)
line_if true line rest old new e = ap (λ (text : List ℕ). text ++ written rest) e ∙ line_end old line (written rest)
line_if false line rest old new e = ap (λ (text : List ℕ). text ++ written rest) (e ∙ append-nil old)

-- the lines from a place on, and those before the next place
pub cut : (ls : List Line) (i : ℕ) (d : Line) → i < length ls → bytes_of (drop i ls) ≡ (get_or ls i d).now ∷ bytes_of (drop (i + 1) ls)
cut ls i d h =
    let next : drop i ls ≡ get_or ls i d ∷ drop (i + 1) ls = rw add-one (drop-cons ls i d h) in
    ap bytes_of next

pub before_next : (ls : List Line) (i : ℕ) (d : Line) → i < length ls → bytes_of (take (i + 1) ls) ≡ bytes_of (take i ls) ++ (get_or ls i d).now ∷ []
before_next ls i d h = ap bytes_of (take_more ls i d h) ∙ map-append (λ (line : Line). line.now) (take i ls) (get_or ls i d ∷ [])

-- ---- what is left of the parts without a last one that is empty

less : (front : List (List ℕ)) → without_empty_last (front ++ [] ∷ []) ≡ front
less [] = refl
less (part ∷ []) = refl
less (part ∷ next ∷ parts) = ap (λ (rest : List (List ℕ)). part ∷ rest) (less (next ∷ parts))

all : (front : List (List ℕ)) (b : ℕ) (bytes : List ℕ) → without_empty_last (front ++ (b ∷ bytes) ∷ []) ≡ front ++ (b ∷ bytes) ∷ []
all [] b bytes = refl
all (part ∷ []) b bytes = refl
all (part ∷ next ∷ parts) b bytes = ap (λ (rest : List (List ℕ)). part ∷ rest) (all (next ∷ parts) b bytes)

left_by : (front parts : List (List ℕ)) (last : List ℕ) → parts ≡ front ++ last ∷ [] → nat_eq (length last) 0 ≡ true → front ≡ without_empty_last parts
left_by front parts [] is empty = sym (rw is (less front))
left_by front parts (b ∷ bytes) is empty =
    let none : length (b ∷ bytes) ≡ 0 = eqb-true (length (b ∷ bytes)) 0 empty in
    absurd (omega arith)

kept_by : (front parts : List (List ℕ)) (last : List ℕ) → parts ≡ front ++ last ∷ [] → nat_eq (length last) 0 ≡ false → parts ≡ without_empty_last parts
kept_by front parts [] is full = absurd cc
kept_by front parts (b ∷ bytes) is full = rw is (sym (all front b bytes))

pub left : (before after : List Line) (last : Line) (parts : List (List ℕ)) → bytes_of before ≡ parts → before ≡ after ++ last ∷ [] → nat_eq (length last.now) 0 ≡ true → bytes_of after ≡ without_empty_last parts
left before after last parts are popped empty = left_by (bytes_of after) parts last.now (sym are ∙ ap bytes_of popped ∙ map-append (λ (line : Line). line.now) after (last ∷ [])) empty

pub kept : (before after now : List Line) (last : Line) (parts : List (List ℕ)) → bytes_of before ≡ parts → before ≡ after ++ last ∷ [] → now ≡ after ++ last ∷ [] → nat_eq (length last.now) 0 ≡ false → bytes_of now ≡ without_empty_last parts
kept before after now last parts are popped pushed full =
    let same : bytes_of now ≡ parts = ap bytes_of (pushed ∙ sym popped) ∙ are in
    same ∙ kept_by (bytes_of after) parts last.now (sym are ∙ ap bytes_of popped ∙ map-append (λ (line : Line). line.now) after (last ∷ [])) full

-- ---- a text that ends with a line feed

not_empty : (text : List ℕ) → [] ≡ text ++ 10 ∷ [] → ⊥
not_empty [] e = cc
not_empty (b ∷ text) e = cc

onto_line : (b : ℕ) (parts : List (List ℕ)) (text : List ℕ) → written (without_empty_last parts) ≡ text ++ 10 ∷ [] → written (without_empty_last (onto_first b parts)) ≡ b ∷ (text ++ 10 ∷ [])
onto_line b [] text e = absurd (not_empty text e)
onto_line b ([] ∷ []) text e = absurd (not_empty text e)
onto_line b ((x ∷ part) ∷ []) text e = ap (λ t. b ∷ t) e
onto_line b (part ∷ next ∷ parts) text e = ap (λ t. b ∷ t) e

after_line : (parts : List (List ℕ)) (text : List ℕ) → written (without_empty_last parts) ≡ text ++ 10 ∷ [] → written (without_empty_last ([] ∷ parts)) ≡ 10 ∷ (text ++ 10 ∷ [])
after_line [] text e = absurd (not_empty text e)
after_line (part ∷ parts) text e = ap (λ t. 10 ∷ t) e

by_byte : (b : ℕ) (test : Bool) (parts : List (List ℕ)) (text : List ℕ) → eqb b 10 ≡ test → written (without_empty_last parts) ≡ text ++ 10 ∷ []
    → written (without_empty_last (cond test ([] ∷ parts) (onto_first b parts))) ≡ b ∷ (text ++ 10 ∷ [])
by_byte b true parts text is e =
    after_line parts text e ∙ ap (λ (n : ℕ). n ∷ (text ++ 10 ∷ [])) (sym (eqb-true b 10 is))
by_byte b false parts text is e = onto_line b parts text e

pub written_lines : (text : List ℕ) → written (lines (text ++ 10 ∷ [])) ≡ text ++ 10 ∷ []
unfolding lines
written_lines [] = refl
written_lines (b ∷ text) = by_byte b (eqb b 10) (slice_split (λ x. eqb x 10) (text ++ 10 ∷ [])) text refl (written_lines text)
