-- Lines that were seen.
use Rattle.std.proofs.Common.{◌≡◌, ℕ, ◌+◌, ◌<◌, length, get_or, take, drop, Bool, true, false, not, ◌||◌, cond, List, [], ◌∷◌, ◌++◌, bytes_eq, refl, sym, ap, ◌∙◌}
use Rattle.std.specs.BTreeSet.{BTreeSet, contains, Updates}
use Rattle.std.specs.Cmp.Lexicographic.{nat_list_eq_equiv, texts_ties}
use Rattle.std.specs.Ordering.{is_eq}
use Rattle.std.proofs.lemmas.List.{append-nil}
use Rattle.std.proofs.lemmas.List.Folds.{list_any-append}
use Rattle.toolbox.specs.Lines.{bytes_of, written}
use Rattle.toolbox.specs.Transformation.Distinct.{is_among, new_lines}
use Rattle.toolbox.proofs.LinesLemmas.{Line, before_next, cut, line_cmp, line_end}

either : (b a : Bool) → cond b true a ≡ (a || (b || false))
either true true = refl
either true false = refl
either false true = refl
either false false = refl

-- the set of the lines before a line, with the line
pub seen_more : (before : List (List ℕ)) (old new : BTreeSet Line) (line : Line) → ((q : Line) → contains line_cmp old q ≡ is_among before q.now) → Updates line_cmp old new line true
    → (q : Line) → contains line_cmp new q ≡ is_among (before ++ line.now ∷ []) q.now
seen_more before old new line seen updates q =
    let same : bytes_eq q.now line.now ≡ is_eq (line_cmp line q) = nat_list_eq_equiv.symm q.now line.now ∙ texts_ties line.now q.now in
    let among = is_among before q.now in
    updates.0 q ∙ ap (λ (b : Bool). cond (is_eq (line_cmp line q)) true b) (seen q) ∙ either (is_eq (line_cmp line q)) among
    ∙ ap (λ (b : Bool). among || (b || false)) (sym same) ∙ sym (list_any-append (bytes_eq q.now) before (line.now ∷ []))

-- a line is added where it is new
pub text_more : (before rest : List (List ℕ)) (line old new : List ℕ) (added : Bool) → added ≡ not (is_among before line) → new ≡ old ++ cond added (line ++ 10 ∷ []) []
    → new ++ written (new_lines (before ++ line ∷ []) rest) ≡ old ++ written (new_lines before (line ∷ rest))
text_more before rest line old new added is e =
    ap (λ (text : List ℕ). text ++ written (new_lines (before ++ line ∷ []) rest)) (e ∙ ap (λ (b : Bool). old ++ cond b (line ++ 10 ∷ []) []) is) ∙ by (is_among before line)
  where
    by : (b : Bool) → (old ++ cond (not b) (line ++ 10 ∷ []) []) ++ written (new_lines (before ++ line ∷ []) rest)
        ≡ old ++ written (cond b (new_lines (before ++ line ∷ []) rest) (line ∷ new_lines (before ++ line ∷ []) rest))
    by true = ap (λ (text : List ℕ). text ++ written (new_lines (before ++ line ∷ []) rest)) (append-nil old)
    by false = line_end old line (written (new_lines (before ++ line ∷ []) rest))

-- one more line
pub next_line : (lines : List Line) (i : ℕ) (d : Line) → i < length lines → (old new : BTreeSet Line) (text now whole : List ℕ) (added : Bool)
    → ((q : Line) → contains line_cmp old q ≡ is_among (bytes_of (take i lines)) q.now)
    → text ++ written (new_lines (bytes_of (take i lines)) (bytes_of (drop i lines))) ≡ whole
    → added ≡ not (contains line_cmp old (get_or lines i d)) → Updates line_cmp old new (get_or lines i d) true
    → now ≡ text ++ cond added ((get_or lines i d).now ++ 10 ∷ []) []
    → ((q : Line) → contains line_cmp new q ≡ is_among (bytes_of (take (i + 1) lines)) q.now)
    × (now ++ written (new_lines (bytes_of (take (i + 1) lines)) (bytes_of (drop (i + 1) lines))) ≡ whole)
next_line lines i d h old new text now whole added seen e is_new updates pushed =
    let line = get_or lines i d in
    let before = bytes_of (take i lines) in
    let rest = bytes_of (drop (i + 1) lines) in
    let more = before_next lines i d h in
    let here = cut lines i d h in
    let is : added ≡ not (is_among before line.now) = is_new ∙ ap not (seen line) in (
      λ q. seen_more before old new line seen updates q ∙ sym (ap (λ (ls : List (List ℕ)). is_among ls q.now) more),
      ap (λ (ls : List (List ℕ)). now ++ written (new_lines ls rest)) more
          ∙ text_more before rest line.now text now added is pushed
          ∙ sym (ap (λ (ls : List (List ℕ)). text ++ written (new_lines before ls)) here)
          ∙ e,
    )
