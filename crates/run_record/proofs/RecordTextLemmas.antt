-- The rows of a record's text.
use Rattle.std.proofs.Common.{◌≡◌, ℕ, zero, suc, ◌+◌, ◌^◌, ◌<◌, ◌||◌, ◌++◌, List, [], ◌∷◌, Some, map, get_or, drop, codes, refl, sym, ap, ◌∙◌, append_assoc, add-one}
use Rattle.std.specs.List.{list_any, concat, slice_get}
use Rattle.std.proofs.lemmas.List.Folds.{concat-append}
use Rattle.run_record.specs.Events.{Event, is_second}
use Rattle.run_record.specs.RecordText.{Word, Size, word_text, spaced, entry_line, closed_line}
use Rattle.run_record.specs.code.RecordText.{AllFit, IsEntry, AreEntries}

pub sizes_fit : (ns : List ℕ) → ((i : ℕ) → get_or ns i 0 < 2 ^ 64) → AllFit (map Size ns)
sizes_fit [] h = tt
sizes_fit (n ∷ ns) h = (h 0, sizes_fit ns (λ i. h (suc i)))

pub AreEntries-append : (es : List Event) (e : Event) → AreEntries es → IsEntry e → AreEntries (es ++ e ∷ [])
AreEntries-append [] e h g = (g, tt)
AreEntries-append (x ∷ xs) e h g = (h.0, AreEntries-append xs e h.1 g)

pub spaced_append : (xs ys : List Word) → spaced (xs ++ ys) ≡ spaced xs ++ spaced ys
spaced_append [] ys = refl
spaced_append (x ∷ xs) ys = ap (λ (l : List ℕ). codes " " ++ word_text x ++ l) (spaced_append xs ys) ∙ ap (λ (l : List ℕ). codes " " ++ l) (sym (append_assoc (word_text x) (spaced xs) (spaced ys)))

next_suc : (es : List Event) (k : ℕ) (e : Event) → slice_get es k ≡ Some e → drop k es ≡ e ∷ drop (suc k) es
next_suc [] zero e h = absurd cc
next_suc [] (suc k) e h = absurd cc
next_suc (x ∷ es) zero e h = ap (λ (y : Event). y ∷ es) cc
next_suc (x ∷ es) (suc k) e h = next_suc es k e h

-- the event at a place is the first of those from there on
next_event : (es : List Event) (k : ℕ) (e : Event) → slice_get es k ≡ Some e → drop k es ≡ e ∷ drop (k + 1) es
next_event es k e h = next_suc es k e h ∙ ap (λ (n : ℕ). e ∷ drop n es) (sym (add-one k))

pub any_from : (es : List Event) (k : ℕ) (e : Event) → slice_get es k ≡ Some e → list_any is_second (drop k es) ≡ (is_second e || list_any is_second (drop (k + 1) es))
any_from es k e h = ap (list_any is_second) (next_event es k e h)

pub lines_from : (es : List Event) (k : ℕ) (e : Event) → slice_get es k ≡ Some e → concat (map entry_line (drop k es)) ≡ entry_line e ++ concat (map entry_line (drop (k + 1) es))
lines_from es k e h = ap (λ (xs : List Event). concat (map entry_line xs)) (next_event es k e h)

pub lines_closed : (lines : List (List ℕ)) → concat (lines ++ closed_line ∷ []) ≡ concat lines ++ closed_line
lines_closed lines = concat-append lines (closed_line ∷ [])
