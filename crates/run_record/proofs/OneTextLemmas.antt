-- No two records have the same text.
use Rattle.std.proofs.Common.{◌≡◌, ℕ, ◌≤◌, ◌++◌, Bool, true, false, List, [], ◌∷◌, Some, length, map, drop, codes, refl, sym, ap, ◌∙◌, append_assoc, arith}
use Rattle.std.specs.List.{concat, list_any}
use Rattle.std.proofs.lemmas.List.{append_cancel_right}
use Rattle.run_record.specs.Events.{Event, Grant, Arrive, End, Clean, Fail, Again, Regrant, is_second}
use Rattle.run_record.specs.RecordText.{Word, word_text, joined_words, entry_words, entry_line, closed_line, version_line, record_lines, record_text}
use Rattle.run_record.specs.code.RecordText.{IsEntry, AreEntries}
use Rattle.run_record.specs.code.Reading.{event_in}
use Rattle.run_record.specs.code.Words.{words_of}
use Rattle.run_record.specs.code.Lines.{lines}
use Rattle.run_record.proofs.WordTextLemmas.{AllVisible, entry_visible}
use Rattle.run_record.proofs.LineLemmas.{words_are, joined_plain, lines_from_first}
use Rattle.run_record.proofs.ReadingLemmas.{event_is}
use Rattle.run_record.proofs.RecordTextLemmas.{lines_closed}

three_words : (e : Event) → 3 ≤ length (map word_text (entry_words e))
three_words (Grant w t) = omega arith
three_words (Arrive w t n) = omega arith
three_words (End w t ns) = omega arith
three_words (Clean w t) = omega arith
three_words (Fail w t c ns) = omega arith
three_words (Again w t c ns) = omega arith
three_words (Regrant w t) = omega arith

pub words_back : (ws : List Word) → 3 ≤ length (map word_text ws) → AllVisible ws → words_of (joined_words ws) ≡ map word_text ws
words_back [] l h = absurd (omega (arith, l))
words_back (w ∷ ws) l h = words_are w ws h

pub read_back : (e : Event) → IsEntry e → event_in (words_of (joined_words (entry_words e))) ≡ Some e
read_back e h = ap event_in (words_back (entry_words e) (three_words e) (entry_visible e h)) ∙ event_is e h

front_same : (d e : Event) → entry_line d ≡ entry_line e → joined_words (entry_words d) ≡ joined_words (entry_words e)
unfolding entry_line
front_same d e h = append_cancel_right (joined_words (entry_words d)) (joined_words (entry_words e)) (codes "\n") h

same_some : (d e : Event) → Some d ≡ Some e → d ≡ e
same_some d e h = cc h

pub one_event : (d e : Event) → IsEntry d → IsEntry e → entry_line d ≡ entry_line e → d ≡ e
one_event d e p q h =
    same_some d e (sym (read_back d p) ∙ ap (λ (l : List ℕ). event_in (words_of l)) (front_same d e h) ∙ read_back e q)

pub not_closed : (e : Event) → IsEntry e → entry_line e ≡ closed_line → ⊥
unfolding entry_line
not_closed e p h =
    let front = append_cancel_right (joined_words (entry_words e)) (codes "closed") (codes "\n") h in
    let count = ap length (sym (words_back (entry_words e) (three_words e) (entry_visible e p)) ∙ ap words_of front) in
    let l = three_words e in
    omega (arith, count, l)

pub same_events : (es fs : List Event) → AreEntries es → AreEntries fs → map entry_line es ++ closed_line ∷ [] ≡ map entry_line fs ++ closed_line ∷ [] → es ≡ fs
same_events [] [] p q h = refl
same_events [] (f ∷ fs) p q h = absurd (not_closed f q.0 (cc h))
same_events (e ∷ es) [] p q h = absurd (not_closed e p.0 (cc h))
same_events (e ∷ es) (f ∷ fs) p q h =
    let first = one_event e f p.0 q.0 (cc h) in
    let rest = same_events es fs p.1 q.1 (cc h) in
    cc (first, rest)

pub entry_lines : (es : List Event) (rest : List ℕ) → AreEntries es → lines (concat (map entry_line es) ++ rest) ≡ map entry_line es ++ lines rest
unfolding entry_line
entry_lines [] rest p = refl
entry_lines (e ∷ es) rest p =
    let more = concat (map entry_line es) in
    let xs = joined_words (entry_words e) in
    ap lines (append_assoc (entry_line e) more rest ∙ append_assoc xs (codes "\n") (more ++ rest))
    ∙ lines_from_first xs (more ++ rest) (joined_plain (entry_words e) (entry_visible e p.0))
    ∙ ap (λ (l : List (List ℕ)). entry_line e ∷ l) (entry_lines es rest p.1)

pub version_cut : (second : Bool) (rest : List ℕ) → lines (version_line second ++ rest) ≡ version_line second ∷ lines rest
version_cut true rest = lines_from_first (codes "record 2") rest refl
version_cut false rest = lines_from_first (codes "record 1") rest refl

pub text_lines : (es : List Event) → AreEntries es → lines (record_text es) ≡ record_lines es
unfolding record_lines
text_lines es p =
    let second = list_any is_second es in
    version_cut second (concat (map entry_line es ++ closed_line ∷ []))
    ∙ ap (λ (l : List (List ℕ)). version_line second ∷ l) (ap lines (lines_closed (map entry_line es)) ∙ entry_lines es closed_line p)

later_lines : (es fs : List Event) → record_lines es ≡ record_lines fs → map entry_line es ++ closed_line ∷ [] ≡ map entry_line fs ++ closed_line ∷ []
unfolding record_lines
later_lines es fs h = ap (drop 1) h

pub one_text : (es fs : List Event) → AreEntries es → AreEntries fs → record_text es ≡ record_text fs → es ≡ fs
one_text es fs p q h = same_events es fs p q (later_lines es fs (sym (text_lines es p) ∙ ap lines h ∙ text_lines fs q))
