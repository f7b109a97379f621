-- Which line of a text is malformed.
use Rattle.std.proofs.Common.{◌≡◌, ℕ, zero, suc, ◌+◌, ◌-◌, ◌≤◌, ◌<◌, ◌++◌, ◌||◌, Bool, true, false, not, List, [], ◌∷◌, if◌then◌else◌, nat_eq, length, map, take, drop, codes, slice_index, subst, lit<, refl, sym, ap, ◌∙◌, append_assoc, arith}
use Rattle.std.proofs.Math.Bool.{or-true}
use Rattle.std.proofs.lemmas.List.{append-nil, map-append}
use Rattle.std.specs.List.{concat, list_any, list_all, onto_first}
use Rattle.run_record.specs.Events.{Event, Regrant, is_second}
use Rattle.run_record.specs.code.RecordText.{IsEntry, AreEntries}
use Rattle.run_record.specs.RecordText.{entry_line, closed_line, version_line, record_lines, record_text}
use Rattle.run_record.specs.code.Lines.{lines, line_length, first_line}
use Rattle.run_record.specs.code.Parser.{IsRead, IsNoEntry, fits_version}
use Rattle.run_record.specs.code.Fault.{SharesLines, IsMalformedAt}
use Rattle.run_record.proofs.OneTextLemmas.{one_event, not_closed, entry_lines, text_lines, version_cut}
use Rattle.run_record.proofs.RecordTextLemmas.{AreEntries-append, lines_closed}
use Rattle.run_record.proofs.LineLemmas.{lines_from_first}

cut_by : (b : ℕ) (bs : List ℕ) → onto_first b (lines bs) ≡ (b ∷ first_line bs) ∷ lines (drop (line_length bs) bs) → (t : Bool)
    → (if t then (b ∷ []) ∷ lines bs else onto_first b (lines bs)) ≡ take (if t then 1 else suc (line_length bs)) (b ∷ bs) ∷ lines (drop (if t then 1 else suc (line_length bs)) (b ∷ bs))
cut_by b bs h true = refl
cut_by b bs h false = h

-- a text that isn't empty is its first line and the lines after it
pub lines_cut : (b : ℕ) (bs : List ℕ) → lines (b ∷ bs) ≡ first_line (b ∷ bs) ∷ lines (drop (line_length (b ∷ bs)) (b ∷ bs))
lines_cut b [] = cut_by b [] refl (nat_eq b 10)
lines_cut b (x ∷ xs) = cut_by b (x ∷ xs) (ap (onto_first b) (lines_cut x xs)) (nat_eq b 10)

pub first_is : (text line : List ℕ) → take 1 (lines text) ≡ line ∷ [] → first_line text ≡ line
first_is [] line h = absurd (cc)
first_is (b ∷ bs) line h = let e = sym (ap (take 1) (lines_cut b bs)) ∙ h in cc

-- how many lines come before the m next ones
abbrev pub past : List Event → ℕ → ℕ
past [] m = m
past (e ∷ es) m = suc (past es m)

pub past_is : (es : List Event) (m : ℕ) → past es m ≡ length es + m
past_is [] m = omega arith
past_is (e ∷ es) m = let h = past_is es m in omega (arith, h)

take_past : (es : List Event) (m : ℕ) (ls : List (List ℕ)) → take (past es m) (map entry_line es ++ ls) ≡ map entry_line es ++ take m ls
take_past [] m ls = refl
take_past (e ∷ es) m ls = ap (λ (l : List (List ℕ)). entry_line e ∷ l) (take_past es m ls)

-- a record that has the same lines up to the m next ones has the same entries first
pub record Follows (es fs : List Event) (m : ℕ) (ls : List (List ℕ)) : Type 0 where
  pub later : List Event
  pub begins : fs ≡ es ++ later
  pub same : take m ls ≡ take m (map entry_line later ++ closed_line ∷ [])

pub follows : (es fs : List Event) (m : ℕ) (ls : List (List ℕ)) → AreEntries es → AreEntries fs
    → take (past es m) (map entry_line es ++ ls) ≡ take (past es m) (map entry_line fs ++ closed_line ∷ []) → Follows es fs m ls
follows [] fs m ls p q h = record { later = fs; begins = refl; same = h }
follows (e ∷ es) [] m ls p q h = absurd (not_closed e p.0 (cc h))
follows (e ∷ es) (f ∷ fs) m ls p q h =
    let first = one_event e f p.0 q.0 (cc h) in
    let rest = follows es fs m ls p.1 q.1 (cc h) in
    record { later = rest.later; begins = let b = rest.begins in cc (first, b); same = rest.same }

fit_by : (e : Event) (es : List Event) → (list_all (fits_version false) es ≡ true → list_any is_second es ≡ false) → list_all (fits_version false) (e ∷ es) ≡ true
    → (t : Bool) → is_second e ≡ t → list_any is_second (e ∷ es) ≡ false
fit_by e es later h true g = absurd (let k = rw g at h in cc)
fit_by e es later h false g = ap (λ (t : Bool). t || list_any is_second es) g ∙ later (rw g at h)

fit_any : (es : List Event) → list_all (fits_version false) es ≡ true → list_any is_second es ≡ false
fit_any [] h = refl
fit_any (e ∷ es) h = fit_by e es (fit_any es) h (is_second e) refl

lines_read : (text : List ℕ) (second : Bool) (es : List Event) (rest : List ℕ) → IsRead text second es rest → lines text ≡ version_line second ∷ (map entry_line es ++ lines rest)
lines_read text second es rest r =
    ap lines r.text_is ∙ version_cut second (concat (map entry_line es) ++ rest)
    ∙ ap (λ (l : List (List ℕ)). version_line second ∷ l) (entry_lines es rest r.entries)

lines_printed : (fs : List Event) → AreEntries fs → lines (record_text fs) ≡ version_line (list_any is_second fs) ∷ (map entry_line fs ++ closed_line ∷ [])
unfolding record_lines
lines_printed fs q = text_lines fs q

one_version : (a b : Bool) → version_line a ≡ version_line b → a ≡ b
one_version true true h = refl
one_version true false h = absurd (let e = ap (λ (l : List ℕ). slice_index l 7) h in omega (arith, e))
one_version false true h = absurd (let e = ap (λ (l : List ℕ). slice_index l 7) h in omega (arith, e))
one_version false false h = refl

-- what a record with the same lines as a text has in common with it
pub record Meets (second : Bool) (es fs : List Event) (m : ℕ) (ls : List (List ℕ)) : Type 0 where
  pub version : second ≡ list_any is_second fs
  pub after : Follows es fs m ls

meets : (text : List ℕ) (second : Bool) (es : List Event) (rest : List ℕ) → IsRead text second es rest → (m k : ℕ) → k ≡ suc (past es m)
    → (fs : List Event) → AreEntries fs → take k (lines text) ≡ take k (lines (record_text fs)) → Meets second es fs m (lines rest)
meets text second es rest r m k at fs q h =
    let P : ℕ → Type 0 = λ n. take n (lines text) ≡ take n (lines (record_text fs)) in
    let cut : version_line second ∷ take (past es m) (map entry_line es ++ lines rest) ≡ version_line (list_any is_second fs) ∷ take (past es m) (map entry_line fs ++ closed_line ∷ []) =
    sym (ap (take (suc (past es m))) (lines_read text second es rest r)) ∙ subst P at h ∙ ap (take (suc (past es m))) (lines_printed fs q) in
    record {
      version = one_version second (list_any is_second fs) (cc cut);
      after = follows es fs m (lines rest) r.entries q (cc cut);
    }

entry_between : (es : List Event) (g : Event) (gs : List Event) → AreEntries (es ++ g ∷ gs) → IsEntry g
entry_between [] g gs h = h.0
entry_between (e ∷ es) g gs h = entry_between es g gs h.1

any_between : (es : List Event) (g : Event) (gs : List Event) → is_second g ≡ true → list_any is_second (es ++ g ∷ gs) ≡ true
any_between [] g gs h = ap (λ (t : Bool). t || list_any is_second gs) h
any_between (e ∷ es) g gs h = ap (λ (t : Bool). is_second e || t) (any_between es g gs h) ∙ or-true (is_second e)

fits_between : (second : Bool) (es : List Event) (g : Event) (gs : List Event) → second ≡ list_any is_second (es ++ g ∷ gs) → (t : Bool) → is_second g ≡ t → fits_version second g ≡ true
fits_between second es g gs h true p = ap (λ (t : Bool). t || not (is_second g)) (h ∙ any_between es g gs p)
fits_between second es g gs h false p = ap (λ (t : Bool). second || not t) p ∙ or-true second

nothing_here : (second : Bool) (es fs : List Event) (rest : List ℕ) → IsNoEntry second (first_line rest) → (first_line rest ≡ closed_line → list_any is_second es ≡ second → ⊥)
    → AreEntries fs → second ≡ list_any is_second fs → (gs : List Event) → fs ≡ es ++ gs → take 1 (lines rest) ≡ take 1 (map entry_line gs ++ closed_line ∷ []) → ⊥
nothing_here second es fs rest none end q v [] b h =
    end (first_is rest closed_line h) (sym (v ∙ ap (list_any is_second) (b ∙ append-nil es)))
nothing_here second es fs rest none end q v (g ∷ gs) b h =
    let p : IsEntry g = entry_between es g gs (rw b at q) in
    none g p (p.proper, fits_between second es g gs (v ∙ ap (list_any is_second) b) (is_second g) refl, sym (first_is rest (entry_line g) h))

-- some record goes on from the entries that were read
pub record GoesOn (second : Bool) (es : List Event) : Type 0 where
  pub later : List Event
  pub entries : AreEntries (es ++ later)
  pub version : list_any is_second (es ++ later) ≡ second

all_of : (es : List Event) → AreEntries es → AreEntries (es ++ [])
all_of es h = rw (append-nil es) h

regranted : IsEntry (Regrant 0 0)
regranted = record { fits = (tt, (lit< tt, (lit< tt, tt))); proper = refl }

goes_on : (second : Bool) (es : List Event) → AreEntries es → list_all (fits_version second) es ≡ true → (t : Bool) → list_any is_second es ≡ t → GoesOn second es
goes_on false es p h t a = record { later = []; entries = all_of es p; version = ap (list_any is_second) (append-nil es) ∙ fit_any es h }
goes_on true es p h true a = record { later = []; entries = all_of es p; version = ap (list_any is_second) (append-nil es) ∙ a }
goes_on true es p h false a = record { later = Regrant 0 0 ∷ []; entries = AreEntries-append es (Regrant 0 0) p regranted; version = any_between es (Regrant 0 0) [] refl }

shares_to : (text : List ℕ) (second : Bool) (es : List Event) (rest : List ℕ) → IsRead text second es rest → SharesLines text (suc (past es 0))
shares_to text second es rest r =
    let g = goes_on second es r.entries r.versions (list_any is_second es) refl in
    let fs = es ++ g.later in (
      fs,
      g.entries,
      ap (take (suc (past es 0))) (lines_read text second es rest r)
          ∙ ap (λ (l : List (List ℕ)). version_line second ∷ l) (take_past es 0 (lines rest))
          ∙ sym (ap (take (suc (past es 0))) (lines_printed fs g.entries)
          ∙ ap (λ (t : Bool). version_line t ∷ take (past es 0) (map entry_line fs ++ closed_line ∷ [])) g.version
          ∙ ap (λ (l : List (List ℕ)). version_line second ∷ take (past es 0) l) (ap (λ (l : List (List ℕ)). l ++ closed_line ∷ []) (map-append entry_line es g.later) ∙ append_assoc (map entry_line es) (map entry_line g.later) (closed_line ∷ []))
          ∙ ap (λ (l : List (List ℕ)). version_line second ∷ l) (take_past es 0 (map entry_line g.later ++ closed_line ∷ []))),
    )

-- neither an entry of the version nor the last line of the record so far stands next
pub next_malformed : (text : List ℕ) (second : Bool) (es : List Event) (rest : List ℕ) → IsRead text second es rest → IsNoEntry second (first_line rest)
    → (first_line rest ≡ closed_line → list_any is_second es ≡ second → ⊥) → (k : ℕ) → k ≡ length es + 2 → IsMalformedAt text k
next_malformed text second es rest r none end k e = record {
  counted = omega (arith, e);
  before = let P : ℕ → Type 0 = SharesLines text in let at : suc (past es 0) ≡ k - 1 = (let n = past_is es 0 in omega (arith, n, e)) in subst P at (shares_to text second es rest r);
  here = λ s. let m = meets text second es rest r 1 k (let n = past_is es 1 in omega (arith, n, e)) s.0 s.1 s.2 in
      nothing_here second es s.0 rest none end s.1 m.version m.after.later m.after.begins m.after.same;
}

closed_cut : (more : List ℕ) → lines (closed_line ++ more) ≡ closed_line ∷ lines more
closed_cut more = lines_from_first (codes "closed") more refl

shares_closed : (text : List ℕ) (second : Bool) (es : List Event) (more : List ℕ) → IsRead text second es (closed_line ++ more) → list_any is_second es ≡ second → SharesLines text (suc (past es 1))
shares_closed text second es more r v = (
  es,
  r.entries,
  ap (take (suc (past es 1))) (lines_read text second es (closed_line ++ more) r)
      ∙ ap (λ (l : List (List ℕ)). version_line second ∷ l) (take_past es 1 (lines (closed_line ++ more)) ∙ ap (λ (l : List (List ℕ)). map entry_line es ++ take 1 l) (closed_cut more))
      ∙ sym (ap (take (suc (past es 1))) (lines_printed es r.entries)
      ∙ ap (λ (t : Bool). version_line t ∷ take (past es 1) (map entry_line es ++ closed_line ∷ [])) v
      ∙ ap (λ (l : List (List ℕ)). version_line second ∷ l) (take_past es 1 (closed_line ∷ []))),
)

nothing_after : (es fs : List Event) (b : ℕ) (bs : List ℕ) → AreEntries fs → (gs : List Event) → fs ≡ es ++ gs
    → take 2 (lines (closed_line ++ b ∷ bs)) ≡ take 2 (map entry_line gs ++ closed_line ∷ []) → ⊥
nothing_after es fs b bs q [] e h =
    let last = sym (ap (take 2) (closed_cut (b ∷ bs) ∙ ap (λ (l : List (List ℕ)). closed_line ∷ l) (lines_cut b bs))) ∙ h in
    absurd (cc last)
nothing_after es fs b bs q (g ∷ gs) e h =
    let first = sym (ap (take 2) (closed_cut (b ∷ bs))) ∙ h in
    not_closed g (entry_between es g gs (rw e at q)) (sym (cc first))

-- a line stands after the last one
pub more_malformed : (text : List ℕ) (second : Bool) (es : List Event) (more : List ℕ) → IsRead text second es (closed_line ++ more) → list_any is_second es ≡ second
    → 0 < length more → (k : ℕ) → k ≡ length es + 3 → IsMalformedAt text k
more_malformed text second es [] r v l k e = absurd (omega (arith, l))
more_malformed text second es (b ∷ bs) r v l k e = record {
  counted = omega (arith, e);
  before = let P : ℕ → Type 0 = SharesLines text in let at : suc (past es 1) ≡ k - 1 = (let n = past_is es 1 in omega (arith, n, e)) in subst P at (shares_closed text second es (b ∷ bs) r v);
  here = λ s. let m = meets text second es (closed_line ++ b ∷ bs) r 2 k (let n = past_is es 2 in omega (arith, n, e)) s.0 s.1 s.2 in
      nothing_after es s.0 b bs s.1 m.after.later m.after.begins m.after.same;
}

-- nothing is left after the last line
pub text_of_all : (text : List ℕ) (second : Bool) (es : List Event) → IsRead text second es closed_line → list_any is_second es ≡ second → record_text es ≡ text
unfolding record_lines
text_of_all text second es r v =
    ap (λ (t : Bool). version_line t ++ concat (map entry_line es ++ closed_line ∷ [])) v
    ∙ ap (λ (l : List ℕ). version_line second ++ l) (lines_closed (map entry_line es))
    ∙ sym r.text_is

-- no version stands in the first line
pub version_malformed : (text : List ℕ) → ((second : Bool) → version_line second ≡ first_line text → ⊥) → IsMalformedAt text 1
version_malformed text none = record {
  counted = lit< tt;
  before = ([], tt, refl);
  here = λ s. none (list_any is_second s.0) (sym (first_is text (version_line (list_any is_second s.0)) (s.2 ∙ ap (take 1) (lines_printed s.0 s.1))));
}

take_less : (j k : ℕ) (ls : List (List ℕ)) → j ≤ k → take j (take k ls) ≡ take j ls
take_less zero k ls l = refl
take_less (suc j) zero ls l = absurd (omega (arith, l))
take_less (suc j) (suc k) [] l = refl
take_less (suc j) (suc k) (x ∷ xs) l = ap (λ (r : List (List ℕ)). x ∷ r) (take_less j k xs (omega (arith, l)))

shares_fewer : (text : List ℕ) (j k : ℕ) → j ≤ k → SharesLines text k → SharesLines text j
shares_fewer text j k l s =
    (s.0, s.1, sym (take_less j k (lines text) l) ∙ ap (take j) s.2 ∙ take_less j k (lines (record_text s.0)) l)

not_before : (text : List ℕ) (j k : ℕ) → IsMalformedAt text j → IsMalformedAt text k → j < k → ⊥
not_before text j k p q l = p.here (shares_fewer text j (k - 1) (omega (arith, l)) q.before)

pub one_malformed : (text : List ℕ) (j k : ℕ) → IsMalformedAt text j → IsMalformedAt text k → j ≡ k
one_malformed text j k p q = let a = not_before text j k p q in let b = not_before text k j q p in omega (arith, a, b)

pub not_malformed : (es : List Event) (k : ℕ) → AreEntries es → IsMalformedAt (record_text es) k → ⊥
not_malformed es k p h = h.here (es, p, refl)

pub no_malformed : (es : List Event) (text : List ℕ) (k : ℕ) → AreEntries es → record_text es ≡ text → IsMalformedAt text k → ⊥
no_malformed es text k p h m = not_malformed es k p (let P : List ℕ → Type 0 = λ t. IsMalformedAt t k in subst P (sym h) m)
