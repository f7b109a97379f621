-- Entries that are joined one after the other.
use Rattle.std.proofs.Common.{◌≡◌, ℕ, zero, suc, ◌<◌, Bool, true, false, not, cond, ◌&&◌, ◌||◌, List, [], ◌∷◌, ◌++◌, length, map, filter, get_or, refl, sym, ap, ◌∙◌, append_assoc, arith}
use Rattle.std.specs.Prelude.{Option, Some, None, slice_set}
use Rattle.std.specs.Option.{option_or}
use Rattle.std.specs.List.{list_any}
use Rattle.std.specs.Str.{bytes_eq}
use Rattle.std.specs.Cmp.Lexicographic.{bytes_decides}
use Rattle.std.proofs.lemmas.Bool.{and_from, and_parts}
use Rattle.std.proofs.lemmas.List.{append-nil, map-append}
use Rattle.std.proofs.lemmas.List.Concat.{flat_map-append}
use Rattle.std.proofs.lemmas.List.Elements.{filter-append}
use Rattle.replica_catalog.specs.declared.catalog.Pfn.{Pfn}
use Rattle.replica_catalog.specs.declared.catalog.Replica.{Replica}
use Rattle.replica_catalog.specs.Lookup.{lfns_of, entries_with, first_checksum, pfns_of_entries, joined_entry, joined}
use Rattle.values.specs.Distinct.{distinct}
use Rattle.replica_catalog.specs.code.Merged.{absorbed, with_entry, with_entries}

-- ---- one more entry

-- where the entry of an lfn stands, one more is joined to it
pub at_place : (rs : List Replica) (i : ℕ) (e r s : Replica) (n : List ℕ) → i < length rs → bytes_eq e.lfn (get_or (lfns_of rs) i n) ≡ true → ((k : ℕ) → k < i → bytes_eq e.lfn (get_or (lfns_of rs) k n) ≡ false) → r ≡ get_or rs i r → s ≡ absorbed r e → slice_set rs i s ≡ with_entry rs e
at_place [] i e r s n within there before is grows = absurd (omega arith)
at_place (q ∷ rs) zero e r s n within there before is grows =
    ap (λ (t : Replica). t ∷ rs) (grows ∙ ap (λ (t : Replica). absorbed t e) is)
    ∙ sym (ap (λ (b : Bool). cond b (absorbed q e ∷ rs) (q ∷ with_entry rs e)) there)
at_place (q ∷ rs) (suc i) e r s n within there before is grows =
    ap (λ (ts : List Replica). q ∷ ts) (at_place rs i e r s n (omega arith) there (λ k h. before (suc k) (omega arith)) is grows)
    ∙ sym (ap (λ (b : Bool). cond b (absorbed q e ∷ rs) (q ∷ with_entry rs e)) (before zero (omega arith)))

-- where none has its lfn, it stands at the end
pub not_there : (rs : List Replica) (e : Replica) → list_any (bytes_eq e.lfn) (lfns_of rs) ≡ false → with_entry rs e ≡ rs ++ e ∷ []
not_there [] e h = refl
not_there (r ∷ rs) e h = by (bytes_eq e.lfn r.lfn) h (not_there rs e)
  where
    by : (b : Bool) → (b || list_any (bytes_eq e.lfn) (lfns_of rs)) ≡ false → (list_any (bytes_eq e.lfn) (lfns_of rs) ≡ false → with_entry rs e ≡ rs ++ e ∷ []) → cond b (absorbed r e ∷ rs) (r ∷ with_entry rs e) ≡ r ∷ rs ++ e ∷ []
    by true k rest = absurd cc
    by false k rest = ap (λ (ts : List Replica). r ∷ ts) (rest k)

-- ---- distinct names

or_false : (a b : Bool) → a ≡ false → b ≡ false → (a || b) ≡ false
or_false true b one two = absurd cc
or_false false b one two = two

any_filter : (n : List ℕ) (p : List ℕ → Bool) (ns : List (List ℕ)) → list_any (bytes_eq n) ns ≡ false → list_any (bytes_eq n) (filter p ns) ≡ false
any_filter n p [] h = refl
any_filter n p (m ∷ ns) h = by (p m) (bytes_eq n m) refl h (any_filter n p ns)
  where
    by : (b c : Bool) → bytes_eq n m ≡ c → (c || list_any (bytes_eq n) ns) ≡ false → (list_any (bytes_eq n) ns ≡ false → list_any (bytes_eq n) (filter p ns) ≡ false) → list_any (bytes_eq n) (cond b (m ∷ filter p ns) (filter p ns)) ≡ false
    by b true e k rest = absurd cc
    by true false e k rest = or_false (bytes_eq n m) (list_any (bytes_eq n) (filter p ns)) e (rest k)
    by false false e k rest = rest k

abbrev other : List ℕ → List ℕ → Bool
other n m = not (bytes_eq m n)

same : (m n : List ℕ) → bytes_eq m n ≡ true → m ≡ n
same m n = (bytes_decides m n).0

alike : (n : List ℕ) → bytes_eq n n ≡ true
alike n = (bytes_decides n n).1 refl

flipped : (m n : List ℕ) → bytes_eq m n ≡ bytes_eq n m
flipped m n = by (bytes_eq m n) (bytes_eq n m) refl refl
  where
    by : (a b : Bool) → bytes_eq m n ≡ a → bytes_eq n m ≡ b → a ≡ b
    by true true d e = refl
    by false false d e = refl
    by true false d e = sym ((bytes_decides n m).1 (sym (same m n d))) ∙ e
    by false true d e = sym d ∙ (bytes_decides m n).1 (sym (same n m e))

gone : (n : List ℕ) (ns : List (List ℕ)) → list_any (bytes_eq n) (filter (other n) ns) ≡ false
gone n [] = refl
gone n (m ∷ ns) = by (bytes_eq m n) refl (gone n ns)
  where
    by : (b : Bool) → bytes_eq m n ≡ b → list_any (bytes_eq n) (filter (other n) ns) ≡ false → list_any (bytes_eq n) (cond (not b) (m ∷ filter (other n) ns) (filter (other n) ns)) ≡ false
    by true e rest = rest
    by false e rest = or_false (bytes_eq n m) (list_any (bytes_eq n) (filter (other n) ns)) (flipped n m ∙ e) rest

-- each name is none of the later ones
abbrev apart : List (List ℕ) → Bool
apart [] = true
apart (n ∷ ns) = not (list_any (bytes_eq n) ns) && apart ns

not_false : (b : Bool) → not b ≡ true → b ≡ false
not_false true h = absurd cc
not_false false h = refl

apart_filter : (p : List ℕ → Bool) (ns : List (List ℕ)) → apart ns ≡ true → apart (filter p ns) ≡ true
apart_filter p [] h = refl
apart_filter p (n ∷ ns) h = by (p n) (apart_filter p ns (and_parts (not (list_any (bytes_eq n) ns)) (apart ns) h).1)
  where
    by : (b : Bool) → apart (filter p ns) ≡ true → apart (cond b (n ∷ filter p ns) (filter p ns)) ≡ true
    by true rest = and_from _ _ (ap not (any_filter n p ns (not_false _ (and_parts (not (list_any (bytes_eq n) ns)) (apart ns) h).0))) rest
    by false rest = rest

distinct_apart : (ns : List (List ℕ)) → apart (distinct ns) ≡ true
distinct_apart [] = refl
distinct_apart (n ∷ ns) = and_from _ _ (ap not (gone n (distinct ns))) (apart_filter (other n) (distinct ns) (distinct_apart ns))

any_other : (n m : List ℕ) (ns : List (List ℕ)) → bytes_eq n m ≡ false → list_any (bytes_eq n) (filter (other m) ns) ≡ list_any (bytes_eq n) ns
any_other n m [] h = refl
any_other n m (k ∷ ns) h = by (bytes_eq k m) refl (any_other n m ns h)
  where
    by : (b : Bool) → bytes_eq k m ≡ b → list_any (bytes_eq n) (filter (other m) ns) ≡ list_any (bytes_eq n) ns → list_any (bytes_eq n) (cond (not b) (k ∷ filter (other m) ns) (filter (other m) ns)) ≡ (bytes_eq n k || list_any (bytes_eq n) ns)
    by true e rest = rest ∙ sym (ap (λ (c : Bool). c || list_any (bytes_eq n) ns) (ap (λ (l : List ℕ). bytes_eq n l) (same k m e) ∙ h))
    by false e rest = ap (λ (c : Bool). bytes_eq n k || c) rest

any_distinct : (n : List ℕ) (ns : List (List ℕ)) → list_any (bytes_eq n) (distinct ns) ≡ list_any (bytes_eq n) ns
any_distinct n [] = refl
any_distinct n (m ∷ ns) = by (bytes_eq n m) refl (any_distinct n ns)
  where
    by : (b : Bool) → bytes_eq n m ≡ b → list_any (bytes_eq n) (distinct ns) ≡ list_any (bytes_eq n) ns → (b || list_any (bytes_eq n) (filter (other m) (distinct ns))) ≡ (b || list_any (bytes_eq n) ns)
    by true e rest = refl
    by false e rest = any_other n m (distinct ns) e ∙ rest

-- one more name
distinct_more : (n : List ℕ) (ns : List (List ℕ)) → distinct (ns ++ n ∷ []) ≡ cond (list_any (bytes_eq n) ns) (distinct ns) (distinct ns ++ n ∷ [])
distinct_more n [] = refl
distinct_more n (m ∷ ns) = ap (λ (ks : List (List ℕ)). m ∷ filter (other m) ks) (distinct_more n ns) ∙ by (bytes_eq n m) (list_any (bytes_eq n) ns) refl
  where
    split : filter (other m) (distinct ns ++ n ∷ []) ≡ filter (other m) (distinct ns) ++ cond (not (bytes_eq n m)) (n ∷ []) []
    split = filter-append (other m) (distinct ns) (n ∷ [])

    by : (a b : Bool) → bytes_eq n m ≡ a → m ∷ filter (other m) (cond b (distinct ns) (distinct ns ++ n ∷ [])) ≡ cond (a || b) (m ∷ filter (other m) (distinct ns)) (m ∷ filter (other m) (distinct ns) ++ n ∷ [])
    by true true e = refl
    by false true e = refl
    by true false e = ap (λ (ks : List (List ℕ)). m ∷ ks) (split ∙ ap (λ (a : Bool). filter (other m) (distinct ns) ++ cond (not a) (n ∷ []) []) e ∙ append-nil (filter (other m) (distinct ns)))
    by false false e = ap (λ (ks : List (List ℕ)). m ∷ ks) (split ∙ ap (λ (a : Bool). filter (other m) (distinct ns) ++ cond (not a) (n ∷ []) []) e)

-- ---- the joined entries

or_last : (es : List Replica) (e : Replica) → first_checksum (es ++ e ∷ []) ≡ option_or (first_checksum es) e.checksum
or_last [] e = by e.checksum
  where
    by : (o : Option (List ℕ)) → option_or o None ≡ o
    by None = refl
    by (Some s) = refl
or_last (f ∷ es) e = by f.checksum (or_last es e)
  where
    by : (o : Option (List ℕ)) → first_checksum (es ++ e ∷ []) ≡ option_or (first_checksum es) e.checksum → option_or o (first_checksum (es ++ e ∷ [])) ≡ option_or (option_or o (first_checksum es)) e.checksum
    by None rest = rest
    by (Some s) rest = refl

-- one entry of some
abbrev made : List ℕ → List Replica → Replica
made n es = record { lfn = n; pfns = pfns_of_entries es; checksum = first_checksum es }

made_more : (n : List ℕ) (es : List Replica) (e : Replica) → made n (es ++ e ∷ []) ≡ absorbed (made n es) e
made_more n es e =
    ap (λ (ps : List Pfn). record { lfn = n; pfns = ps; checksum = first_checksum (es ++ e ∷ []) }) (flat_map-append (λ (f : Replica). f.pfns) es (e ∷ []) ∙ ap (λ (ps : List Pfn). pfns_of_entries es ++ ps) (append-nil e.pfns))
    ∙ ap (λ (o : Option (List ℕ)). record { lfn = n; pfns = pfns_of_entries es ++ e.pfns; checksum = o }) (or_last es e)

-- an lfn's entry after one more entry
grown : (es : List Replica) (e : Replica) (n : List ℕ) → joined_entry (es ++ e ∷ []) n ≡ cond (bytes_eq e.lfn n) (absorbed (joined_entry es n) e) (joined_entry es n)
grown es e n = ap (made n) (filter-append (λ (f : Replica). bytes_eq f.lfn n) es (e ∷ [])) ∙ by (bytes_eq e.lfn n)
  where
    by : (b : Bool) → made n (entries_with n es ++ cond b (e ∷ []) []) ≡ cond b (absorbed (joined_entry es n) e) (joined_entry es n)
    by true = made_more n (entries_with n es) e
    by false = ap (made n) (append-nil (entries_with n es))

untouched : (es : List Replica) (e : Replica) (ns : List (List ℕ)) → list_any (bytes_eq e.lfn) ns ≡ false → map (joined_entry es) ns ≡ map (joined_entry (es ++ e ∷ [])) ns
untouched es e [] h = refl
untouched es e (n ∷ ns) h = by (bytes_eq e.lfn n) refl h (untouched es e ns)
  where
    by : (b : Bool) → bytes_eq e.lfn n ≡ b → (b || list_any (bytes_eq e.lfn) ns) ≡ false → (list_any (bytes_eq e.lfn) ns ≡ false → map (joined_entry es) ns ≡ map (joined_entry (es ++ e ∷ [])) ns) → joined_entry es n ∷ map (joined_entry es) ns ≡ joined_entry (es ++ e ∷ []) n ∷ map (joined_entry (es ++ e ∷ [])) ns
    by true is k rest = absurd cc
    by false is k rest =
        ap (λ (rs : List Replica). joined_entry es n ∷ rs) (rest k)
        ∙ ap (λ (r : Replica). r ∷ map (joined_entry (es ++ e ∷ [])) ns) (sym (grown es e n ∙ ap (λ (b : Bool). cond b (absorbed (joined_entry es n) e) (joined_entry es n)) is))

-- one more entry of an lfn that is there
with_known : (es : List Replica) (e : Replica) (ns : List (List ℕ)) → apart ns ≡ true → list_any (bytes_eq e.lfn) ns ≡ true → with_entry (map (joined_entry es) ns) e ≡ map (joined_entry (es ++ e ∷ [])) ns
with_known es e [] once h = absurd cc
with_known es e (n ∷ ns) once h = by (bytes_eq e.lfn n) refl h (with_known es e ns (and_parts (not (list_any (bytes_eq n) ns)) (apart ns) once).1)
  where
    by : (b : Bool) → bytes_eq e.lfn n ≡ b → (b || list_any (bytes_eq e.lfn) ns) ≡ true
        → (list_any (bytes_eq e.lfn) ns ≡ true → with_entry (map (joined_entry es) ns) e ≡ map (joined_entry (es ++ e ∷ [])) ns)
        → cond b (absorbed (joined_entry es n) e ∷ map (joined_entry es) ns) (joined_entry es n ∷ with_entry (map (joined_entry es) ns) e) ≡ joined_entry (es ++ e ∷ []) n ∷ map (joined_entry (es ++ e ∷ [])) ns
    by true is k rest =
        let later : list_any (bytes_eq e.lfn) ns ≡ false = ap (λ (m : List ℕ). list_any (bytes_eq m) ns) (same e.lfn n is) ∙ not_false _ (and_parts (not (list_any (bytes_eq n) ns)) (apart ns) once).0 in
        ap (λ (rs : List Replica). absorbed (joined_entry es n) e ∷ rs) (untouched es e ns later)
        ∙ ap (λ (r : Replica). r ∷ map (joined_entry (es ++ e ∷ [])) ns) (sym (grown es e n ∙ ap (λ (b : Bool). cond b (absorbed (joined_entry es n) e) (joined_entry es n)) is))
    by false is k rest =
        ap (λ (rs : List Replica). joined_entry es n ∷ rs) (rest k)
        ∙ ap (λ (r : Replica). r ∷ map (joined_entry (es ++ e ∷ [])) ns) (sym (grown es e n ∙ ap (λ (b : Bool). cond b (absorbed (joined_entry es n) e) (joined_entry es n)) is))

lfns_back : (es : List Replica) (ns : List (List ℕ)) → lfns_of (map (joined_entry es) ns) ≡ ns
lfns_back es [] = refl
lfns_back es (n ∷ ns) = ap (λ (ms : List (List ℕ)). n ∷ ms) (lfns_back es ns)

none_with : (n : List ℕ) (es : List Replica) → list_any (bytes_eq n) (lfns_of es) ≡ false → entries_with n es ≡ []
none_with n [] h = refl
none_with n (e ∷ es) h = by (bytes_eq n e.lfn) (flipped e.lfn n) h (none_with n es)
  where
    by : (b : Bool) → bytes_eq e.lfn n ≡ b → (b || list_any (bytes_eq n) (lfns_of es)) ≡ false → (list_any (bytes_eq n) (lfns_of es) ≡ false → entries_with n es ≡ []) → cond (bytes_eq e.lfn n) (e ∷ entries_with n es) (entries_with n es) ≡ []
    by true is k rest = absurd cc
    by false is k rest = ap (λ (b : Bool). cond b (e ∷ entries_with n es) (entries_with n es)) is ∙ rest k

-- the entry of an lfn that was not there
alone : (es : List Replica) (e : Replica) → list_any (bytes_eq e.lfn) (lfns_of es) ≡ false → joined_entry (es ++ e ∷ []) e.lfn ≡ e
alone es e h =
    grown es e e.lfn
    ∙ ap (λ (b : Bool). cond b (absorbed (joined_entry es e.lfn) e) (joined_entry es e.lfn)) (alike e.lfn)
    ∙ ap (λ (fs : List Replica). absorbed (made e.lfn fs) e) (none_with e.lfn es h)

one_more : (es : List Replica) (e : Replica) → with_entry (joined es) e ≡ joined (es ++ e ∷ [])
one_more es e =
    by (list_any (bytes_eq e.lfn) (lfns_of es)) refl
    ∙ sym (ap (map (joined_entry (es ++ e ∷ []))) (ap distinct (map-append (λ (f : Replica). f.lfn) es (e ∷ [])) ∙ distinct_more e.lfn (lfns_of es)))
  where
    by : (b : Bool) → list_any (bytes_eq e.lfn) (lfns_of es) ≡ b → with_entry (joined es) e ≡ map (joined_entry (es ++ e ∷ [])) (cond b (distinct (lfns_of es)) (distinct (lfns_of es) ++ e.lfn ∷ []))
    by true h = with_known es e (distinct (lfns_of es)) (distinct_apart (lfns_of es)) (any_distinct e.lfn (lfns_of es) ∙ h)
    by false h =
        let new : list_any (bytes_eq e.lfn) (distinct (lfns_of es)) ≡ false = any_distinct e.lfn (lfns_of es) ∙ h in
        not_there (joined es) e (ap (list_any (bytes_eq e.lfn)) (lfns_back es (distinct (lfns_of es))) ∙ new)
        ∙ ap (λ (rs : List Replica). rs ++ e ∷ []) (untouched es e (distinct (lfns_of es)) new)
        ∙ ap (λ (r : Replica). map (joined_entry (es ++ e ∷ [])) (distinct (lfns_of es)) ++ r ∷ []) (sym (alone es e h))
        ∙ sym (map-append (joined_entry (es ++ e ∷ [])) (distinct (lfns_of es)) (e.lfn ∷ []))

after : (es fs : List Replica) → with_entries (joined es) fs ≡ joined (es ++ fs)
after es [] = ap joined (sym (append-nil es))
after es (f ∷ fs) =
    ap (λ (rs : List Replica). with_entries rs fs) (one_more es f)
    ∙ after (es ++ f ∷ []) fs
    ∙ ap joined (append_assoc es (f ∷ []) fs)

-- entries that are joined one after the other are those of their lfns
pub joined_in_turn : (es : List Replica) → with_entries [] es ≡ joined es
joined_in_turn es = after [] es
