-- A catalogue in which no name comes twice is its own joined one.
use Rattle.std.proofs.Common.{◌≡◌, ℕ, Bool, true, false, not, cond, List, [], ◌∷◌, map, filter, refl, sym, ap, ◌∙◌}
use Rattle.std.specs.Prelude.{Option, None}
use Rattle.std.specs.List.{AllByRecursion}
use Rattle.std.specs.Option.{option_or}
use Rattle.std.specs.Str.{bytes_eq}
use Rattle.std.proofs.lemmas.List.{append-nil}
use Rattle.workflow_core.specs.code.Law.{NumbersNames}
use Rattle.workflow_core.specs.code.WellFormed.{are_distinct}
use Rattle.replica_catalog.specs.declared.catalog.Pfn.{Pfn}
use Rattle.replica_catalog.specs.declared.catalog.Replica.{Replica}
use Rattle.replica_catalog.specs.Lookup.{entries_with, first_checksum, joined, joined_entry, lfns_of, pfns_of_entries}
use Rattle.values.specs.Distinct.{distinct}
use Rattle.ensemble.proofs.DistinctLemmas.{all_unmapped, first_apart, rest_distinct}
use Rattle.ensemble.proofs.LookupLemmas.{or_nothing}
use Rattle.ensemble.proofs.PrefixLemmas.{not_same, own_name}

-- ---- joined entries have distinct names

names_of_joined : (es : List Replica) (ns : List (List ℕ)) → lfns_of (map (joined_entry es) ns) ≡ ns
names_of_joined es [] = refl
names_of_joined es (n ∷ ns) = ap (λ (ms : List (List ℕ)). n ∷ ms) (names_of_joined es ns)

pub joined_distinct : NumbersNames → (es all : List Replica) → es ≡ joined all → are_distinct bytes_eq (lfns_of es) ≡ true
joined_distinct law es all is =
    ap (λ (xs : List Replica). are_distinct bytes_eq (lfns_of xs)) is
    ∙ ap (are_distinct bytes_eq) (names_of_joined all (distinct (lfns_of all)))
    ∙ law.once (lfns_of all)

-- ---- and entries with distinct names are joined

filter_all : (n : List ℕ) (ns : List (List ℕ)) → AllByRecursion (λ (m : List ℕ). bytes_eq m n ≡ false) ns → filter (λ m. not (bytes_eq m n)) ns ≡ ns
filter_all n [] h = refl
filter_all n (m ∷ ns) h =
    ap (λ (b : Bool). cond (not b) (m ∷ filter (λ k. not (bytes_eq k n)) ns) (filter (λ k. not (bytes_eq k n)) ns)) h.0
    ∙ ap (λ (ks : List (List ℕ)). m ∷ ks) (filter_all n ns h.1)

distinct_itself : (ns : List (List ℕ)) → are_distinct bytes_eq ns ≡ true → distinct ns ≡ ns
distinct_itself [] h = refl
distinct_itself (n ∷ ns) h =
    ap (λ (ms : List (List ℕ)). n ∷ filter (λ m. not (bytes_eq m n)) ms) (distinct_itself ns (rest_distinct bytes_eq n ns h))
    ∙ ap (λ (ms : List (List ℕ)). n ∷ ms) (filter_all n ns (first_apart bytes_eq n ns h))

none_with : (lfn : List ℕ) (es : List Replica) → AllByRecursion (λ (e : Replica). bytes_eq e.lfn lfn ≡ false) es → entries_with lfn es ≡ []
none_with lfn [] h = refl
none_with lfn (e ∷ es) h = ap (λ (b : Bool). cond b (e ∷ entries_with lfn es) (entries_with lfn es)) h.0 ∙ none_with lfn es h.1

abbrev entry_by : List ℕ → List Replica → Replica
entry_by lfn es = record { lfn = lfn; pfns = pfns_of_entries es; checksum = first_checksum es }

alone : (e : Replica) → entry_by e.lfn (e ∷ []) ≡ e
alone e =
    ap (λ (ps : List Pfn). (record { lfn = e.lfn; pfns = ps; checksum = option_or e.checksum None })) (append-nil e.pfns)
    ∙ ap (λ (o : Option (List ℕ)). (record { lfn = e.lfn; pfns = e.pfns; checksum = o })) (or_nothing e.checksum)

first_joined : (e : Replica) (es : List Replica) → AllByRecursion (λ (x : Replica). bytes_eq x.lfn e.lfn ≡ false) es → joined_entry (e ∷ es) e.lfn ≡ e
first_joined e es h =
    ap (λ (b : Bool). entry_by e.lfn (cond b (e ∷ entries_with e.lfn es) (entries_with e.lfn es))) (own_name e.lfn)
    ∙ ap (λ (xs : List Replica). entry_by e.lfn (e ∷ xs)) (none_with e.lfn es h)
    ∙ alone e

rest_joined : (e : Replica) (es xs : List Replica) → AllByRecursion (λ (x : Replica). bytes_eq x.lfn e.lfn ≡ false) xs → map (joined_entry (e ∷ es)) (lfns_of xs) ≡ map (joined_entry es) (lfns_of xs)
rest_joined e es [] h = refl
rest_joined e es (x ∷ xs) h =
    ap (λ (b : Bool). entry_by x.lfn (cond b (e ∷ entries_with x.lfn es) (entries_with x.lfn es)) ∷ map (joined_entry (e ∷ es)) (lfns_of xs)) (not_same x.lfn e.lfn h.0)
    ∙ ap (λ (ys : List Replica). joined_entry es x.lfn ∷ ys) (rest_joined e es xs h.1)

each_joined : (es : List Replica) → are_distinct bytes_eq (lfns_of es) ≡ true → map (joined_entry es) (lfns_of es) ≡ es
each_joined [] h = refl
each_joined (e ∷ es) h =
    let apart = all_unmapped (λ n. bytes_eq n e.lfn ≡ false) (λ (x : Replica). x.lfn) es (first_apart bytes_eq e.lfn (lfns_of es) h) in
    ap (λ (x : Replica). x ∷ map (joined_entry (e ∷ es)) (lfns_of es)) (first_joined e es apart)
    ∙ ap (λ (xs : List Replica). e ∷ xs) (rest_joined e es es apart ∙ each_joined es (rest_distinct bytes_eq e.lfn (lfns_of es) h))

pub distinct_joined : (es : List Replica) → are_distinct bytes_eq (lfns_of es) ≡ true → es ≡ joined es
distinct_joined es h = sym (ap (λ (ns : List (List ℕ)). map (joined_entry es) ns) (distinct_itself (lfns_of es) h) ∙ each_joined es h)
