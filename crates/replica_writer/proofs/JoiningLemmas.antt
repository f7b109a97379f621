-- Entries of which no two have one lfn are joined as they are.
use Rattle.std.proofs.Common.{◌≡◌, ℕ, Bool, false, not, cond, List, [], ◌∷◌, map, filter, refl, sym, ap, ap₂, subst, ◌∙◌}
use Rattle.std.specs.List.{AllByRecursion, IsDistinct}
use Rattle.std.specs.Str.{bytes_eq}
use Rattle.std.specs.Cmp.Lexicographic.{bytes_decides, nat_list_eq_equiv}
use Rattle.std.proofs.lemmas.Map.Keys.{IsDistinct-head, IsDistinct-tail}
use Rattle.replica_catalog.specs.declared.catalog.Replica.{Replica}
use Rattle.replica_catalog.specs.Lookup.{entries_with, first_checksum, joined, joined_entry, lfns_of, pfns_of_entries}
use Rattle.values.specs.Distinct.{distinct}
use Rattle.replica_writer.specs.Document.{Registration, replica}

abbrev pub IsFar : List ℕ → List (List ℕ) → Type 0
IsFar n ns = AllByRecursion (λ m. bytes_eq n m ≡ false) ns

abbrev AreAlone : List Replica → List Replica → Type 0
AreAlone es xs = AllByRecursion (λ (e : Replica). entries_with e.lfn es ≡ e ∷ []) xs

none_with : (n : List ℕ) (es : List Replica) → IsFar n (lfns_of es) → entries_with n es ≡ []
none_with n [] far = refl
none_with n (e ∷ es) far = ap (λ (b : Bool). cond b (e ∷ entries_with n es) (entries_with n es)) (nat_list_eq_equiv.symm e.lfn n ∙ far.0) ∙ none_with n es far.1

alone_more : (h : Replica) (es xs : List Replica) → IsFar h.lfn (lfns_of xs) → AreAlone es xs → AreAlone (h ∷ es) xs
alone_more h es [] far all = tt
alone_more h es (x ∷ xs) far all = (ap (λ (b : Bool). cond b (h ∷ entries_with x.lfn es) (entries_with x.lfn es)) far.0 ∙ all.0, alone_more h es xs far.1 all.1)

alone : (es : List Replica) → IsDistinct bytes_eq (lfns_of es) → AreAlone es es
alone [] apart = tt
alone (e ∷ es) apart =
    let far : IsFar e.lfn (lfns_of es) = IsDistinct-head bytes_eq e.lfn (lfns_of es) apart in (
      ap (λ (b : Bool). cond b (e ∷ entries_with e.lfn es) (entries_with e.lfn es)) ((bytes_decides e.lfn e.lfn).1 refl) ∙ ap (λ (l : List Replica). e ∷ l) (none_with e.lfn es far),
      alone_more e es es far (alone es (IsDistinct-tail bytes_eq e.lfn (lfns_of es) apart)),
    )

all_kept : (n : List ℕ) (ns : List (List ℕ)) → IsFar n ns → filter (λ m. not (bytes_eq m n)) ns ≡ ns
all_kept n [] far = refl
all_kept n (m ∷ ns) far =
    ap (λ (b : Bool). cond (not b) (m ∷ filter (λ m. not (bytes_eq m n)) ns) (filter (λ m. not (bytes_eq m n)) ns)) (nat_list_eq_equiv.symm m n ∙ far.0)
    ∙ ap (λ (l : List (List ℕ)). m ∷ l) (all_kept n ns far.1)

distinct_same : (ns : List (List ℕ)) → IsDistinct bytes_eq ns → distinct ns ≡ ns
distinct_same [] apart = refl
distinct_same (n ∷ ns) apart =
    ap (λ (l : List (List ℕ)). n ∷ filter (λ m. not (bytes_eq m n)) l) (distinct_same ns (IsDistinct-tail bytes_eq n ns apart))
    ∙ ap (λ (l : List (List ℕ)). n ∷ l) (all_kept n ns (IsDistinct-head bytes_eq n ns apart))

each_joined : (es : List Replica) (rs : List Registration) → AreAlone es (map replica rs) → map (joined_entry es) (lfns_of (map replica rs)) ≡ map replica rs
each_joined es [] all = refl
each_joined es (r ∷ rs) all =
    ap₂ (λ (e : Replica) (l : List Replica). e ∷ l)
    (ap (λ (l : List Replica). record { lfn = r.lfn; pfns = pfns_of_entries l; checksum = first_checksum l }) all.0)
    (each_joined es rs all.1)

lfns_are : (rs : List Registration) → lfns_of (map replica rs) ≡ map (λ (r : Registration). r.lfn) rs
lfns_are [] = refl
lfns_are (r ∷ rs) = ap (λ (l : List (List ℕ)). r.lfn ∷ l) (lfns_are rs)

pub joined_same : (rs : List Registration) → IsDistinct bytes_eq (map (λ (r : Registration). r.lfn) rs) → joined (map replica rs) ≡ map replica rs
joined_same rs apart =
    let es : List Replica = map replica rs in
    let far : IsDistinct bytes_eq (lfns_of es) = subst (IsDistinct bytes_eq) (sym (lfns_are rs)) apart in
    ap (map (joined_entry es)) (distinct_same (lfns_of es) far) ∙ each_joined es rs (alone es far)
