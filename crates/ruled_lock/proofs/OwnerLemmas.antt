-- The owners of numbers: at each number the place of the pass that stands for it.
use Rattle.std.proofs.Common.{◌≡◌, ◌≢◌, ℕ, zero, suc, ◌+◌, ◌≤◌, ◌==◌, List, [], ◌∷◌, ◌++◌, length, Bool, cond, map, refl, sym, ap, ◌∙◌, arith, zero-add, ne_eqb}
use Rattle.std.specs.List.{count_by}
use Rattle.std.proofs.lemmas.Bool.{eq-eqb}
use Rattle.std.proofs.lemmas.List.Sums.{sum_by-append, count_by-le-length}
use mathlib.Core.Option.{some, some-injective, some-ne-none}
use mathlib.Core.Logic.{dite}
use native.Mathlib.Decide.{ℕ_discrete}
use lib.ListN.{get_elem?}
use Rattle.atomic_table.proofs.Lists.{at_map}
use Rattle.ruled_lock.proofs.ListLemmas.{sum_cons}

abbrev pub one_if : Bool → ℕ
one_if b = cond b 1 0

abbrev pub hit : ℕ → ℕ → ℕ
hit m j = one_if (m == j)

pub hit_one : (m j : ℕ) → m ≡ j → hit m j ≡ 1
hit_one m j e = ap (λ b. one_if b) (eq-eqb m j e)

pub hit_none : (m j : ℕ) → m ≢ j → hit m j ≡ 0
hit_none m j e = ap (λ b. one_if b) (ne_eqb m j e)

pub count_snoc : (j : ℕ) (os : List ℕ) (m : ℕ) → count_by (λ o. o == j) (os ++ m ∷ []) ≡ count_by (λ o. o == j) os + hit m j
count_snoc j os m = sum_by-append (λ (o : ℕ). hit o j) os (m ∷ []) ∙ ap (λ n. count_by (λ o. o == j) os + n) (zero-add (hit m j))

pub count_none : (j : ℕ) (os : List ℕ) → ((k o : ℕ) → get_elem? os k ≡ some o → o ≢ j) → count_by (λ o. o == j) os ≡ 0
count_none j [] h = refl
count_none j (o ∷ os) h = sum_cons (λ (o : ℕ). hit o j) o os ∙ (λ i. hit_none o j (h 0 o refl) i + count_none j os (λ k. h (suc k)) i)

-- the owner after the pass `gone` was joined to the pass id
abbrev pub owner_of : ℕ → ℕ → ℕ → ℕ
owner_of gone id o = cond (o == gone) id o

pub owner_gone : (gone id : ℕ) → owner_of gone id gone ≡ id
owner_gone gone id = ap (λ b. cond b id gone) (eq-eqb gone gone refl)

pub owner_else : (gone id o : ℕ) → o ≢ gone → owner_of gone id o ≡ o
owner_else gone id o n = ap (λ b. cond b id o) (ne_eqb o gone n)

pub owners_long : (gone id : ℕ) (os : List ℕ) → length (map (owner_of gone id) os) ≡ length os
owners_long gone id [] = refl
owners_long gone id (o ∷ os) = ap suc (owners_long gone id os)

pub owners_at : (gone id : ℕ) (os : List ℕ) (k j : ℕ) → get_elem? (map (owner_of gone id) os) k ≡ some j → (o : ℕ) × (get_elem? os k ≡ some o) × (owner_of gone id o ≡ j)
owners_at gone id [] k j e = absurd (some-ne-none j (sym e))
owners_at gone id (o ∷ os) zero j e = (o, refl, some-injective (owner_of gone id o) j e)
owners_at gone id (o ∷ os) (suc k) j e = owners_at gone id os k j e

pub at_owners : (gone id : ℕ) (os : List ℕ) (k o : ℕ) → get_elem? os k ≡ some o → get_elem? (map (owner_of gone id) os) k ≡ some (owner_of gone id o)
at_owners gone id os k o e = at_map (owner_of gone id) os k o e

hit_joined : (gone id o : ℕ) → gone ≢ id → hit (owner_of gone id o) id ≡ hit o id + hit o gone
hit_joined gone id o apart = dite (ℕ_discrete o gone)
    (λ is. let a : hit (owner_of gone id o) id ≡ 1 = ap (λ k. hit k id) (ap (owner_of gone id) is ∙ owner_gone gone id) ∙ hit_one id id refl in let b : hit o id ≡ 0 = hit_none o id (λ h. apart (sym is ∙ h)) in let c : hit o gone ≡ 1 = hit_one o gone is in omega arith)
    (λ not. let a : hit (owner_of gone id o) id ≡ hit o id = ap (λ k. hit k id) (owner_else gone id o not) in let c : hit o gone ≡ 0 = hit_none o gone not in omega arith)

pub count_joined : (gone id : ℕ) (os : List ℕ) → gone ≢ id → count_by (λ o. o == id) (map (owner_of gone id) os) ≡ count_by (λ o. o == id) os + count_by (λ o. o == gone) os
count_joined gone id [] apart = refl
count_joined gone id (o ∷ os) apart =
    let rest = count_joined gone id os apart in
    let one = hit_joined gone id o apart in
    let a = sum_cons (λ (o : ℕ). hit o id) (owner_of gone id o) (map (owner_of gone id) os) in
    let b = sum_cons (λ (o : ℕ). hit o id) o os in
    let c = sum_cons (λ (o : ℕ). hit o gone) o os in
    a ∙ ((λ i. one i + rest i) ∙ (four (hit o id) (hit o gone) (count_by (λ o. o == id) os) (count_by (λ o. o == gone) os) ∙ (λ i. sym b i + sym c i)))
  where
    four : (a b c d : ℕ) → (a + b) + (c + d) ≡ (a + c) + (b + d)
    four a b c d = omega arith

hit_kept : (gone id j o : ℕ) → j ≢ id → j ≢ gone → hit (owner_of gone id o) j ≡ hit o j
hit_kept gone id j o ni ng = dite (ℕ_discrete o gone)
    (λ is. let a : hit (owner_of gone id o) j ≡ 0 = ap (λ k. hit k j) (ap (owner_of gone id) is ∙ owner_gone gone id) ∙ hit_none id j (λ h. ni (sym h)) in let b : hit o j ≡ 0 = hit_none o j (λ h. ng (sym h ∙ is)) in omega arith)
    (λ not. ap (λ k. hit k j) (owner_else gone id o not))

pub count_kept : (gone id j : ℕ) (os : List ℕ) → j ≢ id → j ≢ gone → count_by (λ o. o == j) (map (owner_of gone id) os) ≡ count_by (λ o. o == j) os
count_kept gone id j [] ni ng = refl
count_kept gone id j (o ∷ os) ni ng =
    sum_cons (λ (o : ℕ). hit o j) (owner_of gone id o) (map (owner_of gone id) os)
    ∙ ((λ i. hit_kept gone id j o ni ng i + count_kept gone id j os ni ng i) ∙ sym (sum_cons (λ (o : ℕ). hit o j) o os))

hit_le : (o j : ℕ) → hit o j ≤ 1
hit_le o j = dite (ℕ_discrete o j) (λ is. let a = hit_one o j is in omega arith) (λ not. let a = hit_none o j not in omega arith)

pub count_le : (j : ℕ) (os : List ℕ) → count_by (λ o. o == j) os ≤ length os
count_le j os = count_by-le-length (λ o. o == j) os

-- where all owners are counted, all are the same
pub count_all : (j : ℕ) (os : List ℕ) → count_by (λ o. o == j) os ≡ length os → (k o : ℕ) → get_elem? os k ≡ some o → o ≡ j
count_all j [] c k o e = absurd (some-ne-none o (sym e))
count_all j (x ∷ os) c zero o e =
    let a = sum_cons (λ (o : ℕ). hit o j) x os in
    let b = count_le j os in
    let same : x ≡ o = some-injective x o e in
    dite (ℕ_discrete x j) (λ is. sym same ∙ is) (λ not. let z = hit_none x j not in absurd (omega arith))
count_all j (x ∷ os) c (suc k) o e =
    let a = sum_cons (λ (o : ℕ). hit o j) x os in
    let b = count_le j os in
    let h = hit_le x j in
    count_all j os (omega arith) k o e
