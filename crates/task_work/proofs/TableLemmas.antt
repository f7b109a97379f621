-- Bytes by file number, one file more.
use Rattle.std.proofs.Common.{◌≡◌, ℕ, zero, suc, ◌+◌, ◌-◌, ◌<◌, ◌≤◌, ◌||◌, ◌⊎◌, inl, inr, Bool, true, false, cond, nat_eq, List, [], ◌∷◌, ◌++◌, length, map, take, drop, get_or, refl, sym, ap, subst, ◌∙◌, length-append, drop-cons, arith, min}
use Rattle.std.specs.Prelude.{Option, Some, None, is_some, if◌then◌else◌}
use Rattle.std.proofs.lemmas.Bool.{cases_lt}
use Rattle.std.proofs.lemmas.List.{take_more}
use Rattle.values.specs.Apply.{part}
use Rattle.values.specs.declared.numbers.FileId.{FileId}
use Rattle.plan_core.specs.Numbers.{has, or_else}
use Rattle.plan_core.specs.Words.{file_numbers}
use Rattle.plan_core.proofs.TestLemmas.{by_bool, is_itself, or_left, or_right, same_number}
use Rattle.storage_simulation.specs.Following.{AreOnce}
use Rattle.storage_simulation.proofs.FollowingLemmas.{once_parts}
use Rattle.task_work.specs.Table.{at}
use Rattle.task_work.specs.declared.table.Table.{Table}

-- what was found before, and what is still looked up
abbrev pub with_front : List (List ℕ) → Option (List (List ℕ)) → Option (List (List ℕ))
with_front front None = None
with_front front (Some vs) = Some (front ++ vs)

-- two lists with one last element each
snoc_same : {A : Type 0} (xs ys : List A) (x y : A) → xs ++ x ∷ [] ≡ ys ++ y ∷ [] → (xs ≡ ys) × (x ≡ y)
snoc_same [] [] x y e = (refl, cc)
snoc_same [] (w ∷ []) x y e = absurd (let n : 1 ≡ 2 = ap length e in omega arith)
snoc_same [] (w ∷ u ∷ ys) x y e = absurd (let n : 1 ≡ length (w ∷ u ∷ ys ++ y ∷ []) = ap length e in omega (arith, n))
snoc_same (z ∷ xs) [] x y e = absurd (let n : length (z ∷ xs ++ x ∷ []) ≡ 1 = ap length e in omega (arith, length-append xs (x ∷ []), n))
snoc_same (z ∷ xs) (w ∷ ys) x y e =
    let heads : z ≡ w = cc in
    let tails : xs ++ x ∷ [] ≡ ys ++ y ∷ [] = cc in
    let rest = snoc_same xs ys x y tails in
    (rw (heads, rest.0) refl, rest.1)

-- the last of a front
pub split_last : {A : Type 0} (vs new : List A) (a : ℕ) (v : A) → 0 < a → a ≤ length vs → take a vs ≡ new ++ v ∷ [] → (new ≡ take (a - 1) vs) × (v ≡ get_or vs (a - 1) v)
split_last {A} vs new a v h k e =
    let one_less : a ≡ (a - 1) + 1 = omega arith in
    let cut : take a vs ≡ take (a - 1) vs ++ get_or vs (a - 1) v ∷ [] = ap (λ (n : ℕ). take n vs) one_less ∙ take_more vs (a - 1) v (omega arith) in
    snoc_same new (take (a - 1) vs) v (get_or vs (a - 1) v) (sym e ∙ cut)

-- one element more of the rest
uncut : {A : Type 0} (xs : List A) (a : ℕ) (d : A) → 0 < a → a ≤ length xs → drop (a - 1) xs ≡ get_or xs (a - 1) d ∷ drop a xs
uncut xs a d h k =
    let one_less : suc (a - 1) ≡ a = omega arith in
    drop-cons xs (a - 1) d (omega arith) ∙ ap (λ (n : ℕ). get_or xs (a - 1) d ∷ drop n xs) one_less

or_first : (b : Bool) (v : List ℕ) (y z : Option (List ℕ)) → cond b (Some v) (or_else y z) ≡ or_else (if b then Some v else y) z
or_first true v y z = refl
or_first false v y z = refl

-- one file more, counted from the last
pub placed_more : (os : List ℕ) (vs : List (List ℕ)) (a o : ℕ) (v : List ℕ) (f : ℕ) (now_ before first : Option (List ℕ)) → 0 < a → a ≤ length os → a ≤ length vs → get_or os (a - 1) o ≡ o → v ≡ get_or vs (a - 1) v
    → now_ ≡ cond (nat_eq o f) (Some v) before → before ≡ or_else (part f (drop a os) (drop a vs)) first → now_ ≡ or_else (part f (drop (a - 1) os) (drop (a - 1) vs)) first
placed_more os vs a o v f now_ before first h k l is_file is put so_far =
    put
    ∙ ap (cond (nat_eq o f) (Some v)) so_far
    ∙ or_first (nat_eq o f) v (part f (drop a os) (drop a vs)) first
    ∙ ap (λ xs. or_else (part f xs (v ∷ drop a vs)) first) (sym (uncut os a o h k ∙ ap (λ p. p ∷ drop a os) is_file))
    ∙ ap (λ ys. or_else (part f (drop (a - 1) os) ys) first) (sym (uncut vs a v h l ∙ ap (λ p. p ∷ drop a vs) (sym is)))

-- no file is looked up past the end
part_none : (f : ℕ) (os : List ℕ) → part f os [] ≡ None
part_none f [] = refl
part_none f (o ∷ os) = refl

drop_all : {A : Type 0} (n : ℕ) (xs : List A) → length xs ≤ n → drop n xs ≡ []
drop_all zero [] h = refl
drop_all zero (x ∷ xs) h = absurd (omega (arith, h))
drop_all (suc n) [] h = refl
drop_all (suc n) (x ∷ xs) h = drop_all n xs (omega (arith, h))

take_whole : {A : Type 0} (n : ℕ) (xs : List A) → length xs ≤ n → take n xs ≡ xs
take_whole zero [] h = refl
take_whole zero (x ∷ xs) h = absurd (omega (arith, h))
take_whole (suc n) [] h = refl
take_whole (suc n) (x ∷ xs) h = ap (λ l. x ∷ l) (take_whole n xs (omega (arith, h)))

pub placed_none : (os : List ℕ) (vs : List (List ℕ)) (n f : ℕ) (first : Option (List ℕ)) → length vs ≤ n → first ≡ or_else (part f (drop n os) (drop n vs)) first
placed_none os vs n f first h = sym (ap (λ l. or_else (part f (drop n os) l) first) (drop_all n vs h) ∙ ap (λ x. or_else x first) (part_none f (drop n os)))

pub whole_front : (n : ℕ) (vs : List (List ℕ)) → length vs ≤ n → vs ≡ take n vs
whole_front n vs h = sym (take_whole n vs h)

part_front : (f n : ℕ) (os : List ℕ) (vs : List (List ℕ)) → length os ≤ n → part f os (take n vs) ≡ part f os vs
part_front f n [] vs h = refl
part_front f zero (o ∷ os) vs h = absurd (omega (arith, h))
part_front f (suc n) (o ∷ os) [] h = refl
part_front f (suc n) (o ∷ os) (v ∷ vs) h = ap (λ x. if nat_eq o f then Some v else x) (part_front f n os vs (omega (arith, h)))

-- as many as both have
pub part_both : (f n : ℕ) (os : List ℕ) (vs : List (List ℕ)) → (length os ≤ n) ⊎ (length vs ≤ n) → part f os (take n vs) ≡ part f os vs
part_both f n os vs h = elim h [
  | inl files ↦ part_front f n os vs files
  | inr blobs ↦ ap (part f os) (take_whole n vs blobs)
]

-- a file taken out, of which no other one is asked
others_stay : (t u : Table) (x : ℕ) (fs : List ℕ) → ((f : ℕ) → at u f ≡ cond (nat_eq x f) None (at t f)) → has fs x ≡ false → map (at t) fs ≡ map (at u) fs
others_stay t u x [] left h = refl
others_stay t u x (f ∷ fs) left h = by_bool (nat_eq f x)
    (λ here. absurd (let e = sym (ap (λ b. b || has fs x) here) ∙ h in cc))
    (λ off.
    ap (λ o. o ∷ map (at t) fs) (sym (left f ∙ ap (λ b. cond b None (at t f)) (other_way f x off)))
    ∙ ap (λ l. at u f ∷ l) (others_stay t u x fs left (sym (ap (λ b. b || has fs x) off) ∙ h)))
  where
    other_way : (a b : ℕ) → nat_eq a b ≡ false → nat_eq b a ≡ false
    other_way a b h = grind (arith, h)

front_more : (blobs : List (List ℕ)) (blob : List ℕ) (rest : List (Option (List ℕ))) → map Some blobs ++ Some blob ∷ rest ≡ map Some (blobs ++ blob ∷ []) ++ rest
front_more [] blob rest = refl
front_more (b ∷ blobs) blob rest = ap (λ l. Some b ∷ l) (front_more blobs blob rest)

pub taken_more : (t u : Table) (first : List (Option (List ℕ))) (blobs new : List (List ℕ)) (blob : List ℕ) (fs rest : List ℕ) (x : ℕ) → fs ≡ x ∷ rest → AreOnce fs → Some blob ≡ at t x → ((f : ℕ) → at u f ≡ cond (nat_eq x f) None (at t f)) → new ≡ blobs ++ blob ∷ []
    → first ≡ map Some blobs ++ map (at t) fs → first ≡ map Some new ++ map (at u) rest
taken_more t u first blobs new blob fs rest x cut once is left pushed so_far =
    let parts = once_parts x rest (subst AreOnce cut once) in
    so_far
    ∙ ap (λ l. map Some blobs ++ map (at t) l) cut
    ∙ ap (λ o. map Some blobs ++ o ∷ map (at t) rest) (sym is)
    ∙ front_more blobs blob (map (at t) rest)
    ∙ ap (λ l. map Some (blobs ++ blob ∷ []) ++ l) (others_stay t u x rest left parts.0)
    ∙ ap (λ l. map Some l ++ map (at u) rest) (sym pushed)

pub once_rest : (fs rest : List ℕ) (x : ℕ) → fs ≡ x ∷ rest → AreOnce fs → AreOnce rest
once_rest fs rest x cut once = (once_parts x rest (subst AreOnce cut once)).1

pub there_rest : (t u : Table) (fs rest : List ℕ) (x : ℕ) → fs ≡ x ∷ rest → AreOnce fs → ((f : ℕ) → at u f ≡ cond (nat_eq x f) None (at t f)) → ((f : ℕ) → has fs f ≡ true → is_some (at t f) ≡ true) → (f : ℕ) → has rest f ≡ true → is_some (at u f) ≡ true
there_rest t u fs rest x cut once left there f h = by_bool (nat_eq x f)
    (λ here. absurd (let gone = (once_parts x rest (subst AreOnce cut once)).0 in let e = subst (λ z. has rest z ≡ true) (sym (same_number x f here)) h in let clash : true ≡ false = sym e ∙ gone in cc))
    (λ off. ap is_some (left f ∙ ap (λ b. cond b None (at t f)) off) ∙ there f (subst (λ l. has l f ≡ true) (sym cut) (or_right (nat_eq x f) (has rest f) h)))

pub not_there : (t : Table) (fs rest : List ℕ) (x : ℕ) → fs ≡ x ∷ rest → ((f : ℕ) → has fs f ≡ true → is_some (at t f) ≡ true) → None ≡ at t x → ⊥
not_there t fs rest x cut there none =
    let some = there x (subst (λ l. has l x ≡ true) (sym cut) (or_left (nat_eq x x) (has rest x) (is_itself x))) in
    let e : false ≡ true = ap is_some none ∙ some in absurd cc

-- the next file of a loop
numbers_cut : (files : List FileId) (k : ℕ) (d : FileId) → k < length files → file_numbers (drop k files) ≡ (get_or files k d).0 ∷ file_numbers (drop (suc k) files)
numbers_cut files k d h = ap file_numbers (drop-cons files k d h)

pub next_file : (files : List FileId) (k : ℕ) (d : FileId) → k < length files → file_numbers (drop k files) ≡ (get_or files k d).0 ∷ file_numbers (drop (k + 1) files)
next_file files k d h =
    let e : suc k ≡ k + 1 = omega arith in
    numbers_cut files k d h ∙ ap (λ n. (get_or files k d).0 ∷ file_numbers (drop n files)) e

-- the lesser of two lengths
take_long : {A : Type 0} (n : ℕ) (xs : List A) → n ≤ length xs → length (take n xs) ≡ n
take_long zero xs h = refl
take_long (suc n) [] h = absurd (omega (arith, h))
take_long (suc n) (x ∷ xs) h = ap suc (take_long n xs (omega (arith, h)))

pub front_long : (vs ws : List (List ℕ)) (n a l : ℕ) → n ≡ min a l → l ≡ length vs → ws ≡ take n vs → length ws ≡ n
front_long vs ws n a l e long is = ap length is ∙ take_long n vs (omega (arith, e, long))

pub one_whole : (n a l x y : ℕ) → n ≡ min a l → x ≡ a → l ≡ y → (x ≤ n) ⊎ (y ≤ n)
one_whole n a l x y e f g = elim (cases_lt a l) [
  | inl less ↦ inl (omega (arith, e, f, less))
  | inr more ↦ inr (omega (arith, e, g, more))
]
