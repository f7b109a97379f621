-- Places that positions take, and keys that are taken away.
use Rattle.std.proofs.Common.{◌≡◌, ℕ, zero, suc, ◌+◌, ◌<◌, ◌≤◌, ◌⊎◌, inl, inr, Bool, true, false, cond, nat_eq, List, [], ◌∷◌, ◌++◌, length, take, get_or, Option, None, refl, sym, ap, subst, ◌∙◌, arith}
use Rattle.std.specs.Prelude.{Vec, filter, replicate, set}
use Rattle.std.specs.declared.alloc.Global.{Global}
use Rattle.std.proofs.lemmas.Bool.{cases_lt, cases_eq}
use Rattle.std.proofs.lemmas.List.{get_or-set_other, get_or-set_same, get_or_past, length-set}
use Rattle.tournament_tree.specs.Tree.{entry}
use Rattle.tournament_tree.specs.declared.tree.Key.{Key}
use Rattle.tournament_tree.specs.declared.tree.Tree.{Tree}
use Rattle.group_index.specs.Index.{AreBare, AreSeated, count_before, rows_at}
use Rattle.group_index.proofs.IndexLemmas.{counts_step}

get_none : (n g : ℕ) → get_or (replicate n 0) g 0 ≡ (let none : ℕ = 0 in none)
get_none zero g = refl
get_none (suc n) zero = refl
get_none (suc n) (suc g) = get_none n g

pub seated_first : (groups seats used : List ℕ) (n k : ℕ) → k ≡ 0 → used ≡ replicate n 0 → AreSeated groups seats used k
seated_first groups seats used n k e is = record {
  each = λ j l. absurd (omega (arith, l, e));
  counts = λ g l. ap (λ (xs : List ℕ). get_or xs g 0) is ∙ get_none n g ∙ sym (ap (count_before groups g) e ∙ none groups g);
}
  where
    none : (gs : List ℕ) (g : ℕ) → count_before gs g 0 ≡ 0
    none [] g = refl
    none (x ∷ xs) g = refl

pub seated_next : (groups seats used : List ℕ) (k seat : ℕ) → k < length groups → length seats ≡ length groups → get_or groups k 0 < length used → seat ≡ get_or used (get_or groups k 0) 0
    → AreSeated groups seats used k → AreSeated groups (set seats k seat) (set used (get_or groups k 0) (seat + 1)) (k + 1)
seated_next groups seats used k seat l long in_used is so_far = record {
  each = λ j less. each j less (cases_eq j k);
  counts = λ g less. counts g (let same = length-set used (get_or groups k 0) (seat + 1) in omega (arith, less, same)) (cases_eq g (get_or groups k 0));
}
  where
    each : (j : ℕ) → j < k + 1 → (j ≡ k) ⊎ (j ≡ k → ⊥) → get_or (set seats k seat) j 0 ≡ count_before groups (get_or groups j 0) j
    each j less (inl same) = ap (λ (i : ℕ). get_or (set seats k seat) i 0) same ∙ get_or-set_same seats k seat 0 (omega (arith, l, long)) ∙ is ∙ so_far.counts (get_or groups k 0) in_used ∙ sym (ap (λ (i : ℕ). count_before groups (get_or groups i 0) i) same)
    each j less (inr other) = get_or-set_other seats k j seat 0 other ∙ so_far.each j (omega (arith, less, other))

    step : (g n : ℕ) → nat_eq (get_or groups k 0) g ≡ false → count_before groups g (k + 1) ≡ count_before groups g k
    step g n e = let more = counts_step groups g k l in let none = ap (λ (b : Bool). cond {A = ℕ} b 1 0) e in omega (arith, more, none)

    counts : (g : ℕ) → g < length used → (g ≡ get_or groups k 0) ⊎ (g ≡ get_or groups k 0 → ⊥) → get_or (set used (get_or groups k 0) (seat + 1)) g 0 ≡ count_before groups g (k + 1)
    counts g less (inl same) =
        let at = ap (λ (i : ℕ). get_or (set used (get_or groups k 0) (seat + 1)) i 0) same ∙ get_or-set_same used (get_or groups k 0) (seat + 1) 0 in_used in
        let had = so_far.counts (get_or groups k 0) in_used in
        let more = counts_step groups (get_or groups k 0) k l in
        let one = ap (λ (b : Bool). cond {A = ℕ} b 1 0) (let e : nat_eq (get_or groups k 0) (get_or groups k 0) ≡ true = grind arith in e) in
        let then = ap (λ (i : ℕ). count_before groups i (k + 1)) same in
        omega (arith, at, had, more, one, then, is)
    counts g less (inr other) = get_or-set_other used (get_or groups k 0) g (seat + 1) 0 other ∙ so_far.counts g less ∙ sym (step g 0 (let e : nat_eq (get_or groups k 0) g ≡ false = grind (arith, other) in e))

pub few_used : (groups seats used : List ℕ) (k g : ℕ) → k ≤ length groups → g < length used → AreSeated groups seats used k → get_or used g 0 ≤ length groups
few_used groups seats used k g l in_used so_far =
    let at = so_far.counts g in_used in
    let most = short groups g k in
    let less : k ≤ length groups = l in
    omega (arith, at, most, less)
  where
    short : (gs : List ℕ) (h n : ℕ) → count_before gs h n ≤ n
    short [] h zero = omega arith
    short [] h (suc n) = omega arith
    short (x ∷ xs) h zero = omega arith
    short (x ∷ xs) h (suc n) = by (nat_eq x h) (short xs h n)
      where
        by : (b : Bool) → length (filter (λ y. nat_eq y h) (take n xs)) ≤ n → length (cond b (x ∷ filter (λ y. nat_eq y h) (take n xs)) (filter (λ y. nat_eq y h) (take n xs))) ≤ suc n
        by true m = omega (arith, m)
        by false m = omega (arith, m)

-- a tree more
pub rows_push : (ts : List Tree) (t : Tree) (g : ℕ) → rows_at (ts ++ t ∷ []) g ≡ cond (nat_eq g (length ts)) t.rows.items (rows_at ts g)
rows_push [] t zero = refl
rows_push [] t (suc g) = let e : nat_eq (suc g) 0 ≡ false = grind arith in ap (λ (b : Bool). cond b t.rows.items []) (sym e)
rows_push (x ∷ xs) t zero = let e : nat_eq 0 (suc (length xs)) ≡ false = grind arith in ap (λ (b : Bool). cond b t.rows.items x.rows.items) (sym e)
rows_push (x ∷ xs) t (suc g) = rows_push xs t g ∙ ap (λ (b : Bool). cond b t.rows.items (rows_at xs g)) (let e : nat_eq g (length xs) ≡ nat_eq (suc g) (suc (length xs)) = grind arith in e)

-- what holds of the rows of the trees that were there, and of those of the new one
pub pushed : (P : ℕ → List (Vec (Option Key) Global) → Type 0) (ts : List Tree) (t : Tree) (g : ℕ) → g < length ts + 1 → (g < length ts → P g (rows_at ts g)) → P (length ts) t.rows.items → P g (rows_at (ts ++ t ∷ []) g)
pushed P ts t g l old new = by (cases_eq g (length ts))
  where
    by : (g ≡ length ts) ⊎ (g ≡ length ts → ⊥) → P g (rows_at (ts ++ t ∷ []) g)
    by (inl same) = subst (P g) (sym (rows_push ts t g ∙ ap (λ (b : Bool). cond b t.rows.items (rows_at ts g)) (let e : nat_eq g (length ts) ≡ true = grind (arith, same) in e))) (subst (λ (n : ℕ). P n t.rows.items) (sym same) new)
    by (inr other) = subst (P g) (sym (rows_push ts t g ∙ ap (λ (b : Bool). cond b t.rows.items (rows_at ts g)) (let e : nat_eq g (length ts) ≡ false = grind (arith, other) in e))) (old (omega (arith, l, other)))

pub pushed_bare : (ts : List Tree) (t : Tree) → AreBare ts → ((i : ℕ) → entry t.rows.items 0 i ≡ None) → AreBare (ts ++ t ∷ [])
pushed_bare ts t old new g i = ap (λ (rs : List (Vec (Option Key) Global)). entry rs 0 i) (rows_push ts t g) ∙ by (nat_eq g (length ts))
  where
    by : (b : Bool) → entry (cond b t.rows.items (rows_at ts g)) 0 i ≡ None
    by true = new i
    by false = old g i

-- no group has more positions than there are
pub used_short : (groups seats used : List ℕ) (most g : ℕ) → length groups ≤ most → AreSeated groups seats used (length groups) → get_or used g 0 ≤ most
used_short groups seats used most g l seated = by (cases_lt g (length used))
  where
    by : (g < length used) ⊎ (length used ≤ g) → get_or used g 0 ≤ most
    by (inl less) = let few = few_used groups seats used (length groups) g (omega arith) less seated in omega (arith, few, l)
    by (inr more) = let none = get_or_past used g 0 more in omega (arith, none)
