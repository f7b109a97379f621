-- Places of positions, and their keys.
use Rattle.std.proofs.Common.{◌≡◌, ℕ, zero, suc, ◌+◌, ◌<◌, ◌≤◌, ◌&&◌, ◌⊎◌, inl, inr, Bool, true, false, cond, nat_eq, eqb-true, List, [], ◌∷◌, length, take, get_or, Option, Some, None, refl, sym, ap, subst, ◌∙◌, arith}
use Rattle.std.specs.Prelude.{filter, slice_set}
use Rattle.std.proofs.lemmas.Bool.{cases_lt}
use Rattle.std.proofs.lemmas.List.Filters.{length-filter_more}
use Rattle.std.proofs.lemmas.Option.{slice_get_read}
use Rattle.tournament_tree.specs.Tree.{IsLeast, is_less}
use Rattle.tournament_tree.specs.declared.tree.Key.{Key}
use Rattle.tournament_tree.specs.declared.tree.Tree.{Tree}
use Rattle.group_index.specs.declared.index.GroupIndex.{GroupIndex}
use Rattle.group_index.specs.Index.{IsBefore, IsEnd, IsIndex, IsLeastAt, IsPlace, count, count_before, end_of, group, key_at, key_of, number, rows_at, rows_of, score_of, seat, width_at}

-- counts
pub front_more : (f : ℕ → Bool) (xs : List ℕ) (j k : ℕ) → j ≤ k → length (filter f (take j xs)) ≤ length (filter f (take k xs))
front_more f [] zero zero l = omega arith
front_more f [] zero (suc k) l = omega arith
front_more f [] (suc j) zero l = absurd (omega (arith, l))
front_more f [] (suc j) (suc k) l = omega arith
front_more f (x ∷ xs) zero k l = omega arith
front_more f (x ∷ xs) (suc j) zero l = absurd (omega (arith, l))
front_more f (x ∷ xs) (suc j) (suc k) l = by (f x) (front_more f xs j k (omega (arith, l)))
  where
    by : (b : Bool) → length (filter f (take j xs)) ≤ length (filter f (take k xs)) → length (cond b (x ∷ filter f (take j xs)) (filter f (take j xs))) ≤ length (cond b (x ∷ filter f (take k xs)) (filter f (take k xs)))
    by true h = omega (arith, h)
    by false h = h

pub counts_more : (gs : List ℕ) (g j k : ℕ) → j ≤ k → count_before gs g j ≤ count_before gs g k
counts_more gs g j k l = front_more (λ h. nat_eq h g) gs j k l

pub counts_step : (gs : List ℕ) (g k : ℕ) → k < length gs → count_before gs g (k + 1) ≡ count_before gs g k + cond (nat_eq (get_or gs k 0) g) 1 0
counts_step gs g k l = length-filter_more (λ h. nat_eq h g) gs k 0 l

itself : (n : ℕ) → nat_eq n n ≡ true
itself n = grind arith

one_of : (n g : ℕ) → n ≡ g → cond (nat_eq n g) 1 0 ≡ (let one : ℕ = 1 in one)
one_of n g e = ap (λ (m : ℕ). cond (nat_eq m g) 1 0) e ∙ ap (λ (b : Bool). cond b 1 0) (itself g)

pub counts_here : (gs : List ℕ) (g k m : ℕ) → k < length gs → get_or gs k 0 ≡ g → k < m → count_before gs g k < count_before gs g m
counts_here gs g k m l is less =
    let step = counts_step gs g k l in
    let one = one_of (get_or gs k 0) g is in
    let more = counts_more gs g (k + 1) m (omega (arith, less)) in
    omega (arith, step, one, more)

-- a position's place
pub inside : (x : GroupIndex) (k : ℕ) → IsIndex x → k < count x → seat x k < width_at x.trees.items (group x k)
inside x k index l =
    let at = index.places k l in
    let wide = index.wide (group x k) (index.in_groups k l) in
    let less = counts_here x.groups.items (group x k) k (count x) l refl l in
    omega (arith, at, wide, less)

pub rising : (x : GroupIndex) (j k : ℕ) → IsIndex x → j < k → k < count x → group x j ≡ group x k → seat x j < seat x k
rising x j k index less l same =
    let at = index.places j (omega (arith, less, l)) in
    let at_k = index.places k l in
    let in_group = ap (λ (g : ℕ). count_before x.groups.items g j) same in
    let more = counts_here x.groups.items (group x k) j k (omega (arith, less, l)) same less in
    omega (arith, at, at_k, in_group, more)

-- two positions of a group with one place are one
pub one_place : (x : GroupIndex) (j k : ℕ) → IsIndex x → j < count x → k < count x → group x j ≡ group x k → seat x j ≡ seat x k → j ≡ k
one_place x j k index lj lk same at = by (cases_lt j k)
  where
    by_less : (k < j) ⊎ (j ≤ k) → k ≤ j → j ≡ k
    by_less (inl less) h = absurd (let no = rising x k j index less lj (sym same) in omega (arith, no, at))
    by_less (inr more) h = omega (arith, more, h)

    by : (j < k) ⊎ (k ≤ j) → j ≡ k
    by (inl less) = absurd (let no = rising x j k index less lk same in omega (arith, no, at))
    by (inr more) = by_less (cases_lt k j) more

-- the rows of a tree that was read
pub rows_read : (ts : List Tree) (g : ℕ) (t : Tree) → g < length ts → t ≡ get_or ts g t → rows_at ts g ≡ t.rows.items
rows_read ts g t l e = ap rows_of (slice_get_read ts (length ts) g t refl l e)

-- where one of the trees was changed
pub rows_set : (ts : List Tree) (i g : ℕ) (t : Tree) → i < length ts → rows_at (slice_set ts i t) g ≡ cond (nat_eq g i) t.rows.items (rows_at ts g)
rows_set [] i g t l = absurd (omega (arith, l))
rows_set (x ∷ xs) zero zero t l = refl
rows_set (x ∷ xs) zero (suc g) t l = let e : nat_eq (suc g) 0 ≡ false = grind arith in ap (λ (b : Bool). cond b t.rows.items (rows_at xs g)) (sym e)
rows_set (x ∷ xs) (suc i) zero t l = let e : nat_eq 0 (suc i) ≡ false = grind arith in ap (λ (b : Bool). cond b t.rows.items x.rows.items) (sym e)
rows_set (x ∷ xs) (suc i) (suc g) t l = rows_set xs i g t (omega (arith, l)) ∙ ap (λ (b : Bool). cond b t.rows.items (rows_at xs g)) (let e : nat_eq g i ≡ nat_eq (suc g) (suc i) = grind arith in e)

-- a changed key
pub set_number : (x : GroupIndex) (new : List Tree) (k : ℕ) (score : Option ℕ) → IsIndex x → k < count x
    → ((g i : ℕ) → key_at new g i ≡ cond (nat_eq g (group x k) && nat_eq i (seat x k)) (key_of k score) (key_at x.trees.items g i))
    → (j : ℕ) → j < count x → score_of (key_at new (group x j) (seat x j)) ≡ cond (nat_eq j k) score (number x j)
set_number x new k score index lk each j lj = ap score_of (each (group x j) (seat x j)) ∙ by (nat_eq j k) refl
  where
    scored : (s : Option ℕ) → score_of (key_of k s) ≡ s
    scored None = refl
    scored (Some n) = refl

    both : (a b : Bool) → a ≡ true → b ≡ true → score_of (cond (a && b) (key_of k score) (key_at x.trees.items (group x j) (seat x j))) ≡ score
    both true true e f = scored score
    both true false e f = absurd cc
    both false b e f = absurd cc

    not_both : (a b : Bool) → (a ≡ true → b ≡ true → ⊥) → score_of (cond (a && b) (key_of k score) (key_at x.trees.items (group x j) (seat x j))) ≡ number x j
    not_both true true off = absurd (off refl refl)
    not_both true false off = refl
    not_both false b off = refl

    by : (b : Bool) → nat_eq j k ≡ b → score_of (cond (nat_eq (group x j) (group x k) && nat_eq (seat x j) (seat x k)) (key_of k score) (key_at x.trees.items (group x j) (seat x j))) ≡ cond b score (number x j)
    by true e =
        let same = eqb-true j k e in
        both (nat_eq (group x j) (group x k)) (nat_eq (seat x j) (seat x k)) (ap (λ (n : ℕ). nat_eq (group x n) (group x k)) same ∙ itself (group x k)) (ap (λ (n : ℕ). nat_eq (seat x n) (seat x k)) same ∙ itself (seat x k))
    by false e = not_both (nat_eq (group x j) (group x k)) (nat_eq (seat x j) (seat x k)) (λ g s. absurd (let same = one_place x j k index lj lk (eqb-true (group x j) (group x k) g) (eqb-true (seat x j) (seat x k) s) in let yes : nat_eq j k ≡ true = grind (arith, same) in cc))

pub set_keys : (x : GroupIndex) (new : List Tree) (k : ℕ) (score : Option ℕ) → IsIndex x → k < count x
    → ((g i : ℕ) → key_at new g i ≡ cond (nat_eq g (group x k) && nat_eq i (seat x k)) (key_of k score) (key_at x.trees.items g i))
    → (g i : ℕ) (key : Key) → key_at new g i ≡ Some key → IsPlace x key.number g i
set_keys x new k score index lk each g i key is = by (nat_eq g (group x k)) (nat_eq i (seat x k)) refl refl (sym (each g i) ∙ is)
  where
    own : (s : Option ℕ) → g ≡ group x k → i ≡ seat x k → key_of k s ≡ Some key → IsPlace x key.number g i
    own None e f h = absurd cc
    own (Some n) e f h = let same : key.number ≡ k = number_is n h in subst (λ (m : ℕ). IsPlace x m g i) (sym same) (record { within = lk; in_group = sym e; in_seat = sym f })
      where
        number_of : Option Key → ℕ
        number_of None = 0
        number_of (Some y) = y.number

        number_is : (m : ℕ) → key_of k (Some m) ≡ Some key → key.number ≡ k
        number_is m e = sym (ap number_of e)

    by : (a b : Bool) → nat_eq g (group x k) ≡ a → nat_eq i (seat x k) ≡ b → cond (a && b) (key_of k score) (key_at x.trees.items g i) ≡ Some key → IsPlace x key.number g i
    by true true e f h = own score (eqb-true g (group x k) e) (eqb-true i (seat x k) f) h
    by true false e f h = index.keys g i key h
    by false b e f h = index.keys g i key h

-- the least key before an end
pub end_within : (x : GroupIndex) (g : ℕ) (end : Option ℕ) → IsIndex x → g < length x.trees.items → IsEnd x g end → end_of x g end ≤ width_at x.trees.items g
end_within x g None index l is = omega arith
end_within x g (Some k) index l is =
    let in_tree = inside x k index is.0 in
    let same = ap (width_at x.trees.items) is.1 in
    omega (arith, in_tree, same)

-- the places before the end are those of the positions before it
before_end : (x : GroupIndex) (g : ℕ) (end : Option ℕ) (j : ℕ) → IsIndex x → IsEnd x g end → j < count x → group x j ≡ g → IsBefore end j → seat x j < end_of x g end
before_end x g None j index is l same before = subst (λ (h : ℕ). seat x j < width_at x.trees.items h) same (inside x j index l)
before_end x g (Some k) j index is l same before = rising x j k index before is.0 (same ∙ sym is.1)

end_before : (x : GroupIndex) (g : ℕ) (end : Option ℕ) (j : ℕ) → IsIndex x → IsEnd x g end → j < count x → group x j ≡ g → seat x j < end_of x g end → IsBefore end j
end_before x g None j index is l same less = tt
end_before x g (Some k) j index is l same less = by (cases_lt j k)
  where
    late : k ≤ j → (k < j) ⊎ (j ≤ k) → j < k
    late h (inl more) = absurd (let no = rising x k j index more l (is.1 ∙ sym same) in omega (arith, no, less))
    late h (inr more) = absurd (let e : j ≡ k = omega (arith, h, more) in let at = ap (seat x) e in omega (arith, at, less))

    by : (j < k) ⊎ (k ≤ j) → j < k
    by (inl before) = before
    by (inr after) = late after (cases_lt k j)

pub least_none : (x : GroupIndex) (g : ℕ) (end : Option ℕ) → IsIndex x → IsEnd x g end → IsLeast (key_at x.trees.items g) 0 (end_of x g end) None
    → (j : ℕ) → j < count x → group x j ≡ g → IsBefore end j → number x j ≡ None
least_none x g end index is none j l same before =
    ap (λ (h : ℕ). score_of (key_at x.trees.items h (seat x j))) same ∙ ap score_of (none (seat x j) (omega arith) (before_end x g end j index is l same before))

not_less : (a b : Key) → is_less a b ≡ false → b.score ≤ a.score
not_less a b e = by (cases_lt a.score b.score)
  where
    by : (a.score < b.score) ⊎ (b.score ≤ a.score) → b.score ≤ a.score
    by (inl less) = absurd (let yes : is_less a b ≡ true = less_is a b less in cc)
      where
        less_is : (a b : Key) → a.score < b.score → is_less a b ≡ true
        less_is a b h = grind (arith, h)
    by (inr more) = more

pub least_some : (x : GroupIndex) (g : ℕ) (end : Option ℕ) (key : Key) → IsIndex x → IsEnd x g end → IsLeast (key_at x.trees.items g) 0 (end_of x g end) (Some key) → IsLeastAt x g end key.number
least_some x g end key index is least = record {
  within = place.within;
  in_group = place.in_group;
  before = end_before x g end key.number index is place.within place.in_group (let at = place.in_seat in let l = least.0.2 in omega (arith, at, l));
  least = key.score;
  is = ap (λ (h : ℕ). score_of (key_at x.trees.items h (seat x key.number))) place.in_group ∙ ap (λ (i : ℕ). score_of (key_at x.trees.items g i)) place.in_seat ∙ ap score_of least.0.3;
  none_less = λ j n l same before e. scored j n l same before (key_at x.trees.items g (seat x j)) refl (ap (λ (h : ℕ). score_of (key_at x.trees.items h (seat x j))) (sym same) ∙ e);
}
  where
    place : IsPlace x key.number g least.0.0
    place = index.keys g least.0.0 key least.0.3

    scored : (j n : ℕ) → j < count x → group x j ≡ g → IsBefore end j → (o : Option Key) → key_at x.trees.items g (seat x j) ≡ o → score_of o ≡ Some n → key.score ≤ n
    scored j n l same before None e h = absurd cc
    scored j n l same before (Some other) e h =
        let not = not_less other key (least.1 (seat x j) other (omega arith) (before_end x g end j index is l same before) e) in
        let at = some_is other.score n h in
        omega (arith, not, at)
      where
        some_is : (a b : ℕ) → Some a ≡ Some b → a ≡ b
        some_is a b e = cc
