-- The lesser of two is associative, so a front is as well asked by halves.
use Rattle.std.proofs.Common.{◌≡◌, ◌≢◌, ℕ, zero, suc, ◌+◌, ◌*◌, ◌/◌, ◌%◌, ◌-◌, ◌<◌, ◌≤◌, ◌&&◌, ◌⊎◌, inl, inr, Bool, true, false, cond, nat_eq, eqb-true, List, [], ◌∷◌, ◌++◌, length, length-append, get_or, refl, sym, ap, subst, ◌∙◌, arith}
use Rattle.std.proofs.lemmas.Bool.{cases_lt, cases_eq}
use Rattle.std.specs.Prelude.{Option, None, Vec}
use Rattle.std.specs.declared.alloc.Global.{Global}
use Rattle.tournament_tree.specs.declared.tree.Key.{Key}
use Rattle.tournament_tree.specs.Tree.{better, least_from, with_first, with_last, row, entry, halved, IsTree, IsBare, IsEmpty}
use Rattle.tournament_tree.proofs.LeastLemmas.{none_right, part_halves, part_none, first_step, last_step}

-- what is between two ends at some height, with the best on both sides
pub between_more : (rs : List (Vec (Option Key) Global)) (h low high : ℕ) (first last whole : Option Key) → IsTree rs → h < length rs → (h + 1 ≡ length rs → high / 2 ≡ 0) → whole ≡ better first (better (least_from (entry rs h) low high) last)
    → whole ≡ better (with_first (entry rs h) low high first) (better (least_from (entry rs (h + 1)) ((low + 1) / 2) (high / 2)) (with_last (entry rs h) low high last))
between_more rs h low high first last whole tree l end so_far =
    so_far ∙ first_step (entry rs h) low high first last
    ∙ ap (better (with_first (entry rs h) low high first)) (last_step (entry rs h) (low + low % 2) high last ∙ ap (λ (x : Option Key). better x (with_last (entry rs h) low high last)) (up (cases_lt (h + 1) (length rs))))
  where
    low_even : low + low % 2 ≡ 2 * ((low + 1) / 2)
    low_even = grind arith

    high_even : high - high % 2 ≡ 2 * (high / 2)
    high_even = grind arith

    evens : least_from (entry rs h) (low + low % 2) (high - high % 2) ≡ least_from (entry rs h) (2 * ((low + 1) / 2)) (2 * (high / 2))
    evens = ap (λ (n : ℕ). least_from (entry rs h) n (high - high % 2)) low_even ∙ ap (least_from (entry rs h) (2 * ((low + 1) / 2))) high_even

    up : ((h + 1 < length rs) ⊎ (length rs ≤ h + 1)) → least_from (entry rs h) (low + low % 2) (high - high % 2) ≡ least_from (entry rs (h + 1)) ((low + 1) / 2) (high / 2)
    up (inl more) = evens ∙ part_halves (entry rs h) (entry rs (h + 1)) (λ i. tree.pairs h i more) ((low + 1) / 2) (high / 2)
    up (inr past) = let none : high / 2 ≡ 0 = end (omega (arith, past, l)) in
        evens ∙ part_none (entry rs h) (2 * ((low + 1) / 2)) (2 * (high / 2)) (omega (arith, none)) ∙ sym (part_none (entry rs (h + 1)) ((low + 1) / 2) (high / 2) (omega (arith, none)))

pub between_end : (f : ℕ → Option Key) (low high : ℕ) (first last : Option Key) → high ≡ 0 → better first (better (least_from f low high) last) ≡ better first last
between_end f low high first last e = ap (λ (x : Option Key). better first (better x last)) (part_none f low high (omega (arith, e)))

pub between_start : (x : Option Key) → x ≡ better None (better x None)
between_start x = sym (none_right x)

halved_most : (h m n : ℕ) → m ≤ n → halved h m ≤ halved h n
halved_most zero m n l = l
halved_most (suc h) m n l = let less = halved_most h m n l in omega (arith, less)

pub halved_end : (h m n : ℕ) → m ≤ n → halved h n ≡ 0 → halved h m ≡ 0
halved_end h m n l e = let less = halved_most h m n l in omega (arith, less, e)

-- one entry changes, and the one over it at some height is to be made anew
pub record IsTreeBut (rs : List (Vec (Option Key) Global)) (at h : ℕ) : Type 0 where
  pub some : 0 < length rs
  pub few : length rs ≤ 64
  pub small : (k : ℕ) → length (row rs k) ≤ 200000
  pub covers : halved (length rs) (length (row rs 0)) ≡ 0
  pub wide : (k i : ℕ) → k + 1 < length rs → i < length (row rs k) → i / 2 < length (row rs (k + 1))
  pub inside : h < length rs → halved h at < length (row rs h)
  pub pairs : (k i : ℕ) → k + 1 < length rs → (k ≡ h → i ≢ halved (suc k) at) → entry rs (k + 1) i ≡ better (entry rs k (2 * i)) (entry rs k (2 * i + 1))

and_false : (a b : Bool) → (a ≡ true → b ≡ false) → (a && b) ≡ false
and_false true b f = f refl
and_false false b f = refl

ne_false : (a b : ℕ) → a ≢ b → nat_eq a b ≡ false
ne_false a b ne = grind (arith, ne)

-- what changed is at one place
abbrev pub IsWritten : List (Vec (Option Key) Global) → List (Vec (Option Key) Global) → ℕ → ℕ → Option Key → Type 0
IsWritten rs new x y key = (h i : ℕ) → entry new h i ≡ cond (nat_eq h x && nat_eq i y) key (entry rs h i)

pub elsewhere : (rs new : List (Vec (Option Key) Global)) (x y : ℕ) (key : Option Key) → IsWritten rs new x y key → (h i : ℕ) → (h ≡ x → i ≢ y) → entry new h i ≡ entry rs h i
elsewhere rs new x y key w h i off = w h i ∙ ap (λ (b : Bool). cond b key (entry rs h i)) (and_false (nat_eq h x) (nat_eq i y) (λ e. ne_false i y (off (eqb-true h x e))))

there : (rs new : List (Vec (Option Key) Global)) (x y : ℕ) (key : Option Key) → IsWritten rs new x y key → entry new x y ≡ key
there rs new x y key w = w x y ∙ ap (λ (b : Bool). cond b key (entry rs x y)) (let e : (nat_eq x x && nat_eq y y) ≡ true = grind arith in e)

pub but_start : (rs new : List (Vec (Option Key) Global)) (at : ℕ) (key : Option Key) → IsTree rs → at < length (row rs 0) → length new ≡ length rs → ((h : ℕ) → length (row new h) ≡ length (row rs h)) → IsWritten rs new 0 at key → IsTreeBut new at 0
but_start rs new at key tree below long wide w = record {
  some = omega (arith, tree.some, long);
  few = omega (arith, tree.few, long);
  small = λ k. omega (arith, tree.small k, wide k);
  covers = ap (λ (n : ℕ). halved n (length (row new 0))) long ∙ ap (halved (length rs)) (wide 0) ∙ tree.covers;
  wide = λ k i l m. let up = tree.wide k i (omega (arith, l, long)) (omega (arith, m, wide k)) in omega (arith, up, wide (k + 1));
  inside = λ l. omega (arith, below, wide 0);
  pairs = λ k i l off. elsewhere rs new 0 at key w (k + 1) i (λ e. absurd (omega (arith, e))) ∙ tree.pairs k i (omega (arith, l, long))
      ∙ sym (ap (λ (x : Option Key). better x (entry new k (2 * i + 1))) (elsewhere rs new 0 at key w k (2 * i) (λ e x. off e (halves k e i x (omega arith))))
      ∙ ap (better (entry rs k (2 * i))) (elsewhere rs new 0 at key w k (2 * i + 1) (λ e x. off e (odd_halves k e i x))));
}
  where
    halves : (k : ℕ) → k ≡ 0 → (i : ℕ) → 2 * i ≡ at → 0 ≤ i → i ≡ halved (suc k) at
    halves zero e i x l = omega (arith, x)
    halves (suc k) e i x l = absurd (omega (arith, e))

    odd_halves : (k : ℕ) → k ≡ 0 → (i : ℕ) → 2 * i + 1 ≡ at → i ≡ halved (suc k) at
    odd_halves zero e i x = omega (arith, x)
    odd_halves (suc k) e i x = absurd (omega (arith, e))

pub but_more : (rs new : List (Vec (Option Key) Global)) (at h : ℕ) → IsTreeBut rs at h → h + 1 < length rs → length new ≡ length rs → ((k : ℕ) → length (row new k) ≡ length (row rs k))
    → IsWritten rs new (h + 1) (halved h at / 2) (better (entry rs h (2 * (halved h at / 2))) (entry rs h (2 * (halved h at / 2) + 1))) → IsTreeBut new at (h + 1)
but_more rs new at h tree under long wide w = record {
  some = omega (arith, tree.some, long);
  few = omega (arith, tree.few, long);
  small = λ k. omega (arith, tree.small k, wide k);
  covers = ap (λ (n : ℕ). halved n (length (row new 0))) long ∙ ap (halved (length rs)) (wide 0) ∙ tree.covers;
  wide = λ k i l m. let up = tree.wide k i (omega (arith, l, long)) (omega (arith, m, wide k)) in omega (arith, up, wide (k + 1));
  inside = λ l. let up = tree.wide h (halved h at) under (tree.inside (omega arith)) in let same = next in omega (arith, up, same, wide (h + 1));
  pairs = λ k i l off. by_height k i l off (cases_eq k h) (cases_eq i (halved h at / 2));
}
  where
    next : halved (h + 1) at ≡ halved h at / 2
    next = ap (λ (n : ℕ). halved n at) (let e : h + 1 ≡ suc h = omega arith in e)

    value : Option Key
    value = better (entry rs h (2 * (halved h at / 2))) (entry rs h (2 * (halved h at / 2) + 1))

    unchanged : (k i : ℕ) → (k ≡ h + 1 → i ≢ halved h at / 2) → entry new k i ≡ entry rs k i
    unchanged k i off = elsewhere rs new (h + 1) (halved h at / 2) (better (entry rs h (2 * (halved h at / 2))) (entry rs h (2 * (halved h at / 2) + 1))) w k i off

    both : (k i : ℕ) → ((k ≡ h + 1) → i ≢ (halved h at / 2) / 2) → better (entry rs k (2 * i)) (entry rs k (2 * i + 1)) ≡ better (entry new k (2 * i)) (entry new k (2 * i + 1))
    both k i off = sym (ap (λ (x : Option Key). better x (entry new k (2 * i + 1))) (unchanged k (2 * i) (λ e x. off e (omega (arith, x)))) ∙ ap (better (entry rs k (2 * i))) (unchanged k (2 * i + 1) (λ e x. off e (omega (arith, x)))))

    over : (k i : ℕ) → (k ≡ h + 1 → i ≢ halved (suc k) at) → k ≡ h + 1 → i ≢ (halved h at / 2) / 2
    over k i off e x = off e (x ∙ ap (λ (n : ℕ). n / 2) (sym next) ∙ ap (λ (n : ℕ). halved n at / 2) (sym e))

    by_height : (k i : ℕ) → k + 1 < length new → (k ≡ h + 1 → i ≢ halved (suc k) at) → ((k ≡ h) ⊎ (k ≡ h → ⊥)) → ((i ≡ halved h at / 2) ⊎ (i ≡ halved h at / 2 → ⊥)) → entry new (k + 1) i ≡ better (entry new k (2 * i)) (entry new k (2 * i + 1))
    by_height k i l off (inl e) (inl f) =
        ap (λ (n : ℕ). entry new (n + 1) i) e ∙ ap (entry new (h + 1)) f ∙ there rs new (h + 1) (halved h at / 2) _ w
        ∙ ap (λ (j : ℕ). better (entry rs h (2 * j)) (entry rs h (2 * j + 1))) (sym f) ∙ both h i (λ x. absurd (omega (arith, x))) ∙ ap (λ (n : ℕ). better (entry new n (2 * i)) (entry new n (2 * i + 1))) (sym e)
    by_height k i l off (inl e) (inr g) =
        unchanged (k + 1) i (λ x. g) ∙ tree.pairs k i (omega (arith, l, long)) (λ m x. g (x ∙ ap (λ (n : ℕ). halved n at / 2) e)) ∙ both k i (over k i off)
    by_height k i l off (inr d) c =
        unchanged (k + 1) i (λ x. absurd (d (omega (arith, x)))) ∙ tree.pairs k i (omega (arith, l, long)) (λ m. absurd (d m)) ∙ both k i (over k i off)

-- what is made anew is what stands there
pub but_same : (rs : List (Vec (Option Key) Global)) (at h : ℕ) → IsTreeBut rs at h → entry rs (h + 1) (halved h at / 2) ≡ better (entry rs h (2 * (halved h at / 2))) (entry rs h (2 * (halved h at / 2) + 1)) → IsTree rs
but_same rs at h tree same = record {
  some = tree.some;
  few = tree.few;
  small = tree.small;
  covers = tree.covers;
  wide = tree.wide;
  pairs = λ k i l. by_height k i l (cases_eq k h) (cases_eq i (halved h at / 2));
}
  where
    by_height : (k i : ℕ) → k + 1 < length rs → ((k ≡ h) ⊎ (k ≡ h → ⊥)) → ((i ≡ halved h at / 2) ⊎ (i ≡ halved h at / 2 → ⊥)) → entry rs (k + 1) i ≡ better (entry rs k (2 * i)) (entry rs k (2 * i + 1))
    by_height k i l (inl e) (inl f) =
        ap (λ (n : ℕ). entry rs (n + 1) i) e ∙ ap (entry rs (h + 1)) f ∙ same
        ∙ ap (λ (j : ℕ). better (entry rs h (2 * j)) (entry rs h (2 * j + 1))) (sym f) ∙ ap (λ (n : ℕ). better (entry rs n (2 * i)) (entry rs n (2 * i + 1))) (sym e)
    by_height k i l (inl e) (inr g) = tree.pairs k i l (λ m x. g (x ∙ ap (λ (n : ℕ). halved n at / 2) e))
    by_height k i l (inr d) c = tree.pairs k i l (λ m. absurd (d m))

pub but_end : (rs : List (Vec (Option Key) Global)) (at h : ℕ) → IsTreeBut rs at h → length rs ≤ h + 1 → IsTree rs
but_end rs at h tree end = record {
  some = tree.some;
  few = tree.few;
  small = tree.small;
  covers = tree.covers;
  wide = tree.wide;
  pairs = λ k i l. tree.pairs k i l (λ m. absurd (omega (arith, l, m, end)));
}

pub halved_next : (h n : ℕ) → halved h n / 2 ≡ halved (h + 1) n
halved_next h n = ap (λ (k : ℕ). halved k n) (let e : suc h ≡ h + 1 = omega arith in e)

pub halved_same : (h k n : ℕ) → h ≡ k → halved h n ≡ halved k n
halved_same h k n e = ap (λ (j : ℕ). halved j n) e

-- one row more
row_before : (rs : List (Vec (Option Key) Global)) (v : Vec (Option Key) Global) (k : ℕ) → k < length rs → row (rs ++ v ∷ []) k ≡ row rs k
row_before [] v k l = absurd (omega arith)
row_before (r ∷ rs) v zero l = refl
row_before (r ∷ rs) v (suc k) l = row_before rs v k (omega arith)

row_last : (rs : List (Vec (Option Key) Global)) (v : Vec (Option Key) Global) (k : ℕ) → k ≡ length rs → row (rs ++ v ∷ []) k ≡ v.items
row_last [] v zero e = refl
row_last [] v (suc k) e = absurd (omega (arith, e))
row_last (r ∷ rs) v zero e = absurd (omega (arith, e))
row_last (r ∷ rs) v (suc k) e = row_last rs v k (omega (arith, e))

row_past : (rs : List (Vec (Option Key) Global)) (k : ℕ) → length rs ≤ k → row rs k ≡ []
row_past [] k l = refl
row_past (r ∷ rs) zero l = absurd (omega arith)
row_past (r ∷ rs) (suc k) l = row_past rs k (omega arith)

none_past : (i : ℕ) → get_or {A = Option Key} [] i None ≡ None
none_past zero = refl
none_past (suc i) = refl

pub empty_start : (n : ℕ) → n ≤ 200000 → IsEmpty [] n 0 n
empty_start n l = record {
  long = refl;
  first = λ m. absurd (omega (arith, m));
  small = λ k. omega arith;
  wide = λ k i m j. absurd (omega (arith, m));
  next = λ k i e j. absurd (omega (arith, e));
  start = λ e. refl;
  narrow = l;
  none = λ k i. none_past i;
}

pub empty_more : (rs : List (Vec (Option Key) Global)) (v : Vec (Option Key) Global) (n h w : ℕ) → IsEmpty rs n h w → IsBare v.items w → IsEmpty (rs ++ v ∷ []) n (h + 1) ((w + 1) / 2)
empty_more rs v n h w empty bare = record {
  long = omega (arith, length-append rs (v ∷ []), empty.long);
  first = λ m. by_first (cases_lt 0 h);
  small = λ k. by_row (λ xs. length xs ≤ 200000) k (λ l. empty.small k) (omega (arith, bare.long, empty.narrow)) (omega arith);
  wide = λ k i m j. wider k i m j (cases_lt (k + 1) h);
  next = λ k i e j. let at : k ≡ length rs = omega (arith, e, empty.long) in let long = ap length (row_last rs v k at) in omega (arith, j, long, bare.long);
  start = λ e. absurd (omega (arith, e));
  narrow = omega (arith, empty.narrow);
  none = λ k i. by_row (λ xs. get_or xs i None ≡ None) k (λ l. empty.none k i) (bare.none i) (none_past i);
}
  where
    by_row : (P : List (Option Key) → Type 0) (k : ℕ) → (k < length rs → P (row rs k)) → P v.items → P [] → P (row (rs ++ v ∷ []) k)
    by_row P k below at past = go (cases_lt k (length rs)) (cases_lt (length rs) k)
      where
        go : ((k < length rs) ⊎ (length rs ≤ k)) → ((length rs < k) ⊎ (k ≤ length rs)) → P (row (rs ++ v ∷ []) k)
        go (inl l) x = subst P (sym (row_before rs v k l)) (below l)
        go (inr l) (inl m) = subst P (sym (row_past (rs ++ v ∷ []) k (omega (arith, m, length-append rs (v ∷ []))))) past
        go (inr l) (inr m) = subst P (sym (row_last rs v k (omega (arith, l, m)))) at

    by_first : ((0 < h) ⊎ (h ≤ 0)) → length (row (rs ++ v ∷ []) 0) ≡ n
    by_first (inl l) = ap length (row_before rs v 0 (omega (arith, l, empty.long))) ∙ empty.first l
    by_first (inr l) = ap length (row_last rs v 0 (omega (arith, l, empty.long))) ∙ bare.long ∙ empty.start (omega (arith, l))

    wider : (k i : ℕ) → k + 1 < h + 1 → i < length (row (rs ++ v ∷ []) k) → ((k + 1 < h) ⊎ (h ≤ k + 1)) → i / 2 < length (row (rs ++ v ∷ []) (k + 1))
    wider k i m j (inl l) =
        let here = ap length (row_before rs v k (omega (arith, l, empty.long))) in
        let over = ap length (row_before rs v (k + 1) (omega (arith, l, empty.long))) in
        let up = empty.wide k i l (omega (arith, j, here)) in omega (arith, up, over)
    wider k i m j (inr l) =
        let here = ap length (row_before rs v k (omega (arith, m, empty.long))) in
        let over = ap length (row_last rs v (k + 1) (omega (arith, l, m, empty.long))) in
        let up = empty.next k i (omega (arith, l, m)) (omega (arith, j, here)) in omega (arith, up, over, bare.long)

pub empty_end : (rs : List (Vec (Option Key) Global)) (n w : ℕ) → n ≤ 200000 → IsEmpty rs n 18 w → IsTree rs
empty_end rs n w l empty = record {
  some = omega (arith, empty.long);
  few = omega (arith, empty.long);
  small = empty.small;
  covers = ap (λ (h : ℕ). halved h (length (row rs 0))) empty.long ∙ ap (halved 18) (empty.first (omega arith)) ∙ halved_end 18 n 200000 l refl;
  wide = λ h i m j. empty.wide h i (omega (arith, m, empty.long)) j;
  pairs = λ h i m. empty.none (h + 1) i ∙ sym (ap (λ (x : Option Key). better x (entry rs h (2 * i + 1))) (empty.none h (2 * i)) ∙ empty.none h (2 * i + 1));
}

pub bare_more : (xs : List (Option Key)) (n : ℕ) → IsBare xs n → IsBare (xs ++ None ∷ []) (n + 1)
bare_more xs n bare = record {
  long = omega (arith, length-append xs (None ∷ []), bare.long);
  none = λ i. last xs i (bare.none i);
}
  where
    last : (ys : List (Option Key)) (i : ℕ) → get_or ys i None ≡ None → get_or (ys ++ None ∷ []) i None ≡ None
    last [] zero e = refl
    last [] (suc i) e = none_past i
    last (y ∷ ys) zero e = e
    last (y ∷ ys) (suc i) e = last ys i e
