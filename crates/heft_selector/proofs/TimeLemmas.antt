-- A table of the stated seconds, one entry more.
use Rattle.std.proofs.Common.{◌≡◌, ℕ, zero, suc, ◌+◌, ◌*◌, ◌<◌, ◌≤◌, ◌&&◌, ◌⊎◌, inl, inr, not, max, Bool, true, false, cond, List, [], ◌∷◌, ◌++◌, length, map, take, get_or, refl, sym, ap, subst, ◌∙◌, nat_eq, arith}
use Rattle.std.specs.Prelude.{slice_set, slice_index_or, replicate, Vec}
use Rattle.std.specs.declared.alloc.Global.{Global}
use Rattle.std.specs.List.{All, AllByRecursion}
use Rattle.std.specs.Str.{bytes_eq}
use Rattle.std.specs.Cmp.Lexicographic.{bytes_decides}
use Rattle.std.proofs.Math.Nat.{mul-le-mul_left}
use Rattle.std.proofs.lemmas.List.{take_more, get_or-map, get_or_default}
use Rattle.std.proofs.lemmas.Bool.{eqb-true, eq-eqb, ne_eqb, cases_order}
use Rattle.workflow_core.specs.Names.{number}
use Rattle.workflow_core.specs.declared.workflow.Job.{Job}
use Rattle.digraph.specs.code.Adjacency.{lists_of}
use Rattle.digraph.specs.Adjacency.{neighbours}
use Rattle.dependency_graph.specs.Levels.{is_kept}
use Rattle.plan_request.specs.declared.request.Execution.{Execution}
use Rattle.plan_request.specs.declared.request.Runtime.{Runtime}
use Rattle.plan_request.specs.code.Limits.{IsRuntimeInRange}
use Rattle.heft_selector.specs.Costs.{is_entry_for, transformation_name, seconds}
use Rattle.heft_selector.specs.code.Stated.{stated, cell, site_name, site_name_at, times_of, IsTable, IsClock, AreTimes}
use Rattle.heft_selector.proofs.MoveLemmas.{at_last, at_left, pushed, longer}
use Rattle.list_schedule.proofs.SetLemmas.{set_at}
use Rattle.list_schedule.proofs.GraphLemmas.{by_bool}

pub noted_at : (xs : List ℕ) (x v i : ℕ) → x < length xs → get_or xs x 0 ≡ 0 → get_or (slice_set xs x v) i 0 ≡ cond (nat_eq x i && nat_eq (get_or xs i 0) 0) v (get_or xs i 0)
noted_at xs x v i low none = set_at 0 xs x v i low ∙ by (nat_eq x i) refl
  where
    by : (t : Bool) → nat_eq x i ≡ t → cond t v (get_or xs i 0) ≡ cond (t && nat_eq (get_or xs i 0) 0) v (get_or xs i 0)
    by true e = let zero_there : nat_eq (get_or xs i 0) 0 ≡ true = ap (λ (k : ℕ). nat_eq (get_or xs k 0) 0) (sym (eqb-true x i e)) ∙ eq-eqb (get_or xs x 0) 0 none in sym (ap (λ (b : Bool). cond b v (get_or xs i 0)) zero_there)
    by false e = refl

pub noted_none : (xs : List ℕ) (x v i : ℕ) → nat_eq (get_or xs x 0) 0 ≡ false → get_or xs i 0 ≡ cond (nat_eq x i && nat_eq (get_or xs i 0) 0) v (get_or xs i 0)
noted_none xs x v i some = by (nat_eq x i) refl
  where
    by : (t : Bool) → nat_eq x i ≡ t → get_or xs i 0 ≡ cond (t && nat_eq (get_or xs i 0) 0) v (get_or xs i 0)
    by true e = let there : nat_eq (get_or xs i 0) 0 ≡ false = ap (λ (k : ℕ). nat_eq (get_or xs k 0) 0) (sym (eqb-true x i e)) ∙ some in sym (ap (λ (b : Bool). cond b v (get_or xs i 0)) there)
    by false e = refl

-- ---- names and numbers

same_name : (m n : List ℕ) → bytes_eq m n ≡ true → m ≡ n
same_name m n e = (bytes_decides m n).0 e

at_number : (names : List (List ℕ)) (n : List ℕ) → number names n < length names → get_or names (number names n) [] ≡ n
at_number [] n low = absurd (omega (arith, low))
at_number (m ∷ ms) n low = by (bytes_eq n m) refl low (at_number ms n)
  where
    by : (t : Bool) → bytes_eq n m ≡ t → cond (not t) (1 + number ms n) 0 < suc (length ms) → (number ms n < length ms → get_or ms (number ms n) [] ≡ n) → get_or (m ∷ ms) (cond (not t) (1 + number ms n) 0) [] ≡ n
    by true e k rest = sym (same_name n m e)
    by false e k rest = ap (λ (i : ℕ). get_or (m ∷ ms) i []) (let q : 1 + number ms n ≡ suc (number ms n) = omega arith in q) ∙ rest (omega (arith, k))

one_number : (names : List (List ℕ)) (n m : List ℕ) → number names n < length names → number names m < length names → number names n ≡ number names m → n ≡ m
one_number names n m one two same = sym (at_number names n one) ∙ ap (λ (i : ℕ). get_or names i []) same ∙ at_number names m two

-- a place in a table of rows tells its row and its column
apart : (w a b c d : ℕ) → a < b → c < w → a * w + c < b * w + d
apart w a b c d less low = let more : suc a * w ≤ b * w = rows (suc a) b (omega (arith, less)) in let one : suc a * w ≡ a * w + w = omega arith in omega (arith, more, one, low)
  where
    rows : (x y : ℕ) → x ≤ y → x * w ≤ y * w
    rows x y few = let q = mul-le-mul_left w few in omega (arith, q)

pub one_place : (w a b c d : ℕ) → c < w → d < w → a * w + c ≡ b * w + d → (a ≡ b) × (c ≡ d)
one_place w a b c d low few same = by (cases_order a b)
  where
    by : ((a ≡ b) ⊎ ((a < b) ⊎ (b < a))) → (a ≡ b) × (c ≡ d)
    by (inl e) = (e, (let q : a * w ≡ b * w = ap (λ (x : ℕ). x * w) e in omega (arith, q, same)))
    by (inr (inl less)) = absurd (let q = apart w a b c d less low in omega (arith, q, same))
    by (inr (inr more)) = absurd (let q = apart w b a d c more few in omega (arith, q, same))

pub place_low : (w h a c : ℕ) → a < h → c < w → a * w + c < h * w
place_low w h a c less low = let q = apart w a h c 0 less low in omega (arith, q)

-- ---- entries

pub stated_push : (ts : List Runtime) (t : Runtime) (n m : List ℕ) → AllByRecursion IsRuntimeInRange ts → stated (ts ++ t ∷ []) n m ≡ cond (nat_eq (stated ts n m) 0) (cond (is_entry_for n m t) t.seconds 0) (stated ts n m)
stated_push [] t n m small = refl
stated_push (x ∷ ts) t n m small = by (is_entry_for n m x) (stated_push ts t n m small.1)
  where
    by : (b : Bool) → stated (ts ++ t ∷ []) n m ≡ cond (nat_eq (stated ts n m) 0) (cond (is_entry_for n m t) t.seconds 0) (stated ts n m)
        → cond b x.seconds (stated (ts ++ t ∷ []) n m) ≡ cond (nat_eq (cond b x.seconds (stated ts n m)) 0) (cond (is_entry_for n m t) t.seconds 0) (cond b x.seconds (stated ts n m))
    by true rest = let some : nat_eq x.seconds 0 ≡ false = ne_eqb x.seconds 0 (λ e. let l = small.0.0 in absurd (omega (arith, l, e))) in sym (ap (λ (t2 : Bool). cond t2 (cond (is_entry_for n m t) t.seconds 0) x.seconds) some)
    by false rest = rest

pub seconds_are : (ts : List Runtime) (n m : List ℕ) → AllByRecursion IsRuntimeInRange ts → seconds ts n m ≡ max (stated ts n m) 1
seconds_are [] n m small = omega arith
seconds_are (x ∷ ts) n m small = by (is_entry_for n m x) (seconds_are ts n m small.1)
  where
    by : (b : Bool) → seconds ts n m ≡ max (stated ts n m) 1 → cond b x.seconds (seconds ts n m) ≡ max (cond b x.seconds (stated ts n m)) 1
    by true rest = let l = small.0.0 in omega (arith, l)
    by false rest = rest

zero_at : (n i : ℕ) → get_or (replicate n zero) i zero ≡ zero
zero_at zero i = refl
zero_at (suc n) zero = refl
zero_at (suc n) (suc i) = zero_at n i

-- the table after one entry more, which stands at a place or nowhere
pub table_more : (ts : List Runtime) (t : Runtime) (rows columns : List (List ℕ)) (old new : List ℕ) → AllByRecursion IsRuntimeInRange ts → IsTable ts rows columns old → length new ≡ length old
    → number rows t.transformation < length rows → number columns t.site < length columns
    → ((i : ℕ) → get_or new i 0 ≡ cond (nat_eq (cell rows columns t.transformation t.site) i && nat_eq (get_or old i 0) 0) t.seconds (get_or old i 0))
    → IsTable (ts ++ t ∷ []) rows columns new
table_more ts t rows columns old new small is same row column noted = record {
  long = same ∙ is.long;
  each = λ n m known at. noted (cell rows columns n m) ∙ ap (λ (k : ℕ). cond (nat_eq (cell rows columns t.transformation t.site) (cell rows columns n m) && nat_eq k 0) t.seconds k) (is.each n m known at)
      ∙ turn (nat_eq (stated ts n m) 0) (stated ts n m) (hits n m known at) refl ∙ sym (stated_push ts t n m small);
}
  where
    hits : (n m : List ℕ) → number rows n < length rows → number columns m < length columns → nat_eq (cell rows columns t.transformation t.site) (cell rows columns n m) ≡ is_entry_for n m t
    hits n m known at = by (nat_eq (cell rows columns t.transformation t.site) (cell rows columns n m)) refl (is_entry_for n m t) refl
      where
        yes : nat_eq (cell rows columns t.transformation t.site) (cell rows columns n m) ≡ true → is_entry_for n m t ≡ true
        yes e = let both = one_place (length columns) (number rows t.transformation) (number rows n) (number columns t.site) (number columns m) column at (eqb-true (cell rows columns t.transformation t.site) (cell rows columns n m) e) in
            let one = one_number rows t.transformation n row known both.0 in
            let two = one_number columns t.site m column at both.1 in
            ap (λ (k : List ℕ). bytes_eq t.transformation k && bytes_eq t.site m) (sym one) ∙ ap (λ (k : List ℕ). bytes_eq t.transformation t.transformation && bytes_eq t.site k) (sym two)
            ∙ ap (λ (b : Bool). b && bytes_eq t.site t.site) ((bytes_decides t.transformation t.transformation).1 refl) ∙ (bytes_decides t.site t.site).1 refl

        left : (x y : Bool) → (x && y) ≡ true → x ≡ true
        left true y e = refl
        left false y e = absurd cc

        right : (x y : Bool) → (x && y) ≡ true → y ≡ true
        right true y e = e
        right false y e = absurd cc

        back : is_entry_for n m t ≡ true → nat_eq (cell rows columns t.transformation t.site) (cell rows columns n m) ≡ true
        back e = let one = same_name t.transformation n (left (bytes_eq t.transformation n) (bytes_eq t.site m) e) in
            let two = same_name t.site m (right (bytes_eq t.transformation n) (bytes_eq t.site m) e) in
            eq-eqb (cell rows columns t.transformation t.site) (cell rows columns n m) (ap (λ (k : List ℕ). cell rows columns k t.site) one ∙ ap (λ (k : List ℕ). cell rows columns n k) two)

        by : (x : Bool) → nat_eq (cell rows columns t.transformation t.site) (cell rows columns n m) ≡ x → (y : Bool) → is_entry_for n m t ≡ y → x ≡ y
        by true e true f = refl
        by false e false f = refl
        by true e false f = sym (yes e) ∙ f
        by false e true f = sym e ∙ back f

    turn : (z : Bool) (k : ℕ) → {h y : Bool} → h ≡ y → nat_eq k 0 ≡ z → cond (h && nat_eq k 0) t.seconds k ≡ cond z (cond y t.seconds 0) k
    turn true k {h} {y} e none = ap (λ (x : Bool). cond (h && x) t.seconds k) none ∙ by h y e
      where
        is_zero : k ≡ 0
        is_zero = eqb-true k 0 none

        by : (h y : Bool) → h ≡ y → cond (h && true) t.seconds k ≡ cond y t.seconds 0
        by true true e = refl
        by false false e = is_zero
        by true false e = absurd cc
        by false true e = absurd cc
    turn false k {h} {y} e some = ap (λ (x : Bool). cond (h && x) t.seconds k) some ∙ by h
      where
        by : (h : Bool) → cond (h && false) t.seconds k ≡ k
        by true = refl
        by false = refl

-- an entry whose names aren't both known changes nothing
pub table_same : (ts : List Runtime) (t : Runtime) (rows columns : List (List ℕ)) (table : List ℕ) → AllByRecursion IsRuntimeInRange ts → IsTable ts rows columns table
    → ((number rows t.transformation < length rows) → (number columns t.site < length columns) → ⊥) → IsTable (ts ++ t ∷ []) rows columns table
table_same ts t rows columns table small is off = record {
  long = is.long;
  each = λ n m known at. is.each n m known at ∙ same n m known at;
}
  where
    left : (x y : Bool) → (x && y) ≡ true → x ≡ true
    left true y e = refl
    left false y e = absurd cc

    right : (x y : Bool) → (x && y) ≡ true → y ≡ true
    right true y e = e
    right false y e = absurd cc

    no_entry : (n m : List ℕ) → number rows n < length rows → number columns m < length columns → is_entry_for n m t ≡ false
    no_entry n m known at = by_bool (is_entry_for n m t)
        (λ e. absurd (off (subst (λ (k : List ℕ). number rows k < length rows) (sym (same_name t.transformation n (left (bytes_eq t.transformation n) (bytes_eq t.site m) e))) known)
        (subst (λ (k : List ℕ). number columns k < length columns) (sym (same_name t.site m (right (bytes_eq t.transformation n) (bytes_eq t.site m) e))) at)))
        (λ f. f)

    same : (n m : List ℕ) → number rows n < length rows → number columns m < length columns → stated ts n m ≡ stated (ts ++ t ∷ []) n m
    same n m known at = by (nat_eq (stated ts n m) 0) refl ∙ sym (stated_push ts t n m small)
      where
        by : (z : Bool) → nat_eq (stated ts n m) 0 ≡ z → stated ts n m ≡ cond z (cond (is_entry_for n m t) t.seconds 0) (stated ts n m)
        by true e = eqb-true (stated ts n m) 0 e ∙ sym (ap (λ (b : Bool). cond b t.seconds 0) (no_entry n m known at))
        by false e = refl

pub table_none : (rows columns : List (List ℕ)) (table : List ℕ) → table ≡ replicate (length rows * length columns) zero → IsTable [] rows columns table
table_none rows columns table is = record {
  long = ap (λ (xs : List ℕ). length xs) is ∙ long_zero (length rows * length columns);
  each = λ n m known at. ap (λ (xs : List ℕ). get_or xs (cell rows columns n m) 0) is ∙ zero_at (length rows * length columns) (cell rows columns n m);
}
  where
    long_zero : (n : ℕ) → length (replicate n zero) ≡ n
    long_zero zero = refl
    long_zero (suc n) = let rest = long_zero n in omega (arith, rest)

small_take : (i : ℕ) (ts : List Runtime) → AllByRecursion IsRuntimeInRange ts → AllByRecursion IsRuntimeInRange (take i ts)
small_take zero ts small = tt
small_take (suc i) [] small = tt
small_take (suc i) (t ∷ ts) small = (small.0, small_take i ts small.1)

-- the table after the entry at a place
pub table_next : (ts : List Runtime) (rows columns : List (List ℕ)) (old new : List ℕ) (i : ℕ) (t : Runtime) → AllByRecursion IsRuntimeInRange ts → i < length ts → t ≡ get_or ts i t → IsTable (take i ts) rows columns old → length new ≡ length old
    → (number rows t.transformation < length rows → number columns t.site < length columns → (k : ℕ) → get_or new k 0 ≡ cond (nat_eq (cell rows columns t.transformation t.site) k && nat_eq (get_or old k 0) 0) t.seconds (get_or old k 0))
    → ((number rows t.transformation < length rows → number columns t.site < length columns → ⊥) → new ≡ old) → IsTable (take (i + 1) ts) rows columns new
table_next ts rows columns old new i t small low at is same known unknown =
    subst (λ (xs : List Runtime). IsTable xs rows columns new) (sym (take_more ts i t low ∙ ap (λ (x : Runtime). take i ts ++ x ∷ []) (sym at)))
    (row (cases_order (number rows t.transformation) (length rows)) (cases_order (number columns t.site) (length columns)))
  where
    nothing : ((number rows t.transformation < length rows) → (number columns t.site < length columns) → ⊥) → IsTable (take i ts ++ t ∷ []) rows columns new
    nothing off = subst (IsTable (take i ts ++ t ∷ []) rows columns) (sym (unknown off)) (table_same (take i ts) t rows columns old (small_take i ts small) is off)

    row : ((number rows t.transformation ≡ length rows) ⊎ ((number rows t.transformation < length rows) ⊎ (length rows < number rows t.transformation)))
        → ((number columns t.site ≡ length columns) ⊎ ((number columns t.site < length columns) ⊎ (length columns < number columns t.site))) → IsTable (take i ts ++ t ∷ []) rows columns new
    row (inl e) o = nothing (λ l m. absurd (omega (arith, e, l)))
    row (inr (inr more)) o = nothing (λ l m. absurd (omega (arith, more, l)))
    row (inr (inl less)) (inl e) = nothing (λ l m. absurd (omega (arith, e, m)))
    row (inr (inl less)) (inr (inr more)) = nothing (λ l m. absurd (omega (arith, more, m)))
    row (inr (inl less)) (inr (inl few)) = table_more (take i ts) t rows columns old new (small_take i ts small) is same less few (known less few)

-- ---- times

pub site_at : (es : List Execution) (s : ℕ) (e : Execution) → s < length es → e ≡ get_or es s e → e.site ≡ get_or (map site_name es) s []
site_at es s e low is = ap (λ (x : Execution). x.site) is ∙ sym (get_or-map site_name es s e [] low)

-- the cells are the seconds of the entries
pub times_are : (ts : List Runtime) (es : List Execution) (rows columns : List (List ℕ)) (table : List ℕ) (n : List ℕ) (sites : List ℕ) → AllByRecursion IsRuntimeInRange ts → IsClock ts es rows columns table → number rows n < length rows
    → All (λ s. s < length es) sites → map (λ (s : ℕ). max (get_or table (cell rows columns n (site_name_at es s)) 0) 1) sites ≡ times_of ts es n sites
times_are ts es rows columns table n [] small clock row all = refl
times_are ts es rows columns table n (s ∷ ss) small clock row all =
    let here : max (get_or table (cell rows columns n (site_name_at es s)) 0) 1 ≡ seconds ts n (site_name_at es s)
    = ap (λ (k : ℕ). max k 1) (clock.entries.each n (site_name_at es s) row (clock.known s (all 0 s (omega arith)))) ∙ sym (seconds_are ts n (site_name_at es s) small) in
    ap (λ (k : ℕ). k ∷ map (λ (q : ℕ). max (get_or table (cell rows columns n (site_name_at es q)) 0) 1) ss) here
    ∙ ap (λ (ks : List ℕ). seconds ts n (site_name_at es s) ∷ ks) (times_are ts es rows columns table n ss small clock row (λ i d l. all (suc i) d (omega (arith, l))))

pub times_more : (jobs : List Job) (kept : List Bool) (es : List Execution) (ts : List Runtime) (candidates : List (List ℕ)) (vs new : List (Vec ℕ Global)) (v : Vec ℕ Global) (n : ℕ) (job : Job) → n < length jobs
    → AreTimes jobs kept es ts candidates (lists_of vs) n → slice_index_or jobs n job ≡ job → (is_kept kept n ≡ true → v.items ≡ times_of ts es (transformation_name job) (neighbours candidates n)) → new ≡ vs ++ v ∷ []
    → AreTimes jobs kept es ts candidates (lists_of new) (n + 1)
times_more jobs kept es ts candidates vs new v n job inside are at is grown = subst (λ (ls : List (List ℕ)). AreTimes jobs kept es ts candidates ls (n + 1)) (sym (ap (λ (xs : List (Vec ℕ Global)). lists_of xs) grown ∙ pushed vs v)) (record {
  long = longer (lists_of vs) v.items ∙ ap (λ (k : ℕ). k + 1) are.long;
  each = λ a j low on there. by a j low on there (cases_order a n);
})
  where
    here : (j : Job) → is_kept kept n ≡ true → slice_index_or jobs n j ≡ j → neighbours (lists_of vs ++ v.items ∷ []) n ≡ times_of ts es (transformation_name j) (neighbours candidates n)
    here j on there =
        let one_job : job ≡ j = sym at ∙ get_or_default jobs n job j inside ∙ there in
        ap (λ (k : ℕ). neighbours (lists_of vs ++ v.items ∷ []) k) (sym are.long) ∙ at_last (lists_of vs) v.items ∙ is on ∙ ap (λ (x : Job). times_of ts es (transformation_name x) (neighbours candidates n)) one_job

    by : (a : ℕ) (j : Job) → a < n + 1 → is_kept kept a ≡ true → slice_index_or jobs a j ≡ j → ((a ≡ n) ⊎ ((a < n) ⊎ (n < a))) → neighbours (lists_of vs ++ v.items ∷ []) a ≡ times_of ts es (transformation_name j) (neighbours candidates a)
    by a j low on there (inl same) = subst (λ (m : ℕ). is_kept kept m ≡ true → slice_index_or jobs m j ≡ j → neighbours (lists_of vs ++ v.items ∷ []) m ≡ times_of ts es (transformation_name j) (neighbours candidates m)) (sym same) (here j) on there
    by a j low on there (inr (inl less)) = at_left (lists_of vs) v.items a (let l = are.long in omega (arith, l, less)) ∙ are.each a j less on there
    by a j low on there (inr (inr more)) = absurd (omega (arith, more, low))

pub no_times : (jobs : List Job) (kept : List Bool) (es : List Execution) (ts : List Runtime) (candidates : List (List ℕ)) → AreTimes jobs kept es ts candidates [] 0
no_times jobs kept es ts candidates = record { long = refl; each = λ a j low on there. absurd (omega (arith, low)) }
