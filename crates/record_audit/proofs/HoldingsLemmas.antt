-- What is held of each pair, and what it comes to at each site.
use Rattle.std.proofs.Common.{◌≡◌, ℕ, zero, suc, ◌+◌, ◌-◌, ◌^◌, ◌≤◌, ◌<◌, ◌≢◌, ◌&&◌, ◌||◌, Bool, true, false, cond, nat_eq, nat_lt, eqb-true, List, [], ◌∷◌, length, drop, get_or, refl, sym, ap, ◌∙◌, arith}
use Rattle.std.specs.Prelude.{Option, Some, None, is_some, replicate, slice_get}
use Rattle.std.proofs.lemmas.Bool.{ltb-false, ltb-true, ne_eqb}
use Rattle.std.proofs.lemmas.Option.{slice_get_past}
use Rattle.plan_core.specs.declared.plan.Pair.{Pair}
use Rattle.plan_core.specs.declared.plan.Plan.{Plan}
use Rattle.plan_core.specs.Numbers.{has}
use Rattle.plan_core.specs.Words.{count_pairs, count_tasks, is_at, output_bound, pair, is_on_site, writes}
use Rattle.storage_simulation.specs.declared.standing.Held.{Held}
use Rattle.storage_simulation.specs.declared.standing.Held.TheVariants.{Nothing, Reserved, Stored}
use Rattle.storage_simulation.specs.code.Goods.{IsWithinLimits}
use Rattle.storage_simulation.specs.Goods.{count_sites, goods, is_delivery, lies_at, makes}
use Rattle.storage_simulation.specs.code.Standings.{at_in}
use Rattle.storage_simulation.specs.Standings.{held_size}
use Rattle.storage_simulation.proofs.FollowingLemmas.{is_itself}
use Rattle.lease_rules.specs.State.{State, put, reserved_size, stored_among, stored_size}
use Rattle.lease_book.proofs.ArrayLemmas.{has_at}
use Rattle.lease_rules.proofs.TotalLemmas.{total_add, total_bound, total_change, total_same}
use Rattle.record_audit.specs.Holdings.{AddsUp, AreSizes, is_this, load, size_among}
use Rattle.record_audit.specs.Sums.{held_at}
use Rattle.record_audit.specs.declared.holdings.Holdings.{Holdings}

-- ---- where a good lies

and_off : (a b : Bool) → b ≡ false → (a && b) ≡ false
and_off true b h = h
and_off false b h = refl

-- a pair lies at its site, and no other good at any
pub site_lies : (p : Plan) (g q : ℕ) → q < count_sites p → lies_at p g q ≡ is_on_site (pair p g) q
unfolding lies_at is_at pair
site_lies p g q l = by_range (nat_lt g (count_pairs p)) refl
  where
    off : (is_delivery p (g - count_pairs p) && nat_eq q (count_sites p)) ≡ false
    off = and_off (is_delivery p (g - count_pairs p)) (nat_eq q (count_sites p)) (ne_eqb q (count_sites p) (λ e. omega (arith, l, e)))

    by_range : (b : Bool) → nat_lt g (count_pairs p) ≡ b
        → cond b (is_on_site (slice_get p.pairs g) q) (is_delivery p (g - count_pairs p) && nat_eq q (count_sites p)) ≡ is_on_site (slice_get p.pairs g) q
    by_range true e = refl
    by_range false e = off ∙ sym (ap (λ (o : Option Pair). is_on_site o q) (slice_get_past p.pairs g (ltb-false g (count_pairs p) e)))

pub no_pair_lies : (p : Plan) (g q : ℕ) → count_pairs p ≤ g → q < count_sites p → lies_at p g q ≡ false
unfolding pair
no_pair_lies p g q past l = site_lies p g q l ∙ ap (λ (o : Option Pair). is_on_site o q) (slice_get_past p.pairs g past)

pub lies_none : (p : Plan) (g q : ℕ) → pair p g ≡ None → q < count_sites p → lies_at p g q ≡ false
lies_none p g q none l = site_lies p g q l ∙ ap (λ (o : Option Pair). is_on_site o q) none

pub lies_there : (p : Plan) (g q : ℕ) (x : Pair) → pair p g ≡ Some x → q < count_sites p → lies_at p g q ≡ nat_eq x.site.0 q
lies_there p g q x some l = site_lies p g q l ∙ ap (λ (o : Option Pair). is_on_site o q) some

pub lies_beyond : (p : Plan) (g q : ℕ) (x : Pair) → pair p g ≡ Some x → count_sites p ≤ x.site.0 → q < count_sites p → lies_at p g q ≡ false
lies_beyond p g q x some far l = lies_there p g q x some l ∙ ne_eqb x.site.0 q (λ e. omega (arith, far, l, e))

-- ---- sums where the size of one pair changes

put_here : (w : ℕ → ℕ) (a n : ℕ) → put w a n a ≡ n
put_here w a n = ap (λ (b : Bool). cond b n (w a)) (is_itself a)

put_there : (w : ℕ → ℕ) (a n x : ℕ) → x ≢ a → put w a n x ≡ w x
put_there w a n x off = ap (λ (b : Bool). cond b n (w x)) (ne_eqb a x (λ e. off (sym e)))

load_changes : (p : Plan) (w : ℕ → ℕ) (a n q : ℕ) → a < count_pairs p → load p (put w a n) q + cond (lies_at p a q) (w a) 0 ≡ load p w q + cond (lies_at p a q) n 0
unfolding goods
load_changes p w a n q l =
    let all = total_change (λ g. cond (lies_at p g q) (put w a n g) 0) (λ g. cond (lies_at p g q) (w g) 0) (goods p) a (omega (arith, l))
    (λ x off. ap (λ (y : ℕ). cond (lies_at p x q) y 0) (put_there w a n x off)) in
    let here = ap (λ (y : ℕ). cond (lies_at p a q) y 0) (put_here w a n) in
    omega (arith, all, here)

cond_small : (b : Bool) (x y n : ℕ) → x ≤ n → y ≤ n → cond b x y ≤ n
cond_small true x y n h k = h
cond_small false x y n h k = k

load_small : (p : Plan) (w : ℕ → ℕ) (q : ℕ) → IsWithinLimits p → ((g : ℕ) → w g ≤ 2 ^ 40) → load p w q < 2 ^ 63
unfolding goods
load_small p w q limits small =
    let all = total_bound (λ g. cond (lies_at p g q) (w g) 0) (2 ^ 40) (goods p) (λ g l. cond_small (lies_at p g q) (w g) 0 (2 ^ 40) (small g) (omega arith)) in
    let few = cond_small (is_some (output_bound p)) (count_tasks p) 0 120000 limits.tasks (omega arith) in
    let pairs = limits.pairs in
    omega (arith, all, few, pairs)

load_same : (p : Plan) (v w : ℕ → ℕ) (q : ℕ) → ((g : ℕ) → v g ≡ w g) → load p v q ≡ load p w q
load_same p v w q same = total_same (λ g. cond (lies_at p g q) (v g) 0) (λ g. cond (lies_at p g q) (w g) 0) (goods p) (λ g l. ap (λ (y : ℕ). cond (lies_at p g q) y 0) (same g))

-- nothing is held at first

pub none_at : (n k : ℕ) → at_in {X = ℕ} 0 (replicate n 0) k ≡ 0
none_at zero k = refl
none_at (suc n) zero = refl
none_at (suc n) (suc k) = none_at n k

pub none_long : (n : ℕ) → length {A = ℕ} (replicate n 0) ≡ n
none_long zero = refl
none_long (suc n) = ap suc (none_long n)

load_none : (p : Plan) (w : ℕ → ℕ) (q : ℕ) → ((g : ℕ) → w g ≡ 0) → load p w q ≡ 0
load_none p w q none =
    let all = total_bound (λ g. cond (lies_at p g q) (w g) 0) 0 (goods p) (λ g l. cond_small (lies_at p g q) (w g) 0 0 (let is = none g in omega (arith, is)) (omega arith)) in
    omega (arith, all)

pub none_adds_up : (p : Plan) (h : Holdings) → length h.sizes.items ≡ count_pairs p → length h.sums.items ≡ count_sites p
    → ((g : ℕ) → at_in 0 h.sizes.items g ≡ 0) → ((q : ℕ) → at_in 0 h.sums.items q ≡ 0) → AddsUp p h
none_adds_up p h pairs sites sizes sums = record {
  pairs = pairs;
  sites = sites;
  small = λ g. let is = sizes g in omega (arith, is);
  sums = λ q l. sums q ∙ sym (load_none p (at_in 0 h.sizes.items) q sizes);
}

-- the sum at the pair's site can be changed
pub set_fits : (p : Plan) (h : Holdings) (a n s : ℕ) → IsWithinLimits p → a < count_pairs p → n ≤ 2 ^ 40 → AddsUp p h → s < count_sites p
    → ((q : ℕ) → q < count_sites p → lies_at p a q ≡ is_this (Some s) q)
    → (at_in 0 h.sizes.items a ≤ at_in 0 h.sums.items s + n) × (at_in 0 h.sums.items s + n < 2 ^ 64)
set_fits p h a n s limits l small adds here lies =
    let w : ℕ → ℕ = at_in 0 h.sizes.items in
    let there : lies_at p a s ≡ true = lies s here ∙ is_itself s in
    let one = load_changes p w a n s l in
    let old = ap (λ (b : Bool). cond b (w a) 0) there in
    let new = ap (λ (b : Bool). cond b n 0) there in
    let sum = adds.sums s here in
    let low = load_small p w s limits adds.small in
    (omega (arith, one, old, new, sum), omega (arith, sum, low, small))

sizes_small : (w v : ℕ → ℕ) (a n : ℕ) → n ≤ 2 ^ 40 → ((g : ℕ) → w g ≤ 2 ^ 40) → ((g : ℕ) → v g ≡ put w a n g) → (g : ℕ) → v g ≤ 2 ^ 40
sizes_small w v a n small old new g = let is = new g in let low = cond_small (nat_eq a g) n (w g) (2 ^ 40) small (old g) in omega (arith, is, low)

pub changed_by : (x y n a b : ℕ) → x ≡ y → a ≡ b → x + n - a ≡ y + n - b
changed_by x y n a b e f = ap (λ (k : ℕ). k + n - a) e ∙ ap (λ (k : ℕ). y + n - k) f

pub set_somewhere : (p : Plan) (h k : Holdings) (a n s v : ℕ) → a < count_pairs p → n ≤ 2 ^ 40 → AddsUp p h → s < count_sites p
    → ((q : ℕ) → q < count_sites p → lies_at p a q ≡ is_this (Some s) q)
    → v ≡ at_in 0 h.sums.items s + n - at_in 0 h.sizes.items a
    → length k.sizes.items ≡ length h.sizes.items → ((g : ℕ) → at_in 0 k.sizes.items g ≡ put (at_in 0 h.sizes.items) a n g)
    → length k.sums.items ≡ length h.sums.items → ((q : ℕ) → at_in 0 k.sums.items q ≡ put (at_in 0 h.sums.items) s v q)
    → AddsUp p k
set_somewhere p h k a n s v l small adds here lies is long sizes sites sums = record {
  pairs = long ∙ adds.pairs;
  sites = sites ∙ adds.sites;
  small = sizes_small (at_in 0 h.sizes.items) (at_in 0 k.sizes.items) a n small adds.small sizes;
  sums = λ q m. by_site q m (nat_eq s q) refl;
}
  where
    by_site : (q : ℕ) → q < count_sites p → (b : Bool) → nat_eq s q ≡ b → at_in 0 k.sums.items q ≡ load p (at_in 0 k.sizes.items) q
    by_site q m true e =
        let at : s ≡ q = eqb-true s q e in
        let there : lies_at p a q ≡ true = lies q m ∙ e in
        let one = load_changes p (at_in 0 h.sizes.items) a n q l in
        let old = ap (λ (b : Bool). cond b (at_in 0 h.sizes.items a) 0) there in
        let new = ap (λ (b : Bool). cond b n 0) there in
        let sum = adds.sums q m in
        let same = ap (at_in 0 h.sums.items) at in
        let now = sums q ∙ ap (λ (b : Bool). cond b v (at_in 0 h.sums.items q)) e in
        let whole = load_same p (at_in 0 k.sizes.items) (put (at_in 0 h.sizes.items) a n) q sizes in
        omega (arith, one, old, new, sum, same, now, whole, is)
    by_site q m false e =
        let there : lies_at p a q ≡ false = lies q m ∙ e in
        let one = load_changes p (at_in 0 h.sizes.items) a n q l in
        let old = ap (λ (b : Bool). cond b (at_in 0 h.sizes.items a) 0) there in
        let new = ap (λ (b : Bool). cond b n 0) there in
        let sum = adds.sums q m in
        let now = sums q ∙ ap (λ (b : Bool). cond b v (at_in 0 h.sums.items q)) e in
        let whole = load_same p (at_in 0 k.sizes.items) (put (at_in 0 h.sizes.items) a n) q sizes in
        omega (arith, one, old, new, sum, now, whole)

pub set_nowhere : (p : Plan) (h k : Holdings) (a n : ℕ) → a < count_pairs p → n ≤ 2 ^ 40 → AddsUp p h
    → ((q : ℕ) → q < count_sites p → lies_at p a q ≡ false)
    → length k.sizes.items ≡ length h.sizes.items → ((g : ℕ) → at_in 0 k.sizes.items g ≡ put (at_in 0 h.sizes.items) a n g)
    → k.sums ≡ h.sums → AddsUp p k
set_nowhere p h k a n l small adds lies long sizes sums = record {
  pairs = long ∙ adds.pairs;
  sites = ap (λ (v : _). length v.items) sums ∙ adds.sites;
  small = sizes_small (at_in 0 h.sizes.items) (at_in 0 k.sizes.items) a n small adds.small sizes;
  sums = λ q m.
      let there = lies q m in
      let one = load_changes p (at_in 0 h.sizes.items) a n q l in
      let old = ap (λ (b : Bool). cond b (at_in 0 h.sizes.items a) 0) there in
      let new = ap (λ (b : Bool). cond b n 0) there in
      let sum = adds.sums q m in
      let now = ap (λ (v : _). at_in 0 v.items q) sums in
      let whole = load_same p (at_in 0 k.sizes.items) (put (at_in 0 h.sizes.items) a n) q sizes in
      omega (arith, one, old, new, sum, now, whole);
}

-- ---- the pairs that a task writes, one by one

pub written_in : (p : Plan) (t k i : ℕ) → ((g : ℕ) → has (writes p t) g ≡ true → g < count_pairs p) → k < length (writes p t) → i ≡ get_or (writes p t) k 0 → i < count_pairs p
written_in p t k i range below at = let l = range (get_or (writes p t) k 0) (has_at (writes p t) k below) in omega (arith, l, at)

-- the sizes of a Run, from the last from the last

among_step : (xs ns : List ℕ) (k g n : ℕ) → k < length xs → k < length ns → size_among (drop k xs) (drop k ns) g n ≡ cond (nat_eq (get_or xs k 0) g) (get_or ns k 0) (size_among (drop (suc k) xs) (drop (suc k) ns) g n)
among_step [] ns k g n l m = absurd (omega arith)
among_step (x ∷ xs) [] k g n l m = absurd (omega arith)
among_step (x ∷ xs) (y ∷ ns) zero g n l m = refl
among_step (x ∷ xs) (y ∷ ns) (suc k) g n l m = among_step xs ns k g n (omega arith) (omega arith)

pub among_more : (xs ns : List ℕ) (new now old : ℕ → ℕ) (k m i v : ℕ) → suc k ≡ m → k < length xs → length ns ≡ length xs → i ≡ get_or xs k 0 → v ≡ get_or ns k 0
    → ((g : ℕ) → new g ≡ put now i v g)
    → ((g : ℕ) → now g ≡ size_among (drop m xs) (drop m ns) g (old g))
    → (g : ℕ) → new g ≡ size_among (drop k xs) (drop k ns) g (old g)
among_more xs ns new now old k m i v next below same at is one so_far g =
    one g
    ∙ ap (λ (y : ℕ). cond (nat_eq i g) v y) (so_far g)
    ∙ ap (λ (j : ℕ). cond (nat_eq j g) v (size_among (drop m xs) (drop m ns) g (old g))) at
    ∙ ap (λ (w : ℕ). cond (nat_eq (get_or xs k 0) g) w (size_among (drop m xs) (drop m ns) g (old g))) is
    ∙ ap (λ (j : ℕ). cond (nat_eq (get_or xs k 0) g) (get_or ns k 0) (size_among (drop j xs) (drop j ns) g (old g))) (sym next)
    ∙ sym (among_step xs ns k g (old g) below (omega arith))

pub among_first : (xs ns : List ℕ) (k g n : ℕ) → k ≡ length xs → size_among (drop k xs) (drop k ns) g n ≡ n
among_first xs ns k g n e = ap (λ (l : List ℕ). size_among l (drop k ns) g n) (ap (λ (m : ℕ). drop m xs) e ∙ gone xs)
  where
    gone : (ys : List ℕ) → drop (length ys) ys ≡ []
    gone [] = refl
    gone (y ∷ ys) = gone ys

pub among_all : (xs ns : List ℕ) (k g n : ℕ) → k ≡ 0 → size_among (drop k xs) (drop k ns) g n ≡ size_among xs ns g n
among_all xs ns k g n e = ap (λ (m : ℕ). size_among (drop m xs) (drop m ns) g n) e ∙ ap (λ (l : List ℕ). size_among l (drop 0 ns) g n) (none xs) ∙ ap (λ (l : List ℕ). size_among xs l g n) (none ns)
  where
    none : (ys : List ℕ) → drop 0 ys ≡ ys
    none [] = refl
    none (y ∷ ys) = refl

-- ---- what is held, and its size

held_cond : (b : Bool) (x y : Held) → held_size (cond b x y) ≡ cond b (held_size x) (held_size y)
held_cond true x y = refl
held_cond false x y = refl

held_among : (xs ns : List ℕ) (g : ℕ) (h : Held) → held_size (stored_among xs ns g h) ≡ size_among xs ns g (held_size h)
held_among [] ns g h = refl
held_among (x ∷ xs) [] g h = refl
held_among (x ∷ xs) (n ∷ ns) g h = held_cond (nat_eq x g) (Stored n) (stored_among xs ns g h) ∙ ap (λ (y : ℕ). cond (nat_eq x g) n y) (held_among xs ns g h)

-- what a task makes are the pairs that it writes, or else its delivery, which is none
pub makes_writes : (p : Plan) (t : ℕ) → is_delivery p t ≡ false → makes p t ≡ writes p t
unfolding makes
makes_writes p t off = ap (λ (b : Bool). cond b ((count_pairs p + t) ∷ []) (writes p t)) off

makes_no_pair : (p : Plan) (t g : ℕ) → is_delivery p t ≡ true → g < count_pairs p → has (makes p t) g ≡ false
unfolding makes
makes_no_pair p t g on l =
    ap (λ (b : Bool). has (cond b ((count_pairs p + t) ∷ []) (writes p t)) g) on
    ∙ ap (λ (b : Bool). b || false) (ne_eqb (count_pairs p + t) g (λ e. omega (arith, e, l)))

pub shows_made : (p : Plan) (t : ℕ) (held : ℕ → Held) (what : ℕ → ℕ) (f : ℕ → Held) (old new : ℕ → ℕ) → is_delivery p t ≡ false
    → ((g : ℕ) → held_size (held g) ≡ what g)
    → ((g : ℕ) → new g ≡ cond (has (writes p t) g) (what g) (old g))
    → AreSizes p old f → AreSizes p new (λ g. cond (has (makes p t) g) (held g) (f g))
shows_made p t held what f old new off sized written shows g l =
    written g
    ∙ ap (λ (y : ℕ). cond (has (writes p t) g) (what g) y) (shows g l)
    ∙ ap (λ (y : ℕ). cond (has (writes p t) g) y (held_size (f g))) (sym (sized g))
    ∙ ap (λ (xs : List ℕ). cond (has xs g) (held_size (held g)) (held_size (f g))) (sym (makes_writes p t off))
    ∙ sym (held_cond (has (makes p t) g) (held g) (f g))

pub shows_delivered : (p : Plan) (t : ℕ) (held f : ℕ → Held) (old : ℕ → ℕ) → is_delivery p t ≡ true → AreSizes p old f → AreSizes p old (λ g. cond (has (makes p t) g) (held g) (f g))
shows_delivered p t held f old on shows g l = shows g l ∙ sym (ap (λ (b : Bool). held_size (cond b (held g) (f g))) (makes_no_pair p t g on l))

pub shows_ended : (p : Plan) (t : ℕ) (ns : List ℕ) (f : ℕ → Held) (old new : ℕ → ℕ) → is_delivery p t ≡ false
    → ((g : ℕ) → new g ≡ size_among (writes p t) ns g (old g))
    → AreSizes p old f → AreSizes p new (λ g. stored_among (makes p t) ns g (f g))
shows_ended p t ns f old new off written shows g l =
    written g
    ∙ ap (λ (y : ℕ). size_among (writes p t) ns g y) (shows g l)
    ∙ ap (λ (xs : List ℕ). size_among xs ns g (held_size (f g))) (sym (makes_writes p t off))
    ∙ sym (held_among (makes p t) ns g (f g))

pub shows_cleaned : (p : Plan) (a : ℕ) (cleaned : ℕ → Bool) (f : ℕ → Held) (old new : ℕ → ℕ)
    → ((g : ℕ) → cleaned g ≡ nat_eq a g) → ((g : ℕ) → new g ≡ put old a 0 g)
    → AreSizes p old f → AreSizes p new (λ g. cond (cleaned g) Nothing (f g))
shows_cleaned p a cleaned f old new is written shows g l =
    written g
    ∙ ap (λ (y : ℕ). cond (nat_eq a g) 0 y) (shows g l)
    ∙ ap (λ (b : Bool). cond b 0 (held_size (f g))) (sym (is g))
    ∙ sym (held_cond (cleaned g) Nothing (f g))

pub shows_no_clean : (p : Plan) (cleaned : ℕ → Bool) (f : ℕ → Held) (old : ℕ → ℕ) → ((g : ℕ) → cleaned g ≡ false) → AreSizes p old f → AreSizes p old (λ g. cond (cleaned g) Nothing (f g))
shows_no_clean p cleaned f old off shows g l = shows g l ∙ sym (ap (λ (b : Bool). held_size (cond b Nothing (f g))) (off g))

-- the sums are what is stored and reserved at each site

parts : (b : Bool) (h : Held) → cond b (stored_size h) 0 + cond b (reserved_size h) 0 ≡ cond b (held_size h) 0
parts false h = refl
parts true Nothing = refl
parts true (Stored n) = omega arith
parts true (Reserved n) = omega arith

pub held_is_load : (p : Plan) (s : State) (w : ℕ → ℕ) (q : ℕ) → q < count_sites p → AreSizes p w s.held → held_at p s q ≡ load p w q
held_is_load p s w q l shows =
    total_add (λ g. cond (lies_at p g q) (stored_size (s.held g)) 0) (λ g. cond (lies_at p g q) (reserved_size (s.held g)) 0) (λ g. cond (lies_at p g q) (held_size (s.held g)) 0) (goods p) (λ g. parts (lies_at p g q) (s.held g))
    ∙ total_same (λ g. cond (lies_at p g q) (held_size (s.held g)) 0) (λ g. cond (lies_at p g q) (w g) 0) (goods p) (λ g k. by_pair g (nat_lt g (count_pairs p)) refl)
  where
    by_pair : (g : ℕ) (b : Bool) → nat_lt g (count_pairs p) ≡ b → cond (lies_at p g q) (held_size (s.held g)) 0 ≡ cond (lies_at p g q) (w g) 0
    by_pair g true e = ap (λ (y : ℕ). cond (lies_at p g q) y 0) (sym (shows g (below g e)))
      where
        below : (x : ℕ) → nat_lt x (count_pairs p) ≡ true → x < count_pairs p
        below x h = ltb-true x (count_pairs p) h
    by_pair g false e =
        let off = no_pair_lies p g q (ltb-false g (count_pairs p) e) l in
        ap (λ (b : Bool). cond b (held_size (s.held g)) 0) off ∙ sym (ap (λ (b : Bool). cond b (w g) 0) off)
