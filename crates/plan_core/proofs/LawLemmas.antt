-- What the laws say.
use Rattle.std.proofs.Common.{◌≡◌, ℕ, ◌<◌, ◌||◌, Bool, true, false, List, [], ◌∷◌, refl, sym, ap, ◌∙◌, ◌⊎◌, inl, inr, nat_eq, nat_lt, length, arith}
use Rattle.std.specs.Prelude.{Option, Some, None, slice_get}
use Rattle.std.specs.List.{list_any}
use Rattle.plan_core.specs.declared.plan.Plan.{Plan}
use Rattle.plan_core.specs.declared.plan.Pair.{Pair}
use Rattle.plan_core.specs.declared.plan.TaskKind.{TaskKind}
use Rattle.plan_core.specs.declared.plan.TaskKind.TheVariants.{Transfer, Run, Clean}
use Rattle.plan_core.specs.Numbers.{has, below}
use Rattle.plan_core.specs.Words.{reads, writes, parents, kind, is_clean, is_clean_kind, cleans, kind_cleans, count_pairs, count_tasks}
use Rattle.plan_core.specs.code.Words.{is_pair}
use Rattle.plan_core.specs.Kinds.{on_pair, kind_reads, kind_writes, reads_file, writes_file, reads_pair, writes_pair, sweeps, waits_for}
use Rattle.plan_core.specs.code.Proper.{IsProper, is_parent, is_kind_in_range, is_pair_in_range}
use Rattle.plan_core.proofs.TestLemmas.{same_number, or_left, or_right, either, by_bool, is_itself, both}
use Rattle.plan_core.proofs.NumbersLemmas.{below_has, has_below, any_has}
use Rattle.plan_core.proofs.PairLemmas.{on_this_pair, reads_below, writes_below}
use Rattle.plan_core.specs.code.Grounded.{Grounded, ground}
use Rattle.plan_core.proofs.GroundedLemmas.{all_grounded}
use Rattle.plan_core.proofs.CarriedLemmas.{low_parent}
use Rattle.plan_core.proofs.FilePairLemmas.{known, number_once, numbers_follow}
use Rattle.plan_core.proofs.CheckingLemmas.{all_place, in_range_at}

-- a list of the numbers that pass has those that pass
pub in_below : (n : ℕ) (test : ℕ → Bool) (q : ℕ) → q < n → has (below n test) q ≡ test q
in_below n test q l = by_bool (test q) (λ h. has_below n test q l h ∙ sym h) (λ h. by_bool (has (below n test) q) (λ k. absurd (let x : false ≡ true = sym h ∙ (below_has n test q k).1 in cc)) (λ k. k ∙ sym h))

pub reads_listed : (p : Plan) → IsProper p → (t q s f : ℕ) → is_pair p q s f ≡ true → has (reads p t) q ≡ reads_file p t s f
reads_listed p proper t q s f is = let found = on_this_pair p q s f is in
    ap (λ (xs : List ℕ). has xs q) (reads_below p proper t) ∙ in_below (count_pairs p) (reads_pair p t) q found.0 ∙ found.1 (reads_file p t)

pub writes_listed : (p : Plan) → IsProper p → (t q s f : ℕ) → is_pair p q s f ≡ true → has (writes p t) q ≡ writes_file p t s f
writes_listed p proper t q s f is = let found = on_this_pair p q s f is in
    ap (λ (xs : List ℕ). has xs q) (writes_below p proper t) ∙ in_below (count_pairs p) (writes_pair p t) q found.0 ∙ found.1 (writes_file p t)

read_passes : (p : Plan) → IsProper p → (t q : ℕ) → has (reads p t) q ≡ true → (q < count_pairs p) × (reads_pair p t q ≡ true)
read_passes p proper t q h = below_has (count_pairs p) (reads_pair p t) q (ap (λ (xs : List ℕ). has xs q) (sym (reads_below p proper t)) ∙ h)

written_passes : (p : Plan) → IsProper p → (t q : ℕ) → has (writes p t) q ≡ true → (q < count_pairs p) × (writes_pair p t q ≡ true)
written_passes p proper t q h = below_has (count_pairs p) (writes_pair p t) q (ap (λ (xs : List ℕ). has xs q) (sym (writes_below p proper t)) ∙ h)

pub listed_in_range : (p : Plan) → IsProper p → (t q : ℕ) → (has (reads p t) q || has (writes p t) q) ≡ true → q < count_pairs p
listed_in_range p proper t q h = by (either (has (reads p t) q) (has (writes p t) q) h)
  where
    by : (has (reads p t) q ≡ true) ⊎ (has (writes p t) q ≡ true) → q < count_pairs p
    by (inl k) = (read_passes p proper t q k).0
    by (inr k) = (written_passes p proper t q k).0

pub reader_waits : (p : Plan) → IsProper p → (t u q : ℕ) → has (reads p t) q ≡ true → has (writes p u) q ≡ true → is_parent p u t ≡ true
unfolding waits_for reads writes kind
reader_waits p proper t u q h k =
    let waits : list_any (λ n. has (writes p u) n) (reads p t) ≡ true = any_has (λ n. has (writes p u) n) q (reads p t) h k in
    (proper.flow.parents t).needed u (or_left (list_any (λ n. has (writes p u) n) (reads p t)) (sweeps (kind p t) (writes p u) || sweeps (kind p t) (reads p u)) waits)

cleans_sweeps : (o : Option TaskKind) (q : ℕ) (qs : List ℕ) → kind_cleans o q ≡ true → has qs q ≡ true → sweeps o qs ≡ true
cleans_sweeps None q qs h k = absurd cc
cleans_sweeps (Some (Transfer g from to)) q qs h k = absurd cc
cleans_sweeps (Some (Run s js)) q qs h k = absurd cc
cleans_sweeps (Some (Clean c)) q qs h k = ap (has qs) (same_number c.0 q h) ∙ k

pub clean_waits : (p : Plan) → IsProper p → (t u q : ℕ) → cleans p t q ≡ true → (has (writes p u) q || has (reads p u) q) ≡ true → is_parent p u t ≡ true
unfolding waits_for reads writes kind
clean_waits p proper t u q h k = (proper.flow.parents t).needed u (or_right (list_any (λ n. has (writes p u) n) (reads p t)) (sweeps (kind p t) (writes p u) || sweeps (kind p t) (reads p u)) (by (either (has (writes p u) q) (has (reads p u) q) k)))
  where
    by : (has (writes p u) q ≡ true) ⊎ (has (reads p u) q ≡ true) → (sweeps (kind p t) (writes p u) || sweeps (kind p t) (reads p u)) ≡ true
    by (inl l) = or_left (sweeps (kind p t) (writes p u)) (sweeps (kind p t) (reads p u)) (cleans_sweeps (kind p t) q (writes p u) h l)
    by (inr l) = or_right (sweeps (kind p t) (writes p u)) (sweeps (kind p t) (reads p u)) (cleans_sweeps (kind p t) q (reads p u) h l)

clean_reads : (p : Plan) (o : Option TaskKind) → is_clean_kind o ≡ true → (x : Option Pair) → on_pair (kind_reads p.jobs o) x ≡ false
clean_reads p None h x = absurd cc
clean_reads p (Some (Transfer g from to)) h x = absurd cc
clean_reads p (Some (Run s js)) h x = absurd cc
clean_reads p (Some (Clean c)) h None = refl
clean_reads p (Some (Clean c)) h (Some q) = refl

clean_writes : (p : Plan) (o : Option TaskKind) → is_clean_kind o ≡ true → (x : Option Pair) → on_pair (kind_writes p.jobs o) x ≡ false
clean_writes p None h x = absurd cc
clean_writes p (Some (Transfer g from to)) h x = absurd cc
clean_writes p (Some (Run s js)) h x = absurd cc
clean_writes p (Some (Clean c)) h None = refl
clean_writes p (Some (Clean c)) h (Some q) = refl

pub clean_touches_nothing : (p : Plan) → IsProper p → (t q : ℕ) → is_clean p t ≡ true → (has (writes p t) q || has (reads p t) q) ≡ false
clean_touches_nothing p proper t q h = by (has (writes p t) q) refl (has (reads p t) q) refl
  where
    by : (a : Bool) → has (writes p t) q ≡ a → (b : Bool) → has (reads p t) q ≡ b → (a || b) ≡ false
    by true e b k = absurd (let x : false ≡ true = sym (clean_writes p (kind p t) h (slice_get p.pairs q)) ∙ (written_passes p proper t q e).1 in cc)
    by false e true k = absurd (let x : false ≡ true = sym (clean_reads p (kind p t) h (slice_get p.pairs q)) ∙ (read_passes p proper t q k).1 in cc)
    by false e false k = refl

-- a number of a list that passes
member : (test : ℕ → Bool) (xs : List ℕ) → list_any test xs ≡ true → (x : ℕ) × (has xs x ≡ true) × (test x ≡ true)
member test [] h = absurd cc
member test (x ∷ xs) h = by (test x) refl h (λ k. member test xs k)
  where
    by : (b : Bool) → test x ≡ b → (b || list_any test xs) ≡ true → (list_any test xs ≡ true → (y : ℕ) × (has xs y ≡ true) × (test y ≡ true)) → (y : ℕ) × (has (x ∷ xs) y ≡ true) × (test y ≡ true)
    by true e k rest = (x, or_left (nat_eq x x) (has xs x) (is_itself x), e)
    by false e k rest = let found = rest k in (found.0, or_right (nat_eq x found.0) (has xs found.0) found.1, found.2)

first_from : (p : Plan) (test : ℕ → Bool) (t : ℕ) → Grounded (is_parent p) t → test t ≡ true → (u : ℕ) × (test u ≡ true) × ((v : ℕ) → is_parent p v u ≡ true → test v ≡ false)
first_from p test t (ground a back) h = by (list_any test (parents p a)) refl (λ v k. first_from p test v (back v k))
  where
    by : (b : Bool) → list_any test (parents p a) ≡ b → ((v : ℕ) → is_parent p v a ≡ true → test v ≡ true → (u : ℕ) × (test u ≡ true) × ((w : ℕ) → is_parent p w u ≡ true → test w ≡ false)) → (u : ℕ) × (test u ≡ true) × ((v : ℕ) → is_parent p v u ≡ true → test v ≡ false)
    by true e rest = let found = member test (parents p a) e in rest found.0 found.1 found.2
    by false e rest = (a, h, λ v k. by_bool (test v) (λ l. absurd (let x : false ≡ true = sym e ∙ any_has test v (parents p a) k l in cc)) (λ l. l))

pub first_task : (p : Plan) → IsProper p → (test : ℕ → Bool) (t : ℕ) → test t ≡ true → (u : ℕ) × (test u ≡ true) × ((v : ℕ) → is_parent p v u ≡ true → test v ≡ false)
first_task p proper test t h = first_from p test t (all_grounded (is_parent p) (count_tasks p) (low_parent p proper) proper.flow.acyclic t) h

pub proper_is_grounded : (p : Plan) → IsProper p → (t : ℕ) → Grounded (is_parent p) t
proper_is_grounded p proper = all_grounded (is_parent p) (count_tasks p) (low_parent p proper) proper.flow.acyclic

pub once : (p : Plan) → IsProper p → (q r s f : ℕ) → is_pair p q s f ≡ true → is_pair p r s f ≡ true → q ≡ r
unfolding is_pair
once p proper q r s f h k = number_once p.pairs s f q r proper.tables.pairs_rise h k

pub in_order : (p : Plan) → IsProper p → (q r s f g : ℕ) → is_pair p q s f ≡ true → is_pair p r s g ≡ true → f < g → q < r
unfolding is_pair
in_order p proper q r s f g h k l = numbers_follow p.pairs s f g q r proper.tables.pairs_rise h k l

lower : (a b : ℕ) → nat_lt a b ≡ true → a < b
lower a b h = grind arith

pub pair_in_range : (p : Plan) → IsProper p → (q s f : ℕ) → is_pair p q s f ≡ true → (s < length p.sites) × (f < length p.files)
unfolding is_pair
pair_in_range p proper q s f h =
    let x = known (slice_get p.pairs q) s f h in
    let parts = both (nat_lt x.0.site.0 (length p.sites)) (nat_lt x.0.file.0 (length p.files)) (all_place (is_pair_in_range p) p.pairs q x.0 proper.tables.in_range.pairs x.1) in
    let a : x.0.site.0 ≡ s = x.2 in
    let b : x.0.file.0 ≡ f = x.3 in
    let low : x.0.site.0 < length p.sites = lower x.0.site.0 (length p.sites) parts.0 in
    let small : x.0.file.0 < length p.files = lower x.0.file.0 (length p.files) parts.1 in
    (omega (arith, a, low), omega (arith, b, small))

pub kind_in_range : (p : Plan) → IsProper p → (t : ℕ) (k : TaskKind) → kind p t ≡ Some k → is_kind_in_range p k ≡ true
unfolding kind
kind_in_range p proper t k e = in_range_at p proper.tables t (slice_get p.tasks t) refl k e
