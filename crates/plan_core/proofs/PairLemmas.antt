-- Pairs by number: what is read or written at a site and what is listed are one.
use Rattle.std.proofs.Common.{◌≡◌, ℕ, zero, suc, ◌<◌, ◌||◌, Bool, true, false, List, [], ◌∷◌, refl, sym, ap, ◌∙◌, nat_eq, arith}
use Rattle.std.specs.Prelude.{Option, Some, None, slice_get}
use Rattle.std.specs.List.{list_any}
use Rattle.std.proofs.lemmas.Option.{slice_get_within}
use Rattle.plan_core.specs.declared.plan.Plan.{Plan}
use Rattle.plan_core.specs.declared.plan.Pair.{Pair}
use Rattle.plan_core.specs.declared.plan.Task.{Task}
use Rattle.plan_core.specs.Numbers.{has, below}
use Rattle.plan_core.specs.Words.{reads, writes, kind, writes_in, pair_numbers, count_pairs}
use Rattle.plan_core.specs.code.Words.{is_pair, pair_at}
use Rattle.plan_core.specs.Kinds.{on_pair, reads_file, writes_file, reads_pair, writes_pair}
use Rattle.plan_core.specs.code.Proper.{IsProper, stands, is_written}
use Rattle.plan_core.proofs.TestLemmas.{same_number, both, or_left, or_right}
use Rattle.plan_core.proofs.NumbersLemmas.{has_below, below_has}

-- an element that passes, by its place, and back
pub any_place : {A : Type 0} (test : A → Bool) (xs : List A) → list_any test xs ≡ true → (i : ℕ) × (x : A) × (slice_get xs i ≡ Some x) × (test x ≡ true)
any_place test [] h = absurd cc
any_place test (x ∷ xs) h = by (test x) refl h (λ k. any_place test xs k)
  where
    by : (b : Bool) → test x ≡ b → (b || list_any test xs) ≡ true → (list_any test xs ≡ true → (i : ℕ) × (y : _) × (slice_get xs i ≡ Some y) × (test y ≡ true)) → (i : ℕ) × (y : _) × (slice_get (x ∷ xs) i ≡ Some y) × (test y ≡ true)
    by true e k rest = (0, x, refl, e)
    by false e k rest = let found = rest k in (suc found.0, found.1, found.2, found.3)

pub place_any : {A : Type 0} (test : A → Bool) (xs : List A) (i : ℕ) (x : A) → slice_get xs i ≡ Some x → test x ≡ true → list_any test xs ≡ true
place_any test [] i x e h = absurd cc
place_any test (y ∷ xs) zero x e h = or_left (test y) (list_any test xs) (let s : y ≡ x = cc in ap test s ∙ h)
place_any test (y ∷ xs) (suc i) x e h = or_right (test y) (list_any test xs) (place_any test xs i x e h)

pub pair_of : (p : Plan) (s f : ℕ) → stands p s f ≡ true → (q : ℕ) × (is_pair p q s f ≡ true)
unfolding is_pair
pair_of p s f h = let found = any_place (λ (q : Pair). pair_at (Some q) s f) p.pairs h in (found.0, ap (λ (o : Option Pair). pair_at o s f) found.2 ∙ found.3)

pub stands_of : (p : Plan) (q s f : ℕ) → is_pair p q s f ≡ true → stands p s f ≡ true
unfolding is_pair
stands_of p q s f h = by (slice_get p.pairs q) refl h
  where
    by : (o : Option Pair) → slice_get p.pairs q ≡ o → pair_at o s f ≡ true → stands p s f ≡ true
    by None e k = absurd cc
    by (Some x) e k = place_any (λ (y : Pair). pair_at (Some y) s f) p.pairs q x e k

pub writer_of : (p : Plan) (q : ℕ) → is_written p q ≡ true → (t : ℕ) × (has (writes p t) q ≡ true)
unfolding writes
writer_of p q h = let found = any_place (λ (t : Task). has (pair_numbers t.writes) q) p.tasks h in (found.0, ap (λ (o : Option Task). has (writes_in o) q) found.2 ∙ found.3)

pub written_of : (p : Plan) (t q : ℕ) → has (writes p t) q ≡ true → is_written p q ≡ true
unfolding writes
written_of p t q h = by (slice_get p.tasks t) refl h
  where
    by : (o : Option Task) → slice_get p.tasks t ≡ o → has (writes_in o) q ≡ true → is_written p q ≡ true
    by None e k = absurd cc
    by (Some x) e k = place_any (λ (y : Task). has (pair_numbers y.writes) q) p.tasks t x e k

pub on_this_pair : (p : Plan) (q s f : ℕ) → is_pair p q s f ≡ true → (q < count_pairs p) × ((test : ℕ → ℕ → Bool) → on_pair test (slice_get p.pairs q) ≡ test s f)
unfolding is_pair
on_this_pair p q s f h = by (slice_get p.pairs q) refl h
  where
    by : (o : Option Pair) → slice_get p.pairs q ≡ o → pair_at o s f ≡ true → (q < count_pairs p) × ((test : ℕ → ℕ → Bool) → on_pair test (slice_get p.pairs q) ≡ test s f)
    by None e k = absurd cc
    by (Some x) e k =
        let parts = both (nat_eq x.site.0 s) (nat_eq x.file.0 f) k in
        (slice_get_within p.pairs q x e, λ test. ap (on_pair test) e ∙ ap (λ (n : ℕ). test n x.file.0) (same_number x.site.0 s parts.0) ∙ ap (test s) (same_number x.file.0 f parts.1))

-- a pair, by its site and file
pub some_pair : (p : Plan) (q : ℕ) (test : ℕ → ℕ → Bool) → on_pair test (slice_get p.pairs q) ≡ true → (s : ℕ) × (f : ℕ) × (is_pair p q s f ≡ true) × (test s f ≡ true)
unfolding is_pair
some_pair p q test h = by (slice_get p.pairs q) refl h
  where
    by : (o : Option Pair) → slice_get p.pairs q ≡ o → on_pair test o ≡ true → (s : ℕ) × (f : ℕ) × (pair_at (slice_get p.pairs q) s f ≡ true) × (test s f ≡ true)
    by None e k = absurd cc
    by (Some x) e k = (x.site.0, x.file.0, ap (λ (o : Option Pair). pair_at o x.site.0 x.file.0) e ∙ itself x.site.0 x.file.0, k)
      where
        itself : (s f : ℕ) → pair_at (Some (record { site = record { 0 = s }; file = record { 0 = f } })) s f ≡ true
        itself s f = grind arith

pub reads_below : (p : Plan) → IsProper p → (t : ℕ) → reads p t ≡ below (count_pairs p) (reads_pair p t)
unfolding reads kind
reads_below p proper t = (proper.tasks t).reads

pub writes_below : (p : Plan) → IsProper p → (t : ℕ) → writes p t ≡ below (count_pairs p) (writes_pair p t)
unfolding writes kind
writes_below p proper t = (proper.tasks t).writes

pub read_stands : (p : Plan) → IsProper p → (t s f : ℕ) → reads_file p t s f ≡ true → (q : ℕ) × (is_pair p q s f ≡ true)
unfolding kind
read_stands p proper t s f h = pair_of p s f ((proper.tasks t).read_stands s f h)

pub written_stands : (p : Plan) → IsProper p → (t s f : ℕ) → writes_file p t s f ≡ true → (q : ℕ) × (is_pair p q s f ≡ true)
unfolding kind
written_stands p proper t s f h = pair_of p s f ((proper.tasks t).written_stands s f h)

pub listed_read : (p : Plan) → IsProper p → (t q s f : ℕ) → is_pair p q s f ≡ true → reads_file p t s f ≡ true → has (reads p t) q ≡ true
listed_read p proper t q s f is h =
    let found = on_this_pair p q s f is in
    ap (λ (xs : List ℕ). has xs q) (reads_below p proper t) ∙ has_below (count_pairs p) (reads_pair p t) q found.0 (found.1 (reads_file p t) ∙ h)

pub listed_written : (p : Plan) → IsProper p → (t q s f : ℕ) → is_pair p q s f ≡ true → writes_file p t s f ≡ true → has (writes p t) q ≡ true
listed_written p proper t q s f is h =
    let found = on_this_pair p q s f is in
    ap (λ (xs : List ℕ). has xs q) (writes_below p proper t) ∙ has_below (count_pairs p) (writes_pair p t) q found.0 (found.1 (writes_file p t) ∙ h)

pub written_pair : (p : Plan) → IsProper p → (t q : ℕ) → has (writes p t) q ≡ true → writes_pair p t q ≡ true
written_pair p proper t q h = (below_has (count_pairs p) (writes_pair p t) q (ap (λ (xs : List ℕ). has xs q) (sym (writes_below p proper t)) ∙ h)).1

-- a file at a site has one writer
pub one_file_writer : (p : Plan) → IsProper p → (t u s f : ℕ) → writes_file p t s f ≡ true → writes_file p u s f ≡ true → t ≡ u
one_file_writer p proper t u s f h k =
    let pair = written_stands p proper t s f h in
    proper.flow.one_writer t u pair.0 (listed_written p proper t pair.0 s f pair.1 h) (listed_written p proper u pair.0 s f pair.1 k)

-- a pair's file is written at its site
pub has_file_writer : (p : Plan) → IsProper p → (q s f : ℕ) → is_pair p q s f ≡ true → (t : ℕ) × (writes_file p t s f ≡ true)
has_file_writer p proper q s f is =
    let found = on_this_pair p q s f is in
    let writer = writer_of p q (proper.flow.written q found.0) in
    (writer.0, sym (found.1 (writes_file p writer.0)) ∙ written_pair p proper writer.0 q writer.1)
