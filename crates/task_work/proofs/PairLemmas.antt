-- Pairs by their site and their file, and what a task writes.
use Rattle.std.proofs.Common.{◌≡◌, ℕ, ◌<◌, ◌||◌, ◌&&◌, true, nat_eq, List, [], ◌∷◌, refl, sym, subst, ◌∙◌, arith}
use Rattle.std.specs.Prelude.{Option, Some, None, slice_get}
use Rattle.plan_core.specs.declared.plan.Pair.{Pair}
use Rattle.plan_core.specs.declared.plan.Plan.{Plan}
use Rattle.plan_core.specs.Kinds.{writes_file}
use Rattle.plan_core.specs.Numbers.{has}
use Rattle.plan_core.specs.Words.{count_pairs, pair, reads, writes}
use Rattle.plan_core.specs.code.Words.{is_pair, pair_at}
use Rattle.plan_core.proofs.TestLemmas.{by_bool, is_itself, or_left, or_right, same_number}
use Rattle.plan_core.specs.Names.{file_in, pair_file, pair_site, site_in}
use Rattle.task_work.specs.Computing.{files_of}
use Rattle.task_work.proofs.SmallLemmas.{not_none}

-- a pair by its site and its file
itself : (s f : ℕ) → (nat_eq s s && nat_eq f f) ≡ true
itself s f = grind arith

pub pair_is : (p : Plan) (q : ℕ) → q < count_pairs p → is_pair p q (pair_site p q) (pair_file p q) ≡ true
unfolding is_pair pair_site pair_file pair
pair_is p q l = by (slice_get p.pairs q) refl
  where
    by : (o : Option Pair) → slice_get p.pairs q ≡ o → pair_at o (site_in o) (file_in o) ≡ true
    by None e = absurd (not_none p.pairs q l e)
    by (Some x) e = itself x.site.0 x.file.0

-- the pair of a file among some
pub pair_with : (p : Plan) (f : ℕ) (qs : List ℕ) → has (files_of p qs) f ≡ true → (q : ℕ) × (has qs q ≡ true) × (pair_file p q ≡ f)
pair_with p f [] h = absurd cc
pair_with p f (x ∷ qs) h = by_bool (nat_eq (pair_file p x) f)
    (λ here. (x, or_left (nat_eq x x) (has qs x) (is_itself x), same_number (pair_file p x) f here))
    (λ off. let found = pair_with p f qs (subst (λ b. (b || has (files_of p qs) f) ≡ true) off h) in (found.0, or_right (nat_eq x found.0) (has qs found.0) found.1, found.2))

-- a task writes the file of each pair that it lists
pub written_file : (p : Plan) → ((t q s f : ℕ) → is_pair p q s f ≡ true → has (writes p t) q ≡ writes_file p t s f) → ((t q : ℕ) → (has (reads p t) q || has (writes p t) q) ≡ true → q < count_pairs p) → (t q : ℕ) → has (writes p t) q ≡ true → writes_file p t (pair_site p q) (pair_file p q) ≡ true
written_file p listed in_range t q h = sym (listed t q (pair_site p q) (pair_file p q) (pair_is p q (in_range t q (or_right (has (reads p t) q) (has (writes p t) q) h)))) ∙ h
