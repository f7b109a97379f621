-- The order by falling rank, by a sort of how far ranks are below 2^80.
use Rattle.std.proofs.Common.{◌≡◌, ℕ, ◌+◌, ◌-◌, ◌<◌, ◌≤◌, ◌||◌, ◌&&◌, Bool, true, false, eqb, ltb, List, [], ◌∷◌, ◌++◌, length, get_or, ap, ◌∙◌, arith}
use Rattle.std.specs.Prelude.{◌^◌}
use Rattle.std.specs.List.Sorted.{IsPermutation, IsSorted}
use Rattle.std.specs.Ordering.{nat_cmp, ordering_then}
use Rattle.std.proofs.lemmas.List.{get_or-map}
use Rattle.dependency_graph.specs.Levels.{is_kept}
use Rattle.dependency_graph.specs.Ranking.{IsRanked}
use Rattle.dependency_graph.specs.code.Ranking.{leveled, numbers_in}
use Rattle.dependency_graph.proofs.RankingLemmas.{leveled_kept, leveled_dropped, ranked_is}
use Rattle.dependency_graph.proofs.TestLemmas.{has_at}
use Rattle.list_schedule.specs.Ranks.{rank, IsRankOrder}
use Rattle.list_schedule.specs.code.Tables.{depths}

depth_at : (ranks : List ℕ) (n : ℕ) → n < length ranks → get_or (depths ranks) n 0 ≡ 2 ^ 80 - get_or ranks n 0
depth_at ranks n low = get_or-map (λ (r : ℕ). 2 ^ 80 - r) ranks n 0 0 low

pub kept_more : (kept : List Bool) (ranks : List ℕ) (n : ℕ) → is_kept kept n ≡ true → n < length ranks → leveled kept (depths ranks) (n + 1) ≡ leveled kept (depths ranks) n ++ (2 ^ 80 - get_or ranks n 0, n) ∷ []
kept_more kept ranks n e low = leveled_kept kept (depths ranks) n e ∙ ap (λ (d : ℕ). leveled kept (depths ranks) n ++ (d, n) ∷ []) (depth_at ranks n low)

pub dropped_more : (kept : List Bool) (ranks : List ℕ) (n : ℕ) → is_kept kept n ≡ false → leveled kept (depths ranks) (n + 1) ≡ leveled kept (depths ranks) n
dropped_more kept ranks n e = leveled_dropped kept (depths ranks) n e

turned : (top d e r q x y : ℕ) → d ≡ top - r → e ≡ top - q → r ≤ top → q ≤ top → (ltb d e || (eqb d e && ltb x y)) ≡ true → (ltb q r || (eqb r q && ltb x y)) ≡ true
turned top d e r q x y is are small few h = grind arith

pub order_is : (kept : List Bool) (ranks : List ℕ) (ps : List (ℕ × ℕ)) → ((a : ℕ) → rank ranks a ≤ 2 ^ 80) → length ranks ≡ length kept
    → IsPermutation (leveled kept (depths ranks) (length kept)) ps → IsSorted (λ (x y : ℕ × ℕ). ordering_then (nat_cmp x.0 y.0) (nat_cmp x.1 y.1)) ps → IsRankOrder kept ranks (numbers_in ps)
order_is kept ranks ps small long perm up = record {
  once = sorted.once;
  kept_ones = sorted.kept_ones;
  below = sorted.below;
  falling = λ i j l m. turned (2 ^ 80) _ _ _ _ (get_or (numbers_in ps) i 0) (get_or (numbers_in ps) j 0) (depth_at ranks _ (low i (omega (arith, l, m)))) (depth_at ranks _ (low j m)) (small _) (small _) (sorted.rising i j l m);
}
  where
    sorted : IsRanked kept (depths ranks) (numbers_in ps)
    sorted = ranked_is kept (depths ranks) ps perm up

    low : (i : ℕ) → i < length (numbers_in ps) → get_or (numbers_in ps) i 0 < length ranks
    low i l = let within = sorted.below (get_or (numbers_in ps) i 0) (has_at (numbers_in ps) i l) in omega (arith, within, long)
