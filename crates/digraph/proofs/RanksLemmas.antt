-- Ranks, one edge further, and who doesn't return.
use Rattle.std.proofs.Common.{◌≡◌, ℕ, zero, suc, ◌<◌, ◌≤◌, Bool, true, false, not, ◌||◌, ◌&&◌, List, [], ◌∷◌, length, get_or, refl, sym, ap, ◌∙◌, nat_eq, arith}
use Rattle.std.specs.Prelude.{Option, Some, None, is_some}
use Rattle.std.specs.List.{All}
use Rattle.std.proofs.Math.Bool.{or-false}
use Rattle.digraph.proofs.SearchLemmas.{distance_in, kept_distance, reached_at, stands_at}
use Rattle.digraph.specs.code.Adjacency.{comes}
use Rattle.digraph.specs.Adjacency.{has_node, neighbours}
use Rattle.digraph.specs.Cycle.{Returns}
use Rattle.digraph.specs.Distances.{Walk}
use Rattle.digraph.specs.code.Distances.{distance_at}
use Rattle.digraph.specs.code.Ranks.{AreRanks}
use Rattle.digraph.specs.code.Search.{IsMarked, IsSpread, later, reached}

-- ranks but for the edges to some nodes, which were the last to get this one
pub record AreRanksBut (predecessors : List (List ℕ)) (rank : ℕ) (frontier : List ℕ) (table : List (Option ℕ)) : Type 0 where
  pub ranks : (a b x : ℕ) → comes predecessors a b ≡ true → distance_at table b ≡ Some x → has_node b frontier ≡ false → (y : ℕ) × (distance_at table a ≡ Some y) × (y ≤ x)
  pub last : (c : ℕ) → has_node c frontier ≡ true → distance_at table c ≡ Some rank
  pub most : (c x : ℕ) → distance_at table c ≡ Some x → x ≤ rank

-- what is said after nodes were found
found_most : (o : Option ℕ) (r : Bool) (rank x : ℕ) → ((y : ℕ) → o ≡ Some y → y ≤ rank) → later o r rank ≡ Some x → x ≤ rank
found_most (Some y) r rank x most e = most x e
found_most None true rank x most e = let same : rank ≡ x = cc in omega (arith, same)
found_most None false rank x most e = absurd cc

found_last : (o : Option ℕ) (r : Bool) (rank : ℕ) → (not (is_some o) && r) ≡ true → later o r rank ≡ Some rank
found_last (Some y) r rank e = absurd cc
found_last None true rank e = refl
found_last None false rank e = absurd cc

-- one that has a rank had it, or was found
had : (o : Option ℕ) (r : Bool) (rank x : ℕ) → later o r rank ≡ Some x → (not (is_some o) && r) ≡ false → o ≡ Some x
had (Some y) r rank x e new = e
had None true rank x e new = absurd cc
had None false rank x e new = absurd cc

some_rank : (o : Option ℕ) (rank : ℕ) → ((y : ℕ) → o ≡ Some y → y ≤ rank) → (y : ℕ) × (later o true rank ≡ Some y) × (y ≤ rank)
some_rank (Some y) rank most = (y, refl, most y refl)
some_rank None rank most = (rank, refl, omega arith)

pub first_ranks : (predecessors : List (List ℕ)) (old table : List (Option ℕ)) (root rank : ℕ) (frontier : List ℕ) → AreRanks (comes predecessors) old → ((c x : ℕ) → distance_at old c ≡ Some x → x ≤ rank) → IsMarked old table [] frontier (root ∷ []) rank → AreRanksBut predecessors rank frontier table
first_ranks predecessors old table root rank frontier ranks most marked = record {
  ranks = λ a b x edge e new.
      let was : distance_at old b ≡ Some x = had (distance_at old b) (has_node b (root ∷ [])) rank x (sym (marked.says b) ∙ e) (sym (marked.found b) ∙ new) in
      let found = ranks a b x edge was in
      (found.0, kept_distance old table (λ p. has_node p (root ∷ [])) rank marked.says a found.0 found.1, found.2);
  last = λ c h. marked.says c ∙ found_last (distance_at old c) (has_node c (root ∷ [])) rank (sym (marked.found c) ∙ h);
  most = λ c x e. found_most (distance_at old c) (has_node c (root ∷ [])) rank x (most c) (sym (marked.says c) ∙ e);
}

pub more_ranks : (predecessors : List (List ℕ)) (old table : List (Option ℕ)) (rank : ℕ) (frontier next : List ℕ) → AreRanksBut predecessors rank frontier old → IsSpread predecessors old table frontier next rank → AreRanksBut predecessors rank next table
more_ranks predecessors old table rank frontier next but spread = record {
  ranks = λ a b x edge e new. by a b x edge (had (distance_at old b) (reached predecessors frontier b) rank x (sym (spread.says b) ∙ e) (sym (spread.found b) ∙ new)) (has_node b frontier) refl;
  last = λ c h. spread.says c ∙ found_last (distance_at old c) (reached predecessors frontier c) rank (sym (spread.found c) ∙ h);
  most = λ c x e. found_most (distance_at old c) (reached predecessors frontier c) rank x (but.most c) (sym (spread.says c) ∙ e);
}
  where
    by : (a b x : ℕ) → comes predecessors a b ≡ true → distance_at old b ≡ Some x → (t : Bool) → has_node b frontier ≡ t → (y : ℕ) × (distance_at table a ≡ Some y) × (y ≤ x)
    by a b x edge was true h =
        let found = some_rank (distance_at old a) rank (but.most a) in
        let same : Some x ≡ Some rank = sym was ∙ but.last b h in
        let equal : x ≡ rank = cc in
        (found.0, spread.says a ∙ ap (λ (r : Bool). later (distance_at old a) r rank) (reached_at predecessors frontier a b h edge) ∙ found.1, omega (arith, equal, found.2))
    by a b x edge was false h =
        let found = but.ranks a b x edge was h in
        (found.0, kept_distance old table (reached predecessors frontier) rank spread.says a found.0 found.1, found.2)

pub all_ranks : (predecessors : List (List ℕ)) (rank : ℕ) (frontier : List ℕ) (table : List (Option ℕ)) → AreRanksBut predecessors rank frontier table → frontier ≡ [] → AreRanks (comes predecessors) table
all_ranks predecessors rank frontier table but none = λ a b x edge e. but.ranks a b x edge e (ap (has_node b) none)

pub last_in : (predecessors : List (List ℕ)) (rank : ℕ) (frontier : List ℕ) (table : List (Option ℕ)) → AreRanksBut predecessors rank frontier table → All (λ (j : ℕ). j < length table) frontier
last_in predecessors rank frontier table but i d h = distance_in table (get_or frontier i d) rank (but.last (get_or frontier i d) (stands_at frontier i d h))

-- a walk doesn't lead to a lower rank
lower : (e : ℕ → ℕ → Bool) (table : List (Option ℕ)) → AreRanks e table → (n a b x : ℕ) → Walk e n a b → distance_at table b ≡ Some x → (y : ℕ) × (distance_at table a ≡ Some y) × (y ≤ x)
lower e table ranks zero a b x walk at = (x, ap (distance_at table) walk ∙ at, omega arith)
lower e table ranks (suc n) a b x walk at =
    let rest = lower e table ranks n walk.0 b x walk.2 at in
    let here = ranks a walk.0 rest.0 walk.1 rest.1 in
    (here.0, here.1, omega (arith, here.2, rest.2))

-- a node of whose successors none has its rank
pub leaves : (e : ℕ → ℕ → Bool) (table : List (Option ℕ)) (a x : ℕ) → AreRanks e table → distance_at table a ≡ Some x → ((b : ℕ) → e a b ≡ true → distance_at table b ≡ Some x → ⊥) → Returns e a → ⊥
leaves e table a x ranks at none back =
    let walk = back.1 in
    let next = lower e table ranks back.0 walk.0 a x walk.2 at in
    let here = ranks a walk.0 next.0 walk.1 next.1 in
    let same : Some here.0 ≡ Some x = sym here.1 ∙ at in
    let equal : here.0 ≡ x = cc in
    none walk.0 walk.1 (next.1 ∙ ap Some (omega (arith, equal, next.2, here.2)))
