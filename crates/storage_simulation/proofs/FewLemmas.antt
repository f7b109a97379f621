-- A plan has at most one pair for each site and file.
use Rattle.std.proofs.Common.{◌≡◌, ℕ, ◌+◌, ◌*◌, ◌<◌, ◌≤◌, ◌&&◌, true, nat_eq, nat_lt, List, [], ◌∷◌, length, ap, arith, eqb-true}
use Rattle.std.specs.List.{list_all}
use Rattle.std.proofs.lemmas.Bool.{ltb-true}
use Rattle.std.proofs.lemmas.Nat.{mul-le}
use Rattle.std.proofs.Math.Nat.{mul-le-mul_right}
use Rattle.plan_core.specs.declared.plan.Plan.{Plan}
use Rattle.plan_core.specs.declared.plan.Pair.{Pair}
use Rattle.plan_core.specs.code.Proper.{IsProper, are_rising, is_before, is_pair_in_range, rise_after}
use Rattle.plan_core.specs.Words.{count_pairs}
use Rattle.storage_simulation.specs.Goods.{count_sites}
use Rattle.storage_simulation.proofs.FollowingLemmas.{both, or_case}

-- the number of a file at a site
code : ℕ → Pair → ℕ
code files q = q.site.0 * files + q.file.0

next_row : (a b files f g : ℕ) → a < b → f < files → a * files + f < b * files + g
next_row a b files f g l m =
    let more : (a + 1) * files ≤ b * files = mul-le-mul_right files (omega (arith, l)) in
    let row : (a + 1) * files ≡ a * files + files = grind arith in
    omega (arith, more, row, m)

rises : (p : Plan) (q r : Pair) → q.file.0 < length p.files → is_before q r ≡ true → code (length p.files) q < code (length p.files) r
unfolding code
rises p q r low h = or_case (nat_lt q.site.0 r.site.0) (nat_eq q.site.0 r.site.0 && nat_lt q.file.0 r.file.0) h
    (λ e. next_row q.site.0 r.site.0 (length p.files) q.file.0 r.file.0 (ltb-true q.site.0 r.site.0 e) low)
    (λ e. let parts = both (nat_eq q.site.0 r.site.0) (nat_lt q.file.0 r.file.0) e in
    let same = ap (λ (n : ℕ). n * length p.files) (eqb-true q.site.0 r.site.0 parts.0) in
    let less : q.file.0 < r.file.0 = ltb-true q.file.0 r.file.0 parts.1 in omega (arith, same, less))

in_range : (p : Plan) (q : Pair) → is_pair_in_range p q ≡ true → (q.site.0 < count_sites p) × (q.file.0 < length p.files)
in_range p q h = let parts = both (nat_lt q.site.0 (length p.sites)) (nat_lt q.file.0 (length p.files)) h in (ltb-true q.site.0 (length p.sites) parts.0, ltb-true q.file.0 (length p.files) parts.1)

room_after : (p : Plan) (q : Pair) (qs : List Pair) → is_pair_in_range p q ≡ true → list_all (is_pair_in_range p) qs ≡ true → rise_after q qs ≡ true → code (length p.files) q + length qs < count_sites p * length p.files
unfolding code
room_after p q [] low all h =
    let parts = in_range p q low in
    let last = next_row q.site.0 (count_sites p) (length p.files) q.file.0 0 parts.0 parts.1 in omega (arith, last)
room_after p q (r ∷ rs) low all h =
    let range = both (is_pair_in_range p r) (list_all (is_pair_in_range p) rs) all in
    let order = both (is_before q r) (rise_after r rs) h in
    let less = room_after p r rs range.0 range.1 order.1 in
    let step = rises p q r (in_range p q low).1 order.0 in omega (arith, less, step)

few : (p : Plan) (qs : List Pair) → list_all (is_pair_in_range p) qs ≡ true → are_rising qs ≡ true → length qs ≤ count_sites p * length p.files
few p [] all h = omega arith
few p (q ∷ qs) all h =
    let range = both (is_pair_in_range p q) (list_all (is_pair_in_range p) qs) all in
    let room = room_after p q qs range.0 range.1 h in omega (arith, room)

pub pairs_are_few : (p : Plan) → IsProper p → count_sites p ≤ 64 → length p.files ≤ 50000 → count_pairs p ≤ 64 * 50000
pairs_are_few p proper sites files =
    let all = few p p.pairs proper.tables.in_range.pairs proper.tables.pairs_rise in
    let most = mul-le (count_sites p) (length p.files) 64 50000 sites files in omega (arith, all, most)
