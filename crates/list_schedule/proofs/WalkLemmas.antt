-- The walk over an order: what the board keeps besides.
use Rattle.std.proofs.Common.{◌≡◌, ℕ, zero, suc, ◌+◌, ◌<◌, ◌≤◌, ◌||◌, Bool, true, false, cond, List, [], ◌∷◌, length, take, get_or, refl, sym, ap, subst, ◌∙◌, nat_eq, arith}
use Rattle.std.specs.Prelude.{replicate, Option, Some, None}
use Rattle.std.proofs.lemmas.Bool.{eqb-true, eq-eqb}
use Rattle.std.proofs.lemmas.List.{length-map, length-set, length-replicate, get_or-map}
use Rattle.values.specs.declared.numbers.JobId.{JobId}
use Rattle.values.specs.declared.numbers.SiteId.{SiteId}
use Rattle.workflow_core.specs.declared.workflow.Workflow.{Workflow}
use Rattle.workflow_core.specs.code.WellFormed.{IsWellFormed}
use Rattle.digraph.specs.Adjacency.{has_node, times}
use Rattle.dependency_graph.specs.Graph.{IsGraphOf, Links, numbers}
use Rattle.dependency_graph.specs.Levels.{is_kept}
use Rattle.dependency_graph.specs.Ranking.{HasNoRepeats}
use Rattle.dependency_graph.proofs.LevelsLemmas.{tally, tally_more, tally_none}
use Rattle.dependency_graph.proofs.TestLemmas.{has_at, has_more}
use Rattle.list_schedule.specs.declared.choice.Slot.{Slot}
use Rattle.list_schedule.specs.declared.board.Board.{Board}
use Rattle.list_schedule.specs.Estimates.{Estimates}
use Rattle.list_schedule.specs.Ranks.{AreRanks, IsRankOrder}
use Rattle.list_schedule.specs.Schedule.{IsHeft}
use Rattle.values.specs.Numbers.{site_id}
use Rattle.list_schedule.specs.code.Arrivals.{finish_of}
use Rattle.list_schedule.specs.code.Board.{no_site, IsEmpty, IsPut, IsLong, schedule_at, ArePlaced, IsUntouched, AreSmall}
use Rattle.list_schedule.proofs.SetLemmas.{set_at, set_small}
use Rattle.list_schedule.proofs.GraphLemmas.{none_times}

-- ---- an order of few jobs is short

tally_length : (n : ℕ) (ns : List ℕ) → ((a : ℕ) → has_node a ns ≡ true → a < n) → tally n ns ≡ length ns
tally_length n [] low = tally_none n
tally_length n (a ∷ ns) low = tally_more n a ns (low a (ap (λ (t : Bool). t || has_node a ns) (eq-eqb a a refl))) ∙ ap suc (tally_length n ns (λ b there. low b (later (nat_eq a b) (has_node b ns) there)))
  where
    later : (t u : Bool) → u ≡ true → (t || u) ≡ true
    later true u e = refl
    later false u e = e

once_times : (a : ℕ) (ns : List ℕ) → HasNoRepeats ns → times a ns ≤ 1
once_times a [] once = omega arith
once_times a (n ∷ ns) once = by (nat_eq n a) refl (once_times a ns once.1)
  where
    by : (t : Bool) → nat_eq n a ≡ t → times a ns ≤ 1 → cond {A = ℕ} t 1 0 + times a ns ≤ 1
    by true e rest = let none : times a ns ≡ 0 = none_times a ns (ap (λ (m : ℕ). has_node m ns) (sym (eqb-true n a e)) ∙ once.0) in omega (arith, none)
    by false e rest = omega (arith, rest)

tally_few : (n : ℕ) (ns : List ℕ) → HasNoRepeats ns → tally n ns ≤ n
tally_few zero ns once = omega arith
tally_few (suc n) ns once = let rest = tally_few n ns once in let here = once_times n ns once in omega (arith, rest, here)

pub once_short : (n : ℕ) (ns : List ℕ) → HasNoRepeats ns → ((a : ℕ) → has_node a ns ≡ true → a < n) → length ns ≤ n
once_short n ns once low = let all = tally_length n ns low in let few = tally_few n ns once in omega (arith, all, few)

pub order_short : (kept : List Bool) (ranks : List ℕ) (js : List JobId) → IsRankOrder kept ranks (numbers js) → length js ≤ length kept
order_short kept ranks js sorted =
    let all = tally_length (length kept) (numbers js) sorted.below in
    let few = tally_few (length kept) (numbers js) sorted.once in
    let long = length-map js (λ (j : JobId). j.0) in
    omega (arith, all, few, long)

pub few_kept : (w : Workflow) (g : Links) (kept : List Bool) → IsWellFormed w → IsGraphOf w g → length kept ≡ length g.parents → length kept ≤ 10000
few_kept w g kept formed graph many = let few = formed.few_jobs in let p = graph.parents.long in let q = length-map g.parents numbers in omega (arith, few, p, q, many)

-- ---- the job at a place of the walk

pub walk_at : (js : List JobId) (i : ℕ) → i < length js → (get_or js i (record { 0 = 0 })).0 ≡ get_or (numbers js) i 0
walk_at js i low = sym (get_or-map (λ (j : JobId). j.0) js i (record { 0 = 0 }) 0 low)

pub walk_kept : (kept : List Bool) (ranks : List ℕ) (js : List JobId) (i : ℕ) → IsRankOrder kept ranks (numbers js) → i < length js → is_kept kept (get_or js i (record { 0 = 0 })).0 ≡ true
walk_kept kept ranks js i sorted low = ap (is_kept kept) (walk_at js i low) ∙ sym (sorted.kept_ones (get_or (numbers js) i 0)) ∙ has_at (numbers js) i (let l = length-map js (λ (j : JobId). j.0) in omega (arith, low, l))

pub walk_within : (kept : List Bool) (ranks : List ℕ) (js : List JobId) (i : ℕ) → IsRankOrder kept ranks (numbers js) → i < length js → (get_or js i (record { 0 = 0 })).0 < length kept
walk_within kept ranks js i sorted low = subst (λ (n : ℕ). n < length kept) (sym (walk_at js i low)) (sorted.below (get_or (numbers js) i 0) (has_at (numbers js) i (let l = length-map js (λ (j : JobId). j.0) in omega (arith, low, l))))

-- ---- lengths, sizes and the others

pub empty_long : (b : Board) (jobs sites : ℕ) → IsEmpty b jobs sites → IsLong b jobs
empty_long b jobs sites is = record {
  sites = ap (λ (xs : List (Option SiteId)). length xs) is.sites ∙ length-replicate jobs no_site;
  starts = ap (λ (xs : List ℕ). length xs) is.starts ∙ length-replicate jobs 0;
  finishes = ap (λ (xs : List ℕ). length xs) is.finishes ∙ length-replicate jobs 0;
}

pub put_long : (old new : Board) (jobs j : ℕ) (slot : Slot) → IsLong old jobs → IsPut old new j slot → IsLong new jobs
put_long old new jobs j slot long put = record {
  sites = ap (λ (xs : List (Option SiteId)). length xs) put.sites ∙ length-set old.sites.items j (Some (site_id slot.site)) ∙ long.sites;
  starts = ap (λ (xs : List ℕ). length xs) put.starts ∙ length-set old.starts.items j slot.start ∙ long.starts;
  finishes = ap (λ (xs : List ℕ). length xs) put.finishes ∙ length-set old.finishes.items j slot.finish ∙ long.finishes;
}

pub put_free : (old new : Board) (j n : ℕ) (slot : Slot) → length old.free.items ≡ n → IsPut old new j slot → length new.free.items ≡ n
put_free old new j n slot long put = ap (λ (xs : List ℕ). length xs) put.free ∙ length-set old.free.items slot.site slot.finish ∙ long

zeros : (n a : ℕ) → finish_of (replicate n 0) a ≡ 0
zeros zero a = refl
zeros (suc n) zero = refl
zeros (suc n) (suc a) = zeros n a

nones : (n a : ℕ) → get_or (replicate n no_site) a no_site ≡ no_site
nones zero a = refl
nones (suc n) zero = refl
nones (suc n) (suc a) = nones n a

pub empty_small : (b : Board) (jobs sites n : ℕ) → IsEmpty b jobs sites → AreSmall b n
empty_small b jobs sites n is = (
  λ a. (let z : finish_of b.finishes.items a ≡ 0 = ap (λ (xs : List ℕ). get_or xs a 0) is.finishes ∙ zeros jobs a in omega (arith, z)),
  λ s. (let z : finish_of b.free.items s ≡ 0 = ap (λ (xs : List ℕ). get_or xs s 0) is.free ∙ zeros sites s in omega (arith, z)),
)

pub empty_untouched : (b : Board) (jobs sites a : ℕ) → IsEmpty b jobs sites → IsUntouched b a
empty_untouched b jobs sites a is = record {
  at = ap (λ (xs : List (Option SiteId)). get_or xs a None) is.sites ∙ nones jobs a;
  begins = ap (λ (xs : List ℕ). get_or xs a 0) is.starts ∙ zeros jobs a;
  ends = ap (λ (xs : List ℕ). get_or xs a 0) is.finishes ∙ zeros jobs a;
}

pub put_small : (old new : Board) (j n m : ℕ) (slot : Slot) → AreSmall old n → n ≤ m → slot.finish ≤ m → j < length old.finishes.items → slot.site < length old.free.items → IsPut old new j slot → AreSmall new m
put_small old new j n m slot small wide end low free put = (
  λ a. subst (λ (xs : List ℕ). get_or xs a 0 ≤ m) (sym put.finishes) (set_small old.finishes.items j slot.finish m low end (λ b. let few = small.0 b in omega (arith, few, wide)) a),
  λ s. subst (λ (xs : List ℕ). get_or xs s 0 ≤ m) (sym put.free) (set_small old.free.items slot.site slot.finish m free end (λ b. let few = small.1 b in omega (arith, few, wide)) s),
)

pub put_untouched : (old new : Board) (js : List JobId) (jobs i : ℕ) (slot : Slot) → i < length js → IsLong old jobs → (get_or js i (record { 0 = 0 })).0 < jobs → ((a : ℕ) → has_node a (take i (numbers js)) ≡ false → IsUntouched old a)
    → IsPut old new (get_or js i (record { 0 = 0 })).0 slot → (a : ℕ) → has_node a (take (i + 1) (numbers js)) ≡ false → IsUntouched new a
put_untouched old new js jobs i slot low long within before put a out = record {
  at = ap (λ (xs : List (Option SiteId)). get_or xs a None) put.sites ∙ set_at None old.sites.items j (Some (site_id slot.site)) a (omega (arith, within, long.sites)) ∙ ap (λ (t : Bool). cond t (Some (site_id slot.site)) (get_or old.sites.items a None)) other ∙ same.at;
  begins = ap (λ (xs : List ℕ). get_or xs a 0) put.starts ∙ set_at 0 old.starts.items j slot.start a (omega (arith, within, long.starts)) ∙ ap (λ (t : Bool). cond t slot.start (get_or old.starts.items a 0)) other ∙ same.begins;
  ends = ap (λ (xs : List ℕ). get_or xs a 0) put.finishes ∙ set_at 0 old.finishes.items j slot.finish a (omega (arith, within, long.finishes)) ∙ ap (λ (t : Bool). cond t slot.finish (get_or old.finishes.items a 0)) other ∙ same.ends;
}
  where
    j : ℕ
    j = (get_or js i (record { 0 = 0 })).0

    neither : (has_node a (take i (numbers js)) || nat_eq (get_or (numbers js) i 0) a) ≡ false
    neither = sym (has_more (numbers js) i a (let l = length-map js (λ (k : JobId). k.0) in omega (arith, low, l))) ∙ out

    or_left : (t u : Bool) → (t || u) ≡ false → t ≡ false
    or_left true u h = absurd cc
    or_left false u h = refl

    or_right : (t u : Bool) → (t || u) ≡ false → u ≡ false
    or_right true u h = absurd cc
    or_right false u h = h

    other : nat_eq j a ≡ false
    other = ap (λ (n : ℕ). nat_eq n a) (walk_at js i low) ∙ or_right (has_node a (take i (numbers js))) (nat_eq (get_or (numbers js) i 0) a) neither

    same : IsUntouched old a
    same = before a (or_left (has_node a (take i (numbers js))) (nat_eq (get_or (numbers js) i 0) a) neither)

-- ---- the whole schedule

pub heft_is : (g : Links) (kept : List Bool) (e : Estimates) (ranks : List ℕ) (b : Board) (js : List JobId) → AreRanks g kept e ranks → IsRankOrder kept ranks (numbers js) → IsLong b (length kept) → ArePlaced g kept e b js (length js)
    → ((a : ℕ) → has_node a (numbers js) ≡ false → IsUntouched b a) → IsHeft g kept e (schedule_at b js)
heft_is g kept e ranks b js are sorted long placed others = record {
  ranks = ranks;
  are_ranks = are;
  order = sorted;
  sites = long.sites;
  starts = long.starts;
  finishes = long.finishes;
  placed = placed.placed;
  no_site = λ a off. (others a (sorted.kept_ones a ∙ off)).at;
  no_start = λ a off. (others a (sorted.kept_ones a ∙ off)).begins;
  no_finish = λ a off. (others a (sorted.kept_ones a ∙ off)).ends;
}
