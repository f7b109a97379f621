-- What changes with the index alone, and which scores an entry leaves right.
use Rattle.std.proofs.Common.{◌≡◌, ℕ, ◌+◌, ◌<◌, ◌≤◌, ◌^◌, ◌&&◌, ◌||◌, Bool, true, false, cond, nat_eq, List, length, get_or, Option, Some, None, refl, sym, ap, subst, ◌∙◌, arith}
use Rattle.std.specs.Prelude.{not}
use Rattle.group_index.specs.Index.{number}
use Rattle.place_peaks.proofs.Offered.{at_place, front_longer}
use Rattle.lease_rules.specs.State.{State}
use Rattle.plan_core.specs.declared.plan.Plan.{Plan}
use Rattle.plan_core.specs.Numbers.{has}
use Rattle.plan_core.specs.Words.{count_tasks, is_clean, parents, task_numbers}
use Rattle.storage_simulation.specs.code.Goods.{place}
use Rattle.place_peaks.specs.declared.peaks.Peaks.{Peaks}
use Rattle.place_peaks.specs.declared.seating.Seating.{Seating}
use Rattle.place_peaks.specs.Places.{there}
use Rattle.place_peaks.specs.declared.ready.Ready.{Ready}
use Rattle.place_peaks.specs.Cleaning.{IsSwept, IsSweptAgain}
use Rattle.place_peaks.specs.Entries.{AreTied, IsWhole}
use Rattle.place_peaks.specs.Granting.{IsGranted, IsGrantedAgain}
use Rattle.place_peaks.specs.Peaks.{AreBehind, left_of, line_of, stack_of}
use Rattle.place_peaks.specs.Ready.{AreRising, AreSmall, HasGroups, IsIndexed, IsIndexedBut, but_one, but_some, ready_score, score_of, with_ready}
use Rattle.place_peaks.specs.declared.links.Links.{Links}
use Rattle.place_peaks.specs.Settling.{IsSettled}
use Rattle.place_peaks.specs.Waiting.{IsAgain, IsMoved}

behind_with : (p : Plan) (s : State) (b : Peaks) (r : Ready) (front : List ℕ) → AreBehind p s b front → AreBehind p s (with_ready b r) front
behind_with p s b r front h = record {
  rules = h.rules;
  sound = h.sound;
  seated = h.seated;
  marked = h.marked;
  marks_long = h.marks_long;
  bases_long = h.bases_long;
  trees_long = h.trees_long;
  rest = h.rest;
  waiting = h.waiting;
  needs = h.needs;
  missing_long = h.missing_long;
  counts = h.counts;
  bases = h.bases;
  trees = h.trees;
}

-- the trees say what the state is, whatever the index
pub record HaveTrees (p : Plan) (s : State) (b : Peaks) : Type 0 where
  pub behind : AreBehind p s b (stack_of b)
  pub whole : IsWhole p b

pub tied_with : (p : Plan) (s : State) (mid new : Peaks) → HaveTrees p s mid → new ≡ with_ready mid new.ready → IsIndexed p new → AreTied p s new
tied_with p s mid new h is indexed = record {
  behind = subst (λ (b : Peaks). AreBehind p s b (stack_of b)) (sym is) (behind_with p s mid new.ready (stack_of mid) h.behind);
  whole = subst (IsWhole p) (sym is) h.whole;
  indexed = indexed;
}

-- what an entry leaves as it was
pub rising_after : (old new : Peaks) → new.seating ≡ old.seating → AreRising (line_of old) old.seating.homes.items old.seating.seats.items → AreRising (line_of new) new.seating.homes.items new.seating.seats.items
rising_after old new same h = subst (λ (x : Seating). AreRising (task_numbers x.line.items) x.homes.items x.seats.items) (sym same) h

-- seats rise along the line
pub rising_of : (p : Plan) (s : State) (b : Peaks) (front : List ℕ) → AreBehind p s b front → AreRising (line_of b) b.seating.homes.items b.seating.seats.items
rising_of p s b front h j k q less l at_j at_k =
    let place_j : place p (get_or (line_of b) j 0) ≡ Some q = sym (h.seated.homes (get_or (line_of b) j 0) (h.seated.in_plan (get_or (line_of b) j 0) (at_place (line_of b) j (omega (arith, less, l))))) ∙ at_j in
    let place_k : place p (get_or (line_of b) k 0) ≡ Some q = sym (h.seated.homes (get_or (line_of b) k 0) (h.seated.in_plan (get_or (line_of b) k 0) (at_place (line_of b) k l))) ∙ at_k in
    let first = h.seated.counted.seat j q (omega (arith, less, l)) place_j in
    let second = h.seated.counted.seat k q l place_k in
    let more = front_longer (there p q) (line_of b) j k (omega (arith, less)) in
    omega (arith, first, second, more)

-- scores
abbrev scores_of : Bool → Bool → ℕ → ℕ → Option ℕ → Option ℕ
scores_of clean left missing need home = cond (left && nat_eq missing 0) (Some (score_of clean need home)) None

pub same_score : (p : Plan) (old new : Peaks) (t : ℕ) → left_of new t ≡ left_of old t → get_or new.missing.items t 1 ≡ get_or old.missing.items t 1 → get_or new.needs.items t 0 ≡ get_or old.needs.items t 0 → new.seating.homes.items ≡ old.seating.homes.items
    → ready_score p new t ≡ ready_score p old t
same_score p old new t left missing need homes =
    ap (λ (x : Bool). scores_of (is_clean p t) x (get_or new.missing.items t 1) (get_or new.needs.items t 0) (get_or new.seating.homes.items t None)) left
    ∙ ap (λ (x : ℕ). scores_of (is_clean p t) (left_of old t) x (get_or new.needs.items t 0) (get_or new.seating.homes.items t None)) missing
    ∙ ap (λ (x : ℕ). scores_of (is_clean p t) (left_of old t) (get_or old.missing.items t 1) x (get_or new.seating.homes.items t None)) need
    ∙ ap (λ (x : List (Option ℕ)). scores_of (is_clean p t) (left_of old t) (get_or old.missing.items t 1) (get_or old.needs.items t 0) (get_or x t None)) homes

pub but_after : (p : Plan) (old new : Peaks) (off : ℕ → Bool) → new.seating ≡ old.seating → new.ready ≡ old.ready → IsIndexed p old
    → ((k : ℕ) → k < length (line_of old) → off (get_or (line_of old) k 0) ≡ false → ready_score p new (get_or (line_of old) k 0) ≡ ready_score p old (get_or (line_of old) k 0))
    → IsIndexedBut p new off
but_after p old new off seating ready indexed same =
    subst (λ (x : Seating). (k : ℕ) → k < length (task_numbers x.line.items) → off (get_or (task_numbers x.line.items) k 0) ≡ false → number new.ready.index k ≡ ready_score p new (get_or (task_numbers x.line.items) k 0)) (sym seating)
    (λ k l o. ap (λ (r : Ready). number r.index k) ready ∙ indexed.scores k l refl ∙ sym (same k l o))

-- marks, needs and counts of the other tasks
still_marked : (a b : Bool) → b ≡ false → (a && not b) ≡ a
still_marked true true e = absurd cc
still_marked true false e = refl
still_marked false b e = refl

other_way : (t u : ℕ) → nat_eq u t ≡ false → nat_eq t u ≡ false
other_way t u e = grind (arith, e)

kept_mark : (old new : Peaks) (t : ℕ) → ((u : ℕ) → left_of new u ≡ (left_of old u && not (nat_eq t u))) → (u : ℕ) → nat_eq u t ≡ false → left_of new u ≡ left_of old u
kept_mark old new t left u e = left u ∙ still_marked (left_of old u) (nat_eq t u) (other_way t u e)

fewer_open : (b : Bool) (n m : ℕ) → b ≡ false → n + cond b 1 0 ≡ m → n ≡ m
fewer_open true n m e h = absurd cc
fewer_open false n m e h = omega (arith, h)

or_false : (a b : Bool) → (a || b) ≡ false → (a ≡ false) × (b ≡ false)
or_false true b e = absurd cc
or_false false b e = (refl, e)

-- A task that begins, is done or goes to the stack
pub granted_but : (p : Plan) (old new : Peaks) (t : ℕ) → IsIndexed p old → IsGranted old new t → IsIndexedBut p new (λ u. nat_eq u t)
granted_but p old new t indexed is = but_after p old new (λ u. nat_eq u t) (ap (λ (b : Peaks). b.seating) is.same) (ap (λ (b : Peaks). b.ready) is.same) indexed
    (λ k l off. same_score p old new (get_or (line_of old) k 0) (kept_mark old new t is.left (get_or (line_of old) k 0) off) (ap (λ (b : Peaks). get_or b.missing.items (get_or (line_of old) k 0) 1) is.same) (ap (λ (b : Peaks). get_or b.needs.items (get_or (line_of old) k 0) 0) is.same) (ap (λ (b : Peaks). b.seating.homes.items) is.same))

pub moved_but : (p : Plan) (old new : Peaks) (t frees : ℕ) → IsIndexed p old → IsMoved old new t frees → IsIndexedBut p new (λ u. nat_eq u t)
moved_but p old new t frees indexed is = but_after p old new (λ u. nat_eq u t) (ap (λ (b : Peaks). b.seating) is.same) (ap (λ (b : Peaks). b.ready) is.same) indexed
    (λ k l off. same_score p old new (get_or (line_of old) k 0) (kept_mark old new t is.left (get_or (line_of old) k 0) off) (ap (λ (b : Peaks). get_or b.missing.items (get_or (line_of old) k 0) 1) is.same) (ap (λ (b : Peaks). get_or b.needs.items (get_or (line_of old) k 0) 0) is.same) (ap (λ (b : Peaks). b.seating.homes.items) is.same))

kept_need : (b : Bool) (n m : ℕ) → b ≡ false → n ≡ cond b 0 m → n ≡ m
kept_need true n m e h = absurd cc
kept_need false n m e h = h

pub again_but : (p : Plan) (old new : Peaks) (t : ℕ) → IsIndexed p old → IsAgain old new t → IsIndexedBut p new (λ u. nat_eq u t)
again_but p old new t indexed is = but_after p old new (λ u. nat_eq u t) (ap (λ (b : Peaks). b.seating) is.same) (ap (λ (b : Peaks). b.ready) is.same) indexed
    (λ k l off. same_score p old new (get_or (line_of old) k 0) (ap (λ (b : Peaks). left_of b (get_or (line_of old) k 0)) is.same) (ap (λ (b : Peaks). get_or b.missing.items (get_or (line_of old) k 0) 1) is.same)
    (kept_need (nat_eq t (get_or (line_of old) k 0)) (get_or new.needs.items (get_or (line_of old) k 0) 0) (get_or old.needs.items (get_or (line_of old) k 0) 0) (other_way t (get_or (line_of old) k 0) off) (is.needs (get_or (line_of old) k 0))) (ap (λ (b : Peaks). b.seating.homes.items) is.same))

pub again_small : (old new : Peaks) (t : ℕ) → AreSmall old → IsAgain old new t → AreSmall new
again_small old new t small is u = by (nat_eq t u) (is.needs u)
  where
    by : (b : Bool) → get_or new.needs.items u 0 ≡ cond b 0 (get_or old.needs.items u 0) → get_or new.needs.items u 0 ≤ 2 ^ 62
    by true e = omega (arith, e)
    by false e = let had = small u in omega (arith, e, had)

pub swept_but : (p : Plan) (old new : Peaks) (t frees : ℕ) → IsIndexed p old → IsSwept p old new t frees → IsIndexedBut p new (λ u. nat_eq u t || has (parents p u) t)
swept_but p old new t frees indexed is = but_after p old new (λ u. nat_eq u t || has (parents p u) t) (ap (λ (b : Peaks). b.seating) is.same) (ap (λ (b : Peaks). b.ready) is.same) indexed
    (λ k l off.
    let parts = or_false (nat_eq (get_or (line_of old) k 0) t) (has (parents p (get_or (line_of old) k 0)) t) off in
    same_score p old new (get_or (line_of old) k 0) (kept_mark old new t is.left (get_or (line_of old) k 0) parts.0)
    (fewer_open (has (parents p (get_or (line_of old) k 0)) t) (get_or new.missing.items (get_or (line_of old) k 0) 1) (get_or old.missing.items (get_or (line_of old) k 0) 1) parts.1 (is.missing (get_or (line_of old) k 0) (indexed.grouped.in_plan k l)))
    (ap (λ (b : Peaks). get_or b.needs.items (get_or (line_of old) k 0) 0) is.same) (ap (λ (b : Peaks). b.seating.homes.items) is.same))

-- a task has ended
ended_but : (p : Plan) (old new : Peaks) (t : ℕ) → IsIndexed p old → new.seating ≡ old.seating → new.ready ≡ old.ready → new.left.items ≡ old.left.items → new.needs.items ≡ old.needs.items
    → ((u : ℕ) → u < count_tasks p → get_or new.missing.items u 1 + cond (has (parents p u) t) 1 0 ≡ get_or old.missing.items u 1)
    → IsIndexedBut p new (λ u. has (parents p u) t)
ended_but p old new t indexed seating ready left needs missing = but_after p old new (λ u. has (parents p u) t) seating ready indexed
    (λ k l off. same_score p old new (get_or (line_of old) k 0) (ap (λ (xs : List Bool). get_or xs (get_or (line_of old) k 0) false) left)
    (fewer_open (has (parents p (get_or (line_of old) k 0)) t) (get_or new.missing.items (get_or (line_of old) k 0) 1) (get_or old.missing.items (get_or (line_of old) k 0) 1) off (missing (get_or (line_of old) k 0) (indexed.grouped.in_plan k l)))
    (ap (λ (xs : List ℕ). get_or xs (get_or (line_of old) k 0) 0) needs) (ap (λ (x : Seating). x.homes.items) seating))

pub swept_again_but : (p : Plan) (old new : Peaks) (t frees : ℕ) → IsIndexed p old → IsSweptAgain p old new t frees → IsIndexedBut p new (λ u. has (parents p u) t)
swept_again_but p old new t frees indexed is = ended_but p old new t indexed (ap (λ (b : Peaks). b.seating) is.same) (ap (λ (b : Peaks). b.ready) is.same) (ap (λ (b : Peaks). b.left.items) is.same) (ap (λ (b : Peaks). b.needs.items) is.same) is.missing

pub settled_but : (p : Plan) (links : Links) (old new : Peaks) (t : ℕ) (ns : List ℕ) → IsIndexed p old → IsSettled p links old new t ns → IsIndexedBut p new (λ u. has (parents p u) t)
settled_but p links old new t ns indexed is = ended_but p old new t indexed (ap (λ (b : Peaks). b.seating) is.same) (ap (λ (b : Peaks). b.ready) is.same) (ap (λ (b : Peaks). b.left.items) is.same) (ap (λ (b : Peaks). b.needs.items) is.same) is.missing

-- all scores are right where no task is left out
pub but_none : (p : Plan) (b : Peaks) (off : ℕ → Bool) → IsIndexedBut p b off → ((u : ℕ) → off u ≡ false) → IsIndexedBut p b (λ u. false)
but_none p b off h none k l e = h k l (none (get_or (line_of b) k 0))

pub off_itself : (a : Bool) → (a && not a) ≡ false
off_itself true = refl
off_itself false = refl

pub off_both : (a b : Bool) → (((a || b) && not a) && not b) ≡ false
off_both true b = refl
off_both false true = refl
off_both false false = refl

-- the index of trees that it was put to
pub indexed_with : (p : Plan) (mid new : Peaks) (off : ℕ → Bool) → AreSmall mid → AreRising (line_of mid) mid.seating.homes.items mid.seating.seats.items → new ≡ with_ready mid new.ready → HasGroups p new → IsIndexedBut p new off → ((u : ℕ) → off u ≡ false) → IsIndexed p new
indexed_with p mid new off small rising is groups but none = record {
  grouped = groups;
  small = subst AreSmall (sym is) (λ t. small t);
  rising = subst (λ (b : Peaks). AreRising (line_of b) b.seating.homes.items b.seating.seats.items) (sym is) (λ j k q less l a b. rising j k q less l a b);
  scores = but_none p new off but none;
}

-- an entry that changes neither line nor scores
pub granted_again_indexed : (p : Plan) (old new : Peaks) (t : ℕ) → IsIndexed p old → IsGrantedAgain old new t → IsIndexed p new
granted_again_indexed p old new t indexed is = record {
  grouped = subst (HasGroups p) (sym is.same) indexed.grouped;
  small = subst AreSmall (sym is.same) (λ u. indexed.small u);
  rising = rising_after old new (ap (λ (b : Peaks). b.seating) is.same) indexed.rising;
  scores = but_after p old new (λ u. false) (ap (λ (b : Peaks). b.seating) is.same) (ap (λ (b : Peaks). b.ready) is.same) indexed
      (λ k l off. same_score p old new (get_or (line_of old) k 0) (ap (λ (b : Peaks). left_of b (get_or (line_of old) k 0)) is.same) (ap (λ (b : Peaks). get_or b.missing.items (get_or (line_of old) k 0) 1) is.same) (ap (λ (b : Peaks). get_or b.needs.items (get_or (line_of old) k 0) 0) is.same) (ap (λ (b : Peaks). b.seating.homes.items) is.same));
}

-- the index after one score was made anew, and after those of the children
pub one_indexed : (p : Plan) (mid new : Peaks) (t : ℕ) → AreSmall mid → AreRising (line_of mid) mid.seating.homes.items mid.seating.seats.items → new ≡ with_ready mid new.ready → HasGroups p new → IsIndexedBut p new (but_one (λ u. nat_eq u t) t) → IsIndexed p new
one_indexed p mid new t small rising is groups but = indexed_with p mid new (but_one (λ u. nat_eq u t) t) small rising is groups but (λ u. off_itself (nat_eq u t))

pub children_indexed : (p : Plan) (mid new : Peaks) (t : ℕ) → AreSmall mid → AreRising (line_of mid) mid.seating.homes.items mid.seating.seats.items → new ≡ with_ready mid new.ready → HasGroups p new → IsIndexedBut p new (but_some (λ u. has (parents p u) t) (λ u. has (parents p u) t)) → IsIndexed p new
children_indexed p mid new t small rising is groups but = indexed_with p mid new (but_some (λ u. has (parents p u) t) (λ u. has (parents p u) t)) small rising is groups but (λ u. off_itself (has (parents p u) t))

pub both_indexed : (p : Plan) (mid new : Peaks) (t : ℕ) → AreSmall mid → AreRising (line_of mid) mid.seating.homes.items mid.seating.seats.items → new ≡ with_ready mid new.ready → HasGroups p new
    → IsIndexedBut p new (but_some (but_one (λ u. nat_eq u t || has (parents p u) t) t) (λ u. has (parents p u) t)) → IsIndexed p new
both_indexed p mid new t small rising is groups but = indexed_with p mid new (but_some (but_one (λ u. nat_eq u t || has (parents p u) t) t) (λ u. has (parents p u) t)) small rising is groups but (λ u. off_both (nat_eq u t) (has (parents p u) t))

pub small_with : (mid new : Peaks) → new ≡ with_ready mid new.ready → AreSmall mid → AreSmall new
small_with mid new is small = subst AreSmall (sym is) (λ t. small t)

pub with_both : (old mid new : Peaks) → mid ≡ with_ready old mid.ready → new ≡ with_ready mid new.ready → new ≡ with_ready old new.ready
with_both old mid new h is = is ∙ ap (λ (b : Peaks). with_ready b new.ready) h
