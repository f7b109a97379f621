-- The most that is held at a site, front by front, and counts of entries.
use Rattle.std.proofs.Common.{◌≡◌, ℕ, zero, suc, ◌+◌, ◌≤◌, ◌<◌, Bool, true, false, cond, ltb, ltb-true, ltb-false, max, ◌*◌, ◌^◌, List, [], ◌∷◌, ◌++◌, length, take, get_or, refl, sym, ap, subst, ◌∙◌, arith}
use Rattle.std.specs.Prelude.{Some, Vec, count_by, slice_get, sum_by}
use Rattle.std.specs.declared.alloc.Global.{Global}
use Rattle.plan_core.specs.declared.plan.Plan.{Plan}
use Rattle.storage_simulation.specs.Goods.{goods, lies_at}
use Rattle.storage_simulation.specs.code.Standings.{at_in}
use Rattle.run_record.specs.Events.{Event}
use Rattle.lease_rules.specs.State.{State, held_after, now, opened}
use Rattle.std.proofs.lemmas.List.Sums.{count_by-le-length, sum_by-append}
use Rattle.storage_simulation.specs.declared.standing.Held.{Held}
use Rattle.values.specs.Numbers.{total}
use Rattle.lease_rules.proofs.TotalLemmas.{total_bound}
use Rattle.record_audit.specs.Holdings.{AddsUp, AreSizes, Shows}
use Rattle.record_audit.specs.declared.holdings.Holdings.{Holdings}
use Rattle.record_audit.proofs.HoldingsLemmas.{held_is_load}
use Rattle.record_audit.proofs.LawLemmas.{now_more, take_all, take_next, take_none}
use Rattle.record_audit.specs.declared.sums.Statistics.{Statistics}
use Rattle.record_audit.specs.Sums.{AreCounts, ArePeaks, AreSmall, HasNone, IsCounted, IsPeak, arrived, held_at, is_again, is_arrive, is_end, is_failure, is_grant, is_sweep, one_if}

-- ---- counts

plus_zero : (a b : ℕ) → a + (0 + b) ≡ a + b
plus_zero a b = omega arith

count_end : (test : Event → Bool) (r : List Event) (e : Event) → count_by test (r ++ e ∷ []) ≡ count_by test r + one_if (test e)
count_end test r e = sum_by-append (λ (x : Event). cond (test x) 1 0) r (e ∷ []) ∙ plus_zero (count_by test r) (one_if (test e))

sum_end : (r : List Event) (e : Event) → sum_by arrived (r ++ e ∷ []) ≡ sum_by arrived r + arrived e
sum_end r e = sum_by-append arrived r (e ∷ []) ∙ plus_zero (sum_by arrived r) (arrived e)

pub counts_none : (s : Statistics) → HasNone s → AreCounts [] s
counts_none s h = record { grants = h.grants; arrives = h.arrives; ends = h.ends; cleans = h.cleans; fails = h.fails; agains = h.agains; moved = h.moved }

pub counts_more : (r : List Event) (e : Event) (s new : Statistics) → AreCounts r s → IsCounted s e new → AreCounts (r ++ e ∷ []) new
counts_more r e s new h more = record {
  grants = more.grants ∙ ap (λ (n : ℕ). n + one_if (is_grant e)) h.grants ∙ sym (count_end is_grant r e);
  arrives = more.arrives ∙ ap (λ (n : ℕ). n + one_if (is_arrive e)) h.arrives ∙ sym (count_end is_arrive r e);
  ends = more.ends ∙ ap (λ (n : ℕ). n + one_if (is_end e)) h.ends ∙ sym (count_end is_end r e);
  cleans = more.cleans ∙ ap (λ (n : ℕ). n + one_if (is_sweep e)) h.cleans ∙ sym (count_end is_sweep r e);
  fails = more.fails ∙ ap (λ (n : ℕ). n + one_if (is_failure e)) h.fails ∙ sym (count_end is_failure r e);
  agains = more.agains ∙ ap (λ (n : ℕ). n + one_if (is_again e)) h.agains ∙ sym (count_end is_again r e);
  moved = more.moved ∙ ap (λ (n : ℕ). n + arrived e) h.moved ∙ sym (sum_end r e);
}

-- the counts are small where the record is short
pub counts_small : (r : List Event) (s : Statistics) → AreCounts r s → length r < 2 ^ 63 → AreSmall s
counts_small r s h short = record {
  grants = (let few = count_by-le-length is_grant r in omega (arith, few, h.grants, short));
  arrives = (let few = count_by-le-length is_arrive r in omega (arith, few, h.arrives, short));
  ends = (let few = count_by-le-length is_end r in omega (arith, few, h.ends, short));
  cleans = (let few = count_by-le-length is_sweep r in omega (arith, few, h.cleans, short));
  fails = (let few = count_by-le-length is_failure r in omega (arith, few, h.fails, short));
  agains = (let few = count_by-le-length is_again r in omega (arith, few, h.agains, short));
}

-- so is what was moved, also with the next entry
pub moved_small : (r : List Event) (s : Statistics) (e : Event) → AreCounts r s → length (r ++ e ∷ []) ≤ 120000 * 22 → sum_by arrived (r ++ e ∷ []) ≤ length (r ++ e ∷ []) * 2 ^ 40 → s.moved + arrived e < 2 ^ 64
moved_small r s e h short small = let sum = sum_end r e in omega (arith, h.moved, sum, short, small)

-- ---- peaks

total_none : (n : ℕ) (w : ℕ → ℕ) → ((q : ℕ) → w q ≡ 0) → total n w ≡ 0
total_none n w h = let bound = total_bound w 0 n (λ q l. omega (arith, h q)) in omega (arith, bound)

cond_none : (b : Bool) (x y : ℕ) → x ≡ 0 → y ≡ 0 → cond b x y ≡ 0
cond_none true x y e f = e
cond_none false x y e f = f

opened_none : (p : Plan) (order : List ℕ) (q : ℕ) → held_at p (now p order []) q ≡ 0
opened_none p order q =
    let stored = total_none (goods p) (λ g. cond (lies_at p g q) 0 0) (λ g. cond_none (lies_at p g q) 0 0 refl refl) in
    omega (arith, stored)

pub peak_none : (p : Plan) (order : List ℕ) (q n : ℕ) → n ≡ 0 → IsPeak p order [] q n
peak_none p order q n e = record {
  most = λ k l. let none = opened_none p order q in let same = ap (λ (r : List Event). held_at p (now p order r) q) (no_front k) in omega (arith, none, same, e);
  front = 0;
  within = omega arith;
  reached = ap (λ (r : List Event). held_at p (now p order r) q) (no_front 0) ∙ opened_none p order q ∙ sym e;
}
  where
    none : List Event
    none = []

    no_front : (k : ℕ) → take k none ≡ none
    no_front zero = refl
    no_front (suc k) = refl

front_of : (r : List Event) (e : Event) (k : ℕ) → k ≤ length r → take k (r ++ e ∷ []) ≡ take k r
front_of [] e zero l = refl
front_of [] e (suc k) l = absurd (omega (arith, l))
front_of (f ∷ r) e zero l = refl
front_of (f ∷ r) e (suc k) l = ap (λ (x : List Event). f ∷ x) (front_of r e k (omega (arith, l)))

end_length : (r : List Event) (e : Event) → length (r ++ e ∷ []) ≡ length r + 1
end_length [] e = refl
end_length (f ∷ r) e = let l = end_length r e in omega (arith, l)

pub peak_more : (p : Plan) (order : List ℕ) (r : List Event) (e : Event) (q n m : ℕ) → IsPeak p order r q n → m ≡ max n (held_at p (now p order (r ++ e ∷ [])) q) → IsPeak p order (r ++ e ∷ []) q m
peak_more p order r e q n m peak is = by_size (ltb n here) refl
  where
    here : ℕ
    here = held_at p (now p order (r ++ e ∷ [])) q

    long : length (r ++ e ∷ []) ≡ length r + 1
    long = end_length r e

    most : (k : ℕ) → k ≤ length (r ++ e ∷ []) → held_at p (now p order (take k (r ++ e ∷ []))) q ≤ m
    most k l = by_front (ltb (length r) k) refl
      where
        by_front : (b : Bool) → ltb (length r) k ≡ b → held_at p (now p order (take k (r ++ e ∷ []))) q ≤ m
        by_front false h =
            let low : k ≤ length r = ltb-false (length r) k h in
            let same = ap (λ (x : List Event). held_at p (now p order x) q) (front_of r e k low) in
            let under = peak.most k low in
            omega (arith, same, under, is)
        by_front true h =
            let high : length r < k = ltb-true (length r) k h in
            let end : k ≡ length (r ++ e ∷ []) = omega (arith, l, high, long) in
            let same = ap (λ (x : List Event). held_at p (now p order x) q) (ap (λ (i : ℕ). take i (r ++ e ∷ [])) end ∙ take_all (r ++ e ∷ [])) in
            omega (arith, same, is)

    by_size : (b : Bool) → ltb n here ≡ b → IsPeak p order (r ++ e ∷ []) q m
    by_size true h = record {
      most = most;
      front = length (r ++ e ∷ []);
      within = omega arith;
      reached = (let high : n < here = ltb-true n here h in let same = ap (λ (x : List Event). held_at p (now p order x) q) (take_all (r ++ e ∷ [])) in omega (arith, same, is, high));
    }
    by_size false h = record {
      most = most;
      front = peak.front;
      within = (let in_ = peak.within in omega (arith, in_, long));
      reached = (let low : here ≤ n = ltb-false n here h in let same = ap (λ (x : List Event). held_at p (now p order x) q) (front_of r e peak.front peak.within) in let was = peak.reached in omega (arith, same, was, is, low));
    }

-- ---- what is held, after one entry more

pub shows_first : (p : Plan) (order : List ℕ) (r : List Event) (w : ℕ → ℕ) → ((g : ℕ) → w g ≡ 0) → AreSizes p w (now p order (take 0 r)).held
shows_first p order r w none = subst (λ (l : List Event). AreSizes p w (now p order l).held) (sym (take_none r)) (λ g l. none g)

pub shows_next : (p : Plan) (order : List ℕ) (r : List Event) (k : ℕ) (e : Event) (w : ℕ → ℕ) → slice_get r k ≡ Some e → AreSizes p w (held_after p e (now p order (take k r)).held) → AreSizes p w (now p order (take (k + 1) r)).held
shows_next p order r k e w at shows = subst (λ (s : State). AreSizes p w s.held) (sym (ap (now p order) (take_next r k e at) ∙ now_more p (opened order) (take k r) e)) shows

pub follow_next : (p q : Plan) (order : List ℕ) (r : List Event) (k : ℕ) (e : Event) (h new : Holdings) → q ≡ p → slice_get r k ≡ Some e
    → Shows p h (now p order (take k r)).held → ((f : ℕ → Held) → Shows q h f → Shows q new (held_after q e f)) → Shows p new (now p order (take (k + 1) r)).held
follow_next p q order r k e h new same at shows follows =
    let held : ℕ → Held = (now p order (take k r)).held in
    let before : Shows q h held = subst (λ (x : Plan). AreSizes x (at_in 0 h.sizes.items) held) (sym same) shows in
    shows_next p order r k e (at_in 0 new.sizes.items) at (subst (λ (x : Plan). AreSizes x (at_in 0 new.sizes.items) (held_after x e held)) same (follows held before))

pub peaks_next : (p : Plan) (order : List ℕ) (r : List Event) (k : ℕ) (e : Event) (h : Holdings) (before mid later : Vec ℕ Global) → slice_get r k ≡ Some e
    → AddsUp p h → Shows p h (now p order (take (k + 1) r)).held → mid ≡ before → ArePeaks p order (take k r) before.items
    → length later.items ≡ length mid.items
    → ((x : ℕ) → x < length mid.items → get_or later.items x 0 ≡ max (get_or mid.items x 0) (at_in 0 h.sums.items x)) → ArePeaks p order (take (k + 1) r) later.items
peaks_next p order r k e h before mid later at adds shows old peaks long raised = record {
  long = same_long ∙ peaks.long;
  each = λ x l. subst (λ (rs : List Event). IsPeak p order rs x (get_or later.items x 0)) (sym (take_next r k e at)) (peak_more p order (take k r) e x (get_or before.items x 0) (get_or later.items x 0) (peaks.each x l) (is x l));
}
  where
    same_long : length later.items ≡ length before.items
    same_long = long ∙ ap (λ (v : Vec ℕ Global). length v.items) old

    is : (x : ℕ) → x < length p.sites → get_or later.items x 0 ≡ max (get_or before.items x 0) (held_at p (now p order (take k r ++ e ∷ [])) x)
    is x l =
        raised x (let mid_long = ap (λ (v : Vec ℕ Global). length v.items) old in let own = peaks.long in omega (arith, l, mid_long, own))
        ∙ ap (λ (v : Vec ℕ Global). max (get_or v.items x 0) (at_in 0 h.sums.items x)) old
        ∙ ap (λ (n : ℕ). max (get_or before.items x 0) n) (adds.sums x l ∙ sym (held_is_load p (now p order (take (k + 1) r)) (at_in 0 h.sizes.items) x l shows))
        ∙ ap (λ (rs : List Event). max (get_or before.items x 0) (held_at p (now p order rs) x)) (take_next r k e at)
