-- The first of some sites with the least finish, one site more.
use Rattle.std.proofs.Common.{◌≡◌, ℕ, ◌+◌, ◌<◌, ◌≤◌, ◌⊎◌, inl, inr, Bool, true, false, cond, ltb, List, get_or, refl, sym, subst, arith}
use Rattle.std.proofs.lemmas.Bool.{cases_order}
use Rattle.list_schedule.specs.declared.arrivals.Latest.{Latest}
use Rattle.list_schedule.specs.declared.choice.Slot.{Slot}
use Rattle.list_schedule.specs.code.Arrivals.{start_at, finish_at, IsEarliest}

-- the slot is the one at place i
pub record IsSlotAt (candidates times free : List ℕ) (x : Latest) (slot : Slot) (i : ℕ) : Type 0 where
  pub site : slot.site ≡ get_or candidates i 0
  pub start : slot.start ≡ start_at free x (get_or candidates i 0)
  pub finish : slot.finish ≡ finish_at candidates times free x i

-- the place is n or before it
below_or_at : (i n : ℕ) → i < n + 1 → (i < n) ⊎ (i ≡ n)
below_or_at i n l = by (cases_order i n)
  where
    by : ((i ≡ n) ⊎ ((i < n) ⊎ (n < i))) → (i < n) ⊎ (i ≡ n)
    by (inl e) = inr e
    by (inr (inl e)) = inl e
    by (inr (inr e)) = absurd (omega (arith, e, l))

pub earliest_first : (candidates times free : List ℕ) (x : Latest) (slot : Slot) → IsSlotAt candidates times free x slot 0 → IsEarliest candidates times free x slot 1
earliest_first candidates times free x slot at = record {
  choice = 0;
  among = omega arith;
  site = at.site;
  start = at.start;
  finish = at.finish;
  least = λ i l. subst (λ (n : ℕ). slot.finish ≤ finish_at candidates times free x n) (let e : 0 ≡ i = omega (arith, l) in e) (let f = at.finish in omega (arith, f));
  first = λ i l. absurd (omega (arith, l));
}

pub earliest_more : (candidates times free : List ℕ) (x : Latest) (best next : Slot) (n : ℕ) → IsEarliest candidates times free x best n → IsSlotAt candidates times free x next n
    → IsEarliest candidates times free x (cond (ltb next.finish best.finish) next best) (n + 1)
earliest_more candidates times free x best next n is at = by (ltb next.finish best.finish) refl
  where
    sooner : ltb next.finish best.finish ≡ true → next.finish < best.finish
    sooner e = grind (arith, e)

    later : ltb next.finish best.finish ≡ false → best.finish ≤ next.finish
    later e = grind (arith, e)

    by : (t : Bool) → ltb next.finish best.finish ≡ t → IsEarliest candidates times free x (cond t next best) (n + 1)
    by true e = record {
      choice = n;
      among = omega arith;
      site = at.site;
      start = at.start;
      finish = at.finish;
      least = λ i l. all i (below_or_at i n l);
      first = λ i l. let old = is.least i l in let less = sooner e in omega (arith, old, less);
    }
      where
        all : (i : ℕ) → ((i < n) ⊎ (i ≡ n)) → next.finish ≤ finish_at candidates times free x i
        all i (inl l) = let old = is.least i l in let less = sooner e in omega (arith, old, less)
        all i (inr same) = subst (λ (m : ℕ). next.finish ≤ finish_at candidates times free x m) (sym same) (let f = at.finish in omega (arith, f))
    by false e = record {
      choice = is.choice;
      among = (let l = is.among in omega (arith, l));
      site = is.site;
      start = is.start;
      finish = is.finish;
      least = λ i l. all i (below_or_at i n l);
      first = is.first;
    }
      where
        all : (i : ℕ) → ((i < n) ⊎ (i ≡ n)) → best.finish ≤ finish_at candidates times free x i
        all i (inl l) = is.least i l
        all i (inr same) = subst (λ (m : ℕ). best.finish ≤ finish_at candidates times free x m) (sym same) (let f = at.finish in let more = later e in omega (arith, f, more))
