-- The lists of a front once a task more is placed.
use Rattle.std.proofs.Common.{◌≡◌, ◌≢◌, ℕ, zero, ◌+◌, ◌<◌, ◌≤◌, ◌||◌, ◌⊎◌, inl, inr, Bool, true, false, cond, nat_eq, nat_lt, eqb-true, ltb-true, ltb-false, List, [], ◌∷◌, ◌++◌, length, length-append, take, get_or, refl, sym, ap, subst, ◌∙◌, arith}
use Rattle.std.specs.Prelude.{set, Option, Some, None, vec_capacity}
use Rattle.std.proofs.lemmas.Bool.{eqb-false, cases_lt}
use Rattle.std.proofs.lemmas.List.{take_all, take-append-le, length-set, get_or-set_same, get_or-set_other}
use Rattle.values.specs.declared.numbers.TaskId.{TaskId}
use Rattle.digraph.specs.code.Digraph.{count, edge}
use Rattle.digraph.specs.declared.digraph.Digraph.{Digraph}
use Rattle.plan_core.specs.declared.plan.Plan.{Plan}
use Rattle.plan_core.specs.Numbers.{has}
use Rattle.plan_core.specs.Words.{count_tasks, parents, task_numbers}
use Rattle.storage_simulation.specs.declared.front.Front.{Front}
use Rattle.storage_simulation.specs.declared.placing.Change.{Change}
use Rattle.storage_simulation.specs.declared.standing.Standing.{Standing}
use Rattle.storage_simulation.specs.code.Front.{IsOrderable, IsSet, front_of, missing}
use Rattle.storage_simulation.specs.Following.{AreOnce}
use Rattle.storage_simulation.specs.code.Goods.{place}
use Rattle.storage_simulation.specs.Goods.{places}
use Rattle.storage_simulation.specs.Ordering.{Progress, size, is_done}
use Rattle.storage_simulation.specs.code.Ordering.{progress, AreSteps, IsOpen, IsPeak, IsStep}
use Rattle.storage_simulation.specs.code.Placing.{IsChange, changed, raised}
use Rattle.storage_simulation.specs.Usage.{usage, IsWithin}
use Rattle.storage_simulation.proofs.CountingLemmas.{done_next}
use Rattle.storage_simulation.proofs.DeterminedLemmas.{step_opens}
use Rattle.storage_simulation.proofs.FollowingLemmas.{at_place, front_more, once_at}
use Rattle.storage_simulation.proofs.RoomLemmas.{some_one, usage_elsewhere}
use Rattle.storage_simulation.proofs.ScoringLemmas.{missing_less, missing_same}
use Rattle.storage_simulation.proofs.StepsLemmas.{admitted_within, any_more, step_admitted, steps_more}

-- an element of a list after a write
pub number_set : (xs : List ℕ) (i j a : ℕ) → i < length xs → get_or (set xs i a) j 0 ≡ cond (nat_eq i j) a (get_or xs j 0)
number_set xs i j a l = by_place (nat_eq i j) refl
  where
    by_place : (b : Bool) → nat_eq i j ≡ b → get_or (set xs i a) j 0 ≡ cond b a (get_or xs j 0)
    by_place true e = ap (λ (k : ℕ). get_or (set xs i a) k 0) (sym (eqb-true i j e)) ∙ get_or-set_same xs i a 0 l
    by_place false e = get_or-set_other xs i j a 0 (λ k. eqb-false i j e (sym k))

pub flag_set : (xs : List Bool) (i j : ℕ) (a : Bool) → i < length xs → get_or (set xs i a) j true ≡ cond (nat_eq i j) a (get_or xs j true)
flag_set xs i j a l = by_place (nat_eq i j) refl
  where
    by_place : (b : Bool) → nat_eq i j ≡ b → get_or (set xs i a) j true ≡ cond b a (get_or xs j true)
    by_place true e = ap (λ (k : ℕ). get_or (set xs i a) k true) (sym (eqb-true i j e)) ∙ get_or-set_same xs i a true l
    by_place false e = get_or-set_other xs i j a true (λ k. eqb-false i j e (sym k))

has_more : (xs : List ℕ) (i c : ℕ) → i < length xs → has (take (i + 1) xs) c ≡ (has (take i xs) c || nat_eq (get_or xs i 0) c)
has_more xs i c l = ap (λ (ys : List ℕ). has ys c) (front_more xs i l) ∙ any_more (λ y. nat_eq y c) (take i xs) (get_or xs i 0)

abbrev pub Lowered : List ℕ → List ℕ → List ℕ → ℕ → Type 0
Lowered old cur tasks i = (c : ℕ) → get_or cur c 0 + cond (has (take i tasks) c) 1 0 ≡ get_or old c 0

-- there is one to take away
pub still_one : (old cur tasks : List ℕ) (i : ℕ) → Lowered old cur tasks i → AreOnce tasks → ((c : ℕ) → has tasks c ≡ true → 0 < get_or old c 0) → i < length tasks → 0 < get_or cur (get_or tasks i 0) 0
still_one old cur tasks i low once enough l =
    let here = low (get_or tasks i 0) in
    let fresh : cond (has (take i tasks) (get_or tasks i 0)) 1 0 ≡ zero = ap (λ (b : Bool). cond b 1 zero) (once_at tasks i once l) in
    omega (arith, here, fresh, enough (get_or tasks i 0) (at_place tasks i l))

pub lower_more : (old cur tasks : List ℕ) (i x n : ℕ) → Lowered old cur tasks i → AreOnce tasks → i < length tasks → x ≡ get_or tasks i 0 → x < length cur → n + 1 ≡ get_or cur x 0 → Lowered old (set cur x n) tasks (i + 1)
lower_more old cur tasks i x n low once l is below less c = by_place (nat_eq x c) refl
  where
    split : has (take (i + 1) tasks) c ≡ (has (take i tasks) c || nat_eq x c)
    split = has_more tasks i c l ∙ ap (λ (y : ℕ). has (take i tasks) c || nat_eq y c) (sym is)

    one_or : (a b : Bool) → a ≡ false → b ≡ true → cond (a || b) 1 zero ≡ 1
    one_or true b h k = absurd cc
    one_or false true h k = refl
    one_or false false h k = absurd cc

    same_or : (a b : Bool) → b ≡ false → cond (a || b) 1 zero ≡ cond a 1 zero
    same_or true b k = refl
    same_or false true k = absurd cc
    same_or false false k = refl

    by_place : (b : Bool) → nat_eq x c ≡ b → get_or (set cur x n) c 0 + cond (has (take (i + 1) tasks) c) 1 0 ≡ get_or old c 0
    by_place true e =
        let at : x ≡ c = eqb-true x c e in
        let fresh : has (take i tasks) c ≡ false = ap (has (take i tasks)) (sym at ∙ is) ∙ once_at tasks i once l in
        let new : get_or (set cur x n) c 0 ≡ n = number_set cur x c n below ∙ ap (λ (b : Bool). cond b n (get_or cur c 0)) e in
        let one : cond (has (take (i + 1) tasks) c) 1 zero ≡ 1 = ap (λ (b : Bool). cond b 1 zero) split ∙ one_or (has (take i tasks) c) (nat_eq x c) fresh e in
        let none : cond (has (take i tasks) c) 1 zero ≡ zero = ap (λ (b : Bool). cond b 1 zero) fresh in
        let was : get_or cur x 0 ≡ get_or cur c 0 = ap (λ (y : ℕ). get_or cur y 0) at in
        omega (arith, low c, new, one, none, was, less)
    by_place false e =
        let new : get_or (set cur x n) c 0 ≡ get_or cur c 0 = number_set cur x c n below ∙ ap (λ (b : Bool). cond b n (get_or cur c 0)) e in
        let same : cond (has (take (i + 1) tasks) c) 1 zero ≡ cond (has (take i tasks) c) 1 zero = ap (λ (b : Bool). cond b 1 zero) split ∙ same_or (has (take i tasks) c) (nat_eq x c) e in
        omega (arith, low c, new, same)

-- the usages that change
pub change_there : (p : Plan) (size : ℕ → ℕ) (front : List ℕ) (t s : ℕ) → IsOrderable p → place p t ≡ Some s → (r : ℕ) → r < places p → r ≢ s → usage p size (front ++ t ∷ []) r ≡ usage p size front r
change_there p size front t s able at r l ne = usage_elsewhere p size front t r able l (λ e. ne (sym (some_one s r (sym at ∙ e))))

pub no_change : (p : Plan) (size : ℕ → ℕ) (front : List ℕ) (t : ℕ) → IsOrderable p → place p t ≡ None → (r : ℕ) → r < places p → usage p size (front ++ t ∷ []) r ≡ usage p size front r
no_change p size front t able at r l = usage_elsewhere p size front t r able l (λ e. absurd (let k = sym at ∙ e in cc))

-- the peak with one task more
peak_more : (p : Plan) (st : Progress) (front : List ℕ) (t s n m : ℕ) → IsPeak p st front s n → n ≤ m → usage p (size st) (front ++ t ∷ []) s ≤ m → ((m ≡ n) ⊎ (usage p (size st) (front ++ t ∷ []) s ≡ m)) → IsPeak p st (front ++ t ∷ []) s m
peak_more p st front t s n m peak grows last is = record {
  most = λ k l. by_end k l (cases_lt (length front) k);
  reached = reach is;
}
  where
    by_end : (k : ℕ) → k ≤ length (front ++ t ∷ []) → ((length front < k) ⊎ (k ≤ length front)) → usage p (size st) (take k (front ++ t ∷ [])) s ≤ m
    by_end k l (inl past) = let whole = ap (λ (f : List ℕ). usage p (size st) f s) (take_all k (front ++ t ∷ []) (omega (arith, past, length-append front (t ∷ [])))) in omega (arith, whole, last)
    by_end k l (inr within) = let part = ap (λ (f : List ℕ). usage p (size st) f s) (take-append-le k front (t ∷ []) within) in omega (arith, part, peak.most k within, grows)

    reach : ((m ≡ n) ⊎ (usage p (size st) (front ++ t ∷ []) s ≡ m)) → (k : ℕ) × (k ≤ length (front ++ t ∷ [])) × (usage p (size st) (take k (front ++ t ∷ [])) s ≡ m)
    reach (inl same) = (peak.reached.0, omega (arith, peak.reached.1, length-append front (t ∷ [])), ap (λ (f : List ℕ). usage p (size st) f s) (take-append-le peak.reached.0 front (t ∷ []) peak.reached.1) ∙ peak.reached.2 ∙ sym same)
    reach (inr same) = (length (front ++ t ∷ []), omega arith, ap (λ (f : List ℕ). usage p (size st) f s) (take_all (length (front ++ t ∷ [])) (front ++ t ∷ []) (omega arith)) ∙ same)

peak_at_end : (p : Plan) (st : Progress) (front : List ℕ) (s n : ℕ) → IsPeak p st front s n → usage p (size st) front s ≤ n
peak_at_end p st front s n peak = let all = ap (λ (f : List ℕ). usage p (size st) f s) (take_all (length front) front (omega arith)) in omega (arith, peak.most (length front) (omega arith), all)

peak_after : (p : Plan) (st : Progress) (front : List ℕ) (t s x : ℕ) (change : Option Change) → s < places p → IsChange p st front t change → IsPeak p st front s x → IsPeak p st (front ++ t ∷ []) s (raised change s x)
peak_after p st front t s x None l is peak = peak_more p st front t s x x peak (omega arith) (omega (arith, is s l, peak_at_end p st front s x peak)) (inl refl)
peak_after p st front t s x (Some c) l is peak = by_place (nat_eq s c.place) refl
  where
    by_size : s ≡ c.place → (b : Bool) → nat_lt x c.used ≡ b → IsPeak p st (front ++ t ∷ []) s (cond b c.used x)
    by_size at true e = let up = ltb-true x c.used e in let now : usage p (size st) (front ++ t ∷ []) s ≡ c.used = ap (usage p (size st) (front ++ t ∷ [])) at ∙ sym is.1 in peak_more p st front t s x c.used peak (omega (arith, up)) (omega (arith, now)) (inr now)
    by_size at false e = let down = ltb-false x c.used e in let now : usage p (size st) (front ++ t ∷ []) s ≡ c.used = ap (usage p (size st) (front ++ t ∷ [])) at ∙ sym is.1 in peak_more p st front t s x x peak (omega arith) (omega (arith, now, down)) (inl refl)

    by_place : (b : Bool) → nat_eq s c.place ≡ b → IsPeak p st (front ++ t ∷ []) s (cond b (cond (nat_lt x c.used) c.used x) x)
    by_place true e = by_size (eqb-true s c.place e) (nat_lt x c.used) refl
    by_place false e = peak_more p st front t s x x peak (omega arith) (omega (arith, is.2 s l (eqb-false s c.place e), peak_at_end p st front s x peak)) (inl refl)

used_after : (p : Plan) (st : Progress) (front : List ℕ) (t s x : ℕ) (change : Option Change) → s < places p → IsChange p st front t change → x ≡ usage p (size st) front s → changed change s x ≡ usage p (size st) (front ++ t ∷ []) s
used_after p st front t s x None l is at = at ∙ sym (is s l)
used_after p st front t s x (Some c) l is at = by_place (nat_eq s c.place) refl
  where
    by_place : (b : Bool) → nat_eq s c.place ≡ b → cond b c.used x ≡ usage p (size st) (front ++ t ∷ []) s
    by_place true e = is.1 ∙ ap (usage p (size st) (front ++ t ∷ [])) (sym (eqb-true s c.place e))
    by_place false e = at ∙ sym (is.2 s l (eqb-false s c.place e))

missing_after : (p : Plan) (st : Progress) (front : List ℕ) (t c x y : ℕ) → IsOrderable p → is_done st front t ≡ false → y ≡ missing p st front c → x + cond (has (parents p c) t) 1 0 ≡ y → x ≡ missing p st (front ++ t ∷ []) c
missing_after p st front t c x y able waits is less = by_parent (has (parents p c) t) refl less
  where
    by_parent : (b : Bool) → has (parents p c) t ≡ b → x + cond b 1 0 ≡ y → x ≡ missing p st (front ++ t ∷ []) c
    by_parent true e k = let one = missing_less p st front t c able waits e in omega (arith, is, k, one)
    by_parent false e k = let same = missing_same p st front t c e in omega (arith, is, k, same)

-- the front with one task more
pub front_next : (xs : List TaskId) (t : TaskId) → task_numbers (xs ++ t ∷ []) ≡ task_numbers xs ++ t.0 ∷ []
front_next [] t = refl
front_next (x ∷ xs) t = ap (λ (ys : List ℕ). x.0 ∷ ys) (front_next xs t)

-- a front with one task more
pub record IsMore (p : Plan) (st : Standing) (b new : Front) (t : TaskId) (change : Option Change) : Type 0 where
  pub placed : new.placed.items ≡ b.placed.items ++ t ∷ []
  pub room : vec_capacity new.placed ≡ vec_capacity b.placed
  pub graph : new.graph ≡ b.graph
  pub done : new.done.items ≡ set b.done.items t.0 true
  pub missing_long : length new.missing.items ≡ length b.missing.items
  pub missing_is : (c : ℕ) → get_or new.missing.items c 0 + cond (has (parents p c) t.0) 1 0 ≡ get_or b.missing.items c 0
  pub change_is : IsChange p (progress st) (front_of b) t.0 change
  pub used_long : length new.used.items ≡ length b.used.items
  pub used_is : (s : ℕ) → get_or new.used.items s 0 ≡ changed change s (get_or b.used.items s 0)
  pub peaks_long : length new.peaks.items ≡ length b.peaks.items
  pub peaks_are : (s : ℕ) → get_or new.peaks.items s 0 ≡ raised change s (get_or b.peaks.items s 0)

pub bench_more : (p : Plan) (st : Standing) (b new : Front) (t : TaskId) (change : Option Change) → IsSet p st b → IsStep p (progress st) (front_of b) t.0 → IsMore p st b new t change → IsSet p st new
bench_more p st b new t change is step more =
    let opens = step_opens p (progress st) (front_of b) t.0 step in
    let next : front_of new ≡ front_of b ++ t.0 ∷ [] = ap task_numbers more.placed ∙ front_next b.placed.items t in
    record {
      orderable = is.orderable;
      limits = is.limits;
      standing = is.standing;
      made_for = record {
        room = omega (arith, is.made_for.room, more.room);
        done_long = ap length more.done ∙ length-set b.done.items t.0 true ∙ is.made_for.done_long;
        missing_long = more.missing_long ∙ is.made_for.missing_long;
        used_long = more.used_long ∙ is.made_for.used_long;
        peaks_long = more.peaks_long ∙ is.made_for.peaks_long;
        nodes = ap count more.graph ∙ is.made_for.nodes;
        edges = λ u c. ap (λ (g : Digraph). edge g u c) more.graph ∙ is.made_for.edges u c;
      };
      front = record {
        steps = subst (AreSteps p (progress st)) (sym next) (steps_more p (progress st) (front_of b) t.0 is.front.steps step);
        within = subst (IsWithin p (size (progress st))) (sym next) (admitted_within p (progress st) (front_of b) t.0 is.orderable.keeps is.front.within (step_admitted p (progress st) (front_of b) t.0 step).kind);
        done_is = λ u l. ap (λ (xs : List Bool). get_or xs u true) more.done ∙ flag_set b.done.items t.0 u true (omega (arith, opens.in_range, is.made_for.done_long))
            ∙ flag (nat_eq t.0 u) (get_or b.done.items u true) (is_done (progress st) (front_of b) u) (is.front.done_is u l) ∙ sym (ap (λ (f : List ℕ). is_done (progress st) f u) next ∙ done_next (progress st) (front_of b) t.0 u);
        missing_is = λ c l. missing_after p (progress st) (front_of b) t.0 c (get_or new.missing.items c 0) (get_or b.missing.items c 0) is.orderable opens.waits (is.front.missing_is c l)
            (more.missing_is c) ∙ ap (λ (f : List ℕ). missing p (progress st) f c) (sym next);
        used_is = λ s l. more.used_is s ∙ used_after p (progress st) (front_of b) t.0 s (get_or b.used.items s 0) change l more.change_is (is.front.used_is s l) ∙ ap (λ (f : List ℕ). usage p (size (progress st)) f s) (sym next);
        peaks_are = λ s l. subst (λ (f : List ℕ). IsPeak p (progress st) f s (get_or new.peaks.items s 0)) (sym next) (subst (λ (n : ℕ). IsPeak p (progress st) (front_of b ++ t.0 ∷ []) s n) (sym (more.peaks_are s))
            (peak_after p (progress st) (front_of b) t.0 s (get_or b.peaks.items s 0) change l more.change_is (is.front.peaks_are s l)));
      };
    }
  where
    flag : (b x y : Bool) → x ≡ y → cond b true x ≡ (y || b)
    flag true x true e = refl
    flag true x false e = refl
    flag false true true e = refl
    flag false true false e = absurd cc
    flag false false true e = absurd cc
    flag false false false e = refl

pub enough_at : (p : Plan) (st : Standing) (b : Front) (t c : ℕ) → IsSet p st b → IsOpen p (progress st) (front_of b) t → c < count_tasks p → has (parents p c) t ≡ true → 0 < get_or b.missing.items c 0
enough_at p st b t c is opens l h =
    let one = missing_less p (progress st) (front_of b) t c is.orderable opens.waits h in
    omega (arith, one, is.front.missing_is c l)
