-- Arrays by number.
use Rattle.std.proofs.Common.{◌≡◌, ℕ, zero, suc, ◌+◌, ◌<◌, ◌||◌, Bool, true, false, cond, nat_eq, eqb-true, List, [], ◌∷◌, length, take, drop, set, get_or, refl, sym, ap, ◌∙◌, arith}
use Rattle.std.proofs.lemmas.List.{take_more}
use Rattle.std.proofs.lemmas.List.Folds.{list_any-append}
use Rattle.std.specs.Prelude.{replicate}
use Rattle.std.proofs.Math.Path.{fun_ext}
use Rattle.storage_simulation.specs.declared.standing.Held.{Held}
use Rattle.storage_simulation.specs.declared.standing.Held.TheVariants.{Nothing, Stored}
use Rattle.storage_simulation.specs.code.Standings.{at_in}
use Rattle.plan_core.specs.Numbers.{has}
use Rattle.plan_core.specs.declared.plan.Plan.{Plan}
use Rattle.plan_core.specs.Words.{cleans}
use Rattle.storage_simulation.specs.declared.standing.Standing.{Standing}
use Rattle.storage_simulation.specs.Goods.{makes}
use Rattle.lease_rules.specs.code.Law.{HasStorageLaws}
use Rattle.lease_book.specs.RunState.{HasLengths, IsSame}
use Rattle.lease_rules.specs.State.{State, put, stored_among}
use Rattle.place_peaks.proofs.Offered.{has_head, or_right}

-- one place written
-- a list of one value has it everywhere, and where it ends
pub at_same : {X : Type 0} (d : X) (n t : ℕ) (xs : List X) → xs ≡ replicate n d → at_in d xs t ≡ d
at_same {X = X} d n t xs is = ap (λ (ys : List X). at_in d ys t) is ∙ each n t
  where
    each : (m u : ℕ) → at_in d (replicate m d) u ≡ d
    each zero u = refl
    each (suc m) zero = refl
    each (suc m) (suc u) = each m u

pub at_set : {X : Type 0} (d : X) (xs : List X) (i : ℕ) (x : X) (u : ℕ) → i < length xs → at_in d (set xs i x) u ≡ put (at_in d xs) i x u
at_set d [] i x u l = absurd (omega arith)
at_set d (y ∷ ys) zero x zero l = refl
at_set d (y ∷ ys) zero x (suc u) l = sym (ap (λ (b : Bool). cond b x (at_in d ys u)) (let e : nat_eq 0 (suc u) ≡ false = grind arith in e))
at_set d (y ∷ ys) (suc i) x zero l = sym (ap (λ (b : Bool). cond b x y) (let e : nat_eq (suc i) 0 ≡ false = grind arith in e))
at_set d (y ∷ ys) (suc i) x (suc u) l = at_set d ys i x u (omega arith) ∙ sym (ap (λ (b : Bool). cond b x (at_in d ys u)) (let e : nat_eq (suc i) (suc u) ≡ nat_eq i u = grind arith in e))

merge : {X : Type 0} (a b : Bool) (now what old : X) → (b ≡ true → now ≡ what) → cond b now (cond a what old) ≡ cond (a || (b || false)) what old
merge true true now what old h = h refl
merge true false now what old h = refl
merge false true now what old h = h refl
merge false false now what old h = refl

-- the places of a list written one by one
pub write_step : {X : Type 0} (xs : List ℕ) (what : ℕ → X) (new now old : ℕ → X) (k i : ℕ) (v : X) → k < length xs → i ≡ get_or xs k 0 → v ≡ what i
    → ((g : ℕ) → new g ≡ put now i v g)
    → ((g : ℕ) → now g ≡ cond (has (take k xs) g) (what g) (old g))
    → (g : ℕ) → new g ≡ cond (has (take (k + 1) xs) g) (what g) (old g)
write_step xs what new now old k i v below at is one so_far g =
    one g
    ∙ ap (λ (y : _). cond (nat_eq i g) v y) (so_far g)
    ∙ merge (has (take k xs) g) (nat_eq i g) v (what g) (old g) (λ e. is ∙ ap what (eqb-true i g e))
    ∙ ap (λ (j : ℕ). cond (has (take k xs) g || (nat_eq j g || false)) (what g) (old g)) at
    ∙ sym (ap (λ (b : Bool). cond b (what g) (old g)) (ap (λ (l : List ℕ). has l g) (take_more xs k 0 below) ∙ list_any-append (λ y. nat_eq y g) (take k xs) (get_or xs k 0 ∷ [])))

pub write_end : {X : Type 0} (xs : List ℕ) (what : ℕ → X) (now old : ℕ → X) (k : ℕ) → k ≡ length xs
    → ((g : ℕ) → now g ≡ cond (has (take k xs) g) (what g) (old g))
    → (g : ℕ) → now g ≡ cond (has xs g) (what g) (old g)
write_end xs what now old k end so_far g = so_far g ∙ ap (λ (l : List ℕ). cond (has l g) (what g) (old g)) (ap (λ (n : ℕ). take n xs) end ∙ take_all xs)
  where
    take_all : (ys : List ℕ) → take (length ys) ys ≡ ys
    take_all [] = refl
    take_all (y ∷ ys) = ap (λ (l : List ℕ). y ∷ l) (take_all ys)

pub has_at : (xs : List ℕ) (k : ℕ) → k < length xs → has xs (get_or xs k 0) ≡ true
has_at [] k l = absurd (omega arith)
has_at (x ∷ xs) zero l = has_head x xs
has_at (x ∷ xs) (suc k) l = or_right (nat_eq x (get_or xs k 0)) (has xs (get_or xs k 0)) (has_at xs k (omega arith))

-- what a task makes, or cleans, is in range
pub made_in : (p : Plan) (st : Standing) (t k i : ℕ) → HasStorageLaws p → HasLengths p st → k < length (makes p t) → i ≡ get_or (makes p t) k 0 → i < length st.held + length st.deliveries
made_in p st t k i laws long below at = let l = laws.makes_range t (get_or (makes p t) k 0) (has_at (makes p t) k below) in omega (arith, l, at, long.pairs, long.deliveries)

pub cleaned_in : (p : Plan) (st : Standing) (t i : ℕ) → HasStorageLaws p → HasLengths p st → ((g : ℕ) → cleans p t g ≡ nat_eq i g) → i < length st.held + length st.deliveries
cleaned_in p st t i laws long is = let l = laws.cleans_range t i (is i ∙ (let k : nat_eq i i ≡ true = grind arith in k)) in omega (arith, l, long.pairs)

pub cleaned_at : (p : Plan) (t i : ℕ) (new now : ℕ → Held) → ((g : ℕ) → cleans p t g ≡ nat_eq i g) → ((g : ℕ) → new g ≡ put now i Nothing g) → (g : ℕ) → new g ≡ cond (cleans p t g) Nothing (now g)
cleaned_at p t i new now is one g = one g ∙ ap (λ (b : Bool). cond b Nothing (now g)) (sym (is g))

-- the sizes of a Run stored one by one, from the last
pub stored_step : (xs ns : List ℕ) (k g : ℕ) (h : Held) → k < length xs → k < length ns → stored_among (drop k xs) (drop k ns) g h ≡ cond (nat_eq (get_or xs k 0) g) (Stored (get_or ns k 0)) (stored_among (drop (suc k) xs) (drop (suc k) ns) g h)
stored_step [] ns k g h l m = absurd (omega arith)
stored_step (x ∷ xs) [] k g h l m = absurd (omega arith)
stored_step (x ∷ xs) (n ∷ ns) zero g h l m = refl
stored_step (x ∷ xs) (n ∷ ns) (suc k) g h l m = stored_step xs ns k g h (omega arith) (omega arith)

pub stored_more : (xs ns : List ℕ) (new now old : ℕ → Held) (k m i v : ℕ) → suc k ≡ m → k < length xs → length ns ≡ length xs → i ≡ get_or xs k 0 → v ≡ get_or ns k 0
    → ((g : ℕ) → new g ≡ put now i (Stored v) g)
    → ((g : ℕ) → now g ≡ stored_among (drop m xs) (drop m ns) g (old g))
    → (g : ℕ) → new g ≡ stored_among (drop k xs) (drop k ns) g (old g)
stored_more xs ns new now old k m i v next below same at is one so_far g =
    one g
    ∙ ap (λ (y : Held). cond (nat_eq i g) (Stored v) y) (so_far g)
    ∙ ap (λ (j : ℕ). cond (nat_eq j g) (Stored v) (stored_among (drop m xs) (drop m ns) g (old g))) at
    ∙ ap (λ (w : ℕ). cond (nat_eq (get_or xs k 0) g) (Stored w) (stored_among (drop m xs) (drop m ns) g (old g))) is
    ∙ ap (λ (j : ℕ). cond (nat_eq (get_or xs k 0) g) (Stored (get_or ns k 0)) (stored_among (drop j xs) (drop j ns) g (old g))) (sym next)
    ∙ sym (stored_step xs ns k g (old g) below (omega arith))

pub stored_first : (xs ns : List ℕ) (k g : ℕ) (h : Held) → k ≡ length xs → stored_among (drop k xs) (drop k ns) g h ≡ h
stored_first xs ns k g h e = ap (λ (l : List ℕ). stored_among l (drop k ns) g h) (ap (λ (n : ℕ). drop n xs) e ∙ gone xs)
  where
    gone : (ys : List ℕ) → drop (length ys) ys ≡ []
    gone [] = refl
    gone (y ∷ ys) = gone ys

pub stored_all : (xs ns : List ℕ) (k g : ℕ) (h : Held) → k ≡ 0 → stored_among (drop k xs) (drop k ns) g h ≡ stored_among xs ns g h
stored_all xs ns k g h e = ap (λ (n : ℕ). stored_among (drop n xs) (drop n ns) g h) e ∙ ap (λ (l : List ℕ). stored_among l (drop 0 ns) g h) (none xs) ∙ ap (λ (l : List ℕ). stored_among xs l g h) (none ns)
  where
    none : (ys : List ℕ) → drop 0 ys ≡ ys
    none [] = refl
    none (y ∷ ys) = refl

-- states by their parts
pub same_state : (a b : State) → IsSame a b → a ≡ b
same_state a b same = λ i. record {
  phase = fun_ext same.phase i;
  holder = fun_ext same.holder i;
  agains = fun_ext same.agains i;
  failed = fun_ext same.failed i;
  held = fun_ext same.held i;
  failing = same.failing i;
  rest = same.rest i;
}
