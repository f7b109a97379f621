-- What was delivered is what is stored at the output, so it is within the output's bound.
use Rattle.std.proofs.Common.{◌≡◌, ℕ, zero, suc, ◌+◌, ◌≤◌, ◌<◌, ◌||◌, Bool, true, false, cond, eqb, eqb-true, inl, inr, List, [], ◌∷◌, ◌++◌, take, refl, sym, ap, subst, ◌∙◌, arith}
use Rattle.std.specs.Prelude.{Option, Some, None, IfSome, is_some, nat_lt}
use Rattle.plan_core.specs.declared.plan.Plan.{Plan}
use Rattle.plan_core.specs.declared.plan.TaskKind.{TaskKind}
use Rattle.plan_core.specs.declared.plan.TaskKind.TheVariants.{Clean as Sweeps, Run, Transfer}
use Rattle.plan_core.specs.declared.plan.Target.TheVariants.{Delivery, Site}
use Rattle.plan_core.specs.Numbers.{has}
use Rattle.plan_core.specs.Words.{bound, cleans, count_pairs, count_tasks, kind, output_bound, writes}
use Rattle.plan_core.proofs.TestLemmas.{by_bool}
use Rattle.storage_simulation.specs.declared.standing.Held.{Held}
use Rattle.storage_simulation.specs.declared.standing.Held.TheVariants.{Nothing, Reserved, Stored}
use Rattle.storage_simulation.specs.declared.standing.Phase.{Phase}
use Rattle.storage_simulation.specs.declared.standing.Phase.TheVariants.{Ended, Runs, Waits}
use Rattle.storage_simulation.specs.Goods.{count_sites, good_size, is_delivery, is_delivery_kind, makes, or_zero, place_bound, places}
use Rattle.storage_simulation.specs.code.Law.{KeepsGoods, output_usage}
use Rattle.storage_simulation.specs.Usage.{usage}
use Rattle.values.specs.Numbers.{total}
use Rattle.run_record.specs.Events.{Event, Grant, Arrive, End, Clean, Fail, Again, Regrant}
use Rattle.lease_rules.specs.Choice.{IsChoice}
use Rattle.lease_rules.specs.code.Law.{IsSafeState, IsSoundState}
use Rattle.lease_rules.specs.Law.{stored_at}
use Rattle.lease_rules.specs.Legal.{Allowed, Legal, LegalFrom, MayFail}
use Rattle.lease_rules.specs.State.{State, after, ended, now, now_from, opened, put, reserved_for, stored_among, stored_size}
use Rattle.lease_rules.proofs.SoundLemmas.{choice_in, fresh_among, is_waiting}
use Rattle.lease_rules.proofs.TotalLemmas.{total_at_most, total_change}
use Rattle.site_yard.specs.Delivered.{Arrival, arrival_at, arrivals, arrivals_of, delivered_file}
use Rattle.plan_run.specs.Running.{delivered_bytes, sum_of_sizes}

same_number : (t : ℕ) → eqb t t ≡ true
same_number t = grind arith

clash : (b : Bool) → b ≡ true → b ≡ false → ⊥
clash b on off = (let e : true ≡ false = sym on ∙ off in absurd cc)

-- ---- what stands of the deliveries

abbrev good_of : Plan → ℕ → ℕ
good_of p t = count_pairs p + t

abbrev stands : Plan → (ℕ → Held) → ℕ → ℕ
stands p held t = cond (is_delivery p t) (stored_size (held (good_of p t))) 0

abbrev standing : Plan → (ℕ → Held) → ℕ
standing p held = total (count_tasks p) (stands p held)

-- of a delivery that hasn't ended nothing stands
abbrev NoneBefore : Plan → State → Type 0
NoneBefore p s = (t : ℕ) → is_delivery p t ≡ true → ended (s.phase t) ≡ false → stored_size (s.held (good_of p t)) ≡ 0

makes_own : (p : Plan) (t : ℕ) → is_delivery p t ≡ true → has (makes p t) (good_of p t) ≡ true
unfolding makes
makes_own p t d = subst (λ b. has (cond b (good_of p t ∷ []) (writes p t)) (good_of p t) ≡ true) (sym d) (ap (λ b. b || false) (same_number (good_of p t)))

-- what makes a delivery's good is that delivery
maker_is : (p : Plan) (t u : ℕ) → KeepsGoods p → is_delivery p t ≡ true → has (makes p u) (good_of p t) ≡ true → t ≡ u
maker_is p t u keeps d h = keeps.one_maker t u (good_of p t) (makes_own p t d) h

if_less : (b : Bool) (x y : ℕ) → (b ≡ true → x ≤ y) → cond b x 0 ≤ cond b y 0
if_less true x y h = h refl
if_less false x y h = omega arith

if_same : (b : Bool) (x y : ℕ) → (b ≡ true → x ≡ y) → cond b x 0 ≡ cond b y 0
if_same true x y h = h refl
if_same false x y h = refl

grows : (p : Plan) (old new : ℕ → Held) → ((t : ℕ) → is_delivery p t ≡ true → stored_size (old (good_of p t)) ≤ stored_size (new (good_of p t))) → standing p old ≤ standing p new
grows p old new h = total_at_most (stands p old) (stands p new) (count_tasks p) (λ t l. if_less (is_delivery p t) _ _ (h t))

nothing_less : (x y : ℕ) → x ≡ 0 → x ≤ y
nothing_less x y e = omega (arith, e)

same_less : (x y : ℕ) → x ≡ y → x ≤ y
same_less x y e = omega (arith, e)

-- ---- phases

waits_unended : (x : Phase) → x ≡ Waits → ended x ≡ false
waits_unended x e = ap ended e

runs_unended : (x : Phase) → x ≡ Runs → ended x ≡ false
runs_unended x e = ap ended e

-- a task that ends has ended, so the one that hasn't is another
ended_off : (f : ℕ → Phase) (u t : ℕ) → ended (put f u Ended t) ≡ false → (eqb u t ≡ false) × (ended (f t) ≡ false)
ended_off f u t h = by_bool (eqb u t)
    (λ at. absurd (clash true refl (sym (ap (λ b. ended (cond b Ended (f t))) at) ∙ h)))
    (λ off. (off, sym (ap (λ b. ended (cond b Ended (f t))) off) ∙ h))

-- where a task hasn't ended that got another phase, it hadn't before
unended_before : (f : ℕ → Phase) (u t : ℕ) (x : Phase) → ended (f u) ≡ false → ended (put f u x t) ≡ false → ended (f t) ≡ false
unended_before f u t x before h = by_bool (eqb u t)
    (λ at. subst (λ n. ended (f n) ≡ false) (eqb-true u t at) before)
    (λ off. sym (ap (λ b. ended (cond b x (f t))) off) ∙ h)

chosen_unended : (p : Plan) (s : State) (t : ℕ) → IsSoundState p s → IsChoice p s t → ended (s.phase t) ≡ false
chosen_unended p s t sound choice = waits_unended (s.phase t) (is_waiting (s.phase t) (sound.safe.waiting t (choice_in p s t choice)))

caught_unended : (p : Plan) (s : State) (w t : ℕ) → IsSoundState p s → MayFail p s w t → ended (s.phase t) ≡ false
caught_unended p s w t sound (inl opened_) = runs_unended (s.phase t) opened_.runs
caught_unended p s w t sound (inr choice) = chosen_unended p s t sound choice.1

-- ---- entry by entry

record Goes (p : Plan) (s : State) (e : Event) : Type 0 where
  more : sum_of_sizes (arrivals_of p e) + standing p s.held ≤ standing p (after p s e).held
  none : NoneBefore p (after p s e)

nothing_arrives : (p : Plan) (x y : ℕ) → x ≤ y → sum_of_sizes [] + x ≤ y
nothing_arrives p x y h = omega (arith, h)

-- a grant reserves
reserved_more : (p : Plan) (s : State) (u t : ℕ) → KeepsGoods p → NoneBefore p s → ended (s.phase u) ≡ false → is_delivery p t ≡ true → stored_size (s.held (good_of p t)) ≤ stored_size (reserved_for p u s.held (good_of p t))
reserved_more p s u t keeps none before d = by_bool (has (makes p u) (good_of p t))
    (λ h. let same = maker_is p t u keeps d h in nothing_less _ _ (none t d (subst (λ n. ended (s.phase n) ≡ false) (sym same) before)))
    (λ h. same_less _ _ (sym (ap (λ b. stored_size (cond b (Reserved (good_size p (good_of p t))) (s.held (good_of p t)))) h)))

reserved_none : (p : Plan) (s : State) (u t : ℕ) → NoneBefore p s → ended (s.phase u) ≡ false → is_delivery p t ≡ true → ended (put s.phase u Runs t) ≡ false → stored_size (reserved_for p u s.held (good_of p t)) ≡ 0
reserved_none p s u t none before d h = by_bool (has (makes p u) (good_of p t))
    (λ k. ap (λ b. stored_size (cond b (Reserved (good_size p (good_of p t))) (s.held (good_of p t)))) k)
    (λ k. ap (λ b. stored_size (cond b (Reserved (good_size p (good_of p t))) (s.held (good_of p t)))) k ∙ none t d (unended_before s.phase u t Runs before h))

grant_goes : (p : Plan) (s : State) (w u : ℕ) → KeepsGoods p → NoneBefore p s → ended (s.phase u) ≡ false → Goes p s (Grant w u)
grant_goes p s w u keeps none before = record {
  more = nothing_arrives p _ _ (grows p s.held (after p s (Grant w u)).held (λ t d. reserved_more p s u t keeps none before d));
  none = λ t d h. reserved_none p s u t none before d h;
}

regrant_goes : (p : Plan) (s : State) (w u : ℕ) → KeepsGoods p → NoneBefore p s → ended (s.phase u) ≡ false → Goes p s (Regrant w u)
regrant_goes p s w u keeps none before = record {
  more = nothing_arrives p _ _ (grows p s.held (after p s (Regrant w u)).held (λ t d. reserved_more p s u t keeps none before d));
  none = λ t d h. reserved_none p s u t none before d h;
}

-- of what a running task makes nothing stands
running_none : (p : Plan) (s : State) (u g : ℕ) → IsSoundState p s → s.phase u ≡ Runs → has (makes p u) g ≡ true → stored_size (s.held g) ≡ 0
running_none p s u g sound runs h = ap stored_size (sound.running_held u g runs h)

-- what arrives
arrived : (u n : ℕ) (k : Option TaskKind) → sum_of_sizes (arrival_at u n (delivered_file k)) ≡ cond (is_delivery_kind k) n 0
arrived u n None = refl
arrived u n (Some (Transfer f from (Site a))) = refl
arrived u n (Some (Transfer f from Delivery)) = omega arith
arrived u n (Some (Run a js)) = refl
arrived u n (Some (Sweeps q)) = refl

arrives : (p : Plan) (w u n : ℕ) → sum_of_sizes (arrivals_of p (Arrive w u n)) ≡ cond (is_delivery p u) n 0
unfolding is_delivery
arrives p w u n = arrived u n (kind p u)

arrive_held : (p : Plan) (s : State) (u n t : ℕ) → has (makes p u) (good_of p t) ≡ false → cond (has (makes p u) (good_of p t)) (Stored n) (s.held (good_of p t)) ≡ s.held (good_of p t)
arrive_held p s u n t h = ap (λ b. cond b (Stored n) (s.held (good_of p t))) h

other_good : (p : Plan) (t u : ℕ) → KeepsGoods p → is_delivery p t ≡ true → (t ≡ u → ⊥) → has (makes p u) (good_of p t) ≡ false
other_good p t u keeps d other = by_bool (has (makes p u) (good_of p t)) (λ h. absurd (other (maker_is p t u keeps d h))) (λ h. h)

arrive_delivery : (p : Plan) (s : State) (w u n : ℕ) → KeepsGoods p → IsSoundState p s → s.phase u ≡ Runs → is_delivery p u ≡ true → n + standing p s.held ≤ standing p (after p s (Arrive w u n)).held
arrive_delivery p s w u n keeps sound runs d =
    let new = (after p s (Arrive w u n)).held in
    let change = total_change (stands p new) (stands p s.held) (count_tasks p) u (sound.running_kind u runs).1
    (λ q off. if_same (is_delivery p q) _ _ (λ dq. ap stored_size (arrive_held p s u n q (other_good p q u keeps dq off)))) in
    let old : stands p s.held u ≡ 0 = ap (λ b. cond b (stored_size (s.held (good_of p u))) 0) d ∙ running_none p s u (good_of p u) sound runs (makes_own p u d) in
    let now_ : stands p new u ≡ n = ap (λ b. cond b (stored_size (new (good_of p u))) 0) d ∙ ap (λ b. stored_size (cond b (Stored n) (s.held (good_of p u)))) (makes_own p u d) in
    omega (arith, change, old, now_)

arrive_other : (p : Plan) (s : State) (w u n : ℕ) → IsSoundState p s → s.phase u ≡ Runs → standing p s.held ≤ standing p (after p s (Arrive w u n)).held
arrive_other p s w u n sound runs = grows p s.held (after p s (Arrive w u n)).held (λ t d. by_bool (has (makes p u) (good_of p t))
    (λ h. nothing_less _ _ (running_none p s u (good_of p t) sound runs h))
    (λ h. same_less _ _ (sym (ap stored_size (arrive_held p s u n t h)))))

arrive_more : (p : Plan) (s : State) (w u n : ℕ) → KeepsGoods p → IsSoundState p s → s.phase u ≡ Runs → sum_of_sizes (arrivals_of p (Arrive w u n)) + standing p s.held ≤ standing p (after p s (Arrive w u n)).held
arrive_more p s w u n keeps sound runs = by_bool (is_delivery p u)
    (λ d. let is = arrives p w u n ∙ ap (λ b. cond b n 0) d in let more = arrive_delivery p s w u n keeps sound runs d in omega (arith, is, more))
    (λ d. let is = arrives p w u n ∙ ap (λ b. cond b n 0) d in let more = arrive_other p s w u n sound runs in omega (arith, is, more))

not_same : (u t : ℕ) → eqb u t ≡ false → t ≡ u → ⊥
not_same u t off e = clash (eqb u t) (subst (λ n. eqb u n ≡ true) (sym e) (same_number u)) off

arrive_goes : (p : Plan) (s : State) (w u n : ℕ) → KeepsGoods p → IsSoundState p s → NoneBefore p s → s.phase u ≡ Runs → Goes p s (Arrive w u n)
arrive_goes p s w u n keeps sound none runs = record {
  more = arrive_more p s w u n keeps sound runs;
  none = λ t d h.
      let off = ended_off s.phase u t h in
      ap stored_size (arrive_held p s u n t (other_good p t u keeps d (not_same u t off.0))) ∙ none t d off.1;
}

stored_else : (xs ns : List ℕ) (g : ℕ) (h : Held) → has xs g ≡ false → stored_among xs ns g h ≡ h
stored_else [] ns g h e = refl
stored_else (x ∷ xs) [] g h e = refl
stored_else (x ∷ xs) (n ∷ ns) g h e = by_test (eqb x g) (stored_else xs ns g h) e
  where
    by_test : (b : Bool) → (has xs g ≡ false → stored_among xs ns g h ≡ h) → (b || has xs g) ≡ false → cond b (Stored n) (stored_among xs ns g h) ≡ h
    by_test true less k = absurd cc
    by_test false less k = less k

end_goes : (p : Plan) (s : State) (w u : ℕ) (ns : List ℕ) → KeepsGoods p → IsSoundState p s → NoneBefore p s → s.phase u ≡ Runs → Goes p s (End w u ns)
end_goes p s w u ns keeps sound none runs = record {
  more = nothing_arrives p _ _ (grows p s.held (after p s (End w u ns)).held (λ t d. by_bool (has (makes p u) (good_of p t))
      (λ h. nothing_less _ _ (running_none p s u (good_of p t) sound runs h))
      (λ h. same_less _ _ (sym (ap stored_size (stored_else (makes p u) ns (good_of p t) (s.held (good_of p t)) h))))));
  none = λ t d h.
      let off = ended_off s.phase u t h in
      ap stored_size (stored_else (makes p u) ns (good_of p t) (s.held (good_of p t)) (other_good p t u keeps d (not_same u t off.0))) ∙ none t d off.1;
}

-- a Clean gives up a pair, and no delivery
kept : (p : Plan) (s : State) (u t : ℕ) → KeepsGoods p → cond (cleans p u (good_of p t)) Nothing (s.held (good_of p t)) ≡ s.held (good_of p t)
kept p s u t keeps = by_bool (cleans p u (good_of p t))
    (λ h. let l : good_of p t < count_pairs p = keeps.cleans_pairs u (good_of p t) h in absurd (omega (arith, l)))
    (λ h. ap (λ b. cond b Nothing (s.held (good_of p t))) h)

clean_goes : (p : Plan) (s : State) (w u : ℕ) → KeepsGoods p → NoneBefore p s → Goes p s (Clean w u)
clean_goes p s w u keeps none = record {
  more = nothing_arrives p _ _ (grows p s.held (after p s (Clean w u)).held (λ t d. same_less _ _ (sym (ap stored_size (kept p s u t keeps)))));
  none = λ t d h. ap stored_size (kept p s u t keeps) ∙ none t d (ended_off s.phase u t h).1;
}

goes : (p : Plan) (s : State) (e : Event) → KeepsGoods p → IsSoundState p s → NoneBefore p s → Allowed p s e → Goes p s e
goes p s (Grant w u) keeps sound none a = grant_goes p s w u keeps none (chosen_unended p s u sound a.2)
goes p s (Regrant w u) keeps sound none a = regrant_goes p s w u keeps none (waits_unended (s.phase u) (is_waiting (s.phase u) (sound.safe.waiting u (fresh_among p s 4 s.rest u a.1.among).2)))
goes p s (Arrive w u n) keeps sound none a = arrive_goes p s w u n keeps sound none a.2.runs
goes p s (End w u ns) keeps sound none a = end_goes p s w u ns keeps sound none a.2.runs
goes p s (Clean w u) keeps sound none a = clean_goes p s w u keeps none
goes p s (Again w u c ns) keeps sound none a = record {
  more = nothing_arrives p _ _ (same_less _ _ refl);
  none = λ t d h. none t d (unended_before s.phase u t Waits (caught_unended p s w u sound a.1) h);
}
goes p s (Fail w u c ns) keeps sound none a = record { more = nothing_arrives p _ _ (same_less _ _ refl); none = λ t d h. none t d h }

-- ---- the whole

sizes_append : (xs ys : List Arrival) → sum_of_sizes (xs ++ ys) ≡ sum_of_sizes xs + sum_of_sizes ys
sizes_append [] ys = omega arith
sizes_append (x ∷ xs) ys = let rest = sizes_append xs ys in omega (arith, rest)

abbrev pub KeepsSound : Plan → Type 0
KeepsSound p = (s : State) (e : Event) → IsSoundState p s → Allowed p s e → IsSoundState p (after p s e)

stands_of : (p : Plan) (s : State) (xs : List Event) → KeepsGoods p → KeepsSound p → IsSoundState p s → NoneBefore p s → LegalFrom p s xs → sum_of_sizes (arrivals p xs) + standing p s.held ≤ standing p (now_from p s xs).held
stands_of p s [] keeps more sound none legal = omega arith
stands_of p s (e ∷ xs) keeps more sound none legal =
    let one = goes p s e keeps sound none legal.0 in
    let first = one.more in
    let rest = stands_of p (after p s e) xs keeps more (more s e sound legal.0) one.none legal.1 in
    let sum = sizes_append (arrivals_of p e) (arrivals p xs) in
    omega (arith, first, rest, sum)

legal_front : (p : Plan) (s : State) (xs : List Event) (k : ℕ) → LegalFrom p s xs → LegalFrom p s (take k xs)
legal_front p s xs zero legal = tt
legal_front p s [] (suc k) legal = tt
legal_front p s (e ∷ xs) (suc k) legal = (legal.0, legal_front p (after p s e) xs k legal.1)

-- the sum over the output's goods is the one over the deliveries
abbrev pub IsOutputSum : Plan → Type 0
IsOutputSum p = (size : ℕ → ℕ) (front : List ℕ) (b : ℕ) → output_bound p ≡ Some b → usage p size front (count_sites p) ≡ output_usage p size front

stored_is : (p : Plan) (held : ℕ → Held) (b : ℕ) → IsOutputSum p → output_bound p ≡ Some b → stored_at p held (count_sites p) ≡ standing p held
stored_is p held b sums has_bound = sums (λ g. stored_size (held g)) [] b has_bound

is_place : (p : Plan) (b : ℕ) → output_bound p ≡ Some b → count_sites p < places p
unfolding places
is_place p b h = let e = ap {B = ℕ} (λ o. cond (is_some o) 1 0) h in omega (arith, e)

its_bound : (p : Plan) (b : ℕ) → output_bound p ≡ Some b → place_bound p (count_sites p) ≡ b
unfolding place_bound
its_bound p b h = by_bool (nat_lt (count_sites p) (count_sites p))
    (λ less. let l : count_sites p < count_sites p = grind (arith, less) in absurd (omega (arith, l)))
    (λ not_less. ap (λ c. cond c (bound p (count_sites p)) (or_zero (output_bound p))) not_less ∙ ap or_zero h)

pub output_within : (p : Plan) (order : List ℕ) (r : List Event) → KeepsGoods p → KeepsSound p → IsOutputSum p → IsSoundState p (opened order) → Legal p order r → ((k : ℕ) → IsSafeState p (now p order (take k r)))
    → (k : ℕ) → IfSome (output_bound p) (λ b. delivered_bytes p (take k r) ≤ b)
output_within p order r keeps more sums sound legal safe k = by (output_bound p) refl
  where
    by : (o : Option ℕ) → output_bound p ≡ o → IfSome o (λ b. delivered_bytes p (take k r) ≤ b)
    by None h = tt
    by (Some b) h =
        let held = (now p order (take k r)).held in
        let stands_ : delivered_bytes p (take k r) + standing p (opened order).held ≤ standing p held = stands_of p (opened order) (take k r) keeps more sound (λ t d e. refl) (legal_front p (opened order) r k legal) in
        let is = stored_is p held b sums h in
        let within = (safe k).within (count_sites p) (is_place p b h) in
        let bound_is = its_bound p b h in
        omega (arith, stands_, is, within, bound_is)
