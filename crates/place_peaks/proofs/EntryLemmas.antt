-- What each entry keeps, wherever its task stands.
use Rattle.std.proofs.Common.{◌≡◌, ◌-◌, ◌<◌, ℕ, Bool, true, false, cond, nat_eq, eqb-true, inl, inr, List, [], ◌∷◌, ◌++◌, length, get_or, Option, Some, None, refl, sym, ap, subst, ◌∙◌, arith}
use Rattle.std.specs.Prelude.{MatchOption, filter, replicate, slice_get, vec_capacity}
use Rattle.std.proofs.lemmas.List.Folds.{list_any-append}
use Rattle.values.specs.declared.numbers.TaskId.{TaskId}
use Rattle.place_peaks.proofs.Offered.{absent_filter, by_bool, choice_in, false_of, first_is_choice, has_filter, has_head, is_itself, one_choice, or_left, pair_place, place_of}
use Rattle.lease_rules.specs.Choice.{HaveParentsEnded, IsChoice}
use Rattle.lease_rules.specs.code.Law.{HasStorageLaws}
use Rattle.lease_rules.specs.Legal.{Allowed, MayFail}
use Rattle.lease_rules.specs.State.{State, after, ended}
use Rattle.plan_core.specs.declared.plan.Plan.{Plan}
use Rattle.plan_core.specs.Numbers.{has}
use Rattle.plan_core.specs.declared.plan.Pair.{Pair}
use Rattle.plan_core.specs.declared.plan.TaskKind.{TaskKind}
use Rattle.plan_core.specs.declared.plan.TaskKind.TheVariants.{Transfer, Run, Clean as CleanKind}
use Rattle.plan_core.specs.Words.{cleans, count_pairs, is_at, is_clean, kind, kind_cleans, pair, parents, is_on_site, task_numbers}
use Rattle.run_record.specs.declared.entry.Cause.{Cause}
use Rattle.run_record.specs.Events.{Again, Arrive, Clean, End, Fail, Grant}
use Rattle.storage_simulation.specs.declared.standing.Phase.{Phase}
use Rattle.storage_simulation.specs.declared.standing.Phase.TheVariants.{Ended, Runs, Waits}
use Rattle.storage_simulation.specs.code.Change.{held_part}
use Rattle.storage_simulation.specs.Following.{AreOnce}
use Rattle.storage_simulation.specs.code.Goods.{IsWithinLimits, kind_place, pair_site, place}
use Rattle.storage_simulation.specs.Goods.{lies_at, makes}
use Rattle.storage_simulation.specs.Standings.{sizes, waits}
use Rattle.place_peaks.specs.declared.peaks.Peaks.{Peaks}
use Rattle.place_peaks.specs.Cleaning.{CanEnd, CanGive, IsSwept, IsSweptAgain}
use Rattle.place_peaks.specs.Entries.{AreTied, CanEnter, Frees, IsWhole}
use Rattle.place_peaks.specs.Granting.{CanGrant, IsGranted, IsGrantedAgain}
use Rattle.place_peaks.specs.Peaks.{AreBehind, ArePeaks, HasPassed, left_of, line_of, stack_of}
use Rattle.place_peaks.specs.declared.links.Links.{Links}
use Rattle.place_peaks.specs.Links.{AreLinks}
use Rattle.place_peaks.specs.Settling.{CanSettle, IsSettled}
use Rattle.place_peaks.specs.Stack.{IsFirstOf}
use Rattle.place_peaks.specs.Waiting.{CanFree, HasStackRoom, IsAgain, IsMoved}
use Rattle.place_peaks.proofs.ChoosingLemmas.{behind_none, last_first, none_stacked}
use Rattle.place_peaks.proofs.CleaningLemmas.{cleaned_good, swept_at}
use Rattle.place_peaks.proofs.FirstLemmas.{granted_again, swept_again}
use Rattle.place_peaks.proofs.GrantingLemmas.{SumsAreSmall, can_grant, granted_at}
use Rattle.place_peaks.proofs.PossibleLemmas.{can_end, can_free, can_free_first, has_stack_room}
use Rattle.place_peaks.proofs.SettlingLemmas.{arrive_declared, arrived, ended_at}
use Rattle.place_peaks.proofs.ReadyLemmas.{HaveTrees}
use Rattle.place_peaks.proofs.WaitingLemmas.{again_by, again_first, clean_choice, failed_by, moved_at}

-- a task of rest stands in the line where none waits again
pub record IsInLine (b : Peaks) (t : ℕ) : Type 0 where
  pub at : ℕ
  pub within : at < length (line_of b)
  pub is : get_or (line_of b) at 0 ≡ t
  pub left : left_of b t ≡ true

pub in_line : (p : Plan) (s : State) (b : Peaks) (t : ℕ) → ArePeaks p s b → has s.rest t ≡ true → IsInLine b t
in_line p s b t peaks m = record { at = k.0; within = k.1; is = k.2; left = has_filter (left_of b) t (line_of b) passes }
  where
    passes : has (filter (left_of b) (line_of b)) t ≡ true
    passes = ap (λ (zs : List ℕ). has zs t) (sym peaks.rest) ∙ m

    k : (j : ℕ) × (j < length (line_of b)) × (get_or (line_of b) j 0 ≡ t)
    k = place_of (line_of b) t (by_bool (has (line_of b) t) (λ e. e) (λ off. absurd (let no = absent_filter (left_of b) t (line_of b) off in let yes = passes in cc)))

-- the first task that waits again is the Choice
pub first_only : (p : Plan) (s : State) (b : Peaks) (t u : ℕ) → AreBehind p s b (stack_of b) → IsFirstOf (stack_of b) u → IsChoice p s t → IsFirstOf (stack_of b) t
first_only p s b t u behind first choice = subst (IsFirstOf (stack_of b)) (sym same) first
  where
    head : AreBehind p s b (u ∷ first.0)
    head = subst (AreBehind p s b) first.1 behind

    same : t ≡ u
    same = one_choice p s t u choice (first_is_choice p s u (first.0 ++ filter (left_of b) (line_of b)) head.rules.laws head.sound choice.no_fail head.rest (head.waiting u (has_head u first.0)))

pub tied_none : (p : Plan) (s : State) (b : Peaks) → b.again.items ≡ [] → ArePeaks p s b → IsWhole p b → HaveTrees p s b
tied_none p s b none peaks whole = record { behind = subst (AreBehind p s b) (sym (none_stacked b.again.items none)) peaks; whole = whole }

-- a task that waits stands below the number of tasks, and hasn't ended
waiting_open : (x : Phase) → waits x ≡ true → ended x ≡ false
waiting_open Waits e = refl
waiting_open Runs e = refl
waiting_open Ended e = absurd cc

running_open : (x : Phase) → x ≡ Runs → ended x ≡ false
running_open x e = ap ended e

-- A Grant.
pub grant_room : (p : Plan) (s : State) (b : Peaks) (w t q : ℕ) → IsWithinLimits p → SumsAreSmall p → ArePeaks p s b → Allowed p s (Grant w t) → get_or b.seating.homes.items t None ≡ Some q → CanGrant b t q
grant_room p s b w t q limits sums peaks allowed home =
    let k = in_line p s b t peaks (choice_in p s t allowed.2) in
    subst (λ (n : ℕ). left_of b n ≡ true → is_clean p n ≡ false → HaveParentsEnded p s n → get_or b.seating.homes.items n None ≡ Some q → CanGrant b n q) k.is
    (λ left kind ended home. can_grant p s b k.at q limits sums peaks k.within left kind ended home) k.left allowed.1 allowed.2.can.parents_ended home

pub grant_line : (p : Plan) (s : State) (old new : Peaks) (w t : ℕ) → ArePeaks p s old → Allowed p s (Grant w t) → IsGranted old new t → ArePeaks p (after p s (Grant w t)) new
grant_line p s old new w t peaks allowed is =
    let k = in_line p s old t peaks (choice_in p s t allowed.2) in
    subst (λ (n : ℕ). left_of old n ≡ true → Allowed p s (Grant w n) → IsGranted old new n → ArePeaks p (after p s (Grant w n)) new) k.is
    (λ left a i. granted_at p s old new w k.at peaks a i k.within left) k.left allowed is

pub grant_tied : (p : Plan) (s : State) (old new : Peaks) (w t : ℕ) → AreTied p s old → old.again.items ≡ [] → Allowed p s (Grant w t) → IsGranted old new t → HaveTrees p (after p s (Grant w t)) new
grant_tied p s old new w t tied none allowed is =
    tied_none p (after p s (Grant w t)) new (ap (λ (b : Peaks). b.again.items) is.same ∙ none) (grant_line p s old new w t (behind_none p s old none tied.behind) allowed is) (subst (HasStackRoom p) (sym is.same) tied.whole.0, is.passed tied.whole.1)

pub grant_again_tied : (p : Plan) (s : State) (old new : Peaks) (w t : ℕ) → AreTied p s old → Allowed p s (Grant w t) → IsGrantedAgain old new t → stack_of old ≡ t ∷ stack_of new → vec_capacity new.again ≡ vec_capacity old.again → HaveTrees p (after p s (Grant w t)) new
grant_again_tied p s old new w t tied allowed is stack long = record {
  behind = granted_again p s old new (stack_of new) w t (subst (AreBehind p s old) stack tied.behind) allowed is;
  whole = (let had = tied.whole.0 in omega (arith, long, had), subst HasPassed (sym is.same) tied.whole.1);
}

-- A Clean.
clean_lies : (p : Plan) (t g q : ℕ) → g < count_pairs p → cleans p t g ≡ true → place p t ≡ Some q → lies_at p g q ≡ true
unfolding place pair is_at
clean_lies p t g q low c at = pair_place p g q low ∙ by_kind (kind p t) c at
  where
    by_pair : (o : Option Pair) → pair_site o ≡ Some q → is_on_site o q ≡ true
    by_pair None e = absurd cc
    by_pair (Some x) e = let same : x.site.0 ≡ q = cc in let yes : nat_eq x.site.0 q ≡ true = grind (arith, same) in yes

    by_kind : (o : Option TaskKind) → kind_cleans o g ≡ true → kind_place p o ≡ Some q → is_on_site (slice_get p.pairs g) q ≡ true
    by_kind None c e = absurd cc
    by_kind (Some (Transfer f from to)) c e = absurd cc
    by_kind (Some (Run x js)) c e = absurd cc
    by_kind (Some (CleanKind n)) c e = by_pair (slice_get p.pairs g) (ap (λ (m : ℕ). pair_site (slice_get p.pairs m)) (sym (eqb-true n.0 g c)) ∙ e)

pub frees_there : (p : Plan) (s : State) (t g frees : ℕ) → HasStorageLaws p → ((x : ℕ) → cleans p t x ≡ nat_eq g x) → Frees p s t frees → (q : ℕ) → place p t ≡ Some q → held_part p (sizes s.held) q g ≡ frees
frees_there p s t g frees laws its free q at =
    ap (λ (b : Bool). cond b (sizes s.held g) 0) (clean_lies p t g q (laws.cleans_range t g (its g ∙ is_itself g)) (its g ∙ is_itself g) at) ∙ free g (its g ∙ is_itself g)

pub clean_room : (p : Plan) (s : State) (b : Peaks) (t q frees : ℕ) → IsWithinLimits p → SumsAreSmall p → ArePeaks p s b → is_clean p t ≡ true → IsChoice p s t → Frees p s t frees → get_or b.seating.homes.items t None ≡ Some q → CanFree b t q frees
clean_room p s b t q frees limits sums peaks kind choice free home =
    let k = in_line p s b t peaks (choice_in p s t choice) in
    let g = cleaned_good p t kind in
    subst (λ (n : ℕ). left_of b n ≡ true → HaveParentsEnded p s n → ((x : ℕ) → cleans p n x ≡ nat_eq g.0 x) → ((r : ℕ) → place p n ≡ Some r → held_part p (sizes s.held) r g.0 ≡ frees) → get_or b.seating.homes.items n None ≡ Some q → CanFree b n q frees) k.is
    (λ left ended its free home. can_free p s b k.at q g.0 frees limits sums peaks k.within left ended its free home) k.left choice.can.parents_ended g.1 (frees_there p s t g.0 frees peaks.rules.laws g.1 free) home

pub clean_room_again : (p : Plan) (s : State) (b : Peaks) (t q frees : ℕ) → AreBehind p s b (stack_of b) → IsFirstOf (stack_of b) t → is_clean p t ≡ true → Frees p s t frees → get_or b.seating.homes.items t None ≡ Some q → CanGive b.base.items q frees
clean_room_again p s b t q frees behind first kind free home =
    let g = cleaned_good p t kind in
    can_free_first p s b first.0 t q g.0 frees (subst (AreBehind p s b) first.1 behind) kind g.1 (frees_there p s t g.0 frees behind.rules.laws g.1 free) home

pub clean_end : (p : Plan) (s : State) (b : Peaks) (t : ℕ) → AreTied p s b → IsChoice p s t → CanEnd p b.missing.items t
clean_end p s b t tied choice = can_end p s b (stack_of b) t tied.behind (waiting_open (s.phase t) (tied.behind.sound.safe.waiting t (choice_in p s t choice)))

pub clean_tied : (p : Plan) (s : State) (old new : Peaks) (w t frees : ℕ) → AreTied p s old → old.again.items ≡ [] → Allowed p s (Clean w t) → ((u : ℕ) → AreOnce (parents p u)) → Frees p s t frees → IsSwept p old new t frees → HaveTrees p (after p s (Clean w t)) new
clean_tied p s old new w t frees tied none allowed once free is =
    tied_none p (after p s (Clean w t)) new (ap (λ (b : Peaks). b.again.items) is.same ∙ none) line (subst (HasStackRoom p) (sym is.same) tied.whole.0, is.passed tied.whole.1)
  where
    peaks : ArePeaks p s old
    peaks = behind_none p s old none tied.behind

    line : ArePeaks p (after p s (Clean w t)) new
    line =
        let k = in_line p s old t peaks (choice_in p s t allowed.2) in
        let g = cleaned_good p t allowed.1 in
        subst (λ (n : ℕ). left_of old n ≡ true → Allowed p s (Clean w n) → ((x : ℕ) → cleans p n x ≡ nat_eq g.0 x) → ((q : ℕ) → place p n ≡ Some q → held_part p (sizes s.held) q g.0 ≡ frees) → IsSwept p old new n frees → ArePeaks p (after p s (Clean w n)) new) k.is
        (λ left a its f i. swept_at p s old new w k.at g.0 frees peaks k.within left a once its f i) k.left allowed g.1 (frees_there p s t g.0 frees peaks.rules.laws g.1 free) is

pub clean_again_tied : (p : Plan) (s : State) (old new : Peaks) (w t frees : ℕ) → AreTied p s old → Allowed p s (Clean w t) → ((u : ℕ) → AreOnce (parents p u)) → Frees p s t frees → IsSweptAgain p old new t frees → stack_of old ≡ t ∷ stack_of new → vec_capacity new.again ≡ vec_capacity old.again → HaveTrees p (after p s (Clean w t)) new
clean_again_tied p s old new w t frees tied allowed once free is stack long =
    let g = cleaned_good p t allowed.1 in record {
      behind = swept_again p s old new (stack_of new) w t g.0 frees (subst (AreBehind p s old) stack tied.behind) allowed once g.1 (frees_there p s t g.0 frees tied.behind.rules.laws g.1 free) is;
      whole = (let had = tied.whole.0 in omega (arith, long, had), subst HasPassed (sym is.same) tied.whole.1);
    }

-- An Again.
off_stack : (p : Plan) (s : State) (b : Peaks) (t : ℕ) → AreBehind p s b (stack_of b) → has s.rest t ≡ false → has (stack_of b) t ≡ false
off_stack p s b t behind off = false_of (has (stack_of b) t) (λ m. absurd (let yes : has s.rest t ≡ true = ap (λ (zs : List ℕ). has zs t) behind.rest ∙ list_any-append (λ y. nat_eq y t) (stack_of b) (filter (left_of b) (line_of b)) ∙ or_left (has (stack_of b) t) (has (filter (left_of b) (line_of b)) t) m in cc))

runs_of : (p : Plan) (s : State) (w t : ℕ) → is_clean p t ≡ false → MayFail p s w t → s.phase t ≡ Runs
runs_of p s w t kind (inl o) = o.runs
runs_of p s w t kind (inr k) = absurd (let no = k.0 in cc)

pub again_room : (p : Plan) (s : State) (b : Peaks) (w t : ℕ) (c : Cause) (ns : List ℕ) → AreTied p s b → is_clean p t ≡ false → Allowed p s (Again w t c ns) → length b.again.items < vec_capacity b.again
again_room p s b w t c ns tied kind allowed =
    let runs = runs_of p s w t kind allowed.1 in
    has_stack_room p s b t tied.whole.0 tied.behind (tied.behind.sound.running_kind t runs).1
    (off_stack p s b t tied.behind (false_of (has s.rest t) (λ h. absurd (let wait = tied.behind.sound.safe.waiting t h in let no : waits (s.phase t) ≡ false = ap waits runs in cc))))

pub again_tied : (p : Plan) (s : State) (old new : Peaks) (w t : ℕ) (c : Cause) (ns : List ℕ) → AreTied p s old → is_clean p t ≡ false → Allowed p s (Again w t c ns) → IsAgain old new t → stack_of new ≡ t ∷ stack_of old → vec_capacity new.again ≡ vec_capacity old.again → HaveTrees p (after p s (Again w t c ns)) new
again_tied p s old new w t c ns tied kind allowed is stack long = record {
  behind = subst (AreBehind p (after p s (Again w t c ns)) new) (sym stack) (again_by p s old new (stack_of old) w t c ns tied.behind allowed (runs_of p s w t kind allowed.1) is);
  whole = (let had = tied.whole.0 in omega (arith, long, had), subst HasPassed (sym is.same) tied.whole.1);
}

pub move_room : (p : Plan) (s : State) (b : Peaks) (t : ℕ) → AreTied p s b → b.again.items ≡ [] → IsChoice p s t → length b.again.items < vec_capacity b.again
move_room p s b t tied none choice =
    has_stack_room p s b t tied.whole.0 tied.behind (tied.behind.sound.safe.tasks t (choice_in p s t choice)) (ap (λ (zs : List ℕ). has zs t) (none_stacked b.again.items none))

pub move_tied : (p : Plan) (s : State) (old new : Peaks) (w t frees : ℕ) (c : Cause) (ns : List ℕ) → AreTied p s old → old.again.items ≡ [] → is_clean p t ≡ true → Allowed p s (Again w t c ns) → Frees p s t frees → IsMoved old new t frees → stack_of new ≡ t ∷ stack_of old → vec_capacity new.again ≡ vec_capacity old.again → HaveTrees p (after p s (Again w t c ns)) new
move_tied p s old new w t frees c ns tied none kind allowed free is stack long = record {
  behind = subst (AreBehind p (after p s (Again w t c ns)) new) (sym (stack ∙ ap (λ (zs : List ℕ). t ∷ zs) (none_stacked old.again.items none))) moved;
  whole = (let had = tied.whole.0 in omega (arith, long, had), is.passed tied.whole.1);
}
  where
    peaks : ArePeaks p s old
    peaks = behind_none p s old none tied.behind

    choice : IsChoice p s t
    choice = clean_choice p s w t peaks.sound kind allowed.1

    moved : AreBehind p (after p s (Again w t c ns)) new (t ∷ [])
    moved =
        let k = in_line p s old t peaks (choice_in p s t choice) in
        let g = cleaned_good p t kind in
        subst (λ (n : ℕ). left_of old n ≡ true → is_clean p n ≡ true → Allowed p s (Again w n c ns) → ((x : ℕ) → cleans p n x ≡ nat_eq g.0 x) → ((q : ℕ) → place p n ≡ Some q → held_part p (sizes s.held) q g.0 ≡ frees) → IsMoved old new n frees → AreBehind p (after p s (Again w n c ns)) new (n ∷ [])) k.is
        (λ left kind a its f i. moved_at p s old new w k.at g.0 frees c ns peaks k.within left kind a its f i) k.left kind allowed g.1 (frees_there p s t g.0 frees peaks.rules.laws g.1 free) is

pub stay_tied : (p : Plan) (s : State) (b : Peaks) (w t u : ℕ) (c : Cause) (ns : List ℕ) → AreTied p s b → IsFirstOf (stack_of b) u → is_clean p t ≡ true → Allowed p s (Again w t c ns) → AreTied p (after p s (Again w t c ns)) b
stay_tied p s b w t u c ns tied first kind allowed =
    let only = first_only p s b t u tied.behind first (clean_choice p s w t tied.behind.sound kind allowed.1) in record {
      behind = subst (AreBehind p (after p s (Again w t c ns)) b) (sym only.1) (again_first p s b only.0 w t c ns (subst (AreBehind p s b) only.1 tied.behind) allowed);
      whole = tied.whole;
      indexed = tied.indexed;
    }

-- The first task of the stack, as a test.
pub first_test : (b : Peaks) (xs : List TaskId) (o : Option ℕ) → xs ≡ b.again.items → MatchOption o (xs ≡ []) (λ t. slice_get (task_numbers xs) (length (task_numbers xs) - 1) ≡ Some t) → MatchOption o (b.again.items ≡ []) (λ t. IsFirstOf (stack_of b) t)
first_test b xs None same h = sym same ∙ h
first_test b xs (Some t) same h = last_first (task_numbers b.again.items) [] t (subst (λ (ys : List TaskId). slice_get (task_numbers ys) (length (task_numbers ys) - 1) ≡ Some t) same h)

-- a task that is the Choice has a mark
pub choice_marked : (p : Plan) (s : State) (b : Peaks) (t : ℕ) → AreTied p s b → IsChoice p s t → t < length b.left.items
choice_marked p s b t tied choice = let low = tied.behind.sound.safe.tasks t (choice_in p s t choice) in let long = tied.behind.marks_long in omega (arith, low, long)

-- An Arrive and an End.
pub arrive_settles : (p : Plan) (links : Links) (b : Peaks) (t n : ℕ) → CanEnter p b (λ w. Arrive w t n) → CanSettle p links b t (replicate (length (makes p t)) n)
arrive_settles p links b t n can = record {
  state = can.state;
  front = stack_of b;
  tied = can.tied.behind;
  runs = can.allowed.2.runs;
  declared = arrive_declared p (makes p t) n can.allowed.3;
}

pub arrive_tied : (p : Plan) (s : State) (links : Links) (old new : Peaks) (w t n : ℕ) → AreTied p s old → AreLinks p links → ((u : ℕ) → AreOnce (parents p u)) → Allowed p s (Arrive w t n) → IsSettled p links old new t (replicate (length (makes p t)) n) → HaveTrees p (after p s (Arrive w t n)) new
arrive_tied p s links old new w t n tied linked once allowed is = record {
  behind = subst (AreBehind p (after p s (Arrive w t n)) new) (sym (ap stack_of is.same)) (arrived p s links old new (stack_of old) w t n tied.behind linked once allowed is);
  whole = subst (IsWhole p) (sym is.same) tied.whole;
}

pub end_settles : (p : Plan) (links : Links) (b : Peaks) (t : ℕ) (ns : List ℕ) → CanEnter p b (λ w. End w t ns) → CanSettle p links b t ns
end_settles p links b t ns can = record {
  state = can.state;
  front = stack_of b;
  tied = can.tied.behind;
  runs = can.allowed.2.runs;
  declared = can.allowed.3;
}

pub end_tied : (p : Plan) (s : State) (links : Links) (old new : Peaks) (w t : ℕ) (ns : List ℕ) → AreTied p s old → AreLinks p links → ((u : ℕ) → AreOnce (parents p u)) → Allowed p s (End w t ns) → IsSettled p links old new t ns → HaveTrees p (after p s (End w t ns)) new
end_tied p s links old new w t ns tied linked once allowed is = record {
  behind = subst (AreBehind p (after p s (End w t ns)) new) (sym (ap stack_of is.same)) (ended_at p s links old new (stack_of old) w t ns tied.behind linked once allowed is);
  whole = subst (IsWhole p) (sym is.same) tied.whole;
}

-- A Fail.
pub fail_tied : (p : Plan) (s : State) (b : Peaks) (w t : ℕ) (c : Cause) (ns : List ℕ) → AreTied p s b → Allowed p s (Fail w t c ns) → AreTied p (after p s (Fail w t c ns)) b
fail_tied p s b w t c ns tied allowed = record { behind = failed_by p s b (stack_of b) w t c ns tied.behind allowed; whole = tied.whole; indexed = tied.indexed }
