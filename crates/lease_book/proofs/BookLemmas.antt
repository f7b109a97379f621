-- One entry more in a book.
use Rattle.std.proofs.Common.{◌≡◌, ℕ, zero, suc, ◌+◌, ◌-◌, ◌*◌, ◌≤◌, ◌<◌, ◌||◌, ◌&&◌, Bool, true, false, inl, inr, List, [], ◌∷◌, ◌++◌, length, ltb, refl, sym, ap, subst, ◌∙◌, arith, ltb-true, ltb-false}
use Rattle.std.specs.Prelude.{◌⊎◌, not, Some, slice_get}
use Rattle.std.specs.List.{list_any}
use Rattle.std.proofs.Math.Logic.{∥∥₁_map}
use Rattle.lease_book.proofs.ArrayLemmas.{same_state}
use Rattle.place_peaks.proofs.Offered.{both, by_bool, choice_exists, complete_of, consistent_more, fresh_among, good_small, room_falls, safe_state, sizes_fall, sound_opened, un_not}
use Rattle.lease_book.specs.Book.{is_tried_again, state_at}
use Rattle.lease_rules.specs.Choice.{IsChoice}
use Rattle.lease_book.specs.Kept.{IsBook}
use Rattle.lease_rules.specs.code.Law.{FitsFromStart, HasStorageLaws, IsConsistent, IsSafeState, IsSoundState}
use Rattle.lease_rules.specs.Legal.{Allowed, CauseFits, IsComplete, Legal, LegalFrom, MayFail}
use Rattle.lease_rules.specs.code.Room.{listed, entries_room, sizes_left, sizes_room}
use Rattle.lease_book.specs.RunState.{HasPeaks, HasRoom, IsSame, state_of}
use Rattle.lease_rules.specs.State.{State, after, now, now_from, opened}
use Rattle.lease_rules.specs.code.State.{runs}
use Rattle.lease_book.specs.declared.book.Book.{Book}
use Rattle.lease_book.specs.declared.state.RunState.{RunState}
use Rattle.plan_core.specs.Words.{count_tasks, retries, task_numbers}
use Rattle.plan_core.specs.declared.plan.Plan.{Plan}
use Rattle.run_record.specs.Events.{Again, Event, Fail, Regrant, may_retry}
use Rattle.run_record.specs.code.Events.{Log, is_empty, may_publish}
use Rattle.run_record.specs.declared.entry.Cause.{Cause}
use Rattle.run_record.specs.declared.entry.Cause.TheVariants.{Absent, Checksum, Declined, HostFailed, Memory, Oversize, TooLong, ToolFailed}
use Rattle.storage_simulation.specs.code.Goods.{IsWithinLimits}
use Rattle.storage_simulation.specs.Goods.{makes}
use Rattle.storage_simulation.specs.code.Standings.{IsStanding, at_in}
use Rattle.storage_simulation.specs.Standings.{sizes}
use Rattle.values.specs.Numbers.{total}
use Rattle.storage_simulation.specs.declared.standing.Phase.{Phase}
use Rattle.storage_simulation.specs.declared.standing.Phase.TheVariants.{Ended, Runs, Waits}

pub now_more : (p : Plan) (s : State) (r : List Event) (e : Event) → now_from p s (r ++ e ∷ []) ≡ after p (now_from p s r) e
now_more p s [] e = refl
now_more p s (f ∷ r) e = now_more p (after p s f) r e

pub legal_more : (p : Plan) (s : State) (r : List Event) (e : Event) → LegalFrom p s r → Allowed p (now_from p s r) e → LegalFrom p s (r ++ e ∷ [])
legal_more p s [] e legal allowed = (allowed, tt)
legal_more p s (f ∷ r) e legal allowed = (legal.0, legal_more p (after p s f) r e legal.1 allowed)

-- two states by their parts
same_of : (a b : State) → a ≡ b → IsSame a b
same_of a b e = record {
  phase = λ t. ap (λ (s : State). s.phase t) e;
  holder = λ t. ap (λ (s : State). s.holder t) e;
  agains = λ t. ap (λ (s : State). s.agains t) e;
  failed = λ t. ap (λ (s : State). s.failed t) e;
  held = λ g. ap (λ (s : State). s.held g) e;
  failing = ap (λ (s : State). s.failing) e;
  rest = ap (λ (s : State). s.rest) e;
}

-- of one book
pub seen : (b : Book) → state_of b.state ≡ state_at b
seen b = same_state (state_of b.state) (state_at b) b.kept.same

pub allowed_in : (b : Book) (e : Event) → Allowed b.plan (state_at b) e → Allowed b.plan (state_of b.state) e
allowed_in b e allowed = subst (λ (s : State). Allowed b.plan s e) (sym (seen b)) allowed

pub has_room : (b : Book) (e : Event) → Allowed b.plan (state_of b.state) e → 0 < b.history.room
has_room b e allowed = let falls = room_falls b.plan (state_of b.state) e b.kept.consistent allowed in omega (arith, falls, b.kept.entries)

pub has_sizes : (b : Book) (e : Event) → Allowed b.plan (state_of b.state) e → length (listed e) ≤ b.history.sizes_room
has_sizes b e allowed = let falls = sizes_fall b.plan (state_of b.state) e b.kept.consistent allowed in omega (arith, falls, b.kept.sizes)

-- what its arrays show
pub book_standing : (b : Book) → IsStanding b.plan b.state.standing
book_standing b = record {
  pairs = b.kept.room.standing.pairs;
  tasks = b.kept.room.standing.tasks;
  deliveries = b.kept.room.standing.deliveries;
  small = λ g. let few = b.kept.consistent.sound.small g in let size = good_small b.plan g b.kept.limits in omega (arith, few, size);
}

pub book_safe : (b : Book) → IsSafeState b.plan (state_at b)
book_safe b = subst (IsSafeState b.plan) (seen b) (safe_state b.plan (state_of b.state) b.kept.laws b.kept.consistent.sound)

-- an entry more
pub kept_more : (b : Book) (e : Event) (new : Log) (s : RunState) → Allowed b.plan (state_of b.state) e
    → new.events ≡ b.history.events ++ e ∷ [] → b.history.room ≤ new.room + 1 → b.history.sizes_room ≤ new.sizes_room + length (listed e)
    → state_of s ≡ after b.plan (state_of b.state) e → HasRoom b.plan s → HasPeaks b.plan s → IsBook b.plan (task_numbers b.order.items) new s
kept_more b e new s allowed items room_left sizes_left is long peaks = record {
  limits = b.kept.limits;
  laws = b.kept.laws;
  few = b.kept.few;
  fits = b.kept.fits;
  room = long;
  peaks = peaks;
  consistent = subst (IsConsistent b.plan) (sym is) (consistent_more b.plan (state_of b.state) e b.kept.laws b.kept.consistent allowed);
  legal = subst (λ (r : List Event). ∥ Legal b.plan order r ∥₁) (sym items) (∥∥₁_map b.kept.legal (λ l. legal_more b.plan (opened order) b.history.events e l (subst (λ (x : State). Allowed b.plan x e) (seen b) allowed)));
  same = same_of (state_of s) (now b.plan order new.events) (is ∙ ap (λ (x : State). after b.plan x e) (seen b) ∙ sym (now_more b.plan (opened order) b.history.events e) ∙ ap (now b.plan order) (sym items));
  entries = let falls = room_falls b.plan (state_of b.state) e b.kept.consistent allowed in let same = ap (entries_room b.plan) is in omega (arith, falls, same, b.kept.entries, room_left);
  sizes = let falls = sizes_fall b.plan (state_of b.state) e b.kept.consistent allowed in let same = ap (sizes_room b.plan) is in omega (arith, falls, same, b.kept.sizes, sizes_left);
}
  where
    order : List ℕ
    order = task_numbers b.order.items

-- the task of an entry
pub regrant_task : (p : Plan) (s : State) (w t : ℕ) → IsSoundState p s → Allowed p s (Regrant w t) → t < count_tasks p
regrant_task p s w t sound allowed = sound.safe.tasks t (fresh_among p s 4 s.rest t allowed.1.among).2

-- a failure
none_published : (ns : List ℕ) → ns ≡ [] → is_empty ns ≡ true
none_published ns e = ap is_empty e

pub fail_proper : (p : Plan) (t : ℕ) (c : Cause) (ns : List ℕ) → CauseFits p t c ns → (may_publish c || is_empty ns) ≡ true
fail_proper p t Absent ns h = none_published ns h.1
fail_proper p t (TooLong n) ns h = none_published ns h.2
fail_proper p t (Checksum d) ns h = none_published ns h.2
fail_proper p t (Oversize j f n) ns h = none_published ns h.3
fail_proper p t (Declined j) ns h = none_published ns h.1
fail_proper p t (ToolFailed j) ns h = none_published ns h.1
fail_proper p t HostFailed ns h = refl
fail_proper p t Memory ns h = refl

pub again_proper : (p : Plan) (t : ℕ) (c : Cause) (ns : List ℕ) → CauseFits p t c ns → may_retry c ≡ true → (may_retry c && (may_publish c || is_empty ns)) ≡ true
again_proper p t c ns h e = ap (λ (b : Bool). b && (may_publish c || is_empty ns)) e ∙ fail_proper p t c ns h

pub allowed_again : (p : Plan) (s : State) (w t : ℕ) (c : Cause) (ns : List ℕ) → w < 16 → MayFail p s w t → CauseFits p t c ns → true ≡ is_tried_again p s t c → Allowed p s (Again w t c ns)
allowed_again p s w t c ns l caught fits e =
    let parts = both (may_retry c) (not s.failing && ltb (s.agains t) (retries p)) (sym e) in
    let more = both (not s.failing) (ltb (s.agains t) (retries p)) parts.1 in
    (l, caught, fits, parts.0, un_not s.failing more.0, ltb-true (s.agains t) (retries p) more.1)

pub allowed_fail : (p : Plan) (s : State) (w t : ℕ) (c : Cause) (ns : List ℕ) → IsConsistent p s → w < 16 → MayFail p s w t → CauseFits p t c ns → false ≡ is_tried_again p s t c → Allowed p s (Fail w t c ns)
allowed_fail p s w t c ns good l caught fits e = (l, caught, fits, λ k. why (may_retry c) s.failing (ltb (s.agains t) (retries p)) refl refl k (sym e))
  where
    why : (a b d : Bool) → s.failing ≡ b → ltb (s.agains t) (retries p) ≡ d → a ≡ true → (a && (not b && d)) ≡ false → (s.agains t ≡ (retries p)) ⊎ (s.failing ≡ true)
    why false b d f g k h = absurd cc
    why true true d f g k h = inr f
    why true false true f g k h = absurd cc
    why true false false f g k h = inl (let m : (retries p) ≤ s.agains t = ltb-false (s.agains t) (retries p) g in omega (arith, m, good.few_agains t))

-- where there is no Choice and no Fail, and nothing runs, all tasks have ended
pub all_done : (p : Plan) (s : State) → HasStorageLaws p → IsSoundState p s → s.failing ≡ false → ((t : ℕ) → IsChoice p s t → ⊥) → ((u : ℕ) → s.phase u ≡ Runs → ⊥) → IsComplete p s
all_done p s proper sound unfailed none idle = complete_of p s sound unfailed idle (by_rest s.rest refl)
  where
    by_rest : (xs : List ℕ) → s.rest ≡ xs → s.rest ≡ []
    by_rest [] e = e
    by_rest (x ∷ xs) e = absurd (none x (choice_exists p s x xs proper sound unfailed idle e))

-- and while a task is left, one runs
pub left_runs : (p : Plan) (s : State) (xs : List Phase) (t : ℕ) → HasStorageLaws p → IsSoundState p s → s.failing ≡ false → ((u : ℕ) → IsChoice p s u → ⊥) → Some t ≡ slice_get s.rest 0
    → (list_any runs xs ≡ false → (u : ℕ) → s.phase u ≡ Runs → ⊥) → true ≡ list_any runs xs
left_runs p s xs t laws sound unfailed none first idle = by_bool (list_any runs xs) (λ on. sym on) (λ off. absurd (by_rest (idle off) s.rest refl (sym first)))
  where
    by_rest : ((u : ℕ) → s.phase u ≡ Runs → ⊥) → (ys : List ℕ) → s.rest ≡ ys → slice_get ys 0 ≡ Some t → ⊥
    by_rest quiet [] e k = cc
    by_rest quiet (x ∷ ys) e k = none x (choice_exists p s x ys laws sound unfailed quiet e)

pub one_runs : (xs : List Phase) → list_any runs xs ≡ true → (u : ℕ) × (at_in Waits xs u ≡ Runs)
one_runs [] h = absurd cc
one_runs (x ∷ xs) h = by_first x refl h (one_runs xs)
  where
    by_first : (y : Phase) → x ≡ y → (runs y || list_any runs xs) ≡ true → (list_any runs xs ≡ true → (u : ℕ) × (at_in Waits xs u ≡ Runs)) → (u : ℕ) × (at_in Waits (x ∷ xs) u ≡ Runs)
    by_first Runs e k less = (0, e)
    by_first Waits e k less = let m = less k in (suc m.0, m.1)
    by_first Ended e k less = let m = less k in (suc m.0, m.1)

-- a book without entries
total_const : (n c : ℕ) → total n (λ t. c) ≡ n * c
unfolding total
total_const zero c = omega arith
total_const (suc n) c = grind (arith, total_const n c)

legal_none : (p : Plan) (order : List ℕ) (r : List Event) → r ≡ [] → ∥ Legal p order r ∥₁
legal_none p order r e = subst (λ (l : List Event). ∥ Legal p order l ∥₁) (sym e) ∣ tt ∣₁

total_times : (n c : ℕ) (w : ℕ → ℕ) → total n (λ t. c * w t) ≡ c * total n w
unfolding total
total_times zero c w = omega arith
total_times (suc n) c w = grind (arith, total_times n c w)

pub kept_open : (p : Plan) (order : List ℕ) (history : Log) (s : RunState) → HasStorageLaws p → IsWithinLimits p → retries p ≤ 10 → FitsFromStart p order → history.events ≡ []
    → count_tasks p * (2 * (retries p + 1)) ≤ history.room → (retries p + 1) * total (count_tasks p) (λ t. length (makes p t)) ≤ history.sizes_room → IsSame (state_of s) (opened order) → HasRoom p s → HasPeaks p s → IsBook p order history s
kept_open p order history s laws limits few fit none entries sizes same long peaks = record {
  limits = limits;
  laws = laws;
  few = few;
  fits = fit;
  room = long;
  peaks = peaks;
  consistent = subst (IsConsistent p) (sym at) (record { sound = sound_opened p order fit; failed_fails = λ t h. absurd cc; few_agains = λ t. omega arith });
  legal = legal_none p order history.events none;
  same = subst (λ (r : List Event). IsSame (state_of s) (now p order r)) (sym none) same;
  entries =
      let all : entries_room p (state_of s) ≡ count_tasks p * (2 * (retries p - 0) + 2) = ap (entries_room p) at ∙ total_const (count_tasks p) (2 * (retries p - 0) + 2) in
      let is = ap (λ (n : ℕ). count_tasks p * n) twice in
      omega (arith, all, is, entries);
  sizes =
      let all : sizes_room p (state_of s) ≡ ((retries p - 0) + 1) * total (count_tasks p) (λ t. length (makes p t)) = ap (sizes_room p) at ∙ total_times (count_tasks p) ((retries p - 0) + 1) (λ t. length (makes p t)) in
      let is = ap (λ (n : ℕ). (n + 1) * total (count_tasks p) (λ t. length (makes p t))) zero_less in
      omega (arith, all, is, sizes);
}
  where
    zero_less : retries p - 0 ≡ retries p
    zero_less = omega arith

    twice : 2 * (retries p - 0) + 2 ≡ 2 * (retries p + 1)
    twice = omega arith

    at : state_of s ≡ opened order
    at = same_state (state_of s) (opened order) same
