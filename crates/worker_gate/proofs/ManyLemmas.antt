-- What all workers leave of a yard, from what each of their passes knows.
use Rattle.std.proofs.Common.{◌≡◌, ◌⊎◌, ℕ, zero, suc, ◌+◌, ◌≤◌, ◌<◌, Bool, true, false, cond, eqb, eqb-true, eq-eqb, inl, inr, List, [], ◌∷◌, ◌++◌, length, map, get_or, refl, sym, ap, subst, ◌∙◌, arith}
use Rattle.std.specs.Prelude.{IfSome, Option, Some, Result}
use Rattle.std.specs.Coded.{le_prop}
use Rattle.std.proofs.Math.Logic.{∥∥₁_elim}
use Rattle.std.proofs.lemmas.List.{append-nil, get_or-map, length-map}
use mathlib.Core.Bool.{Bool-set}
use mathlib.Core.List.{IsPrefix}
use Rattle.values.specs.Apply.{Apply}
use Rattle.values.specs.declared.memory.Memory.{Memory}
use Rattle.outside.specs.declared.store.Store.{Store}
use Rattle.storage_simulation.specs.declared.ordered.Ordered.{Ordered}
use Rattle.plan_core.specs.declared.plan.Plan.{Plan}
use Rattle.plan_core.specs.code.Proper.{IsProper}
use Rattle.plan_core.specs.Words.{task_numbers}
use Rattle.run_record.specs.Events.{Event, Grant, Arrive, End, Clean, Fail, Again, Regrant}
use Rattle.lease_book.specs.declared.book.Book.{Book}
use Rattle.lease_rules.specs.code.Law.{FitsFromStart}
use Rattle.lease_rules.specs.Legal.{IsComplete, Legal}
use Rattle.lease_rules.specs.code.Owning.{entries_by, is_open, is_open_after}
use Rattle.lease_rules.specs.Owning.{worker}
use Rattle.lease_rules.specs.State.{now}
use Rattle.ruled_lock.specs.Chronicle.{items_of, list_of}
use Rattle.ruled_lock.specs.Pass.{charter_of, count_of, lists_of, mine_of, seen_of, worker_of}
use Rattle.ruled_lock.specs.declared.lock.RuledLock.{RuledLock}
use Rattle.ruled_lock.specs.declared.pass.Pass.{Pass}
use Rattle.ruled_lock.proofs.ListLemmas.{prefix_trans}
use Rattle.site_yard.specs.code.Failures.{RoseBy, tool_fault_in, tool_faults, tool_faults_of}
use Rattle.site_yard.specs.Faults.{AllBelow}
use Rattle.site_yard.specs.declared.chronicle.Charter.{Charter}
use Rattle.worker_gate.specs.code.Alone.{IsOver}
use Rattle.worker_gate.specs.code.Asking.{AreAskedBy, AreGatesAsked, AsksOwn, IsAskedFor}
use Rattle.worker_gate.specs.code.Hands.{AreDealt, AreReady, IsDealt, IsGathered, count_at, member_of, own_list}
use Rattle.worker_gate.specs.code.Inputs.{AddsOfInputs, AreOfInputs}
use Rattle.worker_gate.specs.code.Many.{AreToolsCounted, CanAllWork, HasWorked, HaveAllAsked, HaveAllWorked, WorksMany}
use Rattle.worker_gate.specs.code.Runs.{AreToolsRun, HaveAllRun, OwnRunsWithin, RunsWithin, tool_runs}
use Rattle.worker_gate.specs.code.Telling.{AreGatesTold, HaveAllTold, IsToldOf}
use Rattle.worker_gate.specs.Telling.{placed_by}
use Rattle.worker_gate.specs.code.Turning.{IsPlanOf, NoneOpenBy, plan_of, state_of}
use Rattle.worker_gate.specs.code.Working.{Works}
use Rattle.worker_gate.specs.declared.hands.Hand.{Hand}
use Rattle.worker_gate.proofs.AskingLemmas.{no_more}
use Rattle.worker_gate.proofs.RunLemmas.{no_faults}
use Rattle.worker_gate.proofs.RunsLemmas.{no_runs, runs_own}
use Rattle.worker_gate.proofs.StateLemmas.{same_number}
use Rattle.worker_gate.proofs.TellingLemmas.{told_whole}
use Rattle.worker_gate.proofs.TurningLemmas.{OpenLaw, OwnLaw}

-- numbers and lists
below_or : (w n : ℕ) → (w < n) ⊎ (n ≤ w)
below_or w zero = inr (omega arith)
below_or zero (suc n) = inl (omega arith)
below_or (suc w) (suc n) = elim (below_or w n) [
  | inl l ↦ inl (omega (arith, l))
  | inr l ↦ inr (omega (arith, l))
]

not_one : (b : Bool) → (b ≡ true → ⊥) → b ≡ false
not_one true h = absurd (h refl)
not_one false h = refl

true_no : (b : Bool) → b ≡ true → b ≡ false → ⊥
true_no true h k = absurd cc
true_no false h k = absurd cc

none_left : {X : Type 0} (xs : List X) → length xs ≤ 0 → xs ≡ []
none_left [] l = refl
none_left (x ∷ xs) l = absurd (omega (arith, l))

pub some_element : {X : Type 0} (xs : List X) → 0 < length xs → X
some_element [] l = absurd (omega (arith, l))
some_element (x ∷ xs) l = x

same_some : {X : Type 0} (x y : X) → Some x ≡ Some y → x ≡ y
same_some x y e = cc e

-- a worker's tool failed as often as its own entries say
faults_where : (k : ℕ) (e : Event) → eqb (worker e) k ≡ false → tool_faults_of k e ≡ 0
faults_where k (Grant v u) off = refl
faults_where k (Regrant v u) off = refl
faults_where k (Arrive v u n) off = refl
faults_where k (End v u ns) off = refl
faults_where k (Clean v u) off = refl
faults_where k (Fail v u c ns) off = ap (λ (b : Bool). cond b (tool_fault_in c) 0) (not_one (eqb k v) (λ h. true_no (eqb v k) (eq-eqb v k (sym (eqb-true k v h))) off))
faults_where k (Again v u c ns) off = ap (λ (b : Bool). cond b (tool_fault_in c) 0) (not_one (eqb k v) (λ h. true_no (eqb v k) (eq-eqb v k (sym (eqb-true k v h))) off))

faults_own : (k : ℕ) (r : List Event) → tool_faults k r ≡ tool_faults k (entries_by k r)
unfolding tool_faults
faults_own k [] = refl
faults_own k (e ∷ r) = by_worker (eqb (worker e) k) refl (faults_own k r)
  where
    by_worker : (b : Bool) → eqb (worker e) k ≡ b → tool_faults k r ≡ tool_faults k (entries_by k r) → tool_faults_of k e + tool_faults k r ≡ tool_faults k (cond b (e ∷ entries_by k r) (entries_by k r))
    by_worker true is rest = omega (arith, rest)
    by_worker false is rest = let none = faults_where k e is in omega (arith, rest, none)

-- the workers of a record
none_after : (b : Bool) (e : Event) (r : List Event) → cond b (e ∷ r) r ≡ [] → (b ≡ false) × (r ≡ [])
none_after true e r h = absurd (cc h)
none_after false e r h = (refl, h)

all_below : (n : ℕ) (r : List Event) → ((k : ℕ) → n ≤ k → items_of worker k r ≡ []) → AllBelow n r
all_below n [] none = tt
all_below n (e ∷ r) none = (
  elim (below_or (worker e) n) [
    | inl l ↦ l
    | inr l ↦ absurd (true_no (eqb (worker e) (worker e)) (same_number (worker e)) (none_after (eqb (worker e) (worker e)) e (items_of worker (worker e) r) (none (worker e) l)).0)
  ],
  all_below n r (λ k l. (none_after (eqb (worker e) k) e (items_of worker k r) (none k l)).1),
)

-- the laws of what follows a record that is over
abbrev pub EndLaw : Type 0
EndLaw = (p : Plan) (order : List ℕ) (r more : List Event) → IsProper p → FitsFromStart p order → Legal p order (r ++ more) → IsComplete p (now p order r) → more ≡ []

abbrev pub FailLaw : Type 0
FailLaw = (p : Plan) (order : List ℕ) (r more : List Event) → (now p order r).failing ≡ true → (now p order (r ++ more)).failing ≡ true

over_later : EndLaw → FailLaw → (p : Plan) (order : List ℕ) (r seen : List Event) → IsProper p → FitsFromStart p order → ∥ Legal p order r ∥₁ → IsPrefix seen r → IsOver p (now p order seen) → IsOver p (now p order r)
over_later ends fails p order r seen proper fits legal front (inl complete) =
    let none : front.0 ≡ [] = none_left front.0 (∥∥₁_elim legal (hlevel le_prop) (λ l. at_end (ends p order seen front.0 proper fits (subst (Legal p order) (sym front.1) l) complete))) in
    inl (subst (λ (l : List Event). IsComplete p (now p order l)) (same front.0 none ∙ front.1) complete)
  where
    at_end : front.0 ≡ [] → length front.0 ≤ 0
    at_end e = let n = ap length e in omega (arith, n)

    same : (more : List Event) → more ≡ [] → seen ≡ seen ++ more
    same more e = sym (ap (λ (l : List Event). seen ++ l) e ∙ nothing seen)
      where
        nothing : (xs : List Event) → xs ++ [] ≡ xs
        nothing [] = refl
        nothing (x ∷ xs) = ap (λ (l : List Event). x ∷ l) (nothing xs)
over_later ends fails p order r seen proper fits legal front (inr failing) =
    inr (subst (λ (l : List Event). (now p order l).failing ≡ true) front.1 (fails p order seen front.0 failing))

-- the record, where each worker's own entries say that none is open
many_over : OwnLaw → OpenLaw → EndLaw → FailLaw → (p : Plan) (order : List ℕ) (n : ℕ) (r seen : List Event) → IsProper p → FitsFromStart p order → ∥ Legal p order r ∥₁ → ((k : ℕ) → k < n → NoneOpenBy (entries_by k r)) → ((k : ℕ) → n ≤ k → items_of worker k r ≡ []) → IsPrefix seen r → IsOver p (now p order seen) → WorksMany p order n false r
many_over own tells ends fails p order n r seen proper fits legal none others front over = record {
  below = all_below n r others;
  none_open = λ w t o. true_no (is_open (now p order r) w t) ((tells (now p order r) w t).1 o) (closed w t (none_by w (below_or w n)));
  over = λ started. over_later ends fails p order r seen proper fits legal front over;
}
  where
    none_by : (w : ℕ) → (w < n) ⊎ (n ≤ w) → NoneOpenBy (entries_by w r)
    none_by w (inl l) = none w l
    none_by w (inr l) = λ t. ap (is_open_after t false) (others w l)

    closed : (w t : ℕ) → NoneOpenBy (entries_by w r) → is_open (now p order r) w t ≡ false
    closed w t nothing = ∥∥₁_elim legal (Bool-set _ _) (λ l. own p order r w t proper fits l) ∙ nothing t

many_at : OwnLaw → OpenLaw → EndLaw → FailLaw → (b : Book) (g : Charter) (n : ℕ) (seen : List Event) → b.plan ≡ g.ordered.plan → b.order.items ≡ g.ordered.tasks.items → ((k : ℕ) → k < n → NoneOpenBy (entries_by k b.history.events)) → ((k : ℕ) → n ≤ k → items_of worker k b.history.events ≡ []) → IsPrefix seen b.history.events → IsOver (plan_of g) (state_of g seen) → WorksMany g.ordered.plan (task_numbers g.ordered.tasks.items) n false b.history.events
many_at own tells ends fails b g n seen plan order none others front over =
    many_over own tells ends fails g.ordered.plan (task_numbers g.ordered.tasks.items) n b.history.events seen
    (subst IsProper plan b.proper)
    (subst (λ q. FitsFromStart q (task_numbers g.ordered.tasks.items)) plan (subst (λ xs. FitsFromStart b.plan (task_numbers xs)) order b.kept.fits))
    (subst (λ q. ∥ Legal q (task_numbers g.ordered.tasks.items) b.history.events ∥₁) plan (subst (λ xs. ∥ Legal b.plan (task_numbers xs) b.history.events ∥₁) order b.kept.legal))
    none others front over

-- each hand
module _ {C : Type 0} {h : _} where
  worked_at : (apply : Apply) (lock : RuledLock C Charter Event) (g : Charter) (k count : ℕ) (p q : Pass C Charter Event h) (before later : ℕ) → IsDealt lock (Some g) [] k count p → HasWorked apply lock p q before later → Works g k [] (mine_of q) (seen_of q) before later
  worked_at apply lock g k count p q before later dealt worked =
      subst (λ (m : List Event). Works g k m (mine_of q) (seen_of q) before later) dealt.new.mine
      (subst (λ (w : ℕ). Works g w (mine_of p) (mine_of q) (seen_of q) before later) dealt.new.number
      (subst (λ (c : Option Charter). IfSome c (λ x. Works x (worker_of p) (mine_of p) (mine_of q) (seen_of q) before later)) dealt.new.charter_is worked.works))

module _ {C M : Type 0} {h : _} where
  pub dealt_as : (lock : RuledLock C Charter Event) (g : Charter) (n : ℕ) (first : Pass C Charter Event h) (hs : List (Hand C M Charter Event h)) → charter_of first ≡ Some g → seen_of first ≡ [] → AreDealt lock (charter_of first) (seen_of first) n hs → AreDealt lock (Some g) [] n hs
  dealt_as lock g n first hs charter seen dealt = subst (λ (c : Option Charter). AreDealt lock c [] n hs) charter (subst (λ (s : List Event). AreDealt lock (charter_of first) s n hs) seen dealt)

  pub can_all : (lock : RuledLock C Charter Event) (plan : Result Plan Memory) (g : Charter) (n : ℕ) (hs : List (Hand C M Charter Event h)) → length hs ≤ 16 → IsPlanOf (Some g) plan → AreDealt lock (Some g) [] n hs → CanAllWork lock plan hs
  can_all lock plan g n hs few is dealt k d l =
      let x = dealt k d l in record {
        of = x.of;
        idle = x.new.idle;
        worker = let e = x.new.number in omega (arith, e, l, few);
        none_open = subst NoneOpenBy (sym x.new.mine) (λ t. refl);
        plan_is = subst (λ (c : Option Charter). IsPlanOf c plan) (sym x.new.charter_is) is;
      }

  pub all_ready : (apply : Apply) (lock : RuledLock C Charter Event) (g : Charter) (n : ℕ) (faults : M → ℕ) (hs news : List (Hand C M Charter Event h)) → n ≡ length hs → length news ≡ length hs → AreDealt lock (Some g) [] n hs → HaveAllWorked apply lock faults hs news → AreReady lock news
  all_ready apply lock g n faults hs news members same dealt worked k d l =
      let there : k < length hs = omega (arith, l, same) in
      let x = dealt k d there in
      let w = worked k d there in record {
        of = w.of;
        idle = w.idle;
        count_is = w.same.count ∙ x.new.count_is ∙ ap (λ (m : ℕ). count_at m k) (members ∙ sym same);
        joined = w.same.joined ∙ x.new.joined;
      }

  list_at : (hs : List (Hand C M Charter Event h)) (base : ℕ) → ((j : ℕ) (d : Hand C M Charter Event h) → j < length hs → worker_of (get_or hs j d).pass ≡ base + j) → (k : ℕ) (d : Hand C M Charter Event h) → k < length hs → list_of (base + k) (map own_list hs) ≡ mine_of (get_or hs k d).pass
  list_at [] base numbers k d l = absurd (omega (arith, l))
  list_at (x ∷ hs) base numbers zero d l =
      ap (λ (b : Bool). cond b (mine_of x.pass) (list_of (base + 0) (map own_list hs))) (eq-eqb (worker_of x.pass) (base + 0) (numbers 0 d l))
  list_at (x ∷ hs) base numbers (suc j) d l =
      let first : worker_of x.pass ≡ base + 0 = numbers 0 d (omega (arith, l)) in
      let off : eqb (worker_of x.pass) (base + suc j) ≡ false = not_one (eqb (worker_of x.pass) (base + suc j)) (λ e. let same = eqb-true (worker_of x.pass) (base + suc j) e in absurd (omega (arith, same, first))) in
      let next : base + suc j ≡ base + 1 + j = omega arith in
      ap (λ (b : Bool). cond b (mine_of x.pass) (list_of (base + suc j) (map own_list hs))) off
      ∙ ap (λ (n : ℕ). list_of n (map own_list hs)) next
      ∙ list_at hs (base + 1) (λ i e m. let it : worker_of (get_or hs i e).pass ≡ base + suc i = numbers (suc i) e (omega (arith, m)) in omega (arith, it)) j d (omega (arith, l))

  -- the entries of worker k are its pass's own
  own_at_end : (apply : Apply) (lock : RuledLock C Charter Event) (g : Charter) (n : ℕ) (faults : M → ℕ) (hs news : List (Hand C M Charter Event h)) (p : Pass C Charter Event h) (r : List Event) → length news ≡ length hs → AreDealt lock (Some g) [] n hs → HaveAllWorked apply lock faults hs news → IsGathered news p → ((k : ℕ) → items_of worker k r ≡ list_of k (lists_of p)) → (k : ℕ) (d : Hand C M Charter Event h) → k < length hs → entries_by k r ≡ mine_of (get_or news k d).pass
  own_at_end apply lock g n faults hs news p r same dealt worked gathered items k d l =
      items k
      ∙ ap (list_of k) gathered.lists
      ∙ ap (λ (m : ℕ). list_of m (map own_list news)) (let e : k ≡ 0 + k = omega arith in e)
      ∙ list_at news 0 numbers k d (omega (arith, l, same))
    where
      numbers : (j : ℕ) (e : Hand C M Charter Event h) → j < length news → worker_of (get_or news j e).pass ≡ 0 + j
      numbers j e m = let there : j < length hs = omega (arith, m, same) in (worked j e there).same.worker ∙ (dealt j e there).new.number ∙ (let z : j ≡ 0 + j = omega arith in z)

  pub charter_back : (apply : Apply) (lock : RuledLock C Charter Event) (g c : Charter) (n : ℕ) (faults : M → ℕ) (hs news : List (Hand C M Charter Event h)) (p : Pass C Charter Event h) → 0 < length hs → AreDealt lock (Some g) [] n hs → HaveAllWorked apply lock faults hs news → IsGathered news p → charter_of p ≡ Some c → c ≡ g
  charter_back apply lock g c n faults hs news p some dealt worked gathered is =
      let d = some_element hs some in same_some c g (sym is ∙ gathered.charter d ∙ (worked 0 d some).same.charter ∙ (dealt 0 d some).new.charter_is)

  pub many_done : OwnLaw → OpenLaw → EndLaw → FailLaw → (apply : Apply) (lock : RuledLock C Charter Event) (g : Charter) (b : Book) (n : ℕ) (faults : M → ℕ) (hs news : List (Hand C M Charter Event h)) (p : Pass C Charter Event h) → b.plan ≡ g.ordered.plan → b.order.items ≡ g.ordered.tasks.items → n ≡ length hs → 0 < length hs → length news ≡ length hs → AreDealt lock (Some g) [] n hs → HaveAllWorked apply lock faults hs news → IsGathered news p
      → IsPrefix (seen_of p) b.history.events → ((k : ℕ) → items_of worker k b.history.events ≡ list_of k (lists_of p)) → ((k : ℕ) → count_of p ≤ k → items_of worker k b.history.events ≡ []) → WorksMany g.ordered.plan (task_numbers g.ordered.tasks.items) n false b.history.events
  many_done own tells ends fails apply lock g b n faults hs news p plan order members some same dealt worked gathered front items others =
      let d = some_element hs some in
      many_at own tells ends fails b g n (seen_of (get_or news 0 d).pass) plan order
      (λ k l t. let there : k < length hs = omega (arith, l, members) in ap (is_open_after t false) (own_at_end apply lock g n faults hs news p b.history.events same dealt worked gathered items k d there) ∙ (at k d there).none_open_by t)
      (λ k l. others k (let a = ap length gathered.lists in let e = length-map news own_list in let w = gathered.whole in omega (arith, a, e, w, same, members, l)))
      (prefix_trans (seen_of (get_or news 0 d).pass) (seen_of p) b.history.events (gathered.seen 0 d (omega (arith, some, same))) front)
      (at 0 d some).over
    where
      at : (k : ℕ) (d : Hand C M Charter Event h) → k < length hs → Works g k [] (mine_of (get_or news k d).pass) (seen_of (get_or news k d).pass) (faults (get_or hs k d).member) (faults (get_or news k d).member)
      at k d l = worked_at apply lock g k (count_at n k) (get_or hs k d).pass (get_or news k d).pass (faults (get_or hs k d).member) (faults (get_or news k d).member) (dealt k d l) (worked k d l)

  -- the tools' counts
  pub many_counted : (apply : Apply) (lock : RuledLock C Charter Event) (g : Charter) (n : ℕ) (faults : M → ℕ) (hs news : List (Hand C M Charter Event h)) (p : Pass C Charter Event h) (r : List Event) (before after : List M) → map member_of hs ≡ before → after ≡ map member_of news → length news ≡ length hs → AreDealt lock (Some g) [] n hs → HaveAllWorked apply lock faults hs news → IsGathered news p → ((k : ℕ) → items_of worker k r ≡ list_of k (lists_of p)) → AreToolsCounted r (map faults before) (map faults after)
  many_counted apply lock g n faults hs news p r before after was is same dealt worked gathered items = record { each = counted }
    where
      here : (ms : List M) (xs : List (Hand C M Charter Event h)) → ms ≡ map member_of xs → (k : ℕ) (d : Hand C M Charter Event h) → k < length xs → get_or (map faults ms) k 0 ≡ faults (get_or xs k d).member
      here ms xs e k d l =
          ap (λ (m : List M). get_or (map faults m) k 0) e
          ∙ get_or-map faults (map member_of xs) k d.member 0 (let m = length-map xs member_of in omega (arith, l, m))
          ∙ ap faults (get_or-map member_of xs k d d.member l)

      rose : (k a b x y : ℕ) → a ≡ x → b ≡ y → x ≤ y → RoseBy (tool_faults k r) x y → (a ≤ b) × RoseBy (tool_faults k r) a b
      rose k a b x y e f le up = (omega (arith, e, f, le), subst (λ (z : ℕ). RoseBy (tool_faults k r) z b) (sym e) (subst (RoseBy (tool_faults k r) x) (sym f) up))

      counted : (k : ℕ) → k < length (map faults before) → (get_or (map faults before) k 0 ≤ get_or (map faults after) k 0) × RoseBy (tool_faults k r) (get_or (map faults before) k 0) (get_or (map faults after) k 0)
      counted k l =
          let there : k < length hs = (let a = length-map before faults in let e = ap length was in let f = length-map hs member_of in omega (arith, l, a, e, f)) in
          let d = some_element hs (omega (arith, there)) in
          let w = worked k d there in
          let done = worked_at apply lock g k (count_at n k) (get_or hs k d).pass (get_or news k d).pass (faults (get_or hs k d).member) (faults (get_or news k d).member) (dealt k d there) w in
          let own : tool_faults k r ≡ tool_faults k done.added = faults_own k r ∙ ap (tool_faults k) (own_at_end apply lock g n faults hs news p r same dealt worked gathered items k d there ∙ done.is) in
          rose k (get_or (map faults before) k 0) (get_or (map faults after) k 0) (faults (get_or hs k d).member) (faults (get_or news k d).member) (here before hs (sym was) k d there) (here after news is k d (omega (arith, there, same))) w.tool (subst (λ (m : ℕ). RoseBy m (faults (get_or hs k d).member) (faults (get_or news k d).member)) (sym own) done.counted)

-- entries are so of some bytes where each worker's are
all_inputs : (apply : Apply) (p : Plan) (n : ℕ) (r : List Event) → AllBelow n r → ((k : ℕ) → k < n → AreOfInputs apply p (entries_by k r)) → AreOfInputs apply p r
all_inputs apply p n [] below each = tt
all_inputs apply p n (e ∷ r) below each = (
  (its (eqb (worker e) (worker e)) (same_number (worker e)) (each (worker e) below.0)).0,
  all_inputs apply p n r below.1 (λ k l. rest (eqb (worker e) k) k (each k l)),
)
  where
    its : (b : Bool) → b ≡ true → AreOfInputs apply p (cond b (e ∷ entries_by (worker e) r) (entries_by (worker e) r)) → AreOfInputs apply p (e ∷ entries_by (worker e) r)
    its true is h = h
    its false is h = absurd (cc is)

    rest : (b : Bool) (k : ℕ) → AreOfInputs apply p (cond b (e ∷ entries_by k r) (entries_by k r)) → AreOfInputs apply p (entries_by k r)
    rest true k h = h.1
    rest false k h = h

module _ {C M : Type 0} {h : _} where
  pub many_inputs : (apply : Apply) (lock : RuledLock C Charter Event) (g : Charter) (n : ℕ) (faults : M → ℕ) (hs news : List (Hand C M Charter Event h)) (p : Pass C Charter Event h) (r : List Event) → n ≡ length hs → length news ≡ length hs → AreDealt lock (Some g) [] n hs → HaveAllWorked apply lock faults hs news → IsGathered news p → ((k : ℕ) → items_of worker k r ≡ list_of k (lists_of p)) → AllBelow n r → AreOfInputs apply g.ordered.plan r
  many_inputs apply lock g n faults hs news p r members same dealt worked gathered items below = all_inputs apply g.ordered.plan n r below own
    where
      own : (k : ℕ) → k < n → AreOfInputs apply g.ordered.plan (entries_by k r)
      own k l =
          let there : k < length hs = omega (arith, l, members) in
          let d = some_element hs (omega (arith, there)) in
          let x = dealt k d there in
          let so = subst (λ (c : Option Charter). IfSome c (λ y. AddsOfInputs apply (plan_of y) (mine_of (get_or hs k d).pass) (mine_of (get_or news k d).pass))) x.new.charter_is (worked k d there).inputs in
          let from = subst (λ (m : List Event). AddsOfInputs apply g.ordered.plan m (mine_of (get_or news k d).pass)) x.new.mine so in
          subst (AreOfInputs apply g.ordered.plan) (sym (own_at_end apply lock g n faults hs news p r same dealt worked gathered items k d there ∙ from.is)) from.are

-- the gates
asked_at : (r s : List Event) (a b x y : List ℕ) → s ≡ r → a ≡ x → b ≡ y → IsAskedFor r x y → IsAskedFor s a b
asked_at r s a b x y same was is h = record {
  asked = h.asked;
  is = is ∙ h.is ∙ ap (λ (l : List ℕ). l ++ h.asked) (sym was);
  are = subst (λ (l : List Event). AreAskedBy l h.asked) (sym same) h.are;
}

module _ {C M : Type 0} {h : _} where
  pub many_asked : (apply : Apply) (lock : RuledLock C Charter Event) (g : Charter) (n : ℕ) (faults : M → ℕ) (asked : M → List ℕ) (hs news : List (Hand C M Charter Event h)) (p : Pass C Charter Event h) (r : List Event) (before after : List M) → map member_of hs ≡ before → after ≡ map member_of news → length news ≡ length hs → AreDealt lock (Some g) [] n hs → HaveAllWorked apply lock faults hs news → HaveAllAsked asked hs news → IsGathered news p → ((k : ℕ) → items_of worker k r ≡ list_of k (lists_of p)) → AreGatesAsked r (map asked before) (map asked after)
  many_asked apply lock g n faults asked hs news p r before after was is same dealt worked asks gathered items = record { each = each }
    where
      here : (ms : List M) (xs : List (Hand C M Charter Event h)) → ms ≡ map member_of xs → (k : ℕ) (d : Hand C M Charter Event h) → k < length xs → get_or (map asked ms) k [] ≡ asked (get_or xs k d).member
      here ms xs e k d l =
          ap (λ (m : List M). get_or (map asked m) k []) e
          ∙ get_or-map asked (map member_of xs) k d.member [] (let m = length-map xs member_of in omega (arith, l, m))
          ∙ ap asked (get_or-map member_of xs k d d.member l)

      each : (k : ℕ) → k < length (map asked before) → IsAskedFor (entries_by k r) (get_or (map asked before) k []) (get_or (map asked after) k [])
      each k l =
          let there : k < length hs = (let a = length-map before asked in let e = ap length was in let f = length-map hs member_of in omega (arith, l, a, e, f)) in
          let d = some_element hs (omega (arith, there)) in
          let own = subst (λ (m : List Event). AsksOwn m (mine_of (get_or news k d).pass) (asked (get_or hs k d).member) (asked (get_or news k d).member)) (dealt k d there).new.mine (asks k d there) in
          asked_at own.added (entries_by k r) (get_or (map asked before) k []) (get_or (map asked after) k []) (asked (get_or hs k d).member) (asked (get_or news k d).member)
          (own_at_end apply lock g n faults hs news p r same dealt worked gathered items k d there ∙ own.is)
          (here before hs (sym was) k d there) (here after news is k d (omega (arith, there, same))) own.asked

-- what gates were told
module _ {C M : Type 0} {h : _} where
  pub many_told : (apply : Apply) (lock : RuledLock C Charter Event) (g : Charter) (n : ℕ) (faults : M → ℕ) (told : M → List (ℕ × Event)) (hs news : List (Hand C M Charter Event h)) (p : Pass C Charter Event h) (r : List Event) (before after : List M) → map member_of hs ≡ before → after ≡ map member_of news → length news ≡ length hs → AreDealt lock (Some g) [] n hs → HaveAllWorked apply lock faults hs news → HaveAllTold told hs news → ((k : ℕ) (d : Hand C M Charter Event h) → k < length news → entries_by (worker_of (get_or news k d).pass) (seen_of (get_or news k d).pass) ≡ mine_of (get_or news k d).pass) → IsGathered news p → IsPrefix (seen_of p) r → ((k : ℕ) → items_of worker k r ≡ list_of k (lists_of p)) → AreGatesTold r (map told before) (map told after)
  many_told apply lock g n faults told hs news p r before after was is same dealt worked tells own gathered front items = record { each = each }
    where
      here : (ms : List M) (xs : List (Hand C M Charter Event h)) → ms ≡ map member_of xs → (k : ℕ) (d : Hand C M Charter Event h) → k < length xs → get_or (map told ms) k [] ≡ told (get_or xs k d).member
      here ms xs e k d l =
          ap (λ (m : List M). get_or (map told m) k []) e
          ∙ get_or-map told (map member_of xs) k d.member [] (let m = length-map xs member_of in omega (arith, l, m))
          ∙ ap told (get_or-map member_of xs k d d.member l)

      each : (k : ℕ) → k < length (map told before) → get_or (map told after) k [] ≡ get_or (map told before) k [] ++ placed_by k 0 r
      each k l =
          let there : k < length hs = (let a = length-map before told in let e = ap length was in let f = length-map hs member_of in omega (arith, l, a, e, f)) in
          let d = some_element hs (omega (arith, there)) in
          let x = dealt k d there in
          let q = (get_or news k d).pass in
          let number = (worked k d there).same.worker ∙ x.new.number in
          let from = subst (λ (s : List Event). IsToldOf k s (seen_of q) (told (get_or hs k d).member) (told (get_or news k d).member)) x.new.seen_is (subst (λ (w : ℕ). IsToldOf w (seen_of (get_or hs k d).pass) (seen_of q) (told (get_or hs k d).member) (told (get_or news k d).member)) x.new.number (tells k d there)) in
          let whole = told_whole k (seen_of q) r (mine_of q) (told (get_or hs k d).member) (told (get_or news k d).member)
          (prefix_trans (seen_of q) (seen_of p) r (gathered.seen k d (omega (arith, there, same))) front)
          (subst (λ (w : ℕ). entries_by w (seen_of q) ≡ mine_of q) number (own k d (omega (arith, there, same))))
          (own_at_end apply lock g n faults hs news p r same dealt worked gathered items k d there) from in
          here after news is k d (omega (arith, there, same)) ∙ whole ∙ ap (λ (l : List (ℕ × Event)). l ++ placed_by k 0 r) (sym (here before hs (sym was) k d there))

-- how often tools were run
module _ {C M : Type 0} {h : _} where
  pub many_run : (apply : Apply) (lock : RuledLock C Charter Event) (g : Charter) (n : ℕ) (faults runs : M → ℕ) (hs news : List (Hand C M Charter Event h)) (p : Pass C Charter Event h) (r : List Event) (before after : List M) → map member_of hs ≡ before → after ≡ map member_of news → length news ≡ length hs → AreDealt lock (Some g) [] n hs → HaveAllWorked apply lock faults hs news → HaveAllRun runs hs news → IsGathered news p → ((k : ℕ) → items_of worker k r ≡ list_of k (lists_of p)) → AreToolsRun g.ordered.plan r (map runs before) (map runs after)
  many_run apply lock g n faults runs hs news p r before after was is same dealt worked ran gathered items = record { each = each }
    where
      here : (ms : List M) (xs : List (Hand C M Charter Event h)) → ms ≡ map member_of xs → (k : ℕ) (d : Hand C M Charter Event h) → k < length xs → get_or (map runs ms) k 0 ≡ runs (get_or xs k d).member
      here ms xs e k d l =
          ap (λ (m : List M). get_or (map runs m) k 0) e
          ∙ get_or-map runs (map member_of xs) k d.member 0 (let m = length-map xs member_of in omega (arith, l, m))
          ∙ ap runs (get_or-map member_of xs k d d.member l)

      each : (k : ℕ) → k < length (map runs before) → get_or (map runs after) k 0 ≤ get_or (map runs before) k 0 + tool_runs g.ordered.plan k r
      each k l =
          let there : k < length hs = (let a = length-map before runs in let e = ap length was in let f = length-map hs member_of in omega (arith, l, a, e, f)) in
          let d = some_element hs (omega (arith, there)) in
          let x = dealt k d there in
          let q = (get_or hs k d).pass in
          let mine = mine_of (get_or news k d).pass in
          let a = runs (get_or hs k d).member in
          let b = runs (get_or news k d).member in
          let so : RunsWithin g.ordered.plan k [] mine a b =
          subst (λ (m : List Event). RunsWithin g.ordered.plan k m mine a b) x.new.mine
          (subst (λ (w : ℕ). RunsWithin g.ordered.plan w (mine_of q) mine a b) x.new.number
          (subst (λ (c : Option Charter). OwnRunsWithin c (worker_of q) (mine_of q) mine a b) x.new.charter_is (ran k d there))) in
          let own : tool_runs g.ordered.plan k r ≡ tool_runs g.ordered.plan k mine = runs_own g.ordered.plan k r ∙ ap (tool_runs g.ordered.plan k) (own_at_end apply lock g n faults hs news p r same dealt worked gathered items k d there) in
          let none = no_runs g.ordered.plan k in
          let first = here before hs (sym was) k d there in
          let last = here after news is k d (omega (arith, there, same)) in
          omega (arith, so, own, none, first, last)

-- a run that was not begun
pub none_run : (p : Plan) (r : List Event) (counts : List ℕ) → AreToolsRun p r counts counts
none_run p r counts = record { each = λ k l. omega arith }

pub none_told : (r : List Event) (lists : List (List (ℕ × Event))) → r ≡ [] → AreGatesTold r lists lists
none_told r lists none = record { each = λ k l. sym (ap (λ (q : List Event). get_or lists k [] ++ placed_by k 0 q) none ∙ append-nil (get_or lists k [])) }

pub none_asked : (r : List Event) (lists : List (List ℕ)) → r ≡ [] → AreGatesAsked r lists lists
none_asked r lists none = record {
  each = λ k l. record { asked = []; is = sym (no_more (get_or lists k [])); are = subst (λ (q : List Event). AreAskedBy (entries_by k q) []) (sym none) refl };
}

pub no_inputs : (apply : Apply) (p : Plan) (r : List Event) → r ≡ [] → AreOfInputs apply p r
no_inputs apply p r none = subst (AreOfInputs apply p) (sym none) tt

pub not_begun : (p : Plan) (order : List ℕ) (n : ℕ) (unstarted : Bool) (r : List Event) → unstarted ≡ true → r ≡ [] → WorksMany p order n unstarted r
not_begun p order n unstarted r is none =
    subst (λ (b : Bool). WorksMany p order n b r) (sym is) (subst (WorksMany p order n true) (sym none) (record { below = tt; none_open = λ w t o. absurd (let e = o.runs in cc); over = λ e. absurd (cc e) }))

pub none_counted : (r : List Event) (counts : List ℕ) → r ≡ [] → AreToolsCounted r counts counts
none_counted r counts none = record { each = λ k l. (omega arith, λ small. let e = ap (tool_faults k) none ∙ no_faults k in omega (arith, e)) }

-- a yard's charter
abbrev pub charter_with : Ordered → List Event → Store → Bool → ℕ → ℕ → Charter
charter_with o r m t f k = record { ordered = o; opened = r; marked = m; tells = t; faults = f; misses = k }

pub dealt_many : {X Y : Type 0} (f : X → Y) (xs : List X) (ys : List Y) → map f xs ≡ ys → length ys ≡ length xs
dealt_many f xs ys e = ap length (sym e) ∙ length-map xs f
