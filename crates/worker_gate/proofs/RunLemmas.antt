-- From one step to the end of the record.
use Rattle.std.proofs.Common.{◌≡◌, ℕ, ◌+◌, ◌≤◌, ◌<◌, List, [], ◌∷◌, ◌++◌, length, take, refl, sym, ap, subst, ◌∙◌, arith, append_assoc, length-append, None}
use Rattle.std.proofs.Math.Logic.{∥∥₁_elim}
use Rattle.std.proofs.Props.{props}
use Rattle.plan_core.specs.declared.plan.Plan.{Plan}
use Rattle.plan_core.specs.Words.{task_numbers}
use Rattle.run_record.specs.Events.{Event}
use Rattle.lease_book.specs.declared.book.Book.{Book}
use Rattle.lease_book.specs.Book.{state_at}
use Rattle.lease_rules.specs.Legal.{Legal, LegalFrom}
use Rattle.lease_rules.specs.code.Room.{entries_room}
use Rattle.lease_rules.specs.State.{now, now_from, opened}
use Rattle.site_yard.specs.code.Failures.{RoseBy, tool_faults}
use Rattle.worker_gate.specs.code.Alone.{AllBy, IsOver, NoneOpen, TakeFirst, WorksAlone, tried}
use Rattle.worker_gate.specs.code.Law.{HasLeaseLaws}
use Rattle.worker_gate.specs.code.Stepping.{WorksOn}
use Rattle.worker_gate.proofs.OrderLemmas.{at_first, in_order_from}
use Rattle.worker_gate.proofs.StateLemmas.{first_append, legal_split, now_split, room_after}
use Rattle.worker_gate.proofs.WorkLemmas.{IsOneRun, consistent_at, rose_both, rose_zero}

pub nothing_more : (r : List Event) → r ≡ r ++ []
nothing_more [] = refl
nothing_more (e ∷ r) = ap (λ l. e ∷ l) (nothing_more r)

pub no_faults : (w : ℕ) → tool_faults w [] ≡ 0
unfolding tool_faults
no_faults w = refl

pub faults_append : (w : ℕ) (xs ys : List Event) → tool_faults w (xs ++ ys) ≡ tool_faults w xs + tool_faults w ys
unfolding tool_faults
faults_append w [] ys = omega arith
faults_append w (e ∷ xs) ys = let rest = faults_append w xs ys in omega (arith, rest)

all_append : (w : ℕ) (xs ys : List Event) → AllBy w xs → AllBy w ys → AllBy w (xs ++ ys)
all_append w [] ys a b = b
all_append w (e ∷ xs) ys a b = (a.0, all_append w xs ys a.1 b)

pub one_run : (b : Book) → IsOneRun b b
one_run b = record { plan = refl; order = refl }

pub runs_on : (a b c : Book) → IsOneRun a b → IsOneRun b c → IsOneRun a c
runs_on a b c x y = record { plan = y.plan ∙ x.plan; order = y.order ∙ x.order }

-- before the first step
pub works_first : (b : Book) (x : ℕ) → NoneOpen (state_at b) → WorksOn b.plan (state_at b) b.history.events b.history.events (state_at b) x x
works_first b x none = record {
  added = [];
  is = nothing_more b.history.events;
  by_zero = tt;
  first = tt;
  none_open = none;
  counted = rose_zero _ x (no_faults 0);
}

state_over : (a b : Book) (xs : List Event) → IsOneRun a b → b.history.events ≡ a.history.events ++ xs → state_at b ≡ now_from a.plan (state_at a) xs
state_over a b xs same is =
    ap (λ p. now p (task_numbers b.order.items) b.history.events) same.plan
    ∙ ap (λ os. now a.plan (task_numbers os) b.history.events) same.order
    ∙ ap (λ r. now a.plan (task_numbers a.order.items) r) is
    ∙ now_split a.plan (opened (task_numbers a.order.items)) a.history.events xs

-- one step more
pub works_then : (a b c : Book) (x y z : ℕ) → IsOneRun a b → y ≤ z → WorksOn a.plan (state_at a) a.history.events b.history.events (state_at b) x y → WorksOn b.plan (state_at b) b.history.events c.history.events (state_at c) y z
    → WorksOn a.plan (state_at a) a.history.events c.history.events (state_at c) x z
works_then a b c x y z same le u v = record {
  added = u.added ++ v.added;
  is = v.is ∙ ap (λ l. l ++ v.added) u.is ∙ append_assoc a.history.events u.added v.added;
  by_zero = all_append 0 u.added v.added u.by_zero v.by_zero;
  first = first_append a.plan (state_at a) u.added v.added u.first
      (subst (λ s. TakeFirst a.plan s v.added) (state_over a b u.added same u.is)
      (subst (λ p. TakeFirst p (state_at b) v.added) same.plan v.first));
  none_open = v.none_open;
  counted = subst (λ n. RoseBy n x z) (sym (faults_append 0 u.added v.added)) (rose_both _ _ x y z le u.counted v.counted);
}

legal_here : (a b : Book) (xs : List Event) → IsOneRun a b → b.history.events ≡ a.history.events ++ xs → Legal b.plan (task_numbers b.order.items) b.history.events → LegalFrom a.plan (state_at a) xs
legal_here a b xs same is legal =
    legal_split a.plan (opened (task_numbers a.order.items)) a.history.events xs
    (subst (Legal a.plan (task_numbers a.order.items)) is
    (subst (λ os. Legal a.plan (task_numbers os) b.history.events) same.order
    (subst (λ p. Legal p (task_numbers b.order.items) b.history.events) same.plan legal)))

-- the room falls with each step
some_added : (r xs new : List Event) → new ≡ r ++ xs → length r < length new → 0 < length xs
some_added r xs new is h = let l = ap length is in let m = length-append r xs in omega (arith, l, m, h)

less_by : (a b n : ℕ) → a + n ≤ b → 0 < n → a < b
less_by a b n le some = omega (arith, le, some)

pub room_falls_on : (a b : Book) (x y : ℕ) → HasLeaseLaws a.plan → IsOneRun a b → WorksOn a.plan (state_at a) a.history.events b.history.events (state_at b) x y → length a.history.events < length b.history.events → entries_room b.plan (state_at b) < entries_room a.plan (state_at a)
room_falls_on a b x y laws same works longer =
    ∥∥₁_elim b.kept.legal (hlevel props) (λ legal.
    subst (λ s. entries_room b.plan s < entries_room a.plan (state_at a)) (sym (state_over a b works.added same works.is))
    (subst (λ p. entries_room p (now_from a.plan (state_at a) works.added) < entries_room a.plan (state_at a)) (sym same.plan)
    (less_by _ _ (length works.added)
    (room_after a.plan laws (state_at a) works.added (consistent_at a) (legal_here a b works.added same works.is legal))
    (some_added a.history.events works.added b.history.events works.is longer))))

pub in_order_of : (a b : Book) (xs : List Event) → HasLeaseLaws a.plan → IsOneRun a b → NoneOpen (state_at a) → b.history.events ≡ a.history.events ++ xs → TakeFirst a.plan (state_at a) xs → tried xs ≡ take (length (tried xs)) (state_at a).rest
in_order_of a b xs laws same none is first =
    ∥∥₁_elim b.kept.legal (hlevel props) (λ legal. in_order_from a.plan (state_at a) xs None laws (consistent_at a) (legal_here a b xs same is legal) first (at_first (state_at a) none))

-- the end: c's record is b's, and it is over
pub works_alone : (a b c : Book) (p : Plan) (order : List ℕ) (x y : ℕ) → HasLeaseLaws a.plan → a.plan ≡ p → task_numbers a.order.items ≡ order → IsOneRun a b → NoneOpen (state_at a) → WorksOn a.plan (state_at a) a.history.events b.history.events (state_at b) x y → c.history.events ≡ b.history.events → IsOver b.plan (state_at b)
    → WorksAlone p order a.history.events c.history.events x y
works_alone a b c p order x y laws plan tasks same_b none works is over =
    subst (λ o. WorksAlone p o a.history.events c.history.events x y) tasks
    (subst (λ q. WorksAlone q (task_numbers a.order.items) a.history.events c.history.events x y) plan (record {
      added = works.added;
      is = is ∙ works.is;
      by_zero = works.by_zero;
      over = subst (λ s. IsOver a.plan s) here (subst (λ q. IsOver q (state_at b)) same_b.plan over);
      none_open = subst NoneOpen here works.none_open;
      first = works.first;
      in_order = in_order_of a b works.added laws same_b none works.is works.first;
      counted = works.counted;
    }))
  where
    here : state_at b ≡ now a.plan (task_numbers a.order.items) c.history.events
    here =
        ap (λ q. now q (task_numbers b.order.items) b.history.events) same_b.plan
        ∙ ap (λ os. now a.plan (task_numbers os) b.history.events) same_b.order
        ∙ ap (λ r. now a.plan (task_numbers a.order.items) r) (sym is)

-- a count that never falls
pub same_count : (x : ℕ) → x ≤ x
same_count x = omega arith

pub both_counts : (x y z : ℕ) → x ≤ y → y ≤ z → x ≤ z
both_counts x y z a b = omega (arith, a, b)
