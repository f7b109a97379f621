-- A plan passes the tests exactly where it is proper.
use Rattle.std.proofs.Common.{◌≡◌, ℕ, zero, suc, ◌<◌, Bool, true, false, ◌&&◌, ◌||◌, List, [], ◌∷◌, length, max, refl, sym, ap, ◌∙◌, nat_eq, nat_lt, arith}
use Rattle.std.specs.Prelude.{◌^◌, Option, Some, None, slice_get}
use Rattle.std.specs.Bool.{Decides}
use Rattle.std.specs.List.{list_all}
use Rattle.digraph.specs.Cycle.{Returns}
use Rattle.plan_core.specs.declared.plan.Plan.{Plan}
use Rattle.plan_core.specs.declared.plan.Task.{Task}
use Rattle.plan_core.specs.declared.plan.TaskKind.{TaskKind}
use Rattle.plan_core.specs.declared.plan.TaskKind.TheVariants.{Transfer, Run, Clean}
use Rattle.plan_core.specs.declared.plan.Target.TheVariants.{Site as Into, Delivery}
use Rattle.plan_core.specs.declared.listing.Listing.TheVariants.{Reads, Writes, Cleaned, Delivered, Parents}
use Rattle.plan_core.specs.Numbers.{has}
use Rattle.plan_core.specs.Words.{reads, writes, parents, kind, kind_in, count_tasks, count_pairs, cleans, delivers, kind_cleans, kind_delivers}
use Rattle.plan_core.specs.Kinds.{kind_reads, kind_writes, on_pair}
use Rattle.plan_core.specs.code.Proper.{HasTables, IsTask, HasFlow, IsProper, AreParents, is_parent, is_kind_in_range, is_source_below}
use Rattle.plan_core.specs.code.Listing.{listed, nodes, cleaned, delivered}
use Rattle.plan_core.specs.code.Flow.{HasOneWriter, HasOrder}
use Rattle.plan_core.proofs.TestLemmas.{both, same_number}
use Rattle.plan_core.proofs.NumbersLemmas.{below_has}
use Rattle.plan_core.proofs.ListingLemmas.{tasks_are_nodes, pairs_are_nodes, files_are_nodes}

lower : (a b : ℕ) → nat_lt a b ≡ true → a < b
lower a b h = grind arith

max_low : (a b n : ℕ) → a < n → b < n → max a b < n
max_low a b n h k = grind arith

pub few_nodes : (p : Plan) → HasTables p → nodes p < 2 ^ 32
few_nodes p h = max_low (length p.tasks) (max (length p.pairs) (length p.files)) (2 ^ 32) h.in_range.few_tasks (max_low (length p.pairs) (length p.files) (2 ^ 32) h.in_range.few_pairs h.in_range.few_files)

abbrev AllTasks : Plan → Type 0
AllTasks p = (t : ℕ) → IsTask p (slice_get p.tasks t)

pub reads_low : (p : Plan) → AllTasks p → (t x : ℕ) → has (listed p Reads t) x ≡ true → x < nodes p
unfolding reads
reads_low p h t x k = let l : x < count_pairs p = (below_has (count_pairs p) (λ q. on_pair (kind_reads p.jobs (kind_in (slice_get p.tasks t))) (slice_get p.pairs q)) x (ap (λ (xs : List ℕ). has xs x) (sym (h t).reads) ∙ k)).0 in let m = pairs_are_nodes p in omega (arith, l, m)

pub writes_pairs : (p : Plan) → AllTasks p → (t x : ℕ) → has (writes p t) x ≡ true → x < count_pairs p
unfolding writes
writes_pairs p h t x k = (below_has (count_pairs p) (λ q. on_pair (kind_writes p.jobs (kind_in (slice_get p.tasks t))) (slice_get p.pairs q)) x (ap (λ (xs : List ℕ). has xs x) (sym (h t).writes) ∙ k)).0

pub writes_low : (p : Plan) → AllTasks p → (t x : ℕ) → has (listed p Writes t) x ≡ true → x < nodes p
writes_low p h t x k = let l : x < count_pairs p = writes_pairs p h t x k in let m = pairs_are_nodes p in omega (arith, l, m)

pub parents_low : (p : Plan) → ((t : ℕ) → AreParents p t) → (t x : ℕ) → has (listed p Parents t) x ≡ true → x < nodes p
parents_low p h t x k = let l : x < count_tasks p = (below_has (count_tasks p) (has (parents p t)) x (ap (λ (xs : List ℕ). has xs x) (sym (h t).listed) ∙ k)).0 in let m = tasks_are_nodes p in omega (arith, l, m)

pub all_place : {A : Type 0} (test : A → Bool) (xs : List A) (i : ℕ) (x : A) → list_all test xs ≡ true → slice_get xs i ≡ Some x → test x ≡ true
all_place test [] i x h e = absurd cc
all_place test (y ∷ ys) zero x h e = let s : y ≡ x = cc in ap test (sym s) ∙ (both (test y) (list_all test ys) h).0
all_place test (y ∷ ys) (suc i) x h e = all_place test ys i x (both (test y) (list_all test ys) h).1 e

pub in_range_at : (p : Plan) → HasTables p → (t : ℕ) (o : Option Task) → slice_get p.tasks t ≡ o → (k : TaskKind) → kind_in o ≡ Some k → is_kind_in_range p k ≡ true
in_range_at p h t None e k f = absurd cc
in_range_at p h t (Some x) e k f = let s : x.kind ≡ k = cc in ap (is_kind_in_range p) (sym s) ∙ all_place (λ (y : Task). is_kind_in_range p y.kind) p.tasks t x h.in_range.kinds e

only_one : (a x : ℕ) → has (a ∷ []) x ≡ true → a ≡ x
only_one a x h = by (nat_eq a x) refl h
  where
    by : (b : Bool) → nat_eq a x ≡ b → (b || false) ≡ true → a ≡ x
    by true e k = same_number a x e
    by false e k = absurd cc

or_no : (a : Bool) → (a || false) ≡ a
or_no true = refl
or_no false = refl

cleaned_below : (p : Plan) (o : Option TaskKind) → ((k : TaskKind) → o ≡ Some k → is_kind_in_range p k ≡ true) → (x : ℕ) → has (cleaned o) x ≡ true → x < count_pairs p
cleaned_below p None h x k = absurd cc
cleaned_below p (Some (Transfer f from to)) h x k = absurd cc
cleaned_below p (Some (Run s js)) h x k = absurd cc
cleaned_below p (Some (Clean q)) h x k = let l : q.0 < count_pairs p = lower q.0 (count_pairs p) (h (Clean q) refl) in let e : q.0 ≡ x = only_one q.0 x k in omega (arith, l, e)

delivered_below : (p : Plan) (o : Option TaskKind) → ((k : TaskKind) → o ≡ Some k → is_kind_in_range p k ≡ true) → (x : ℕ) → has (delivered o) x ≡ true → x < length p.files
delivered_below p None h x k = absurd cc
delivered_below p (Some (Transfer f from (Into s))) h x k = absurd cc
delivered_below p (Some (Transfer f from Delivery)) h x k =
    let l : f.0 < length p.files = lower f.0 (length p.files) (both (nat_lt f.0 (length p.files)) (is_source_below (length p.sites) from && true) (h (Transfer f from Delivery) refl)).0 in
    let e : f.0 ≡ x = only_one f.0 x k in omega (arith, l, e)
delivered_below p (Some (Run s js)) h x k = absurd cc
delivered_below p (Some (Clean q)) h x k = absurd cc

pub cleaned_low : (p : Plan) → HasTables p → (t x : ℕ) → has (listed p Cleaned t) x ≡ true → x < nodes p
unfolding kind
cleaned_low p h t x k = let l = cleaned_below p (kind p t) (in_range_at p h t (slice_get p.tasks t) refl) x k in let m = pairs_are_nodes p in omega (arith, l, m)

pub delivered_low : (p : Plan) → HasTables p → (t x : ℕ) → has (listed p Delivered t) x ≡ true → x < nodes p
unfolding kind
delivered_low p h t x k = let l = delivered_below p (kind p t) (in_range_at p h t (slice_get p.tasks t) refl) x k in let m = files_are_nodes p in omega (arith, l, m)

cleaned_is : (o : Option TaskKind) (q : ℕ) → has (cleaned o) q ≡ kind_cleans o q
cleaned_is None q = refl
cleaned_is (Some (Transfer f from to)) q = refl
cleaned_is (Some (Run s js)) q = refl
cleaned_is (Some (Clean c)) q = or_no (nat_eq c.0 q)

delivered_is : (o : Option TaskKind) (f : ℕ) → has (delivered o) f ≡ kind_delivers o f
delivered_is None f = refl
delivered_is (Some (Transfer g from (Into s))) f = refl
delivered_is (Some (Transfer g from Delivery)) f = or_no (nat_eq g.0 f)
delivered_is (Some (Run s js)) f = refl
delivered_is (Some (Clean c)) f = refl

abbrev Once : (ℕ → ℕ → Bool) → Type 0
Once r = (t u x : ℕ) → r t x ≡ true → r u x ≡ true → t ≡ u

pub clean_once : (p : Plan) → Once (λ t x. has (listed p Cleaned t) x) → Once (cleans p)
clean_once p h t u x i j = h t u x (cleaned_is (kind p t) x ∙ i) (cleaned_is (kind p u) x ∙ j)

pub once_clean : (p : Plan) → Once (cleans p) → Once (λ t x. has (listed p Cleaned t) x)
once_clean p h t u x i j = h t u x (sym (cleaned_is (kind p t) x) ∙ i) (sym (cleaned_is (kind p u) x) ∙ j)

pub delivery_once : (p : Plan) → Once (λ t x. has (listed p Delivered t) x) → Once (delivers p)
delivery_once p h t u x i j = h t u x (delivered_is (kind p t) x ∙ i) (delivered_is (kind p u) x ∙ j)

pub once_delivery : (p : Plan) → Once (delivers p) → Once (λ t x. has (listed p Delivered t) x)
once_delivery p h t u x i j = h t u x (sym (delivered_is (kind p t) x) ∙ i) (sym (delivered_is (kind p u) x) ∙ j)

-- a test that failed
pub fails : {P Q : Type 0} (b : Bool) → Decides b P → (Q → P) → b ≡ false → Decides false Q
fails b d part failed = (λ h. absurd (let x : false ≡ true = h in cc), λ q. sym failed ∙ d.1 (part q))

pub order_decided : (p : Plan) (b : Bool) → ((t : ℕ) → AreParents p t) → Decides b ((t : ℕ) → Returns (is_parent p) t → ⊥) → Decides b (HasOrder p)
order_decided p b are d = (λ h. record { parents = are; acyclic = d.0 h }, λ h. d.1 h.acyclic)

pub flow_decided : (p : Plan) (b : Bool) → Once (cleans p) → Once (delivers p) → HasOneWriter p → Decides b (HasOrder p) → Decides b (HasFlow p)
flow_decided p b clean delivery writer d = (
  λ h. let o = d.0 h in record {
    written = writer.written;
    one_writer = writer.one;
    one_clean = clean;
    one_delivery = delivery;
    parents = o.parents;
    acyclic = o.acyclic;
  },
  λ h. d.1 (record { parents = h.parents; acyclic = h.acyclic }),
)

pub proper_decided : (p : Plan) (b : Bool) → HasTables p → AllTasks p → Decides b (HasFlow p) → Decides b (IsProper p)
proper_decided p b tables tasks d = (λ h. record { tables = tables; tasks = tasks; flow = d.0 h }, λ h. d.1 h.flow)
