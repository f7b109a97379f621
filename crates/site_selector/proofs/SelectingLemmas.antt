-- Sites of the first jobs of the order, and of one more.
use Rattle.std.proofs.Common.{◌≡◌, ℕ, zero, suc, ◌+◌, ◌<◌, ◌||◌, Bool, true, false, cond, eqb, eqb-true, List, length, take, get_or, refl, sym, ap, subst, ◌∙◌, arith}
use Rattle.std.proofs.Math.ListN.{replicate}
use Rattle.std.specs.Prelude.{set, is_ok, slice_get, Vec, Option, Some, None, Result, Ok, Err}
use Rattle.std.specs.declared.alloc.Global.{Global}
use Rattle.std.specs.Result.{IsErrAnd}
use Rattle.std.proofs.lemmas.Bool.{eqb-false}
use Rattle.std.proofs.lemmas.List.{take_all, length-set, length-replicate, get_or-set_same, get_or-set_other}
use Rattle.values.specs.declared.numbers.SiteId.{SiteId}
use Rattle.workflow_core.specs.declared.workflow.Job.{Job}
use Rattle.values.specs.declared.select_fault.SelectFault.{SelectFault}
use Rattle.values.specs.declared.select_fault.SelectFault.TheVariants.{NoSite, NoTransformation, Memory}
use Rattle.dependency_graph.specs.Levels.{is_kept}
use Rattle.dependency_graph.specs.Ranking.{IsRanked}
use Rattle.dependency_graph.proofs.TestLemmas.{has}
use Rattle.site_selector.specs.Turns.{turn_of}
use Rattle.site_selector.specs.Candidates.{selected_site}
use Rattle.site_selector.specs.code.Candidates.{IsAnswer}
use Rattle.site_selector.specs.Selecting.{Selection, answer_of, Gets, IsSelected}
use Rattle.site_selector.specs.code.Selecting.{IsFirstFault, Selects}
use Rattle.dependency_graph.proofs.TestLemmas.{by_bool, has_at, has_more}
use Rattle.site_selector.proofs.TurnLemmas.{turn_is, stands, stands_before}

-- the answer at a turn to the job of a number, if there is one
abbrev pub answer_in : Selection → ℕ → ℕ → Option Job → Result SiteId SelectFault
answer_in c turn a None = Err Memory
answer_in c turn a (Some j) = selected_site c.execute c.entries turn a j

abbrev pub answer_at : Selection → ℕ → Result SiteId SelectFault
answer_at c a = answer_in c (turn_of c.kept c.levels a) a (slice_get c.jobs a)

abbrev pub site_in : Result SiteId SelectFault → Option SiteId
site_in (Ok s) = Some s
site_in (Err e) = None

-- the first k jobs of the order have their sites, and no other job has one
pub record ArePlaced (c : Selection) (order : List ℕ) (sites : List (Option SiteId)) (k : ℕ) : Type 0 where
  pub long : length sites ≡ length c.jobs
  pub fine : (i : ℕ) → i < k → is_ok (answer_at c (get_or order i 0)) ≡ true
  pub each : (a : ℕ) → get_or sites a None ≡ cond (has (take k order) a) (site_in (answer_at c a)) None

-- the k-th job of the order, and its answer at turn k
pub record IsNext (c : Selection) (order : List ℕ) (k : ℕ) (j : Job) (r : Result SiteId SelectFault) : Type 0 where
  pub below : k < length order
  pub at : slice_get c.jobs (get_or order k 0) ≡ Some j
  pub answer : selected_site c.execute c.entries k (get_or order k 0) j ≡ r

-- a job of the order is one of the jobs
pub number_below : (kept : List Bool) (levels order : List ℕ) (k n : ℕ) → IsRanked kept levels order → length kept ≡ n → k < length order → get_or order k 0 < n
number_below kept levels order k n sorted one_each below = let l = sorted.below (get_or order k 0) (has_at order k below) in omega (arith, l, one_each)

known_answer : (c : Selection) (b : ℕ) (j : Job) → slice_get c.jobs b ≡ Some j → answer_at c b ≡ answer_of c b j
known_answer c b j at = ap (λ (o : Option Job). answer_in c (turn_of c.kept c.levels b) b o) at

next_answer : (c : Selection) (order : List ℕ) (k : ℕ) (j : Job) (r : Result SiteId SelectFault) → IsRanked c.kept c.levels order → IsNext c order k j r → answer_of c (get_or order k 0) j ≡ r
next_answer c order k j r sorted next = ap (λ (n : ℕ). selected_site c.execute c.entries n (get_or order k 0) j) (turn_is c.kept c.levels order k sorted next.below) ∙ next.answer

abbrev no_site : Option SiteId
no_site = None

none_at : (n a : ℕ) → get_or (replicate n no_site) a None ≡ None
none_at zero zero = refl
none_at zero (suc a) = refl
none_at (suc n) zero = refl
none_at (suc n) (suc a) = none_at n a

pub none_placed : (c : Selection) (order : List ℕ) (n : ℕ) → n ≡ length c.jobs → ArePlaced c order (replicate n no_site) 0
none_placed c order n long = record { long = length-replicate n no_site ∙ long; fine = λ i m. absurd (omega arith); each = λ a. none_at n a }

site_set : (xs : List (Option SiteId)) (i j : ℕ) (a : Option SiteId) → i < length xs → get_or (set xs i a) j None ≡ cond (eqb i j) a (get_or xs j None)
site_set xs i j a l = by_place (eqb i j) refl
  where
    by_place : (b : Bool) → eqb i j ≡ b → get_or (set xs i a) j None ≡ cond b a (get_or xs j None)
    by_place true e = ap (λ (k : ℕ). get_or (set xs i a) k None) (sym (eqb-true i j e)) ∙ get_or-set_same xs i a None l
    by_place false e = get_or-set_other xs i j a None (λ k. eqb-false i j e (sym k))

pub place_more : (c : Selection) (order : List ℕ) (sites : List (Option SiteId)) (k : ℕ) (j : Job) (s : SiteId) → length c.kept ≡ length c.jobs → IsRanked c.kept c.levels order → ArePlaced c order sites k → IsNext c order k j (Ok s)
    → ArePlaced c order (set sites (get_or order k 0) (Some s)) (k + 1)
place_more c order sites k j s one_each sorted placed next = record {
  long = length-set sites (get_or order k 0) (Some s) ∙ placed.long;
  fine = λ i m. by_bool (eqb i k) (λ e. ap (λ (n : ℕ). is_ok (answer_at c (get_or order n 0))) (eqb-true i k e) ∙ ap is_ok answer) (λ e. placed.fine i (let ne = eqb-false i k e in omega (arith, m, ne)));
  each = λ a. site_set sites (get_or order k 0) a (Some s) below ∙ by_place a (eqb (get_or order k 0) a) refl ∙ sym (ap (λ (b : Bool). cond b (site_in (answer_at c a)) None) (has_more order k a next.below));
}
  where
    answer : answer_at c (get_or order k 0) ≡ Ok s
    answer = known_answer c (get_or order k 0) j next.at ∙ next_answer c order k j (Ok s) sorted next

    below : get_or order k 0 < length sites
    below = let l = sorted.below (get_or order k 0) (has_at order k next.below) in omega (arith, l, placed.long, one_each)

    now : (a b : Bool) (y z : Option SiteId) → b ≡ true → y ≡ cond (a || b) y z
    now true b y z h = refl
    now false true y z h = refl
    now false false y z h = absurd cc

    still : (a b : Bool) (y z : Option SiteId) → b ≡ false → cond a y z ≡ cond (a || b) y z
    still true b y z h = refl
    still false true y z h = absurd cc
    still false false y z h = refl

    by_place : (a : ℕ) (b : Bool) → eqb (get_or order k 0) a ≡ b → cond b (Some s) (get_or sites a None) ≡ cond (has (take k order) a || eqb (get_or order k 0) a) (site_in (answer_at c a)) None
    by_place a true e = sym (ap site_in answer) ∙ ap (λ (n : ℕ). site_in (answer_at c n)) (eqb-true (get_or order k 0) a e) ∙ now (has (take k order) a) (eqb (get_or order k 0) a) (site_in (answer_at c a)) None e
    by_place a false e = placed.each a ∙ still (has (take k order) a) (eqb (get_or order k 0) a) (site_in (answer_at c a)) None e

first_fault : (c : Selection) (order : List ℕ) (sites : List (Option SiteId)) (k : ℕ) (j : Job) (e : SelectFault) → IsRanked c.kept c.levels order → ArePlaced c order sites k → IsNext c order k j (Err e) → IsFirstFault c e
first_fault c order sites k j e sorted placed next = record {
  number = get_or order k 0;
  job = j;
  kept = (sym (sorted.kept_ones (get_or order k 0)) ∙ has_at order k next.below, next.at);
  fault = next_answer c order k j (Err e) sorted next;
  first = λ b i kept before.
      let there = stands order b (sorted.kept_ones b ∙ kept.0) in
      sym (ap is_ok (known_answer c b i kept.1)) ∙ sym (ap (λ (n : ℕ). is_ok (answer_at c n)) there.2) ∙ placed.fine there.0 (stands_before c.kept c.levels order k b there.0 sorted next.below there.1 there.2 before);
}

-- a fault that one job's answer is
pub refused_is : (c : Selection) (order : List ℕ) (sites : List (Option SiteId)) (k : ℕ) (j : Job) (e : SelectFault) → IsRanked c.kept c.levels order → ArePlaced c order sites k → k < length order → slice_get c.jobs (get_or order k 0) ≡ Some j
    → IsAnswer (selected_site c.execute c.entries k (get_or order k 0) j) (Err e) → Selects c (Err e)
refused_is c order sites k j Memory sorted placed below at is = tt
refused_is c order sites k j (NoSite a name) sorted placed below at is = first_fault c order sites k j (NoSite a name) sorted placed (record { below = below; at = at; answer = is })
refused_is c order sites k j (NoTransformation a) sorted placed below at is = first_fault c order sites k j (NoTransformation a) sorted placed (record { below = below; at = at; answer = is })

-- a fault that is handed on
pub handed_on : (c : Selection) (r : Result (Vec (Option SiteId) Global) SelectFault) (e : SelectFault) → IsErrAnd r (λ (f : SelectFault). f ≡ e) → Selects c (Err e) → Selects c r
handed_on c (Ok v) e is selects = absurd is
handed_on c (Err f) e is selects = subst (λ (x : SelectFault). Selects c (Err x)) (sym is) selects

pub selected_is : (c : Selection) (order : List ℕ) (sites : List (Option SiteId)) → IsRanked c.kept c.levels order → ArePlaced c order sites (length order) → IsSelected c sites
selected_is c order sites sorted placed = record {
  long = placed.long;
  kept = λ a j k.
      let there = stands order a (sorted.kept_ones a ∙ k.0) in
      let known = known_answer c a j k.1 in
      got (answer_of c a j) (get_or sites a None)
      (sym (ap is_ok known) ∙ sym (ap (λ (n : ℕ). is_ok (answer_at c n)) there.2) ∙ placed.fine there.0 there.1)
      (placed.each a ∙ ap (λ (b : Bool). cond b (site_in (answer_at c a)) None) (stood a ∙ k.0) ∙ ap site_in known);
  others = λ a out. placed.each a ∙ ap (λ (b : Bool). cond b (site_in (answer_at c a)) None) (stood a ∙ out);
}
  where
    stood : (a : ℕ) → has (take (length order) order) a ≡ is_kept c.kept a
    stood a = ap (λ (xs : List ℕ). has xs a) (take_all (length order) order (omega arith)) ∙ sorted.kept_ones a

    got : (r : Result SiteId SelectFault) (o : Option SiteId) → is_ok r ≡ true → o ≡ site_in r → Gets r o
    got (Ok s) o fine is = is
    got (Err e) o fine is = absurd cc
