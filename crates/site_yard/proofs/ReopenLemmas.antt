-- The opening of a yard with a book, and the looks at what its record stores.
use Rattle.std.proofs.Common.{◌≡◌, ℕ, suc, ◌+◌, ◌-◌, ◌^◌, ◌<◌, Bool, true, false, List, [], ◌++◌, length, drop, take, min, refl, sym, ap, ◌∙◌, subst, nat_lt, arith}
use Rattle.std.specs.Prelude.{Option, Some, None, option_map, IfSome, Ok, Err}
use Rattle.std.proofs.Math.Seq.{drop-length, take-length}
use Rattle.std.proofs.lemmas.List.{append-nil}
use Rattle.std.proofs.lemmas.List.Elements.{All-nil}
use Rattle.outside.specs.code.Counts.{IsLater, one_done}
use Rattle.outside.specs.code.Lending.{IsOpened, TellsFound, with_faults}
use Rattle.outside.specs.code.Parts.{ReadState}
use Rattle.values.specs.Apply.{Apply}
use Rattle.values.specs.code.SiteMap.{pair_at}
use Rattle.outside.specs.declared.counts.Counts.{Counts}
use Rattle.outside.specs.declared.store.Store.{Store}
use Rattle.plan_core.specs.declared.plan.Plan.{Plan}
use Rattle.plan_core.specs.Words.{count_pairs}
use Rattle.storage_simulation.specs.declared.standing.Held.{Held}
use Rattle.run_record.specs.Events.{Event}
use Rattle.lease_rules.specs.State.{now}
use Rattle.site_yard.specs.code.Delivered.{AreDelivered}
use Rattle.site_yard.specs.Delivered.{IsDigestOf}
use Rattle.site_yard.specs.declared.delivered.Delivered.{Delivered}
use Rattle.site_yard.specs.code.Failures.{AreMore, host_faults, host_misses}
use Rattle.site_yard.specs.code.Kept.{HoldsSizes, IsKept, IsTruthful}
use Rattle.plan_core.specs.Names.{pair_file_name, pair_site_name}
use Rattle.site_yard.specs.code.Reopening.{AreRecorded, AreRecordedBelow, Checks, IsAsRecorded, IsLackingAt, IsLongAt, IsStored, RefusesAgain, measures_at, measures_below, measures_of, recorded_size}
use Rattle.site_yard.specs.declared.opening.OpenFault.{OpenFault}
use Rattle.site_yard.specs.declared.opening.OpenFault.TheVariants.{HostFailed, LengthDiffers, Memory, PairAbsent, ScratchInUse}
use Rattle.site_yard.proofs.CountingLemmas.{done_before, same_more}

-- ---- the length of a pair's file

opened_long : (found : Option (List ℕ)) (n : ℕ) (s : ReadState) → TellsFound (Some found) s.told → IfSome s.told (λ bytes. s.size ≡ length bytes) → n ≡ s.size → option_map length found ≡ Some n
opened_long None n s tells long is = absurd tells
opened_long (Some bytes) n s tells long is = let size : s.size ≡ length bytes = subst (λ (o : Option (List ℕ)). IfSome o (λ b. s.size ≡ length b)) tells long in ap Some (sym (is ∙ size))

long_at : (o : Option Store) (site name : List ℕ) (limit n : ℕ) (s : ReadState) → IsOpened (option_map (λ z. pair_at z.scratch site name) o) limit s → n ≡ s.size → IfSome o (λ z. option_map length (pair_at z.scratch site name) ≡ Some n)
long_at None site name limit n s opened is = tt
long_at (Some z) site name limit n s opened is = opened_long (pair_at z.scratch site name) n s opened.told opened.long is

given_back : (before mid now_ : Counts) (n : ℕ) → mid ≡ one_done before → n ≡ 0 → now_ ≡ with_faults mid n → AreMore 1 0 0 before now_
given_back before mid now_ n is none back =
    let d : now_.done ≡ mid.done = ap (λ (c : Counts). c.done) back in
    let f : now_.faults ≡ min (mid.faults + n) (2 ^ 64 - 1) = ap (λ (c : Counts). c.faults) back in
    let m : now_.misses ≡ mid.misses = ap (λ (c : Counts). c.misses) back in
    let dd : mid.done ≡ min (before.done + 1) (2 ^ 64 - 1) = ap (λ (c : Counts). c.done) is in
    let ff : mid.faults ≡ before.faults = ap (λ (c : Counts). c.faults) is in
    let mm : mid.misses ≡ before.misses = ap (λ (c : Counts). c.misses) is in
    record { done_is = λ x. omega (arith, d, dd, x); faults_is = λ x. omega (arith, f, ff, none, x); misses_is = λ x. omega (arith, m, mm) }

pub measured : (p : Plan) (q : ℕ) (o : Option Store) (site name : List ℕ) (limit n : ℕ) (s : ReadState) (before mid now_ : Counts) → site ≡ pair_site_name p q → name ≡ pair_file_name p q → mid ≡ one_done before → IsOpened (option_map (λ z. pair_at z.scratch site name) o) limit s → n ≡ s.size → now_ ≡ with_faults mid s.faults → IsLongAt p o q n × AreMore 1 0 0 before now_
measured p q o site name limit n s before mid now_ site_is name_is is opened size back = (
  subst (λ x. IfSome o (λ z. option_map length (pair_at z.scratch x (pair_file_name p q)) ≡ Some n)) site_is (subst (λ x. IfSome o (λ z. option_map length (pair_at z.scratch site x) ≡ Some n)) name_is (long_at o site name limit n s opened size)),
  given_back before mid now_ s.faults is opened.faults back,
)

lacks : (o : Option Store) (site name : List ℕ) → IfSome (option_map (λ z. pair_at z.scratch site name) o) (λ x. x ≡ None) → IfSome o (λ z. pair_at z.scratch site name ≡ None)
lacks None site name h = tt
lacks (Some z) site name h = h

pub lacking : (p : Plan) (q : ℕ) (o : Option Store) (site name : List ℕ) → site ≡ pair_site_name p q → name ≡ pair_file_name p q → IfSome (option_map (λ z. pair_at z.scratch site name) o) (λ x. x ≡ None) → IsLackingAt p o q
lacking p q o site name site_is name_is h =
    subst (λ x. IfSome o (λ z. pair_at z.scratch x (pair_file_name p q) ≡ None)) site_is (subst (λ x. IfSome o (λ z. pair_at z.scratch site x ≡ None)) name_is (lacks o site name h))

-- ---- one pair

-- a pair that isn't stored
pub not_stored : (p : Plan) (held : ℕ → Held) (q : ℕ) (o : Option Store) (c : Counts) → recorded_size (held q) ≡ None → IsAsRecorded p held o q × AreMore (measures_at held q) 0 0 c c
not_stored p held q o c none = (
  λ n e. absurd (let k : None ≡ Some n = sym none ∙ e in cc),
  subst (λ n. AreMore n 0 0 c c) (sym (ap measures_of none)) (same_more c c refl),
)

-- one that is, and has its size
pub as_recorded : (p : Plan) (held : ℕ → Held) (q recorded found : ℕ) (o : Option Store) (before now_ : Counts) → recorded_size (held q) ≡ Some recorded → found ≡ recorded → IsLongAt p o q found → AreMore 1 0 0 before now_ → IsAsRecorded p held o q × AreMore (measures_at held q) 0 0 before now_
as_recorded p held q recorded found o before now_ stored same long more = (
  λ n e. let one : found ≡ n = same ∙ (let k : Some recorded ≡ Some n = sym stored ∙ e in cc) in subst (IsLongAt p o q) one long,
  subst (λ n. AreMore n 0 0 before now_) (sym (ap measures_of stored)) more,
)

-- ---- the pairs up to one more

recorded_more : (p : Plan) (held : ℕ → Held) (o : Option Store) (k : ℕ) → AreRecordedBelow p held o k → IsAsRecorded p held o k → AreRecordedBelow p held o (k + 1)
recorded_more p held o k below at q l = by (nat_lt q k) refl
  where
    by : (b : Bool) → nat_lt q k ≡ b → IsAsRecorded p held o q
    by true h = below q (grind (arith, h))
    by false h = let same : k ≡ q = grind (arith, h, l) in subst (IsAsRecorded p held o) same at

measures_more : (held : ℕ → Held) (k : ℕ) (first before now_ : Counts) → AreMore (measures_below held k) 0 0 first before → AreMore (measures_at held k) 0 0 before now_ → IsLater before now_ → AreMore (measures_below held (k + 1)) 0 0 first now_
measures_more held k first before now_ done more later =
    let next : suc k ≡ k + 1 = omega arith in
    subst (λ n. AreMore (measures_below held n) 0 0 first now_) next (done_before (measures_below held k) (measures_at held k) 0 0 first before now_ done more later)

pub still_recorded : (p : Plan) (held : ℕ → Held) (o n : Option Store) (k : ℕ) (first before now_ : Counts) → n ≡ o → AreRecordedBelow p held o k → AreMore (measures_below held k) 0 0 first before → Checks p held k n before now_ (Ok tt) → IsLater before now_ → AreRecordedBelow p held o (k + 1) × AreMore (measures_below held (k + 1)) 0 0 first now_
still_recorded p held o n k first before now_ same below done at later =
    (recorded_more p held o k below (subst (λ z. IsAsRecorded p held z k) same at.0), measures_more held k first before now_ done at.1 later)

-- why it stops at a pair
pub check_stops : (p : Plan) (held : ℕ → Held) (o n : Option Store) (k : ℕ) (first before now_ : Counts) (fault : OpenFault) → k < count_pairs p → n ≡ o → AreRecordedBelow p held o k → AreMore (measures_below held k) 0 0 first before → Checks p held k n before now_ (Err fault) → IsLater before now_ → RefusesAgain p held o first now_ fault
check_stops p held o n k first before now_ (PairAbsent x) less same below done at later =
    let here : k ≡ x.0 = sym at.0 in
    record {
      below = subst (λ q. q < count_pairs p) here less;
      stored = subst (IsStored held) here at.1;
      lacking = subst (IsLackingAt p o) here (subst (λ z. IsLackingAt p z k) same at.2);
      first = record { recorded = subst (AreRecordedBelow p held o) here below; asked = subst (λ q. AreMore (measures_below held q + 0) 0 1 first now_) here (done_before (measures_below held k) 0 0 1 first before now_ done at.3 later) };
    }
check_stops p held o n k first before now_ (LengthDiffers x recorded found) less same below done at later =
    let here : k ≡ x.0 = sym at.0 in
    record {
      below = subst (λ q. q < count_pairs p) here less;
      stored = subst (λ q. recorded_size (held q) ≡ Some recorded) here at.1;
      other = at.2;
      long = subst (λ q. IsLongAt p o q found) here (subst (λ z. IsLongAt p z k found) same at.3);
      first = record { recorded = subst (AreRecordedBelow p held o) here below; asked = subst (λ q. AreMore (measures_below held q + 1) 0 0 first now_) here (done_before (measures_below held k) 1 0 0 first before now_ done at.4 later) };
    }
check_stops p held o n k first before now_ HostFailed less same below done at later =
    record { pair = k; below = less; stored = at.0; first = record { recorded = below; asked = done_before (measures_below held k) 0 1 0 first before now_ done at.1 later } }
check_stops p held o n k first before now_ Memory less same below done at later =
    record { pair = k; below = omega (arith, less); first = record { recorded = below; asked = done_before (measures_below held k) 0 0 0 first before now_ done at later } }
check_stops p held o n k first before now_ (ScratchInUse x) less same below done at later = at

-- want of memory before the first look
none_below : (p : Plan) (held : ℕ → Held) (o : Option Store) → AreRecordedBelow p held o 0
none_below p held o q l = absurd (omega (arith, l))

pub wants_first : (p : Plan) (held : ℕ → Held) (o : Option Store) (c : Counts) → RefusesAgain p held o c c Memory
wants_first p held o c = record { pair = 0; below = omega arith; first = record { recorded = none_below p held o; asked = same_more c c refl } }

-- the same before the host was marked
pub refuses_as : (p q : Plan) (held : ℕ → Held) (o n : Option Store) (first before now_ : Counts) (fault : OpenFault) → q ≡ p → n ≡ o → before ≡ first → RefusesAgain q held n before now_ fault → RefusesAgain p held o first now_ fault
refuses_as p q held o n first before now_ fault plan told start h =
    subst (λ z. RefusesAgain z held o first now_ fault) plan (subst (λ z. RefusesAgain q held z first now_ fault) told (subst (λ z. RefusesAgain q held n z now_ fault) start h))

-- ---- what a yard keeps then

holds_sizes : (p : Plan) (held : ℕ → Held) (o : Option Store) → AreRecorded p held o → IfSome o (HoldsSizes p held)
holds_sizes p held None h = tt
holds_sizes p held (Some s) h = λ q n low e. h q low n (ap recorded_size e)

kept_none : (apply : Apply) (p : Plan) (order : List ℕ) (first : List Event) (o : Option Store) (m : Store) (calls : ℕ) (before now_ : Counts) → IfSome o (λ s. m ≡ s) → AreRecorded p (now p order (first ++ [])).held o → AreMore calls 0 0 before now_ → IsKept apply p order first [] o m before.faults before.misses now_
unfolding host_faults host_misses
kept_none apply p order first None m calls before now_ is recorded more =
    record { become = tt; truthful = λ opening. tt; sized = tt; counted = λ x y. let f = more.faults_is x in let g = more.misses_is y in omega (arith, f, g) }
kept_none apply p order first (Some s) m calls before now_ is recorded more =
    record {
      become = record { made = []; is = sym is; operations = refl; are = λ opening. refl };
      truthful = λ opening. subst (IsTruthful apply p m) (sym (append-nil first)) opening.truthful;
      sized = holds_sizes p (now p order (first ++ [])).held (Some s) recorded;
      counted = (more.faults_is, more.misses_is);
    }

-- an opening with all entries of a record
pub reopens : (apply : Apply) (p : Plan) (order : List ℕ) (r : List Event) (k : ℕ) (o n : Option Store) (m a : Store) (f0 m0 calls : ℕ) (before now_ : Counts) → k ≡ length r → n ≡ o → a ≡ m → IfSome o (λ s. m ≡ s) → f0 ≡ before.faults → m0 ≡ before.misses → AreRecorded p (now p order r).held o → AreMore calls 0 0 before now_ → ∥ IsKept apply p order (take k r) (drop k r) n a f0 m0 now_ ∥₁
reopens apply p order r k o n m a f0 m0 calls before now_ all same still is ef em recorded more =
    let whole : take k r ≡ r = ap (λ i. take i r) all ∙ take-length r in
    let none : drop k r ≡ [] = ap (λ i. drop i r) all ∙ drop-length r in
    let sized : AreRecorded p (now p order (r ++ [])).held o = subst (λ (l : List Event). AreRecorded p (now p order l).held o) (sym (append-nil r)) recorded in
    subst (λ (l : List Event). ∥ IsKept apply p order l (drop k r) n a f0 m0 now_ ∥₁) (sym whole)
    (subst (λ (l : List Event). ∥ IsKept apply p order r l n a f0 m0 now_ ∥₁) (sym none)
    (subst (λ z. ∥ IsKept apply p order r [] z a f0 m0 now_ ∥₁) (sym same)
    (subst (λ z. ∥ IsKept apply p order r [] o z f0 m0 now_ ∥₁) (sym still)
    (subst (λ z. ∥ IsKept apply p order r [] o m z m0 now_ ∥₁) (sym ef)
    (subst (λ z. ∥ IsKept apply p order r [] o m before.faults z now_ ∥₁) (sym em) (∣ kept_none apply p order r o m calls before now_ is sized more ∣₁))))))

-- nothing was delivered since
pub lists_none : (apply : Apply) (p : Plan) (r : List Event) (k : ℕ) (o : Option Store) (m : Store) (ds : List Delivered) → k ≡ length r → ds ≡ [] → ∥ AreDelivered apply p (take k r) (drop k r) o m ds ∥₁
lists_none apply p r k o m ds all empty =
    let none : drop k r ≡ [] = ap (λ i. drop i r) all ∙ drop-length r in
    subst (λ l. ∥ AreDelivered apply p (take k r) l o m ds ∥₁) (sym none)
    (subst (λ l. ∥ AreDelivered apply p (take k r) [] o m l ∥₁) (sym empty) (∣ (record { files = refl; lengths = refl; digests = λ opening told. refl; of_bytes = All-nil (λ (d : Delivered). IsDigestOf d.length d.digest) }) ∣₁))
