-- What a record's operations leave of a pair is within what is held of it.
use Rattle.std.proofs.Common.{◌≡◌, ℕ, zero, suc, ◌+◌, ◌-◌, ◌≤◌, ◌<◌, ◌⊎◌, inl, inr, Bool, true, false, cond, ◌&&◌, ◌||◌, List, [], ◌∷◌, ◌++◌, take, refl, sym, ap, ◌∙◌, subst, nat_eq, nat_lt, arith}
use Rattle.std.specs.Prelude.{Option, Some, None}
use Rattle.std.specs.Str.{bytes_eq}
use Rattle.std.proofs.lemmas.Bool.{cases_lt}
use Rattle.std.proofs.lemmas.Slice.Eq.{bytes_eq-Decides}
use Rattle.outside.specs.declared.operation.Operation.{Operation}
use Rattle.outside.specs.declared.operation.Operation.TheVariants.{Publish}
use Rattle.plan_core.specs.declared.plan.Plan.{Plan}
use Rattle.plan_core.specs.declared.plan.TaskKind.{TaskKind}
use Rattle.plan_core.specs.declared.plan.TaskKind.TheVariants.{Transfer, Run, Clean as CleanTask}
use Rattle.plan_core.specs.declared.plan.Target.TheVariants.{Site as Into, Delivery}
use Rattle.plan_core.specs.code.Numbers.{RisesFrom}
use Rattle.plan_core.specs.Numbers.{has}
use Rattle.plan_core.specs.code.Proper.{IsProper}
use Rattle.plan_core.specs.Words.{count_pairs, is_at, is_transfer_kind, kind, kind_cleans, reads, writes}
use Rattle.plan_core.proofs.TestLemmas.{and_both, both, is_itself, not_itself, or_left, or_right, same_number}
use Rattle.storage_simulation.specs.declared.standing.Held.{Held}
use Rattle.storage_simulation.specs.declared.standing.Held.TheVariants.{Nothing, Stored, Reserved}
use Rattle.storage_simulation.specs.Goods.{count_sites, good_size, goods, is_delivery, is_delivery_kind, lies_at, makes}
use Rattle.storage_simulation.specs.code.Law.{KeepsGoods}
use Rattle.storage_simulation.specs.Standings.{held_size, sizes}
use Rattle.storage_simulation.specs.Usage.{usage}
use Rattle.values.specs.Numbers.{total}
use Rattle.run_record.specs.Events.{Event, Grant, Arrive, End, Clean, Fail, Again, Regrant}
use Rattle.lease_rules.specs.code.Law.{IsSoundState}
use Rattle.lease_rules.specs.Law.{reserved_at, stored_at}
use Rattle.lease_rules.specs.Legal.{Allowed, AreDeclared, AreOfFirst, LegalFrom, MayFail}
use Rattle.lease_rules.specs.State.{State, after, now, now_from, opened, stored_among}
use Rattle.site_yard.specs.code.Law.{HasPlanLaws}
use Rattle.site_yard.specs.Leaving.{left_after, left_by, left_in}
use Rattle.plan_core.specs.Names.{file_name, pair_file_name, pair_site_name, site_name}
use Rattle.site_yard.specs.Trace.{arrived_at, operations_of, published_at, removed, trace_of}
use Rattle.site_yard.proofs.HoldsLemmas.{delivery_writes, or_both, same_id, swept_below}
use Rattle.site_yard.proofs.PlanLemmas.{names_apart, transfer_writes, written_below}
use Rattle.site_yard.proofs.SuitsLemmas.{cause_published, fail_writes, run_makes}

left_append : (s n : List ℕ) (xs ys : List Operation) (x : ℕ) → left_after s n (xs ++ ys) x ≡ left_after s n ys (left_after s n xs x)
left_append s n [] ys x = refl
left_append s n (o ∷ xs) ys x = left_append s n xs ys (left_by s n o x)

none_low : (b z : ℕ) (xs : List ℕ) → RisesFrom b xs → z < b → has xs z ≡ false
none_low b z [] rises l = refl
none_low b z (x ∷ xs) rises l =
    let low : b ≤ x = rises.0 in
    ap (λ (t : Bool). t || has xs z) (not_itself x z (λ e. omega (arith, e, low, l))) ∙ none_low (suc x) z xs rises.1 (omega (arith, low, l))

-- what is left of pair q; whether pair x has its names
abbrev left_of : Plan → ℕ → List Operation → ℕ → ℕ
left_of p q os x = left_after (pair_site_name p q) (pair_file_name p q) os x

abbrev is_named : Plan → ℕ → ℕ → Bool
is_named p q x = bytes_eq (pair_site_name p q) (pair_site_name p x) && bytes_eq (pair_file_name p q) (pair_file_name p x)

-- a task makes the pairs that it writes
no_delivery : (p : Plan) (t : ℕ) (k : Option TaskKind) → kind p t ≡ k → is_delivery_kind k ≡ false → makes p t ≡ writes p t
unfolding makes is_delivery
no_delivery p t k e h = ap (λ b. cond b ((count_pairs p + t) ∷ []) (writes p t)) (ap is_delivery_kind e ∙ h)

delivery_makes : (p : Plan) (t q : ℕ) (k : Option TaskKind) → kind p t ≡ k → is_delivery_kind k ≡ true → q < count_pairs p → has (makes p t) q ≡ false
unfolding makes is_delivery
delivery_makes p t q k e h low =
    ap (λ b. has (cond b ((count_pairs p + t) ∷ []) (writes p t)) q) (ap is_delivery_kind e ∙ h)
    ∙ ap (λ b. b || false) (not_itself (count_pairs p + t) q (λ m. omega (arith, m, low)))

writes_makes : (p : Plan) → HasPlanLaws p → (t q : ℕ) (k : Option TaskKind) → kind p t ≡ k → has (writes p t) q ≡ true → has (makes p t) q ≡ true
writes_makes p laws t q None e h = ap (λ l. has l q) (no_delivery p t None e refl) ∙ h
writes_makes p laws t q (Some (Run s js)) e h = ap (λ l. has l q) (no_delivery p t (Some (Run s js)) e refl) ∙ h
writes_makes p laws t q (Some (CleanTask z)) e h = ap (λ l. has l q) (no_delivery p t (Some (CleanTask z)) e refl) ∙ h
writes_makes p laws t q (Some (Transfer g from (Into a))) e h = ap (λ l. has l q) (no_delivery p t (Some (Transfer g from (Into a))) e refl) ∙ h
writes_makes p laws t q (Some (Transfer g from Delivery)) e h = absurd (delivery_writes p laws t g from q e h)

module _ (p : Plan) (proper : IsProper p) (laws : HasPlanLaws p) (q : ℕ) (low : q < count_pairs p) where
  named_is : (x : ℕ) → x < count_pairs p → is_named p q x ≡ true → q ≡ x
  named_is x l e =
      let parts = both (bytes_eq (pair_site_name p q) (pair_site_name p x)) (bytes_eq (pair_file_name p q) (pair_file_name p x)) e in
      names_apart p proper laws q x low l ((bytes_eq-Decides (pair_site_name p q) (pair_site_name p x)).0 parts.0) ((bytes_eq-Decides (pair_file_name p q) (pair_file_name p x)).0 parts.1)

  named_self : is_named p q q ≡ true
  named_self = and_both _ _ ((bytes_eq-Decides (pair_site_name p q) (pair_site_name p q)).1 refl) ((bytes_eq-Decides (pair_file_name p q) (pair_file_name p q)).1 refl)

  -- a pair has the names of q exactly where it is q
  named : (x : ℕ) → x < count_pairs p → is_named p q x ≡ nat_eq x q
  named x l = by (nat_eq x q) refl (is_named p q x) refl
    where
      by : (w : Bool) → nat_eq x q ≡ w → (v : Bool) → is_named p q x ≡ v → v ≡ w
      by true e true d = refl
      by false e false d = refl
      by true e false d = absurd (let k : true ≡ false = sym named_self ∙ ap (is_named p q) (sym (same_number x q e)) ∙ d in cc)
      by false e true d = absurd (let k : true ≡ false = sym (is_itself x) ∙ ap (nat_eq x) (sym (named_is x l d)) ∙ e in cc)

  -- the publication of other pairs
  puts_off : (gs ns : List ℕ) (x : ℕ) → ((g : ℕ) → has gs g ≡ true → g < count_pairs p) → has gs q ≡ false → left_of p q (published_at p gs ns) x ≡ x
  puts_off [] ns x all other = refl
  puts_off (g ∷ gs) [] x all other = refl
  puts_off (g ∷ gs) (n ∷ ns) x all other =
      let parts = or_both (nat_eq g q) (has gs q) other in
      ap (λ b. left_of p q (published_at p gs ns) (cond b n x)) (named g (all g (same_id g gs)) ∙ parts.0)
      ∙ puts_off gs ns x (λ y m. all y (or_right (nat_eq g y) (has gs y) m)) parts.1

  -- an End leaves what it stores
  stores_within : (b : ℕ) (gs ns : List ℕ) (x : ℕ) (h : Held) → RisesFrom b gs → ((g : ℕ) → has gs g ≡ true → g < count_pairs p) → AreDeclared p gs ns → x ≤ held_size h → left_of p q (published_at p gs ns) x ≤ held_size (stored_among gs ns q h)
  stores_within b [] [] x h rises all sizes l = l
  stores_within b [] (n ∷ ns) x h rises all sizes l = absurd sizes
  stores_within b (g ∷ gs) [] x h rises all sizes l = absurd sizes
  stores_within b (g ∷ gs) (n ∷ ns) x h rises all sizes l =
      subst (λ v. left_of p q (published_at p gs ns) (cond v n x) ≤ held_size (cond (nat_eq g q) (Stored n) (stored_among gs ns q h))) (sym (named g (all g (same_id g gs)))) (by (nat_eq g q) refl (stores_within (suc g) gs ns x h rises.1 others sizes.1 l))
    where
      others : (y : ℕ) → has gs y ≡ true → y < count_pairs p
      others y m = all y (or_right (nat_eq g y) (has gs y) m)

      by : (w : Bool) → nat_eq g q ≡ w → left_of p q (published_at p gs ns) x ≤ held_size (stored_among gs ns q h) → left_of p q (published_at p gs ns) (cond w n x) ≤ held_size (cond w (Stored n) (stored_among gs ns q h))
      by true e less =
          let same : g ≡ q = same_number g q e in
          let left = puts_off gs ns n others (none_low (suc g) q gs rises.1 (omega (arith, same))) in
          omega (arith, left)
      by false e less = less

  -- a failure leaves no more than is declared
  fails_within : (gs ns : List ℕ) (x m : ℕ) → ((g : ℕ) → has gs g ≡ true → g < count_pairs p) → AreOfFirst p gs ns → (has gs q ≡ true → good_size p q ≤ m) → x ≤ m → left_of p q (published_at p gs ns) x ≤ m
  fails_within [] ns x m all sizes held l = l
  fails_within (g ∷ gs) [] x m all sizes held l = l
  fails_within (g ∷ gs) (n ∷ ns) x m all sizes held l =
      fails_within gs ns (cond (is_named p q g) n x) m (λ y k. all y (or_right (nat_eq g y) (has gs y) k)) sizes.1 (λ k. held (or_right (nat_eq g q) (has gs q) k)) (subst (λ v. cond v n x ≤ m) (sym (named g (all g (same_id g gs)))) (by (nat_eq g q) refl))
    where
      by : (w : Bool) → nat_eq g q ≡ w → cond w n x ≤ m
      by true e =
          let same : g ≡ q = same_number g q e in
          let small : n ≤ good_size p q = subst (λ y. n ≤ good_size p y) same sizes.0 in
          let large = held (or_left (nat_eq g q) (has gs q) e) in
          omega (arith, small, large)
      by false e = l

  -- an Arrive leaves what it stores
  one_arrives : (z n x : ℕ) (h : Held) → z < count_pairs p → x ≤ held_size h → left_of p q (Publish (pair_site_name p z) (pair_file_name p z) n ∷ []) x ≤ held_size (cond (has (z ∷ []) q) (Stored n) h)
  one_arrives z n x h low_z l = subst (λ v. cond v n x ≤ held_size (cond (has (z ∷ []) q) (Stored n) h)) (sym (named z low_z)) (by (nat_eq z q))
    where
      by : (w : Bool) → cond w n x ≤ held_size (cond (w || false) (Stored n) h)
      by true = omega arith
      by false = l

  arrives_within : (t n x : ℕ) (h : Held) (k : Option TaskKind) → kind p t ≡ k → is_transfer_kind k ≡ true → x ≤ held_size h → left_of p q (arrived_at p k n) x ≤ held_size (cond (has (makes p t) q) (Stored n) h)
  arrives_within t n x h None e is l = absurd cc
  arrives_within t n x h (Some (Run s js)) e is l = absurd cc
  arrives_within t n x h (Some (CleanTask z)) e is l = absurd cc
  arrives_within t n x h (Some (Transfer g from Delivery)) e is l = subst (λ v. x ≤ held_size (cond v (Stored n) h)) (sym (delivery_makes p t q (Some (Transfer g from Delivery)) e refl low)) l
  arrives_within t n x h (Some (Transfer g from (Into a))) e is l =
      let found = transfer_writes p proper laws t g from a e in
      let made : makes p t ≡ found.0 ∷ [] = no_delivery p t (Some (Transfer g from (Into a))) e refl ∙ found.3 in
      let low_z : found.0 < count_pairs p = written_below p laws t found.0 (ap (λ l. has l found.0) found.3 ∙ same_id found.0 []) in
      let ops : arrived_at p (Some (Transfer g from (Into a))) n ≡ Publish (pair_site_name p found.0) (pair_file_name p found.0) n ∷ [] =
      ap (λ y. Publish (site_name p y) (file_name p g.0) n ∷ []) (sym found.1) ∙ ap (λ y. Publish (pair_site_name p found.0) (file_name p y) n ∷ []) (sym found.2) in
      subst (λ os. left_of p q os x ≤ held_size (cond (has (makes p t) q) (Stored n) h)) (sym ops) (subst (λ gs. left_of p q (Publish (pair_site_name p found.0) (pair_file_name p found.0) n ∷ []) x ≤ held_size (cond (has gs q) (Stored n) h)) (sym made) (one_arrives found.0 n x h low_z l))

  -- a Clean leaves nothing of its pair
  removes_within : (t x : ℕ) (h : Held) (k : Option TaskKind) → kind p t ≡ k → x ≤ held_size h → left_of p q (removed p k) x ≤ held_size (cond (kind_cleans k q) Nothing h)
  removes_within t x h None e l = l
  removes_within t x h (Some (Transfer g from to)) e l = l
  removes_within t x h (Some (Run s js)) e l = l
  removes_within t x h (Some (CleanTask z)) e l = subst (λ v. cond v 0 x ≤ held_size (cond (nat_eq z.0 q) Nothing h)) (sym (named z.0 (swept_below p laws t z e))) (by (nat_eq z.0 q))
    where
      by : (w : Bool) → cond w 0 x ≤ held_size (cond w Nothing h)
      by true = omega arith
      by false = l

  -- a grant reserves the declared size
  grants_within : (x : ℕ) (h : Held) (b : Bool) → x ≤ held_size h → held_size h ≤ good_size p q → x ≤ held_size (cond b (Reserved (good_size p q)) h)
  grants_within x h true l small = omega (arith, l, small)
  grants_within x h false l small = l

  -- what a task that may fail writes is reserved
  failing_held : (s : State) (w t : ℕ) → IsSoundState p s → MayFail p s w t → has (writes p t) q ≡ true → good_size p q ≤ sizes s.held q
  failing_held s w t sound (inl opened_) h =
      let reserved : held_size (s.held q) ≡ good_size p q = ap held_size (sound.running_held t q opened_.runs (writes_makes p laws t q (kind p t) refl h)) in
      omega (arith, reserved)
  failing_held s w t sound (inr clean) h =
      absurd (let k : true ≡ false = sym h ∙ (or_both (has (writes p t) q) (has (reads p t) q) (laws.cleans_only t q clean.0)).0 in cc)

  entry_within : ((t : ℕ) → RisesFrom 0 (makes p t)) → (s : State) (e : Event) (x : ℕ) → IsSoundState p s → Allowed p s e → x ≤ sizes s.held q → left_of p q (operations_of p e) x ≤ sizes (after p s e).held q
  entry_within rises s (Grant w t) x sound a l = grants_within x (s.held q) (has (makes p t) q) l (sound.small q)
  entry_within rises s (Regrant w t) x sound a l = grants_within x (s.held q) (has (makes p t) q) l (sound.small q)
  entry_within rises s (Arrive w t n) x sound a l = arrives_within t n x (s.held q) (kind p t) refl a.1 l
  entry_within rises s (End w t ns) x sound a l =
      let made = run_makes p t a.1 in
      subst (λ gs. left_of p q (published_at p (writes p t) ns) x ≤ held_size (stored_among gs ns q (s.held q))) (sym made) (stores_within 0 (writes p t) ns x (s.held q) (subst (RisesFrom 0) made (rises t)) (written_below p laws t) (subst (λ gs. AreDeclared p gs ns) made a.3) l)
  entry_within rises s (Clean w t) x sound a l = removes_within t x (s.held q) (kind p t) refl l
  entry_within rises s (Fail w t c ns) x sound a l = fails_within (writes p t) ns x (sizes s.held q) (written_below p laws t) (fail_writes p t ns (cause_published p t c ns a.2)) (failing_held s w t sound a.1) l
  entry_within rises s (Again w t c ns) x sound a l = fails_within (writes p t) ns x (sizes s.held q) (written_below p laws t) (fail_writes p t ns (cause_published p t c ns a.2)) (failing_held s w t sound a.1) l

  record_within : ((t : ℕ) → RisesFrom 0 (makes p t)) → ((s : State) (e : Event) → IsSoundState p s → Allowed p s e → IsSoundState p (after p s e)) → (s : State) (r : List Event) (x : ℕ) → IsSoundState p s → LegalFrom p s r → x ≤ sizes s.held q → left_of p q (trace_of p r) x ≤ sizes (now_from p s r).held q
  record_within rises keeps s [] x sound legal l = l
  record_within rises keeps s (e ∷ r) x sound legal l =
      subst (λ y. y ≤ sizes (now_from p (after p s e) r).held q) (sym (left_append (pair_site_name p q) (pair_file_name p q) (operations_of p e) (trace_of p r) x))
      (record_within rises keeps (after p s e) r (left_of p q (operations_of p e) x) (keeps s e sound legal.0) legal.1 (entry_within rises s e x sound legal.0 l))

-- sums
total_at_most : (v w : ℕ → ℕ) (n : ℕ) → ((q : ℕ) → q < n → v q ≤ w q) → total n v ≤ total n w
unfolding total
total_at_most v w zero h = omega arith
total_at_most v w (suc n) h = omega (arith, total_at_most v w n (λ q l. h q (omega arith)), h n (omega arith))

total_longer : (w : ℕ → ℕ) (n m : ℕ) → n ≤ m → total n w ≤ total m w
unfolding total
total_longer w n zero l = let none : n ≡ 0 = omega (arith, l) in subst (λ k. total k w ≤ 0) (sym none) (omega arith)
total_longer w n (suc m) l = by (cases_lt n (suc m)) (total_longer w n m)
  where
    by : (n < suc m) ⊎ (suc m ≤ n) → (n ≤ m → total n w ≤ total m w) → total n w ≤ total m w + w m
    by (inl below) less = let longer = less (omega (arith, below)) in omega (arith, longer)
    by (inr past) less = let same : n ≡ suc m = omega (arith, l, past) in subst (λ k. total k w ≤ total m w + w m) (sym same) (omega arith)

pairs_are_goods : (p : Plan) → count_pairs p ≤ goods p
unfolding goods
pairs_are_goods p = omega arith

at_most : (a b c : ℕ) → a ≤ b → b ≤ c → a ≤ c
at_most a b c l m = omega (arith, l, m)

lies_as : (p : Plan) (q s : ℕ) → q < count_pairs p → lies_at p q s ≡ is_at p q s
unfolding lies_at
lies_as p q s l =
    let lower : nat_lt q (count_pairs p) ≡ true = grind (arith, l) in
    ap (λ b. cond b (is_at p q s) (is_delivery p (q - count_pairs p) && nat_eq s (count_sites p))) lower

cond_at_most : (b c : Bool) (x y : ℕ) → b ≡ c → x ≤ y → cond c x 0 ≤ cond b y 0
cond_at_most true true x y e l = l
cond_at_most false false x y e l = omega arith
cond_at_most true false x y e l = absurd cc
cond_at_most false true x y e l = absurd cc

left_usage : (p : Plan) (os : List Operation) (size : ℕ → ℕ) (s : ℕ) → ((q : ℕ) → q < count_pairs p → left_of p q os 0 ≤ size q) → left_in p os s ≤ usage p size [] s
left_usage p os size s h =
    at_most (left_in p os s) (total (count_pairs p) (λ q. cond (lies_at p q s) (size q) 0)) (usage p size [] s)
    (total_at_most (λ q. cond (is_at p q s) (left_of p q os 0) 0) (λ q. cond (lies_at p q s) (size q) 0) (count_pairs p) (λ q l. cond_at_most (lies_at p q s) (is_at p q s) (left_of p q os 0) (size q) (lies_as p q s l) (h q l)))
    (total_longer (λ q. cond (lies_at p q s) (size q) 0) (count_pairs p) (goods p) (pairs_are_goods p))

legal_take : (p : Plan) (s : State) (r : List Event) (k : ℕ) → LegalFrom p s r → LegalFrom p s (take k r)
legal_take p s [] zero legal = tt
legal_take p s [] (suc k) legal = tt
legal_take p s (e ∷ r) zero legal = tt
legal_take p s (e ∷ r) (suc k) legal = (legal.0, legal_take p (after p s e) r k legal.1)

pub left_held : (p : Plan) → IsProper p → HasPlanLaws p → KeepsGoods p
    → ((s : State) (e : Event) → IsSoundState p s → Allowed p s e → IsSoundState p (after p s e))
    → ((held : ℕ → Held) (s : ℕ) → stored_at p held s + reserved_at p held s ≡ usage p (sizes held) [] s)
    → (order : List ℕ) → IsSoundState p (opened order) → (r : List Event) → LegalFrom p (opened order) r → (k s : ℕ)
    → left_in p (trace_of p (take k r)) s ≤ stored_at p (now p order (take k r)).held s + reserved_at p (now p order (take k r)).held s
left_held p proper laws keeps_goods keeps sums order sound r legal k s =
    let part = legal_take p (opened order) r k legal in
    let left = left_usage p (trace_of p (take k r)) (sizes (now p order (take k r)).held) s (λ q l. record_within p proper laws q l keeps_goods.rises keeps (opened order) (take k r) 0 sound part (omega arith)) in
    subst (λ n. left_in p (trace_of p (take k r)) s ≤ n) (sym (sums (now p order (take k r)).held s)) left
