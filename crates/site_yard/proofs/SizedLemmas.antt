-- Sizes stay those of the record where drafts are published.
use Rattle.std.proofs.Common.{◌≡◌, ℕ, zero, suc, ◌+◌, ◌<◌, Bool, true, false, cond, ◌&&◌, ◌||◌, List, [], ◌∷◌, ◌++◌, map, length, take, refl, sym, ap, ◌∙◌, subst, nat_eq, arith}
use Rattle.std.specs.Prelude.{Option, Some, None, option_map, slice_get}
use Rattle.std.proofs.lemmas.List.{length-map}
use Rattle.std.proofs.lemmas.List.Folds.{list_any-append}
use Rattle.values.specs.code.SiteMap.{pair_at}
use Rattle.outside.specs.declared.store.Store.{Store}
use Rattle.outside.specs.code.Store.{changed_by}
use Rattle.outside.specs.code.Parts.{DraftState}
use Rattle.site_yard.specs.code.Returning.{placing_of, placings}
use Rattle.plan_core.specs.declared.plan.Plan.{Plan}
use Rattle.plan_core.specs.declared.plan.TaskKind.{TaskKind}
use Rattle.plan_core.specs.declared.plan.TaskKind.TheVariants.{Transfer, Run, Clean as CleanTask}
use Rattle.plan_core.specs.declared.plan.Target.TheVariants.{Site as Into, Delivery}
use Rattle.plan_core.specs.Kinds.{kind_writes, on_pair}
use Rattle.plan_core.specs.Numbers.{below, has}
use Rattle.plan_core.specs.code.Proper.{IsProper}
use Rattle.plan_core.specs.Words.{count_pairs, is_run, is_transfer_kind, kind, writes}
use Rattle.plan_core.proofs.NumbersLemmas.{below_has}
use Rattle.plan_core.proofs.TestLemmas.{both, is_itself, or_left, or_right, same_number}
use Rattle.storage_simulation.specs.declared.standing.Held.{Held}
use Rattle.storage_simulation.specs.declared.standing.Held.TheVariants.{Nothing, Reserved, Stored}
use Rattle.storage_simulation.specs.Goods.{is_delivery, is_delivery_kind, makes}
use Rattle.run_record.specs.declared.entry.Cause.{Cause}
use Rattle.run_record.specs.Events.{Arrive, End}
use Rattle.lease_rules.specs.State.{State, stored_among}
use Rattle.site_yard.specs.code.Kept.{HoldsSizes}
use Rattle.site_yard.specs.code.Law.{HasPlanLaws}
use Rattle.site_yard.specs.code.Loan.{AreDrafts, delivery_target, draft_size, pair_target, targets, targets_in}
use Rattle.plan_core.specs.Names.{pair_file_name, pair_site_name}
use Rattle.site_yard.proofs.FollowLemmas.{not_true}
use Rattle.site_yard.proofs.KeptLemmas.{KeepsSizes, failed}
use Rattle.site_yard.proofs.PlaceLemmas.{left_append, left_by, pair_changed, same, same_is, same_self}
use Rattle.site_yard.proofs.PlanLemmas.{names_apart, transfer_writes, written_below}
use Rattle.site_yard.proofs.SettleLemmas.{run_targets}
use Rattle.site_yard.proofs.SuitsLemmas.{run_makes}

-- each once
abbrev Once : List ℕ → Type 0
Once [] = Unit {0}
Once (x ∷ xs) = (has xs x ≡ false) × Once xs

neither : (a b : Bool) → (a || b) ≡ false → (a ≡ false) × (b ≡ false)
neither false false h = (refl, refl)
neither true b h = absurd cc
neither false true h = absurd cc

nil_after : (xs : List ℕ) → xs ++ [] ≡ xs
nil_after [] = refl
nil_after (x ∷ xs) = ap (λ l. x ∷ l) (nil_after xs)

turned : (x n : ℕ) → nat_eq x n ≡ false → has (n ∷ []) x ≡ false
turned x n h = grind (arith, h)

once_more : (xs : List ℕ) (n : ℕ) → Once xs → has xs n ≡ false → Once (xs ++ n ∷ [])
once_more [] n h off = (refl, tt)
once_more (x ∷ xs) n h off =
    let parts = neither (nat_eq x n) (has xs n) off in
    (list_any-append (λ y. nat_eq y x) xs (n ∷ []) ∙ ap (λ b. b || has (n ∷ []) x) h.0 ∙ turned x n parts.0, once_more xs n h.1 parts.1)

once_below : (n : ℕ) (test : ℕ → Bool) → Once (below n test)
unfolding below
once_below zero test = tt
once_below (suc n) test = by (test n) (once_below n test)
  where
    by : (b : Bool) → Once (below n test) → Once (below n test ++ cond b (n ∷ []) [])
    by true old = once_more (below n test) n old (not_true (has (below n test) n) (λ h. let l : n < n = (below_has n test n h).0 in absurd (omega (arith, l))))
    by false old = subst Once (sym (nil_after (below n test))) old

writes_once : (p : Plan) → IsProper p → (t : ℕ) → Once (writes p t)
unfolding kind writes
writes_once p proper t = subst Once (sym (proper.tasks t).writes) (once_below (count_pairs p) (λ r. on_pair (kind_writes p.jobs (kind p t)) (slice_get p.pairs r)))

-- names are one where pairs are
same_pair : (p : Plan) → IsProper p → HasPlanLaws p → (g q : ℕ) → g < count_pairs p → q < count_pairs p → (same (pair_site_name p g) (pair_site_name p q) && same (pair_file_name p g) (pair_file_name p q)) ≡ nat_eq q g
same_pair p proper laws g q lg lq = by (nat_eq q g) refl (same (pair_site_name p g) (pair_site_name p q) && same (pair_file_name p g) (pair_file_name p q)) refl
  where
    by : (e : Bool) → nat_eq q g ≡ e → (b : Bool) → (same (pair_site_name p g) (pair_site_name p q) && same (pair_file_name p g) (pair_file_name p q)) ≡ b → b ≡ e
    by true i true j = refl
    by false i false j = refl
    by false i true j =
        let x = both (same (pair_site_name p g) (pair_site_name p q)) (same (pair_file_name p g) (pair_file_name p q)) j in
        let one : g ≡ q = names_apart p proper laws g q lg lq (same_is (pair_site_name p g) (pair_site_name p q) x.0) (same_is (pair_file_name p g) (pair_file_name p q) x.1) in
        absurd (let y : true ≡ false = sym (is_itself g) ∙ ap (λ z. nat_eq z g) one ∙ i in cc)
    by true i false j =
        let one : q ≡ g = same_number q g i in
        let here : (same (pair_site_name p g) (pair_site_name p g) && same (pair_file_name p g) (pair_file_name p g)) ≡ true = ap (λ z. z && same (pair_file_name p g) (pair_file_name p g)) (same_self (pair_site_name p g)) ∙ same_self (pair_file_name p g) in
        absurd (let y : true ≡ false = sym here ∙ ap (λ z. same (pair_site_name p g) (pair_site_name p z) && same (pair_file_name p g) (pair_file_name p z)) (sym one) ∙ j in cc)

-- the size at a pair once pairs were published at sizes
abbrev placed : List ℕ → List ℕ → ℕ → Option ℕ → Option ℕ
placed [] ns g o = o
placed (q ∷ qs) [] g o = o
placed (q ∷ qs) (n ∷ ns) g o = placed qs ns g (cond (nat_eq q g) (Some n) o)

placed_none : (qs : List ℕ) (g : ℕ) (o : Option ℕ) → placed qs [] g o ≡ o
placed_none [] g o = refl
placed_none (q ∷ qs) g o = refl

placed_out : (qs ns : List ℕ) (g : ℕ) (o : Option ℕ) → has qs g ≡ false → placed qs ns g o ≡ o
placed_out [] ns g o h = refl
placed_out (q ∷ qs) [] g o h = refl
placed_out (q ∷ qs) (n ∷ ns) g o h =
    let x = neither (nat_eq q g) (has qs g) h in
    placed_out qs ns g (cond (nat_eq q g) (Some n) o) x.1 ∙ ap (λ b. cond b (Some n) o) x.0

abbrev size_in : Held → ℕ
size_in (Stored n) = n
size_in (Reserved n) = 0
size_in Nothing = 0

placed_stored : (qs ns : List ℕ) (g n : ℕ) (o : Option ℕ) (h : Held) → Once qs → stored_among qs ns g h ≡ Stored n → (h ≡ Stored n → o ≡ Some n) → placed qs ns g o ≡ Some n
placed_stored [] ns g n o h once e old = old e
placed_stored (q ∷ qs) [] g n o h once e old = old e
placed_stored (q ∷ qs) (m ∷ ns) g n o h once e old = by (nat_eq q g) refl e (λ x. placed_stored qs ns g n o h once.1 x old)
  where
    by : (b : Bool) → nat_eq q g ≡ b → cond b (Stored m) (stored_among qs ns g h) ≡ Stored n → (stored_among qs ns g h ≡ Stored n → placed qs ns g o ≡ Some n) → placed qs ns g (cond b (Some m) o) ≡ Some n
    by true i is rest = placed_out qs ns g (Some m) (subst (λ z. has qs z ≡ false) (same_number q g i) once.0) ∙ ap Some (ap size_in is)
    by false i is rest = rest is

module _ (p : Plan) (proper : IsProper p) (laws : HasPlanLaws p) (s0 : Store) (g : ℕ) (low : g < count_pairs p) where
  one_size : (q : ℕ) (d : DraftState) (x : Option (List ℕ)) → q < count_pairs p → AreDrafts (Some s0) (pair_target p q ∷ []) (d ∷ []) → option_map length (left_by (pair_site_name p g) (pair_file_name p g) (placing_of d.told) x) ≡ cond (nat_eq q g) (Some d.size) (option_map length x)
  one_size q d x lq h =
      ap (λ t. option_map length (left_by (pair_site_name p g) (pair_file_name p g) (placing_of t) x)) h.0.1
      ∙ ap (λ b. option_map length (cond b (Some h.0.0) x)) (same_pair p proper laws g q low lq)
      ∙ by (nat_eq q g)
    where
      by : (b : Bool) → option_map length (cond b (Some h.0.0) x) ≡ cond b (Some d.size) (option_map length x)
      by true = ap Some (sym h.0.2)
      by false = refl

  left_sizes : (qs : List ℕ) (ds : List DraftState) (k : ℕ) (x : Option (List ℕ)) → ((q : ℕ) → has qs q ≡ true → q < count_pairs p) → AreDrafts (Some s0) (map (pair_target p) qs) ds
      → option_map length (left_by (pair_site_name p g) (pair_file_name p g) (placings (take k ds)) x) ≡ placed qs (take k (map draft_size ds)) g (option_map length x)
  left_sizes [] [] zero x all h = refl
  left_sizes [] [] (suc k) x all h = refl
  left_sizes [] (d ∷ ds) k x all h = absurd h
  left_sizes (q ∷ qs) [] k x all h = absurd h
  left_sizes (q ∷ qs) (d ∷ ds) zero x all h = refl
  left_sizes (q ∷ qs) (d ∷ ds) (suc k) x all h =
      ap (option_map length) (left_append (pair_site_name p g) (pair_file_name p g) (placing_of d.told) (placings (take k ds)) x)
      ∙ left_sizes qs ds k (left_by (pair_site_name p g) (pair_file_name p g) (placing_of d.told) x) (λ z e. all z (or_right (nat_eq q z) (has qs z) e)) h.1
      ∙ ap (placed qs (take k (map draft_size ds)) g) (one_size q d x (all q (or_left (nat_eq q q) (has qs q) (is_itself q))) (h.0, tt))

  delivered_leaves : (name : List ℕ) (f limit : ℕ) (ds : List DraftState) (x : Option (List ℕ)) → AreDrafts (Some s0) (delivery_target p f ∷ []) ds → left_by (pair_site_name p g) (pair_file_name p g) (placings (take (length ds) ds)) x ≡ x
  delivered_leaves name f limit [] x h = absurd h
  delivered_leaves name f limit (d ∷ e ∷ ds) x h = absurd h.1
  delivered_leaves name f limit (d ∷ []) x h = ap (λ t. left_by (pair_site_name p g) (pair_file_name p g) (placing_of t ++ []) x) h.0.1

take_whole : (xs : List ℕ) (n : ℕ) → n ≡ length xs → take n xs ≡ xs
take_whole [] zero e = refl
take_whole [] (suc n) e = refl
take_whole (x ∷ xs) zero e = absurd (omega (arith, e))
take_whole (x ∷ xs) (suc n) e = ap (λ l. x ∷ l) (take_whole xs n (omega (arith, e)))

module _ (p : Plan) (proper : IsProper p) (laws : HasPlanLaws p) (st : State) (w t : ℕ) (s0 : Store) (ds : List DraftState) (sizes : List ℕ) (drafts : AreDrafts (Some s0) (targets p t) ds) (are : map draft_size ds ≡ sizes) where
  long : length ds ≡ length sizes
  long = sym (length-map ds draft_size) ∙ ap length are

  -- a Run that ends
  pub sized_end : is_run p t ≡ true → KeepsSizes p st (End w t sizes) (placings (take (length ds) ds))
  sized_end run s h g n low is =
      let over : AreDrafts (Some s0) (map (pair_target p) (writes p t)) ds = subst (λ l. AreDrafts (Some s0) l ds) (run_targets p t (kind p t) refl run) drafts in
      ap (option_map length) (pair_changed s (placings (take (length ds) ds)) (pair_site_name p g) (pair_file_name p g))
      ∙ left_sizes p proper laws s0 g low (writes p t) ds (length ds) (pair_at s.scratch (pair_site_name p g) (pair_file_name p g)) (λ q e. written_below p laws t q e) over
      ∙ ap (λ l. placed (writes p t) l g (option_map length (pair_at s.scratch (pair_site_name p g) (pair_file_name p g)))) (ap (take (length ds)) are ∙ take_whole sizes (length ds) long)
      ∙ placed_stored (writes p t) sizes g n (option_map length (pair_at s.scratch (pair_site_name p g) (pair_file_name p g))) (st.held g) (writes_once p proper t) (ap (λ l. stored_among l sizes g (st.held g)) (sym (run_makes p t run)) ∙ is) (λ e. h g n low e)

  -- a Run that was stopped: what it writes isn't stored
  stop_stays : is_run p t ≡ true → (count : ℕ) → ((g n : ℕ) → has (writes p t) g ≡ true → st.held g ≡ Stored n → ⊥) → (s : Store) → HoldsSizes p st.held s → HoldsSizes p st.held (changed_by s (placings (take count ds)))
  stop_stays run count mine s h g n low is =
      let over : AreDrafts (Some s0) (map (pair_target p) (writes p t)) ds = subst (λ l. AreDrafts (Some s0) l ds) (run_targets p t (kind p t) refl run) drafts in
      ap (option_map length) (pair_changed s (placings (take count ds)) (pair_site_name p g) (pair_file_name p g))
      ∙ left_sizes p proper laws s0 g low (writes p t) ds count (pair_at s.scratch (pair_site_name p g) (pair_file_name p g)) (λ q e. written_below p laws t q e) over
      ∙ placed_out (writes p t) (take count (map draft_size ds)) g (option_map length (pair_at s.scratch (pair_site_name p g) (pair_file_name p g))) (not_true (has (writes p t) g) (λ e. mine g n e is))
      ∙ h g n low is

  pub sized_stop : is_run p t ≡ true → (again : Bool) (cause : Cause) (ns : List ℕ) (count : ℕ) → ((g n : ℕ) → has (writes p t) g ≡ true → st.held g ≡ Stored n → ⊥) → KeepsSizes p st (failed again w t cause ns) (placings (take count ds))
  sized_stop run true cause ns count mine = stop_stays run count mine
  sized_stop run false cause ns count mine = stop_stays run count mine

  -- a Transfer that arrives
  pub sized_arrive : (size : ℕ) (k : Option TaskKind) → kind p t ≡ k → is_transfer_kind k ≡ true → sizes ≡ size ∷ [] → KeepsSizes p st (Arrive w t size) (placings (take (length ds) ds))
  unfolding makes is_delivery
  sized_arrive size None e m one s h g n low is = absurd cc
  sized_arrive size (Some (Run a js)) e m one s h g n low is = absurd cc
  sized_arrive size (Some (CleanTask q)) e m one s h g n low is = absurd cc
  sized_arrive size (Some (Transfer f from Delivery)) e m one s h g n low is =
      let over : AreDrafts (Some s0) (delivery_target p f.0 ∷ []) ds = subst (λ z. AreDrafts (Some s0) (targets_in p z (writes p t)) ds) e drafts in
      let off : has ((count_pairs p + t) ∷ []) g ≡ false = grind (arith, low) in
      let held : st.held g ≡ Stored n = sym (ap (λ b. cond b (Stored size) (st.held g)) (ap (λ (z : Option TaskKind). has (cond (is_delivery_kind z) ((count_pairs p + t) ∷ []) (writes p t)) g) e ∙ off)) ∙ is in
      ap (option_map length) (pair_changed s (placings (take (length ds) ds)) (pair_site_name p g) (pair_file_name p g)
      ∙ delivered_leaves p proper laws s0 g low [] f.0 0 ds (pair_at s.scratch (pair_site_name p g) (pair_file_name p g)) over)
      ∙ h g n low held
  sized_arrive size (Some (Transfer f from (Into a))) e m one s h g n low is =
      let found = transfer_writes p proper laws t f from a e in
      let q : ℕ = found.0 in
      let over : AreDrafts (Some s0) (map (pair_target p) (writes p t)) ds = subst (λ z. AreDrafts (Some s0) (targets_in p z (writes p t)) ds) e drafts in
      let made : has (cond (is_delivery_kind (kind p t)) ((count_pairs p + t) ∷ []) (writes p t)) g ≡ has (q ∷ []) g = ap (λ (z : Option TaskKind). has (cond (is_delivery_kind z) ((count_pairs p + t) ∷ []) (writes p t)) g) e ∙ ap (λ l. has l g) found.3 in
      ap (option_map length) (pair_changed s (placings (take (length ds) ds)) (pair_site_name p g) (pair_file_name p g))
      ∙ left_sizes p proper laws s0 g low (writes p t) ds (length ds) (pair_at s.scratch (pair_site_name p g) (pair_file_name p g)) (λ q e. written_below p laws t q e) over
      ∙ ap (λ l. placed (writes p t) l g (option_map length (pair_at s.scratch (pair_site_name p g) (pair_file_name p g)))) (ap (take (length ds)) are ∙ take_whole sizes (length ds) long ∙ one)
      ∙ ap (λ l. placed l (size ∷ []) g (option_map length (pair_at s.scratch (pair_site_name p g) (pair_file_name p g)))) found.3
      ∙ by (nat_eq q g) (pair_at s.scratch (pair_site_name p g) (pair_file_name p g)) (λ x. h g n low x) (sym (ap (λ b. cond b (Stored size) (st.held g)) made) ∙ is)
    where
      by : (b : Bool) (x : Option (List ℕ)) → (st.held g ≡ Stored n → option_map length x ≡ Some n) → cond (b || false) (Stored size) (st.held g) ≡ Stored n → cond b (Some size) (option_map length x) ≡ Some n
      by true x old i = ap Some (ap size_in i)
      by false x old i = old i
