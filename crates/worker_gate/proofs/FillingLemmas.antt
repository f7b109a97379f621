-- What the filling of a loan comes to: it can be settled, or abandoned.
use Rattle.std.proofs.Common.{◌≡◌, ℕ, ◌+◌, ◌≤◌, List, [], ◌∷◌, ◌++◌, map, length, take, drop, refl, sym, ap, ◌∙◌, subst, arith}
use Rattle.std.proofs.lemmas.List.{length-map}
use Rattle.std.specs.Prelude.{Option, Some, None, Result, Ok, Err}
use Rattle.std.specs.FinMap as files
use Rattle.values.specs.Apply.{Apply}
use Rattle.outside.specs.code.Counts.{Rose}
use Rattle.outside.specs.code.Parts.{DraftState, ReadState, part_faults}
use Rattle.outside.specs.declared.store.Store.{Store}
use Rattle.plan_core.specs.declared.plan.Plan.{Plan}
use Rattle.plan_core.specs.code.Proper.{IsProper}
use Rattle.plan_core.specs.Words.{kind}
use Rattle.run_record.specs.declared.entry.Cause.{Cause}
use Rattle.run_record.specs.declared.entry.Cause.TheVariants as why
use Rattle.run_record.specs.Events.{Event}
use Rattle.lease_rules.specs.Legal.{CauseFits}
use Rattle.site_yard.specs.Changes.{carries}
use Rattle.lease_rules.specs.code.Causes.{fault_in}
use Rattle.site_yard.specs.code.Failures.{RoseBy}
use Rattle.site_yard.specs.code.Kept.{IsOpening}
use Rattle.site_yard.specs.code.Law.{HasPlanLaws}
use Rattle.site_yard.specs.code.Truthful.{IsCause}
use Rattle.site_yard.specs.code.Yard.{IsBehind, IsTold, IsWorkers}
use Rattle.task_work.specs.Filling.{IsWhy}
use Rattle.task_work.specs.Making.{Each, IsShown}
use Rattle.task_work.specs.Pieces.{IsSteadyDraft}
use Rattle.task_work.specs.declared.filling.Filled.{Filled}
use Rattle.task_work.specs.declared.filling.Filled.TheVariants.{Moved, Made}
use Rattle.worker_gate.specs.code.Inputs.{IsFilledOf}
use Rattle.worker_gate.specs.code.Tending.{CanFinish, Fills, IsHeld, failures_in}
use Rattle.worker_gate.proofs.LoanLemmas.{no_faults, steady_loan, steady_many, still_whole}
use Rattle.worker_gate.proofs.MadeLemmas.{CarryLaw, declined_so, job_run, made_settles, overlong_so}
use Rattle.worker_gate.proofs.MovedLemmas.{checksum_so, digest_of_bytes, moved_bytes, moved_settles}
use Rattle.worker_gate.proofs.SmallLemmas.{lent}
use Rattle.worker_gate.proofs.WorkLemmas.{told_rose, wide}

-- a cause that filling tells is a worker's
workers : (apply : Apply) (p : Plan) (t : ℕ) (rs : List ReadState) (ds es : List DraftState) (c : Cause) → IsWhy apply p t rs ds es c → IsWorkers c
workers apply p t rs ds es why.Absent h = h
workers apply p t rs ds es (why.TooLong n) h = h
workers apply p t rs ds es c h = tt

-- the counts of the parts, which were 0, are what the cause lays on the host
behind : (rs : List ReadState) (ds : List DraftState) (before x y : ℕ) (c : Cause) → before ≡ 0 → IsShown before (part_faults rs ds) x y c → part_faults rs ds ≤ before + fault_in c → IsBehind rs ds c
behind rs ds before x y why.HostFailed none h few = omega (arith, none, h, few)
behind rs ds before x y why.Absent none h few = still_whole before (part_faults rs ds) none few
behind rs ds before x y (why.TooLong n) none h few = still_whole before (part_faults rs ds) none few
behind rs ds before x y (why.Checksum d) none h few = still_whole before (part_faults rs ds) none few
behind rs ds before x y (why.Oversize j f n) none h few = still_whole before (part_faults rs ds) none few
behind rs ds before x y (why.Declined j) none h few = still_whole before (part_faults rs ds) none few
behind rs ds before x y (why.ToolFailed j) none h few = still_whole before (part_faults rs ds) none few
behind rs ds before x y why.Memory none h few = still_whole before (part_faults rs ds) none few

module _ (apply : Apply) (p : Plan) (proper : IsProper p) (laws : HasPlanLaws p) (law : CarryLaw apply) (first : List Event) (m : Store) (t : ℕ) (rs0 rs1 : List ReadState) (ds0 ds1 : List DraftState) where
  cause_so : (s : Store) (c : Cause) → IsHeld apply p first m (Some s) t rs0 ds0 → IsOpening apply p first m → IsWhy apply p t rs0 ds0 ds1 c → CauseFits p t c [] → IsCause apply (λ pfn. files.get m.replicas pfn) p (carries apply p m) t c
  cause_so s why.Absent held opening h fits = absurd h
  cause_so s (why.TooLong n) held opening h fits = absurd h
  cause_so s (why.Checksum d) held opening h fits = checksum_so apply p proper laws first m t s rs0 ds0 ds1 h.0 d fits.0 held opening h.1
  cause_so s (why.Oversize j f n) held opening h fits = overlong_so apply p proper laws law first m t (job_run (kind p t) j.0 fits.0) s rs0 ds0 j.0 f.0 n held opening h
  cause_so s (why.Declined j) held opening h fits = declined_so apply p proper laws law first m t (job_run (kind p t) j.0 fits.0) s rs0 ds0 j.0 held opening h
  cause_so s (why.ToolFailed j) held opening h fits = tt
  cause_so s why.HostFailed held opening h fits = tt
  cause_so s why.Memory held opening h fits = tt

  told_so : (o : Option Store) (c : Cause) → IsHeld apply p first m o t rs0 ds0 → IsWhy apply p t rs0 ds0 ds1 c → CauseFits p t c [] → IsOpening apply p first m → IsTold apply p m o t c
  told_so None c held h fits opening = tt
  told_so (Some s) c held h fits opening = cause_so s c held opening h fits

  pub fills_finish : (o : Option Store) (x y : ℕ) (result : Result Filled Cause) → IsHeld apply p first m o t rs0 ds0 → Fills apply p t rs0 rs1 ds0 ds1 x y result → CanFinish apply p first m o t rs1 ds1 result
  fills_finish o x y (Ok (Moved n given)) held fills = moved_settles apply p proper laws first m t fills.filled.0 o rs0 rs1 ds0 ds1 n given held fills.filled.1 (still_whole (part_faults rs0 ds0) (part_faults rs1 ds1) (no_faults apply p proper laws first m t o rs0 ds0 held) fills.once) fills.readings fills.drafts
  fills_finish o x y (Ok (Made sizes)) held fills = made_settles apply p proper laws law first m t fills.filled.0 o rs0 rs1 ds0 ds1 sizes.items held fills.filled.1 (still_whole (part_faults rs0 ds0) (part_faults rs1 ds1) (no_faults apply p proper laws first m t o rs0 ds0 held) fills.once) fills.readings fills.drafts
  fills_finish o x y (Err c) held fills = record {
    loan = steady_loan apply p proper laws first m t o rs0 rs1 ds0 ds1 held fills.readings fills.drafts;
    kind_is = workers apply p t rs0 ds0 ds1 c fills.why;
    fits = fills.fits;
    shown = behind rs1 ds1 (part_faults rs0 ds0) x y c (no_faults apply p proper laws first m t o rs0 ds0 held) fills.shown fills.once;
    is_told = told_so o c held fills.why fills.fits;
  }

  -- told or not, what was filled is of some such bytes
  why_of : (o : Option Store) (c : Cause) → IsHeld apply p first m o t rs0 ds0 → IsWhy apply p t rs0 ds0 ds1 c → CauseFits p t c [] → IsFilledOf apply p t (Err c)
  why_of o why.Absent held h fits = tt
  why_of o (why.TooLong n) held h fits = tt
  why_of o (why.Checksum d) held h fits = digest_of_bytes apply p proper laws first m t o rs0 ds0 ds1 h.0 d fits.0 held h.1
  why_of o (why.Oversize j f n) held h fits = record { blobs = h.blobs; many = h.many; holds = (h.holds.0, h.holds.1, (h.holds.2.pair, h.holds.2.first, h.holds.2.file)) }
  why_of o (why.Declined j) held h fits = record { blobs = h.blobs; many = h.many; holds = h.holds }
  why_of o (why.ToolFailed j) held h fits = tt
  why_of o why.HostFailed held h fits = tt
  why_of o why.Memory held h fits = tt

  pub fills_of : (o : Option Store) (x y : ℕ) (result : Result Filled Cause) → IsHeld apply p first m o t rs0 ds0 → Fills apply p t rs0 rs1 ds0 ds1 x y result → IsFilledOf apply p t result
  fills_of o x y (Ok (Moved n given)) held fills = (fills.filled.0, moved_bytes p t rs0 ds0 ds1 n given fills.filled.0 fills.filled.1)
  fills_of o x y (Ok (Made sizes)) held fills =
      let made = fills.filled.1 in
      (fills.filled.0, record { blobs = made.blobs; many = made.many; holds = (made.holds.outs, made.holds.made, (made.holds.within, made.holds.sizes_are)) })
  fills_of o x y (Err c) held fills = why_of o c held fills.why fills.fits

-- how the tool's count shows what was filled
pub fills_rose : (apply : Apply) (p : Plan) (t : ℕ) (rs0 rs1 : List ReadState) (ds0 ds1 : List DraftState) (x y : ℕ) (result : Result Filled Cause) → Fills apply p t rs0 rs1 ds0 ds1 x y result → RoseBy (failures_in result) x y
fills_rose apply p t rs0 rs1 ds0 ds1 x y (Ok filled) fills = wide 0 x y refl fills.tool
fills_rose apply p t rs0 rs1 ds0 ds1 x y (Err c) fills = told_rose c x y fills.tool (λ j e. shown_tool (part_faults rs0 ds0) (part_faults rs1 ds1) x y c j e fills.shown)
  where
    shown_tool : (a b x y : ℕ) (c : Cause) (j : _) → c ≡ why.ToolFailed j → IsShown a b x y c → Rose x y
    shown_tool a b x y c j e h = subst (IsShown a b x y) e h

steady_drafts_many : (ds es : List DraftState) → Each IsSteadyDraft ds es → length es ≡ length ds
steady_drafts_many [] [] h = refl
steady_drafts_many [] (e ∷ es) h = absurd h
steady_drafts_many (d ∷ ds) [] h = absurd h
steady_drafts_many (d ∷ ds) (e ∷ es) h = let more = steady_drafts_many ds es h.1 in omega (arith, more)

-- parts that were lent as slices
back : {X S : Type 0} (state : X → S) (old slice new : List X) (n : ℕ) → slice ≡ old → length slice ≡ n → length (map state new) ≡ length (map state slice) → map state new ≡ map state (take n (new ++ drop (length new) old))
back state old slice new n same many steady = ap (map state) (lent n new old (sym (length-map new state) ∙ steady ∙ length-map slice state ∙ many))

pub fills_lent : {I O : Type 0} (reading : I → ReadState) (draft : O → DraftState) (apply : Apply) (p : Plan) (t : ℕ) (rs slice_rs new_rs : List I) (n : ℕ) (ds slice_ds new_ds : List O) (k : ℕ) (x y : ℕ) (result : Result Filled Cause)
    → slice_rs ≡ rs → length slice_rs ≡ n → slice_ds ≡ ds → length slice_ds ≡ k → Fills apply p t (map reading slice_rs) (map reading new_rs) (map draft slice_ds) (map draft new_ds) x y result
    → Fills apply p t (map reading rs) (map reading (take n (new_rs ++ drop (length new_rs) rs))) (map draft ds) (map draft (take k (new_ds ++ drop (length new_ds) ds))) x y result
fills_lent reading draft apply p t rs slice_rs new_rs n ds slice_ds new_ds k x y result same_rs many_rs same_ds many_ds fills =
    subst (λ (l : List ReadState). Fills apply p t (map reading rs) l (map draft ds) (map draft (take k (new_ds ++ drop (length new_ds) ds))) x y result)
    (back reading rs slice_rs new_rs n same_rs many_rs (steady_many (map reading slice_rs) (map reading new_rs) fills.readings))
    (subst (λ (l : List DraftState). Fills apply p t (map reading rs) (map reading new_rs) (map draft ds) l x y result)
    (back draft ds slice_ds new_ds k same_ds many_ds (steady_drafts_many (map draft slice_ds) (map draft new_ds) fills.drafts))
    (subst (λ l. Fills apply p t (map reading l) (map reading new_rs) (map draft ds) (map draft new_ds) x y result) same_rs
    (subst (λ l. Fills apply p t (map reading slice_rs) (map reading new_rs) (map draft l) (map draft new_ds) x y result) same_ds fills)))

-- the same of a yard after the loan was made
pub finish_then : (apply : Apply) (p q : Plan) (first then : List Event) (m n : Store) (o u : Option Store) (t : ℕ) (rs : List ReadState) (ds : List DraftState) (result : Result Filled Cause) → q ≡ p → then ≡ first → n ≡ m → u ≡ o → CanFinish apply p first m o t rs ds result → CanFinish apply q then n u t rs ds result
finish_then apply p q first then m n o u t rs ds result plan entries marked told h =
    subst (λ (z : Plan). CanFinish apply z then n u t rs ds result) (sym plan)
    (subst (λ (z : List Event). CanFinish apply p z n u t rs ds result) (sym entries)
    (subst (λ (z : Store). CanFinish apply p first z u t rs ds result) (sym marked)
    (subst (λ (z : Option Store). CanFinish apply p first m z t rs ds result) (sym told) h)))
