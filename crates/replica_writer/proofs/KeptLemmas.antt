-- No job is kept where every requested file is registered.
use Rattle.std.proofs.Common.{◌≡◌, ℕ, ◌||◌, ◌&&◌, Bool, true, false, not, cond, List, [], ◌∷◌, map, filter, Ok, Result, refl, sym, ap, subst, ◌∙◌, inl, inr, nat_eq, ◌<◌, length}
use Rattle.std.specs.Prelude.{Option, Some, find}
use Rattle.std.specs.List.{AllByRecursion, list_any}
use Rattle.std.specs.Str.{bytes_eq}
use Rattle.std.specs.Cmp.Lexicographic.{bytes_decides}
use Rattle.plan_core.specs.declared.plan.Plan.{Plan}
use Rattle.plan_core.proofs.TestLemmas.{and_both, both, either, or_left, or_right, same_number}
use Rattle.workflow_core.specs.declared.workflow.Workflow.{Workflow}
use Rattle.workflow_core.specs.Requested.{is_requested, requests}
use Rattle.workflow_core.specs.code.WellFormed.{IsJobOver}
use Rattle.workflow_core.specs.declared.workflow.Job.{Job}
use Rattle.workflow_core.specs.declared.workflow.Output.{Output}
use Rattle.dependency_graph.specs.Built.{workflow_file_name}
use Rattle.dependency_graph.specs.Edges.{written_by}
use Rattle.peg_json.specs.declared.read_fault.ReadFault.{ReadFault}
use Rattle.replica_catalog.specs.declared.catalog.Replica.{Replica}
use Rattle.replica_catalog.specs.Lookup.{has_pfn, is_of, is_registered, pfns_in}
use Rattle.replica_catalog.specs.Catalog.{CatalogEntry}
use Rattle.data_reuse.specs.Absent.{absent_in}
use Rattle.plan_core.specs.Names.{file_name}
use Rattle.site_yard.specs.declared.delivered.Delivered.{Delivered}
use Rattle.replica_writer.specs.Document.{replica}
use Rattle.replica_writer.specs.Law.{FlaggedAreHeld, KeepsNothing, ReadsBack, ReadsEnough, RegisterRequested, SaysEnough, has_file, is_flagged_as}
use Rattle.replica_writer.specs.Writer.{catalogue_line, catalogue_text, delivered_name, has_flag, is_flagged, registration, registrations}
use Rattle.replica_writer.proofs.WriterLemmas.{line_reads_back, read_utf8, text_reads_back}

-- registered and absent at once
never_both : (registered requested : Bool) → (requested ≡ true → registered ≡ true) → (not registered && requested) ≡ true → ⊥
never_both true requested all h = cc
never_both false true all h = let no : false ≡ true = all refl in cc
never_both false false all h = cc

none_wanted : (w : Workflow) (es : List Replica) → RegisterRequested w es → (fs : List ℕ) → list_any (λ f. absent_in w es false f && is_requested w f) fs ≡ true → ⊥
none_wanted w es all [] h = cc
none_wanted w es all (f ∷ fs) h = elim (either (absent_in w es false f && is_requested w f) (list_any (λ g. absent_in w es false g && is_requested w g) fs) h) [
  | inl here ↦ never_both (is_registered es (workflow_file_name w f)) (is_requested w f) (all f) here
  | inr there ↦ none_wanted w es all fs there
]

pub keeps_nothing : (w : Workflow) (es : List Replica) → RegisterRequested w es → KeepsNothing w es
keeps_nothing w es all a kept = none_wanted w es all (written_by w kept.last) kept.wanted

-- ---- the entries of what is registered

abbrev entries : Plan → List Delivered → List Replica
entries p ds = map replica (map (registration p) ds)

registers_flagged : (p : Plan) (name : List ℕ) (ds : List Delivered) → is_registered (map replica (registrations p ds)) name ≡ list_any (is_flagged_as p name) ds
registers_flagged p name [] = refl
registers_flagged p name (d ∷ ds) = by (has_flag p d) (registers_flagged p name ds)
  where
    first : (b c : Bool) (o : Option Replica) → has_pfn (pfns_in o) ≡ c → has_pfn (pfns_in (cond b (Some (replica (registration p d))) o)) ≡ (b || c)
    first true c o rest = refl
    first false c o rest = rest

    by : (b : Bool) → is_registered (entries p (filter (has_flag p) ds)) name ≡ list_any (is_flagged_as p name) ds
        → is_registered (entries p (cond b (d ∷ filter (has_flag p) ds) (filter (has_flag p) ds))) name ≡ ((b && bytes_eq name (delivered_name p d)) || list_any (is_flagged_as p name) ds)
    by true rest = first (bytes_eq name (delivered_name p d)) (list_any (is_flagged_as p name) ds) (find (is_of name) (entries p (filter (has_flag p) ds))) rest
    by false rest = rest

abbrev entries_in : Result CatalogEntry ReadFault → List Replica
entries_in (Ok c) = c.entries
entries_in _ = []

-- what a catalogue says
pub says_enough : (w : Workflow) (p : Plan) (ds : List Delivered) → SaysEnough w p ds
says_enough w p ds held = keeps_nothing w (map replica (registrations p ds)) (λ f asked. registers_flagged p (workflow_file_name w f) ds ∙ held f asked)

enough : (bytes : Plan → List Delivered → List ℕ) → ((p : Plan) (ds : List Delivered) → ReadsBack bytes p ds) → (w : Workflow) (p : Plan) (ds : List Delivered) → ReadsEnough bytes w p ds
enough bytes reads w p ds apart named digests held c is = subst (KeepsNothing w) same (says_enough w p ds held)
  where
    same : map replica (registrations p ds) ≡ c.entries
    same = ap entries_in (sym (reads p ds apart named digests (read_utf8 (bytes p ds) c is)) ∙ is)

pub text_enough : (w : Workflow) (p : Plan) (ds : List Delivered) → ReadsEnough catalogue_text w p ds
text_enough = enough catalogue_text text_reads_back

pub line_enough : (w : Workflow) (p : Plan) (ds : List Delivered) → ReadsEnough catalogue_line w p ds
line_enough = enough catalogue_line line_reads_back

-- ---- where each requested file was delivered

output_below : (n f : ℕ) (os : List Output) → AllByRecursion (λ g. g < n) (map (λ (o : Output). o.file.0) os) → list_any (λ (o : Output). o.stage_out && nat_eq o.file.0 f) os ≡ true → f < n
output_below n f [] all h = absurd cc
output_below n f (o ∷ os) all h = elim (either (o.stage_out && nat_eq o.file.0 f) (list_any (λ (q : Output). q.stage_out && nat_eq q.file.0 f) os) h) [
  | inl here ↦ subst (λ x. x < n) (same_number o.file.0 f (both o.stage_out (nat_eq o.file.0 f) here).1) all.0
  | inr there ↦ output_below n f os all.1 there
]

job_below : (n f : ℕ) (js : List Job) → AllByRecursion (IsJobOver n) js → list_any (requests f) js ≡ true → f < n
job_below n f [] all h = absurd cc
job_below n f (j ∷ js) all h = elim (either (requests f j) (list_any (requests f) js) h) [
  | inl here ↦ output_below n f j.outputs all.0.outputs here
  | inr there ↦ job_below n f js all.1 there
]

flagged_here : (p : Plan) (w : Workflow) (f g : ℕ) → f ≡ g → file_name p f ≡ workflow_file_name w f → is_flagged p f ≡ true → (is_flagged p g && bytes_eq (workflow_file_name w f) (file_name p g)) ≡ true
flagged_here p w f g same named flag =
    subst (λ x. (is_flagged p x && bytes_eq (workflow_file_name w f) (file_name p x)) ≡ true) same
    (and_both (is_flagged p f) (bytes_eq (workflow_file_name w f) (file_name p f)) flag ((bytes_decides (workflow_file_name w f) (file_name p f)).1 (sym named)))

flagged_in : (w : Workflow) (p : Plan) (f : ℕ) → file_name p f ≡ workflow_file_name w f → is_flagged p f ≡ true → (ds : List Delivered) → has_file f ds ≡ true → list_any (is_flagged_as p (workflow_file_name w f)) ds ≡ true
flagged_in w p f named flag [] h = absurd cc
flagged_in w p f named flag (d ∷ ds) h = elim (either (nat_eq d.file.0 f) (has_file f ds) h) [
  | inl here ↦ or_left (is_flagged_as p (workflow_file_name w f) d) (list_any (is_flagged_as p (workflow_file_name w f)) ds) (flagged_here p w f d.file.0 (sym (same_number d.file.0 f here)) named flag)
  | inr there ↦ or_right (is_flagged_as p (workflow_file_name w f) d) (list_any (is_flagged_as p (workflow_file_name w f)) ds) (flagged_in w p f named flag ds there)
]

pub flagged_are_held : (w : Workflow) (p : Plan) (ds : List Delivered) → FlaggedAreHeld w p ds
flagged_are_held w p ds formed delivers f asked =
    let low : f < length w.files = job_below (length w.files) f w.jobs formed.jobs asked in
    flagged_in w p f (delivers.named f low) (delivers.flagged f low asked) ds (delivers.held f low asked)
