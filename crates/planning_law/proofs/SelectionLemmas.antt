-- The sites that are chosen by turns are one.
use Rattle.std.proofs.Common.{◌≡◌, ℕ, zero, suc, ◌<◌, true, List, [], ◌∷◌, length, get_or, refl, sym, ◌∙◌, arith}
use Rattle.std.specs.Prelude.{Option, Some, None, Result, Ok, Err, slice_get}
use Rattle.std.proofs.lemmas.List.{ext_get_or}
use Rattle.values.specs.declared.numbers.SiteId.{SiteId}
use Rattle.values.specs.declared.select_fault.SelectFault.{SelectFault}
use Rattle.workflow_core.specs.declared.workflow.Job.{Job}
use Rattle.dependency_graph.specs.Levels.{is_kept}
use Rattle.site_selector.specs.Selecting.{Gets, IsSelected, Selection, answer_of}
use Rattle.list_schedule.proofs.GraphLemmas.{by_bool}

one_got : (answer : Result SiteId SelectFault) (s t : Option SiteId) → Gets answer s → Gets answer t → s ≡ t
one_got (Ok site) s t first second = first ∙ sym second
one_got (Err fault) s t first second = absurd first

job_there : (js : List Job) (a : ℕ) → a < length js → (j : Job) × (slice_get js a ≡ Some j)
job_there [] a low = absurd (omega (arith, low))
job_there (x ∷ js) zero low = (x, refl)
job_there (x ∷ js) (suc a) low = job_there js a (omega (arith, low))

pub one_selection : (c : Selection) (one two : List (Option SiteId)) → IsSelected c one → IsSelected c two → one ≡ two
one_selection c one two first second = ext_get_or None one two (first.long ∙ sym second.long) each
  where
    at : (a : ℕ) → a < length one → is_kept c.kept a ≡ true → get_or one a None ≡ get_or two a None
    at a low on =
        let there = job_there c.jobs a (omega (arith, low, first.long)) in
        one_got (answer_of c a there.0) (get_or one a None) (get_or two a None) (first.kept a there.0 (on, there.1)) (second.kept a there.0 (on, there.1))

    each : (a : ℕ) → a < length one → get_or one a None ≡ get_or two a None
    each a low = by_bool (is_kept c.kept a) (at a low) (λ off. first.others a off ∙ sym (second.others a off))
