use Rattle.std.proofs.Common.{◌≡◌, ℕ, List, [], get_or, true, sym, ap, ◌∙◌, arith, below_more}
use Rattle.std.proofs.lemmas.List.{get_or_read}
use Rattle.rehearsal.specs.Registered.{is_free}
use Rattle.rehearsal.proofs.registered.are_free.Goals as goal

pub loop-number-preserved : goal.loop-number-preserved
loop-number-preserved c =
    let w = c.args.workflow.now in
    let es = c.args.replicas.now in
    let i = c.loop-number.number in
    let list = c.as_slice-files.result.now in
    let named : c.index-files-number.result ≡ get_or w.files i [] =
    get_or_read list i c.index-files-number.result (omega arith) c.index-files-number.is [] ∙ ap (λ (l : List (List ℕ)). get_or l i []) c.as_slice-files.ensures in
    below_more (λ (f : ℕ). is_free w es f (get_or w.files f []) ≡ true) i c.loop-number.invariant
    (ap (is_free w es i) (sym named) ∙ sym c.is_free.ensures ∙ c.if-not-is_free.false)
