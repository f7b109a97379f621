use Rattle.std.proofs.Common.{◌≡◌, ◌++◌, List, ℕ, true, ap, sym, subst, ◌∙◌}
use Rattle.std.specs.Prelude.{filter}
use Rattle.plan_core.specs.Numbers.{has}
use Rattle.place_peaks.specs.Peaks.{left_of, line_of}
use Rattle.lease_book.specs.RunState.{state_of}
use Rattle.lease_book.proofs.FreshLemmas.{left_in}
use Rattle.lease_book.proofs.fresh.is_candidate_at.Goals as goal

pub is_candidate-requires-clause-left : goal.is_candidate-requires-clause-left
is_candidate-requires-clause-left c =
    let s = state_of c.args.state.now in
    let left = left_of c.args.state.now.peaks in
    let line = line_of c.args.state.now.peaks in
    let is = ap (λ (front : List ℕ). front ++ filter left line) c.requires.line in
    let at = c.line_task-task.ensures in
    let on = sym c.is_left.ensures ∙ c.if-not-is_left.false in
    subst (λ (t : ℕ). has s.rest t ≡ true) (sym at) (left_in s left line c.args.k is c.requires.within (subst (λ (t : ℕ). left t ≡ true) at on))
