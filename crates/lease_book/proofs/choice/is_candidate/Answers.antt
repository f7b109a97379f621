use Rattle.std.proofs.Common.{sym, ◌∙◌}
use Rattle.lease_book.specs.RunState.{state_of}
use Rattle.lease_book.proofs.TrialLemmas.{all_parents, candidate_test, not_all_parents, trial_standing}
use Rattle.lease_book.proofs.choice.is_candidate.Goals as goal

pub begin-requires-clause-task : goal.begin-requires-clause-task
begin-requires-clause-task c = c.requires.sound.safe.tasks c.args.task c.requires.left

pub is_within-requires-clause-standing : goal.is_within-requires-clause-standing
is_within-requires-clause-standing c = trial_standing c.args.plan.now (state_of c.args.state.now) c.args.task c.begin.new.self c.requires.limits c.requires.sound c.begin.ensures.place c.begin.ensures.tried

pub returns-clause-value : goal.returns-clause-value
returns-clause-value c =
    candidate_test c.args.plan.now (state_of c.args.state.now) c.args.task c.begin.new.self c.is_within.result (sym c.is_clean.ensures ∙ c.if-is_clean.false)
    (all_parents c.args.plan.now (state_of c.args.state.now) c.args.task (sym c.if-not-parents_ended.false ∙ c.parents_ended.ensures)) c.begin.ensures.tried c.is_within.ensures

pub returns-clause-tried : goal.returns-clause-tried
returns-clause-tried c = λ h. record {
  tried = c.begin.ensures.tried;
  standing = trial_standing c.args.plan.now (state_of c.args.state.now) c.args.task c.begin.new.self c.requires.limits c.requires.sound c.begin.ensures.place c.begin.ensures.tried;
  within = c.is_within.ensures.0 h;
}

pub returns-then-not-parents_ended-clause-value : goal.returns-then-not-parents_ended-clause-value
returns-then-not-parents_ended-clause-value c = (λ h. absurd cc, λ can. absurd (not_all_parents c.args.plan.now (state_of c.args.state.now) c.args.task (sym c.if-not-parents_ended.true ∙ c.parents_ended.ensures) can.parents_ended))
