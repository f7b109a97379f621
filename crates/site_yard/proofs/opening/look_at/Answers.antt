use Rattle.std.proofs.Common.{refl, sym, ◌∙◌}
use Rattle.site_yard.proofs.OpenLemmas.{in_use, looked, not_looked}
use Rattle.site_yard.proofs.opening.look_at.Goals as goal

pub returns-then-not-is_used-clause-answer : goal.returns-then-not-is_used-clause-answer
returns-then-not-is_used-clause-answer g c = not_looked c.args.plan.now c.args.site.0 _ _ (sym c.is_used.ensures ∙ c.if-not-is_used.true)

pub returns-in-Ok-true-clause-answer : goal.returns-in-Ok-true-clause-answer
returns-in-Ok-true-clause-answer g c = looked c.args.plan.now c.args.site.0 _ _ c.in-Ok-true.field-0 _ _ c.site_name.ensures (sym c.is_used.ensures ∙ c.if-not-is_used.false) c.in-Ok-true.field-0-test c.in-Ok-true.ensures.answer

pub returns-in-Ok-false-clause-answer : goal.returns-in-Ok-false-clause-answer
returns-in-Ok-false-clause-answer g c =
    let found = in_use c.args.plan.now c.args.site.0 _ _ c.in-Ok-false.field-0 _ _ c.site_name.ensures (sym c.is_used.ensures ∙ c.if-not-is_used.false) c.in-Ok-false.field-0-test c.in-Ok-false.ensures.answer in
    (refl, found.0, found.1)
