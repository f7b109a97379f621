use Rattle.craft.specs.declared.crew.Crew.{Crew}
use Rattle.plan_run.specs.code.Moments.{member_moment}
use Rattle.pegasus_commands.proofs.CrewLemmas.{all_stay, first_alone, first_is, first_set, members_stay, none_left, rest_stays}
use Rattle.pegasus_commands.proofs.commands.work.Goals as goal

pub returns-in-Resume-clause-does : goal.returns-in-Resume-clause-does
returns-in-Resume-clause-does g c = rw c.in-Resume.is c.work.ensures.does

pub returns-in-Resume-clause-others : goal.returns-in-Resume-clause-others
returns-in-Resume-clause-others g c = rw c.in-Resume.is (none_left c.work.new.crew.items c.args.crew.now.items c.work.ensures.crew c.requires.crew)

pub returns-in_default-clause-does : goal.returns-in_default-clause-does
returns-in_default-clause-does g c =
    let shown = member_moment g.T.Tool g.G.Gate in
    let old = c.args.crew.now.items in
    let first = c.index_mut.result.now in
    let last = c.work_by_first.new.crew in
    let before = first_is shown old first c.requires.crew c.index_mut.ensures.value in
    let after = first_set shown old last c.requires.crew in
    rw (before, after) (c.work_by_first.ensures.does _ (λ e r f. members_stay g.T.Tool g.G.Gate old first last c.index_mut.ensures.value c.work_by_first.ensures.gate e r f))

pub returns-in_default-clause-others : goal.returns-in_default-clause-others
returns-in_default-clause-others g c =
    rw (first_alone c.args.command (λ request history e. c.in_default.not-Resume request history e)) (rest_stays c.args.crew.now.items c.work_by_first.new.crew)

pub returns-in_default-clause-gates : goal.returns-in_default-clause-gates
returns-in_default-clause-gates g c =
    all_stay (λ (m : Crew g.row.T.Denot g.row.G.Denot). g.G.Gate.asked m.gate) c.args.crew.now.items c.index_mut.result.now c.work_by_first.new.crew c.index_mut.ensures.value c.work_by_first.ensures.gate

pub work_by_first-requires-clause-first : goal.work_by_first-requires-clause-first
work_by_first-requires-clause-first g c = first_alone c.args.command (λ request history e. c.in_default.not-Resume request history e)
