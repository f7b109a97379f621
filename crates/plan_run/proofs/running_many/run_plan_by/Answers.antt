use Rattle.std.proofs.Common.{[], List, ◌++◌, ◌∙◌, ap, refl}
use Rattle.craft.specs.declared.crew.Crew.{Crew}
use Rattle.plan_core.specs.Words.{task_numbers}
use Rattle.plan_run.specs.Moments.{MemberMoment}
use Rattle.plan_run.specs.code.Moments.{counting, crew_moment, first_shown, member_moment, work_moment, working}
use Rattle.plan_run.specs.code.Running.{reporting}
use Rattle.plan_run.proofs.CrewLemmas.{many_of}
use Rattle.plan_run.proofs.MembersLemmas.{others_stay, taken_many}
use Rattle.plan_run.proofs.RunningLemmas.{no_room}
use Rattle.plan_run.proofs.running_many.run_plan_by.Goals as goal

pub returns-in-Ok-clause-ran : goal.returns-in-Ok-clause-ran
returns-in-Ok-clause-ran g c =
    let n = c.args.workers in
    let o = c.args.ordered in
    let taken = c.in-Ok.ensures.taken in
    let crew = c.args.crew.now.items in
    let members = c.in-Ok.members.items in
    let back = c.run_members-ran.result.members.items in
    let ran = c.run_members-ran.result.ran in
    many_of (member_moment g.T.Tool g.G.Gate) crew c.put_back.new.crew.items members back n
    (λ (x y : MemberMoment). working g.T.Tool.apply g.T.Tool.known (work_moment g.H.Host c.args.host x) (work_moment g.H.Host ran.host y))
    o.plan (task_numbers o.tasks.items) (reporting ran.history ran.text.items ran.delivered.items) ran.end taken.0 (taken_many crew members n taken.0 c.requires.crew c.requires.workers.1) c.requires.workers.0 c.run_members-ran.ensures.members
    (c.put_back.ensures ∙ ap (λ (rest : List (Crew g.row.T.Denot g.row.G.Denot)). back ++ rest) taken.1)
    c.run_members-ran.ensures.ran

pub returns-in-Ok-clause-others : goal.returns-in-Ok-clause-others
returns-in-Ok-clause-others g c =
    let taken = c.in-Ok.ensures.taken in
    let crew = c.args.crew.now.items in
    let members = c.in-Ok.members.items in
    let back = c.run_members-ran.result.members.items in
    others_stay c.args.workers crew c.put_back.new.crew.items back members
    (c.put_back.ensures ∙ ap (λ (rest : List (Crew g.row.T.Denot g.row.G.Denot)). back ++ rest) taken.1) c.run_members-ran.ensures.members
    (taken_many crew members c.args.workers taken.0 c.requires.crew c.requires.workers.1)

pub returns-in-Err-clause-ran : goal.returns-in-Err-clause-ran
returns-in-Err-clause-ran g c =
    let o = c.args.ordered in
    let order = task_numbers o.tasks.items in
    let fits = c.ordered_plans_fit.ensures o in
    let old = crew_moment g.T.Tool g.G.Gate c.args.crew.now.items in
    let moment = work_moment g.H.Host c.args.host (first_shown old) in
    let w = working g.T.Tool.apply g.T.Tool.known moment moment in
    rw (c.out_of_memory.ensures.host, c.out_of_memory.ensures.end, c.in-Err.ensures.refused)
    (∣ no_room w (counting old old) c.args.workers o.plan order (reporting c.out_of_memory.result.history c.out_of_memory.result.text.items c.out_of_memory.result.delivered.items)
    (record {
      safe = λ n. c.legal_records_are_safe.ensures.always o.plan order [] o.proper fits tt n;
      output = c.deliveries_stay_within_the_output.ensures o.plan order [] o.proper fits tt;
      left = λ n site. c.what_is_left_is_held.ensures o.plan order [] o.proper fits tt n site;
    })
    refl refl refl ∣₁)
