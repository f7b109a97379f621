use Rattle.std.specs.Prelude.{Ok}
use Rattle.pegasus_commands.specs.code.Course.{document, if_named}
use Rattle.pegasus_commands.proofs.CourseLemmas.{step_end, step_stop, step_then}
use Rattle.pegasus_commands.proofs.course.fetch_all.Goals as goal

pub returns-in-Err : goal.returns-in-Err
returns-in-Err g c =
    let workflow = rw c.as_str.ensures at c.in-Err.ensures in
    step_stop (document c.args.request.now.workflow Ok) _ _ _ c.in-Err.fault workflow

pub returns-in-Err-fetch_if_named : goal.returns-in-Err-fetch_if_named
returns-in-Err-fetch_if_named g c =
    let workflow = rw c.as_str.ensures at c.in-Ok.ensures in
    step_then (document c.args.request.now.workflow Ok) _ _ _ _ _ _ workflow (step_stop (if_named c.args.request.now.sites) _ _ _ _ c.in-Err-fetch_if_named.ensures)

pub returns-in-Err-fetch_if_named-2 : goal.returns-in-Err-fetch_if_named-2
returns-in-Err-fetch_if_named-2 g c =
    let workflow = rw c.as_str.ensures at c.in-Ok.ensures in
    step_then (document c.args.request.now.workflow Ok) _ _ _ _ _ _ workflow
    (step_then (if_named c.args.request.now.sites) _ _ _ _ _ _ c.in-Ok-fetch_if_named.ensures (step_stop (if_named c.args.request.now.replicas) _ _ _ _ c.in-Err-fetch_if_named-2.ensures))

pub returns-in-Ok-fetch_if_named-3 : goal.returns-in-Ok-fetch_if_named-3
returns-in-Ok-fetch_if_named-3 g c =
    let workflow = rw c.as_str.ensures at c.in-Ok.ensures in
    step_then (document c.args.request.now.workflow Ok) _ _ _ _ _ _ workflow
    (step_then (if_named c.args.request.now.sites) _ _ _ _ _ _ c.in-Ok-fetch_if_named.ensures
    (step_then (if_named c.args.request.now.replicas) _ _ _ _ _ _ c.in-Ok-fetch_if_named-2.ensures
    (step_then (if_named c.args.request.now.transformations) _ _ _ _ _ _ c.in-Ok-fetch_if_named-3.ensures (step_end _ _))))

pub returns-in-Err-fetch_if_named-3 : goal.returns-in-Err-fetch_if_named-3
returns-in-Err-fetch_if_named-3 g c =
    let workflow = rw c.as_str.ensures at c.in-Ok.ensures in
    step_then (document c.args.request.now.workflow Ok) _ _ _ _ _ _ workflow
    (step_then (if_named c.args.request.now.sites) _ _ _ _ _ _ c.in-Ok-fetch_if_named.ensures
    (step_then (if_named c.args.request.now.replicas) _ _ _ _ _ _ c.in-Ok-fetch_if_named-2.ensures
    (step_stop (if_named c.args.request.now.transformations) _ _ _ _ c.in-Err-fetch_if_named-3.ensures)))
