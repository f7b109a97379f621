use Rattle.pegasus_commands.specs.code.Ensembles.{HasMembers}
use Rattle.pegasus_commands.specs.code.Moments.{docs_moment}
use Rattle.pegasus_commands.proofs.EnsemblesLemmas.{unjoined}
use Rattle.pegasus_commands.proofs.ensembles.read_joint.Goals as goal

pub returns-in-Err-join_members-clause-stops : goal.returns-in-Err-join_members-clause-stops
returns-in-Err-join_members-clause-stops g c =
    let e = c.in-Ok.ensemble in
    let ms = c.in-Ok-read_members.members.items in
    let start = docs_moment g.D.Docs c.args.docs.now in
    let mid = docs_moment g.D.Docs c.fetch_ensemble.new.docs in
    let now = docs_moment g.D.Docs c.read_members.new.docs in
    let has : HasMembers c.args.name.now start now e ms = record { mid = mid; came = c.in-Ok.ensures.answer; read = c.in-Ok-read_members.ensures.read } in
    unjoined c.args.name.now start now e ms c.in-Err-join_members.fault has (rw c.deref.ensures.value at c.in-Err-join_members.ensures.unjoined)
