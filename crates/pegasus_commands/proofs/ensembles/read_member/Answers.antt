use Rattle.std.proofs.Common.{inl}
use Rattle.pegasus_commands.specs.code.Moments.{docs_moment}
use Rattle.pegasus_commands.proofs.EnsemblesLemmas.{member_reads}
use Rattle.pegasus_commands.proofs.ensembles.read_member.Goals as goal

pub returns-in-Ok-clause-reads : goal.returns-in-Ok-clause-reads
returns-in-Ok-clause-reads g c =
    member_reads c.args.ensemble.now c.args.entry.now (docs_moment g.D.Docs c.args.docs.now) (docs_moment g.D.Docs c.fetch_documents.new.docs) c.in-Ok.requested c.survey_member.result
    (rw c.as_str.ensures at c.in-Ok.ensures.answer) (rw c.in_ok-name.ensures at c.survey_member.ensures.surveys)

pub returns-in-Err-clause-reads : goal.returns-in-Err-clause-reads
returns-in-Err-clause-reads g c = inl (record {
  fault = c.in-Err.fault;
  came = rw c.as_str.ensures at c.in-Err.ensures.answer;
  answers = rw c.in_ok-name.ensures at c.of_member.ensures;
})
