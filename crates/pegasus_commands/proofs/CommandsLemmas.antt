-- What is said of every command, command by command.
use Rattle.std.proofs.Common.{inl, refl, arith}
use Rattle.std.specs.Prelude.{Err}
use Rattle.pegasus_commands.specs.declared.fault.CallFault.TheVariants.{Memory}
use Rattle.pegasus_commands.specs.code.Course.{Course, IsStep, documents, documents_with}
use Rattle.pegasus_commands.specs.code.Ensembles.{ensemble_document}
use Rattle.pegasus_commands.specs.Moments.{DocsMoment}
use Rattle.pegasus_commands.specs.code.Commands.{quick_spec, spec_of, threaded_spec}
use Rattle.pegasus_commands.specs.code.CommandSpec.{Finishes}
use Rattle.command_words.specs.code.Words.{Command, Quick, Check, Plan, Eval, Alone, Audit, Stat, Resume, Produce, Schedule, Ensemble, Rehearse, Quickly, InThreads}
use Rattle.command_words.specs.Words.{Threaded, Run, EnsembleBy, RehearseBy}
use Rattle.pegasus_commands.proofs.AloneLemmas.{alone_finishes}
use Rattle.pegasus_commands.proofs.AuditLemmas.{NoneMalformed, OneRecord, audit_finishes, stat_finishes}
use Rattle.pegasus_commands.proofs.CheckLemmas.{check_finishes}
use Rattle.pegasus_commands.proofs.EnsembleRunLemmas.{ensemble_by_finishes, ensemble_finishes}
use Rattle.pegasus_commands.proofs.EvalLemmas.{EvaluationsFinish, eval_finishes}
use Rattle.pegasus_commands.proofs.PlanLemmas.{plan_finishes}
use Rattle.pegasus_commands.proofs.PlanRunLemmas.{RunsFinish}
use Rattle.pegasus_commands.proofs.ProduceLemmas.{produce_finishes}
use Rattle.pegasus_commands.proofs.RehearseLemmas.{rehearse_by_finishes, rehearse_finishes, unmade}
use Rattle.pegasus_commands.proofs.ResumeLemmas.{ResumesFinish, resume_finishes}
use Rattle.pegasus_commands.proofs.RunLemmas.{run_finishes}
use Rattle.pegasus_commands.proofs.ScheduleLemmas.{schedule_finishes}

-- what the commands take of the crates below
pub record Laws : Type 0 where
  pub runs : RunsFinish
  pub evaluations : EvaluationsFinish
  pub records : NoneMalformed
  pub one_record : OneRecord
  pub resumed : ResumesFinish

quick_finishes : Laws → (q : Quick) → Finishes (quick_spec q)
quick_finishes law (Check name) = check_finishes name
quick_finishes law (Plan name) = plan_finishes name
quick_finishes law (Eval name) = eval_finishes law.evaluations name
quick_finishes law (Alone name) = alone_finishes law.runs name
quick_finishes law (Audit name history) = audit_finishes law.records name history
quick_finishes law (Stat name history) = stat_finishes law.records name history
quick_finishes law (Resume name history) = resume_finishes law.resumed law.records law.one_record name history
quick_finishes law (Produce name) = produce_finishes law.runs name
quick_finishes law (Schedule name) = schedule_finishes name
quick_finishes law (Ensemble name) = ensemble_finishes law.runs name
quick_finishes law (Rehearse images) = rehearse_finishes law.runs images

threaded_finishes : Laws → (t : Threaded) → Finishes (threaded_spec t)
threaded_finishes law (Run name workers) = run_finishes law.runs name workers
threaded_finishes law (EnsembleBy name workers) = ensemble_by_finishes law.runs name workers
threaded_finishes law (RehearseBy images workers) = rehearse_by_finishes law.runs images workers

pub finishes : Laws → (k : Command) → Finishes (spec_of k)
finishes law (Quickly q) = quick_finishes law q
finishes law (InThreads t) = threaded_finishes law t

-- Memory ran out before a document was asked for.
still_stops : {A : Type 0} (c : Course A) (m : DocsMoment) → IsStep c m m (Err Memory)
still_stops c m = record { told = refl; later = record { done = omega arith; faults = omega arith; misses = omega arith }; gives = tt }

quick_unbegun : (q : Quick) (m : DocsMoment) → (quick_spec q).Comes m m (Err Memory)
quick_unbegun (Check name) m = inl (still_stops (documents name) m)
quick_unbegun (Plan name) m = inl (still_stops (documents name) m)
quick_unbegun (Eval name) m = inl (still_stops (documents name) m)
quick_unbegun (Alone name) m = inl (still_stops (documents name) m)
quick_unbegun (Audit name history) m = inl (still_stops (documents_with name history) m)
quick_unbegun (Stat name history) m = inl (still_stops (documents_with name history) m)
quick_unbegun (Resume name history) m = inl (still_stops (documents_with name history) m)
quick_unbegun (Produce name) m = inl (still_stops (documents name) m)
quick_unbegun (Schedule name) m = inl (still_stops (documents name) m)
quick_unbegun (Ensemble name) m = inl (still_stops (ensemble_document name) m)
quick_unbegun (Rehearse images) m = unmade images m

threaded_unbegun : (t : Threaded) (m : DocsMoment) → (threaded_spec t).Comes m m (Err Memory)
threaded_unbegun (Run name workers) m = inl (still_stops (documents name) m)
threaded_unbegun (EnsembleBy name workers) m = inl (still_stops (ensemble_document name) m)
threaded_unbegun (RehearseBy images workers) m = unmade images m

pub unbegun : (k : Command) (m : DocsMoment) → (spec_of k).Comes m m (Err Memory)
unbegun (Quickly q) m = quick_unbegun q m
unbegun (InThreads t) m = threaded_unbegun t m
