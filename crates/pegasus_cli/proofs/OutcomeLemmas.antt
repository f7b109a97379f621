-- What a command's answer is as an outcome.
use Rattle.std.proofs.Common.{◌≡◌, refl}
use Rattle.std.specs.Prelude.{Some, None, Ok, Err}
use Rattle.pegasus_commands.specs.declared.fault.CallFault.TheVariants.{Memory, DocAbsent, DocTooLong, DocFailed, Refused, Exceeds, Failed, BadRecord, IllegalRecord, RefusedEnsemble, RefusedMember}
use Rattle.pegasus_commands.specs.code.Fault.{Answer, IsDoneOrMemory, done}
use Rattle.pegasus_cli.specs.declared.outcome.Outcome.{Outcome}
use Rattle.pegasus_cli.specs.declared.outcome.Outcome.TheVariants as outcomes
use Rattle.pegasus_cli.specs.code.Call.{IsDoneOrMemory as IsDone}
use Rattle.pegasus_cli.specs.code.Outcome.{outcome_of}

-- an answer is no outcome of the words or of the sink
pub no_usage : (a : Answer) → outcomes.Usage ≡ outcome_of a → ⊥
no_usage (Ok given) h = (let clash : ◌≡◌ {A = Outcome} outcomes.Usage (outcomes.Done given) = h in absurd cc)
no_usage (Err Memory) h = (let clash : ◌≡◌ {A = Outcome} outcomes.Usage outcomes.Memory = h in absurd cc)
no_usage (Err (DocAbsent n)) h = (let clash : ◌≡◌ {A = Outcome} outcomes.Usage (outcomes.DocAbsent n) = h in absurd cc)
no_usage (Err (DocTooLong n k)) h = (let clash : ◌≡◌ {A = Outcome} outcomes.Usage (outcomes.DocTooLong n k) = h in absurd cc)
no_usage (Err (DocFailed n)) h = (let clash : ◌≡◌ {A = Outcome} outcomes.Usage (outcomes.DocFailed n) = h in absurd cc)
no_usage (Err (Refused f)) h = (let clash : ◌≡◌ {A = Outcome} outcomes.Usage (outcomes.Refused f) = h in absurd cc)
no_usage (Err (Exceeds s t n b)) h = (let clash : ◌≡◌ {A = Outcome} outcomes.Usage (outcomes.Exceeds s t n b) = h in absurd cc)
no_usage (Err (Failed f)) h = (let clash : ◌≡◌ {A = Outcome} outcomes.Usage (outcomes.Failed f) = h in absurd cc)
no_usage (Err (BadRecord k)) h = (let clash : ◌≡◌ {A = Outcome} outcomes.Usage (outcomes.BadRecord k) = h in absurd cc)
no_usage (Err (IllegalRecord k)) h = (let clash : ◌≡◌ {A = Outcome} outcomes.Usage (outcomes.IllegalRecord k) = h in absurd cc)
no_usage (Err (RefusedEnsemble f)) h = (let clash : ◌≡◌ {A = Outcome} outcomes.Usage (outcomes.RefusedEnsemble f) = h in absurd cc)
no_usage (Err (RefusedMember n f)) h = (let clash : ◌≡◌ {A = Outcome} outcomes.Usage (outcomes.RefusedMember n f) = h in absurd cc)

-- only what is done is Done
pub done_is : (a : Answer) → outcomes.Done None ≡ outcome_of a → a ≡ done
done_is (Ok None) h = refl
done_is (Ok (Some given)) h = (let clash : ◌≡◌ {A = Outcome} (outcomes.Done None) (outcomes.Done (Some given)) = h in absurd cc)
done_is (Err Memory) h = (let clash : ◌≡◌ {A = Outcome} (outcomes.Done None) outcomes.Memory = h in absurd cc)
done_is (Err (DocAbsent n)) h = (let clash : ◌≡◌ {A = Outcome} (outcomes.Done None) (outcomes.DocAbsent n) = h in absurd cc)
done_is (Err (DocTooLong n k)) h = (let clash : ◌≡◌ {A = Outcome} (outcomes.Done None) (outcomes.DocTooLong n k) = h in absurd cc)
done_is (Err (DocFailed n)) h = (let clash : ◌≡◌ {A = Outcome} (outcomes.Done None) (outcomes.DocFailed n) = h in absurd cc)
done_is (Err (Refused f)) h = (let clash : ◌≡◌ {A = Outcome} (outcomes.Done None) (outcomes.Refused f) = h in absurd cc)
done_is (Err (Exceeds s t n b)) h = (let clash : ◌≡◌ {A = Outcome} (outcomes.Done None) (outcomes.Exceeds s t n b) = h in absurd cc)
done_is (Err (Failed f)) h = (let clash : ◌≡◌ {A = Outcome} (outcomes.Done None) (outcomes.Failed f) = h in absurd cc)
done_is (Err (BadRecord k)) h = (let clash : ◌≡◌ {A = Outcome} (outcomes.Done None) (outcomes.BadRecord k) = h in absurd cc)
done_is (Err (IllegalRecord k)) h = (let clash : ◌≡◌ {A = Outcome} (outcomes.Done None) (outcomes.IllegalRecord k) = h in absurd cc)
done_is (Err (RefusedEnsemble f)) h = (let clash : ◌≡◌ {A = Outcome} (outcomes.Done None) (outcomes.RefusedEnsemble f) = h in absurd cc)
done_is (Err (RefusedMember n f)) h = (let clash : ◌≡◌ {A = Outcome} (outcomes.Done None) (outcomes.RefusedMember n f) = h in absurd cc)

-- done, or memory ran out, as an outcome
pub outcome_done : (a : Answer) → IsDoneOrMemory a → IsDone (outcome_of a)
outcome_done (Ok given) h = tt
outcome_done (Err Memory) h = tt
outcome_done (Err fault) h = absurd h
