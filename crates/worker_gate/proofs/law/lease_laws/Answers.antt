use Rattle.worker_gate.proofs.law.lease_laws.Goals as goal

pub returns : goal.returns
returns c = λ p proper. record {
  one_choice = c.choice_is_one.ensures.choice p;
  room_falls = c.entries_are_few.ensures.entries p;
  consistent = λ s e. c.entries_are_few.ensures.consistent p s e proper;
}
