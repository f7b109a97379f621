use Rattle.task_work.proofs.CarriedLemmas.{is_computed}
use Rattle.task_work.proofs.law.runs_carry_what_they_compute.Goals as goal

pub returns : goal.returns
returns c = λ apply told p t blobs proper run e.
    is_computed p proper (c.files_are_listed_by_pair.ensures.reads p proper) (c.files_are_listed_by_pair.ensures.in_range p proper) apply told t blobs (c.carried_is_carried_along.ensures.fits apply told p proper) run e
