use Rattle.pegasus_commands.proofs.commands.produce.tell_run.Goals as goal

pub returns-in-Ok-clause-tells : goal.returns-in-Ok-clause-tells
returns-in-Ok-clause-tells g c = rw c.in-Ok.is (rw c.deref.ensures.value at c.catalogued-told.ensures)
