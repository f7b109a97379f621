-- What a lease answers after a failure.
use Rattle.std.specs.Prelude.{Option, Some}
use Rattle.values.specs.declared.numbers.TaskId.{TaskId}
use Rattle.run_record.specs.Events.{Event, Again as TriedAgain}
use Rattle.site_yard.specs.declared.leased.Leased.{Leased}
use Rattle.site_yard.specs.declared.leased.Leased.TheVariants.{Again, Failed}

abbrev pub failed_as : TaskId → Option Event → Leased
failed_as t (Some (TriedAgain w u c ns)) = Again t
failed_as t _ = Failed t
