-- The policy of a run that asks for nothing.
use Rattle.std.specs.Prelude.{None, false}
use Rattle.values.specs.declared.policy.Policy.{Policy}

abbrev pub plain : Policy
plain = record { retries = 0; fresh = false; output = None }
