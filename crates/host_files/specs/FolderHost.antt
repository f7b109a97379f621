-- A store of files.
use Rattle.std.specs.Prelude.{◌≡◌}
use Rattle.outside.specs.code.Counts.{one_fault}
use Rattle.outside.specs.declared.counts.Counts.{Counts}
use Rattle.outside.specs.declared.host.HostFault.{HostFault}
use Rattle.outside.specs.declared.host.HostFault.TheVariants.{Failed, Memory}

-- why nothing was written; a failure counts itself
abbrev pub Refuses : Counts → Counts → HostFault → Type 0
Refuses before after Failed = after ≡ one_fault before
Refuses before after Memory = after ≡ before
Refuses before after _ = ⊥
