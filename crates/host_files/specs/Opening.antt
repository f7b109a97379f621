-- Opening files of the machine.
use Rattle.std.specs.Prelude.{◌≡◌}
use Rattle.outside.specs.code.Counts.{one_fault, one_miss}
use Rattle.outside.specs.declared.counts.Counts.{Counts}
use Rattle.outside.specs.declared.host.HostFault.{HostFault}
use Rattle.outside.specs.declared.host.HostFault.TheVariants.{Absent, Failed}

-- why no file was found, which counts itself
abbrev pub FindsNone : Counts → Counts → HostFault → Type 0
FindsNone before after Absent = after ≡ one_miss before
FindsNone before after Failed = after ≡ one_fault before
FindsNone before after _ = ⊥
