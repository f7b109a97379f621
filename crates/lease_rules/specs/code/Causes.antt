-- What a cause lays on the host.
use Rattle.std.specs.Prelude.{ℕ}
use Rattle.run_record.specs.declared.entry.Cause.{Cause}
use Rattle.run_record.specs.declared.entry.Cause.TheVariants.{Absent, TooLong, HostFailed}

-- a failure of the host; a file that was absent or too long
abbrev pub fault_in : Cause → ℕ
fault_in HostFailed = 1
fault_in _ = 0

abbrev pub miss_in : Cause → ℕ
miss_in Absent = 1
miss_in (TooLong n) = 1
miss_in _ = 0
