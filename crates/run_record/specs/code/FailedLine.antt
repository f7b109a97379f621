-- The line of a failed run. Want of memory has none: it is an answer of its own.
use Rattle.std.specs.Prelude.{ℕ, ◌++◌, List, [], codes, Some, None}
use Rattle.std.specs.Fmt.{decimal}
use Rattle.hex.specs.Hex.{encode_lower}
use Rattle.values.specs.Printed.{printed_name}
use Rattle.run_record.specs.declared.run_fault.RunFault.{RunFault}
use Rattle.run_record.specs.declared.run_fault.RunFault.TheVariants.{ReplicaAbsent, ReplicaTooLong, ChecksumDiffers, Oversize, Declined, ToolFailed, HostFailed, ScratchInUse, PairAbsent, LengthDiffers, Memory}

-- a space and a word
abbrev pub spaced_name : List ℕ → List ℕ
spaced_name name = codes " " ++ printed_name name

abbrev pub spaced_number : ℕ → List ℕ
spaced_number n = codes " " ++ decimal n

abbrev pub failed_line : RunFault → List ℕ
failed_line (ReplicaAbsent lfn pfn) = codes "failed absent " ++ printed_name lfn ++ codes " "
    ++ printed_name pfn ++ codes "\n"
failed_line (ReplicaTooLong lfn limit n) = codes "failed replica " ++ printed_name lfn ++ codes " "
    ++ decimal limit ++ codes " " ++ decimal n ++ codes "\n"
failed_line (ChecksumDiffers lfn wanted got) =
    codes "failed checksum " ++ printed_name lfn ++ codes " " ++ encode_lower wanted ++ codes " "
    ++ encode_lower got ++ codes "\n"
failed_line (Oversize id lfn declared n) = codes "failed oversize" ++ spaced_name id ++ spaced_name lfn
    ++ spaced_number declared ++ spaced_number n ++ codes "\n"
failed_line (Declined id) = codes "failed declined " ++ printed_name id ++ codes "\n"
failed_line (ToolFailed id) = codes "failed tool " ++ printed_name id ++ codes "\n"
failed_line (HostFailed None) = codes "failed host -\n"
failed_line (HostFailed (Some task)) = codes "failed host " ++ decimal task.0 ++ codes "\n"
failed_line (ScratchInUse site) = codes "failed scratch " ++ printed_name site ++ codes "\n"
failed_line (PairAbsent site lfn) = codes "failed pair " ++ printed_name site ++ codes " "
    ++ printed_name lfn ++ codes "\n"
failed_line (LengthDiffers site lfn recorded found) =
    codes "failed length" ++ spaced_name site ++ spaced_name lfn ++ spaced_number recorded
    ++ spaced_number found ++ codes "\n"
failed_line Memory = []
