-- The text of a run: its record, and then what was delivered, by file number.
use Rattle.std.specs.Prelude.{ℕ, ◌++◌, List, [], ◌∷◌, codes, length, replicate, slice_set, Option, Some, None}
use Rattle.std.specs.Fmt.{decimal}
use Rattle.hex.specs.Hex.{encode_lower}
use Rattle.values.specs.Printed.{printed_name}
use Rattle.plan_core.specs.declared.plan.Plan.{Plan}
use Rattle.plan_core.specs.Names.{file_name}
use Rattle.run_record.specs.Events.{Event}
use Rattle.run_record.specs.RecordText.{record_text}
use Rattle.site_yard.specs.declared.delivered.Delivered.{Delivered}

-- the line of a delivered file: its name, its length and its digest
abbrev pub delivered_line : Plan → Delivered → List ℕ
delivered_line p d = codes "delivered " ++ printed_name (file_name p d.file.0) ++ codes " "
    ++ decimal d.length ++ codes " " ++ encode_lower d.digest ++ codes "\n"

-- a table by file number, with these deliveries in it
abbrev pub placed : List Delivered → List (Option Delivered) → List (Option Delivered)
placed [] table = table
placed (d ∷ ds) table = placed ds (slice_set table d.file.0 (Some d))

abbrev pub line_if : Plan → Option Delivered → List ℕ
line_if p None = []
line_if p (Some d) = delivered_line p d

abbrev pub lines_in : Plan → List (Option Delivered) → List ℕ
lines_in p [] = []
lines_in p (o ∷ os) = line_if p o ++ lines_in p os

-- the lines of these deliveries, by file number
abbrev pub delivered_lines : Plan → List Delivered → List ℕ
delivered_lines p ds = lines_in p (placed ds (replicate (length p.files) None))

abbrev pub run_text : Plan → List Event → List Delivered → List ℕ
run_text p r ds = record_text r ++ delivered_lines p ds
