use Rattle.std.proofs.Common.{◌≡◌, ◌++◌, map, length, true}
use Rattle.std.specs.List.{concat, list_all}
use Rattle.run_record.specs.code.Parser.{fits_version}
use Rattle.run_record.specs.RecordText.{entry_line}
use Rattle.run_record.proofs.parser.read_entries.Given as goal

abbrev pub invariant-lines : goal.invariant-lines
invariant-lines l = record {
  lines : concat (map entry_line l.history.events) ++ l.rest ≡ l.text;
  versions : list_all (fits_version l.second) l.history.events ≡ true;
}

abbrev pub decreases-lines : goal.decreases-lines
decreases-lines l = length l.rest
