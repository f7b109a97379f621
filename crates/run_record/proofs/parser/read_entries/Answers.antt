use Rattle.std.proofs.Common.{◌++◌, ◌<◌, List, ℕ, length, map, ◌∙◌, ap, arith}
use Rattle.std.specs.List.{concat}
use Rattle.run_record.specs.code.Lines.{first_line}
use Rattle.run_record.specs.code.Parser.{AddsEntry}
use Rattle.run_record.specs.RecordText.{entry_line}
use Rattle.run_record.proofs.ParserLemmas.{entry_read, version_kept, less_left}
use Rattle.run_record.proofs.parser.read_entries.Goals as goal

pub lines-preserved : goal.lines-preserved
lines-preserved c =
    let added : AddsEntry c.args.second (first_line c.lines.rest.now) c.lines.history.events c.read_line.new.history.events = rw c.cut_line.ensures.line at (c.in_ok-read_line.ensures.added c.if-not-branch.false) in
    record {
      lines = ap (λ (l : List ℕ). concat (map entry_line c.read_line.new.history.events) ++ l) c.cut_line.ensures.rest
          ∙ entry_read c.args.second c.lines.history.events c.read_line.new.history.events c.lines.rest.now c.args.text.now c.lines.invariant.lines added;
      versions = version_kept c.args.second c.lines.history.events c.read_line.new.history.events (first_line c.lines.rest.now) c.lines.invariant.versions added;
    }

pub lines-smaller : goal.lines-smaller
lines-smaller c =
    let added : AddsEntry c.args.second (first_line c.lines.rest.now) c.lines.history.events c.read_line.new.history.events = rw c.cut_line.ensures.line at (c.in_ok-read_line.ensures.added c.if-not-branch.false) in
    let less = less_left c.args.second c.lines.history.events c.read_line.new.history.events c.lines.rest.now added in
    let same = ap length c.cut_line.ensures.rest in
    let smaller : length c.cut_line.result.1.now < length c.lines.rest.now = omega (arith, less, same) in
    smaller
