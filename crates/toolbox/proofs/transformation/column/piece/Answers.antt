use Rattle.std.proofs.Common.{◌-◌, Some, None, nat_eq}
use Rattle.std.specs.List.{slice_split}
use Rattle.toolbox.proofs.ColumnLemmas.{read_at}
use Rattle.toolbox.proofs.transformation.column.piece.Goals as goal

pub returns-in-Some : goal.returns-in-Some
returns-in-Some c = read_at (slice_split (λ b. nat_eq b 9) c.args.line.now) (c.args.place - 1) (Some c.in-Some.piece.now) c.in-Some.ensures

pub returns-in-None : goal.returns-in-None
returns-in-None c = read_at (slice_split (λ b. nat_eq b 9) c.args.line.now) (c.args.place - 1) None c.in-None.ensures
