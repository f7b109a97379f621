use Rattle.std.proofs.Common.{◌≡◌, [], length, arith}
use Rattle.std.specs.Prelude.{Ok}
use Rattle.std.specs.Str.{bytes_eq}
use Rattle.std.proofs.lemmas.Grind.{common_steps}
use Rattle.peg_json.specs.Elements.{few}
use Rattle.peg_json.specs.declared.read_fault.Counted.TheVariants.{Jobs, Files}
use Rattle.peg_json.specs.declared.read_fault.ReadFault.TheVariants.{DuplicateJob, UnknownJob}
use Rattle.workflow_reader.specs.code.Document.{entry}
use Rattle.peg_json.specs.Elements.{first_repeat, refused, first_unknown}
use Rattle.workflow_reader.specs.Linking.{files_of}
use Rattle.workflow_reader.specs.Linking.{ids_of, all_used_once, ids_in}
use Rattle.workflow_reader.proofs.LinkingLemmas.{passes}
use Rattle.workflow_reader.proofs.linking.tables_of.Goals as goal

pub returns-in-Ok-all_known-clause-answer : goal.returns-in-Ok-all_known-clause-answer
returns-in-Ok-all_known-clause-answer c =
    let one : few Jobs 10000 (length c.args.document.now.jobs) ≡ Ok tt = grind (arith, common_steps) in
    let two : few Files 50000 (length (files_of c.args.document.now.jobs)) ≡ Ok tt = grind (arith, common_steps) in
    let three : refused DuplicateJob (first_repeat bytes_eq [] (ids_of c.args.document.now.jobs)) ≡ Ok tt = grind (arith, common_steps) in
    let four : all_used_once c.args.document.now.jobs ≡ Ok tt = grind (arith, common_steps) in
    let ids : c.in-Ok.ids ≡ ids_of c.args.document.now.jobs = grind (arith, common_steps) in
    let dependencies : c.as_slice.result.now ≡ c.args.document.now.dependencies = cc in
    let known : refused UnknownJob (first_unknown c.in-Ok.ids (ids_in c.as_slice.result.now)) ≡ Ok tt = c.in-Ok-all_known.ensures in
    let five : refused UnknownJob (first_unknown (ids_of c.args.document.now.jobs) (ids_in c.args.document.now.dependencies)) ≡ Ok tt = rw (← ids, ← dependencies) known in
    passes (entry c.args.document.now) one two three four five
