use Rattle.std.proofs.Common.{rules, ◌++◌, ◌∙◌, ap, List, ℕ, string_bytes}
use Rattle.std.specs.List.{flat_map}
use Rattle.std.proofs.lemmas.Grind.{common_steps}
use Rattle.host_files.specs.FileName.{escaped_char, escaped_text}
use Rattle.host_files.proofs.FileNameLemmas.{chars_done, char_more}
use Rattle.host_files.proofs.file_name.push_text.Goals as goal

pub returns : goal.returns
unfolding escaped_text
returns c = c.loop-c.invariant.0 ∙ ap (λ (cs : List ℕ). string_bytes c.args.path.now ++ flat_map escaped_char cs) (chars_done _ _ _ c.utf8.text c.in-None.ensures.steps.0.0 c.loop-c.invariant.1)

pub loop-c-preserved-in-Continue-1 : goal.loop-c-preserved-in-Continue-1
loop-c-preserved-in-Continue-1 c = (search (rules, common_steps), char_more _ _ _ _ _ c.in-Some.ensures.steps.0 c.loop-c.invariant.1)

pub loop-c-preserved-in-Continue-branch-2 : goal.loop-c-preserved-in-Continue-branch-2
loop-c-preserved-in-Continue-branch-2 c = (search (rules, common_steps), char_more _ _ _ _ _ c.in-Some.ensures.steps.0 c.loop-c.invariant.1)

pub loop-c-preserved : goal.loop-c-preserved
loop-c-preserved c = (search (rules, common_steps), char_more _ _ _ _ _ c.in-Some.ensures.steps.0 c.loop-c.invariant.1)
