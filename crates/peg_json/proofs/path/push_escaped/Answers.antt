use Rattle.std.proofs.Common.{rules, ℕ, List, ◌++◌, ◌∙◌, ap, string_bytes}
use Rattle.std.specs.List.{flat_map}
use Rattle.std.proofs.lemmas.Grind.{common_steps}
use Rattle.peg_json.specs.Path.{escaped, escaped_char}
use Rattle.peg_json.proofs.VersionsLemmas.{chars_done, char_more}
use Rattle.peg_json.proofs.path.push_escaped.Goals as goal

pub returns : goal.returns
unfolding escaped
returns c = c.loop-c.invariant.0 ∙ ap (λ (cs : List ℕ). string_bytes c.args.out.now ++ flat_map escaped_char cs) (chars_done _ _ _ c.utf8.key c.in-None.ensures.steps.0.0 c.loop-c.invariant.1)

pub loop-c-preserved-in-Continue-1 : goal.loop-c-preserved-in-Continue-1
loop-c-preserved-in-Continue-1 c = (search (rules, common_steps), char_more _ _ _ _ _ c.in-Some.ensures.steps.0 c.loop-c.invariant.1)

pub loop-c-preserved-in-Continue-branch-2 : goal.loop-c-preserved-in-Continue-branch-2
loop-c-preserved-in-Continue-branch-2 c = (search (rules, common_steps), char_more _ _ _ _ _ c.in-Some.ensures.steps.0 c.loop-c.invariant.1)

pub loop-c-preserved : goal.loop-c-preserved
loop-c-preserved c = (search (rules, common_steps), char_more _ _ _ _ _ c.in-Some.ensures.steps.0 c.loop-c.invariant.1)
