use Rattle.std.proofs.Common.{◌≡◌, ◌∙◌, sym, false, arith}
use Rattle.std.specs.Prelude.{is_some}
use Rattle.std.specs.Map.{lookup}
use Rattle.std.specs.Str.{bytes_eq}
use Rattle.std.proofs.lemmas.Grind.{common_steps}
use Rattle.plan_request.proofs.IndexLemmas.{inserted}
use Rattle.plan_request.proofs.index.Index.add.Goals.{in-Some-1, in-None-1}
use Rattle.plan_request.proofs.index.Index.add.Goals as goal

pub returns-in_ok-insert : goal.returns-in_ok-insert
returns-in_ok-insert g c =
    let new : is_some (lookup (bytes_eq c.args.name.now) c.self.inside.values.entries) ≡ false = grind (arith, common_steps) in
    elim c.match-branch-3.branch [
      | in-Some-1 w ↦ inserted _ _ _ _ _ _ (sym c.self.view_is) c.in_ok-copied.ensures new (w.self-is ∙ c.in_ok-insert.ensures.entries)
      | in-None-1 w ↦ inserted _ _ _ _ _ _ (sym c.self.view_is) c.in_ok-copied.ensures new (w.self-is ∙ c.in_ok-insert.ensures.entries)
    ]
