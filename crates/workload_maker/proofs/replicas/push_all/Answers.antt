use Rattle.std.proofs.Common.{◌++◌, ◌-◌, List, ℕ, ap, arith, append_assoc, sym, ◌∙◌}
use Rattle.std.specs.List.{flat_map}
use Rattle.workload_maker.specs.Jobs.{each, with_comma}
use Rattle.workload_maker.specs.Replicas.{replica_text}
use Rattle.workload_maker.proofs.TextLemmas.{replicas_are}
use Rattle.workload_maker.proofs.replicas.push_all.Goals as goal

pub returns : goal.returns
returns c =
    c.in_ok-push_replica.ensures
    ∙ ap (λ (t : List ℕ). t ++ replica_text (c.args.images.count - 1)) c.in_ok-push_replicas.ensures
    ∙ append_assoc c.args.text.now.items (flat_map with_comma (each (c.args.images.count - 1) replica_text)) (replica_text (c.args.images.count - 1))
    ∙ ap (λ (t : List ℕ). c.args.text.now.items ++ t) (sym (replicas_are c.args.images.count (omega (arith, c.args.images.some))))
