use Rattle.std.proofs.Common.{◌≡◌, ℕ, ◌<◌, true, List, [], length, get_or, sym, ap, subst, ◌∙◌}
use Rattle.replica_catalog.specs.declared.catalog.Replica.{Replica}
use Rattle.rehearsal.specs.Registered.{are_at, is_free}
use Rattle.rehearsal.proofs.registered.check_registered.Goals as goal

pub returns : goal.returns
returns c =
    let w = c.args.surveyed.now.survey.workflow in
    record {
      entries = ap (are_at c.args.images.now) (sym c.as_slice-entries.ensures) ∙ sym c.are_at.ensures ∙ c.if-not-are_at.false;
      made = subst (λ (es : List Replica). (f : ℕ) → f < length w.files → is_free w es f (get_or w.files f []) ≡ true) c.in_ok-replicas.ensures (c.are_free.ensures c.if-not-are_free.false);
    }
