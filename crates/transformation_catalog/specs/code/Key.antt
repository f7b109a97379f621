-- Beside `specs/Key.antt`: what the code's own contracts say.
use Rattle.std.specs.Cmp.{IsEquivalence, and_equiv, on_equiv}
use Rattle.std.specs.Cmp.Lexicographic.{options_equiv, nat_list_eq_equiv}
use Rattle.workflow_core.specs.declared.workflow.Transformation.{Transformation}
use Rattle.transformation_catalog.specs.Catalog.{same_transformation}

-- it is an equivalence, as it is of its three parts
pub sameness : IsEquivalence same_transformation
sameness =
    and_equiv
    (on_equiv (λ (t : Transformation). t.namespace) (options_equiv nat_list_eq_equiv))
    (and_equiv (on_equiv (λ (t : Transformation). t.name) nat_list_eq_equiv)
    (on_equiv (λ (t : Transformation). t.version) (options_equiv nat_list_eq_equiv)))
