-- What a yard's list says of what was delivered.
use Rattle.std.proofs.Common.{◌≡◌, true, List, refl}
use Rattle.std.specs.Prelude.{Option, Some, None, is_some, IfSome}
use Rattle.std.proofs.Math.Logic.{∥∥₁_elim}
use Rattle.std.proofs.Props.{props}
use Rattle.values.specs.Apply.{Apply}
use Rattle.outside.specs.declared.store.Store.{Store}
use Rattle.plan_core.specs.declared.plan.Plan.{Plan}
use Rattle.run_record.specs.Events.{Event}
use Rattle.site_yard.specs.Changes.{carries}
use Rattle.site_yard.specs.code.Delivered.{AreDelivered}
use Rattle.site_yard.specs.Delivered.{AreDigests, AreFiles, AreLengths, AreOfBytes, arrivals}
use Rattle.site_yard.specs.code.Kept.{IsOpening}
use Rattle.site_yard.specs.declared.delivered.Delivered.{Delivered}

module _ (apply : Apply) (p : Plan) (first r : List Event) (o : Option Store) (m : Store) (ds : List Delivered) (listed : ∥ AreDelivered apply p first r o m ds ∥₁) where
  pub files_are : AreFiles ds (arrivals p r)
  files_are = ∥∥₁_elim listed (Prim.hlevel props) (λ l. l.files)

  pub lengths_are : AreLengths ds (arrivals p r)
  lengths_are = ∥∥₁_elim listed (Prim.hlevel props) (λ l. l.lengths)

  pub are_of_bytes : AreOfBytes ds
  are_of_bytes = ∥∥₁_elim listed (Prim.hlevel props) (λ l. l.of_bytes)

  digests_are : IsOpening apply p first m → is_some o ≡ true → AreDigests (carries apply p m) ds (arrivals p r)
  digests_are opening told = ∥∥₁_elim listed (Prim.hlevel props) (λ l. l.digests opening told)

pub digests_told : (apply : Apply) (p : Plan) (first r : List Event) (o : Option Store) (m : Store) (ds : List Delivered) → ∥ AreDelivered apply p first r o m ds ∥₁ → IsOpening apply p first m → IfSome o (λ s. AreDigests (carries apply p m) ds (arrivals p r))
digests_told apply p first r None m ds listed opening = tt
digests_told apply p first r (Some s) m ds listed opening = digests_are apply p first r (Some s) m ds listed opening refl
