-- Beside `specs/Delivered.antt`: what the code's own contracts say.
use Rattle.std.specs.Prelude.{◌≡◌, ℕ, true, List, [], ◌∷◌, length, Option, Some, None, is_some}
use Rattle.values.specs.Apply.{Apply}
use Rattle.values.specs.declared.numbers.FileId.{FileId}
use Rattle.outside.specs.declared.store.Store.{Store}
use Rattle.plan_core.specs.declared.plan.Plan.{Plan}
use Rattle.plan_core.specs.declared.plan.TaskKind.{TaskKind}
use Rattle.plan_core.specs.Numbers.{below}
use Rattle.plan_core.specs.Words.{count_tasks}
use Rattle.storage_simulation.specs.Goods.{is_delivery}
use Rattle.run_record.specs.Events.{Event}
use Rattle.site_yard.specs.Changes.{carries}
use Rattle.site_yard.specs.code.Kept.{IsOpening}
use Rattle.site_yard.specs.declared.delivered.Delivered.{Delivered}
use Rattle.site_yard.specs.Delivered.{delivered_file, arrivals, AreFiles, AreLengths, AreDigests, AreOfBytes}

-- What a yard's list says of the entries since its opening; the digests where the host tells, under the premise on the
-- opening.
pub record AreDelivered (apply : Apply) (p : Plan) (first r : List Event) (told : Option Store)
    (marked : Store) (ds : List Delivered) : Type 0 where
  pub files : AreFiles ds (arrivals p r)
  pub lengths : AreLengths ds (arrivals p r)
  pub digests : IsOpening apply p first marked → is_some told ≡ true
      → AreDigests (carries apply p marked) ds (arrivals p r)
  pub of_bytes : AreOfBytes ds

-- the tasks of a plan that deliver a file; what is kept of a delivery of these bytes
unfoldable pub count_deliveries : Plan → ℕ
count_deliveries p = length (below (count_tasks p) (is_delivery p))

abbrev pub kept_at : ℕ → Option (List ℕ) → Option FileId → List Delivered
kept_at size None f = []
kept_at size (Some digest) None = []
kept_at size (Some digest) (Some f) = record { file = f; length = size; digest = digest } ∷ []

abbrev pub delivery_of : Option TaskKind → ℕ → Option (List ℕ) → List Delivered
delivery_of k size digest = kept_at size digest (delivered_file k)
