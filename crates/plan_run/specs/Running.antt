-- A run of a plan by workers: what its one record says, what the host and the tools show of it, and how the end and the
-- report are read off it.
use Rattle.std.specs.Prelude.{◌≡◌, ℕ, ◌+◌, ◌≤◌, List, [], ◌∷◌, take, Option, IfSome}
use Rattle.values.specs.Apply.{Apply}
use Rattle.outside.specs.declared.store.Store.{Store}
use Rattle.plan_core.specs.declared.plan.Plan.{Plan}
use Rattle.plan_core.specs.Words.{output_bound}
use Rattle.run_record.specs.Events.{Event}
use Rattle.site_yard.specs.Changes.{carries}
use Rattle.site_yard.specs.Delivered.{AreDigests, AreFiles, AreLengths, AreOfBytes, Arrival, arrivals}
use Rattle.site_yard.specs.declared.delivered.Delivered.{Delivered}
use Rattle.plan_run.specs.RunText.{run_text}

-- the bytes that were delivered
abbrev pub sum_of_sizes : List Arrival → ℕ
sum_of_sizes [] = 0
sum_of_sizes (a ∷ rest) = a.size + sum_of_sizes rest

abbrev pub delivered_bytes : Plan → List Event → ℕ
delivered_bytes p r = sum_of_sizes (arrivals p r)

-- after every entry they are within the bound of the output, where it has one
abbrev pub AreWithinOutput : Plan → List Event → Type 0
AreWithinOutput p r = (k : ℕ) → IfSome (output_bound p) (λ b. delivered_bytes p (take k r) ≤ b)

-- What was delivered, in order: the files and sizes of the record's arrivals, with the digests of what tasks carry over a
-- store, where that is told.
pub record AreDeliveries (apply : Apply) (p : Plan) (r : List Event) (told : Option Store)
    (ds : List Delivered) : Type 0 where
  pub files : AreFiles ds (arrivals p r)
  pub lengths : AreLengths ds (arrivals p r)
  pub of_bytes : AreOfBytes ds
  pub digests : IfSome told (λ m. AreDigests (carries apply p m) ds (arrivals p r))

-- the text of a record with its deliveries
pub record IsRunText (apply : Apply) (p : Plan) (r : List Event) (told : Option Store)
    (text : List ℕ) : Type 0 where
  pub delivered : List Delivered
  pub are : AreDeliveries apply p r told delivered
  pub text_is : text ≡ run_text p r delivered
