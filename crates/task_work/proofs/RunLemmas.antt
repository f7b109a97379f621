-- What comes of a Run: its outputs, or why there are none.
use Rattle.std.proofs.Common.{◌≡◌, ℕ, ◌+◌, ◌≤◌, List, [], ◌∷◌, length, map, refl, sym, ap, ◌∙◌, arith}
use Rattle.std.specs.Prelude.{Some, Err}
use Rattle.std.proofs.lemmas.List.{length-map}
use Rattle.values.specs.Apply.{Apply}
use Rattle.outside.specs.code.Parts.{DraftState, ReadState}
use Rattle.outside.specs.declared.host.HostFault.{HostFault}
use Rattle.outside.specs.declared.host.HostFault.TheVariants as fault
use Rattle.plan_core.specs.declared.plan.Plan.{Plan}
use Rattle.plan_core.specs.Words.{reads, writes}
use Rattle.run_record.specs.declared.entry.Cause.{Cause}
use Rattle.run_record.specs.declared.entry.Cause.TheVariants as why
use Rattle.storage_simulation.specs.Goods.{makes}
use Rattle.lease_rules.specs.Legal.{AreOfFirst, CauseFits}
use Rattle.plan_core.specs.Names.{pair_file}
use Rattle.lease_rules.specs.code.Storing.{AreWithin}
use Rattle.task_work.specs.Computing.{Computes, Makes, computed, files_of}
use Rattle.task_work.specs.Making.{AreStored, AreWritten, Each, IsFaultOf, IsRunCause, IsShown, MakesWithin, OfRead, blames}
use Rattle.task_work.specs.Moving.{part_cause}
use Rattle.task_work.specs.Pieces.{HasRead, fails_in}

-- an output for each write
pub makes_many : (apply : Apply) (p : Plan) (t : ℕ) (blobs outs : List (List ℕ)) → Makes apply p t blobs outs → length outs ≡ length (writes p t)
makes_many apply p t blobs outs made =
    sym (length-map outs Some) ∙ sym (ap length made.0) ∙ length-map (files_of p (writes p t)) (computed apply p t blobs) ∙ length-map (writes p t) (pair_file p)

-- no sizes were published
none_published : (p : Plan) (gs : List ℕ) → AreOfFirst p gs []
none_published p [] = tt
none_published p (g ∷ gs) = tt

pub part_fits : (p : Plan) (t : ℕ) (e : HostFault) → CauseFits p t (part_cause e) []
part_fits p t fault.Absent = (λ h. refl, none_published p (makes p t))
part_fits p t fault.Failed = (λ h. refl, none_published p (makes p t))
part_fits p t (fault.Over l n) = (λ h. refl, none_published p (makes p t))
part_fits p t fault.Memory = (λ h. refl, none_published p (makes p t))

pub host_fits : (p : Plan) (t : ℕ) → CauseFits p t why.HostFailed []
host_fits p t = (λ h. refl, none_published p (makes p t))

pub memory_fits : (p : Plan) (t : ℕ) → CauseFits p t why.Memory []
memory_fits p t = (λ h. refl, none_published p (makes p t))

-- the jobs made nothing
pub stops_within : (apply : Apply) (p : Plan) (t : ℕ) (blobs : List (List ℕ)) (before later : ℕ) (c : Cause) → Computes apply p t blobs before later (Err c) → MakesWithin apply p t blobs before later (Err c) × CauseFits p t c []
stops_within apply p t blobs before later why.Absent h = absurd h
stops_within apply p t blobs before later (why.TooLong n) h = absurd h
stops_within apply p t blobs before later (why.Checksum d) h = absurd h
stops_within apply p t blobs before later (why.Oversize j f n) h = absurd h
stops_within apply p t blobs before later (why.Declined j) h = (h, (h.1, refl))
stops_within apply p t blobs before later (why.ToolFailed j) h = (h, (h.1, refl))
stops_within apply p t blobs before later why.HostFailed h = absurd h
stops_within apply p t blobs before later why.Memory h = (tt, memory_fits p t)

-- of what was read
pub run_cause : (apply : Apply) (p : Plan) (t : ℕ) (rs : List ReadState) (blobs : List (List ℕ)) (before later : ℕ) (c : Cause) → Each HasRead rs blobs → length blobs ≡ length (reads p t) → MakesWithin apply p t blobs before later (Err c) → IsRunCause apply p t rs c
run_cause apply p t rs blobs before later why.Absent read many h = absurd h
run_cause apply p t rs blobs before later (why.TooLong n) read many h = absurd h
run_cause apply p t rs blobs before later (why.Checksum d) read many h = absurd h
run_cause apply p t rs blobs before later (why.Oversize j f n) read many h = record { blobs = blobs; read = read; many = many; holds = h }
run_cause apply p t rs blobs before later (why.Declined j) read many h = record { blobs = blobs; read = read; many = many; holds = h.0 }
run_cause apply p t rs blobs before later (why.ToolFailed j) read many h = tt
run_cause apply p t rs blobs before later why.HostFailed read many h = absurd h
run_cause apply p t rs blobs before later why.Memory read many h = tt

pub run_shown : (apply : Apply) (p : Plan) (t : ℕ) (blobs : List (List ℕ)) (before later x y : ℕ) (c : Cause) → MakesWithin apply p t blobs before later (Err c) → IsShown x y before later c
run_shown apply p t blobs before later x y (why.ToolFailed j) h = h.0
run_shown apply p t blobs before later x y why.HostFailed h = absurd h
run_shown apply p t blobs before later x y why.Absent h = tt
run_shown apply p t blobs before later x y (why.TooLong n) h = tt
run_shown apply p t blobs before later x y (why.Checksum d) h = tt
run_shown apply p t blobs before later x y (why.Oversize j f n) h = tt
run_shown apply p t blobs before later x y (why.Declined j) h = tt
run_shown apply p t blobs before later x y why.Memory h = tt

-- a call of a part failed
pub part_run_cause : (apply : Apply) (p : Plan) (t : ℕ) (rs : List ReadState) (e : HostFault) → IsRunCause apply p t rs (part_cause e)
part_run_cause apply p t rs fault.Absent = tt
part_run_cause apply p t rs fault.Failed = tt
part_run_cause apply p t rs (fault.Over l n) = tt
part_run_cause apply p t rs fault.Memory = tt

pub reading_shown : (a b d x y : ℕ) (e : HostFault) → IsFaultOf a b e → IsShown (a + d) (b + d) x y (part_cause e)
reading_shown a b d x y fault.Failed h = omega (arith, h)
reading_shown a b d x y fault.Memory h = tt
reading_shown a b d x y e h = absurd h

pub draft_shown : (a b c d x y : ℕ) (e : HostFault) → a ≤ b → IsFaultOf c d e → IsShown (a + c) (b + d) x y (part_cause e)
draft_shown a b c d x y fault.Failed le h = omega (arith, le, h)
draft_shown a b c d x y fault.Memory le h = tt
draft_shown a b c d x y e le h = absurd h

-- all went well
pub is_stored : (apply : Apply) (p : Plan) (t : ℕ) (rs : List ReadState) (ds0 ds1 : List DraftState) (blobs outs : List (List ℕ)) (sizes : List ℕ) → Each HasRead rs blobs → length blobs ≡ length (reads p t) → Makes apply p t blobs outs → AreWithin p (writes p t) outs → AreWritten ds0 ds1 outs → sizes ≡ map length outs → OfRead p t rs (AreStored apply p t ds0 ds1 sizes)
is_stored apply p t rs ds0 ds1 blobs outs sizes read many made within written are = record {
  blobs = blobs;
  read = read;
  many = many;
  holds = record { outs = outs; made = made; within = within; written = written; sizes_are = are };
}

-- what a failed call of a part lays on the host
pub blamed : (X Y : Type 0) (e : HostFault) → fails_in {X = X} (Err e) ≤ blames {X = Y} (Err (part_cause e))
blamed X Y fault.Absent = omega arith
blamed X Y fault.Failed = omega arith
blamed X Y (fault.Over l n) = omega arith
blamed X Y fault.Memory = omega arith
