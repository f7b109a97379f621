-- Beside `specs/Changes.antt`: what the code's own contracts say.
use Rattle.std.specs.Prelude.{ℕ, List, [], ◌∷◌, ◌++◌, map, length, take, Option, Some, None}
use Rattle.outside.specs.code.Store.{Change, Publishes, Delivers, Removes}
use Rattle.plan_core.specs.declared.plan.Plan.{Plan}
use Rattle.plan_core.specs.declared.plan.TaskKind.{TaskKind}
use Rattle.plan_core.specs.declared.plan.TaskKind.TheVariants.{Transfer, Clean as CleanTask}
use Rattle.plan_core.specs.declared.plan.Target.TheVariants.{Site, Delivery}
use Rattle.plan_core.specs.Words.{kind, writes}
use Rattle.plan_core.specs.Names.{site_name, file_name, pair_site_name, pair_file_name, pair_file}
use Rattle.run_record.specs.Events.{Event, Grant, Arrive, End, Clean, Fail, Again, Regrant}

abbrev pub or_nil : Option (List ℕ) → List ℕ
or_nil None = []
or_nil (Some bytes) = bytes

-- a task's file of a pair is published
abbrev pub publishes : Plan → (ℕ → ℕ → Option (List ℕ)) → ℕ → ℕ → Change
publishes p c t q = Publishes (pair_site_name p q) (pair_file_name p q) (or_nil (c t (pair_file p q)))

-- a Transfer's file arrives at a site, or is delivered
abbrev pub arrival : Plan → Option TaskKind → List ℕ → List Change
arrival p (Some (Transfer f from (Site s))) bytes = Publishes (site_name p s.0) (file_name p f.0) bytes ∷ []
arrival p (Some (Transfer f from Delivery)) bytes = Delivers (file_name p f.0) bytes ∷ []
arrival p _ bytes = []

-- what a Transfer carries
abbrev pub moved : (ℕ → Option (List ℕ)) → Option TaskKind → Option (List ℕ)
moved c (Some (Transfer f from to)) = c f.0
moved c _ = None

-- a Clean removes its pair
abbrev pub removal : Plan → Option TaskKind → List Change
removal p (Some (CleanTask q)) = Removes (pair_site_name p q.0) (pair_file_name p q.0) ∷ []
removal p _ = []

-- the changes of an entry: sizes of a failure are those of the first files that were published before it
abbrev pub changes_of : Plan → (ℕ → ℕ → Option (List ℕ)) → Event → List Change
changes_of p c (Grant w t) = []
changes_of p c (Regrant w t) = []
changes_of p c (Arrive w t n) = arrival p (kind p t) (or_nil (moved (c t) (kind p t)))
changes_of p c (End w t ns) = map (publishes p c t) (writes p t)
changes_of p c (Clean w t) = removal p (kind p t)
changes_of p c (Fail w t cause ns) = map (publishes p c t) (take (length ns) (writes p t))
changes_of p c (Again w t cause ns) = map (publishes p c t) (take (length ns) (writes p t))

-- the changes of a record, in order
abbrev pub changes : Plan → (ℕ → ℕ → Option (List ℕ)) → List Event → List Change
changes p c [] = []
changes p c (e ∷ r) = changes_of p c e ++ changes p c r
