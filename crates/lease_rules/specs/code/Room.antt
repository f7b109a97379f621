-- How many entries, and how many sizes, may still come.
use Rattle.std.specs.Prelude.{ℕ, ◌+◌, ◌-◌, ◌*◌, Bool, cond, length, List, []}
use Rattle.values.specs.Numbers.{total}
use Rattle.plan_core.specs.declared.plan.Plan.{Plan}
use Rattle.plan_core.specs.Words.{count_tasks, retries}
use Rattle.storage_simulation.specs.declared.standing.Phase.{Phase}
use Rattle.storage_simulation.specs.declared.standing.Phase.TheVariants.{Waits, Runs, Ended}
use Rattle.storage_simulation.specs.Goods.{makes}
use Rattle.run_record.specs.Events.{Event, End, Fail, Again}
use Rattle.lease_rules.specs.State.{State}

-- of a task that may be tried again n times: a grant and an end, and as much for each time
abbrev pub entries_left : Phase → ℕ → ℕ
entries_left Waits n = 2 * n + 2
entries_left Runs n = 2 * n + 1
entries_left Ended n = 0

abbrev pub entries_of : Bool → Phase → ℕ → ℕ → ℕ
entries_of f x a r = cond f 0 (entries_left x (r - a))

abbrev pub task_room : Plan → State → ℕ → ℕ
task_room p s t = entries_of (s.failed t) (s.phase t) (s.agains t) (retries p)

abbrev pub entries_room : Plan → State → ℕ
entries_room p s = total (count_tasks p) (task_room p s)

-- of a task that makes m goods and may be tried again n times: their sizes, and as many for each time
abbrev pub sizes_left : Phase → ℕ → ℕ → ℕ
sizes_left Waits n m = (n + 1) * m
sizes_left Runs n m = (n + 1) * m
sizes_left Ended n m = 0

abbrev pub sizes_of : Plan → ℕ → Bool → Phase → ℕ → ℕ
sizes_of p t f x a = cond f 0 (sizes_left x (retries p - a) (length (makes p t)))

abbrev pub sizes_room : Plan → State → ℕ
sizes_room p s = total (count_tasks p) (λ t. sizes_of p t (s.failed t) (s.phase t) (s.agains t))

-- the sizes that an entry lists
abbrev pub listed : Event → List ℕ
listed (End w t ns) = ns
listed (Fail w t c ns) = ns
listed (Again w t c ns) = ns
listed _ = []
