-- What the tree of an ensemble is.
use Rattle.std.specs.Prelude.{ℕ, List, [], ◌∷◌, codes, false, unwrap_or, Result, Ok}
use Rattle.serde_json.specs.Data.{Data}
use Rattle.peg_json.specs.Tree.{◌>>=◌, list_in}
use Rattle.peg_json.specs.Table.{Row, needs, may_have, checks}
use Rattle.peg_json.specs.Typed.{required, optional, flag_of}
use Rattle.peg_json.specs.declared.row.Kind.TheVariants as kinds
use Rattle.peg_json.specs.declared.fault.TreeFault.{TreeFault}
use Rattle.plan_request.specs.Request.{execution_of, only_known, cluster_at, cleanup_at, policy_of}
use Rattle.ensemble.specs.declared.document.Ensemble.{Ensemble}
use Rattle.ensemble.specs.MemberEntry.{member_of}

abbrev pub ensemble_rows : List Row
ensemble_rows =
    needs (codes "members") kinds.List
    ∷ needs (codes "execute") kinds.List
    ∷ may_have (codes "cluster") kinds.Text
    ∷ may_have (codes "cleanup") kinds.Text
    ∷ may_have (codes "force") kinds.Flag
    ∷ may_have (codes "retries") kinds.Number
    ∷ may_have (codes "fresh") kinds.Flag
    ∷ may_have (codes "output_bound") kinds.Number
    ∷ []

-- a whole ensemble; what is absent is as in a request
unfoldable pub ensemble_of : List ℕ → Data → Result Ensemble TreeFault
ensemble_of path d = do
  u ← checks path d ensemble_rows
  v ← only_known path d ensemble_rows
  members ← required (list_in member_of) path d (codes "members")
  execute ← required (list_in execution_of) path d (codes "execute")
  cluster ← cluster_at path d (codes "cluster")
  cleanup ← cleanup_at path d (codes "cleanup")
  force ← optional flag_of path d (codes "force")
  policy ← policy_of path d
  Ok (record {
    members = members;
    execute = execute;
    cluster = cluster;
    cleanup = cleanup;
    force = unwrap_or force false;
    policy = policy;
  })
