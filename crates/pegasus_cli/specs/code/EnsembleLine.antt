-- The line of a fault of an ensemble.
use Rattle.std.specs.Prelude.{ℕ, ◌++◌, List, [], codes, drop, length}
use Rattle.peg_json.specs.declared.fault.TreeFault.{TreeFault}
use Rattle.peg_json.specs.declared.fault.TreeFault.TheVariants as trees
use Rattle.peg_json.specs.declared.read_fault.Counted.TheVariants.{Sites}
use Rattle.peg_json.specs.declared.read_fault.ReadFault.{ReadFault}
use Rattle.peg_json.specs.declared.read_fault.ReadFault.TheVariants as reads
use Rattle.planner.specs.code.Refused.{and_name, and_number, many_line, one_name, refused_line, two_names}
use Rattle.planner.specs.declared.plan_fault.PlanFault.{PlanFault}
use Rattle.ensemble.specs.declared.fault.EnsembleFault.{EnsembleFault}
use Rattle.ensemble.specs.declared.fault.EnsembleFault.TheVariants.{DuplicateMember, Read, TooMany}

-- a fault of the tree; no call answers want of memory with a line
abbrev pub ensemble_tree_line : TreeFault → List ℕ
ensemble_tree_line trees.Syntax = codes "refused ensemble syntax\n"
ensemble_tree_line (trees.MissingKey path) = one_name (codes "refused ensemble missing") path
ensemble_tree_line (trees.WrongKind path) = one_name (codes "refused ensemble kind") path
ensemble_tree_line (trees.OutOfRange path n) =
    codes "refused ensemble range" ++ and_name path ++ and_number n ++ codes "\n"
ensemble_tree_line (trees.Unsupported path what) = two_names (codes "refused ensemble unsupported") path what
ensemble_tree_line (trees.BadVersion text) = one_name (codes "refused ensemble version") text
ensemble_tree_line trees.Memory = []

-- a fault of the tree, or of the execution sites; an ensemble has no jobs and no transformations of its own
abbrev pub ensemble_read_line : ReadFault → List ℕ
ensemble_read_line (reads.Tree fault) = ensemble_tree_line fault
ensemble_read_line (reads.TooMany Sites count limit) = many_line (codes "sites") count limit
ensemble_read_line (reads.DuplicateSite name) = one_name (codes "refused twice site") name
ensemble_read_line fault = []

abbrev pub ensemble_line : EnsembleFault → List ℕ
ensemble_line (Read fault) = ensemble_read_line fault
ensemble_line (TooMany count limit) = many_line (codes "members") count limit
ensemble_line (DuplicateMember name) = one_name (codes "refused twice member") name

-- what stands behind the first word of a refusal
abbrev pub behind_refused : PlanFault → List ℕ
behind_refused fault = drop (length (codes "refused")) (refused_line fault)

-- the line of a fault of a member's documents: that of the fault, with the member named behind its first word
abbrev pub member_front : List ℕ → List ℕ
member_front name = codes "refused member" ++ and_name name

abbrev pub member_line : List ℕ → PlanFault → List ℕ
member_line name fault = member_front name ++ behind_refused fault
