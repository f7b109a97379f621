-- The line of a refusal.
use Rattle.std.specs.Prelude.{ℕ, ◌++◌, List, [], ◌∷◌, codes}
use Rattle.std.specs.Fmt.{decimal}
use Rattle.values.specs.code.Line.{printed_names, spaced_names}
use Rattle.values.specs.Printed.{printed_name}
use Rattle.peg_json.specs.declared.fault.TreeFault.{TreeFault}
use Rattle.peg_json.specs.declared.fault.TreeFault.TheVariants as faults
use Rattle.peg_json.specs.declared.read_fault.Counted.{Counted}
use Rattle.peg_json.specs.declared.read_fault.Counted.TheVariants as counted
use Rattle.planner.specs.declared.document.Document.{Document}
use Rattle.planner.specs.code.Document.{document_word}
use Rattle.planner.specs.declared.plan_fault.PlanFault.{PlanFault}
use Rattle.planner.specs.declared.plan_fault.PlanFault.TheVariants as plan

abbrev pub counted_word : Counted → List ℕ
counted_word counted.Jobs = codes "jobs"
counted_word counted.Files = codes "files"
counted_word counted.Sites = codes "sites"
counted_word counted.Tasks = codes "tasks"

-- a space and a word
abbrev pub and_word : List ℕ → List ℕ
and_word word = codes " " ++ word

abbrev pub and_name : List ℕ → List ℕ
and_name name = codes " " ++ printed_name name

abbrev pub and_number : ℕ → List ℕ
and_number n = codes " " ++ decimal n

-- a document that has something else, or nothing, where the name says
abbrev pub found_line : Document → List ℕ → List ℕ → List ℕ
found_line which word name = codes "refused" ++ and_word (document_word which) ++ and_word word
    ++ and_name name ++ codes "\n"

-- no call answers want of memory with a line
abbrev pub tree_line : Document → TreeFault → List ℕ
tree_line which faults.Syntax = codes "refused" ++ and_word (document_word which) ++ codes " syntax\n"
tree_line which (faults.MissingKey path) = found_line which (codes "missing") path
tree_line which (faults.WrongKind path) = found_line which (codes "kind") path
tree_line which (faults.OutOfRange path n) = codes "refused" ++ and_word (document_word which)
    ++ codes " range" ++ and_name path ++ and_number n ++ codes "\n"
tree_line which (faults.Unsupported path what) =
    codes "refused" ++ and_word (document_word which) ++ codes " unsupported" ++ and_name path
    ++ and_name what ++ codes "\n"
tree_line which (faults.BadVersion text) = found_line which (codes "version") text
tree_line which faults.Memory = []

-- words and one name, two names, three names
abbrev pub one_name : List ℕ → List ℕ → List ℕ
one_name words name = words ++ and_name name ++ codes "\n"

abbrev pub two_names : List ℕ → List ℕ → List ℕ → List ℕ
two_names words one two = words ++ and_name one ++ and_name two ++ codes "\n"

abbrev pub three_names : List ℕ → List ℕ → List ℕ → List ℕ → List ℕ
three_names words one two three = words ++ spaced_names (one ∷ two ∷ three ∷ []) ++ codes "\n"

-- words and the names of a cycle
abbrev pub cycle_line : List ℕ → List (List ℕ) → List ℕ
cycle_line words ids = words ++ codes " " ++ printed_names ids ++ codes "\n"

-- what is too many, how many there are and how many there may be
abbrev pub many_line : List ℕ → ℕ → ℕ → List ℕ
many_line what count limit = codes "refused many" ++ and_word what ++ and_number count ++ and_number limit
    ++ codes "\n"

-- a bound that is passed has a line of its own, and want of memory has none
abbrev pub refused_line : PlanFault → List ℕ
refused_line (plan.Tree which fault) = tree_line which fault
refused_line (plan.TooMany what count limit) = many_line (counted_word what) count limit
refused_line (plan.DuplicateJob id) = one_name (codes "refused twice job") id
refused_line (plan.DuplicateUse id lfn) = two_names (codes "refused twice use") id lfn
refused_line (plan.UnknownJob id) = one_name (codes "refused unknown job") id
refused_line (plan.DuplicateSite name) = one_name (codes "refused twice site") name
refused_line (plan.DuplicateTransformation name) = one_name (codes "refused twice transformation") name
refused_line (plan.NoCatalogue which) = codes "refused catalogue" ++ and_word (document_word which)
    ++ codes "\n"
refused_line (plan.UnknownSite name) = one_name (codes "refused unknown site") name
refused_line (plan.TwoProducers lfn one two) = three_names (codes "refused producers") lfn one two
refused_line (plan.Cycle ids) = cycle_line (codes "refused cycle") ids
refused_line (plan.NoTransformation id) = one_name (codes "refused transformation") id
refused_line (plan.NoSite id name) = two_names (codes "refused site") id name
refused_line (plan.BadNumber id key) = two_names (codes "refused number") id key
refused_line (plan.LabelOverSites label one two) = three_names (codes "refused label") label one two
refused_line (plan.ClusterCycle ids) = cycle_line (codes "refused cluster cycle") ids
refused_line (plan.NoReplica lfn) = one_name (codes "refused replica") lfn
refused_line (plan.NoSize lfn) = one_name (codes "refused size") lfn
refused_line (plan.ToolUnknown id name) = two_names (codes "refused tool") id name
refused_line (plan.Exceeds site task needed bound) = []
refused_line plan.Memory = []
