-- What operations leave at sites.
use Rattle.std.specs.Prelude.{ℕ, ◌&&◌, cond, List, [], ◌∷◌}
use Rattle.std.specs.Str.{bytes_eq}
use Rattle.values.specs.Numbers.{total}
use Rattle.outside.specs.declared.operation.Operation.{Operation}
use Rattle.outside.specs.declared.operation.Operation.TheVariants.{Publish, Deliver, Remove}
use Rattle.plan_core.specs.declared.plan.Plan.{Plan}
use Rattle.plan_core.specs.Words.{count_pairs, is_at}
use Rattle.plan_core.specs.Names.{pair_file_name, pair_site_name}

-- what operations leave of the file of name n at site s, of which so many bytes stand there
abbrev pub left_by : List ℕ → List ℕ → Operation → ℕ → ℕ
left_by s n (Publish site name size) x = cond (bytes_eq s site && bytes_eq n name) size x
left_by s n (Deliver name size) x = x
left_by s n (Remove site name) x = cond (bytes_eq s site && bytes_eq n name) 0 x

abbrev pub left_after : List ℕ → List ℕ → List Operation → ℕ → ℕ
left_after s n [] x = x
left_after s n (o ∷ os) x = left_after s n os (left_by s n o x)

-- the sum of what they leave of the plan's pairs at a site: of each the length of the last Publish of its name that no Remove
-- of it follows, else 0
abbrev pub left_in : Plan → List Operation → ℕ → ℕ
left_in p os s = total (count_pairs p) (λ q. cond (is_at p q s)
    (left_after (pair_site_name p q) (pair_file_name p q) os 0) 0)
