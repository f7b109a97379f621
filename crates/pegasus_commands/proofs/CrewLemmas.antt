-- What a crew shows once its first member has worked.
use Rattle.std.proofs.Common.{◌≡◌, List, [], ◌∷◌, length, map, get_or, drop, sym, ap, ◌∙◌, refl, arith}
use Rattle.std.proofs.lemmas.List.{drop_all}
use Rattle.std.specs.Prelude.{Some, slice_set}
use Rattle.craft.specs.declared.crew.Crew.{Crew}
use Rattle.craft.specs.declared.gate.Gate as gate
use Rattle.outside.specs.declared.tool.Tool as tool
use Rattle.plan_run.specs.Moments.{MemberMoment}
use Rattle.plan_run.specs.code.Moments.{crew_moment, first_shown, member_moment}
use Rattle.command_words.specs.declared.commands.Quick.{Quick as QuickWords}
use Rattle.command_words.specs.declared.commands.Quick.TheVariants as quick_words
use Rattle.command_words.specs.code.Words.{quick_members, quick_of}

-- the first member of a crew, before and after it worked
pub first_is : {A : Type 0} (shown : A → MemberMoment) (crew : List A) (first : A) → length crew ≡ 16 → first ≡ get_or crew 0 first → first_shown (map shown crew) ≡ shown first
first_is shown [] first long is = absurd (omega (arith, long))
first_is shown (m ∷ ms) first long is = ap shown (sym is)

pub first_set : {A : Type 0} (shown : A → MemberMoment) (crew : List A) (first : A) → length crew ≡ 16 → first_shown (map shown (slice_set crew 0 first)) ≡ shown first
first_set shown [] first long = absurd (omega (arith, long))
first_set shown (m ∷ ms) first long = refl

-- what stays of the first member of a crew stays of all
pub all_stay : {A B : Type 0} (part : A → B) (crew : List A) (first last : A) → first ≡ get_or crew 0 first → part last ≡ part first → map part (slice_set crew 0 last) ≡ map part crew
all_stay part [] first last is same = refl
all_stay part (m ∷ ms) first last is same = ap (λ x. x ∷ map part ms) (same ∙ ap part is)

-- where the first member's counts stayed, and what its gate was asked and told, all members show the same
pub members_stay : {T G : Type 0} (t : tool.Ghosts T) (g : gate.Ghosts G) (crew : List (Crew T G)) (first last : Crew T G) → first ≡ get_or crew 0 first → g.asked last.gate ≡ g.asked first.gate → t.faults last.tool ≡ t.faults first.tool → t.runs last.tool ≡ t.runs first.tool → g.told last.gate ≡ g.told first.gate → crew_moment t g (slice_set crew 0 last) ≡ crew_moment t g crew
members_stay t g crew first last is asked same ran told = all_stay (member_moment t g) crew first last is (λ i. record { faults = same i; runs = ran i; asked = Some (asked i); told = told i })

-- what stands behind the first member stays
pub rest_stays : {A : Type 0} (crew : List A) (last : A) → drop 1 (slice_set crew 0 last) ≡ drop 1 crew
rest_stays [] last = refl
rest_stays (m ∷ ms) last = refl

-- nothing is left behind sixteen members
pub none_left : {A : Type 0} (new old : List A) → length new ≡ 16 → length old ≡ 16 → drop 16 new ≡ drop 16 old
none_left new old a b = drop_all 16 new (omega (arith, a)) ∙ sym (drop_all 16 old (omega (arith, b)))

-- every command but the one that goes on from a record works with the first member alone
pub first_alone : (c : QuickWords) → ((request record_name : _) → c ≡ quick_words.Resume request record_name → ⊥) → quick_members (quick_of c) ≡ 1
first_alone (quick_words.Resume request record_name) other = absurd (other request record_name refl)
first_alone c other = refl
