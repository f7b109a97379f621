-- How one step over documents follows another.
use Rattle.std.proofs.Common.{◌≡◌, ap, [], refl, sym, subst, ◌∙◌, inl, inr, arith}
use Rattle.std.specs.Prelude.{◌⊎◌, Option, Some, Result, Ok, Err}
use Rattle.outside.specs.code.Counts.{IsLater, Rose, one_done, one_fault}
use Rattle.outside.specs.code.Docs.{Fetched}
use Rattle.values.specs.FileMap.{Files}
use Rattle.outside.specs.declared.counts.Counts.{Counts}
use Rattle.outside.specs.declared.docs.DocFault.{DocFault}
use Rattle.outside.specs.declared.docs.DocFault.TheVariants as doc_faults
use Rattle.pegasus_commands.specs.declared.fault.CallFault.{CallFault}
use Rattle.pegasus_commands.specs.declared.fault.CallFault.TheVariants.{Memory}
use Rattle.pegasus_commands.specs.code.Course.{ButMemory, Course, Ends, Asks, Gives, HasFailed, IsStep, doc_answer, goes_on, read_from}
use Rattle.pegasus_commands.specs.Course.{document_limit}
use Rattle.pegasus_commands.specs.code.Course.{◌>>=◌}
use Rattle.pegasus_commands.specs.Moments.{DocsMoment}

later_still : (a b c : Counts) → IsLater a b → IsLater b c → IsLater a c
later_still a b c x y = record {
  done = omega (arith, x.done, y.done);
  faults = omega (arith, x.faults, y.faults);
  misses = omega (arith, x.misses, y.misses);
}

but_memory : {A : Type 0} (r : Result A CallFault) (P : Type 0) → P → ButMemory r P
but_memory (Err Memory) P h = tt
but_memory r P h = h

same_value : {A : Type 0} (a x : A) → ◌≡◌ {A = Result A CallFault} (Ok a) (Ok x) → a ≡ x
same_value a x is = cc

same_answer : {A : Type 0} (e f : CallFault) → ◌≡◌ {A = Result A CallFault} (Err e) (Err f) → e ≡ f
same_answer e f is = cc

value_is_no_answer : {A : Type 0} (a : A) (e : CallFault) → ◌≡◌ {A = Result A CallFault} (Ok a) (Err e) → ⊥
value_is_no_answer a e is = absurd cc

again : (B : Type 0) (e f : CallFault) → e ≡ f → ◌≡◌ {A = Result B CallFault} (Err e) (Err f)
again B e f is = ap Err is

-- a course that gave a value, and then one that starts from that value
gives_then : {A B : Type 0} (told : Option Files) (c : Course A) (f : A → Course B) (before mid after : Counts) (a : A) (r : Result B CallFault)
    → Gives told c before mid (Ok a) → Gives told (f a) mid after r → Gives told (c >>= f) before after r
gives_then {A} {B} told (Ends (Ok x)) f before mid after a r h next = subst (λ (m : Counts). Gives told (f x) m after r) h.0 (subst (λ (z : A). Gives told (f z) mid after r) (same_value {A = A} a x h.1) next)
gives_then {A} {B} told (Ends (Err e)) f before mid after a r h next = absurd (value_is_no_answer {A = A} a e h.1)
gives_then {A} {B} told (Asks name rest) f before mid after a r (inl h) next = inl (h.0, h.1, gives_then told (rest h.0) f (one_done before) mid after a r h.2 next)
gives_then {A} {B} told (Asks name rest) f before mid after a r (inr h) next = absurd (value_is_no_answer {A = A} a (doc_answer name h.0) h.2)

-- a course that ended with an answer ends all that would follow
gives_stop : {A B : Type 0} (told : Option Files) (c : Course A) (f : A → Course B) (before after : Counts) (e : CallFault)
    → Gives {A = A} told c before after (Err e) → Gives {A = B} told (c >>= f) before after (Err e)
gives_stop {A} {B} told (Ends (Ok x)) f before after e h = absurd (value_is_no_answer {A = A} x e (sym h.1))
gives_stop {A} {B} told (Ends (Err g)) f before after e h = (h.0, again B e g (same_answer {A = A} e g h.1))
gives_stop {A} {B} told (Asks name rest) f before after e (inl h) = inl (h.0, h.1, gives_stop told (rest h.0) f (one_done before) after e h.2)
gives_stop {A} {B} told (Asks name rest) f before after e (inr h) = inr (h.0, h.1, again B e (doc_answer name h.0) (same_answer {A = A} e (doc_answer name h.0) h.2))

-- what held of one answer holds of the same answer elsewhere
answer_again : (A B : Type 0) (e : CallFault) (P Q : Type 0) → (P → Q) → ButMemory {A = A} (Err e) P → ButMemory {A = B} (Err e) Q
answer_again A B Memory P Q f h = tt
answer_again A B e P Q f h = f h

pub result_again : {A : Type 0} (r : Result A CallFault) (P Q : Type 0) → (P → Q) → ButMemory r P → ButMemory r Q
result_again (Err Memory) P Q f h = tt
result_again r P Q f h = f h

-- a step, and one that starts from its value
pub step_then : {A B : Type 0} (c : Course A) (f : A → Course B) (before mid after : DocsMoment) (a : A) (r : Result B CallFault)
    → IsStep c before mid (Ok a) → IsStep (f a) mid after r → IsStep (c >>= f) before after r
step_then c f before mid after a r one two = record {
  told = two.told ∙ one.told;
  later = later_still before.counts mid.counts after.counts one.later two.later;
  gives = result_again r _ _ (λ (h : Gives mid.told (f a) mid.counts after.counts r). gives_then before.told c f before.counts mid.counts after.counts a r one.gives (subst (λ (t : Option Files). Gives t (f a) mid.counts after.counts r) one.told h)) two.gives;
}

-- an answer ends all that would follow
pub step_stop : {A B : Type 0} (c : Course A) (f : A → Course B) (before after : DocsMoment) (e : CallFault)
    → IsStep c before after (Err e) → IsStep (c >>= f) before after (Err e)
step_stop {A} {B} c f before after e came = record {
  told = came.told;
  later = came.later;
  gives = answer_again A B e (Gives before.told c before.counts after.counts (Err e)) (Gives before.told (c >>= f) before.counts after.counts (Err e)) (gives_stop before.told c f before.counts after.counts e) came.gives;
}

-- the end of a course
pub step_end : {A : Type 0} (moment : DocsMoment) (a : A) → IsStep (Ends (Ok a)) moment moment (Ok a)
step_end moment a = record { told = refl; later = record { done = omega (arith); faults = omega (arith); misses = omega (arith) }; gives = (refl, refl) }

rose_by_one : (before after : Counts) → after ≡ one_fault before → Rose before.faults after.faults
rose_by_one before after is = rw is (omega arith)

-- What told documents give is what came, but where a fetch failed or memory ran out.
pub told_gives : {A : Type 0} (files : Files) (c : Course A) (before after : Counts) (r : Result A CallFault)
    → Gives (Some files) c before after r → ButMemory r ((r ≡ read_from files c) ⊎ HasFailed before after r)
told_gives files (Ends r) before after x h = but_memory x _ (inl h.1)
told_gives files (Asks name next) before after x (inl h) =
    result_again x _ _ (λ (m : (x ≡ read_from files (next h.0)) ⊎ HasFailed (one_done before) after x). came_so m) (told_gives files (next h.0) (one_done before) after x h.2)
  where
    came_so : (x ≡ read_from files (next h.0)) ⊎ HasFailed (one_done before) after x → (x ≡ read_from files (Asks name next)) ⊎ HasFailed before after x
    came_so (inl m) = inl (subst (λ z. x ≡ goes_on z name (λ bytes. read_from files (next bytes))) (sym h.1.told_is) m)
    came_so (inr m) = inr m
told_gives files (Asks name next) before after x (inr h) = refused_so h.0 h.1 h.2
  where
    refused_so : (fault : DocFault) → Fetched (Some files) name document_limit before after (Err fault) [] → x ≡ Err (doc_answer name fault) → ButMemory x ((x ≡ read_from files (Asks name next)) ⊎ HasFailed before after x)
    refused_so doc_faults.Absent f m = but_memory x _ (inl (subst (λ z. x ≡ goes_on z name (λ bytes. read_from files (next bytes))) (sym f.2) m))
    refused_so (doc_faults.TooLong n) f m = but_memory x _ (inl (subst (λ z. x ≡ goes_on z name (λ bytes. read_from files (next bytes))) (sym f.3) m))
    refused_so doc_faults.Failed f m = but_memory x _ (inr (rose_by_one before after f.0, name, m))
    refused_so doc_faults.Memory f m = rw m tt
