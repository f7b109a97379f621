-- Counts of a host before and after some calls.
use Rattle.std.proofs.Common.{◌≡◌, ℕ, ◌+◌, ◌-◌, ◌^◌, ◌≤◌, min, ap, arith}
use Rattle.std.specs.Prelude.{Option, Some, None}
use Rattle.outside.specs.code.Counts.{IsLater, one_done, one_fault, one_miss}
use Rattle.outside.specs.declared.counts.Counts.{Counts}
use Rattle.outside.specs.declared.store.Store.{Store}
use Rattle.run_record.specs.Events.{Event}
use Rattle.site_yard.specs.code.Failures.{AreMore, IsCounted, IsMore, faults_of, misses_of}

-- one call
pub same_more : (a b : Counts) → b ≡ a → AreMore 0 0 0 a b
same_more a b is =
    let d : b.done ≡ a.done = ap (λ (c : Counts). c.done) is in
    let f : b.faults ≡ a.faults = ap (λ (c : Counts). c.faults) is in
    let m : b.misses ≡ a.misses = ap (λ (c : Counts). c.misses) is in
    record { done_is = λ x. omega (arith, d); faults_is = λ x. omega (arith, f); misses_is = λ x. omega (arith, m) }

pub done_once : (a b : Counts) → b ≡ one_done a → AreMore 1 0 0 a b
done_once a b is =
    let d : b.done ≡ min (a.done + 1) (2 ^ 64 - 1) = ap (λ (c : Counts). c.done) is in
    let f : b.faults ≡ a.faults = ap (λ (c : Counts). c.faults) is in
    let m : b.misses ≡ a.misses = ap (λ (c : Counts). c.misses) is in
    record { done_is = λ x. omega (arith, d, x); faults_is = λ x. omega (arith, f); misses_is = λ x. omega (arith, m) }

pub failed_once : (a b : Counts) → b ≡ one_fault a → AreMore 0 1 0 a b
failed_once a b is =
    let d : b.done ≡ a.done = ap (λ (c : Counts). c.done) is in
    let f : b.faults ≡ min (a.faults + 1) (2 ^ 64 - 1) = ap (λ (c : Counts). c.faults) is in
    let m : b.misses ≡ a.misses = ap (λ (c : Counts). c.misses) is in
    record { done_is = λ x. omega (arith, d); faults_is = λ x. omega (arith, f, x); misses_is = λ x. omega (arith, m) }

pub missed_once : (a b : Counts) → b ≡ one_miss a → AreMore 0 0 1 a b
missed_once a b is =
    let d : b.done ≡ a.done = ap (λ (c : Counts). c.done) is in
    let f : b.faults ≡ a.faults = ap (λ (c : Counts). c.faults) is in
    let m : b.misses ≡ min (a.misses + 1) (2 ^ 64 - 1) = ap (λ (c : Counts). c.misses) is in
    record { done_is = λ x. omega (arith, d); faults_is = λ x. omega (arith, f); misses_is = λ x. omega (arith, m, x) }

-- two steps
pub is_more_then : (n k x a b c : ℕ) → x ≡ n + k → IsMore n a b → IsMore k b c → b ≤ c → IsMore x a c
is_more_then n k x a b c sum first second later = λ small.
    let one = first (omega (arith, small, later)) in
    let two = second small in
    omega (arith, sum, one, two)

pub more_then : (d e x f g y m n z : ℕ) (a b c : Counts) → x ≡ d + e → y ≡ f + g → z ≡ m + n → AreMore d f m a b → AreMore e g n b c → IsLater b c → AreMore x y z a c
more_then d e x f g y m n z a b c is fs ms first second later = record {
  done_is = is_more_then d e x a.done b.done c.done is first.done_is second.done_is later.done;
  faults_is = is_more_then f g y a.faults b.faults c.faults fs first.faults_is second.faults_is later.faults;
  misses_is = is_more_then m n z a.misses b.misses c.misses ms first.misses_is second.misses_is later.misses;
}

-- some calls before that did what was asked
pub done_before : (n k f m : ℕ) (a b c : Counts) → AreMore n 0 0 a b → AreMore k f m b c → IsLater b c → AreMore (n + k) f m a c
done_before n k f m a b c first second later = more_then n k (n + k) 0 f f 0 m m a b c (omega arith) (omega arith) (omega arith) first second later

pub after_done : (n f m : ℕ) (a b c : Counts) → AreMore n 0 0 a b → AreMore 0 f m b c → IsLater b c → AreMore n f m a c
after_done n f m a b c first second later = more_then n 0 n 0 f f 0 m m a b c (omega arith) (omega arith) (omega arith) first second later

-- none after
pub none_after : (n f m : ℕ) (a b c : Counts) → AreMore n f m a b → AreMore 0 0 0 b c → IsLater b c → AreMore n f m a c
none_after n f m a b c first second later = more_then n 0 n f 0 f m 0 m a b c (omega arith) (omega arith) (omega arith) first second later

-- what an entry lays on the host
pub shows : (o : Option Store) (n f m : ℕ) (before now_ : Counts) (e : Event) → f ≡ faults_of e → m ≡ misses_of e → AreMore n f m before now_ → IsLater before now_ → IsCounted o before now_ e
shows None n f m before now_ e fs ms more later = (
  later,
  λ x y.
      let a = more.faults_is x in
      let b = more.misses_is y in
      omega (arith, a, b, fs, ms),
)
shows (Some s) n f m before now_ e fs ms more later =
    (later, (λ x. let a = more.faults_is x in omega (arith, a, fs)), λ y. let b = more.misses_is y in omega (arith, b, ms))

-- where the host doesn't tell, a file that wasn't found is a failure
pub shows_missing : (n : ℕ) (before now_ : Counts) (e : Event) → faults_of e ≡ 1 → misses_of e ≡ 0 → AreMore n 0 1 before now_ → IsLater before now_ → IsCounted None before now_ e
shows_missing n before now_ e fs ms more later = (
  later,
  λ x y.
      let a = more.faults_is x in
      let b = more.misses_is y in
      omega (arith, a, b, fs, ms),
)
