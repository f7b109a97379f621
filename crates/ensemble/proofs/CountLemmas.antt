-- Counts that stand still at the greatest u64, against a limit below it.
use Rattle.std.proofs.Common.{◌≡◌, ℕ, ◌+◌, ◌-◌, ◌<◌, ◌≤◌, Bool, true, false, cond, nat_lt, sym, ap, ◌∙◌, arith}
use Rattle.std.specs.Prelude.{◌^◌, min, Result, Ok, Err}
use Rattle.peg_json.specs.declared.read_fault.Counted.{Counted}
use Rattle.ensemble.specs.declared.join_fault.JoinFault.{JoinFault}
use Rattle.ensemble.specs.declared.join_fault.JoinFault.TheVariants.{TooMany}
use Rattle.ensemble.specs.Joining.{few}

less : (a b : ℕ) → a < b → nat_lt a b ≡ true
less a b h = grind arith

not_less : (a b : ℕ) → b ≤ a → nat_lt a b ≡ false
not_less a b h = grind arith

abbrev refusing : Counted → ℕ → ℕ → Bool → Result (Unit {0}) JoinFault
refusing counted limit count b = cond b (Err (TooMany counted count limit)) (Ok tt)

pub past : (counted : Counted) (limit count n : ℕ) → count ≡ min n (2 ^ 64 - 1) → limit < count → few counted limit n ≡ Err (TooMany counted count limit)
past counted limit count n is h =
    ap (refusing counted limit (min n (2 ^ 64 - 1))) (less limit n (omega (arith, is, h)))
    ∙ ap (λ (c : ℕ). refusing counted limit c true) (sym is)

pub within : (counted : Counted) (limit count n : ℕ) → count ≡ min n (2 ^ 64 - 1) → limit < 2 ^ 64 - 1 → count ≤ limit → few counted limit n ≡ Ok tt
within counted limit count n is small h = ap (refusing counted limit (min n (2 ^ 64 - 1))) (not_less limit n (omega (arith, is, h, small)))

pub count_more : (count one rest most : ℕ) → min (min (count + one) most + rest) most ≡ min (count + (one + rest)) most
count_more count one rest most = omega arith
