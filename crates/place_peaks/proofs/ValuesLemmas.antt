-- How the values of an order change: with what is held, and with a task that isn't left any more.
use Rattle.std.proofs.Common.{◌≡◌, ℕ, zero, suc, ◌≤◌, Bool, true, false, cond, List, [], ◌∷◌, ◌++◌, length, take, Option, Some, None, refl, sym, ap, subst, ◌∙◌, arith, append_assoc}
use Rattle.std.specs.Prelude.{filter, set}
use Rattle.peak_tree.specs.Numbers.{greater, greatest}
use Rattle.place_peaks.specs.Tree.{AllFirst, IsUpTo, front_changed, on}
use Rattle.place_peaks.specs.Values.{next, value, values}

pub append_nil : (xs : List ℕ) → xs ++ [] ≡ xs
append_nil [] = refl
append_nil (x ∷ xs) = ap (λ (ys : List ℕ). x ∷ ys) (append_nil xs)

-- the front after the tasks that are left of one list more
pub next_more : (left : ℕ → Bool) (front : List ℕ) (t : ℕ) (ts : List ℕ) → next left front t ++ filter left ts ≡ front ++ filter left (t ∷ ts)
next_more left front t ts = by (left t)
  where
    by : (b : Bool) → cond b (front ++ t ∷ []) front ++ filter left ts ≡ front ++ cond b (t ∷ filter left ts) (filter left ts)
    by true = append_assoc front (t ∷ []) (filter left ts)
    by false = refl

pub values_append : (there left : ℕ → Bool) (held : List ℕ → ℕ) (front xs ys : List ℕ) → values there left held front (xs ++ ys) ≡ values there left held front xs ++ values there left held (front ++ filter left xs) ys
values_append there left held front [] ys = ap (λ (f : List ℕ). values there left held f ys) (sym (append_nil front))
values_append there left held front (x ∷ xs) ys =
    by (there x) (values_append there left held (next left front x) xs ys ∙ ap (λ (f : List ℕ). values there left held (next left front x) xs ++ values there left held f ys) (next_more left front x xs))
  where
    by : (b : Bool) → values there left held (next left front x) (xs ++ ys) ≡ values there left held (next left front x) xs ++ values there left held (front ++ filter left (x ∷ xs)) ys
        → cond b (value (left x) (held (next left front x)) ∷ values there left held (next left front x) (xs ++ ys)) (values there left held (next left front x) (xs ++ ys))
        ≡ cond b (value (left x) (held (next left front x)) ∷ values there left held (next left front x) xs) (values there left held (next left front x) xs) ++ values there left held (front ++ filter left (x ∷ xs)) ys
    by true e = ap (λ (vs : List (Option ℕ)). value (left x) (held (next left front x)) ∷ vs) e
    by false e = e

pub values_long : (there left : ℕ → Bool) (held : List ℕ → ℕ) (front xs : List ℕ) → length (values there left held front xs) ≡ length (filter there xs)
values_long there left held front [] = refl
values_long there left held front (x ∷ xs) = by (there x) (values_long there left held (next left front x) xs)
  where
    by : (b : Bool) → length (values there left held (next left front x) xs) ≡ length (filter there xs)
        → length (cond b (value (left x) (held (next left front x)) ∷ values there left held (next left front x) xs) (values there left held (next left front x) xs)) ≡ length (cond b (x ∷ filter there xs) (filter there xs))
    by true e = ap suc e
    by false e = e

-- what holds after each front of the tasks that are left
abbrev pub OnFronts : (List ℕ → Type 0) → List ℕ → Type 0
OnFronts P ts = (k : ℕ) → P (take k ts)

one_more : (left : ℕ → Bool) (t : ℕ) (ts : List ℕ) (P : List ℕ → Type 0) → OnFronts P (filter left (t ∷ ts)) → OnFronts (λ g. P (cond (left t) (t ∷ g) g)) (filter left ts)
one_more left t ts P h = by (left t) h
  where
    by : (b : Bool) → OnFronts P (cond b (t ∷ filter left ts) (filter left ts)) → OnFronts (λ g. P (cond b (t ∷ g) g)) (filter left ts)
    by true h k = h (suc k)
    by false h k = h k

next_front : (left : ℕ → Bool) (front : List ℕ) (t : ℕ) (g : List ℕ) → next left front t ++ g ≡ front ++ cond (left t) (t ∷ g) g
next_front left front t g = by (left t)
  where
    by : (b : Bool) → cond b (front ++ t ∷ []) front ++ g ≡ front ++ cond b (t ∷ g) g
    by true = append_assoc front (t ∷ []) g
    by false = refl

-- two tests agree on some tasks
abbrev pub AreSame : (ℕ → Bool) → (ℕ → Bool) → List ℕ → Type 0
AreSame left new [] = Unit {0}
AreSame left new (x ∷ xs) = (left x ≡ new x) × AreSame left new xs

pub filter_same : (left new : ℕ → Bool) (xs : List ℕ) → AreSame left new xs → filter left xs ≡ filter new xs
filter_same left new [] same = refl
filter_same left new (x ∷ xs) same = ap (λ (b : Bool). cond b (x ∷ filter left xs) (filter left xs)) same.0 ∙ by (new x) (filter_same left new xs same.1)
  where
    by : (b : Bool) → filter left xs ≡ filter new xs → cond b (x ∷ filter left xs) (filter left xs) ≡ cond b (x ∷ filter new xs) (filter new xs)
    by true e = ap (λ (ys : List ℕ). x ∷ ys) e
    by false e = e

pub values_same : (there left new : ℕ → Bool) (held : List ℕ → ℕ) (front xs : List ℕ) → AreSame left new xs → values there left held front xs ≡ values there new held front xs
values_same there left new held front [] same = refl
values_same there left new held front (x ∷ xs) same =
    ap (λ (b : Bool). cond (there x) (value b (held (cond b (front ++ x ∷ []) front)) ∷ values there left held (cond b (front ++ x ∷ []) front) xs) (values there left held (cond b (front ++ x ∷ []) front) xs)) same.0
    ∙ ap (λ (vs : List (Option ℕ)). cond (there x) (value (new x) (held (next new front x)) ∷ vs) vs) (values_same there left new held (next new front x) xs same.1)

-- Where what is held after each front of the tasks that are left is changed, each value is.
pub values_changed : (there left : ℕ → Bool) (held after : List ℕ → ℕ) (f : ℕ → ℕ) (front back xs : List ℕ)
    → OnFronts (λ g. after (back ++ g) ≡ f (held (front ++ g))) (filter left xs)
    → values there left after back xs ≡ front_changed (length (filter there xs)) f (values there left held front xs)
values_changed there left held after f front back [] h = refl
values_changed there left held after f front back (x ∷ xs) h = by (there x) here (values_changed there left held after f (next left front x) (next left back x) xs rest)
  where
    rest : OnFronts (λ g. after (next left back x ++ g) ≡ f (held (next left front x ++ g))) (filter left xs)
    rest k =
        ap after (next_front left back x (take k (filter left xs)))
        ∙ one_more left x xs (λ g. after (back ++ g) ≡ f (held (front ++ g))) h k
        ∙ sym (ap (λ (g : List ℕ). f (held g)) (next_front left front x (take k (filter left xs))))

    here : value (left x) (after (next left back x)) ≡ on f (value (left x) (held (next left front x)))
    here = live (left x) h
      where
        live : (b : Bool) → OnFronts (λ g. after (back ++ g) ≡ f (held (front ++ g))) (cond b (x ∷ filter left xs) (filter left xs)) → value b (after (cond b (back ++ x ∷ []) back)) ≡ on f (value b (held (cond b (front ++ x ∷ []) front)))
        live true k = ap Some (k 1)
        live false k = refl

    by : (b : Bool) → value (left x) (after (next left back x)) ≡ on f (value (left x) (held (next left front x)))
        → values there left after (next left back x) xs ≡ front_changed (length (filter there xs)) f (values there left held (next left front x) xs)
        → cond b (value (left x) (after (next left back x)) ∷ values there left after (next left back x) xs) (values there left after (next left back x) xs)
        ≡ front_changed (length (cond b (x ∷ filter there xs) (filter there xs))) f (cond b (value (left x) (held (next left front x)) ∷ values there left held (next left front x) xs) (values there left held (next left front x) xs))
    by true e r = ap (λ (v : Option ℕ). v ∷ values there left after (next left back x) xs) e ∙ ap (λ (vs : List (Option ℕ)). on f (value (left x) (held (next left front x))) ∷ vs) r
    by false e r = r

-- changes of a front
pub front_long : (n : ℕ) (f : ℕ → ℕ) (xs : List (Option ℕ)) → length (front_changed n f xs) ≡ length xs
front_long zero f xs = refl
front_long (suc n) f [] = refl
front_long (suc n) f (x ∷ xs) = ap suc (front_long n f xs)

pub front_append : (f : ℕ → ℕ) (xs ys : List (Option ℕ)) → front_changed (length xs) f (xs ++ ys) ≡ front_changed (length xs) f xs ++ ys
front_append f [] ys = refl
front_append f (x ∷ xs) ys = ap (λ (zs : List (Option ℕ)). on f x ∷ zs) (front_append f xs ys)

on_same : (x : Option ℕ) → on (λ n. n) x ≡ x
on_same None = refl
on_same (Some n) = refl

pub front_same : (n : ℕ) (xs : List (Option ℕ)) → front_changed n (λ n. n) xs ≡ xs
front_same zero xs = refl
front_same (suc n) [] = refl
front_same (suc n) (x ∷ xs) = ap (λ (y : Option ℕ). y ∷ front_changed n (λ n. n) xs) (on_same x) ∙ ap (λ (ys : List (Option ℕ)). x ∷ ys) (front_same n xs)

set_middle : (xs ys : List (Option ℕ)) (x y : Option ℕ) (n : ℕ) → length xs ≡ n → set (xs ++ x ∷ ys) n y ≡ xs ++ y ∷ ys
set_middle [] ys x y zero e = refl
set_middle [] ys x y (suc n) e = absurd (omega (arith, e))
set_middle (z ∷ zs) ys x y zero e = absurd (omega (arith, e))
set_middle (z ∷ zs) ys x y (suc n) e = ap (λ (l : List (Option ℕ)). z ∷ l) (set_middle zs ys x y n (omega (arith, e)))

-- an order in three parts
pub values_split : (there left : ℕ → Bool) (held : List ℕ → ℕ) (front xs : List ℕ) (t : ℕ) (ys : List ℕ) → values there left held front (xs ++ t ∷ ys)
    ≡ values there left held front xs ++ cond (there t) (value (left t) (held (next left (front ++ filter left xs) t)) ∷ values there left held (next left (front ++ filter left xs) t) ys) (values there left held (next left (front ++ filter left xs) t) ys)
values_split there left held front xs t ys = values_append there left held front xs (t ∷ ys)

pub split_there : (there left : ℕ → Bool) (held : List ℕ → ℕ) (front xs : List ℕ) (t : ℕ) (ys : List ℕ) → there t ≡ true → left t ≡ true
    → values there left held front (xs ++ t ∷ ys) ≡ values there left held front xs ++ Some (held ((front ++ filter left xs) ++ t ∷ [])) ∷ values there left held ((front ++ filter left xs) ++ t ∷ []) ys
split_there there left held front xs t ys at is = values_split there left held front xs t ys ∙ by (front ++ filter left xs) (there t) (left t) at is
  where
    by : (m : List ℕ) (a b : Bool) → a ≡ true → b ≡ true → values there left held front xs ++ cond a (value b (held (cond b (m ++ t ∷ []) m)) ∷ values there left held (cond b (m ++ t ∷ []) m) ys) (values there left held (cond b (m ++ t ∷ []) m) ys)
        ≡ values there left held front xs ++ Some (held (m ++ t ∷ [])) ∷ values there left held (m ++ t ∷ []) ys
    by m false b e f = absurd cc
    by m true false e f = absurd cc
    by m true true e f = refl

pub split_gone : (there left : ℕ → Bool) (held : List ℕ → ℕ) (front xs : List ℕ) (t : ℕ) (ys : List ℕ) → there t ≡ true → left t ≡ false
    → values there left held front (xs ++ t ∷ ys) ≡ values there left held front xs ++ None ∷ values there left held (front ++ filter left xs) ys
split_gone there left held front xs t ys at gone = values_split there left held front xs t ys ∙ by (front ++ filter left xs) (there t) (left t) at gone
  where
    by : (m : List ℕ) (a b : Bool) → a ≡ true → b ≡ false → values there left held front xs ++ cond a (value b (held (cond b (m ++ t ∷ []) m)) ∷ values there left held (cond b (m ++ t ∷ []) m) ys) (values there left held (cond b (m ++ t ∷ []) m) ys)
        ≡ values there left held front xs ++ None ∷ values there left held m ys
    by m false b e f = absurd cc
    by m true true e f = absurd cc
    by m true false e f = refl

pub split_away : (there left : ℕ → Bool) (held : List ℕ → ℕ) (front xs : List ℕ) (t : ℕ) (ys : List ℕ) → there t ≡ false
    → values there left held front (xs ++ t ∷ ys) ≡ values there left held front xs ++ values there left held (next left (front ++ filter left xs) t) ys
split_away there left held front xs t ys away = values_split there left held front xs t ys ∙ by (there t) away
  where
    by : (a : Bool) → a ≡ false → values there left held front xs ++ cond a (value (left t) (held (next left (front ++ filter left xs) t)) ∷ values there left held (next left (front ++ filter left xs) t) ys) (values there left held (next left (front ++ filter left xs) t) ys)
        ≡ values there left held front xs ++ values there left held (next left (front ++ filter left xs) t) ys
    by true e = absurd cc
    by false e = refl

-- what stays
pub values_kept : (there left : ℕ → Bool) (held after : List ℕ → ℕ) (front back xs : List ℕ)
    → OnFronts (λ g. after (back ++ g) ≡ held (front ++ g)) (filter left xs)
    → values there left after back xs ≡ values there left held front xs
values_kept there left held after front back xs h = values_changed there left held after (λ n. n) front back xs h ∙ front_same (length (filter there xs)) (values there left held front xs)

-- the changed front of an order with one more task behind it
pub front_split : (there left : ℕ → Bool) (held : List ℕ → ℕ) (f : ℕ → ℕ) (front xs : List ℕ) (rest : List (Option ℕ))
    → front_changed (length (filter there xs)) f (values there left held front xs ++ rest) ≡ front_changed (length (filter there xs)) f (values there left held front xs) ++ rest
front_split there left held f front xs rest =
    subst (λ (n : ℕ). front_changed n f (values there left held front xs ++ rest) ≡ front_changed n f (values there left held front xs) ++ rest) (values_long there left held front xs) (front_append f (values there left held front xs) rest)

-- A task there isn't left any more: the values before it are changed, those behind it stay.
pub values_taken : (there left new : ℕ → Bool) (held after : List ℕ → ℕ) (f : ℕ → ℕ) (front xs : List ℕ) (t : ℕ) (ys : List ℕ)
    → left t ≡ true → new t ≡ false → AreSame left new xs → AreSame left new ys → there t ≡ true
    → OnFronts (λ g. after (front ++ g) ≡ f (held (front ++ g))) (filter left xs)
    → OnFronts (λ g. after ((front ++ filter left xs) ++ g) ≡ held (((front ++ filter left xs) ++ t ∷ []) ++ g)) (filter left ys)
    → values there new after front (xs ++ t ∷ ys) ≡ set (front_changed (length (filter there xs)) f (values there left held front (xs ++ t ∷ ys))) (length (filter there xs)) None
values_taken there left new held after f front xs t ys is gone same_x same_y at before behind =
    split_gone there new after front xs t ys at gone
    ∙ ap (λ (vs : List (Option ℕ)). vs ++ None ∷ values there new after (front ++ filter new xs) ys) (sym (values_same there left new after front xs same_x) ∙ values_changed there left held after f front front xs before)
    ∙ ap (λ (l : List ℕ). front_changed (length (filter there xs)) f (values there left held front xs) ++ None ∷ values there new after (front ++ l) ys) (sym (filter_same left new xs same_x))
    ∙ ap (λ (vs : List (Option ℕ)). front_changed (length (filter there xs)) f (values there left held front xs) ++ None ∷ vs) (sym (values_same there left new after (front ++ filter left xs) ys same_y) ∙ values_kept there left held after ((front ++ filter left xs) ++ t ∷ []) (front ++ filter left xs) ys behind)
    ∙ sym (set_middle (front_changed (length (filter there xs)) f (values there left held front xs)) (values there left held ((front ++ filter left xs) ++ t ∷ []) ys) (Some (held ((front ++ filter left xs) ++ t ∷ []))) None (length (filter there xs)) (front_long (length (filter there xs)) f (values there left held front xs) ∙ values_long there left held front xs))
    ∙ ap (λ (vs : List (Option ℕ)). set vs (length (filter there xs)) None)
    (sym (front_split there left held f front xs (Some (held ((front ++ filter left xs) ++ t ∷ [])) ∷ values there left held ((front ++ filter left xs) ++ t ∷ []) ys))
    ∙ ap (front_changed (length (filter there xs)) f) (sym (split_there there left held front xs t ys at is)))

-- A task elsewhere isn't left any more: all values stay.
pub values_passed : (there left new : ℕ → Bool) (held after : List ℕ → ℕ) (front xs : List ℕ) (t : ℕ) (ys : List ℕ)
    → left t ≡ true → new t ≡ false → AreSame left new xs → AreSame left new ys → there t ≡ false
    → OnFronts (λ g. after (front ++ g) ≡ held (front ++ g)) (filter left xs)
    → OnFronts (λ g. after ((front ++ filter left xs) ++ g) ≡ held (((front ++ filter left xs) ++ t ∷ []) ++ g)) (filter left ys)
    → values there new after front (xs ++ t ∷ ys) ≡ values there left held front (xs ++ t ∷ ys)
values_passed there left new held after front xs t ys is gone same_x same_y away before behind =
    split_away there new after front xs t ys away
    ∙ ap (λ (b : Bool). values there new after front xs ++ values there new after (cond b ((front ++ filter new xs) ++ t ∷ []) (front ++ filter new xs)) ys) gone
    ∙ ap (λ (vs : List (Option ℕ)). vs ++ values there new after (front ++ filter new xs) ys) (sym (values_same there left new after front xs same_x) ∙ values_kept there left held after front front xs before)
    ∙ ap (λ (l : List ℕ). values there left held front xs ++ values there new after (front ++ l) ys) (sym (filter_same left new xs same_x))
    ∙ ap (λ (vs : List (Option ℕ)). values there left held front xs ++ vs) (sym (values_same there left new after (front ++ filter left xs) ys same_y) ∙ values_kept there left held after ((front ++ filter left xs) ++ t ∷ []) (front ++ filter left xs) ys behind)
    ∙ ap (λ (b : Bool). values there left held front xs ++ values there left held (cond b ((front ++ filter left xs) ++ t ∷ []) (front ++ filter left xs)) ys) (sym is)
    ∙ sym (split_away there left held front xs t ys away)

-- What a good counts is changed until its Clean, which is left and there: the values before it are changed.
pub values_until : (there left : ℕ → Bool) (held after : List ℕ → ℕ) (f : ℕ → ℕ) (front xs : List ℕ) (t : ℕ) (ys : List ℕ)
    → left t ≡ true → there t ≡ true
    → OnFronts (λ g. after (front ++ g) ≡ f (held (front ++ g))) (filter left xs)
    → OnFronts (λ g. after (((front ++ filter left xs) ++ t ∷ []) ++ g) ≡ held (((front ++ filter left xs) ++ t ∷ []) ++ g)) (filter left ys)
    → values there left after front (xs ++ t ∷ ys) ≡ front_changed (length (filter there xs)) f (values there left held front (xs ++ t ∷ ys))
values_until there left held after f front xs t ys is at before behind =
    split_there there left after front xs t ys at is
    ∙ ap (λ (vs : List (Option ℕ)). vs ++ Some (after ((front ++ filter left xs) ++ t ∷ [])) ∷ values there left after ((front ++ filter left xs) ++ t ∷ []) ys) (values_changed there left held after f front front xs before)
    ∙ ap (λ (n : ℕ). front_changed (length (filter there xs)) f (values there left held front xs) ++ Some n ∷ values there left after ((front ++ filter left xs) ++ t ∷ []) ys) (ap after (sym (append_nil ((front ++ filter left xs) ++ t ∷ []))) ∙ behind 0 ∙ ap held (append_nil ((front ++ filter left xs) ++ t ∷ [])))
    ∙ ap (λ (vs : List (Option ℕ)). front_changed (length (filter there xs)) f (values there left held front xs) ++ Some (held ((front ++ filter left xs) ++ t ∷ [])) ∷ vs) (values_kept there left held after ((front ++ filter left xs) ++ t ∷ []) ((front ++ filter left xs) ++ t ∷ []) ys behind)
    ∙ sym (front_split there left held f front xs (Some (held ((front ++ filter left xs) ++ t ∷ [])) ∷ values there left held ((front ++ filter left xs) ++ t ∷ []) ys))
    ∙ ap (front_changed (length (filter there xs)) f) (sym (split_there there left held front xs t ys at is))

-- bounds on what is held after each front
pub up_to_greater : (b : ℕ) (x y : Option ℕ) → IsUpTo b (greater x y) → IsUpTo b x × IsUpTo b y
up_to_greater b None y h = (tt, h)
up_to_greater b (Some m) None h = (h, tt)
up_to_greater b (Some m) (Some n) h = (omega (arith, h), omega (arith, h))

pub greater_up_to : (b : ℕ) (x y : Option ℕ) → IsUpTo b x → IsUpTo b y → IsUpTo b (greater x y)
greater_up_to b None y h k = k
greater_up_to b (Some m) None h k = h
greater_up_to b (Some m) (Some n) h k = omega (arith, h, k)

abbrev pub IsAway : (ℕ → Bool) → (List ℕ → ℕ) → Type 0
IsAway there held = (t : ℕ) (front : List ℕ) → there t ≡ false → held (front ++ t ∷ []) ≡ held front

-- The bound is kept after each front where it is kept before the first task and no value is above it.
pub values_within : (there left : ℕ → Bool) (held : List ℕ → ℕ) (b : ℕ) (front xs : List ℕ) → IsAway there held → held front ≤ b → IsUpTo b (greatest (values there left held front xs))
    → OnFronts (λ g. held (front ++ g) ≤ b) (filter left xs)
values_within there left held b front [] away low up zero = subst (λ (g : List ℕ). held g ≤ b) (sym (append_nil front)) low
values_within there left held b front [] away low up (suc k) = subst (λ (g : List ℕ). held g ≤ b) (sym (append_nil front)) low
values_within there left held b front (x ∷ xs) away low up k = fronts (left x) (values_within there left held b (next left front x) xs away (here (there x) refl (left x) up) (later (there x) up)) k
  where
    here : (a : Bool) → there x ≡ a → (c : Bool) → IsUpTo b (greatest (cond a (value c (held (cond c (front ++ x ∷ []) front)) ∷ values there left held (cond c (front ++ x ∷ []) front) xs) (values there left held (cond c (front ++ x ∷ []) front) xs))) → held (cond c (front ++ x ∷ []) front) ≤ b
    here a e false h = low
    here true e true h = (up_to_greater b (Some (held (front ++ x ∷ []))) (greatest (values there left held (front ++ x ∷ []) xs)) h).0
    here false e true h = let same = away x front e in omega (arith, same, low)

    later : (a : Bool) → IsUpTo b (greatest (cond a (value (left x) (held (next left front x)) ∷ values there left held (next left front x) xs) (values there left held (next left front x) xs))) → IsUpTo b (greatest (values there left held (next left front x) xs))
    later true h = (up_to_greater b (value (left x) (held (next left front x))) (greatest (values there left held (next left front x) xs)) h).1
    later false h = h

    fronts : (c : Bool) → OnFronts (λ g. held (cond c (front ++ x ∷ []) front ++ g) ≤ b) (filter left xs) → OnFronts (λ g. held (front ++ g) ≤ b) (cond c (x ∷ filter left xs) (filter left xs))
    fronts false h j = h j
    fronts true h zero = subst (λ (g : List ℕ). held g ≤ b) (sym (append_nil front)) low
    fronts true h (suc j) = subst (λ (g : List ℕ). held g ≤ b) (append_assoc front (x ∷ []) (take j (filter left xs))) (h j)

pub within_values : (there left : ℕ → Bool) (held : List ℕ → ℕ) (b : ℕ) (front xs : List ℕ) → OnFronts (λ g. held (front ++ g) ≤ b) (filter left xs) → IsUpTo b (greatest (values there left held front xs))
within_values there left held b front [] h = tt
within_values there left held b front (x ∷ xs) h = by (there x) (first (left x) h) (within_values there left held b (next left front x) xs rest)
  where
    rest : OnFronts (λ g. held (next left front x ++ g) ≤ b) (filter left xs)
    rest k = subst (λ (g : List ℕ). held g ≤ b) (sym (next_front left front x (take k (filter left xs)))) (one_more left x xs (λ g. held (front ++ g) ≤ b) h k)

    first : (c : Bool) → OnFronts (λ g. held (front ++ g) ≤ b) (cond c (x ∷ filter left xs) (filter left xs)) → IsUpTo b (value c (held (cond c (front ++ x ∷ []) front)))
    first false k = tt
    first true k = k 1

    by : (a : Bool) → IsUpTo b (value (left x) (held (next left front x))) → IsUpTo b (greatest (values there left held (next left front x) xs))
        → IsUpTo b (greatest (cond a (value (left x) (held (next left front x)) ∷ values there left held (next left front x) xs) (values there left held (next left front x) xs)))
    by true h k = greater_up_to b (value (left x) (held (next left front x))) (greatest (values there left held (next left front x) xs)) h k
    by false h k = k

-- every number is changed, and small
pub all_of : (P : Option ℕ → Type 0) (there left : ℕ → Bool) (held : List ℕ → ℕ) (front xs : List ℕ) → P None → OnFronts (λ g. P (Some (held (front ++ g)))) (filter left xs) → (n : ℕ) → AllFirst n P (values there left held front xs)
all_of P there left held front [] none h zero = tt
all_of P there left held front [] none h (suc n) = tt
all_of P there left held front (x ∷ xs) none h zero = tt
all_of P there left held front (x ∷ xs) none h (suc n) = by (there x) (first (left x) h) (λ m. all_of P there left held (next left front x) xs none rest m)
  where
    rest : OnFronts (λ g. P (Some (held (next left front x ++ g)))) (filter left xs)
    rest k = subst (λ (g : List ℕ). P (Some (held g))) (sym (next_front left front x (take k (filter left xs)))) (one_more left x xs (λ g. P (Some (held (front ++ g)))) h k)

    first : (c : Bool) → OnFronts (λ g. P (Some (held (front ++ g)))) (cond c (x ∷ filter left xs) (filter left xs)) → P (value c (held (cond c (front ++ x ∷ []) front)))
    first false k = none
    first true k = k 1

    by : (a : Bool) → P (value (left x) (held (next left front x))) → ((m : ℕ) → AllFirst m P (values there left held (next left front x) xs))
        → AllFirst (suc n) P (cond a (value (left x) (held (next left front x)) ∷ values there left held (next left front x) xs) (values there left held (next left front x) xs))
    by true k r = (k, r n)
    by false k r = r (suc n)

first_append : (P : Option ℕ → Type 0) (n : ℕ) (xs ys : List (Option ℕ)) → n ≤ length xs → AllFirst n P xs → AllFirst n P (xs ++ ys)
first_append P zero xs ys l h = tt
first_append P (suc n) [] ys l h = absurd (omega (arith, l))
first_append P (suc n) (x ∷ xs) ys l h = (h.0, first_append P n xs ys (omega (arith, l)) h.1)

-- of the values before a task
pub all_before : (P : Option ℕ → Type 0) (there left : ℕ → Bool) (held : List ℕ → ℕ) (front xs ys : List ℕ) → P None → OnFronts (λ g. P (Some (held (front ++ g)))) (filter left xs) → AllFirst (length (filter there xs)) P (values there left held front (xs ++ ys))
all_before P there left held front xs ys none h = subst (λ (vs : List (Option ℕ)). AllFirst (length (filter there xs)) P vs) (sym (values_append there left held front xs ys))
    (first_append P (length (filter there xs)) (values there left held front xs) (values there left held (front ++ filter left xs) ys) (let e = values_long there left held front xs in omega (arith, e)) (all_of P there left held front xs none h (length (filter there xs))))

-- the values before a task are those of the tasks before it
take_long : (n : ℕ) (xs ys : List (Option ℕ)) → length xs ≡ n → take n (xs ++ ys) ≡ xs
take_long zero [] ys e = none ys
  where
    none : (zs : List (Option ℕ)) → take 0 zs ≡ []
    none [] = refl
    none (z ∷ zs) = refl
take_long (suc n) [] ys e = absurd (omega (arith, e))
take_long zero (x ∷ xs) ys e = absurd (omega (arith, e))
take_long (suc n) (x ∷ xs) ys e = ap (λ (zs : List (Option ℕ)). x ∷ zs) (take_long n xs ys (omega (arith, e)))

pub values_before : (there left : ℕ → Bool) (held : List ℕ → ℕ) (front xs ys : List ℕ) → take (length (filter there xs)) (values there left held front (xs ++ ys)) ≡ values there left held front xs
values_before there left held front xs ys = ap (take (length (filter there xs))) (values_append there left held front xs ys) ∙ take_long (length (filter there xs)) (values there left held front xs) (values there left held (front ++ filter left xs) ys) (values_long there left held front xs)
