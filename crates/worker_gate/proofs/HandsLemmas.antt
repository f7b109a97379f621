-- Lists of hands, hand by hand.
use Rattle.std.proofs.Common.{◌≡◌, ℕ, zero, suc, ◌+◌, ◌≤◌, ◌<◌, List, [], ◌∷◌, ◌++◌, length, map, get_or, drop, refl, sym, ap, subst, ◌∙◌, arith, append_assoc}
use Rattle.std.specs.Prelude.{Option}
use Rattle.std.proofs.lemmas.List.{append-nil, length-map, map-append}
use mathlib.Core.List.{IsPrefix}
use Rattle.ruled_lock.specs.declared.pass.Pass.{Pass}
use Rattle.ruled_lock.specs.declared.lock.RuledLock.{RuledLock}
use Rattle.ruled_lock.specs.Lock.{IsOf}
use Rattle.ruled_lock.specs.Pass.{IsIdle, IsNewPass, charter_of, count_of, joined_of, lists_of, mine_of, seen_of, worker_of}
use Rattle.worker_gate.specs.declared.hands.Hand.{Hand}
use Rattle.ruled_lock.proofs.ListLemmas.{prefix_trans}
use Rattle.worker_gate.specs.code.Hands.{AreDealt, AreOthers, AreReady, AreReadyToJoin, AreSeenBy, IsDealt, IsGathered, IsReady, member_of, own_list}

-- the first element and the rest
pub first_and_rest : {X : Type 0} (xs ys : List X) (x : X) → 0 < length xs → x ≡ get_or xs 0 x → ys ≡ drop 1 xs → xs ≡ x ∷ ys
first_and_rest [] ys x some at rest = absurd (omega (arith, some))
first_and_rest (z ∷ zs) ys x some at rest = λ i. (sym at i) ∷ (sym rest i)

pub none_left : {X : Type 0} (xs : List X) → length xs ≤ 0 → xs ≡ []
none_left [] l = refl
none_left (x ∷ xs) l = absurd (omega (arith, l))

-- a fact on each element, by its place
pub each_pushed : {X : Type 0} (P : ℕ → X → Type 0) (xs : List X) (y : X) → ((k : ℕ) (d : X) → k < length xs → P k (get_or xs k d)) → P (length xs) y → (k : ℕ) (d : X) → k < length (xs ++ y ∷ []) → P k (get_or (xs ++ y ∷ []) k d)
each_pushed P [] y all last zero d h = last
each_pushed P [] y all last (suc k) d h = absurd (omega (arith, h))
each_pushed P (x ∷ xs) y all last zero d h = all zero d (omega arith)
each_pushed P (x ∷ xs) y all last (suc k) d h = each_pushed (λ j. P (suc j)) xs y (λ j e l. all (suc j) e (omega (arith, l))) last k d (omega (arith, h))

module _ {C G I : Type 0} {g : _} where
  -- the first pass, after one was split from it
  pub still_first : (lock : RuledLock C G I) (ch : Option G) (seen : List I) (n m : ℕ) (p q : Pass C G I g) → m ≡ n + 1 → IsDealt lock ch seen 0 n p → IsOf lock q → IsIdle q → count_of q ≡ count_of p + 1 → worker_of q ≡ worker_of p → charter_of q ≡ charter_of p → joined_of q ≡ joined_of p → (seen_of q ≡ seen_of p) × (mine_of q ≡ mine_of p) → IsDealt lock ch seen 0 m q
  still_first lock ch seen n m p q more first of idle count number charter joins lists = record {
    of = of;
    new = record {
      number = number ∙ first.new.number;
      charter_is = charter ∙ first.new.charter_is;
      seen_is = lists.0 ∙ first.new.seen_is;
      mine = lists.1 ∙ first.new.mine;
      count_is = count ∙ ap (λ (k : ℕ). k + 1) first.new.count_is ∙ sym more;
      joined = joins ∙ first.new.joined;
      idle = idle;
    };
  }

  new_as : (n m : ℕ) (ch ch2 : Option G) (seen seen2 : List I) (p : Pass C G I g) → n ≡ m → ch ≡ ch2 → seen ≡ seen2 → IsNewPass n ch seen 0 p → IsNewPass m ch2 seen2 0 p
  new_as n m ch ch2 seen seen2 p a b c new = record { number = new.number ∙ a; charter_is = new.charter_is ∙ b; seen_is = new.seen_is ∙ c; mine = new.mine; count_is = new.count_is; joined = new.joined; idle = new.idle }

module _ {C M G I : Type 0} {g : _} where
  pub others_more : (lock : RuledLock C G I) (ch ch2 : Option G) (seen seen2 : List I) (n : ℕ) (hs more : List (Hand C M G I g)) (h : Hand C M G I g) → more ≡ hs ++ h ∷ [] → n ≡ length hs + 1 → ch2 ≡ ch → seen2 ≡ seen → AreOthers lock ch seen hs → IsOf lock h.pass → IsNewPass n ch2 seen2 0 h.pass → AreOthers lock ch seen more
  others_more lock ch ch2 seen seen2 n hs more h is number a b each of new =
      subst (AreOthers lock ch seen) (sym is) (each_pushed (λ k x. IsDealt lock ch seen (suc k) 0 x.pass) hs h each (record { of = of; new = new_as n (suc (length hs)) ch2 ch seen2 seen h.pass (omega (arith, number)) a b new }))

  pub members_more : (hs more : List (Hand C M G I g)) (h : Hand C M G I g) (xs ys all : List M) → more ≡ hs ++ h ∷ [] → xs ≡ h.member ∷ ys → map member_of hs ++ xs ≡ all → map member_of more ++ ys ≡ all
  members_more hs more h xs ys all is rest total =
      ap (λ (l : List (Hand C M G I g)). map member_of l ++ ys) is
      ∙ ap (λ (l : List M). l ++ ys) (map-append member_of hs (h ∷ []))
      ∙ append_assoc (map member_of hs) (h.member ∷ []) ys
      ∙ ap (λ (l : List M). map member_of hs ++ l) (sym rest)
      ∙ total

  -- the first hand in front of the others
  pub dealt_all : (lock : RuledLock C G I) (ch : Option G) (seen : List I) (n : ℕ) (h : Hand C M G I g) (hs : List (Hand C M G I g)) → IsDealt lock ch seen 0 n h.pass → AreOthers lock ch seen hs → AreDealt lock ch seen n (h ∷ hs)
  dealt_all lock ch seen n h hs first others zero d l = first
  dealt_all lock ch seen n h hs first others (suc k) d l = others k d (omega (arith, l))

  -- the hands that are left, without their first
  pub others_left : (lock : RuledLock C G I) (h : Hand C M G I g) (hs rest : List (Hand C M G I g)) → hs ≡ h ∷ rest → AreReadyToJoin lock hs → IsReady lock 0 h.pass × AreReadyToJoin lock rest
  others_left lock h hs rest is each =
      let all : AreReadyToJoin lock (h ∷ rest) = subst (AreReadyToJoin lock) is each in
      (all 0 h (omega arith), λ k d l. all (suc k) d (omega (arith, l)))

  pub others_of : (lock : RuledLock C G I) (h : Hand C M G I g) (hs rest : List (Hand C M G I g)) → hs ≡ h ∷ rest → AreReady lock hs → IsReady lock (length hs) h.pass × AreReadyToJoin lock rest
  others_of lock h hs rest is each =
      let all : AreReady lock (h ∷ rest) = subst (AreReady lock) is each in
      (subst (λ (n : ℕ). IsReady lock n h.pass) (sym (ap length is)) (all 0 h (omega arith)), λ k d l. all (suc k) d (omega (arith, l)))

  pub lists_more : (h : Hand C M G I g) (hs rest : List (Hand C M G I g)) (before after all : List (ℕ × List I)) → hs ≡ h ∷ rest → joined_of h.pass ≡ [] → after ≡ before ++ lists_of h.pass → before ++ map own_list hs ≡ all → after ++ map own_list rest ≡ all
  lists_more h hs rest before after all is none joins total =
      ap (λ (l : List (ℕ × List I)). l ++ map own_list rest) (joins ∙ ap (λ (l : List (ℕ × List I)). before ++ own_list h ∷ l) none)
      ∙ append_assoc before (own_list h ∷ []) (map own_list rest)
      ∙ ap (λ (l : List (Hand C M G I g)). before ++ map own_list l) (sym is)
      ∙ total

  pub members_back : (h : Hand C M G I g) (hs rest : List (Hand C M G I g)) (before after all : List M) → hs ≡ h ∷ rest → after ≡ before ++ h.member ∷ [] → before ++ map member_of hs ≡ all → after ++ map member_of rest ≡ all
  members_back h hs rest before after all is pushed total =
      ap (λ (l : List M). l ++ map member_of rest) pushed
      ∙ append_assoc before (h.member ∷ []) (map member_of rest)
      ∙ ap (λ (l : List (Hand C M G I g)). before ++ map member_of l) (sym is)
      ∙ total

  -- those in front of the hands that are left have been joined
  abbrev pub HaveSome : List (Hand C M G I g) → List (Hand C M G I g) → Pass C G I g → Type 0
  HaveSome hs left p = (front : List (Hand C M G I g)) × (front ++ left ≡ hs) × AreSeenBy front p

  pub some_first : (hs : List (Hand C M G I g)) (p : Pass C G I g) → HaveSome hs hs p
  some_first hs p = ([], refl, λ k d l. absurd (omega (arith, l)))

  pub some_more : (h : Hand C M G I g) (hs left rest : List (Hand C M G I g)) (p q : Pass C G I g) → left ≡ h ∷ rest → IsPrefix (seen_of p) (seen_of q) → IsPrefix (seen_of h.pass) (seen_of q) → HaveSome hs left p → HaveSome hs rest q
  some_more h hs left rest p q is before other some = (
    some.0 ++ h ∷ [],
    append_assoc some.0 (h ∷ []) rest ∙ ap (λ (l : List (Hand C M G I g)). some.0 ++ l) (sym is) ∙ some.1,
    each_pushed (λ (k : ℕ) (x : Hand C M G I g). IsPrefix (seen_of x.pass) (seen_of q)) some.0 h (λ k d l. prefix_trans (seen_of (get_or some.0 k d).pass) (seen_of p) (seen_of q) (some.2 k d l) before) other,
  )

  pub some_all : (hs left : List (Hand C M G I g)) (p : Pass C G I g) → left ≡ [] → HaveSome hs left p → AreSeenBy hs p
  some_all hs left p none some = subst (λ (l : List (Hand C M G I g)). AreSeenBy l p) (sym (append-nil some.0) ∙ ap (λ (l : List (Hand C M G I g)). some.0 ++ l) (sym none) ∙ some.1) some.2

  seen_all : (h : Hand C M G I g) (rest : List (Hand C M G I g)) (p : Pass C G I g) → IsPrefix (seen_of h.pass) (seen_of p) → AreSeenBy rest p → AreSeenBy (h ∷ rest) p
  seen_all h rest p first others zero d l = first
  seen_all h rest p first others (suc k) d l = others k d (omega (arith, l))

  pub gathered : (h : Hand C M G I g) (hs rest : List (Hand C M G I g)) (p : Pass C G I g) (lock : RuledLock C G I) → hs ≡ h ∷ rest → IsReady lock (length hs) h.pass → worker_of p ≡ worker_of h.pass → mine_of p ≡ mine_of h.pass → charter_of p ≡ charter_of h.pass → IsPrefix (seen_of h.pass) (seen_of p) → AreSeenBy rest p → count_of p ≡ count_of h.pass → joined_of p ≡ joined_of h.pass ++ map own_list rest → IsGathered hs p
  gathered h hs rest p lock is ready number mine charter seen others count joins = record {
    lists = (λ i. (number i, mine i) ∷ lists i) ∙ ap (map own_list) (sym is);
    whole = let a = ap length lists in let b = length-map rest own_list in let c = ap length is in let e = ready.count_is in omega (arith, a, b, c, e, count);
    charter = λ d. charter ∙ ap (λ (l : List (Hand C M G I g)). charter_of (get_or l 0 d).pass) (sym is);
    seen = subst (λ (l : List (Hand C M G I g)). AreSeenBy l p) (sym is) (seen_all h rest p seen others);
  }
    where
      lists : joined_of p ≡ map own_list rest
      lists = joins ∙ ap (λ (l : List (ℕ × List I)). l ++ map own_list rest) ready.joined
