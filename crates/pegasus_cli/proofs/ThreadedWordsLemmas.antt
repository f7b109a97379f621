-- Words that are a command in threads are words that may start threads: so the table of these says which command they are.
use Rattle.std.proofs.Common.{◌≡◌, ◌||◌, ◌&&◌, ℕ, Bool, true, false, List, [], ◌∷◌, refl, sym, ap, ◌∙◌, arith}
use Rattle.std.specs.Prelude.{if◌then◌else◌, IfSome, Option, Some, None, codes, drop, option_and_then, option_map, take}
use Rattle.std.specs.List.{list_any}
use Rattle.std.specs.Str.{bytes_eq}
use Rattle.std.specs.Cmp.Lexicographic.{bytes_decides}
use Rattle.std.proofs.lemmas.List.{take-take}
use Rattle.command_words.specs.code.Words.{Command, InThreads, Quickly, Quick, command as command_of, command_if, is_threaded, quick_command}
use Rattle.command_words.specs.Words.{Said, One, Two, WithWorkers, Threaded, Run, EnsembleBy, RehearseBy, apart, begins_with, by_workers, images_in, is_name, joined_option, said_in, threaded_command, threaded_in, workers_in, workers_option}
use Rattle.command_words.proofs.WordsLemmas.{threaded_is}

-- ---- the option for workers stands among the words

-- words with the digits of the option begin with that word, and have the option among the others
abbrev HasOption : List ℕ → List (List ℕ) → Said → Type 0
HasOption word rest (WithWorkers w a digits) = (word ≡ w) × (list_any (begins_with workers_option) rest ≡ true)
HasOption word rest (One w a) = Unit {0}
HasOption word rest (Two w a b) = Unit {0}

-- the word `--workers=N` begins with the option
joined_begins : (option : List ℕ) → begins_with (codes "--workers=") option ≡ true → begins_with workers_option option ≡ true
joined_begins option h =
    ap (λ (w : List ℕ). bytes_eq w workers_option) (sym (take-take 9 10 option (omega arith)))
    ∙ ap (λ (w : List ℕ). bytes_eq (take 9 w) workers_option) ((bytes_decides (take 10 option) (codes "--workers=")).0 h)

apart_begins : (option : List ℕ) → bytes_eq option workers_option ≡ true → begins_with workers_option option ≡ true
apart_begins option h = ap (begins_with workers_option) ((bytes_decides option workers_option).0 h)

second : (a b : Bool) → (a && b) ≡ true → b ≡ true
second true b h = h
second false b h = absurd cc

left_or : (a b : Bool) → a ≡ true → (a || b) ≡ true
left_or true b h = refl
left_or false b h = absurd cc

right_or : (a b : Bool) → b ≡ true → (a || b) ≡ true
right_or true b h = refl
right_or false b h = h

joined_has : (word name option : List ℕ) (rest : List (List ℕ)) → (begins_with workers_option option ≡ true → list_any (begins_with workers_option) rest ≡ true) → IfSome (joined_option word name option) (HasOption word rest)
joined_has word name option rest stands = by (is_name name && begins_with (codes "--workers=") option) refl
  where
    by : (b : Bool) → (is_name name && begins_with (codes "--workers=") option) ≡ b → IfSome (if b then Some (WithWorkers word name (drop 10 option)) else None) (HasOption word rest)
    by true e = (refl, stands (joined_begins option (second (is_name name) (begins_with (codes "--workers=") option) e)))
    by false e = tt

apart_has : (word name option digits : List ℕ) (rest : List (List ℕ)) → (begins_with workers_option option ≡ true → list_any (begins_with workers_option) rest ≡ true) → IfSome (apart word name option digits) (HasOption word rest)
apart_has word name option digits rest stands = by (is_name name && bytes_eq option workers_option) refl
  where
    by : (b : Bool) → (is_name name && bytes_eq option workers_option) ≡ b → IfSome (if b then Some (WithWorkers word name digits) else None) (HasOption word rest)
    by true e = (refl, stands (apart_begins option (second (is_name name) (bytes_eq option workers_option) e)))
    by false e = tt

among_one : (a : List ℕ) (rest : List (List ℕ)) → begins_with workers_option a ≡ true → list_any (begins_with workers_option) (a ∷ rest) ≡ true
among_one a rest h = left_or (begins_with workers_option a) (list_any (begins_with workers_option) rest) h

among_two : (a b : List ℕ) (rest : List (List ℕ)) → begins_with workers_option b ≡ true → list_any (begins_with workers_option) (a ∷ b ∷ rest) ≡ true
among_two a b rest h = right_or (begins_with workers_option a) (list_any (begins_with workers_option) (b ∷ rest)) (among_one b rest h)

has_option : (word : List ℕ) (rest : List (List ℕ)) → IfSome (said_in (word ∷ rest)) (HasOption word rest)
has_option word [] = tt
has_option word (a ∷ []) = by (is_name a)
  where
    by : (b : Bool) → IfSome (if b then Some (One word a) else None) (HasOption word (a ∷ []))
    by true = tt
    by false = tt
has_option word (a ∷ b ∷ []) = by (is_name a) (is_name b)
  where
    by : (x y : Bool) → IfSome (if x then (if y then Some (Two word a b) else joined_option word a b) else joined_option word b a) (HasOption word (a ∷ b ∷ []))
    by true true = tt
    by true false = joined_has word a b (a ∷ b ∷ []) (among_two a b [])
    by false y = joined_has word b a (a ∷ b ∷ []) (among_one a (b ∷ []))
has_option word (a ∷ b ∷ c ∷ []) = by (is_name a)
  where
    by : (x : Bool) → IfSome (if x then apart word a b c else apart word c a b) (HasOption word (a ∷ b ∷ c ∷ []))
    by true = apart_has word a b c (a ∷ b ∷ c ∷ []) (among_two a b (c ∷ []))
    by false = apart_has word c a b (a ∷ b ∷ c ∷ []) (among_one a (b ∷ c ∷ []))
has_option word (a ∷ b ∷ c ∷ d ∷ rest) = tt

-- ---- so they may start threads

-- the word is that of a command in threads
is_one_of : (r e h option : Bool) (run ensemble : Threaded) (rehearse : Option Threaded) (t : Threaded) → option ≡ true → (if r then Some run else if e then Some ensemble else if h then rehearse else None) ≡ Some t → (r || ((h || e) && option)) ≡ true
is_one_of true e h option run ensemble rehearse t has is = refl
is_one_of false true true option run ensemble rehearse t has is = has
is_one_of false true false option run ensemble rehearse t has is = has
is_one_of false false true option run ensemble rehearse t has is = has
is_one_of false false false option run ensemble rehearse t has is = absurd cc

said_threaded : (word : List ℕ) (rest : List (List ℕ)) (o : Option Said) (t : Threaded) → IfSome o (HasOption word rest) → option_and_then threaded_in o ≡ Some t → is_threaded (word ∷ rest) ≡ true
said_threaded word rest None t has is = absurd cc
said_threaded word rest (Some (One w a)) t has is = absurd cc
said_threaded word rest (Some (Two w a b)) t has is = absurd cc
said_threaded word rest (Some (WithWorkers w a digits)) t has is = by (workers_in digits) is
  where
    by : (n : Option ℕ) → option_and_then (by_workers w a) n ≡ Some t → is_threaded (word ∷ rest) ≡ true
    by None e = absurd cc
    by (Some n) e =
        ap (λ (x : List ℕ). is_threaded (x ∷ rest)) has.0
        ∙ is_one_of (bytes_eq w (codes "run")) (bytes_eq w (codes "ensemble")) (bytes_eq w (codes "rehearse")) (list_any (begins_with workers_option) rest) (Run a n) (EnsembleBy a n) (option_map (λ k. RehearseBy k n) (images_in a)) t has.1 e

pub starts_threads : (words : List (List ℕ)) (t : Threaded) → threaded_command words ≡ Some t → is_threaded words ≡ true
starts_threads [] t is = absurd cc
starts_threads (word ∷ rest) t is = said_threaded word rest (said_in (word ∷ rest)) t (has_option word rest) is

-- ---- so it is the command that they are, and the other way

pub in_threads : (words : List (List ℕ)) (t : Threaded) → threaded_command words ≡ Some t → command_of words ≡ Some (InThreads t)
in_threads words t is = threaded_is words t (starts_threads words t is) (sym is)

pub of_threads : (words : List (List ℕ)) (t : Threaded) → command_of words ≡ Some (InThreads t) → threaded_command words ≡ Some t
of_threads words t is = by (is_threaded words) is
  where
    threaded : (o : Option Threaded) → option_map InThreads o ≡ Some (InThreads t) → o ≡ Some t
    threaded None e = absurd cc
    threaded (Some x) e = let same : ◌≡◌ {A = Option Command} (Some (InThreads x)) (Some (InThreads t)) = e in cc

    quick : (o : Option Quick) → option_map Quickly o ≡ Some (InThreads t) → threaded_command words ≡ Some t
    quick None e = absurd cc
    quick (Some q) e = absurd (let clash : ◌≡◌ {A = Option Command} (Some (Quickly q)) (Some (InThreads t)) = e in cc)

    by : (b : Bool) → command_if b words ≡ Some (InThreads t) → threaded_command words ≡ Some t
    by true e = threaded (threaded_command words) e
    by false e = quick (quick_command words) e
