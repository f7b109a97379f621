-- Beside `specs/Words.antt`: what the code's own contracts say.
use Rattle.std.specs.Prelude.{◌≡◌, ℕ, ◌<◌, ◌≤◌, ◌&&◌, ◌||◌, Bool, true, false, List, [], ◌∷◌, codes, drop, if◌then◌else◌, Option, Some, None, option_map, option_and_then, Result, Ok, Err}
use Rattle.std.specs.List.{list_any}
use Rattle.std.specs.Str.{bytes_eq}
use Rattle.std.specs.IoError.{error_kind}
use Rattle.std.specs.Vec.Iter.{into_iter_items}
use Rattle.std.specs.declared.vec.IntoIter.{IntoIter}
use Rattle.std.specs.declared.io.Error.{Error}
use Rattle.std.specs.declared.io.ErrorKind.TheVariants.{OutOfMemory}
use Rattle.command_words.specs.declared.commands.Quick.{Quick as QuickWords}
use Rattle.command_words.specs.declared.commands.Quick.TheVariants as quick_words
use Rattle.command_words.specs.declared.commands.Threaded.{Threaded as ThreadedWords}
use Rattle.command_words.specs.declared.commands.Threaded.TheVariants as threaded_words
use Rattle.command_words.specs.declared.said.Said.{Said as SaidWords}
use Rattle.command_words.specs.declared.said.Said.TheVariants as said_words
use Rattle.command_words.specs.Words.{Threaded, images_in, Said, workers_option, begins_with, is_name, said_in, threaded_command, Run, EnsembleBy, RehearseBy, One, Two, WithWorkers}

-- ---- what is asked for

-- what starts no thread and waits for nobody, with the names or the number of images that its words say
pub data Quick : Type 0 where
  Check : List ℕ → Quick
  Plan : List ℕ → Quick
  Eval : List ℕ → Quick
  Alone : List ℕ → Quick
  Audit : List ℕ → List ℕ → Quick
  Stat : List ℕ → List ℕ → Quick
  Resume : List ℕ → List ℕ → Quick
  Produce : List ℕ → Quick
  Schedule : List ℕ → Quick
  Ensemble : List ℕ → Quick
  Rehearse : ℕ → Quick

-- a command, and whether it starts threads
pub data Command : Type 0 where
  Quickly : Quick → Command
  InThreads : Threaded → Command

-- what the code holds of each
abbrev pub quick_of : QuickWords → Quick
quick_of (quick_words.Check name) = Check name.now
quick_of (quick_words.Plan name) = Plan name.now
quick_of (quick_words.Eval name) = Eval name.now
quick_of (quick_words.Alone name) = Alone name.now
quick_of (quick_words.Audit name file) = Audit name.now file.now
quick_of (quick_words.Stat name file) = Stat name.now file.now
quick_of (quick_words.Resume name file) = Resume name.now file.now
quick_of (quick_words.Produce name) = Produce name.now
quick_of (quick_words.Schedule name) = Schedule name.now
quick_of (quick_words.Ensemble name) = Ensemble name.now
quick_of (quick_words.Rehearse images) = Rehearse images

abbrev pub threaded_of : ThreadedWords → Threaded
threaded_of (threaded_words.Run name workers) = Run name.now workers
threaded_of (threaded_words.Ensemble name workers) = EnsembleBy name.now workers
threaded_of (threaded_words.Rehearse images workers) = RehearseBy images workers

abbrev pub said_of : SaidWords → Said
said_of (said_words.One word a) = One word.now a.now
said_of (said_words.Two word a b) = Two word.now a.now b.now
said_of (said_words.WithWorkers word a digits) = WithWorkers word.now a.now digits.now

-- the rule on `-`: a word is a name, or it is the option
abbrev pub keeps_the_rule : List ℕ → Bool
keeps_the_rule word = is_name word || (bytes_eq word workers_option || begins_with (codes "--workers=") word)

-- ---- the table of the commands' words

abbrev pub one_word : List ℕ → List ℕ → Option Quick
one_word word a =
    if bytes_eq word (codes "check") then Some (Check a)
    else if bytes_eq word (codes "plan") then Some (Plan a)
    else if bytes_eq word (codes "eval") then Some (Eval a)
    else if bytes_eq word (codes "alone") then Some (Alone a)
    else if bytes_eq word (codes "produce") then Some (Produce a)
    else if bytes_eq word (codes "schedule") then Some (Schedule a)
    else if bytes_eq word (codes "ensemble") then Some (Ensemble a)
    else if bytes_eq word (codes "rehearse") then option_map Rehearse (images_in a)
    else None

abbrev pub two_words : List ℕ → List ℕ → List ℕ → Option Quick
two_words word a b =
    if bytes_eq word (codes "audit") then Some (Audit a b)
    else if bytes_eq word (codes "stat") then Some (Stat a b)
    else if bytes_eq word (codes "resume") then Some (Resume a b)
    else None

abbrev pub quick_in : Said → Option Quick
quick_in (One word a) = one_word word a
quick_in (Two word a b) = two_words word a b
quick_in _ = None

-- the command of words that start no thread, and of words that may
abbrev pub quick_command : List (List ℕ) → Option Quick
quick_command words = option_and_then quick_in (said_in words)

-- words of a call that may start threads and wait: a run's, and a rehearsal's or an ensemble's by several workers
abbrev pub is_threaded : List (List ℕ) → Bool
is_threaded [] = false
is_threaded (word ∷ words) = bytes_eq word (codes "run")
    || ((bytes_eq word (codes "rehearse") || bytes_eq word (codes "ensemble"))
    && list_any (begins_with workers_option) words)

abbrev pub command_if : Bool → List (List ℕ) → Option Command
command_if true words = option_map InThreads (threaded_command words)
command_if false words = option_map Quickly (quick_command words)

-- the command that words are
abbrev pub command : List (List ℕ) → Option Command
command words = command_if (is_threaded words) words

-- how many members of a crew a command may use: each member where a record names the workers, else the first one; in
-- threads a member for each worker
abbrev pub quick_members : Quick → ℕ
quick_members (Resume name file) = 16
quick_members _ = 1

abbrev pub threaded_members : Threaded → ℕ
threaded_members (Run name n) = n
threaded_members (EnsembleBy name n) = n
threaded_members (RehearseBy images n) = n

abbrev pub members_of : Option Command → ℕ
members_of (Some (Quickly q)) = quick_members q
members_of (Some (InThreads t)) = threaded_members t
members_of None = 1

-- from 1 to 16 workers
abbrev pub AreFew : ℕ → Type 0
AreFew n = (0 < n) × (n ≤ 16)

-- from 2 to 3,000 images
abbrev pub AreImages : ℕ → Type 0
AreImages n = (2 ≤ n) × (n ≤ 3000)

-- what a command's bounds say of its images
abbrev pub HasImages : Quick → Type 0
HasImages (Rehearse n) = AreImages n
HasImages _ = Unit {0}

abbrev pub HasImagesBy : Threaded → Type 0
HasImagesBy (RehearseBy n workers) = AreImages n
HasImagesBy _ = Unit {0}

-- ---- a program's arguments

-- all but the first, which is the program's name; none, where the arguments are no texts
abbrev pub words_given : {X Z : Type 0} → Result (IntoIter X Z) Error → List X
words_given (Ok args) = drop 1 (into_iter_items args)
words_given (Err e) = []

-- memory ran out as the arguments were read
abbrev pub IsForMemory : {X : Type 0} → Result X Error → Type 0
IsForMemory (Ok args) = ⊥
IsForMemory (Err e) = error_kind e ≡ OutOfMemory
