-- Which command words are.
use Rattle.std.proofs.Common.{◌≡◌, ℕ, Bool, true, false, List, sym, ap, ◌∙◌}
use Rattle.std.specs.Prelude.{Some, None, option_map}
use Rattle.command_words.specs.code.Words.{InThreads, Quick, Quickly, command, command_if, is_threaded, quick_command}
use Rattle.command_words.specs.Words.{Threaded, threaded_command}

pub is_quick : (words : List (List ℕ)) → is_threaded words ≡ false → command words ≡ option_map Quickly (quick_command words)
is_quick words e = ap (λ (b : Bool). command_if b words) e

pub is_in_threads : (words : List (List ℕ)) → is_threaded words ≡ true → command words ≡ option_map InThreads (threaded_command words)
is_in_threads words e = ap (λ (b : Bool). command_if b words) e

-- the command of words that start no thread
pub quick_is : (words : List (List ℕ)) (q : Quick) → is_threaded words ≡ false → Some q ≡ quick_command words → command words ≡ Some (Quickly q)
quick_is words q e is = is_quick words e ∙ ap (option_map Quickly) (sym is)

pub threaded_is : (words : List (List ℕ)) (t : Threaded) → is_threaded words ≡ true → Some t ≡ threaded_command words → command words ≡ Some (InThreads t)
threaded_is words t e is = is_in_threads words e ∙ ap (option_map InThreads) (sym is)

pub quick_is_none : (words : List (List ℕ)) → is_threaded words ≡ false → None ≡ quick_command words → command words ≡ None
quick_is_none words e is = is_quick words e ∙ ap (option_map Quickly) (sym is)

pub threaded_is_none : (words : List (List ℕ)) → is_threaded words ≡ true → None ≡ threaded_command words → command words ≡ None
threaded_is_none words e is = is_in_threads words e ∙ ap (option_map InThreads) (sym is)
