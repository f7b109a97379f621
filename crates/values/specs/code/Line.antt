-- Lines of words.
use Rattle.std.specs.Prelude.{ℕ, ◌++◌, List, [], ◌∷◌, codes}
use Rattle.std.specs.Fmt.{decimal}
use Rattle.values.specs.Printed.{printed_name}
use Rattle.values.specs.declared.line.Word.{Word}
use Rattle.values.specs.declared.line.Word.TheVariants.{Plain, Name, Names, Number}

-- names, a space before each
abbrev pub spaced_names : List (List ℕ) → List ℕ
spaced_names [] = []
spaced_names (name ∷ names) = codes " " ++ printed_name name ++ spaced_names names

-- names, a space between
abbrev pub printed_names : List (List ℕ) → List ℕ
printed_names [] = []
printed_names (name ∷ names) = printed_name name ++ spaced_names names

abbrev pub word_text : Word → List ℕ
word_text (Plain text) = text.now
word_text (Name name) = printed_name name.now
word_text (Names names) = printed_names names.now
word_text (Number n) = decimal n

-- the words, a space before each
abbrev pub words_text : List Word → List ℕ
words_text [] = []
words_text (w ∷ ws) = codes " " ++ word_text w ++ words_text ws

-- a line of a first word and some more
abbrev pub line : List ℕ → List Word → List ℕ
line first words = first ++ words_text words ++ codes "\n"
