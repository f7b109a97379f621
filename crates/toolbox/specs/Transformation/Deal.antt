-- The lines of the input, dealt to the outputs in turn.
use Rattle.std.specs.Prelude.{ℕ, ◌+◌, ◌%◌, ◌==◌, List, [], ◌∷◌, map, if◌then◌else◌, Option, Some, None, Vec, slice_index_or}
use Rattle.std.specs.declared.alloc.Global.{Global}
use Rattle.std.specs.List.{range_with_len}
use Rattle.toolbox.specs.Lines.{lines, written}

-- of lines that are numbered from k, those whose number leaves the remainder j at a division by outs
abbrev pub hand : ℕ → ℕ → ℕ → List (List ℕ) → List (List ℕ)
hand outs j k [] = []
hand outs j k (line ∷ rest) = if k % outs == j then line ∷ hand outs j (k + 1) rest
    else hand outs j (k + 1) rest

abbrev pub dealt : List ℕ → ℕ → Option (List (List ℕ))
dealt input outs = if outs == 0 then None else Some
    (map (λ j. written (hand outs j 0 (lines input))) (range_with_len 0 outs))

-- the bytes of each text
abbrev pub texts_of : List (Vec ℕ Global) → List (List ℕ)
texts_of texts = map (λ text. text.items) texts

abbrev pub text_at : List (List ℕ) → ℕ → List ℕ
text_at texts k = slice_index_or texts k []
