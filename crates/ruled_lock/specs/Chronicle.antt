-- Journals: lists of items, each by one worker.
use Rattle.std.specs.Prelude.{◌≡◌, ℕ, ◌==◌, ◌⊎◌, List, [], ◌∷◌, ◌++◌, length, cond, leb}
use Rattle.std.specs.List.{filter}

module _ {I : Type 0} where
  -- the items of one worker, in order
  abbrev pub items_of : (I → ℕ) → ℕ → List I → List I
  items_of author worker journal = filter (λ item. author item == worker) journal

  -- the journal after a turn of this worker: the one before it, with at most one more item, of this worker
  abbrev pub AddsAtMostOne : (I → ℕ) → ℕ → List I → List I → Type 0
  AddsAtMostOne author worker before journal =
      (journal ≡ before) ⊎ ((item : I) × (author item ≡ worker) × (journal ≡ before ++ item ∷ []))

  -- the worker's own list grows as the journal does, by the same item
  abbrev pub GrowsAlike : List I → List I → List I → List I → Type 0
  GrowsAlike before journal own own' =
      (journal ≡ before → own' ≡ own) × ((item : I) → journal ≡ before ++ item ∷ [] → own' ≡ own ++ item ∷ [])

  -- the longer of two beginnings of a journal, the first where they are as long
  abbrev pub longer : List I → List I → List I
  longer xs ys = cond (leb (length ys) (length xs)) xs ys

  abbrev pub shorter : List I → List I → List I
  shorter xs ys = cond (leb (length ys) (length xs)) ys xs

  -- of a list of workers with their items, those of one worker; none where it isn't there
  abbrev pub list_of : ℕ → List (ℕ × List I) → List I
  list_of worker [] = []
  list_of worker (x ∷ xs) = cond (x.0 == worker) x.1 (list_of worker xs)
