-- The trace is the marked one with the operations of the changes.
use Rattle.std.proofs.Common.{◌≡◌, List, [], ◌∷◌, ◌++◌, map, refl, sym, ap, ◌∙◌, append_assoc}
use Rattle.outside.specs.code.Store.{Change, Publishes, Delivers, Removes, changed, changed_by, operation}
use Rattle.outside.specs.declared.store.Store.{Store}

nil_after : {A : Type 0} (r : List A) → r ++ [] ≡ r
nil_after [] = refl
nil_after (e ∷ r) = ap (λ l. e ∷ l) (nil_after r)

trace_one : (s : Store) (c : Change) → (changed s c).trace ≡ s.trace ++ operation c ∷ []
trace_one s (Publishes site name bytes) = refl
trace_one s (Delivers name bytes) = refl
trace_one s (Removes site name) = refl

pub trace_changed : (s : Store) (cs : List Change) → (changed_by s cs).trace ≡ s.trace ++ map operation cs
trace_changed s [] = sym (nil_after s.trace)
trace_changed s (c ∷ cs) = trace_changed (changed s c) cs ∙ ap (λ l. l ++ map operation cs) (trace_one s c) ∙ append_assoc s.trace (operation c ∷ []) (map operation cs)
