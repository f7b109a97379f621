-- Lines dealt to texts.
use Rattle.std.proofs.Common.{◌≡◌, ℕ, ◌<◌, Bool, true, false, cond, List, Some, None, [], ◌∷◌, ◌++◌, length, get_or, map, refl, sym, ap, ◌∙◌, nat_eq, append_assoc, arith}
use Rattle.std.specs.Prelude.{slice_set, Vec}
use Rattle.std.specs.List.{range_with_len}
use Rattle.std.specs.declared.alloc.Global.{Global}
use Rattle.std.proofs.lemmas.Grind.{common_steps}
use Rattle.std.proofs.lemmas.Bool.{eqb-true, ne_eqb}
use Rattle.std.proofs.lemmas.List.{append-nil, length-map, map-set}
use Rattle.std.proofs.lemmas.List.FromFn.{fill_by_all}
use Rattle.toolbox.specs.Lines.{lines, written}
use Rattle.toolbox.specs.Transformation.Deal.{dealt, hand, text_at, texts_of}

abbrev Texts : Type 0
Texts = List (Vec ℕ Global)

set_read : (texts : List (List ℕ)) (i k : ℕ) (text : List ℕ) → i < length texts → text_at (slice_set texts i text) k ≡ cond (nat_eq i k) text (text_at texts k)
set_read texts i k text h = grind (arith, common_steps)

text_set : (texts : Texts) (i k : ℕ) (text : Vec ℕ Global) → i < length texts → text_at (texts_of (slice_set texts i text)) k ≡ cond (nat_eq i k) text.items (text_at (texts_of texts) k)
text_set texts i k text h =
    ap (λ (x : List (List ℕ)). text_at x k) (map-set (λ (text : Vec ℕ Global). text.items) texts i text)
    ∙ set_read (texts_of texts) i k text.items (omega (arith, length-map texts (λ (text : Vec ℕ Global). text.items)))

text_is : (texts : Texts) (i : ℕ) (text : Vec ℕ Global) → i < length texts → text ≡ get_or texts i text → text_at (texts_of texts) i ≡ text.items
text_is texts i text h is = grind (arith, common_steps)

-- a line was added to one text
pub added_at : (texts : Texts) (i k : ℕ) (old new : Vec ℕ Global) (line : List ℕ) → i < length texts → old ≡ get_or texts i old → new.items ≡ old.items ++ line ++ 10 ∷ []
    → text_at (texts_of (slice_set texts i new)) k ≡ cond (nat_eq i k) (text_at (texts_of texts) k ++ line ++ 10 ∷ []) (text_at (texts_of texts) k)
added_at texts i k old new line h is e = text_set texts i k new h ∙ by (nat_eq i k) refl
  where
    by : (b : Bool) → nat_eq i k ≡ b → cond b new.items (text_at (texts_of texts) k) ≡ cond b (text_at (texts_of texts) k ++ line ++ 10 ∷ []) (text_at (texts_of texts) k)
    by true t = e ∙ ap (λ (x : List ℕ). x ++ line ++ 10 ∷ []) (sym (text_is texts i old h is) ∙ ap (text_at (texts_of texts)) (eqb-true i k t))
    by false t = refl

-- texts that are each the right one are all outputs
all_hands : (texts : Texts) (outs : ℕ) (lines : List (List ℕ)) → length texts ≡ outs → ((j : ℕ) → j < outs → text_at (texts_of texts) j ≡ written (hand outs j 0 lines))
    → texts_of texts ≡ map (λ j. written (hand outs j 0 lines)) (range_with_len 0 outs)
all_hands texts outs lines long each =
    fill_by_all (λ j. written (hand outs j 0 lines)) (texts_of texts) outs [] (length-map texts (λ (text : Vec ℕ Global). text.items) ∙ long) each

pub dealt_is : (input : List ℕ) (outs : ℕ) (texts : Texts) (outputs : List (List ℕ)) → 0 < outs → length texts ≡ outs
    → ((j : ℕ) → j < outs → text_at (texts_of texts) j ≡ written (hand outs j 0 (lines input))) → outputs ≡ texts_of texts → dealt input outs ≡ Some outputs
dealt_is input outs texts outputs some long each are =
    let all = all_hands texts outs (lines input) long each in
    let not_none : nat_eq outs 0 ≡ false = ne_eqb outs 0 (λ e. omega arith) in
    let whole : List (List ℕ) = map (λ j. written (hand outs j 0 (lines input))) (range_with_len 0 outs) in
    ap (λ (b : Bool). cond b None (Some whole)) not_none ∙ ap Some (sym (are ∙ all))

-- a text goes over to the outputs
pub moved : (outputs now : List (List ℕ)) (rest later : Texts) (text : Vec ℕ Global) (bytes : List ℕ) (whole : List (List ℕ)) → outputs ++ texts_of rest ≡ whole
    → rest ≡ text ∷ later → bytes ≡ text.items → now ≡ outputs ++ bytes ∷ [] → now ++ texts_of later ≡ whole
moved outputs now rest later text bytes whole e here same pushed =
    ap (λ (x : List (List ℕ)). x ++ texts_of later) pushed
    ∙ append_assoc outputs (bytes ∷ []) (texts_of later)
    ∙ ap (λ (x : List ℕ). outputs ++ x ∷ texts_of later) same
    ∙ sym (ap (λ (x : Texts). outputs ++ texts_of x) here)
    ∙ e

-- no text is left
pub all_moved : (outputs : List (List ℕ)) (rest : Texts) (count : ℕ) (whole : List (List ℕ)) → outputs ++ texts_of rest ≡ whole → count ≡ length rest → count ≡ 0 → outputs ≡ whole
all_moved outputs [] count whole e long none = sym (append-nil outputs) ∙ e
all_moved outputs (text ∷ rest) count whole e long none = absurd (omega arith)
