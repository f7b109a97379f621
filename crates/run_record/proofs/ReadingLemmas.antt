-- The words of an entry's line are read as that entry.
use Rattle.std.proofs.Common.{◌≡◌, ℕ, ◌^◌, ◌<◌, ◌++◌, ◌||◌, true, List, [], ◌∷◌, Option, Some, map, drop, length, codes, refl, ap, ◌∙◌, arith}
use Rattle.std.specs.Prelude.{option_map, option_and_then}
use Rattle.std.specs.Fmt.{decimal}
use Rattle.std.specs.Result.{result_ok}
use Rattle.std.proofs.lemmas.Bool.{and_parts}
use Rattle.hex.specs.Hex.{encode_lower, IsBytes}
use Rattle.hex.proofs.HexLemmas.{decode_sized-encode_lower}
use Rattle.run_record.specs.declared.entry.Cause.{Cause}
use Rattle.run_record.specs.declared.entry.Cause.TheVariants as cause
use Rattle.run_record.specs.Events.{Event, Grant, Arrive, End, Clean, Fail, Again, Regrant, may_retry}
use Rattle.run_record.specs.code.Events.{may_publish, is_empty}
use Rattle.run_record.specs.RecordText.{Word, Size, word_text, cause_words, entry_words}
use Rattle.run_record.specs.code.RecordText.{AllFit, IsEntry}
use Rattle.run_record.specs.code.Reading.{number_of, with_size, sizes_of, sizes_place, published_place, digest_at, cause_of, event_named, event_with, event_in, job}
use Rattle.run_record.specs.code.Words.{word_at}
use Rattle.run_record.proofs.NumberLemmas.{number_back}

number_is : (n : ℕ) → n < 2 ^ 32 → number_of 32 (decimal n) ≡ Some n
number_is n l = number_back 32 n l (omega (arith, l))

size_is : (n : ℕ) → n < 2 ^ 64 → number_of 64 (decimal n) ≡ Some n
size_is n l = number_back 64 n l l

sizes_are : (ns : List ℕ) → AllFit (map Size ns) → sizes_of (map word_text (map Size ns)) ≡ ns
sizes_are [] h = refl
sizes_are (n ∷ ns) h =
    ap (λ (o : Option ℕ). with_size o (sizes_of (map word_text (map Size ns)))) (size_is n h.0)
    ∙ ap (λ (l : List ℕ). n ∷ l) (sizes_are ns h.1)

fit_right : (xs ys : List Word) → AllFit (xs ++ ys) → AllFit ys
fit_right [] ys h = h
fit_right (x ∷ xs) ys h = fit_right xs ys h.1

digest_is : (a b c d : List ℕ) (bytes : List ℕ) (more : List (List ℕ)) → length bytes ≡ 32 → IsBytes bytes → digest_at (a ∷ b ∷ c ∷ d ∷ encode_lower bytes ∷ more) 4 ≡ Some bytes
unfolding digest_at
digest_is a b c d bytes more l h = ap result_ok (decode_sized-encode_lower bytes 32 l h)

three : (o p q : Option ℕ) (j f n : ℕ) → o ≡ Some j → p ≡ Some f → q ≡ Some n
    → option_and_then (λ (a : ℕ). option_and_then (λ (b : ℕ). option_map (λ (c : ℕ). cause.Oversize (job a) (record { 0 = b }) c) q) p) o ≡ Some (cause.Oversize (job j) (record { 0 = f }) n)
three o p q j f n a b c = rw (a, b, c) refl

cause_is : (k a b : List ℕ) (c : Cause) (ns : List ℕ) → AllFit (cause_words c ++ map Size ns) → cause_of (k ∷ a ∷ b ∷ map word_text (cause_words c ++ map Size ns)) ≡ Some c
unfolding cause_of
cause_is k a b cause.Absent ns h = refl
cause_is k a b (cause.TooLong n) ns h = ap (λ (o : Option ℕ). option_map (λ (m : ℕ). cause.TooLong m) o) (size_is n h.1.0)
cause_is k a b (cause.Checksum bytes) ns h = ap (λ (o : Option (List ℕ)). option_map (λ (m : List ℕ). cause.Checksum m) o) (digest_is k a b (codes "checksum") bytes (map word_text (map Size ns)) h.1.0.0 h.1.0.1)
cause_is k a b (cause.Oversize j f n) ns h = three (number_of 32 (decimal j.0)) (number_of 32 (decimal f.0)) (number_of 64 (decimal n)) j.0 f.0 n (number_is j.0 h.1.0) (number_is f.0 h.1.1.0) (size_is n h.1.1.1.0)
cause_is k a b (cause.Declined j) ns h = ap (λ (o : Option ℕ). option_map (λ (m : ℕ). cause.Declined (job m)) o) (number_is j.0 h.1.0)
cause_is k a b (cause.ToolFailed j) ns h = ap (λ (o : Option ℕ). option_map (λ (m : ℕ). cause.ToolFailed (job m)) o) (number_is j.0 h.1.0)
cause_is k a b cause.HostFailed ns h = refl
cause_is k a b cause.Memory ns h = refl

abbrev listed : (k a b : List ℕ) (c : Cause) (ns : List ℕ) → List (List ℕ)
listed k a b c ns = k ∷ a ∷ b ∷ map word_text (cause_words c ++ map Size ns)

-- the sizes that stand after a cause
after : (k a b : List ℕ) (c : Cause) (ns : List ℕ) → AllFit (map Size ns) → (may_publish c || is_empty ns) ≡ true
    → sizes_of (drop (published_place (word_at (listed k a b c ns) 3) (length (listed k a b c ns))) (listed k a b c ns)) ≡ ns
after k a b cause.Absent [] h p = refl
after k a b cause.Absent (n ∷ ns) h p = absurd cc
after k a b (cause.TooLong m) [] h p = refl
after k a b (cause.TooLong m) (n ∷ ns) h p = absurd cc
after k a b (cause.Checksum m) [] h p = refl
after k a b (cause.Checksum m) (n ∷ ns) h p = absurd cc
after k a b (cause.Oversize j f m) [] h p = refl
after k a b (cause.Oversize j f m) (n ∷ ns) h p = absurd cc
after k a b (cause.Declined j) [] h p = refl
after k a b (cause.Declined j) (n ∷ ns) h p = absurd cc
after k a b (cause.ToolFailed j) [] h p = refl
after k a b (cause.ToolFailed j) (n ∷ ns) h p = absurd cc
after k a b cause.HostFailed ns h p = sizes_are ns h
after k a b cause.Memory ns h p = sizes_are ns h

pair : (f : ℕ → ℕ → Option Event) (o p : Option ℕ) (w t : ℕ) → o ≡ Some w → p ≡ Some t → option_and_then (λ (a : ℕ). option_and_then (λ (b : ℕ). f a b) p) o ≡ f w t
pair f o p w t a b = rw (a, b) refl

head : (kind : List ℕ) (w t : ℕ) (rest : List (List ℕ)) (sizes : List ℕ) → w < 2 ^ 32 → t < 2 ^ 32
    → event_with sizes (kind ∷ decimal w ∷ decimal t ∷ rest) ≡ event_named kind w t sizes (kind ∷ decimal w ∷ decimal t ∷ rest)
unfolding event_with
head kind w t rest sizes l m =
    pair (λ (a b : ℕ). event_named kind a b sizes (kind ∷ decimal w ∷ decimal t ∷ rest)) (number_of 32 (decimal w)) (number_of 32 (decimal t)) w t (number_is w l) (number_is t m)

pub event_is : (e : Event) → IsEntry e → event_in (map word_text (entry_words e)) ≡ Some e
event_is (Grant w t) h = head (codes "grant") w t [] [] h.fits.1.0 h.fits.1.1.0
event_is (Arrive w t n) h =
    let words = codes "arrive" ∷ decimal w ∷ decimal t ∷ decimal n ∷ [] in
    head (codes "arrive") w t (decimal n ∷ []) (sizes_of (drop (sizes_place words) words)) h.fits.1.0 h.fits.1.1.0
    ∙ ap (λ (o : Option ℕ). option_map (λ (m : ℕ). Arrive w t m) o) (size_is n h.fits.1.1.1.0)
event_is (End w t ns) h =
    head (codes "end") w t (map word_text (map Size ns)) (sizes_of (map word_text (map Size ns))) h.fits.1.0 h.fits.1.1.0
    ∙ ap (λ (l : List ℕ). Some (End w t l)) (sizes_are ns h.fits.1.1.1)
event_is (Clean w t) h = head (codes "clean") w t [] [] h.fits.1.0 h.fits.1.1.0
event_is (Fail w t c ns) h =
    let words = listed (codes "fail") (decimal w) (decimal t) c ns in
    let sizes = sizes_of (drop (sizes_place words) words) in
    head (codes "fail") w t (map word_text (cause_words c ++ map Size ns)) sizes h.fits.1.0 h.fits.1.1.0
    ∙ ap (λ (o : Option Cause). option_map (λ (d : Cause). Fail w t d sizes) o) (cause_is (codes "fail") (decimal w) (decimal t) c ns h.fits.1.1.1)
    ∙ ap (λ (l : List ℕ). Some (Fail w t c l)) (after (codes "fail") (decimal w) (decimal t) c ns (fit_right (cause_words c) (map Size ns) h.fits.1.1.1) h.proper)
event_is (Again w t c ns) h =
    let words = listed (codes "again") (decimal w) (decimal t) c ns in
    let sizes = sizes_of (drop (sizes_place words) words) in
    head (codes "again") w t (map word_text (cause_words c ++ map Size ns)) sizes h.fits.1.0 h.fits.1.1.0
    ∙ ap (λ (o : Option Cause). option_map (λ (d : Cause). Again w t d sizes) o) (cause_is (codes "again") (decimal w) (decimal t) c ns h.fits.1.1.1)
    ∙ ap (λ (l : List ℕ). Some (Again w t c l)) (after (codes "again") (decimal w) (decimal t) c ns (fit_right (cause_words c) (map Size ns) h.fits.1.1.1) (and_parts (may_retry c) (may_publish c || is_empty ns) h.proper).1)
event_is (Regrant w t) h = head (codes "regrant") w t [] [] h.fits.1.0 h.fits.1.1.0
