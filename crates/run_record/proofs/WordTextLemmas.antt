-- The bytes of words: no space, no line feed, and ASCII.
use Rattle.std.proofs.Common.{◌≡◌, ℕ, suc, ◌+◌, ◌/◌, ◌%◌, ◌^◌, ◌<◌, ◌++◌, ◌&&◌, Bool, true, ltb, List, [], ◌∷◌, map, refl, ◌∙◌, arith}
use Rattle.std.specs.Bool.{⊤}
use Rattle.std.specs.List.{list_all, slice_index}
use Rattle.std.specs.Fmt.{decimal}
use Rattle.std.proofs.lemmas.Bool.{and_from, lt-ltb}
use Rattle.std.proofs.lemmas.Fmt.{decimal_by_steps}
use Rattle.std.proofs.lemmas.List.Sums.{AllPass-from_list_all}
use Rattle.std.proofs.lemmas.List.Folds.{list_all-append}
use Rattle.hex.specs.Hex.{encode_lower, encode_with, lower_digits, IsBytes}
use Rattle.run_record.specs.declared.entry.Cause.{Cause}
use Rattle.run_record.specs.declared.entry.Cause.TheVariants as cause
use Rattle.run_record.specs.Events.{Event, Grant, Arrive, End, Clean, Fail, Again, Regrant}
use Rattle.run_record.specs.RecordText.{Word, Size, word_text, cause_words, entry_words}
use Rattle.run_record.specs.code.RecordText.{AllFit, IsEntry}

-- a visible ASCII byte
abbrev pub visible : ℕ → Bool
visible b = ltb 32 b && ltb b 128

abbrev pub AllVisible : List Word → Type 0
AllVisible [] = ⊤
AllVisible (w ∷ ws) = (list_all visible (word_text w) ≡ true) × AllVisible ws

digit_visible : (n : ℕ) → n < 10 → visible (48 + n) ≡ true
digit_visible n l = and_from (ltb 32 (48 + n)) (ltb (48 + n) 128) (lt-ltb 32 (48 + n) (omega arith)) (lt-ltb (48 + n) 128 (omega (arith, l)))

one_visible : (b : ℕ) → visible b ≡ true → list_all visible (b ∷ []) ≡ true
one_visible b h = and_from (visible b) true h refl

number_visible : (n : ℕ) → n < 2 ^ 64 → list_all visible (decimal n) ≡ true
number_visible n l = decimal_by_steps (λ (m : ℕ) (ds : List ℕ). list_all visible ds ≡ true)
    (λ m s. one_visible (48 + m) (digit_visible m s))
    (λ m ds s h. list_all-append visible ds ((48 + m % 10) ∷ []) ∙ and_from (list_all visible ds) (list_all visible ((48 + m % 10) ∷ [])) h (one_visible (48 + m % 10) (digit_visible (m % 10) (omega arith))))
    n l

hex_visible : (k : ℕ) → k < 16 → visible (slice_index lower_digits k) ≡ true
hex_visible k l = AllPass-from_list_all visible lower_digits refl k 0 l

digest_visible : (bytes : List ℕ) → IsBytes bytes → list_all visible (encode_lower bytes) ≡ true
unfolding encode_with
digest_visible [] h = refl
digest_visible (b ∷ bs) h =
    let byte = h 0 in
    and_from (visible (slice_index lower_digits (b / 16))) (visible (slice_index lower_digits (b % 16)) && list_all visible (encode_lower bs)) (hex_visible (b / 16) (omega (arith, byte)))
    (and_from (visible (slice_index lower_digits (b % 16))) (list_all visible (encode_lower bs)) (hex_visible (b % 16) (omega arith)) (digest_visible bs (λ i. h (suc i))))

sizes_visible : (ns : List ℕ) → AllFit (map Size ns) → AllVisible (map Size ns)
sizes_visible [] h = tt
sizes_visible (n ∷ ns) h = (number_visible n h.0, sizes_visible ns h.1)

id_visible : (n : ℕ) → n < 2 ^ 32 → list_all visible (decimal n) ≡ true
id_visible n l = number_visible n (omega (arith, l))

cause_visible : (c : Cause) (ns : List ℕ) → AllFit (cause_words c ++ map Size ns) → AllVisible (cause_words c ++ map Size ns)
cause_visible cause.Absent ns h = (refl, sizes_visible ns h.1)
cause_visible (cause.TooLong n) ns h = (refl, (number_visible n h.1.0, sizes_visible ns h.1.1))
cause_visible (cause.Checksum bytes) ns h = (refl, (digest_visible bytes h.1.0.1, sizes_visible ns h.1.1))
cause_visible (cause.Oversize j f n) ns h = (refl, (id_visible j.0 h.1.0, (id_visible f.0 h.1.1.0, (number_visible n h.1.1.1.0, sizes_visible ns h.1.1.1.1))))
cause_visible (cause.Declined j) ns h = (refl, (id_visible j.0 h.1.0, sizes_visible ns h.1.1))
cause_visible (cause.ToolFailed j) ns h = (refl, (id_visible j.0 h.1.0, sizes_visible ns h.1.1))
cause_visible cause.HostFailed ns h = (refl, sizes_visible ns h.1)
cause_visible cause.Memory ns h = (refl, sizes_visible ns h.1)

pub entry_visible : (e : Event) → IsEntry e → AllVisible (entry_words e)
entry_visible (Grant w t) h = (refl, (id_visible w h.fits.1.0, (id_visible t h.fits.1.1.0, tt)))
entry_visible (Arrive w t n) h = (refl, (id_visible w h.fits.1.0, (id_visible t h.fits.1.1.0, (number_visible n h.fits.1.1.1.0, tt))))
entry_visible (End w t ns) h = (refl, (id_visible w h.fits.1.0, (id_visible t h.fits.1.1.0, sizes_visible ns h.fits.1.1.1)))
entry_visible (Clean w t) h = (refl, (id_visible w h.fits.1.0, (id_visible t h.fits.1.1.0, tt)))
entry_visible (Fail w t c ns) h = (refl, (id_visible w h.fits.1.0, (id_visible t h.fits.1.1.0, cause_visible c ns h.fits.1.1.1)))
entry_visible (Again w t c ns) h = (refl, (id_visible w h.fits.1.0, (id_visible t h.fits.1.1.0, cause_visible c ns h.fits.1.1.1)))
entry_visible (Regrant w t) h = (refl, (id_visible w h.fits.1.0, (id_visible t h.fits.1.1.0, tt)))
