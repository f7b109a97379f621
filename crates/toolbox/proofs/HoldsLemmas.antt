-- Where a pattern stands in a line.
use Rattle.std.proofs.Common.{◌≡◌, ℕ, zero, suc, ◌+◌, ◌<◌, ◌≤◌, Bool, true, false, ◌||◌, cond, List, [], ◌∷◌, ◌++◌, Option, Some, None, length, get_or, take, drop, nat_eq, bytes_eq, refl, sym, ap, subst, ◌∙◌, arith}
use Rattle.std.specs.Prelude.{is_some}
use Rattle.std.specs.Cmp.Lexicographic.{nat_list_eq_equiv, same_text}
use Rattle.std.specs.List.{filter, starts_with}
use Rattle.std.proofs.Math.Bool.{or-true}
use Rattle.std.proofs.lemmas.Bool.{eq-eqb, eqb-true}
use Rattle.std.proofs.lemmas.List.{take_at, take-append-drop}
use Rattle.std.proofs.lemmas.List.Prefix.{front_fits, front_from_reads, front_reads}
use Rattle.toolbox.specs.Lines.{bytes_of, written}
use Rattle.toolbox.proofs.LinesLemmas.{Line, cut, line_if}
use Rattle.memchr.specs.Find.{FindsNeedle, OccursAt}
use Rattle.toolbox.specs.Transformation.Holds.{stands_in}

first : (pattern line : List ℕ) → OccursAt line pattern 0 → starts_with nat_eq line pattern ≡ true
first pattern line occurs =
    let none : (j : ℕ) → 0 + j ≡ j = λ j. omega arith in
    let whole : line ≡ pattern ++ drop (length pattern) line =
    front_from_reads 0 line pattern (omega (arith, occurs.fits)) (λ j h. subst (λ (n : ℕ). get_or line n 0 ≡ get_or pattern j 0) (none j) (occurs.reads j h)) in
    let front : take (length pattern) line ≡ pattern = ap (take (length pattern)) whole ∙ take_at pattern (drop (length pattern) line) (length pattern) refl in
    ap (λ (bytes : List ℕ). bytes_eq pattern bytes) front ∙ nat_list_eq_equiv.refl pattern

later : (b : ℕ) (bytes pattern : List ℕ) (k : ℕ) → OccursAt (b ∷ bytes) pattern (suc k) → OccursAt bytes pattern k
later b bytes pattern k occurs = record {
  fits = omega (arith, occurs.fits);
  reads = λ j h. let e : suc k + j ≡ suc (k + j) = omega arith in subst (λ (n : ℕ). get_or (b ∷ bytes) n 0 ≡ get_or pattern j 0) e (occurs.reads j h);
}

found : (pattern line : List ℕ) (k : ℕ) → OccursAt line pattern k → stands_in pattern line ≡ true
found pattern [] k occurs =
    let none : length pattern ≡ 0 = omega (arith, occurs.fits) in
    eq-eqb (length pattern) 0 none
found pattern (b ∷ bytes) zero occurs = ap (λ (t : Bool). t || stands_in pattern bytes) (first pattern (b ∷ bytes) occurs)
found pattern (b ∷ bytes) (suc k) occurs = ap (λ (t : Bool). starts_with nat_eq (b ∷ bytes) pattern || t) (found pattern bytes k (later b bytes pattern k occurs)) ∙ or-true _

record Place (pattern line : List ℕ) : Type 0 where
  spot : ℕ
  within : spot ≤ length line
  occurs : OccursAt line pattern spot

at_first : (pattern line : List ℕ) → starts_with nat_eq line pattern ≡ true → Place pattern line
at_first pattern line starts =
    let front : pattern ≡ take (length pattern) line = same_text pattern (take (length pattern) line) (sym starts) in
    let whole : line ≡ pattern ++ drop (length pattern) line = sym (ap (λ (p : List ℕ). p ++ drop (length pattern) line) front ∙ take-append-drop (length pattern) line) in
    record {
      spot = 0;
      within = omega arith;
      occurs = record {
        fits = omega (arith, front_fits line pattern (drop (length pattern) line) whole);
        reads = λ j h.
            let e : j ≡ 0 + j = omega arith in
            subst (λ (n : ℕ). get_or line n 0 ≡ get_or pattern j 0) e (front_reads 0 line pattern (drop (length pattern) line) whole j h);
      };
    }

at_later : (b : ℕ) (bytes pattern : List ℕ) → Place pattern bytes → Place pattern (b ∷ bytes)
at_later b bytes pattern place =
    let k = place.spot in
    let fits = place.occurs.fits in
    record {
      spot = suc k;
      within = omega (arith, place.within);
      occurs = record {
        fits = omega arith;
        reads = λ j h.
            let e : suc (k + j) ≡ suc k + j = omega arith in
            subst (λ (n : ℕ). get_or (b ∷ bytes) n 0 ≡ get_or pattern j 0) e (place.occurs.reads j h);
      };
    }

place_of : (pattern line : List ℕ) → stands_in pattern line ≡ true → Place pattern line
place_of pattern [] stands =
    let none : length pattern ≡ 0 = eqb-true (length pattern) 0 stands in
    record { spot = 0; within = omega arith; occurs = record { fits = omega arith; reads = λ j h. absurd (omega arith) } }
place_of pattern (b ∷ bytes) stands = by (starts_with nat_eq (b ∷ bytes) pattern) refl (place_of pattern bytes) stands
  where
    by : (t : Bool) → starts_with nat_eq (b ∷ bytes) pattern ≡ t → (stands_in pattern bytes ≡ true → Place pattern bytes) → (t || stands_in pattern bytes) ≡ true → Place pattern (b ∷ bytes)
    by true starts more stands = at_first pattern (b ∷ bytes) starts
    by false starts more stands = at_later b bytes pattern (more stands)

-- what a search finds
pub found_is : (pattern line : List ℕ) (answer : Option ℕ) → FindsNeedle line pattern 0 answer → is_some answer ≡ stands_in pattern line
found_is pattern line None nowhere = by (stands_in pattern line) refl
  where
    by : (t : Bool) → stands_in pattern line ≡ t → false ≡ t
    by true stands =
        let place = place_of pattern line stands in
        absurd (nowhere place.spot (omega arith) (omega (arith, place.within)) place.occurs)
    by false stands = refl
found_is pattern line (Some k) h = sym (found pattern line k h.1)

-- one more line
pub next_line : (pattern : List ℕ) (lines : List Line) (i : ℕ) (d : Line) → i < length lines → (finder : List ℕ) (wanted : Bool) (text now whole : List ℕ)
    → text ++ written (filter (stands_in pattern) (bytes_of (drop i lines))) ≡ whole
    → finder ≡ pattern → wanted ≡ stands_in finder (get_or lines i d).now → now ≡ text ++ cond wanted ((get_or lines i d).now ++ 10 ∷ []) []
    → now ++ written (filter (stands_in pattern) (bytes_of (drop (i + 1) lines))) ≡ whole
next_line pattern lines i d h finder wanted text now whole e found_by wanted_is pushed =
    let line = (get_or lines i d).now in
    let is : wanted ≡ stands_in pattern line = wanted_is ∙ ap (λ (p : List ℕ). stands_in p line) found_by in
    line_if (stands_in pattern line) line (filter (stands_in pattern) (bytes_of (drop (i + 1) lines))) text now (pushed ∙ ap (λ (b : Bool). text ++ cond b (line ++ 10 ∷ []) []) is)
    ∙ sym (ap (λ (ls : List (List ℕ)). text ++ written (filter (stands_in pattern) ls)) (cut lines i d h)) ∙ e
