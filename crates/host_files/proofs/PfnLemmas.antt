-- What stands around the first `://`.
use Rattle.std.proofs.Common.{◌≡◌, ℕ, zero, suc, ◌<◌, ◌≤◌, Bool, true, false, List, [], ◌∷◌, ◌++◌, length, take, drop, refl, sym, ap, ◌∙◌, bytes_eq, codes, Some, None, option_map, arith}
use Rattle.std.specs.Prelude.{if◌then◌else◌}
use Rattle.std.specs.Str.Pattern.{FindsText, LacksTextAt, SplitsAroundMatch}
use Rattle.std.proofs.lemmas.Slice.Eq.{bytes_eq-Decides}
use Rattle.std.proofs.lemmas.List.{take-append-drop}
use Rattle.host_files.specs.Pfn.{around_marks, path_by, path_of, url_path}

-- ---- at the front

abbrev at_front : List ℕ → Bool
at_front s = bytes_eq (take 3 s) (codes "://")

begins : (s rest : List ℕ) → s ≡ codes "://" ++ rest → at_front s ≡ true
begins s rest e = ap at_front e

is_begun : (s : List ℕ) → at_front s ≡ true → s ≡ codes "://" ++ drop 3 s
is_begun s e =
    let same : take 3 s ≡ codes "://" = (bytes_eq-Decides (take 3 s) (codes "://")).0 e in
    sym (take-append-drop 3 s) ∙ ap (λ (l : List ℕ). l ++ drop 3 s) same

not_begun : (s : List ℕ) → LacksTextAt (codes "://") s 0 → at_front s ≡ false
not_begun s lacks = by (at_front s) refl
  where
    by : (t : Bool) → at_front s ≡ t → t ≡ false
    by true e = absurd (lacks (drop 3 s) (is_begun s e))
    by false e = refl

-- ---- anywhere

not_found : (s : List ℕ) → ((i : ℕ) → i ≤ length s → LacksTextAt (codes "://") s i) → around_marks s ≡ None
not_found [] lacks = refl
not_found (b ∷ bs) lacks =
    ap (λ (t : Bool). if t then Some ([], drop 2 bs) else option_map (λ (p : List ℕ × List ℕ). (b ∷ p.0, p.1)) (around_marks bs)) (not_begun (b ∷ bs) (lacks 0 (omega arith)))
    ∙ ap (option_map (λ (p : List ℕ × List ℕ). (b ∷ p.0, p.1))) (not_found bs (λ i within. lacks (suc i) (omega (arith, within))))

from : (s : List ℕ) (i : ℕ) (behind : List ℕ) → ((k : ℕ) → k < i → LacksTextAt (codes "://") s k) → drop i s ≡ codes "://" ++ behind → around_marks s ≡ Some (take i s, behind)
from [] zero behind lacks e = absurd (let long : 0 ≡ suc (suc (suc (length behind))) = ap length e in omega (arith, long))
from [] (suc i) behind lacks e = absurd (let long : 0 ≡ suc (suc (suc (length behind))) = ap length e in omega (arith, long))
from (b ∷ bs) zero behind lacks e =
    ap (λ (t : Bool). if t then Some ([], drop 2 bs) else option_map (λ (p : List ℕ × List ℕ). (b ∷ p.0, p.1)) (around_marks bs)) (begins (b ∷ bs) behind e)
    ∙ ap (λ (l : List ℕ). Some ([], drop 3 l)) e
from (b ∷ bs) (suc i) behind lacks e =
    ap (λ (t : Bool). if t then Some ([], drop 2 bs) else option_map (λ (p : List ℕ × List ℕ). (b ∷ p.0, p.1)) (around_marks bs)) (not_begun (b ∷ bs) (lacks 0 (omega arith)))
    ∙ ap (option_map (λ (p : List ℕ × List ℕ). (b ∷ p.0, p.1))) (from bs i behind (λ k before. lacks (suc k) (omega (arith, before))) e)

-- ---- the path

pub whole : (s : List ℕ) → ((i : ℕ) → i ≤ length s → LacksTextAt (codes "://") s i) → path_of s ≡ Some s
whole s lacks = ap (path_by s) (not_found s lacks)

pub parted : (s scheme path : List ℕ) → SplitsAroundMatch (FindsText (codes "://")) s scheme path → path_of s ≡ url_path s scheme path
parted s scheme path x =
    let two : around_marks s ≡ Some (take x.0 s, drop x.1 s) = from s x.0 (drop x.1 s) x.2.0 x.2.1.split in
    let front : Some (take x.0 s, drop x.1 s) ≡ Some (scheme, drop x.1 s) = ap (λ (l : List ℕ). Some (l, drop x.1 s)) (sym x.3) in
    let behind : Some (scheme, drop x.1 s) ≡ Some (scheme, path) = ap (λ (l : List ℕ). Some (scheme, l)) (sym x.4) in
    ap (path_by s) (two ∙ front ∙ behind)
