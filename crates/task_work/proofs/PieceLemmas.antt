-- Bytes, moved piece by piece.
use Rattle.std.proofs.Common.{◌≡◌, ℕ, zero, suc, ◌+◌, ◌-◌, ◌^◌, ◌≤◌, ◌<◌, min, List, [], ◌∷◌, ◌++◌, length, length-append, take, drop, refl, sym, ap, ◌∙◌, subst, append_assoc, arith}
use Rattle.std.specs.Prelude.{Option, Some, None, option_map, IfSome, Result, Ok, Err}
use Rattle.std.proofs.Math.Seq.{take-add}
use Rattle.sha2.specs.Hashers.{Holds256}
use Rattle.sha2.specs.Sha256.{sha256}
use Rattle.sha2.specs.declared.Sha256.{Sha256}
use Rattle.outside.specs.declared.host.HostFault.{HostFault}
use Rattle.outside.specs.declared.host.HostFault.TheVariants.{Absent, Failed, Over, Memory}
use Rattle.outside.specs.code.Parts.{AppendsOn, DraftState, Drafted, ReadState, ReadsNext, ReadsOn, extended, longer}
use Rattle.task_work.specs.Pieces.{HasMoved, HasRead, HasWritten, IsPartFault, IsReadFault, IsSteadyDraft, IsSteadyReading, fails_in}

nil_after : {A : Type 0} (r : List A) → r ++ [] ≡ r
nil_after [] = refl
nil_after (e ∷ r) = ap (λ l. e ∷ l) (nil_after r)

-- these bytes were read, and nothing else
pub record ReadSo (r0 r1 : ReadState) (bytes : List ℕ) : Type 0 where
  pub reading : r1 ≡ record r0 { given = length bytes }
  pub told : IfSome r0.told (λ all. bytes ≡ take (length bytes) all)
  pub within : length bytes ≤ r0.size

-- and written
pub record MovedSo (r0 r1 : ReadState) (d0 d1 : DraftState) (h : Sha256) : Type 0 where
  pub bytes : List ℕ
  pub read : ReadSo r0 r1 bytes
  pub draft : d1 ≡ longer bytes d0
  pub holds : Holds256 h bytes

still_told : (t : Option (List ℕ)) → IfSome t (λ all. [] ≡ take 0 all)
still_told None = tt
still_told (Some all) = refl

pub read_none : (r : ReadState) → r.given ≡ 0 → ReadSo r r []
read_none r e = record { reading = ap (λ n. record r { given = n }) e; told = still_told r.told; within = omega arith }

nothing_more : (t : Option Drafted) → t ≡ option_map (extended []) t
nothing_more None = refl
nothing_more (Some d) = ap (λ bs. Some (record { place = d.place; bytes = bs })) (sym (nil_after d.bytes))

plus_zero : (n : ℕ) → n ≡ n + 0
plus_zero n = omega arith

pub no_longer : (d : DraftState) → d ≡ longer [] d
no_longer d = ap (λ t. record d { told = t }) (nothing_more d.told) ∙ ap (λ n. record d { told = option_map (extended []) d.told; size = n }) (plus_zero d.size)

pub begins : (r : ReadState) (d : DraftState) (h : Sha256) → r.given ≡ 0 → Holds256 h [] → MovedSo r r d d h
begins r d h e holds = record { bytes = []; read = read_none r e; draft = no_longer d; holds = holds }

-- a piece more
pub piece_long : (xs : List ℕ) (k : ℕ) → k ≤ length xs → length (take k xs) ≡ k
piece_long xs zero h = refl
piece_long [] (suc k) h = absurd (omega (arith, h))
piece_long (x ∷ xs) (suc k) h = ap suc (piece_long xs k (omega (arith, h)))

told_more : (t : Option (List ℕ)) (bytes piece : List ℕ) (n k : ℕ) → n ≡ length bytes → length piece ≡ k → IfSome t (λ all. bytes ≡ take n all) → IfSome t (λ all. piece ≡ take k (drop n all)) → IfSome t (λ all. bytes ++ piece ≡ take (length (bytes ++ piece)) all)
told_more None bytes piece n k e long a b = tt
told_more (Some all) bytes piece n k e long a b =
    ap (λ l. l ++ piece) a ∙ ap (λ l. take n all ++ l) b ∙ sym (take-add n k all)
    ∙ ap (λ m. take m all) (let both = length-append bytes piece in omega (arith, both, e, long))

pub read_more : (r0 r1 r2 : ReadState) (bytes piece old new : List ℕ) (k : ℕ) → ReadSo r0 r1 bytes → ReadsNext r1 r2 old new k → piece ≡ take k new → ReadSo r0 r2 (bytes ++ piece)
read_more r0 r1 r2 bytes piece old new k so next is =
    let g : r1.given ≡ length bytes = ap (λ (z : ReadState). z.given) so.reading in
    let t : r1.told ≡ r0.told = ap (λ (z : ReadState). z.told) so.reading in
    let s : r1.size ≡ r0.size = ap (λ (z : ReadState). z.size) so.reading in
    let room : k ≤ length old = next.room in
    let same : length new ≡ length old = next.long in
    let short : length (take k new) ≡ k = piece_long new k (omega (arith, room, same)) in
    let long : length piece ≡ k = ap length is ∙ short in
    let both = length-append bytes piece in
    let small : r1.given + k ≤ r1.size = next.within in
    record {
      reading = next.state ∙ ap (λ (z : ReadState). record z { given = r1.given + k }) so.reading ∙ ap (λ n. record r0 { given = n }) (omega (arith, g, long, both));
      told = told_more r0.told bytes piece (length bytes) k refl long so.told (here r0.told r1.told t next.bytes g);
      within = omega (arith, both, long, g, small, s);
    }
  where
    here : (t0 t1 : Option (List ℕ)) → t1 ≡ t0 → IfSome t1 (λ all. take k new ≡ take k (drop r1.given all)) → r1.given ≡ length bytes → IfSome t0 (λ all. piece ≡ take k (drop (length bytes) all))
    here t0 None e h g = subst (λ t. IfSome t (λ all. piece ≡ take k (drop (length bytes) all))) e tt
    here t0 (Some all) e h g = subst (λ t. IfSome t (λ all. piece ≡ take k (drop (length bytes) all))) e (is ∙ h ∙ ap (λ n. take k (drop n all)) g)

longer_twice : (t : Option Drafted) (a b : List ℕ) → option_map (extended b) (option_map (extended a) t) ≡ option_map (extended (a ++ b)) t
longer_twice None a b = refl
longer_twice (Some d) a b = ap (λ bs. Some (record { place = d.place; bytes = bs })) (append_assoc d.bytes a b)

longer_more : (d : DraftState) (a b : List ℕ) → longer b (longer a d) ≡ longer (a ++ b) d
longer_more d a b =
    let both = length-append a b in
    ap (λ t. record d { told = t; size = d.size + length a + length b }) (longer_twice d.told a b)
    ∙ ap (λ n. record d { told = option_map (extended (a ++ b)) d.told; size = n }) (omega (arith, both))

pub moved_more : (r0 r1 r2 : ReadState) (d0 d1 d2 : DraftState) (h h2 : Sha256) (piece old new : List ℕ) (k : ℕ) → MovedSo r0 r1 d0 d1 h → ReadsNext r1 r2 old new k → piece ≡ take k new → length piece ≡ k → ((m : List ℕ) → Holds256 h m → Holds256 h2 (m ++ piece)) → AppendsOn d1 d2 piece (Ok tt) → MovedSo r0 r2 d0 d2 h2
moved_more r0 r1 r2 d0 d1 d2 h h2 piece old new k so next is long fed wrote =
    record {
      bytes = so.bytes ++ piece;
      read = read_more r0 r1 r2 so.bytes piece old new k so.read next is;
      draft = wrote.1 ∙ ap (longer piece) so.draft ∙ longer_more d0 so.bytes piece;
      holds = fed so.bytes so.holds;
    }

-- the end
take_all : (xs : List ℕ) (n : ℕ) → length xs ≤ n → take n xs ≡ xs
take_all [] zero h = refl
take_all [] (suc n) h = refl
take_all (x ∷ xs) zero h = absurd (omega (arith, h))
take_all (x ∷ xs) (suc n) h = ap (λ l. x ∷ l) (take_all xs n (omega (arith, h)))

whole : (all bytes : List ℕ) → bytes ≡ take (length bytes) all → length all ≤ length bytes → bytes ≡ all
whole all bytes is small = is ∙ take_all all (length bytes) small

read_all : (r0 r1 r2 : ReadState) (bytes old new : List ℕ) → ReadSo r0 r1 bytes → ReadsNext r1 r2 old new 0 → 0 < length old → IfSome r0.told (λ all. bytes ≡ all)
read_all r0 r1 r2 bytes old new so next room = by r0.told r1.told (ap (λ (z : ReadState). z.told) so.reading) so.told (next.ends refl room)
  where
    by : (t0 t1 : Option (List ℕ)) → t1 ≡ t0 → IfSome t0 (λ all. bytes ≡ take (length bytes) all) → IfSome t1 (λ all. length all ≤ r1.given) → IfSome t0 (λ all. bytes ≡ all)
    by None t1 e a b = tt
    by (Some all) t1 e a b =
        let g : r1.given ≡ length bytes = ap (λ (z : ReadState). z.given) so.reading in
        let small : length all ≤ r1.given = subst (λ t. IfSome t (λ all. length all ≤ r1.given)) e b in
        whole all bytes a (omega (arith, small, g))

pub has_read : (r0 r1 r2 : ReadState) (bytes old new : List ℕ) → ReadSo r0 r1 bytes → ReadsNext r1 r2 old new 0 → 0 < length old → HasRead r0 bytes
has_read r0 r1 r2 bytes old new so next room = record { read = read_all r0 r1 r2 bytes old new so next room; within = so.within }

pub has_moved : (r0 r1 r2 : ReadState) (d0 d1 : DraftState) (h : Sha256) (n : ℕ) (old new digest : List ℕ) → d0.size ≡ 0 → n ≡ d1.size → MovedSo r0 r1 d0 d1 h → ReadsNext r1 r2 old new 0 → 0 < length old → ((m : List ℕ) → Holds256 h m → digest ≡ sha256 m) → HasMoved r0 d0 d1 n digest
has_moved r0 r1 r2 d0 d1 h n old new digest empty is so next room fed =
    let s : d1.size ≡ d0.size + length so.bytes = ap (λ (z : DraftState). z.size) so.draft in
    record {
      bytes = so.bytes;
      read = read_all r0 r1 r2 so.bytes old new so.read next room;
      written = ap (λ (z : DraftState). z.told) so.draft;
      size = omega (arith, s, empty);
      length_is = omega (arith, s, empty, is);
      digest_is = fed so.bytes so.holds;
      within = so.read.within;
    }

-- what stays
pub steady_reading : (r0 r1 r2 : ReadState) (bytes : List ℕ) → ReadSo r0 r1 bytes → r2.told ≡ r1.told → r2.size ≡ r1.size → r1.faults ≤ r2.faults → IsSteadyReading r0 r2
steady_reading r0 r1 r2 bytes so told size faults =
    let f : r1.faults ≡ r0.faults = ap (λ (z : ReadState). z.faults) so.reading in
    record { told = told ∙ ap (λ (z : ReadState). z.told) so.reading; size = size ∙ ap (λ (z : ReadState). z.size) so.reading; faults = omega (arith, f, faults) }

pub steady_draft : (d0 d1 d2 : DraftState) (bytes : List ℕ) → d1 ≡ longer bytes d0 → d2.told ≡ d1.told → d2.size ≡ d1.size → d2.limit ≡ d1.limit → d1.faults ≤ d2.faults → IsSteadyDraft d0 d2
steady_draft d0 d1 d2 bytes is told size limit faults =
    let f : d1.faults ≡ d0.faults = ap (λ (z : DraftState). z.faults) is in
    record {
      bytes = bytes;
      told = told ∙ ap (λ (z : DraftState). z.told) is;
      size = size ∙ ap (λ (z : DraftState). z.size) is;
      limit = limit ∙ ap (λ (z : DraftState). z.limit) is;
      faults = omega (arith, f, faults);
    }

pub stays : (r0 r1 : ReadState) (d0 d1 : DraftState) (h : Sha256) → MovedSo r0 r1 d0 d1 h → IsSteadyDraft d0 d1
stays r0 r1 d0 d1 h so = steady_draft d0 d1 d1 so.bytes so.draft refl refl refl (omega arith)

pub next_state : (r1 r2 : ReadState) (old new : List ℕ) (k : ℕ) → ReadsNext r1 r2 old new k → (r2.told ≡ r1.told) × (r2.size ≡ r1.size) × (r2.faults ≡ r1.faults)
next_state r1 r2 old new k next = (ap (λ (z : ReadState). z.told) next.state, ap (λ (z : ReadState). z.size) next.state, ap (λ (z : ReadState). z.faults) next.state)

pub ends_steady : (r0 r1 r2 : ReadState) (bytes : List ℕ) (k : ℕ) (old new : List ℕ) → ReadSo r0 r1 bytes → ReadsNext r1 r2 old new k → IsSteadyReading r0 r2
ends_steady r0 r1 r2 bytes k old new so next =
    let s = next_state r1 r2 old new k next in
    let f : r2.faults ≡ r1.faults = s.2 in
    steady_reading r0 r1 r2 bytes so s.0 s.1 (omega (arith, f))

-- a read that failed
pub read_fault : (r0 r1 r2 : ReadState) (bytes old new : List ℕ) (e : HostFault) → ReadSo r0 r1 bytes → ReadsOn r1 r2 old new (Err e) → IsReadFault r0 r2 e × IsSteadyReading r0 r2
read_fault r0 r1 r2 bytes old new Failed so next =
    let f : r2.faults ≡ min (r1.faults + 1) (2 ^ 64 - 1) = ap (λ (z : ReadState). z.faults) next.0 in
    let b : r1.faults ≡ r0.faults = ap (λ (z : ReadState). z.faults) so.reading in
    (omega (arith, f, b), steady_reading r0 r1 r2 bytes so (ap (λ (z : ReadState). z.told) next.0) (ap (λ (z : ReadState). z.size) next.0) next.1)
read_fault r0 r1 r2 bytes old new e so next = absurd next

pub moved_fault : (r0 r1 r2 : ReadState) (d0 d1 : DraftState) (h : Sha256) (old new : List ℕ) (e : HostFault) → MovedSo r0 r1 d0 d1 h → ReadsOn r1 r2 old new (Err e) → IsPartFault r0 r2 d0 d1 e
moved_fault r0 r1 r2 d0 d1 h old new Failed so next =
    let f : r2.faults ≡ min (r1.faults + 1) (2 ^ 64 - 1) = ap (λ (z : ReadState). z.faults) next.0 in
    let b : r1.faults ≡ r0.faults = ap (λ (z : ReadState). z.faults) so.read.reading in
    let d : d1.faults ≡ d0.faults = ap (λ (z : DraftState). z.faults) so.draft in
    omega (arith, f, b, d)
moved_fault r0 r1 r2 d0 d1 h old new e so next = absurd next

-- an append that failed
pub append_fault : (r0 r1 r2 : ReadState) (d0 d1 d2 : DraftState) (h : Sha256) (k : ℕ) (piece old new : List ℕ) (e : HostFault) → d0.size ≡ 0 → r0.size ≤ d0.limit → MovedSo r0 r1 d0 d1 h → ReadsNext r1 r2 old new k → length piece ≡ k → AppendsOn d1 d2 piece (Err e) → IsPartFault r0 r2 d0 d2 e × IsSteadyDraft d0 d2
append_fault r0 r1 r2 d0 d1 d2 h k piece old new Absent empty room so next long wrote = absurd wrote
append_fault r0 r1 r2 d0 d1 d2 h k piece old new Failed empty room so next long wrote =
    let s = next_state r1 r2 old new k next in
    let f : d2.faults ≡ min (d1.faults + 1) (2 ^ 64 - 1) = ap (λ (z : DraftState). z.faults) wrote.0 in
    let d : d1.faults ≡ d0.faults = ap (λ (z : DraftState). z.faults) so.draft in
    let a : r2.faults ≡ r1.faults = s.2 in
    let b : r1.faults ≡ r0.faults = ap (λ (z : ReadState). z.faults) so.read.reading in
    (omega (arith, f, d, a, b), steady_draft d0 d1 d2 so.bytes so.draft (ap (λ (z : DraftState). z.told) wrote.0) (ap (λ (z : DraftState). z.size) wrote.0) (ap (λ (z : DraftState). z.limit) wrote.0) wrote.1)
append_fault r0 r1 r2 d0 d1 d2 h k piece old new Memory empty room so next long wrote =
    let f : d2.faults ≡ d1.faults = ap (λ (z : DraftState). z.faults) wrote in
    (tt, steady_draft d0 d1 d2 so.bytes so.draft (ap (λ (z : DraftState). z.told) wrote) (ap (λ (z : DraftState). z.size) wrote) (ap (λ (z : DraftState). z.limit) wrote) (omega (arith, f)))
append_fault r0 r1 r2 d0 d1 d2 h k piece old new (Over x y) empty room so next long wrote =
    let past : d1.limit < d1.size + length piece = wrote.1 in
    let l : d1.limit ≡ d0.limit = ap (λ (z : DraftState). z.limit) so.draft in
    let s : d1.size ≡ d0.size + length so.bytes = ap (λ (z : DraftState). z.size) so.draft in
    let g : r1.given ≡ length so.bytes = ap (λ (z : ReadState). z.given) so.read.reading in
    let z : r1.size ≡ r0.size = ap (λ (z : ReadState). z.size) so.read.reading in
    let small : r1.given + k ≤ r1.size = next.within in
    absurd (omega (arith, past, l, s, g, z, small, empty, room, long))

-- one call of a part fails at most
pub ends_once : (r0 r1 r2 : ReadState) (bytes : List ℕ) (k : ℕ) (old new : List ℕ) → ReadSo r0 r1 bytes → ReadsNext r1 r2 old new k → r2.faults ≤ r0.faults + 0
ends_once r0 r1 r2 bytes k old new so next =
    let a : r2.faults ≡ r1.faults = (next_state r1 r2 old new k next).2 in
    let b : r1.faults ≡ r0.faults = ap (λ (z : ReadState). z.faults) so.reading in
    omega (arith, a, b)

pub read_once : (X : Type 0) (r0 r1 r2 : ReadState) (bytes old new : List ℕ) (e : HostFault) → ReadSo r0 r1 bytes → ReadsOn r1 r2 old new (Err e) → r2.faults ≤ r0.faults + fails_in {X = X} (Err e)
read_once X r0 r1 r2 bytes old new Failed so next =
    let f : r2.faults ≡ min (r1.faults + 1) (2 ^ 64 - 1) = ap (λ (z : ReadState). z.faults) next.0 in
    let b : r1.faults ≡ r0.faults = ap (λ (z : ReadState). z.faults) so.reading in
    omega (arith, f, b)
read_once X r0 r1 r2 bytes old new e so next = absurd next

pub moved_once : (r0 r1 r2 : ReadState) (d0 d1 : DraftState) (h : Sha256) (k : ℕ) (old new : List ℕ) → MovedSo r0 r1 d0 d1 h → ReadsNext r1 r2 old new k → r2.faults + d1.faults ≤ r0.faults + d0.faults + 0
moved_once r0 r1 r2 d0 d1 h k old new so next =
    let a = ends_once r0 r1 r2 so.bytes k old new so.read next in
    let d : d1.faults ≡ d0.faults = ap (λ (z : DraftState). z.faults) so.draft in
    omega (arith, a, d)

pub moved_read_once : (X : Type 0) (r0 r1 r2 : ReadState) (d0 d1 : DraftState) (h : Sha256) (old new : List ℕ) (e : HostFault) → MovedSo r0 r1 d0 d1 h → ReadsOn r1 r2 old new (Err e) → r2.faults + d1.faults ≤ r0.faults + d0.faults + fails_in {X = X} (Err e)
moved_read_once X r0 r1 r2 d0 d1 h old new e so next =
    let a = read_once X r0 r1 r2 so.bytes old new e so.read next in
    let d : d1.faults ≡ d0.faults = ap (λ (z : DraftState). z.faults) so.draft in
    omega (arith, a, d)

append_once : (X : Type 0) (d1 d2 : DraftState) (piece : List ℕ) (e : HostFault) → AppendsOn d1 d2 piece (Err e) → d2.faults ≤ d1.faults + fails_in {X = X} (Err e)
append_once X d1 d2 piece Absent wrote = absurd wrote
append_once X d1 d2 piece Failed wrote = let f : d2.faults ≡ min (d1.faults + 1) (2 ^ 64 - 1) = ap (λ (z : DraftState). z.faults) wrote.0 in omega (arith, f)
append_once X d1 d2 piece Memory wrote = let f : d2.faults ≡ d1.faults = ap (λ (z : DraftState). z.faults) wrote in omega (arith, f)
append_once X d1 d2 piece (Over l n) wrote = let f : d2.faults ≡ d1.faults = ap (λ (z : DraftState). z.faults) wrote.2 in omega (arith, f)

pub moved_append_once : (X : Type 0) (r0 r1 r2 : ReadState) (d0 d1 d2 : DraftState) (h : Sha256) (k : ℕ) (piece old new : List ℕ) (e : HostFault) → MovedSo r0 r1 d0 d1 h → ReadsNext r1 r2 old new k → AppendsOn d1 d2 piece (Err e) → r2.faults + d2.faults ≤ r0.faults + d0.faults + fails_in {X = X} (Err e)
moved_append_once X r0 r1 r2 d0 d1 d2 h k piece old new e so next wrote =
    let a = moved_once r0 r1 r2 d0 d1 h k old new so next in
    let b = append_once X d1 d2 piece e wrote in
    omega (arith, a, b)

pub written_once : (d e : DraftState) (bytes : List ℕ) (result : Result (Unit {0}) HostFault) → HasWritten d e bytes result → e.faults ≤ d.faults + fails_in result
written_once d e bytes (Ok u) h = let f : e.faults ≡ d.faults = h.3 in omega (arith, f)
written_once d e bytes (Err Absent) h = absurd h
written_once d e bytes (Err (Over l n)) h = absurd h
written_once d e bytes (Err Failed) h = append_once (Unit {0}) d e bytes Failed h
written_once d e bytes (Err Memory) h = append_once (Unit {0}) d e bytes Memory h

pub same_fails : (X Y : Type 0) (e : HostFault) → fails_in {X = X} (Err e) ≡ fails_in {X = Y} (Err e)
same_fails X Y Absent = refl
same_fails X Y Failed = refl
same_fails X Y (Over l n) = refl
same_fails X Y Memory = refl
