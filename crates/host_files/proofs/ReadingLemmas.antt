-- Bytes read so far, where they are told.
use Rattle.std.proofs.Common.{◌≡◌, ℕ, ◌+◌, List, [], ◌++◌, length, refl, sym, ap, ◌∙◌, length-append, append_assoc, arith}
use Rattle.std.proofs.lemmas.List.{append-nil}
use Rattle.std.specs.Prelude.{Option, Some, None, IfSome}
use Rattle.std.specs.Io.KnownBytes.{Consumes, IsAtEnd}
use Rattle.host_files.specs.Reading.{HasPassed}

pub nothing_read : (known : Option (List ℕ)) → Consumes known known []
nothing_read None = tt
nothing_read (Some xs) = refl

-- one piece more
pub read_more : (first old new : Option (List ℕ)) (read piece : List ℕ) → Consumes first old read → Consumes old new piece → Consumes first new (read ++ piece)
read_more None old new read piece before now = tt
read_more (Some xs) None new read piece before now = absurd before
read_more (Some xs) (Some ys) None read piece before now = absurd now
read_more (Some xs) (Some ys) (Some zs) read piece before now = before ∙ ap (λ (us : List ℕ). read ++ us) now ∙ sym (append_assoc read piece zs)

-- nothing is left
pub all_read : (first old new : Option (List ℕ)) (read : List ℕ) → Consumes first old read → Consumes old new [] → IsAtEnd new → IfSome first (λ bytes. read ≡ bytes)
all_read None old new read before now end = tt
all_read (Some xs) None new read before now end = absurd before
all_read (Some xs) (Some ys) None read before now end = absurd now
all_read (Some xs) (Some ys) (Some zs) read before now end = sym (before ∙ ap (λ (us : List ℕ). read ++ us) (now ∙ end) ∙ append-nil read)

-- ---- how many

-- those that were kept, and a piece more
pub passed : (first old new : Option (List ℕ)) (read piece : List ℕ) (n : ℕ) → Consumes first old read → Consumes old new piece → length read + length piece ≡ n → HasPassed first new n
passed first old new read piece n before now long = (read ++ piece, read_more first old new read piece before now, length-append read piece ∙ long)

pub more_passed : (first old new : Option (List ℕ)) (piece : List ℕ) (n m : ℕ) → HasPassed first old n → Consumes old new piece → length piece ≡ m → HasPassed first new (n + m)
more_passed first old new piece n m before now long = passed first old new before.0 piece (n + m) before.1 now (omega (arith, before.2, long))
