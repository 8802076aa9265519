-- Reading and writing a range of an object's bytes.
use Rattle.std.proofs.Common.{◌≡◌, ◌≢◌, ℕ, zero, suc, ◌+◌, ◌<◌, ◌≤◌, ◌⊎◌, inl, inr, List, [], ◌∷◌, ◌++◌, length, take, drop, arith, refl, ap, ◌∙◌, set, drop-cons, length-set, get_or-set_same, get_or-set_other}
use Rattle.std.proofs.lemmas.Grind.{common_steps}
use Rattle.std.proofs.lemmas.List.{drop-set-lt, set-get_or}
use Rattle.std.proofs.Math.Seq.{take-suc-set}
use Rattle.pw_value.specs.declared.value.Byte.{Byte}
use Rattle.pw_value.specs.declared.value.Byte.TheVariants as B
use Rattle.pw_value.specs.Objects.{byte_at, bytes_from, with_bytes, IsInside}

pub length-bytes_from : (n at : ℕ) (bytes : List Byte) → length (bytes_from n at bytes) ≡ n
length-bytes_from zero at bytes = refl
length-bytes_from (suc n) at bytes = ap suc (length-bytes_from n (suc at) bytes)

pub byte_at-bytes_from :
    (n at i : ℕ) (bytes : List Byte) → i < n → byte_at (bytes_from n at bytes) i ≡ byte_at bytes (at + i)
byte_at-bytes_from zero at i bytes below = absurd (omega arith)
byte_at-bytes_from (suc n) at zero bytes below =
    let e : at ≡ at + 0 = omega arith in ap (byte_at bytes) e
byte_at-bytes_from (suc n) at (suc i) bytes below =
    let e : suc at + i ≡ at + suc i = omega arith in
    byte_at-bytes_from n (suc at) i bytes (omega arith) ∙ ap (byte_at bytes) e

pub bytes_from-take :
    (n at : ℕ) (bytes : List Byte) → IsInside n at bytes → bytes_from n at bytes ≡ take n (drop at bytes)
bytes_from-take zero at bytes inside = refl
bytes_from-take (suc n) at bytes inside =
    let within : at < length bytes = omega arith in
    rw (drop-cons bytes at B.Undefined within) (ap (λ rest. byte_at bytes at ∷ rest) (bytes_from-take n (suc at) bytes (omega arith)))

pub length-with_bytes :
    (new : List Byte) (at : ℕ) (bytes : List Byte) → length (with_bytes new at bytes) ≡ length bytes
length-with_bytes [] at bytes = refl
length-with_bytes (b ∷ new) at bytes =
    length-with_bytes new (suc at) (set bytes at b) ∙ length-set bytes at b

pub with_bytes-take :
    (new : List Byte) (at : ℕ) (bytes : List Byte) → IsInside (length new) at bytes
    → with_bytes new at bytes ≡ take at bytes ++ new ++ drop (at + length new) bytes
with_bytes-take [] at bytes inside = grind (arith, common_steps)
with_bytes-take (b ∷ new) at bytes inside =
    let within : at < length bytes = omega arith in
    let e : suc at + length new ≡ at + suc (length new) = omega arith in
    let room : suc at + length new ≤ length (set bytes at b) = omega (arith, length-set bytes at b) in
    with_bytes-take new (suc at) (set bytes at b) room
    ∙ rw (take-suc-set bytes at b within, drop-set-lt (suc at + length new) bytes at b (omega arith), e) (grind (arith, common_steps))

pub byte_at-with_bytes_other :
    (new : List Byte) (at i : ℕ) (bytes : List Byte) → (i < at) ⊎ (at + length new ≤ i)
    → byte_at (with_bytes new at bytes) i ≡ byte_at bytes i
byte_at-with_bytes_other [] at i bytes beside = refl
byte_at-with_bytes_other (b ∷ new) at i bytes (inl before) =
    let other : i ≢ at = omega arith in
    byte_at-with_bytes_other new (suc at) i (set bytes at b) (inl (omega arith))
    ∙ get_or-set_other bytes at i b B.Undefined other
byte_at-with_bytes_other (b ∷ new) at i bytes (inr behind) =
    let other : i ≢ at = omega arith in
    byte_at-with_bytes_other new (suc at) i (set bytes at b) (inr (omega arith))
    ∙ get_or-set_other bytes at i b B.Undefined other

pub byte_at-with_bytes :
    (new : List Byte) (at i : ℕ) (bytes : List Byte) → IsInside (length new) at bytes → i < length new
    → byte_at (with_bytes new at bytes) (at + i) ≡ byte_at new i
byte_at-with_bytes [] at i bytes inside below = absurd (omega arith)
byte_at-with_bytes (b ∷ new) at zero bytes inside below =
    let e : at + 0 ≡ at = omega arith in
    ap (byte_at (with_bytes new (suc at) (set bytes at b))) e
    ∙ byte_at-with_bytes_other new (suc at) at (set bytes at b) (inl (omega arith))
    ∙ get_or-set_same bytes at b B.Undefined (omega arith)
byte_at-with_bytes (b ∷ new) at (suc i) bytes inside below =
    let e : at + suc i ≡ suc at + i = omega arith in
    let room : suc at + length new ≤ length (set bytes at b) = omega (arith, length-set bytes at b) in
    ap (byte_at (with_bytes new (suc at) (set bytes at b))) e
    ∙ byte_at-with_bytes new (suc at) i (set bytes at b) room (omega arith)

pub bytes_from-with_bytes :
    (new : List Byte) (at : ℕ) (bytes : List Byte) → IsInside (length new) at bytes
    → bytes_from (length new) at (with_bytes new at bytes) ≡ new
bytes_from-with_bytes [] at bytes inside = refl
bytes_from-with_bytes (b ∷ new) at bytes inside =
    let room : suc at + length new ≤ length (set bytes at b) = omega (arith, length-set bytes at b) in
    let head : byte_at (with_bytes new (suc at) (set bytes at b)) at ≡ b =
    byte_at-with_bytes_other new (suc at) at (set bytes at b) (inl (omega arith))
    ∙ get_or-set_same bytes at b B.Undefined (omega arith) in
    let tail : bytes_from (length new) (suc at) (with_bytes new (suc at) (set bytes at b)) ≡ new =
    bytes_from-with_bytes new (suc at) (set bytes at b) room in
    cc

pub bytes_from-with_bytes_beside :
    (n from : ℕ) (new : List Byte) (at : ℕ) (bytes : List Byte)
    → (from + n ≤ at) ⊎ (at + length new ≤ from)
    → bytes_from n from (with_bytes new at bytes) ≡ bytes_from n from bytes
bytes_from-with_bytes_beside zero from new at bytes beside = refl
bytes_from-with_bytes_beside (suc n) from new at bytes (inl before) =
    let head : byte_at (with_bytes new at bytes) from ≡ byte_at bytes from =
    byte_at-with_bytes_other new at from bytes (inl (omega arith)) in
    let tail : bytes_from n (suc from) (with_bytes new at bytes) ≡ bytes_from n (suc from) bytes =
    bytes_from-with_bytes_beside n (suc from) new at bytes (inl (omega arith)) in
    cc
bytes_from-with_bytes_beside (suc n) from new at bytes (inr behind) =
    let head : byte_at (with_bytes new at bytes) from ≡ byte_at bytes from =
    byte_at-with_bytes_other new at from bytes (inr (omega arith)) in
    let tail : bytes_from n (suc from) (with_bytes new at bytes) ≡ bytes_from n (suc from) bytes =
    bytes_from-with_bytes_beside n (suc from) new at bytes (inr (omega arith)) in
    cc

pub with_bytes-bytes_from :
    (n at : ℕ) (bytes : List Byte) → with_bytes (bytes_from n at bytes) at bytes ≡ bytes
with_bytes-bytes_from zero at bytes = refl
with_bytes-bytes_from (suc n) at bytes =
    ap (with_bytes (bytes_from n (suc at) bytes) (suc at)) (set-get_or bytes at B.Undefined)
    ∙ with_bytes-bytes_from n (suc at) bytes
