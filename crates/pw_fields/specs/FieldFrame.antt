-- A whole file: its kind, its length, its version, the payload, and the SHA-256 digest of all that.
use Rattle.std.specs.Prelude.{◌≡◌, ℕ, ◌+◌, ◌-◌, ◌<◌, ◌≤◌, ◌^◌, List, [], ◌∷◌, ◌++◌, length, take, drop, Option, Some, None, Result, Ok, Err, nat_le, ◌==◌, ◌&&◌, Bool, if◌then◌else◌}
use Rattle.std.specs.Str.{bytes_eq}
use Rattle.sha2.specs.Sha256.{sha256}
use Rattle.pw_fields.specs.Fields.{◌>>=◌, done, checked, u32_at, u32}

-- ---- the end of a payload

-- how many bytes are left
abbrev pub here : List ℕ → Result (ℕ × List ℕ) ℕ
here bytes = Ok (length bytes, bytes)

-- A payload is read to its end: bytes left over are a fault at the first of them. The rules on the
-- whole value are looked at only after that; the first of them that is broken has its place.
abbrev pub ended : {X : Type 0} → Option ℕ → X → List ℕ → Result (X × List ℕ) ℕ
ended late x (b ∷ rest) = Err (length (b ∷ rest))
ended (Some left) x [] = Err left
ended None x [] = Ok (x, [])

-- ---- the frame

-- the fields before the payload, whose value is the version: the kind's number, the count of all the
-- file's bytes, and a version from the first to the last that is known
abbrev pub header_at : ℕ → ℕ → ℕ → ℕ → List ℕ → Result (ℕ × List ℕ) ℕ
header_at kind first last total = do
  k ← checked (λ k. k == kind) u32_at
  n ← checked (λ n. n == total) u32_at
  v ← checked (λ v. nat_le first v && nat_le v last) u32_at
  done v

-- bytes of a SHA-256 digest
abbrev pub digest_size : ℕ
digest_size = 32

-- the payload ends where the digest begins: the last bytes, or fewer where there are fewer
abbrev pub payload_of : List ℕ → List ℕ
payload_of rest = take (length rest - digest_size) rest

abbrev pub digest_of : List ℕ → List ℕ
digest_of rest = drop (length rest - digest_size) rest

-- a file whose header is lawful: its version, its payload, and the offset at which the digest begins;
-- or the offset of the faulty field
abbrev pub opened : ℕ → Result (ℕ × List ℕ) ℕ → Result (ℕ × List ℕ × ℕ) ℕ
opened total (Ok v) = Ok (v.0, payload_of v.1, total - length (digest_of v.1))
opened total (Err left) = Err (total - left)

unfoldable pub opened_at : ℕ → ℕ → ℕ → List ℕ → Result (ℕ × List ℕ × ℕ) ℕ
opened_at kind first last bytes = opened (length bytes) (header_at kind first last (length bytes) bytes)

-- a field's offset is the offset of the end less the bytes that are left
abbrev pub placed : {X : Type 0} → ℕ → Result (X × List ℕ) ℕ → Result X ℕ
placed end (Ok x) = Ok x.0
placed end (Err left) = Err (end - left)

-- the digest is that of all bytes before it
abbrev pub is_sealed : List ℕ → ℕ → Bool
is_sealed bytes end = bytes_eq (sha256 (take end bytes)) (drop end bytes)

abbrev pub sealed : {X : Type 0} → List ℕ → ℕ → Result X ℕ → Result X ℕ
sealed bytes end (Ok x) = if is_sealed bytes end then Ok x else Err end
sealed bytes end (Err at) = Err at

abbrev pub framed : {X : Type 0} → (ℕ → List ℕ → Result (X × List ℕ) ℕ) → List ℕ → Result (ℕ × List ℕ × ℕ) ℕ → Result X ℕ
framed payload bytes (Ok o) = sealed bytes o.2 (placed o.2 (payload o.0 o.1))
framed payload bytes (Err at) = Err at

-- the file's value, or the offset of the first faulty field
unfoldable pub file_at : {X : Type 0} → ℕ → ℕ → ℕ → (ℕ → List ℕ → Result (X × List ℕ) ℕ) → List ℕ → Result X ℕ
file_at kind first last payload bytes = framed payload bytes (opened_at kind first last bytes)

-- ---- the spelling of a file

-- bytes of the three numbers before the payload
abbrev pub header_size : ℕ
header_size = 12

-- bytes of a file besides its payload: the numbers before it, and the digest
abbrev pub frame_size : ℕ
frame_size = header_size + digest_size

unfoldable pub before_digest : ℕ → ℕ → List ℕ → List ℕ
before_digest kind version payload = u32 kind ++ (u32 (frame_size + length payload) ++ (u32 version ++ payload))

unfoldable pub file : ℕ → ℕ → List ℕ → List ℕ
file kind version payload = before_digest kind version payload ++ sha256 (before_digest kind version payload)

-- a payload that a file can hold
abbrev pub FitsFile : List ℕ → Type 0
FitsFile payload = frame_size + length payload < 2 ^ 32

-- the bytes are a file of the value, in one of the versions from first to last
pub record IsFileOf {X : Type 0} (kind first last : ℕ) (spelling : ℕ → X → List ℕ) (Fits : ℕ → X → Type 0) (bytes : List ℕ) (x : X) : Type 0 where
  pub version : ℕ
  pub not_below : first ≤ version
  pub not_above : version ≤ last
  pub fits : Fits version x
  pub room : FitsFile (spelling version x)
  pub spelled : bytes ≡ file kind version (spelling version x)

-- ---- a payload of whatever bytes

abbrev pub any_payload : ℕ → List ℕ → Result (List ℕ × List ℕ) ℕ
any_payload version bytes = Ok (bytes, [])

abbrev pub any_spelling : ℕ → List ℕ → List ℕ
any_spelling version bytes = bytes

abbrev pub FitsAny : ℕ → List ℕ → Type 0
FitsAny version bytes = Unit {0}
