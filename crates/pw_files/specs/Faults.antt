-- On which bytes a fault rests: those up to the faulty field's end.
use Rattle.std.specs.Prelude.{◌≡◌, ◌⊎◌, ℕ, ◌+◌, ◌≤◌, List, length, take, drop, Option, None, Result, Ok, Err}
use Rattle.std.specs.Int.{w32, from_be_bytes}
use Rattle.pw_fields.specs.FieldFrame.{opened_at, placed}
use Rattle.pw_files.specs.Contents.{Contents, FieldsReader, contents_at}

-- how many bytes belong to the field that begins here: one, four, eight, or a text's count and its bytes
abbrev pub IsFieldLength : List ℕ → ℕ → Type 0
IsFieldLength bytes n = (n ≡ 1) ⊎ ((n ≡ 4) ⊎ ((n ≡ 8) ⊎ ((n ≡ 4 + from_be_bytes w32 (take 4 bytes)) × (n ≤ length bytes))))

-- whatever follows the field that begins at the offset: other bytes of the same length that agree up to the
-- field's end, where this holds of them, have the same fault
pub record StaysFault {X : Type 0} (Holds : List ℕ → Type 0) (read : List ℕ → Result X ℕ) (bytes : List ℕ) (at : ℕ) : Type 0 where
  pub count : ℕ
  pub field : IsFieldLength (drop at bytes) count
  pub same : (others : List ℕ) → length others ≡ length bytes → take (at + count) others ≡ take (at + count) bytes → Holds others → read others ≡ Err at

-- of whatever bytes
abbrev pub Anything : List ℕ → Type 0
Anything bytes = Unit {0}

-- this holds of the payload, where the header is lawful
abbrev pub OfPayload : ℕ → ℕ → ℕ → (List ℕ → Type 0) → List ℕ → Type 0
OfPayload kind first last Holds bytes = (o : ℕ × List ℕ × ℕ) → opened_at kind first last bytes ≡ Ok o → Holds o.1

-- ---- the fields of a file, without the rules that are looked at last and without the digest

abbrev pub no_rule : {V : Type 0} → List (List ℕ) → ℕ → V → ℕ → Option ℕ
no_rule names behind v count = None

abbrev pub unsealed : {X : Type 0} → (ℕ → List ℕ → Result (X × List ℕ) ℕ) → Result (ℕ × List ℕ × ℕ) ℕ → Result X ℕ
unsealed payload (Ok o) = placed o.2 (payload o.0 o.1)
unsealed payload (Err at) = Err at

abbrev pub fields_file_at : {V : Type 0} → ℕ → ℕ → ℕ → (ℕ → FieldsReader V) → List ℕ → Result (Contents V) ℕ
fields_file_at kind first last fields bytes = unsealed (λ version. contents_at (fields version) no_rule) (opened_at kind first last bytes)

-- A fault lies within the bytes. A fault of the fields is the file's, and rests on the bytes up to the
-- faulty field's end.
pub record FaultsStay {V : Type 0} (kind first last : ℕ) (fields : ℕ → FieldsReader V) (read : List ℕ → Result V ℕ) : Type 0 where
  pub within : (bytes : List ℕ) (at : ℕ) → read bytes ≡ Err at → at ≤ length bytes
  pub stays : (bytes : List ℕ) (at : ℕ) → fields_file_at kind first last fields bytes ≡ Err at → (read bytes ≡ Err at) × StaysFault Anything read bytes at

-- The same of bytes that are a payload alone, without a header and a digest.
pub record PayloadFaultsStay {V : Type 0} (fields : FieldsReader V) (read : List ℕ → Result V ℕ) : Type 0 where
  pub within : (bytes : List ℕ) (at : ℕ) → read bytes ≡ Err at → at ≤ length bytes
  pub stays : (bytes : List ℕ) (at : ℕ) → placed (length bytes) (contents_at fields no_rule bytes) ≡ Err at → (read bytes ≡ Err at) × StaysFault Anything read bytes at
