-- On which bytes a fault of an image file rests.
use Rattle.std.specs.Prelude.{◌≡◌, ℕ, ◌+◌, ◌≤◌, true, false, List, length, take, Result, Ok, Err, None}
use Rattle.pw_fields.specs.Fields.{◌>>=◌, u32_at, repeated}
use Rattle.pw_fields.specs.FieldFrame.{ended, header_size, opened_at}
use Rattle.pw_fields.specs.FieldNames.{names_at}
use Rattle.pw_files.specs.Faults.{Anything, OfPayload, StaysFault, unsealed}
use Rattle.pw_image.specs.declared.image.Image.{Image}
use Rattle.pw_image.specs.Image.{Contents, kind, image_version}
use Rattle.pw_image.specs.Reading.{memory_at, function_at, global_at, start_at, is_lawful_start, image_at}

-- the fields of an image's payload, without the rules on several of them: that the entry is the address of a word, and
-- that each name of the table is used
unfoldable pub fields_at : List ℕ → Result (Contents Image × List ℕ) ℕ
fields_at = do
  memory ← memory_at
  names ← names_at
  function_count ← u32_at
  functions ← repeated (function_at names (length memory.words)) function_count
  global_count ← u32_at
  globals ← repeated (global_at names) global_count
  ended None (record { names = names; value = record { memory = memory; functions = functions; globals = globals } })

-- the entry is the address of a word
abbrev pub HasEntry : List ℕ → Type 0
HasEntry payload = is_lawful_start (start_at payload) ≡ true

-- the header is lawful, and the entry is no address of a word
abbrev pub LacksEntry : List ℕ → Type 0
LacksEntry bytes = (o : ℕ × List ℕ × ℕ) × (opened_at kind image_version image_version bytes ≡ Ok o) × (is_lawful_start (start_at o.1) ≡ false)

-- The entry stands behind the header; behind it the stack and its end, and then the count of words, each in four bytes, up to
-- whose end stands what decides whether the entry is the address of a word.
abbrev pub entry_place : ℕ
entry_place = header_size

abbrev pub count_place : ℕ
count_place = entry_place + 12

abbrev pub count_end : ℕ
count_end = count_place + 4

-- A fault lies within the bytes. Where the entry is the address of a word, a fault of the fields is the file's, and rests on
-- the bytes up to the faulty field's end: of whatever other bytes from the count of words on, and before it of those whose
-- entry is the address of a word. An entry that is none is the file's fault, and rests on the bytes up to the count's end.
pub record ImageFaultsStay : Type 0 where
  pub within : (bytes : List ℕ) (at : ℕ) → image_at bytes ≡ Err at → at ≤ length bytes
  pub stays : (bytes : List ℕ) (at : ℕ) → unsealed (λ version. fields_at) (opened_at kind image_version image_version bytes) ≡ Err at → OfPayload kind image_version image_version HasEntry bytes
      → (image_at bytes ≡ Err at) × StaysFault (OfPayload kind image_version image_version HasEntry) image_at bytes at
  pub later : (bytes : List ℕ) (at : ℕ) → count_place ≤ at → unsealed (λ version. fields_at) (opened_at kind image_version image_version bytes) ≡ Err at → OfPayload kind image_version image_version HasEntry bytes
      → StaysFault Anything image_at bytes at
  pub entry : (bytes : List ℕ) → LacksEntry bytes
      → (image_at bytes ≡ Err entry_place) × ((others : List ℕ) → length others ≡ length bytes → take count_end others ≡ take count_end bytes → image_at others ≡ Err entry_place)
