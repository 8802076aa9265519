-- Items that stand at rising offsets inside an object of so many bytes.
use Rattle.std.specs.Prelude.{ℕ, ◌+◌, ◌&&◌, nat_le, List, length, Result}
use Rattle.pw_fields.specs.Fields.{checked, u32_at, text_at}

-- the offset of an item, from the first free byte to the object's size
abbrev pub offset_at : ℕ → ℕ → List ℕ → Result (ℕ × List ℕ) ℕ
offset_at size free = checked (λ o. nat_le free o && nat_le o size) u32_at

-- the bytes of an item at the offset, inside the object
abbrev pub item_bytes_at : ℕ → ℕ → List ℕ → Result (List ℕ × List ℕ) ℕ
item_bytes_at size offset = checked (λ b. nat_le (offset + length b) size) text_at
