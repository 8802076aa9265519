-- Bytes, half words and words of a memory, big-endian: the byte at the lowest address is the highest.
use Rattle.std.specs.Prelude.{ℕ, ◌+◌, ◌*◌, ◌/◌, ◌%◌, ◌^◌, List, [], ◌∷◌, ◌++◌, length, take, drop, replicate, slice_index, slice_set}
use Rattle.std.specs.Int.{to_be_bytes, w32}

abbrev pub byte_at : List ℕ → ℕ → ℕ
byte_at memory a = slice_index memory a

abbrev pub half_at : List ℕ → ℕ → ℕ
half_at memory a = byte_at memory a * 2 ^ 8 + byte_at memory (a + 1)

abbrev pub word_at : List ℕ → ℕ → ℕ
word_at memory a = half_at memory a * 2 ^ 16 + half_at memory (a + 2)

-- the memory after the low byte, the low half word or the whole of a word is stored at an address

abbrev pub with_byte : List ℕ → ℕ → ℕ → List ℕ
with_byte memory a value = slice_set memory a (value % 2 ^ 8)

abbrev pub with_half : List ℕ → ℕ → ℕ → List ℕ
with_half memory a value = with_byte (with_byte memory a (value / 2 ^ 8)) (a + 1) value

abbrev pub with_word : List ℕ → ℕ → ℕ → List ℕ
with_word memory a value = with_half (with_half memory a (value / 2 ^ 16)) (a + 2) value

-- n zeros
unfoldable pub zeros : ℕ → List ℕ
zeros n = replicate n 0

-- a list with bytes written over it from an address on
abbrev pub overwritten : List ℕ → ℕ → List ℕ → List ℕ
overwritten memory a bytes = take a memory ++ bytes ++ drop (a + length bytes) memory

-- the bytes of words, one word after another, the highest byte of a word first
abbrev pub bytes_of : List ℕ → List ℕ
bytes_of [] = []
bytes_of (word ∷ words) = to_be_bytes w32 word ++ bytes_of words
