-- Bytes of objects as they stand in memory, and what loads and stores of scalars do to them.
use Rattle.std.specs.Prelude.{ℕ, true, ◌≡◌, ◌+◌, ◌^◌, ◌<◌, ◌≤◌, ◌⊎◌, List, [], ◌∷◌, length}
use Rattle.pw_value.specs.declared.value.Kind.{Kind}
use Rattle.pw_value.specs.declared.value.Kind.TheVariants.{S8, U8, S16, U16, W32}
use Rattle.pw_value.specs.declared.value.Value.{Value}
use Rattle.pw_value.specs.declared.value.Byte.{Byte}
use Rattle.pw_value.specs.declared.value.Pointer.{Pointer}
use Rattle.pw_value.specs.Objects.{bytes_from, with_bytes}
use Rattle.pw_value.specs.Values.{encoding}
use Rattle.pw_flow.specs.ValidFlow.{kind_size}
use Rattle.pw_inst.specs.Computing.{extracted, sign_extended}
use Rattle.pw_run.specs.Runs.{AreAlike}
use Rattle.pw_run_languages.specs.Memory.{scalar_of, may_stand}
use Rattle.pw_run_languages.specs.Acts.{number_at, with_number, bytes_at}
use Rattle.pw_run_languages.specs.Standing.{ByteStands, ValueStands}
use Rattle.pw_law_select_memory.specs.Numbers.{HoldsBytes}

-- the bytes stand in memory from an address on
abbrev pub BytesStand : (Pointer → ℕ) → (ℕ → ℕ) → ℕ → List Byte → Type 0
BytesStand address memory a [] = Unit {0}
BytesStand address memory a (b ∷ bytes) = ByteStands address b (memory a) × BytesStand address memory (a + 1) bytes

-- what a scalar of a kind is in a register, by the number that its bytes write: EXTRS spreads the sign
abbrev pub word_of_kind : Kind → ℕ → ℕ
word_of_kind S8 n = sign_extended 8 (extracted n 31 8)
word_of_kind S16 n = sign_extended 16 (extracted n 31 16)
word_of_kind U8 n = n
word_of_kind U16 n = n
word_of_kind W32 n = n

-- the address of each pointer is a word
abbrev pub AreWords : (Pointer → ℕ) → Type 0
AreWords address = (q : Pointer) → address q < 2 ^ 32

-- a word that is stored leaves the bytes of each value for which it stands
abbrev pub StoredValuesStand : Type 0
StoredValuesStand =
    (address : Pointer → ℕ) (k : Kind) (v : Value) (word a : ℕ) (memory : ℕ → ℕ) → may_stand k v ≡ true → ValueStands address v word
    → BytesStand address (with_number (kind_size k) word a memory) a (encoding v (kind_size k))

-- a word that is loaded stands for the value of the bytes
abbrev pub LoadedValuesStand : Type 0
LoadedValuesStand =
    (address : Pointer → ℕ) (k : Kind) (bytes : List Byte) (a : ℕ) (memory : ℕ → ℕ) → AreWords address → HoldsBytes memory
    → length bytes ≡ kind_size k → BytesStand address memory a bytes
    → ValueStands address (scalar_of k bytes) (word_of_kind k (number_at (kind_size k) memory a))

-- part of bytes that stand stands
abbrev pub PartsStand : Type 0
PartsStand =
    (address : Pointer → ℕ) (memory : ℕ → ℕ) (n i a : ℕ) (bytes : List Byte) → i + n ≤ length bytes → BytesStand address memory a bytes
    → BytesStand address memory (a + i) (bytes_from n i bytes)

-- bytes of which some are new stand where the new ones do and memory is else as it was
abbrev pub NewBytesStand : Type 0
NewBytesStand =
    (address : Pointer → ℕ) (old memory : ℕ → ℕ) (i a : ℕ) (new bytes : List Byte) → i + length new ≤ length bytes
    → ((b : ℕ) → (b < a + i) ⊎ (a + i + length new ≤ b) → memory b ≡ old b)
    → BytesStand address memory (a + i) new → BytesStand address old a bytes → BytesStand address memory a (with_bytes new i bytes)

-- bytes stand where memory is as it was
abbrev pub OldBytesStand : Type 0
OldBytesStand =
    (address : Pointer → ℕ) (old memory : ℕ → ℕ) (a : ℕ) (bytes : List Byte)
    → ((b : ℕ) → a ≤ b → b < a + length bytes → memory b ≡ old b) → BytesStand address old a bytes → BytesStand address memory a bytes

-- bytes that stand are alike to those that memory has there
abbrev pub StandingIsAlike : Type 0
StandingIsAlike =
    (address : Pointer → ℕ) (memory : ℕ → ℕ) (a : ℕ) (bytes : List Byte) → BytesStand address memory a bytes
    → AreAlike (ByteStands address) bytes (bytes_at (length bytes) memory a)
