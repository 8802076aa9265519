-- Numbers in a memory of bytes: what is read after a store, and what a store leaves.
use Rattle.std.specs.Prelude.{ℕ, ◌≡◌, ◌+◌, ◌%◌, ◌^◌, ◌<◌, ◌≤◌, ◌⊎◌}
use Rattle.pw_run_languages.specs.Acts.{number_at, with_number, bytes_at}

-- every byte of the memory is one
abbrev pub HoldsBytes : (ℕ → ℕ) → Type 0
HoldsBytes memory = (a : ℕ) → memory a < 256

abbrev pub StoredNumbersAreRead : Type 0
StoredNumbersAreRead =
    (size v a : ℕ) (memory : ℕ → ℕ) → number_at size (with_number size v a memory) a ≡ v % 256 ^ size

abbrev pub OtherBytesStay : Type 0
OtherBytesStay =
    (size v a b : ℕ) (memory : ℕ → ℕ) → (b < a) ⊎ (a + size ≤ b) → with_number size v a memory b ≡ memory b

abbrev pub OtherNumbersStay : Type 0
OtherNumbersStay =
    (n size v a b : ℕ) (memory : ℕ → ℕ) → (b + n ≤ a) ⊎ (a + size ≤ b)
    → number_at n (with_number size v a memory) b ≡ number_at n memory b

abbrev pub OtherBytesAreListed : Type 0
OtherBytesAreListed =
    (n size v a b : ℕ) (memory : ℕ → ℕ) → (b + n ≤ a) ⊎ (a + size ≤ b)
    → bytes_at n (with_number size v a memory) b ≡ bytes_at n memory b

abbrev pub NumbersAreBounded : Type 0
NumbersAreBounded = (n a : ℕ) (memory : ℕ → ℕ) → HoldsBytes memory → number_at n memory a < 256 ^ n

abbrev pub BytesStayBytes : Type 0
BytesStayBytes = (size v a : ℕ) (memory : ℕ → ℕ) → HoldsBytes memory → HoldsBytes (with_number size v a memory)
