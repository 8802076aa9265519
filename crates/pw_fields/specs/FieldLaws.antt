-- When a reader and a spelling belong together.
use Rattle.std.specs.Prelude.{◌≡◌, ℕ, ◌<◌, List, [], ◌++◌, Result, Ok, slice_index}

-- numbers that a byte can hold
abbrev pub AreBytes : List ℕ → Type 0
AreBytes bytes = (i : ℕ) → slice_index bytes i < 256

-- What is read is spelled so and has a spelling, and what is spelled so is read again, whatever follows.
pub record Spells {X : Type 0} (spelling : X → List ℕ) (Fits : X → Type 0) (read : List ℕ → Result (X × List ℕ) ℕ) : Type 0 where
  pub takes : (bytes : List ℕ) (x : X) (rest : List ℕ) → AreBytes bytes → read bytes ≡ Ok (x, rest) → (bytes ≡ spelling x ++ rest) × Fits x
  pub again : (x : X) (rest : List ℕ) → Fits x → read (spelling x ++ rest) ≡ Ok (x, rest)

-- The same of a payload, which is read to its end.
pub record SpellsWhole {X : Type 0} (spelling : X → List ℕ) (Fits : X → Type 0) (read : List ℕ → Result (X × List ℕ) ℕ) : Type 0 where
  pub takes : (bytes : List ℕ) (x : X) (rest : List ℕ) → AreBytes bytes → read bytes ≡ Ok (x, rest) → (bytes ≡ spelling x) × Fits x
  pub again : (x : X) → Fits x → read (spelling x) ≡ Ok (x, [])
