-- What a source gives and a sink takes. Each tells a list of bytes, or `None` where it tells nothing.
use Rattle.std.specs.Prelude.{◌≡◌, ℕ, ◌<◌, List, [], ◌∷◌, ◌++◌, length, take, Option, Some, None, IfSome, IsSomeAnd, Result, Ok, Err}
use Rattle.pw_io.specs.declared.Failed.{Failed}

-- A source with this rest answered so, and tells `new` now.
abbrev pub TakesFrom : List ℕ → Option (List ℕ) → Result (Option ℕ) Failed → Type 0
TakesFrom rest new (Ok (Some byte)) = IsSomeAnd new (λ later. rest ≡ byte ∷ later)
TakesFrom rest new (Ok None) = (rest ≡ []) × (new ≡ Some [])
TakesFrom rest new (Err _) = new ≡ Some rest

-- The answer is the first byte of the rest, which is taken, or `None` where the rest is empty; after
-- a fault the rest is as before. A source that tells goes on telling.
abbrev pub TakesNext : Option (List ℕ) → Option (List ℕ) → Result (Option ℕ) Failed → Type 0
TakesNext old new result = IfSome old (λ rest. TakesFrom rest new result)

-- The piece was appended to what was taken. Said of a sink that tells after the call: it told before.
abbrev pub Appends : Option (List ℕ) → Option (List ℕ) → List ℕ → Type 0
Appends old new piece = IfSome new (λ after. IsSomeAnd old (λ before. after ≡ before ++ piece))

-- A proper prefix of the piece was appended, which may be empty.
abbrev pub AppendsPart : Option (List ℕ) → Option (List ℕ) → List ℕ → Type 0
AppendsPart old new piece =
    IfSome new (λ after. IsSomeAnd old (λ before. (n : ℕ) × (n < length piece) × (after ≡ before ++ take n piece)))
