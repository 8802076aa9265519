-- Where tokens stand, and where what is wrong stands.
use Rattle.std.specs.Prelude.{◌≡◌, ℕ, ◌≤◌, All, List, [], ◌∷◌}
use Rattle.pw_cpp_expand.specs.Lookahead.{Lexeme}
use Rattle.pw_cpp_expand.specs.declared.progress.ExpandFault.{ExpandFault}
use Rattle.pw_cpp_expand.specs.declared.progress.ExpandFault.TheVariants as no
use Rattle.pw_cpp_expand.specs.declared.progress.Progress.{Progress}

-- ---- in order

-- places in their order, from a bound on up to another
abbrev pub Ascends : ℕ → List ℕ → ℕ → Type 0
Ascends low [] high = low ≤ high
Ascends low (place ∷ places) high = (low ≤ place) × Ascends place places high

-- tokens in the order of their places
abbrev pub StandBetween : ℕ → List Lexeme → ℕ → Type 0
StandBetween low [] high = low ≤ high
StandBetween low (t ∷ ts) high = (low ≤ t.place) × StandBetween t.place ts high

-- this is the first of the places
abbrev pub FirstIs : ℕ → List ℕ → Type 0
FirstIs first [] = ⊥
FirstIs first (place ∷ places) = place ≡ first

-- the lines that were read are in the order of their places, the first at this one and all before the next line
abbrev pub AreReadFrom : ℕ → Progress → Type 0
AreReadFrom first p = FirstIs first p.rows × Ascends first p.rows p.next

-- ---- within bounds

abbrev pub IsWithin : ℕ → ℕ → Lexeme → Type 0
IsWithin low high t = (low ≤ t.place) × (t.place ≤ high)

-- want of memory has no place
abbrev pub IsFaultWithin : ℕ → ℕ → ExpandFault → Type 0
IsFaultWithin low high (no.Lex at) = (low ≤ at) × (at ≤ high)
IsFaultWithin low high (no.Call at) = (low ≤ at) × (at ≤ high)
IsFaultWithin low high (no.Produced at) = (low ≤ at) × (at ≤ high)
IsFaultWithin low high (no.Length at) = (low ≤ at) × (at ≤ high)
IsFaultWithin low high no.NoMemory = Unit {0}
