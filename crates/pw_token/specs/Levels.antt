-- The open levels that a fixed place holds.
use Rattle.std.specs.Prelude.{◌≡◌, ◌≤◌, ◌+◌, ℕ, zero, suc, List, [], ◌∷◌, slice_index_or, length}
use Rattle.pw_token.specs.Limits.{nest_limit}
use Rattle.pw_token.specs.Nesting.{nest_of}
use Rattle.pw_token.specs.declared.levels.Level.{Level}
use Rattle.pw_token.specs.declared.levels.Levels.{Levels}
use Rattle.pw_token.specs.declared.levels.Opener.TheVariants as opener

abbrev pub text_level : Level
text_level = record { opener = opener.Text; expressions = 0; controls = 0 }

-- How many levels stand outside the innermost one at most, and how far their nesting goes: a token is still taken where
-- the nesting is one above the limit, and a token adds at most one.
abbrev pub level_room : ℕ
level_room = nest_limit + 2

-- the first n of a list, the last first
abbrev pub outers : List Level → ℕ → List Level
outers xs zero = []
outers xs (suc n) = slice_index_or xs n text_level ∷ outers xs n

-- the open levels, the innermost first
abbrev pub levels_of : Levels → List Level
levels_of s = s.innermost ∷ outers s.outer s.depth

-- The outermost level is the text.
abbrev pub IsGrounded : List Level → Type 0
IsGrounded [] = ⊥
IsGrounded (l ∷ []) = l.opener ≡ opener.Text
IsGrounded (l ∷ m ∷ ls) = IsGrounded (m ∷ ls)

pub record IsSound (s : Levels) : Type 0 where
  pub nest : s.nest ≡ nest_of (levels_of s)
  pub grounded : IsGrounded (levels_of s)
  pub small : s.nest ≤ level_room
  pub room : length s.outer ≡ level_room
