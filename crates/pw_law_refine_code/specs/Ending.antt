-- Where the code of a part ends, and which labels keep their blocks.
use Rattle.std.specs.Prelude.{ℕ, ◌≡◌, ◌≤◌, ◌⊎◌, List, [], ◌∷◌, ◌++◌, length, Contains}
use Rattle.pw_lower.specs.declared.code.Code.{Code}
use Rattle.pw_lower.specs.Codes.{block_of_label}

-- in the block in which it began; then it has no label
pub record StaysThere (c d : Code) (own : List ℕ) : Type 0 where
  pub none : own ≡ []
  pub same : d.cur ≡ c.cur

-- in the block of its last label, which is the label of no case in it
pub record IsAtLastLabel (c d : Code) (own cased : List ℕ) : Type 0 where
  pub before : List ℕ
  pub label : ℕ
  pub last : own ≡ before ++ label ∷ []
  pub free : ¬ Contains cased label
  pub here : d.cur ≡ block_of_label c label

-- The block that is filled behind a part is the one that was filled before it, or one whose number was given out since, or
-- that of a label.
abbrev pub Ends : (c d : Code) (own cased : List ℕ) → Type 0
Ends c d own cased = StaysThere c d own ⊎ ((c.blocks ≤ d.cur) ⊎ IsAtLastLabel c d own cased)

-- There are as many labels, and those that are the labels of no case in the part keep their blocks.
pub record KeepLabels (c d : Code) (cased : List ℕ) : Type 0 where
  pub count : length d.labels ≡ length c.labels
  pub others : (l : ℕ) → ¬ Contains cased l → block_of_label d l ≡ block_of_label c l
