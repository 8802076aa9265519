-- What a turn leads to, in items and in those with filled slots.
use Rattle.std.specs.Prelude.{ℕ, ◌≡◌, ◌++◌, Bool, true, Option, None, Some, List, length}
use Rattle.std.specs.List.{list_all}
use Rattle.pw_delay.specs.declared.items.Item.{Item}
use Rattle.pw_delay.specs.Filling.{filled}
use Rattle.pw_run_languages.specs.LineRun.{is_plain}

-- the same items with their slots filled, or none in both
abbrev pub AreFoundAlike : Option (List Item) → Option (List Item) → Type 0
AreFoundAlike None None = Unit {0}
AreFoundAlike (Some items) (Some others) = (behind : Bool) × (others ≡ filled behind items)
AreFoundAlike _ _ = ⊥

-- so many words that stand directly before a branch, over which it goes back
pub record GoesOver (before here from : List Item) (n : ℕ) : Type 0 where
  pub start : List Item
  pub words : List Item
  pub parts : before ≡ start ++ words
  pub from_is : from ≡ words ++ here
  pub count : length words ≡ n
  pub plain : list_all is_plain words ≡ true
