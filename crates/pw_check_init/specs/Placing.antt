-- The part that an initialiser without braces comes to, and whether a string initialises it whole.
use Rattle.std.specs.Prelude.{Bool, false, List, []}
use Rattle.pw_types.specs.TypeTrees.{CType, RecordValue}
use Rattle.pw_check_walk.specs.Causes.{InitialiserCount}
use Rattle.pw_check_walk.specs.Walks.{granted, asks, ◌>>=◌}
use Rattle.pw_check_rules.specs.States.{Rule, records_in}
use Rattle.pw_check_rules.specs.Initialisers.{Context, Cursor, Reached, StringForm, IsOther, IsString, meets_characters, reach}

unfoldable pub reached_rule : Context → (CType → Bool) → Cursor → Rule Reached
reached_rule cx takes cursor = asks records_in >>= λ records. granted InitialiserCount cx.token [] (reach records takes cursor)

abbrev pub comes_whole : List RecordValue → Cursor → StringForm → Bool
comes_whole records cursor IsOther = false
comes_whole records cursor (IsString ws) = meets_characters records cursor
