-- Lists of initialisers, where those in braces stand one within another: what is left of each.
use Rattle.std.specs.Prelude.{ℕ, ◌+◌, Bool, true, false, ◌&&◌, List, [], ◌∷◌}
use Rattle.pw_tree.specs.Trees.{Expr, Init, Inits, Word}
use Rattle.pw_tree.specs.Trees as S
use Rattle.pw_types.specs.TypeTrees.{RecordValue, type_of}
use Rattle.pw_check_walk.specs.Walks.{pure, asks, ◌>>=◌}
use Rattle.pw_check_rules.specs.Leaves.{is_nil}
use Rattle.pw_check_rules.specs.States.{Rule, records_in}
use Rattle.pw_check_rules.specs.Initialisers.{Context, Cursor, Target, Filled, braced_string, braced_target, fills_characters, frame_of, inits_rule, listed_form, passed, string_filled, string_form, words_in}

-- a list around: what of it stands behind the list in braces, and where it goes on behind the part that this is for
pub record Around : Type 0 where
  pub items : Inits
  pub cursor : Cursor

-- what is left of the list that is read, the lists around it, the innermost first, and what was given so far
pub record Reading : Type 0 where
  pub items : Inits
  pub outer : List Around
  pub cursor : Cursor
  pub filled : Filled

-- what is left, and then what stands around
unfoldable pub lists_rule : List Around → Context → Inits → Cursor → Filled → Rule (Cursor × Filled)
lists_rule [] cx is cursor filled = inits_rule is cx cursor filled
lists_rule (l ∷ outer) cx is cursor filled =
    inits_rule is cx cursor filled >>= λ r.
    asks records_in >>= λ records.
    lists_rule outer cx l.items (passed records l.cursor) r.1

abbrev pub reading_rule : Context → Reading → Rule (Cursor × Filled)
reading_rule cx x = lists_rule x.outer cx x.items x.cursor x.filled

-- ---- one turn

-- behind a list in braces: the list around goes on
abbrev pub behind_list : List RecordValue → Around → List Around → Filled → Reading
behind_list records l outer filled = record { items = l.items; outer = outer; cursor = passed records l.cursor; filled = filled }

-- into a list in braces for this part
abbrev pub inward : Around → List Around → Filled → Target → Inits → Reading
inward l outer filled t is = record { items = is; outer = l ∷ outer; cursor = frame_of t ∷ []; filled = filled }

abbrev pub outward_of : List RecordValue → Reading → List Around → Reading
outward_of records x [] = x
outward_of records x (l ∷ outer) = behind_list records l outer x.filled

-- behind the list that is read
abbrev pub outward : List RecordValue → Reading → Reading
outward records x = outward_of records x x.outer

-- behind an expression
unfoldable pub value_turn : Context → Reading → Expr → Inits → Rule Reading
value_turn cx x e rest =
    listed_form cx x.cursor x.filled e (string_form e) >>= λ r.
    pure (record { items = rest; outer = x.outer; cursor = r.0; filled = r.1 })

-- the list around, at this place of it
abbrev pub around_at : Reading → Inits → Around
around_at x rest = record { items = rest; cursor = x.cursor }

-- behind a list in braces that is one string for an array of characters
unfoldable pub string_turn : Context → List Word → Around → List Around → Target → Filled → Rule Reading
string_turn cx ws l outer t filled =
    string_filled cx ws t filled >>= λ more.
    asks records_in >>= λ records.
    pure (behind_list records l outer more)

unfoldable pub entered_turn : Bool → Context → Reading → Target → Inits → Inits → Rule Reading
entered_turn true cx x t is rest = string_turn cx (words_in (braced_string is)) (around_at x rest) x.outer t x.filled
entered_turn false cx x t is rest = pure (inward (around_at x rest) x.outer x.filled t is)

unfoldable pub braces_turn : Context → Reading → Inits → Inits → Rule Reading
braces_turn cx x is rest =
    braced_target cx x.cursor >>= λ t.
    entered_turn (fills_characters (type_of t.ty) (braced_string is)) cx x t is rest

unfoldable pub item_turn : Context → Reading → Init → Inits → Rule Reading
item_turn cx x (S.Value e) rest = value_turn cx x e rest
item_turn cx x (S.Braces token is trailing) rest = braces_turn cx x is rest

unfoldable pub turn_of : Inits → Context → Reading → Rule Reading
turn_of S.NoInit cx x = asks records_in >>= λ records. pure (outward records x)
turn_of (S.Listed i rest) cx x = item_turn cx x i rest

abbrev pub turn_rule : Context → Reading → Rule Reading
turn_rule cx x = turn_of x.items cx x

-- ---- how much is left

abbrev mutual
  pub count_of_init : Init → ℕ
  count_of_init (S.Value e) = 1
  count_of_init (S.Braces token is trailing) = 2 + count_of_inits is

  pub count_of_inits : Inits → ℕ
  count_of_inits S.NoInit = 0
  count_of_inits (S.Listed i rest) = count_of_init i + count_of_inits rest

abbrev pub count_around : List Around → ℕ
count_around [] = 0
count_around (l ∷ outer) = 1 + count_of_inits l.items + count_around outer

abbrev pub left_of : Reading → ℕ
left_of x = count_of_inits x.items + count_around x.outer

abbrev pub is_none_left : Inits → Bool
is_none_left S.NoInit = true
is_none_left (S.Listed i rest) = false

-- nothing is left
abbrev pub is_over : Reading → Bool
is_over x = is_none_left x.items && is_nil x.outer
