-- How the text of a database is gathered: the webs in a map, and their uses in the order of the webs' numbers.
use Rattle.std.specs.Prelude.{◌≡◌, ℕ, ◌==◌, Bool, List, [], ◌∷◌, ◌++◌, map, filter, take, drop}
use Rattle.std.specs.Borrow.{Bor}
use Rattle.std.specs.List.{prefix_len}
use Rattle.std.specs.List.Sorted.{IsNonDecreasingBy}
use Rattle.std.specs.Ordering.{nat_cmp}
use Rattle.std.specs.BTreeMap.{insert_entry}
use Rattle.pw_db.specs.declared.database.Web.{Web}
use Rattle.pw_list.specs.declared.database.Use.{Use}
use Rattle.pw_list.specs.DatabaseText.{web_line}

-- ---- what the code's values stand for

-- the use of a web, and the function's name
abbrev pub use_view : Use → ℕ × List ℕ
use_view u = (u.id, u.function.now)

-- a web beside its number
abbrev pub entry_view : ℕ × Bor Web → ℕ × Web
entry_view e = (e.0, e.1.now)

-- ---- the webs

-- with one more web, which stands for the others of its number
abbrev pub with_entry : List (ℕ × Web) → Web → List (ℕ × Web)
with_entry es w = insert_entry nat_cmp es w.id w

-- ---- uses in the order of the webs' numbers

abbrev pub is_of : ℕ → ℕ × List ℕ → Bool
is_of id u = u.0 == id

-- the uses in the order of the numbers, those of one number as they stood
pub record IsByNumber (all ordered : List (ℕ × List ℕ)) : Type 0 where
  pub rising : IsNonDecreasingBy (λ u. u.0) ordered
  pub each : (id : ℕ) → filter (is_of id) ordered ≡ filter (is_of id) all

-- the uses of a web at the beginning, and those behind them
abbrev pub prefix_of : ℕ → List (ℕ × List ℕ) → List (ℕ × List ℕ)
prefix_of id us = take (prefix_len (is_of id) us) us

abbrev pub behind : ℕ → List (ℕ × List ℕ) → List (ℕ × List ℕ)
behind id us = drop (prefix_len (is_of id) us) us

abbrev pub names_of : List (ℕ × List ℕ) → List (List ℕ)
names_of us = map (λ u. u.1) us

-- each web's line, with its uses taken off the beginning
abbrev pub lines_from : List Web → List (ℕ × List ℕ) → List (ℕ × List ℕ) → List ℕ
lines_from [] entries members = []
lines_from (w ∷ webs) entries members =
    web_line w (names_of (prefix_of w.id entries)) (names_of (prefix_of w.id members))
    ++ lines_from webs (behind w.id entries) (behind w.id members)
