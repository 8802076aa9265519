-- Moves of an address within an object of static lifetime.
use Rattle.std.specs.Prelude.{ℕ, ◌<◌, Bool, if◌then◌else◌, List, [], ◌∷◌, Option, None, option_map, option_and_then, unwrap_or}
use Rattle.pw_types.specs.TypeTrees.{RecordValue}
use Rattle.pw_types.specs.TypedTrees.{Expression, Form}
use Rattle.pw_types.specs.TypedTrees as T
use Rattle.pw_types.specs.declared.tree.BinaryOperator.{BinaryOperator}
use Rattle.pw_types.specs.declared.tree.BinaryOperator.TheVariants as B
use Rattle.pw_typed.specs.declared.tree.TExpr.{TExpr}
use Rattle.pw_typed.specs.declared.tree.TForm.{size-TForm}
use Rattle.pw_typed.specs.Views.{view_expr}
use Rattle.pw_check_rules.specs.Constants.{Place, AsAddress, AsPlace, moved, moved_against, moved_by, moved_on, moved_back, place_of}
use Rattle.pw_check_rules.specs.Kinds.{is_pointer}
use Rattle.pw_types.specs.WellTyped.{type_in}
use Rattle.pw_check_constants.specs.Views.{view_asked, view_place}
use Rattle.pw_check_constants.specs.declared.moves.Move.{Move}
use Rattle.pw_check_constants.specs.declared.moves.Move.TheVariants as move
use Rattle.pw_check_constants.specs.declared.places.Way.{Way}
use Rattle.pw_check_constants.specs.declared.places.Way.TheVariants as way

abbrev pub reversed : Move → Move
reversed (move.On bytes) = move.Back bytes
reversed (move.Back bytes) = move.On bytes
reversed move.Nowhere = move.Nowhere

-- where a move leads
abbrev pub taken : Move → Place → Option Place
taken (move.On bytes) p = moved_on bytes p
taken (move.Back bytes) p = moved_back bytes p
taken move.Nowhere p = None

-- several, from the outermost inward
abbrev pub replayed : List Move → Option Place → Option Place
replayed [] p = p
replayed (m ∷ ms) p = option_and_then (taken m) (replayed ms p)

-- the place that a step down an expression says
abbrev pub place_by : List RecordValue → Way → Option Place
place_by records (way.Ends p) = option_map view_place p
place_by records (way.Through asked a) = place_of records (view_asked asked) (view_expr a.now)
place_by records (way.Moves m a asked) = option_and_then (taken m) (place_of records (view_asked asked) (view_expr a.now))

-- the size of the object at a place, 0 where there is none that is known
abbrev pub object_size : Option Place → ℕ
object_size p = unwrap_or (option_and_then (λ q. q.size) p) 0

-- of a sum or a difference that is a pointer
abbrev pub moved_place : List RecordValue → BinaryOperator → Expression → Expression → Option Place
moved_place records B.Add a b =
    if is_pointer (type_in a) then moved_by moved records a b (place_of records AsAddress a)
    else moved_by moved records b a (place_of records AsAddress b)
moved_place records B.Subtract a b = moved_by moved_against records a b (place_of records AsAddress a)
moved_place records _ a b = None

-- as an address, by whether its type is a pointer and by its form
abbrev pub address_formed : List RecordValue → Bool → Form → Option Place
address_formed records pointer (T.Decay a) = place_of records AsPlace a
address_formed records pointer (T.Address a) = place_of records AsPlace a
address_formed records pointer (T.Cast a) = if pointer then place_of records AsAddress a else None
address_formed records pointer (T.Binary op a b) = if pointer then moved_place records op a b else None
address_formed records pointer _ = None

-- the step leads to an expression below this size
abbrev pub IsBelow : Way → ℕ → Type 0
IsBelow (way.Ends p) n = Unit {0}
IsBelow (way.Through asked a) n = size-TForm a.now.form < n
IsBelow (way.Moves m a asked) n = size-TForm a.now.form < n

-- the step leads to a part of the expression
abbrev pub IsPartOf : Way → TExpr → Type 0
IsPartOf w e = IsBelow w (size-TForm e.form)
