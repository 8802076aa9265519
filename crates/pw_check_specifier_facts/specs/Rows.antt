-- Rows of keywords with the integer types that they say, and qualifiers: how many there are, and which fit a type.
use Rattle.std.specs.Prelude.{ℕ, ◌+◌, ◌≤◌, ◌==◌, Bool, not, ◌&&◌, ◌||◌, nat_le, Option, List, find, option_map}
use Rattle.pw_tree.specs.declared.expr.BasicType.{BasicType}
use Rattle.pw_types.specs.declared.kind.IntKind.{IntKind}
use Rattle.pw_types.specs.TypeTrees.{QType, type_of}
use Rattle.pw_check_rules.specs.Kinds.{is_const_object, is_volatile_object, is_function}
use Rattle.pw_check_rules.specs.Constants.{truth}
use Rattle.pw_check_rules.specs.SpecifierLists.{Gathered, same_words}

-- the first row with these keywords
abbrev pub row_found : List (List BasicType × Option IntKind) → List BasicType → Option (Option IntKind)
row_found table words = option_map (λ row. row.1) (find (λ row. same_words row.0 words) table)

-- each qualifier once, a typedef name's included, and none at a function
abbrev pub lawful_qualifiers : ℕ → ℕ → QType → Bool
lawful_qualifiers constants volatiles ty =
    nat_le (constants + truth (is_const_object ty)) 1
    && (nat_le (volatiles + truth (is_volatile_object ty)) 1
    && not ((not (constants == 0) || not (volatiles == 0)) && is_function (type_of ty)))

-- each qualifier was gathered so often at most
abbrev pub AreAtMost : ℕ → Gathered → Type 0
AreAtMost limit g = (g.constants ≤ limit) × (g.volatiles ≤ limit)
