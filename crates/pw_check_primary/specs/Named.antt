-- The type that a type name names (ISO C90 6.5.5), with the place of its faults.
use Rattle.std.specs.Prelude.{ℕ, None}
use Rattle.pw_tree.specs.Trees.{Specifiers, Declarator}
use Rattle.pw_types.specs.TypeTrees.{QType}
use Rattle.pw_types.specs.Views.{view_qtype}
use Rattle.pw_check_walk.specs.Walks.{pure, ◌>>=◌}
use Rattle.pw_check_rules.specs.Declarations.{specified_rule}
use Rattle.pw_check_rules.specs.Derivations.{spot_of}
use Rattle.pw_check_rules.specs.Leaves.{first_of_declaration, named_type}
use Rattle.pw_check_rules.specs.Limits.{Spot}
use Rattle.pw_check_rules.specs.Operands.{Operand}
use Rattle.pw_check_rules.specs.Operators.{type_size_rule}
use Rattle.pw_check_rules.specs.Phrases.{declarator_rule}
use Rattle.pw_check_rules.specs.States.{Rule}
use Rattle.pw_check_state.specs.PhraseViews.{view_spot}
use Rattle.pw_check_primary.specs.declared.names.NamedType.{NamedType}

pub record NamedValue : Type 0 where
  pub spot : Spot
  pub ty : QType

abbrev pub view_named : NamedType → NamedValue
view_named n = record { spot = view_spot n.spot; ty = view_qtype n.ty }

unfoldable pub named_rule : Specifiers → Declarator → Rule NamedValue
named_rule specifiers d =
    specified_rule specifiers (first_of_declaration specifiers d) >>= λ b.
    declarator_rule d >>= λ c.
    named_type b c >>= λ q.
    pure (record { spot = spot_of None b.first b.tag; ty = q })

-- the size of that type (6.3.3.4)
abbrev pub sized_rule : ℕ → Specifiers → Declarator → Rule Operand
sized_rule t specifiers d = named_rule specifiers d >>= λ n. type_size_rule t n.spot n.ty
