-- Parsers of the parts that hold one another: a rule takes them as they are for smaller parts.
use Rattle.std.specs.Prelude.{ℕ, Bool, List, Option}
use Rattle.pw_tree.specs.Trees.{Expr, Specifiers, Declarator}
use Rattle.pw_parse_grammar.specs.Input.{Binding, Parser}
use Rattle.pw_parse_grammar.specs.declared.place.Place.{Place}

-- a declarator that was read
pub record Declared : Type 0 where
  pub tree : Declarator
  -- the declared name
  pub name : Option (List ℕ)
  -- What the list of parameters directly behind the name declares, and nothing where something else stands there.
  -- None where it is the rest around the declarator that decides.
  pub behind : Option (List Binding)

pub record Parts : Type 0 where
  -- an expression of a precedence level or one that binds more tightly (6.3)
  pub expr : ℕ → Parser Expr
  -- specifiers, none or more; storage classes among them where the flag says so (6.5)
  pub specifiers : Bool → Parser Specifiers
  -- a declarator; the flag says that a type specifier stands before it, so that a typedef name may be declared anew (6.5.4, 6.5.5)
  pub declarator : Place → Bool → Parser Declared
