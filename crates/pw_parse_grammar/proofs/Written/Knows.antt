-- What parsers of parts read.
use Rattle.std.proofs.Common.{◌≡◌, ℕ, ◌<◌, ◌≤◌, Bool, true, false, not, ◌||◌, List, [], Option, Some, None, Ok, length, map, arith}
use Rattle.std.specs.Option.{option_or}
use Rattle.pw_tree.specs.Levels.{level, chain_level, binary_level}
use Rattle.pw_tree.specs.Numbering.{Numbered, NumberedSpecifiers, NumberedDeclarator, past_expr, past_specifiers, past_declarator}
use Rattle.pw_tree.specs.Scopes.{Env, has_type, after_expr, after_specifiers, after_declarator, after_parameters, name_of}
use Rattle.pw_tree.specs.Scopes as scopes
use Rattle.pw_tree.specs.Spelling.{spell_expr, spell_specifiers, spell_declarator}
use Rattle.pw_tree.specs.Symbols as symbol
use Rattle.pw_tree.specs.Symbols.{Symbol, Reserved, Sign}
use Rattle.pw_tree.specs.Trees.{Word, Expr, Chain, Operations, NoOperation, Operation, Specifiers, Declarator, Declaring, Core, Absent, Name, Enclosed, Suffixes, NoSuffix, Array, OpenArray, Prototype, Variadic, Identifiers}
use Rattle.pw_tree.specs.WellFormed.{WellFormed, WellFormedSpecifiers, WellFormedDeclarator, NoStorage}
use Rattle.pw_tree.specs.WellFormed as tree
use Rattle.pw_tree.specs.declared.operator.BinaryOperator.{BinaryOperator}
use Rattle.pw_tree.specs.declared.operator.BinaryOperator.TheVariants as binary
use Rattle.pw_token.specs.declared.symbol.Keyword.TheVariants as k
use Rattle.pw_token.specs.declared.symbol.Mark.TheVariants as m
use Rattle.pw_parse_grammar.specs.declared.place.Place.{Place}
use Rattle.pw_parse_grammar.specs.declared.place.Place.TheVariants.{Named, Nameless, Either}
use Rattle.pw_parse_grammar.specs.Input.{Parser, Binding}
use Rattle.pw_parse_grammar.specs.Parts.{Parts, Declared}
use Rattle.pw_parse_grammar.specs.Tests.{word_begins, specifier_word}
use Rattle.pw_parse_grammar.proofs.Trees.Base.{at, names_of}
use Rattle.pw_parse_grammar.proofs.Trees.Follow.{Follow, head}

binary_at_most : (op : BinaryOperator) → binary_level op ≤ 16
binary_at_most binary.Multiply = omega arith
binary_at_most binary.Divide = omega arith
binary_at_most binary.Remainder = omega arith
binary_at_most binary.Add = omega arith
binary_at_most binary.Subtract = omega arith
binary_at_most binary.LeftShift = omega arith
binary_at_most binary.RightShift = omega arith
binary_at_most binary.Less = omega arith
binary_at_most binary.Greater = omega arith
binary_at_most binary.LessEqual = omega arith
binary_at_most binary.GreaterEqual = omega arith
binary_at_most binary.Equal = omega arith
binary_at_most binary.NotEqual = omega arith
binary_at_most binary.BitAnd = omega arith
binary_at_most binary.BitXor = omega arith
binary_at_most binary.BitOr = omega arith
binary_at_most binary.And = omega arith
binary_at_most binary.Or = omega arith
binary_at_most binary.Comma = omega arith

chain_at_most : (ops : Operations) → chain_level ops ≤ 16
chain_at_most NoOperation = omega arith
chain_at_most (Operation n op e rest) = binary_at_most op

pub level_at_most : (e : Expr) → level e ≤ 16
level_at_most (Chain e ops) = chain_at_most ops
level_at_most _ = omega arith

-- an expression of level k or below, of fewer tokens than d with those behind it
abbrev pub ReadsExpr : ℕ → ℕ → Parser Expr → Type 0
ReadsExpr d k p = (env : Env) (e : Expr) (z : List Symbol) (n i : ℕ) → WellFormed env e → Numbered n e → level e ≤ k → Follow k z
    → length (spell_expr e z) < d → i ≡ n → p (at env (spell_expr e z) i) ≡ Ok (e, at (after_expr env e) z (past_expr n e))

-- ---- specifiers

-- a token that does not go on with a list of specifiers
abbrev pub ends_specifiers : Bool → Bool → Env → Option Symbol → Bool
ends_specifiers storage typed env (Some (Reserved w)) = not (word_begins storage (specifier_word w))
ends_specifiers storage typed env (Some (symbol.Identifier x)) = typed || not (scopes.is_typedef_name env x)
ends_specifiers storage typed env (Some (Sign m.OpenBrace)) = false
ends_specifiers storage typed env _ = true

abbrev pub MayHold : Bool → Specifiers → Type 0
MayHold true ss = Unit {0}
MayHold false ss = NoStorage ss

abbrev pub ReadsSpecifiers : ℕ → (Bool → Parser Specifiers) → Type 0
ReadsSpecifiers d p = (storage : Bool) (env : Env) (ss : Specifiers) (z : List Symbol) (n i : ℕ) → WellFormedSpecifiers env false ss → MayHold storage ss
    → NumberedSpecifiers n ss → ends_specifiers storage (has_type ss) (after_specifiers env ss) (head z) ≡ true
    → length (spell_specifiers ss z) < d → i ≡ n → p storage (at env (spell_specifiers ss z) i) ≡ Ok (ss, at (after_specifiers env ss) z (past_specifiers n ss))

-- ---- declarators

abbrev pub place_of : Place → tree.Place
place_of Named = tree.Named
place_of Nameless = tree.Nameless
place_of Either = tree.Either

-- a token that goes on with a declarator
abbrev pub joins_declarator : Place → Option Symbol → Bool
joins_declarator place (Some (Sign m.OpenBracket)) = true
joins_declarator place (Some (Sign m.OpenParen)) = true
joins_declarator Nameless (Some (Sign m.Star)) = true
joins_declarator Either (Some (Sign m.Star)) = true
joins_declarator Nameless (Some (symbol.Identifier x)) = true
joins_declarator Either (Some (symbol.Identifier x)) = true
joins_declarator Nameless (Some (Reserved k.Const)) = true
joins_declarator Either (Some (Reserved k.Const)) = true
joins_declarator Nameless (Some (Reserved k.Volatile)) = true
joins_declarator Either (Some (Reserved k.Volatile)) = true
joins_declarator place _ = false

abbrev pub text_of : Option Word → Option (List ℕ)
text_of None = None
text_of (Some w) = Some w.text

-- what the list of parameters behind the name declares
abbrev pub bindings_of : List Word → List Binding
bindings_of ws = map (λ w. (w.text, false)) ws

abbrev pub behind_suffixes : Suffixes → Option (List Binding)
behind_suffixes NoSuffix = None
behind_suffixes (Array n e ss) = Some []
behind_suffixes (OpenArray n ss) = Some []
behind_suffixes (Prototype n ps ss) = Some (names_of (after_parameters [] ps))
behind_suffixes (Variadic n ps ss) = Some (names_of (after_parameters [] ps))
behind_suffixes (Identifiers n ws ss) = Some (bindings_of ws)

abbrev mutual
  pub behind_of : Declarator → Option (List Binding)
  behind_of (Declaring ps c ss) = option_or (behind_core c) (behind_suffixes ss)

  pub behind_core : Core → Option (List Binding)
  behind_core Absent = None
  behind_core (Name w) = None
  behind_core (Enclosed n d) = behind_of d

abbrev pub declared : Declarator → Declared
declared d = record { tree = d; name = text_of (name_of d); behind = behind_of d }

abbrev pub ReadsDeclarator : ℕ → (Place → Bool → Parser Declared) → Type 0
ReadsDeclarator d p = (place : Place) (typed : Bool) (env : Env) (x : Declarator) (z : List Symbol) (n i : ℕ) → WellFormedDeclarator env typed (place_of place) x
    → NumberedDeclarator n x → joins_declarator place (head z) ≡ false
    → length (spell_declarator x z) < d → i ≡ n → p place typed (at env (spell_declarator x z) i) ≡ Ok (declared x, at (after_declarator env x) z (past_declarator n x))

-- the parts read what has fewer tokens than d
pub record Knows (d : ℕ) (parts : Parts) : Type 0 where
  pub expr : (k : ℕ) → 2 ≤ k → ReadsExpr d k (parts.expr k)
  pub specifiers : ReadsSpecifiers d parts.specifiers
  pub declarator : ReadsDeclarator d parts.declarator
