-- What trees begin with.
use Rattle.std.proofs.Common.{◌≡◌, ℕ, ◌<◌, ◌≤◌, Bool, true, false, not, List, [], ◌∷◌, Option, Some, None, arith, refl, ap, ◌∙◌}
use Rattle.pw_tree.specs.Levels.{level, chain_level, binary_level}
use Rattle.pw_tree.specs.Scopes.{Env, is_typedef_name}
use Rattle.pw_tree.specs.Spelling.{spell_expr, spell_specifiers, spell_declarator, spell_core, spell_suffixes}
use Rattle.pw_tree.specs.Symbols as symbol
use Rattle.pw_tree.specs.Symbols.{Symbol, Reserved, Sign, unary_symbol}
use Rattle.pw_tree.specs.Trees.{Expr, Identifier, Number, Floating, Character, Wide, Strings, Paren, Postfix, Unary, SizeofType, Cast, Chain, Conditional, Assign, Operations, NoOperation, Operation, Specifiers, NoSpecifier, Storage, Qualified, Basic, TypedefName, RecordTag, Record, EnumTag, Enum, Declarator, Declaring, Core, Absent, Name, Enclosed, Suffixes, NoSuffix, Array, OpenArray, Prototype, Variadic, Identifiers}
use Rattle.pw_tree.specs.WellFormed.{WellFormed, WellFormedSpecifiers, WellFormedDeclarator, HasSpecifier}
use Rattle.pw_tree.specs.declared.expr.BasicType.TheVariants as basic
use Rattle.pw_tree.specs.declared.expr.Qualifier.TheVariants as qualifier
use Rattle.pw_tree.specs.declared.expr.RecordKind.TheVariants as record_kind
use Rattle.pw_tree.specs.declared.expr.StorageClass.TheVariants as storage_class
use Rattle.pw_tree.specs.declared.operator.BinaryOperator.{BinaryOperator}
use Rattle.pw_tree.specs.declared.operator.BinaryOperator.TheVariants as binary
use Rattle.pw_tree.specs.declared.operator.UnaryOperator.{UnaryOperator}
use Rattle.pw_tree.specs.declared.operator.UnaryOperator.TheVariants as unary
use Rattle.pw_token.specs.declared.symbol.Keyword.TheVariants as k
use Rattle.pw_token.specs.declared.symbol.Mark.TheVariants as m
use Rattle.pw_parse_grammar.specs.declared.place.Place.{Place}
use Rattle.pw_parse_grammar.specs.declared.place.Place.TheVariants.{Named, Nameless, Either}
use Rattle.pw_parse_grammar.specs.Input.{is_mark, same_mark, sees, ahead, step}
use Rattle.pw_parse_grammar.specs.Tests.{symbol_begins_specifier, opens_type_name}
use Rattle.pw_parse_grammar.proofs.Trees.Base.{at, is_typedef, true_is_not_false}
use Rattle.pw_parse_grammar.proofs.Trees.Follow.{head}
use Rattle.pw_parse_grammar.proofs.Written.Knows.{MayHold, ends_specifiers, place_of}

-- a token that an expression begins with
abbrev pub begins_expr : Env → Option Symbol → Bool
begins_expr env (Some (symbol.Identifier x)) = not (is_typedef_name env x)
begins_expr env (Some (symbol.Number s)) = true
begins_expr env (Some (symbol.Floating s)) = true
begins_expr env (Some (symbol.Character s)) = true
begins_expr env (Some (symbol.Wide s)) = true
begins_expr env (Some (symbol.Text s)) = true
begins_expr env (Some (Sign m.OpenParen)) = true
begins_expr env (Some (Sign m.Ampersand)) = true
begins_expr env (Some (Sign m.Star)) = true
begins_expr env (Some (Sign m.Plus)) = true
begins_expr env (Some (Sign m.Minus)) = true
begins_expr env (Some (Sign m.Tilde)) = true
begins_expr env (Some (Sign m.Exclamation)) = true
begins_expr env (Some (Sign m.Increment)) = true
begins_expr env (Some (Sign m.Decrement)) = true
begins_expr env (Some (Reserved k.Sizeof)) = true
begins_expr env _ = false

-- an identifier and a `:`
abbrev pub labels_name : List Symbol → Bool
labels_name (symbol.Identifier x ∷ z) = is_mark m.Colon (head z)
labels_name _ = false

unary-begins : (env : Env) (op : UnaryOperator) → begins_expr env (Some (unary_symbol op)) ≡ true
unary-begins env unary.Address = refl
unary-begins env unary.Dereference = refl
unary-begins env unary.Plus = refl
unary-begins env unary.Minus = refl
unary-begins env unary.Complement = refl
unary-begins env unary.Not = refl
unary-begins env unary.Increment = refl
unary-begins env unary.Decrement = refl
unary-begins env unary.Sizeof = refl

pub expr-begins : (env : Env) (e : Expr) (z : List Symbol) → WellFormed env e → begins_expr env (head (spell_expr e z)) ≡ true
unfolding spell_expr WellFormed
expr-begins env (Identifier w) z h = ap not h
expr-begins env (Number w) z h = refl
expr-begins env (Floating w) z h = refl
expr-begins env (Character w) z h = refl
expr-begins env (Wide w) z h = refl
expr-begins env (Strings []) z h = absurd h
expr-begins env (Strings (w ∷ ws)) z h = refl
expr-begins env (Paren n e) z h = refl
expr-begins env (Postfix e ps) z h = expr-begins env e _ h.1
expr-begins env (Unary n op e) z h = unary-begins env op
expr-begins env (SizeofType n ss d) z h = refl
expr-begins env (Cast n ss d e) z h = refl
expr-begins env (Chain e ops) z h = expr-begins env e _ h.1
expr-begins env (Conditional n c a b) z h = expr-begins env c _ h.1
expr-begins env (Assign n op l r) z h = expr-begins env l _ h.1

not-not : (b : Bool) → not b ≡ true → b ≡ false
not-not false h = refl
not-not true h = true_is_not_false h

-- an expression begins no list of specifiers
pub expr-no_type : (storage : Bool) (env : Env) (tokens : List Symbol) (n : ℕ) (o : Option Symbol) → begins_expr env o ≡ true → symbol_begins_specifier storage (at env tokens n) o ≡ false
expr-no_type storage env tokens n (Some (symbol.Identifier x)) h = is_typedef env tokens n x ∙ not-not (is_typedef_name env x) h
expr-no_type storage env tokens n (Some (Reserved k.Sizeof)) h = refl
expr-no_type storage env tokens n (Some (Reserved _)) h = true_is_not_false h
expr-no_type storage env tokens n (Some _) h = refl
expr-no_type storage env tokens n None h = refl

pub chain_above : (e : Expr) (ops : Operations) → level e < chain_level ops → chain_level ops ≤ 3 → ⊥
chain_above e NoOperation h k = omega (arith, h)
chain_above e (Operation n op r rest) h k = omega (arith, k, binary_at_least op)
  where
    binary_at_least : (op : BinaryOperator) → 4 ≤ binary_level op
    binary_at_least binary.Multiply = omega arith
    binary_at_least binary.Divide = omega arith
    binary_at_least binary.Remainder = omega arith
    binary_at_least binary.Add = omega arith
    binary_at_least binary.Subtract = omega arith
    binary_at_least binary.LeftShift = omega arith
    binary_at_least binary.RightShift = omega arith
    binary_at_least binary.Less = omega arith
    binary_at_least binary.Greater = omega arith
    binary_at_least binary.LessEqual = omega arith
    binary_at_least binary.GreaterEqual = omega arith
    binary_at_least binary.Equal = omega arith
    binary_at_least binary.NotEqual = omega arith
    binary_at_least binary.BitAnd = omega arith
    binary_at_least binary.BitXor = omega arith
    binary_at_least binary.BitOr = omega arith
    binary_at_least binary.And = omega arith
    binary_at_least binary.Or = omega arith
    binary_at_least binary.Comma = omega arith

-- an expression of a level below casts begins with no type name in parentheses
pub expr-no_cast : (env : Env) (e : Expr) (z : List Symbol) (n : ℕ) → WellFormed env e → level e ≤ 2 → opens_type_name (at env (spell_expr e z) n) ≡ false
unfolding spell_expr WellFormed opens_type_name sees ahead step same_mark
expr-no_cast env (Identifier w) z n h l = refl
expr-no_cast env (Number w) z n h l = refl
expr-no_cast env (Floating w) z n h l = refl
expr-no_cast env (Character w) z n h l = refl
expr-no_cast env (Wide w) z n h l = refl
expr-no_cast env (Strings []) z n h l = absurd h
expr-no_cast env (Strings (w ∷ ws)) z n h l = refl
expr-no_cast env (Paren t e) z n h l = expr-no_type false env (Sign m.OpenParen ∷ spell_expr e (Sign m.CloseParen ∷ z)) n (head (spell_expr e (Sign m.CloseParen ∷ z))) (expr-begins env e (Sign m.CloseParen ∷ z) h)
expr-no_cast env (Postfix e ps) z n h l = expr-no_cast env e _ n h.1 (omega (arith, h.0))
expr-no_cast env (Unary t unary.Address e) z n h l = refl
expr-no_cast env (Unary t unary.Dereference e) z n h l = refl
expr-no_cast env (Unary t unary.Plus e) z n h l = refl
expr-no_cast env (Unary t unary.Minus e) z n h l = refl
expr-no_cast env (Unary t unary.Complement e) z n h l = refl
expr-no_cast env (Unary t unary.Not e) z n h l = refl
expr-no_cast env (Unary t unary.Increment e) z n h l = refl
expr-no_cast env (Unary t unary.Decrement e) z n h l = refl
expr-no_cast env (Unary t unary.Sizeof e) z n h l = refl
expr-no_cast env (SizeofType t ss d) z n h l = refl
expr-no_cast env (Cast t ss d e) z n h l = absurd (omega (arith, l))
expr-no_cast env (Chain e ops) z n h l = absurd (chain_above e ops h.0 (omega (arith, l)))
expr-no_cast env (Conditional t c a b) z n h l = absurd (omega (arith, l))
expr-no_cast env (Assign t op a b) z n h l = absurd (omega (arith, l))

-- ---- specifiers

-- specifiers begin a list of specifiers
pub specifiers-begin : (storage : Bool) (env : Env) (ss : Specifiers) (z tokens : List Symbol) (n : ℕ) → HasSpecifier ss → MayHold storage ss → WellFormedSpecifiers env false ss
    → symbol_begins_specifier storage (at env tokens n) (head (spell_specifiers ss z)) ≡ true
unfolding spell_expr WellFormed
specifiers-begin storage env NoSpecifier z tokens n has may h = absurd has
specifiers-begin true env (Storage t storage_class.Typedef ss) z tokens n has may h = refl
specifiers-begin true env (Storage t storage_class.Extern ss) z tokens n has may h = refl
specifiers-begin true env (Storage t storage_class.Static ss) z tokens n has may h = refl
specifiers-begin true env (Storage t storage_class.Auto ss) z tokens n has may h = refl
specifiers-begin true env (Storage t storage_class.Register ss) z tokens n has may h = refl
specifiers-begin false env (Storage t c ss) z tokens n has may h = absurd may
specifiers-begin storage env (Qualified t qualifier.Const ss) z tokens n has may h = refl
specifiers-begin storage env (Qualified t qualifier.Volatile ss) z tokens n has may h = refl
specifiers-begin storage env (Basic t basic.Void ss) z tokens n has may h = refl
specifiers-begin storage env (Basic t basic.Char ss) z tokens n has may h = refl
specifiers-begin storage env (Basic t basic.Short ss) z tokens n has may h = refl
specifiers-begin storage env (Basic t basic.Int ss) z tokens n has may h = refl
specifiers-begin storage env (Basic t basic.Long ss) z tokens n has may h = refl
specifiers-begin storage env (Basic t basic.Float ss) z tokens n has may h = refl
specifiers-begin storage env (Basic t basic.Double ss) z tokens n has may h = refl
specifiers-begin storage env (Basic t basic.Signed ss) z tokens n has may h = refl
specifiers-begin storage env (Basic t basic.Unsigned ss) z tokens n has may h = refl
specifiers-begin storage env (TypedefName w ss) z tokens n has may h = is_typedef env tokens n w.text ∙ h.1
specifiers-begin storage env (RecordTag t record_kind.Struct tag ss) z tokens n has may h = refl
specifiers-begin storage env (RecordTag t record_kind.Union tag ss) z tokens n has may h = refl
specifiers-begin storage env (Record t record_kind.Struct tag ms ss) z tokens n has may h = refl
specifiers-begin storage env (Record t record_kind.Union tag ms ss) z tokens n has may h = refl
specifiers-begin storage env (EnumTag t tag ss) z tokens n has may h = refl
specifiers-begin storage env (Enum t tag es ss) z tokens n has may h = refl

-- ---- declarators

core-ends : (storage typed : Bool) (place : Place) (env : Env) (c : Core) (fs : Suffixes) (z : List Symbol) → WellFormedDeclarator env typed (place_of place) (Declaring [] c fs) → ends_specifiers storage typed env (head z) ≡ true
    → ends_specifiers storage typed env (head (spell_core c (spell_suffixes fs z))) ≡ true
unfolding spell_expr WellFormed
core-ends storage typed place env Absent NoSuffix z h e = e
core-ends storage typed place env Absent (Array n x fs) z h e = refl
core-ends storage typed place env Absent (OpenArray n fs) z h e = refl
core-ends storage typed place env Absent (Prototype n ps fs) z h e = refl
core-ends storage typed place env Absent (Variadic n ps fs) z h e = refl
core-ends storage typed place env Absent (Identifiers n ws fs) z h e = refl
core-ends storage typed Named env (Name w) fs z h e = h.0
core-ends storage typed Either env (Name w) fs z h e = h.0
core-ends storage typed Nameless env (Name w) fs z h e = absurd h.0
core-ends storage typed place env (Enclosed n d) fs z h e = refl

-- a declarator goes on with no list of specifiers before it
pub declarator-ends : (storage typed : Bool) (place : Place) (env : Env) (d : Declarator) (z : List Symbol) → WellFormedDeclarator env typed (place_of place) d → ends_specifiers storage typed env (head z) ≡ true
    → ends_specifiers storage typed env (head (spell_declarator d z)) ≡ true
unfolding spell_expr WellFormed
declarator-ends storage typed place env (Declaring [] c fs) z h e = core-ends storage typed place env c fs z h e
declarator-ends storage typed place env (Declaring (p ∷ ps) c fs) z h e = refl

-- ---- marks that begin no expression

pub expr-no_close_paren : (env : Env) (o : Option Symbol) → begins_expr env o ≡ true → is_mark m.CloseParen o ≡ false
unfolding same_mark
expr-no_close_paren env (Some (Sign m.CloseParen)) h = true_is_not_false h
expr-no_close_paren env (Some _) h = refl
expr-no_close_paren env None h = refl

pub expr-no_close_bracket : (env : Env) (o : Option Symbol) → begins_expr env o ≡ true → is_mark m.CloseBracket o ≡ false
unfolding same_mark
expr-no_close_bracket env (Some (Sign m.CloseBracket)) h = true_is_not_false h
expr-no_close_bracket env (Some _) h = refl
expr-no_close_bracket env None h = refl

pub expr-no_semicolon : (env : Env) (o : Option Symbol) → begins_expr env o ≡ true → is_mark m.Semicolon o ≡ false
unfolding same_mark
expr-no_semicolon env (Some (Sign m.Semicolon)) h = true_is_not_false h
expr-no_semicolon env (Some _) h = refl
expr-no_semicolon env None h = refl

pub expr-no_close_brace : (env : Env) (o : Option Symbol) → begins_expr env o ≡ true → is_mark m.CloseBrace o ≡ false
unfolding same_mark
expr-no_close_brace env (Some (Sign m.CloseBrace)) h = true_is_not_false h
expr-no_close_brace env (Some _) h = refl
expr-no_close_brace env None h = refl

pub expr-no_open_brace : (env : Env) (o : Option Symbol) → begins_expr env o ≡ true → is_mark m.OpenBrace o ≡ false
unfolding same_mark
expr-no_open_brace env (Some (Sign m.OpenBrace)) h = true_is_not_false h
expr-no_open_brace env (Some _) h = refl
expr-no_open_brace env None h = refl
