-- In a tree with its tokens' numbers, the first token's number is the one at which the tree begins.
use Rattle.std.proofs.Common.{◌≡◌, ℕ, Bool, true, [], ◌∷◌, Option, Some, ap, ◌∙◌, arith}
use Rattle.std.specs.Option.{option_or}
use Rattle.pw_tree.specs.FirstTokens.{first_of_expr, first_of_specifiers, first_of_core, first_of_suffixes, first_of_declarator, first_of_parameter, first_of_members, first_of_label, first_of_stmt}
use Rattle.pw_tree.specs.Numbering.{Numbered, NumberedSpecifiers, NumberedDeclarator, NumberedMemberDeclarators, NumberedLabel, NumberedStmt}
use Rattle.pw_tree.specs.Scopes.{Env}
use Rattle.pw_tree.specs.Spelling.{spell_expr}
use Rattle.pw_tree.specs.Trees.{Expr, Identifier, Number, Floating, Character, Wide, Strings, Paren, Postfix, Unary, SizeofType, Cast, Chain, Conditional, Assign, Specifiers, NoSpecifier, Storage, Qualified, Basic, TypedefName, RecordTag, Record, EnumTag, Enum, MemberDeclarators, NoMemberDeclarator, PlainMember, BitField, Padding, Declarator, Declaring, Absent, Name, Enclosed, NoSuffix, Array, OpenArray, Prototype, Variadic, Identifiers, Label, CaseLabel, DefaultLabel, NameLabel, Stmt, Compound, Expression, Labeled, If, Switch, While, Do, For, Goto, Return, Braced}
use Rattle.pw_tree.specs.WellFormed.{HasSpecifier, IsSomething, WellFormed, WellFormedDeclarator, WellFormedMemberDeclarators, WellFormedStmt, HasMemberDeclarator, Named}

some : {n m : ℕ} → n ≡ m → Some n ≡ Some m
some e = ap (λ k. Some k) e

pub expr-first : (env : Env) (n : ℕ) (e : Expr) → WellFormed env e → Numbered n e → first_of_expr e ≡ n
unfolding first_of_expr WellFormed Numbered
expr-first env n (Identifier w) h k = k
expr-first env n (Number w) h k = k
expr-first env n (Floating w) h k = k
expr-first env n (Character w) h k = k
expr-first env n (Wide w) h k = k
expr-first env n (Strings []) h k = absurd h
expr-first env n (Strings (w ∷ ws)) h k = k.0
expr-first env n (Paren t e) h k = k.0
expr-first env n (Postfix e ps) h k = expr-first env n e h.1 k.0
expr-first env n (Unary t op e) h k = k.0
expr-first env n (SizeofType t ss d) h k = k.0
expr-first env n (Cast t ss d e) h k = k.0
expr-first env n (Chain e ops) h k = expr-first env n e h.1 k.0
expr-first env n (Conditional t c a b) h k = expr-first env n c h.1 k.0
expr-first env n (Assign t op l r) h k = expr-first env n l h.1 k.0

pub specifiers-first : (n : ℕ) (ss : Specifiers) → HasSpecifier ss → NumberedSpecifiers n ss → first_of_specifiers ss ≡ Some n
unfolding first_of_specifiers Numbered
specifiers-first n NoSpecifier h k = absurd h
specifiers-first n (Storage t c ss) h k = some k.0
specifiers-first n (Qualified t q ss) h k = some k.0
specifiers-first n (Basic t b ss) h k = some k.0
specifiers-first n (TypedefName w ss) h k = some k.0
specifiers-first n (RecordTag t r tag ss) h k = some k.0
specifiers-first n (Record t r tag ms ss) h k = some k.0
specifiers-first n (EnumTag t tag ss) h k = some k.0
specifiers-first n (Enum t tag es ss) h k = some k.0

pub declarator-first : (n : ℕ) (d : Declarator) → IsSomething d → NumberedDeclarator n d → first_of_declarator d ≡ Some n
unfolding first_of_core first_of_suffixes Numbered spell_expr
declarator-first n (Declaring (p ∷ ps) core ss) h k = some k.0.0
declarator-first n (Declaring [] (Name w) ss) h k = some (k.1 ∙ omega arith)
declarator-first n (Declaring [] (Enclosed t d) ss) h k = some (k.1.0 ∙ omega arith)
declarator-first n (Declaring [] Absent NoSuffix) h k = absurd h
declarator-first n (Declaring [] Absent (Array t e ss)) h k = some (k.2.0 ∙ omega arith)
declarator-first n (Declaring [] Absent (OpenArray t ss)) h k = some (k.2.0 ∙ omega arith)
declarator-first n (Declaring [] Absent (Prototype t ps ss)) h k = some (k.2.0 ∙ omega arith)
declarator-first n (Declaring [] Absent (Variadic t ps ss)) h k = some (k.2.0 ∙ omega arith)
declarator-first n (Declaring [] Absent (Identifiers t ws ss)) h k = some (k.2.0 ∙ omega arith)

or-first : (a b : Option ℕ) (n : ℕ) → a ≡ Some n → option_or a b ≡ Some n
or-first a b n e = ap (λ o. option_or o b) e

pub parameter-first : (n : ℕ) (ss : Specifiers) (d : Declarator) → HasSpecifier ss → NumberedSpecifiers n ss → first_of_parameter ss d ≡ Some n
parameter-first n ss d h k = or-first (first_of_specifiers ss) (first_of_declarator d) n (specifiers-first n ss h k)

-- a declarator with a name is something
is-something : (env : Env) (typed : Bool) (d : Declarator) → WellFormedDeclarator env typed Named d → IsSomething d
unfolding WellFormed
is-something env typed (Declaring (p ∷ ps) core ss) h = tt
is-something env typed (Declaring [] Absent ss) h = absurd h.0
is-something env typed (Declaring [] (Name w) ss) h = tt
is-something env typed (Declaring [] (Enclosed t d) ss) h = tt

pub members-first : (env : Env) (typed : Bool) (n : ℕ) (ds : MemberDeclarators) → HasMemberDeclarator ds → WellFormedMemberDeclarators env typed ds → NumberedMemberDeclarators true n ds → first_of_members ds ≡ Some n
unfolding first_of_members WellFormed Numbered
members-first env typed n NoMemberDeclarator some_ds h k = absurd some_ds
members-first env typed n (PlainMember d ds) some_ds h k = declarator-first n d (is-something env typed d h.0) k.0
members-first env typed n (BitField d t e ds) some_ds h k = or-first (first_of_declarator d) (Some t) n (declarator-first n d (is-something env typed d h.0) k.0)
members-first env typed n (Padding t e ds) some_ds h k = some k.0

pub label-first : (n : ℕ) (l : Label) → NumberedLabel n l → first_of_label l ≡ n
label-first n (CaseLabel t e) k = k.0
label-first n (DefaultLabel t) k = k
label-first n (NameLabel w) k = k

pub stmt-first : (env : Env) (n : ℕ) (s : Stmt) → WellFormedStmt env s → NumberedStmt n s → first_of_stmt s ≡ n
unfolding first_of_stmt WellFormedStmt NumberedStmt
stmt-first env n (Compound (Braced t ds ss)) h k = k.0
stmt-first env n (Expression e) h k = expr-first env n e h k
stmt-first env n (Labeled [] s) h k = absurd h.0
stmt-first env n (Labeled (l ∷ ls) s) h k = label-first n l k.0.0
stmt-first env n (If t c s a) h k = k.0
stmt-first env n (Switch t e s) h k = k.0
stmt-first env n (While t e s) h k = k.0
stmt-first env n (Do t s e) h k = k.0
stmt-first env n (For t a b c s) h k = k.0
stmt-first env n (Goto t w) h k = k.0
stmt-first env n (Return t e) h k = k.0
stmt-first env n _ h k = k
