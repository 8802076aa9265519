-- What statements begin with (6.6).
use Rattle.std.proofs.Common.{◌≡◌, ℕ, Bool, true, false, not, ◌&&◌, ◌||◌, List, [], ◌∷◌, Option, Some, None, Ok, refl, ◌∙◌}
use Rattle.pw_tree.specs.Scopes.{is_typedef_name, Env}
use Rattle.pw_tree.specs.Spelling.{identifier, spell_expr, spell_postfixes, spell_operations, spell_stmt}
use Rattle.pw_tree.specs.Symbols as symbol
use Rattle.pw_tree.specs.Symbols.{Symbol, Reserved, Sign, unary_symbol, binary_mark, assign_mark, access_mark, step_mark}
use Rattle.pw_tree.specs.Trees.{Expr, Identifier, Number, Floating, Character, Wide, Strings, Paren, Postfix, Unary, SizeofType, Cast, Chain, Conditional, Assign, Postfixes, NoPostfix, Index, Call, Select, Step, Operations, NoOperation, Operation, CaseLabel, DefaultLabel, NameLabel, Stmt, Compound, Expression, Empty, Labeled, If, Switch, While, Do, For, Goto, Continue, Break, Return, Braced}
use Rattle.pw_tree.specs.WellFormed.{WellFormed, NotLabeled, NotIf, WellFormedStmt}
use Rattle.pw_tree.specs.declared.operator.Access.TheVariants as access
use Rattle.pw_tree.specs.declared.operator.AssignOperator.{AssignOperator}
use Rattle.pw_tree.specs.declared.operator.AssignOperator.TheVariants as assign
use Rattle.pw_tree.specs.declared.operator.BinaryOperator.{BinaryOperator}
use Rattle.pw_tree.specs.declared.operator.BinaryOperator.TheVariants as binary
use Rattle.pw_tree.specs.declared.operator.StepOperator.TheVariants as stepping
use Rattle.pw_tree.specs.declared.operator.UnaryOperator.{UnaryOperator}
use Rattle.pw_tree.specs.declared.operator.UnaryOperator.TheVariants as unary
use Rattle.pw_token.specs.declared.symbol.Keyword.TheVariants as k
use Rattle.pw_token.specs.declared.symbol.Mark.TheVariants as m
use Rattle.pw_parse_grammar.specs.Input.{ahead, step, same_mark, same_keyword, is_mark, is_keyword, sees, Parser}
use Rattle.pw_token.specs.declared.symbol.Keyword.{Keyword}
use Rattle.pw_parse_grammar.specs.Statements.{label, unlabeled, compound, expression_stmt}
use Rattle.pw_parse_grammar.specs.Tests.{begins_declaration, begins_specifier, opens_label, symbol_begins_specifier}
use Rattle.pw_parse_grammar.proofs.Trees.Base.{at, is_typedef, true_is_not_false}
use Rattle.pw_parse_grammar.proofs.Trees.Follow.{head}
use Rattle.pw_parse_grammar.proofs.Trees.Heads.{begins_expr, labels_name, expr-begins, expr-no_type}

-- the keywords that statements begin with
abbrev begins_by : Keyword → Bool
begins_by k.Case = true
begins_by k.Default = true
begins_by k.If = true
begins_by k.Switch = true
begins_by k.While = true
begins_by k.Do = true
begins_by k.For = true
begins_by k.Goto = true
begins_by k.Continue = true
begins_by k.Break = true
begins_by k.Return = true
begins_by _ = false

-- a token that a statement begins with
abbrev pub begins_stmt : Env → Option Symbol → Bool
begins_stmt env (Some (Reserved w)) = begins_by w || begins_expr env (Some (Reserved w))
begins_stmt env (Some (Sign m.OpenBrace)) = true
begins_stmt env (Some (Sign m.Semicolon)) = true
begins_stmt env (Some (symbol.Identifier x)) = true
begins_stmt env o = begins_expr env o

expr-as_stmt : (env : Env) (o : Option Symbol) → begins_expr env o ≡ true → begins_stmt env o ≡ true
expr-as_stmt env (Some (Reserved k.Sizeof)) h = refl
expr-as_stmt env (Some (Reserved _)) h = true_is_not_false h
expr-as_stmt env (Some (Sign m.OpenBrace)) h = refl
expr-as_stmt env (Some (Sign m.Semicolon)) h = refl
expr-as_stmt env (Some (symbol.Identifier x)) h = refl
expr-as_stmt env (Some _) h = h
expr-as_stmt env None h = h

pub stmt-begins : (env : Env) (s : Stmt) (z : List Symbol) → WellFormedStmt env s → begins_stmt env (head (spell_stmt s z)) ≡ true
unfolding spell_stmt WellFormedStmt
stmt-begins env (Compound (Braced t ds ss)) z h = refl
stmt-begins env (Expression e) z h = expr-as_stmt env (head (spell_expr e (Sign m.Semicolon ∷ z))) (expr-begins env e (Sign m.Semicolon ∷ z) h)
stmt-begins env (Empty t) z h = refl
stmt-begins env (Labeled [] s) z h = absurd h.0
stmt-begins env (Labeled (CaseLabel t e ∷ ls) s) z h = refl
stmt-begins env (Labeled (DefaultLabel t ∷ ls) s) z h = refl
stmt-begins env (Labeled (NameLabel w ∷ ls) s) z h = refl
stmt-begins env (If t c s a) z h = refl
stmt-begins env (Switch t e s) z h = refl
stmt-begins env (While t e s) z h = refl
stmt-begins env (Do t s e) z h = refl
stmt-begins env (For t a b c s) z h = refl
stmt-begins env (Goto t w) z h = refl
stmt-begins env (Continue t) z h = refl
stmt-begins env (Break t) z h = refl
stmt-begins env (Return t e) z h = refl

and-false : (b : Bool) → (b && false) ≡ false
and-false true = refl
and-false false = refl

not-not : (b : Bool) → not b ≡ true → b ≡ false
not-not false h = refl
not-not true h = true_is_not_false h

-- what a statement begins with is no declaration: a typedef name with a `:` behind it is a label
pub stmt-no_declaration : (env : Env) (s : Stmt) (z : List Symbol) (i : ℕ) → WellFormedStmt env s → begins_declaration true (at env (spell_stmt s z) i) ≡ false
unfolding begins_declaration opens_label begins_specifier sees ahead step same_mark spell_stmt WellFormedStmt
stmt-no_declaration env (Compound (Braced t ds ss)) z i h = refl
stmt-no_declaration env (Expression e) z i h =
    rw (expr-no_type true env (spell_expr e (Sign m.Semicolon ∷ z)) i (head (spell_expr e (Sign m.Semicolon ∷ z))) (expr-begins env e (Sign m.Semicolon ∷ z) h)) refl
stmt-no_declaration env (Empty t) z i h = refl
stmt-no_declaration env (Labeled [] s) z i h = absurd h.0
stmt-no_declaration env (Labeled (CaseLabel t e ∷ ls) s) z i h = refl
stmt-no_declaration env (Labeled (DefaultLabel t ∷ ls) s) z i h = refl
stmt-no_declaration env (Labeled (NameLabel w ∷ ls) s) z i h = and-false (symbol_begins_specifier true (at env (spell_stmt (Labeled (NameLabel w ∷ ls) s) z) i) (Some (identifier w)))
stmt-no_declaration env (If t c s a) z i h = refl
stmt-no_declaration env (Switch t e s) z i h = refl
stmt-no_declaration env (While t e s) z i h = refl
stmt-no_declaration env (Do t s e) z i h = refl
stmt-no_declaration env (For t a b c s) z i h = refl
stmt-no_declaration env (Goto t w) z i h = refl
stmt-no_declaration env (Continue t) z i h = refl
stmt-no_declaration env (Break t) z i h = refl
stmt-no_declaration env (Return t e) z i h = refl

-- and it is no `else` and no `}`
pub stmt-no_else : (env : Env) (o : Option Symbol) → begins_stmt env o ≡ true → is_keyword k.Else o ≡ false
unfolding same_keyword
stmt-no_else env (Some (Reserved k.Else)) h = true_is_not_false h
stmt-no_else env (Some _) h = refl
stmt-no_else env None h = refl

pub stmt-no_close : (env : Env) (o : Option Symbol) → begins_stmt env o ≡ true → is_mark m.CloseBrace o ≡ false
unfolding same_mark
stmt-no_close env (Some (Sign m.CloseBrace)) h = true_is_not_false h
stmt-no_close env (Some _) h = refl
stmt-no_close env None h = refl

expr-no_if : (env : Env) (o : Option Symbol) → begins_expr env o ≡ true → is_keyword k.If o ≡ false
unfolding same_keyword
expr-no_if env (Some (Reserved k.If)) h = true_is_not_false h
expr-no_if env (Some _) h = refl
expr-no_if env None h = refl

pub stmt-no_if : (env : Env) (s : Stmt) (z : List Symbol) → NotIf s → WellFormedStmt env s → is_keyword k.If (head (spell_stmt s z)) ≡ false
unfolding spell_stmt WellFormedStmt same_keyword
stmt-no_if env (Compound (Braced t ds ss)) z n h = refl
stmt-no_if env (Expression e) z n h = expr-no_if env (head (spell_expr e (Sign m.Semicolon ∷ z))) (expr-begins env e (Sign m.Semicolon ∷ z) h)
stmt-no_if env (Empty t) z n h = refl
stmt-no_if env (Labeled [] s) z n h = absurd h.0
stmt-no_if env (Labeled (CaseLabel t e ∷ ls) s) z n h = refl
stmt-no_if env (Labeled (DefaultLabel t ∷ ls) s) z n h = refl
stmt-no_if env (Labeled (NameLabel w ∷ ls) s) z n h = refl
stmt-no_if env (If t c s a) z n h = absurd n
stmt-no_if env (Switch t e s) z n h = refl
stmt-no_if env (While t e s) z n h = refl
stmt-no_if env (Do t s e) z n h = refl
stmt-no_if env (For t a b c s) z n h = refl
stmt-no_if env (Goto t w) z n h = refl
stmt-no_if env (Continue t) z n h = refl
stmt-no_if env (Break t) z n h = refl
stmt-no_if env (Return t e) z n h = refl

-- ---- no label stands where an expression does

binary-no_colon : (op : BinaryOperator) → is_mark m.Colon (Some (Sign (binary_mark op))) ≡ false
unfolding same_mark
binary-no_colon binary.Multiply = refl
binary-no_colon binary.Divide = refl
binary-no_colon binary.Remainder = refl
binary-no_colon binary.Add = refl
binary-no_colon binary.Subtract = refl
binary-no_colon binary.LeftShift = refl
binary-no_colon binary.RightShift = refl
binary-no_colon binary.Less = refl
binary-no_colon binary.Greater = refl
binary-no_colon binary.LessEqual = refl
binary-no_colon binary.GreaterEqual = refl
binary-no_colon binary.Equal = refl
binary-no_colon binary.NotEqual = refl
binary-no_colon binary.BitAnd = refl
binary-no_colon binary.BitXor = refl
binary-no_colon binary.BitOr = refl
binary-no_colon binary.And = refl
binary-no_colon binary.Or = refl
binary-no_colon binary.Comma = refl

assign-no_colon : (op : AssignOperator) → is_mark m.Colon (Some (Sign (assign_mark op))) ≡ false
unfolding same_mark
assign-no_colon assign.Plain = refl
assign-no_colon assign.Multiply = refl
assign-no_colon assign.Divide = refl
assign-no_colon assign.Remainder = refl
assign-no_colon assign.Add = refl
assign-no_colon assign.Subtract = refl
assign-no_colon assign.LeftShift = refl
assign-no_colon assign.RightShift = refl
assign-no_colon assign.BitAnd = refl
assign-no_colon assign.BitXor = refl
assign-no_colon assign.BitOr = refl

unary-no_label : (op : UnaryOperator) (z : List Symbol) → labels_name (unary_symbol op ∷ z) ≡ false
unary-no_label unary.Address z = refl
unary-no_label unary.Dereference z = refl
unary-no_label unary.Plus z = refl
unary-no_label unary.Minus z = refl
unary-no_label unary.Complement z = refl
unary-no_label unary.Not z = refl
unary-no_label unary.Increment z = refl
unary-no_label unary.Decrement z = refl
unary-no_label unary.Sizeof z = refl

postfixes-no_colon : (ps : Postfixes) (z : List Symbol) → is_mark m.Colon (head z) ≡ false → is_mark m.Colon (head (spell_postfixes ps z)) ≡ false
unfolding spell_expr same_mark
postfixes-no_colon NoPostfix z h = h
postfixes-no_colon (Index t e ps) z h = refl
postfixes-no_colon (Call t es ps) z h = refl
postfixes-no_colon (Select t access.Dot w ps) z h = refl
postfixes-no_colon (Select t access.Arrow w ps) z h = refl
postfixes-no_colon (Step t stepping.Increment ps) z h = refl
postfixes-no_colon (Step t stepping.Decrement ps) z h = refl

operations-no_colon : (ops : Operations) (z : List Symbol) → is_mark m.Colon (head z) ≡ false → is_mark m.Colon (head (spell_operations ops z)) ≡ false
unfolding spell_expr
operations-no_colon NoOperation z h = h
operations-no_colon (Operation t op e rest) z h = binary-no_colon op

expr-no_label : (env : Env) (e : Expr) (z : List Symbol) → WellFormed env e → is_mark m.Colon (head z) ≡ false → labels_name (spell_expr e z) ≡ false
unfolding spell_expr WellFormed same_mark
expr-no_label env (Identifier w) z h c = c
expr-no_label env (Number w) z h c = refl
expr-no_label env (Floating w) z h c = refl
expr-no_label env (Character w) z h c = refl
expr-no_label env (Wide w) z h c = refl
expr-no_label env (Strings []) z h c = absurd h
expr-no_label env (Strings (w ∷ ws)) z h c = refl
expr-no_label env (Paren t e) z h c = refl
expr-no_label env (Postfix e ps) z h c = expr-no_label env e (spell_postfixes ps z) h.1 (postfixes-no_colon ps z c)
expr-no_label env (Unary t op e) z h c = unary-no_label op (spell_expr e z)
expr-no_label env (SizeofType t ss x) z h c = refl
expr-no_label env (Cast t ss x e) z h c = refl
expr-no_label env (Chain e ops) z h c = expr-no_label env e (spell_operations ops z) h.1 (operations-no_colon ops z c)
expr-no_label env (Conditional t x a b) z h c = expr-no_label env x (Sign m.Question ∷ spell_expr a (Sign m.Colon ∷ spell_expr b z)) h.1 refl
expr-no_label env (Assign t op l r) z h c = expr-no_label env l (Sign (assign_mark op) ∷ spell_expr r z) h.1 (assign-no_colon op)

module _ (limit : ℕ) where
  label-none : (env : Env) (tokens : List Symbol) (i : ℕ) → begins_expr env (head tokens) ≡ true → labels_name tokens ≡ false → label limit (at env tokens i) ≡ Ok (None, at env tokens i)
  unfolding label sees ahead step
  label-none env [] i h c = true_is_not_false h
  label-none env (symbol.Identifier x ∷ z) i h c = rw c (rw (is_typedef env (symbol.Identifier x ∷ z) i x ∙ not-not (is_typedef_name env x) h) refl)
  label-none env (Reserved k.Case ∷ z) i h c = true_is_not_false h
  label-none env (Reserved k.Default ∷ z) i h c = true_is_not_false h
  label-none env (_ ∷ z) i h c = refl

  pub no-label : (env : Env) (s : Stmt) (z : List Symbol) (i : ℕ) → NotLabeled s → WellFormedStmt env s → label limit (at env (spell_stmt s z) i) ≡ Ok (None, at env (spell_stmt s z) i)
  unfolding label sees ahead step spell_stmt WellFormedStmt same_mark
  no-label env (Compound (Braced t ds ss)) z i n h = refl
  no-label env (Expression e) z i n h = label-none env (spell_expr e (Sign m.Semicolon ∷ z)) i (expr-begins env e (Sign m.Semicolon ∷ z) h) (expr-no_label env e (Sign m.Semicolon ∷ z) h refl)
  no-label env (Empty t) z i n h = refl
  no-label env (Labeled ls s) z i n h = absurd n
  no-label env (If t c s a) z i n h = refl
  no-label env (Switch t e s) z i n h = refl
  no-label env (While t e s) z i n h = refl
  no-label env (Do t s e) z i n h = refl
  no-label env (For t a b c s) z i n h = refl
  no-label env (Goto t w) z i n h = refl
  no-label env (Continue t) z i n h = refl
  no-label env (Break t) z i n h = refl
  no-label env (Return t e) z i n h = refl

  -- an expression begins an expression statement
  pub begins-expression : (env env' : Env) (p : Parser Stmt) (tokens : List Symbol) (i : ℕ) → begins_expr env' (head tokens) ≡ true → unlabeled limit p (at env tokens i) ≡ expression_stmt limit (at env tokens i)
  unfolding unlabeled compound ahead
  begins-expression env env' p [] i h = true_is_not_false h
  begins-expression env env' p (Sign m.OpenBrace ∷ z) i h = true_is_not_false h
  begins-expression env env' p (Sign m.Semicolon ∷ z) i h = true_is_not_false h
  begins-expression env env' p (Reserved k.Goto ∷ z) i h = true_is_not_false h
  begins-expression env env' p (Reserved k.Continue ∷ z) i h = true_is_not_false h
  begins-expression env env' p (Reserved k.Break ∷ z) i h = true_is_not_false h
  begins-expression env env' p (Reserved k.Return ∷ z) i h = true_is_not_false h
  begins-expression env env' p (Reserved k.If ∷ z) i h = true_is_not_false h
  begins-expression env env' p (Reserved k.Switch ∷ z) i h = true_is_not_false h
  begins-expression env env' p (Reserved k.While ∷ z) i h = true_is_not_false h
  begins-expression env env' p (Reserved k.Do ∷ z) i h = true_is_not_false h
  begins-expression env env' p (Reserved k.For ∷ z) i h = true_is_not_false h
  begins-expression env env' p (_ ∷ z) i h = refl
