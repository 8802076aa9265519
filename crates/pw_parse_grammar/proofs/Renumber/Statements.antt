-- Declarations, statements and translation units that are well formed are so with the numbers of their tokens.
use Rattle.std.proofs.Common.{◌≡◌, ℕ, ◌≤◌, Bool, false, List, [], ◌∷◌, Option, Some, None, refl, subst}
use Rattle.pw_tree.specs.Levels.{conditional, assignment}
use Rattle.pw_tree.specs.Scopes.{Env}
use Rattle.pw_tree.specs.Trees.{Specifiers, Init, Value, Braces, Inits, NoInit, Listed, Initializer, InitDeclarator, Decl, Label, CaseLabel, DefaultLabel, NameLabel, Stmt, Compound, Expression, Labeled, If, Switch, While, Do, For, Return, Alternative, NoElse, Otherwise, ElseIf, Block, Braced, Stmts, NoStmt, Next, Function, External, Definition, Declaration, Module}
use Rattle.pw_tree.specs.WellFormed.{Named, WellFormedInit, WellFormedInits, WellFormedInitializer, WellFormedInitDeclarators, WellFormedDecl, WellFormedDecls, WellFormedLabel, WellFormedLabels, WellFormedStmt, WellFormedAlternative, WellFormedBlock, WellFormedStmts, WellFormedFunction, WellFormedExternal, WellFormedExternals, WellFormedModule}
use Rattle.pw_parse_grammar.specs.TokenNumbers.{number_specifiers, number_init, number_inits, number_initializer, number_init_declarators, number_decl, number_decls, number_label, number_labels, number_stmt, number_alternative, number_block, number_stmts, number_external, number_externals, number_function, number_module}
use Rattle.pw_parse_grammar.proofs.Renumber.Scopes.{keeps-type, declares-name, declares-entered, declares-expr, declares-specifiers, declares-optional, declares-init, declares-initializer, declares-decl, declares-decls, declares-label, declares-labels, declares-stmt, declares-external}
use Rattle.pw_parse_grammar.proofs.Renumber.Shapes.{keeps-level, may-precede, has-label, has-external, has-specifier, has-init, not-labeled, not-if}
use Rattle.pw_parse_grammar.proofs.Renumber.Expressions.{well-expr, well-specifiers, well-declarator, well-optional}

-- ---- declarations

mutual
  unfolding WellFormedInit number_init

  pub well-init : (x : Init) (n : ℕ) {env env2 : Env} → env ≡ env2 → WellFormedInit env x → WellFormedInit env2 (number_init n x)
  well-init (Value e) start same h = (subst (λ v. v ≤ assignment) (keeps-level e _) h.0, well-expr e _ same h.1)
  well-init (Braces n is trailing) start same h = (has-init is _ h.0, well-inits is _ _ same h.1)

  pub well-inits : (x : Inits) (first : Bool) (n : ℕ) {env env2 : Env} → env ≡ env2 → WellFormedInits env x → WellFormedInits env2 (number_inits first n x)
  well-inits NoInit first start same h = tt
  well-inits (Listed i is) first start same h = (well-init i _ same h.0, well-inits is _ _ (declares-init i _ same) h.1)

pub well-initializer : (x : Option Initializer) (n : ℕ) {env env2 : Env} → env ≡ env2 → WellFormedInitializer env x → WellFormedInitializer env2 (number_initializer n x)
well-initializer None start same h = tt
well-initializer (Some i) start same h = well-init i.init _ same h

pub well-init_declarators : (x : List InitDeclarator) (ss : Specifiers) (m : ℕ) (first : Bool) (n : ℕ) {env env2 : Env} → env ≡ env2 → WellFormedInitDeclarators env ss x → WellFormedInitDeclarators env2 (number_specifiers m ss) (number_init_declarators first n x)
well-init_declarators [] ss m first start same h = tt
well-init_declarators (d ∷ ds) ss m first start same h = (
  well-declarator d.declarator _ Named same (keeps-type ss m) h.0,
  well-initializer d.initializer _ (declares-name ss d.declarator m _ same) h.1,
  well-init_declarators ds ss m _ _ (declares-initializer d.initializer _ (declares-name ss d.declarator m _ same)) h.2,
)

pub well-decl : (x : Decl) (n : ℕ) {env env2 : Env} → env ≡ env2 → WellFormedDecl env x → WellFormedDecl env2 (number_decl n x)
well-decl d start same h = (
  has-specifier d.specifiers _ h.0,
  well-specifiers d.specifiers _ false same h.1,
  well-init_declarators d.declarators d.specifiers _ _ _ (declares-specifiers d.specifiers _ same) h.2,
)

pub well-decls : (x : List Decl) (n : ℕ) {env env2 : Env} → env ≡ env2 → WellFormedDecls env x → WellFormedDecls env2 (number_decls n x)
well-decls [] start same h = tt
well-decls (d ∷ ds) start same h = (well-decl d _ same h.0, well-decls ds _ (declares-decl d _ same) h.1)

-- ---- statements

pub well-label : (x : Label) (n : ℕ) {env env2 : Env} → env ≡ env2 → WellFormedLabel env x → WellFormedLabel env2 (number_label n x)
well-label (CaseLabel n e) start same h = (subst (λ v. v ≤ conditional) (keeps-level e _) h.0, well-expr e _ same h.1)
well-label (DefaultLabel n) start same h = tt
well-label (NameLabel w) start same h = tt

pub well-labels : (x : List Label) (n : ℕ) {env env2 : Env} → env ≡ env2 → WellFormedLabels env x → WellFormedLabels env2 (number_labels n x)
well-labels [] start same h = tt
well-labels (l ∷ ls) start same h = (well-label l _ same h.0, well-labels ls _ (declares-label l _ same) h.1)

mutual
  unfolding WellFormedStmt number_stmt

  pub well-stmt : (x : Stmt) (n : ℕ) {env env2 : Env} → env ≡ env2 → WellFormedStmt env x → WellFormedStmt env2 (number_stmt n x)
  well-stmt (Compound b) start same h = well-block b _ same h
  well-stmt (Expression e) start same h = well-expr e _ same h
  well-stmt (Labeled ls s) start same h = (has-label ls _ h.0, well-labels ls _ same h.1, not-labeled s _ h.2, well-stmt s _ (declares-labels ls _ same) h.3)
  well-stmt (If n c s a) start same h = (well-expr c _ same h.0, well-stmt s _ (declares-expr c _ same) h.1, may-precede s a _ _ h.2, well-alternative a _ (declares-stmt s _ (declares-expr c _ same)) h.3)
  well-stmt (Switch n e s) start same h = (well-expr e _ same h.0, well-stmt s _ (declares-expr e _ same) h.1)
  well-stmt (While n e s) start same h = (well-expr e _ same h.0, well-stmt s _ (declares-expr e _ same) h.1)
  well-stmt (Do n s e) start same h = (well-stmt s _ same h.0, well-expr e _ (declares-stmt s _ same) h.1)
  well-stmt (For n a b c s) start same h = (well-optional a _ same h.0, well-optional b _ (declares-optional a _ same) h.1, well-optional c _ (declares-optional b _ (declares-optional a _ same)) h.2, well-stmt s _ (declares-optional c _ (declares-optional b _ (declares-optional a _ same))) h.3)
  well-stmt (Return n e) start same h = well-optional e _ same h
  well-stmt _ start same h = tt

  pub well-alternative : (x : Alternative) (n : ℕ) {env env2 : Env} → env ≡ env2 → WellFormedAlternative env x → WellFormedAlternative env2 (number_alternative n x)
  well-alternative NoElse start same h = tt
  well-alternative (Otherwise s) start same h = (not-if s _ h.0, well-stmt s _ same h.1)
  well-alternative (ElseIf n c s a) start same h = (well-expr c _ same h.0, well-stmt s _ (declares-expr c _ same) h.1, may-precede s a _ _ h.2, well-alternative a _ (declares-stmt s _ (declares-expr c _ same)) h.3)

  pub well-block : (x : Block) (n : ℕ) {env env2 : Env} → env ≡ env2 → WellFormedBlock env x → WellFormedBlock env2 (number_block n x)
  well-block (Braced n ds ss) start same h = (well-decls ds _ same h.0, well-stmts ss _ (declares-decls ds _ same) h.1)

  pub well-stmts : (x : Stmts) (n : ℕ) {env env2 : Env} → env ≡ env2 → WellFormedStmts env x → WellFormedStmts env2 (number_stmts n x)
  well-stmts NoStmt start same h = tt
  well-stmts (Next s ss) start same h = (well-stmt s _ same h.0, well-stmts ss _ (declares-stmt s _ same) h.1)

-- ---- modules

pub well-function : (x : Function) (n : ℕ) {env env2 : Env} → env ≡ env2 → WellFormedFunction env x → WellFormedFunction env2 (number_function n x)
well-function f start same h =
    let e1 = declares-specifiers f.specifiers start same in
    let e2 = declares-entered f.declarator _ (declares-name f.specifiers f.declarator _ _ e1) in (
      well-specifiers f.specifiers _ false same h.0,
      well-declarator f.declarator _ Named e1 (keeps-type f.specifiers _) h.1,
      well-decls f.declarations _ e2 h.2,
      well-block f.body _ (declares-decls f.declarations _ e2) h.3,
    )

pub well-external : (x : External) (n : ℕ) {env env2 : Env} → env ≡ env2 → WellFormedExternal env x → WellFormedExternal env2 (number_external n x)
well-external (Definition f) start same h = well-function f _ same h
well-external (Declaration d) start same h = well-decl d _ same h

pub well-externals : (x : List External) (n : ℕ) {env env2 : Env} → env ≡ env2 → WellFormedExternals env x → WellFormedExternals env2 (number_externals n x)
well-externals [] start same h = tt
well-externals (e ∷ es) start same h = (well-external e _ same h.0, well-externals es _ (declares-external e _ same) h.1)

pub well-module : (x : Module) → WellFormedModule x → WellFormedModule (number_module x)
well-module x h = (has-external x.externals _ h.0, well-externals x.externals _ refl h.1)
