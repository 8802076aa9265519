-- In trees of C90's grammar each labelled statement has a label (ISO C90 6.6.1).
use Rattle.std.specs.Prelude.{◌≢◌, List, [], ◌∷◌}
use Rattle.std.proofs.Common.{subst}
use Rattle.pw_tree.specs.Scopes.{Env, after_expr, after_stmt, after_optional, after_labels, after_decls, after_external}
use Rattle.pw_tree.specs.WellFormed.{NotEmpty, WellFormedStmt, WellFormedAlternative, WellFormedBlock, WellFormedStmts, WellFormedExternals, WellFormedModule, in_function}
use Rattle.pw_tree.specs.Trees.{Stmt, Alternative, Block, Stmts, External, Module}
use Rattle.pw_tree.specs.Trees as S

abbrev mutual
  pub HasText : Stmt → Type 0
  HasText (S.Compound b) = BlockHasText b
  HasText (S.Labeled ls s) = (ls ≢ []) × HasText s
  HasText (S.If t c s a) = HasText s × AlternativeHasText a
  HasText (S.Switch t e s) = HasText s
  HasText (S.While t e s) = HasText s
  HasText (S.Do t s e) = HasText s
  HasText (S.For t a b c s) = HasText s
  HasText _ = Unit {0}

  pub AlternativeHasText : Alternative → Type 0
  AlternativeHasText S.NoElse = Unit {0}
  AlternativeHasText (S.Otherwise s) = HasText s
  AlternativeHasText (S.ElseIf t c s a) = HasText s × AlternativeHasText a

  pub BlockHasText : Block → Type 0
  BlockHasText (S.Braced t ds ss) = StmtsHaveText ss

  pub StmtsHaveText : Stmts → Type 0
  StmtsHaveText S.NoStmt = Unit {0}
  StmtsHaveText (S.Next s rest) = HasText s × StmtsHaveText rest

abbrev pub ExternalHasText : External → Type 0
ExternalHasText (S.Definition f) = BlockHasText f.body
ExternalHasText (S.Declaration d) = Unit {0}

abbrev pub ExternalsHaveText : List External → Type 0
ExternalsHaveText [] = Unit {0}
ExternalsHaveText (x ∷ rest) = ExternalHasText x × ExternalsHaveText rest

abbrev pub ModuleHasText : Module → Type 0
ModuleHasText m = ExternalsHaveText m.externals

-- ---- from the grammar

pub never_nil : {X : Type 0} (x : X) (xs : List X) → (x ∷ xs) ≢ []
never_nil {X} x xs e = subst P e tt
  where
    P : List X → Type 0
    P [] = ⊥
    P (y ∷ ys) = Unit {0}

some_there : {X : Type 0} (xs : List X) → NotEmpty xs → xs ≢ []
some_there [] h = absurd h
some_there (x ∷ xs) h = never_nil x xs

mutual
  unfolding WellFormedStmt

  stmt_text : (env : Env) (s : Stmt) → WellFormedStmt env s → HasText s
  stmt_text env (S.Compound b) h = block_text env b h
  stmt_text env (S.Labeled ls s) h = (some_there ls h.0, stmt_text (after_labels env ls) s h.3)
  stmt_text env (S.If t c s a) h = (stmt_text (after_expr env c) s h.1, alternative_text (after_stmt (after_expr env c) s) a h.3)
  stmt_text env (S.Switch t e s) h = stmt_text (after_expr env e) s h.1
  stmt_text env (S.While t e s) h = stmt_text (after_expr env e) s h.1
  stmt_text env (S.Do t s e) h = stmt_text env s h.0
  stmt_text env (S.For t a b c s) h = stmt_text (after_optional (after_optional (after_optional env a) b) c) s h.3
  stmt_text env _ h = tt

  alternative_text : (env : Env) (a : Alternative) → WellFormedAlternative env a → AlternativeHasText a
  alternative_text env S.NoElse h = tt
  alternative_text env (S.Otherwise s) h = stmt_text env s h.1
  alternative_text env (S.ElseIf t c s a) h = (stmt_text (after_expr env c) s h.1, alternative_text (after_stmt (after_expr env c) s) a h.3)

  block_text : (env : Env) (b : Block) → WellFormedBlock env b → BlockHasText b
  block_text env (S.Braced t ds ss) h = stmts_text (after_decls env ds) ss h.1

  stmts_text : (env : Env) (ss : Stmts) → WellFormedStmts env ss → StmtsHaveText ss
  stmts_text env S.NoStmt h = tt
  stmts_text env (S.Next s rest) h = (stmt_text env s h.0, stmts_text (after_stmt env s) rest h.1)

externals_text : (env : Env) (xs : List External) → WellFormedExternals env xs → ExternalsHaveText xs
externals_text env [] h = tt
externals_text env (S.Definition f ∷ rest) h = (block_text (after_decls (in_function env f) f.declarations) f.body h.0.3, externals_text (after_external env (S.Definition f)) rest h.1)
externals_text env (S.Declaration d ∷ rest) h = (tt, externals_text (after_external env (S.Declaration d)) rest h.1)

pub module_text : (m : Module) → WellFormedModule m → ModuleHasText m
module_text m h = externals_text [] m.externals h.1
