-- Statements: by their parts.
use Rattle.std.specs.Prelude.{ℕ, Option, None, Some, refl}
use Rattle.pw_tree.specs.Trees.{Expr, Stmt, Alternative, Block, Stmts}
use Rattle.pw_tree.specs.Trees as S
use Rattle.pw_types.specs.TypeTrees.{type_of}
use Rattle.pw_types.specs.TypedTrees.{Expression, Statement, Statements}
use Rattle.pw_check_walk.specs.Walks.{bind}
use Rattle.pw_check_rules.specs.States.{State, Rule, scoped, one_deeper}
use Rattle.pw_check_rules.specs.Statements.{Behind, whole_rule, optional_rule, condition_rule, optional_condition, switch_rule, return_rule, in_switch, in_loop, stmt_rule, alternative_rule, block_rule, stmts_rule}
use Rattle.pw_law_checked.proofs.Bare.{Bare, Going, statement_of, bare_post}
use Rattle.pw_law_checked.proofs.Walking.{Post, post_bind, after_any}
use Rattle.pw_law_checked.specs.Designators.{NamesObjectsIfAny, StatementNamesObjects, StatementsNameObjects, ArmsNameObjects, ElseNamesObjects}
use Rattle.pw_law_checked.proofs.DesignatorNodes.{Names, NamesIn, value_named, cast_names, promote_names}
use Rattle.pw_law_checked.proofs.DesignatorPhrases.{expr_named}
use Rattle.pw_law_checked.proofs.DesignatorInitialisers.{Initialises, decls_names}

abbrev pub IsStated : Statement × State → Type 0
IsStated r = StatementNamesObjects r.0

abbrev AreStated : Statements × State → Type 0
AreStated r = StatementsNameObjects r.0

abbrev IsStatedBehind : Behind × State → Type 0
IsStatedBehind r = ArmsNameObjects r.0.arms × ElseNamesObjects r.0.otherwise

abbrev IfAny : Option Expression × State → Type 0
IfAny r = NamesObjectsIfAny r.0

-- ---- parts of statements

whole_named : (e : Expr) (s : State) → Post (whole_rule e s) NamesIn
unfolding whole_rule
whole_named e s = post_bind _ _ Names NamesIn (expr_named e s) (λ r g. value_named r.0 r.1 g)

optional_named : (e : Option Expr) (s : State) → Post (optional_rule e s) IfAny
unfolding optional_rule bind
optional_named None s = tt
optional_named (Some e) s = post_bind (whole_rule e s) _ NamesIn IfAny (whole_named e s) (λ r g. g)

condition_named : (t : ℕ) (e : Expr) (s : State) → Post (condition_rule t e s) NamesIn
unfolding condition_rule bind
condition_named t e s = post_bind (whole_rule e s) _ NamesIn NamesIn (whole_named e s) (λ r g met. g)

optional_condition_named : (t : ℕ) (e : Option Expr) (s : State) → Post (optional_condition t e s) IfAny
unfolding optional_condition bind
optional_condition_named t e s = post_bind (optional_rule e s) _ IfAny IfAny (optional_named e s) (λ r g met. g)

switch_named : (t : ℕ) (e : Expr) (s : State) → Post (switch_rule t e s) NamesIn
unfolding switch_rule bind
switch_named t e s = post_bind (whole_rule e s) _ NamesIn NamesIn (whole_named e s) (λ r g met. promote_names r.0 g)

scoped_stated : (s : State) (inside : Rule Statement) → ((t : State) → Post (inside t) IsStated) → Post (scoped inside s) IsStated
unfolding scoped bind
scoped_stated s inside h = post_bind (inside (one_deeper s)) _ IsStated IsStated (h (one_deeper s)) (λ r k. k)

in_loop_stated : (s : State) (body : Rule Statement) → ((t : State) → Post (body t) IsStated) → Post (in_loop body s) IsStated
unfolding in_loop bind
in_loop_stated s body h = post_bind (body _) _ IsStated IsStated (h _) (λ r k. k)

in_switch_stated : (s : State) (e : Expression) (body : Rule Statement) → ((t : State) → Post (body t) IsStated) → Post (in_switch e body s) (λ r. StatementNamesObjects r.0.0)
unfolding in_switch bind
in_switch_stated s e body h = post_bind (body _) _ IsStated (λ r. StatementNamesObjects r.0.0) (h _) (λ r k. k)

bare_stated : (b : Bare) → StatementNamesObjects (statement_of b)
bare_stated (Going t n) = tt
bare_stated b = tt

return_stated : (t : ℕ) (e : Option Expr) (s : State) → Post (return_rule t e s) IsStated
unfolding return_rule bind
return_stated t None s = tt
return_stated t (Some e) s = post_bind (whole_rule e s) _ NamesIn IsStated (whole_named e s) (λ x g met. cast_names (type_of x.1.body.result) x.0 g)

-- ---- statements

mutual
  unfolding stmt_rule

  stmt_stated : (st : Stmt) (s : State) → Post (stmt_rule st s) IsStated
  stmt_stated (S.Compound b) s = scoped_stated s (block_rule b) (λ t. block_stated b t)
  stmt_stated (S.Expression e) s = post_bind _ _ Names IsStated (expr_named e s) (λ a g. post_bind _ _ NamesIn IsStated (value_named a.0 a.1 g) (λ x k. k))
  stmt_stated (S.Labeled ls st) s = after_any _ _ IsStated (λ ns. post_bind _ _ IsStated IsStated (stmt_stated st ns.1) (λ r k. k))
  stmt_stated (S.If t c st a) s =
      post_bind _ _ NamesIn IsStated (condition_named t c s) (λ x g.
      post_bind _ _ IsStated IsStated (stmt_stated st x.1) (λ r k.
      post_bind _ _ IsStatedBehind IsStated (alternative_stated a r.1) (λ u j. ((g, k, j.0), j.1))))
  stmt_stated (S.Switch t e st) s =
      post_bind _ _ NamesIn IsStated (switch_named t e s) (λ x g.
      post_bind _ _ (λ r. StatementNamesObjects r.0.0) IsStated (in_switch_stated x.1 x.0 (stmt_rule st) (λ t. stmt_stated st t)) (λ r k. (g, k)))
  stmt_stated (S.While t e st) s =
      post_bind _ _ NamesIn IsStated (condition_named t e s) (λ x g.
      post_bind _ _ IsStated IsStated (in_loop_stated x.1 (stmt_rule st) (λ t. stmt_stated st t)) (λ r k. (g, k)))
  stmt_stated (S.Do t st e) s =
      post_bind _ _ IsStated IsStated (in_loop_stated s (stmt_rule st) (λ t. stmt_stated st t)) (λ r k.
      post_bind _ _ NamesIn IsStated (condition_named t e r.1) (λ x g. (g, k)))
  stmt_stated (S.For t a b c st) s =
      post_bind _ _ IfAny IsStated (optional_named a s) (λ x g.
      post_bind _ _ IfAny IsStated (optional_condition_named t b x.1) (λ y h.
      post_bind _ _ IfAny IsStated (optional_named c y.1) (λ z i.
      post_bind _ _ IsStated IsStated (in_loop_stated z.1 (stmt_rule st) (λ t. stmt_stated st t)) (λ r k. (g, h, i, k)))))
  stmt_stated (S.Return t e) s = return_stated t e s
  stmt_stated st s = bare_post IsStated st refl s bare_stated

  alternative_stated : (a : Alternative) (s : State) → Post (alternative_rule a s) IsStatedBehind
  alternative_stated S.NoElse s = (tt, tt)
  alternative_stated (S.Otherwise st) s = post_bind _ _ IsStated IsStatedBehind (stmt_stated st s) (λ r k. (tt, k))
  alternative_stated (S.ElseIf t c st a) s =
      post_bind _ _ NamesIn IsStatedBehind (condition_named t c s) (λ x g.
      post_bind _ _ IsStated IsStatedBehind (stmt_stated st x.1) (λ r k.
      post_bind _ _ IsStatedBehind IsStatedBehind (alternative_stated a r.1) (λ u j. ((g, k, j.0), j.1))))

  pub block_stated : (b : Block) (s : State) → Post (block_rule b s) IsStated
  block_stated (S.Braced t ds ss) s =
      after_any _ _ IsStated (λ first.
      post_bind _ _ Initialises IsStated (decls_names ds first.1) (λ r k.
      after_any _ _ IsStated (λ end.
      post_bind _ _ AreStated IsStated (stmts_stated ss end.1) (λ u j. (k, j)))))

  stmts_stated : (ss : Stmts) (s : State) → Post (stmts_rule ss s) AreStated
  stmts_stated S.NoStmt s = tt
  stmts_stated (S.Next st rest) s =
      post_bind _ _ IsStated AreStated (stmt_stated st s) (λ r k.
      post_bind _ _ AreStated AreStated (stmts_stated rest r.1) (λ u j. (k, j)))
