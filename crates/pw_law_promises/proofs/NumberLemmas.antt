-- The numbers of nodes with lists in them, by those of their parts.
use Rattle.std.specs.Prelude.{ℕ, ◌≡◌, Option, List, All, IfSome}
use Rattle.std.specs.declared.alloc.Global.{Global}
use Rattle.std.specs.declared.boxed.Box.{Box}
use Rattle.std.specs.declared.vec.Vec.{Vec}
use Rattle.std.proofs.Common.{ap, sym, subst, ◌∙◌}
use Rattle.std.proofs.lemmas.List.Elements.{recursion_from_All}
use Rattle.pw_types.specs.Spines.{first_in}
use Rattle.pw_typed.specs.Views.{view_form, view_exprs, view_initialisers, view_stmt_form, view_stmts, view_arms, view_otherwise}
use Rattle.pw_typed.specs.declared.tree.Arm.{Arm}
use Rattle.pw_typed.specs.declared.tree.Initialiser.{Initialiser}
use Rattle.pw_typed.specs.declared.tree.Symbol.{Symbol}
use Rattle.pw_typed.specs.declared.tree.TExpr.{TExpr}
use Rattle.pw_typed.specs.declared.tree.TForm.{TForm}
use Rattle.pw_typed.specs.declared.tree.TForm as form
use Rattle.pw_typed.specs.declared.tree.TStmt.{TStmt}
use Rattle.pw_typed.specs.declared.tree.TStmtForm.{TStmtForm}
use Rattle.pw_typed.specs.declared.tree.TStmtForm as stmt
use Rattle.pw_typed.proofs.Rows.{call_view, call_value_view, block_view, if_view}
use Rattle.pw_law_checked.specs.Lawful.{AreWords, AreWordsIn, AreWordsOf}
use Rattle.pw_law_checked.specs.Words.{HasWords, WordsInArms, WordsInElse, WordsInStatement, WordsInStatements}

pub call_words : (f : TForm) (s : Symbol) (args : Vec TExpr Global) (es : List TExpr) → f ≡ form.Call s args → es ≡ args.items → AreWordsOf (view_exprs es) → AreWordsIn (view_form f)
call_words f s args es is same h = subst AreWordsIn (sym (ap view_form is ∙ call_view s args)) (subst (λ xs. AreWordsOf (view_exprs xs)) same h)

pub call_value_words : (f : TForm) (a : Box TExpr Global) (args : Vec TExpr Global) (es : List TExpr) → f ≡ form.CallValue a args → es ≡ args.items → AreWordsOf (view_exprs es)
    → IfSome (first_in (view_form f)) AreWords → AreWordsIn (view_form f)
call_value_words f a args es is same k =
    subst (λ v. IfSome (first_in v) AreWords → AreWordsIn v) (sym (ap view_form is ∙ call_value_view a args)) (λ h. (h, subst (λ xs. AreWordsOf (view_exprs xs)) same k))

pub block_words : (t : ℕ) (f : TStmtForm) (first count : ℕ) (initialisers : Vec Initialiser Global) (items : Vec TStmt Global) (is : List Initialiser) (ss : List TStmt) → f ≡ stmt.Block first count initialisers items
    → is ≡ initialisers.items → ss ≡ items.items → All HasWords (view_initialisers is) → WordsInStatements (view_stmts ss) → WordsInStatement (view_stmt_form t f)
block_words t f first count initialisers items is ss shape one two h k =
    subst WordsInStatement (sym (ap (view_stmt_form t) shape ∙ block_view t first count initialisers items))
    (recursion_from_All HasWords (view_initialisers initialisers.items) (subst (λ xs. All HasWords (view_initialisers xs)) one h), subst (λ xs. WordsInStatements (view_stmts xs)) two k)

pub if_words : (t : ℕ) (f : TStmtForm) (arms : Vec Arm Global) (o : Option (Box TStmt Global)) (all : List Arm) → f ≡ stmt.If arms o → all ≡ arms.items → WordsInArms (view_arms all) → WordsInElse (view_otherwise o)
    → WordsInStatement (view_stmt_form t f)
if_words t f arms o all shape one h k = subst WordsInStatement (sym (ap (view_stmt_form t) shape ∙ if_view t arms o)) (subst (λ xs. WordsInArms (view_arms xs)) one h, k)
