-- All statements keep their promise: by the tree, each part at every bound up to one.
use Rattle.std.proofs.Common.{ℕ, arith}
use Rattle.pw_types.specs.TypedTrees.{Initialiser, Statement, Empty, Evaluate, Block, If, While, Do, For, Switch, Label, Goto, Break, Continue, Return, Arms, NoArm, Arm, Otherwise, NoElse, Else, Statements, NoStatement, OneStatement}
use Rattle.pw_lower.specs.Statements.{lower_statement}
use Rattle.pw_cmean.specs.Execution.{meaning}
use Rattle.pw_law_refine.specs.Expressions.{ExpressionsKeep, ConditionsKeep}
use Rattle.pw_law_refine.specs.Statements.{StatementKeeps}
use Rattle.pw_law_refine.specs.StatementParts.{ListKeeps, ArmsKeep, ArmsTakeUp, LocalsKeep, InitialiserKeeps}
use Rattle.pw_law_refine_stmts.specs.Bounds.{UpTo}
use Rattle.pw_law_refine_stmts.proofs.Laws.{Laws}
use Rattle.pw_law_refine_stmts.proofs.Simple.{empty-keeps, evaluate-keeps, goto-keeps, break-keeps, continue-keeps, return-keeps}
use Rattle.pw_law_refine_stmts.proofs.Taking.{list-takes-up, arms-take-up}
use Rattle.pw_law_refine_stmts.proofs.Lists.{no-statement-keeps, list-keeps}
use Rattle.pw_law_refine_stmts.proofs.Labels.{label-keeps}
use Rattle.pw_law_refine_stmts.proofs.Arms.{no-arm-keeps, else-keeps, arm-keeps}
use Rattle.pw_law_refine_stmts.proofs.Whiles.{while-keeps, do-keeps}
use Rattle.pw_law_refine_stmts.proofs.Fors.{for-keeps}
use Rattle.pw_law_refine_stmts.proofs.Switches.{switch-keeps}
use Rattle.pw_law_refine_stmts.proofs.Blocks.{block-keeps}

-- the arms of an `if`, whose gotos are taken up
pub if-keeps : Laws → (bound t : ℕ) (list : Arms) (otherwise : Otherwise) → ArmsTakeUp bound list otherwise → StatementKeeps bound (If t list otherwise)
unfolding lower_statement meaning
if-keeps laws bound t list otherwise takes = λ x numbers breaks continues from back ways c active set spots entry s m related met.
    takes x numbers breaks continues from back ways c active (laws.ifs x numbers breaks continues from back ways t list otherwise c active set) spots entry s m related met

module _
    (laws : Laws) (bound : ℕ) (expressions : UpTo bound ExpressionsKeep) (conditions : UpTo bound ConditionsKeep) (locals : UpTo bound LocalsKeep)
    (initialisers : UpTo bound (λ k. (i : Initialiser) → InitialiserKeeps k i)) where
  mutual
    pub statement-keeps : (a : Statement) → UpTo bound (λ k. StatementKeeps k a)
    statement-keeps (Empty t) k less = empty-keeps k t
    statement-keeps (Evaluate t e) k less = evaluate-keeps laws k t e (expressions k less)
    statement-keeps (Block t first count all list) k less = block-keeps laws k t first count all list (locals k less) (initialisers k less) (list-takes-up laws k list (λ j h. list-keep list j (omega (arith, h, less))))
    statement-keeps (If t list otherwise) k less = if-keeps laws k t list otherwise (arms-take-up laws k list otherwise (λ j h. arms-keep list otherwise (last-keeps otherwise) j (omega (arith, h, less))))
    statement-keeps (While t e body) k less = while-keeps laws k t e body (λ j h. conditions j (omega (arith, h, less))) (λ j h. statement-keeps body j (omega (arith, h, less)))
    statement-keeps (Do t body e) k less = do-keeps laws k t body e (λ j h. conditions j (omega (arith, h, less))) (λ j h. statement-keeps body j (omega (arith, h, less)))
    statement-keeps (For t first e third body) k less =
        for-keeps laws k t first e third body (λ j h. expressions j (omega (arith, h, less))) (λ j h. conditions j (omega (arith, h, less))) (λ j h. statement-keeps body j (omega (arith, h, less)))
    statement-keeps (Switch t e cases default body) k less = switch-keeps laws k t e cases default body (expressions k less) (statement-keeps body k less)
    statement-keeps (Label t labels body) k less = label-keeps laws k t labels body (λ j h. statement-keeps body j (omega (arith, h, less)))
    statement-keeps (Goto t l) k less = goto-keeps k t l
    statement-keeps (Break t) k less = break-keeps k t
    statement-keeps (Continue t) k less = continue-keeps k t
    statement-keeps (Return t e) k less = return-keeps laws k t e (expressions k less)

    pub list-keep : (list : Statements) → UpTo bound (λ k. ListKeeps k list)
    list-keep NoStatement k less = no-statement-keeps k
    list-keep (OneStatement a rest) k less = list-keeps laws k a rest (statement-keeps a k less) (list-keep rest k less)

    pub last-keeps : (otherwise : Otherwise) → UpTo bound (λ k. ArmsKeep k NoArm otherwise)
    last-keeps NoElse k less = no-arm-keeps k
    last-keeps (Else a) k less = else-keeps k a (statement-keeps a k less)

    pub arms-keep : (list : Arms) (otherwise : Otherwise) → UpTo bound (λ k. ArmsKeep k NoArm otherwise) → UpTo bound (λ k. ArmsKeep k list otherwise)
    arms-keep NoArm otherwise last k less = last k less
    arms-keep (Arm t e a rest) otherwise last k less = arm-keeps laws k t e a rest otherwise (conditions k less) (statement-keeps a k less) (arms-keep rest otherwise last k less)
