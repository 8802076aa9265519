-- Lowering of statements, form by form.
use Rattle.std.proofs.Common.{◌≡◌, ℕ, Option, Some, None, is_some, Bool, true, false, ◌||◌, nat_lt, List, [], ◌∷◌, ◌++◌, ◌+◌, ◌<◌, length, get_or, drop, refl, ap, ◌∙◌, sym, arith}
use Rattle.std.proofs.lemmas.Bool.{lt-ltb}
use Rattle.std.proofs.lemmas.List.{append_assoc, at_drop_more}
use Rattle.pw_flow.specs.declared.flow.End.TheVariants.{Jump}
use Rattle.pw_types.specs.TypedTrees.{Statement, Block, Initialiser, Statements, NoStatement, OneStatement, Arms, NoArm, Arm, Otherwise, NoElse, Else}
use Rattle.std.specs.declared.alloc.Global.{Global}
use Rattle.std.specs.declared.boxed.Box.{Box}
use Rattle.std.specs.declared.vec.Vec.{Vec}
use Rattle.pw_typed.specs.declared.tree.Arm as tree
use Rattle.pw_typed.specs.declared.tree.Case.{Case}
use Rattle.pw_typed.specs.declared.tree.TExpr.{TExpr}
use Rattle.pw_typed.specs.declared.tree.TStmt.{TStmt}
use Rattle.pw_typed.specs.declared.tree.TStmtForm as stmt
use Rattle.pw_typed.proofs.Rows.{if_view}
use Rattle.pw_typed.specs.Views.{view_expr, view_optional, view_otherwise, view_stmt, view_stmt_form, view_arms, view_cases}
use Rattle.pw_lower.specs.declared.code.Code.{Code}
use Rattle.pw_lower.specs.declared.place.Ways.{Ways}
use Rattle.pw_lower.specs.Codes.{cut_here, leave, block_of_label}
use Rattle.pw_lower.specs.Expressions.{lower}
use Rattle.pw_lower.specs.Statements.{Frame, initialised_all, begun, looping, repeating, counting, switching, returning, lower_statement, lower_statements, lower_arms, lower_otherwise}
use Rattle.pw_lstmt.specs.Frames.{all_joined, arm_code, arms_code, else_code, is_followed, join_of, joins_of}

-- ---- statements in order

pub statements_none : (f : Frame) (ways : Ways) (c : Code) → lower_statements f ways NoStatement c ≡ c
unfolding lower_statement
statements_none f ways c = refl

pub statements_more : (f : Frame) (ways : Ways) (s : Statement) (rest : Statements) (c : Code) → lower_statements f ways (OneStatement s rest) c ≡ lower_statements f ways rest (lower_statement f ways s c)
unfolding lower_statement
statements_more f ways s rest c = refl

pub empty_is : (f : Frame) (ways : Ways) (t : ℕ) (c : Code) → lower_statement f ways (view_stmt_form t stmt.Empty) c ≡ c
unfolding view_stmt_form lower_statement
empty_is f ways t c = refl

pub evaluate_is : (f : Frame) (ways : Ways) (t : ℕ) (e : TExpr) (c : Code) → lower_statement f ways (view_stmt_form t (stmt.Expr e)) c ≡ (lower f.home (view_expr e) c).code
unfolding view_stmt_form lower_statement
evaluate_is f ways t e c = refl

pub while_is : (f : Frame) (ways : Ways) (t : ℕ) (e : TExpr) (s : Box TStmt Global) (c : Code) → lower_statement f ways (view_stmt_form t (stmt.While e s)) c ≡ looping f.home (view_expr e) (λ own d. lower_statement f own (view_stmt s.value) d) c
unfolding view_stmt_form lower_statement
while_is f ways t e s c = refl

pub do_is : (f : Frame) (ways : Ways) (t : ℕ) (e : TExpr) (s : Box TStmt Global) (c : Code) → lower_statement f ways (view_stmt_form t (stmt.Do s e)) c ≡ repeating f.home (view_expr e) (λ own d. lower_statement f own (view_stmt s.value) d) c
unfolding view_stmt_form lower_statement
do_is f ways t e s c = refl

pub for_is : (f : Frame) (ways : Ways) (t : ℕ) (a b d : Option TExpr) (s : Box TStmt Global) (c : Code) → lower_statement f ways (view_stmt_form t (stmt.For a b d s)) c ≡ counting f.home (view_optional a) (view_optional b) (view_optional d) (λ own x. lower_statement f own (view_stmt s.value) x) c
unfolding view_stmt_form lower_statement
for_is f ways t a b d s c = refl

pub switch_is : (f : Frame) (ways : Ways) (t : ℕ) (e : TExpr) (cases : Vec Case Global) (default : Option ℕ) (s : Box TStmt Global) (c : Code) → lower_statement f ways (view_stmt_form t (stmt.Switch e cases default s)) c ≡ switching f.home (view_expr e) (view_cases cases.items) default (λ out d. lower_statement f (record ways { out = out }) (view_stmt s.value) d) c
unfolding view_stmt_form lower_statement
switch_is f ways t e cases default s c = refl

pub label_is : (f : Frame) (ways : Ways) (t : ℕ) (labels : Vec ℕ Global) (s : Box TStmt Global) (c : Code) → lower_statement f ways (view_stmt_form t (stmt.Label labels s)) c ≡ lower_statement f ways (view_stmt s.value) (begun labels.items c)
unfolding view_stmt_form lower_statement
label_is f ways t labels s c = refl

pub goto_is : (f : Frame) (ways : Ways) (t l : ℕ) (c : Code) → lower_statement f ways (view_stmt_form t (stmt.Goto l)) c ≡ leave (Jump (block_of_label c l)) c
unfolding view_stmt_form lower_statement
goto_is f ways t l c = refl

pub break_is : (f : Frame) (ways : Ways) (t : ℕ) (c : Code) → lower_statement f ways (view_stmt_form t stmt.Break) c ≡ leave (Jump ways.out) c
unfolding view_stmt_form lower_statement
break_is f ways t c = refl

pub continue_is : (f : Frame) (ways : Ways) (t : ℕ) (c : Code) → lower_statement f ways (view_stmt_form t stmt.Continue) c ≡ leave (Jump ways.on) c
unfolding view_stmt_form lower_statement
continue_is f ways t c = refl

pub return_is : (f : Frame) (ways : Ways) (t : ℕ) (e : Option TExpr) (c : Code) → lower_statement f ways (view_stmt_form t (stmt.Return e)) c ≡ returning f.home (view_optional e) c
unfolding view_stmt_form lower_statement
return_is f ways t e c = refl

pub statement_block : (f : Frame) (ways : Ways) (t first count : ℕ) (all : List Initialiser) (items : Statements) (c : Code) → lower_statement f ways (Block t first count all items) c ≡ lower_statements f ways items (initialised_all f.home f.locals all c)
unfolding lower_statement
statement_block f ways t first count all items c = refl

pub if_is : (f : Frame) (ways : Ways) (t : ℕ) (arms : Vec tree.Arm Global) (o : Option (Box TStmt Global)) (c : Code) → lower_statement f ways (view_stmt_form t (stmt.If arms o)) c ≡ lower_arms f ways (view_arms arms.items) (lower_otherwise f ways (view_otherwise o)) c
unfolding lower_statement
if_is f ways t arms o c = ap (λ s. lower_statement f ways s c) (if_view t arms o)

-- ---- joins

pub joined_more : (joins : List ℕ) (join : ℕ) (c : Code) → all_joined (joins ++ join ∷ []) c ≡ all_joined joins (cut_here (Jump join) join c)
joined_more [] join c = refl
joined_more (first ∷ rest) join c = ap (cut_here (Jump first) first) (joined_more rest join c)

-- ---- arms

-- whether there is an `else`
abbrev pub is_else : Otherwise → Bool
is_else NoElse = false
is_else (Else s) = true

pub else_there : (o : Option (Box TStmt Global)) → is_some o ≡ is_else (view_otherwise o)
else_there None = refl
else_there (Some s) = refl

-- arms, and what stands behind the last
behind_arms : (f : Frame) (ways : Ways) (arms : Arms) (o : Otherwise) (c : Code) → lower_arms f ways arms (lower_otherwise f ways o) c ≡ all_joined (joins_of f ways (is_else o) arms c) (else_code f ways o (arms_code f ways (is_else o) arms c))
unfolding lower_statement
behind_arms f ways NoArm NoElse c = refl
behind_arms f ways NoArm (Else r) c = refl
behind_arms f ways (Arm t e s NoArm) NoElse c = refl
behind_arms f ways (Arm t e s NoArm) (Else r) c = refl
behind_arms f ways (Arm t e s (Arm u d r rest)) NoElse c =
    ap (cut_here (Jump (join_of f true e c)) (join_of f true e c)) (behind_arms f ways (Arm u d r rest) NoElse (arm_code f ways true e s c))
behind_arms f ways (Arm t e s (Arm u d r rest)) (Else q) c =
    ap (cut_here (Jump (join_of f true e c)) (join_of f true e c)) (behind_arms f ways (Arm u d r rest) (Else q) (arm_code f ways true e s c))

-- an `if` as a whole
pub if_whole :
    (f : Frame) (ways : Ways) (arms : Arms) (o : Option (Box TStmt Global)) (more : Bool) (joins : List ℕ) (c behind after : Code)
    → more ≡ is_some o → joins ≡ joins_of f ways more arms c → behind ≡ arms_code f ways more arms c → after ≡ else_code f ways (view_otherwise o) behind
    → all_joined joins after ≡ lower_arms f ways arms (lower_otherwise f ways (view_otherwise o)) c
if_whole f ways arms o more joins c behind after m j b a =
    ap (λ l. all_joined l after) j
    ∙ ap (all_joined (joins_of f ways more arms c)) (a ∙ ap (else_code f ways (view_otherwise o)) b)
    ∙ ap (λ k. all_joined (joins_of f ways k arms c) (else_code f ways (view_otherwise o) (arms_code f ways k arms c))) (m ∙ else_there o)
    ∙ sym (behind_arms f ways arms (view_otherwise o) c)

-- ---- arms, one after another

-- whether anything stands behind an arm, by how many arms are left
pub followed : (more : Bool) (arms : List tree.Arm) → is_followed more (view_arms arms) ≡ (more || nat_lt 0 (length arms))
followed true [] = refl
followed false [] = refl
followed true (arm ∷ rest) = refl
followed false (arm ∷ rest) = sym (lt-ltb 0 (length (arm ∷ rest)) (omega arith))

pub arms_on :
    (f : Frame) (ways : Ways) (more : Bool) (all : List tree.Arm) (arm : tree.Arm) (i : ℕ) (b : Bool) (c after whole : Code)
    → i < length all → arm ≡ get_or all i arm
    → b ≡ is_followed more (view_arms (drop (i + 1) all))
    → after ≡ arm_code f ways b (view_expr arm.condition) (view_stmt arm.body) c
    → arms_code f ways more (view_arms (drop i all)) c ≡ whole
    → arms_code f ways more (view_arms (drop (i + 1) all)) after ≡ whole
arms_on f ways more all arm i b c after whole h e k g left =
    ap (arms_code f ways more (view_arms (drop (i + 1) all))) (g ∙ ap (λ n. arm_code f ways n (view_expr arm.condition) (view_stmt arm.body) c) k)
    ∙ ap (λ a. arms_code f ways more (view_arms (a ∷ drop (i + 1) all)) c) e
    ∙ sym (at_drop_more (λ arms. arms_code f ways more (view_arms arms) c) all i arm h)
    ∙ left

pub joins_on :
    (f : Frame) (ways : Ways) (more : Bool) (all : List tree.Arm) (arm : tree.Arm) (i : ℕ) (b : Bool) (joins whole : List ℕ) (join : ℕ) (c after : Code)
    → i < length all → arm ≡ get_or all i arm
    → b ≡ is_followed more (view_arms (drop (i + 1) all))
    → after ≡ arm_code f ways b (view_expr arm.condition) (view_stmt arm.body) c
    → join ≡ join_of f b (view_expr arm.condition) c
    → joins ++ joins_of f ways more (view_arms (drop i all)) c ≡ whole
    → (joins ++ join ∷ []) ++ joins_of f ways more (view_arms (drop (i + 1) all)) after ≡ whole
joins_on f ways more all arm i b joins whole join c after h e k g j left =
    append_assoc joins (join ∷ []) (joins_of f ways more (view_arms (drop (i + 1) all)) after)
    ∙ ap (λ d. joins ++ join ∷ joins_of f ways more (view_arms (drop (i + 1) all)) d) g
    ∙ ap (λ n. joins ++ n ∷ joins_of f ways more (view_arms (drop (i + 1) all)) (arm_code f ways b (view_expr arm.condition) (view_stmt arm.body) c)) j
    ∙ ap (λ n. joins ++ join_of f n (view_expr arm.condition) c ∷ joins_of f ways more (view_arms (drop (i + 1) all)) (arm_code f ways n (view_expr arm.condition) (view_stmt arm.body) c)) k
    ∙ ap (λ a. joins ++ joins_of f ways more (view_arms (a ∷ drop (i + 1) all)) c) e
    ∙ ap (λ l. joins ++ l) (sym (at_drop_more (λ arms. joins_of f ways more (view_arms arms) c) all i arm h))
    ∙ left
