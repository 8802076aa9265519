-- Lists of statements, arms of an `if`, and what takes up gotos, a part at a time.
use Rattle.std.proofs.Common.{ℕ, zero, suc, ◌+◌, ◌≡◌, refl, sym, ap, subst, ◌∙◌, add-one, true, false, Some, None, List, [], ◌∷◌, drop}
use Rattle.std.specs.Prelude.{slice_get}
use Rattle.std.specs.Borrow.{Bor}
use Rattle.pw_types.specs.Labels.{labels_in}
use Rattle.pw_types.specs.TypedTrees.{Expression, Statement, Block, If, Label, Statements, NoStatement, OneStatement, Arms, NoArm, Arm, Otherwise, Initialiser, token_of}
use Rattle.pw_typed.specs.Views.{view_arms, view_expr, view_stmt, view_stmts}
use Rattle.pw_typed.specs.declared.tree.Arm as code
use Rattle.pw_typed.specs.declared.tree.TStmt.{TStmt}
use Rattle.pw_cmean.specs.Acts.{State, give, go_on, ◌>>=◌, branch}
use Rattle.pw_cmean.specs.Evaluation.{Env, Calls}
use Rattle.pw_cmean.specs.Execution.{Entry, Front, At_label, Normal, holds, items, behind_arms, behind_labels, meaning, condition, value_of, caught, taking_up}
use Rattle.pw_cmean.specs.SourceRun.{calls}
use Rattle.pw_interp_todo.specs.declared.flow.Entry.TheVariants as E
use Rattle.pw_interp_todo.specs.declared.statements.Part.TheVariants as P
use Rattle.pw_interp_todo.specs.Asking.{answered}
use Rattle.pw_interp_todo.specs.Going.{members_behind, arm_behind, arm_or_rest, arm_tested}
use Rattle.pw_interp_todo.specs.Members.{members_in, members_from, arms_in, arms_from, otherwise_in, taken_in}
use Rattle.pw_interp_todo.specs.Parts.{met_arms, once_of, taking_act, again_act, back_act}
use Rattle.pw_interp_todo.proofs.Firsts.{tested_first}
use Rattle.pw_interp_entries.specs.Entering.{is_met, arm_or_later, takes_up}

-- ---- members and arms by their places

pub members_some : (list : List TStmt) (i : ℕ) (a : TStmt) → slice_get list i ≡ Some a → members_from i (view_stmts list) ≡ OneStatement (view_stmt a) (members_from (suc i) (view_stmts list))
members_some [] i a is = cc is
members_some (x ∷ list) zero a is = let same : x ≡ a = cc is in ap (λ y. OneStatement (view_stmt y) (view_stmts list)) same
members_some (x ∷ list) (suc i) a is = members_some list i a is

pub members_none : (list : List TStmt) (i : ℕ) → slice_get list i ≡ None → members_from i (view_stmts list) ≡ NoStatement
members_none [] zero is = refl
members_none [] (suc i) is = refl
members_none (x ∷ list) zero is = cc is
members_none (x ∷ list) (suc i) is = members_none list i is

pub members_drop : (list : List TStmt) (i : ℕ) → members_from i (view_stmts list) ≡ view_stmts (drop i list)
members_drop list zero = refl
members_drop [] (suc i) = refl
members_drop (x ∷ list) (suc i) = members_drop list i

pub arms_some : (list : List code.Arm) (i : ℕ) (a : code.Arm) → slice_get list i ≡ Some a
    → arms_from i (view_arms list) ≡ Arm a.token (view_expr a.condition) (view_stmt a.body) (arms_from (suc i) (view_arms list))
arms_some [] i a is = cc is
arms_some (x ∷ list) zero a is = let same : x ≡ a = cc is in ap (λ y. Arm y.token (view_expr y.condition) (view_stmt y.body) (view_arms list)) same
arms_some (x ∷ list) (suc i) a is = arms_some list i a is

pub arms_none : (list : List code.Arm) (i : ℕ) → slice_get list i ≡ None → arms_from i (view_arms list) ≡ NoArm
arms_none [] zero is = refl
arms_none [] (suc i) is = refl
arms_none (x ∷ list) zero is = cc is
arms_none (x ∷ list) (suc i) is = arms_none list i is

pub arms_drop : (list : List code.Arm) (i : ℕ) → arms_from i (view_arms list) ≡ view_arms (drop i list)
arms_drop list zero = refl
arms_drop [] (suc i) = refl
arms_drop (x ∷ list) (suc i) = arms_drop list i

-- of a list that a statement holds
pub member_at : {l : Statements} (list : List TStmt) (i : ℕ) (a : TStmt) → view_stmts list ≡ l → slice_get list i ≡ Some a → members_from i l ≡ OneStatement (view_stmt a) (members_from (i + 1) l)
member_at {l = l} list i a same is =
    subst (λ x. members_from i x ≡ OneStatement (view_stmt a) (members_from (suc i) x)) same (members_some list i a is)
    ∙ ap (λ k. OneStatement (view_stmt a) (members_from k l)) (sym (add-one i))

pub member_past : {l : Statements} (list : List TStmt) (i : ℕ) → view_stmts list ≡ l → slice_get list i ≡ None → members_from i l ≡ NoStatement
member_past list i same is = subst (λ x. members_from i x ≡ NoStatement) same (members_none list i is)

pub arm_at_place : {l : Arms} (list : List code.Arm) (i : ℕ) (a : code.Arm) → view_arms list ≡ l → slice_get list i ≡ Some a
    → arms_from i l ≡ Arm a.token (view_expr a.condition) (view_stmt a.body) (arms_from (i + 1) l)
arm_at_place {l = l} list i a same is =
    subst (λ x. arms_from i x ≡ Arm a.token (view_expr a.condition) (view_stmt a.body) (arms_from (suc i) x)) same (arms_some list i a is)
    ∙ ap (λ k. Arm a.token (view_expr a.condition) (view_stmt a.body) (arms_from k l)) (sym (add-one i))

pub arm_past : {l : Arms} (list : List code.Arm) (i : ℕ) → view_arms list ≡ l → slice_get list i ≡ None → arms_from i l ≡ NoArm
arm_past list i same is = subst (λ x. arms_from i x ≡ NoArm) same (arms_none list i is)

module _ (e : Env) (n : ℕ) (s : State) where
  abbrev cs : Calls
  cs = calls e.world n

  -- ---- lists

  pub no_items : (at : Entry) → items NoStatement at cs e s ≡ give Normal s
  unfolding meaning
  no_items at = refl

  pub items_met : (a : Statement) (rest : Statements) (at : Entry) → is_met (labels_in a) at ≡ true
      → items (OneStatement a rest) at cs e s ≡ (meaning a at cs e >>= members_behind rest e cs) s
  unfolding meaning members_behind branch
  items_met a rest Front is = refl
  items_met a rest (At_label l) is = ap (λ b. branch b (meaning a (At_label l) cs e >>= members_behind rest e cs) (items rest (At_label l) cs e) s) is

  pub items_unmet : (a : Statement) (rest : Statements) (at : Entry) → is_met (labels_in a) at ≡ false
      → items (OneStatement a rest) at cs e s ≡ items rest at cs e s
  unfolding meaning members_behind branch
  items_unmet a rest Front is = cc is
  items_unmet a rest (At_label l) is = ap (λ b. branch b (meaning a (At_label l) cs e >>= members_behind rest e cs) (items rest (At_label l) cs e) s) is

  -- ---- arms

  pub no_arms : (o : Otherwise) (at : Entry) → met_arms NoArm o e at cs s ≡ behind_arms o at cs e s
  unfolding met_arms meaning
  no_arms o at = refl

  pub arms_front : (list : Arms) (t : ℕ) (c : Expression) (body : Statement) (rest : Arms) (o : Otherwise) → list ≡ Arm t c body rest
      → met_arms list o e Front cs s ≡ (answered c e n >>= arm_tested list o e cs) s
  unfolding met_arms meaning condition value_of arm_or_rest arm_behind arm_tested
  arms_front list t c body rest o is =
      subst (λ x. met_arms x o e Front cs s ≡ (answered c e n >>= arm_tested x o e cs) s) (sym is)
      (tested_first e n (token_of c) c (arm_or_rest body rest o e cs) s)

  pub arms_label : (t : ℕ) (c : Expression) (body : Statement) (rest : Arms) (o : Otherwise) (l : ℕ)
      → met_arms (Arm t c body rest) o e (At_label l) cs s ≡ arm_or_later body rest o l e cs s
  unfolding met_arms meaning arm_behind arm_or_later
  arms_label t c body rest o l = refl

  pub later_met : (body : Statement) (rest : Arms) (o : Otherwise) (l : ℕ) → holds (labels_in body) l ≡ true
      → arm_or_later body rest o l e cs s ≡ (meaning body (At_label l) cs e >>= arm_behind rest o e cs) s
  unfolding arm_or_later branch
  later_met body rest o l is = ap (λ b. branch b (meaning body (At_label l) cs e >>= arm_behind rest o e cs) (met_arms rest o e (At_label l) cs) s) is

  pub later_unmet : (body : Statement) (rest : Arms) (o : Otherwise) (l : ℕ) → holds (labels_in body) l ≡ false
      → arm_or_later body rest o l e cs s ≡ met_arms rest o e (At_label l) cs s
  unfolding arm_or_later branch
  later_unmet body rest o l is = ap (λ b. branch b (meaning body (At_label l) cs e >>= arm_behind rest o e cs) (met_arms rest o e (At_label l) cs) s) is

  pub rest_met : (body : Statement) (rest : Arms) (o : Otherwise) → arm_or_rest body rest o e cs true s ≡ (meaning body Front cs e >>= arm_behind rest o e cs) s
  unfolding arm_or_rest branch
  rest_met body rest o = refl

  pub rest_unmet : (body : Statement) (rest : Arms) (o : Otherwise) → arm_or_rest body rest o e cs false s ≡ met_arms rest o e Front cs s
  unfolding arm_or_rest branch
  rest_unmet body rest o = refl

  -- ---- gotos that go back

  pub taking_is : (a : Statement) (at : Entry) → taking_act a e at cs s ≡ (once_of a e at cs >>= caught (taken_in a) (again_act a e cs)) s
  unfolding taking_up again_act
  taking_is a at = by cs
    where
      by : (more : Calls) → taking_act a e at more s ≡ (once_of a e at more >>= caught (taken_in a) (again_act a e more)) s
      by [] = refl
      by (c ∷ more) = refl

  -- what takes up none
  pub taking_none : (a : Statement) (at : Entry) → taken_in a ≡ [] → ((cs' : Calls) (from : Entry) → once_of a e from cs' ≡ give Normal) → taking_act a e at cs s ≡ give Normal s
  unfolding caught ◌>>=◌ go_on give
  taking_none a at none passes = taking_is a at ∙ ap (λ act. (act >>= caught (taken_in a) (again_act a e cs)) s) (passes cs at)

-- again from a label, by the bound
pub again_is : (of : Bor TStmt) (l : ℕ) (e : Env) (n : ℕ) (s : State)
    → again_act (view_stmt of.now) e (calls e.world n) l s ≡ back_act (record { part = P.Taking; of = of; at = E.AtLabel l }) e n s
unfolding again_act back_act calls
again_is of l e zero s = refl
again_is of l e (suc n) s = refl

-- ---- what takes up gotos, once

pub once_block : {a : Statement} (t first count : ℕ) (initialisers : List Initialiser) (list : Statements) → a ≡ Block t first count initialisers list
    → (at : Entry) (e : Env) (n : ℕ) (s : State) → once_of a e at (calls e.world n) s ≡ items (members_from 0 (members_in a)) at (calls e.world n) e s
once_block t first count initialisers list is at e n s =
    subst (λ x. once_of x e at (calls e.world n) s ≡ items (members_from 0 (members_in x)) at (calls e.world n) e s) (sym is) refl

pub once_if : {a : Statement} (t : ℕ) (list : Arms) (o : Otherwise) → a ≡ If t list o
    → (at : Entry) (e : Env) (n : ℕ) (s : State) → once_of a e at (calls e.world n) s ≡ met_arms (arms_from 0 (arms_in a)) (otherwise_in a) e at (calls e.world n) s
once_if t list o is at e n s =
    subst (λ x. once_of x e at (calls e.world n) s ≡ met_arms (arms_from 0 (arms_in x)) (otherwise_in x) e at (calls e.world n) s) (sym is) refl

pub once_label : {a : Statement} (t : ℕ) (labels : List ℕ) (body : Statement) → a ≡ Label t labels body
    → (at : Entry) (e : Env) (n : ℕ) (s : State) → once_of a e at (calls e.world n) s ≡ meaning body (behind_labels labels at) (calls e.world n) e s
once_label t labels body is at e n s =
    subst (λ x. once_of x e at (calls e.world n) s ≡ meaning body (behind_labels labels at) (calls e.world n) e s) (sym is) refl

-- what takes up no gotos
pub none_taken : (a : Statement) → takes_up a ≡ false → taken_in a ≡ []
none_taken (Block t first count initialisers list) is = cc is
none_taken (If t list o) is = cc is
none_taken (Label t labels body) is = cc is
none_taken _ is = refl

pub passes_once : (a : Statement) → takes_up a ≡ false → (e : Env) (cs : Calls) (from : Entry) → once_of a e from cs ≡ give Normal
passes_once (Block t first count initialisers list) is e cs from = cc is
passes_once (If t list o) is e cs from = cc is
passes_once (Label t labels body) is e cs from = cc is
passes_once _ is e cs from = refl
