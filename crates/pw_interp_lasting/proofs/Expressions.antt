-- What is left of expressions only writes behind what was written and reads on.
use Rattle.std.proofs.Common.{ℕ, List, Option, arith}
use Rattle.pw_value.specs.declared.value.Value.{Value}
use Rattle.pw_types.specs.TypedTrees.{Expression, Expressions, Node, Unary, Binary, Logic, Cond, Comma, Assign, Compound, Step, Cast, Member, Deref, CallValue}
use Rattle.pw_cmean.specs.Worlds.{World}
use Rattle.pw_cmean.specs.Evaluation.{Env, Calls, values_of}
use Rattle.pw_cmean.specs.SourceRun.{calls}
use Rattle.pw_cmean.proofs.ActLaws.{AreRelated, branch-r, need-r, truth-r, unary-r, advance-r, binary-r, put-r, used-r, value_at-r, cast-r, old_value-r, update-r, step-r, call-r, call_value-r}
use Rattle.pw_cmean.proofs.TreeLaws.{answer-r, place-r, values-r, calls-r}
use Rattle.pw_interp_todo.specs.declared.asked.Asked.{Asked}
use Rattle.pw_interp_todo.specs.declared.asked.Asked.TheVariants as A
use Rattle.pw_interp_todo.specs.declared.asked.Callee.{Callee}
use Rattle.pw_interp_todo.specs.declared.asked.Callee.TheVariants as C
use Rattle.pw_interp_todo.specs.declared.asked.Operand.{Operand}
use Rattle.pw_interp_todo.specs.declared.asked.Operand.TheVariants as O
use Rattle.pw_typed.specs.Views.{view_expr}
use Rattle.pw_interp_todo.specs.Asking.{asked_act, answered, placed}
use Rattle.pw_interp_todo.specs.Operands.{tested, right_behind, second_behind, assigned_behind, stored_behind, updated_behind, answer_behind, place_behind, behind, call_behind}
use Rattle.pw_interp_lasting.proofs.Acts.{AreLasting, L, lasting, give_l, then_l, wrong_l}

-- calls of a list do
abbrev pub CallsLast : Calls → Type 0
CallsLast cs = AreRelated AreLasting lasting cs cs

pub calls_l : (w : World) (n : ℕ) → CallsLast (calls w n)
calls_l w n = calls-r AreLasting lasting w n n (omega arith)

pub values_l : (args : Expressions) (t : ℕ) (e : Env) (n : ℕ) → L (values_of args t (calls e.world n) e)
values_l args t e n = values-r AreLasting lasting args t _ _ e (calls_l e.world n)

answered_l : (a : Expression) (e : Env) (n : ℕ) → L (answered a e n)
answered_l a e n = answer-r AreLasting lasting a _ _ e (calls_l e.world n)

placed_l : (a : Expression) (e : Env) (n : ℕ) → L (placed a e n)
placed_l a e n = then_l (place-r AreLasting lasting a _ _ e (calls_l e.world n)) λ p. give_l _

pub asked_l : (asked : Asked) (e : Env) (n : ℕ) → L (asked_act asked e n)
asked_l (A.Answer a) e n = answered_l (view_expr a.now) e n
asked_l (A.Place a) e n = placed_l (view_expr a.now) e n

pub tested_l : (e : Env) (t : ℕ) (given : Option Value) → L (tested e t given)
unfolding tested
tested_l e t given = then_l (used-r AreLasting lasting _ given) λ v. truth-r AreLasting lasting _ v

-- ---- behind operands

right_l : (a : Expression) (v : Value) (given : Option Value) (e : Env) (n : ℕ) → L (right_behind a v given e n)
unfolding right_behind
right_l a v given e n =
    then_l (used-r AreLasting lasting _ given) λ w. then_l (need-r AreLasting lasting _) λ p. then_l (binary-r AreLasting lasting _ _ p.0 p.1 p.2 v w) λ r. give_l _

second_l : (a : Expression) (given : Option Value) (e : Env) (n : ℕ) → L (second_behind a given e n)
unfolding second_behind
second_l a given e n = then_l (tested_l e _ given) λ second. give_l _

assigned_l : (a : Expression) (place : Value) (given : Option Value) (e : Env) (n : ℕ) → L (assigned_behind a place given e n)
unfolding assigned_behind
assigned_l a place given e n =
    then_l (used-r AreLasting lasting _ given) λ v. then_l (need-r AreLasting lasting _) λ ty. then_l (put-r AreLasting lasting _ _ _ ty place v) λ d. give_l _

stored_l : (a : Expression) (place : Value) (given : Option Value) (e : Env) (n : ℕ) → L (stored_behind a place given e n)
unfolding stored_behind
stored_l a place given e n =
    then_l (used-r AreLasting lasting _ given) λ v. then_l (need-r AreLasting lasting _) λ ty. then_l (put-r AreLasting lasting _ _ _ ty place v) λ d. give_l _

updated_l : (a : Expression) (place old : Value) (given : Option Value) (e : Env) (n : ℕ) → L (updated_behind a place old given e n)
unfolding updated_behind
updated_l a place old given e n =
    then_l (used-r AreLasting lasting _ given) λ w. then_l (need-r AreLasting lasting _) λ p. then_l (update-r AreLasting lasting e _ p.2 p.1 place p.0 p.3 old w) λ r. give_l _

answer_l : (a : Expression) (given : Option Value) (e : Env) (n : ℕ) → L (answer_behind a given e n)
unfolding answer_behind
answer_l (Node t ty (Unary op a)) given e n = then_l (used-r AreLasting lasting _ given) λ v. then_l (unary-r AreLasting lasting _ op _ v) λ r. give_l _
answer_l (Node t ty (Binary op a b)) given e n =
    then_l (used-r AreLasting lasting _ given) λ v. then_l (answered_l b e n) λ right. right_l (Node t ty (Binary op a b)) v right e n
answer_l (Node t ty (Logic op a b)) given e n =
    then_l (tested_l e t given) λ first. branch-r AreLasting lasting _ (give_l _) (then_l (answered_l b e n) λ second. second_l (Node t ty (Logic op a b)) second e n)
answer_l (Node t ty (Cond c a b)) given e n = then_l (tested_l e t given) λ chosen. branch-r AreLasting lasting chosen (answered_l a e n) (answered_l b e n)
answer_l (Node t ty (Comma a b)) given e n = answered_l b e n
answer_l (Node t ty (Assign a b)) given e n =
    then_l (need-r AreLasting lasting given) λ place. then_l (answered_l b e n) λ right. assigned_l (Node t ty (Assign a b)) place right e n
answer_l (Node t ty (Compound op working a b)) given e n =
    then_l (need-r AreLasting lasting given) λ place. then_l (old_value-r AreLasting lasting e t _ working place) λ old.
    then_l (answered_l b e n) λ right. updated_l (Node t ty (Compound op working a b)) place old right e n
answer_l (Node t ty (Step op a)) given e n = then_l (need-r AreLasting lasting given) λ place. then_l (step-r AreLasting lasting e t op _ place) λ r. give_l _
answer_l (Node t ty (Cast a)) given e n = cast-r AreLasting lasting _ _ given
answer_l (Node t ty (Member a offset)) given e n =
    then_l (need-r AreLasting lasting given) λ whole. then_l (advance-r AreLasting lasting _ whole _) λ place. value_at-r AreLasting lasting e t ty place
answer_l (Node t ty (Deref a)) given e n = then_l (used-r AreLasting lasting _ given) λ place. value_at-r AreLasting lasting e t ty place
answer_l (Node t ty (CallValue a args)) given e n =
    then_l (used-r AreLasting lasting _ given) λ p. then_l (values_l args t e n) λ vs. call_value-r AreLasting lasting e _ _ t _ p vs (calls_l e.world n)
answer_l (Node t ty _) given e n = wrong_l

place_l : (a : Expression) (given : Option Value) (e : Env) (n : ℕ) → L (place_behind a given e n)
unfolding place_behind
place_l (Node t ty (Member a offset)) given e n =
    then_l (need-r AreLasting lasting given) λ whole. then_l (advance-r AreLasting lasting _ whole _) λ place. give_l _
place_l (Node t ty (Deref a)) given e n = then_l (used-r AreLasting lasting _ given) λ place. give_l _
place_l (Node t ty (Cond c a b)) given e n = then_l (tested_l e t given) λ chosen. branch-r AreLasting lasting chosen (placed_l a e n) (placed_l b e n)
place_l (Node t ty (Comma a b)) given e n = placed_l b e n
place_l (Node t ty (Assign a b)) given e n =
    then_l (need-r AreLasting lasting given) λ place. then_l (answered_l b e n) λ right. stored_l (Node t ty (Assign a b)) place right e n
place_l (Node t ty _) given e n = wrong_l

pub behind_l : (operand : Operand) (given : Option Value) (e : Env) (n : ℕ) → L (behind operand given e n)
behind_l (O.First (A.Answer a)) given e n = answer_l (view_expr a.now) given e n
behind_l (O.First (A.Place a)) given e n = place_l (view_expr a.now) given e n
behind_l (O.Right a v) given e n = right_l (view_expr a.now) v given e n
behind_l (O.Second a) given e n = second_l (view_expr a.now) given e n
behind_l (O.Assigned (A.Answer a) place) given e n = assigned_l (view_expr a.now) place given e n
behind_l (O.Assigned (A.Place a) place) given e n = stored_l (view_expr a.now) place given e n
behind_l (O.Updated a place old) given e n = updated_l (view_expr a.now) place old given e n

pub call_l : (callee : Callee) (vs : List Value) (e : Env) (n : ℕ) → L (call_behind callee vs e n)
unfolding call_behind
call_l (C.Named symbol) vs e n = then_l (need-r AreLasting lasting _) λ f. call-r AreLasting lasting e.world _ _ f vs (calls_l e.world n)
call_l (C.Through token ty p) vs e n = call_value-r AreLasting lasting e _ _ token _ p vs (calls_l e.world n)
