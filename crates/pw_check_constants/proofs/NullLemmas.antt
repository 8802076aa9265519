-- Null pointers by what is converted.
use Rattle.std.proofs.Common.{◌≡◌, Bool, true, false, ◌||◌, Option, None, Some, refl, ap, sym, ◌∙◌}
use Rattle.pw_types.specs.TypeTrees.{Void, Int, Pointer, Array, Function as FunctionType, Record, Qualified}
use Rattle.pw_types.specs.TypedTrees.{Expression, Node, Number, Str, Local, Global, Function, Unary, Binary, Logic, Cond, Comma, Assign, Compound, Step, Cast, Decay, Member, Deref, Address, Call, CallValue}
use Rattle.pw_check_rules.specs.Constants.{is_null_pointer, is_zero_constant}
use Rattle.pw_check_constants.specs.Nulls.{made_pointer}

abbrev pub null_by : Option Expression → Bool
null_by None = false
null_by (Some a) = is_null_pointer a || is_zero_constant a

pub null_step : (e : Expression) → is_null_pointer e ≡ null_by (made_pointer e)
unfolding is_null_pointer
null_step (Node t (Qualified Void c v) form) = refl
null_step (Node t (Qualified (Int kind) c v) form) = refl
null_step (Node t (Qualified (Array q n) c v) form) = refl
null_step (Node t (Qualified (FunctionType q ps) c v) form) = refl
null_step (Node t (Qualified (Record n) c v) form) = refl
null_step (Node t (Qualified (Pointer q) c v) (Number n)) = refl
null_step (Node t (Qualified (Pointer q) c v) (Str k)) = refl
null_step (Node t (Qualified (Pointer q) c v) (Local k)) = refl
null_step (Node t (Qualified (Pointer q) c v) (Global s)) = refl
null_step (Node t (Qualified (Pointer q) c v) (Function s)) = refl
null_step (Node t (Qualified (Pointer q) c v) (Unary op a)) = refl
null_step (Node t (Qualified (Pointer q) c v) (Binary op a b)) = refl
null_step (Node t (Qualified (Pointer q) c v) (Logic op a b)) = refl
null_step (Node t (Qualified (Pointer q) c v) (Cond a b d)) = refl
null_step (Node t (Qualified (Pointer q) c v) (Comma a b)) = refl
null_step (Node t (Qualified (Pointer q) c v) (Assign a b)) = refl
null_step (Node t (Qualified (Pointer q) c v) (Compound op ty a b)) = refl
null_step (Node t (Qualified (Pointer q) c v) (Step op a)) = refl
null_step (Node t (Qualified (Pointer q) c v) (Cast a)) = refl
null_step (Node t (Qualified (Pointer q) c v) (Decay a)) = refl
null_step (Node t (Qualified (Pointer q) c v) (Member a offset)) = refl
null_step (Node t (Qualified (Pointer q) c v) (Deref a)) = refl
null_step (Node t (Qualified (Pointer q) c v) (Address a)) = refl
null_step (Node t (Qualified (Pointer q) c v) (Call s args)) = refl
null_step (Node t (Qualified (Pointer q) c v) (CallValue a args)) = refl

or_false : (b c : Bool) → c ≡ false → (b || c) ≡ b
or_false true c h = refl
or_false false c h = h

-- what is converted to a pointer and is not the constant 0
pub null_inner : (e a : Expression) → Some a ≡ made_pointer e → is_zero_constant a ≡ false → is_null_pointer a ≡ is_null_pointer e
null_inner e a h z =
    sym (null_step e ∙ ap null_by (sym h) ∙ or_false (is_null_pointer a) (is_zero_constant a) z)
