-- What goes down an expression, and what is made on the way back.
use Rattle.std.proofs.Common.{◌≡◌, Option, Some, option_map, [], refl, ap, ◌∙◌, sym}
use Rattle.std.specs.Option.{option_map_or}
use Rattle.pw_types.specs.TypedTrees.{Expression, Node, Form, Number, Str, Local, Global, Function, Unary, Binary, Logic, Cond, Comma, Assign, Compound, Step, Cast, Decay, Member, Deref, Address, Call, CallValue}
use Rattle.pw_types.specs.Spines.{first_of, first_in, spine_of, spine_in, made_along}

-- an expression's left edge is the expression and the left edge of its first operand
pub spine_below : (form : Form) → spine_in form ≡ option_map_or spine_of (first_in form) []
spine_below (Number n) = refl
spine_below (Str k) = refl
spine_below (Local k) = refl
spine_below (Global s) = refl
spine_below (Function s) = refl
spine_below (Unary op a) = refl
spine_below (Binary op a b) = refl
spine_below (Logic op a b) = refl
spine_below (Cond a b c) = refl
spine_below (Comma a b) = refl
spine_below (Assign a b) = refl
spine_below (Compound op ty a b) = refl
spine_below (Step op a) = refl
spine_below (Cast a) = refl
spine_below (Decay a) = refl
spine_below (Member a offset) = refl
spine_below (Deref a) = refl
spine_below (Address a) = refl
spine_below (Call s args) = refl
spine_below (CallValue a args) = refl

-- A function of expressions that is, at each node, a step from what it is at the first operand, is what the steps make
-- along the left edge.
module _ {A : Type 0} (made : Expression → A) (step : Expression → Option A → A)
    (is : (e : Expression) → made e ≡ step e (option_map made (first_of e))) where
  mutual
    pub made_along-is : (e : Expression) → made_along step (spine_of e) ≡ Some (made e)
    made_along-is (Node t y form) =
        ap (λ o. Some (step (Node t y form) o)) (made_in form) ∙ ap Some (sym (is (Node t y form)))

    made_in : (form : Form) → made_along step (spine_in form) ≡ option_map made (first_in form)
    made_in (Number n) = refl
    made_in (Str k) = refl
    made_in (Local k) = refl
    made_in (Global s) = refl
    made_in (Function s) = refl
    made_in (Unary op a) = made_along-is a
    made_in (Binary op a b) = made_along-is a
    made_in (Logic op a b) = made_along-is a
    made_in (Cond a b c) = made_along-is a
    made_in (Comma a b) = made_along-is a
    made_in (Assign a b) = made_along-is a
    made_in (Compound op ty a b) = made_along-is a
    made_in (Step op a) = made_along-is a
    made_in (Cast a) = made_along-is a
    made_in (Decay a) = made_along-is a
    made_in (Member a offset) = made_along-is a
    made_in (Deref a) = made_along-is a
    made_in (Address a) = made_along-is a
    made_in (Call s args) = refl
    made_in (CallValue a args) = made_along-is a
