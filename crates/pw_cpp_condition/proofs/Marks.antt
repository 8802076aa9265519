-- What marks do, by the operators that they spell.
use Rattle.std.proofs.Common.{◌≡◌, ℕ, ◌<◌, ◌≤◌, Option, Some, None, refl, sym, ap, ◌∙◌, subst, arith}
use Rattle.std.specs.Prelude.{List, option_map, option_and_then}
use Rattle.pw_cpp_values.specs.declared.arithmetic.Number.{Number}
use Rattle.pw_cpp_condition.specs.declared.word.Item.{Item}
use Rattle.pw_token.specs.declared.symbol.Mark.{Mark}
use Rattle.pw_token.specs.declared.symbol.Mark.TheVariants as m
use Rattle.pw_types.specs.declared.tree.UnaryOperator.{UnaryOperator}
use Rattle.pw_types.specs.declared.tree.BinaryOperator.TheVariants as B
use Rattle.pw_types.specs.declared.tree.LogicOperator.TheVariants as L
use Rattle.pw_cpp_condition.specs.Machine.{State, follow_level, follow_of, lead_of, run}
use Rattle.pw_cpp_condition.specs.Words.{infix_of, level, prefix_of}
use Rattle.pw_cpp_condition.specs.declared.frame.Follow.{Follow}
use Rattle.pw_cpp_condition.specs.declared.frame.Follow.TheVariants.{Goes, Asks, Parts, Closes}
use Rattle.pw_cpp_condition.specs.declared.frame.Frame.{Frame}
use Rattle.pw_cpp_condition.specs.declared.frame.Frame.TheVariants.{Group, Prefix}
use Rattle.pw_cpp_condition.specs.declared.word.Infix.{Infix}
use Rattle.pw_cpp_condition.specs.declared.word.Infix.TheVariants.{Binary, Logic}

pub none_some : {A : Type 0} {x : A} → None ≡ Some x → ⊥
none_some e = cc

pub some_same : {A : Type 0} {x y : A} → Some x ≡ Some y → x ≡ y
some_same e = cc

-- a mark that spells an operator between two operands goes on behind one
pub goes : (mark : Mark) (op : Infix) → infix_of mark ≡ Some op → follow_of mark ≡ Some (Goes op)
goes m.Question op e = absurd (none_some e)
goes m.Colon op e = absurd (none_some e)
goes m.CloseParen op e = absurd (none_some e)
goes mark op e = ap (option_map Goes) e

-- a mark that spells an operator before an operand leads one
pub leads : (mark : Mark) (op : UnaryOperator) → prefix_of mark ≡ Some op → lead_of mark ≡ Some (Prefix op)
leads m.OpenParen op e = absurd (none_some e)
leads mark op e = ap (option_map Prefix) e

pub level-range : (op : Infix) → (1 ≤ level op) × (level op ≤ 10)
level-range (Logic L.Or) = (omega arith, omega arith)
level-range (Logic L.And) = (omega arith, omega arith)
level-range (Binary B.Or) = (omega arith, omega arith)
level-range (Binary B.ExclusiveOr) = (omega arith, omega arith)
level-range (Binary B.And) = (omega arith, omega arith)
level-range (Binary op) = (omega arith, omega arith)

pub follow-small : (follow : Follow) → follow_level follow ≤ 10
follow-small (Goes op) = (level-range op).1
follow-small Asks = omega arith
follow-small Parts = omega arith
follow-small Closes = omega arith

-- ---- the other way round

-- what a mark does where an operand is wanted tells the mark
abbrev pub LeadsBy : Mark → Frame → Type 0
LeadsBy mark Group = mark ≡ m.OpenParen
LeadsBy mark (Prefix op) = prefix_of mark ≡ Some op
LeadsBy mark other = ⊥

by_prefix : (mark : Mark) (p : Option UnaryOperator) (frame : Frame) → prefix_of mark ≡ p → option_map Prefix p ≡ Some frame → LeadsBy mark frame
by_prefix mark None frame e h = absurd (none_some h)
by_prefix mark (Some op) frame e h = let P : Frame → Type 0 = λ f. LeadsBy mark f in subst P (some_same h) e

pub led-by : (mark : Mark) (frame : Frame) → lead_of mark ≡ Some frame → LeadsBy mark frame
led-by m.OpenParen frame h = let P : Frame → Type 0 = λ f. LeadsBy m.OpenParen f in subst P (some_same h) refl
led-by mark frame h = by_prefix mark (prefix_of mark) frame refl h

-- and so does what it does behind one
abbrev pub FollowsBy : Mark → Follow → Type 0
FollowsBy mark (Goes op) = infix_of mark ≡ Some op
FollowsBy mark Asks = mark ≡ m.Question
FollowsBy mark Parts = mark ≡ m.Colon
FollowsBy mark Closes = mark ≡ m.CloseParen

by_infix : (mark : Mark) (p : Option Infix) (follow : Follow) → infix_of mark ≡ p → option_map Goes p ≡ Some follow → FollowsBy mark follow
by_infix mark None follow e h = absurd (none_some h)
by_infix mark (Some op) follow e h = let P : Follow → Type 0 = λ f. FollowsBy mark f in subst P (some_same h) e

pub followed-by : (mark : Mark) (follow : Follow) → follow_of mark ≡ Some follow → FollowsBy mark follow
followed-by m.Question follow h = let P : Follow → Type 0 = λ f. FollowsBy m.Question f in subst P (some_same h) refl
followed-by m.Colon follow h = let P : Follow → Type 0 = λ f. FollowsBy m.Colon f in subst P (some_same h) refl
followed-by m.CloseParen follow h = let P : Follow → Type 0 = λ f. FollowsBy m.CloseParen f in subst P (some_same h) refl
followed-by mark follow h = by_infix mark (infix_of mark) follow refl h

-- what the items behind a step come to
abbrev pub Continues : List Item → Option State → Option Number
Continues items s = option_and_then (λ (state : State). run state.0 state.1 items) s
