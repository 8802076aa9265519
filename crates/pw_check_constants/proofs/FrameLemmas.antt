-- Operators along the first operands, and what an expression is by its form.
use Rattle.std.proofs.Common.{◌≡◌, ◌<◌, ℕ, Bool, true, false, ◌&&◌, if◌then◌else◌, List, [], ◌∷◌, ◌++◌, refl, ap, sym, subst, ◌∙◌}
use Rattle.pw_types.specs.Conversions.{is_signed_kind}
use Rattle.pw_types.specs.declared.kind.IntKind.{IntKind}
use Rattle.pw_types.specs.declared.tree.UnaryOperator.{UnaryOperator}
use Rattle.pw_types.specs.TypeTrees.{CType, Void, Int, Pointer, Array, Function, Record, QType, Qualified, type_of}
use Rattle.pw_types.specs.TypedTrees.{Expression, Node, Form}
use Rattle.pw_types.specs.TypedTrees as T
use Rattle.pw_check_rules.specs.Constants.{Constancy, Known, NoConstant, constant_of, convert_word, if_integral, then_known, unary_word}
use Rattle.pw_check_rules.specs.Kinds.{is_integral, kind_in}
use Rattle.pw_types.specs.WellTyped.{type_in}
use Rattle.pw_check_rules.proofs.Booleans.{no}
use Rattle.pw_typed.specs.declared.tree.TExpr.{TExpr}
use Rattle.pw_typed.specs.declared.tree.TForm.{size-TForm}
use Rattle.pw_check_constants.specs.Frames.{applied, binary_of, formed, unwound, IsPartOf, LeadsTo}
use Rattle.pw_check_constants.specs.declared.constants.Turn.{Turn}
use Rattle.pw_check_constants.specs.declared.constants.Turn.TheVariants as turn
use Rattle.pw_check_constants.specs.declared.frames.Frame.{Frame}

-- one operator more, next to the operand
pub unwound_push : (fs : List Frame) (f : Frame) (a : Constancy) → unwound (fs ++ f ∷ []) a ≡ unwound fs (applied f a)
unwound_push [] f a = refl
unwound_push (g ∷ fs) f a = ap (applied g) (unwound_push fs f a)

-- only of integral type is an expression a constant
pub not_integral : (e : Expression) → is_integral (type_in e) ≡ false → constant_of e ≡ NoConstant
unfolding constant_of
not_integral (Node t (Qualified (Int kind) c v) form) h = no (sym h)
not_integral (Node t (Qualified Void c v) form) h = refl
not_integral (Node t (Qualified (Pointer q) c v) form) h = refl
not_integral (Node t (Qualified (Array q n) c v) form) h = refl
not_integral (Node t (Qualified (Function q ps) c v) form) h = refl
not_integral (Node t (Qualified (Record n) c v) form) h = refl

by_test : (ty : CType) (c : Constancy) → if_integral ty c ≡ (if is_integral ty then c else NoConstant)
by_test Void c = refl
by_test (Int kind) c = refl
by_test (Pointer q) c = refl
by_test (Array q n) c = refl
by_test (Function q ps) c = refl
by_test (Record n) c = refl

both_tested : (a b : Bool) (c : Constancy) → (if a then (if b then c else NoConstant) else NoConstant) ≡ (if a && b then c else NoConstant)
both_tested true b c = refl
both_tested false b c = refl

-- an operand of no integral type is no constant, so its type need not be tested
unary_typed : (op : UnaryOperator) (a : Expression)
    → then_known (constant_of a) (λ n. if_integral (type_in a) (unary_word op (kind_in (type_in a)) n))
    ≡ then_known (constant_of a) (λ n. unary_word op (kind_in (type_in a)) n)
unfolding constant_of
unary_typed op (Node t (Qualified Void c v) form) = refl
unary_typed op (Node t (Qualified (Int kind) c v) form) = refl
unary_typed op (Node t (Qualified (Pointer q) c v) form) = refl
unary_typed op (Node t (Qualified (Array q n) c v) form) = refl
unary_typed op (Node t (Qualified (Function q ps) c v) form) = refl
unary_typed op (Node t (Qualified (Record n) c v) form) = refl

binary_typed : (a b : CType) (c : Constancy)
    → if_integral a (if_integral b c) ≡ (if is_integral a && is_integral b then c else NoConstant)
binary_typed a b c =
    by_test a (if_integral b c)
    ∙ ap (λ x. if is_integral a then x else NoConstant) (by_test b c)
    ∙ both_tested (is_integral a) (is_integral b) c

of_kind : (t : ℕ) (kind : IntKind) (c v : Bool) (form : Form) → constant_of (Node t (Qualified (Int kind) c v) form) ≡ formed kind form
unfolding constant_of
of_kind t kind c v (T.Unary op a) = unary_typed op a
of_kind t kind c v (T.Binary op a b) =
    binary_typed (type_in a) (type_in b) (binary_of op (is_signed_kind (kind_in (type_in a))) (constant_of a) (constant_of b))
of_kind t kind c v (T.Cast a) = by_test (type_in a) (then_known (constant_of a) (λ n. Known (convert_word kind n)))
of_kind t kind c v form = refl

pub by_form : (t : ℕ) (q : QType) (form : Form) → is_integral (type_of q) ≡ true → constant_of (Node t q form) ≡ formed (kind_in (type_of q)) form
by_form t (Qualified (Int kind) c v) form h = of_kind t kind c v form
by_form t (Qualified Void c v) form h = no h
by_form t (Qualified (Pointer q) c v) form h = no h
by_form t (Qualified (Array q n) c v) form h = no h
by_form t (Qualified (Function q ps) c v) form h = no h
by_form t (Qualified (Record n) c v) form h = no h

-- a step to a part of an expression
pub part_below : (t : Turn) (a e : TExpr) → LeadsTo t a → size-TForm a.form < size-TForm e.form → IsPartOf t e
part_below (turn.Ends c) a e l h = tt
part_below (turn.Goes f b) a e l h = subst (λ (x : TExpr). size-TForm x.form < size-TForm e.form) (sym l) h
