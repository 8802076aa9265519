-- Well-typed trees have the types on which values rest.
use Rattle.std.proofs.Common.{ℕ, zero, suc, ◌+◌, ◌≡◌, ◌<◌, ◌⊎◌, inl, inr, refl, sym, ap, subst, ◌∙◌, arith, Bool, true, false, List, [], ◌∷◌, length, get_or, Option, Some, None, map}
use Rattle.std.specs.Prelude.{All, Contains}
use Rattle.std.proofs.lemmas.List.Elements.{All-head, All-tail, All-nil, All-append, All-map}
use Rattle.std.specs.List.{flat_map}
use Rattle.std.proofs.lemmas.List.Concat.{flat_map-cons}
use Rattle.pw_value.specs.declared.value.Value.TheVariants as V
use Rattle.pw_value.specs.Shapes.{Agree}
use Rattle.pw_types.specs.TypeTrees.{CType, Void, Int, Pointer, Array, Function as FunctionType, Record, QType, QTypes, NoType, OneType, Qualified, type_of, RecordValue}
use Rattle.pw_types.specs.Shapes.{letter_of, shape_of}
use Rattle.pw_types.specs.declared.kind.IntKind.{IntKind}
use Rattle.pw_types.specs.declared.kind.IntKind.TheVariants as K
use Rattle.pw_types.specs.declared.tree.UnaryOperator.TheVariants.{Plus, Minus, Complement, Not}
use Rattle.pw_types.specs.declared.tree.BinaryOperator.{BinaryOperator}
use Rattle.pw_types.specs.declared.tree.BinaryOperator.TheVariants as O
use Rattle.pw_types.specs.TypedTrees.{Expression, Node, Number, Str, Local, Global, Function, Unary, Binary, Logic, Cond, Comma, Assign, Compound, Step, Cast, Decay, Member, Deref, Address, Call, CallValue, Expressions, NoExpression, OneExpression, type_at, Initialiser, Value as ByValue, Bytes as ByBytes, Statement, Evaluate, Block, If, While, Do, For, Switch, Label, Return, Arms, NoArm, Arm, Otherwise, NoElse, Else, Statements, NoStatement, OneStatement, LocalValue, FunctionValue}
use Rattle.pw_types.specs.WellTyped as W
use Rattle.pw_types.specs.WellTyped.{type_in, IsTyped as IsTypedTree, HasForm, AreArguments}
use Rattle.pw_types.specs.TypedModules as M
use Rattle.pw_types.specs.TypedModules.{IsStatement, AreStatements, AreArms, IsElse}
use Rattle.pw_cmean.specs.Worlds.{Program, ProgramModule, callable, library}
use Rattle.pw_cmean.specs.Typed.{IsValueOf, result_letter, IsWellTyped}
use Rattle.pw_cmean.proofs.NodeTypes.{IsPointerType, kind_given, BinaryGives, CanUpdate, CanCast, Calls, IsTyped, AreTyped, IsTypedIfAny, AreTypedInitialisers, IsTypedStatement, AreTypedStatements, AreTypedArms, IsTypedElse, IsTypedCallable, IsTypedProgram}

-- ---- operators

pointer-type : (ty : CType) (q : QType) → ty ≡ Pointer q → IsPointerType ty
pointer-type ty q e = subst IsPointerType (sym e) tt

-- both operands of the result's type
numbers : (op : BinaryOperator) (left right result : CType) → ((k : IntKind) → kind_given op k ≡ k) → W.AreNumbers left right result → BinaryGives op left right result
numbers op left right (Int k) e h =
    subst (λ l. BinaryGives op l right (Int k)) (sym h.1) (subst (λ r. BinaryGives op (Int k) r (Int k)) (sym h.2) (h.0, ap Int (sym (e k))))
numbers op left right Void e h = absurd h.0
numbers op left right (Pointer q) e h = absurd h.0
numbers op left right (Array q n) e h = absurd h.0
numbers op left right (FunctionType q ps) e h = absurd h.0
numbers op left right (Record n) e h = absurd h.0

shifts : (op : BinaryOperator) (left right result : CType) → ((k : IntKind) → kind_given op k ≡ k) → W.AreShifted left right result → BinaryGives op left right result
shifts op (Int k) (Int l) result e h = (h.0, h.2 ∙ ap Int (sym (e k)))
shifts op Void right result e h = absurd h.0
shifts op (Pointer q) right result e h = absurd h.0
shifts op (Array q n) right result e h = absurd h.0
shifts op (FunctionType q ps) right result e h = absurd h.0
shifts op (Record n) right result e h = absurd h.0
shifts op (Int k) Void result e h = absurd h.1
shifts op (Int k) (Pointer q) result e h = absurd h.1
shifts op (Int k) (Array q n) result e h = absurd h.1
shifts op (Int k) (FunctionType q ps) result e h = absurd h.1
shifts op (Int k) (Record n) result e h = absurd h.1

moves : (op : BinaryOperator) (rs : List RecordValue) (pointer number result : CType) → W.MovesPointer rs pointer number result → BinaryGives op pointer number result
moves op rs pointer (Int k) result h =
    subst (λ l. BinaryGives op l (Int k) result) (sym h.0.1) (pointer-type result h.0.0 (h.2 ∙ h.0.1))
moves op rs pointer Void result h = absurd h.1
moves op rs pointer (Pointer q) result h = absurd h.1
moves op rs pointer (Array q n) result h = absurd h.1
moves op rs pointer (FunctionType q ps) result h = absurd h.1
moves op rs pointer (Record n) result h = absurd h.1

moves-back : (op : BinaryOperator) (rs : List RecordValue) (pointer number result : CType) → W.MovesPointer rs pointer number result → BinaryGives op number pointer result
moves-back op rs pointer (Int k) result h =
    subst (λ l. BinaryGives op (Int k) l result) (sym h.0.1) (pointer-type result h.0.0 (h.2 ∙ h.0.1))
moves-back op rs pointer Void result h = absurd h.1
moves-back op rs pointer (Pointer q) result h = absurd h.1
moves-back op rs pointer (Array q n) result h = absurd h.1
moves-back op rs pointer (FunctionType q ps) result h = absurd h.1
moves-back op rs pointer (Record n) result h = absurd h.1

two-pointers : (op : BinaryOperator) (left right result : CType) (p q : QType) → left ≡ Pointer p → right ≡ Pointer q → result ≡ Int K.Int → BinaryGives op left right result
two-pointers op left right result p q e f g =
    subst (λ l. BinaryGives op l right result) (sym e) (subst (λ r. BinaryGives op (Pointer p) r result) (sym f) g)

compared-by : (op : BinaryOperator) (left right result : CType) → ((k : IntKind) → kind_given op k ≡ K.Int) → W.IsPromoted left ⊎ W.IsPointer left → right ≡ left
    → result ≡ Int K.Int → BinaryGives op left right result
compared-by op (Int k) right result e (inl h) s r = subst (λ x. BinaryGives op (Int k) x result) (sym s) (h, r ∙ ap Int (sym (e k)))
compared-by op Void right result e (inl h) s r = absurd h
compared-by op (Pointer q) right result e (inl h) s r = absurd h
compared-by op (Array q n) right result e (inl h) s r = absurd h
compared-by op (FunctionType q ps) right result e (inl h) s r = absurd h
compared-by op (Record n) right result e (inl h) s r = absurd h
compared-by op left right result e (inr p) s r = two-pointers op left right result p.0 p.0 p.1 (s ∙ p.1) r

compares : (op : BinaryOperator) (left right result : CType) → ((k : IntKind) → kind_given op k ≡ K.Int) → W.AreCompared left right result → BinaryGives op left right result
compares op left right result e h = compared-by op left right result e h.0 h.1 h.2

binary-of : (rs : List RecordValue) (op : BinaryOperator) (left right result : CType) → W.FitsBinary rs op left right result → BinaryGives op left right result
binary-of rs O.Add left right result (inl h) = numbers O.Add left right result (λ k. refl) h
binary-of rs O.Add left right result (inr (inl h)) = moves O.Add rs left right result h
binary-of rs O.Add left right result (inr (inr h)) = moves-back O.Add rs right left result h
binary-of rs O.Subtract left right result (inl h) = numbers O.Subtract left right result (λ k. refl) h
binary-of rs O.Subtract left right result (inr (inl h)) = moves O.Subtract rs left right result h
binary-of rs O.Subtract left right result (inr (inr h)) = two-pointers O.Subtract left right result h.0.0 h.1.0 h.0.1 h.1.1 h.2
binary-of rs O.Multiply left right result h = numbers O.Multiply left right result (λ k. refl) h
binary-of rs O.Divide left right result h = numbers O.Divide left right result (λ k. refl) h
binary-of rs O.Remainder left right result h = numbers O.Remainder left right result (λ k. refl) h
binary-of rs O.And left right result h = numbers O.And left right result (λ k. refl) h
binary-of rs O.ExclusiveOr left right result h = numbers O.ExclusiveOr left right result (λ k. refl) h
binary-of rs O.Or left right result h = numbers O.Or left right result (λ k. refl) h
binary-of rs O.ShiftLeft left right result h = shifts O.ShiftLeft left right result (λ k. refl) h
binary-of rs O.ShiftRight left right result h = shifts O.ShiftRight left right result (λ k. refl) h
binary-of rs O.Less left right result h = compares O.Less left right result (λ k. refl) h
binary-of rs O.Greater left right result h = compares O.Greater left right result (λ k. refl) h
binary-of rs O.LessEqual left right result h = compares O.LessEqual left right result (λ k. refl) h
binary-of rs O.GreaterEqual left right result h = compares O.GreaterEqual left right result (λ k. refl) h
binary-of rs O.Equal left right result h = compares O.Equal left right result (λ k. refl) h
binary-of rs O.NotEqual left right result h = compares O.NotEqual left right result (λ k. refl) h

common : (working left right : CType) → W.WorksInCommon working left right → CanUpdate working left right
common (Int w) (Int l) right h = subst (λ r. CanUpdate (Int w) (Int l) r) (sym h.2) tt
common _ _ right h = absurd h

pointer-update : (rs : List RecordValue) (working left right : CType) → W.MovesPointer rs left right working → CanUpdate working left right
pointer-update rs working left (Int k) h =
    subst (λ w. CanUpdate w left (Int k)) (sym (h.2 ∙ h.0.1)) (subst (λ l. CanUpdate (Pointer h.0.0) l (Int k)) (sym h.0.1) tt)
pointer-update rs working left Void h = absurd h.1
pointer-update rs working left (Pointer q) h = absurd h.1
pointer-update rs working left (Array q n) h = absurd h.1
pointer-update rs working left (FunctionType q ps) h = absurd h.1
pointer-update rs working left (Record n) h = absurd h.1

promoted-update : (working left right : CType) → W.WorksPromoted working left right → CanUpdate working left right
promoted-update working (Int l) (Int r) h = subst (λ w. CanUpdate w (Int l) (Int r)) (sym h.0) tt
promoted-update working (Int l) _ h = absurd h.1
promoted-update working _ right h = absurd h

compound-of : (rs : List RecordValue) (op : BinaryOperator) (working left right : CType) → W.FitsCompound rs op working left right → CanUpdate working left right
compound-of rs O.Add working left right (inl h) = common working left right h
compound-of rs O.Add working left right (inr h) = pointer-update rs working left right h
compound-of rs O.Subtract working left right (inl h) = common working left right h
compound-of rs O.Subtract working left right (inr h) = pointer-update rs working left right h
compound-of rs O.ShiftLeft working left right h = promoted-update working left right h
compound-of rs O.ShiftRight working left right h = promoted-update working left right h
compound-of rs O.Multiply working left right h = common working left right h
compound-of rs O.Divide working left right h = common working left right h
compound-of rs O.Remainder working left right h = common working left right h
compound-of rs O.And working left right h = common working left right h
compound-of rs O.ExclusiveOr working left right h = common working left right h
compound-of rs O.Or working left right h = common working left right h
compound-of rs O.Less working left right h = absurd h
compound-of rs O.Greater working left right h = absurd h
compound-of rs O.LessEqual working left right h = absurd h
compound-of rs O.GreaterEqual working left right h = absurd h
compound-of rs O.Equal working left right h = absurd h
compound-of rs O.NotEqual working left right h = absurd h

cast-of : (from to : CType) → W.FitsCast from to → CanCast from to
cast-of from Void h = tt
cast-of (Int a) (Int b) h = tt
cast-of (Int a) (Pointer b) h = tt
cast-of (Pointer a) (Pointer b) h = tt
cast-of _ _ h = absurd h

-- ---- other forms

number-of : (ty : CType) (n : ℕ) → W.IsNumber ty n → IsValueOf ty (V.Num n)
number-of (Int k) n h = h.1
number-of Void n h = absurd h
number-of (Pointer q) n h = absurd h
number-of (Array q c) n h = absurd h
number-of (FunctionType q ps) n h = absurd h
number-of (Record c) n h = absurd h

arithmetic-scalar : (ty : CType) → W.IsArithmetic ty → W.IsScalar ty
arithmetic-scalar (Int k) h = tt
arithmetic-scalar Void h = absurd h
arithmetic-scalar (Pointer q) h = absurd h
arithmetic-scalar (Array q n) h = absurd h
arithmetic-scalar (FunctionType q ps) h = absurd h
arithmetic-scalar (Record n) h = absurd h

steps : (rs : List RecordValue) (ty : CType) → W.IsArithmetic ty ⊎ W.PointsToObject rs ty → W.IsScalar ty
steps rs ty (inl h) = arithmetic-scalar ty h
steps rs ty (inr h) = subst W.IsScalar (sym h.1) tt

decays : (e : Expression) (ty : CType) → W.Decays e ty → IsPointerType ty
decays e ty (inl h) = pointer-type ty h.1.0 h.1.3
decays e ty (inr h) = pointer-type ty (type_at e) h.2

-- no function's shape begins with a bracket
not-bracket : (xs ys : List ℕ) → 102 ∷ xs ≡ 91 ∷ ys → ⊥
not-bracket xs ys e = different (ap (λ (x : List ℕ). get_or x 0 0) e)
  where
    different : ◌≡◌ {A = ℕ} 102 91 → ⊥
    different d = omega arith

-- the result's letter in a shape that agrees with a function type's
agreed-letter : (rs : List RecordValue) (result : QType) (params : QTypes) (shape : List ℕ) → Agree (shape_of rs (FunctionType result params) false) shape
    → letter_of (type_of result) ≡ result_letter shape
agreed-letter rs result params shape (inl e) = ap result_letter e
agreed-letter rs result params shape (inr (inl g)) = absurd (not-bracket _ _ g.2.0)
agreed-letter rs result params shape (inr (inr g)) = absurd (not-bracket _ _ g.2.1)

-- the letter of a function's result
abbrev pub letter_in : ProgramModule → FunctionValue → ℕ
letter_in m f = result_letter (shape_of m.tree.records (type_of f.ty) false)

pub letter-of : (m : ProgramModule) (f : FunctionValue) (result : QType) (params : QTypes) → type_of f.ty ≡ FunctionType result params
    → letter_of (type_of result) ≡ letter_in m f
letter-of m f result params e = ap (λ ty. result_letter (shape_of m.tree.records ty false)) (sym e)

-- ---- trees

module _ (p : Program) (w : IsWellTyped p) (m : ProgramModule) (inside : Contains p.modules m) (locals : List LocalValue) where
  mutual
    unfolding IsTypedTree HasForm AreArguments

    pub typed : (a : Expression) → IsTypedTree m.tree locals a → IsTyped p m.name a
    typed (Node t y (Number n)) h = number-of (type_of y) n h.1
    typed (Node t y (Str k)) h = tt
    typed (Node t y (Local k)) h = tt
    typed (Node t y (Global s)) h = tt
    typed (Node t y (Function s)) h = tt
    typed (Node t y (Unary Not a)) h = (typed a h.1.0, h.1.1.1)
    typed (Node t y (Unary Plus a)) h = (typed a h.1.0, subst W.IsPromoted (sym h.1.1.1) h.1.1.0)
    typed (Node t y (Unary Minus a)) h = (typed a h.1.0, subst W.IsPromoted (sym h.1.1.1) h.1.1.0)
    typed (Node t y (Unary Complement a)) h = (typed a h.1.0, subst W.IsPromoted (sym h.1.1.1) h.1.1.0)
    typed (Node t y (Binary op a b)) h = (typed a h.1.0, typed b h.1.1, binary-of m.tree.records op (type_in a) (type_in b) (type_of y) h.1.2)
    typed (Node t y (Logic op a b)) h = (typed a h.1.0, typed b h.1.1, h.1.4)
    typed (Node t y (Cond c a b)) h = (typed c h.1.0, typed a h.1.1, typed b h.1.2, h.1.4, h.1.5)
    typed (Node t y (Comma a b)) h = (typed a h.1.0, typed b h.1.1, h.1.2)
    typed (Node t y (Assign a b)) h = (typed a h.1.0, typed b h.1.1, h.1.3, h.1.4)
    typed (Node t y (Compound op working a b)) h = (
      typed a h.1.0,
      typed b h.1.1,
      subst (λ x. CanUpdate working x (type_in b)) h.1.3 (compound-of m.tree.records op working (type_in a) (type_in b) h.1.4),
      h.1.3,
    )
    typed (Node t y (Step op a)) h = (typed a h.1.0, subst W.IsScalar h.1.2 (steps m.tree.records (type_in a) h.1.3), h.1.2)
    typed (Node t y (Cast a)) h = (typed a h.1.0, cast-of (type_in a) (type_of y) h.1.1)
    typed (Node t y (Decay a)) h = (typed a h.1.0, decays a (type_of y) h.1.1)
    typed (Node t y (Member a i)) h = typed a h.1.0
    typed (Node t y (Deref a)) h = (typed a h.1.0, pointer-type (type_in a) y h.1.1)
    typed (Node t y (Address a)) h = (typed a h.1.0, pointer-type (type_of y) (type_at a) h.1.2)
    typed (Node t y (Call s args)) h = (
      arguments args h.1.1 h.1.5,
      λ f found. ap letter_of h.1.4 ∙ agreed-letter m.tree.records h.1.0 h.1.1 f.shape
          (w.functions m inside s (Qualified (FunctionType h.1.0 h.1.1) false false) f h.1.2 found),
    )
    typed (Node t y (CallValue a args)) h =
        (typed a h.1.0, arguments args h.1.1.1 h.1.1.7, subst (λ x. Calls x (type_of y)) (sym h.1.1.4) (sym h.1.1.6))

    pub arguments : (args : Expressions) (params : QTypes) → AreArguments m.tree locals args params → AreTyped p m.name args
    arguments NoExpression params h = tt
    arguments (OneExpression a rest) (OneType q params) h = (typed a h.0, arguments rest params h.3)
    arguments (OneExpression a rest) NoType h = absurd h

  absent : (o : Option Expression) → W.IsTypedOrAbsent m.tree locals o → IsTypedIfAny p m.name o
  absent None h = tt
  absent (Some a) h = typed a h

  condition-absent : (o : Option Expression) → W.IsConditionOrAbsent m.tree locals o → IsTypedIfAny p m.name o
  condition-absent None h = tt
  condition-absent (Some a) h = typed a h.0

  initialisers : (first count : ℕ) (is : List Initialiser) → All (M.Initialises m.tree locals first count) is → AreTypedInitialisers p m.name is
  initialisers first count [] h = tt
  initialisers first count (ByValue k a ∷ rest) h = (
    typed a (All-head (M.Initialises m.tree locals first count) (ByValue k a) rest h).2,
    initialisers first count rest (All-tail (M.Initialises m.tree locals first count) (ByValue k a) rest h),
  )
  initialisers first count (ByBytes k hidden parts ∷ rest) h =
      initialisers first count rest (All-tail (M.Initialises m.tree locals first count) (ByBytes k hidden parts) rest h)

module _ (p : Program) (w : IsWellTyped p) (m : ProgramModule) (inside : Contains p.modules m) (f : FunctionValue) where
  mutual
    unfolding IsStatement AreStatements AreArms IsElse

    pub statement : (s : Statement) (breaks continues : Bool) (from : ℕ) → IsStatement m.tree f breaks continues from s → IsTypedStatement p m.name (letter_in m f) s
    statement (Evaluate t a) breaks continues from h = typed p w m inside f.locals a h
    statement (Block t first count is list) breaks continues from h =
        (initialisers p w m inside f.locals first count is h.2, statements list breaks continues (first + count) h.3)
    statement (If t list otherwise) breaks continues from h = (arms_of list breaks continues from h.1, else_of otherwise breaks continues from h.2)
    statement (While t c body) breaks continues from h = (typed p w m inside f.locals c h.0.0, statement body true true from h.1)
    statement (Do t body c) breaks continues from h = (statement body true true from h.1, typed p w m inside f.locals c h.0.0)
    statement (For t first c third body) breaks continues from h =
        (absent p w m inside f.locals first h.0, condition-absent p w m inside f.locals c h.1, absent p w m inside f.locals third h.2, statement body true true from h.3)
    statement (Switch t a cases default body) breaks continues from h = (typed p w m inside f.locals a h.0, statement body true continues from h.2)
    statement (Label t labels body) breaks continues from h = statement body breaks continues from h.1
    statement (Return t (Some a)) breaks continues from h =
        (typed p w m inside f.locals a h.0, ap letter_of h.1.4 ∙ letter-of m f h.1.0 h.1.1 h.1.2)
    statement _ breaks continues from h = tt

    pub statements : (ss : Statements) (breaks continues : Bool) (from : ℕ) → AreStatements m.tree f breaks continues from ss → AreTypedStatements p m.name (letter_in m f) ss
    statements NoStatement breaks continues from h = tt
    statements (OneStatement s rest) breaks continues from h = (statement s breaks continues from h.0, statements rest breaks continues from h.1)

    pub arms_of : (list : Arms) (breaks continues : Bool) (from : ℕ) → AreArms m.tree f breaks continues from list → AreTypedArms p m.name (letter_in m f) list
    arms_of NoArm breaks continues from h = tt
    arms_of (Arm t c s rest) breaks continues from h =
        (typed p w m inside f.locals c h.0.0, statement s breaks continues from h.1, arms_of rest breaks continues from h.2)

    pub else_of : (o : Otherwise) (breaks continues : Bool) (from : ℕ) → IsElse m.tree f breaks continues from o → IsTypedElse p m.name (letter_in m f) o
    else_of NoElse breaks continues from h = tt
    else_of (Else s) breaks continues from h = statement s breaks continues from h

-- ---- programs

same-at : {X : Type 0} (xs : List X) (k : ℕ) (x y : X) → k < length xs → get_or xs k x ≡ get_or xs k y
same-at [] k x y h = absurd (omega arith)
same-at (z ∷ zs) zero x y h = refl
same-at (z ∷ zs) (suc k) x y h = same-at zs k x y (omega arith)

all-with : {X : Type 0} (Q : X → Type 0) (xs : List X) → ((x : X) → Contains xs x → Q x) → All Q xs
all-with Q xs h k d below = h (get_or xs k d) (k, below, same-at xs k (get_or xs k d) d below)

contained : {X : Type 0} (Q : X → Type 0) (xs : List X) (x : X) → All Q xs → Contains xs x → Q x
contained Q xs x h c = subst Q c.2 (h c.0 x c.1)

all-flat : {X Y : Type 0} (Q : Y → Type 0) (g : X → List Y) (xs : List X) → All (λ x. All Q (g x)) xs → All Q (flat_map g xs)
all-flat Q g [] h = All-nil Q
all-flat Q g (x ∷ xs) h =
    subst (All Q) (sym (flat_map-cons g x xs))
    (All-append Q (g x) (flat_map g xs) (All-head (λ y. All Q (g y)) x xs h) (all-flat Q g xs (All-tail (λ y. All Q (g y)) x xs h)))

library-typed : (p : Program) → All (IsTypedCallable p) library
library-typed p zero d below = refl
library-typed p (suc zero) d below = refl
library-typed p (suc (suc zero)) d below = refl
library-typed p (suc (suc (suc k))) d below = absurd (omega arith)

functions-typed : (p : Program) (w : IsWellTyped p) (m : ProgramModule) → Contains p.modules m → All (IsTypedCallable p) (map (callable m) m.tree.functions)
functions-typed p w m inside =
    let well : M.WellTyped m.tree = contained (λ m. M.WellTyped m.tree) p.modules m w.modules inside in
    All-map (IsTypedCallable p) (callable m) m.tree.functions (λ k d below.
    statement p w m inside (get_or m.tree.functions k d) (get_or m.tree.functions k d).body false false (get_or m.tree.functions k d).params (well.functions k d below).body)

pub program-typed : (p : Program) → IsWellTyped p → IsTypedProgram p
program-typed p w =
    All-append (IsTypedCallable p) library (flat_map (λ m. map (callable m) m.tree.functions) p.modules) (library-typed p)
    (all-flat (IsTypedCallable p) (λ m. map (callable m) m.tree.functions) p.modules
    (all-with (λ m. All (IsTypedCallable p) (map (callable m) m.tree.functions)) p.modules (functions-typed p w)))
