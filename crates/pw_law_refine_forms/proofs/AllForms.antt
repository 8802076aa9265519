-- All expressions keep their promise, where those do that name functions or call them: by their structure.
use Rattle.std.proofs.Common.{◌≡◌, ℕ, ◌⊎◌, inl, inr, Bool, true, false, true≢false, Option, Some, None, List, [], refl, ap, sym, ◌∙◌, subst}
use Rattle.pw_value.specs.declared.value.Value.{Value}
use Rattle.pw_types.specs.TypeTrees.{CType, Void, Int, Pointer, Array, Function, Record, QType, Qualified, type_of, RecordValue}
use Rattle.pw_types.specs.declared.kind.IntKind.TheVariants as K
use Rattle.pw_types.specs.declared.kind.IntKind.{IntKind}
use Rattle.pw_types.specs.declared.tree.BinaryOperator.{BinaryOperator}
use Rattle.pw_types.specs.declared.tree.BinaryOperator.TheVariants as B
use Rattle.pw_types.specs.declared.tree.StepOperator.{StepOperator}
use Rattle.pw_types.specs.Conversions.{promoted}
use Rattle.pw_types.specs.declared.tree.UnaryOperator.TheVariants as unary
use Rattle.pw_types.specs.declared.tree.LogicOperator.TheVariants as logic
use Rattle.pw_types.specs.TypedTrees as T
use Rattle.pw_types.specs.TypedTrees.{Expression, Node, Symbol, Expressions, NoExpression, OneExpression}
use Rattle.pw_types.specs.WellTyped.{IsTyped, HasForm, IsArithmetic, IsPointer, IsScalar, IsPromoted, PointsToObject, AreNumbers, AreCompared, FitsBinary, FitsCompound, MovesPointer, WorksInCommon, WorksPromoted, type_in}
use Rattle.pw_cmean.specs.Acts.{State, Site, Outcome, Gives, give, stop, wrong, ◌>>=◌, go_on}
use Rattle.pw_cmean.specs.Access.{fetch}
use Rattle.pw_cmean.specs.Evaluation as meaning
use Rattle.pw_cmean.specs.Evaluation.{site, symbol_place, value_by, answer_of, place_of}
use Rattle.pw_run_languages.specs.FlowRun.{Machine}
use Rattle.pw_lower.specs.declared.code.Code.{Code}
use Rattle.pw_lower.specs.Operators.{kind_of}
use Rattle.pw_lower.specs.Expressions.{lower, address_of_global, value_of_global}
use Rattle.pw_types.specs.FullNames.{full_name}
use Rattle.pw_value.specs.declared.value.Kind.{Kind}
use Rattle.pw_law_refine.specs.Standing.{Spot}
use Rattle.pw_law_refine.specs.Activations.{Activation, IsActivation, Numbers, graph_of, env_of}
use Rattle.pw_law_refine.specs.Containing.{ContainsCode}
use Rattle.pw_law_refine.specs.Meeting.{Meets}
use Rattle.pw_law_refine.specs.Expressions.{IsReady, HasValue, IsOfPlaces, ExpressionKeeps}
use Rattle.pw_law_refine_forms.specs.Accesses.{IsAdditive, IsComparison, IsMove, LvalueKeeps, AddressKeeps, TargetsSuit}
use Rattle.pw_law_refine_forms.specs.Calling.{EachKeeps, FunctionFormsKeep}
use Rattle.pw_law_refine_forms.proofs.Laws.{Laws}
use Rattle.pw_law_refine_forms.proofs.Simulation.{meets-then, meets-here}
use Rattle.pw_law_refine_forms.proofs.Numbers.{NumberLaws}
use Rattle.pw_law_refine_forms.proofs.Loads.{local-keeps, deref-keeps}
use Rattle.pw_law_refine_forms.proofs.Lvalues.{local-lvalue, deref-lvalue, local-suited, deref-suited}
use Rattle.pw_law_refine_forms.proofs.Symbols.{global-lvalue, global-suited, global-keeps}
use Rattle.pw_law_refine_forms.proofs.Strings.{string-address, global-address, address-of-global, address-of-string, symbol-reaches}
use Rattle.pw_law_refine_forms.proofs.Addresses.{local-address, deref-address, comma-address, cond-address, decay-keeps, address-of-local, address-of-deref, no-kind}
use Rattle.pw_law_refine_forms.proofs.Assign.{assign-keeps}
use Rattle.pw_law_refine_forms.proofs.Copies.{record-assign-keeps, record-assign-address}
use Rattle.pw_law_refine_forms.proofs.Truths.{not-keeps}
use Rattle.pw_law_refine_forms.proofs.Logic.{and-keeps, or-keeps}
use Rattle.pw_law_refine_forms.proofs.Cond.{cond-keeps}
use Rattle.pw_law_refine_forms.proofs.Compare.{comparison-keeps}
use Rattle.pw_law_refine_forms.proofs.Steps.{compound-keeps, step-keeps}
use Rattle.pw_law_refine_forms.proofs.PointerUpdates.{pointer-compound-keeps, pointer-step-keeps}
use Rattle.pw_law_refine_forms.proofs.Members.{member-keeps, member-lvalue, member-suited, member-address, address-of-member}
use Rattle.pw_law_refine_forms.proofs.Moves.{sum-keeps, turned-sum-keeps, less-keeps, distance-keeps}

-- the forms that are proved below
pub record FormLaws : Type 0 where
  pub numbers : (bound t k : ℕ) (ty : QType) → ExpressionKeeps bound (Node t ty (T.Number k))
  pub commas : (bound t : ℕ) (ty : QType) (a b : Expression) → ExpressionKeeps bound a → ExpressionKeeps bound b → ExpressionKeeps bound (Node t ty (T.Comma a b))
  pub plus : (bound t : ℕ) (ty : QType) (a : Expression) → ExpressionKeeps bound a → ExpressionKeeps bound (Node t ty (T.Unary unary.Plus a))
  pub minus : (bound t : ℕ) (ty : QType) (a : Expression) → ExpressionKeeps bound a → ExpressionKeeps bound (Node t ty (T.Unary unary.Minus a))
  pub complement : (bound t : ℕ) (ty : QType) (a : Expression) → ExpressionKeeps bound a → ExpressionKeeps bound (Node t ty (T.Unary unary.Complement a))
  pub casts : (bound t : ℕ) (ty : QType) (a : Expression) → ExpressionKeeps bound a → ExpressionKeeps bound (Node t ty (T.Cast a))
  pub binary : (bound t : ℕ) (ty : QType) (o : BinaryOperator) (a b : Expression) (j k : IntKind) → type_in a ≡ Int j → type_in b ≡ Int k →
      ExpressionKeeps bound a → ExpressionKeeps bound b → ExpressionKeeps bound (Node t ty (T.Binary o a b))

-- ---- by the types

-- an integer type
int-of : (ty : CType) → IsArithmetic ty → (k : IntKind) × (ty ≡ Int k)
int-of (Int k) h = (k, refl)
int-of Void h = absurd h
int-of (Pointer q) h = absurd h
int-of (Array q n) h = absurd h
int-of (Function r ps) h = absurd h
int-of (Record n) h = absurd h

promoted-int : (ty : CType) → IsPromoted ty → (k : IntKind) × (ty ≡ Int k)
promoted-int (Int k) h = (k, refl)
promoted-int Void h = absurd h
promoted-int (Pointer q) h = absurd h
promoted-int (Array q n) h = absurd h
promoted-int (Function r ps) h = absurd h
promoted-int (Record n) h = absurd h

-- scalar, or a place, or none
sorts : (ty : CType) → IsScalar ty ⊎ (IsOfPlaces ty ⊎ (ty ≡ Void))
sorts Void = inr (inr refl)
sorts (Int k) = inl tt
sorts (Pointer q) = inl tt
sorts (Array q n) = inr (inl tt)
sorts (Function r ps) = inr (inl tt)
sorts (Record n) = inr (inl tt)

no-scalar : (ty : CType) → IsScalar ty → IsOfPlaces ty → ⊥
no-scalar (Int k) h g = g
no-scalar (Pointer q) h g = g
no-scalar Void h g = h
no-scalar (Array q n) h g = h
no-scalar (Function r ps) h g = h
no-scalar (Record n) h g = h

compared-of : (records : List RecordValue) (o : BinaryOperator) (l r result : CType) → IsComparison o → FitsBinary records o l r result → AreCompared l r result
compared-of records B.Less l r result is h = h
compared-of records B.Greater l r result is h = h
compared-of records B.LessEqual l r result is h = h
compared-of records B.GreaterEqual l r result is h = h
compared-of records B.Equal l r result is h = h
compared-of records B.NotEqual l r result is h = h
compared-of records o l r result is h = absurd is

-- numbers of one type, which is the result's
both-numbers : (l r result : CType) → AreNumbers l r result → IsArithmetic l × IsArithmetic r
both-numbers l r result h =
    let k = promoted-int result h.0 in
    (subst IsArithmetic (sym (h.1 ∙ k.1)) tt, subst IsArithmetic (sym (h.2 ∙ k.1)) tt)

promoted-number : (ty : CType) → IsPromoted ty → IsArithmetic ty
promoted-number ty h = let k = promoted-int ty h in subst IsArithmetic (sym k.1) tt

points : (records : List RecordValue) (ty : CType) → PointsToObject records ty → IsPointer ty
points records ty h = (h.0, h.1)

-- an operator on numbers, a comparison, or one that moves a pointer or measures between two
Sorts : BinaryOperator → CType → CType → Type 0
Sorts o l r = (IsArithmetic l × IsArithmetic r) ⊎ IsComparison o ⊎ IsMove o l r

binary-sorts : (records : List RecordValue) (o : BinaryOperator) (l r result : CType) → FitsBinary records o l r result → Sorts o l r
unfolding Sorts
binary-sorts records B.Add l r result (inl h) = inl (both-numbers l r result h)
binary-sorts records B.Add l r result (inr (inl h)) = inr (inr (inl (points records l h.0, h.1)))
binary-sorts records B.Add l r result (inr (inr h)) = inr (inr (inr (h.1, points records r h.0)))
binary-sorts records B.Subtract l r result (inl h) = inl (both-numbers l r result h)
binary-sorts records B.Subtract l r result (inr (inl h)) = inr (inr (inl (points records l h.0, h.1)))
binary-sorts records B.Subtract l r result (inr (inr h)) = inr (inr (inr (points records l h.0, points records r h.1)))
binary-sorts records B.ShiftLeft l r result h = inl (promoted-number l h.0, promoted-number r h.1)
binary-sorts records B.ShiftRight l r result h = inl (promoted-number l h.0, promoted-number r h.1)
binary-sorts records B.Less l r result h = inr (inl tt)
binary-sorts records B.Greater l r result h = inr (inl tt)
binary-sorts records B.LessEqual l r result h = inr (inl tt)
binary-sorts records B.GreaterEqual l r result h = inr (inl tt)
binary-sorts records B.Equal l r result h = inr (inl tt)
binary-sorts records B.NotEqual l r result h = inr (inl tt)
binary-sorts records B.Multiply l r result h = inl (both-numbers l r result h)
binary-sorts records B.Divide l r result h = inl (both-numbers l r result h)
binary-sorts records B.Remainder l r result h = inl (both-numbers l r result h)
binary-sorts records B.And l r result h = inl (both-numbers l r result h)
binary-sorts records B.ExclusiveOr l r result h = inl (both-numbers l r result h)
binary-sorts records B.Or l r result h = inl (both-numbers l r result h)

is_int : CType → Bool
is_int (Int k) = true
is_int ty = false

no-pointer : (k : IntKind) (ty : CType) (q : QType) → Int k ≡ ty → ty ≡ Pointer q → ⊥
unfolding is_int
no-pointer k ty q e f = true≢false (ap is_int (e ∙ f))

AreInts : CType → CType → Type 0
AreInts l r = ((j : IntKind) × (l ≡ Int j)) × ((k : IntKind) × (r ≡ Int k))

common-ints : (work : IntKind) (l r : CType) → WorksInCommon (Int work) l r → AreInts l r
unfolding AreInts
common-ints work (Int j) r h = ((j, refl), (work, h.2))
common-ints work Void r h = absurd h
common-ints work (Pointer q) r h = absurd h
common-ints work (Array q n) r h = absurd h
common-ints work (Function s ps) r h = absurd h
common-ints work (Record n) r h = absurd h

shift-ints : (work : IntKind) (l r : CType) → WorksPromoted (Int work) l r → AreInts l r
unfolding AreInts
shift-ints work (Int j) r h = ((j, refl), promoted-int r h.1)
shift-ints work Void r h = absurd h
shift-ints work (Pointer q) r h = absurd h
shift-ints work (Array q n) r h = absurd h
shift-ints work (Function s ps) r h = absurd h
shift-ints work (Record n) r h = absurd h

compound-ints : (records : List RecordValue) (o : BinaryOperator) (work : IntKind) (l r : CType) → FitsCompound records o (Int work) l r → AreInts l r
compound-ints records B.Add work l r (inl h) = common-ints work l r h
compound-ints records B.Add work l r (inr h) = absurd (no-pointer work l h.0.0 h.2 h.0.1)
compound-ints records B.Subtract work l r (inl h) = common-ints work l r h
compound-ints records B.Subtract work l r (inr h) = absurd (no-pointer work l h.0.0 h.2 h.0.1)
compound-ints records B.ShiftLeft work l r h = shift-ints work l r h
compound-ints records B.ShiftRight work l r h = shift-ints work l r h
compound-ints records B.Multiply work l r h = common-ints work l r h
compound-ints records B.Divide work l r h = common-ints work l r h
compound-ints records B.Remainder work l r h = common-ints work l r h
compound-ints records B.And work l r h = common-ints work l r h
compound-ints records B.ExclusiveOr work l r h = common-ints work l r h
compound-ints records B.Or work l r h = common-ints work l r h
compound-ints records B.Less work l r h = absurd h
compound-ints records B.Greater work l r h = absurd h
compound-ints records B.LessEqual work l r h = absurd h
compound-ints records B.GreaterEqual work l r h = absurd h
compound-ints records B.Equal work l r h = absurd h
compound-ints records B.NotEqual work l r h = absurd h

common-work : (work l r : CType) → WorksInCommon work l r → (k : IntKind) × (work ≡ Int k)
common-work (Int k) l r h = (k, refl)
common-work Void l r h = absurd h
common-work (Pointer q) l r h = absurd h
common-work (Array q n) l r h = absurd h
common-work (Function s ps) l r h = absurd h
common-work (Record n) l r h = absurd h

promoted-work : (work l r : CType) → WorksPromoted work l r → (k : IntKind) × (work ≡ Int k)
promoted-work work (Int j) r h = (promoted j, h.0)
promoted-work work Void r h = absurd h
promoted-work work (Pointer q) r h = absurd h
promoted-work work (Array q n) r h = absurd h
promoted-work work (Function s ps) r h = absurd h
promoted-work work (Record n) r h = absurd h

-- a compound assignment works in an integer type, or moves a pointer by a number
record MovesIn (o : BinaryOperator) (work l r : CType) : Type 0 where
  moves : IsAdditive o
  to : QType
  own : l ≡ Pointer to
  works : work ≡ Pointer to
  number : IsArithmetic r

moves-in : (records : List RecordValue) (o : BinaryOperator) (work l r : CType) → IsAdditive o → MovesPointer records l r work → MovesIn o work l r
moves-in records o work l r moves h = record { moves = moves; to = h.0.0; own = h.0.1; works = h.2 ∙ h.0.1; number = h.1 }

compound-sorts : (records : List RecordValue) (o : BinaryOperator) (work l r : CType) → FitsCompound records o work l r → ((k : IntKind) × (work ≡ Int k)) ⊎ MovesIn o work l r
compound-sorts records B.Add work l r (inl h) = inl (common-work work l r h)
compound-sorts records B.Add work l r (inr h) = inr (moves-in records B.Add work l r tt h)
compound-sorts records B.Subtract work l r (inl h) = inl (common-work work l r h)
compound-sorts records B.Subtract work l r (inr h) = inr (moves-in records B.Subtract work l r tt h)
compound-sorts records B.ShiftLeft work l r h = inl (promoted-work work l r h)
compound-sorts records B.ShiftRight work l r h = inl (promoted-work work l r h)
compound-sorts records B.Multiply work l r h = inl (common-work work l r h)
compound-sorts records B.Divide work l r h = inl (common-work work l r h)
compound-sorts records B.Remainder work l r h = inl (common-work work l r h)
compound-sorts records B.And work l r h = inl (common-work work l r h)
compound-sorts records B.ExclusiveOr work l r h = inl (common-work work l r h)
compound-sorts records B.Or work l r h = inl (common-work work l r h)
compound-sorts records B.Less work l r h = absurd h
compound-sorts records B.Greater work l r h = absurd h
compound-sorts records B.LessEqual work l r h = absurd h
compound-sorts records B.GreaterEqual work l r h = absurd h
compound-sorts records B.Equal work l r h = absurd h
compound-sorts records B.NotEqual work l r h = absurd h

-- ---- globals and strings as values of every type

-- the value of a place is the place
pub place-value : (at : Site) (ty : CType) (place : Value) (s : State) → IsOfPlaces ty → value_by at ty place s ≡ Gives (Some place) s
unfolding value_by fetch give ◌>>=◌ go_on
place-value at (Array q n) place s h = refl
place-value at (Function r ps) place s h = refl
place-value at (Record n) place s h = refl
place-value at Void place s h = absurd h
place-value at (Int k) place s h = absurd h
place-value at (Pointer q) place s h = absurd h

-- an address, whose value is taken by the type
address-value :
    Laws → (bound t : ℕ) (ty : QType) (symbol : Symbol) (x : Activation) (numbers : Numbers) (spots : List Spot) (c : Code) (s : State) (m : Machine)
    → IsActivation x → IsReady x numbers spots c s m → ContainsCode (graph_of x) (address_of_global (full_name x.home.name symbol) c).code → IsOfPlaces (type_of ty) ⊎ (type_of ty ≡ Void)
    → Meets x.world bound m ((symbol_place (env_of x numbers) symbol >>= λ place. meaning.value_at (env_of x numbers) t ty place) s) (HasValue x numbers spots [] (address_of_global (full_name x.home.name symbol) c) c s m)
unfolding ◌>>=◌ meaning.value_at value_by give
address-value laws bound t ty symbol x numbers spots c s m active ready holds sort =
    let y = address_of_global (full_name x.home.name symbol) c in
    let at = site (env_of x numbers) t in
    let R = HasValue x numbers spots [] y c s m in
    meets-then laws x.world bound m (symbol_place (env_of x numbers) symbol s) _ (λ v. HasValue x numbers spots [] y c s m (Some v)) R
    (symbol-reaches laws bound x numbers spots c s m symbol active ready holds)
    (λ v u n q. elim sort [
      | inl places ↦ subst (λ (o : Outcome (Option Value)). Meets x.world bound n o R) (sym (place-value at (type_of ty) v u places)) (meets-here x.world bound n (Some v) u R q)
      | inr none ↦ subst (λ (T : CType). Meets x.world bound n (value_by at T v u) R) (sym none) (meets-here x.world bound n None u R (record { done = q.done; behind = q.behind; stands = tt }))
    ])

none-kind : (ty : CType) → IsOfPlaces ty ⊎ (ty ≡ Void) → kind_of ty ≡ None
none-kind ty (inl h) = no-kind ty h
none-kind ty (inr e) = ap kind_of e

-- one that is no scalar
global-place : Laws → (bound t : ℕ) (ty : QType) (symbol : Symbol) → IsOfPlaces (type_of ty) ⊎ (type_of ty ≡ Void) → ExpressionKeeps bound (Node t ty (T.Global symbol))
unfolding lower answer_of
global-place laws bound t ty symbol sort = λ x numbers spots c s m active typed slots holds ready.
    let name = full_name x.home.name symbol in
    let none = none-kind (type_of ty) sort in
    subst (λ (i : Option Kind). Meets x.world bound m ((symbol_place (env_of x numbers) symbol >>= λ place. meaning.value_at (env_of x numbers) t ty place) s) (HasValue x numbers spots [] (value_of_global i name c) c s m)) (sym none)
    (address-value laws bound t ty symbol x numbers spots c s m active ready (subst (λ (i : Option Kind). ContainsCode (graph_of x) (value_of_global i name c).code) none holds) sort)

any-global : Laws → (bound t : ℕ) (ty : QType) (symbol : Symbol) → ExpressionKeeps bound (Node t ty (T.Global symbol))
any-global laws bound t ty symbol = elim (sorts (type_of ty)) [
  | inl scalar ↦ global-keeps laws bound t ty symbol scalar
  | inr sort ↦ global-place laws bound t ty symbol sort
]

string-type : (ty : CType) → ((c : Bool) × (v : Bool) × (count : ℕ) × (ty ≡ Array (Qualified (Int K.Char) c v) (Some count))) → IsOfPlaces ty
string-type ty h = subst IsOfPlaces (sym h.3) tt

any-string : Laws → (bound t : ℕ) (ty : QType) (k : ℕ) → ExpressionKeeps bound (Node t ty (T.Str k))
unfolding lower answer_of IsTyped HasForm
any-string laws bound t ty k = λ x numbers spots c s m active typed slots holds ready.
    address-value laws bound t ty (T.Hidden k) x numbers spots c s m active ready holds (inl (string-type (type_of ty) typed.1.1))

-- ---- targets

suits : Laws → (a : Expression) → TargetsSuit a
unfolding IsTyped HasForm
suits laws (Node t ty (T.Local k)) = λ x c active typed slots lvalue scalar. local-suited x t ty k c typed
suits laws (Node t ty (T.Global symbol)) = λ x c active typed slots lvalue scalar. global-suited x t ty symbol c active typed
suits laws (Node t ty (T.Deref a)) = λ x c active typed slots lvalue scalar. deref-suited laws x t ty a c typed slots
suits laws (Node t ty (T.Str k)) = λ x c active typed slots lvalue scalar. absurd (no-scalar (type_of ty) scalar (string-type (type_of ty) typed.1.1))
suits laws (Node t ty (T.Member a offset)) = λ x c active typed slots lvalue scalar. member-suited laws x t ty a offset c typed slots
suits laws (Node t ty form) = λ x c active typed slots lvalue scalar. absurd lvalue

-- ---- forms that depend on types

move-keeps : Laws → (bound t : ℕ) (ty : QType) (o : BinaryOperator) (a b : Expression) → IsMove o (type_in a) (type_in b)
    → ExpressionKeeps bound a → ExpressionKeeps bound b → ExpressionKeeps bound (Node t ty (T.Binary o a b))
move-keeps laws bound t ty B.Add a b (inl h) first second = let k = int-of (type_in b) h.1 in sum-keeps laws bound t ty a b h.0.0 k.0 h.0.1 k.1 first second
move-keeps laws bound t ty B.Add a b (inr h) first second = let k = int-of (type_in a) h.0 in turned-sum-keeps laws bound t ty a b h.1.0 k.0 k.1 h.1.1 first second
move-keeps laws bound t ty B.Subtract a b (inl h) first second = let k = int-of (type_in b) h.1 in less-keeps laws bound t ty a b h.0.0 k.0 h.0.1 k.1 first second
move-keeps laws bound t ty B.Subtract a b (inr h) first second = distance-keeps laws bound t ty a b h.0.0 h.1.0 h.0.1 h.1.1 first second
move-keeps laws bound t ty o a b h first second = absurd h

sorted-binary : Laws → FormLaws → (bound t : ℕ) (ty : QType) (o : BinaryOperator) (a b : Expression) → Sorts o (type_in a) (type_in b)
    → ExpressionKeeps bound a → ExpressionKeeps bound b → ExpressionKeeps bound (Node t ty (T.Binary o a b))
unfolding IsTyped HasForm Sorts
sorted-binary laws forms bound t ty o a b (inl h) first second =
    let j = int-of (type_in a) h.0 in
    let k = int-of (type_in b) h.1 in
    forms.binary bound t ty o a b j.0 k.0 j.1 k.1 first second
sorted-binary laws forms bound t ty o a b (inr (inl h)) first second = λ x numbers spots c s m active typed slots holds ready.
    let fits = compared-of x.home.tree.records o (type_in a) (type_in b) (type_of ty) h typed.1.2 in
    elim fits.0 [
      | inl p ↦ let k = promoted-int (type_in a) p in forms.binary bound t ty o a b k.0 k.0 k.1 (fits.1 ∙ k.1) first second x numbers spots c s m active typed slots holds ready
      | inr q ↦ comparison-keeps laws bound t ty o a b q.0 q.0 h q.1 (fits.1 ∙ q.1) first second x numbers spots c s m active typed slots holds ready
    ]
sorted-binary laws forms bound t ty o a b (inr (inr h)) first second = move-keeps laws bound t ty o a b h first second

any-assign : Laws → (bound t : ℕ) (ty : QType) (a b : Expression) → TargetsSuit a → LvalueKeeps bound a → AddressKeeps bound a → ExpressionKeeps bound b → ExpressionKeeps bound (Node t ty (T.Assign a b))
unfolding IsTyped HasForm
any-assign laws bound t ty a b suited place address second = λ x numbers spots c s m active typed slots holds ready.
    elim typed.1.2.assigned [
      | inl scalar ↦ assign-keeps laws bound t ty a b scalar suited place second x numbers spots c s m active typed slots holds ready
      | inr r ↦ record-assign-keeps laws bound t ty a b r.0 r.1 address second x numbers spots c s m active typed slots holds ready
    ]

any-assign-place : Laws → (bound t : ℕ) (ty : QType) (a b : Expression) → AddressKeeps bound a → ExpressionKeeps bound b → AddressKeeps bound (Node t ty (T.Assign a b))
unfolding IsTyped HasForm
any-assign-place laws bound t ty a b address second = λ x numbers spots c s m active typed slots places holds ready.
    elim typed.1.2.assigned [
      | inl scalar ↦ absurd (no-scalar (type_of ty) (subst IsScalar typed.1.3 scalar) places)
      | inr r ↦ record-assign-address laws bound t ty a b r.0 r.1 address second x numbers spots c s m active typed slots places holds ready
    ]

any-binary : Laws → FormLaws → (bound t : ℕ) (ty : QType) (o : BinaryOperator) (a b : Expression) → ExpressionKeeps bound a → ExpressionKeeps bound b → ExpressionKeeps bound (Node t ty (T.Binary o a b))
unfolding IsTyped HasForm
any-binary laws forms bound t ty o a b first second = λ x numbers spots c s m active typed slots holds ready.
    sorted-binary laws forms bound t ty o a b (binary-sorts x.home.tree.records o (type_in a) (type_in b) (type_of ty) typed.1.2) first second x numbers spots c s m active typed slots holds ready

any-compound : Laws → NumberLaws → (bound t : ℕ) (ty : QType) (o : BinaryOperator) (working : CType) (a b : Expression) → TargetsSuit a → LvalueKeeps bound a → ExpressionKeeps bound b
    → ExpressionKeeps bound (Node t ty (T.Compound o working a b))
unfolding IsTyped HasForm AreInts
any-compound laws nums bound t ty o working a b suited place second = λ x numbers spots c s m active typed slots holds ready.
    let records = x.home.tree.records in
    elim (compound-sorts records o working (type_in a) (type_in b) typed.1.4) [
      | inl work ↦
          let ints = compound-ints records o work.0 (type_in a) (type_in b) (subst (λ (W : CType). FitsCompound records o W (type_in a) (type_in b)) work.1 typed.1.4) in
          compound-keeps laws nums bound t ty o working a b ints.0.0 work.0 ints.1.0 ints.0.1 work.1 ints.1.1 suited place second x numbers spots c s m active typed slots holds ready
      | inr h ↦
          let k = int-of (type_in b) h.number in
          pointer-compound-keeps laws bound t ty o working a b h.to k.0 h.moves h.own h.works k.1 suited place second x numbers spots c s m active typed slots holds ready
    ]

any-step : Laws → NumberLaws → (bound t : ℕ) (ty : QType) (o : StepOperator) (a : Expression) → TargetsSuit a → LvalueKeeps bound a → ExpressionKeeps bound (Node t ty (T.Step o a))
unfolding IsTyped HasForm
any-step laws nums bound t ty o a suited place = λ x numbers spots c s m active typed slots holds ready.
    elim typed.1.3 [
      | inl h ↦ let k = int-of (type_in a) h in step-keeps laws nums bound t ty o a k.0 k.1 suited place x numbers spots c s m active typed slots holds ready
      | inr h ↦ pointer-step-keeps laws bound t ty o a h.0 h.1 suited place x numbers spots c s m active typed slots holds ready
    ]

-- ---- by structure

mutual
  unfolding IsTyped HasForm place_of wrong stop

  pub every : Laws → NumberLaws → FormLaws → (bound : ℕ) → FunctionFormsKeep bound → (a : Expression) → ExpressionKeeps bound a
  every laws nums forms bound fs (Node t ty (T.Number n)) = forms.numbers bound t n ty
  every laws nums forms bound fs (Node t ty (T.Str k)) = any-string laws bound t ty k
  every laws nums forms bound fs (Node t ty (T.Local k)) = local-keeps laws bound t ty k
  every laws nums forms bound fs (Node t ty (T.Global symbol)) = any-global laws bound t ty symbol
  every laws nums forms bound fs (Node t ty (T.Function symbol)) = fs.names t ty symbol
  every laws nums forms bound fs (Node t ty (T.Unary unary.Plus a)) = forms.plus bound t ty a (every laws nums forms bound fs a)
  every laws nums forms bound fs (Node t ty (T.Unary unary.Minus a)) = forms.minus bound t ty a (every laws nums forms bound fs a)
  every laws nums forms bound fs (Node t ty (T.Unary unary.Complement a)) = forms.complement bound t ty a (every laws nums forms bound fs a)
  every laws nums forms bound fs (Node t ty (T.Unary unary.Not a)) = not-keeps laws bound t ty a (every laws nums forms bound fs a)
  every laws nums forms bound fs (Node t ty (T.Binary o a b)) = any-binary laws forms bound t ty o a b (every laws nums forms bound fs a) (every laws nums forms bound fs b)
  every laws nums forms bound fs (Node t ty (T.Logic logic.And a b)) = and-keeps laws bound t ty a b (every laws nums forms bound fs a) (every laws nums forms bound fs b)
  every laws nums forms bound fs (Node t ty (T.Logic logic.Or a b)) = or-keeps laws bound t ty a b (every laws nums forms bound fs a) (every laws nums forms bound fs b)
  every laws nums forms bound fs (Node t ty (T.Cond a b e)) =
      cond-keeps laws bound t ty a b e (every laws nums forms bound fs a) (every laws nums forms bound fs b) (every laws nums forms bound fs e)
  every laws nums forms bound fs (Node t ty (T.Comma a b)) = forms.commas bound t ty a b (every laws nums forms bound fs a) (every laws nums forms bound fs b)
  every laws nums forms bound fs (Node t ty (T.Assign a b)) =
      any-assign laws bound t ty a b (suits laws a) (every-place laws nums forms bound fs a) (every-address laws nums forms bound fs a) (every laws nums forms bound fs b)
  every laws nums forms bound fs (Node t ty (T.Compound o working a b)) =
      any-compound laws nums bound t ty o working a b (suits laws a) (every-place laws nums forms bound fs a) (every laws nums forms bound fs b)
  every laws nums forms bound fs (Node t ty (T.Step o a)) = any-step laws nums bound t ty o a (suits laws a) (every-place laws nums forms bound fs a)
  every laws nums forms bound fs (Node t ty (T.Cast a)) = forms.casts bound t ty a (every laws nums forms bound fs a)
  every laws nums forms bound fs (Node t ty (T.Decay a)) = decay-keeps laws bound t ty a (every-address laws nums forms bound fs a)
  every laws nums forms bound fs (Node t ty (T.Deref a)) = deref-keeps laws bound t ty a (every laws nums forms bound fs a)
  every laws nums forms bound fs (Node t ty (T.Address (Node u own (T.Local k)))) = address-of-local laws bound t u ty own k
  every laws nums forms bound fs (Node t ty (T.Address (Node u own (T.Global symbol)))) = address-of-global laws bound t u ty own symbol
  every laws nums forms bound fs (Node t ty (T.Address (Node u own (T.Str k)))) = address-of-string laws bound t u ty own k
  every laws nums forms bound fs (Node t ty (T.Address (Node u own (T.Deref a)))) = address-of-deref laws bound t u ty own a (every laws nums forms bound fs a)
  every laws nums forms bound fs (Node t ty (T.Address (Node u own (T.Member a offset)))) = address-of-member laws bound t u ty own a offset (every-address laws nums forms bound fs a)
  every laws nums forms bound fs (Node t ty (T.Address (Node u own (T.Function symbol)))) = fs.addresses t u ty own symbol
  every laws nums forms bound fs (Node t ty (T.Address (Node u own form))) = λ x numbers spots c s m active typed slots holds ready. elim typed.1.1 [ inl l ↦ absurd l | inr d ↦ absurd d.0 ]
  every laws nums forms bound fs (Node t ty (T.Member a offset)) = member-keeps laws bound t ty a offset (every-address laws nums forms bound fs a)
  every laws nums forms bound fs (Node t ty (T.Call symbol args)) = fs.calls t ty symbol args (each laws nums forms bound fs args)
  every laws nums forms bound fs (Node t ty (T.CallValue a args)) = fs.values t ty a args (every laws nums forms bound fs a) (each laws nums forms bound fs args)

  pub every-place : Laws → NumberLaws → FormLaws → (bound : ℕ) → FunctionFormsKeep bound → (a : Expression) → LvalueKeeps bound a
  every-place laws nums forms bound fs (Node t ty (T.Local k)) = local-lvalue laws bound t ty k
  every-place laws nums forms bound fs (Node t ty (T.Global symbol)) = global-lvalue bound t ty symbol
  every-place laws nums forms bound fs (Node t ty (T.Deref a)) = deref-lvalue laws bound t ty a (every laws nums forms bound fs a)
  every-place laws nums forms bound fs (Node t ty (T.Str k)) = λ x numbers spots c s m active typed slots lvalue scalar holds ready. absurd (no-scalar (type_of ty) scalar (string-type (type_of ty) typed.1.1))
  every-place laws nums forms bound fs (Node t ty (T.Member a offset)) = member-lvalue laws bound t ty a offset (every-address laws nums forms bound fs a)
  every-place laws nums forms bound fs (Node t ty form) = λ x numbers spots c s m active typed slots lvalue scalar holds ready. absurd lvalue

  pub every-address : Laws → NumberLaws → FormLaws → (bound : ℕ) → FunctionFormsKeep bound → (a : Expression) → AddressKeeps bound a
  every-address laws nums forms bound fs (Node t ty (T.Str k)) = string-address laws bound t ty k
  every-address laws nums forms bound fs (Node t ty (T.Local k)) = local-address laws bound t ty k
  every-address laws nums forms bound fs (Node t ty (T.Global symbol)) = global-address laws bound t ty symbol
  every-address laws nums forms bound fs (Node t ty (T.Function symbol)) = fs.places t ty symbol
  every-address laws nums forms bound fs (Node t ty (T.Deref a)) = deref-address laws bound t ty a (every laws nums forms bound fs a)
  every-address laws nums forms bound fs (Node t ty (T.Cond a b e)) =
      cond-address laws bound t ty a b e (every laws nums forms bound fs a) (every-address laws nums forms bound fs b) (every-address laws nums forms bound fs e)
  every-address laws nums forms bound fs (Node t ty (T.Comma a b)) = comma-address laws bound t ty a b (every laws nums forms bound fs a) (every-address laws nums forms bound fs b)
  every-address laws nums forms bound fs (Node t ty (T.Assign a b)) = any-assign-place laws bound t ty a b (every-address laws nums forms bound fs a) (every laws nums forms bound fs b)
  every-address laws nums forms bound fs (Node t ty (T.Member a offset)) = member-address laws bound t ty a offset (every-address laws nums forms bound fs a)
  every-address laws nums forms bound fs (Node t ty form) = λ x numbers spots c s m active typed slots places holds ready. tt

  each : Laws → NumberLaws → FormLaws → (bound : ℕ) → FunctionFormsKeep bound → (args : Expressions) → EachKeeps bound args
  each laws nums forms bound fs NoExpression = tt
  each laws nums forms bound fs (OneExpression a rest) = (every laws nums forms bound fs a, each laws nums forms bound fs rest)
