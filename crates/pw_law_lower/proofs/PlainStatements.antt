-- The operations of the code of a function keep the limits, and name no function that the program starts with.
use Rattle.std.proofs.Common.{◌≡◌, ℕ, ◌+◌, ◌<◌, ◌≤◌, ◌^◌, false, Option, Some, option_map, unwrap_or, List, [], ◌∷◌, refl, sym, subst, arith}
use Rattle.std.specs.Prelude.{All, slice_get}
use Rattle.std.specs.List.{AllByRecursion}
use Rattle.std.proofs.lemmas.List.Elements.{recursion_from_All}
use Rattle.pw_value.specs.ProgramNames.{IsOrdinary}
use Rattle.pw_types.specs.FullNames.{full_name}
use Rattle.pw_types.specs.TypeTrees.{CType, Void, type_of}
use Rattle.pw_types.specs.Rooms.{stmt_nodes, arm_nodes, else_nodes, nodes_of_statements, room_of}
use Rattle.pw_value.specs.Limits.{room_limit}
use Rattle.pw_types.specs.TypedModules.{Initialises, IsFunction, IsStatement}
use Rattle.pw_types.specs.TypedTrees.{Expression, Initialiser, Value, Bytes, Hidden, CaseValue, Statement, Block, If, While, Do, For, Switch, Label, Arms, NoArm, Arm, Otherwise, NoElse, Else, Statements, NoStatement, OneStatement, LocalValue, FunctionValue, ModuleValue}
use Rattle.pw_types.specs.WellTyped.{IsNumber, type_in, IsTyped}
use Rattle.pw_flow.specs.FlowGraph.{names_in_block, names_in_function, op_names}
use Rattle.pw_flow.specs.ValidFlow.{IsWord}
use Rattle.pw_flow.specs.declared.flow.Op.{Op}
use Rattle.pw_flow.specs.declared.flow.Block as flow
use Rattle.pw_flow.proofs.Lists.{all_flat}
use Rattle.pw_lower.specs.Statements.{local_type}
use Rattle.pw_lower.specs.Modules.{lowered_function}
use Rattle.pw_law_lower.specs.Bounds.{IsBounded, IsBlockBounded, IsFunctionBounded}
use Rattle.pw_law_lower.specs.Within.{AreLetters, IsCopied, AreRecordsWithin, IsSmall, IsSmallIn, KeepsLimits, IsFunctionWithin}
use Rattle.pw_law_lower_walk.specs.Parts.{EachStatement, EachArm, InElse, StatementParts}
use Rattle.pw_law_lower_walk.specs.Given.{OfNumber, InitialiserIn, CasesIn, Trees}
use Rattle.pw_law_lower_walk.proofs.Both.{both_statement}
use Rattle.pw_law_lower_walk.proofs.Folds.{statement_parts}
use Rattle.pw_law_lower_walk.proofs.Functions.{each_block}
use Rattle.pw_law_lower_walk.proofs.Typed.{IsTypedInitialiser, IsTypedStatement, typed_statement}
use Rattle.pw_law_lower.proofs.Names.{all_more, name_ordinary}
use Rattle.pw_law_lower.proofs.Plain.{IsPlainOp, IsPlainBlock, IsPlainTree, at_place, number_small, number_plain, copy_plain, object_plain, plain_nodes}

-- ---- depths: below a statement so many loops deep stand no more loops than the statement has nodes

abbrev IsShallow : ℕ → Statement → Type 0
IsShallow d s = d + stmt_nodes s < 2 ^ 32

depth_small : (d : ℕ) (s : Statement) → IsShallow d s → IsWord d
depth_small d s h = let n : d + stmt_nodes s < 2 ^ 32 = h in omega (arith, n)

module _ (N : Expression → Type 0) (I : Initialiser → Type 0) (S : Statement → Type 0) where
  -- with its depth
  abbrev At : ℕ → Statement → Type 0
  At d s = S s × IsShallow d s

  statements_shallow : (d : ℕ) (all : Statements) → d + nodes_of_statements all < 2 ^ 32 → EachStatement S all → EachStatement (At d) all
  statements_shallow d NoStatement n h = tt
  statements_shallow d (OneStatement s rest) n h = ((h.0, omega (arith, n)), statements_shallow d rest (omega (arith, n)) h.1)

  arms_shallow : (d : ℕ) (arms : Arms) → d + arm_nodes arms < 2 ^ 32 → EachArm N S arms → EachArm N (At d) arms
  arms_shallow d NoArm n h = tt
  arms_shallow d (Arm t e body rest) n h = (h.0, (h.1, omega (arith, n)), arms_shallow d rest (omega (arith, n)) h.2)

  else_shallow : (d : ℕ) (o : Otherwise) → d + else_nodes o < 2 ^ 32 → InElse S o → InElse (At d) o
  else_shallow d NoElse n h = tt
  else_shallow d (Else s) n h = (h, n)

  parts_shallow : (d : ℕ) (s : Statement) → IsShallow d s → StatementParts N I S S s → StatementParts N I (At d) (At (d + 1)) s
  parts_shallow d (Block t first count initialisers items) n h = (h.0, statements_shallow d items (omega (arith, n)) h.1)
  parts_shallow d (If t arms otherwise) n h = (arms_shallow d arms (omega (arith, n)) h.0, else_shallow d otherwise (omega (arith, n)) h.1)
  parts_shallow d (While t e body) n h = (h.0, (h.1, omega (arith, n)))
  parts_shallow d (Do t body e) n h = (h.0, (h.1, omega (arith, n)))
  parts_shallow d (For t a b c body) n h = (h.0, h.1, h.2, (h.3, omega (arith, n)))
  parts_shallow d (Switch t e cases default body) n h = (h.0, (h.1, omega (arith, n)))
  parts_shallow d (Label t labels body) n h = (h, omega (arith, n))
  parts_shallow d s n h = h

-- ---- statements

module _ (m : ModuleValue) (f : FunctionValue) where
  abbrev IsPlainInitialiser : Initialiser → Type 0
  IsPlainInitialiser i = IsTypedInitialiser m f i × IsSmallIn m.records i

  -- well typed, within the limits, and not too deep
  abbrev IsPlainStatement : ℕ → Statement → Type 0
  IsPlainStatement d s = (IsTypedStatement m f s × KeepsLimits m.records s) × IsShallow d s

module _
    (m : ModuleValue) (known : AreRecordsWithin m.records) (ids : All (λ d. AreLetters d.name) m.declared) (f : FunctionValue) (name : List ℕ)
    (objects : AllByRecursion (λ (l : LocalValue). IsCopied m.records (type_of l.ty)) f.locals)
  where
    abbrev IsTree : Expression → Type 0
    IsTree e = IsPlainTree m known ids f.locals name e

    local_copied : (k : ℕ) (l : LocalValue) → slice_get f.locals k ≡ Some l → IsCopied m.records (local_type f.locals k)
    local_copied k l e =
        subst (λ (o : Option LocalValue). IsCopied m.records (unwrap_or (option_map (λ local. type_of local.ty) o) Void)) (sym e)
        (at_place (λ (l : LocalValue). IsCopied m.records (type_of l.ty)) f.locals k l objects e)

    initialiser_plain : (i : Initialiser) → IsPlainInitialiser m f i → InitialiserIn IsPlainOp name m.records f.locals IsTree i
    initialiser_plain (Value k e) w =
        let v : Initialises m f.locals w.0.0 w.0.1 (Value k e) = w.0.2 in
        let o = v.3 in
        ((v.2, w.1), λ scalar. copy_plain m.records (local_type f.locals k) (local_copied k o.0 o.1))
    initialiser_plain (Bytes k hidden parts) w =
        let v : Initialises m f.locals w.0.0 w.0.1 (Bytes k hidden parts) = w.0.2 in
        let o = v.2 in
        (object_plain (full_name name (Hidden hidden)) (name_ordinary name (Hidden hidden) tt), copy_plain m.records (local_type f.locals k) (local_copied k o.0 o.2))

    parts_plain : (d : ℕ) (s : Statement) → IsPlainStatement m f d s → StatementParts IsTree (IsPlainInitialiser m f) (IsPlainStatement m f d) (IsPlainStatement m f (d + 1)) s
    parts_plain d s w =
        parts_shallow IsTree (IsPlainInitialiser m f) (λ (s : Statement). IsTypedStatement m f s × KeepsLimits m.records s) d s w.1
        (both_statement (IsTyped m f.locals) (IsSmall m.records) (IsTypedInitialiser m f) (IsSmallIn m.records) (IsTypedStatement m f) (KeepsLimits m.records) s
        (typed_statement m f s w.0.0) (statement_parts (IsSmall m.records) (IsSmallIn m.records) s w.0.1))

    numbers_plain : (ty : CType) (cases : List CaseValue) → AllByRecursion (λ (k : CaseValue). IsNumber ty k.value) cases → AllByRecursion (λ (k : CaseValue). OfNumber IsPlainOp k.value) cases
    numbers_plain ty cases h = all_more (λ (k : CaseValue). IsNumber ty k.value) (λ (k : CaseValue). OfNumber IsPlainOp k.value) cases (λ k i. number_plain k.value (number_small ty k.value i)) h

    cases_plain : (s : Statement) → IsTypedStatement m f s → CasesIn IsPlainOp s
    unfolding IsStatement
    cases_plain (Switch t e cases default body) w =
        let v : IsStatement m f w.0 w.1 w.2 (Switch t e cases default body) = w.3 in
        numbers_plain (type_in e) cases (recursion_from_All (λ (k : CaseValue). IsNumber (type_in e) k.value) cases v.1.numbers)
    cases_plain s w = tt

    plain_trees : Trees IsPlainOp IsWord name m.records f.locals IsTree (IsPlainInitialiser m f) (IsPlainStatement m f)
    plain_trees = record {
      nodes = plain_nodes m known ids f.locals name;
      initialiser = initialiser_plain;
      depth = λ d s w. depth_small d s w.1;
      parts = parts_plain;
      cases = λ d s w. cases_plain s w.0.0;
    }

-- ---- functions

ordinary-blocks : (blocks : List flow.Block) → AllByRecursion IsPlainBlock blocks → AllByRecursion (λ (b : flow.Block). AllByRecursion IsOrdinary (names_in_block b)) blocks
ordinary-blocks [] h = tt
ordinary-blocks (b ∷ rest) h =
    (all_flat op_names IsOrdinary b.ops (all_more IsPlainOp (λ (o : Op). AllByRecursion IsOrdinary (op_names o)) b.ops (λ o i. i.1) h.0.1), ordinary-blocks rest h.1)

bounded-blocks : (blocks : List flow.Block) → AllByRecursion IsPlainBlock blocks → AllByRecursion IsBlockBounded blocks
bounded-blocks [] h = tt
bounded-blocks (b ∷ rest) h = (record { depth = h.0.0; ops = all_more IsPlainOp IsBounded b.ops (λ o i. i.0) h.0.1 }, bounded-blocks rest h.1)

plain_room : (m : ModuleValue) (f : FunctionValue) → room_of m.records f ≤ room_limit → 0 + stmt_nodes f.body < 2 ^ 32
plain_room m f r = omega (arith, r)

function-plain : (home : List ℕ) (m : ModuleValue) (f : FunctionValue) → AreRecordsWithin m.records → All (λ d. AreLetters d.name) m.declared → IsFunction m f → IsFunctionWithin m f → AllByRecursion IsPlainBlock (lowered_function home m.records f).blocks
function-plain home m f known ids h i =
    let objects = recursion_from_All (λ (l : LocalValue). IsCopied m.records (type_of l.ty)) f.locals i.locals in
    let body : IsPlainStatement m f 0 f.body = (((false, false, f.params, h.body), i.body), plain_room m f i.room) in
    each_block IsPlainOp IsWord home m.records (IsPlainTree m known ids f.locals home) (IsPlainInitialiser m f) (IsPlainStatement m f) f (plain_trees m known ids f home objects) body

pub function_ordinary : (home : List ℕ) (m : ModuleValue) (f : FunctionValue) → AreRecordsWithin m.records → All (λ d. AreLetters d.name) m.declared → IsFunction m f → IsFunctionWithin m f → AllByRecursion IsOrdinary (names_in_function (lowered_function home m.records f))
function_ordinary home m f known ids h i =
    let blocks = (lowered_function home m.records f).blocks in
    all_flat names_in_block IsOrdinary blocks (ordinary-blocks blocks (function-plain home m f known ids h i))

params_are : (home : List ℕ) (m : ModuleValue) (f : FunctionValue) → (lowered_function home m.records f).params ≡ f.params
unfolding lowered_function
params_are home m f = refl

pub function_bounded : (home : List ℕ) (m : ModuleValue) (f : FunctionValue) → AreRecordsWithin m.records → All (λ d. AreLetters d.name) m.declared → IsFunction m f → IsFunctionWithin m f → IsFunctionBounded (lowered_function home m.records f)
function_bounded home m f known ids h i = record {
  params = omega (arith, params_are home m f, i.params);
  blocks = bounded-blocks (lowered_function home m.records f).blocks (function-plain home m f known ids h i);
}
