-- Lowering of statements (C90 6.6).
use Rattle.std.specs.Prelude.{ℕ, ◌+◌, nat_lt, if◌then◌else◌, Option, Some, None, option_map, unwrap_or, List, [], ◌∷◌, map, length, slice_get}
use Rattle.pw_value.specs.declared.value.Kind.{Kind}
use Rattle.pw_types.specs.TypeTrees.{CType, Void, type_of}
use Rattle.pw_types.specs.TypedTrees.{Expression, Initialiser, Value, Bytes, Hidden, CaseValue, Statement, Empty, Evaluate, Block, If, While, Do, For, Switch, Label, Goto, Break, Continue, Return, Arms, NoArm, Arm, Otherwise, NoElse, Else, Statements, NoStatement, OneStatement, LocalValue}
use Rattle.pw_flow.specs.declared.flow.BinKind.TheVariants.{Eq}
use Rattle.pw_flow.specs.declared.flow.End.TheVariants.{Jump, Branch, Return as Returns}
use Rattle.pw_lower.specs.declared.code.Code.{Code}
use Rattle.pw_lower.specs.Codes.{temp_of, constant, reserve, cut, cut_here, leave, block_of_label, named_from}
use Rattle.pw_lower.specs.declared.place.Ways.{Ways}
use Rattle.pw_lower.specs.declared.place.LocalPlace.{LocalPlace}
use Rattle.pw_lower.specs.Places.{place_at}
use Rattle.pw_lower.specs.Operators.{with, kind_of}
use Rattle.pw_lower.specs.Expressions.{Home, full_name, address_of_global, address_of_local, target_of_local, stored, copied, lower}

-- ---- labels

-- a label put into labels in rising order
abbrev pub inserted : ℕ → List ℕ → List ℕ
inserted l [] = l ∷ []
inserted l (m ∷ rest) = if nat_lt l m then l ∷ m ∷ rest else m ∷ inserted l rest

-- the labels of a switch in the order of the text: those of its cases, and its default's
abbrev pub labels_of : List CaseValue → Option ℕ → List ℕ
labels_of cases None = map (λ k. k.label) cases
labels_of cases (Some l) = inserted l (map (λ k. k.label) cases)

-- ---- parts

-- the type of a local
abbrev pub local_type : List LocalValue → ℕ → CType
local_type locals k = unwrap_or (option_map (λ local. type_of local.ty) (slice_get locals k)) Void

-- the initialiser of a local (C90 6.5.7): a scalar's value is stored, a record's is copied
abbrev pub initialised_by : Home → Option Kind → CType → LocalPlace → Expression → Code → Code
initialised_by h (Some kind) ty place e c =
    let p = target_of_local place c in (stored kind p.target (lower h e p.code)).code
initialised_by h None ty place e c =
    let x = address_of_local place c in (copied h.records ty (temp_of x) (lower h e x.code)).code

-- the bytes of a hidden object are copied
abbrev pub copied_from : Home → CType → LocalPlace → ℕ → Code → Code
copied_from h ty place hidden c =
    let x = address_of_local place c in
    (copied h.records ty (temp_of x) (address_of_global (full_name h.name (Hidden hidden)) x.code)).code

abbrev pub initialised : Home → List LocalValue → Initialiser → Code → Code
initialised h locals (Value k e) c =
    initialised_by h (kind_of (local_type locals k)) (local_type locals k) (place_at h.places k) e c
initialised h locals (Bytes k hidden parts) c = copied_from h (local_type locals k) (place_at h.places k) hidden c

abbrev pub initialised_all : Home → List LocalValue → List Initialiser → Code → Code
initialised_all h locals [] c = c
initialised_all h locals (i ∷ rest) c = initialised_all h locals rest (initialised h locals i c)

-- an expression that may be left out, for its side effects
abbrev pub effects : Home → Option Expression → Code → Code
effects h None c = c
effects h (Some e) c = (lower h e c).code

-- where a condition is not 0, to one block, and else to another; a block of this number is filled from here on
abbrev pub test : Home → Expression → ℕ → ℕ → ℕ → ℕ → Code → Code
test h e so other next depth c = let x = lower h e c in cut (Branch (temp_of x) so other) next depth x.code

-- the same of the condition of a `for`, which may be left out
abbrev pub test_or_go : Home → Option Expression → ℕ → ℕ → ℕ → Code → Code
test_or_go h None so other depth c = cut (Jump so) so depth c
test_or_go h (Some e) so other depth c = test h e so other so depth c

-- a `switch` compares its value with one case after another (C90 6.6.4.2)
abbrev pub choose : ℕ → List CaseValue → Code → Code
choose v [] c = c
choose v (k ∷ rest) c =
    let x = with Eq v (constant k.value c) in
    choose v rest (cut_here (Branch (temp_of x) (block_of_label x.code k.label) x.code.blocks) x.code.blocks (reserve 1 x.code))

-- the block of the default, or where `break` goes
abbrev pub default_or : Code → Option ℕ → ℕ → ℕ
default_or c None out = out
default_or c (Some l) out = block_of_label c l

-- what follows the comparisons: the block to which nothing goes is filled from here on
abbrev pub chosen : Option ℕ → ℕ → Code → Code
chosen default out c = leave (Jump (default_or c default out)) c

-- each label's block begins here
abbrev pub begun : List ℕ → Code → Code
begun [] c = c
begun (l ∷ rest) c = begun rest (cut_here (Jump (block_of_label c l)) (block_of_label c l) c)

-- ---- loops and `switch`, by what lowers their bodies

-- `while` (C90 6.6.5.1)
abbrev pub looping : Home → Expression → (Ways → Code → Code) → Code → Code
looping h e body c =
    let head = c.blocks in let inner = c.blocks + 1 in let out = c.blocks + 2 in
    let entered = test h e inner out inner (c.depth + 1) (cut (Jump head) head (c.depth + 1) (reserve 3 c)) in
    cut (Jump head) out c.depth (body (record { out = out; on = head }) entered)

-- `do` (C90 6.6.5.2)
abbrev pub repeating : Home → Expression → (Ways → Code → Code) → Code → Code
repeating h e body c =
    let inner = c.blocks in let on = c.blocks + 1 in let out = c.blocks + 2 in
    let turned = body (record { out = out; on = on }) (cut (Jump inner) inner (c.depth + 1) (reserve 3 c)) in
    test h e inner out out c.depth (cut (Jump on) on (c.depth + 1) turned)

-- `for` (C90 6.6.5.3)
abbrev pub counting : Home → Option Expression → Option Expression → Option Expression → (Ways → Code → Code) → Code → Code
counting h first condition third body c =
    let head = c.blocks in let inner = c.blocks + 1 in let on = c.blocks + 2 in let out = c.blocks + 3 in
    let begun = cut (Jump head) head (c.depth + 1) (effects h first (reserve 4 c)) in
    let entered = test_or_go h condition inner out (c.depth + 1) begun in
    let turned = cut (Jump on) on (c.depth + 1) (body (record { out = out; on = on }) entered) in
    cut (Jump head) out c.depth (effects h third turned)

-- `switch` (C90 6.6.4.2)
abbrev pub switching : Home → Expression → List CaseValue → Option ℕ → (ℕ → Code → Code) → Code → Code
switching h e cases default body c =
    let out = c.blocks in let own = labels_of cases default in
    let x = lower h e (named_from (c.blocks + 1) own (reserve (1 + length own) c)) in
    cut (Jump out) out c.depth (body out (chosen default out (choose (temp_of x) cases x.code)))

-- `return` (C90 6.6.6.4)
abbrev pub returning : Home → Option Expression → Code → Code
returning h None c = leave (Returns None) c
returning h (Some e) c = let x = lower h e c in leave (Returns x.temp) x.code

-- ---- statements

-- what is the same for the whole function
pub record Frame : Type 0 where
  pub home : Home
  pub locals : List LocalValue

unfoldable mutual
  pub lower_statement : Frame → Ways → Statement → Code → Code
  lower_statement f ways (Empty t) c = c
  lower_statement f ways (Evaluate t e) c = (lower f.home e c).code
  lower_statement f ways (Block t first count initialisers items) c =
      lower_statements f ways items (initialised_all f.home f.locals initialisers c)
  lower_statement f ways (If t arms otherwise) c = lower_arms f ways arms (lower_otherwise f ways otherwise) c
  lower_statement f ways (While t e body) c = looping f.home e (λ own d. lower_statement f own body d) c
  lower_statement f ways (Do t body e) c = repeating f.home e (λ own d. lower_statement f own body d) c
  lower_statement f ways (For t first condition third body) c =
      counting f.home first condition third (λ own d. lower_statement f own body d) c
  lower_statement f ways (Switch t e cases default body) c =
      switching f.home e cases default (λ out d. lower_statement f (record ways { out = out }) body d) c
  lower_statement f ways (Label t own body) c = lower_statement f ways body (begun own c)
  lower_statement f ways (Goto t l) c = leave (Jump (block_of_label c l)) c
  lower_statement f ways (Break t) c = leave (Jump ways.out) c
  lower_statement f ways (Continue t) c = leave (Jump ways.on) c
  lower_statement f ways (Return t e) c = returning f.home e c

  -- The arms of an `if`, and what stands behind them. Where anything stands behind an arm, it has a block of its
  -- own before the one in which the two ways join.
  pub lower_arms : Frame → Ways → Arms → Option (Code → Code) → Code → Code
  lower_arms f ways NoArm None c = c
  lower_arms f ways NoArm (Some last) c = last c
  lower_arms f ways (Arm t e s NoArm) None c =
      let x = lower f.home e c in
      let so = x.code.blocks in let join = x.code.blocks + 1 in
      let entered = cut_here (Branch (temp_of x) so join) so (reserve 2 x.code) in
      cut_here (Jump join) join (lower_statement f ways s entered)
  lower_arms f ways (Arm t e s rest) last c =
      let x = lower f.home e c in
      let so = x.code.blocks in let other = x.code.blocks + 1 in let join = x.code.blocks + 2 in
      let entered = cut_here (Branch (temp_of x) so other) so (reserve 3 x.code) in
      let behind = cut_here (Jump join) other (lower_statement f ways s entered) in
      cut_here (Jump join) join (lower_arms f ways rest last behind)

  pub lower_otherwise : Frame → Ways → Otherwise → Option (Code → Code)
  lower_otherwise f ways NoElse = None
  lower_otherwise f ways (Else s) = Some (λ c. lower_statement f ways s c)

  pub lower_statements : Frame → Ways → Statements → Code → Code
  lower_statements f ways NoStatement c = c
  lower_statements f ways (OneStatement s rest) c =
      lower_statements f ways rest (lower_statement f ways s c)
