-- Locals whose address is taken in a well-typed statement are locals of its function.
use Rattle.std.proofs.Common.{ℕ, ◌+◌, ◌<◌, Bool, true, Option, Some, None, List, [], ◌∷◌, ◌++◌, length}
use Rattle.std.specs.List.{AllByRecursion, flat_map}
use Rattle.std.proofs.lemmas.Option.{slice_get_within}
use Rattle.std.proofs.lemmas.List.Elements.{recursion_from_All}
use Rattle.pw_types.specs.TypeTrees.{QTypes, NoType, OneType}
use Rattle.pw_types.specs.TypedTrees.{Expression, Node, Number, Str, Local, Global, Function, Unary, Binary, Logic, Cond, Comma, Assign, Compound, Step, Cast, Decay, Member, Deref, Address, Call, CallValue, Expressions, NoExpression, OneExpression, Initialiser, Value, Bytes, Statement, Evaluate, Block, If, While, Do, For, Switch, Label, Return, Arms, NoArm, Arm, Otherwise, NoElse, Else, Statements, NoStatement, OneStatement, LocalValue, FunctionValue, ModuleValue}
use Rattle.pw_types.specs.TypedModules.{Initialises, IsStatement, AreStatements, AreArms, IsElse}
use Rattle.pw_types.specs.WellTyped.{IsTyped, IsTypedOrAbsent, IsConditionOrAbsent, AreArguments}
use Rattle.pw_lower.specs.Places.{addressed_in, addressed_in_all, addressed_in_option, addressed_in_initialiser, addressed_in_statement, addressed_in_arms, addressed_in_otherwise, addressed_in_statements}

module _ (m : ModuleValue) (locals : List LocalValue) where
  abbrev Locals : List ℕ → Type 0
  Locals ks = AllByRecursion (λ k. k < length locals) ks

  both : (xs ys : List ℕ) → Locals xs → Locals ys → Locals (xs ++ ys)
  both [] ys g h = h
  both (x ∷ xs) ys g h = (g.0, both xs ys g.1 h)

  mutual
    unfolding IsTyped

    pub in-expression : (a : Expression) → IsTyped m locals a → Locals (addressed_in a)
    in-expression (Node t y (Number n)) h = tt
    in-expression (Node t y (Str k)) h = tt
    in-expression (Node t y (Local k)) h = tt
    in-expression (Node t y (Global s)) h = tt
    in-expression (Node t y (Function s)) h = tt
    in-expression (Node t y (Unary o a)) h = in-expression a h.1.0
    in-expression (Node t y (Binary o a b)) h = both (addressed_in a) (addressed_in b) (in-expression a h.1.0) (in-expression b h.1.1)
    in-expression (Node t y (Logic o a b)) h = both (addressed_in a) (addressed_in b) (in-expression a h.1.0) (in-expression b h.1.1)
    in-expression (Node t y (Cond c a b)) h =
        both (addressed_in c ++ addressed_in a) (addressed_in b) (both (addressed_in c) (addressed_in a) (in-expression c h.1.0) (in-expression a h.1.1)) (in-expression b h.1.2)
    in-expression (Node t y (Comma a b)) h = both (addressed_in a) (addressed_in b) (in-expression a h.1.0) (in-expression b h.1.1)
    in-expression (Node t y (Assign a b)) h = both (addressed_in a) (addressed_in b) (in-expression a h.1.0) (in-expression b h.1.1)
    in-expression (Node t y (Compound o working a b)) h = both (addressed_in a) (addressed_in b) (in-expression a h.1.0) (in-expression b h.1.1)
    in-expression (Node t y (Step o a)) h = in-expression a h.1.0
    in-expression (Node t y (Cast a)) h = in-expression a h.1.0
    in-expression (Node t y (Decay a)) h = in-expression a h.1.0
    in-expression (Node t y (Member a offset)) h = in-expression a h.1.0
    in-expression (Node t y (Deref a)) h = in-expression a h.1.0
    in-expression (Node t y (Address (Node u z (Local k)))) h = (slice_get_within locals k h.1.0.1.0 h.1.0.1.1, tt)
    in-expression (Node t y (Address a)) h = in-expression a h.1.0
    in-expression (Node t y (Call s args)) h = in-arguments args h.1.1 h.1.5
    in-expression (Node t y (CallValue a args)) h =
        both (addressed_in a) (addressed_in_all args) (in-expression a h.1.0) (in-arguments args h.1.1.1 h.1.1.7)

    pub in-arguments : (args : Expressions) (params : QTypes) → AreArguments m locals args params → Locals (addressed_in_all args)
    in-arguments NoExpression NoType h = tt
    in-arguments NoExpression (OneType q rest) h = absurd h
    in-arguments (OneExpression a as') NoType h = absurd h
    in-arguments (OneExpression a as') (OneType q rest) h = both (addressed_in a) (addressed_in_all as') (in-expression a h.0) (in-arguments as' rest h.3)

  in-option : (a : Option Expression) → IsTypedOrAbsent m locals a → Locals (addressed_in_option a)
  in-option None h = tt
  in-option (Some a) h = in-expression a h

  in-condition : (a : Option Expression) → IsConditionOrAbsent m locals a → Locals (addressed_in_option a)
  in-condition None h = tt
  in-condition (Some a) h = in-expression a h.0

  in-initialiser : (first count : ℕ) (i : Initialiser) → Initialises m locals first count i → Locals (addressed_in_initialiser i)
  in-initialiser first count (Value k a) h = in-expression a h.2
  in-initialiser first count (Bytes k hidden parts) h = tt

  in-initialisers : (first count : ℕ) (is : List Initialiser) → AllByRecursion (Initialises m locals first count) is → Locals (flat_map addressed_in_initialiser is)
  in-initialisers first count [] h = tt
  in-initialisers first count (i ∷ is) h =
      both (addressed_in_initialiser i) (flat_map addressed_in_initialiser is) (in-initialiser first count i h.0) (in-initialisers first count is h.1)

module _ (m : ModuleValue) (f : FunctionValue) where
  mutual
    unfolding IsStatement

    pub in-statement : (b c : Bool) (from : ℕ) (a : Statement) → IsStatement m f b c from a → Locals m f.locals (addressed_in_statement a)
    in-statement b c from (Evaluate t e) h = in-expression m f.locals e h
    in-statement b c from (Block t first count initialisers items) h =
        both m f.locals (flat_map addressed_in_initialiser initialisers) (addressed_in_statements items)
        (in-initialisers m f.locals first count initialisers (recursion_from_All (Initialises m f.locals first count) initialisers h.2))
        (in-statements b c (first + count) items h.3)
    in-statement b c from (If t arms otherwise) h =
        both m f.locals (addressed_in_arms arms) (addressed_in_otherwise otherwise) (in-arms b c from arms h.1) (in-else b c from otherwise h.2)
    in-statement b c from (While t e body) h =
        both m f.locals (addressed_in e) (addressed_in_statement body) (in-expression m f.locals e h.0.0) (in-statement true true from body h.1)
    in-statement b c from (Do t body e) h =
        both m f.locals (addressed_in_statement body) (addressed_in e) (in-statement true true from body h.1) (in-expression m f.locals e h.0.0)
    in-statement b c from (For t first e third body) h =
        both m f.locals (addressed_in_option first ++ addressed_in_option e ++ addressed_in_option third) (addressed_in_statement body)
        (both m f.locals (addressed_in_option first ++ addressed_in_option e) (addressed_in_option third)
        (both m f.locals (addressed_in_option first) (addressed_in_option e) (in-option m f.locals first h.0) (in-condition m f.locals e h.1)) (in-option m f.locals third h.2))
        (in-statement true true from body h.3)
    in-statement b c from (Switch t e cases default body) h =
        both m f.locals (addressed_in e) (addressed_in_statement body) (in-expression m f.locals e h.0) (in-statement true c from body h.2)
    in-statement b c from (Label t labels body) h = in-statement b c from body h.1
    in-statement b c from (Return t (Some e)) h = in-expression m f.locals e h.0
    in-statement b c from _ h = tt

    pub in-statements : (b c : Bool) (from : ℕ) (all : Statements) → AreStatements m f b c from all → Locals m f.locals (addressed_in_statements all)
    in-statements b c from NoStatement h = tt
    in-statements b c from (OneStatement a rest) h =
        both m f.locals (addressed_in_statement a) (addressed_in_statements rest) (in-statement b c from a h.0) (in-statements b c from rest h.1)

    pub in-arms : (b c : Bool) (from : ℕ) (arms : Arms) → AreArms m f b c from arms → Locals m f.locals (addressed_in_arms arms)
    in-arms b c from NoArm h = tt
    in-arms b c from (Arm t e a rest) h =
        both m f.locals (addressed_in e ++ addressed_in_statement a) (addressed_in_arms rest)
        (both m f.locals (addressed_in e) (addressed_in_statement a) (in-expression m f.locals e h.0.0) (in-statement b c from a h.1)) (in-arms b c from rest h.2)

    pub in-else : (b c : Bool) (from : ℕ) (otherwise : Otherwise) → IsElse m f b c from otherwise → Locals m f.locals (addressed_in_otherwise otherwise)
    in-else b c from NoElse h = tt
    in-else b c from (Else a) h = in-statement b c from a h
