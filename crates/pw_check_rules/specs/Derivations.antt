-- Declarators (ISO C90 6.5.4): what they make of a type, from the type of the specifiers outward.
use Rattle.std.specs.Prelude.{ℕ, Bool, true, false, not, ◌&&◌, ◌||◌, nat_le, Option, None, Some, List, [], ◌∷◌, count_by, length}
use Rattle.pw_tree.specs.declared.expr.Qualifier.{Qualifier}
use Rattle.pw_tree.specs.declared.expr.Qualifier.TheVariants as Q
use Rattle.pw_tree.specs.Trees.{Word}
use Rattle.pw_tree.specs.Trees as S
use Rattle.pw_types.specs.TypeTrees.{Pointer, Array, Function, QType, Qualified, QTypes, type_of, RecordValue}
use Rattle.pw_check_walk.specs.Causes.{Point, keeps, needs, OnePointerQualifier, ElementType, ResultType, NoRecordByValue}
use Rattle.pw_check_walk.specs.declared.constraints.Which.TheVariants.{TypeDepth}
use Rattle.pw_check_walk.specs.Walks.{meets, pure, asks, ◌>>=◌, ◌>>◌}
use Rattle.pw_check_rules.specs.Kinds.{plain, is_array, is_function, is_record}
use Rattle.pw_check_rules.specs.Limits.{Spot, completed}
use Rattle.pw_check_rules.specs.States.{Rule, records_in}
use Rattle.pw_check_rules.specs.declared.names.Tag.{Tag}

-- one step outward: a pointer with its `*` and its qualifiers, an array with its length, a function with its parameters
pub data Derivation : Type 0 where
  ToPointer : ℕ → List Qualifier → Derivation
  ToArray : Option ℕ → Derivation
  ToFunction : QTypes → Derivation

-- a parameter: its name and its type
pub record ParameterValue : Type 0 where
  pub name : Option Word
  pub ty : QType

-- What a parameter list declares, for the function's body: its parameters, and the names in its scope with the places of
-- their entities, and the tags.
pub record Bindings : Type 0 where
  pub parameters : List ParameterValue
  pub ordinary : List (List ℕ × ℕ)
  pub tags : List (List ℕ × Tag)

-- What a declarator says: its name, its steps from the type of the specifiers outward, and what the parameter list nearest
-- to the name declares.
pub record Declared : Type 0 where
  pub name : Option Word
  pub derivations : List Derivation
  pub bindings : Option Bindings

-- the same of what stands behind the name
pub record Suffixed : Type 0 where
  pub derivations : List Derivation
  pub bindings : Option Bindings

abbrev pub pointer_step : S.Pointer → Derivation
pointer_step p = ToPointer p.token p.qualifiers

abbrev pub is_const_word : Qualifier → Bool
is_const_word Q.Const = true
is_const_word Q.Volatile = false

abbrev pub is_volatile_word : Qualifier → Bool
is_volatile_word q = not (is_const_word q)

abbrev pub has_const : List Qualifier → Bool
has_const qualifiers = nat_le 1 (count_by is_const_word qualifiers)

abbrev pub has_volatile : List Qualifier → Bool
has_volatile qualifiers = nat_le 1 (count_by is_volatile_word qualifiers)

abbrev pub step_type : Derivation → QType → QType
step_type (ToPointer t qualifiers) q = Qualified (Pointer q) (has_const qualifiers) (has_volatile qualifiers)
step_type (ToArray length) q = plain (Array q length)
step_type (ToFunction parameters) q = plain (Function q parameters)

-- what each step asks: no qualifier twice (6.5.4.1); elements of a complete type (6.5.4.2); a result that is no array and
-- no function, and no structure or union (6.5.4.3)
abbrev pub step_point : List RecordValue → Spot → Derivation → QType → Point
step_point records spot (ToPointer t qualifiers) q =
    needs OnePointerQualifier t (nat_le (count_by is_const_word qualifiers) 1 && nat_le (count_by is_volatile_word qualifiers) 1) ∷ []
step_point records spot (ToArray length) q =
    needs ElementType spot.token (not (is_function (type_of q)))
    ∷ completed records spot ElementType (type_of q)
    ∷ []
step_point records spot (ToFunction parameters) q =
    needs ResultType spot.token (not (is_function (type_of q) || is_array (type_of q)))
    ∷ needs NoRecordByValue spot.specifier (not (is_record (type_of q)))
    ∷ []

-- the type that steps make
unfoldable pub stepped : Spot → List Derivation → QType → Rule QType
stepped spot [] q = pure q
stepped spot (step ∷ rest) q =
    asks records_in >>= λ records.
    meets (step_point records spot step q) >>
    stepped spot rest (step_type step q)

-- the most steps of one declarator (5.2.4.1)
abbrev pub derivation_limit : ℕ
derivation_limit = 4096

-- The type that a declarator makes. Each step makes a type deeper by one: where they alone are far too many, no type is
-- built of them.
unfoldable pub built : Spot → List Derivation → QType → Rule QType
built spot steps q =
    meets (keeps TypeDepth derivation_limit spot.token (length steps) ∷ []) >>
    stepped spot steps q

-- where its faults stand
abbrev pub spot_of : Option Word → ℕ → Option ℕ → Spot
spot_of None first tag = record { token = first; specifier = first; tag = tag }
spot_of (Some w) first tag = record { token = w.token; specifier = first; tag = tag }
