-- Compatible and composite types (ISO C90 6.1.2.6, 6.5.2 to 6.5.4).
use Rattle.std.specs.Prelude.{ℕ, ◌==◌, Bool, true, false, not, ◌&&◌, ◌||◌, Option, None, Some}
use Rattle.std.specs.Option.{option_or}
use Rattle.pw_types.specs.TypeTrees.{CType, Void, Int, Pointer, Array, Function, Record, QType, Qualified, QTypes, NoType, OneType, is_constant, is_volatile}
use Rattle.pw_check_rules.specs.Kinds.{same_kind}
use Rattle.pw_value.specs.ProgramNames.{same_truth}

-- lengths that do not differ where both are known
abbrev pub lengths_agree : Option ℕ → Option ℕ → Bool
lengths_agree (Some n) (Some m) = n == m
lengths_agree _ _ = true

unfoldable mutual
  -- the types without their qualifiers
  pub compatible_types : CType → CType → Bool
  compatible_types Void Void = true
  compatible_types (Int a) (Int b) = same_kind a b
  -- 6.5.4.1
  compatible_types (Pointer a) (Pointer b) = compatible a b
  -- 6.5.4.2
  compatible_types (Array a n) (Array b m) = compatible a b && lengths_agree n m
  -- 6.5.4.3
  compatible_types (Function a ps) (Function b qs) = compatible a b && compatible_parameters ps qs
  compatible_types (Record a) (Record b) = a == b
  compatible_types _ _ = false

  -- qualified alike (6.5.3)
  pub compatible : QType → QType → Bool
  compatible (Qualified a c v) (Qualified b d w) = compatible_types a b && same_truth c d && same_truth v w

  -- as many parameters, whose own qualifiers do not count
  pub compatible_parameters : QTypes → QTypes → Bool
  compatible_parameters NoType NoType = true
  compatible_parameters (OneType a ps) (OneType b qs) = compatible_plainly a b && compatible_parameters ps qs
  compatible_parameters _ _ = false

  -- compatible as unqualified types
  pub compatible_plainly : QType → QType → Bool
  compatible_plainly (Qualified a c v) (Qualified b d w) = compatible_types a b

unfoldable mutual
  -- the composite of two compatible types, which has what is known of either
  pub composite_type : CType → CType → CType
  composite_type (Pointer a) (Pointer b) = Pointer (composite a b)
  composite_type (Array a n) (Array b m) = Array (composite a b) (option_or n m)
  composite_type (Function a ps) (Function b qs) = Function (composite a b) (composite_parameters ps qs)
  composite_type a b = a

  pub composite : QType → QType → QType
  composite (Qualified a c v) (Qualified b d w) = Qualified (composite_type a b) c v

  pub composite_parameters : QTypes → QTypes → QTypes
  composite_parameters (OneType a ps) (OneType b qs) = OneType (composite a b) (composite_parameters ps qs)
  composite_parameters ps qs = ps

-- what the first is qualified with, the second is too
abbrev pub qualified_within : QType → QType → Bool
qualified_within a b = (not (is_constant a) || is_constant b) && (not (is_volatile a) || is_volatile b)
