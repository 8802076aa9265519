-- The rules on tiny modules, by computation.
use Rattle.std.specs.Prelude.{◌≡◌, Ok, Err, refl}
use Rattle.pw_check_walk.specs.declared.constraints.CheckKind.TheVariants.{UnknownName}
use Rattle.pw_check_walk.specs.Walks.{bind, outcome}
use Rattle.pw_check_rules.specs.Checks.{checked, checking}
use Rattle.pw_check_rules.specs.Declarations.{decls_rule, specified_rule}
use Rattle.pw_check_rules.specs.Derivations.{built, stepped}
use Rattle.pw_check_rules.specs.Functions.{function_rule, body_rule, measured_rule, ends_in_function}
use Rattle.pw_check_rules.specs.Kinds.{same_type, qualify, is_const_object, is_volatile_object, innermost}
use Rattle.pw_check_rules.specs.Leaves.{number_rule, identifier_rule, parameter_rule, parameter_storage, bindings_rule}
use Rattle.pw_check_rules.specs.Limits.{many_parameters, long_shape_of}
use Rattle.pw_check_rules.specs.Linkage.{declare_linked}
use Rattle.pw_check_rules.specs.Modules.{module_rule, externals_rule, external_rule, end_rule}
use Rattle.pw_check_rules.specs.Operators.{value_rule}
use Rattle.pw_check_rules.specs.Phrases.{expr_rule, specifiers_rule, declarator_rule, core_rule, suffixes_rule, parameters_rule}
use Rattle.pw_check_rules.specs.Samples.{main_returning, seven, unknown, main_of_seven}
use Rattle.pw_check_rules.specs.SpecifierLists.{specified}
use Rattle.pw_check_rules.specs.States.{scoped}
use Rattle.pw_check_rules.specs.Statements.{stmt_rule, stmts_rule, block_rule, return_rule, whole_rule, labels_in_block, labels_in_list, labels_in}

-- all that the rules of these modules compute with
rules_of_samples : checked (main_returning seven) ≡ checked (main_returning seven)
unfolding same_type checked checking bind outcome built stepped value_rule number_rule identifier_rule parameter_rule parameter_storage bindings_rule declare_linked many_parameters long_shape_of qualify is_const_object is_volatile_object innermost module_rule externals_rule external_rule end_rule function_rule body_rule measured_rule ends_in_function expr_rule specifiers_rule declarator_rule core_rule suffixes_rule parameters_rule specified scoped stmt_rule stmts_rule block_rule return_rule whole_rule labels_in_block labels_in_list labels_in decls_rule specified_rule
rules_of_samples = refl

pub seven_is_typed : checked (main_returning seven) ≡ Ok main_of_seven
unfolding rules_of_samples
seven_is_typed = refl

pub unknown_is_told : checked (main_returning unknown) ≡ Err (record { kind = UnknownName; token = 8 })
unfolding rules_of_samples
unknown_is_told = refl
