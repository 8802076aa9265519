-- Expressions, specifiers and declarators (ISO C90 6.3, 6.5.1 to 6.5.5): the order in which they are read. What each phrase
-- asks and makes stands with the operators and the leaves.
use Rattle.std.specs.Prelude.{ℕ, ◌&&◌, Option, None, Some, option_and_then, unwrap_or, List, [], ◌∷◌, ◌++◌, map}
use Rattle.std.specs.Option.{option_or}
use Rattle.pw_tree.specs.declared.expr.BasicType.TheVariants as W
use Rattle.pw_tree.specs.declared.operator.Access.TheVariants.{Dot, Arrow}
use Rattle.pw_tree.specs.declared.operator.StepOperator.TheVariants as J
use Rattle.pw_tree.specs.declared.operator.UnaryOperator.TheVariants as P
use Rattle.pw_tree.specs.FirstTokens.{first_of_expr, first_of_words, first_of_declarator}
use Rattle.pw_tree.specs.Trees.{Expr, Postfixes, Arguments, Operations, Specifiers, Members, MemberDeclarators, Enumerators, Declarator, Core, Suffixes, Parameters, Word}
use Rattle.pw_tree.specs.Trees as S
use Rattle.pw_types.specs.declared.tree.StepOperator.TheVariants as Q
use Rattle.pw_types.specs.TypeTrees.{QType, MemberValue}
use Rattle.pw_types.specs.TypedTrees.{Expression}
use Rattle.pw_check_walk.specs.Causes.{NoFloating, NoWide, NoVariadic, NoBitField, NoOldStyle, DeclaredIdentifier}
use Rattle.pw_check_walk.specs.Walks.{granted, refused, pure, asks, ◌>>=◌, ◌>>◌}
use Rattle.pw_check_rules.specs.Kinds.{int_type}
use Rattle.pw_check_rules.specs.Operands.{Operand}
use Rattle.pw_check_rules.specs.States.{Rule, Entity, TypeName, entity_of, scoped, uncounted}
use Rattle.pw_check_rules.specs.SpecifierLists.{Gathered, nothing_gathered, gather_storage, gather_qualifier, gather_word, gather_type, Specified, specified}
use Rattle.pw_check_rules.specs.Derivations.{Derivation, ToArray, ToFunction, Declared, Suffixed, ParameterValue, Bindings, pointer_step, spot_of}
use Rattle.pw_check_rules.specs.Operators.{value_rule, sign_rule, deref_rule, address_rule, step_rule, size_rule, type_size_rule, cast_rule, operation_rule, conditional_rule, assignment_rule, index_rule, call_rule, dot_rule, arrow_rule}
use Rattle.pw_check_rules.specs.Leaves.{identifier_rule, number_rule, character_rule, string_rule, length_rule, record_kind, reference_rule, opening_rule, member_rule, record_spot, closing_rule, enumeration_rule, enumerating_rule, enumerator_name, enumerator_value, enumerator_rule, named_type, is_last, is_nil, parameter_storage, parameter_rule, parameter_types, bindings_rule, first_of_list, first_of_declaration}

abbrev pub typedef_type : Entity → Option QType
typedef_type (TypeName q) = Some q
typedef_type _ = None

-- 6.5.6
unfoldable pub typedef_rule : Word → Rule QType
typedef_rule w =
    asks (λ s. option_and_then typedef_type (entity_of s w.text)) >>= λ q.
    granted DeclaredIdentifier w.token [] q

-- what a declarator says, by its core and what stands behind that; the list nearest to the name binds
abbrev pub joined : List S.Pointer → Declared → Suffixed → Declared
joined pointers inner outer =
    record {
      name = inner.name;
      derivations = map pointer_step pointers ++ (outer.derivations ++ inner.derivations);
      bindings = option_or inner.bindings outer.bindings;
    }

-- what stands behind a name, from the last one outward
abbrev pub behind : Derivation → Suffixed → Suffixed
behind step rest = record rest { derivations = rest.derivations ++ step ∷ [] }

abbrev pub behind_list : Bindings → Suffixed → Suffixed
behind_list bindings rest =
    record {
      derivations = rest.derivations ++ ToFunction (parameter_types bindings.parameters) ∷ [];
      bindings = Some bindings;
    }

unfoldable mutual
  pub expr_rule : Expr → Rule Operand
  expr_rule (S.Identifier w) = identifier_rule w
  expr_rule (S.Number w) = number_rule w
  expr_rule (S.Floating w) = refused NoFloating w.token
  expr_rule (S.Character w) = character_rule w
  expr_rule (S.Wide w) = refused NoWide w.token
  expr_rule (S.Strings ws) = string_rule ws
  expr_rule (S.Paren t e) = expr_rule e
  expr_rule (S.Postfix e rest) = expr_rule e >>= λ a. postfixes_rule rest a
  expr_rule (S.Unary t P.Sizeof e) = uncounted (expr_rule e) >>= λ a. size_rule t a
  expr_rule (S.Unary t P.Address e) = expr_rule e >>= λ a. address_rule t a
  expr_rule (S.Unary t P.Increment e) = expr_rule e >>= λ a. step_rule t Q.IncrementBefore a
  expr_rule (S.Unary t P.Decrement e) = expr_rule e >>= λ a. step_rule t Q.DecrementBefore a
  expr_rule (S.Unary t P.Dereference e) = expr_rule e >>= λ a. value_rule a >>= λ x. deref_rule t x
  expr_rule (S.Unary t op e) = expr_rule e >>= λ a. value_rule a >>= λ x. sign_rule t op x
  expr_rule (S.SizeofType t specifiers d) =
      uncounted (
      specifiers_rule specifiers (first_of_declaration specifiers d) nothing_gathered >>= λ g.
      specified (first_of_declaration specifiers d) g >>= λ b.
      declarator_rule d >>= λ c.
      named_type b c >>= λ q.
      type_size_rule t (spot_of None b.first b.tag) q)
  expr_rule (S.Cast t specifiers d e) =
      specifiers_rule specifiers (first_of_declaration specifiers d) nothing_gathered >>= λ g.
      specified (first_of_declaration specifiers d) g >>= λ b.
      declarator_rule d >>= λ c.
      named_type b c >>= λ q.
      expr_rule e >>= λ a.
      value_rule a >>= λ x.
      cast_rule t q x
  expr_rule (S.Chain e rest) = expr_rule e >>= λ a. operations_rule rest a
  expr_rule (S.Conditional t c a b) =
      expr_rule c >>= λ x. value_rule x >>= λ u.
      expr_rule a >>= λ y. value_rule y >>= λ v.
      expr_rule b >>= λ z. value_rule z >>= λ w.
      conditional_rule t u v w
  expr_rule (S.Assign t op a b) =
      expr_rule a >>= λ x.
      expr_rule b >>= λ y. value_rule y >>= λ v.
      assignment_rule t op x v

  pub postfixes_rule : Postfixes → Operand → Rule Operand
  postfixes_rule S.NoPostfix a = pure a
  postfixes_rule (S.Index t e rest) a =
      value_rule a >>= λ x.
      expr_rule e >>= λ b. value_rule b >>= λ y.
      index_rule t x y >>= λ c.
      postfixes_rule rest c
  postfixes_rule (S.Call t args rest) a =
      value_rule a >>= λ x.
      arguments_rule args >>= λ es.
      call_rule t x es >>= λ c.
      postfixes_rule rest c
  postfixes_rule (S.Select t Dot w rest) a =
      dot_rule t w a >>= λ c.
      postfixes_rule rest c
  postfixes_rule (S.Select t Arrow w rest) a =
      value_rule a >>= λ x.
      arrow_rule t w x >>= λ c.
      postfixes_rule rest c
  postfixes_rule (S.Step t J.Increment rest) a =
      step_rule t Q.IncrementBehind a >>= λ c.
      postfixes_rule rest c
  postfixes_rule (S.Step t J.Decrement rest) a =
      step_rule t Q.DecrementBehind a >>= λ c.
      postfixes_rule rest c

  -- the values of the arguments
  pub arguments_rule : Arguments → Rule (List Expression)
  arguments_rule S.NoArgument = pure []
  arguments_rule (S.Argument e rest) =
      expr_rule e >>= λ a. value_rule a >>= λ x.
      arguments_rule rest >>= λ xs.
      pure (x ∷ xs)

  pub operations_rule : Operations → Operand → Rule Operand
  operations_rule S.NoOperation a = pure a
  operations_rule (S.Operation t op e rest) a =
      value_rule a >>= λ x.
      expr_rule e >>= λ b. value_rule b >>= λ y.
      operation_rule t op x y >>= λ c.
      operations_rule rest c

  -- what a list has, behind what was gathered of it; its first token stands for it
  pub specifiers_rule : Specifiers → ℕ → Gathered → Rule Gathered
  specifiers_rule S.NoSpecifier first g = pure g
  specifiers_rule (S.Storage t storage rest) first g = specifiers_rule rest first (gather_storage storage g)
  specifiers_rule (S.Qualified t qualifier rest) first g = specifiers_rule rest first (gather_qualifier qualifier g)
  specifiers_rule (S.Basic t W.Float rest) first g = refused NoFloating t
  specifiers_rule (S.Basic t W.Double rest) first g = refused NoFloating t
  specifiers_rule (S.Basic t word rest) first g = specifiers_rule rest first (gather_word word g)
  specifiers_rule (S.TypedefName w rest) first g =
      typedef_rule w >>= λ q.
      specifiers_rule rest first (gather_type q None g)
  specifiers_rule (S.RecordTag t kind w rest) first g =
      reference_rule (record_kind kind) w >>= λ r.
      specifiers_rule rest first (gather_type r.0 r.1 g)
  specifiers_rule (S.Record t kind w members rest) first g =
      opening_rule (record_kind kind) w >>= λ n.
      members_rule members [] >>= λ ms.
      closing_rule (record_kind kind) (record_spot w first) n ms >>= λ q.
      specifiers_rule rest first (gather_type q None g)
  specifiers_rule (S.EnumTag t w rest) first g =
      enumeration_rule w >>= λ q.
      specifiers_rule rest first (gather_type q None g)
  specifiers_rule (S.Enum t w enumerators rest) first g =
      enumerating_rule w >>
      enumerators_rule enumerators (Some 0) >>
      specifiers_rule rest first (gather_type int_type None g)

  -- the members, behind those before
  pub members_rule : Members → List MemberValue → Rule (List MemberValue)
  members_rule S.NoMember ms = pure ms
  members_rule (S.Member specifiers ds rest) ms =
      specifiers_rule specifiers (first_of_list specifiers) nothing_gathered >>= λ g.
      specified (first_of_list specifiers) g >>= λ b.
      member_declarators_rule ds b ms >>= λ more.
      members_rule rest more

  pub member_declarators_rule : MemberDeclarators → Specified → List MemberValue → Rule (List MemberValue)
  member_declarators_rule S.NoMemberDeclarator b ms = pure ms
  member_declarators_rule (S.PlainMember d rest) b ms =
      declarator_rule d >>= λ c.
      member_rule b c ms >>= λ more.
      member_declarators_rule rest b more
  member_declarators_rule (S.BitField d t e rest) b ms =
      declarator_rule d >>= λ c.
      refused NoBitField (unwrap_or (first_of_declarator d) t)
  member_declarators_rule (S.Padding t e rest) b ms = refused NoBitField t

  -- each has the value that it is given, or the one after the value before; the name's faults come before the value's
  pub enumerators_rule : Enumerators → Option ℕ → Rule (Unit {0})
  enumerators_rule S.NoEnumerator value = pure tt
  enumerators_rule (S.PlainEnumerator w rest) value =
      enumerator_rule w value >>= λ next.
      enumerators_rule rest next
  enumerators_rule (S.ValuedEnumerator w e rest) value =
      enumerator_name w >> (
      expr_rule e >>= λ a. value_rule a >>= λ x.
      enumerator_value (first_of_expr e) x >>= λ n.
      enumerator_rule w (Some n) >>= λ next.
      enumerators_rule rest next)

  pub declarator_rule : Declarator → Rule Declared
  declarator_rule (S.Declaring pointers core suffixes) =
      core_rule core >>= λ inner.
      suffixes_rule suffixes >>= λ outer.
      pure (joined pointers inner outer)

  pub core_rule : Core → Rule Declared
  core_rule S.Absent = pure (record { name = None; derivations = []; bindings = None })
  core_rule (S.Name w) = pure (record { name = Some w; derivations = []; bindings = None })
  core_rule (S.Enclosed t d) = declarator_rule d

  pub suffixes_rule : Suffixes → Rule Suffixed
  suffixes_rule S.NoSuffix = pure (record { derivations = []; bindings = None })
  suffixes_rule (S.Array t e rest) =
      expr_rule e >>= λ a. value_rule a >>= λ x.
      length_rule (first_of_expr e) x >>= λ n.
      suffixes_rule rest >>= λ c.
      pure (behind (ToArray (Some n)) c)
  suffixes_rule (S.OpenArray t rest) =
      suffixes_rule rest >>= λ c.
      pure (behind (ToArray None) c)
  suffixes_rule (S.Prototype t parameters rest) =
      scoped (parameters_rule parameters [] >>= λ ps. bindings_rule ps) >>= λ bindings.
      suffixes_rule rest >>= λ c.
      pure (behind_list bindings c)
  suffixes_rule (S.Variadic t parameters rest) = refused NoVariadic t
  suffixes_rule (S.Identifiers t ws rest) = refused NoOldStyle (first_of_words ws)

  -- the parameters, behind those before
  pub parameters_rule : Parameters → List ParameterValue → Rule (List ParameterValue)
  parameters_rule S.NoParameter ps = pure ps
  parameters_rule (S.Parameter specifiers d rest) ps =
      specifiers_rule specifiers (first_of_declaration specifiers d) nothing_gathered >>= λ g.
      specified (first_of_declaration specifiers d) g >>= λ b.
      parameter_storage b >>
      declarator_rule d >>= λ c.
      parameter_rule (is_nil ps && is_last rest) b c ps >>= λ more.
      parameters_rule rest more
