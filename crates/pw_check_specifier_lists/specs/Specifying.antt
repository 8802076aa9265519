-- Single specifiers, members and enumerators (ISO C90 6.5.1 to 6.5.3).
use Rattle.std.specs.Prelude.{ℕ, Option, None, Some, unwrap_or, List, []}
use Rattle.pw_tree.specs.declared.expr.BasicType.{BasicType}
use Rattle.pw_tree.specs.declared.expr.BasicType.TheVariants as W
use Rattle.pw_tree.specs.declared.expr.RecordKind.{RecordKind}
use Rattle.pw_tree.specs.FirstTokens.{first_of_expr, first_of_declarator}
use Rattle.pw_tree.specs.Trees.{Specifiers, Members, MemberDeclarators, Enumerators, Declarator, Expr, Word}
use Rattle.pw_tree.specs.Trees as S
use Rattle.pw_types.specs.declared.record.RecordKind.{RecordKind as RecordSort}
use Rattle.pw_types.specs.TypeTrees.{QType, MemberValue}
use Rattle.pw_check_walk.specs.Causes.{NoFloating, NoBitField}
use Rattle.pw_check_walk.specs.Walks.{refused, pure, ◌>>=◌, ◌>>◌}
use Rattle.pw_check_rules.specs.Declarations.{specified_rule}
use Rattle.pw_check_rules.specs.Kinds.{int_type}
use Rattle.pw_check_rules.specs.Leaves.{first_of_list, record_kind, record_spot, reference_rule, opening_rule, closing_rule, member_rule, enumeration_rule, enumerating_rule, enumerator_name, enumerator_value, enumerator_rule}
use Rattle.pw_check_rules.specs.Phrases.{typedef_rule, declarator_rule, members_rule, member_declarators_rule, enumerators_rule}
use Rattle.pw_check_rules.specs.SpecifierLists.{Gathered, gather_storage, gather_qualifier, gather_word, gather_type, Specified}
use Rattle.pw_check_rules.specs.States.{Rule}
use Rattle.pw_check_rules.specs.Statements.{whole_rule}

-- ---- specifiers

unfoldable pub basic_rule : ℕ → BasicType → Gathered → Rule Gathered
basic_rule t W.Float g = refused NoFloating t
basic_rule t W.Double g = refused NoFloating t
basic_rule t word g = pure (gather_word word g)

unfoldable pub typedef_name_rule : Word → Gathered → Rule Gathered
typedef_name_rule w g = typedef_rule w >>= λ q. pure (gather_type q None g)

unfoldable pub record_tag_rule : RecordKind → Word → Gathered → Rule Gathered
record_tag_rule kind w g = reference_rule (record_kind kind) w >>= λ r. pure (gather_type r.0 r.1 g)

-- the type of a structure or union with its members, whose limits stand at a token
unfoldable pub record_rule : RecordSort → ℕ → Option Word → Members → Rule QType
record_rule kind spot w members =
    opening_rule kind w >>= λ n.
    members_rule members [] >>= λ ms.
    closing_rule kind spot n ms

unfoldable pub record_list_rule : RecordKind → ℕ → Option Word → Members → Gathered → Rule Gathered
record_list_rule kind spot w members g =
    record_rule (record_kind kind) spot w members >>= λ q. pure (gather_type q None g)

unfoldable pub enumeration_tag_rule : Word → Gathered → Rule Gathered
enumeration_tag_rule w g = enumeration_rule w >>= λ q. pure (gather_type q None g)

-- an enumeration with its enumerators
unfoldable pub listed_enumeration : Option Word → Enumerators → Rule (Unit {0})
listed_enumeration w enumerators = enumerating_rule w >> enumerators_rule enumerators (Some 0)

unfoldable pub enumeration_list_rule : Option Word → Enumerators → Gathered → Rule Gathered
enumeration_list_rule w enumerators g = listed_enumeration w enumerators >> pure (gather_type int_type None g)

-- the first of a list, behind what was gathered
unfoldable pub first_specifier : Specifiers → ℕ → Gathered → Rule Gathered
first_specifier S.NoSpecifier first g = pure g
first_specifier (S.Storage t storage rest) first g = pure (gather_storage storage g)
first_specifier (S.Qualified t qualifier rest) first g = pure (gather_qualifier qualifier g)
first_specifier (S.Basic t word rest) first g = basic_rule t word g
first_specifier (S.TypedefName w rest) first g = typedef_name_rule w g
first_specifier (S.RecordTag t kind w rest) first g = record_tag_rule kind w g
first_specifier (S.Record t kind w members rest) first g = record_list_rule kind (record_spot w first) w members g
first_specifier (S.EnumTag t w rest) first g = enumeration_tag_rule w g
first_specifier (S.Enum t w enumerators rest) first g = enumeration_list_rule w enumerators g

-- ---- members

-- a declaration of members
unfoldable pub member_declaration : Specifiers → MemberDeclarators → List MemberValue → Rule (List MemberValue)
member_declaration specifiers ds ms =
    specified_rule specifiers (first_of_list specifiers) >>= λ b.
    member_declarators_rule ds b ms

-- there are no bit-fields
unfoldable pub bit_field_rule : Declarator → ℕ → Rule (List MemberValue)
bit_field_rule d t = declarator_rule d >>= λ c. refused NoBitField (unwrap_or (first_of_declarator d) t)

unfoldable pub plain_member_rule : Declarator → Specified → List MemberValue → Rule (List MemberValue)
plain_member_rule d b ms = declarator_rule d >>= λ c. member_rule b c ms

unfoldable pub first_member : MemberDeclarators → Specified → List MemberValue → Rule (List MemberValue)
first_member S.NoMemberDeclarator b ms = pure ms
first_member (S.PlainMember d rest) b ms = plain_member_rule d b ms
first_member (S.BitField d t e rest) b ms = bit_field_rule d t
first_member (S.Padding t e rest) b ms = refused NoBitField t

-- ---- enumerators

unfoldable pub valued_enumerator : Word → Expr → Rule (Option ℕ)
valued_enumerator w e =
    enumerator_name w >> (
    whole_rule e >>= λ x.
    enumerator_value (first_of_expr e) x >>= λ n.
    enumerator_rule w (Some n))

unfoldable pub first_enumerator : Enumerators → Option ℕ → Rule (Option ℕ)
first_enumerator S.NoEnumerator value = pure value
first_enumerator (S.PlainEnumerator w rest) value = enumerator_rule w value
first_enumerator (S.ValuedEnumerator w e rest) value = valued_enumerator w e
