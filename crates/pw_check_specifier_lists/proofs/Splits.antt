-- A list of specifiers, of members or of enumerators is its first, and then the rest.
use Rattle.std.proofs.Common.{◌≡◌, ℕ, Option, List, Ok, refl}
use Rattle.pw_tree.specs.Trees as S
use Rattle.pw_tree.specs.declared.expr.BasicType.{BasicType}
use Rattle.pw_tree.specs.declared.expr.BasicType.TheVariants as W
use Rattle.pw_tree.specs.declared.expr.Enumerator.{Enumerator}
use Rattle.pw_tree.specs.declared.expr.Enumerator as enumerator
use Rattle.pw_tree.specs.declared.expr.Member.{Member}
use Rattle.pw_tree.specs.declared.expr.MemberDeclarator.{MemberDeclarator}
use Rattle.pw_tree.specs.declared.expr.MemberDeclarator as member
use Rattle.pw_tree.specs.declared.expr.Specifier.{Specifier}
use Rattle.pw_tree.specs.declared.expr.Specifier as specifier
use Rattle.pw_tree.specs.Views.{view_expr, view_specifier, view_specifiers, view_members, view_member_declarator, view_member_declarators, view_enumerator, view_enumerators}
use Rattle.pw_types.specs.TypeTrees.{MemberValue}
use Rattle.pw_check_walk.specs.Walks.{bind, outcome}
use Rattle.pw_check_walk.proofs.CallLaws.{bind_assoc, bind_done, bind_closed}
use Rattle.pw_check_rules.specs.Declarations.{specified_rule}
use Rattle.pw_check_rules.specs.Phrases.{specifiers_rule, members_rule, member_declarators_rule, enumerators_rule}
use Rattle.pw_check_rules.specs.SpecifierLists.{Gathered, Specified}
use Rattle.pw_check_rules.specs.States.{Rule, State}
use Rattle.pw_check_rules.specs.Statements.{whole_rule}
use Rattle.pw_check_specifier_lists.specs.Specifying.{basic_rule, typedef_name_rule, record_tag_rule, record_rule, record_list_rule, enumeration_tag_rule, listed_enumeration, enumeration_list_rule, first_specifier, member_declaration, bit_field_rule, plain_member_rule, first_member, valued_enumerator, first_enumerator}

-- ---- specifiers

basic_split : (t : ℕ) (word : BasicType) (rest : S.Specifiers) (first : ℕ) (g : Gathered) (s : State)
    → specifiers_rule (S.Basic t word rest) first g s ≡ bind (basic_rule t word g s) (λ r. specifiers_rule rest first r.0 r.1)
unfolding specifiers_rule basic_rule bind
basic_split t W.Void rest first g s = refl
basic_split t W.Char rest first g s = refl
basic_split t W.Short rest first g s = refl
basic_split t W.Int rest first g s = refl
basic_split t W.Long rest first g s = refl
basic_split t W.Float rest first g s = refl
basic_split t W.Double rest first g s = refl
basic_split t W.Signed rest first g s = refl
basic_split t W.Unsigned rest first g s = refl

pub specifier_split : (x : Specifier) (rest : S.Specifiers) (first : ℕ) (g : Gathered) (s : State)
    → specifiers_rule (view_specifier x rest) first g s ≡ bind (first_specifier (view_specifier x S.NoSpecifier) first g s) (λ r. specifiers_rule rest first r.0 r.1)
unfolding view_expr specifiers_rule first_specifier typedef_name_rule record_tag_rule record_rule record_list_rule enumeration_tag_rule listed_enumeration enumeration_list_rule
specifier_split (specifier.Storage n c) rest first g s = simp (bind_assoc, bind_done)
specifier_split (specifier.Qualifier n q) rest first g s = simp (bind_assoc, bind_done)
specifier_split (specifier.Basic n b) rest first g s = basic_split n b rest first g s
specifier_split (specifier.TypedefName w) rest first g s = simp (bind_assoc, bind_done)
specifier_split (specifier.RecordTag n r w) rest first g s = simp (bind_assoc, bind_done)
specifier_split (specifier.Record' n r t l ms) rest first g s = simp (bind_assoc, bind_done)
specifier_split (specifier.EnumTag n w) rest first g s = simp (bind_assoc, bind_done)
specifier_split (specifier.Enum' n t l es) rest first g s = simp (bind_assoc, bind_done)

pub no_specifier : (first : ℕ) (g : Gathered) (s : State) → outcome (specifiers_rule S.NoSpecifier first g s) ≡ Ok (g, s)
unfolding specifiers_rule outcome
no_specifier first g s = refl

-- ---- members

pub member_declaration_split : (x : Member) (rest : S.Members) (ms : List MemberValue) (s : State)
    → members_rule (S.Member (view_specifiers x.specifiers.items) (view_member_declarators x.declarators.items) rest) ms s
    ≡ bind (member_declaration (view_specifiers x.specifiers.items) (view_member_declarators x.declarators.items) ms s) (λ r. members_rule rest r.0 r.1)
unfolding members_rule member_declaration specified_rule
member_declaration_split x rest ms s = simp bind_assoc

pub no_member : (ms : List MemberValue) (s : State) → outcome (members_rule S.NoMember ms s) ≡ Ok (ms, s)
unfolding members_rule outcome
no_member ms s = refl

pub member_split : (x : MemberDeclarator) (rest : S.MemberDeclarators) (b : Specified) (ms : List MemberValue) (s : State)
    → member_declarators_rule (view_member_declarator x rest) b ms s
    ≡ bind (first_member (view_member_declarator x S.NoMemberDeclarator) b ms s) (λ r. member_declarators_rule rest b r.0 r.1)
unfolding view_expr member_declarators_rule first_member plain_member_rule bit_field_rule
member_split (member.Plain' ps c l fs) rest b ms s = simp bind_assoc
member_split (member.BitField' ps c l fs n e) rest b ms s = simp (bind_assoc, bind_closed)
member_split (member.Padding n e) rest b ms s = simp bind_closed

pub no_member_declarator : (b : Specified) (ms : List MemberValue) (s : State) → outcome (member_declarators_rule S.NoMemberDeclarator b ms s) ≡ Ok (ms, s)
unfolding member_declarators_rule outcome
no_member_declarator b ms s = refl

-- ---- enumerators

pub enumerator_split : (x : Enumerator) (rest : S.Enumerators) (value : Option ℕ) (s : State)
    → enumerators_rule (view_enumerator x rest) value s
    ≡ bind (first_enumerator (view_enumerator x S.NoEnumerator) value s) (λ r. enumerators_rule rest r.0 r.1)
unfolding view_expr enumerators_rule first_enumerator valued_enumerator whole_rule
enumerator_split (enumerator.Plain w) rest value s = refl
enumerator_split (enumerator.Valued w e) rest value s = simp bind_assoc

pub no_enumerator : (value : Option ℕ) (s : State) → outcome (enumerators_rule S.NoEnumerator value s) ≡ Ok (tt, s)
unfolding enumerators_rule outcome
no_enumerator value s = refl

-- ---- the lists as their loops go over them

abbrev pub over_specifiers : ℕ → List Specifier → Gathered → Rule Gathered
over_specifiers first xs = specifiers_rule (view_specifiers xs) first

abbrev pub next_specifier : ℕ → Specifier → List Specifier → Gathered → Rule Gathered
next_specifier first x rest = first_specifier (view_specifier x S.NoSpecifier) first

abbrev pub over_members : List Member → List MemberValue → Rule (List MemberValue)
over_members xs = members_rule (view_members xs)

abbrev pub next_declaration : Member → List Member → List MemberValue → Rule (List MemberValue)
next_declaration x rest = member_declaration (view_specifiers x.specifiers.items) (view_member_declarators x.declarators.items)

abbrev pub over_declarators : Specified → List MemberDeclarator → List MemberValue → Rule (List MemberValue)
over_declarators b xs = member_declarators_rule (view_member_declarators xs) b

abbrev pub next_member : Specified → MemberDeclarator → List MemberDeclarator → List MemberValue → Rule (List MemberValue)
next_member b x rest = first_member (view_member_declarator x S.NoMemberDeclarator) b

abbrev pub over_enumerators : List Enumerator → Option ℕ → Rule (Unit {0})
over_enumerators xs = enumerators_rule (view_enumerators xs)

abbrev pub next_enumerator : Enumerator → List Enumerator → Option ℕ → Rule (Option ℕ)
next_enumerator x rest = first_enumerator (view_enumerator x S.NoEnumerator)
