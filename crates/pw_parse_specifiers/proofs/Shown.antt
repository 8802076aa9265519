-- What nodes with lists in them show before the rest of their own list, and what lists show.
use Rattle.std.proofs.Common.{◌≡◌, ℕ, List, [], ◌∷◌, Option, refl, ap}
use Rattle.std.specs.declared.alloc.Global.{Global}
use Rattle.std.specs.declared.vec.Vec.{Vec}
use Rattle.pw_tree.specs.Trees as tree
use Rattle.pw_tree.specs.Views.{view_tag, view_expr, view_specifier, view_specifiers, view_member_declarator, view_member_declarators, view_members, view_enumerator, view_enumerators, view_declarator}
use Rattle.pw_tree.specs.declared.expr.Declarator.{Declarator}
use Rattle.pw_tree.specs.declared.expr.Enumerator.{Enumerator}
use Rattle.pw_tree.specs.declared.expr.Expr.{Expr}
use Rattle.pw_tree.specs.declared.expr.Member.{Member}
use Rattle.pw_tree.specs.declared.expr.MemberDeclarator.{MemberDeclarator}
use Rattle.pw_tree.specs.declared.expr.MemberDeclarator as member
use Rattle.pw_tree.specs.declared.expr.RecordKind.{RecordKind}
use Rattle.pw_tree.specs.declared.expr.Specifier.{Specifier}
use Rattle.pw_tree.specs.declared.expr.Specifier as specifier
use Rattle.pw_tree.specs.declared.expr.Word.{Word}
use Rattle.pw_parse_specifiers.specs.Views.{member_first}
use Rattle.pw_parse_cursor.proofs.Loops.{prepend}

pub record_shown : ((t : ℕ) (r : RecordKind) (tag : Option Word) (ms : Vec Member Global) (rest : tree.Specifiers) → view_specifier (specifier.Record t r tag ms) rest ≡ tree.Record t r (view_tag tag) (view_members ms.items) rest)
    → (t : ℕ) (r : RecordKind) (tag : Option Word) (ms : Vec Member Global) → view_specifier (specifier.Record t r tag ms) ≡ tree.Record t r (view_tag tag) (view_members ms.items)
record_shown law t r tag ms = λ j rest. law t r tag ms rest j

pub enum_shown : ((t : ℕ) (tag : Option Word) (es : Vec Enumerator Global) (rest : tree.Specifiers) → view_specifier (specifier.Enum t tag es) rest ≡ tree.Enum t (view_tag tag) (view_enumerators es.items) rest)
    → (t : ℕ) (tag : Option Word) (es : Vec Enumerator Global) → view_specifier (specifier.Enum t tag es) ≡ tree.Enum t (view_tag tag) (view_enumerators es.items)
enum_shown law t tag es = λ j rest. law t tag es rest j

pub plain_member_shown : ((d : Declarator) (rest : tree.MemberDeclarators) → view_member_declarator (member.Plain d) rest ≡ tree.PlainMember (view_declarator d) rest)
    → (d : Declarator) → view_member_declarator (member.Plain d) ≡ tree.PlainMember (view_declarator d)
plain_member_shown law d = λ j rest. law d rest j

pub bit_field_shown : ((d : Declarator) (t : ℕ) (e : Expr) (rest : tree.MemberDeclarators) → view_member_declarator (member.BitField d t e) rest ≡ tree.BitField (view_declarator d) t (view_expr e) rest)
    → (d : Declarator) (t : ℕ) (e : Expr) → view_member_declarator (member.BitField d t e) ≡ tree.BitField (view_declarator d) t (view_expr e)
bit_field_shown law d t e = λ j rest. law d t e rest j

pub specifiers_shown : (ss : List Specifier) → prepend view_specifier ss tree.NoSpecifier ≡ view_specifiers ss
specifiers_shown [] = refl
specifiers_shown (s ∷ ss) = ap (view_specifier s) (specifiers_shown ss)

pub member_declarators_shown : (ds : List MemberDeclarator) → prepend view_member_declarator ds tree.NoMemberDeclarator ≡ view_member_declarators ds
member_declarators_shown [] = refl
member_declarators_shown (d ∷ ds) = ap (view_member_declarator d) (member_declarators_shown ds)

pub members_shown : (ms : List Member) → prepend member_first ms tree.NoMember ≡ view_members ms
members_shown [] = refl
members_shown (m ∷ ms) = ap (member_first m) (members_shown ms)

pub enumerators_shown : (es : List Enumerator) → prepend view_enumerator es tree.NoEnumerator ≡ view_enumerators es
enumerators_shown [] = refl
enumerators_shown (e ∷ es) = ap (view_enumerator e) (enumerators_shown es)
