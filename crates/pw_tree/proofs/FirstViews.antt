-- The first token of what lists in the code's trees show is that of their first item.
use Rattle.std.proofs.Common.{◌≡◌, ℕ, Some, refl}
use Rattle.pw_tree.specs.FirstTokens.{first_of_specifiers, first_of_suffixes, first_of_members}
use Rattle.pw_tree.specs.Trees.{Specifiers, NoSpecifier, Suffixes, NoSuffix, MemberDeclarators}
use Rattle.pw_tree.specs.Views.{view_expr, view_specifier, view_suffix, view_member_declarator}
use Rattle.pw_tree.specs.declared.expr.Expr.{Expr}
use Rattle.pw_tree.specs.declared.expr.MemberDeclarator as member
use Rattle.pw_tree.specs.declared.expr.Specifier.{Specifier}
use Rattle.pw_tree.specs.declared.expr.Specifier as specifier
use Rattle.pw_tree.specs.declared.expr.Suffix.{Suffix}
use Rattle.pw_tree.specs.declared.expr.Suffix as suffix

-- what stands behind a specifier does not matter
pub specifiers_by_first : (s : Specifier) (ss : Specifiers) → first_of_specifiers (view_specifier s ss) ≡ first_of_specifiers (view_specifier s NoSpecifier)
unfolding view_expr first_of_specifiers
specifiers_by_first (specifier.Storage n c) ss = refl
specifiers_by_first (specifier.Qualifier n q) ss = refl
specifiers_by_first (specifier.Basic n b) ss = refl
specifiers_by_first (specifier.TypedefName w) ss = refl
specifiers_by_first (specifier.RecordTag n r w) ss = refl
specifiers_by_first (specifier.Record' n r t l ms) ss = refl
specifiers_by_first (specifier.EnumTag n w) ss = refl
specifiers_by_first (specifier.Enum' n t l es) ss = refl

pub suffixes_by_first : (f : Suffix) (fs : Suffixes) → first_of_suffixes (view_suffix f fs) ≡ first_of_suffixes (view_suffix f NoSuffix)
unfolding view_expr first_of_suffixes
suffixes_by_first (suffix.Array n e) fs = refl
suffixes_by_first (suffix.OpenArray n) fs = refl
suffixes_by_first (suffix.Parameters' n l ps) fs = refl
suffixes_by_first (suffix.Variadic' n l ps) fs = refl
suffixes_by_first (suffix.Identifiers n ws) fs = refl

pub padding_first : (n : ℕ) (e : Expr) (rest : MemberDeclarators) → first_of_members (view_member_declarator (member.Padding n e) rest) ≡ Some n
unfolding view_expr first_of_members
padding_first n e rest = refl
