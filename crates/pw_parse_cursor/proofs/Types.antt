-- Type specifiers and `typedef` in lists of specifiers.
use Rattle.std.proofs.Common.{Bool, false, length, ◌≡◌, ◌||◌, List, [], ◌∷◌, refl, ap, ◌∙◌}
use Rattle.std.specs.List.{list_any}
use Rattle.pw_tree.specs.Scopes.{has_type, has_typedef}
use Rattle.pw_tree.specs.Trees.{Specifiers, NoSpecifier}
use Rattle.pw_tree.specs.Views.{view_specifier, view_specifiers, view_expr}
use Rattle.pw_tree.specs.declared.expr.Specifier.{Specifier}
use Rattle.pw_tree.specs.declared.expr.Specifier as specifier
use Rattle.pw_tree.specs.declared.expr.StorageClass.TheVariants as storage

pub type_first : (s : Specifier) (rest : Specifiers) → has_type (view_specifier s rest) ≡ (has_type (view_specifier s NoSpecifier) || has_type rest)
unfolding view_expr
type_first (specifier.Storage n c) rest = refl
type_first (specifier.Qualifier n q) rest = refl
type_first (specifier.Basic n b) rest = refl
type_first (specifier.TypedefName w) rest = refl
type_first (specifier.RecordTag n r w) rest = refl
type_first (specifier.Record' n r t l ms) rest = refl
type_first (specifier.EnumTag n w) rest = refl
type_first (specifier.Enum' n t l es) rest = refl

pub typedef_first : (s : Specifier) (rest : Specifiers) → has_typedef (view_specifier s rest) ≡ (has_typedef (view_specifier s NoSpecifier) || has_typedef rest)
unfolding view_expr
typedef_first (specifier.Storage n storage.Typedef) rest = refl
typedef_first (specifier.Storage n storage.Extern) rest = refl
typedef_first (specifier.Storage n storage.Static) rest = refl
typedef_first (specifier.Storage n storage.Auto) rest = refl
typedef_first (specifier.Storage n storage.Register) rest = refl
typedef_first (specifier.Qualifier n q) rest = refl
typedef_first (specifier.Basic n b) rest = refl
typedef_first (specifier.TypedefName w) rest = refl
typedef_first (specifier.RecordTag n r w) rest = refl
typedef_first (specifier.Record' n r t l ms) rest = refl
typedef_first (specifier.EnumTag n w) rest = refl
typedef_first (specifier.Enum' n t l es) rest = refl

pub some_type : (s : Specifier) (ss : List Specifier) → has_type (view_specifiers (s ∷ ss)) ≡ (has_type (view_specifier s NoSpecifier) || has_type (view_specifiers ss))
some_type s ss = type_first s (view_specifiers ss)

pub some_typedef : (s : Specifier) (ss : List Specifier) → has_typedef (view_specifiers (s ∷ ss)) ≡ (has_typedef (view_specifier s NoSpecifier) || has_typedef (view_specifiers ss))
some_typedef s ss = typedef_first s (view_specifiers ss)

abbrev pub is_type : Specifier → Bool
is_type s = has_type (view_specifier s NoSpecifier)

abbrev pub is_typedef : Specifier → Bool
is_typedef s = has_typedef (view_specifier s NoSpecifier)

pub any_type : (ss : List Specifier) → has_type (view_specifiers ss) ≡ list_any is_type ss
any_type [] = refl
any_type (s ∷ ss) = some_type s ss ∙ ap (λ b. is_type s || b) (any_type ss)

pub any_typedef : (ss : List Specifier) → has_typedef (view_specifiers ss) ≡ list_any is_typedef ss
any_typedef [] = refl
any_typedef (s ∷ ss) = some_typedef s ss ∙ ap (λ b. is_typedef s || b) (any_typedef ss)

pub no_item : {T : Type 0} (f : T → Bool) (xs : List T) → length xs ≡ 0 → list_any f xs ≡ false
no_item f [] e = refl
no_item f (x ∷ xs) e = cc
