-- Parts of the rules of declarations that the code has as functions of their own.
use Rattle.std.specs.Prelude.{ℕ, Option, None, Some, is_some, List, [], ◌∷◌, ◌++◌}
use Rattle.pw_tree.specs.declared.expr.RecordKind.{RecordKind}
use Rattle.pw_tree.specs.Trees.{Word, Decl, InitDeclarator, Initializer, Specifiers}
use Rattle.pw_tree.specs.Trees as S
use Rattle.pw_check_walk.specs.Causes.{needs, DeclaresSomething}
use Rattle.pw_types.specs.TypeTrees.{QType}
use Rattle.pw_types.specs.TypedTrees.{Initialiser}
use Rattle.pw_check_walk.specs.Walks.{meets, pure, asks, ◌>>=◌, ◌>>◌}
use Rattle.pw_check_rules.specs.States.{Rule, is_file_scope}
use Rattle.pw_check_rules.specs.Leaves.{first_of_list}
use Rattle.pw_check_rules.specs.Limits.{Spot}
use Rattle.pw_check_rules.specs.SpecifierLists.{Specified}
use Rattle.pw_check_rules.specs.Declarations.{decl_rule, declare_rule, declares_something, init_declarator_rule, name_rule, sort_of, specified_rule, storage_rule}

-- a declarator of a declaration, behind what those before it gave
unfoldable pub declarator_behind : Specified → InitDeclarator → List Initialiser → Rule (List Initialiser)
declarator_behind b d made = init_declarator_rule b d >>= λ more. pure (made ++ more)

-- a declaration, behind what those before it gave
unfoldable pub decl_behind : Decl → List Initialiser → Rule (List Initialiser)
decl_behind d made = decl_rule d >>= λ more. pure (made ++ more)

-- specifiers that are a structure's or union's tag alone
abbrev pub tag_alone : Specifiers → Option (RecordKind × Word)
tag_alone (S.RecordTag t kind w S.NoSpecifier) = Some (kind, w)
tag_alone _ = None

-- a declaration without declarators declares something
unfoldable pub something_rule : Specifiers → ℕ → Rule (Unit {0})
something_rule specifiers first = meets (needs DeclaresSomething first (declares_something specifiers) ∷ [])

-- a declaration without declarators that is no tag alone
unfoldable pub bare_others : Specifiers → Rule (List Initialiser)
bare_others specifiers =
    specified_rule specifiers (first_of_list specifiers) >>= λ b.
    storage_rule b >>
    something_rule specifiers b.first >>
    pure []

-- the name without bytes, which a declarator has that has none
abbrev pub nobody : Word
nobody = record { token = 0; text = [] }

-- a declared name with its type, and its initialiser
unfoldable pub named_rule : Specified → Spot → Word → QType → Option Initializer → Rule (List Initialiser)
named_rule b spot w q i =
    asks (λ s. sort_of (is_file_scope s) b q) >>= λ sort.
    name_rule sort spot w (is_some i) b q >>
    declare_rule sort w b spot q i
