-- Parts of the rule of function definitions before the body, which the code has as functions of their own.
use Rattle.std.specs.Prelude.{ℕ, Bool, true, false, ◌||◌, if◌then◌else◌, Option, is_some, is_none, List, [], ◌∷◌, ◌++◌}
use Rattle.std.specs.List.{list_all}
use Rattle.pw_tree.specs.Trees.{Word, Function, Decl}
use Rattle.pw_tree.specs.declared.expr.StorageClass.{StorageClass}
use Rattle.pw_types.specs.TypeTrees.{QType}
use Rattle.pw_check_walk.specs.Causes.{Point, needs, FunctionDeclarator, DefinitionStorage, NamedParameters, NoDeclarationList}
use Rattle.pw_check_walk.specs.Walks.{meets, pure, asks, change, ◌>>=◌, ◌>>◌}
use Rattle.pw_check_rules.specs.States.{Rule, State, records_in}
use Rattle.pw_check_rules.specs.Limits.{name_within, type_within}
use Rattle.pw_check_rules.specs.Linkage.{Asking, AsInternal, AsBefore, linkage_point, is_internal_by, declare_linked, undefined_yet, define_function}
use Rattle.pw_check_rules.specs.SpecifierLists.{Specified, is_static, is_extern}
use Rattle.pw_check_rules.specs.Derivations.{Bindings, Declared, Derivation, ToPointer, ToArray, ToFunction, built, spot_of}
use Rattle.pw_check_rules.specs.Phrases.{declarator_rule}
use Rattle.pw_check_rules.specs.Leaves.{is_nil, first_of_declaration}
use Rattle.pw_check_rules.specs.Declarations.{specified_rule, name_of}
use Rattle.pw_check_rules.specs.Functions.{bindings_of, ends_in_function}

-- what stands before a function's body: its name, the storage class and the tag of its specifiers, what its parameter list
-- declares, whether its declarator says a function, and its type
pub record Head : Type 0 where
  pub word : Word
  pub storage : Option StorageClass
  pub tag : Option ℕ
  pub bindings : Bindings
  pub ends : Bool
  pub ty : QType

abbrev pub one_head : Word → Option StorageClass → Option ℕ → Bindings → Bool → QType → Head
one_head word storage tag bindings ends ty = record { word = word; storage = storage; tag = tag; bindings = bindings; ends = ends; ty = ty }

-- a function's step
abbrev pub is_function_step : Derivation → Bool
is_function_step (ToPointer t qs) = false
is_function_step (ToArray n) = false
is_function_step (ToFunction ps) = true

-- what specifiers and a declarator say of a function
unfoldable pub head_of : Specified → Declared → Rule Head
head_of b d =
    built (spot_of d.name b.first b.tag) d.derivations b.ty >>= λ q.
    pure (one_head (name_of d) b.storage b.tag (bindings_of d) (ends_in_function d.derivations) q)

unfoldable pub head_rule : Function → Rule Head
head_rule f =
    specified_rule f.specifiers (first_of_declaration f.specifiers f.declarator) >>= λ b.
    declarator_rule f.declarator >>= λ d.
    head_of b d

-- how a definition asks for linkage (6.1.2.2)
abbrev pub definition_asking : Option StorageClass → Asking
definition_asking storage = if is_static storage then AsInternal else AsBefore

abbrev pub head_asks : Head → List Decl → Point
head_asks h declarations =
    needs FunctionDeclarator h.word.token h.ends
    ∷ needs DefinitionStorage h.word.token (is_none h.storage || is_static h.storage || is_extern h.storage)
    ∷ needs NamedParameters h.word.token (list_all (λ p. is_some p.name) h.bindings.parameters)
    ∷ needs NoDeclarationList h.word.token (is_nil declarations)
    ∷ []

-- what a definition asks of the function's name
abbrev pub head_point : State → Head → List Decl → Point
head_point s h declarations =
    linkage_point s h.word.text h.word.token (is_internal_by s h.word.text (definition_asking h.storage)) h.ty ++
    (undefined_yet s h.word.text h.word.token ∷
    (head_asks h declarations ++ (name_within h.word.token h.word.text ∷ type_within (records_in s) h.word.token h.ty)))

unfoldable pub head_meets : Head → List Decl → Rule (Unit {0})
head_meets h declarations =
    asks (λ s. head_point s h declarations) >>= λ point.
    meets point

-- the declaration of the function, and its definition; the answer is its place among the names with linkage
unfoldable pub head_declared : Head → Rule ℕ
head_declared h =
    declare_linked h.word.text h.word.token h.tag (definition_asking h.storage) h.ty >>= λ place.
    change (define_function place) >>
    pure place
