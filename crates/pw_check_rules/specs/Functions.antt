-- Function definitions (ISO C90 6.7.1).
use Rattle.std.specs.Prelude.{ℕ, zero, suc, Bool, true, false, not, ◌||◌, if◌then◌else◌, is_some, is_none, unwrap_or, List, [], ◌∷◌, ◌++◌, length, map}
use Rattle.std.specs.List.{list_all}
use Rattle.pw_tree.specs.Trees.{Word, Function, Decl}
use Rattle.pw_tree.specs.Trees as S
use Rattle.pw_types.specs.TypeTrees.{QType, type_of}
use Rattle.pw_types.specs.TypedTrees.{FunctionValue, LocalValue, Statement}
use Rattle.pw_types.specs.Rooms.{nodes_of, room_of}
use Rattle.pw_value.specs.Limits.{node_limit, room_limit}
use Rattle.pw_check_walk.specs.Causes.{Point, needs, keeps, FunctionDeclarator, DefinitionStorage, NamedParameters, NoDeclarationList}
use Rattle.pw_check_walk.specs.declared.constraints.Which.TheVariants.{Nodes, Room}
use Rattle.pw_check_walk.specs.Walks.{meets, asks, change, ◌>>=◌, ◌>>◌}
use Rattle.pw_check_rules.specs.Kinds.{result_of, is_const_object}
use Rattle.pw_check_rules.specs.States.{Rule, State, ScopeState, no_body, records_in, one_deeper, leave_scope, with_body, with_scopes, with_made}
use Rattle.pw_check_rules.specs.Limits.{name_within, type_within}
use Rattle.pw_check_rules.specs.Linkage.{AsInternal, AsBefore, Asking, linkage_point, is_internal_by, declare_linked, undefined_yet, define_function, symbol_at}
use Rattle.pw_check_rules.specs.SpecifierLists.{Specified, is_static, is_extern}
use Rattle.pw_check_rules.specs.Derivations.{Declared, Derivation, ToPointer, ToArray, ToFunction, ParameterValue, Bindings, built, spot_of}
use Rattle.pw_check_rules.specs.Phrases.{declarator_rule}
use Rattle.pw_check_rules.specs.Leaves.{is_nil, name_text, first_of_declaration}
use Rattle.pw_check_rules.specs.Declarations.{specified_rule, name_of}
use Rattle.pw_check_rules.specs.Statements.{block_rule, labels_in_block}

-- the step nearest to the name
unfoldable pub ends_in_function : List Derivation → Bool
ends_in_function [] = false
ends_in_function (ToFunction ps ∷ []) = true
ends_in_function (ToPointer t qs ∷ []) = false
ends_in_function (ToArray n ∷ []) = false
ends_in_function (step ∷ next ∷ rest) = ends_in_function (next ∷ rest)

abbrev pub no_bindings : Bindings
no_bindings = record { parameters = []; ordinary = []; tags = [] }

abbrev pub bindings_of : Declared → Bindings
bindings_of d = unwrap_or d.bindings no_bindings

abbrev pub definition_asking : Specified → Asking
definition_asking b = if is_static b.storage then AsInternal else AsBefore

-- what a definition asks of the function's name
abbrev pub definition_rules : State → Word → Specified → Declared → List Decl → QType → Point
definition_rules s w b d declarations q =
    linkage_point s w.text w.token (is_internal_by s w.text (definition_asking b)) q ++
    (undefined_yet s w.text w.token
    ∷ needs FunctionDeclarator w.token (ends_in_function d.derivations)
    ∷ needs DefinitionStorage w.token (is_none b.storage || is_static b.storage || is_extern b.storage)
    ∷ needs NamedParameters w.token (list_all (λ p. is_some p.name) (bindings_of d).parameters)
    ∷ needs NoDeclarationList w.token (is_nil declarations)
    ∷ name_within w.token w.text
    ∷ type_within (records_in s) w.token q)

abbrev pub parameter_local : ParameterValue → LocalValue
parameter_local p = record { name = name_text p.name; ty = p.ty; writable = not (is_const_object p.ty) }

-- the names of a parameter list in the scope that is read
abbrev pub declared_again : Bindings → ScopeState → ScopeState
declared_again bindings c =
    record c {
      ordinary = c.ordinary ++ map (λ e. (e.0, record { place = e.1; depth = c.depth })) bindings.ordinary;
      tags = c.tags ++ map (λ e. (e.0, record { tag = e.1; depth = c.depth })) bindings.tags;
    }

-- the body is read in the scope of its parameters
abbrev pub enter_body : QType → Bindings → List (List ℕ) → State → State
enter_body q bindings names s =
    with_body (λ old. record no_body {
      result = result_of (type_of q);
      locals = map parameter_local bindings.parameters;
      names = names;
      labels = length names;
    })
    (with_scopes (declared_again bindings) (one_deeper s))

abbrev pub numbers_below : ℕ → List ℕ
numbers_below zero = []
numbers_below (suc n) = numbers_below n ++ n ∷ []

abbrev pub function_of : State → Word → ℕ → QType → Bindings → Statement → FunctionValue
function_of s w place q bindings body =
    record {
      name = symbol_at s place;
      token = w.token;
      ty = q;
      params = length bindings.parameters;
      locals = s.body.locals;
      labels = s.body.labels;
      named = numbers_below (length s.body.names);
      body = body;
    }

abbrev pub add_function : FunctionValue → State → State
add_function f = with_made (λ m. record m { functions = m.functions ++ f ∷ [] })

-- its limits, behind its body
unfoldable pub measured_rule : Word → FunctionValue → Rule (Unit {0})
measured_rule w f =
    asks records_in >>= λ records.
    meets (keeps Nodes node_limit w.token (nodes_of f) ∷ keeps Room room_limit w.token (room_of records f) ∷ [])

unfoldable pub body_rule : Word → ℕ → QType → Bindings → S.Block → Rule (Unit {0})
body_rule w place q bindings block =
    change (enter_body q bindings (labels_in_block block)) >>
    block_rule block >>= λ body.
    asks (λ s. function_of s w place q bindings body) >>= λ f.
    change leave_scope >>
    measured_rule w f >>
    change (add_function f)

unfoldable pub function_rule : Function → Rule (Unit {0})
function_rule f =
    specified_rule f.specifiers (first_of_declaration f.specifiers f.declarator) >>= λ b.
    declarator_rule f.declarator >>= λ d.
    built (spot_of d.name b.first b.tag) d.derivations b.ty >>= λ q.
    asks (λ s. definition_rules s (name_of d) b d f.declarations q) >>= λ point.
    meets point >>
    declare_linked (name_of d).text (name_of d).token b.tag (definition_asking b) q >>= λ place.
    change (define_function place) >>
    body_rule (name_of d) place q (bindings_of d) f.body
