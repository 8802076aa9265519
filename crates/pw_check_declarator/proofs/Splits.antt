-- What stands behind a name is its first and then the rest, and so are parameters.
use Rattle.std.proofs.Common.{◌≡◌, ℕ, ◌&&◌, ◌+◌, eqb, Option, None, Some, List, [], ◌∷◌, ◌-◌, length, drop, Result, Ok, Err, refl, ap, sym, ◌∙◌, append_assoc, arith}
use Rattle.std.specs.Option.{option_or}
use Rattle.std.proofs.Math.Dec.{eqb-suc-zero}
use Rattle.std.proofs.lemmas.List.{append-nil, length-drop}
use Rattle.pw_tree.specs.Trees as S
use Rattle.pw_tree.specs.declared.expr.Parameter.{Parameter}
use Rattle.pw_tree.specs.declared.expr.Suffix.{Suffix}
use Rattle.pw_tree.specs.declared.expr.Suffix as suffix
use Rattle.pw_tree.specs.Views.{view_expr, view_suffix, view_suffixes, view_specifiers, view_declarator, view_parameters}
use Rattle.pw_check_walk.specs.Walks.{Walk, Done, Passing, Closed, bind, outcome}
use Rattle.pw_check_walk.proofs.BindLaws.{bind_made}
use Rattle.pw_check_walk.proofs.CallLaws.{bind_assoc, bind_done, bind_closed, same_call, step_err}
use Rattle.pw_check_walk.specs.Calls.{Obeys}
use Rattle.pw_check_walk.specs.declared.constraints.CheckFault.{CheckFault}
use Rattle.pw_check_rules.specs.Declarations.{specified_rule}
use Rattle.pw_check_rules.specs.Derivations.{Suffixed, ParameterValue}
use Rattle.pw_check_rules.specs.Leaves.{is_nil, is_last}
use Rattle.pw_check_rules.specs.Phrases.{suffixes_rule, parameters_rule}
use Rattle.pw_check_rules.specs.States.{Rule, State, one_deeper, leave_scope, scoped}
use Rattle.pw_check_rules.specs.Statements.{whole_rule}
use Rattle.pw_check_declarator.specs.Declaring.{array_length_rule, within_list, listed_rule, prototype_rule, first_suffix, nothing_read, before_rest, suffixes_behind, suffix_behind, one_parameter}

-- the first of three counts
or_none : {X : Type 0} (o : Option X) → option_or o None ≡ o
or_none None = refl
or_none (Some x) = refl

or_some : {X : Type 0} (o : Option X) (x : X) (p : Option X) → option_or (option_or o (Some x)) p ≡ option_or o (Some x)
or_some None x p = refl
or_some (Some y) x p = refl

-- ---- what stands behind a name

pub suffix_split : (x : Suffix) (rest : S.Suffixes) (read : Suffixed) (s : State)
    → suffixes_behind (view_suffix x rest) read s ≡ bind (suffix_behind (view_suffix x S.NoSuffix) read s) (λ t. suffixes_behind rest t.0 t.1)
unfolding view_expr suffixes_rule suffixes_behind suffix_behind first_suffix array_length_rule prototype_rule listed_rule within_list whole_rule
suffix_split (suffix.Array n e) rest read s = simp (bind_assoc, bind_done, append_assoc, or_none)
suffix_split (suffix.OpenArray n) rest read s = simp (bind_assoc, bind_done, append_assoc, or_none)
suffix_split (suffix.Parameters' n l ps) rest read s = simp (bind_assoc, bind_done, append_assoc, or_some)
suffix_split (suffix.Variadic' n l ps) rest read s = simp (bind_closed)
suffix_split (suffix.Identifiers n ws) rest read s = simp (bind_closed)

pub no_suffix : (read : Suffixed) (s : State) → outcome (suffixes_behind S.NoSuffix read s) ≡ Ok (read, s)
unfolding suffixes_behind suffixes_rule bind outcome
no_suffix read s = simp or_none

-- with nothing read before
bind_nothing : (w : Walk (Suffixed × State)) → bind w (λ t. Done (before_rest nothing_read t.0, t.1)) ≡ w
unfolding bind
bind_nothing (Done t) = simp append-nil
bind_nothing (Passing p rest) = ap (Passing p) (bind_nothing rest)
bind_nothing (Closed constraint token) = refl

pub all_suffixes : (fs : S.Suffixes) (s : State) → suffixes_behind fs nothing_read s ≡ suffixes_rule fs s
unfolding suffixes_behind
all_suffixes fs s = bind_nothing (suffixes_rule fs s)

-- ---- parameters

pub parameter_split : (x : Parameter) (rest : S.Parameters) (ps : List ParameterValue) (s : State)
    → parameters_rule (S.Parameter (view_specifiers x.specifiers.items) (view_declarator x.declarator) rest) ps s
    ≡ bind (one_parameter (is_nil ps && is_last rest) (view_specifiers x.specifiers.items) (view_declarator x.declarator) ps s) (λ t. parameters_rule rest t.0 t.1)
unfolding parameters_rule one_parameter specified_rule
parameter_split x rest ps s = simp bind_assoc

pub no_parameter : (ps : List ParameterValue) (s : State) → outcome (parameters_rule S.NoParameter ps s) ≡ Ok (ps, s)
unfolding parameters_rule outcome
no_parameter ps s = refl

last_of : (xs : List Parameter) → is_last (view_parameters xs) ≡ eqb (length xs) 0
last_of [] = refl
last_of (x ∷ xs) = sym (eqb-suc-zero (length xs))

-- whether none stands behind a parameter, by its place
pub last_at : (xs : List Parameter) (n : ℕ) → is_last (view_parameters (drop (n + 1) xs)) ≡ eqb (length xs - n - 1) 0
last_at xs n = last_of (drop (n + 1) xs) ∙ ap (λ k. eqb k 0) (length-drop (n + 1) xs ∙ omega arith)

-- ---- the lists as their loops go over them

abbrev pub over_suffixes : List Suffix → Suffixed → Rule Suffixed
over_suffixes xs = suffixes_behind (view_suffixes xs)

abbrev pub next_suffix : Suffix → List Suffix → Suffixed → Rule Suffixed
next_suffix x rest = suffix_behind (view_suffix x S.NoSuffix)

abbrev pub over_parameters : List Parameter → List ParameterValue → Rule (List ParameterValue)
over_parameters xs = parameters_rule (view_parameters xs)

abbrev pub next_parameter : Parameter → List Parameter → List ParameterValue → Rule (List ParameterValue)
next_parameter x rest ps =
    one_parameter (is_nil ps && is_last (view_parameters rest)) (view_specifiers x.specifiers.items) (view_declarator x.declarator) ps

-- ---- two walks and a third behind them

pub first_stopped : {S A B C Q R : Type 0} {seen : Q → A} {view : R → C} {first : Result Q CheckFault} {r : Result R CheckFault} {fault : CheckFault} {mid left : S}
    (w : Walk (A × S)) (second : A × S → Walk (B × S)) (third : B × S → Walk (C × S))
    → Obeys seen w first mid → first ≡ Err fault → r ≡ Err fault → Obeys view (bind (bind w second) third) r left
first_stopped {S} {A} {B} {C} {Q} {R} {seen} {view} {first} {r} {fault} {mid} {left} w second third o stopped same =
    same_call view (bind (bind w second) third) (bind w (λ t. bind (second t) third)) r left
    (ap outcome (bind_assoc w second third))
    (step_err (λ t. bind (second t) third) o stopped same)

-- ---- scopes

-- what is read in a scope of its own
pub scoped_made : {A : Type 0} (inside : Rule A) (a : A) (s mid : State) → outcome (inside (one_deeper s)) ≡ Ok (a, mid) → outcome (scoped inside s) ≡ Ok (a, leave_scope mid)
unfolding scoped bind outcome
scoped_made inside a s mid h = bind_made (inside (one_deeper s)) (λ t. Done (t.0, leave_scope t.1)) (a, mid) h

-- its fault is that of the whole
pub scoped_stopped : {A Q R : Type 0} {seen : Q → A} {view : R → A} {first : Result Q CheckFault} {r : Result R CheckFault} {fault : CheckFault} {mid left : State}
    (inside : Rule A) (s : State) → Obeys seen (inside (one_deeper s)) first mid → first ≡ Err fault → r ≡ Err fault → Obeys view (scoped inside s) r left
unfolding scoped bind
scoped_stopped inside s o stopped same = step_err (λ t. Done (t.0, leave_scope t.1)) o stopped same
