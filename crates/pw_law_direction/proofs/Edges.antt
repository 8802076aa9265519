-- What a call of an active function asks for: a function that the graph says it calls, with arguments that are fine.
use Rattle.std.proofs.Common.{◌≡◌, ◌≢◌, ◌++◌, ℕ, Bool, true, false, ◌&&◌, if◌then◌else◌, Option, Some, None, List, [], ◌∷◌, map, refl, ap, ◌∙◌}
use Rattle.std.specs.Prelude.{◌==◌, ◌||◌, not, Contains}
use Rattle.std.specs.List.{AllByRecursion}
use Rattle.std.specs.Str.{bytes_eq}
use Rattle.std.proofs.lemmas.List.Elements.{Contains-append_left}
use Rattle.pw_value.specs.declared.value.Value.{Value}
use Rattle.pw_value.specs.declared.value.Value.TheVariants.{Undefined, Num, Null, At, Piece}
use Rattle.pw_value.specs.declared.value.Pointer.TheVariants as P
use Rattle.pw_value.specs.ProgramNames.{start_name, exit_name, getchar_name, putchar_name}
use Rattle.pw_flow.specs.declared.flow.Op.{Op}
use Rattle.pw_flow.specs.declared.flow.Op.TheVariants as op
use Rattle.pw_flow.specs.declared.flow.FlowFn.{FlowFn}
use Rattle.pw_flow.specs.ValidFlow.{AreDistinct}
use Rattle.pw_db_sound.specs.CallGraphs.{Calls}
use Rattle.pw_run_languages.specs.Traces.{is_of_source}
use Rattle.pw_run_languages.specs.Programs.{Program, functions_of, globals_of, names_of, function_number, function_at, shape_of}
use Rattle.pw_run_languages.specs.Commands as command
use Rattle.pw_run_languages.specs.LawfulPrograms.{IsProgram, ops_of, taken_names, has_name, has_shape, called, node_of, graph_of}
use Rattle.pw_law_direction.specs.Values.{IsTaken}
use Rattle.pw_law_direction.specs.Alike.{FineValue}
use Rattle.pw_law_direction.specs.SideBySide.{IsCall}
use Rattle.pw_law_direction.proofs.Elements.{first-there, map-there, flat-there}
use Rattle.pw_law_direction.proofs.Globals.{all-hold, found-there}
use Rattle.pw_law_direction.proofs.WebWrites.{filter-there}
use Rattle.pw_law_direction.proofs.Standing.{unequal}

abbrev pub MayCall : Program → List ℕ → command.Command → Type 0
MayCall p caller (command.Enter t f args) = AllByRecursion (FineValue p) args × Calls (graph_of p) caller f
MayCall p caller command.Fail = Unit {0}
MayCall p caller c = ⊥

edge : (p : Program) (fn : FlowFn) (o : Op) (f : List ℕ) → Contains (functions_of p) fn → Contains (ops_of fn) o → Contains (called p o) f → Calls (graph_of p) fn.name f
unfolding graph_of
edge p fn o f there code c = record {
  node = node_of p fn;
  there = map-there (node_of p) (functions_of p) fn there;
  name = refl;
  call = flat-there (called p) (ops_of fn) o f code c;
}

all-fine : (p : Program) (value : ℕ → Value) → ((t : ℕ) → FineValue p (value t)) → (args : List ℕ) → AllByRecursion (FineValue p) (map value args)
all-fine p value fine [] = tt
all-fine p value fine (t ∷ args) = (fine t, all-fine p value fine args)

both : (a b : Bool) → a ≡ true → b ≡ true → (a && b) ≡ true
both true b x y = y
both false b x y = absurd cc

-- ---- calls through values

shaped : (p : Program) (fn : FlowFn) (t : Option ℕ) (a : ℕ) (shape : List ℕ) (temps : List ℕ) (args : List Value) (f own : List ℕ) (b : Bool) → Contains (functions_of p) fn → Contains (ops_of fn) (op.CallInd t a shape temps)
    → AllByRecursion (FineValue p) args → Contains (names_of p) f → IsTaken p f → shape_of p f ≡ Some own → bytes_eq own shape ≡ b → MayCall p fn.name (if b then command.Enter t f args else command.Fail)
shaped p fn t a shape temps args f own true there code all name taken s e = (
  all,
  edge p fn (op.CallInd t a shape temps) f there code (filter-there (λ (n : List ℕ). has_name (taken_names p) n && has_shape (shape_of p n) shape) (names_of p) f name
      (both (has_name (taken_names p) f) (has_shape (shape_of p f) shape) taken (ap (λ (o : Option (List ℕ)). has_shape o shape) s ∙ e))),
)
shaped p fn t a shape temps args f own false there code all name taken s e = tt

of-shape : (p : Program) (fn : FlowFn) (t : Option ℕ) (a : ℕ) (shape : List ℕ) (temps : List ℕ) (args : List Value) (f : List ℕ) (own : Option (List ℕ)) → Contains (functions_of p) fn → Contains (ops_of fn) (op.CallInd t a shape temps)
    → AllByRecursion (FineValue p) args → Contains (names_of p) f → IsTaken p f → shape_of p f ≡ own → MayCall p fn.name (command.enter_as t shape args (Some f) own)
of-shape p fn t a shape temps args f (Some own) there code all name taken s = shaped p fn t a shape temps args f own (bytes_eq own shape) there code all name taken s refl
of-shape p fn t a shape temps args f None there code all name taken s = tt

at-number : (p : Program) (fn : FlowFn) (t : Option ℕ) (a : ℕ) (shape : List ℕ) (temps : List ℕ) (args : List Value) (n : ℕ) (f : Option (List ℕ)) → Contains (functions_of p) fn → Contains (ops_of fn) (op.CallInd t a shape temps)
    → AllByRecursion (FineValue p) args → FineValue p (At (P.Function n)) → function_at p n ≡ f → MayCall p fn.name (command.enter_at p t shape args f)
at-number p fn t a shape temps args n (Some f) there code all fine e =
    of-shape p fn t a shape temps args f (shape_of p f) there code all (found-there (λ (name : List ℕ). function_number p name == n) (names_of p) f e).0 (fine f e) refl
at-number p fn t a shape temps args n None there code all fine e = tt

through-value : (p : Program) (fn : FlowFn) (t : Option ℕ) (a : ℕ) (shape : List ℕ) (temps : List ℕ) (v : Value) (args : List Value) → Contains (functions_of p) fn → Contains (ops_of fn) (op.CallInd t a shape temps)
    → AllByRecursion (FineValue p) args → FineValue p v → MayCall p fn.name (command.enter_value p t v shape args)
through-value p fn t a shape temps (At (P.Function n)) args there code all fine = at-number p fn t a shape temps args n (function_at p n) there code all fine refl
through-value p fn t a shape temps (At (P.Object o i)) args there code all fine = tt
through-value p fn t a shape temps Undefined args there code all fine = tt
through-value p fn t a shape temps (Num n) args there code all fine = tt
through-value p fn t a shape temps Null args there code all fine = tt
through-value p fn t a shape temps (Piece q i) args there code all fine = tt

-- ---- calls

pub call-allowed : (p : Program) (fn : FlowFn) (o : Op) (base : ℕ) (value : ℕ → Value) → IsCall o → Contains (functions_of p) fn → Contains (ops_of fn) o → ((t : ℕ) → FineValue p (value t)) → MayCall p fn.name (command.command p base o value)
unfolding command.command
call-allowed p fn (op.Call t f args) base value h there code fine = (all-fine p value fine args, edge p fn (op.Call t f args) f there code (first-there f []))
call-allowed p fn (op.CallInd t a shape args) base value h there code fine = through-value p fn t a shape args (value a) (map value args) there code (all-fine p value fine args) (fine a)
call-allowed p fn _ base value h there code fine = absurd h

-- ---- functions whose calls are shown

none-of : (a b c d : Bool) → a ≡ false → b ≡ false → c ≡ false → d ≡ false → not (a || (b || (c || (d || false)))) ≡ true
none-of false false false false e f g h = refl
none-of true b c d e f g h = absurd cc
none-of false true c d e f g h = absurd cc
none-of false false true d e f g h = absurd cc
none-of false false false true e f g h = absurd cc

-- a function that a module defines, and another than `$start`
pub source-name : (p : Program) (fn : FlowFn) → IsProgram p → Contains (functions_of p) fn → (fn.name ≡ start_name → ⊥) → is_of_source fn.name ≡ true
source-name p fn lawful there apart =
    let names : List (List ℕ) = map (λ f. f.name) (functions_of p) ++ map (λ g. g.name) (globals_of p) in
    let name : Contains names fn.name = Contains-append_left (map (λ f. f.name) (functions_of p)) (map (λ g. g.name) (globals_of p)) fn.name (map-there (λ (f : FlowFn). f.name) (functions_of p) fn there) in
    let distinct : AreDistinct (exit_name ∷ getchar_name ∷ putchar_name ∷ names) = lawful.names in
    none-of (bytes_eq fn.name start_name) (bytes_eq fn.name exit_name) (bytes_eq fn.name getchar_name) (bytes_eq fn.name putchar_name)
    (unequal (bytes_eq fn.name start_name) fn.name start_name refl apart)
    (unequal (bytes_eq fn.name exit_name) fn.name exit_name refl (all-hold (λ (n : List ℕ). n ≢ exit_name) names fn.name distinct.0.1.1 name))
    (unequal (bytes_eq fn.name getchar_name) fn.name getchar_name refl (all-hold (λ (n : List ℕ). n ≢ getchar_name) names fn.name distinct.1.0.1 name))
    (unequal (bytes_eq fn.name putchar_name) fn.name putchar_name refl (all-hold (λ (n : List ℕ). n ≢ putchar_name) names fn.name distinct.1.1.0 name))
