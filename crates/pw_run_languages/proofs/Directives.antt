-- The directives of a function in a lawful database, and those of a list of functions.
use Rattle.std.proofs.Common.{◌≡◌, ℕ, Bool, true, false, if◌then◌else◌, List, [], ◌∷◌, map, refl, sym, ap, subst, ◌∙◌, inl, inr}
use Rattle.std.specs.Prelude.{All, Option, Some, None, Contains}
use Rattle.std.specs.List.{AllByRecursion}
use Rattle.std.specs.Str.{bytes_eq}
use Rattle.std.proofs.lemmas.Slice.Eq.{bytes_eq-Decides}
use Rattle.std.proofs.lemmas.List.Elements.{All-from_recursion}
use Rattle.pw_files.specs.Rising.{IsRisingBehind}
use Rattle.pw_files.proofs.ByteOrder.{not_behind}
use Rattle.pw_files.proofs.Standing.{Has, has_by, has_map, contains_by}
use Rattle.pw_flow.specs.declared.flow.FlowFn.{FlowFn}
use Rattle.pw_db.specs.Database.{HasDirectives, IsDatabase, empty}
use Rattle.pw_db.specs.declared.database.Directives.{Directives}
use Rattle.pw_run_languages.specs.Direction.{directives_of}

one_here : (b : Bool) (g : List ℕ × Directives) (rest : List (List ℕ × Directives)) (f : List ℕ) (dirs : Directives) → bytes_eq g.0 f ≡ b → (g.0 ≡ f → ⊥) → directives_of rest f ≡ dirs → (if b then g.1 else directives_of rest f) ≡ dirs
one_here true g rest f dirs e lacks r = absurd (lacks ((bytes_eq-Decides g.0 f).0 e))
one_here false g rest f dirs e lacks r = r

one_by : (before : Option (List ℕ)) (d : List (List ℕ × Directives)) (f : List ℕ) (dirs : Directives) → IsRisingBehind before (map (λ g. g.0) d) → Has (f, dirs) d → directives_of d f ≡ dirs
one_by before [] f dirs up h = absurd h
one_by before (g ∷ rest) f dirs up (inl e) =
    let on : bytes_eq g.0 f ≡ true = (bytes_eq-Decides g.0 f).1 (ap (λ (x : List ℕ × Directives). x.0) e) in
    subst (λ (b : Bool). (if b then g.1 else directives_of rest f) ≡ dirs) (sym on) (ap (λ (x : List ℕ × Directives). x.1) e)
one_by before (g ∷ rest) f dirs up (inr h) =
    let there : Has f (map (λ (x : List ℕ × Directives). x.0) rest) = has_map (λ (x : List ℕ × Directives). x.0) (f, dirs) rest h in
    one_here (bytes_eq g.0 f) g rest f dirs refl
    (λ same. not_behind g.0 (map (λ (x : List ℕ × Directives). x.0) rest) up.1 (subst (λ (n : List ℕ). Has n (map (λ (x : List ℕ × Directives). x.0) rest)) (sym same) there))
    (one_by (Some g.0) rest f dirs up.1 h)

pub one_directives : (d : List (List ℕ × Directives)) → IsDatabase d → (f : List ℕ) (dirs : Directives) → Contains d (f, dirs) → directives_of d f ≡ dirs
one_directives d base f dirs h = one_by None d f dirs base.functions (has_by (f, dirs) d h)

-- ---- the directives of a list of functions

-- a function with its directives in a database
abbrev pub entry_in : List (List ℕ × Directives) → FlowFn → List ℕ × Directives
entry_in db f = (f.name, directives_of db f.name)

same_entry : (g : List ℕ × Directives) (name : List ℕ) → g.0 ≡ name → g ≡ (name, g.1)
same_entry (own, d) name e = ap (λ (n : List ℕ). (n, d)) e

found_by : (b : Bool) (g : List ℕ × Directives) (rest : List (List ℕ × Directives)) (name : List ℕ) → bytes_eq g.0 name ≡ b →
    Has name (map (λ e. e.0) (g ∷ rest)) → (Has name (map (λ e. e.0) rest) → Has (name, directives_of rest name) rest) →
    Has (name, if b then g.1 else directives_of rest name) (g ∷ rest)
found_by true g rest name e h more = inl (same_entry g name ((bytes_eq-Decides g.0 name).0 e))
found_by false g rest name e (inl same) more = absurd (let equal : bytes_eq g.0 name ≡ true = (bytes_eq-Decides g.0 name).1 same in cc)
found_by false g rest name e (inr h) more = inr (more h)

found : (db : List (List ℕ × Directives)) (name : List ℕ) → Has name (map (λ e. e.0) db) → Has (name, directives_of db name) db
found [] name h = absurd h
found (g ∷ rest) name h = found_by (bytes_eq g.0 name) g rest name refl h (found rest name)

lacks_by : (b : Bool) (g : List ℕ × Directives) (rest : List (List ℕ × Directives)) (name : List ℕ) → bytes_eq g.0 name ≡ b →
    ¬ Has name (map (λ e. e.0) (g ∷ rest)) → directives_of rest name ≡ empty → (if b then g.1 else directives_of rest name) ≡ empty
lacks_by true g rest name e none more = absurd (none (inl ((bytes_eq-Decides g.0 name).0 e)))
lacks_by false g rest name e none more = more

lacks : (db : List (List ℕ × Directives)) (name : List ℕ) → ¬ Has name (map (λ e. e.0) db) → directives_of db name ≡ empty
lacks [] name none = refl
lacks (g ∷ rest) name none = lacks_by (bytes_eq g.0 name) g rest name refl none (lacks rest name (λ h. none (inr h)))

has_entry : (db : List (List ℕ × Directives)) (f : FlowFn) → HasDirectives db (entry_in db f)
has_entry db f = record {
  found = λ there. contains_by (entry_in db f) db (found db f.name (has_by f.name (map (λ e. e.0) db) there));
  lacks = λ none. lacks db f.name (λ h. none (contains_by f.name (map (λ e. e.0) db) h));
}

each_entry : (db : List (List ℕ × Directives)) (fs : List FlowFn) → AllByRecursion (HasDirectives db) (map (entry_in db) fs)
each_entry db [] = tt
each_entry db (f ∷ fs) = (has_entry db f, each_entry db fs)

entry_names : (db : List (List ℕ × Directives)) (fs : List FlowFn) → map (λ e. e.0) (map (entry_in db) fs) ≡ map (λ f. f.name) fs
entry_names db [] = refl
entry_names db (f ∷ fs) = ap (λ (names : List (List ℕ)). f.name ∷ names) (entry_names db fs)

-- the directives of a module's functions in a database are these, if it gives each function one list of directives
pub entries_are : (db : List (List ℕ × Directives)) →
    ((gs hs : List (List ℕ × Directives)) → All (HasDirectives db) gs → All (HasDirectives db) hs → map (λ f. f.0) gs ≡ map (λ f. f.0) hs → gs ≡ hs) →
    (fs : List FlowFn) (ds : List (List ℕ × Directives)) → All (HasDirectives db) ds → map (λ d. d.0) ds ≡ map (λ f. f.name) fs → ds ≡ map (entry_in db) fs
entries_are db one fs ds all names =
    one ds (map (entry_in db) fs) all (All-from_recursion (HasDirectives db) (map (entry_in db) fs) (each_entry db fs)) (names ∙ sym (entry_names db fs))
