-- What a declarator binds: where the step nearest to the name is a function, its parameters are those that the declarator
-- brings into scope.
use Rattle.std.specs.Prelude.{ℕ, ◌≡◌, ◌≤◌, Bool, true, false, Option, None, Some, is_some, unwrap_or, List, [], ◌∷◌, ◌++◌, length, map, take, slice_get, refl}
use Rattle.std.specs.Option.{option_or}
use Rattle.std.proofs.Common.{ap, sym, subst, ◌∙◌}
use Rattle.pw_tree.specs.Trees.{Declarator, Core, Suffixes}
use Rattle.pw_tree.specs.Trees as S
use Rattle.pw_types.specs.TypeTrees.{Function, QType, QTypes, type_of, RecordValue}
use Rattle.pw_types.specs.TypedTrees.{FunctionValue, ModuleValue}
use Rattle.pw_types.specs.TypedModules.{AreParameters, IsFunctionTyped}
use Rattle.pw_check_walk.specs.Walks.{bind}
use Rattle.pw_check_rules.specs.Derivations.{Derivation, ToPointer, ToArray, ToFunction, ParameterValue, Bindings, Declared, Suffixed, built, stepped, step_type, pointer_step}
use Rattle.pw_check_rules.specs.Functions.{ends_in_function, parameter_local}
use Rattle.pw_check_rules.specs.Leaves.{parameter_types}
use Rattle.pw_check_rules.specs.Limits.{Spot}
use Rattle.pw_check_rules.specs.Phrases.{declarator_rule, core_rule, suffixes_rule}
use Rattle.pw_check_rules.specs.States.{State}
use Rattle.pw_law_checked.specs.Lawful.{IsLawfulType}
use Rattle.pw_law_checked.proofs.Walking.{Post, post_bind, after_any}
use Rattle.pw_law_checked.proofs.Lists.{Longer, some_same, never_some}
use Rattle.pw_law_checked.proofs.Types.{no, lawful_result}
use Rattle.pw_law_checked.proofs.Leaves.{AreScalars}
use Rattle.pw_law_checked.proofs.Adding.{longer_length}

-- the step nearest to the name
abbrev pub last_of : List Derivation → Option Derivation
last_of [] = None
last_of (step ∷ rest) = option_or (last_of rest) (Some step)

-- a function's parameters are those that are bound, and where there is no step nothing is
abbrev pub IsBound : Option Derivation → Option Bindings → Type 0
IsBound None b = b ≡ None
IsBound (Some (ToPointer t qs)) b = Unit {0}
IsBound (Some (ToArray n)) b = Unit {0}
IsBound (Some (ToFunction ps)) b = (x : Bindings) × (b ≡ Some x) × (ps ≡ parameter_types x.parameters)

last_append : (xs ys : List Derivation) → last_of (xs ++ ys) ≡ option_or (last_of ys) (last_of xs)
last_append [] ys = by (last_of ys)
  where
    by : (o : Option Derivation) → o ≡ option_or o None
    by None = refl
    by (Some x) = refl
last_append (x ∷ xs) ys = ap (λ o. option_or o (Some x)) (last_append xs ys) ∙ by (last_of ys) (last_of xs)
  where
    by : (o p : Option Derivation) → option_or (option_or o p) (Some x) ≡ option_or o (option_or p (Some x))
    by None p = refl
    by (Some y) p = refl

last_more : (xs : List Derivation) (x : Derivation) → last_of (xs ++ x ∷ []) ≡ Some x
last_more xs x = last_append xs (x ∷ [])

abbrev ArePointers : Option Derivation → Type 0
ArePointers None = Unit {0}
ArePointers (Some (ToPointer t qs)) = Unit {0}
ArePointers (Some (ToArray n)) = ⊥
ArePointers (Some (ToFunction ps)) = ⊥

pointers_last : (ps : List S.Pointer) → ArePointers (last_of (map pointer_step ps))
pointers_last [] = tt
pointers_last (p ∷ ps) = by (last_of (map pointer_step ps)) (pointers_last ps)
  where
    by : (o : Option Derivation) → ArePointers o → ArePointers (option_or o (Some (pointer_step p)))
    by None h = tt
    by (Some x) h = h

joined_bound : (i o p : Option Derivation) (inner outer : Option Bindings) → IsBound i inner → IsBound o outer → ArePointers p → IsBound (option_or (option_or i o) p) (option_or inner outer)
joined_bound (Some (ToPointer t qs)) o p inner outer h k q = tt
joined_bound (Some (ToArray n)) o p inner outer h k q = tt
joined_bound (Some (ToFunction ps)) o p inner outer h k q = (h.0, ap (λ b. option_or b outer) h.1, h.2)
joined_bound None (Some (ToPointer t qs)) p inner outer h k q = tt
joined_bound None (Some (ToArray n)) p inner outer h k q = tt
joined_bound None (Some (ToFunction ps)) p inner outer h k q = (k.0, ap (λ b. option_or b outer) h ∙ k.1, k.2)
joined_bound None None None inner outer h k q = ap (λ b. option_or b outer) h ∙ k
joined_bound None None (Some (ToPointer t qs)) inner outer h k q = tt
joined_bound None None (Some (ToArray n)) inner outer h k q = absurd q
joined_bound None None (Some (ToFunction ps)) inner outer h k q = absurd q

abbrev pub IsBoundDeclared : Declared → Type 0
IsBoundDeclared d = IsBound (last_of d.derivations) d.bindings

abbrev IsBoundSuffixed : Suffixed → Type 0
IsBoundSuffixed c = IsBound (last_of c.derivations) c.bindings

mutual
  unfolding declarator_rule

  pub declarator_bound : (d : Declarator) (s : State) → Post (declarator_rule d s) (λ r. IsBoundDeclared r.0)
  declarator_bound (S.Declaring pointers core suffixes) s =
      post_bind _ _ (λ r. IsBoundDeclared r.0) (λ r. IsBoundDeclared r.0) (core_bound core s) (λ r h.
      post_bind _ _ (λ u. IsBoundSuffixed u.0) (λ u. IsBoundDeclared u.0) (suffixes_bound suffixes r.1) (λ u k.
      subst (λ o. IsBound o (option_or r.0.bindings u.0.bindings))
      (sym (last_append (map pointer_step pointers) (u.0.derivations ++ r.0.derivations) ∙ ap (λ o. option_or o (last_of (map pointer_step pointers))) (last_append u.0.derivations r.0.derivations)))
      (joined_bound (last_of r.0.derivations) (last_of u.0.derivations) (last_of (map pointer_step pointers)) r.0.bindings u.0.bindings h k (pointers_last pointers))))

  core_bound : (core : Core) (s : State) → Post (core_rule core s) (λ r. IsBoundDeclared r.0)
  core_bound S.Absent s = refl
  core_bound (S.Name w) s = refl
  core_bound (S.Enclosed t d) s = declarator_bound d s

  suffixes_bound : (suffixes : Suffixes) (s : State) → Post (suffixes_rule suffixes s) (λ r. IsBoundSuffixed r.0)
  suffixes_bound S.NoSuffix s = refl
  suffixes_bound (S.Array t e rest) s =
      after_any _ _ (λ r. IsBoundSuffixed r.0) (λ a.
      after_any _ _ (λ r. IsBoundSuffixed r.0) (λ x.
      after_any _ _ (λ r. IsBoundSuffixed r.0) (λ n.
      post_bind _ _ (λ r. IsBoundSuffixed r.0) (λ r. IsBoundSuffixed r.0) (suffixes_bound rest n.1) (λ r h.
      subst (λ o. IsBound o r.0.bindings) (sym (last_more r.0.derivations (ToArray (Some n.0)))) tt))))
  suffixes_bound (S.OpenArray t rest) s =
      post_bind _ _ (λ r. IsBoundSuffixed r.0) (λ r. IsBoundSuffixed r.0) (suffixes_bound rest s) (λ r h.
      subst (λ o. IsBound o r.0.bindings) (sym (last_more r.0.derivations (ToArray None))) tt)
  suffixes_bound (S.Prototype t parameters rest) s =
      after_any _ _ (λ r. IsBoundSuffixed r.0) (λ b.
      post_bind _ _ (λ r. IsBoundSuffixed r.0) (λ r. IsBoundSuffixed r.0) (suffixes_bound rest b.1) (λ r h.
      subst (λ o. IsBound o (Some b.0)) (sym (last_more r.0.derivations (ToFunction (parameter_types b.0.parameters)))) (b.0, refl, refl)))
  suffixes_bound (S.Variadic t parameters rest) s = tt
  suffixes_bound (S.Identifiers t ws rest) s = tt

-- ---- the type that is built

abbrev pub IsBuiltBy : Option Derivation → QType → Type 0
IsBuiltBy None q = Unit {0}
IsBuiltBy (Some (ToPointer t qs)) q = Unit {0}
IsBuiltBy (Some (ToArray n)) q = Unit {0}
IsBuiltBy (Some (ToFunction ps)) q = (result : QType) × (type_of q ≡ Function result ps)

step_built : (step : Derivation) (q : QType) → IsBuiltBy (Some step) (step_type step q)
step_built (ToPointer t qs) q = tt
step_built (ToArray n) q = tt
step_built (ToFunction ps) q = (q, refl)

-- of a step or more the last one has made the type
stepped_by : (spot : Spot) (steps : List Derivation) (q : QType) (s : State) → IsBuiltBy (last_of steps) q ≡ IsBuiltBy (last_of steps) q → Post (stepped spot steps q s) (λ r. IsBuiltBy (last_of steps) r.0)
unfolding stepped bind
stepped_by spot [] q s e = tt
stepped_by spot (step ∷ []) q s e = λ met. step_built step q
stepped_by spot (step ∷ next ∷ rest) q s e = λ met.
    Rattle.pw_law_checked.proofs.Walking.post_weaken (stepped spot (next ∷ rest) (step_type step q) s) (λ r. IsBuiltBy (last_of (next ∷ rest)) r.0) (λ r. IsBuiltBy (option_or (last_of (next ∷ rest)) (Some step)) r.0)
    (stepped_by spot (next ∷ rest) (step_type step q) s refl) (λ r h. subst (λ o. IsBuiltBy o r.0) (last_of_two next rest step) h)
  where
    last_of_two : (x : Derivation) (xs : List Derivation) (y : Derivation) → last_of (x ∷ xs) ≡ option_or (last_of (x ∷ xs)) (Some y)
    last_of_two x xs y = by (last_of xs)
      where
        by : (o : Option Derivation) → option_or o (Some x) ≡ option_or (option_or o (Some x)) (Some y)
        by None = refl
        by (Some z) = refl

pub built_by : (spot : Spot) (steps : List Derivation) (q : QType) (s : State) → IsBuiltBy (last_of steps) q ≡ IsBuiltBy (last_of steps) q → Post (built spot steps q s) (λ r. IsBuiltBy (last_of steps) r.0)
unfolding built bind
built_by spot steps q s e = λ met. stepped_by spot steps q s e

pub ends_so : (steps : List Derivation) → ends_in_function steps ≡ true → (ps : QTypes) × (last_of steps ≡ Some (ToFunction ps))
unfolding ends_in_function
ends_so [] e = no e
ends_so (ToFunction ps ∷ []) e = (ps, refl)
ends_so (ToPointer t qs ∷ []) e = no e
ends_so (ToArray n ∷ []) e = no e
ends_so (step ∷ next ∷ rest) e = let h = ends_so (next ∷ rest) e in (h.0, ap (λ o. option_or o (Some step)) h.1)

-- ---- a function's type and its parameters

pub take_longer : {X : Type 0} (xs ys : List X) → Longer xs ys → take (length xs) ys ≡ xs
take_longer [] ys h = refl
take_longer (x ∷ xs) [] h = never_some (h 0 x refl)
take_longer (x ∷ xs) (y ∷ ys) h = ap (λ z. z ∷ take (length xs) ys) (some_same (h 0 x refl)) ∙ ap (λ zs. x ∷ zs) (take_longer xs ys (λ i z e. h (Rattle.std.specs.Prelude.suc i) z e))

parameters_typed : (r : List RecordValue) (ps : List ParameterValue) → AreScalars r ps → AreParameters (parameter_types ps) (map parameter_local ps)
parameters_typed r [] h = tt
parameters_typed r (p ∷ ps) h = (h.1, refl, parameters_typed r ps h.2)

-- the parameters are the first locals of a function, which has the type that its declarator made
pub function_typed : (m : ModuleValue) (f : FunctionValue) (r : List RecordValue) (b : Bindings) (steps : List Derivation) (bindings : Option Bindings) → ends_in_function steps ≡ true
    → IsBound (last_of steps) bindings → IsBuiltBy (last_of steps) f.ty → unwrap_or bindings b ≡ b → IsLawfulType r (type_of f.ty) → AreScalars r b.parameters → f.params ≡ length b.parameters
    → Longer (map parameter_local b.parameters) f.locals → IsFunctionTyped m f
function_typed m f r b steps bindings ends bound made same lawful scalars count longer =
    let e = ends_so steps ends in
    let x = subst (λ o. IsBound o bindings) e.1 bound in
    let y = subst (λ o. IsBuiltBy o f.ty) e.1 made in
    let own : x.0 ≡ b = sym (ap (λ o. unwrap_or o b) x.1) ∙ same in
    let params : e.0 ≡ parameter_types b.parameters = x.2 ∙ ap (λ (z : Bindings). parameter_types z.parameters) own in
    let all : length (map parameter_local b.parameters) ≡ length b.parameters = length_map parameter_local b.parameters in
    record {
      result = y.0;
      params = e.0;
      type_is = y.1;
      gives = (lawful_result r y.0 e.0 (subst (IsLawfulType r) y.1 lawful)).1;
      takes = subst (λ ps. AreParameters ps (take f.params f.locals)) (sym params)
          (subst (λ ls. AreParameters (parameter_types b.parameters) ls)
          (sym (ap (λ n. take n f.locals) (count ∙ sym all) ∙ take_longer (map parameter_local b.parameters) f.locals longer))
          (parameters_typed r b.parameters scalars));
      count = subst (λ n. n ≤ length f.locals) (all ∙ sym count) (longer_length (map parameter_local b.parameters) f.locals longer);
    }
  where
    length_map : {X Y : Type 0} (g : X → Y) (xs : List X) → length (map g xs) ≡ length xs
    length_map g [] = refl
    length_map g (z ∷ xs) = ap Rattle.std.specs.Prelude.suc (length_map g xs)
