-- The function of a place among those that the modules define, module by module.
use Rattle.std.proofs.Common.{ℕ, suc, zero, ◌+◌, ◌-◌, ◌<◌, ◌≤◌, ◌≡◌, refl, sym, ap, subst, ◌∙◌, List, [], ◌∷◌, ◌++◌, Option, Some, None, map, length, get_or, drop, arith}
use Rattle.std.specs.Prelude.{slice_get, option_map}
use Rattle.std.proofs.lemmas.List.{at_drop_more, at_drop_all, length-map}
use Rattle.std.proofs.lemmas.Option.{slice_get-map, slice_get-get_or}
use Rattle.pw_typed.specs.Views.{view_function, view_module}
use Rattle.pw_typed.specs.declared.tree.TFunction.{TFunction}
use Rattle.pw_cmean.specs.Worlds.{Callable, callable}
use Rattle.pw_interp_world.specs.Views.{view_part}
use Rattle.pw_interp_world.specs.declared.program.Part.{Part}
use Rattle.pw_interp_calls.specs.Functions.{defined_in}

-- in the first of two lists, or behind it
slice_within : {A : Type 0} (xs ys : List A) (n : ℕ) → n < length xs → slice_get (xs ++ ys) n ≡ slice_get xs n
slice_within [] ys n less = absurd (omega arith)
slice_within (x ∷ xs) ys zero less = refl
slice_within (x ∷ xs) ys (suc n) less = slice_within xs ys n (omega arith)

slice_behind : {A : Type 0} (xs ys : List A) (n : ℕ) → length xs ≤ n → slice_get (xs ++ ys) n ≡ slice_get ys (n - length xs)
slice_behind [] ys n more = ap (slice_get ys) (omega arith)
slice_behind (x ∷ xs) ys zero more = absurd (omega arith)
slice_behind (x ∷ xs) ys (suc n) more = slice_behind xs ys n (omega arith) ∙ ap (slice_get ys) (omega arith)

-- the functions of a module, and how many they are
abbrev functions_in : Part → List Callable
functions_in p = map (callable (view_part p)) (view_module p.tree.now).functions

count_in : (p : Part) → length (functions_in p) ≡ length p.tree.now.functions.items
count_in p = length-map (map view_function p.tree.now.functions.items) (callable (view_part p)) ∙ length-map p.tree.now.functions.items view_function

twice : {A B C : Type 0} (f : B → C) (g : A → B) (o : Option A) → option_map f (option_map g o) ≡ option_map (λ a. f (g a)) o
twice f g None = refl
twice f g (Some a) = refl

module _ (parts : List Part) (n : ℕ) (p : Part) (left : ℕ) (functions : List TFunction) where
  at_module : n < length parts → p ≡ get_or parts n p → slice_get (defined_in (drop n parts)) left ≡ slice_get (functions_in p ++ defined_in (drop (n + 1) parts)) left
  at_module less is =
      at_drop_more (λ ps. slice_get (defined_in ps) left) parts n p less
      ∙ ap (λ q. slice_get (defined_in (q ∷ drop (n + 1) parts)) left) (sym is)

  -- a function of the module
  pub in_module : n < length parts → p ≡ get_or parts n p → functions ≡ p.tree.now.functions.items → (f : TFunction) → left < length functions → f ≡ get_or functions left f
      → slice_get (defined_in (drop n parts)) left ≡ Some (callable (view_part p) (view_function f))
  in_module less is same f within there =
      at_module less is
      ∙ slice_within (functions_in p) (defined_in (drop (n + 1) parts)) left (subst (λ k. left < k) (ap length same ∙ sym (count_in p)) within)
      ∙ slice_get-map (callable (view_part p)) (map view_function p.tree.now.functions.items) left
      ∙ ap (option_map (callable (view_part p))) (slice_get-map view_function p.tree.now.functions.items left)
      ∙ twice (callable (view_part p)) view_function (slice_get p.tree.now.functions.items left)
      ∙ ap (λ fs. option_map (λ g. callable (view_part p) (view_function g)) (slice_get fs left)) (sym same)
      ∙ ap (option_map (λ g. callable (view_part p) (view_function g))) (slice_get-get_or functions left f within ∙ ap Some (sym there))

  -- behind the module's
  pub behind_module : n < length parts → p ≡ get_or parts n p → functions ≡ p.tree.now.functions.items → length functions ≤ left
      → slice_get (defined_in (drop n parts)) left ≡ slice_get (defined_in (drop (n + 1) parts)) (left - length functions)
  behind_module less is same past =
      let count : length (functions_in p) ≡ length functions = count_in p ∙ ap length (sym same) in
      at_module less is
      ∙ slice_behind (functions_in p) (defined_in (drop (n + 1) parts)) left (subst (λ k. k ≤ left) (sym count) past)
      ∙ ap (λ k. slice_get (defined_in (drop (n + 1) parts)) (left - k)) count

-- behind the last module
pub past_modules : (parts : List Part) (n left : ℕ) → length parts ≤ n → slice_get (defined_in (drop n parts)) left ≡ None
past_modules parts n left end = at_drop_all (λ ps. slice_get (defined_in ps) left) parts n end
