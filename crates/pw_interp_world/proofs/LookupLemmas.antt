-- What is found at the place of a key is what is found by the key.
use Rattle.std.proofs.Common.{ℕ, suc, ◌+◌, ◌≡◌, refl, sym, ap, ◌∙◌, Bool, true, false, cond, not, nat_lt, Option, None, Some, List, [], ◌∷◌, length, map, position, find, slice_get, option_map, option_and_then, bytes_eq, arith}
use Rattle.std.specs.Prelude.{◌==◌}
use Rattle.std.specs.Cmp.Lexicographic.{nat_list_eq_equiv}
use Rattle.std.specs.List.{position_or_len}
use Rattle.std.proofs.lemmas.Bool.Decides.{nat_tests}
use Rattle.std.proofs.lemmas.Grind.{common_steps}
use Rattle.pw_value.specs.declared.value.Pointer.{Pointer}
use Rattle.pw_value.specs.declared.value.Pointer.TheVariants as P
use Rattle.pw_cmean.specs.Worlds as worlds
use Rattle.pw_cmean.specs.Worlds.{Program, Callable, functions_of, global_names}
use Rattle.pw_interp_world.specs.Names.{number_among, numbers_of}
use Rattle.pw_interp_world.specs.Lookups.{number_by_name, denoted}

shifted : (n len : ℕ) → cond (nat_lt (1 + n) (suc len)) (Some (1 + n)) None ≡ option_map suc (cond (nat_lt n len) (Some n) None)
shifted n len = grind (arith, common_steps)

first_place : (len : ℕ) → nat_lt 0 (suc len) ≡ true
first_place len = grind (arith, nat_tests)

behind_first : {Y : Type 0} (y : Y) (ys : List Y) (o : Option ℕ) → option_and_then (slice_get (y ∷ ys)) (option_map suc o) ≡ option_and_then (slice_get ys) o
behind_first y ys None = refl
behind_first y ys (Some k) = refl

module _ {K X Y : Type 0} (p : K → Bool) (q : X → Bool) (key : X → K) (f : X → Y) (same : (x : X) → p (key x) ≡ q x) where
  one : (b : Bool) (x : X) (n len : ℕ) (ys : List Y) (o : Option X) → option_and_then (slice_get ys) (cond (nat_lt n len) (Some n) None) ≡ option_map f o
      → option_and_then (slice_get (f x ∷ ys)) (cond (nat_lt (cond (not b) (1 + n) 0) (suc len)) (Some (cond (not b) (1 + n) 0)) None) ≡ option_map f (cond b (Some x) o)
  one true x n len ys o e = rw (first_place len) refl
  one false x n len ys o e = ap (option_and_then (slice_get (f x ∷ ys))) (shifted n len) ∙ (behind_first (f x) ys (cond (nat_lt n len) (Some n) None) ∙ e)

  pub looked_up : (xs : List X) → option_and_then (slice_get (map f xs)) (position p (map key xs)) ≡ option_map f (find q xs)
  looked_up [] = refl
  looked_up (x ∷ xs) = rw (same x) (one (q x) x (position_or_len p (map key xs)) (length (map key xs)) (map f xs) (find q xs) (looked_up xs))

map_itself : {X : Type 0} (xs : List X) → map (λ x. x) xs ≡ xs
map_itself [] = refl
map_itself (x ∷ xs) = ap (λ ys. x ∷ ys) (map_itself xs)

itself : {X : Type 0} (o : Option X) → option_map (λ x. x) o ≡ o
itself None = refl
itself (Some x) = refl

-- the first place at which a test holds is that of a test that is the same
same_place : (name : List ℕ) (names : List (List ℕ)) → position_or_len (bytes_eq name) names ≡ position_or_len (λ other. bytes_eq other name) names
same_place name [] = refl
same_place name (x ∷ xs) =
    ap (λ b. cond (not b) (1 + position_or_len (bytes_eq name) xs) 0) (nat_list_eq_equiv.symm name x)
    ∙ ap (λ n. cond (not (bytes_eq x name)) (1 + n) 0) (same_place name xs)

-- ---- in a program

pub named_is : (program : Program) (name : List ℕ)
    → option_and_then (slice_get (functions_of program)) (position (bytes_eq name) (map (λ f. f.name) (functions_of program))) ≡ worlds.function_named program name
named_is program name =
    ap (λ fs. option_and_then (slice_get fs) (position (bytes_eq name) (map (λ f. f.name) (functions_of program)))) (sym (map_itself (functions_of program)))
    ∙ (looked_up (bytes_eq name) (λ (f : Callable). bytes_eq f.name name) (λ f. f.name) (λ f. f) (λ f. nat_list_eq_equiv.symm name f.name) (functions_of program)
    ∙ itself (worlds.function_named program name))

pub numbered_is : (program : Program) (number : ℕ)
    → option_and_then (slice_get (functions_of program)) (position (λ n. n == number) (numbers_of (functions_of program))) ≡ worlds.function_at program number
numbered_is program number =
    ap (λ fs. option_and_then (slice_get fs) (position (λ n. n == number) (numbers_of (functions_of program)))) (sym (map_itself (functions_of program)))
    ∙ (looked_up (λ (n : ℕ). n == number) (λ (f : Callable). number_among (functions_of program) f.name == number) (λ f. number_among (functions_of program) f.name) (λ f. f) (λ f. refl) (functions_of program)
    ∙ itself (worlds.function_at program number))

function_is : (program : Program) (name : List ℕ) → option_map P.Function (number_by_name (map (λ f. f.name) (functions_of program)) (numbers_of (functions_of program)) name)
    ≡ option_map (λ f. P.Function (worlds.function_number program f.name)) (worlds.function_named program name)
function_is program name =
    ap (option_map P.Function) (looked_up (bytes_eq name) (λ (f : Callable). bytes_eq f.name name) (λ f. f.name) (λ f. number_among (functions_of program) f.name) (λ f. nat_list_eq_equiv.symm name f.name) (functions_of program))
    ∙ twice (worlds.function_named program name)
  where
    twice : (o : Option Callable) → option_map P.Function (option_map (λ f. number_among (functions_of program) f.name) o) ≡ option_map (λ f. P.Function (worlds.function_number program f.name)) o
    twice None = refl
    twice (Some f) = refl

-- what a name denotes
pub denoted_is : (program : Program) (name : List ℕ) (offset : ℕ)
    → denoted (global_names program) (map (λ f. f.name) (functions_of program)) (numbers_of (functions_of program)) name offset ≡ worlds.pointer_to program name offset
denoted_is program name offset = grind (arith, same_place name (global_names program), function_is program name)

-- the same of lists that are those of the program
pub denoted_from : (program : Program) (name : List ℕ) (offset : ℕ) (globals names : List (List ℕ)) (numbers : List ℕ) (r : Option Pointer)
    → globals ≡ global_names program → names ≡ map (λ f. f.name) (functions_of program) → numbers ≡ numbers_of (functions_of program)
    → r ≡ denoted globals names numbers name offset → r ≡ worlds.pointer_to program name offset
denoted_from program name offset globals names numbers r g n m is =
    is
    ∙ (ap (λ (gs : List (List ℕ)). denoted gs names numbers name offset) g
    ∙ (ap (λ (ns : List (List ℕ)). denoted (global_names program) ns numbers name offset) n
    ∙ (ap (λ (ms : List ℕ). denoted (global_names program) (map (λ f. f.name) (functions_of program)) ms name offset) m
    ∙ denoted_is program name offset)))

pub named_from : (program : Program) (name : List ℕ) (names : List (List ℕ)) (place : Option ℕ)
    → names ≡ map (λ f. f.name) (functions_of program) → place ≡ position (bytes_eq name) names
    → option_and_then (slice_get (functions_of program)) place ≡ worlds.function_named program name
named_from program name names place n is =
    ap (option_and_then (slice_get (functions_of program))) (is ∙ ap (position (bytes_eq name)) n) ∙ named_is program name

pub numbered_from : (program : Program) (number : ℕ) (numbers : List ℕ) (place : Option ℕ)
    → numbers ≡ numbers_of (functions_of program) → place ≡ position (λ n. n == number) numbers
    → option_and_then (slice_get (functions_of program)) place ≡ worlds.function_at program number
numbered_from program number numbers place m is =
    ap (option_and_then (slice_get (functions_of program))) (is ∙ ap (position (λ n. n == number)) m) ∙ numbered_is program number
