-- The names of a store's modules are module names.
use Rattle.std.proofs.Common.{◌≡◌, ◌↔◌, ℕ, zero, suc, ◌+◌, ◌<◌, true, List, [], ◌∷◌, length, Option, Some, None, IsSome, Contains, refl, sym, arith}
use Rattle.std.specs.List.{AllByRecursion}
use Rattle.std.specs.FinMap as finite
use Rattle.pw_io.specs.Files.{Files}
use Rattle.pw_store_modules.specs.Modules.{HoldsModule, is_module_name, module_map, names_of_modules}

-- each is a module's name
abbrev pub AreModuleNames : List (List ℕ) → Type 0
AreModuleNames names = AllByRecursion (λ name. is_module_name name ≡ true) names

-- the laws on which it stands
pub record Laws : Type 0 where
  pub keys : (files : Files) (name : List ℕ) → Contains (finite.keys files) name ↔ IsSome (finite.get files name)
  pub modules : (files : Files) (name text : List ℕ) → (finite.get (module_map files) name ≡ Some text) ↔ HoldsModule files name text

behind : (k n : ℕ) → k < n → suc k < suc n
behind k n h = omega (arith, h)

each_is : (names : List (List ℕ)) → ((name : List ℕ) → Contains names name → is_module_name name ≡ true) → AreModuleNames names
each_is [] h = tt
each_is (name ∷ names) h = (h name (zero, omega arith, refl), each_is names (λ other c. h other (suc c.0, behind c.0 (length names) c.1, c.2)))

found : (text : Option (List ℕ)) → IsSome text → (t : List ℕ) × (text ≡ Some t)
found None h = absurd cc
found (Some t) h = (t, refl)

pub names_are : Laws → (files : Files) → AreModuleNames (names_of_modules files)
names_are laws files = each_is (names_of_modules files) (λ name c.
    let there = found (finite.get (module_map files) name) ((laws.keys (module_map files) name).0 c) in
    ((laws.modules files name there.0).0 there.1).named)
