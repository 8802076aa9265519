-- The names of a store's modules have no colon.
use Rattle.std.proofs.Common.{◌≡◌, ◌↔◌, ℕ, Bool, true, false, ◌&&◌, List, [], ◌∷◌, length, Option, Some, None, IsSome, refl, subst}
use Rattle.std.specs.Prelude.{nat_le}
use Rattle.std.specs.List.{list_all}
use Rattle.std.specs.FinMap as finite
use Rattle.pw_files.proofs.Standing.{apart, contains_by, each_by}
use Rattle.pw_io.specs.Files.{Files}
use Rattle.pw_io.proofs.FileMaps.{keys-exact}
use Rattle.pw_store_modules.specs.Limits.{module_name_limit}
use Rattle.pw_store_modules.specs.Modules.{HoldsModule, is_name_byte, is_module_name, module_map}
use Rattle.pw_law_source.specs.Accepting.{HasNoColon}
use Rattle.pw_law_whole.specs.Programs.{HavePlainNames}

left : (a b : Bool) → (a && b) ≡ true → a ≡ true
left true b e = refl
left false b e = absurd cc

right : (a b : Bool) → (a && b) ≡ true → b ≡ true
right true b e = e
right false b e = absurd cc

colon : is_name_byte 58 ≡ true → ⊥
colon e = apart e

no_colon : (name : List ℕ) → list_all is_name_byte name ≡ true → HasNoColon name
no_colon [] e = tt
no_colon (b ∷ bs) e = (
  λ is. colon (subst (λ (byte : ℕ). is_name_byte byte ≡ true) is (left (is_name_byte b) (list_all is_name_byte bs) e)),
  no_colon bs (right (is_name_byte b) (list_all is_name_byte bs) e),
)

plain : (name : List ℕ) → is_module_name name ≡ true → HasNoColon name
plain name e =
    no_colon name (right (nat_le (length name) module_name_limit) (list_all is_name_byte name)
    (right (nat_le 1 (length name)) (nat_le (length name) module_name_limit && list_all is_name_byte name) e))

some_text : (o : Option (List ℕ)) → IsSome o → (text : List ℕ) × (o ≡ Some text)
some_text None h = absurd cc
some_text (Some text) h = (text, refl)

pub plain_modules : ((files : Files) (name text : List ℕ) → (finite.get (module_map files) name ≡ Some text) ↔ HoldsModule files name text) →
    (files : Files) → HavePlainNames (module_map files)
plain_modules exact files = each_by HasNoColon (finite.keys (module_map files)) (λ name h.
    let there = some_text (finite.get (module_map files) name) ((keys-exact (module_map files) name).0 (contains_by name (finite.keys (module_map files)) h)) in
    plain name ((exact files name there.0).0 there.1).named)
