-- Where a linked program starts: `main` stands in it, and $start beside it.
use Rattle.std.proofs.Common.{◌≡◌, ◌⊎◌, inl, inr, ℕ, zero, suc, ◌+◌, ◌*◌, ◌%◌, ◌<◌, ◌≤◌, Bool, true, false, ◌||◌, Option, None, Some, List, [], ◌∷◌, ◌++◌, map, length, get_or, refl, sym, ap, ◌∙◌, arith, cond, if◌then◌else◌}
use Rattle.std.specs.Prelude.{Contains}
use Rattle.std.specs.List.{AllByRecursion, list_any, sum_by, flat_map}
use Rattle.std.specs.Map.{lookup}
use Rattle.std.specs.Str.{bytes_eq}
use Rattle.std.proofs.lemmas.List.Folds.{list_any_at}
use Rattle.std.proofs.lemmas.List.Sums.{sum_by-cons}
use Rattle.std.proofs.lemmas.Slice.Eq.{bytes_eq-Decides}
use Rattle.pw_value.specs.ProgramNames.{start_name, main_name, main_shape}
use Rattle.pw_object.specs.declared.functions.ObjectFn.{ObjectFn}
use Rattle.pw_object.specs.declared.object.Object.{Object}
use Rattle.pw_object.specs.Object.{IsObject, function_names}
use Rattle.pw_link_rules.specs.declared.interface.Interface.{Interface}
use Rattle.pw_link_rules.specs.Linking.{HasMain}
use Rattle.pw_link_interface.specs.Interface.{interface, defines_main, main_of}
use Rattle.pw_link.specs.Layout.{Piece, piece_of, routine_pieces, function_pieces, in_order, pieces_of, placed_from, function_site}
use Rattle.pw_law_link.proofs.Kept.{any_placed, any_append, any_flat}
use Rattle.pw_law_link.proofs.Fitting.{place_of}

true_or : (b c : Bool) → (b || c) ≡ true → (b ≡ true) ⊎ (c ≡ true)
true_or true c e = inl refl
true_or false c e = inr e

or_true : (b c : Bool) → (b ≡ true) ⊎ (c ≡ true) → (b || c) ≡ true
or_true true c e = refl
or_true false c (inl e) = absurd cc
or_true false c (inr e) = e

any_map : {X Y : Type 0} (q : Y → Bool) (f : X → Y) (xs : List X) → list_any q (map f xs) ≡ list_any (λ x. q (f x)) xs
any_map q f [] = refl
any_map q f (x ∷ xs) = ap (λ b. q (f x) || b) (any_map q f xs)

-- ---- names among names

contained : (name : List ℕ) (names : List (List ℕ)) → list_any (bytes_eq name) names ≡ true → Contains names name
contained name [] e = absurd cc
contained name (n ∷ names) e = elim (true_or (bytes_eq name n) (list_any (bytes_eq name) names) e) [
  | inl here ↦ (0, omega arith, sym ((bytes_eq-Decides name n).0 here))
  | inr later ↦ let c = contained name names later in (suc c.0, omega (arith, c.1), c.2)
]

among : (name : List ℕ) (names : List (List ℕ)) → Contains names name → list_any (bytes_eq name) names ≡ true
among name names c = list_any_at (bytes_eq name) names c.0 name c.1 ((bytes_eq-Decides name (get_or names c.0 name)).1 (sym c.2))

-- ---- the module of main has $start

if_some : (b : Bool) (o : Option (List ℕ)) (s : List ℕ) → (if b then o else None) ≡ Some s → b ≡ true
if_some true o s e = refl
if_some false o s e = absurd cc

abbrev is_start : ObjectFn → Bool
is_start f = bytes_eq start_name f.name

abbrev starts : Object → Bool
starts o = list_any is_start o.functions

module_starts : (o : Object) → IsObject o → main_of o ≡ Some main_shape → starts o ≡ true
module_starts o is main =
    let there = contained main_name (function_names o) (if_some (defines_main o) (lookup (bytes_eq main_name) o.declared) main_shape main) in
    let start = among start_name (function_names o) (is.start.beside.1 there) in
    sym (any_map (bytes_eq start_name) (λ (f : ObjectFn). f.name) o.functions) ∙ start

some_starts : (objects : List Object) (k : ℕ) (i : Interface) → AllByRecursion IsObject objects → k < length (map interface objects) → get_or (map interface objects) k i ≡ i → i.main ≡ Some main_shape → list_any starts objects ≡ true
some_starts [] k i all lt at main = absurd (omega (arith, lt))
some_starts (o ∷ objects) zero i all lt at main = or_true (starts o) (list_any starts objects) (inl (module_starts o all.0 (ap (λ (x : Interface). x.main) at ∙ main)))
some_starts (o ∷ objects) (suc k) i all lt at main = or_true (starts o) (list_any starts objects) (inr (some_starts objects k i all.1 (omega (arith, lt)) at main))

-- objects that link have it
pub start_is_defined : (objects : List Object) → AllByRecursion IsObject objects → HasMain (map interface objects) → Contains (map (λ f. f.name) (flat_map (λ o. o.functions) objects)) start_name
start_is_defined objects all has =
    let some = some_starts objects has.stands.0 has.where_it_is all has.stands.1 has.stands.2 has.shape in
    let functions = flat_map (λ (o : Object). o.functions) objects in
    contained start_name (map (λ (f : ObjectFn). f.name) functions)
    (any_map (bytes_eq start_name) (λ (f : ObjectFn). f.name) functions ∙ any_flat is_start (λ (o : Object). o.functions) objects ∙ some)

-- where it is defined, it is one of the pieces
pub is_start_there : (objects : List Object) → Contains (map (λ f. f.name) (flat_map (λ o. o.functions) objects)) start_name → list_any (λ p. bytes_eq start_name p.name) (pieces_of objects) ≡ true
is_start_there objects there =
    let is_own = λ (p : Piece). bytes_eq start_name p.name in
    let functions = flat_map (λ (o : Object). o.functions) objects in
    let some : list_any starts objects ≡ true =
    sym (any_flat is_start (λ (o : Object). o.functions) objects)
    ∙ sym (any_map (bytes_eq start_name) (λ (f : ObjectFn). f.name) functions)
    ∙ among start_name (map (λ (f : ObjectFn). f.name) functions) there in
    let order = any_placed starts place_of objects [] (inr some) in
    any_append is_own (function_pieces (in_order objects)) routine_pieces
    (inl (any_flat is_own (λ (o : Object). map piece_of o.functions) (in_order objects) ∙ each_map (in_order objects) ∙ order))
  where
    each_map : (os : List Object) → list_any (λ o. list_any (λ p. bytes_eq start_name p.name) (map piece_of o.functions)) os ≡ list_any starts os
    each_map [] = refl
    each_map (o ∷ os) = λ i. any_map (λ p. bytes_eq start_name p.name) piece_of o.functions i || each_map os i

-- ---- the address of a name among pieces

pub record IsFound (o : Option ℕ) (low high : ℕ) : Type 0 where
  pub address : ℕ
  pub is : o ≡ Some address
  pub aligned : address % 4 ≡ 0
  pub start : low ≤ address
  pub within : address ≤ high

pub found : (name : List ℕ) (rest : List (List ℕ × ℕ)) (at : ℕ) (ps : List Piece) → at % 4 ≡ 0 → list_any (λ p. bytes_eq name p.name) ps ≡ true
    → IsFound (lookup (bytes_eq name) (map function_site (placed_from at ps) ++ rest)) at (at + 4 * sum_by (λ p. length p.words) ps)
found name rest at [] aligned some = absurd cc
found name rest at (p ∷ ps) aligned some =
    by (bytes_eq name p.name) some (found name rest (at + 4 * length p.words) ps (omega (arith, aligned)))
  where
    by : (b : Bool) → (b || list_any (λ q. bytes_eq name q.name) ps) ≡ true
        → (list_any (λ q. bytes_eq name q.name) ps ≡ true → IsFound (lookup (bytes_eq name) (map function_site (placed_from (at + 4 * length p.words) ps) ++ rest)) (at + 4 * length p.words) (at + 4 * length p.words + 4 * sum_by (λ q. length q.words) ps))
        → IsFound (cond b (Some at) (lookup (bytes_eq name) (map function_site (placed_from (at + 4 * length p.words) ps) ++ rest))) at (at + 4 * sum_by (λ q. length q.words) (p ∷ ps))
    by true e next = record { address = at; is = refl; aligned = aligned; start = omega arith; within = omega arith }
    by false e next =
        let f = next e in
        record { address = f.address; is = f.is; aligned = f.aligned; start = omega (arith, f.start); within = omega (arith, f.within, sum_by-cons (λ q. length q.words) p ps) }
