-- The values of temporaries in their places.
use Rattle.std.specs.Prelude.{ℕ, zero, suc, ◌≡◌, ◌≤◌, ◌<◌, Option, Some, None, List, [], ◌∷◌, length, map, slice_get, slice_index_or, Contains}
use Rattle.std.proofs.Common.{arith, refl, subst, get_or}
use Rattle.pw_value.specs.declared.value.Value.{Value}
use Rattle.pw_value.specs.declared.value.Value.TheVariants.{Undefined}
use Rattle.pw_db.specs.Limits.{last_register}
use Rattle.pw_db.specs.Database.{IsWeb, IsDirectives}
use Rattle.pw_db.specs.declared.database.Web.{Web}
use Rattle.pw_db.specs.declared.database.Role.{Role}
use Rattle.pw_db.specs.declared.database.Directives.{Directives}
use Rattle.std.proofs.lemmas.List.Elements.{Contains-get_or}
use Rattle.std.proofs.lemmas.Option.{slice_get_within, get_or_from_slice_get}
use Rattle.std.specs.List.{AllByRecursion}
use Rattle.pw_webflow.specs.ValidWebs.{HasRegister}
use Rattle.pw_alloc.specs.declared.located.Place.{Place}
use Rattle.pw_alloc.specs.declared.located.Place.TheVariants.{Slot, Reg}
use Rattle.pw_law_placed.specs.Twins.{Active, placed_value}
use Rattle.pw_law_placed.specs.Alike.{Registers}
use Rattle.pw_law_placed.proofs.Lists.{nowhere}

-- ---- by the place, as an argument

abbrev pub register_of_place : Option Place → Option ℕ
register_of_place (Some (Reg r)) = Some r
register_of_place _ = None

abbrev pub value_at : List Value → Registers → ℕ → Option ℕ → Value
value_at temps bank t (Some r) = bank r
value_at temps bank t None = slice_index_or temps t Undefined

by_place : (temps : List Value) (y z : Registers) (t : ℕ) (place : Option Place) → ((r : ℕ) → place ≡ Some (Reg r) → y r ≡ z r)
    → value_at temps y t (register_of_place place) ≡ value_at temps z t (register_of_place place)
by_place temps y z t (Some (Reg r)) same = same r refl
by_place temps y z t (Some (Slot offset)) same = refl
by_place temps y z t None same = refl

-- a temporary has the same value where its register holds the same
pub placed_same : (f : Active) (y z : Registers) (t : ℕ) → ((r : ℕ) → slice_get f.function.places t ≡ Some (Reg r) → y r ≡ z r)
    → placed_value f y t ≡ placed_value f z t
placed_same f y z t same = by_place f.placed.temps y z t (slice_get f.function.places t) same

pub place_there : (ps : List Place) (t : ℕ) (place : Place) → slice_get ps t ≡ Some place → Contains ps place
place_there ps t place e = subst (Contains ps) (get_or_from_slice_get ps t place place e) (Contains-get_or ps t place (slice_get_within ps t place e))

-- ---- the registers of webs are kept

number_kept : (w : Web × Role) (webs : List (Web × Role)) (r k : ℕ) → IsWeb w.0 → (Contains (map (λ w. w.0.reg) webs) r → r ≤ last_register)
    → k < length (map (λ w. w.0.reg) (w ∷ webs)) → get_or (map (λ w. w.0.reg) (w ∷ webs)) k r ≡ r → r ≤ last_register
number_kept w webs r zero here later lt e = let high = here.high in omega (arith, high, e)
number_kept w webs r (suc k) here later lt e = later (k, omega (arith, lt), e)

all_kept : (webs : List (Web × Role)) → AllByRecursion IsWeb (map (λ w. w.0) webs) → (r : ℕ) → Contains (map (λ w. w.0.reg) webs) r → r ≤ last_register
all_kept [] all r c = absurd (nowhere r c)
all_kept (w ∷ webs) all r c = number_kept w webs r c.0 all.0 (all_kept webs all.1 r) c.1 c.2

pub web_kept : (d : Directives) (r : ℕ) → IsDirectives d → HasRegister d r → r ≤ last_register
web_kept d r lawful h = all_kept d.webs lawful.each r h
