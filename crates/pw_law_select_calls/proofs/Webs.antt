-- The webs that a function enters are webs of its own.
use Rattle.std.proofs.Common.{ℕ, suc, ◌≡◌, ◌<◌, arith, refl, Bool, true, false, if◌then◌else◌, ◌==◌, ◌&&◌, List, [], ◌∷◌, ◌++◌, map, Contains}
use Rattle.std.specs.List.{AllByRecursion, flat_map}
use Rattle.pw_db.specs.Limits.{kept_registers}
use Rattle.pw_db.specs.Database.{IsWeb, IsDirectives}
use Rattle.pw_db.specs.declared.database.Web.{Web}
use Rattle.pw_db.specs.declared.database.Role.{Role}
use Rattle.pw_webflow.specs.ValidWebs.{HasRegister}
use Rattle.pw_alloc.specs.declared.located.Located.{Located}
use Rattle.pw_alloc.specs.Allocation.{is_entry}
use Rattle.pw_run_languages.specs.PlacedRun.{entered_webs}
use Rattle.pw_law_select_calls.specs.Webs.{IsWebOf}

all_joined : {X : Type 0} (P : X → Type 0) (xs ys : List X) → AllByRecursion P xs → AllByRecursion P ys → AllByRecursion P (xs ++ ys)
all_joined P [] ys h k = k
all_joined P (x ∷ xs) ys h k = (h.0, all_joined P xs ys h.1 k)

abbrev entered_in : ℕ → Web × Role → List Web
entered_in r w = if is_entry w.1 && (w.0.reg == r) then w.0 ∷ [] else []

webs_have : (f : Located) (ws : List (Web × Role)) → AllByRecursion IsWeb (map (λ (w : Web × Role). w.0) ws) → ((r : ℕ) → Contains (map (λ (w : Web × Role). w.0.reg) ws) r → HasRegister f.body.directives r)
    → AllByRecursion (λ (w : Web × Role). IsWebOf f w.0) ws
webs_have f [] each inside = tt
webs_have f (x ∷ xs) each inside =
    let high = each.0.high in (
      record { temp = record { low = each.0.low; high = omega (arith, high) }; has = inside x.0.reg (0, omega arith, refl) },
      webs_have f xs each.1 (λ r c. inside r (suc c.0, (let less = c.1 in omega (arith, less)), c.2)),
    )

of_register : (P : Web → Type 0) (r : ℕ) (ws : List (Web × Role)) → AllByRecursion (λ (w : Web × Role). P w.0) ws → AllByRecursion P (flat_map (entered_in r) ws)
of_register P r [] h = tt
of_register P r (x ∷ xs) h = all_joined P (entered_in r x) (flat_map (entered_in r) xs) (by_test (is_entry x.1 && (x.0.reg == r))) (of_register P r xs h.1)
  where
    by_test : (t : Bool) → AllByRecursion P (if t then x.0 ∷ [] else [])
    by_test true = (h.0, tt)
    by_test false = tt

of_registers : (P : Web → Type 0) (rs : List ℕ) (ws : List (Web × Role)) → AllByRecursion (λ (w : Web × Role). P w.0) ws → AllByRecursion P (flat_map (λ r. flat_map (entered_in r) ws) rs)
of_registers P [] ws h = tt
of_registers P (r ∷ rs) ws h = all_joined P (flat_map (entered_in r) ws) (flat_map (λ r. flat_map (entered_in r) ws) rs) (of_register P r ws h) (of_registers P rs ws h)

pub entered_are_own : (f : Located) → IsDirectives f.body.directives → AllByRecursion (IsWebOf f) (entered_webs f)
entered_are_own f is = of_registers (IsWebOf f) kept_registers f.body.directives.webs (webs_have f f.body.directives.webs is.each (λ r c. c))

-- a register that no temporary and no web may have is none of theirs
pub none_of_webs : (f : Located) (r : ℕ) (webs : List Web) → 20 < r → AllByRecursion (IsWebOf f) webs → AllByRecursion (λ (x : Web). r ≡ x.reg → ⊥) webs
none_of_webs f r [] high h = tt
none_of_webs f r (x ∷ xs) high h = ((λ e. (let most = h.0.temp.high in omega (arith, most, high, e))), none_of_webs f r xs high h.1)
