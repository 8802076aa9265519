-- What a function saves at its start: the registers of the webs that it enters, with what they hold.
use Rattle.std.proofs.Common.{◌≡◌, ◌≤◌, ℕ, List, [], ◌∷◌, map, refl, ap, sym, ◌∙◌, subst, arith}
use Rattle.std.specs.Prelude.{Contains}
use Rattle.pw_value.specs.declared.value.Value.{Value}
use Rattle.pw_db.specs.Limits.{first_register, register_count}
use Rattle.pw_db.specs.declared.database.Web.{Web}
use Rattle.pw_db.specs.declared.database.Role.TheVariants.{Entry}
use Rattle.pw_db.specs.declared.database.Directives.{Directives}
use Rattle.pw_db.specs.Database.{IsDatabase}
use Rattle.pw_webflow.specs.Direction.{directed}
use Rattle.pw_alloc.specs.Allocation.{saved_of}
use Rattle.pw_db_sound.specs.Sound.{Has}
use Rattle.pw_run_languages.specs.Direction.{directed_by}
use Rattle.pw_law_direction.specs.Pairs.{Active, webs_of}
use Rattle.pw_law_direction.specs.SideBySide.{SavesAtStarts}
use Rattle.pw_law_direction.proofs.Elements.{map-back}
use Rattle.pw_law_direction.proofs.Registers.{has-web}
use Rattle.pw_law_direction.proofs.Entered.{entered_by, enters_so, saved_so, so_saved}
use Rattle.pw_law_direction.proofs.Webs.{web-there, is-web}

-- ---- what is saved

abbrev saved-now : (ℕ → Value) → List ℕ → List (ℕ × Value)
saved-now registers l = map (λ r. (r, registers r)) l

names-now : (registers : ℕ → Value) (l : List ℕ) → map (λ s. s.0) (saved-now registers l) ≡ l
names-now registers [] = refl
names-now registers (r ∷ l) = ap (λ (rest : List ℕ). r ∷ rest) (names-now registers l)

values-now : (registers : ℕ → Value) (l : List ℕ) (s : ℕ × Value) → Contains (saved-now registers l) s → s.1 ≡ registers s.0
values-now registers l s c = let r = map-back (λ (r : ℕ). (r, registers r)) l s c in
    sym (ap (λ (t : ℕ × Value). t.1) r.holds) ∙ ap (λ (t : ℕ × Value). registers t.0) r.holds

entries-saved : (d : List (List ℕ × Directives)) (f : Active) (w : Web) → IsDatabase d → Has d f.function.name w Entry → Contains (saved_of (directed_by d f.function)) w.reg
unfolding directed
entries-saved d f w is has =
    let lawful = is-web d f.function.name w is (record { role = Entry; has = has }) in
    so_saved (webs_of d f.function) first_register register_count w.reg lawful.low (let high : w.reg ≤ 18 = lawful.high in omega (arith, high))
    (enters_so (webs_of d f.function) w w.reg (web-there d f.function.name w Entry is has) refl)

saved-entries : (d : List (List ℕ × Directives)) (f : Active) (r : ℕ) → Contains (saved_of (directed_by d f.function)) r → (w : Web) × Has d f.function.name w Entry × (w.reg ≡ r)
unfolding directed
saved-entries d f r c =
    let k = entered_by (webs_of d f.function) r (saved_so (webs_of d f.function) first_register register_count r c).2 in
    (k.web, has-web d f.function.name k.web Entry k.there, k.is)

pub saves-at-starts : SavesAtStarts
saves-at-starts d f registers is e =
    let names : map (λ s. s.0) f.saved ≡ saved_of (directed_by d f.function) = ap (λ (l : List (ℕ × Value)). map (λ s. s.0) l) e ∙ names-now registers (saved_of (directed_by d f.function)) in (
      record {
        entries = λ w has. subst (λ (l : List ℕ). Contains l w.reg) (sym names) (entries-saved d f w is has);
        alone = λ r c. saved-entries d f r (subst (λ (l : List ℕ). Contains l r) names c);
      },
      λ s c. values-now registers (saved_of (directed_by d f.function)) s (subst (λ (l : List (ℕ × Value)). Contains l s) e c),
    )
