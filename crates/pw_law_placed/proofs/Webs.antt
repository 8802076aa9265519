-- A function writes the register of one of its webs: in both runs, down to the function that saved it.
use Rattle.std.specs.Prelude.{ℕ, zero, suc, ◌≡◌, ◌≤◌, ◌==◌, ◌&&◌, Bool, true, false, if◌then◌else◌, Option, Some, List, [], ◌∷◌, map, Contains}
use Rattle.std.proofs.Common.{◌⊎◌, arith, refl, sym, subst, ap, ◌∙◌, inl, inr}
use Rattle.std.proofs.lemmas.Bool.{cases_eq, eqb-true}
use Rattle.pw_value.specs.declared.value.Value.{Value}
use Rattle.pw_files.proofs.Standing.{Has, has_by, contains_by, has_map}
use Rattle.pw_db.specs.Limits.{first_register, last_register, register_count}
use Rattle.pw_db.specs.Database.{IsDatabase}
use Rattle.pw_db.specs.declared.database.Web.{Web}
use Rattle.pw_db.specs.declared.database.Role.{Role}
use Rattle.pw_db.specs.declared.database.Role.TheVariants.{Entry, Member}
use Rattle.pw_db.specs.declared.database.Directives.{Directives}
use Rattle.pw_webflow.specs.ValidWebs.{HasRegister}
use Rattle.pw_webflow.specs.declared.web.WebFn.{WebFn}
use Rattle.pw_webflow.specs.Direction.{directed}
use Rattle.pw_alloc.specs.Allocation.{is_entry, is_entered, entered_from}
use Rattle.pw_alloc.specs.declared.located.Place.TheVariants.{Reg}
use Rattle.pw_db_sound.specs.Sound.{Sound, In, IsSaver}
use Rattle.pw_db_sound.specs.Sound.{Has as HasRole}
use Rattle.pw_run_languages.specs.Traces.{MayChange, member}
use Rattle.pw_run_languages.specs.Programs.{Program}
use Rattle.pw_run_languages.specs.LawfulPrograms.{graph_of}
use Rattle.pw_run_languages.specs.Direction.{directed_by}
use Rattle.pw_run_languages.specs.PlacedRun.{with_register, with_registers}
use Rattle.pw_run_languages.specs.Serving.{Changes, places, enters, saves}
use Rattle.pw_law_direction.proofs.Banks.{with_same, with_covered, in_from, is_entered_by}
use Rattle.pw_law_direction.proofs.Directives.{role_there, web_range}
use Rattle.pw_law_placed.specs.Twins.{Active}
use Rattle.pw_law_placed.specs.Alike.{Registers, given_back, name_of, IsPlaced, GivesBack, Gets, AllWait}
use Rattle.pw_law_placed.proofs.Lists.{differ}
use Rattle.pw_law_placed.proofs.Free.{saver_of}
use Rattle.pw_law_placed.proofs.Places.{placed_same, place_there}
use Rattle.pw_law_placed.proofs.Waiting.{waiting_same}

-- ---- the registers that a function saves in the directed run

entered_by : (w : Web) (role : Role) (rest : List (Web × Role)) (r : ℕ) (b : Bool) → (w.reg == r) ≡ b → (is_entered rest r ≡ true → (u : Web) × Has (u, Entry) rest × (u.reg ≡ r))
    → (if b && is_entry role then true else is_entered rest r) ≡ true → (u : Web) × Has (u, Entry) ((w, role) ∷ rest) × (u.reg ≡ r)
entered_by w Entry rest r true same later e = (w, inl refl, eqb-true w.reg r same)
entered_by w Member rest r true same later e = let k = later e in (k.0, inr k.1, k.2)
entered_by w role rest r false same later e = let k = later e in (k.0, inr k.1, k.2)

entered_web : (webs : List (Web × Role)) (r : ℕ) → is_entered webs r ≡ true → (u : Web) × Has (u, Entry) webs × (u.reg ≡ r)
entered_web [] r e = absurd cc
entered_web (w ∷ rest) r e = entered_by w.0 w.1 rest r (w.0.reg == r) refl (entered_web rest r) e

from_by : (webs : List (Web × Role)) (r q : ℕ) (b : Bool) (rest : List ℕ) → is_entered webs r ≡ b → (Has q rest → is_entered webs q ≡ true) → Has q (if b then r ∷ rest else rest) → is_entered webs q ≡ true
from_by webs r q true rest e later (inl same) = ap (is_entered webs) (sym same) ∙ e
from_by webs r q true rest e later (inr h) = later h
from_by webs r q false rest e later h = later h

from_in : (webs : List (Web × Role)) (r more q : ℕ) → Has q (entered_from webs r more) → is_entered webs q ≡ true
unfolding entered_from
from_in webs r zero q h = absurd h
from_in webs r (suc more) q h = from_by webs r q (is_entered webs r) (entered_from webs (suc r) more) refl (from_in webs (suc r) more q) h

-- what is not among the new registers stays
absent_by : (b : Bool) (v w : Value) → (b ≡ true → ⊥) → (if b then v else w) ≡ w
absent_by true v w h = absurd (h refl)
absent_by false v w h = refl

with_absent : (news : List (ℕ × Value)) (a : Registers) (q : ℕ) → (Has q (map (λ s. s.0) news) → ⊥) → with_registers news a q ≡ a q
with_absent [] a q lacks = refl
with_absent (new ∷ rest) a q lacks =
    with_absent rest (with_register new.0 new.1 a) q (λ h. lacks (inr h))
    ∙ absent_by (q == new.0) new.1 (a q) (λ e. lacks (inl (sym (eqb-true q new.0 e))))

-- a change of a register that is among them is none
pub covered_same : (news : List (ℕ × Value)) (r : ℕ) (a b : Registers) → Has r (map (λ s. s.0) news) → ((q : ℕ) → (q ≡ r → ⊥) → a q ≡ b q) → (q : ℕ) → with_registers news a q ≡ with_registers news b q
covered_same news r a b there same q = elim (cases_eq q r) [
  | inl here ↦ with_covered news a b q (subst (λ (n : ℕ). Has n (map (λ (s : ℕ × Value). s.0) news)) (sym here) there)
  | inr other ↦ with_same news a b q (same q other)
]

-- a change of one register
pub record OneChanged (r : ℕ) (x y now after : Registers) : Type 0 where
  pub bare : (q : ℕ) → (q ≡ r → ⊥) → now q ≡ x q
  pub placed : (q : ℕ) → (q ≡ r → ⊥) → after q ≡ y q
  pub both : now r ≡ after r

module _ (p : Program) (d : List (List ℕ × Directives)) (base : IsDatabase d) (sound : Sound (graph_of p) d) where
  -- the webs of a function are those of the database
  pub web_has : (f : Active) (w : Web) (role : Role) → IsPlaced p d f → HasRole d (name_of f) w role → Has (w, role) f.function.body.directives.webs
  unfolding directed
  web_has f w role is h = by_body f.function.body is.body h where
    by_body : (g : WebFn) → g ≡ directed_by d is.flow → HasRole d g.name w role → Has (w, role) g.directives.webs
    by_body g e k = subst (λ (b : WebFn). Has (w, role) b.directives.webs) (sym e) (role_there d base is.flow.name w role (subst (λ (b : WebFn). HasRole d b.name w role) e k))

  pub web_register : (f : Active) (w : Web) → IsPlaced p d f → In d w (name_of f) → HasRegister f.function.body.directives w.reg
  web_register f w is within =
      contains_by w.reg (map (λ (u : Web × Role). u.0.reg) f.function.body.directives.webs)
      (has_map (λ (u : Web × Role). u.0.reg) (w, within.role) f.function.body.directives.webs (web_has f w within.role is within.has))

  -- where it enters a web of the register, it saved it in both runs
  pub covered_both : (f : Active) (r : ℕ) → IsPlaced p d f → first_register ≤ r → r ≤ last_register → is_entered f.function.body.directives.webs r ≡ true
      → Has r (map (λ s. s.0) f.bare.saved) × Has r (map (λ s. s.0) f.placed.saved)
  covered_both f r is low high e =
      let own = entered_web f.function.body.directives.webs r e in
      let placed : Contains f.function.saved r = (is.serves.saved r).1 (enters (record { web = own.0; there = contains_by (own.0, Entry) f.function.body.directives.webs own.1; is = own.2 })) in (
        subst (λ (l : List ℕ). Has r l) (sym is.bare) (in_from f.function.body.directives.webs r e first_register register_count low (omega (arith, high))),
        subst (λ (l : List ℕ). Has r l) (sym is.placed) (has_by r f.function.saved placed),
      )

  -- where it enters none, but is in a web of the register and saves it for no others, in neither
  absent_both : (f : Active) (r : ℕ) → IsPlaced p d f → HasRegister f.function.body.directives r → (IsSaver d (name_of f) r → ⊥) → is_entered f.function.body.directives.webs r ≡ false
      → (Has r (map (λ s. s.0) f.bare.saved) → ⊥) × (Has r (map (λ s. s.0) f.placed.saved) → ⊥)
  absent_both f r is own alone e = (
    λ h. differ (is_entered f.function.body.directives.webs r) (from_in f.function.body.directives.webs first_register register_count r (subst (λ (l : List ℕ). Has r l) is.bare h)) e,
    λ h. not_changed ((is.serves.saved r).0 (contains_by r f.function.saved (subst (λ (l : List ℕ). Has r l) is.placed h))),
  ) where
    not_changed : Changes f.function.body f.function r → ⊥
    not_changed (places c high free) = (is.serves.registers r c).1 own
    not_changed (saves c) = alone (saver_of p d f r is c)
    not_changed (enters has) =
        differ (is_entered f.function.body.directives.webs r) (subst (λ (q : ℕ). is_entered f.function.body.directives.webs q ≡ true) has.is
        (is_entered_by f.function.body.directives.webs has.web (has_by (has.web, Entry) f.function.body.directives.webs has.there))) e

  -- a function in the web gives back what it gave back
  pub gives_after : (f : Active) (w : Web) (x y now after : Registers) → IsPlaced p d f → In d w (name_of f) → OneChanged w.reg x y now after → GivesBack d f y → GivesBack d f after
  gives_after f w x y now after is within one gives q low high out =
      gives q low high out ∙ ap Some (elim (cases_eq q w.reg) [
        | inl here ↦ by_entry here (is_entered f.function.body.directives.webs w.reg) refl
        | inr other ↦ sym (with_same f.placed.saved after y q (one.placed q other))
      ])
    where
      by_role : (role : Role) → HasRole d (name_of f) w role → is_entered f.function.body.directives.webs w.reg ≡ false → MayChange d (name_of f) w.reg
      by_role Member has e = member (record { web = w; has = has; is = refl })
      by_role Entry has e = absurd (differ (is_entered f.function.body.directives.webs w.reg) (is_entered_by f.function.body.directives.webs w (web_has f w Entry is has)) e)

      by_entry : q ≡ w.reg → (b : Bool) → is_entered f.function.body.directives.webs w.reg ≡ b → given_back f.placed y q ≡ given_back f.placed after q
      by_entry here true e =
          let k = covered_both f w.reg is (omega (arith, low, here)) (omega (arith, high, here)) e in
          with_covered f.placed.saved y after q (subst (λ (n : ℕ). Has n (map (λ (s : ℕ × Value). s.0) f.placed.saved)) (sym here) k.1)
      by_entry here false e = absurd (out (subst (λ (n : ℕ). MayChange d (name_of f) n) (sym here) (by_role within.role within.has e)))

  -- either it enters the web and saved its register, or it is a member and did not
  abbrev Covered : Active → ℕ → Type 0
  Covered f r = Has r (map (λ s. s.0) f.bare.saved) × Has r (map (λ s. s.0) f.placed.saved)

  abbrev Absent : Active → Web → Type 0
  Absent f w = HasRole d (name_of f) w Member × ((Has w.reg (map (λ s. s.0) f.bare.saved) → ⊥) × (Has w.reg (map (λ s. s.0) f.placed.saved) → ⊥))

  role_in : (f : Active) (w : Web) → IsPlaced p d f → In d w (name_of f) → Covered f w.reg ⊎ Absent f w
  role_in f w is within = by_entry (is_entered f.function.body.directives.webs w.reg) refl where
    own : HasRegister f.function.body.directives w.reg
    own = web_register f w is within

    by_role : (role : Role) → HasRole d (name_of f) w role → is_entered f.function.body.directives.webs w.reg ≡ false → Absent f w
    by_role Member has e = (has, absent_both f w.reg is own (λ saver. sound.saves (name_of f) w.reg saver w has refl) e)
    by_role Entry has e = absurd (differ (is_entered f.function.body.directives.webs w.reg) (is_entered_by f.function.body.directives.webs w (web_has f w Entry is has)) e)

    by_entry : (b : Bool) → is_entered f.function.body.directives.webs w.reg ≡ b → Covered f w.reg ⊎ Absent f w
    by_entry true e = inl (covered_both f w.reg is (web_range d base (name_of f) w within.role within.has).0 (web_range d base (name_of f) w within.role within.has).1 e)
    by_entry false e = inr (by_role within.role within.has e)

  -- what a function in the web finds after the change
  unfoldable pub gets_after : (f : Active) (w : Web) (result : Option ℕ) (x y now after : Registers) → In d w (name_of f) → OneChanged w.reg x y now after → Gets p d f result x y → Gets p d f result now after
  gets_after f w result x y now after within one g = record {
    placed = g.placed;
    op = g.op;
    inside = g.inside;
    result = g.result;
    webs = λ q h. elim (cases_eq q w.reg) [
      | inl here ↦ subst (λ (n : ℕ). now n ≡ after n) (sym here) one.both
      | inr other ↦ one.bare q other ∙ g.webs q h ∙ sym (one.placed q other)
    ];
    temps = λ t lives other. g.temps t lives other ∙ placed_same f y after t (λ q e. sym (one.placed q (λ here.
        (g.placed.serves.registers q (place_there f.function.places t (Reg q) e)).1
        (subst (HasRegister f.function.body.directives) (sym here) (web_register f w g.placed within)))));
    gives = gives_after f w x y now after g.placed within one g.gives;
  }

  -- so do all that wait behind it
  pub webs_wait : (w : Web) (f : Active) (fs : List Active) (x y now after : Registers) → IsPlaced p d f → In d w (name_of f) → OneChanged w.reg x y now after
      → AllWait p d (name_of f) f.result fs (given_back f.bare x) (given_back f.placed y) → AllWait p d (name_of f) f.result fs (given_back f.bare now) (given_back f.placed after)
  unfolding gets_after
  webs_wait w f [] x y now after is within one wait = wait
  webs_wait w f (g ∷ gs) x y now after is within one wait = elim (role_in f w is within) [
    | inl covered ↦ waiting_same p d (name_of f) f.result (g ∷ gs) (given_back f.bare x) (given_back f.placed y) (given_back f.bare now) (given_back f.placed after)
        (λ q high. covered_same f.bare.saved w.reg now x covered.0 one.bare q) (λ q high out. covered_same f.placed.saved w.reg after y covered.1 one.placed q) wait
    | inr absent ↦
        let inner : In d w (name_of g) = sound.member_callers w (name_of f) (name_of g) absent.0 wait.0.edge in
        let next : OneChanged w.reg (given_back f.bare x) (given_back f.placed y) (given_back f.bare now) (given_back f.placed after) = record {
          bare = λ q other. with_same f.bare.saved now x q (one.bare q other);
          placed = λ q other. with_same f.placed.saved after y q (one.placed q other);
          both = with_absent f.bare.saved now w.reg absent.1.0 ∙ one.both ∙ sym (with_absent f.placed.saved after w.reg absent.1.1);
        } in (
          record {
            edge = wait.0.edge;
            alone = wait.0.alone;
            gets = gets_after g w f.result (given_back f.bare x) (given_back f.placed y) (given_back f.bare now) (given_back f.placed after) inner next wait.0.gets;
            calls = wait.0.calls;
          },
          webs_wait w g gs (given_back f.bare x) (given_back f.placed y) (given_back f.bare now) (given_back f.placed after) wait.0.gets.placed inner next wait.1,
        )
  ]
