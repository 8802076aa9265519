-- What the functions that wait find in registers.
use Rattle.std.specs.Prelude.{ℕ, ◌≡◌, ◌≢◌, ◌≤◌, true, Option, Some, List, [], ◌∷◌, map, slice_get, Contains}
use Rattle.std.proofs.Common.{sym, ap, subst, ◌∙◌, inl, inr}
use Rattle.pw_value.specs.declared.value.Value.{Value}
use Rattle.pw_files.proofs.Standing.{has_by}
use Rattle.pw_db.specs.Limits.{last_register}
use Rattle.pw_db.specs.declared.database.Directives.{Directives}
use Rattle.pw_webflow.specs.WebOutline.{calls}
use Rattle.pw_alloc.specs.declared.located.Place.TheVariants.{Reg}
use Rattle.pw_db_sound.specs.Sound.{IsFree}
use Rattle.pw_run_languages.specs.Programs.{Program}
use Rattle.pw_run_languages.specs.Serving.{Live, IsHeld, saves}
use Rattle.pw_law_direction.proofs.Banks.{with_same, with_covered, has_or_not}
use Rattle.pw_law_placed.specs.Twins.{Active}
use Rattle.pw_law_placed.specs.Alike.{Registers, given_back, name_of, IsPlaced, LeavesIt, Gets}
use Rattle.pw_law_placed.specs.Laws.{WaitingRestsOnKept}
use Rattle.pw_law_placed.proofs.Free.{free_of, not_free}
use Rattle.pw_law_placed.proofs.Places.{placed_same, web_kept}

-- what a function that calls still needs it holds over the call
is_held : (p : Program) (d : List (List ℕ × Directives)) (f : Active) (to : Option ℕ) (x y : Registers) (t : ℕ) (g : Gets p d f to x y) → calls g.op ≡ true
    → Live f.function.body t f.ops f.end → to ≢ Some t → IsHeld f.function.body t
is_held p d f to x y t g call lives other =
    record { op = g.op; after = f.ops; end = f.end; there = g.inside; call = call; lives = lives; other = λ e. other (sym g.result ∙ e) }

-- so a register that holds it is one that a callee keeps
pub held_low : (p : Program) (d : List (List ℕ × Directives)) (f : Active) (to : Option ℕ) (x y : Registers) (t r : ℕ) (g : Gets p d f to x y) → calls g.op ≡ true
    → Live f.function.body t f.ops f.end → to ≢ Some t → slice_get f.function.places t ≡ Some (Reg r) → r ≤ last_register
held_low p d f to x y t r g call lives other e =
    let kept = g.placed.serves.held t (Reg r) (is_held p d f to x y t g call lives other) e in
    kept.1

-- and none that it leaves to the functions below
pub held_alone : (p : Program) (d : List (List ℕ × Directives)) (f : Active) (to : Option ℕ) (x y : Registers) (t r : ℕ) (g : Gets p d f to x y) → calls g.op ≡ true
    → Live f.function.body t f.ops f.end → to ≢ Some t → slice_get f.function.places t ≡ Some (Reg r) → LeavesIt f.function.body.directives r → ⊥
held_alone p d f to x y t r g call lives other e leaves =
    let kept = g.placed.serves.held t (Reg r) (is_held p d f to x y t g call lives other) e in
    elim leaves.1 [ inl free ↦ kept.2 free | inr others ↦ kept.3 others ]

-- It gives back the same, but for what it is free to use itself, where those below it changed what it leaves to them and no more:
-- what it saves for others it saved.
pub back_same : (p : Program) (d : List (List ℕ × Directives)) (Free : ℕ → Type 0) (f : Active) (y after : Registers) → IsPlaced p d f → ((r : ℕ) → Free r → LeavesIt f.function.body.directives r)
    → ((r : ℕ) → r ≤ last_register → (Free r → ⊥) → after r ≡ y r) → (r : ℕ) → r ≤ last_register → (IsFree d (name_of f) r → ⊥) → given_back f.placed after r ≡ given_back f.placed y r
back_same p d Free f y after is alone same r high out = elim (has_or_not r (map (λ (s : ℕ × Value). s.0) f.placed.saved)) [
  | inl there ↦ with_covered f.placed.saved after y r there
  | inr lacks ↦ with_same f.placed.saved after y r (same r high (λ free. elim (alone r free).1 [
    | inl own ↦ out (free_of p d f r is own)
    | inr others ↦ lacks (has_by r (map (λ (s : ℕ × Value). s.0) f.placed.saved) (subst (λ (l : List ℕ). Contains l r) (sym is.placed) ((is.serves.saved r).1 (saves others))))
  ]))
]

-- it finds the same where the registers that a callee keeps are the same, but for those that it leaves to those below
unfoldable pub gets_kept : (p : Program) (d : List (List ℕ × Directives)) (Free : ℕ → Type 0) (f : Active) (to : Option ℕ) (x y now after : Registers) (g : Gets p d f to x y) → calls g.op ≡ true
    → ((r : ℕ) → Free r → LeavesIt f.function.body.directives r) → ((r : ℕ) → r ≤ last_register → now r ≡ x r) → ((r : ℕ) → r ≤ last_register → (Free r → ⊥) → after r ≡ y r) → Gets p d f to now after
gets_kept p d Free f to x y now after g call alone first second = record {
  placed = g.placed;
  op = g.op;
  inside = g.inside;
  result = g.result;
  webs = λ r h. let high = web_kept f.function.body.directives r g.placed.lawful.directives h in first r high ∙ g.webs r h ∙ sym (second r high (λ free. (alone r free).0 h));
  temps = λ t lives other. g.temps t lives other
      ∙ placed_same f y after t (λ r e. sym (second r (held_low p d f to x y t r g call lives other e) (λ free. held_alone p d f to x y t r g call lives other e (alone r free))));
  gives = λ r low high out. g.gives r low high out ∙ ap Some (sym (back_same p d Free f y after g.placed alone second r high (not_free p d (name_of f) r out)));
}

pub waiting_same : WaitingRestsOnKept
unfolding gets_kept
waiting_same p d callee result [] x y now after first second w = w
waiting_same p d callee result (f ∷ fs) x y now after first second w = (
  record { edge = w.0.edge; alone = w.0.alone; gets = gets_kept p d (IsFree d callee) f result x y now after w.0.gets w.0.calls w.0.alone first second; calls = w.0.calls },
  waiting_same p d f.function.body.name f.result fs (given_back f.bare x) (given_back f.placed y) (given_back f.bare now) (given_back f.placed after)
      (λ r high. with_same f.bare.saved now x r (first r high)) (λ r high out. back_same p d (IsFree d callee) f y after w.0.gets.placed w.0.alone second r high out) w.1,
)
