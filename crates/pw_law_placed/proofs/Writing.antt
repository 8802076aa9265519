-- A temporary gets a value, in its place.
use Rattle.std.specs.Prelude.{ℕ, ◌≡◌, ◌≤◌, ◌==◌, Bool, true, false, if◌then◌else◌, Option, Some, None, List, [], ◌∷◌, ◌++◌, length, map, slice_get, slice_set, slice_index_or, Contains}
use Rattle.std.proofs.Common.{arith, refl, sym, ap, subst, ◌∙◌, get_or, inl, inr}
use Rattle.std.proofs.lemmas.Bool.{cases_eq, cases_lt, eqb-false}
use Rattle.std.proofs.lemmas.List.{get_or-set_same, get_or-set_other, get_or_past, length-set, append_assoc}
use Rattle.std.proofs.lemmas.Option.{slice_get_within, same_Some}
use Rattle.pw_value.specs.declared.value.Value.{Value}
use Rattle.pw_value.specs.declared.value.Value.TheVariants.{Undefined}
use Rattle.pw_files.proofs.Standing.{Has, has_by}
use Rattle.pw_db.specs.Limits.{last_register}
use Rattle.pw_db.specs.declared.database.Directives.{Directives}
use Rattle.pw_webflow.specs.ValidWebs.{HasRegister}
use Rattle.pw_webflow.specs.declared.web.WebOp.{WebOp}
use Rattle.pw_alloc.specs.declared.located.Place.{Place}
use Rattle.pw_alloc.specs.declared.located.Place.TheVariants.{Slot, Reg}
use Rattle.pw_db_sound.specs.Sound.{IsFree}
use Rattle.pw_run_languages.specs.Programs.{Program}
use Rattle.pw_run_languages.specs.PlacedRun.{Machine, On, with_register, with_temp}
use Rattle.pw_run_languages.specs.Serving.{Live, StandsIn, by_operation, places}
use Rattle.pw_law_direction.proofs.Banks.{with_same, with_covered, written_other}
use Rattle.pw_law_placed.specs.Twins.{Active, Twin, bare_side, placed_side, bare_value, placed_value}
use Rattle.pw_law_placed.specs.Alike.{Registers, given_back, name_of, IsPlaced, IsInside, Gets, IsReady, IsAlike, goes}
use Rattle.pw_law_placed.specs.Laws.{ResultsFollow}
use Rattle.pw_law_placed.proofs.Free.{free_of, not_free}
use Rattle.pw_law_placed.proofs.Places.{register_of_place, value_at, placed_same, place_there}
use Rattle.pw_law_placed.proofs.Waiting.{waiting_same}

-- ---- lists of temporaries

-- both lists are as long, so a new item is in both or in neither
set_here : (xs ys : List Value) (d : ℕ) (v : Value) → length xs ≡ length ys → slice_index_or (slice_set xs d v) d Undefined ≡ slice_index_or (slice_set ys d v) d Undefined
set_here xs ys d v same = elim (cases_lt d (length xs)) [
  | inl lt ↦ get_or-set_same xs d v Undefined lt ∙ sym (get_or-set_same ys d v Undefined (omega (arith, lt, same)))
  | inr ge ↦
      let a : length (slice_set xs d v) ≡ length xs = length-set xs d v in
      let b : length (slice_set ys d v) ≡ length ys = length-set ys d v in
      get_or_past (slice_set xs d v) d Undefined (omega (arith, ge, a)) ∙ sym (get_or_past (slice_set ys d v) d Undefined (omega (arith, ge, b, same)))
]

set_other : (xs : List Value) (d t : ℕ) (v : Value) → (d ≡ t → ⊥) → slice_index_or (slice_set xs d v) t Undefined ≡ slice_index_or xs t Undefined
set_other xs d t v apart = get_or-set_other xs d t v Undefined (λ e. apart (sym e))

-- ---- both states with a value in a place

abbrev bare_put : Active → ℕ → Value → Active
bare_put f t v = record f { bare = record f.bare { temps = slice_set f.bare.temps t v } }

abbrev both_put : Active → ℕ → Value → Active
both_put f t v = record f {
  bare = record f.bare { temps = slice_set f.bare.temps t v };
  placed = record f.placed { temps = slice_set f.placed.temps t v };
}

abbrev pub puts : Twin → ℕ → Value → Option ℕ → Twin
puts x t v (Some r) = record x { frame = bare_put x.frame t v; bank = with_register r v x.bank }
puts x t v None = record x { frame = both_put x.frame t v }

abbrev put_at : ℕ → Value → Machine → Option ℕ → Machine
put_at t v m (Some r) = record m { registers = with_register r v m.registers }
put_at t v m None = record m { frame = record m.frame { temps = slice_set m.frame.temps t v } }

pub bare_puts : (x : Twin) (t : ℕ) (v : Value) (r : Option ℕ) → with_temp t v (bare_side x) ≡ bare_side (puts x t v r)
bare_puts x t v (Some r) = refl
bare_puts x t v None = refl

placed_by : (x : Twin) (t : ℕ) (v : Value) (r : Option ℕ) → put_at t v (placed_side x) r ≡ placed_side (puts x t v r)
placed_by x t v (Some r) = refl
placed_by x t v None = refl

pub placed_puts : (x : Twin) (t : ℕ) (v : Value) → with_temp t v (placed_side x) ≡ placed_side (puts x t v (register_of_place (slice_get x.frame.function.places t)))
placed_puts x t v = placed_by x t v (register_of_place (slice_get x.frame.function.places t))

-- ---- a register of a place

-- what the function gives back does not depend on the register of one of its temporaries, but for those that it is free to use
pub given_same : (p : Program) (d : List (List ℕ × Directives)) (f : Active) (t r q : ℕ) (v : Value) (bank : Registers) → IsPlaced p d f → slice_get f.function.places t ≡ Some (Reg r) → q ≤ last_register → (IsFree d (name_of f) q → ⊥)
    → given_back f.placed (with_register r v bank) q ≡ given_back f.placed bank q
given_same p d f t r q v bank is e high out = elim (cases_eq q r) [
  | inl same ↦
      let low : r ≤ last_register = omega (arith, high, same) in
      let saved : Contains f.function.saved r = (is.serves.saved r).1 (places (place_there f.function.places t (Reg r) e) low (λ c. out (subst (IsFree d (name_of f)) (sym same) (free_of p d f r is c)))) in
      let there = has_by r (map (λ (s : ℕ × Value). s.0) f.placed.saved) (subst (λ (l : List ℕ). Contains l r) (sym is.placed) saved) in
      with_covered f.placed.saved (with_register r v bank) bank q (subst (λ (n : ℕ). Has n (map (λ (s : ℕ × Value). s.0) f.placed.saved)) (sym same) there)
  | inr other ↦ with_same f.placed.saved (with_register r v bank) bank q (sym (written_other r q v bank other))
]

pub with_here : (r : ℕ) (v : Value) (bank : Registers) → with_register r v bank r ≡ v
with_here r v bank = by_test (r == r) refl where
  by_test : (b : Bool) → (r == r) ≡ b → (if b then v else bank r) ≡ v
  by_test true e = refl
  by_test false e = absurd (eqb-false r r e refl)

-- ---- values

pub of_register : (o : Option Place) (r : ℕ) → register_of_place o ≡ Some r → o ≡ Some (Reg r)
of_register (Some (Reg q)) r e = ap (λ (n : ℕ). Some (Reg n)) (same_Some q r e)
of_register (Some (Slot offset)) r e = absurd cc
of_register None r e = absurd cc

-- the temporary has the value in both runs, where it is one of them
pub own_put : (p : Program) (d : List (List ℕ × Directives)) (x : Twin) (t : ℕ) (v : Value) (o : Option ℕ) → register_of_place (slice_get x.frame.function.places t) ≡ o → IsPlaced p d x.frame
    → bare_value (puts x t v o).frame t ≡ placed_value (puts x t v o).frame (puts x t v o).bank t
own_put p d x t v (Some r) e is =
    let within = slice_get_within x.frame.function.places t (Reg r) (of_register (slice_get x.frame.function.places t) r e) in
    let count = is.serves.count in
    let room = is.room in
    get_or-set_same x.frame.bare.temps t v Undefined (omega (arith, within, count, room))
    ∙ sym (with_here r v x.bank)
    ∙ ap (λ (o : Option ℕ). value_at x.frame.placed.temps (with_register r v x.bank) t o) (sym e)
own_put p d x t v None e is =
    set_here x.frame.bare.temps x.frame.placed.temps t v (is.room ∙ sym is.words)
    ∙ ap (λ (o : Option ℕ). value_at (slice_set x.frame.placed.temps t v) x.bank t o) (sym e)

kept_word : (temps : List Value) (y : Registers) (t u : ℕ) (v : Value) (o : Option ℕ) → (t ≡ u → ⊥) → value_at (slice_set temps t v) y u o ≡ value_at temps y u o
kept_word temps y t u v (Some r) other = refl
kept_word temps y t u v None other = set_other temps t u v other

-- another one keeps its value where its place is another
pub other_put : (x : Twin) (t u : ℕ) (v : Value) (o : Option ℕ) → register_of_place (slice_get x.frame.function.places t) ≡ o → (t ≡ u → ⊥)
    → ((r : ℕ) → slice_get x.frame.function.places t ≡ Some (Reg r) → slice_get x.frame.function.places u ≡ Some (Reg r) → ⊥)
    → bare_value x.frame u ≡ placed_value x.frame x.bank u → bare_value (puts x t v o).frame u ≡ placed_value (puts x t v o).frame (puts x t v o).bank u
other_put x t u v (Some r) e other apart same =
    let here = of_register (slice_get x.frame.function.places t) r e in
    set_other x.frame.bare.temps t u v other ∙ same
    ∙ placed_same x.frame x.bank (with_register r v x.bank) u (λ q there. written_other r q v x.bank (λ one.
    apart r here (there ∙ ap (λ (n : ℕ). Some (Reg n)) one)))
other_put x t u v None e other apart same =
    set_other x.frame.bare.temps t u v other ∙ same
    ∙ sym (kept_word x.frame.placed.temps x.bank t u v (register_of_place (slice_get x.frame.function.places u)) other)

-- it is as it was but for its temporaries
pub put_placed : (p : Program) (d : List (List ℕ × Directives)) (x : Twin) (t : ℕ) (v : Value) (o : Option ℕ) → IsPlaced p d x.frame → IsPlaced p d (puts x t v o).frame
put_placed p d x t v (Some r) is = record {
  flow = is.flow;
  there = is.there;
  body = is.body;
  lawful = is.lawful;
  serves = is.serves;
  bare = is.bare;
  placed = is.placed;
  room = length-set x.frame.bare.temps t v ∙ is.room;
  words = is.words;
}
put_placed p d x t v None is = record {
  flow = is.flow;
  there = is.there;
  body = is.body;
  lawful = is.lawful;
  serves = is.serves;
  bare = is.bare;
  placed = is.placed;
  room = length-set x.frame.bare.temps t v ∙ is.room;
  words = length-set x.frame.placed.temps t v ∙ is.words;
}

-- ---- the function that gets the value

-- behind an operation what is left is the end of a block
inside_behind : (f : Active) (o : WebOp) → StandsIn f.function.body o f.ops f.end → IsInside f
inside_behind f o s = record {
  block = s.block;
  there = s.there;
  before = s.before ++ o ∷ [];
  ops = s.ops ∙ sym (append_assoc s.before (o ∷ []) f.ops);
  is = s.is;
}

-- another temporary that is still needed is in another place
other_place : (p : Program) (d : List (List ℕ × Directives)) (f : Active) (t u r : ℕ) (x y : Registers) → Gets p d f (Some t) x y → Live f.function.body u f.ops f.end → (t ≡ u → ⊥)
    → slice_get f.function.places t ≡ Some (Reg r) → slice_get f.function.places u ≡ Some (Reg r) → ⊥
other_place p d f t u r x y g lives apart e h =
    let within = slice_get_within f.function.places u (Reg r) h in
    let count = g.placed.serves.count in
    g.placed.serves.apart t u (omega (arith, within, count)) (by_operation g.op f.ops f.end g.inside g.result lives apart) (h ∙ sym e)

-- what is still needed has the same values
temps_after : (p : Program) (d : List (List ℕ × Directives)) (x : Twin) (t u : ℕ) (v : Value) (o : Option ℕ) → register_of_place (slice_get x.frame.function.places t) ≡ o
    → Gets p d x.frame (Some t) x.registers x.bank → Live x.frame.function.body u x.frame.ops x.frame.end
    → bare_value (puts x t v o).frame u ≡ placed_value (puts x t v o).frame (puts x t v o).bank u
temps_after p d x t u v o e g lives = elim (cases_eq t u) [
  | inl same ↦ subst (λ (n : ℕ). bare_value (puts x t v o).frame n ≡ placed_value (puts x t v o).frame (puts x t v o).bank n) same (own_put p d x t v o e g.placed)
  | inr other ↦ other_put x t u v o e other (λ r here there. other_place p d x.frame t u r x.registers x.bank g lives other here there) (g.temps u lives (λ c. other (same_Some t u c)))
]

-- ---- both states

put_alike : (p : Program) (d : List (List ℕ × Directives)) (x : Twin) (t : ℕ) (v : Value) (o : Option ℕ) → register_of_place (slice_get x.frame.function.places t) ≡ o → IsReady p d x (Some t)
    → IsAlike p d (puts x t v o)
put_alike p d x t v (Some r) e ready =
    let there = of_register (slice_get x.frame.function.places t) r e in
    record {
      frame = record {
        placed = put_placed p d x t v (Some r) ready.frame.placed;
        inside = let i = inside_behind x.frame ready.frame.op ready.frame.inside in record { block = i.block; there = i.there; before = i.before; ops = i.ops; is = i.is };
        webs = λ q h. ready.frame.webs q h ∙ written_other r q v x.bank (λ same.
            (ready.frame.placed.serves.registers r (place_there x.frame.function.places t (Reg r) there)).1 (subst (HasRegister x.frame.function.body.directives) same h));
        temps = λ u lives. temps_after p d x t u v (Some r) e ready.frame lives;
        gives = λ q low high out. ready.frame.gives q low high out ∙ ap Some (sym (given_same p d x.frame t r q v x.bank ready.frame.placed there high (not_free p d (name_of x.frame) q out)));
      };
      callers = waiting_same p d x.frame.function.body.name x.frame.result x.callers (given_back x.frame.bare x.registers) (given_back x.frame.placed x.bank)
          (given_back x.frame.bare x.registers) (given_back x.frame.placed (with_register r v x.bank))
          (λ q high. refl) (λ q high out. given_same p d x.frame t r q v x.bank ready.frame.placed there high out) ready.callers;
      log = ready.log;
      kept = ready.kept;
    }
put_alike p d x t v None e ready = record {
  frame = record {
    placed = put_placed p d x t v None ready.frame.placed;
    inside = let i = inside_behind x.frame ready.frame.op ready.frame.inside in record { block = i.block; there = i.there; before = i.before; ops = i.ops; is = i.is };
    webs = ready.frame.webs;
    temps = λ u lives. temps_after p d x t u v None e ready.frame lives;
    gives = ready.frame.gives;
  };
  callers = ready.callers;
  log = ready.log;
  kept = ready.kept;
}

pub results_follow : ResultsFollow
results_follow p d x None v ready = goes (record {
  twin = x;
  bare = refl;
  placed = refl;
  alike = record {
    frame = record {
      placed = ready.frame.placed;
      inside = inside_behind x.frame ready.frame.op ready.frame.inside;
      webs = ready.frame.webs;
      temps = λ t lives. ready.frame.temps t lives (λ e. cc);
      gives = ready.frame.gives;
    };
    callers = ready.callers;
    log = ready.log;
    kept = ready.kept;
  };
})
results_follow p d x (Some t) v ready =
    let o : Option ℕ = register_of_place (slice_get x.frame.function.places t) in
    goes (record {
      twin = puts x t v o;
      bare = ap On (bare_puts x t v o);
      placed = ap On (placed_puts x t v);
      alike = put_alike p d x t v o refl ready;
    })
