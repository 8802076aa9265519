-- A function that has just been called: it has saved, and its temporaries hold nothing.
use Rattle.std.specs.Prelude.{ℕ, zero, suc, ◌≡◌, ◌≤◌, ◌<◌, ◌==◌, Bool, true, false, if◌then◌else◌, Option, Some, None, List, [], ◌∷◌, length, map, replicate, slice_get, slice_index_or, Contains}
use Rattle.std.proofs.Common.{arith, refl, sym, ap, subst, ◌∙◌, get_or, inl, inr}
use Rattle.std.proofs.lemmas.Bool.{cases_lt, eqb-true, eqb-false}
use Rattle.std.proofs.lemmas.List.{get_or-replicate, get_or_past, length-replicate}
use Rattle.pw_value.specs.declared.value.Value.{Value}
use Rattle.pw_value.specs.declared.value.Value.TheVariants.{Undefined}
use Rattle.pw_files.proofs.Standing.{has_by}
use Rattle.pw_db.specs.Limits.{last_register}
use Rattle.pw_webflow.specs.declared.web.WebBlock.{WebBlock}
use Rattle.pw_alloc.specs.declared.located.Place.{Place}
use Rattle.pw_alloc.specs.declared.located.Place.TheVariants.{Slot, Reg}
use Rattle.pw_alloc.specs.declared.located.Located.{Located}
use Rattle.pw_alloc.specs.Allocation.{saved_of}
use Rattle.pw_run_languages.specs.FlowRun.{with_slots}
use Rattle.pw_run_languages.specs.PlacedRun.{kept, with_register, without_places, entered}
use Rattle.pw_run_languages.specs.Direction.{unplaced}
use Rattle.pw_run_languages.specs.Serving.{Serves, places}
use Rattle.pw_law_direction.proofs.Banks.{saved_same, saved_covered, has_or_not}
use Rattle.pw_law_placed.specs.Twins.{Twin, bare_side, placed_side, bare_value, placed_value}
use Rattle.pw_law_placed.specs.Alike.{Registers, given_back}
use Rattle.pw_law_placed.proofs.Lists.{first_there, later_there}
use Rattle.pw_law_placed.proofs.Places.{register_of_place, value_at, place_there}

-- ---- both states

abbrev pub begun : Located → WebBlock → Option ℕ → Twin → Twin
begun l b t x = record x {
  frame = record {
    function = l;
    block = 0;
    ops = b.ops;
    end = b.end;
    base = length x.objects;
    result = t;
    bare = record { temps = replicate l.body.temps Undefined; saved = map (λ r. (r, x.registers r)) (saved_of l.body); before = kept x.registers };
    placed = record { temps = replicate l.body.temps Undefined; saved = map (λ r. (r, x.bank r)) l.saved; before = kept x.bank };
  };
  callers = x.frame ∷ x.callers;
  bank = without_places l.places x.bank;
  objects = with_slots l.body.slots x.objects;
}

pub bare_begun : (l : Located) (b : WebBlock) (t : Option ℕ) (x : Twin) → entered (unplaced l.body) b t (bare_side x) ≡ bare_side (begun l b t x)
bare_begun l b t x = refl

pub placed_begun : (l : Located) (b : WebBlock) (t : Option ℕ) (x : Twin) → entered l b t (placed_side x) ≡ placed_side (begun l b t x)
placed_begun l b t x = refl

-- ---- registers of places hold nothing

either_same : (b : Bool) (v w u : Value) → v ≡ u → w ≡ u → (if b then v else w) ≡ u
either_same true v w u e f = e
either_same false v w u e f = f

still : (ps : List Place) (bank : Registers) (q : ℕ) → bank q ≡ Undefined → without_places ps bank q ≡ Undefined
still [] bank q e = e
still (Slot offset ∷ rest) bank q e = still rest bank q e
still (Reg r ∷ rest) bank q e = still rest (with_register r Undefined bank) q (either_same (q == r) Undefined (bank q) Undefined refl e)

abbrev register_number : Place → ℕ
register_number (Reg r) = r
register_number (Slot offset) = 0

cleared_at : (ps : List Place) (bank : Registers) (q k : ℕ) → k < length ps → get_or ps k (Reg q) ≡ Reg q → without_places ps bank q ≡ Undefined
cleared_at [] bank q k lt e = absurd (omega (arith, lt))
cleared_at (Slot offset ∷ rest) bank q zero lt e = absurd cc
cleared_at (Slot offset ∷ rest) bank q (suc k) lt e = cleared_at rest bank q k (omega (arith, lt)) e
cleared_at (Reg r ∷ rest) bank q zero lt e = still rest (with_register r Undefined bank) q (here (q == r) refl) where
  same : r ≡ q
  same = ap register_number e

  here : (b : Bool) → (q == r) ≡ b → (if b then Undefined else bank q) ≡ Undefined
  here true f = refl
  here false f = absurd (eqb-false q r f (sym same))
cleared_at (Reg r ∷ rest) bank q (suc k) lt e = cleared_at rest (with_register r Undefined bank) q k (omega (arith, lt)) e

pub uncleared : (ps : List Place) (bank : Registers) (q : ℕ) → (Contains ps (Reg q) → ⊥) → without_places ps bank q ≡ bank q
uncleared [] bank q lacks = refl
uncleared (Slot offset ∷ rest) bank q lacks = uncleared rest bank q (λ c. lacks (later_there (Slot offset) (Reg q) rest c))
uncleared (Reg r ∷ rest) bank q lacks =
    uncleared rest (with_register r Undefined bank) q (λ c. lacks (later_there (Reg r) (Reg q) rest c))
    ∙ other (q == r) refl
  where
    other : (b : Bool) → (q == r) ≡ b → (if b then Undefined else bank q) ≡ bank q
    other true e = absurd (lacks (subst (λ (n : ℕ). Contains (Reg n ∷ rest) (Reg q)) (eqb-true q r e) (first_there (Reg q) rest)))
    other false e = refl

pub nothing_there : (n t : ℕ) → slice_index_or (replicate n Undefined) t Undefined ≡ Undefined
nothing_there n t = elim (cases_lt t n) [
  | inl lt ↦ get_or-replicate n t Undefined Undefined lt
  | inr ge ↦ let count : length (replicate n Undefined) ≡ n = length-replicate n Undefined in get_or_past (replicate n Undefined) t Undefined (omega (arith, ge, count))
]

-- all temporaries have the same value, which is none
pub begun_temps : (l : Located) (b : WebBlock) (to : Option ℕ) (x : Twin) (t : ℕ) → bare_value (begun l b to x).frame t ≡ placed_value (begun l b to x).frame (begun l b to x).bank t
begun_temps l b to x t = nothing_there l.body.temps t ∙ sym (by_place (slice_get l.places t) refl) where
  by_place : (o : Option Place) → slice_get l.places t ≡ o → value_at (replicate l.body.temps Undefined) (without_places l.places x.bank) t (register_of_place o) ≡ Undefined
  by_place (Some (Reg r)) e = let c = place_there l.places t (Reg r) e in cleared_at l.places x.bank r c.0 c.1 c.2
  by_place (Some (Slot offset)) e = nothing_there l.body.temps t
  by_place None e = nothing_there l.body.temps t

-- ---- what it would give back

pub bare_under : (l : Located) (b : WebBlock) (to : Option ℕ) (x : Twin) (q : ℕ) → given_back (begun l b to x).frame.bare x.registers q ≡ x.registers q
bare_under l b to x q = saved_same (saved_of l.body) x.registers x.registers q refl

pub placed_under : (l : Located) (b : WebBlock) (to : Option ℕ) (x : Twin) (q : ℕ) → Serves l.body l → q ≤ last_register → (Contains l.body.directives.free q → ⊥)
    → given_back (begun l b to x).frame.placed (begun l b to x).bank q ≡ x.bank q
placed_under l b to x q serves high out = elim (has_or_not q l.saved) [
  | inl there ↦ saved_covered l.saved x.bank (without_places l.places x.bank) q there
  | inr lacks ↦ saved_same l.saved x.bank (without_places l.places x.bank) q (uncleared l.places x.bank q (λ c.
      lacks (has_by q l.saved ((serves.saved q).1 (places c high out)))))
]
