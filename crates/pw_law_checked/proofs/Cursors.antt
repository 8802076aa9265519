-- The places of a list of initialisers: each part that comes next lies behind those that were filled, and inside the object.
use Rattle.std.specs.Prelude.{ℕ, zero, suc, ◌≡◌, ◌≤◌, ◌+◌, ◌||◌, ◌⊎◌, Bool, true, false, Option, None, Some, is_some, option_and_then, List, [], ◌∷◌, if◌then◌else◌, refl}
use Rattle.std.proofs.Common.{arith, sym, subst, inl, inr}
use Rattle.pw_types.specs.Records.{IsLaid}
use Rattle.pw_types.specs.TypeTrees.{CType, Array, QType, type_of, RecordValue}
use Rattle.pw_types.specs.WellTyped.{IsComplete}
use Rattle.pw_check_rules.specs.Initialisers.{Frame, Cursor, Target, next_part, part_of, one_on, passed, frame_of, Reached, reached}
use Rattle.pw_check_rules.specs.Kinds.{is_scalar}
use Rattle.pw_law_checked.proofs.Lists.{some_same, never_some}
use Rattle.pw_law_checked.proofs.Parts.{sized, next_inside, next_behind, part_complete, element_part}

-- complete, or an array that gets its length, of complete elements
abbrev pub Whole : List RecordValue → CType → Type 0
Whole r ty = IsComplete r ty ⊎ ((q : QType) × (ty ≡ Array q None) × IsComplete r (type_of q))

-- each object is the part that comes next of the one around it, and its type is complete, but for an outermost array
abbrev pub Chain : List RecordValue → Cursor → Type 0
Chain r [] = Unit {0}
Chain r (f ∷ []) = Whole r f.ty
Chain r (f ∷ g ∷ outer) = IsComplete r f.ty × ((t : Target) × (next_part r g ≡ Some t) × (type_of t.ty ≡ f.ty) × (t.offset ≡ f.offset)) × Chain r (g ∷ outer)

-- the part that comes next does not begin before the offset
abbrev pub Begins : List RecordValue → ℕ → Cursor → Type 0
Begins r b [] = Unit {0}
Begins r b (f ∷ outer) = (t : Target) → next_part r f ≡ Some t → b ≤ t.offset

-- it does not end before the offset
abbrev pub Ends : List RecordValue → ℕ → Cursor → Type 0
Ends r b [] = Unit {0}
Ends r b (f ∷ outer) = (t : Target) × (next_part r f ≡ Some t) × (b ≤ t.offset + sized r (type_of t.ty))

pub chain_top : (r : List RecordValue) (f : Frame) (outer : Cursor) → Chain r (f ∷ outer) → Whole r f.ty
chain_top r f [] h = h
chain_top r f (g ∷ outer) h = inl h.0

pub whole_part : (r : List RecordValue) → IsLaid r → (f : Frame) (t : Target) → Whole r f.ty → next_part r f ≡ Some t → IsComplete r (type_of t.ty)
whole_part r laid f t (inl h) e = part_complete r laid f t h e
whole_part r laid f t (inr h) e = element_part r f t h.0 h.2 (subst (λ ty. part_of r ty f ≡ Some t) h.1 e)

chain_on : (r : List RecordValue) (f : Frame) (outer : Cursor) → Chain r (f ∷ outer) → Chain r (one_on f ∷ outer)
chain_on r f [] h = h
chain_on r f (g ∷ outer) h = h

-- behind a part the next one begins at or behind its end
pub passed_begins : (r : List RecordValue) → IsLaid r → (b : ℕ) (cursor : Cursor) → Chain r cursor → Ends r b cursor → Chain r (passed r cursor) × Begins r b (passed r cursor)
unfolding passed
passed_begins r laid b [] chain ends = (tt, tt)
passed_begins r laid b (f ∷ []) chain ends = by (is_some (next_part r (one_on f)))
  where
    here : Begins r b (one_on f ∷ [])
    here u e = let k : ends.0.offset + sized r (type_of ends.0.ty) ≤ u.offset = next_behind r laid f ends.0 u ends.1 e in let h : b ≤ ends.0.offset + sized r (type_of ends.0.ty) = ends.2 in omega (arith, h, k)

    by : (x : Bool) → Chain r (if x || true then one_on f ∷ [] else []) × Begins r b (if x || true then one_on f ∷ [] else [])
    by true = (chain, here)
    by false = (chain, here)
passed_begins r laid b (f ∷ g ∷ outer) chain ends = by (is_some (next_part r (one_on f))) (passed_begins r laid b (g ∷ outer) chain.2 around)
  where
    around : Ends r b (g ∷ outer)
    around =
        let t = chain.1 in
        let inside = next_inside r laid f ends.0 chain.0 ends.1 in
        let last : ends.0.offset + sized r (type_of ends.0.ty) ≤ f.offset + sized r f.ty = inside.1 in
        let h : b ≤ ends.0.offset + sized r (type_of ends.0.ty) = ends.2 in
        (t.0, t.1, subst (λ n. b ≤ n + sized r (type_of t.0.ty)) (sym t.3) (subst (λ ty. b ≤ f.offset + sized r ty) (sym t.2) (omega (arith, h, last))))

    here : Begins r b (one_on f ∷ g ∷ outer)
    here u e = let k : ends.0.offset + sized r (type_of ends.0.ty) ≤ u.offset = next_behind r laid f ends.0 u ends.1 e in let h : b ≤ ends.0.offset + sized r (type_of ends.0.ty) = ends.2 in omega (arith, h, k)

    by : (x : Bool) → Chain r (passed r (g ∷ outer)) × Begins r b (passed r (g ∷ outer))
        → Chain r (if x || false then one_on f ∷ g ∷ outer else passed r (g ∷ outer)) × Begins r b (if x || false then one_on f ∷ g ∷ outer else passed r (g ∷ outer))
    by true rest = (chain, here)
    by false rest = rest

-- a part that is reached does not begin before, and lies at its cursor
pub record At (r : List RecordValue) (b : ℕ) (x : Reached) : Type 0 where
  pub frame : Frame
  pub outer : Cursor
  pub cursor : x.cursor ≡ frame ∷ outer
  pub part : next_part r frame ≡ Some x.target
  pub chain : Chain r (frame ∷ outer)
  pub behind : b ≤ x.target.offset

pub reached_at : (deep : ℕ) (r : List RecordValue) → IsLaid r → (takes : CType → Bool) (b : ℕ) (cursor : Cursor) (x : Reached) → Chain r cursor → Begins r b cursor
    → reached deep r takes cursor ≡ Some x → At r b x
unfolding reached
reached_at zero r laid takes b cursor x chain begins e = never_some e
reached_at (suc deep) r laid takes b [] x chain begins e = never_some e
reached_at (suc deep) r laid takes b (f ∷ outer) x chain begins e = by (next_part r f) refl e (reached_at deep r laid takes b)
  where
    by_test : (t : Target) (z : Bool) → next_part r f ≡ Some t
        → (if z then Some (record { target = t; cursor = f ∷ outer }) else reached deep r takes (frame_of t ∷ f ∷ outer)) ≡ Some x
        → ((c : Cursor) (y : Reached) → Chain r c → Begins r b c → reached deep r takes c ≡ Some y → At r b y)
        → At r b x
    by_test t true p h rest =
        let is = some_same h in
        subst (At r b) is (record { frame = f; outer = outer; cursor = refl; part = p; chain = chain; behind = begins t p })
    by_test t false p h rest =
        let complete : IsComplete r (type_of t.ty) = whole_part r laid f t (chain_top r f outer chain) p in
        rest (frame_of t ∷ f ∷ outer) x (complete, (t, p, refl, refl), chain)
        (λ u q.
        let inside = next_inside r laid (frame_of t) u complete q in
        let first : t.offset ≤ u.offset = inside.0 in
        let h : b ≤ t.offset = begins t p in
        omega (arith, first, h)) h

    by : (o : Option Target) → next_part r f ≡ o
        → option_and_then (λ t. if is_scalar (type_of t.ty) || takes (type_of t.ty) then Some (record { target = t; cursor = f ∷ outer }) else reached deep r takes (frame_of t ∷ f ∷ outer)) o ≡ Some x
        → ((c : Cursor) (y : Reached) → Chain r c → Begins r b c → reached deep r takes c ≡ Some y → At r b y)
        → At r b x
    by None p h rest = never_some h
    by (Some t) p h rest = by_test t (is_scalar (type_of t.ty) || takes (type_of t.ty)) p h rest
