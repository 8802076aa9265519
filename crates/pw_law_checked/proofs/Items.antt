-- The items of an object of a complete type: each lies behind the one before, and inside the object.
use Rattle.std.proofs.Math.Nat.{mul_comm}
use Rattle.pw_types.specs.Conversions.{size_of_kind}
use Rattle.pw_types.specs.declared.kind.IntKind.{IntKind}
use Rattle.pw_types.specs.declared.kind.IntKind.TheVariants as K
use Rattle.pw_value.specs.Limits.{depth_limit}
use Rattle.pw_types.specs.declared.record.Layout.{Layout}
use Rattle.std.specs.Prelude.{ℕ, zero, suc, ◌≡◌, ◌≤◌, ◌+◌, ◌*◌, ◌⊎◌, ◌||◌, Bool, true, false, not, Option, None, Some, is_some, option_map, option_and_then, unwrap_or, List, [], ◌∷◌, ◌++◌, length, take, slice_get, zip, ◌&&◌, ◌==◌, if◌then◌else◌, refl, nat_lt}
use Rattle.std.specs.Option.{option_map_or}
use Rattle.std.proofs.Common.{arith, ap, sym, subst, ◌∙◌, inl, inr, append-nil}
use Rattle.pw_check_literals.specs.Characters.{string_bytes_of}
use Rattle.pw_tree.specs.FirstTokens.{first_of_expr}
use Rattle.pw_tree.specs.Trees.{Word, Expr, Init, Inits}
use Rattle.pw_tree.specs.Trees as S
use Rattle.pw_types.specs.declared.record.RecordKind.TheVariants.{Structure}
use Rattle.pw_types.specs.Layouts.{content_at}
use Rattle.pw_types.specs.Records.{IsLaid, kind_at}
use Rattle.pw_types.specs.TypeTrees.{CType, Void, Int, Pointer, Array, Function, Record, QType, Qualified, type_of, ContentValue, RecordValue}
use Rattle.pw_types.specs.TypedModules.{item_size}
use Rattle.pw_types.specs.TypedTrees.{Expression, PlacedItem, ItemValue, ItemBytes}
use Rattle.pw_types.specs.WellTyped.{IsComplete}
use Rattle.pw_check_walk.specs.Causes.{InitialiserCount, InitialiserForm, needs}
use Rattle.pw_check_walk.specs.Walks.{Done, bind, granted}
use Rattle.pw_check_rules.specs.Initialisers.{Context, Filled, Frame, Cursor, Target, Reached, target_at, frame_of, one_on, part_of, next_part, next_target, passed, reach, takes_record, takes_braces, meets_characters, item_of, item_list, bytes_within, nothing_filled, value_filled, string_filled, listed_value, listed_string, listed_expression, listed_by, listed_form, StringForm, IsString, IsOther, string_form, braced_string, braced_target, braced_by, fills_characters, words_in, inits_rule, init_rule, Initialised, with_length, object_string, object_value, object_list, object_by, object_rule, is_union, is_past_union, member_target, reached, elements_given}
use Rattle.pw_check_rules.specs.Kinds.{is_character_array, is_scalar, is_character_kind, is_open_array}
use Rattle.pw_check_rules.specs.Leaves.{string_point, texts_of}
use Rattle.pw_check_rules.specs.Operands.{cast_to}
use Rattle.pw_check_rules.specs.States.{State, Rule, records_in}
use Rattle.pw_law_checked.specs.Lawful.{IsLawful, Extends}
use Rattle.pw_law_checked.proofs.Walking.{post_weaken}
use Rattle.pw_law_checked.proofs.Lists.{some_same, never_some}
use Rattle.pw_law_checked.proofs.Types.{no, complete_later, element_complete, no_length}
use Rattle.pw_law_checked.proofs.Objects.{layout_same}
use Rattle.pw_law_checked.proofs.States.{Runs, goes_on, Grows, grows_same, grows_trans}
use Rattle.pw_law_checked.proofs.Phrases.{expr_post, valued}
use Rattle.pw_law_checked.proofs.Parts.{sized, next_inside, element_is, element_next, array_sized}
use Rattle.pw_law_checked.proofs.Cursors.{Whole, Chain, Begins, Ends, At, passed_begins, reached_at, whole_part, chain_top}
use Rattle.pw_law_checked.proofs.ItemBytes.{scalar_item, take_short}
use Rattle.pw_law_checked.proofs.Settled.{Rise}

-- ---- items in order

rise_more : (from mid size : ℕ) (xs : List PlacedItem) (p : PlacedItem) → Rise from mid xs → mid ≤ p.offset → p.offset + item_size p.item ≤ size → Rise from size (xs ++ p ∷ [])
rise_more from mid size [] p h k e = (omega (arith, h, k), e)
rise_more from mid size (x ∷ xs) p h k e = (h.0, rise_more (x.offset + item_size x.item) mid size xs p h.1 k e)

rise_wider : (from size more : ℕ) (xs : List PlacedItem) → Rise from size xs → size ≤ more → Rise from more xs
rise_wider from size more [] h k = omega (arith, h, k)
rise_wider from size more (x ∷ xs) h k = (h.0, rise_wider (x.offset + item_size x.item) size more xs h.1 k)

-- ---- the end of the outermost object

-- if that is complete, the offset does not pass it
abbrev Bound : List RecordValue → ℕ → Cursor → Type 0
Bound r b [] = Unit {0}
Bound r b (f ∷ []) = IsComplete r f.ty → b ≤ f.offset + sized r f.ty
Bound r b (f ∷ g ∷ outer) = Bound r b (g ∷ outer)

-- the outermost object is this one
abbrev IsOf : CType → ℕ → Cursor → Type 0
IsOf ty o [] = Unit {0}
IsOf ty o (f ∷ []) = (f.ty ≡ ty) × (f.offset ≡ o)
IsOf ty o (f ∷ g ∷ outer) = IsOf ty o (g ∷ outer)

is_of_on : (ty : CType) (o : ℕ) (f : Frame) (outer : Cursor) → IsOf ty o (f ∷ outer) → IsOf ty o (one_on f ∷ outer)
is_of_on ty o f [] h = h
is_of_on ty o f (g ∷ outer) h = h

is_of_passed : (r : List RecordValue) (ty : CType) (o : ℕ) (cursor : Cursor) → IsOf ty o cursor → IsOf ty o (passed r cursor)
unfolding passed
is_of_passed r ty o [] h = h
is_of_passed r ty o (f ∷ []) h = by (is_some (next_part r (one_on f)))
  where
    by : (x : Bool) → IsOf ty o (if x || true then one_on f ∷ [] else [])
    by true = h
    by false = h
is_of_passed r ty o (f ∷ g ∷ outer) h = by (is_some (next_part r (one_on f))) (is_of_passed r ty o (g ∷ outer) h)
  where
    by : (x : Bool) → IsOf ty o (passed r (g ∷ outer)) → IsOf ty o (if x || false then one_on f ∷ g ∷ outer else passed r (g ∷ outer))
    by true rest = h
    by false rest = rest

-- what does not pass the end of an inner object does not pass that of the outermost
end_within : (r : List RecordValue) → IsLaid r → (ty : CType) (o b : ℕ) (f : Frame) (outer : Cursor) → Chain r (f ∷ outer) → IsOf ty o (f ∷ outer) → IsComplete r ty
    → (IsComplete r f.ty → b ≤ f.offset + sized r f.ty) → b ≤ o + sized r ty
end_within r laid ty o b f [] chain of complete h =
    subst (λ n. b ≤ n + sized r ty) of.1 (subst (λ c. b ≤ f.offset + sized r c) of.0 (h (subst (IsComplete r) (sym of.0) complete)))
end_within r laid ty o b f (g ∷ outer) chain of complete h =
    end_within r laid ty o b g outer chain.2 of complete (λ whole.
    let t = chain.1 in
    let inside = next_inside r laid g t.0 whole t.1 in
    let last : t.0.offset + sized r (type_of t.0.ty) ≤ g.offset + sized r g.ty = inside.1 in
    let first : b ≤ f.offset + sized r f.ty = h chain.0 in
    let same : t.0.offset + sized r (type_of t.0.ty) ≡ f.offset + sized r f.ty = ap (λ n. n + sized r (type_of t.0.ty)) t.3 ∙ ap (λ c. f.offset + sized r c) t.2 in
    omega (arith, last, first, same))

-- ---- an outermost array that gets its length

product_more : (n m s : ℕ) → n ≡ m → n * s ≡ m * s
product_more n m s e = ap (λ k. k * s) e

-- where the element ends that the outermost array is at
bottom_end : (r : List RecordValue) → IsLaid r → (q : QType) (o b : ℕ) (f g : Frame) (outer : Cursor) → Chain r (f ∷ g ∷ outer) → IsOf (Array q None) o (f ∷ g ∷ outer) → b ≤ f.offset + sized r f.ty
    → b ≤ o + elements_given (f ∷ g ∷ outer) * sized r (type_of q)
bottom_end r laid q o b f g [] chain of h =
    let t = chain.1 in
    let x = element_is r q None g t.0 (subst (λ ty. part_of r ty g ≡ Some t.0) of.0 t.1) in
    let at : g.offset + g.next * sized r (type_of q) ≡ f.offset = ap (λ (u : Target). u.offset) x.1 ∙ t.3 in
    let size : sized r (type_of q) ≡ sized r f.ty = ap (λ (u : Target). sized r (type_of u.ty)) x.1 ∙ ap (sized r) t.2 in
    let next : g.next * sized r (type_of q) + sized r (type_of q) ≡ (1 + g.next) * sized r (type_of q) = omega arith in
    let base : g.offset ≡ o = of.1 in
    let h : b ≤ f.offset + sized r f.ty = h in
    omega (arith, at, size, next, base, h)
bottom_end r laid q o b f g (k ∷ outer) chain of h =
    bottom_end r laid q o b g k outer chain.2 of
    (let t = chain.1 in
    let inside = next_inside r laid g t.0 chain.2.0 t.1 in
    let last : t.0.offset + sized r (type_of t.0.ty) ≤ g.offset + sized r g.ty = inside.1 in
    let same : t.0.offset + sized r (type_of t.0.ty) ≡ f.offset + sized r f.ty = ap (λ n. n + sized r (type_of t.0.ty)) t.3 ∙ ap (λ c. f.offset + sized r c) t.2 in
    let h : b ≤ f.offset + sized r f.ty = h in
    omega (arith, last, same, h))

-- behind a part so many elements are given that the offset does not pass them
passed_given : (r : List RecordValue) → IsLaid r → (q : QType) (o b : ℕ) (cursor : Cursor) → Chain r cursor → Ends r b cursor → IsOf (Array q None) o cursor
    → b ≤ o + elements_given (passed r cursor) * sized r (type_of q) ⊎ (cursor ≡ [])
unfolding passed
passed_given r laid q o b [] chain ends of = inr refl
passed_given r laid q o b (f ∷ []) chain ends of = inl (by (is_some (next_part r (one_on f))))
  where
    here : b ≤ o + (f.next + 1) * sized r (type_of q)
    here =
        let x = element_is r q None f ends.0 (subst (λ ty. part_of r ty f ≡ Some ends.0) of.0 ends.1) in
        let at : f.offset + f.next * sized r (type_of q) ≡ ends.0.offset = ap (λ (u : Target). u.offset) x.1 in
        let size : sized r (type_of q) ≡ sized r (type_of ends.0.ty) = ap (λ (u : Target). sized r (type_of u.ty)) x.1 in
        let next : f.next * sized r (type_of q) + sized r (type_of q) ≡ (f.next + 1) * sized r (type_of q) = element_next (sized r (type_of q)) f.next in
        let base : f.offset ≡ o = of.1 in
        let h : b ≤ ends.0.offset + sized r (type_of ends.0.ty) = ends.2 in
        omega (arith, at, size, next, base, h)

    by : (x : Bool) → b ≤ o + elements_given (if x || true then one_on f ∷ [] else []) * sized r (type_of q)
    by true = here
    by false = here
passed_given r laid q o b (f ∷ g ∷ outer) chain ends of = by (is_some (next_part r (one_on f))) (passed_given r laid q o b (g ∷ outer) chain.2 around of)
  where
    inside : b ≤ f.offset + sized r f.ty
    inside =
        let k : ends.0.offset + sized r (type_of ends.0.ty) ≤ f.offset + sized r f.ty = (next_inside r laid f ends.0 chain.0 ends.1).1 in
        let h : b ≤ ends.0.offset + sized r (type_of ends.0.ty) = ends.2 in
        omega (arith, h, k)

    around : Ends r b (g ∷ outer)
    around = let t = chain.1 in (t.0, t.1, subst (λ n. b ≤ n + sized r (type_of t.0.ty)) (sym t.3) (subst (λ ty. b ≤ f.offset + sized r ty) (sym t.2) inside))

    never : {A : Type 0} → g ∷ outer ≡ [] → A
    never {A} e = absurd (subst P e tt)
      where
        P : Cursor → Type 0
        P [] = ⊥
        P (k ∷ rest) = Unit {0}

    by : (x : Bool) → b ≤ o + elements_given (passed r (g ∷ outer)) * sized r (type_of q) ⊎ (g ∷ outer ≡ [])
        → b ≤ o + elements_given (if x || false then one_on f ∷ g ∷ outer else passed r (g ∷ outer)) * sized r (type_of q) ⊎ (f ∷ g ∷ outer ≡ [])
    by true rest = inl (bottom_end r laid q o b f g outer chain of inside)
    by false (inl h) = inl h
    by false (inr e) = never e

-- ---- progress in a list

pub record Progress (r : List RecordValue) (ty : CType) (o b : ℕ) (cursor : Cursor) (items : List PlacedItem) : Type 0 where
  pub whole : Whole r ty
  pub chain : Chain r cursor
  pub begins : Begins r b cursor
  pub rise : Rise 0 b items
  pub bound : IsComplete r ty → b ≤ o + sized r ty
  pub of : IsOf ty o cursor
  pub given : (q : QType) → ty ≡ Array q None → b ≤ o + elements_given cursor * sized r (type_of q)

-- an item in the part that was reached, and the cursor behind it
filled_progress : (r : List RecordValue) → IsLaid r → (ty : CType) (o b : ℕ) (x : Reached) (items : List PlacedItem) (item : Option ItemValue)
    → Whole r ty → Rise 0 b items → At r b x → IsOf ty o x.cursor → ((i : ItemValue) → item ≡ Some i → item_size i ≤ sized r (type_of x.target.ty))
    → Progress r ty o (x.target.offset + sized r (type_of x.target.ty)) (passed r x.cursor) (items ++ item_list x.target.offset item)
filled_progress r laid ty o b x items item whole rise at of small =
    let ends : Ends r (x.target.offset + sized r (type_of x.target.ty)) (at.frame ∷ at.outer) = (x.target, at.part, omega arith) in
    let next = passed_begins r laid (x.target.offset + sized r (type_of x.target.ty)) (at.frame ∷ at.outer) at.chain ends in
    let of2 : IsOf ty o (at.frame ∷ at.outer) = subst (IsOf ty o) at.cursor of in
    record {
      whole = whole;
      chain = subst (λ c. Chain r (passed r c)) (sym at.cursor) next.0;
      begins = subst (λ c. Begins r (x.target.offset + sized r (type_of x.target.ty)) (passed r c)) (sym at.cursor) next.1;
      rise = by item small;
      bound = λ complete. end_within r laid ty o (x.target.offset + sized r (type_of x.target.ty)) at.frame at.outer at.chain of2 complete (λ whole. (next_inside r laid at.frame x.target whole at.part).1);
      of = is_of_passed r ty o x.cursor of;
      given = λ q e. subst (λ c. x.target.offset + sized r (type_of x.target.ty) ≤ o + elements_given (passed r c) * sized r (type_of q)) (sym at.cursor)
          (some_given (passed_given r laid q o (x.target.offset + sized r (type_of x.target.ty)) (at.frame ∷ at.outer) at.chain ends (subst (λ c. IsOf c o (at.frame ∷ at.outer)) e of2)));
    }
  where
    some_given : {A : Type 0} {f : Frame} {outer : Cursor} → A ⊎ (f ∷ outer ≡ []) → A
    some_given (inl h) = h
    some_given {A} {f} {outer} (inr e) = absurd (subst P e tt)
      where
        P : Cursor → Type 0
        P [] = ⊥
        P (k ∷ rest) = Unit {0}

    by : (i : Option ItemValue) → ((j : ItemValue) → i ≡ Some j → item_size j ≤ sized r (type_of x.target.ty))
        → Rise 0 (x.target.offset + sized r (type_of x.target.ty)) (items ++ item_list x.target.offset i)
    by None h =
        let k : b ≤ x.target.offset = at.behind in
        subst (Rise 0 (x.target.offset + sized r (type_of x.target.ty))) (sym (append-nil items)) (rise_wider 0 b (x.target.offset + sized r (type_of x.target.ty)) items rise (omega (arith, k)))
    by (Some j) h =
        let k : item_size j ≤ sized r (type_of x.target.ty) = h j refl in
        rise_more 0 b (x.target.offset + sized r (type_of x.target.ty)) items (record { offset = x.target.offset; item = j }) rise at.behind (omega (arith, k))

-- ---- where more is known of records

record_next_same : (s t : State) → IsLawful s → Grows s t → (n : ℕ) (f : Frame) → IsComplete s.types.records (Record n) → part_of t.types.records (Record n) f ≡ part_of s.types.records (Record n) f
record_next_same s t l g n f complete = by (content_at s.types.records n) refl complete
  where
    by : (c : Option ContentValue) → content_at s.types.records n ≡ c → is_some (option_map (λ (x : ContentValue). x.layout) c) ≡ true → part_of t.types.records (Record n) f ≡ part_of s.types.records (Record n) f
    by None e h = no h
    by (Some c) e h =
        let kept : content_at t.types.records n ≡ content_at s.types.records n = g.extends.kept n c e ∙ sym e in
        let kind : kind_at t.types.records n ≡ kind_at s.types.records n = ap (λ o. option_map_or (λ (x : RecordValue). x.kind) o Structure) (g.begun n (l.begun n c e)).1 in
        ap (λ k. if is_union k && not (f.next == 0) then None else option_map (member_target f.offset) (option_and_then (λ (c : ContentValue). slice_get (zip c.members c.offsets) f.next) (content_at t.types.records n))) kind
        ∙ ap (λ o. if is_past_union s.types.records n f.next then None else option_map (member_target f.offset) (option_and_then (λ (c : ContentValue). slice_get (zip c.members c.offsets) f.next) o)) kept

next_same : (s t : State) → IsLawful s → Grows s t → (ty : CType) (f : Frame) → Whole s.types.records ty → part_of t.types.records ty f ≡ part_of s.types.records ty f
next_same s t l g (Array (Qualified e c v) n) f whole =
    ap (λ k. if option_map_or (nat_lt f.next) n true then Some (target_at (Qualified e c v) (f.offset + f.next * unwrap_or (option_map (λ (x : Layout). x.size) k) 0)) else None)
    (layout_same s.types.records t.types.records g.extends e (element n whole))
  where
    element : (n : Option ℕ) → Whole s.types.records (Array (Qualified e c v) n) → IsComplete s.types.records e
    element (Some k) (inl h) = element_complete s.types.records e c v k h
    element None (inl h) = no h
    element n (inr h) = subst (λ ty. IsElement ty) (sym h.1) (of_element h.0 h.2)
      where
        IsElement : CType → Type 0
        IsElement (Array q k) = IsComplete s.types.records (type_of q)
        IsElement _ = ⊥

        of_element : (q : QType) → IsComplete s.types.records (type_of q) → IsElement (Array q None)
        of_element q k = k
next_same s t l g (Record n) f (inl h) = record_next_same s t l g n f h
next_same s t l g (Record n) f (inr h) = absurd (subst P h.1 tt)
  where
    P : CType → Type 0
    P (Record k) = Unit {0}
    P _ = ⊥
next_same s t l g Void f whole = refl
next_same s t l g (Int k) f whole = refl
next_same s t l g (Pointer q) f whole = refl
next_same s t l g (Function q ps) f whole = refl

whole_later : (a b : List RecordValue) → Extends a b → (ty : CType) → Whole a ty → Whole b ty
whole_later a b x ty (inl h) = inl (complete_later a b x ty h)
whole_later a b x ty (inr h) = inr (h.0, h.1, complete_later a b x (type_of h.0) h.2)

chain_later : (s t : State) → IsLawful s → Grows s t → (cursor : Cursor) → Chain s.types.records cursor → Chain t.types.records cursor
chain_later s t l g [] h = tt
chain_later s t l g (f ∷ []) h = whole_later s.types.records t.types.records g.extends f.ty h
chain_later s t l g (f ∷ k ∷ outer) h = (
  complete_later s.types.records t.types.records g.extends f.ty h.0,
  (h.1.0, next_same s t l g k.ty k (chain_top s.types.records k outer h.2) ∙ h.1.1, h.1.2, h.1.3),
  chain_later s t l g (k ∷ outer) h.2,
)

begins_later : (s t : State) → IsLawful s → Grows s t → (b : ℕ) (cursor : Cursor) → Chain s.types.records cursor → Begins s.types.records b cursor → Begins t.types.records b cursor
begins_later s t l g b [] chain h = tt
begins_later s t l g b (f ∷ outer) chain h = λ u e. h u (sym (next_same s t l g f.ty f (chain_top s.types.records f outer chain)) ∙ e)

sized_later : (s t : State) → Grows s t → (ty : CType) → IsComplete s.types.records ty → sized t.types.records ty ≡ sized s.types.records ty
sized_later s t g ty h = ap (λ o. unwrap_or (option_map (λ (x : Layout). x.size) o) 0) (layout_same s.types.records t.types.records g.extends ty h)

open_element : (r : List RecordValue) (q : QType) → Whole r (Array q None) → IsComplete r (type_of q)
open_element r q (inl h) = absurd (no_length r q h)
open_element r q (inr h) = subst IsElement (sym h.1) h.2
  where
    IsElement : CType → Type 0
    IsElement (Array p k) = IsComplete r (type_of p)
    IsElement _ = ⊥

progress_later : (s t : State) → IsLawful s → Grows s t → (ty : CType) (o b : ℕ) (cursor : Cursor) (items : List PlacedItem) → Progress s.types.records ty o b cursor items → Progress t.types.records ty o b cursor items
progress_later s t l g ty o b cursor items p = record {
  whole = whole_later s.types.records t.types.records g.extends ty p.whole;
  chain = chain_later s t l g cursor p.chain;
  begins = begins_later s t l g b cursor p.chain p.begins;
  rise = p.rise;
  bound = by p.whole;
  of = p.of;
  given = λ q e. subst (λ n. b ≤ o + elements_given cursor * n) (sym (sized_later s t g (type_of q) (open_element s.types.records q (subst (Whole s.types.records) e p.whole)))) (p.given q e);
}
  where
    by : Whole s.types.records ty → IsComplete t.types.records ty → b ≤ o + sized t.types.records ty
    by (inl h) k = subst (λ n. b ≤ o + n) (sym (sized_later s t g ty h)) (p.bound h)
    by (inr h) k = absurd (no_length t.types.records h.0 (subst (IsComplete t.types.records) h.1 k))

plus_least : (a b c : ℕ) → b ≤ c → a + b ≤ a + c
plus_least a b c h = omega (arith, h)

zero_least : (b c : ℕ) → b ≤ c → 0 + b ≤ c
zero_least b c h = omega (arith, h)

from_zero : (b c : ℕ) → b ≤ 0 + c → b ≤ c
from_zero b c h = omega (arith, h)

-- ---- one initialiser

abbrev Moves : State → State → Cursor → Filled → Cursor × Filled → Type 0
Moves s t cursor filled r = (ty : CType) (o b : ℕ) → Progress s.types.records ty o b cursor filled.items → (c : ℕ) × Progress t.types.records ty o c r.0 r.1.items

moves_later : (s t u : State) → IsLawful s → Grows s t → (cursor : Cursor) (filled : Filled) (r : Cursor × Filled) → Moves t u cursor filled r → Moves s u cursor filled r
moves_later s t u l g cursor filled r h ty o b p = h ty o b (progress_later s t l g ty o b cursor filled.items p)

is_of_reached : (deep : ℕ) (r : List RecordValue) (takes : CType → Bool) (ty : CType) (o : ℕ) (cursor : Cursor) (x : Reached) → IsOf ty o cursor → reached deep r takes cursor ≡ Some x → IsOf ty o x.cursor
unfolding reached
is_of_reached zero r takes ty o cursor x of e = never_some e
is_of_reached (suc deep) r takes ty o [] x of e = never_some e
is_of_reached (suc deep) r takes ty o (f ∷ outer) x of e = by (next_part r f) e (λ c y. is_of_reached deep r takes ty o c y)
  where
    by_test : (t : Target) (z : Bool)
        → (if z then Some (record { target = t; cursor = f ∷ outer }) else reached deep r takes (frame_of t ∷ f ∷ outer)) ≡ Some x
        → ((c : Cursor) (y : Reached) → IsOf ty o c → reached deep r takes c ≡ Some y → IsOf ty o y.cursor) → IsOf ty o x.cursor
    by_test t true h rest = subst (λ (y : Reached). IsOf ty o y.cursor) (some_same h) of
    by_test t false h rest = rest (frame_of t ∷ f ∷ outer) x of h

    by : (p : Option Target)
        → option_and_then (λ t. if is_scalar (type_of t.ty) || takes (type_of t.ty) then Some (record { target = t; cursor = f ∷ outer }) else reached deep r takes (frame_of t ∷ f ∷ outer)) p ≡ Some x
        → ((c : Cursor) (y : Reached) → IsOf ty o c → reached deep r takes c ≡ Some y → IsOf ty o y.cursor) → IsOf ty o x.cursor
    by None h rest = never_some h
    by (Some t) h rest = by_test t (is_scalar (type_of t.ty) || takes (type_of t.ty)) h rest

-- a part that is reached takes an item of its size
reached_progress : (r : List RecordValue) → IsLaid r → (takes : CType → Bool) (cursor : Cursor) (x : Reached) (items : List PlacedItem) (item : Option ItemValue) → reach r takes cursor ≡ Some x
    → (IsComplete r (type_of x.target.ty) → (i : ItemValue) → item ≡ Some i → item_size i ≤ sized r (type_of x.target.ty))
    → (ty : CType) (o b : ℕ) → Progress r ty o b cursor items → (c : ℕ) × Progress r ty o c (passed r x.cursor) (items ++ item_list x.target.offset item)
reached_progress r laid takes cursor x items item e small ty o b p =
    let at = reached_at (depth_limit + 1) r laid takes b cursor x p.chain p.begins e in (
      x.target.offset + sized r (type_of x.target.ty),
      filled_progress r laid ty o b x items item p.whole p.rise at (is_of_reached (depth_limit + 1) r takes ty o cursor x p.of e)
          (small (whole_part r laid at.frame x.target (chain_top r at.frame at.outer at.chain) at.part)),
    )

equal_least : {a b : ℕ} → a ≡ b → a ≤ b
equal_least {a} {b} e = omega (arith, e)

listed_value_moves : (s : State) (cx : Context) (cursor : Cursor) (filled : Filled) (first : ℕ) (e : Expression) → IsLawful s
    → Runs s (listed_value cx cursor filled first e s) (λ t r. Moves s t cursor filled r)
unfolding listed_value value_filled bind
listed_value_moves s cx cursor filled first e l = by (reach (records_in s) (takes_record e) cursor) refl
  where
    by : (o : Option Reached) → reach (records_in s) (takes_record e) cursor ≡ o
        → Runs s (bind (granted InitialiserCount cx.token [] o s) (λ r. bind (value_filled cx first r.0.target e filled r.1) (λ more. Done ((passed (records_in s) r.0.cursor, more.0), more.1)))) (λ t r. Moves s t cursor filled r)
    by None h = λ met. tt
    by (Some x) h = λ met more. (
      l,
      grows_same s,
      reached_progress s.types.records l.laid (takes_record e) cursor x filled.items (item_of s.types.records (type_of x.target.ty) (cast_to (type_of x.target.ty) e)) h
          (λ whole i k. equal_least (scalar_item s.types.records (type_of x.target.ty) (cast_to (type_of x.target.ty) e) i k)),
    )

-- ---- strings

string_within : (r : List RecordValue) (ty : CType) (bytes : List ℕ) → is_character_array ty ≡ true → IsComplete r ty → length (bytes_within ty bytes) ≤ sized r ty
string_within r (Array (Qualified (Int k) c v) (Some n)) bytes e h = by k e
  where
    short : length (take n bytes) ≤ n
    short = take_short n bytes

    by : (k : IntKind) → is_character_kind k ≡ true → length (take n bytes) ≤ size_of_kind k * n
    by K.Char e = omega (arith, short)
    by K.SChar e = omega (arith, short)
    by K.UChar e = omega (arith, short)
    by K.Short e = no e
    by K.UShort e = no e
    by K.Int e = no e
    by K.UInt e = no e
    by K.Long e = no e
    by K.ULong e = no e
string_within r (Array (Qualified (Int k) c v) None) bytes e h = no h
string_within r (Array (Qualified Void c v) n) bytes e h = no e
string_within r (Array (Qualified (Pointer q) c v) n) bytes e h = no e
string_within r (Array (Qualified (Array q m) c v) n) bytes e h = no e
string_within r (Array (Qualified (Function q ps) c v) n) bytes e h = no e
string_within r (Array (Qualified (Record m) c v) n) bytes e h = no e
string_within r Void bytes e h = no e
string_within r (Int k) bytes e h = no e
string_within r (Pointer q) bytes e h = no e
string_within r (Function q ps) bytes e h = no e
string_within r (Record n) bytes e h = no e

listed_string_moves : (s : State) (cx : Context) (cursor : Cursor) (filled : Filled) (ws : List Word) → IsLawful s → meets_characters (records_in s) cursor ≡ true
    → Runs s (listed_string cx cursor filled ws s) (λ t r. Moves s t cursor filled r)
unfolding listed_string string_filled string_point bind
listed_string_moves s cx cursor filled ws l meets = by (reach (records_in s) is_character_array cursor) refl meets
  where
    by : (o : Option Reached) → reach (records_in s) is_character_array cursor ≡ o → option_map_or (λ (x : Reached). is_character_array (type_of x.target.ty)) o false ≡ true
        → Runs s (bind (granted InitialiserCount cx.token [] o s) (λ r. bind (string_filled cx ws r.0.target filled r.1) (λ more. Done ((passed (records_in s) r.0.cursor, more.0), more.1)))) (λ t r. Moves s t cursor filled r)
    by None h m = λ met. tt
    by (Some x) h m = λ met point more. (
      l,
      grows_same s,
      reached_progress s.types.records l.laid is_character_array cursor x filled.items (Some (ItemBytes (bytes_within (type_of x.target.ty) (string_bytes_of (texts_of ws))))) h
          (λ whole i k. subst (λ j. item_size j ≤ sized s.types.records (type_of x.target.ty)) (some_same k) (string_within s.types.records (type_of x.target.ty) (string_bytes_of (texts_of ws)) m whole)),
    )

listed_expression_moves : (s : State) (cx : Context) (cursor : Cursor) (filled : Filled) (e : Expr) → IsLawful s → Runs s (listed_expression cx cursor filled e s) (λ t r. Moves s t cursor filled r)
unfolding listed_expression
listed_expression_moves s cx cursor filled e l =
    valued _ _ (λ t r. Moves s t cursor filled r) (expr_post e s l) (λ r m g f.
    post_weaken (listed_value cx cursor filled (first_of_expr e) r.0 r.1) (λ u. IsLawful u.1 × Grows r.1 u.1 × Moves r.1 u.1 cursor filled u.0) (λ u. IsLawful u.1 × Grows r.1 u.1 × Moves s u.1 cursor filled u.0)
    (listed_value_moves r.1 cx cursor filled (first_of_expr e) r.0 m) (λ u k. (k.0, k.1, moves_later s r.1 u.1 l g cursor filled u.0 k.2)))

listed_by_moves : (s : State) (whole : Bool) (cx : Context) (cursor : Cursor) (filled : Filled) (e : Expr) (ws : List Word) → IsLawful s → meets_characters (records_in s) cursor ≡ whole
    → Runs s (listed_by whole cx cursor filled e ws s) (λ t r. Moves s t cursor filled r)
unfolding listed_by
listed_by_moves s true cx cursor filled e ws l meets = listed_string_moves s cx cursor filled ws l meets
listed_by_moves s false cx cursor filled e ws l meets = listed_expression_moves s cx cursor filled e l

listed_form_moves : (s : State) (cx : Context) (cursor : Cursor) (filled : Filled) (e : Expr) (form : StringForm) → IsLawful s → Runs s (listed_form cx cursor filled e form s) (λ t r. Moves s t cursor filled r)
unfolding listed_form bind
listed_form_moves s cx cursor filled e IsOther l = listed_expression_moves s cx cursor filled e l
listed_form_moves s cx cursor filled e (IsString ws) l = listed_by_moves s (meets_characters (records_in s) cursor) cx cursor filled e ws l refl

-- ---- braces

-- what stands in braces for a part stays inside the part
abbrev Stays : State → State → Target → Filled → Filled → Type 0
Stays s u t before after = (b : ℕ) → Rise 0 b before.items → b ≤ t.offset → IsComplete s.types.records (type_of t.ty)
    → (c : ℕ) × (c ≤ t.offset + sized u.types.records (type_of t.ty)) × Rise 0 c after.items

inner_progress : (r : List RecordValue) → IsLaid r → (t : Target) (b : ℕ) (items : List PlacedItem) → IsComplete r (type_of t.ty) → Rise 0 b items → b ≤ t.offset
    → Progress r (type_of t.ty) t.offset t.offset (frame_of t ∷ []) items
inner_progress r laid t b items whole rise k = record {
  whole = inl whole;
  chain = inl whole;
  begins = λ u e. (next_inside r laid (frame_of t) u whole e).0;
  rise = rise_wider 0 b t.offset items rise k;
  bound = λ h. omega arith;
  of = (refl, refl);
  given = λ q e. (omega arith);
}

braced_target_moves : (s : State) (cx : Context) (cursor : Cursor) → IsLawful s → Runs s (braced_target cx cursor s) (λ u t. (next_target s.types.records cursor ≡ Some t) × (u.types.records ≡ s.types.records))
unfolding braced_target bind
braced_target_moves s cx cursor l = by (next_target (records_in s) cursor) refl
  where
    by : (o : Option Target) → next_target (records_in s) cursor ≡ o
        → Runs s (granted InitialiserCount cx.token (needs InitialiserForm cx.token (takes_braces cursor) ∷ []) o s) (λ u t. (next_target s.types.records cursor ≡ Some t) × (u.types.records ≡ s.types.records))
    by None h = λ met. tt
    by (Some x) h = λ met. (l, grows_same s, (h, refl))

string_stays : (s : State) (cx : Context) (t : Target) (filled : Filled) (ws : List Word) → IsLawful s → is_character_array (type_of t.ty) ≡ true → Runs s (string_filled cx ws t filled s) (λ u more. Stays s u t filled more)
unfolding string_filled string_point bind
string_stays s cx t filled ws l e = λ met more. (
  l,
  grows_same s,
  λ b rise k whole.
      let small : item_size (ItemBytes (bytes_within (type_of t.ty) (string_bytes_of (texts_of ws)))) ≤ sized s.types.records (type_of t.ty) = string_within s.types.records (type_of t.ty) (string_bytes_of (texts_of ws)) e whole in (
        t.offset + sized s.types.records (type_of t.ty),
        omega arith,
        rise_more 0 b (t.offset + sized s.types.records (type_of t.ty)) filled.items (record { offset = t.offset; item = ItemBytes (bytes_within (type_of t.ty) (string_bytes_of (texts_of ws))) }) rise k
            (plus_least t.offset (item_size (ItemBytes (bytes_within (type_of t.ty) (string_bytes_of (texts_of ws))))) (sized s.types.records (type_of t.ty)) small),
      ),
)

fills_array : (ty : CType) (form : StringForm) → fills_characters ty form ≡ true → is_character_array ty ≡ true
fills_array ty (IsString ws) e = e
fills_array ty IsOther e = no e

braced_by_moves : (s : State) (b : Bool) (cx : Context) (t : Target) (filled : Filled) (form : StringForm) (within : Rule (Cursor × Filled)) → IsLawful s → fills_characters (type_of t.ty) form ≡ b
    → Runs s (within s) (λ u x. Moves s u (frame_of t ∷ []) filled x) → Runs s (braced_by b cx t filled (words_in form) within s) (λ u x. Stays s u t filled x.1)
unfolding braced_by bind
braced_by_moves s true cx t filled form within l e h =
    goes_on (string_filled cx (words_in form) t filled s) _ (λ u more. Stays s u t filled more) (λ u x. Stays s u t filled x.1) (string_stays s cx t filled (words_in form) l (fills_array (type_of t.ty) form e)) (λ r m g k. (m, grows_same r.1, k))
braced_by_moves s false cx t filled form within l e h =
    post_weaken (within s) (λ u. IsLawful u.1 × Grows s u.1 × Moves s u.1 (frame_of t ∷ []) filled u.0) (λ u. IsLawful u.1 × Grows s u.1 × Stays s u.1 t filled u.0.1) h (λ u g. (
      g.0,
      g.1,
      λ b rise k whole.
          let x = g.2 (type_of t.ty) t.offset t.offset (inner_progress s.types.records l.laid t b filled.items whole rise k) in
          (x.0, x.1.bound (complete_later s.types.records u.1.types.records g.1.extends (type_of t.ty) whole), x.1.rise),
    ))

-- behind the braces
braced_behind : (r : List RecordValue) → IsLaid r → (ty : CType) (o b c : ℕ) (cursor : Cursor) (t : Target) (items more : List PlacedItem) → Progress r ty o b cursor items → next_target r cursor ≡ Some t
    → c ≤ t.offset + sized r (type_of t.ty) → Rise 0 c more → Progress r ty o c (passed r cursor) more
braced_behind r laid ty o b c [] t items more p e k rise = never_some e
braced_behind r laid ty o b c (f ∷ outer) t items more p e k rise =
    let next = passed_begins r laid c (f ∷ outer) p.chain (t, e, k) in
    record {
      whole = p.whole;
      chain = next.0;
      begins = next.1;
      rise = rise;
      bound = λ complete. end_within r laid ty o c f outer p.chain p.of complete (λ whole. let h : t.offset + sized r (type_of t.ty) ≤ f.offset + sized r f.ty = (next_inside r laid f t whole e).1 in omega (arith, h, k));
      of = is_of_passed r ty o (f ∷ outer) p.of;
      given = λ q e. some_given (passed_given r laid q o c (f ∷ outer) p.chain (t, e_part, k) (subst (λ d. IsOf d o (f ∷ outer)) e p.of));
    }
  where
    e_part : next_part r f ≡ Some t
    e_part = e

    some_given : {A : Type 0} → A ⊎ (f ∷ outer ≡ []) → A
    some_given (inl h) = h
    some_given {A} (inr e) = absurd (subst P e tt)
      where
        P : Cursor → Type 0
        P [] = ⊥
        P (k ∷ rest) = Unit {0}

target_later : (s t : State) → IsLawful s → Grows s t → (cursor : Cursor) → Chain s.types.records cursor → next_target t.types.records cursor ≡ next_target s.types.records cursor
target_later s t l g [] chain = refl
target_later s t l g (f ∷ outer) chain = next_same s t l g f.ty f (chain_top s.types.records f outer chain)

target_whole : (r : List RecordValue) → IsLaid r → (cursor : Cursor) (t : Target) → Chain r cursor → next_target r cursor ≡ Some t → IsComplete r (type_of t.ty)
target_whole r laid [] t chain e = never_some e
target_whole r laid (f ∷ outer) t chain e = whole_part r laid f t (chain_top r f outer chain) e

target_begins : (r : List RecordValue) (b : ℕ) (cursor : Cursor) (t : Target) → Begins r b cursor → next_target r cursor ≡ Some t → b ≤ t.offset
target_begins r b [] t h e = never_some e
target_begins r b (f ∷ outer) t h e = h t e

done_moves : {A B : Type 0} (s : State) (look : State → A) (make : A → B) (Good : State → B → Type 0) → IsLawful s → Good s (make (look s)) → Runs s (bind {A = A × State} {B = B × State} (Done (look s, s)) (λ t. Done (make t.0, t.1))) Good
unfolding bind
done_moves s look make Good l h = (l, grows_same s, h)

mutual
  unfolding inits_rule

  inits_moves : (is : Inits) (s : State) (cx : Context) (cursor : Cursor) (filled : Filled) → IsLawful s → Runs s (inits_rule is cx cursor filled s) (λ t r. Moves s t cursor filled r)
  inits_moves S.NoInit s cx cursor filled l = (l, grows_same s, λ ty o b p. (b, p))
  inits_moves (S.Listed i rest) s cx cursor filled l =
      goes_on _ _ (λ t r. Moves s t cursor filled r) (λ t r. Moves s t cursor filled r) (init_moves i s cx cursor filled l) (λ r m g h.
      post_weaken (inits_rule rest cx r.0.0 r.0.1 r.1) (λ u. IsLawful u.1 × Grows r.1 u.1 × Moves r.1 u.1 r.0.0 r.0.1 u.0) (λ u. IsLawful u.1 × Grows r.1 u.1 × Moves s u.1 cursor filled u.0)
      (inits_moves rest r.1 cx r.0.0 r.0.1 m)
      (λ u k. (k.0, k.1, λ ty o b p. let x = h ty o b p in k.2 ty o x.0 x.1)))

  init_moves : (i : Init) (s : State) (cx : Context) (cursor : Cursor) (filled : Filled) → IsLawful s → Runs s (init_rule i cx cursor filled s) (λ t r. Moves s t cursor filled r)
  init_moves (S.Value e) s cx cursor filled l = listed_form_moves s cx cursor filled e (string_form e) l
  init_moves (S.Braces token is trailing) s cx cursor filled l =
      goes_on _ _ (λ u t. (next_target s.types.records cursor ≡ Some t) × (u.types.records ≡ s.types.records)) (λ t r. Moves s t cursor filled r) (braced_target_moves s cx cursor l) (λ r m g h.
      goes_on _ _ (λ u x. Stays r.1 u r.0 filled x.1) (λ t x. Moves s t cursor filled x)
      (braced_by_moves r.1 (fills_characters (type_of r.0.ty) (braced_string is)) cx r.0 filled (braced_string is) (inits_rule is cx (frame_of r.0 ∷ []) filled) m refl
      (inits_moves is r.1 cx (frame_of r.0 ∷ []) filled m)) (λ u n y k.
      done_moves u.1 records_in (λ records. (passed records cursor, u.0.1)) (λ t x. Moves s t cursor filled x) n
      (λ ty o b p.
      let whole : IsComplete s.types.records (type_of r.0.ty) = target_whole s.types.records l.laid cursor r.0 p.chain h.0 in
      let c = k b p.rise (target_begins s.types.records b cursor r.0 p.begins h.0) (complete_later s.types.records r.1.types.records g.extends (type_of r.0.ty) whole) in
      let all : Grows s u.1 = grows_trans g y in (
        c.0,
        braced_behind u.1.types.records n.laid ty o b c.0 cursor r.0 filled.items u.0.1.items (progress_later s u.1 l all ty o b cursor filled.items p)
            (target_later s u.1 l all cursor p.chain ∙ h.0) c.1 c.2,
      ))))

-- ---- the object

abbrev ItemsRise : State → Initialised → Type 0
ItemsRise t o = Rise 0 (sized t.types.records (type_of o.ty)) o.filled.items

never_open : {A : Type 0} (ty : CType) (q : QType) → is_open_array ty ≡ false → ty ≡ Array q None → A
never_open {A} ty q e f = no (sym (sym (ap is_open_array f) ∙ e))

-- what the length gives room to
length_room : (r : List RecordValue) (n b : ℕ) (q : QType) → Whole r (type_of q) → (IsComplete r (type_of q) → b ≤ sized r (type_of q))
    → ((p : QType) → type_of q ≡ Array p None → b ≤ n * sized r (type_of p)) → b ≤ sized r (type_of (with_length n q))
length_room r n b (Qualified (Array (Qualified e c v) None) d w) whole h k =
    let room : b ≤ n * sized r e = k (Qualified e c v) refl in
    let size : sized r (Array (Qualified e c v) (Some n)) ≡ sized r e * n = array_sized r e c v n (open_element r (Qualified e c v) whole) in
    subst (λ m. b ≤ m) (sym size) (subst (λ m. b ≤ m) (mul_comm n (sized r e)) room)
length_room r n b (Qualified (Array p (Some m)) d w) (inl whole) h k = h whole
length_room r n b (Qualified (Array p (Some m)) d w) (inr whole) h k = never_open (Array p (Some m)) whole.0 refl whole.1
length_room r n b (Qualified Void d w) (inl whole) h k = h whole
length_room r n b (Qualified Void d w) (inr whole) h k = never_open Void whole.0 refl whole.1
length_room r n b (Qualified (Int i) d w) (inl whole) h k = h whole
length_room r n b (Qualified (Int i) d w) (inr whole) h k = never_open (Int i) whole.0 refl whole.1
length_room r n b (Qualified (Pointer p) d w) (inl whole) h k = h whole
length_room r n b (Qualified (Pointer p) d w) (inr whole) h k = never_open (Pointer p) whole.0 refl whole.1
length_room r n b (Qualified (Function p ps) d w) (inl whole) h k = h whole
length_room r n b (Qualified (Function p ps) d w) (inr whole) h k = never_open (Function p ps) whole.0 refl whole.1
length_room r n b (Qualified (Record m) d w) (inl whole) h k = h whole
length_room r n b (Qualified (Record m) d w) (inr whole) h k = never_open (Record m) whole.0 refl whole.1

string_room : (r : List RecordValue) (q : QType) (bytes : List ℕ) → is_character_array (type_of q) ≡ true → Whole r (type_of q) → length (bytes_within (type_of q) bytes) ≤ sized r (type_of (with_length (length bytes) q))
string_room r q bytes e whole =
    length_room r (length bytes) (length (bytes_within (type_of q) bytes)) q whole (λ h. string_within r (type_of q) bytes e h) (λ p same. by p same)
  where
    char_size : (ty : CType) → is_character_array (Array (Qualified ty false false) None) ≡ true → sized r ty ≡ 1
    char_size (Int K.Char) e = refl
    char_size (Int K.SChar) e = refl
    char_size (Int K.UChar) e = refl
    char_size (Int K.Short) e = no e
    char_size (Int K.UShort) e = no e
    char_size (Int K.Int) e = no e
    char_size (Int K.UInt) e = no e
    char_size (Int K.Long) e = no e
    char_size (Int K.ULong) e = no e
    char_size Void e = no e
    char_size (Pointer q) e = no e
    char_size (Array q n) e = no e
    char_size (Function q ps) e = no e
    char_size (Record n) e = no e

    plainly : (p : QType) → is_character_array (Array p None) ≡ true → is_character_array (Array (Qualified (type_of p) false false) None) ≡ true
    plainly (Qualified (Int k) c v) e = e
    plainly (Qualified Void c v) e = e
    plainly (Qualified (Pointer q) c v) e = e
    plainly (Qualified (Array q n) c v) e = e
    plainly (Qualified (Function q ps) c v) e = e
    plainly (Qualified (Record n) c v) e = e

    by : (p : QType) → type_of q ≡ Array p None → length (bytes_within (type_of q) bytes) ≤ length bytes * sized r (type_of p)
    by p same =
        let one : sized r (type_of p) ≡ 1 = char_size (type_of p) (plainly p (sym (ap is_character_array same) ∙ e)) in
        let all : length (bytes_within (type_of q) bytes) ≡ length bytes = ap (λ ty. length (bytes_within ty bytes)) same in
        subst (λ m. length (bytes_within (type_of q) bytes) ≤ length bytes * m) (sym one) (omega (arith, all))

string_filled_moves : (s : State) (cx : Context) (q : QType) (ws : List Word) → IsLawful s → Whole s.types.records (type_of q) → is_character_array (type_of q) ≡ true
    → Runs s (string_filled cx ws (target_at q 0) nothing_filled s) (λ u more. Rise 0 (sized u.types.records (type_of (with_length (length (string_bytes_of (texts_of ws))) q))) more.items)
unfolding string_filled string_point bind
string_filled_moves s cx q ws l whole e = λ met more.
    (l, grows_same s, (omega arith, zero_least (length (bytes_within (type_of q) (string_bytes_of (texts_of ws)))) (sized s.types.records (type_of (with_length (length (string_bytes_of (texts_of ws))) q))) (string_room s.types.records q (string_bytes_of (texts_of ws)) e whole)))

object_string_moves : (s : State) (cx : Context) (q : QType) (ws : List Word) → IsLawful s → Whole s.types.records (type_of q) → is_character_array (type_of q) ≡ true → Runs s (object_string cx q ws s) ItemsRise
unfolding object_string
object_string_moves s cx q ws l whole e =
    goes_on _ _ (λ u more. Rise 0 (sized u.types.records (type_of (with_length (length (string_bytes_of (texts_of ws))) q))) more.items) ItemsRise (string_filled_moves s cx q ws l whole e) (λ r m g k. (m, grows_same r.1, k))

value_filled_moves : (s : State) (cx : Context) (first : ℕ) (q : QType) (e : Expression) → IsLawful s
    → Runs s (value_filled cx first (target_at q 0) e nothing_filled s) (λ u more. Rise 0 (sized u.types.records (type_of q)) more.items)
unfolding value_filled bind
value_filled_moves s cx first q e l = λ met. (l, grows_same s, by (item_of s.types.records (type_of q) (cast_to (type_of q) e)) refl)
  where
    by : (o : Option ItemValue) → item_of s.types.records (type_of q) (cast_to (type_of q) e) ≡ o → Rise 0 (sized s.types.records (type_of q)) ([] ++ item_list 0 o)
    by None h = omega arith
    by (Some i) h =
        (omega arith, zero_least (item_size i) (sized s.types.records (type_of q)) (equal_least (scalar_item s.types.records (type_of q) (cast_to (type_of q) e) i h)))

object_value_moves : (s : State) (cx : Context) (q : QType) (e : Expr) → IsLawful s → Runs s (object_value cx q e s) ItemsRise
unfolding object_value
object_value_moves s cx q e l =
    valued _ _ ItemsRise (expr_post e s l) (λ r m g f.
    goes_on _ _ (λ u more. Rise 0 (sized u.types.records (type_of q)) more.items) ItemsRise (value_filled_moves r.1 cx (first_of_expr e) q r.0 m) (λ u n y k. (n, grows_same u.1, k)))

start_progress : (r : List RecordValue) (q : QType) → Whole r (type_of q) → Progress r (type_of q) 0 0 (frame_of (target_at q 0) ∷ []) []
start_progress r q whole = record {
  whole = whole;
  chain = whole;
  begins = λ u e. (omega arith);
  rise = omega arith;
  bound = λ h. (omega arith);
  of = (refl, refl);
  given = λ p e. (omega arith);
}

object_list_moves : (s : State) (cx : Context) (q : QType) (is : Inits) → IsLawful s → Whole s.types.records (type_of q) → Runs s (object_list cx q is s) ItemsRise
unfolding object_list
object_list_moves s cx q is l whole =
    goes_on _ _ (λ t r. (Whole t.types.records (type_of q)) × Moves s t (frame_of (target_at q 0) ∷ []) nothing_filled r) ItemsRise
    (post_weaken _ (λ u. IsLawful u.1 × Grows s u.1 × Moves s u.1 (frame_of (target_at q 0) ∷ []) nothing_filled u.0)
    (λ u. IsLawful u.1 × Grows s u.1 × (Whole u.1.types.records (type_of q) × Moves s u.1 (frame_of (target_at q 0) ∷ []) nothing_filled u.0))
    (inits_moves is s cx (frame_of (target_at q 0) ∷ []) nothing_filled l) (λ u k. (k.0, k.1, (whole_later s.types.records u.1.types.records k.1.extends (type_of q) whole, k.2)))) (λ r m g k.
    let x = k.1 (type_of q) 0 0 (start_progress s.types.records q whole) in
    let room : x.0 ≤ sized r.1.types.records (type_of (with_length (elements_given r.0.0) q)) =
    length_room r.1.types.records (elements_given r.0.0) x.0 q k.0 (λ h. from_zero x.0 (sized r.1.types.records (type_of q)) (x.1.bound h))
    (λ p e. from_zero x.0 (elements_given r.0.0 * sized r.1.types.records (type_of p)) (x.1.given p e)) in
    (m, grows_same r.1, rise_wider 0 x.0 (sized r.1.types.records (type_of (with_length (elements_given r.0.0) q))) r.0.1.items x.1.rise room))

-- the items that an initialiser gives stand one behind the other inside the object, whose length it may give
pub object_items : (s : State) (cx : Context) (q : QType) (i : Init) → IsLawful s → Whole s.types.records (type_of q) → Runs s (object_rule cx q i s) ItemsRise
unfolding object_rule object_by
object_items s cx q (S.Value e) l whole = by (fills_characters (type_of q) (string_form e)) refl
  where
    by : (b : Bool) → fills_characters (type_of q) (string_form e) ≡ b → Runs s (object_by b cx q (words_in (string_form e)) (object_value cx q e) s) ItemsRise
    by true h = object_string_moves s cx q (words_in (string_form e)) l whole (fills_array (type_of q) (string_form e) h)
    by false h = object_value_moves s cx q e l
object_items s cx q (S.Braces token is trailing) l whole = by (fills_characters (type_of q) (braced_string is)) refl
  where
    by : (b : Bool) → fills_characters (type_of q) (braced_string is) ≡ b → Runs s (object_by b cx q (words_in (braced_string is)) (object_list cx q is) s) ItemsRise
    by true h = object_string_moves s cx q (words_in (braced_string is)) l whole (fills_array (type_of q) (braced_string is) h)
    by false h = object_list_moves s cx q is l whole
