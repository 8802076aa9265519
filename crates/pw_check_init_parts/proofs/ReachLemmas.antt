-- The part that an initialiser is for, one object deeper at a time.
use Rattle.std.proofs.Common.{◌≡◌, ℕ, zero, suc, ◌+◌, ◌<◌, Bool, true, false, ◌||◌, List, [], ◌∷◌, ◌++◌, Option, None, Some, option_map, slice_get, refl, ap, sym, ◌∙◌, arith}
use Rattle.std.proofs.lemmas.Option.{none-some, same_Some}
use Rattle.pw_types.specs.TypeTrees.{CType, RecordValue, type_of}
use Rattle.pw_check_rules.specs.Initialisers.{Cursor, Frame, Reached, frame_of, next_part, next_target, reached}
use Rattle.pw_check_rules.specs.Initialisers as rules
use Rattle.pw_check_rules.specs.Kinds.{is_scalar}
use Rattle.pw_check_init_parts.specs.PlaceViews.{view_target}
use Rattle.pw_check_init_parts.specs.declared.parts.Target.{Target}

module _ (records : List RecordValue) where
  pub next_inner : (a b : Cursor) (f : Frame) → slice_get a 0 ≡ Some f → next_target records (a ++ b) ≡ next_part records f
  next_inner [] b f e = absurd (none-some f e)
  next_inner (g ∷ a) b f e = ap (next_part records) (same_Some g f e)

  pub next_outer : (a b : Cursor) → slice_get a 0 ≡ None → next_target records (a ++ b) ≡ next_target records b
  next_outer [] b e = refl
  next_outer (g ∷ a) b e = absurd (none-some g (sym e))

module _ (records : List RecordValue) (takes : CType → Bool) where
  none_reached : (deep : ℕ) (c : Cursor) → next_target records c ≡ None → reached deep records takes c ≡ None
  unfolding reached
  none_reached zero c e = refl
  none_reached (suc deep) [] e = refl
  none_reached (suc deep) (f ∷ outer) e = rw e refl

  some_reached : (deep : ℕ) (c : Cursor) (t : rules.Target) → 0 < deep → next_target records c ≡ Some t
      → (is_scalar (type_of t.ty) || takes (type_of t.ty)) ≡ true → reached deep records takes c ≡ Some (record { target = t; cursor = c })
  unfolding reached
  some_reached zero c t more e whole = absurd (omega arith)
  some_reached (suc deep) [] t more e whole = absurd (none-some t e)
  some_reached (suc deep) (f ∷ outer) t more e whole = rw (e, whole) refl

  inner_reached : (deep less : ℕ) (c : Cursor) (t : rules.Target) → deep ≡ less + 1 → next_target records c ≡ Some t
      → (is_scalar (type_of t.ty) || takes (type_of t.ty)) ≡ false → reached deep records takes c ≡ reached less records takes (frame_of t ∷ c)
  unfolding reached
  inner_reached zero less c t one e whole = absurd (omega arith)
  inner_reached (suc deep) less [] t one e whole = absurd (none-some t e)
  inner_reached (suc deep) less (f ∷ outer) t one e whole =
      let same : deep ≡ less = omega arith in
      rw (e, whole, same) refl

  pub too_deep : (deep : ℕ) (c : Cursor) → deep ≡ 0 → reached deep records takes c ≡ None
  unfolding reached
  too_deep zero c e = refl
  too_deep (suc deep) c e = absurd (omega arith)

  -- ---- by the part that the code has

  pub no_part : (deep : ℕ) (c : Cursor) (o : Option Target) → option_map view_target o ≡ next_target records c → ((t : Target) → o ≡ Some t → ⊥)
      → reached deep records takes c ≡ None
  no_part deep c None e other = none_reached deep c (sym e)
  no_part deep c (Some t) e other = absurd (other t refl)

  module _ (deep : ℕ) (c : Cursor) (o : Option Target) (t : Target) where
    shown_part : option_map view_target o ≡ next_target records c → o ≡ Some t → next_target records c ≡ Some (view_target t)
    shown_part e is = sym e ∙ ap (option_map view_target) is

    pub arrived : 0 < deep → option_map view_target o ≡ next_target records c → o ≡ Some t
        → (is_scalar (type_of (view_target t).ty) || takes (type_of (view_target t).ty)) ≡ true
        → reached deep records takes c ≡ Some (record { target = view_target t; cursor = c })
    arrived more e is whole = some_reached deep c (view_target t) more (shown_part e is) whole

    pub deeper : (less : ℕ) → deep ≡ less + 1 → option_map view_target o ≡ next_target records c → o ≡ Some t
        → (is_scalar (type_of (view_target t).ty) || takes (type_of (view_target t).ty)) ≡ false
        → reached deep records takes c ≡ reached less records takes (frame_of (view_target t) ∷ c)
    deeper less one e is whole = inner_reached deep less c (view_target t) one (shown_part e is) whole
