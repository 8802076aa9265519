-- A conversion gives the type that it is to, and one to the operand's own type leaves it as it is.
use Rattle.std.specs.Prelude.{◌≡◌, Bool, true, false, if◌then◌else◌, refl}
use Rattle.std.proofs.Common.{ap, sym, ◌∙◌}
use Rattle.pw_types.specs.Conversions.{promoted}
use Rattle.pw_types.specs.TypeTrees.{CType, Void, Int, Pointer, Array, Function, Record, Qualified}
use Rattle.pw_types.specs.TypedTrees.{Expression, Node, token_of}
use Rattle.pw_types.specs.TypedTrees as T
use Rattle.pw_check_rules.specs.Kinds.{is_integral, kind_in, plain, same_type}
use Rattle.pw_check_rules.specs.Operands.{cast_to, promote, promoted_type}
use Rattle.pw_types.specs.WellTyped.{type_in}
use Rattle.pw_check_rules.proofs.Booleans.{no}
use Rattle.pw_check_operands.proofs.SameLaws.{same_exact, same_refl}

pub cast_type : (ty : CType) (e : Expression) → type_in (cast_to ty e) ≡ ty
cast_type ty e = by (same_type ty (type_in e)) refl
  where
    by : (b : Bool) → same_type ty (type_in e) ≡ b → type_in (if b then e else Node (token_of e) (plain ty) (T.Cast e)) ≡ ty
    by true h = sym (same_exact ty (type_in e) h)
    by false h = refl

pub cast_own : (e : Expression) → cast_to (type_in e) e ≡ e
cast_own e = ap (λ b. if b then e else Node (token_of e) (plain (type_in e)) (T.Cast e)) (same_refl (type_in e))

-- of no integral type an operand is its own promotion
pub promote_other : (e : Expression) → is_integral (type_in e) ≡ false → promote e ≡ e
promote_other (Node t (Qualified Void c v) form) h = cast_own (Node t (Qualified Void c v) form)
promote_other (Node t (Qualified (Int kind) c v) form) h = no (sym h)
promote_other (Node t (Qualified (Pointer q) c v) form) h = cast_own (Node t (Qualified (Pointer q) c v) form)
promote_other (Node t (Qualified (Array q n) c v) form) h = cast_own (Node t (Qualified (Array q n) c v) form)
promote_other (Node t (Qualified (Function q ps) c v) form) h = cast_own (Node t (Qualified (Function q ps) c v) form)
promote_other (Node t (Qualified (Record n) c v) form) h = cast_own (Node t (Qualified (Record n) c v) form)

-- an integral one is converted to its promoted type
promoted_integral : (ty : CType) → is_integral ty ≡ true → promoted_type ty ≡ Int (promoted (kind_in ty))
promoted_integral Void h = no h
promoted_integral (Int kind) h = refl
promoted_integral (Pointer q) h = no h
promoted_integral (Array q n) h = no h
promoted_integral (Function q ps) h = no h
promoted_integral (Record n) h = no h

pub promote_int : (e : Expression) → is_integral (type_in e) ≡ true → promote e ≡ cast_to (Int (promoted (kind_in (type_in e)))) e
promote_int e h = ap (λ ty. cast_to ty e) (promoted_integral (type_in e) h)

-- the type of an operand that is promoted
pub promotion_int : (e : Expression) → is_integral (type_in e) ≡ true → type_in (promote e) ≡ Int (promoted (kind_in (type_in e)))
promotion_int e h = cast_type (promoted_type (type_in e)) e ∙ promoted_integral (type_in e) h

pub promotion_other : (e : Expression) → is_integral (type_in e) ≡ false → type_in (promote e) ≡ type_in e
promotion_other e h = ap type_in (promote_other e h)
