-- What becomes of an operation by what is known of what it defines.
use Rattle.std.specs.Prelude.{◌≡◌, List}
use Rattle.std.proofs.Common.{refl}
use Rattle.pw_flow.specs.declared.flow.Op.{Op}
use Rattle.pw_flow.specs.declared.flow.Op.TheVariants as op
use Rattle.pw_opt_rules.specs.declared.flat.Flat.{Flat}
use Rattle.pw_opt_rules.specs.Constants.{constant, const_or, constant_op}

abbrev pub folded : Op → Flat → Op
folded (op.Copy t a) x = const_or t x (op.Copy t a)
folded (op.Un k t a) x = const_or t x (op.Un k t a)
folded (op.Bin k t a b) x = const_or t x (op.Bin k t a b)
folded (op.Ext k t a) x = const_or t x (op.Ext k t a)
folded o x = o

pub folded_is : (row : List Flat) (o : Op) → folded o (constant row o) ≡ constant_op row o
folded_is row (op.Copy t a) = refl
folded_is row (op.Un k t a) = refl
folded_is row (op.Bin k t a b) = refl
folded_is row (op.Ext k t a) = refl
folded_is row (op.Const t n) = refl
folded_is row (op.AddrGlobal t g n) = refl
folded_is row (op.AddrSlot t s) = refl
folded_is row (op.AddrFn t f) = refl
folded_is row (op.LoadG t g k) = refl
folded_is row (op.StoreG g a k) = refl
folded_is row (op.Load k t a) = refl
folded_is row (op.Store k a b) = refl
folded_is row (op.Move a b size unit) = refl
folded_is row (op.Call t f args) = refl
folded_is row (op.CallInd t a shape args) = refl
