-- What becomes of an operation by the words that are known: it stays, or it is a constant for the temporary that it defines.
use Rattle.std.specs.Prelude.{ℕ, ◌≡◌, false, Some, List}
use Rattle.std.proofs.Common.{refl}
use Rattle.pw_flow.specs.declared.flow.Op.{Op}
use Rattle.pw_flow.specs.declared.flow.Op.TheVariants as op
use Rattle.pw_flow.specs.Uses.{op_defines, op_calls}
use Rattle.pw_opt_rules.specs.declared.flat.Flat.{Flat}
use Rattle.pw_opt_rules.specs.declared.flat.Flat.TheVariants.{Bottom, One, Many}
use Rattle.pw_opt_rules.specs.Constants.{constant, const_or, constant_op}

const_holds : (P : Op → Type 0) (t : ℕ) (x : Flat) (o : Op) → P o → ((n : ℕ) → P (op.Const t n)) → P (const_or t x o)
const_holds P t Bottom o own put = own
const_holds P t (One n) o own put = put n
const_holds P t Many o own put = own

-- what holds of an operation, and of each constant in its place, holds of what becomes of it
pub folded_holds : (P : Op → Type 0) (row : List Flat) (o : Op) → P o → ((t n : ℕ) → op_defines o ≡ Some t → op_calls o ≡ false → P (op.Const t n)) → P (constant_op row o)
folded_holds P row (op.Copy t a) own put = const_holds P t (constant row (op.Copy t a)) (op.Copy t a) own (λ n. put t n refl refl)
folded_holds P row (op.Un k t a) own put = const_holds P t (constant row (op.Un k t a)) (op.Un k t a) own (λ n. put t n refl refl)
folded_holds P row (op.Bin k t a b) own put = const_holds P t (constant row (op.Bin k t a b)) (op.Bin k t a b) own (λ n. put t n refl refl)
folded_holds P row (op.Ext k t a) own put = const_holds P t (constant row (op.Ext k t a)) (op.Ext k t a) own (λ n. put t n refl refl)
folded_holds P row o own put = own
