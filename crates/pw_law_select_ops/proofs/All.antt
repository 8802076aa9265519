-- All operations that call no function.
use Rattle.std.proofs.Common.{ℕ, ◌≡◌, refl, false, true≢false, Option, Some, None}
use Rattle.pw_flow.specs.declared.flow.Op.TheVariants as op
use Rattle.pw_flow.specs.declared.flow.BinKind.{BinKind}
use Rattle.pw_webflow.specs.declared.web.WebOp.{WebOp}
use Rattle.pw_webflow.specs.declared.web.WebOp.TheVariants.{Flow}
use Rattle.pw_webflow.specs.WebOutline.{calls}
use Rattle.pw_select_lines.specs.Arithmetic.{routine_of}
use Rattle.pw_law_select_ops.specs.Operations.{OperationFollows, ComputationsFollow, RoutinesFollow, NamedGlobalsFollow, AccessesFollow, CopiesFollow}

module _ (computations : ComputationsFollow) (routines : RoutinesFollow) (globals : NamedGlobalsFollow) (accesses : AccessesFollow) (copies : CopiesFollow) where
  binary : (k : BinKind) (t a b : ℕ) (o : Option ℕ) → routine_of k ≡ o → OperationFollows (Flow (op.Bin k t a b))
  binary k t a b None e = computations (Flow (op.Bin k t a b)) e
  binary k t a b (Some n) e = routines (Flow (op.Bin k t a b)) (n, e)

  pub operations_follow : (o : WebOp) → calls o ≡ false → OperationFollows o
  operations_follow (Flow (op.Bin k t a b)) quiet = binary k t a b (routine_of k) refl
  operations_follow (Flow (op.LoadG t g k)) quiet = globals (Flow (op.LoadG t g k)) tt
  operations_follow (Flow (op.StoreG g a k)) quiet = globals (Flow (op.StoreG g a k)) tt
  operations_follow (Flow (op.Load k t a)) quiet = accesses (Flow (op.Load k t a)) tt
  operations_follow (Flow (op.Store k a b)) quiet = accesses (Flow (op.Store k a b)) tt
  operations_follow (Flow (op.Move a b size unit)) quiet = copies (Flow (op.Move a b size unit)) tt
  operations_follow (Flow (op.Call t f args)) quiet = absurd (true≢false quiet)
  operations_follow (Flow (op.CallInd t a shape args)) quiet = absurd (true≢false quiet)
  operations_follow o quiet = computations o tt
