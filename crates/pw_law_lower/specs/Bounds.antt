-- Flow graphs whose numbers are words, whose moves are lawful, and whose calls have no more arguments than a function may.
use Rattle.std.specs.Prelude.{◌≤◌, length}
use Rattle.std.specs.List.{AllByRecursion}
use Rattle.pw_value.specs.Limits.{parameter_limit}
use Rattle.pw_flow.specs.declared.flow.Op.{Op}
use Rattle.pw_flow.specs.declared.flow.Op.TheVariants.{Const, AddrGlobal, Move, Call, CallInd}
use Rattle.pw_flow.specs.declared.flow.Block.{Block}
use Rattle.pw_flow.specs.declared.flow.FlowFn.{FlowFn}
use Rattle.pw_flow.specs.ValidFlow.{IsWord, IsMoved}

abbrev pub IsBounded : Op → Type 0
IsBounded (Const t n) = IsWord n
IsBounded (AddrGlobal t g n) = IsWord n
IsBounded (Move a b size unit) = IsMoved size unit
IsBounded (Call t f args) = length args ≤ parameter_limit
IsBounded (CallInd t a shape args) = length args ≤ parameter_limit
IsBounded _ = Unit {0}

pub record IsBlockBounded (b : Block) : Type 0 where
  pub depth : IsWord b.depth
  pub ops : AllByRecursion IsBounded b.ops

pub record IsFunctionBounded (f : FlowFn) : Type 0 where
  pub params : f.params ≤ parameter_limit
  pub blocks : AllByRecursion IsBlockBounded f.blocks
