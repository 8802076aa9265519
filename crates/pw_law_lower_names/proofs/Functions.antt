-- Functions: each operation of a function's code stands in its graph.
use Rattle.std.proofs.Common.{◌≡◌, ℕ, zero, suc, refl, subst, arith, Some, List, [], ◌∷◌}
use Rattle.std.specs.Prelude.{Contains, slice_get}
use Rattle.std.specs.List.{AllByRecursion}
use Rattle.pw_types.specs.TypedTrees.{Expression, Statement, FunctionValue, ModuleValue}
use Rattle.pw_types.specs.TypedModules.{IsFunction}
use Rattle.pw_flow.specs.declared.flow.Block.{Block}
use Rattle.pw_flow.specs.declared.flow.FlowFn.{FlowFn}
use Rattle.pw_flow.specs.declared.flow.Op.{Op}
use Rattle.pw_lower.specs.declared.code.Code.{Code}
use Rattle.pw_lower.specs.declared.code.Numbered.{Numbered}
use Rattle.pw_lower.specs.declared.place.Ways.{Ways}
use Rattle.pw_lower.specs.Expressions.{Home, lower}
use Rattle.pw_lower.specs.Statements.{Frame, lower_statement}
use Rattle.pw_lower.specs.Modules.{entered, frame_of, lowered_function}
use Rattle.pw_law_lower.specs.Kept.{Keeps}
use Rattle.pw_law_lower_walk.specs.Named.{StatementAmong}
use Rattle.pw_law_refine.specs.Containing.{ContainsCode}
use Rattle.pw_law_refine_code.specs.Functions.{code_of_body}
use Rattle.pw_law_lower_names.proofs.Backward.{split, IsAmong, Holds}
use Rattle.pw_law_lower_names.proofs.Statements.{statement_names}

one_of : {X : Type 0} (P : X → Type 0) (xs : List X) (n : ℕ) (x : X) → AllByRecursion P xs → slice_get xs n ≡ Some x → P x
one_of P [] n x h e = cc
one_of P (y ∷ xs) zero x h e = let same : y ≡ x = cc in subst P same h.0
one_of P (y ∷ xs) (suc n) x h e = one_of P xs n x h.1 e

each_of : {X : Type 0} (P : X → Type 0) (xs : List X) → ((x : X) → Contains xs x → P x) → AllByRecursion P xs
each_of P [] h = tt
each_of P (x ∷ xs) h = (h x (0, omega arith, refl), each_of P xs (λ y c. h y (suc c.0, omega (arith, c.1), c.2)))

module _ (objects functions : List (List ℕ)) where
  -- what holds of a graph holds of the code that it contains
  contained_holds : (g : FlowFn) (c : Code) → ContainsCode g c → AllByRecursion (λ (b : Block). AllByRecursion (IsAmong objects functions) b.ops) g.blocks → Holds objects functions c
  contained_holds g c w h = (
    (split (IsAmong objects functions) c.ops w.filled.rest (subst (λ (o : List Op). AllByRecursion (IsAmong objects functions) o) w.filled.ops
        (one_of (λ (b : Block). AllByRecursion (IsAmong objects functions) b.ops) g.blocks c.cur w.filled.block h w.filled.there))).0,
    each_of (λ (b : Numbered). AllByRecursion (IsAmong objects functions) b.block.ops) c.closed
        (λ b k. one_of (λ (b : Block). AllByRecursion (IsAmong objects functions) b.ops) g.blocks b.number b.block h (w.closed b k)),
  )

  pub function_names : ((h : Home) (e : Expression) (c : Code) → Keeps c (lower h e c).code) → ((f : Frame) (ways : Ways) (s : Statement) (c : Code) → Keeps c (lower_statement f ways s c))
      → (home : List ℕ) (m : ModuleValue) (f : FunctionValue) → ContainsCode (lowered_function home m.records f) (code_of_body home m.records f) → IsFunction m f
      → AllByRecursion (λ (b : Block). AllByRecursion (IsAmong objects functions) b.ops) (lowered_function home m.records f).blocks → StatementAmong objects functions home f.body
  function_names keep keeps home m f w fn h =
      statement_names objects functions m f (frame_of home m.records f) (λ e c. keep (frame_of home m.records f).home e c) (λ ways s c. keeps (frame_of home m.records f) ways s c)
      f.body _ _ f.params fn.body (record { out = 0; on = 0 }) (entered f) (contained_holds (lowered_function home m.records f) (code_of_body home m.records f) w h)
