-- All parts keep their promises, by the bound: calls at one from functions at the one before, and what stands in a function at
-- each bound up to that.
use Rattle.std.proofs.Common.{◌≡◌, ℕ, zero, suc, ◌≤◌, List, inl, inr, sym, subst, arith}
use Rattle.std.proofs.lemmas.Bool.{cases_eq}
use Rattle.pw_types.specs.TypedTrees.{Expression, Initialiser, Value, Bytes}
use Rattle.pw_law_refine.specs.Expressions.{ExpressionKeeps, ExpressionsKeep, LvaluesKeep, AddressesKeep, ArgumentsKeep, ConditionsKeep}
use Rattle.pw_law_refine.specs.Statements.{StatementsKeep}
use Rattle.pw_law_refine.specs.StatementParts.{LocalsKeep, InitialiserKeeps}
use Rattle.pw_law_refine.specs.Calls.{CallsKeep, FunctionsKeep}
use Rattle.pw_law_refine.specs.Whole.{AllPartsKeep}
use Rattle.pw_law_refine_stmts.specs.Bounds.{UpTo}

-- the laws of the parts
pub record PartLaws : Type 0 where
  pub values : (bound : ℕ) → CallsKeep bound → ExpressionsKeep bound
  pub lvalues : (bound : ℕ) → CallsKeep bound → LvaluesKeep bound
  pub addresses : (bound : ℕ) → CallsKeep bound → AddressesKeep bound
  pub arguments : (bound : ℕ) → CallsKeep bound → ArgumentsKeep bound
  pub conditions : (bound : ℕ) → CallsKeep bound → ConditionsKeep bound
  pub locals : (bound : ℕ) → LocalsKeep bound
  pub by_value : (bound k : ℕ) (a : Expression) → ExpressionKeeps bound a → InitialiserKeeps bound (Value k a)
  pub by_bytes : (bound k hidden : ℕ) (parts : List Expression) → InitialiserKeeps bound (Bytes k hidden parts)
  pub statements : (bound : ℕ) → UpTo bound ExpressionsKeep → UpTo bound ConditionsKeep → UpTo bound LocalsKeep →
      UpTo bound (λ k. (i : Initialiser) → InitialiserKeeps k i) → UpTo bound StatementsKeep
  pub functions : (bound : ℕ) → StatementsKeep bound → FunctionsKeep bound
  pub none : CallsKeep 0
  pub next : (bound : ℕ) → FunctionsKeep bound → CallsKeep (suc bound)

initialisers : PartLaws → (bound : ℕ) → ExpressionsKeep bound → (i : Initialiser) → InitialiserKeeps bound i
initialisers laws bound keep (Value k a) = laws.by_value bound k a (keep a)
initialisers laws bound keep (Bytes k hidden parts) = laws.by_bytes bound k hidden parts

statements-at : PartLaws → (bound : ℕ) → UpTo bound CallsKeep → StatementsKeep bound
statements-at laws bound calls =
    laws.statements bound (λ k less. laws.values k (calls k less)) (λ k less. laws.conditions k (calls k less)) (λ k less. laws.locals k)
    (λ k less. initialisers laws k (laws.values k (calls k less))) bound (omega arith)

calls-up-to : PartLaws → (bound : ℕ) → UpTo bound CallsKeep
calls-up-to laws zero k less = let none : 0 ≡ k = omega (arith, less) in subst CallsKeep none laws.none
calls-up-to laws (suc bound) k less = elim (cases_eq k (suc bound)) [
  | inl same ↦ subst CallsKeep (sym same) (laws.next bound (laws.functions bound (statements-at laws bound (calls-up-to laws bound))))
  | inr ne ↦ calls-up-to laws bound k (omega (arith, less, ne))
]

pub parts-keep : PartLaws → AllPartsKeep
parts-keep laws bound =
    let calls : UpTo bound CallsKeep = calls-up-to laws bound in
    let here : CallsKeep bound = calls bound (omega arith) in
    let statements : StatementsKeep bound = statements-at laws bound calls in
    record {
      expressions = laws.values bound here;
      lvalues = laws.lvalues bound here;
      addresses = laws.addresses bound here;
      arguments = laws.arguments bound here;
      conditions = laws.conditions bound here;
      statements = statements;
      functions = laws.functions bound statements;
      calls = here;
    }
