-- Accepted programs of checked texts are resolved.
use Rattle.std.proofs.Common.{ℕ, ◌<◌, List}
use Rattle.std.specs.Prelude.{All, Contains, Ok}
use Rattle.std.specs.List.{AllByRecursion}
use Rattle.std.proofs.lemmas.List.Elements.{All-contains}
use Rattle.pw_token.specs.Tokenization.{IsLexed}
use Rattle.pw_token.specs.declared.token.Token.{Token}
use Rattle.pw_tree.specs.Grammar.{IsTreeOf, spelled_all}
use Rattle.pw_tree.specs.Trees.{Module}
use Rattle.pw_types.specs.TypedModules.{WellTyped, IsFunction}
use Rattle.pw_types.specs.TypedTrees.{FunctionValue, ModuleValue}
use Rattle.pw_files.proofs.Standing.{has_by}
use Rattle.pw_lower.specs.Modules.{lowered_function}
use Rattle.pw_check_rules.specs.Checks.{Checks}
use Rattle.pw_cmean.specs.Worlds.{Program, ProgramModule}
use Rattle.pw_law_source.specs.Lowering.{AreChecked, IsChecked, IsAccepted}
use Rattle.pw_law_lower_walk.specs.Named.{NamesAmong, StatementAmong}
use Rattle.pw_law_checked.specs.Bounded.{IsBoundedStatement}
use Rattle.pw_law_checked.specs.Names.{HasShortStrings}
use Rattle.pw_law_checked.specs.Words.{WordsInStatement}
use Rattle.pw_law_scopes.specs.Scoped.{IsScopedStatement}
use Rattle.pw_law_never.specs.Resolved.{IsResolvedStatement, IsResolvedProgram}
use Rattle.pw_law_resolved.proofs.Symbols.{objects, functions, object_found, function_found, code_among}
use Rattle.pw_law_resolved.proofs.Trees.{statement_resolved}
use Rattle.pw_law_resolved.proofs.Main.{main_known}

-- what the laws below say
pub record Laws : Type 0 where
  pub strings : (text : List ℕ) (tokens : List Token) (tree : Module) → IsLexed text tokens → IsTreeOf (spelled_all text tokens) tree → HasShortStrings tree
  pub words : (tree : Module) (m : ModuleValue) → HasShortStrings tree → Checks tree (Ok m) → All (λ f. WordsInStatement f.body) m.functions
  pub bounded : (tree : Module) (m : ModuleValue) → HasShortStrings tree → Checks tree (Ok m) → All (λ f. IsBoundedStatement m.records f.body) m.functions
  pub named : (objects functions : List (List ℕ)) (home : List ℕ) (m : ModuleValue) (f : FunctionValue) → IsFunction m f
      → AllByRecursion (λ b. AllByRecursion (NamesAmong objects functions) b.ops) (lowered_function home m.records f).blocks → StatementAmong objects functions home f.body

-- a function's locals are in scope
abbrev HasScope : FunctionValue → Type 0
HasScope f = WordsInStatement f.body → IsScopedStatement (λ k. k < f.params) f.body

pub resolved_program : Laws → ((tree : Module) (m : ModuleValue) → Checks tree (Ok m) → All (λ f. WordsInStatement f.body → IsScopedStatement (λ k. k < f.params) f.body) m.functions)
    → (p : Program) (frame_of : List ℕ → ℕ) (stack : ℕ) → AreChecked p → IsAccepted p frame_of stack → IsResolvedProgram p
resolved_program laws scopes p frame_of stack checked accepted = record {
  bodies = λ m f inside there. body m f inside there (checked m inside);
  main = main_known p frame_of stack accepted;
}
  where
    body : (m : ProgramModule) (f : FunctionValue) → Contains p.modules m → Contains m.tree.functions f → IsChecked m → IsResolvedStatement p m.name (λ k. k < f.params) f.body
    body m f inside there is =
        let short : HasShortStrings is.syntax = laws.strings is.text is.tokens is.syntax is.lexed is.parsed in
        let words : WordsInStatement f.body = All-contains (λ (f : FunctionValue). WordsInStatement f.body) m.tree.functions f (laws.words is.syntax m.tree short is.is) there in
        let scoped : IsScopedStatement (λ k. k < f.params) f.body = All-contains HasScope m.tree.functions f (scopes is.syntax m.tree is.is) there words in
        let bounded : IsBoundedStatement m.tree.records f.body = All-contains (λ (f : FunctionValue). IsBoundedStatement m.tree.records f.body) m.tree.functions f (laws.bounded is.syntax m.tree short is.is) there in
        let tree : WellTyped m.tree = All-contains (λ (m : ProgramModule). WellTyped m.tree) p.modules m accepted.typed.modules inside in
        let fn : IsFunction m.tree f = All-contains (IsFunction m.tree) m.tree.functions f tree.functions there in
        let among : StatementAmong (objects p frame_of stack accepted) (functions p frame_of stack accepted) m.name f.body =
        laws.named (objects p frame_of stack accepted) (functions p frame_of stack accepted) m.name m.tree f fn (code_among p frame_of stack accepted m (has_by m p.modules inside) f (has_by f m.tree.functions there)) in
        statement_resolved p m.name m.tree.records (objects p frame_of stack accepted) (functions p frame_of stack accepted) (object_found p frame_of stack accepted)
        (λ name c. function_found p name (has_by name (functions p frame_of stack accepted) c)) (λ k. k < f.params) f.body scoped bounded among
