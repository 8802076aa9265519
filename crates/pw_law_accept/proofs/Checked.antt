-- What is known of a module whose typed tree checking answers for a text.
use Rattle.std.specs.Prelude.{ℕ, List, All, Ok}
use Rattle.pw_token.specs.Tokenization.{IsLexed}
use Rattle.pw_token.specs.declared.token.Token.{Token}
use Rattle.pw_tree.specs.Grammar.{IsTreeOf, spelled_all}
use Rattle.pw_tree.specs.Trees.{Module}
use Rattle.pw_tree.specs.WellFormed.{WellFormedModule}
use Rattle.pw_tree.specs.Words.{WordsSpellModule}
use Rattle.pw_types.specs.TypedModules.{IsFunctionTyped, IsDeclaredIfExternal}
use Rattle.pw_types.specs.TypedTrees.{ModuleValue}
use Rattle.pw_check_rules.specs.Checks.{Checks}
use Rattle.pw_law_lower.specs.Within.{AreLetters, IsNamed}
use Rattle.pw_cmean.specs.Worlds.{ProgramModule}
use Rattle.pw_law_source.specs.Lowering.{IsChecked}
use Rattle.pw_law_accept.proofs.Modules.{Known}
use Rattle.pw_law_accept.proofs.Given.{functions_given}

pub known_module : ((text : List ℕ) (tokens : List Token) (tree : Module) → IsLexed text tokens → IsTreeOf (spelled_all text tokens) tree → WordsSpellModule tree)
    → ((tree : Module) (m : ModuleValue) → WellFormedModule tree → WordsSpellModule tree → Checks tree (Ok m) → All (λ d. AreLetters d.name) m.declared)
    → ((tree : Module) (m : ModuleValue) → WellFormedModule tree → WordsSpellModule tree → Checks tree (Ok m) → All (λ f. IsNamed f.name) m.functions)
    → ((tree : Module) (m : ModuleValue) → Checks tree (Ok m) → All (IsFunctionTyped m) m.functions)
    → ((tree : Module) (m : ModuleValue) → Checks tree (Ok m) → All (λ f. IsDeclaredIfExternal m f.name f.ty) m.functions)
    → ((tree : Module) (m : ModuleValue) → Checks tree (Ok m) → All (λ g. IsDeclaredIfExternal m g.name g.ty) m.globals)
    → (m : ProgramModule) → IsChecked m → Known m.tree
known_module spell declared named typed external objects m is =
    let words = spell is.text is.tokens is.syntax is.lexed is.parsed in
    record {
      declared = declared is.syntax m.tree is.parsed.well_formed words is.is;
      functions = named is.syntax m.tree is.parsed.well_formed words is.is;
      typed = typed is.syntax m.tree is.is;
      external = external is.syntax m.tree is.is;
      objects = objects is.syntax m.tree is.is;
      given = functions_given is.syntax m.tree is.parsed.well_formed is.is;
    }
