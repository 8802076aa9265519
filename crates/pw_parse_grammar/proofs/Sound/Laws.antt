-- What is read from tokens is their tree.
use Rattle.std.proofs.Common.{◌≡◌, List, map, Ok, subst}
use Rattle.pw_tree.specs.Grammar.{IsTreeOf}
use Rattle.pw_tree.specs.Spelling.{symbols}
use Rattle.pw_tree.specs.Symbols.{Spelled, symbol_of}
use Rattle.pw_tree.specs.Trees.{Module}
use Rattle.pw_parse_grammar.specs.Input.{Input}
use Rattle.pw_parse_grammar.specs.Modules.{read}
use Rattle.pw_parse_grammar.proofs.Sound.Base.{Post}
use Rattle.pw_parse_grammar.proofs.Sound.Module.{IsRead, read-sound}
use Rattle.pw_parse_grammar.proofs.Sound.Symbols.{spelled_of_symbols}

pub tree-sound : (tokens : List Spelled) (tree : Module) (behind : Input) → read (map symbol_of tokens) ≡ Ok (tree, behind) → IsTreeOf tokens tree
tree-sound tokens tree behind h =
    let is : IsRead (map symbol_of tokens) tree = subst (λ o. Post (λ t j. IsRead (map symbol_of tokens) t) o) h (read-sound (map symbol_of tokens)) in
    record { well_formed = is.well_formed; numbered = is.numbered; spells = spelled_of_symbols tokens (symbols tree) is.spells }
