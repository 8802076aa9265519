-- Tokens have at most one tree, which is what is read from them.
use Rattle.std.proofs.Common.{◌≡◌, List, map, Ok, sym, ap, ◌∙◌}
use Rattle.pw_tree.specs.Grammar.{IsTreeOf}
use Rattle.pw_tree.specs.Spelling.{symbols}
use Rattle.pw_tree.specs.Symbols.{Spelled, symbol_of}
use Rattle.pw_tree.specs.Trees.{Module}
use Rattle.pw_parse_grammar.specs.Input.{Outcome}
use Rattle.pw_parse_grammar.specs.Modules.{read}
use Rattle.pw_parse_grammar.proofs.Written.Module.{behind_all, module-read}
use Rattle.pw_parse_grammar.proofs.Written.Symbols.{OneSymbol, symbols_of_spelled}

module _ (one : OneSymbol) where
  pub tree-read : (tokens : List Spelled) (tree : Module) → IsTreeOf tokens tree → read (map symbol_of tokens) ≡ Ok (tree, behind_all tree)
  tree-read tokens tree h = ap (λ v. read (map symbol_of v)) (sym h.spells) ∙ ap read (symbols_of_spelled one (symbols tree)) ∙ module-read tree h.well_formed h.numbered

tree_in : (o : Outcome Module) (tree : Module) → Module
tree_in (Ok p) tree = p.0
tree_in _ tree = tree

pub same-tree : OneSymbol → (tokens : List Spelled) (tree other : Module) → IsTreeOf tokens tree → IsTreeOf tokens other → tree ≡ other
unfolding tree_in
same-tree one tokens tree other h k = ap (λ o. tree_in o tree) (sym (tree-read one tokens tree h) ∙ tree-read one tokens other k)
