-- Each well-formed tree is spelled as one whose nodes have the numbers of their tokens, and so tokens that are not read are no tree's.
use Rattle.std.proofs.Common.{◌≡◌, List, map, Ok, Err, refl, sym, ap, ◌∙◌}
use Rattle.pw_tree.specs.Grammar.{IsTreeOf}
use Rattle.pw_tree.specs.Spelling.{spelling}
use Rattle.pw_tree.specs.Numbering.{NumberedModule}
use Rattle.pw_tree.specs.Symbols.{Spelled, spelled, symbol_of}
use Rattle.pw_tree.specs.Trees.{Module}
use Rattle.pw_tree.specs.WellFormed.{WellFormedModule}
use Rattle.pw_parse_grammar.specs.Input.{Input, Outcome}
use Rattle.pw_parse_grammar.specs.Modules.{read}
use Rattle.pw_parse_grammar.proofs.Written.Module.{behind_all}
use Rattle.pw_parse_grammar.specs.TokenNumbers.{number_module}
use Rattle.pw_parse_grammar.proofs.Renumber.Numbers.{numbered-module}
use Rattle.pw_parse_grammar.proofs.Renumber.Spelling.{respell-externals}
use Rattle.pw_parse_grammar.proofs.Renumber.Statements.{well-module}
use Rattle.pw_parse_grammar.proofs.Written.Laws.{same-tree, tree-read}
use Rattle.pw_parse_grammar.proofs.Written.Symbols.{OneSymbol}

-- what is written with other numbers is written with the tokens' own
pub renumbered : (tokens : List Spelled) (tree : Module) → WellFormedModule tree → spelling tree ≡ tokens → IsTreeOf tokens (number_module tree)
renumbered tokens tree h e = record { well_formed = well-module tree h; numbered = numbered-module tree; spells = ap (map spelled) (respell-externals tree.externals 1 refl) ∙ e }

-- and so it is read
pub spelled-read : OneSymbol → (tokens : List Spelled) (tree : Module) → WellFormedModule tree → spelling tree ≡ tokens → (u : Module) × (behind : Input) × (read (map symbol_of tokens) ≡ Ok (u, behind))
spelled-read one tokens tree h e = (number_module tree, behind_all (number_module tree), tree-read one tokens (number_module tree) (renumbered tokens tree h e))

ok_is_no_fault : {A : Type 0} (x : A) (i j : Input) (o : Outcome A) → o ≡ Ok (x, i) → o ≡ Err j → ⊥
ok_is_no_fault x i j o h k = cc

-- tokens whose reading ends at a fault are the spelling of no well-formed tree
pub no-tree : OneSymbol → (tokens : List Spelled) (at : Input) → read (map symbol_of tokens) ≡ Err at → (tree : Module) → WellFormedModule tree → spelling tree ≡ tokens → ⊥
no-tree one tokens at fault tree h e = ok_is_no_fault _ _ at (read (map symbol_of tokens)) (spelled-read one tokens tree h e).2 fault

-- ---- trees of one spelling

-- a well-formed tree with its tokens' numbers is a tree of its tokens
pub own-tree : (tree : Module) → WellFormedModule tree → IsTreeOf (spelling tree) (number_module tree)
own-tree tree h = renumbered (spelling tree) tree h refl

pub same-spelling : OneSymbol → (tree other : Module) → WellFormedModule tree → WellFormedModule other → spelling tree ≡ spelling other → number_module tree ≡ number_module other
same-spelling one tree other h k e = same-tree one (spelling tree) (number_module tree) (number_module other) (own-tree tree h) (renumbered (spelling tree) other k (sym e))

pub numbers-kept : OneSymbol → (tree : Module) → WellFormedModule tree → NumberedModule tree → number_module tree ≡ tree
numbers-kept one tree h n = same-tree one (spelling tree) (number_module tree) tree (own-tree tree h) (record { well_formed = h; numbered = n; spells = refl })
