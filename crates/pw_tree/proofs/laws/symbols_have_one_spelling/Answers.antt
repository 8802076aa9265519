use Rattle.pw_tree.proofs.SymbolLaws.{symbol_of_spelled, spelled_symbol_of}
use Rattle.pw_tree.proofs.laws.symbols_have_one_spelling.Goals as goal

pub returns : goal.returns
returns c = record { of_symbol = symbol_of_spelled; of_spelling = spelled_symbol_of }
