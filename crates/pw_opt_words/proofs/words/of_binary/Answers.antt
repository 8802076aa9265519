use Rattle.std.proofs.Common.{◌∙◌, sym, ap}
use Rattle.pw_opt_rules.specs.declared.flat.Flat.{Flat}
use Rattle.pw_opt_rules.specs.Flat.{of_two}
use Rattle.pw_opt_rules.specs.Constants.{bin_word}
use Rattle.pw_opt_words.proofs.words.of_binary.Goals as goal

pub returns-in-Many : goal.returns-in-Many
returns-in-Many c = c.beside_many.ensures (bin_word c.args.kind) ∙ ap (λ (x : Flat). of_two (bin_word c.args.kind) x c.args.b) (sym c.in-Many.is)
