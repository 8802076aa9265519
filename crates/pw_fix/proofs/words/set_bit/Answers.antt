use Rattle.std.proofs.Common.{◌/◌, get_or}
use Rattle.std.proofs.lemmas.Bool.{eqb-true, eq-eqb}
use Rattle.std.proofs.lemmas.List.{get_or_default}
use Rattle.pw_fix.proofs.Bits.{set_read_bit, read_bit}
use Rattle.pw_fix.proofs.words.set_bit.Goals as goal

pub returns-clause-holds : goal.returns-clause-holds
returns-clause-holds c = λ j.
    let ws = c.args.words.now in
    let word = get_or ws (c.args.i / 64) 0 in
    set_read_bit ws c.args.i j word c.requires (get_or_default ws (c.args.i / 64) 0 word c.requires)

pub returns-clause-added : goal.returns-clause-added
returns-clause-added c =
    let ws = c.args.words.now in
    let word = get_or ws (c.args.i / 64) 0 in
    let test = read_bit ws c.args.i word c.requires (get_or_default ws (c.args.i / 64) 0 word c.requires) in
    ((λ t. test.0 (eqb-true _ _ t)), (λ no. eq-eqb _ _ (test.1 no)))
