use Rattle.std.proofs.Common.{◌≡◌, ap, arith}
use Rattle.pw_parse_grammar.specs.Declarations.{init}
use Rattle.pw_parse_cursor.proofs.Turns.{deeper}
use Rattle.pw_parse.proofs.init.+init.Goals as goal

pub returns-then-depth-eq0 : goal.returns-then-depth-eq0
unfolding init
returns-then-depth-eq0 t c _ = let none : c.args.depth ≡ 0 = omega arith in ap (λ n. init c.args.limit n c.args.tokens.now) none

pub returns : goal.returns
unfolding init
returns t c = rw (deeper (λ n. init c.args.limit n c.args.tokens.now) c.args.depth (omega arith)) c.init_of.ensures
