use Rattle.std.proofs.Common.{◌≡◌, ap, arith}
use Rattle.pw_parse_grammar.specs.Declarations.{parts}
use Rattle.pw_parse_cursor.proofs.Turns.{deeper}
use Rattle.pw_parse_knot.proofs.knot.+parts.Goals as goal

pub read_expr-returns-then-depth-eq0 : goal.read_expr-returns-then-depth-eq0
unfolding parts
read_expr-returns-then-depth-eq0 t c _ = let none : c.args.depth ≡ 0 = omega arith in ap (λ n. (parts n).expr c.args.level c.args.tokens.now) none

pub read_expr-returns : goal.read_expr-returns
unfolding parts
read_expr-returns t c = rw (deeper (λ n. (parts n).expr c.args.level c.args.tokens.now) c.args.depth (omega arith)) c.expr_of.ensures

pub read_specifiers-returns-then-depth-eq0 : goal.read_specifiers-returns-then-depth-eq0
unfolding parts
read_specifiers-returns-then-depth-eq0 t c _ = let none : c.args.depth ≡ 0 = omega arith in ap (λ n. (parts n).specifiers c.args.storage c.args.tokens.now) none

pub read_specifiers-returns : goal.read_specifiers-returns
unfolding parts
read_specifiers-returns t c = rw (deeper (λ n. (parts n).specifiers c.args.storage c.args.tokens.now) c.args.depth (omega arith)) c.specifiers_of.ensures

pub read_declarator-returns-then-depth-eq0 : goal.read_declarator-returns-then-depth-eq0
unfolding parts
read_declarator-returns-then-depth-eq0 t c _ = let none : c.args.depth ≡ 0 = omega arith in ap (λ n. (parts n).declarator c.args.place c.args.typed c.args.tokens.now) none

pub read_declarator-returns : goal.read_declarator-returns
unfolding parts
read_declarator-returns t c = rw (deeper (λ n. (parts n).declarator c.args.place c.args.typed c.args.tokens.now) c.args.depth (omega arith)) c.declarator_of.ensures
