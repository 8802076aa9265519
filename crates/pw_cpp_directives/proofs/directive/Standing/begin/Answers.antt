use Rattle.std.proofs.Common.{◌≡◌, Err, rules}
use Rattle.pw_cpp_directives.specs.Obeying.{IsKept, OpensIf, standing_of}
use Rattle.pw_cpp_directives.proofs.Effects.{always, kept-judged, kept-on, opened-done, opens-fault, opens-judged, opens-behind}
use Rattle.pw_cpp_directives.proofs.directive.Standing.begin.Goals as goal

pub returns-in_err-holds-clause-does : goal.returns-in_err-holds-clause-does
returns-in_err-holds-clause-does c =
    opens-fault c.args.source.now c.args.digits (standing_of c.args.self.now) c.args.d.hash c.args.d.tokens.now c.holds.new.self c.in_err-holds.field-0.0 c.from_residual.result (let e : c.from_residual.result ≡ Err c.in_err-holds.field-0.0 = first_of (search (rules, c.from_residual.ensures), cc (c.from_residual.ensures)) in e) c.in_err-holds.ensures.judges

pub returns-clause-does : goal.returns-clause-does
returns-clause-does c =
    opened-done (OpensIf c.args.source.now c.args.digits (standing_of c.args.self.now) c.args.d.hash c.args.d.tokens.now) c.holds.new.self c.open.new.self c.opened.result c.open.result
    c.open.ensures.opened c.open.ensures.fault
    (opens-behind c.args.source.now c.args.digits c.args.d.hash c.args.d.tokens.now c.args.self.now c.holds.new.self c.in_ok-holds.holds c.opened.result c.in_ok-holds.ensures.rest c.in_ok-holds.ensures.judges c.opened.ensures)

pub returns-clause-kept : goal.returns-clause-kept
returns-clause-kept c =
    always (λ _. IsKept c.args.self.now c.open.new.self) c.open.result
    (λ _. kept-on c.args.self.now c.holds.new.self c.open.new.self
    (kept-judged c.args.self.now c.holds.new.self c.in_ok-holds.ensures.keeps c.in_ok-holds.ensures.limits c.in_ok-holds.ensures.rest) c.open.ensures.beside)
