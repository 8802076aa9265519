use Rattle.std.proofs.Common.{◌≡◌, Err, reverse, rules, arith}
use Rattle.pw_cpp_directives.specs.Directives.{TurnsElif}
use Rattle.pw_cpp_directives.specs.Obeying.{IsDoneBy, IsKept, standing_of}
use Rattle.pw_cpp_directives.proofs.Effects.{always, elif-alone-fault, elif-fault-done, elif-judged-done, elif-late-done, elif-taken-done, empty-beside, handed-on, kept-beside, kept-both, kept-judged, kept-on}
use Rattle.pw_cpp_directives.proofs.directive.Standing.turn_elif.Goals as goal

pub returns-in_err-section-clause-does : goal.returns-in_err-section-clause-does
returns-in_err-section-clause-does c =
    handed-on (IsDoneBy (TurnsElif c.args.source.now c.args.digits (standing_of c.args.self.now) c.args.d.hash c.args.d.tokens.now (reverse c.args.self.now.sections)) c.innermost.new.self) c.in_err-section.field-0.0 c.from_residual.result
    (let e : c.from_residual.result ≡ Err c.in_err-section.field-0.0 = first_of (search (rules, c.from_residual.ensures), cc (c.from_residual.ensures)) in e)
    (elif-alone-fault c.args.self.now c.args.d.hash c.in_err-section.field-0.0 c.in_err-section.ensures.fault.0 c.in_err-section.ensures.fault.1 c.args.source.now c.args.digits c.args.d.tokens.now)

pub returns-then-section-clause-does : goal.returns-then-section-clause-does
returns-then-section-clause-does c =
    elif-late-done c.args.self.now c.innermost.new.self c.in_ok-section.section c.in_ok-section.ensures.taken c.args.d.hash c.args.d.tokens.now c.args.source.now c.args.digits c.innermost.new.self c.faulty.result c.if-section.true c.faulty.ensures

pub returns-then-section-2-clause-does : goal.returns-then-section-2-clause-does
returns-then-section-2-clause-does c =
    elif-taken-done c.args.self.now c.innermost.new.self c.in_ok-section.section c.in_ok-section.ensures.taken c.args.d.hash c.args.d.tokens.now c.args.source.now c.args.digits c.open.new.self c.with_elif.result c.open.result
    c.if-section.false c.if-section-2.true c.with_elif.ensures c.open.ensures.opened c.open.ensures.fault

pub returns-then-section-2-clause-kept : goal.returns-then-section-2-clause-kept
returns-then-section-2-clause-kept c =
    always (λ _. IsKept c.args.self.now c.open.new.self) c.open.result
    (λ _. kept-on c.args.self.now c.innermost.new.self c.open.new.self (kept-beside c.args.self.now c.innermost.new.self c.requires.limits c.in_ok-section.ensures.beside) c.open.ensures.beside)

pub holds-requires-clause-limits : goal.holds-requires-clause-limits
holds-requires-clause-limits c = omega (arith, c.requires.limits, c.in_ok-section.ensures.beside.2)

pub holds-requires-clause-empty : goal.holds-requires-clause-empty
holds-requires-clause-empty c = empty-beside c.args.self.now c.innermost.new.self c.in_ok-section.ensures.beside c.requires.empty

pub returns-in_err-holds-clause-does : goal.returns-in_err-holds-clause-does
returns-in_err-holds-clause-does c =
    elif-fault-done c.args.self.now c.innermost.new.self c.in_ok-section.section c.in_ok-section.ensures.taken c.args.d.hash c.args.d.tokens.now c.args.source.now c.args.digits c.holds.new.self c.in_err-holds.field-0.0 c.from_residual-in_err-holds.result
    (let e : c.from_residual-in_err-holds.result ≡ Err c.in_err-holds.field-0.0 = first_of (search (rules, c.from_residual-in_err-holds.ensures), cc (c.from_residual-in_err-holds.ensures)) in e)
    c.if-section.false c.if-section-2.false c.in_err-holds.ensures.judges

pub returns-clause-does : goal.returns-clause-does
returns-clause-does c =
    elif-judged-done c.args.self.now c.innermost.new.self c.in_ok-section.section c.in_ok-section.ensures.taken c.args.d.hash c.args.d.tokens.now c.args.source.now c.args.digits c.open-2.new.self c.with_elif-2.result c.in_ok-holds.holds c.holds.new.self c.open-2.result
    c.if-section.false c.if-section-2.false c.with_elif-2.ensures c.in_ok-holds.ensures.rest c.in_ok-holds.ensures.judges c.open-2.ensures.opened c.open-2.ensures.fault

pub returns-clause-kept : goal.returns-clause-kept
returns-clause-kept c =
    always (λ _. IsKept c.args.self.now c.open-2.new.self) c.open-2.result
    (λ _. kept-both c.args.self.now c.innermost.new.self c.open-2.new.self c.in_ok-section.ensures.beside
    (kept-on c.innermost.new.self c.holds.new.self c.open-2.new.self
    (kept-judged c.innermost.new.self c.holds.new.self c.in_ok-holds.ensures.keeps c.in_ok-holds.ensures.limits c.in_ok-holds.ensures.rest) c.open-2.ensures.beside))
