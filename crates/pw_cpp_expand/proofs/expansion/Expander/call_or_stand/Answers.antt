use Rattle.std.proofs.Common.{◌≡◌, ◌+◌, [], ◌∷◌, ap, arith, length, length-append, Err, rules, subst, sym, ◌∙◌}
use Rattle.pw_cpp_expand.specs.Left.{left}
use Rattle.pw_cpp_expand.specs.Lookahead.{Faulty, LooksAhead}
use Rattle.pw_cpp_expand.specs.Numbered.{HaveEmpty, IsFault, at_hand}
use Rattle.pw_cpp_expand.specs.declared.progress.ExpandFault.{ExpandFault}
use Rattle.pw_cpp_expand.specs.declared.progress.Mode.{Mode}
use Rattle.pw_cpp_expand.proofs.Falling.{if-most, looked-left, looks-less, out-left, taken-left}
use Rattle.pw_cpp_expand.proofs.Whole.{ahead-ready, opens-ready, opens-whole, stands-before, stands-last, step-failed, unread-step}
use Rattle.pw_cpp_expand.proofs.expansion.Expander.call_or_stand.Goals as goal
use Rattle.pw_cpp_sets.specs.Sets.{Known}

pub look_ahead-requires : goal.look_ahead-requires
look_ahead-requires c = c.requires.ready.place

pub returns-in_err-look_ahead-clause-comes : goal.returns-in_err-look_ahead-clause-comes
returns-in_err-look_ahead-clause-comes c =
    let P : Mode → Type 0 = λ x. IsFault c.in_err-look_ahead.field-0.0 (λ f. (any : Known) → HaveEmpty any → LooksAhead c.args.ground.text.now x (at_hand any c.args.self.now.pending) c.args.progress.now (Faulty f)) in
    step-failed c.args.ground.source.now c.args.ground.text.now c.args.ground.macros.now c.args.ground.mode c.args.sets.now _ _ _ _ c.in_err-look_ahead.field-0.0 c.from_residual.result
    (let e : c.from_residual.result ≡ Err c.in_err-look_ahead.field-0.0 = first_of (search (rules, c.from_residual.ensures), cc (c.from_residual.ensures)) in e)
    (unread-step c.args.ground.source.now c.args.ground.text.now c.args.ground.macros.now c.args.ground.mode c.args.sets.now c.args.self.now c.args.name c.args.progress.now c.args.meaning.now c.args.parameters.now c.requires.meant c.requires.parameters c.in_err-look_ahead.field-0.0
    c.requires.ready.empty (subst P c.mode_in-mode.ensures c.in_err-look_ahead.ensures.answers))

pub put_out-requires : goal.put_out-requires
put_out-requires c =
    (ahead-ready c.args.ground.source.now c.args.ground.text.now c.args.ground.macros.now c.args.ground.mode c.args.sets.now c.args.self.now c.args.name c.args.progress.now c.args.meaning.now c.args.parameters.now c.requires.meant c.requires.parameters c.requires.ready c.requires.name
    c.mode_in-mode.result c.mode_in-mode.ensures c.look_ahead.new.pending c.look_ahead.new.progress c.in_ok-look_ahead.ensures.answers c.in_ok-look_ahead.ensures.within
    (c.in_ok-look_ahead.ensures.known c.args.sets.now c.requires.ready.empty.0 c.requires.ready.sets.0)).limits.1

pub put_out-requires-2 : goal.put_out-requires-2
put_out-requires-2 c =
    (ahead-ready c.args.ground.source.now c.args.ground.text.now c.args.ground.macros.now c.args.ground.mode c.args.sets.now c.args.self.now c.args.name c.args.progress.now c.args.meaning.now c.args.parameters.now c.requires.meant c.requires.parameters c.requires.ready c.requires.name
    c.mode_in-mode.result c.mode_in-mode.ensures c.look_ahead.new.pending c.look_ahead.new.progress c.in_ok-look_ahead.ensures.answers c.in_ok-look_ahead.ensures.within
    (c.in_ok-look_ahead.ensures.known c.args.sets.now c.requires.ready.empty.0 c.requires.ready.sets.0)).limits.1

pub returns-in_default-clause-comes : goal.returns-in_default-clause-comes
returns-in_default-clause-comes c =
    stands-last c.args.ground.source.now c.args.ground.text.now c.args.ground.macros.now c.args.ground.mode c.args.sets.now c.args.self.now c.args.name c.args.progress.now c.args.meaning.now c.args.parameters.now c.requires.meant c.requires.parameters c.requires.ready c.requires.name
    c.mode_in-mode.result c.mode_in-mode.ensures c.look_ahead.new.pending c.look_ahead.new.progress c.in_ok-look_ahead.ensures.answers c.in_ok-look_ahead.ensures.within
    (c.in_ok-look_ahead.ensures.known c.args.sets.now c.requires.ready.empty.0 c.requires.ready.sets.0) c.pop.new.self c.in_default.ensures.0 c.in_default.ensures.1 _ _ c.put_out.result c.put_out.ensures

pub open_call-requires-clause-ready : goal.open_call-requires-clause-ready
open_call-requires-clause-ready c =
    opens-ready c.args.ground.source.now c.args.ground.text.now c.args.ground.macros.now c.args.ground.mode c.args.sets.now c.args.self.now c.args.name c.args.progress.now c.args.meaning.now c.args.parameters.now c.requires.meant c.requires.parameters c.requires.ready c.requires.name
    c.mode_in-mode.result c.mode_in-mode.ensures c.look_ahead.new.pending c.look_ahead.new.progress c.in_ok-look_ahead.ensures.answers c.in_ok-look_ahead.ensures.within
    (c.in_ok-look_ahead.ensures.known c.args.sets.now c.requires.ready.empty.0 c.requires.ready.sets.0) c.pop.new.self c.in-Some.first c.in-Some.ensures

pub returns-then-is_spelled-clause-comes : goal.returns-then-is_spelled-clause-comes
returns-then-is_spelled-clause-comes c =
    opens-whole c.args.ground.source.now c.args.ground.text.now c.args.ground.macros.now c.args.ground.mode c.args.sets.now c.args.self.now c.args.name c.args.progress.now c.args.meaning.now c.args.parameters.now c.requires.meant c.requires.parameters c.requires.ready c.requires.name
    c.mode_in-mode.result c.mode_in-mode.ensures c.look_ahead.new.pending c.look_ahead.new.progress c.in_ok-look_ahead.ensures.answers c.in_ok-look_ahead.ensures.within
    (c.in_ok-look_ahead.ensures.known c.args.sets.now c.requires.ready.empty.0 c.requires.ready.sets.0) c.pop.new.self c.in-Some.first c.in-Some.ensures (sym c.is_spelled.ensures ∙ c.if-is_spelled.true) _ _ _ c.open_call.result c.open_call.ensures.comes

pub returns-clause-comes : goal.returns-clause-comes
returns-clause-comes c =
    stands-before c.args.ground.source.now c.args.ground.text.now c.args.ground.macros.now c.args.ground.mode c.args.sets.now c.args.self.now c.args.name c.args.progress.now c.args.meaning.now c.args.parameters.now c.requires.meant c.requires.parameters c.requires.ready c.requires.name
    c.mode_in-mode.result c.mode_in-mode.ensures c.look_ahead.new.pending c.look_ahead.new.progress c.in_ok-look_ahead.ensures.answers c.in_ok-look_ahead.ensures.within
    (c.in_ok-look_ahead.ensures.known c.args.sets.now c.requires.ready.empty.0 c.requires.ready.sets.0) c.pop.new.self c.push.new.self c.in-Some.first c.in-Some.ensures c.in_ok-push.ensures (sym c.is_spelled.ensures ∙ c.if-is_spelled.false) _ _ c.put_out-2.result c.put_out-2.ensures

pub returns-in_default-clause-left : goal.returns-in_default-clause-left
returns-in_default-clause-left c =
    let less = looks-less c.lines_go_on.ensures.tokens c.args.ground.text.now c.mode_in-mode.result c.args.self.now.pending c.look_ahead.new.pending c.args.progress.now c.look_ahead.new.progress c.args.sets.now c.requires.ready.empty
    c.in_ok-look_ahead.ensures.within c.in_ok-look_ahead.ensures.answers in
    if-most c.put_out.result _ (left (length c.args.ground.text.now) (record c.args.self.now { pending = c.pop.new.self }) c.look_ahead.new.progress) (left (length c.args.ground.text.now) c.args.self.now c.args.progress.now)
    (omega (arith, looked-left (length c.args.ground.text.now) c.args.self.now c.args.progress.now c.look_ahead.new.progress c.args.self.now.pending c.look_ahead.new.pending less, ap length c.in_default.ensures.0, ap length c.in_default.ensures.1))
    (out-left (length c.args.ground.text.now) (record c.args.self.now { pending = c.pop.new.self }) c.look_ahead.new.progress c.args.ground.mode c.args.name c.put_out.new.self c.put_out.new.progress c.put_out.result c.put_out.ensures)

pub returns-then-is_spelled-clause-left : goal.returns-then-is_spelled-clause-left
returns-then-is_spelled-clause-left c =
    let less = looks-less c.lines_go_on.ensures.tokens c.args.ground.text.now c.mode_in-mode.result c.args.self.now.pending c.look_ahead.new.pending c.args.progress.now c.look_ahead.new.progress c.args.sets.now c.requires.ready.empty
    c.in_ok-look_ahead.ensures.within c.in_ok-look_ahead.ensures.answers in
    if-most c.open_call.result _ (left (length c.args.ground.text.now) (record c.args.self.now { pending = c.pop.new.self }) c.look_ahead.new.progress + 1) (left (length c.args.ground.text.now) c.args.self.now c.args.progress.now)
    (taken-left (length c.args.ground.text.now) c.args.self.now c.args.progress.now c.look_ahead.new.progress c.args.self.now.pending c.look_ahead.new.pending c.pop.new.self c.in-Some.first c.in-Some.ensures less)
    c.open_call.ensures.left

pub returns-clause-left : goal.returns-clause-left
returns-clause-left c =
    let less = looks-less c.lines_go_on.ensures.tokens c.args.ground.text.now c.mode_in-mode.result c.args.self.now.pending c.look_ahead.new.pending c.args.progress.now c.look_ahead.new.progress c.args.sets.now c.requires.ready.empty
    c.in_ok-look_ahead.ensures.within c.in_ok-look_ahead.ensures.answers in
    if-most c.put_out-2.result _ (left (length c.args.ground.text.now) (record c.args.self.now { pending = c.push.new.self }) c.look_ahead.new.progress) (left (length c.args.ground.text.now) c.args.self.now c.args.progress.now)
    (omega (
      arith,
      taken-left (length c.args.ground.text.now) c.args.self.now c.args.progress.now c.look_ahead.new.progress c.args.self.now.pending c.look_ahead.new.pending c.pop.new.self c.in-Some.first c.in-Some.ensures less,
      ap length c.in_ok-push.ensures,
      length-append c.pop.new.self (c.in-Some.first ∷ []),
    ))
    (out-left (length c.args.ground.text.now) (record c.args.self.now { pending = c.push.new.self }) c.look_ahead.new.progress c.args.ground.mode c.args.name c.put_out-2.new.self c.put_out-2.new.progress c.put_out-2.result c.put_out-2.ensures)
