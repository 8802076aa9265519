use Rattle.std.proofs.Common.{Ok, sym, ap, ◌∙◌, option_map}
use Rattle.pw_interp_state.specs.Shown.{view_state}
use Rattle.pw_interp_calls.specs.Functions.{callable_of}
use Rattle.pw_interp_calls.specs.WorldViews.{view_world}
use Rattle.pw_interp_calls.specs.declared.ending.Ending.TheVariants as E
use Rattle.pw_interp_world.specs.declared.program.Body.TheVariants as B
use Rattle.pw_interp.proofs.RunLaws.{main_there, no_main, over_named, over_wrong}
use Rattle.pw_interp.proofs.run.run_main.Goals as goal

pub returns-in-Some-clause-over : goal.returns-in-Some-clause-over
returns-in-Some-clause-over g c =
    let world = view_world c.args.world.now in
    over_named world (view_state c.args.state.now) (view_state c.call_main.new.state) (g.I.Source.rest c.args.input.now) (g.O.Sink.taken c.args.out.now) (g.I.Source.rest c.call_main.new.input) (g.O.Sink.taken c.call_main.new.out) c.call_main.result
    (main_there world c.args.bound (callable_of (B.Defined c.in-Some.home c.in-Some.f)) (sym c.main_of.ensures ∙ ap (option_map (λ d. callable_of (B.Defined d.0 d.1))) c.in-Some.is))
    c.call_main.ensures.over

pub returns-in-None-clause-over : goal.returns-in-None-clause-over
returns-in-None-clause-over g c =
    let world = view_world c.args.world.now in
    let before = view_state c.args.state.now in
    let rest = g.I.Source.rest c.args.input.now in
    let taken = g.O.Sink.taken c.args.out.now in
    over_named world before before rest taken rest taken (Ok E.Wrong)
    (no_main world c.args.bound (sym c.main_of.ensures ∙ ap (option_map (λ d. callable_of (B.Defined d.0 d.1))) c.in-None.is))
    (over_wrong world before rest taken)
