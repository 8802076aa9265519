use Rattle.std.proofs.Common.{◌≡◌, ◌∙◌, rules, refl, sym, ap, Some, None, arith, option_and_then}
use Rattle.std.specs.Prelude.{slice_get}
use Rattle.std.proofs.lemmas.Grind.{common_steps}
use Rattle.pw_typed.specs.Views.{view_stmt}
use Rattle.pw_interp_calls.specs.Views.{view_env}
use Rattle.pw_interp_todo.specs.Flows.{view_entry}
use Rattle.pw_interp_todo.proofs.LeadLaws.{further, left_so, named, no_memory}
use Rattle.pw_interp_functions.specs.Locals.{made_one}
use Rattle.pw_interp_pushes.proofs.Opening.{local_leads, local_stops, noted_is}
use Rattle.pw_interp_pushes.proofs.blocks.open_one.Goals as goal

pub returns-in_err-opened : goal.returns-in_err-opened
returns-in_err-opened c = record { steps = λ rest. no_memory (search rules); room = refl; stands = c.make_local.ensures.world }

pub returns-in_err-control : goal.returns-in_err-control
returns-in_err-control c = record { steps = λ rest. no_memory (search rules); room = refl; stands = c.make_local.ensures.world }

pub returns-then-not-opened : goal.returns-then-not-opened
returns-then-not-opened c =
    let call = c.args.call.now in
    let e = view_env call.env in
    let none : made_one c.args.local e c.args.state.now.objects ≡ None = first_of (cc, grind (arith, common_steps)) in
    let stay : c.make_local.new.objects ≡ c.args.state.now.objects = c.in_ok-opened.ensures.unmade (search rules) in
    record {
      steps = λ rest. rw stay (record { goes = tt; stopped = local_stops (view_stmt c.args.of.now) (view_entry c.args.at) e call.bound c.args.bound c.args.made c.args.local call.todo.items rest c.requires.next c.requires.place none });
      room = refl;
      stands = c.make_local.ensures.world;
    }

pub returns : goal.returns
returns c =
    let call = c.args.call.now in
    let e = view_env call.env in
    let inner = view_env c.make_local.new.env in
    let k = c.args.local in
    let objects = c.args.state.now.objects in
    let more = c.make_local.new.objects in
    let made : made_one k e objects ≡ Some (inner, more) = first_of (cc, grind (arith, common_steps)) in
    let back = noted_is k c.count-count.result c.number_of-before.result e inner objects more made c.count-count.ensures
    (c.number_of-before.ensures ∙ ap (λ ns. option_and_then (λ n. n) (slice_get ns k)) c.deref.ensures.value) in
    record {
      steps = λ rest. left_so _ refl
          (further
          (local_leads (view_stmt c.args.of.now) (view_entry c.args.at) e call.bound c.args.bound c.args.made k call.todo.items rest inner more c.count-count.result c.number_of-before.result
          c.requires.next c.requires.place made c.count-count.ensures back c.make_local.ensures.world)
          (named (sym (c.in_ok-control.ensures inner call.bound rest))));
      room = refl;
      stands = c.make_local.ensures.world;
    }
