use Rattle.std.proofs.Common.{refl, sym, ap, ◌∙◌, Some, length, option_map, slice_set}
use Rattle.std.proofs.lemmas.Bool.{ltb-true}
use Rattle.std.proofs.lemmas.List.{length-set, with_items_is}
use Rattle.std.proofs.lemmas.Option.{slice_get-map, slice_get_read}
use Rattle.std.specs.Vec.{with_items}
use Rattle.pw_typed.specs.Views.{view_local}
use Rattle.pw_interp_calls.specs.Views.{view_env}
use Rattle.pw_interp_functions.proofs.Making.{made_here}
use Rattle.pw_interp_functions.proofs.locals.make_local.Goals as goal

pub returns-clause-made : goal.returns-clause-made
returns-clause-made c =
    let k = c.args.local in
    let d = c.in-Some.declared.now in
    let all = c.args.env.now.locals.now in
    let numbers = c.args.env.now.numbers in
    let new = c.set_number.new.numbers in
    let there = slice_get_read all (length all) k d refl (ltb-true k (length all) (sym c.in-Some.ensures.lookup.0)) c.in-Some.ensures.lookup.1 in
    let long = ap length c.set_number.ensures ∙ length-set c.deref_mut.result.now k (Some c.in_ok-number.number) ∙ ap length c.deref_mut.ensures.value ∙ sym numbers.ok.0 in
    made_here k (view_env c.args.env.now) c.args.objects.now c.make.new.self (view_local d) c.in-Some-2.layout (with_items numbers new).items
    (slice_get-map view_local all k ∙ ap (option_map view_local) there)
    (sym c.in_ok-layout.ensures ∙ c.in-Some-2.is)
    c.in_ok-number.ensures.ok
    (with_items_is numbers new long
    ∙ c.set_number.ensures
    ∙ ap (λ ns. slice_set ns k (Some c.in_ok-number.number)) c.deref_mut.ensures.value
    ∙ ap (λ n. slice_set numbers.items k (Some n)) c.in_ok-number.ensures.number)
