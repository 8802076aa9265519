use Rattle.std.proofs.Common.{List, ℕ, Ok, Err, [], length, take, drop, ◌-◌, sym, ap, subst, ◌∙◌}
use Rattle.pw_where.specs.declared.shown.Shown.{Shown}
use Rattle.pw_where.specs.Shown.{value_line}
use Rattle.pw_where.specs.Looks.{Values, no_more, value_of, lost_of, behind}
use Rattle.pw_where.proofs.Lists.{front_and_rest, no_item, behind_more, behind_none}
use Rattle.pw_where.proofs.lines.with_values.Goals as goal

pub returns-in-Err : goal.returns-in-Err
returns-in-Err c =
    let r = c.loop-rest.rest.now in
    let g = c.global-item.result in
    let address = c.in-Err.field-0.0 in
    let e = front_and_rest r g c.in-len1-up.len_at_least c.global-item.is in
    let lost = lost_of g (take (length r - 1) (drop 1 r)) address c.in-Err.ensures in
    let all = c.loop-rest.invariant (Err address) (subst (λ (xs : List Shown). Values c.args.functions.now c.args.frames.now c.args.machine.now.core xs (Err address)) (sym e) lost) in
    all

pub loop-rest-preserved : goal.loop-rest-preserved
loop-rest-preserved c = λ lines walks.
    let r = c.loop-rest.rest.now in
    let g = c.global-item.result in
    let line = value_line g c.in-Ok.word in
    let e = front_and_rest r g c.in-len1-up.len_at_least c.global-item.is in
    let shown = value_of g (take (length r - 1) (drop 1 r)) c.in-Ok.word lines c.in-Ok.ensures walks in
    let all = c.loop-rest.invariant (behind line lines) (subst (λ (xs : List Shown). Values c.args.functions.now c.args.frames.now c.args.machine.now.core xs (behind line lines)) (sym e) shown) in
    (all.0, all.1, ap (λ (t : List ℕ). behind t lines) c.in_ok-push_value-in-Ok.ensures ∙ behind_more c.loop-rest.text.items line lines ∙ all.2)

pub returns : goal.returns
returns c =
    let e = no_item c.loop-rest.rest.now c.in_default.len_below in
    let all = c.loop-rest.invariant (Ok []) (subst (λ (xs : List Shown). Values c.args.functions.now c.args.frames.now c.args.machine.now.core xs (Ok [])) (sym e) no_more) in
    (all.0, all.1, sym (behind_none c.loop-rest.text.items) ∙ all.2)
