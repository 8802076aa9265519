use Rattle.std.proofs.Common.{◌≡◌, List, ap, subst, ◌∙◌}
use Rattle.pw_image.specs.declared.image.Image.{Image}
use Rattle.pw_image.specs.declared.image.Function.{Function}
use Rattle.pw_image.specs.declared.image.GlobalObject.{GlobalObject}
use Rattle.pw_where.specs.Calls.{of_modules, entries_of, Tells}
use Rattle.pw_where.specs.Shown.{shown_of, IsByName}
use Rattle.pw_where.specs.Looks.{globals_of}
use Rattle.pw_where.proofs.looking.plan_of.Goals as goal

pub returns : goal.returns
returns c = λ k h.
    let same = c.in_ok-image.ensures.image k h in
    let globals : c.as_slice.result.now ≡ k.value.globals = c.as_slice.ensures ∙ ap (λ (v : Image). v.globals) same in
    let functions : c.of_modules.result.now ≡ of_modules c.args.objects.now k.value.functions =
    c.of_modules.ensures ∙ ap (of_modules c.args.objects.now) (c.as_slice-2.ensures ∙ ap (λ (v : Image). v.functions) same) in
    record {
      image_is = same;
      shown = subst (λ (gs : List GlobalObject). IsByName (shown_of (globals_of c.args.objects.now) gs) c.in_ok-shown.shown.items) globals c.in_ok-shown.ensures;
      table = subst (λ (fs : List Function). Tells c.in_ok-table.table.items (entries_of fs)) functions c.in_ok-table.ensures;
    }
