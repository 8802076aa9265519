use Rattle.std.proofs.Common.{◌≡◌, OnOk, sym, subst}
use Rattle.pw_typed.specs.Views.{view_expr, view_locals, view_initialiser}
use Rattle.pw_lower.specs.Operators.{kind_of}
use Rattle.pw_lower.specs.Places.{place_at}
use Rattle.pw_lower.specs.Statements.{initialised, initialised_by, copied_from}
use Rattle.pw_lexpr.specs.Homes.{view_home}
use Rattle.pw_lexpr.proofs.initialisers.initialise_or.Goals as goal

pub returns-in-Value : goal.returns-in-Value
returns-in-Value c =
    let r = c.initialise_by.result in
    let new = c.initialise_by.new.code in
    let h = view_home c.args.frame.home in
    let locals = view_locals c.args.frame.locals.now in
    let k = c.in-Value.local in
    subst (λ i. OnOk r (new ≡ initialised h locals (view_initialiser i) c.args.code.now)) (sym c.in-Value.is)
    (subst (λ ty. OnOk r (new ≡ initialised_by h (kind_of ty) ty (place_at h.places k) (view_expr c.in-Value.value) c.args.code.now)) c.type_of-ty.ensures c.initialise_by.ensures)

pub returns-in-Bytes : goal.returns-in-Bytes
returns-in-Bytes c =
    let r = c.initialise_from.result in
    let new = c.initialise_from.new.code in
    let h = view_home c.args.frame.home in
    let locals = view_locals c.args.frame.locals.now in
    let k = c.in-Bytes.local in
    subst (λ i. OnOk r (new ≡ initialised h locals (view_initialiser i) c.args.code.now)) (sym c.in-Bytes.is)
    (subst (λ ty. OnOk r (new ≡ copied_from h ty (place_at h.places k) c.in-Bytes.hidden c.args.code.now)) c.type_of-ty-in-Bytes.ensures c.initialise_from.ensures)
