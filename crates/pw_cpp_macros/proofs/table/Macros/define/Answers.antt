use Rattle.std.proofs.Common.{◌≡◌, ◌<◌, ◌≤◌, true, false, length, refl, sym, ap, ◌∙◌, arith, inr}
use Rattle.indexmap.proofs.CallerLemmas.{insert_entry-new}
use Rattle.pw_cpp_macros.proofs.TableLaws.{define-added, define-alike, define-differs, define-full, same_name}
use Rattle.pw_cpp_macros.proofs.table.Macros.define.Goals as goal

pub returns-then-is_alike : goal.returns-then-is_alike
returns-then-is_alike c =
    define-alike c.args.text.now c.args.definition c.args.self.now c.self.inside.table.entries c.self.view_is c.spelled-name.result c.spelled-name.ensures c.in-Some.old.now c.in-Some.ensures.value
    (sym c.is_alike.ensures ∙ c.if-is_alike.true)

pub returns-in-Some : goal.returns-in-Some
returns-in-Some c = (
  refl,
  inr (define-differs c.args.text.now c.args.definition c.args.self.now c.self.inside.table.entries c.self.view_is c.spelled-name.result c.spelled-name.ensures c.in-Some.old.now c.in-Some.ensures.value
      (sym c.is_alike.ensures ∙ c.if-is_alike.false)),
)

pub returns-then-len-ge-MACRO_LIMIT : goal.returns-then-len-ge-MACRO_LIMIT
returns-then-len-ge-MACRO_LIMIT c = (
  refl,
  inr (define-full c.args.text.now c.args.definition c.args.self.now c.self.inside.table.entries c.self.view_is c.spelled-name.result c.spelled-name.ensures c.in_default.ensures.value (omega arith)),
)

pub returns-in-Ok : goal.returns-in-Ok
returns-in-Ok c =
    let none = c.in_default.ensures.value in
    define-added c.args.text.now c.args.definition c.args.self.now c.self.inside.table.entries c.self.view_is c.spelled-name.result c.spelled-name.ensures c.insert.new.self.entries none (omega arith)
    (c.in-Ok.ensures.entries ∙ insert_entry-new same_name c.self.inside.table c.spelled-name.result c.args.definition.meaning (sym none))
