use Rattle.std.proofs.Common.{◌≡◌, ◌+◌, ◌∷◌, All, arith, length, Err, List, ap, refl, rules, subst, sym, ◌∙◌}
use Rattle.std.proofs.lemmas.List.Elements.{All-nil}
use Rattle.pw_cpp_expand.specs.Numbered.{AreKnown}
use Rattle.pw_cpp_expand.specs.declared.expansion.Raw.{Raw}
use Rattle.pw_cpp_expand.specs.Left.{left, left_of_raws}
use Rattle.pw_cpp_expand.specs.declared.progress.Lexeme.{Lexeme as Numbered}
use Rattle.pw_cpp_expand.proofs.Falling.{IsLess, first-left, if-most, none-left, reads-less}
use Rattle.pw_cpp_expand.proofs.Whole.{opened-first, opened-known, opened-none, opened-ready, step-failed, unread-call}
use Rattle.pw_cpp_expand.proofs.expansion.Expander.open_call.Goals as goal
use Rattle.pw_cpp_sets.specs.Sets.{set_at}

pub read_call-requires : goal.read_call-requires
read_call-requires c = c.requires.ready.place

pub returns-in_err-read-clause-comes : goal.returns-in_err-read-clause-comes
returns-in_err-read-clause-comes c =
    step-failed c.args.ground.source.now c.args.ground.text.now c.args.ground.macros.now c.args.ground.mode c.args.sets.now _ _ _ _ c.in_err-read.field-0.0 c.from_residual.result
    (let e : c.from_residual.result ≡ Err c.in_err-read.field-0.0 = first_of (search (rules, c.from_residual.ensures), cc (c.from_residual.ensures)) in e)
    (unread-call c.args.ground.source.now c.args.ground.text.now c.args.ground.macros.now c.args.ground.mode c.args.sets.now c.args.self.now c.args.name c.args.progress.now c.args.meaning.now c.args.parameters.now c.requires.meant c.requires.parameters c.requires.ready c.requires.name
    c.mode_in-mode.result c.mode_in-mode.ensures _ c.in_err-read.ensures.answers)

pub replace_call-requires-clause-ready : goal.replace_call-requires-clause-ready
replace_call-requires-clause-ready c =
    let read_known = c.in_ok-read.ensures.known c.args.sets.now c.requires.ready.empty.0 c.requires.ready.sets.0 in
    opened-ready c.args.ground.source.now c.args.ground.text.now c.args.ground.macros.now c.args.ground.mode c.args.sets.now c.args.self.now c.args.name c.args.progress.now c.args.meaning.now c.args.parameters.now c.requires.meant c.requires.parameters c.requires.ready c.requires.name
    c.mode_in-mode.result c.mode_in-mode.ensures _ _ c.in_ok-shared.ensures.keeps c.in_ok-hidden.ensures.keeps c.read_call.new.progress
    c.read_call.new.pending c.in_ok-read.read c.in_ok-read.ensures.answers read_known.0 read_known.1 c.in_ok-read.ensures.within
    c.in_ok-shared.shared c.in_ok-hidden.hidden c.in_ok-shared.ensures.number.1 (c.in_ok-hidden.ensures.number.1 ∙ ap (λ x. x ∷ set_at c.shared.new.self c.in_ok-shared.shared) c.spelled.ensures) c.in_ok-hidden.ensures.number.0
    (record { meaning = c.args.meaning; replaced = record { hidden = c.in_ok-hidden.hidden; place = c.args.name.place }; parameter = c.args.name.token; waiting = c.pop-first.new.self; expanded = c.new-3.result; behind = c.replace-behind.result; before = c.replace-before.result }) refl refl refl c.new-3.ensures c.replace-behind.ensures.value c.replace-before.ensures.value c.replace-behind.new.dest c.replace-before.new.dest
    (c.replace-behind.ensures.after ∙ c.new.ensures) (c.replace-before.ensures.after ∙ c.new-2.ensures)

pub replace_call-requires-clause-call : goal.replace_call-requires-clause-call
replace_call-requires-clause-call c =
    let read_known = c.in_ok-read.ensures.known c.args.sets.now c.requires.ready.empty.0 c.requires.ready.sets.0 in
    opened-known c.args.ground.source.now c.args.ground.text.now c.args.ground.macros.now c.args.ground.mode c.args.sets.now c.args.self.now c.args.name c.args.progress.now c.args.meaning.now c.args.parameters.now c.requires.meant c.requires.parameters c.requires.ready c.requires.name
    c.mode_in-mode.result c.mode_in-mode.ensures _ _ c.in_ok-shared.ensures.keeps c.in_ok-hidden.ensures.keeps c.read_call.new.progress
    c.read_call.new.pending c.in_ok-read.read c.in_ok-read.ensures.answers read_known.0 read_known.1 c.in_ok-read.ensures.within
    c.in_ok-shared.shared c.in_ok-hidden.hidden c.in_ok-shared.ensures.number.1 (c.in_ok-hidden.ensures.number.1 ∙ ap (λ x. x ∷ set_at c.shared.new.self c.in_ok-shared.shared) c.spelled.ensures) c.in_ok-hidden.ensures.number.0
    (record { meaning = c.args.meaning; replaced = record { hidden = c.in_ok-hidden.hidden; place = c.args.name.place }; parameter = c.args.name.token; waiting = c.pop-first.new.self; expanded = c.new-3.result; behind = c.replace-behind.result; before = c.replace-before.result }) refl refl refl c.new-3.ensures c.replace-behind.ensures.value c.replace-before.ensures.value c.replace-behind.new.dest c.replace-before.new.dest
    (c.replace-behind.ensures.after ∙ c.new.ensures) (c.replace-before.ensures.after ∙ c.new-2.ensures)
    (let P : List Raw → Type 0 = λ x. All (λ raw. AreKnown c.args.sets.now raw.tokens) x in subst P (sym c.in_default.ensures.1) (All-nil (λ (raw : Raw). AreKnown c.args.sets.now raw.tokens)))

pub returns-in_default-clause-comes : goal.returns-in_default-clause-comes
returns-in_default-clause-comes c =
    let read_known = c.in_ok-read.ensures.known c.args.sets.now c.requires.ready.empty.0 c.requires.ready.sets.0 in
    opened-none c.args.ground.source.now c.args.ground.text.now c.args.ground.macros.now c.args.ground.mode c.args.sets.now c.args.self.now c.args.name c.args.progress.now c.args.meaning.now c.args.parameters.now c.requires.meant c.requires.parameters c.requires.ready c.requires.name
    c.mode_in-mode.result c.mode_in-mode.ensures _ _ c.in_ok-shared.ensures.keeps c.in_ok-hidden.ensures.keeps c.read_call.new.progress
    c.read_call.new.pending c.in_ok-read.read c.in_ok-read.ensures.answers read_known.0 read_known.1 c.in_ok-read.ensures.within
    c.in_ok-shared.shared c.in_ok-hidden.hidden c.in_ok-shared.ensures.number.1 (c.in_ok-hidden.ensures.number.1 ∙ ap (λ x. x ∷ set_at c.shared.new.self c.in_ok-shared.shared) c.spelled.ensures) c.in_ok-hidden.ensures.number.0
    (record { meaning = c.args.meaning; replaced = record { hidden = c.in_ok-hidden.hidden; place = c.args.name.place }; parameter = c.args.name.token; waiting = c.pop-first.new.self; expanded = c.new-3.result; behind = c.replace-behind.result; before = c.replace-before.result }) refl refl refl c.new-3.ensures c.replace-behind.ensures.value c.replace-before.ensures.value c.replace-behind.new.dest c.replace-before.new.dest
    (c.replace-behind.ensures.after ∙ c.new.ensures) (c.replace-before.ensures.after ∙ c.new-2.ensures) c.in_default.ensures.0 _ _ _ c.replace_call.result c.replace_call.ensures.comes

pub returns-clause-comes : goal.returns-clause-comes
returns-clause-comes c =
    let read_known = c.in_ok-read.ensures.known c.args.sets.now c.requires.ready.empty.0 c.requires.ready.sets.0 in
    opened-first c.args.ground.source.now c.args.ground.text.now c.args.ground.macros.now c.args.ground.mode c.args.sets.now c.args.self.now c.args.name c.args.progress.now c.args.meaning.now c.args.parameters.now c.requires.meant c.requires.parameters c.requires.ready c.requires.name
    c.mode_in-mode.result c.mode_in-mode.ensures _ _ c.in_ok-shared.ensures.keeps c.in_ok-hidden.ensures.keeps c.read_call.new.progress
    c.read_call.new.pending c.in_ok-read.read c.in_ok-read.ensures.answers read_known.0 read_known.1 c.in_ok-read.ensures.within
    c.in_ok-shared.shared c.in_ok-hidden.hidden c.in_ok-shared.ensures.number.1 (c.in_ok-hidden.ensures.number.1 ∙ ap (λ x. x ∷ set_at c.shared.new.self c.in_ok-shared.shared) c.spelled.ensures) c.in_ok-hidden.ensures.number.0
    (record { meaning = c.args.meaning; replaced = record { hidden = c.in_ok-hidden.hidden; place = c.args.name.place }; parameter = c.args.name.token; waiting = c.pop-first.new.self; expanded = c.new-3.result; behind = c.replace-behind.result; before = c.replace-before.result }) refl refl refl c.new-3.ensures c.replace-behind.ensures.value c.replace-before.ensures.value c.replace-behind.new.dest c.replace-before.new.dest
    (c.replace-behind.ensures.after ∙ c.new.ensures) (c.replace-before.ensures.after ∙ c.new-2.ensures) c.in-Some.next c.in-Some.ensures _ c.in_ok-begin_argument.ensures

pub returns-in_default-clause-left : goal.returns-in_default-clause-left
returns-in_default-clause-left c =
    let less = reads-less c.lines_go_on.ensures.tokens c.args.ground.source.now c.args.ground.text.now c.mode_in-mode.result c.args.parameters.now c.args.meaning.now.replacement c.args.name.place c.args.self.now.pending
    c.read_call.new.pending c.args.progress.now c.read_call.new.progress c.in_ok-read.read c.args.sets.now c.requires.ready.empty c.in_ok-read.ensures.within c.in_ok-read.ensures.answers in
    if-most c.replace_call.result _
    (left (length c.args.ground.text.now) (record c.args.self.now { pending = c.replace-behind.new.dest; out = c.replace-before.new.dest }) c.read_call.new.progress + length c.replace-behind.result)
    (left (length c.args.ground.text.now) c.args.self.now c.args.progress.now + 1)
    (omega (
      arith,
      none-left (length c.args.ground.text.now) c.args.self.now c.args.progress.now c.read_call.new.progress c.args.self.now.pending c.read_call.new.pending (left_of_raws c.in_ok-read.read.waiting) less,
      ap length c.replace-behind.ensures.value,
      ap length (c.replace-behind.ensures.after ∙ c.new.ensures),
    ))
    c.replace_call.ensures.left

pub returns-clause-left : goal.returns-clause-left
returns-clause-left c =
    let less = reads-less c.lines_go_on.ensures.tokens c.args.ground.source.now c.args.ground.text.now c.mode_in-mode.result c.args.parameters.now c.args.meaning.now.replacement c.args.name.place c.args.self.now.pending
    c.read_call.new.pending c.args.progress.now c.read_call.new.progress c.in_ok-read.read c.args.sets.now c.requires.ready.empty c.in_ok-read.ensures.within c.in_ok-read.ensures.answers in
    let P : List Numbered → Type 0 = λ x. IsLess (length c.args.ground.text.now) (left_of_raws c.in_ok-read.read.waiting + length x) (length c.args.self.now.pending) c.args.progress.now c.read_call.new.progress in
    first-left (length c.args.ground.text.now) (record c.args.self.now { pending = c.replace-behind.new.dest; out = c.replace-before.new.dest }) c.read_call.new.progress c.args.self.now.pending
    (record { meaning = c.args.meaning; replaced = record { hidden = c.in_ok-hidden.hidden; place = c.args.name.place }; parameter = c.in-Some.next.parameter; waiting = c.pop-first.new.self; expanded = c.new-3.result; behind = c.replace-behind.result; before = c.replace-before.result })
    c.in_ok-read.read.waiting c.in-Some.next c.begin_argument.new.self c.args.progress.now c.in-Some.ensures (subst P (sym c.replace-behind.ensures.value) less) c.in_ok-begin_argument.ensures
