use Rattle.std.proofs.Common.{◌≡◌, ℕ, ◌<◌, [], ◌∷◌, ◌++◌, Err, List, Some, ap, length, length-append, refl, rules, subst, sym, ◌∙◌, arith}
use Rattle.std.proofs.lemmas.Bool.{false≢true}
use Rattle.std.proofs.lemmas.List.Elements.{All-nil, All-pop}
use Rattle.pw_cpp_expand.specs.Calls.{Collects, Fails, cut_of, part_of}
use Rattle.pw_cpp_expand.specs.declared.arguments.Cut.TheVariants as cut
use Rattle.pw_cpp_expand.specs.declared.progress.Mode.{Mode}
use Rattle.pw_cpp_expand.specs.declared.progress.Progress.{Progress}
use Rattle.pw_cpp_expand.specs.Lookahead.{At, Faulty, Lexeme, LooksAhead}
use Rattle.pw_cpp_expand.specs.Numbered.{AnswersCall, AreKnown, HaveEmpty, at_hand, named}
use Rattle.pw_cpp_expand.specs.declared.progress.Lexeme.{Lexeme as Numbered}
use Rattle.pw_cpp_expand.proofs.Cutting.{closed-known, leads-closed, leads-faulty, leads-open, leads-put, leads-start, put-within, put-known, start-known}
use Rattle.pw_cpp_expand.proofs.Falling.{looks-less}
use Rattle.pw_cpp_expand.proofs.Turning.{fault-on, fault-weaker, hand-more}
use Rattle.pw_cpp_expand.proofs.arguments.collect.Goals as goal
use Rattle.pw_cpp_sets.specs.Sets.{Known}

pub look_ahead-requires : goal.look_ahead-requires
look_ahead-requires c = c.loop-last.invariant.0

pub cut_of-cut-requires : goal.cut_of-cut-requires
cut_of-cut-requires c = omega (arith, c.loop-last.invariant.1, c.loop-last.last.small, c.loop-last.last.ok.0, c.loop-last.last.ok.1)

-- what stands ahead, with the token that was taken off
taken_off : (text : List ℕ) (mode : Mode) (old middle left : List Numbered) (p q : Progress) (mark : Numbered) → middle ≡ left ++ mark ∷ []
    → ((known : Known) → HaveEmpty known → LooksAhead text mode (at_hand known old) p (At (at_hand known middle) q))
    → (known : Known) → HaveEmpty known → LooksAhead text mode (at_hand known old) p (At (named known mark ∷ at_hand known left) q)
taken_off text mode old middle left p q mark e looks known empty =
    let P : List Lexeme → Type 0 = λ x. LooksAhead text mode (at_hand known old) p (At x q) in
    subst P (ap (at_hand known) e ∙ hand-more known left mark) (looks known empty)

pub loop-last-init : goal.loop-last-init
loop-last-init c = (
  c.requires,
  omega arith,
  leads-start c.args.source.now c.args.text.now c.args.mode c.args.pending.now c.args.progress.now c.new-whole.result c.new-last.result.items c.new-whole.ensures c.new-last.ensures.items,
  λ known some h. let empty = start-known known c.new-whole.result c.new-last.result.items c.new-whole.ensures c.new-last.ensures.items in (h, empty.0, empty.1),
)

pub returns-in_err-look_ahead-clause-answers : goal.returns-in_err-look_ahead-clause-answers
returns-in_err-look_ahead-clause-answers c =
    fault-on (AnswersCall c.args.source.now c.args.text.now c.args.mode c.args.pending.now c.args.progress.now c.look_ahead.new.pending c.look_ahead.new.progress) c.in_err-look_ahead.field-0.0 c.from_residual.result
    (let e : c.from_residual.result ≡ Err c.in_err-look_ahead.field-0.0 = first_of (search (rules, c.from_residual.ensures), cc (c.from_residual.ensures)) in e)
    (fault-weaker (λ f. (known : Known) → HaveEmpty known → LooksAhead c.args.text.now c.args.mode (at_hand known c.loop-last.pending) c.loop-last.progress (Faulty f))
    (λ f. (known : Known) → HaveEmpty known → Collects c.args.source.now c.args.text.now c.args.mode 0 ([] ∷ []) (at_hand known c.args.pending.now) c.args.progress.now (Fails f)) _
    (λ f h. leads-faulty c.args.source.now c.args.text.now c.args.mode c.args.pending.now c.args.progress.now c.loop-last.whole c.loop-last.last.items c.loop-last.pending c.loop-last.progress c.loop-last.depth
    c.loop-last.invariant.2 f h)
    c.in_err-look_ahead.ensures.answers)

pub returns-in_default-clause-answers : goal.returns-in_default-clause-answers
returns-in_default-clause-answers c =
    leads-open c.args.source.now c.args.text.now c.args.mode c.args.pending.now c.args.progress.now c.loop-last.whole c.loop-last.last.items c.loop-last.pending c.loop-last.progress c.loop-last.depth
    c.loop-last.invariant.2 c.look_ahead.new.pending c.look_ahead.new.progress c.in_default.ensures.0 c.in_ok-look_ahead.ensures.answers

pub returns-in_default-clause-known : goal.returns-in_default-clause-known
returns-in_default-clause-known c = λ known some h.
    let P : List Numbered → Type 0 = λ x. AreKnown known x in
    subst P (sym c.in_default.ensures.1) (All-nil (λ (l : Numbered). l.hidden < length known))

pub returns-then-is_end-clause-answers : goal.returns-then-is_end-clause-answers
returns-then-is_end-clause-answers c = λ known empty.
    leads-closed c.args.source.now c.args.text.now c.args.mode c.args.pending.now c.args.progress.now c.loop-last.whole c.loop-last.last.items c.loop-last.pending c.loop-last.progress c.in-Some.lexeme c.pop.new.self
    c.look_ahead.new.progress c.loop-last.depth
    (taken_off c.args.text.now c.args.mode c.loop-last.pending c.look_ahead.new.pending c.pop.new.self c.loop-last.progress c.look_ahead.new.progress c.in-Some.lexeme c.in-Some.ensures c.in_ok-look_ahead.ensures.answers)
    c.loop-last.invariant.2 c.in_ok-arguments.arguments c.in_ok-arguments.ensures.0 c.in_ok-arguments.ensures.1
    (λ any. sym (c.is_end.ensures.0 c.if-is_end.true) ∙ c.cut_of-cut.ensures ∙ ap (λ x. cut_of x c.loop-last.depth) (c.part_of.ensures any)) known empty

pub returns-then-is_end-clause-known : goal.returns-then-is_end-clause-known
returns-then-is_end-clause-known c = λ known some h.
    (All-pop (λ (l : Numbered). l.hidden < length known) c.look_ahead.new.pending c.pop.new.self (Some c.in-Some.lexeme) c.in-Some.ensures
    (c.in_ok-look_ahead.ensures.known known some (c.loop-last.invariant.3 known some h).0)).0

pub returns-then-is_end-clause-arguments : goal.returns-then-is_end-clause-arguments
returns-then-is_end-clause-arguments c = λ known some h.
    let before = c.loop-last.invariant.3 known some h in
    let parts = All-pop (λ (l : Numbered). l.hidden < length known) c.look_ahead.new.pending c.pop.new.self (Some c.in-Some.lexeme) c.in-Some.ensures (c.in_ok-look_ahead.ensures.known known some before.0) in
    closed-known known c.in_ok-arguments.arguments c.loop-last.whole c.loop-last.last.items c.in-Some.lexeme c.in_ok-arguments.ensures.0 c.in_ok-arguments.ensures.1 before.1 before.2 parts.1

pub loop-last-preserved : goal.loop-last-preserved
loop-last-preserved c =
    let invariant = c.loop-last.invariant in
    let no_end : c.cut_of-cut.result ≡ cut.Ends → ⊥ = λ e. false≢true (sym c.if-is_end.false ∙ c.is_end.ensures.1 e) in
    let is : (known : Known) → c.cut_of-cut.result ≡ cut_of (part_of c.args.source.now (named known c.in-Some.lexeme)) c.loop-last.depth =
    λ known. c.cut_of-cut.ensures ∙ ap (λ x. cut_of x c.loop-last.depth) (c.part_of.ensures known) in
    let made = c.in_ok-depth.ensures in (
      c.in_ok-look_ahead.ensures.within,
      put-within c.cut_of-cut.result c.part_of.result c.loop-last.depth c.in-Some.lexeme c.loop-last.whole _ c.loop-last.last.items _ _ c.cut_of-cut.ensures no_end made invariant.1,
      leads-put c.args.source.now c.args.text.now c.args.mode c.args.pending.now c.args.progress.now c.loop-last.whole c.loop-last.last.items c.loop-last.pending c.loop-last.progress c.in-Some.lexeme c.pop.new.self
          c.look_ahead.new.progress c.loop-last.depth
          (taken_off c.args.text.now c.args.mode c.loop-last.pending c.look_ahead.new.pending c.pop.new.self c.loop-last.progress c.look_ahead.new.progress c.in-Some.lexeme c.in-Some.ensures c.in_ok-look_ahead.ensures.answers)
          invariant.2 c.cut_of-cut.result is no_end _ _ _ made,
      λ known some h.
          let before = invariant.3 known some h in
          let parts = All-pop (λ (l : Numbered). l.hidden < length known) c.look_ahead.new.pending c.pop.new.self (Some c.in-Some.lexeme) c.in-Some.ensures (c.in_ok-look_ahead.ensures.known known some before.0) in
          let after = put-known known c.cut_of-cut.result c.in-Some.lexeme c.loop-last.whole _ c.loop-last.last.items _ _ no_end made parts.1 before.1 before.2 in
          (parts.0, after.0, after.1),
    )

pub loop-last-smaller : goal.loop-last-smaller
loop-last-smaller c =
    let less = looks-less c.lines_go_on.ensures.tokens c.args.text.now c.args.mode c.loop-last.pending c.look_ahead.new.pending c.loop-last.progress c.look_ahead.new.progress ([] ∷ []) (omega arith, refl)
    c.in_ok-look_ahead.ensures.within c.in_ok-look_ahead.ensures.answers in
    omega (arith, less.further, less.within, less.few, ap length c.in-Some.ensures, length-append c.pop.new.self (c.in-Some.lexeme ∷ []))
