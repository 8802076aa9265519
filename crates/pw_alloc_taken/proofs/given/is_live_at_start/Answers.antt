use Rattle.std.proofs.Common.{ℕ, List, get_or, inl, inr, refl, sym, subst}
use Rattle.std.proofs.lemmas.Bool.{both_ways}
use Rattle.std.proofs.lemmas.List.{take_all}
use Rattle.std.proofs.lemmas.List.Elements.{Contains-get_or}
use Rattle.pw_live_spans.specs.Spans.{IsIn, Covers}
use Rattle.pw_live_spans.proofs.Steps.{first_none, first_more, item_at}
use Rattle.pw_alloc_taken.proofs.given.is_live_at_start.Goals as goal

pub loop-place-init : goal.loop-place-init
loop-place-init c = λ covers. first_none c.args.spans.now covers.0 covers.1

pub returns-then-has_first : goal.returns-then-has_first
returns-then-has_first c =
    let span = get_or c.args.spans.now c.loop-place.place (0, 0) in
    (λ _. (span, Contains-get_or c.args.spans.now c.loop-place.place (0, 0) c.loop-place-test.true, c.has_first.ensures.0 c.if-has_first.true), λ _. refl)

pub loop-place-preserved : goal.loop-place-preserved
loop-place-preserved c = λ covers.
    let spans = c.args.spans.now in
    let place = c.loop-place.place in
    let span = get_or spans place (0, 0) in
    elim ((first_more spans place span covers.0 c.loop-place-test.true (item_at spans place (0, 0) c.loop-place-test.true)).0 covers.1) [
      | inl old ↦ c.loop-place.invariant (covers.0, old, covers.2)
      | inr same ↦ both_ways c.has_first.result c.if-has_first.false (c.has_first.ensures.1 (subst (λ (s : ℕ × ℕ). IsIn s 0) same covers.2))
    ]

pub returns : goal.returns
returns c = (
  λ e. absurd cc,
  λ covers. absurd (c.loop-place.invariant (subst (λ (ss : List (ℕ × ℕ)). Covers ss 0) (sym (take_all c.loop-place.place c.args.spans.now c.loop-place-test.false)) covers)),
)
