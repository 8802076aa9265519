use Rattle.std.proofs.Common.{◌≡◌, ℕ, arith, inl, inr, sym, ap, subst, ◌∙◌, vec_len}
use Rattle.std.specs.Prelude.{Some}
use Rattle.std.proofs.lemmas.Bool.{both_ways}
use Rattle.std.proofs.lemmas.Option.{same_Some, slice_get_read, slice_get_within}
use Rattle.pw_fix.specs.Table.{HoldsAt}
use Rattle.pw_live_fronts.specs.Exposing.{IsNumber}
use Rattle.pw_live_fronts.proofs.marking.mark_use.Goals as goal

pub insert-requires : goal.insert-requires
insert-requires c =
    let e = c.args.exposed.now in
    let v = c.index.result.now in
    let there = slice_get_read e.numbers.items (vec_len e.numbers) c.args.t v e.numbers.ok.0 c.requires.temp c.index.ensures in
    let low = slice_get_within e.names.items c.in-Some.i c.args.t (e.numbered c.args.t c.in-Some.i (there ∙ ap Some c.in-Some.is)) in
    let len = c.requires.len in
    record { row = c.requires.node; number = omega (arith, low, len) }

pub returns-in_default-clause-holds : goal.returns-in_default-clause-holds
returns-in_default-clause-holds c = λ m i.
    let e = c.args.exposed.now in
    let v = c.index.result.now in
    let there = slice_get_read e.numbers.items (vec_len e.numbers) c.args.t v e.numbers.ok.0 c.requires.temp c.index.ensures in
    (λ h. inl h, λ h. elim h [ inl k ↦ k | inr k ↦ absurd (c.in_default.not-Some i (same_Some v (Some i) (sym there ∙ k.1))) ])

pub returns-then-contains-clause-holds : goal.returns-then-contains-clause-holds
returns-then-contains-clause-holds c = λ m i.
    let e = c.args.exposed.now in
    let v = c.index.result.now in
    let there = slice_get_read e.numbers.items (vec_len e.numbers) c.args.t v e.numbers.ok.0 c.requires.temp c.index.ensures in (
      λ h. inl h,
      λ h. elim h [
        | inl k ↦ k
        | inr k ↦
            let same : c.in-Some.i ≡ i = same_Some c.in-Some.i i (sym c.in-Some.is ∙ same_Some v (Some i) (sym there ∙ k.1)) in
            absurd (k.2 (subst (λ (n : ℕ). HoldsAt c.args.defines.now c.args.node n) same (c.contains.ensures.0 c.if-contains.true)))
      ],
    )

pub returns-clause-holds : goal.returns-clause-holds
returns-clause-holds c = λ m i.
    let e = c.args.exposed.now in
    let v = c.index.result.now in
    let there = slice_get_read e.numbers.items (vec_len e.numbers) c.args.t v e.numbers.ok.0 c.requires.temp c.index.ensures in
    let its : IsNumber e c.args.t c.in-Some.i = there ∙ ap Some c.in-Some.is in (
      λ h. elim ((c.insert.ensures.holds m i).0 h) [
        | inl k ↦ inr (k.0, subst (λ (n : ℕ). IsNumber e c.args.t n) (sym k.1) its, λ d. both_ways c.contains.result c.if-contains.false (c.contains.ensures.1 (subst (λ (n : ℕ). HoldsAt c.args.defines.now c.args.node n) k.1 d)))
        | inr k ↦ inl k
      ],
      λ h. elim h [
        | inl k ↦ (c.insert.ensures.holds m i).1 (inr k)
        | inr k ↦
            let same : i ≡ c.in-Some.i = same_Some i c.in-Some.i (same_Some (Some i) (Some c.in-Some.i) (sym k.1 ∙ its)) in
            (c.insert.ensures.holds m i).1 (inl (k.0, same))
      ],
    )
