-- Layouts that 32 bits can tell.
use Rattle.std.proofs.Common.{ℕ, ◌-◌, ◌^◌, ◌≡◌, ◌≢◌, sym, ap, ◌∙◌, Option, None, Some, arith}
use Rattle.std.specs.Prelude.{option_map}
use Rattle.std.proofs.lemmas.Grind.{common_steps}
use Rattle.pw_types.specs.declared.record.Layout.{Layout}
use Rattle.pw_types.specs.Layouts.{told}
use Rattle.pw_value.specs.Caps.{clipped}

unclipped : (n : ℕ) → clipped n ≢ 2 ^ 32 - 1 → n ≡ clipped n
unclipped n h = grind (arith, common_steps)

abbrev laid : ℕ → ℕ → Layout
laid size align = record { size = size; align = align }

-- what is told of a layout is the layout, where it is not told as the greatest
pub told_is : (l : Option Layout) (t : Layout) → option_map told l ≡ Some t → t.size ≢ 2 ^ 32 - 1 → Some t ≡ l
told_is None t e h = cc e
told_is (Some l) t e h =
    let same : told l ≡ t = cc e in
    let size : l.size ≡ t.size = grind (arith, common_steps, ap (λ x. x.size) same) in
    let align : l.align ≡ t.align = ap (λ x. x.align) same in
    ap Some (sym (ap (λ n. laid n l.align) size ∙ ap (laid t.size) align))
