-- What `parse` gives of one to nineteen digits.
use Rattle.std.proofs.Common.{◌≡◌, ℕ, ◌<◌, ◌≤◌, ◌^◌, ◌&&◌, Bool, true, false, length, Result, Ok, refl, sym, true≢false, arith, rules}
use Rattle.std.specs.Str.Parse.{ParsesUnsigned, digits_value}
use Rattle.std.proofs.lemmas.Bool.{leb-true}
use Rattle.std.proofs.lemmas.Str.Parse.{IsNumeralModel, digits_value_short, numerals_by_value, parse_gives}
use Rattle.pw_top_switch.specs.Switch.{Text}
use Rattle.pw_top_words.specs.CommandLine.{are_digits, is_numeral}

own : IsNumeralModel (λ ds. are_digits ds ≡ true) (digits_value 10)
own = numerals_by_value _ (search rules)

both : (a b : Bool) → (a && b) ≡ true → (a ≡ true) × (b ≡ true)
both true b h = (refl, h)
both false b h = absurd (true≢false (sym h))

pub parsed : {E : Type 0} (text : Text) (r : Result ℕ E) → is_numeral text ≡ true → ParsesUnsigned 64 10 text r → r ≡ Ok (digits_value 10 text)
parsed text r numeral h =
    let first = both _ _ numeral in
    let second = both _ _ first.1 in
    let some : 1 ≤ length text = leb-true _ _ first.0 in
    let few : length text ≤ 19 = leb-true _ _ second.0 in
    let small : digits_value 10 text < 10 ^ 19 = digits_value_short own text 19 second.1 few in
    parse_gives own 64 text r h second.1 (omega (arith, some)) (omega (arith, small))
