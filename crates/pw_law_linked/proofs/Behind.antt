-- Return addresses of the calls in a function's items.
use Rattle.std.specs.Prelude.{ℕ, ◌≡◌, ◌+◌, ◌*◌, ◌<◌, ◌==◌, Bool, true, false, if◌then◌else◌, cond, Option, List, [], ◌∷◌, ◌++◌}
use Rattle.std.proofs.Common.{arith, ap, refl, ◌∙◌}
use Rattle.std.proofs.lemmas.Bool.{eq-eqb, ne_eqb}
use Rattle.std.proofs.lemmas.List.Sums.{sum_by-cons}
use Rattle.pw_delay.specs.declared.items.Word.{Word}
use Rattle.pw_delay.specs.declared.items.Turn.{Turn}
use Rattle.pw_delay.specs.declared.items.Item.{Item}
use Rattle.pw_delay.specs.declared.items.Item.TheVariants.{Plain, Turns, Mark}
use Rattle.pw_delay.specs.Placement.{size, sizes}
use Rattle.pw_run_languages.specs.LineRun.{is_turn, turns, IsCalling}
use Rattle.pw_law_linked.specs.Settings.{behind_in}

one_more : (turn : Turn) (slot : Option Word) (rest : List Item) → turns (Turns turn slot ∷ rest) ≡ 1 + turns rest
one_more turn slot rest = sum_by-cons (λ (item : Item). cond (is_turn item) 1 0) (Turns turn slot) rest

-- more turns are left before a turn than behind it
turns_left : (before rest : List Item) (item : Item) → IsCalling item → turns rest < turns (before ++ item ∷ rest)
turns_left [] rest (Turns turn slot) calling = omega (arith, one_more turn slot rest)
turns_left [] rest (Plain w) calling = absurd calling
turns_left [] rest (Mark b) calling = absurd calling
turns_left (Plain w ∷ before) rest item calling = turns_left before rest item calling
turns_left (Mark b ∷ before) rest item calling = turns_left before rest item calling
turns_left (Turns turn slot ∷ before) rest item calling = omega (arith, one_more turn slot (before ++ item ∷ rest), turns_left before rest item calling)

here_by : (at later : ℕ) (b : Bool) → b ≡ true → (if b then at else later) ≡ at
here_by at later b is = ap (λ (b : Bool). if b then at else later) is

later_by : (at later : ℕ) (b : Bool) → b ≡ false → (if b then at else later) ≡ later
later_by at later b is = ap (λ (b : Bool). if b then at else later) is

pub behind_is : (long : Bool) (at : ℕ) (before rest : List Item) (item : Item) → IsCalling item → behind_in long at (before ++ item ∷ rest) (turns rest) ≡ at + 4 * sizes long before + 8
behind_is long at [] rest (Turns turn slot) calling =
    let none : sizes long [] ≡ 0 = refl in
    here_by (at + 8) (behind_in long (at + 4 * size long (Turns turn slot)) rest (turns rest)) (turns rest == turns rest) (eq-eqb (turns rest) (turns rest) refl) ∙ omega (arith, none)
behind_is long at [] rest (Plain w) calling = absurd calling
behind_is long at [] rest (Mark b) calling = absurd calling
behind_is long at (Plain w ∷ before) rest item calling =
    let later = behind_is long (at + 4 * size long (Plain w)) before rest item calling in
    omega (arith, later, sum_by-cons (size long) (Plain w) before)
behind_is long at (Mark b ∷ before) rest item calling =
    let later = behind_is long (at + 4 * size long (Mark b)) before rest item calling in
    omega (arith, later, sum_by-cons (size long) (Mark b) before)
behind_is long at (Turns turn slot ∷ before) rest item calling =
    let left = before ++ item ∷ rest in
    let more = turns_left before rest item calling in
    let other : (turns left == turns rest) ≡ false = ne_eqb (turns left) (turns rest) (λ e. omega (arith, more, e)) in
    let next = behind_in long (at + 4 * size long (Turns turn slot)) left (turns rest) in
    let later = behind_is long (at + 4 * size long (Turns turn slot)) before rest item calling in
    let skips : behind_in long at (Turns turn slot ∷ left) (turns rest) ≡ next = later_by (at + 8) next (turns left == turns rest) other in
    let count = sum_by-cons (size long) (Turns turn slot) before in
    skips ∙ (later ∙ omega (arith, count))
