-- Placed lines have as many words as their items.
use Rattle.std.specs.Prelude.{ℕ, ◌≡◌, ◌+◌, Bool, true, false, Some, None, List, [], ◌∷◌, length}
use Rattle.std.proofs.Common.{arith, refl, ◌∙◌, length-append}
use Rattle.std.proofs.lemmas.List.{length-map}
use Rattle.std.proofs.lemmas.List.Sums.{sum_by-cons}
use Rattle.pw_inst.specs.InstructionTable.{word_of}
use Rattle.pw_inst.specs.declared.line.Line.{Line}
use Rattle.pw_delay.specs.declared.items.Word.{Word}
use Rattle.pw_delay.specs.declared.items.Turn.TheVariants.{Back, Goto, If, CallTo, CallReg, Leave}
use Rattle.pw_delay.specs.declared.items.Item.{Item}
use Rattle.pw_delay.specs.declared.items.Item.TheVariants.{Plain, Turns, Mark}
use Rattle.pw_delay.specs.Placement.{size, sizes, mark_at, item_words, words_from, laid, placed}
use Rattle.pw_run_languages.specs.CodeStands.{is_long}
use Rattle.pw_run_languages.specs.SelectionLaws.{arranged}

item_length : (long : Bool) (begins : ℕ → ℕ) (at : ℕ) (item : Item) → length (item_words long begins at item) ≡ size long item
item_length long begins at (Plain w) = refl
item_length long begins at (Mark b) = refl
item_length long begins at (Turns (Back i) slot) = refl
item_length long begins at (Turns (Goto b) slot) = refl
item_length true begins at (Turns (If r b) slot) = refl
item_length false begins at (Turns (If r b) slot) = refl
item_length long begins at (Turns (CallTo s link) slot) = refl
item_length long begins at (Turns CallReg slot) = refl
item_length long begins at (Turns Leave None) = refl
item_length long begins at (Turns Leave (Some w)) = refl

words_length : (long : Bool) (begins : ℕ → ℕ) (at : ℕ) (items : List Item) → length (words_from long begins at items) ≡ sizes long items
words_length long begins at [] = refl
words_length long begins at (item ∷ rest) =
    let both = length-append (item_words long begins at item) (words_from long begins (at + size long item) rest) in
    let one = item_length long begins at item in
    let later = words_length long begins (at + size long item) rest in
    omega (arith, both, one, later, sum_by-cons (size long) item rest)

pub placed_length : (lines : List Line) → length (placed lines).words ≡ sizes (is_long lines) (arranged lines)
unfolding placed laid
placed_length lines =
    let long = is_long lines in
    let items = arranged lines in
    length-map (words_from long (mark_at long 0 items) 0 items) (λ (w : Word). word_of w.inst) ∙ words_length long (mark_at long 0 items) 0 items
