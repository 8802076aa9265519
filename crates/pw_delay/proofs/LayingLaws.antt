-- Laying out items one by one.
use Rattle.std.proofs.Common.{◌≡◌, ℕ, ◌+◌, Bool, List, ◌∷◌, length, ap, ◌∙◌}
use Rattle.pw_delay.specs.declared.items.Item.{Item}
use Rattle.pw_delay.specs.declared.code.Code.{Code}
use Rattle.pw_delay.specs.Placement.{size, item_words, words_from, extended}
use Rattle.pw_delay.proofs.Extending.{twice, length_extended}
use Rattle.pw_delay.proofs.Sizes.{item_length}

pub next_length : (long : Bool) (begins : ℕ → ℕ) (c next : Code) (item : Item) → next ≡ extended c (item_words long begins (length c.words) item) → length next.words ≡ length c.words + size long item
next_length long begins c next item e =
    ap (λ c. length c.words) e
    ∙ length_extended c (item_words long begins (length c.words) item)
    ∙ ap (λ n. length c.words + n) (item_length long begins (length c.words) item)

-- the words that are left stand behind the item's
pub next_words : (long : Bool) (begins : ℕ → ℕ) (c next : Code) (item : Item) (rest : List Item) → next ≡ extended c (item_words long begins (length c.words) item) → extended next (words_from long begins (length next.words) rest) ≡ extended c (words_from long begins (length c.words) (item ∷ rest))
next_words long begins c next item rest e =
    ap (λ n. extended next (words_from long begins n rest)) (next_length long begins c next item e)
    ∙ ap (λ before. extended before (words_from long begins (length c.words + size long item) rest)) e
    ∙ twice c (item_words long begins (length c.words) item) (words_from long begins (length c.words + size long item) rest)
