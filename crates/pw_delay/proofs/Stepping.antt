-- Filling from the left: one item more.
use Rattle.std.proofs.Common.{◌≡◌, Bool, true, false, if◌then◌else◌, None, Some, List, [], ◌∷◌, ◌++◌, refl, ap, sym, ◌∙◌, append_assoc}
use Rattle.std.specs.Prelude.{not, ◌&&◌}
use Rattle.pw_delay.specs.declared.items.Word.{Word}
use Rattle.pw_delay.specs.declared.items.Item.{Item}
use Rattle.pw_delay.specs.declared.items.Item.TheVariants.{Plain, Turns, Mark}
use Rattle.pw_delay.specs.Filling.{moves, drawn_near, compares, compared, with_slot, filled}
use Rattle.pw_delay.specs.Steps.{is_taken, with_word, whole}

-- no item moves into one that is a word, whatever that does
over_word : (behind c : Bool) (last : Item) (w : Word) (l : List Item) → with_slot behind last (with_slot c (Plain w) l) ≡ last ∷ with_slot c (Plain w) l
over_word behind c last w (Turns turn None ∷ rest) = by last (not c && moves w.inst turn)
  where
    by : (last : Item) (t : Bool) → with_slot behind last (if t then Turns (drawn_near turn) (Some w) ∷ rest else Plain w ∷ Turns turn None ∷ rest)
        ≡ last ∷ (if t then Turns (drawn_near turn) (Some w) ∷ rest else Plain w ∷ Turns turn None ∷ rest)
    by (Plain v) true = refl
    by (Plain v) false = refl
    by last true = refl
    by last false = refl
over_word behind c (Plain v) w l = refl
over_word behind c last w l = refl

filled_twice : (behind : Bool) (last next : Item) (rest : List Item) → filled behind (last ∷ next ∷ rest)
    ≡ (if is_taken behind last next then with_word last next ∷ filled false rest else last ∷ filled (compared behind last) (next ∷ rest))
filled_twice behind (Plain v) (Plain w) rest = over_word behind (compares v.inst) (Plain v) w (filled (compares w.inst) rest)
filled_twice behind (Turns turn slot) (Plain w) rest = over_word behind false (Turns turn slot) w (filled (compares w.inst) rest)
filled_twice behind (Mark b) (Plain w) rest = over_word behind behind (Mark b) w (filled (compares w.inst) rest)
filled_twice behind (Plain w) (Turns turn None) rest = refl
filled_twice behind last next rest = refl

pub taken : (done : List Item) (behind : Bool) (last next : Item) (rest : List Item) → is_taken behind last next ≡ true
    → whole (done ++ with_word last next ∷ []) false None rest ≡ whole done behind (Some last) (next ∷ rest)
taken done behind last next rest is =
    append_assoc done (with_word last next ∷ []) (filled false rest)
    ∙ ap (λ l. done ++ l) (sym (filled_twice behind last next rest ∙ ap (λ (t : Bool). if t then with_word last next ∷ filled false rest else last ∷ filled (compared behind last) (next ∷ rest)) is))

pub left : (done : List Item) (behind : Bool) (last next : Item) (rest : List Item) → is_taken behind last next ≡ false
    → whole (done ++ last ∷ []) (compared behind last) (Some next) rest ≡ whole done behind (Some last) (next ∷ rest)
left done behind last next rest is =
    append_assoc done (last ∷ []) (filled (compared behind last) (next ∷ rest))
    ∙ ap (λ l. done ++ l) (sym (filled_twice behind last next rest ∙ ap (λ (t : Bool). if t then with_word last next ∷ filled false rest else last ∷ filled (compared behind last) (next ∷ rest)) is))
