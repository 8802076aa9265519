-- A branch that goes back inside its block leads to the same place, whether it stands where it stood or has the word before
-- it in its slot.
use Rattle.std.proofs.Common.{ℕ, zero, suc, negsuc, ◌≡◌, true, false, Option, None, Some, List, [], ◌∷◌, ◌++◌, length, refl, ap, sym, subst, ◌∙◌, length-append, append_assoc, arith}
use Rattle.std.specs.List.{list_all, AllByRecursion}
use Rattle.pw_inst.specs.declared.Inst.{Inst}
use Rattle.pw_inst.specs.declared.Inst.TheVariants.{Combf}
use Rattle.pw_delay.specs.declared.items.Word.{Word}
use Rattle.pw_delay.specs.declared.items.Turn.TheVariants.{Back}
use Rattle.pw_delay.specs.declared.items.Item.{Item}
use Rattle.pw_delay.specs.declared.items.Item.TheVariants.{Plain, Turns, Mark}
use Rattle.pw_delay.specs.Filling.{nearer, drawn_near, filled}
use Rattle.pw_delay.specs.Parts.{compared_by, takes_first, PartsAlone}
use Rattle.pw_run_languages.specs.LineRun.{Frame, Machine, is_plain, back_over, goes_back, is_taken, distance}
use Rattle.pw_run_languages.specs.Acts.{Core}
use Rattle.pw_law_slots.specs.SlotLaws.{GoesElsewhere, IsFillable}
use Rattle.pw_law_slots.proofs.Places.{IsCut}
use Rattle.pw_law_slots.proofs.Looping.{goes_over, last_word, plain_split, leads_back}
use Rattle.pw_law_slots.proofs.Beside.{AreBeside, AreStepsBeside, Runs, beside, led_beside}

-- words do not begin with a turn
some_first : (words ys : List Item) (n : ℕ) → length words ≡ suc n → list_all is_plain words ≡ true → takes_first (words ++ ys) ≡ false
some_first [] ys n count plain = absurd (omega (arith, count))
some_first (Plain w ∷ words) ys n count plain = refl
some_first (Turns turn slot ∷ words) ys n count plain = absurd cc
some_first (Mark b ∷ words) ys n count plain = absurd cc

word_first : (words : List Item) (w : Word) (ys : List Item) → list_all is_plain words ≡ true → takes_first (words ++ Plain w ∷ ys) ≡ false
word_first [] w ys plain = refl
word_first (Plain v ∷ words) w ys plain = refl
word_first (Turns turn slot ∷ words) w ys plain = absurd cc
word_first (Mark b ∷ words) w ys plain = absurd cc

-- with its slot as it was
pub back_level : PartsAlone → (i : Inst) (slot : Option Word) (rest : List Item) (m : Machine) (left before : List Item) (callers : List Frame) → GoesElsewhere (Back i)
    → IsCut m.frame.function.items before (Turns (Back i) slot ∷ rest) → AllByRecursion IsFillable m.frame.function.items → AreBeside m.callers callers → Runs m
    → AreStepsBeside (goes_back (distance i) (Turns (Back i) slot ∷ rest) m) (goes_back (distance i) (Turns (Back i) slot ∷ filled false rest) (beside left callers m))
back_level alone (Combf k r1 r2 (negsuc (suc zero))) slot rest m left before callers elsewhere cut fillable alike run = absurd elsewhere
back_level alone (Combf k r1 r2 (negsuc (suc (suc j)))) slot rest m left before callers elsewhere cut fillable alike run =
    let turn = Back (Combf k r1 r2 (negsuc (suc (suc j)))) in
    let items = m.frame.function.items in
    let here = Turns turn slot ∷ rest in
    let there = Turns turn slot ∷ filled false rest in
    led_beside m left callers (back_over (suc j) here items) (back_over (suc j) there (filled false items)) run (λ to e.
    let o = goes_over items before here to (suc j) cut.parts e in
    let at : IsCut items (o.start ++ o.words) here = subst (λ (b : List Item). IsCut items b here) o.parts cut in
    let h = leads_back alone items o.start o.words here at o.plain (some_first o.words here j o.count o.plain) in (
      o.start,
      record { cut = subst (λ (l : List Item). IsCut items o.start l) (sym o.from_is) h.cut; fillable = fillable; alike = alike },
      ap (λ (n : ℕ). back_over n there (filled false items)) (sym o.count) ∙ h.found ∙ ap (λ (l : List Item). Some (filled (compared_by false o.start) l)) (sym o.from_is),
    ))
back_level alone i slot rest m left before callers elsewhere cut fillable alike run = tt

-- ---- with the word before it in its slot

abbrev pub near : Inst → Inst
near (Combf c r1 r2 disp) = Combf c r1 r2 (nearer disp)
near i = i

pub drawn_back : (i : Inst) → drawn_near (Back i) ≡ Back (near i)
drawn_back (Combf c r1 r2 disp) = refl
drawn_back i = refl

pub near_taken : (i : Inst) (c : Core) → is_taken (near i) c ≡ is_taken i c
near_taken (Combf k r1 r2 disp) c = refl
near_taken i c = refl

pub back_near : PartsAlone → (i : Inst) (word : Word) (rest : List Item) (m : Machine) (left before : List Item) (callers : List Frame) → GoesElsewhere (Back i)
    → IsCut m.frame.function.items before (Plain word ∷ Turns (Back i) None ∷ rest) → AllByRecursion IsFillable m.frame.function.items → AreBeside m.callers callers → Runs m
    → AreStepsBeside (goes_back (distance i) (Turns (Back i) None ∷ rest) m)
    (goes_back (distance (near i)) (filled (compared_by false before) (Plain word ∷ Turns (Back i) None ∷ rest)) (beside left callers m))
back_near alone (Combf k r1 r2 (negsuc (suc zero))) word rest m left before callers elsewhere cut fillable alike run = absurd elsewhere
back_near alone (Combf k r1 r2 (negsuc (suc (suc j)))) word rest m left before callers elsewhere cut fillable alike run =
    let items = m.frame.function.items in
    let here = Turns (Back (Combf k r1 r2 (negsuc (suc (suc j))))) None ∷ rest in
    let there = filled (compared_by false before) (Plain word ∷ here) in
    let parts : items ≡ (before ++ Plain word ∷ []) ++ here = cut.parts ∙ sym (append_assoc before (Plain word ∷ []) here) in
    led_beside m left callers (back_over (suc j) here items) (back_over j there (filled false items)) run (λ to e.
    let o = goes_over items (before ++ Plain word ∷ []) here to (suc j) parts e in
    let l = last_word before o.start o.words (Plain word) j o.count o.parts in
    let at : IsCut items (o.start ++ l.rest) (Plain word ∷ here) = subst (λ (b : List Item). IsCut items b (Plain word ∷ here)) l.before_is cut in
    let plain : list_all is_plain l.rest ≡ true = plain_split l.rest (Plain word ∷ []) (ap (list_all is_plain) (sym l.words_are) ∙ o.plain) in
    let count : length l.rest ≡ j = omega (arith, o.count, ap length l.words_are, length-append l.rest (Plain word ∷ [])) in
    let h = leads_back alone items o.start l.rest (Plain word ∷ here) at plain (word_first l.rest word here plain) in
    let is : to ≡ l.rest ++ Plain word ∷ here = o.from_is ∙ ap (λ (ws : List Item). ws ++ here) l.words_are ∙ append_assoc l.rest (Plain word ∷ []) here in (
      o.start,
      record { cut = subst (λ (t : List Item). IsCut items o.start t) (sym is) h.cut; fillable = fillable; alike = alike },
      ap (λ (n : ℕ). back_over n there (filled false items)) (sym count)
          ∙ ap (λ (b : List Item). back_over (length l.rest) (filled (compared_by false b) (Plain word ∷ here)) (filled false items)) l.before_is
          ∙ h.found
          ∙ ap (λ (t : List Item). Some (filled (compared_by false o.start) t)) (sym is),
    ))
back_near alone i word rest m left before callers elsewhere cut fillable alike run = tt
