-- Where words and data stand.
use Rattle.std.proofs.Common.{◌≡◌, ℕ, ◌+◌, ◌*◌, ◌%◌, ◌≤◌, List, [], ◌∷◌, ◌++◌, map, length, refl, sym, ap, subst, ◌∙◌, arith, append_assoc}
use Rattle.std.specs.List.{AllByRecursion, sum_by, flat_map}
use Rattle.std.proofs.lemmas.List.{length-append}
use Rattle.std.proofs.lemmas.List.Sums.{sum_by-cons}
use Rattle.pw_value.specs.Limits.{text_start}
use Rattle.pw_flow.specs.declared.flow.FlowGlobal.{FlowGlobal}
use Rattle.pw_flow.specs.declared.flow.Item.{Item}
use Rattle.pw_inst.specs.InstructionTable.{word_of, nop}
use Rattle.pw_object.specs.declared.object.Object.{Object}
use Rattle.pw_image.specs.declared.image.DataItem.{DataItem}
use Rattle.pw_link.specs.Layout.{Piece, Placed, placed_from, pieces_of, text_of, globals_of, standing_from, data_of, data_size, data_begin, stack_end, Sites}
use Rattle.pw_flow.specs.ValidFlow.{global_room}
use Rattle.pw_link.specs.Linking.{piece_words, item_at, items_of, function_of, global_of, linked}
use Rattle.pw_law_link.specs.Standing.{sites, StandsInText, StandsInData, ItemsStand, AreApart, OwnTheirBytes}
use Rattle.pw_law_link.proofs.Lawful.{fix_length}

-- ---- words

-- behind words that stand before them
stand_behind : (s : Sites) (at : ℕ) (ps : List Piece) (before after : List ℕ) → at ≡ text_start + 4 * length before
    → AllByRecursion (λ p. StandsInText (before ++ (flat_map (piece_words s) (placed_from at ps) ++ after)) p.address (piece_words s p)) (placed_from at ps)
stand_behind s at [] before after e = tt
stand_behind s at (p ∷ ps) before after e =
    let here : Placed = record { address = at; piece = p } in
    let own = piece_words s here in
    let next = at + 4 * length p.words in
    let rest = flat_map (piece_words s) (placed_from next ps) in
    let whole : before ++ ((own ++ rest) ++ after) ≡ before ++ (own ++ (rest ++ after)) = ap (λ (x : List ℕ). before ++ x) (append_assoc own rest after) in
    let moved : (before ++ own) ++ (rest ++ after) ≡ before ++ ((own ++ rest) ++ after) = append_assoc before own (rest ++ after) ∙ sym whole in
    let count = length-append before own ∙ ap (λ (n : ℕ). length before + n) (fix_length s at p.fixes p.words) in
    let later = stand_behind s next ps (before ++ own) after (omega (arith, e, count)) in
    let Stands = λ (words : List ℕ). AllByRecursion (λ p. StandsInText words p.address (piece_words s p)) (placed_from next ps) in
    (record { before = before; after = rest ++ after; is = whole; at = e }, subst Stands moved later)

pub words_stand : (objects : List Object) (stack : ℕ) → AllByRecursion (λ p. StandsInText (linked objects stack).memory.words p.address (piece_words (sites objects stack) p)) (text_of objects)
unfolding linked
words_stand objects stack = stand_behind (sites objects stack) text_start (pieces_of objects) [] (word_of nop ∷ []) refl

pub functions_are : (objects : List Object) (stack : ℕ) → (linked objects stack).functions ≡ map function_of (text_of objects)
unfolding linked
functions_are objects stack = refl

apart_from : (at : ℕ) (ps : List Piece) → at % 4 ≡ 0 → AreApart at (placed_from at ps)
apart_from at [] aligned = tt
apart_from at (p ∷ ps) aligned = (omega arith, aligned, apart_from (at + 4 * length p.words) ps (omega (arith, aligned)))

pub functions_apart : (objects : List Object) → AreApart text_start (text_of objects)
functions_apart objects = apart_from text_start (pieces_of objects) refl

-- ---- data

items_behind : (named : List (List ℕ × ℕ)) (at : ℕ) (items : List (ℕ × Item)) (before after : List DataItem)
    → AllByRecursion (λ i. StandsInData (before ++ (map (item_at named at) items ++ after)) (item_at named at i)) items
items_behind named at [] before after = tt
items_behind named at (i ∷ items) before after =
    let here : DataItem = item_at named at i in
    let rest = map (item_at named at) items ++ after in
    let moved : (before ++ here ∷ []) ++ rest ≡ before ++ here ∷ rest = append_assoc before (here ∷ []) rest in
    let Stand = λ (all : List DataItem). AllByRecursion (λ i. StandsInData all (item_at named at i)) items in
    (record { before = before; after = rest; is = refl }, subst Stand moved (items_behind named at items (before ++ here ∷ []) after))

objects_behind : (named : List (List ℕ × ℕ)) (at : ℕ) (gs : List FlowGlobal) (before : List DataItem)
    → AllByRecursion (λ s. AllByRecursion (λ i. StandsInData (before ++ flat_map (items_of named) (standing_from at gs)) (item_at named s.offset i)) s.global.items) (standing_from at gs)
objects_behind named at [] before = tt
objects_behind named at (g ∷ gs) before =
    let own = map (item_at named at) g.items in
    let rest = flat_map (items_of named) (standing_from (at + global_room g) gs) in
    let Stand = λ (all : List DataItem). AllByRecursion (λ s. AllByRecursion (λ i. StandsInData all (item_at named s.offset i)) s.global.items) (standing_from (at + global_room g) gs) in
    (items_behind named at g.items before rest, subst Stand (append_assoc before own rest) (objects_behind named (at + global_room g) gs (before ++ own)))

pub items_stand : (objects : List Object) (stack : ℕ) → AllByRecursion (ItemsStand objects stack (linked objects stack).memory.items) (data_of objects)
unfolding linked
items_stand objects stack = objects_behind (sites objects stack).named 0 (globals_of objects) []

pub globals_are : (objects : List Object) (stack : ℕ) → (linked objects stack).globals ≡ map (global_of (data_begin objects)) (data_of objects)
unfolding linked
globals_are objects stack = refl

own_from : (end free at : ℕ) (gs : List FlowGlobal) → at % 8 ≡ 0 → free ≤ at → at + sum_by global_room gs ≤ end → OwnTheirBytes end free (standing_from at gs)
own_from end free at [] aligned low within = omega (arith, low, within)
own_from end free at (g ∷ gs) aligned low within =
    let e = sum_by-cons global_room g gs in
    (low, aligned, own_from end (at + (g.size + 1)) (at + global_room g) gs (omega (arith, aligned)) (omega arith) (omega (arith, within, e)))

pub own_bytes : (objects : List Object) → OwnTheirBytes (data_size objects) 0 (data_of objects)
own_bytes objects = own_from (data_size objects) 0 0 (globals_of objects) refl (omega arith) (omega arith)

-- ---- all of them

each_piece : (at : ℕ) (ps : List Piece) → map (λ p. p.piece) (placed_from at ps) ≡ ps
each_piece at [] = refl
each_piece at (p ∷ ps) = ap (λ (rest : List Piece). p ∷ rest) (each_piece (at + 4 * length p.words) ps)

pub all_pieces : (objects : List Object) → map (λ p. p.piece) (text_of objects) ≡ pieces_of objects
all_pieces objects = each_piece text_start (pieces_of objects)

each_global : (at : ℕ) (gs : List FlowGlobal) → map (λ s. s.global) (standing_from at gs) ≡ gs
each_global at [] = refl
each_global at (g ∷ gs) = ap (λ (rest : List FlowGlobal). g ∷ rest) (each_global (at + global_room g) gs)

pub all_globals : (objects : List Object) → map (λ s. s.global) (data_of objects) ≡ globals_of objects
all_globals objects = each_global 0 (globals_of objects)

pub below_stack : (objects : List Object) (stack : ℕ) → data_begin objects + data_size objects + 64 + stack ≤ stack_end objects stack
below_stack objects stack = omega arith
