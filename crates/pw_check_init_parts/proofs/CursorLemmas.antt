-- The places of a list, of which the innermost stands last in the code's list and first in the rules'.
use Rattle.std.proofs.Common.{◌≡◌, ℕ, ◌+◌, ◌-◌, ◌<◌, true, false, ◌||◌, List, [], ◌∷◌, ◌++◌, length, map, reverse, get_or, Option, None, Some, is_some, slice_get, IfNone, option_map, refl, ap, sym, ◌∙◌, arith}
use Rattle.std.proofs.lemmas.List.{get_or-reverse, length-reverse, reverse-append}
use Rattle.std.proofs.lemmas.Option.{slice_get-get_or, slice_get-map}
use Rattle.pw_check_state.proofs.PlaceLemmas.{length_map, reverse_push}
use Rattle.pw_types.specs.TypeTrees.{RecordValue}
use Rattle.pw_check_rules.specs.Initialisers.{Cursor, elements_given, next_part, one_on, outermost, passed}
use Rattle.pw_check_rules.specs.Initialisers as rules
use Rattle.pw_check_rules.specs.Leaves.{is_nil}
use Rattle.pw_check_init_parts.specs.PlaceViews.{view_cursor, view_frame}
use Rattle.pw_check_init_parts.specs.declared.parts.Frame.{Frame}

minus_none : (n : ℕ) → n - 0 ≡ n
minus_none n = omega arith

head_of_reverse : {Y : Type 0} (ys : List Y) → slice_get (reverse ys) 0 ≡ slice_get ys (length ys - 1)
head_of_reverse [] = refl
head_of_reverse (y ∷ rest) =
    let less : 0 < length (reverse (y ∷ rest)) = omega (arith, length-reverse (y ∷ rest)) in
    slice_get-get_or (reverse (y ∷ rest)) 0 y less
    ∙ ap Some (get_or-reverse (y ∷ rest) 0 y (omega arith))
    ∙ ap (λ n. Some (get_or (y ∷ rest) n y)) (minus_none (length (y ∷ rest) - 1))
    ∙ sym (slice_get-get_or (y ∷ rest) (length (y ∷ rest) - 1) y (omega arith))

pub innermost_last : (xs : List Frame) (o : Option Frame) → o ≡ slice_get xs (length xs - 1) → option_map view_frame o ≡ slice_get (view_cursor xs) 0
innermost_last xs o e =
    ap (option_map view_frame) e
    ∙ sym (slice_get-map view_frame xs (length xs - 1))
    ∙ ap (λ n. slice_get (map view_frame xs) (n - 1)) (sym (length_map view_frame xs))
    ∙ sym (head_of_reverse (map view_frame xs))

pub cursor_push : (xs : List Frame) (f : Frame) → view_cursor (xs ++ f ∷ []) ≡ view_frame f ∷ view_cursor xs
cursor_push xs f = reverse_push view_frame xs f

-- ---- behind a part

-- the object with a part left, or the outermost
stays : (records : List RecordValue) (f : rules.Frame) (outer : Cursor) → (is_some (next_part records (one_on f)) || is_nil outer) ≡ true
    → passed records (f ∷ outer) ≡ one_on f ∷ outer
unfolding passed
stays records f outer e = rw e refl

leaves : (records : List RecordValue) (f : rules.Frame) (outer : Cursor) → (is_some (next_part records (one_on f)) || is_nil outer) ≡ false
    → passed records (f ∷ outer) ≡ passed records outer
unfolding passed
leaves records f outer e = rw e refl

pub passed_stays : (records : List RecordValue) (xs : List Frame) (f : Frame) (after : rules.Frame) → after ≡ one_on (view_frame f)
    → (is_some (next_part records after) || is_nil (view_cursor xs)) ≡ true
    → passed records (view_cursor (xs ++ f ∷ [])) ≡ after ∷ view_cursor xs
passed_stays records xs f after shown e =
    ap (passed records) (cursor_push xs f)
    ∙ stays records (view_frame f) (view_cursor xs) (ap (λ g. is_some (next_part records g) || is_nil (view_cursor xs)) (sym shown) ∙ e)
    ∙ ap (λ g. g ∷ view_cursor xs) (sym shown)

pub passed_leaves : (records : List RecordValue) (xs : List Frame) (f : Frame) (after : rules.Frame) → after ≡ one_on (view_frame f)
    → (is_some (next_part records after) || is_nil (view_cursor xs)) ≡ false
    → passed records (view_cursor (xs ++ f ∷ [])) ≡ passed records (view_cursor xs)
passed_leaves records xs f after shown e =
    ap (passed records) (cursor_push xs f)
    ∙ leaves records (view_frame f) (view_cursor xs) (ap (λ g. is_some (next_part records g) || is_nil (view_cursor xs)) (sym shown) ∙ e)

-- what holds of no object
pub if_left : (o : Option Frame) (P : Type 0) → IfNone o P → ((f : Frame) → o ≡ Some f → ⊥) → P
if_left None P h other = h
if_left (Some f) P h other = absurd (other f refl)

pub nothing_passed : (records : List RecordValue) → passed records [] ≡ []
unfolding passed
nothing_passed records = refl

-- ---- the outermost object, which stands first

outermost_end : (ys : Cursor) (f : rules.Frame) → outermost (ys ++ f ∷ []) ≡ f.next
outermost_end [] f = refl
outermost_end (y ∷ []) f = refl
outermost_end (y ∷ z ∷ ys) f = outermost_end (z ∷ ys) f

given_end : (y : rules.Frame) (ys : Cursor) (f : rules.Frame) → elements_given ((y ∷ ys) ++ f ∷ []) ≡ 1 + f.next
given_end y [] f = refl
given_end y (z ∷ ys) f = ap (λ n. 1 + n) (outermost_end (z ∷ ys) f)

given_behind : (ys : Cursor) (f : rules.Frame) → 0 < length ys → elements_given (ys ++ f ∷ []) ≡ 1 + f.next
given_behind [] f less = absurd (omega arith)
given_behind (y ∷ ys) f less = given_end y ys f

pub given_alone : (f : Frame) (xs rest : List Frame) → xs ≡ f ∷ rest → length rest ≡ 0 → elements_given (view_cursor xs) ≡ f.next
given_alone f xs [] e none = ap (λ ys. elements_given (view_cursor ys)) e
given_alone f xs (g ∷ rest) e none = absurd (omega arith)

pub given_within : (f : Frame) (xs rest : List Frame) → xs ≡ f ∷ rest → 0 < length rest → elements_given (view_cursor xs) ≡ f.next + 1
given_within f xs rest e some =
    let shown : view_cursor (f ∷ rest) ≡ view_cursor rest ++ view_frame f ∷ [] = reverse-append (view_frame f ∷ []) (map view_frame rest) in
    let count : length (view_cursor rest) ≡ length rest = length-reverse (map view_frame rest) ∙ length_map view_frame rest in
    ap (λ ys. elements_given (view_cursor ys)) e ∙ ap elements_given shown
    ∙ given_behind (view_cursor rest) (view_frame f) (omega arith) ∙ omega arith
