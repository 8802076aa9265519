-- Rows of the output: each token in the row in which its place lies.
use Rattle.std.proofs.Common.{◌≡◌, ℕ, ◌-◌, length, subst, append_assoc, zero, suc, take, drop, sym, get_or, ◌<◌, ◌≤◌, Bool, true, false, not, List, [], ◌∷◌, ◌++◌, map, Option, Some, None, refl, ap, ◌∙◌, All, arith}
use Rattle.std.proofs.lemmas.Bool.{leb-false, leb-true, le-leb}
use Rattle.std.proofs.lemmas.List.{append-nil, length-drop, map-append, take_all, take-append-drop}
use Rattle.std.proofs.lemmas.List.Elements.{All-cons, All-head, All-nil, All-tail}
use Rattle.std.specs.List.{flat_map}
use Rattle.std.specs.Prelude.{◌&&◌, filter, if◌then◌else◌, nat_le}
use Rattle.pw_token.specs.Roles.{spelling}
use Rattle.pw_cpp_sources.specs.Rows.{AreInRows, first_row, is_reached, output_of, row_len, spelled_tokens}
use Rattle.pw_cpp_sources.specs.Rows.{in_row, rows_of, spelled_row}
use Rattle.pw_cpp_expand.specs.Lookahead.{Lexeme}
use Rattle.pw_cpp_expand.specs.Numbered.{all_named, named}
use Rattle.pw_cpp_expand.specs.Places.{Ascends}
use Rattle.pw_cpp_expand.specs.declared.progress.Lexeme.{Lexeme as Numbered}
use Rattle.pw_cpp_sets.specs.Sets.{Known}

-- ---- tokens of a row among others

filter_all : (P : Lexeme → Bool) (xs : List Lexeme) → All (λ l. P l ≡ true) xs → filter P xs ≡ xs
filter_all P [] h = refl
filter_all P (x ∷ xs) h =
    ap (λ b. if b then x ∷ filter P xs else filter P xs) (All-head (λ (l : Lexeme). P l ≡ true) x xs h) ∙ ap (λ y. x ∷ y) (filter_all P xs (All-tail (λ (l : Lexeme). P l ≡ true) x xs h))

filter_none : (P : Lexeme → Bool) (xs : List Lexeme) → All (λ l. P l ≡ false) xs → filter P xs ≡ []
filter_none P [] h = refl
filter_none P (x ∷ xs) h =
    ap (λ b. if b then x ∷ filter P xs else filter P xs) (All-head (λ (l : Lexeme). P l ≡ false) x xs h) ∙ filter_none P xs (All-tail (λ (l : Lexeme). P l ≡ false) x xs h)

filter_parts : (P : Lexeme → Bool) (xs ys : List Lexeme) → filter P (xs ++ ys) ≡ filter P xs ++ filter P ys
filter_parts P [] ys = refl
filter_parts P (x ∷ xs) ys = by (P x) (filter_parts P xs ys)
  where
    by : (b : Bool) → filter P (xs ++ ys) ≡ filter P xs ++ filter P ys → (if b then x ∷ filter P (xs ++ ys) else filter P (xs ++ ys)) ≡ (if b then x ∷ filter P xs else filter P xs) ++ filter P ys
    by true e = ap (λ y. x ∷ y) e
    by false e = e

-- tokens before a row's line are in none of the rows from it on
not_in_row : (from : ℕ) (next : Option ℕ) (l : Lexeme) → l.place < from → in_row from next l ≡ false
not_in_row from (Some next) l h = ap (λ b. b && not (nat_le next l.place)) (lt_false from l.place h)
  where
    lt_false : (a b : ℕ) → b < a → nat_le a b ≡ false
    lt_false a b k = by (nat_le a b) refl
      where
        by : (v : Bool) → nat_le a b ≡ v → nat_le a b ≡ false
        by true e = absurd (omega (arith, k, leb-true a b e))
        by false e = e
not_in_row from None l h = by (nat_le from l.place) refl
  where
    by : (v : Bool) → nat_le from l.place ≡ v → nat_le from l.place ≡ false
    by true e = absurd (omega (arith, h, leb-true from l.place e))
    by false e = e

before_row : (from : ℕ) (next : Option ℕ) (xs : List Lexeme) → All (λ l. l.place < from) xs → filter (in_row from next) xs ≡ []
before_row from next [] h = refl
before_row from next (x ∷ xs) h =
    ap (λ b. if b then x ∷ filter (in_row from next) xs else filter (in_row from next) xs) (not_in_row from next x (All-head (λ (l : Lexeme). l.place < from) x xs h))
    ∙ before_row from next xs (All-tail (λ (l : Lexeme). l.place < from) x xs h)

later : (from next : ℕ) (xs : List Lexeme) → from ≤ next → All (λ l. l.place < from) xs → All (λ l. l.place < next) xs
later from next xs l h = λ k d w. omega (arith, l, h k d w)

-- such tokens change nothing
pub rows-behind : (from : ℕ) (rows : List ℕ) (high : ℕ) (xs ys : List Lexeme) → Ascends from rows high → All (λ l. l.place < from) xs → rows_of (from ∷ rows) (xs ++ ys) ≡ rows_of (from ∷ rows) ys
rows-behind from [] high xs ys a h =
    ap (λ t. record { place = from; tokens = map (λ (l : Lexeme). l.token) t } ∷ []) (filter_parts (in_row from None) xs ys ∙ ap (λ x. x ++ filter (in_row from None) ys) (before_row from None xs h))
rows-behind from (next ∷ rows) high xs ys a h =
    ap (λ t. record { place = from; tokens = map (λ (l : Lexeme). l.token) t } ∷ rows_of (next ∷ rows) (xs ++ ys))
    (filter_parts (in_row from (Some next)) xs ys ∙ ap (λ x. x ++ filter (in_row from (Some next)) ys) (before_row from (Some next) xs h))
    ∙ ap (λ r. record { place = from; tokens = map (λ (l : Lexeme). l.token) (filter (in_row from (Some next)) ys) } ∷ r) (rows-behind next rows high xs ys a.1 (later from next xs a.0 h))

-- ---- one row

-- tokens from a row's line on and before the next one's are in the row
in_row_all : (from : ℕ) (next : Option ℕ) (xs : List Lexeme) → All (λ l. from ≤ l.place) xs → All (λ l. is_reached next l.place ≡ false) xs → filter (in_row from next) xs ≡ xs
in_row_all from next [] h b = refl
in_row_all from next (x ∷ xs) h b =
    ap (λ c. if c then x ∷ filter (in_row from next) xs else filter (in_row from next) xs)
    (there next (All-head (λ (l : Lexeme). from ≤ l.place) x xs h) (All-head (λ (l : Lexeme). is_reached next l.place ≡ false) x xs b))
    ∙ ap (λ y. x ∷ y) (in_row_all from next xs (All-tail (λ (l : Lexeme). from ≤ l.place) x xs h) (All-tail (λ (l : Lexeme). is_reached next l.place ≡ false) x xs b))
  where
    there : (next : Option ℕ) → from ≤ x.place → is_reached next x.place ≡ false → in_row from next x ≡ true
    there (Some n) l r = ap (λ c. c && not (nat_le n x.place)) (le-leb from x.place l) ∙ ap (λ c. not c) r
    there None l r = le-leb from x.place l

-- those that reach the next row are not
past_row : (from next : ℕ) (xs : List Lexeme) → All (λ l. next ≤ l.place) xs → filter (in_row from (Some next)) xs ≡ []
past_row from next [] h = refl
past_row from next (x ∷ xs) h =
    ap (λ c. if c then x ∷ filter (in_row from (Some next)) xs else filter (in_row from (Some next)) xs)
    (ap (λ c. nat_le from x.place && not c) (le-leb next x.place (All-head (λ (l : Lexeme). next ≤ l.place) x xs h)) ∙ never (nat_le from x.place))
    ∙ past_row from next xs (All-tail (λ (l : Lexeme). next ≤ l.place) x xs h)
  where
    never : (c : Bool) → (c && false) ≡ false
    never true = refl
    never false = refl

-- the row of tokens of which some are in it, and the rows of the others
pub rows-first : (from next : ℕ) (rows : List ℕ) (high : ℕ) (xs ys : List Lexeme) → Ascends from (next ∷ rows) high → All (λ l. from ≤ l.place) xs → All (λ l. is_reached (Some next) l.place ≡ false) xs
    → All (λ l. next ≤ l.place) ys → rows_of (from ∷ next ∷ rows) (xs ++ ys) ≡ record { place = from; tokens = map (λ (l : Lexeme). l.token) xs } ∷ rows_of (next ∷ rows) ys
rows-first from next rows high xs ys a h b k =
    ap (λ t. record { place = from; tokens = map (λ (l : Lexeme). l.token) t } ∷ rows_of (next ∷ rows) (xs ++ ys))
    (filter_parts (in_row from (Some next)) xs ys
    ∙ ap (λ x. x ++ filter (in_row from (Some next)) ys) (in_row_all from (Some next) xs h b)
    ∙ ap (λ y. xs ++ y) (past_row from next ys k)
    ∙ append-nil xs)
    ∙ ap (λ r. record { place = from; tokens = map (λ (l : Lexeme). l.token) xs } ∷ r) (rows-behind next rows high xs ys a.1 (before next xs b))
  where
    before : (n : ℕ) (xs : List Lexeme) → All (λ l. is_reached (Some n) l.place ≡ false) xs → All (λ l. l.place < n) xs
    before n xs b = λ k d w. leb-false n (get_or xs k d).place (b k d w)

pub rows-last : (from : ℕ) (xs : List Lexeme) → All (λ l. from ≤ l.place) xs → rows_of (from ∷ []) xs ≡ record { place = from; tokens = map (λ (l : Lexeme). l.token) xs } ∷ []
rows-last from xs h = ap (λ t. record { place = from; tokens = map (λ (l : Lexeme). l.token) t } ∷ []) (in_row_all from None xs h (λ k d w. refl))

-- what a row is spelled as
pub row-spelled : (source : List ℕ) (known : Known) (from : ℕ) (xs : List Numbered)
    → spelled_row source (record { place = from; tokens = map (λ (l : Lexeme). l.token) (all_named known xs) }) ≡ spelled_tokens source xs ++ 10 ∷ []
row-spelled source known from xs = ap (λ b. b ++ 10 ∷ []) (tokens xs)
  where
    tokens : (xs : List Numbered) → flat_map (λ t. spelling source t ++ 32 ∷ []) (map (λ (l : Lexeme). l.token) (all_named known xs)) ≡ spelled_tokens source xs
    tokens [] = refl
    tokens (x ∷ xs) = ap (λ b. (spelling source x.token ++ 32 ∷ []) ++ b) (tokens xs)

-- ---- tokens in the order of their places

-- places of tokens
abbrev places : List Numbered → List ℕ
places xs = map (λ (l : Numbered). l.place) xs

-- none stands before the first bound
from_first : (first high : ℕ) (xs : List Numbered) → Ascends first (places xs) high → All (λ (l : Numbered). first ≤ l.place) xs
from_first first high [] a = All-nil (λ (l : Numbered). first ≤ l.place)
from_first first high (x ∷ xs) a = All-cons (λ (l : Numbered). first ≤ l.place) x xs a.0 (λ k d w. omega (arith, a.0, from_first x.place high xs a.1 k d w))

-- so none of the first does
take_all_of : (P : Numbered → Type 0) (n : ℕ) (xs : List Numbered) → All P xs → All P (take n xs)
take_all_of P zero xs h = All-nil P
take_all_of P (suc n) [] h = All-nil P
take_all_of P (suc n) (x ∷ xs) h = All-cons P x (take n xs) (All-head P x xs h) (take_all_of P n xs (All-tail P x xs h))

-- what holds of places holds of the tokens by their names
all_by_name : (P : ℕ → Type 0) (known : Known) (xs : List Numbered) → All (λ (l : Numbered). P l.place) xs → All (λ (l : Lexeme). P l.place) (all_named known xs)
all_by_name P known [] h = All-nil (λ (l : Lexeme). P l.place)
all_by_name P known (x ∷ xs) h =
    All-cons (λ (l : Lexeme). P l.place) (named known x) (all_named known xs) (All-head (λ (l : Numbered). P l.place) x xs h) (all_by_name P known xs (All-tail (λ (l : Numbered). P l.place) x xs h))

-- those before the next row do not reach it, and the others do
split : (next first high : ℕ) (xs : List Numbered) → Ascends first (places xs) high → next ≤ high
    → All (λ (l : Numbered). is_reached (Some next) l.place ≡ false) (take (row_len (Some next) xs) xs) × Ascends next (places (drop (row_len (Some next) xs) xs)) high
split next first high [] a l = (All-nil (λ (l : Numbered). is_reached (Some next) l.place ≡ false), l)
split next first high (x ∷ xs) a l = by (nat_le next x.place) refl (split next x.place high xs a.1 l)
  where
    P : Numbered → Type 0
    P = λ l. is_reached (Some next) l.place ≡ false

    len : Bool → ℕ
    len b = if b then 0 else suc (row_len (Some next) xs)

    Cut : Type 0
    Cut = All P (take (row_len (Some next) xs) xs) × Ascends next (places (drop (row_len (Some next) xs) xs)) high

    by : (b : Bool) → nat_le next x.place ≡ b → Cut → All P (take (len b) (x ∷ xs)) × Ascends next (places (drop (len b) (x ∷ xs))) high
    by true e others = (All-nil P, (leb-true next x.place e, a.1))
    by false e others = (All-cons P x (take (row_len (Some next) xs) xs) e others.0, others.1)

-- the last row takes all
row_len_last : (xs : List Numbered) → (take (row_len None xs) xs ≡ xs) × (drop (row_len None xs) xs ≡ [])
row_len_last [] = (refl, refl)
row_len_last (x ∷ xs) = (ap (λ y. x ∷ y) (row_len_last xs).0, (row_len_last xs).1)

ascends_to : (low : ℕ) (rows : List ℕ) (high : ℕ) → Ascends low rows high → low ≤ high
ascends_to low [] high a = a
ascends_to low (next ∷ rows) high a = omega (arith, a.0, ascends_to next rows high a.1)

-- ---- the first row of some, and the others

pub record PutFirst (source : List ℕ) (first : ℕ) (later : List ℕ) (left : List Numbered) : Type 0 where
  pub others : AreInRows later (drop (row_len (first_row later) left) left)
  pub output : (known : Known)
      → (spelled_tokens source (take (row_len (first_row later) left) left) ++ 10 ∷ []) ++ output_of source (rows_of later (all_named known (drop (row_len (first_row later) left) left)))
      ≡ output_of source (rows_of (first ∷ later) (all_named known left))

parts_named : (known : Known) (n : ℕ) (xs : List Numbered) → all_named known xs ≡ all_named known (take n xs) ++ all_named known (drop n xs)
parts_named known n xs = ap (all_named known) (sym (take-append-drop n xs)) ∙ map-append (named known) (take n xs) (drop n xs)

put_first : (source : List ℕ) (first : ℕ) (later : List ℕ) (left : List Numbered) → AreInRows (first ∷ later) left → PutFirst source first later left
put_first source first [] left a = record {
  others = (row_len_last left).1;
  output = λ known.
      append-nil (spelled_tokens source (take (row_len None left) left) ++ 10 ∷ [])
      ∙ ap (λ x. spelled_tokens source x ++ 10 ∷ []) (row_len_last left).0
      ∙ sym (row-spelled source known first left)
      ∙ sym (append-nil (spelled_row source (record { place = first; tokens = map (λ (l : Lexeme). l.token) (all_named known left) })))
      ∙ ap (output_of source) (sym (rows-last first (all_named known left) (all_by_name (λ p. first ≤ p) known left (from_first first a.0 left a.2))));
}
put_first source first (next ∷ rows) left a = record {
  others = (high, a.1.1, cut.1);
  output = λ known.
      ap (λ x. x ++ output_of source (rows_of (next ∷ rows) (all_named known behind))) (sym (row-spelled source known first before))
      ∙ ap (output_of source)
      (sym
      (ap (rows_of (first ∷ next ∷ rows)) (parts_named known n left)
      ∙ rows-first first next rows high (all_named known before) (all_named known behind) a.1
      (all_by_name (λ p. first ≤ p) known before (take_all_of (λ (l : Numbered). first ≤ l.place) n left (from_first first high left a.2)))
      (all_by_name (λ p. is_reached (Some next) p ≡ false) known before cut.0)
      (all_by_name (λ p. next ≤ p) known behind (from_first next high behind cut.1))));
}
  where
    high : ℕ
    high = a.0

    n : ℕ
    n = row_len (Some next) left

    before : List Numbered
    before = take n left

    behind : List Numbered
    behind = drop n left

    cut : All (λ (l : Numbered). is_reached (Some next) l.place ≡ false) before × Ascends next (places behind) high
    cut = split next first high left a.2 (ascends_to next rows high a.1.1)

-- ---- the rows that are left

module _ (source rows : List ℕ) (tokens : List Numbered) (start : List ℕ) where
  -- they are still to come
  abbrev pub AreLeft : List ℕ → List Numbered → List ℕ → Type 0
  AreLeft these left out =
      AreInRows these left × ((known : Known) → out ++ output_of source (rows_of these (all_named known left)) ≡ start ++ output_of source (rows_of rows (all_named known tokens)))

  -- the first of them is put out
  pub rows-on : (these : List ℕ) (left : List Numbered) (out : List ℕ) → AreLeft these left out → 1 ≤ length these → (later : List ℕ) → later ≡ drop 1 these
      → (next : Option ℕ) → next ≡ first_row later → (count : ℕ) → count ≡ row_len next left → (row : List Numbered) → row ≡ take count left
      → (out' : List ℕ) → out' ≡ out ++ (spelled_tokens source row ++ 10 ∷ []) → (left' : List Numbered) → left' ≡ drop count left → AreLeft later left' out'
  rows-on [] left out h l later later_is next next_is count count_is row row_is out' out_is left' left_is = absurd (omega (arith, l))
  rows-on (first ∷ others) left out h l later later_is next next_is count count_is row row_is out' out_is left' left_is = (
    subst (λ x. AreInRows x left') (sym later_is) (subst (AreInRows others) (sym left_here) put.others),
    (λ known.
        ap (λ x. x ++ output_of source (rows_of later (all_named known left'))) out_is
        ∙ append_assoc out (spelled_tokens source row ++ 10 ∷ []) (output_of source (rows_of later (all_named known left')))
        ∙ ap (λ x. out ++ x)
        (ap (λ x. (spelled_tokens source x ++ 10 ∷ []) ++ output_of source (rows_of later (all_named known left'))) row_here
        ∙ ap (λ x. (spelled_tokens source (take n left) ++ 10 ∷ []) ++ output_of source (rows_of x (all_named known left'))) later_is
        ∙ ap (λ x. (spelled_tokens source (take n left) ++ 10 ∷ []) ++ output_of source (rows_of others (all_named known x))) left_here
        ∙ put.output known)
        ∙ h.1 known),
  )
    where
      n : ℕ
      n = row_len (first_row others) left

      count_here : count ≡ n
      count_here = count_is ∙ ap (λ x. row_len x left) (next_is ∙ ap first_row later_is)

      row_here : row ≡ take n left
      row_here = row_is ∙ ap (λ k. take k left) count_here

      left_here : left' ≡ drop n left
      left_here = left_is ∙ ap (λ k. drop k left) count_here

      put : PutFirst source first others left
      put = put_first source first others left h.0

-- the places behind the first
pub behind-first : (xs : List ℕ) → take (length xs - 1) (drop 1 xs) ≡ drop 1 xs
behind-first xs = take_all (length xs - 1) (drop 1 xs) (omega (arith, length-drop 1 xs))
