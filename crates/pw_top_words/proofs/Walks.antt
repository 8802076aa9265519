-- The walk of `clap` over the words of a command line, beside their parts.
use Rattle.std.proofs.Common.{◌≡◌, ◌≢◌, ℕ, zero, suc, ◌&&◌, ◌||◌, ◌⊎◌, not, Bool, true, false, cond, List, [], ◌∷◌, ◌++◌, length, map, Option, Some, None, refl, sym, ap, subst, ◌∙◌, inl, inr, true≢false, append_assoc, arith}
use Rattle.std.specs.Prelude.{fold, if◌then◌else◌}
use Rattle.std.specs.List.{AllByRecursion}
use Rattle.std.specs.Str.{IsUtf8, bytes_eq}
use Rattle.std.proofs.lemmas.List.{append-nil}
use Rattle.std.proofs.lemmas.Slice.Eq.{bytes_eq-Decides}
use Rattle.clap.specs.Walk.{Held, Row, Rule, Text, Waiting, Walk, idle, option, arg_by_index, at_row, has_row, settled_rows, walked, is_pending, with_values, without, more_values}
use Rattle.clap.specs.Values.{reading_of}
use Rattle.clap.specs.Kinds.{Kinds, or_else}
use Rattle.clap.specs.Takes.{is_given}
use Rattle.clap.specs.Faults.{check_fault, flags_fault, option_fault, settle_fault, turn_fault, use_fault, walk_fault}
use Rattle.clap.specs.declared.error.kind.ErrorKind.{ErrorKind}
use Rattle.clap.specs.declared.error.kind.ErrorKind.TheVariants as kind
use Rattle.clap.specs.declared.parser.matches.ValueSource.TheVariants.{CommandLine}
use Rattle.clap.specs.declared.builder.value_parser.ValueParser.TheVariants as vp
use Rattle.pw_top_switch.specs.Switch.{has_value}
use Rattle.pw_top_words.specs.CommandLine.{Part, Given, Plain, fits, fitting, is_among, is_dashed, option_name, option_value, parts_from, with_part, without_name}
use Rattle.pw_top_words.specs.Reading.{operand_id, part_row, row}
use Rattle.pw_top_words.proofs.Asked.{HasRules, eq_itself, operand_rule, option_rule, shaped}
use Rattle.pw_top_words.proofs.Classes.{Class, Ends, Names, IsShort, IsBare, is_end, is_option, is_short, is_bare, classify}

-- ---- kinds of faults

abbrev pub Faulty : Kinds → Type 0
Faulty kinds = kinds ≢ []

some_fault : (k : ErrorKind) (kinds : Kinds) → Faulty (k ∷ kinds)
some_fault k kinds e = cc

first_faulty : (one two : Kinds) → Faulty one → Faulty (or_else one two)
first_faulty [] two bad = absurd (bad refl)
first_faulty (k ∷ ks) two bad = λ e. cc

second_faulty : (one two : Kinds) → one ≡ [] → Faulty two → Faulty (or_else one two)
second_faulty one two clean bad = rw clean bad

or_else_assoc : (one two three : Kinds) → or_else (or_else one two) three ≡ or_else one (or_else two three)
or_else_assoc [] two three = refl
or_else_assoc (k ∷ ks) two three = refl

or_else_nothing : (one : Kinds) → or_else one [] ≡ one
or_else_nothing [] = refl
or_else_nothing (k ∷ ks) = refl

-- ---- rows

-- a row that is new goes to the end
new_row : (id : Text) (change : Row → List Row) (missing rows : List Row) → has_row id rows ≡ false → at_row id change missing rows ≡ rows ++ missing
new_row id change missing [] new = refl
new_row id change missing (r ∷ rows) new = go (bytes_eq r.id id) refl (λ later. new_row id change missing rows later)
  where
    go : (b : Bool) → bytes_eq r.id id ≡ b → (has_row id rows ≡ false → at_row id change missing rows ≡ rows ++ missing) → at_row id change missing (r ∷ rows) ≡ (r ∷ rows) ++ missing
    go true e rest = let not_so : true ≡ false = rw e at new in absurd (true≢false not_so)
    go false e rest = rw e (ap (λ (rs : List Row). r ∷ rs) (rest (rw e at new)))

has_more : (id : Text) (rows : List Row) (r : Row) → has_row id (rows ++ r ∷ []) ≡ (has_row id rows || bytes_eq r.id id)
has_more id [] r = go (bytes_eq r.id id)
  where
    go : (b : Bool) → (b || false) ≡ b
    go true = refl
    go false = refl
has_more id (x ∷ rows) r = go (bytes_eq x.id id) (has_more id rows r)
  where
    go : (b : Bool) → has_row id (rows ++ r ∷ []) ≡ (has_row id rows || bytes_eq r.id id) → (b || has_row id (rows ++ r ∷ [])) ≡ ((b || has_row id rows) || bytes_eq r.id id)
    go true rest = refl
    go false rest = rest

-- the rows with one more, of an argument that had none
added : (id value : Text) (rows : List Row) → has_row id rows ≡ false → with_values id (reading_of vp.String) CommandLine (value ∷ []) (without id rows) ≡ rows ++ row id value ∷ []
added id value rows new =
    let out : without id rows ≡ rows = new_row id (λ r. []) [] rows new ∙ append-nil rows in
    rw out (new_row id (more_values CommandLine (value ∷ [])) (row id value ∷ []) rows new)

-- ---- one use of an argument with one value

used_once : (n value : Text) (rows : List Row) → has_row n rows ≡ false → use_fault false (option_rule n) (value ∷ []) rows ≡ []
used_once n value rows new = rw new refl

used_again : (n value : Text) (rows : List Row) → has_row n rows ≡ true → Faulty (use_fault false (option_rule n) (value ∷ []) rows)
used_again n value rows old = rw old (some_fault kind.ArgumentConflict [])

operand_once : (value : Text) (rows : List Row) → has_row operand_id rows ≡ false → use_fault false operand_rule (value ∷ []) rows ≡ []
operand_once value rows new = rw new refl

used_without : (n : Text) (rows : List Row) → Faulty (use_fault false (option_rule n) [] rows)
used_without n rows = some_fault kind.InvalidValue []

-- ---- the parts that a command takes

joined : (names : List Text) (count : ℕ) (part : Part) (left : List Text) (fewer : ℕ) (found : Option (List Part))
    → ((parts : List Part) → fits names count (part ∷ parts) ≡ fits left fewer parts) → fitting names count (with_part part found) ≡ with_part part (fitting left fewer found)
joined names count part left fewer None same = refl
joined names count part left fewer (Some parts) same = rw (same parts) (go (fits left fewer parts))
  where
    go : (b : Bool) → cond b (Some (part ∷ parts)) None ≡ with_part part (cond b (Some parts) None)
    go true = refl
    go false = refl

refused_part : (names : List Text) (count : ℕ) (part : Part) (found : Option (List Part)) → ((parts : List Part) → fits names count (part ∷ parts) ≡ false) → fitting names count (with_part part found) ≡ None
refused_part names count part None not_so = refl
refused_part names count part (Some parts) not_so = rw (not_so parts) refl

-- an option that may not be given
refused_option : (left : List Text) (count : ℕ) (n value : Text) → is_among n left ≡ false → (parts : List Part) → fits left count (Given n value ∷ parts) ≡ false
refused_option left zero n value not_so parts = rw not_so refl
refused_option left (suc count) n value not_so parts = rw not_so refl

given_option : (left : List Text) (count : ℕ) (n value : Text) → is_among n left ≡ true → (parts : List Part) → fits left count (Given n value ∷ parts) ≡ fits (without_name n left) count parts
given_option left zero n value so parts = rw so refl
given_option left (suc count) n value so parts = rw so refl

refused_open : (left : List Text) (count : ℕ) (n : Text) (words : List Text) → is_among n left ≡ false → fitting left count (parts_from (Some n) words) ≡ None
refused_open left count n [] not_so = refl
refused_open left count n (word ∷ words) not_so = go (is_dashed word)
  where
    go : (b : Bool) → fitting left count (cond b None (with_part (Given n word) (parts_from None words))) ≡ None
    go true = refl
    go false = refused_part left count (Given n word) (parts_from None words) (refused_option left count n word not_so)

-- ---- which names may still be given

and_nothing : (b : Bool) → (b && false) ≡ false
and_nothing true = refl
and_nothing false = refl

or_nothing : (b : Bool) → (b || false) ≡ b
or_nothing true = refl
or_nothing false = refl

and_true : (b : Bool) → b ≡ (b && true)
and_true true = refl
and_true false = refl

apart_from : (m n o : Text) → bytes_eq o m ≡ false → bytes_eq o n ≡ true → bytes_eq m n ≡ false
apart_from m n o other same = go (bytes_eq m n) refl
  where
    go : (b : Bool) → bytes_eq m n ≡ b → bytes_eq m n ≡ false
    go false e = e
    go true e =
        let one : o ≡ n = (bytes_eq-Decides o n).0 same in
        let two : m ≡ n = (bytes_eq-Decides m n).0 e in
        let so : bytes_eq o m ≡ true = (bytes_eq-Decides o m).1 (one ∙ sym two) in
        absurd (true≢false (sym so ∙ other))

pub among_without : (m n : Text) (left : List Text) → is_among n (without_name m left) ≡ (is_among n left && not (bytes_eq m n))
among_without m n [] = refl
among_without m n (o ∷ left) = go (bytes_eq o m) refl (among_without m n left)
  where
    same : (b any : Bool) → (any && not b) ≡ ((b || any) && not b)
    same true any = and_nothing any
    same false any = refl

    more : (b any : Bool) → (b ≡ true → bytes_eq m n ≡ false) → (b || (any && not (bytes_eq m n))) ≡ ((b || any) && not (bytes_eq m n))
    more true any other = rw (other refl) refl
    more false any other = refl

    go : (b : Bool) → bytes_eq o m ≡ b → is_among n (without_name m left) ≡ (is_among n left && not (bytes_eq m n)) → is_among n (without_name m (o ∷ left)) ≡ (is_among n (o ∷ left) && not (bytes_eq m n))
    go true e rest =
        let here : o ≡ m = (bytes_eq-Decides o m).0 e in
        let at_n : bytes_eq o n ≡ bytes_eq m n = ap (λ (x : Text). bytes_eq x n) here in
        rw (e, at_n, rest) (same (bytes_eq m n) (is_among n left))
    go false e rest = rw (e, rest) (more (bytes_eq o n) (is_among n left) (apart_from m n o e))

pub among_others : (m n : Text) (names : List Text) → is_among m names ≡ true → is_among n names ≡ false → bytes_eq m n ≡ false
among_others m n names here there = go (bytes_eq m n) refl
  where
    go : (b : Bool) → bytes_eq m n ≡ b → bytes_eq m n ≡ false
    go false e = e
    go true e = absurd (true≢false (sym here ∙ ap (λ (x : Text). is_among x names) ((bytes_eq-Decides m n).0 e) ∙ there))

-- ---- rows that were given

not_given : (id : Text) (rows : List Row) → has_row id rows ≡ false → is_given id rows ≡ false
not_given id [] none = refl
not_given id (r ∷ rows) none = go (bytes_eq r.id id) refl (λ later. not_given id rows later)
  where
    go : (b : Bool) → bytes_eq r.id id ≡ b → (has_row id rows ≡ false → is_given id rows ≡ false) → is_given id (r ∷ rows) ≡ false
    go true e rest = let not_so : true ≡ false = rw e at none in absurd (true≢false not_so)
    go false e rest = rw e (rest (rw e at none))

given_now : (id value : Text) (rows : List Row) → has_row id rows ≡ false → is_given id (rows ++ row id value ∷ []) ≡ true
given_now id value [] none = rw (eq_itself id) refl
given_now id value (r ∷ rows) none = go (bytes_eq r.id id) refl (λ later. given_now id value rows later)
  where
    go : (b : Bool) → bytes_eq r.id id ≡ b → (has_row id rows ≡ false → is_given id (rows ++ row id value ∷ []) ≡ true) → is_given id (r ∷ rows ++ row id value ∷ []) ≡ true
    go true e rest = let not_so : true ≡ false = rw e at none in absurd (true≢false not_so)
    go false e rest = rw e (rest (rw e at none))

given_still : (id : Text) (rows : List Row) (r : Row) → is_given id rows ≡ true → is_given id (rows ++ r ∷ []) ≡ true
given_still id [] r given = absurd (true≢false (sym given))
given_still id (x ∷ rows) r given = go (bytes_eq x.id id) refl (λ later. given_still id rows r later)
  where
    go : (b : Bool) → bytes_eq x.id id ≡ b → (is_given id rows ≡ true → is_given id (rows ++ r ∷ []) ≡ true) → is_given id (x ∷ rows ++ r ∷ []) ≡ true
    go true e rest = rw e (rw e at given)
    go false e rest = rw e (rest (rw e at given))

-- ---- what is answered

-- The faults and the last rows, beside the parts of the words: without parts there is a fault; else there is none, and
-- the parts are added to the rows.
abbrev pub Answers : Kinds → List Row → List Row → Option (List Part) → Type 0
Answers kinds rows last None = Faulty kinds
Answers kinds rows last (Some parts) = (kinds ≡ []) × (last ≡ rows ++ map part_row parts)

answers_part : (kinds : Kinds) (rows last : List Row) (part : Part) (found : Option (List Part)) → Answers kinds (rows ++ part_row part ∷ []) last found → Answers kinds rows last (with_part part found)
answers_part kinds rows last part None bad = bad
answers_part kinds rows last part (Some parts) good = (good.0, good.1 ∙ append_assoc rows (part_row part ∷ []) (map part_row parts))

-- ---- the walk

module _ (c : List Rule) (names : List Text) (takes : Bool) (has : HasRules c names takes) where
  abbrev pub held : List Row → Option (Text × List Text) → Held
  held rows pending = record { rows = rows; pending = pending; skip = 0 }

  abbrev pub state : List Row → Option (Text × List Text) → Waiting → ℕ → Bool → Walk
  state rows pending waiting place trails =
      record { held = held rows pending; waiting = waiting; position = place; is_trailing = trails; stopped = None }

  abbrev pub last_of : Walk → List Text → Walk
  last_of w words = fold (walked c []) w words

  abbrev pub last_rows : Walk → List Text → List Row
  last_rows w words = settled_rows c (last_of w words).held.pending (last_of w words).held.rows

  abbrev pub turn : Walk → Text → Kinds
  turn w word = turn_fault (shaped c) [] w word

  abbrev pub check : List Row → Kinds
  check rows = check_fault (shaped c) rows false

  -- the faults of a walk from here on, and of what is looked at behind it
  abbrev pub total : Walk → List Text → Kinds
  total w words = or_else (walk_fault (shaped c) [] w words) (or_else (settle_fault c false (last_of w words).held) (check (last_rows w words)))

  total_none : (w : Walk) → total w [] ≡ or_else (settle_fault c false w.held) (check (settled_rows c w.held.pending w.held.rows))
  unfolding walk_fault
  total_none w = refl

  total_bad : (w : Walk) (word : Text) (words : List Text) → Faulty (turn w word) → Faulty (total w (word ∷ words))
  unfolding walk_fault
  total_bad w word words bad =
      first_faulty (or_else (turn w word) (walk_fault (shaped c) [] (walked c [] w word) words)) _ (first_faulty (turn w word) (walk_fault (shaped c) [] (walked c [] w word) words) bad)

  total_more : (w next : Walk) (word : Text) (words : List Text) → turn w word ≡ [] → walked c [] w word ≡ next → total w (word ∷ words) ≡ total next words
  unfolding walk_fault
  total_more w next word words clean step = rw clean (ap (λ (v : Walk). total v words) step)

  rows_more : (w next : Walk) (word : Text) (words : List Text) → walked c [] w word ≡ next → last_rows w (word ∷ words) ≡ last_rows next words
  rows_more w next word words step = ap (λ (v : Walk). last_rows v words) step

  -- the answer at a state is that at the next one
  goes_on : (w next : Walk) (word : Text) (words : List Text) (rows : List Row) (found : Option (List Part)) → turn w word ≡ [] → walked c [] w word ≡ next
      → Answers (total next words) rows (last_rows next words) found → Answers (total w (word ∷ words)) rows (last_rows w (word ∷ words)) found
  goes_on w next word words rows found clean step answer =
      subst (λ (k : Kinds). Answers k rows (last_rows w (word ∷ words)) found) (sym (total_more w next word words clean step))
      (subst (λ (r : List Row). Answers (total next words) rows r found) (sym (rows_more w next word words step)) answer)

  -- ---- a word that goes to the positional argument

  behind_stray : (rows : List Row) (pending : Option (Text × List Text)) (waiting : Waiting) (place : ℕ) (word : Text) → arg_by_index c place ≡ None → Faulty (turn (state rows pending waiting place true) word)
  behind_stray rows pending waiting place word none = rw none (some_fault kind.UnknownArgument [])

  behind_operand : (rows : List Row) (pending : Option (Text × List Text)) (waiting : Waiting) (place : ℕ) (word : Text) → arg_by_index c place ≡ Some operand_rule
      → turn (state rows pending waiting place true) word ≡ settle_fault c false (held rows pending)
  behind_operand rows pending waiting place word found = rw (found, and_nothing (is_pending operand_rule pending)) refl

  behind_next : (rows : List Row) (pending : Option (Text × List Text)) (waiting : Waiting) (word : Text) → arg_by_index c 1 ≡ Some operand_rule
      → walked c [] (state rows pending waiting 1 true) word ≡ state (settled_rows c pending rows) (Some (operand_id, word ∷ [])) idle 2 true
  unfolding walked
  behind_next rows pending waiting word found = rw (found, and_nothing (is_pending operand_rule pending)) refl

  bare_stray : (rows : List Row) (pending : Option (Text × List Text)) (place : ℕ) (word : Text) → IsBare word → arg_by_index c place ≡ None → Faulty (turn (state rows pending idle place false) word)
  bare_stray rows pending place word b none = rw (b.other, b.long, b.short, none) (some_fault kind.UnknownArgument [])

  bare_operand : (rows : List Row) (pending : Option (Text × List Text)) (place : ℕ) (word : Text) → IsBare word → arg_by_index c place ≡ Some operand_rule
      → turn (state rows pending idle place false) word ≡ settle_fault c false (held rows pending)
  bare_operand rows pending place word b found = rw (b.other, b.long, b.short, found, and_nothing (is_pending operand_rule pending)) refl

  bare_next : (rows : List Row) (pending : Option (Text × List Text)) (word : Text) → IsBare word → arg_by_index c 1 ≡ Some operand_rule
      → walked c [] (state rows pending idle 1 false) word ≡ state (settled_rows c pending rows) (Some (operand_id, word ∷ [])) idle 2 false
  unfolding walked
  bare_next rows pending word b found = rw (b.other, b.long, b.short, found, and_nothing (is_pending operand_rule pending)) refl

  -- ---- a word that is the value of an option

  value_clean : (rows : List Row) (pending : Option (Text × List Text)) (n : Text) (place : ℕ) (word : Text) → IsBare word → turn (state rows pending (option n) place false) word ≡ []
  value_clean rows pending n place word b = rw (b.other, b.long, b.short) refl

  value_next : (rows : List Row) (n : Text) (place : ℕ) (word : Text) → IsBare word → is_among n names ≡ true
      → walked c [] (state rows (Some (n, [])) (option n) place false) word ≡ state rows (Some (n, word ∷ [])) idle place false
  unfolding walked
  value_next rows n place word b known = rw (b.other, b.long, b.short, has.by_id n known, eq_itself n) refl

  -- ---- `--`

  ends_clean : (rows : List Row) (pending : Option (Text × List Text)) (waiting : Waiting) (place : ℕ) (word : Text) → Ends word → (waiting ≡ idle) ⊎ ((n : Text) × (waiting ≡ option n))
      → (turn (state rows pending waiting place false) word ≡ []) × (walked c [] (state rows pending waiting place false) word ≡ state rows pending waiting place true)
  unfolding walked
  ends_clean rows pending waiting place word e (inl is) = rw (is, e.same) (refl, refl)
  ends_clean rows pending waiting place word e (inr is) = rw (is.1, e.same) (refl, refl)

  -- ---- `-abc`

  short_bad : (rows : List Row) (pending : Option (Text × List Text)) (waiting : Waiting) (place : ℕ) (word : Text) → IsShort word → (waiting ≡ idle) ⊎ ((n : Text) × (waiting ≡ option n))
      → Faulty (turn (state rows pending waiting place false) word)
  unfolding flags_fault
  short_bad rows pending waiting place word s (inl is) =
      let long : length (s.first ∷ s.rest) ≡ suc (length s.rest) = omega arith in
      rw (is, s.other, s.long, s.short, long, s.begins, has.by_short s.character) (some_fault kind.UnknownArgument [])
  short_bad rows pending waiting place word s (inr is) =
      let long : length (s.first ∷ s.rest) ≡ suc (length s.rest) = omega arith in
      rw (is.1, s.other, s.long, s.short, long, s.begins, has.by_short s.character) (some_fault kind.UnknownArgument [])

  -- ---- `--name` and `--name=value`

  abbrev pub attached : Text → Option Text
  attached word = if has_value word then Some (option_value word) else None

  unknown_bad : (rows : List Row) (pending : Option (Text × List Text)) (waiting : Waiting) (place : ℕ) (word : Text) → Names word → (waiting ≡ idle) ⊎ ((n : Text) × (waiting ≡ option n))
      → is_among (option_name word) names ≡ false → Faulty (turn (state rows pending waiting place false) word)
  unknown_bad rows pending waiting place word w (inl is) not_so = rw (is, w.other, w.long, has.by_long (option_name word), not_so) (some_fault kind.UnknownArgument [])
  unknown_bad rows pending waiting place word w (inr is) not_so = rw (is.1, w.other, w.long, has.by_long (option_name word), not_so) (some_fault kind.UnknownArgument [])

  -- what is pending is looked at by each option
  unsettled_bad : (rows : List Row) (pending : Option (Text × List Text)) (waiting : Waiting) (place : ℕ) (word : Text) → Names word → (waiting ≡ idle) ⊎ ((n : Text) × (waiting ≡ option n))
      → Faulty (settle_fault c false (held rows pending)) → Faulty (turn (state rows pending waiting place false) word)
  unsettled_bad rows pending waiting place word w how bad = by (is_among (option_name word) names) refl
    where
      inner : (b : Bool) → Faulty (option_fault c false (option_rule (option_name word)) (if b then Some (option_value word) else None) (held rows pending))
      inner true = first_faulty (settle_fault c false (held rows pending)) (use_fault false (option_rule (option_name word)) (option_value word ∷ []) (settled_rows c pending rows)) bad
      inner false = bad

      known : is_among (option_name word) names ≡ true → (waiting ≡ idle) ⊎ ((n : Text) × (waiting ≡ option n)) → Faulty (turn (state rows pending waiting place false) word)
      known so (inl is) = rw (is, w.other, w.long, has.by_long (option_name word), so) (first_faulty (option_fault c false (option_rule (option_name word)) (attached word) (held rows pending)) _ (inner (has_value word)))
      known so (inr is) = rw (is.1, w.other, w.long, has.by_long (option_name word), so) (first_faulty (option_fault c false (option_rule (option_name word)) (attached word) (held rows pending)) _ (inner (has_value word)))

      by : (b : Bool) → is_among (option_name word) names ≡ b → Faulty (turn (state rows pending waiting place false) word)
      by false not_so = unknown_bad rows pending waiting place word w how not_so
      by true so = known so how

  joined_turn : (rows : List Row) (pending : Option (Text × List Text)) (place : ℕ) (word : Text) → Names word → is_among (option_name word) names ≡ true → has_value word ≡ true
      → turn (state rows pending idle place false) word ≡ or_else (or_else (settle_fault c false (held rows pending)) (use_fault false (option_rule (option_name word)) (option_value word ∷ []) (settled_rows c pending rows))) []
  joined_turn rows pending place word w so value = rw (w.other, w.long, has.by_long (option_name word), so, value) refl

  joined_next : (rows : List Row) (pending : Option (Text × List Text)) (place : ℕ) (word : Text) → Names word → is_among (option_name word) names ≡ true → has_value word ≡ true
      → walked c [] (state rows pending idle place false) word
      ≡ state (with_values (option_name word) (reading_of vp.String) CommandLine (option_value word ∷ []) (without (option_name word) (settled_rows c pending rows))) None idle place false
  unfolding walked
  joined_next rows pending place word w so value = rw (w.other, w.long, has.by_long (option_name word), so, value) refl

  open_turn : (rows : List Row) (pending : Option (Text × List Text)) (place : ℕ) (word : Text) → Names word → is_among (option_name word) names ≡ true → has_value word ≡ false
      → turn (state rows pending idle place false) word ≡ or_else (settle_fault c false (held rows pending)) []
  open_turn rows pending place word w so value = rw (w.other, w.long, has.by_long (option_name word), so, value) refl

  open_next : (rows : List Row) (pending : Option (Text × List Text)) (place : ℕ) (word : Text) → Names word → is_among (option_name word) names ≡ true → has_value word ≡ false
      → walked c [] (state rows pending idle place false) word ≡ state (settled_rows c pending rows) (Some (option_name word, [])) (option (option_name word)) place false
  unfolding walked
  open_next rows pending place word w so value = rw (w.other, w.long, has.by_long (option_name word), so, value) refl

  -- ---- what is pending, and what has to come

  pub record Settles (held_rows : List Row) (pending : Option (Text × List Text)) (rows : List Row) : Type 0 where
    pub clean : settle_fault c false (held held_rows pending) ≡ []
    pub are : settled_rows c pending held_rows ≡ rows

  -- the positional argument takes the next place, or there is none and it is not missing
  abbrev pub Due : ℕ → List Row → ℕ → Type 0
  Due place rows zero = (arg_by_index c place ≡ None) × ((takes ≡ false) ⊎ (is_given operand_id rows ≡ true))
  Due place rows (suc zero) = (place ≡ 1) × (takes ≡ true) × (has_row operand_id rows ≡ false)
  Due place rows (suc (suc count)) = ⊥

  abbrev pub MayCome : List Text → List Row → Type 0
  MayCome left rows = (n : Text) → is_among n left ≡ (is_among n names && not (has_row n rows))

  first_operand : takes ≡ true → arg_by_index c 1 ≡ Some operand_rule
  first_operand so = has.first_place ∙ ap (λ (b : Bool). if b then Some operand_rule else None) so

  check_is : (rows : List Row) → check rows ≡ (if takes && not (is_given operand_id rows) then kind.MissingRequiredArgument ∷ [] else [])
  check_is rows = rw (has.missing rows) refl

  check_clean : (rows : List Row) → (takes ≡ false) ⊎ (is_given operand_id rows ≡ true) → check rows ≡ []
  check_clean rows (inl not_so) = check_is rows ∙ rw not_so refl
  check_clean rows (inr given) = check_is rows ∙ rw (given, and_nothing takes) refl

  check_bad : (rows : List Row) → takes ≡ true → has_row operand_id rows ≡ false → Faulty (check rows)
  check_bad rows so none = rw (check_is rows, so, not_given operand_id rows none) (some_fault kind.MissingRequiredArgument [])

  operand_settles : (rows : List Row) (word : Text) → takes ≡ true → has_row operand_id rows ≡ false → Settles rows (Some (operand_id, word ∷ [])) (rows ++ row operand_id word ∷ [])
  operand_settles rows word so none = record {
    clean = rw (has.by_operand so) (operand_once word rows none);
    are = rw (has.by_operand so) (added operand_id word rows none);
  }

  option_settles : (rows : List Row) (n word : Text) → is_among n names ≡ true → has_row n rows ≡ false → Settles rows (Some (n, word ∷ [])) (rows ++ row n word ∷ [])
  option_settles rows n word known none = record {
    clean = rw (has.by_id n known) (used_once n word rows none);
    are = rw (has.by_id n known) (added n word rows none);
  }

  option_unsettled : (rows : List Row) (n word : Text) → is_among n names ≡ true → has_row n rows ≡ true → Faulty (settle_fault c false (held rows (Some (n, word ∷ []))))
  option_unsettled rows n word known old = rw (has.by_id n known) (used_again n word rows old)

  open_unsettled : (rows : List Row) (n : Text) → is_among n names ≡ true → Faulty (settle_fault c false (held rows (Some (n, []))))
  open_unsettled rows n known = rw (has.by_id n known) (used_without n rows)

  -- ---- what may come behind another part

  due_operand : (rows : List Row) (word : Text) → has_row operand_id rows ≡ false → Due 2 (rows ++ row operand_id word ∷ []) 0
  due_operand rows word none = (has.no_second, inr (given_now operand_id word rows none))

  due_option : (place : ℕ) (rows : List Row) (count : ℕ) (n value : Text) → is_among n names ≡ true → Due place rows count → Due place (rows ++ row n value ∷ []) count
  due_option place rows zero n value known (none, inl not_so) = (none, inl not_so)
  due_option place rows zero n value known (none, inr given) = (none, inr (given_still operand_id rows (row n value) given))
  due_option place rows (suc zero) n value known (at, so, none) =
      (at, so, has_more operand_id rows (row n value) ∙ rw (none, among_others n operand_id names known has.apart) refl)
  due_option place rows (suc (suc count)) n value known due = due

  may_option : (left : List Text) (rows : List Row) (n value : Text) → MayCome left rows → MayCome (without_name n left) (rows ++ row n value ∷ [])
  may_option left rows n value may other =
      among_without n other left ∙ rw (may other, has_more other rows (row n value)) (go (is_among other names) (has_row other rows) (bytes_eq n other))
    where
      go : (a h b : Bool) → ((a && not h) && not b) ≡ (a && not (h || b))
      go true true b = refl
      go true false b = refl
      go false h b = refl

  not_operand : (other : Text) → is_among other names ≡ true → bytes_eq operand_id other ≡ false
  not_operand other e = turned (bytes_eq operand_id other) refl
    where
      turned : (t : Bool) → bytes_eq operand_id other ≡ t → bytes_eq operand_id other ≡ false
      turned false f = f
      turned true f = absurd (true≢false (sym e ∙ sym (ap (λ (x : Text). is_among x names) ((bytes_eq-Decides operand_id other).0 f)) ∙ has.apart))

  may_operand : (left : List Text) (rows : List Row) (value : Text) → MayCome left rows → MayCome left (rows ++ row operand_id value ∷ [])
  may_operand left rows value may other = may other ∙ go (is_among other names) refl
    where
      go : (b : Bool) → is_among other names ≡ b → (is_among other names && not (has_row other rows)) ≡ (is_among other names && not (has_row other (rows ++ row operand_id value ∷ [])))
      go false e = rw e refl
      go true e =
          let away : bytes_eq operand_id other ≡ false = not_operand other e in
          rw (has_more other rows (row operand_id value), away, or_nothing (has_row other rows)) refl

  still_new : (left : List Text) (rows : List Row) (n : Text) → MayCome left rows → is_among n left ≡ true → (is_among n names ≡ true) × (has_row n rows ≡ false)
  still_new left rows n may so = go (is_among n names) (has_row n rows) refl refl (sym (may n) ∙ so)
    where
      go : (a h : Bool) → is_among n names ≡ a → has_row n rows ≡ h → (a && not h) ≡ true → (is_among n names ≡ true) × (has_row n rows ≡ false)
      go true true e f t = absurd (true≢false (sym t))
      go true false e f t = (e, f)
      go false h e f t = absurd (true≢false (sym t))

  no_more : (left : List Text) (rows : List Row) (n : Text) → MayCome left rows → is_among n left ≡ false → (is_among n names ≡ false) ⊎ ((is_among n names ≡ true) × (has_row n rows ≡ true))
  no_more left rows n may not_so = go (is_among n names) (has_row n rows) refl refl (sym (may n) ∙ not_so)
    where
      go : (a h : Bool) → is_among n names ≡ a → has_row n rows ≡ h → (a && not h) ≡ false → (is_among n names ≡ false) ⊎ ((is_among n names ≡ true) × (has_row n rows ≡ true))
      go true true e f t = inr (e, f)
      go true false e f t = absurd (true≢false t)
      go false h e f t = inl e

  -- ---- what is pending and wrong stays so

  abbrev pub IsPlace : ℕ → Type 0
  IsPlace place = (arg_by_index c place ≡ None) ⊎ (arg_by_index c place ≡ Some operand_rule)

  place_of : (place : ℕ) (rows : List Row) (count : ℕ) → Due place rows count → IsPlace place
  place_of place rows zero due = inl due.0
  place_of place rows (suc zero) due = inr (subst (λ (n : ℕ). arg_by_index c n ≡ Some operand_rule) (sym due.0) (first_operand due.1))
  place_of place rows (suc (suc count)) due = absurd due

  end_bad : (w : Walk) → Faulty (settle_fault c false w.held) → Faulty (total w [])
  end_bad w bad = rw (total_none w) (first_faulty (settle_fault c false w.held) (check (settled_rows c w.held.pending w.held.rows)) bad)

  stuck_behind : (words : List Text) (rows : List Row) (pending : Option (Text × List Text)) (waiting : Waiting) (place : ℕ) → IsPlace place
      → Faulty (settle_fault c false (held rows pending)) → Faulty (total (state rows pending waiting place true) words)
  stuck_behind [] rows pending waiting place at bad = end_bad (state rows pending waiting place true) bad
  stuck_behind (word ∷ words) rows pending waiting place (inl none) bad = total_bad (state rows pending waiting place true) word words (behind_stray rows pending waiting place word none)
  stuck_behind (word ∷ words) rows pending waiting place (inr found) bad = total_bad (state rows pending waiting place true) word words (rw (behind_operand rows pending waiting place word found) bad)

  stuck : (words : List Text) → AllByRecursion IsUtf8 words → (rows : List Row) (pending : Option (Text × List Text)) (place : ℕ) → IsPlace place
      → Faulty (settle_fault c false (held rows pending)) → Faulty (total (state rows pending idle place false) words)
  stuck [] utf8 rows pending place at bad = end_bad (state rows pending idle place false) bad
  stuck (word ∷ words) utf8 rows pending place at bad = by (classify word utf8.0)
    where
      plain : IsBare word → IsPlace place → Faulty (total (state rows pending idle place false) (word ∷ words))
      plain b (inl none) = total_bad (state rows pending idle place false) word words (bare_stray rows pending place word b none)
      plain b (inr found) = total_bad (state rows pending idle place false) word words (rw (bare_operand rows pending place word b found) bad)

      by : Class word → Faulty (total (state rows pending idle place false) (word ∷ words))
      by (is_end e) =
          let step = ends_clean rows pending idle place word e (inl refl) in
          rw (total_more (state rows pending idle place false) (state rows pending idle place true) word words step.0 step.1) (stuck_behind words rows pending idle place at bad)
      by (is_option w) = total_bad (state rows pending idle place false) word words (unsettled_bad rows pending idle place word w (inl refl) bad)
      by (is_short s) = total_bad (state rows pending idle place false) word words (short_bad rows pending idle place word s (inl refl))
      by (is_bare b) = plain b at

  -- ---- the words behind `--`

  operand_part : (left : List Text) (word : Text) (found : Option (List Part)) → fitting left 1 (with_part (Plain word) found) ≡ with_part (Plain word) (fitting left 0 found)
  operand_part left word found = joined left 1 (Plain word) left 0 found (λ parts. refl)

  end_clean : (w : Walk) (rows : List Row) → Settles w.held.rows w.held.pending rows → (takes ≡ false) ⊎ (is_given operand_id rows ≡ true) → w.held.skip ≡ 0 → Answers (total w []) rows (last_rows w []) (Some [])
  end_clean w rows s given skip = (total_none w ∙ ends_so, s.are ∙ sym (append-nil rows))
    where
      ends_so : or_else (settle_fault c false w.held) (check (settled_rows c w.held.pending w.held.rows)) ≡ []
      ends_so = rw (s.clean, s.are) (check_clean rows given)

  end_missing : (w : Walk) (rows : List Row) → Settles w.held.rows w.held.pending rows → takes ≡ true → has_row operand_id rows ≡ false → Faulty (total w [])
  end_missing w rows s so none = rw (total_none w, s.clean, s.are) (check_bad rows so none)

  behind : (words : List Text) (held_rows : List Row) (pending : Option (Text × List Text)) (waiting : Waiting) (place : ℕ) (rows : List Row) (left : List Text) (count : ℕ)
      → Settles held_rows pending rows → Due place rows count
      → Answers (total (state held_rows pending waiting place true) words) rows (last_rows (state held_rows pending waiting place true) words) (fitting left count (Some (map Plain words)))
  behind [] q p waiting place rows left zero s due = end_clean (state q p waiting place true) rows s due.1 refl
  behind [] q p waiting place rows left (suc zero) s due = end_missing (state q p waiting place true) rows s due.1 due.2
  behind [] q p waiting place rows left (suc (suc count)) s due = absurd due
  behind (word ∷ words) q p waiting place rows left zero s due = total_bad (state q p waiting place true) word words (behind_stray q p waiting place word due.0)
  behind (word ∷ words) q p waiting place rows left (suc (suc count)) s due = absurd due
  behind (word ∷ words) q p waiting place rows left (suc zero) s due =
      let found : arg_by_index c 1 ≡ Some operand_rule = first_operand due.1 in
      let here : arg_by_index c place ≡ Some operand_rule = subst (λ (n : ℕ). arg_by_index c n ≡ Some operand_rule) (sym due.0) found in
      let clean : turn (state q p waiting place true) word ≡ [] = behind_operand q p waiting place word here ∙ s.clean in
      let step : walked c [] (state q p waiting place true) word ≡ state rows (Some (operand_id, word ∷ [])) idle 2 true =
      ap (λ (n : ℕ). walked c [] (state q p waiting n true) word) due.0 ∙ behind_next q p waiting word found ∙ ap (λ (r : List Row). state r (Some (operand_id, word ∷ [])) idle 2 true) s.are in
      let rest = behind words rows (Some (operand_id, word ∷ [])) idle 2 (rows ++ row operand_id word ∷ []) left 0 (operand_settles rows word due.1 due.2) (due_operand rows word due.2) in
      let answer = answers_part (total (state rows (Some (operand_id, word ∷ [])) idle 2 true) words) rows (last_rows (state rows (Some (operand_id, word ∷ [])) idle 2 true) words) (Plain word) (fitting left 0 (Some (map Plain words))) rest in
      subst (λ (f : Option (List Part)). Answers (total (state q p waiting place true) (word ∷ words)) rows (last_rows (state q p waiting place true) (word ∷ words)) f) (sym (operand_part left word (Some (map Plain words))))
      (goes_on (state q p waiting place true) (state rows (Some (operand_id, word ∷ [])) idle 2 true) word words rows (with_part (Plain word) (fitting left 0 (Some (map Plain words)))) clean step answer)

  -- ---- all words

  abbrev pub Idle : List Text → Type 0
  Idle words = (q : List Row) (p : Option (Text × List Text)) (place : ℕ) (rows : List Row) (left : List Text) (count : ℕ)
      → Settles q p rows → MayCome left rows → Due place rows count
      → Answers (total (state q p idle place false) words) rows (last_rows (state q p idle place false) words) (fitting left count (parts_from None words))

  abbrev pub Opens : List Text → Type 0
  Opens words = (place : ℕ) (rows : List Row) (left : List Text) (count : ℕ) (n : Text)
      → is_among n names ≡ true → MayCome left rows → Due place rows count
      → Answers (total (state rows (Some (n, [])) (option n) place false) words) rows (last_rows (state rows (Some (n, [])) (option n) place false) words) (fitting left count (parts_from (Some n) words))

  nothing_settles : (rows : List Row) → Settles rows None rows
  nothing_settles rows = record { clean = refl; are = refl }

  -- an answer where the parts are none
  refuses : (kinds : Kinds) (rows last : List Row) (found : Option (List Part)) → found ≡ None → Faulty kinds → Answers kinds rows last found
  refuses kinds rows last found none bad = subst (Answers kinds rows last) (sym none) bad

  -- a part that is added
  adds : (w next : Walk) (word : Text) (words : List Text) (rows : List Row) (part : Part) (all found : Option (List Part)) → turn w word ≡ [] → walked c [] w word ≡ next → all ≡ with_part part found
      → Answers (total next words) (rows ++ part_row part ∷ []) (last_rows next words) found → Answers (total w (word ∷ words)) rows (last_rows w (word ∷ words)) all
  adds w next word words rows part all found clean step same answer =
      subst (Answers (total w (word ∷ words)) rows (last_rows w (word ∷ words))) (sym same)
      (goes_on w next word words rows (with_part part found) clean step (answers_part (total next words) rows (last_rows next words) part found answer))

  opens_step : (word : Text) (words : List Text) → AllByRecursion IsUtf8 words → Class word → Idle words → Opens (word ∷ words)
  opens_step word words utf8 (is_end e) rest place rows left count n known may due =
      let w = state rows (Some (n, [])) (option n) place false in
      let step = ends_clean rows (Some (n, [])) (option n) place word e (inr (n, refl)) in
      refuses (total w (word ∷ words)) rows (last_rows w (word ∷ words)) (fitting left count (parts_from (Some n) (word ∷ words))) (rw e.dashed refl)
      (rw (total_more w (state rows (Some (n, [])) (option n) place true) word words step.0 step.1) (stuck_behind words rows (Some (n, [])) (option n) place (place_of place rows count due) (open_unsettled rows n known)))
  opens_step word words utf8 (is_option d) rest place rows left count n known may due =
      let w = state rows (Some (n, [])) (option n) place false in
      refuses (total w (word ∷ words)) rows (last_rows w (word ∷ words)) (fitting left count (parts_from (Some n) (word ∷ words))) (rw d.dashed refl)
      (total_bad w word words (unsettled_bad rows (Some (n, [])) (option n) place word d (inr (n, refl)) (open_unsettled rows n known)))
  opens_step word words utf8 (is_short s) rest place rows left count n known may due =
      let w = state rows (Some (n, [])) (option n) place false in
      refuses (total w (word ∷ words)) rows (last_rows w (word ∷ words)) (fitting left count (parts_from (Some n) (word ∷ words))) (rw s.dashed refl)
      (total_bad w word words (short_bad rows (Some (n, [])) (option n) place word s (inr (n, refl))))
  opens_step word words utf8 (is_bare b) rest place rows left count n known may due = by (is_among n left) refl
    where
      w : Walk
      w = state rows (Some (n, [])) (option n) place false

      next : Walk
      next = state rows (Some (n, word ∷ [])) idle place false

      by : (t : Bool) → is_among n left ≡ t
          → Answers (total (state rows (Some (n, [])) (option n) place false) (word ∷ words)) rows (last_rows (state rows (Some (n, [])) (option n) place false) (word ∷ words)) (fitting left count (parts_from (Some n) (word ∷ words)))
      by true so =
          let new = still_new left rows n may so in
          let all : fitting left count (parts_from (Some n) (word ∷ words)) ≡ with_part (Given n word) (fitting (without_name n left) count (parts_from None words)) =
          rw b.dashed (joined left count (Given n word) (without_name n left) count (parts_from None words) (given_option left count n word so)) in
          adds (state rows (Some (n, [])) (option n) place false) (state rows (Some (n, word ∷ [])) idle place false) word words rows (Given n word) (fitting left count (parts_from (Some n) (word ∷ words))) (fitting (without_name n left) count (parts_from None words))
          (value_clean rows (Some (n, [])) n place word b) (value_next rows n place word b known) all
          (rest rows (Some (n, word ∷ [])) place (rows ++ row n word ∷ []) (without_name n left) count (option_settles rows n word known new.1) (may_option left rows n word may) (due_option place rows count n word known due))
      by false not_so =
          let old : has_row n rows ≡ true = elim (no_more left rows n may not_so) [ inl other ↦ absurd (true≢false (sym known ∙ other)) | inr both ↦ both.1 ] in
          let none : fitting left count (parts_from (Some n) (word ∷ words)) ≡ None = refused_open left count n (word ∷ words) not_so in
          refuses (total (state rows (Some (n, [])) (option n) place false) (word ∷ words)) rows (last_rows (state rows (Some (n, [])) (option n) place false) (word ∷ words)) (fitting left count (parts_from (Some n) (word ∷ words))) none
          (rw (total_more (state rows (Some (n, [])) (option n) place false) (state rows (Some (n, word ∷ [])) idle place false) word words (value_clean rows (Some (n, [])) n place word b) (value_next rows n place word b known))
          (stuck words utf8 rows (Some (n, word ∷ [])) place (place_of place rows count due) (option_unsettled rows n word known old)))

  idle_step : (word : Text) (words : List Text) → AllByRecursion IsUtf8 words → Class word → Idle words → Opens words → Idle (word ∷ words)
  idle_step word words utf8 (is_end e) rest opens q p place rows left count s may due =
      let w = state q p idle place false in
      let step = ends_clean q p idle place word e (inl refl) in
      let all : fitting left count (parts_from None (word ∷ words)) ≡ fitting left count (Some (map Plain words)) = rw e.same refl in
      subst (Answers (total w (word ∷ words)) rows (last_rows w (word ∷ words))) (sym all)
      (goes_on w (state q p idle place true) word words rows (fitting left count (Some (map Plain words))) step.0 step.1 (behind words q p idle place rows left count s due))
  idle_step word words utf8 (is_short x) rest opens q p place rows left count s may due =
      let w = state q p idle place false in
      refuses (total w (word ∷ words)) rows (last_rows w (word ∷ words)) (fitting left count (parts_from None (word ∷ words))) (rw (x.other, x.named, x.dashed) refl)
      (total_bad w word words (short_bad q p idle place word x (inl refl)))
  idle_step word words utf8 (is_bare b) rest opens q p place rows left count s may due = by count due
    where
      plain : parts_from None (word ∷ words) ≡ with_part (Plain word) (parts_from None words)
      plain = rw (b.other, b.named, b.dashed) refl

      by : (n : ℕ) → Due place rows n → Answers (total (state q p idle place false) (word ∷ words)) rows (last_rows (state q p idle place false) (word ∷ words)) (fitting left n (parts_from None (word ∷ words)))
      by zero d =
          refuses (total (state q p idle place false) (word ∷ words)) rows (last_rows (state q p idle place false) (word ∷ words)) (fitting left zero (parts_from None (word ∷ words)))
          (ap (fitting left zero) plain ∙ refused_part left zero (Plain word) (parts_from None words) (λ parts. refl))
          (total_bad (state q p idle place false) word words (bare_stray q p place word b d.0))
      by (suc zero) d =
          let found : arg_by_index c 1 ≡ Some operand_rule = first_operand d.1 in
          let here : arg_by_index c place ≡ Some operand_rule = subst (λ (n : ℕ). arg_by_index c n ≡ Some operand_rule) (sym d.0) found in
          let clean : turn (state q p idle place false) word ≡ [] = bare_operand q p place word b here ∙ s.clean in
          let step : walked c [] (state q p idle place false) word ≡ state rows (Some (operand_id, word ∷ [])) idle 2 false =
          ap (λ (n : ℕ). walked c [] (state q p idle n false) word) d.0 ∙ bare_next q p word b found ∙ ap (λ (r : List Row). state r (Some (operand_id, word ∷ [])) idle 2 false) s.are in
          let all : fitting left 1 (parts_from None (word ∷ words)) ≡ with_part (Plain word) (fitting left 0 (parts_from None words)) = ap (fitting left 1) plain ∙ operand_part left word (parts_from None words) in
          adds (state q p idle place false) (state rows (Some (operand_id, word ∷ [])) idle 2 false) word words rows (Plain word) (fitting left 1 (parts_from None (word ∷ words))) (fitting left 0 (parts_from None words)) clean step all
          (rest rows (Some (operand_id, word ∷ [])) 2 (rows ++ row operand_id word ∷ []) left 0 (operand_settles rows word d.1 d.2) (may_operand left rows word may) (due_operand rows word d.2))
      by (suc (suc n)) d = absurd d
  idle_step word words utf8 (is_option d) rest opens q p place rows left count s may due = by (has_value word) refl
    where
      n : Text
      n = option_name word

      here : Walk
      here = state q p idle place false

      unknown : is_among (option_name word) names ≡ false → Faulty (total (state q p idle place false) (word ∷ words))
      unknown not_so = total_bad (state q p idle place false) word words (unknown_bad q p idle place word d (inl refl) not_so)

      joined_parts : has_value word ≡ true → parts_from None (word ∷ words) ≡ with_part (Given (option_name word) (option_value word)) (parts_from None words)
      joined_parts value = rw (d.other, d.named, value) refl

      open_parts : has_value word ≡ false → parts_from None (word ∷ words) ≡ parts_from (Some (option_name word)) words
      open_parts value = rw (d.other, d.named, value) refl

      joined_by : (t : Bool) → is_among (option_name word) left ≡ t → has_value word ≡ true
          → Answers (total (state q p idle place false) (word ∷ words)) rows (last_rows (state q p idle place false) (word ∷ words)) (fitting left count (parts_from None (word ∷ words)))
      joined_by true so value =
          let new = still_new left rows (option_name word) may so in
          let once : use_fault false (option_rule (option_name word)) (option_value word ∷ []) (settled_rows c p q) ≡ [] =
          ap (use_fault false (option_rule (option_name word)) (option_value word ∷ [])) s.are ∙ used_once (option_name word) (option_value word) rows new.1 in
          let clean : turn (state q p idle place false) word ≡ [] = joined_turn q p place word d new.0 value ∙ rw (s.clean, once) refl in
          let made : with_values (option_name word) (reading_of vp.String) CommandLine (option_value word ∷ []) (without (option_name word) (settled_rows c p q)) ≡ rows ++ row (option_name word) (option_value word) ∷ [] =
          ap (λ (r : List Row). with_values (option_name word) (reading_of vp.String) CommandLine (option_value word ∷ []) (without (option_name word) r)) s.are ∙ added (option_name word) (option_value word) rows new.1 in
          let step : walked c [] (state q p idle place false) word ≡ state (rows ++ row (option_name word) (option_value word) ∷ []) None idle place false =
          joined_next q p place word d new.0 value ∙ ap (λ (r : List Row). state r None idle place false) made in
          let all : fitting left count (parts_from None (word ∷ words)) ≡ with_part (Given (option_name word) (option_value word)) (fitting (without_name (option_name word) left) count (parts_from None words)) =
          ap (fitting left count) (joined_parts value) ∙ joined left count (Given (option_name word) (option_value word)) (without_name (option_name word) left) count (parts_from None words) (given_option left count (option_name word) (option_value word) so) in
          adds (state q p idle place false) (state (rows ++ row (option_name word) (option_value word) ∷ []) None idle place false) word words rows (Given (option_name word) (option_value word))
          (fitting left count (parts_from None (word ∷ words))) (fitting (without_name (option_name word) left) count (parts_from None words)) clean step all
          (rest (rows ++ row (option_name word) (option_value word) ∷ []) None place (rows ++ row (option_name word) (option_value word) ∷ []) (without_name (option_name word) left) count
          (nothing_settles (rows ++ row (option_name word) (option_value word) ∷ [])) (may_option left rows (option_name word) (option_value word) may) (due_option place rows count (option_name word) (option_value word) new.0 due))
      joined_by false not_so value =
          let none : fitting left count (parts_from None (word ∷ words)) ≡ None =
          ap (fitting left count) (joined_parts value) ∙ refused_part left count (Given (option_name word) (option_value word)) (parts_from None words) (refused_option left count (option_name word) (option_value word) not_so) in
          let again : (is_among (option_name word) names ≡ true) × (has_row (option_name word) rows ≡ true) → Faulty (total (state q p idle place false) (word ∷ words)) = λ both.
          let bad : Faulty (use_fault false (option_rule (option_name word)) (option_value word ∷ []) (settled_rows c p q)) =
          subst (λ (r : List Row). Faulty (use_fault false (option_rule (option_name word)) (option_value word ∷ []) r)) (sym s.are) (used_again (option_name word) (option_value word) rows both.1) in
          total_bad (state q p idle place false) word words
          (rw (joined_turn q p place word d both.0 value)
          (first_faulty (or_else (settle_fault c false (held q p)) (use_fault false (option_rule (option_name word)) (option_value word ∷ []) (settled_rows c p q))) []
          (second_faulty (settle_fault c false (held q p)) (use_fault false (option_rule (option_name word)) (option_value word ∷ []) (settled_rows c p q)) s.clean bad))) in
          refuses (total (state q p idle place false) (word ∷ words)) rows (last_rows (state q p idle place false) (word ∷ words)) (fitting left count (parts_from None (word ∷ words))) none
          (elim (no_more left rows (option_name word) may not_so) [ inl other ↦ unknown other | inr both ↦ again both ])

      open_by : (t : Bool) → is_among (option_name word) names ≡ t → has_value word ≡ false
          → Answers (total (state q p idle place false) (word ∷ words)) rows (last_rows (state q p idle place false) (word ∷ words)) (fitting left count (parts_from None (word ∷ words)))
      open_by true so value =
          let clean : turn (state q p idle place false) word ≡ [] = open_turn q p place word d so value ∙ rw s.clean refl in
          let step : walked c [] (state q p idle place false) word ≡ state rows (Some (option_name word, [])) (option (option_name word)) place false =
          open_next q p place word d so value ∙ ap (λ (r : List Row). state r (Some (option_name word, [])) (option (option_name word)) place false) s.are in
          subst (Answers (total (state q p idle place false) (word ∷ words)) rows (last_rows (state q p idle place false) (word ∷ words))) (sym (ap (fitting left count) (open_parts value)))
          (goes_on (state q p idle place false) (state rows (Some (option_name word, [])) (option (option_name word)) place false) word words rows (fitting left count (parts_from (Some (option_name word)) words)) clean step
          (opens place rows left count (option_name word) so may due))
      open_by false not_so value =
          let gone : is_among (option_name word) left ≡ false = may (option_name word) ∙ rw not_so refl in
          let none : fitting left count (parts_from None (word ∷ words)) ≡ None = ap (fitting left count) (open_parts value) ∙ refused_open left count (option_name word) words gone in
          refuses (total (state q p idle place false) (word ∷ words)) rows (last_rows (state q p idle place false) (word ∷ words)) (fitting left count (parts_from None (word ∷ words))) none (unknown not_so)

      by : (v : Bool) → has_value word ≡ v
          → Answers (total (state q p idle place false) (word ∷ words)) rows (last_rows (state q p idle place false) (word ∷ words)) (fitting left count (parts_from None (word ∷ words)))
      by true value = joined_by (is_among (option_name word) left) refl value
      by false value = open_by (is_among (option_name word) names) refl value

  pub record Both (words : List Text) : Type 0 where
    pub idles : Idle words
    pub opens : Opens words

  no_words : Both []
  no_words = record {
    idles = λ q p place rows left count s may due. by q p place rows left count s due;
    opens = λ place rows left count n known may due. end_bad (state rows (Some (n, [])) (option n) place false) (open_unsettled rows n known);
  }
    where
      by : (q : List Row) (p : Option (Text × List Text)) (place : ℕ) (rows : List Row) (left : List Text) (count : ℕ) → Settles q p rows → Due place rows count
          → Answers (total (state q p idle place false) []) rows (last_rows (state q p idle place false) []) (fitting left count (Some []))
      by q p place rows left zero s due = end_clean (state q p idle place false) rows s due.1 refl
      by q p place rows left (suc zero) s due = end_missing (state q p idle place false) rows s due.1 due.2
      by q p place rows left (suc (suc count)) s due = absurd due

  pub both_of : (words : List Text) → AllByRecursion IsUtf8 words → Both words
  both_of [] utf8 = no_words
  both_of (word ∷ words) utf8 =
      let rest : Both words = both_of words utf8.1 in
      record {
        idles = idle_step word words utf8.1 (classify word utf8.0) rest.idles rest.opens;
        opens = opens_step word words utf8.1 (classify word utf8.0) rest.idles;
      }

  -- from the start
  pub answers : (words : List Text) → AllByRecursion IsUtf8 words → Answers (total (state [] None idle 1 false) words) [] (last_rows (state [] None idle 1 false) words) (fitting names (if takes then 1 else 0) (parts_from None words))
  answers words utf8 = (both_of words utf8).idles [] None 1 [] names (if takes then 1 else 0) (nothing_settles []) (λ n. and_true (is_among n names)) (start takes refl)
    where
      start : (t : Bool) → takes ≡ t → Due 1 [] (if t then 1 else 0)
      start true e = (refl, e, refl)
      start false e = (has.first_place ∙ ap (λ (b : Bool). if b then Some operand_rule else None) e, inl e)
