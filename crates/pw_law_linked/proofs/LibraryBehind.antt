-- The library and the routines stand in the text behind all functions, and no function begins behind the first of their
-- words.
use Rattle.std.specs.Prelude.{ℕ, zero, suc, ◌≡◌, ◌≢◌, ◌+◌, ◌-◌, ◌*◌, ◌%◌, ◌<◌, ◌≤◌, ◌⊎◌, ◌==◌, Bool, if◌then◌else◌, Some, None, List, [], ◌∷◌, ◌++◌, map, find, drop, length, slice_index_or, Contains}
use Rattle.std.specs.List.{AllByRecursion, sum_by}
use Rattle.std.proofs.Common.{arith, subst, sym, ap, refl, ◌∙◌, inl, inr, get_or, length-append}
use Rattle.std.proofs.Math.Seq.{drop-append-add}
use Rattle.std.proofs.lemmas.Bool.{ne_eqb, ltb-true}
use Rattle.std.proofs.lemmas.List.Elements.{Contains-append_cases}
use Rattle.pw_value.specs.Limits.{text_start, word_limit}
use Rattle.pw_value.specs.ProgramNames.{exit_name, getchar_name, putchar_name, library_functions}
use Rattle.pw_db.specs.declared.database.Directives.{Directives}
use Rattle.pw_object.specs.declared.object.Object.{Object}
use Rattle.pw_alloc.specs.declared.located.Located.{Located}
use Rattle.pw_select.specs.Selection.{selected}
use Rattle.pw_delay.specs.Placement.{sizes, placed}
use Rattle.pw_milli.specs.Library.{routines}
use Rattle.pw_milli.specs.Words.{exit_words, getchar_words, putchar_words, divs_words, divu_words, mul_words, rems_words, remu_words}
use Rattle.pw_link.specs.Layout.{piece_of, routine_piece, routine_pieces, Placed, placed_from, pieces_of, text_of, routine_addresses, word_count}
use Rattle.pw_link.specs.Linking.{linked}
use Rattle.pw_run_languages.specs.Programs.{Program, functions_of, names_of}
use Rattle.pw_run_languages.specs.LawfulPrograms.{IsProgram}
use Rattle.pw_run_languages.specs.SelectionLaws.{arranged, with_items}
use Rattle.pw_run_languages.specs.LinkingLaws.{AreObjectsOf, compiled, address_of}
use Rattle.pw_law_link_run.specs.Placing.{own_address, words_of}
use Rattle.pw_law_link_run.specs.Behind.{StandBehind, StandsNamed, StandsNumbered, AllStand}
use Rattle.pw_law_linked.specs.Settings.{linked_setting}
use Rattle.pw_law_linked.specs.Standing.{IsFoundAmong, HasItsWords, AtItsAddress, pieces}
use Rattle.pw_law_linked.specs.Given.{IsGiven}
use Rattle.pw_law_linked.proofs.Names.{all_found}
use Rattle.pw_law_linked.proofs.Text.{OrderStays, text_is, placed_joined}
use Rattle.pw_law_linked.proofs.Addresses.{HasAddress}
use Rattle.pw_law_linked.proofs.Apart.{all_apart}
use Rattle.pw_law_linked.proofs.Own.{StandsAlone, outside, text_addresses, text_names}
use Rattle.pw_law_linked.proofs.Linked.{all_of, find_own}
use Rattle.pw_law_linked.proofs.Known.{long_is}
use Rattle.pw_law_linked.proofs.Sizes.{placed_length}
use Rattle.pw_law_linked.proofs.Spans.{few_words, names_served, names_distinct, EndsBy, within, text_within, text_count, GivesLawfulAddresses, addresses_lawful}

-- ---- no function begins inside

none_at : (named : List ℕ → ℕ) (a : ℕ) (names : List (List ℕ)) → ((f : List ℕ) → Contains names f → named f ≢ a) → find (λ f. named f == a) names ≡ None
none_at named a [] others = refl
none_at named a (n ∷ names) others =
    ap (λ (b : Bool). if b then Some n else find (λ f. named f == a) names) (ne_eqb (named n) a (others n (0, omega arith, refl)))
    ∙ none_at named a names (λ f c. others f (suc c.0, omega (arith, c.1), c.2))

left_part : (P : Placed → Type 0) (xs ys : List Placed) → AllByRecursion P (xs ++ ys) → AllByRecursion P xs
left_part P [] ys h = tt
left_part P (x ∷ xs) ys h = (h.0, left_part P xs ys h.1)

right_part : (P : Placed → Type 0) (xs ys : List Placed) → AllByRecursion P (xs ++ ys) → AllByRecursion P ys
right_part P [] ys h = h
right_part P (x ∷ xs) ys h = right_part P xs ys h.1

-- ---- the places

abbrev pub functions_end : List Located → ℕ
functions_end functions = text_start + 4 * sum_by (λ p. length p.words) (pieces functions)

-- the functions, and behind them the library and the routines
abbrev pub first_part : List Located → List Placed
first_part functions = placed_from text_start (pieces functions)

abbrev pub last_part : List Located → List Placed
last_part functions = placed_from (functions_end functions) routine_pieces

pub text_parts : OrderStays → (p : Program) (functions : List Located) (objects : List Object) → IsProgram p → AreObjectsOf p functions objects → text_of objects ≡ first_part functions ++ last_part functions
text_parts stays p functions objects is of = ap (placed_from text_start) (text_is stays p functions objects is of) ∙ placed_joined text_start (pieces functions) routine_pieces

-- the last five are those that a symbol may be
addresses_last : (xs : List Placed) (functions : List Located) → routine_addresses (xs ++ last_part functions) ≡ map (λ q. q.address) (drop 3 (last_part functions))
addresses_last xs functions =
    let both = length-append xs (last_part functions) in
    let n : length (xs ++ last_part functions) - 5 ≡ length xs + 3 = omega (arith, both) in
    ap (λ (n : ℕ). map (λ (q : Placed). q.address) (drop n (xs ++ last_part functions))) n
    ∙ ap (map (λ (q : Placed). q.address)) (drop-append-add xs (last_part functions) 3)

each_own : (Q : Placed → Type 0) (objects : List Object) (stack at : ℕ) (ls : List Located) → AllByRecursion (HasAddress objects stack) (placed_from at (pieces ls)) → AllByRecursion Q (placed_from at (pieces ls))
    → AllByRecursion (AtItsAddress Q objects stack) ls
each_own Q objects stack at [] found h = tt
each_own Q objects stack at (l ∷ ls) found h =
    let p = piece_of (compiled l) in
    (subst (λ (a : ℕ). Q (record { address = a; piece = p })) (sym found.0) h.0, each_own Q objects stack (at + 4 * length p.words) ls found.1 h.1)

-- ---- what is known of the text

module _ (p : Program) (functions : List Located) (objects : List Object) (input : List ℕ) where
  abbrev address : List ℕ → ℕ
  address name = address_of (linked objects p.stack) name

  -- the address of a routine's piece, which no function begins inside
  record IsLast (q : Placed) : Type 0 where
    outside : (f : List ℕ) → Contains (names_of p) f → (address f ≤ q.address) ⊎ (q.address + 4 * length q.piece.words ≤ address f)
    words : HasItsWords (linked_setting p functions objects input).start.core.memory objects p.stack q
    ends : q.address + 4 * length q.piece.words + 4 ≤ text_start + 4 * word_count objects

  -- the functions end before the routines begin
  abbrev EndBefore : ℕ → Located → Type 0
  EndBefore end l = address l.body.name + 4 * length (placed (selected l)).words ≤ end

  lines_end : (at : ℕ) (ls : List Located) → AllByRecursion (IsFoundAmong functions) ls → AllByRecursion (EndBefore at) ls
      → AllByRecursion (λ l. own_address (linked_setting p functions objects input) (with_items l) + 4 * words_of (linked_setting p functions objects input) (with_items l) (with_items l).items ≤ at) ls
  lines_end at [] found h = tt
  lines_end at (l ∷ ls) found h =
      let size = ap (λ (b : Bool). sizes b (arranged (selected l))) (long_is functions l found.0) in
      (omega (arith, h.0, placed_length (selected l), size), lines_end at ls found.1 h.1)

  later : (low high : ℕ) (ls : List Located) → low ≤ high → AllByRecursion (EndBefore low) ls → AllByRecursion (EndBefore high) ls
  later low high [] le h = tt
  later low high (l ∷ ls) le h = (omega (arith, h.0, le), later low high ls le h.1)

  one_behind : (at : ℕ) (r : List ℕ × List ℕ) → AllByRecursion (IsFoundAmong functions) functions → AllByRecursion (EndBefore at) functions → at % 4 ≡ 0 → text_start ≤ at
      → (linked_setting p functions objects input).start.core.text ≡ word_count objects → word_count objects ≤ word_limit
      → IsLast (record { address = at; piece = routine_piece r }) → StandBehind (linked_setting p functions objects input) r.1 at
  one_behind at r found before aligned above count few last = record {
    stands = record {
      aligned = aligned;
      above = above;
      within = omega (arith, last.ends, count);
      text = omega (arith, count, few);
      each = last.words;
    };
    functions = all_of (λ g. own_address (linked_setting p functions objects input) g + 4 * words_of (linked_setting p functions objects input) g g.items ≤ at) functions (lines_end at functions found before);
    inside = λ a low high. none_at address a (names_of p) (λ f c e. elim (last.outside f c) [
      | inl below ↦ omega (arith, below, e, low)
      | inr behind ↦ omega (arith, behind, e, high)
    ]);
  }

  all_behind : (at : ℕ) (rs : List (List ℕ × List ℕ)) → AllByRecursion (IsFoundAmong functions) functions → AllByRecursion (EndBefore at) functions → at % 4 ≡ 0 → text_start ≤ at
      → (linked_setting p functions objects input).start.core.text ≡ word_count objects → word_count objects ≤ word_limit
      → AllByRecursion IsLast (placed_from at (map routine_piece rs)) → AllByRecursion (λ q. StandBehind (linked_setting p functions objects input) q.piece.words q.address) (placed_from at (map routine_piece rs))
  all_behind at [] found before aligned above count few last = tt
  all_behind at (r ∷ rs) found before aligned above count few last =
      let next = at + 4 * length r.1 in (
        one_behind at r found before aligned above count few last.0,
        all_behind next rs found (later at next functions (omega arith) before) (omega (arith, aligned)) (omega (arith, above)) count few last.1,
      )

  -- ---- by names and numbers

  by_name : (words name : List ℕ) (at : ℕ) → Contains (names_of p) name → address name ≡ at → ((f g : List ℕ) → Contains (names_of p) f → Contains (names_of p) g → address f ≡ address g → f ≡ g)
      → StandBehind (linked_setting p functions objects input) words at → StandsNamed (linked_setting p functions objects input) words name
  by_name words name at c is own h = record {
    behind = subst (StandBehind (linked_setting p functions objects input) words) (sym is) h;
    entry = find_own address (names_of p) name c (λ f k e. own f name k c e);
  }

  by_number : (words : List ℕ) (j at : ℕ) → slice_index_or (routine_addresses (text_of objects)) j 0 ≡ at → ((f : List ℕ) → Contains (names_of p) f → address f < at)
      → StandBehind (linked_setting p functions objects input) words at → StandsNumbered (linked_setting p functions objects input) words j
  by_number words j at is low h = record {
    behind = subst (StandBehind (linked_setting p functions objects input) words) (sym is) h;
    entry = none_at address (slice_index_or (routine_addresses (text_of objects)) j 0) (names_of p) (λ f c e. omega (arith, low f c, e, is));
  }

  named_low : (end : ℕ) (ls : List Located) (f : List ℕ) → Contains (map (λ l. l.body.name) ls) f → AllByRecursion (EndBefore end) ls → address f ≤ end
  named_low end [] f c h = absurd (omega (arith, c.1))
  named_low end (l ∷ ls) f c h = by c.0 c.1 c.2 (λ there. named_low end ls f there h.1)
    where
      by : (k : ℕ) → k < length (map (λ (l : Located). l.body.name) (l ∷ ls)) → get_or (map (λ (l : Located). l.body.name) (l ∷ ls)) k f ≡ f → (Contains (map (λ l. l.body.name) ls) f → address f ≤ end) → address f ≤ end
      by zero lt e later = let same : address l.body.name ≡ address f = ap address e in omega (arith, same, h.0)
      by (suc k) lt e later = later (k, omega (arith, lt), e)

  library_low : (top : ℕ) (f : List ℕ) → address exit_name ≤ top → address getchar_name ≤ top → address putchar_name ≤ top → Contains library_functions f → address f ≤ top
  library_low top f one two three c = by c.0 c.1 c.2
    where
      by : (k : ℕ) → k < length library_functions → get_or library_functions k f ≡ f → address f ≤ top
      by zero lt e = let same : address exit_name ≡ address f = ap address e in omega (arith, same, one)
      by (suc zero) lt e = let same : address getchar_name ≡ address f = ap address e in omega (arith, same, two)
      by (suc (suc zero)) lt e = let same : address putchar_name ≡ address f = ap address e in omega (arith, same, three)
      by (suc (suc (suc k))) lt e = absurd (omega (arith, lt))

  all_last : (top : ℕ) → top + 4 ≡ text_start + 4 * word_count objects → AllByRecursion (HasAddress objects p.stack) (text_of objects)
      → ((f : List ℕ) → Contains (names_of p) f → Contains (map (λ q. q.name) (pieces_of objects)) f) → (qs : List Placed) → AllByRecursion (StandsAlone objects) qs
      → AllByRecursion (HasItsWords (linked_setting p functions objects input).start.core.memory objects p.stack) qs → AllByRecursion (EndsBy top) qs → AllByRecursion IsLast qs
  all_last top end addresses names [] alone words ends = tt
  all_last top end addresses names (q ∷ qs) alone words ends = (
    record { outside = outside p objects q addresses names alone.0; words = words.0; ends = omega (arith, ends.0, end) },
    all_last top end addresses names qs alone.1 words.1 ends.1,
  )

-- ---- all of it

putchar_some : 0 < length putchar_words
putchar_some = ltb-true 0 (length putchar_words) refl

pub all_stand : OrderStays → GivesLawfulAddresses → (p : Program) (d : List (List ℕ × Directives)) (functions : List Located) (objects : List Object) (input : List ℕ) → IsGiven p d functions objects
    → AllByRecursion (HasItsWords (linked_setting p functions objects input).start.core.memory objects p.stack) (text_of objects) → AllStand (linked_setting p functions objects input)
all_stand stays lawful_by p d functions objects input given words =
    let x = linked_setting p functions objects input in
    let lawful = addresses_lawful stays lawful_by p d functions objects input given in
    let found = all_found functions (names_distinct p d functions objects given) in
    let named = names_served p d functions objects given in
    let text = text_parts stays p functions objects given.program given.made in
    let front = first_part functions in
    let last = last_part functions in
    let addresses = text_addresses stays p functions objects given.program given.made given.apart named in
    let names = text_names stays p functions objects given.program given.made named in
    let few = few_words objects p.stack given.fits in
    let top = 4092 + 4 * word_count objects in
    let split : (P : Placed → Type 0) → AllByRecursion P (text_of objects) → AllByRecursion P (front ++ last) = λ P h. subst (AllByRecursion P) text h in
    let own_part = each_own (EndsBy (functions_end functions)) objects p.stack text_start functions
    (left_part (HasAddress objects p.stack) front last (split (HasAddress objects p.stack) addresses))
    (within (functions_end functions) text_start (pieces functions) (omega arith)) in
    let at = right_part (HasAddress objects p.stack) front last (split (HasAddress objects p.stack) addresses) in
    let alone = right_part (StandsAlone objects) front last (split (StandsAlone objects) (all_apart text_start (pieces_of objects))) in
    let there = right_part (HasItsWords x.start.core.memory objects p.stack) front last (split (HasItsWords x.start.core.memory objects p.stack) words) in
    let ends = right_part (EndsBy top) front last (split (EndsBy top) (text_within objects top (omega arith))) in
    let known = all_last p functions objects input top (omega arith) addresses names last alone there ends in
    let h = all_behind p functions objects input (functions_end functions) routines found own_part (omega arith) (omega arith) (text_count p functions objects input) few known in
    let number : (j : ℕ) → slice_index_or (routine_addresses (text_of objects)) j 0 ≡ slice_index_or (map (λ q. q.address) (drop 3 last)) j 0 =
    λ j. ap (λ (xs : List ℕ). slice_index_or xs j 0) (ap routine_addresses text ∙ addresses_last front functions) in
    let e2 = functions_end functions + 4 * length exit_words + 4 * length getchar_words in
    let e3 = e2 + 4 * length putchar_words in
    let e4 = e3 + 4 * length divs_words in
    let e5 = e4 + 4 * length divu_words in
    let e6 = e5 + 4 * length mul_words in
    let e7 = e6 + 4 * length rems_words in
    let some = putchar_some in
    let low : (f : List ℕ) → Contains (names_of p) f → address_of (linked objects p.stack) f ≤ e2 =
    λ f c. elim (Contains-append_cases library_functions (map (λ f. f.name) (functions_of p)) f c) [
      | inl library ↦ library_low p functions objects input e2 f (omega (arith, at.0)) (omega (arith, at.1.0)) (omega (arith, at.1.1.0)) library
      | inr own ↦ let small = named_low p functions objects input (functions_end functions) functions f (subst (λ (names : List (List ℕ)). Contains names f) (sym named) own) own_part in omega (arith, small)
    ] in
    let own = lawful.function_own in
    record {
      exit = by_name p functions objects input exit_words exit_name (functions_end functions) (0, omega arith, refl) at.0 own h.0;
      getchar = by_name p functions objects input getchar_words getchar_name (functions_end functions + 4 * length exit_words) (1, omega arith, refl) at.1.0 own h.1.0;
      putchar = by_name p functions objects input putchar_words putchar_name e2 (2, omega arith, refl) at.1.1.0 own h.1.1.0;
      divs = by_number p functions objects input divs_words 0 e3 (number 0) (λ f c. omega (arith, low f c, some)) h.1.1.1.0;
      divu = by_number p functions objects input divu_words 1 e4 (number 1) (λ f c. omega (arith, low f c, some)) h.1.1.1.1.0;
      mul = by_number p functions objects input mul_words 2 e5 (number 2) (λ f c. omega (arith, low f c, some)) h.1.1.1.1.1.0;
      rems = by_number p functions objects input rems_words 3 e6 (number 3) (λ f c. omega (arith, low f c, some)) h.1.1.1.1.1.1.0;
      remu = by_number p functions objects input remu_words 4 e7 (number 4) (λ f c. omega (arith, low f c, some)) h.1.1.1.1.1.1.1.0;
    }
