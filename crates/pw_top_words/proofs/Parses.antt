-- What a parse of a command line comes to, by the parts of its words.
use Rattle.std.proofs.Common.{◌≡◌, ◌≢◌, ℕ, zero, suc, Bool, true, false, List, [], ◌∷◌, map, Option, Some, None, is_some, Ok, refl, sym, ap, ap₂, subst, ◌∙◌, ◌&&◌, inl, inr, true≢false}
use Rattle.std.specs.Prelude.{drop, if◌then◌else◌}
use Rattle.std.specs.List.{AllByRecursion}
use Rattle.std.specs.Str.{IsUtf8}
use Rattle.std.specs.Prelude.{String}
use Rattle.std.specs.String.{string_bytes}
use Rattle.std.proofs.lemmas.Str.{IsUtf8-string_bytes}
use Rattle.clap.specs.Walk.{Rule, Text, Walk, idle, nothing_held, rows_after, walk}
use Rattle.clap.specs.Kinds.{Kinds, FailsBy, HasKind, IsAmong}
use Rattle.clap.specs.Values.{kind_of}
use Rattle.clap.specs.Simple.{App, HasMatchesOf, built, entered, is_simple, matches_of, label_of}
use Rattle.clap.specs.Faults.{built_fault, entered_fault, fault_of, is_free_app, level_fault}
use Rattle.clap.specs.declared.parser.matches.ArgMatches.{ArgMatches}
use Rattle.clap.specs.declared.error.Error.{Error}
use Rattle.clap.specs.declared.error.kind.ErrorKind.{ErrorKind}
use Rattle.pw_top_words.specs.declared.fault.WordsFault.{WordsFault}
use Rattle.pw_top_words.specs.declared.fault.WordsFault.TheVariants.{Usage, NoMemory}
use Rattle.pw_top_words.specs.CommandLine.{Part, Given, Plain, fits, fitting, is_among, parts_from, parts_of, without_name}
use Rattle.pw_top_words.specs.Reading.{HasNoOperand, HasParts, IsRefusal, app_for, are_distinct, fault_of_kind, operand_id, word_count}
use Rattle.pw_top_words.proofs.Asked.{HasRules, built_is, has_rules, made, no_operand, rules_for, shaped, simple}
use Rattle.pw_top_words.proofs.Walks.{Answers, among_others, among_without, answers, last_rows, state, total}

entered_none : (c : List Rule) (stop : Option (Text × List Text)) → entered (made c) stop ≡ None
entered_none c None = refl
entered_none c (Some p) = refl

entered_clean : (c : List Rule) (stop : Option (Text × List Text)) → entered_fault (made c) stop ≡ []
entered_clean c None = refl
entered_clean c (Some p) = refl

-- ---- the parts that fit

fitting_fits : (names : List Text) (count : ℕ) (found : Option (List Part)) (parts : List Part) → fitting names count found ≡ Some parts → fits names count parts ≡ true
fitting_fits names count None parts e = absurd cc
fitting_fits names count (Some found) parts e = go (fits names count found) refl e
  where
    go : (b : Bool) → fits names count found ≡ b → (if b then Some found else None) ≡ Some parts → fits names count parts ≡ true
    go true h e = let same : found ≡ parts = cc in subst (λ (ps : List Part). fits names count ps ≡ true) same h
    go false h e = absurd cc

halves : (a b : Bool) → (a && b) ≡ true → (a ≡ true) × (b ≡ true)
halves true b h = (refl, h)
halves false b h = absurd (true≢false (sym h))

none_without : (names : List Text) (n : Text) → is_among operand_id names ≡ false → is_among operand_id (without_name n names) ≡ false
none_without names n none = among_without n operand_id names ∙ rw none refl

no_operand_parts : (names : List Text) (count : ℕ) (parts : List Part) → is_among operand_id names ≡ false → fits names count parts ≡ true → HasNoOperand parts
no_operand_parts names count [] none h = tt
no_operand_parts names zero (Given n value ∷ parts) none h =
    let both = halves (is_among n names) (fits (without_name n names) zero parts) h in
    (among_others n operand_id names both.0 none, no_operand_parts (without_name n names) zero parts (none_without names n none) both.1)
no_operand_parts names (suc count) (Given n value ∷ parts) none h =
    let both = halves (is_among n names) (fits (without_name n names) (suc count) parts) h in
    (among_others n operand_id names both.0 none, no_operand_parts (without_name n names) (suc count) parts (none_without names n none) both.1)
no_operand_parts names zero (Plain word ∷ parts) none h = absurd (true≢false (sym h))
no_operand_parts names (suc count) (Plain word ∷ parts) none h = no_operand_parts names count parts none h

module _ (names : List Text) (takes : Bool) (distinct : are_distinct names ≡ true) where
  abbrev c : List Rule
  c = rules_for names takes

  rules : HasRules c names takes
  rules = has_rules names takes distinct

  abbrev start : Walk
  start = state c names takes rules [] None idle 1 false

  made_fault : (words : List Text) → built_fault (made c) nothing_held words ≡ total c names takes rules start words
  made_fault words =
      let stop = (walk c [] nothing_held words).stopped in
      let rows = last_rows c names takes rules start words in
      ap₂ (λ (b : Bool) (k : Kinds). level_fault (shaped c) [] nothing_held words b k) (ap is_some (entered_none c stop)) (entered_clean c stop)
      ∙ rw (rules.no_default_fault rows, rules.no_default rows) refl

  faults_are : (words : List Text) → fault_of (app_for names takes) words ≡ total c names takes rules start (drop 1 words)
  faults_are words = ap (λ (b : App). built_fault b nothing_held (drop 1 words)) (built_is names takes) ∙ made_fault (drop 1 words)

  rows_are : (words : List Text) → matches_of (app_for names takes) words ≡ last_rows c names takes rules start (drop 1 words)
  rows_are words =
      ap (λ (b : App). rows_after b.top.rules (map label_of b.subs) (drop 1 words)) (built_is names takes)
      ∙ rules.no_default (last_rows c names takes rules start (drop 1 words))

  later_utf8 : (words : List Text) → AllByRecursion IsUtf8 words → AllByRecursion IsUtf8 (drop 1 words)
  later_utf8 [] utf8 = tt
  later_utf8 (word ∷ words) utf8 = utf8.1

  read : (words : List Text) → AllByRecursion IsUtf8 words
      → Answers (fault_of (app_for names takes) words) [] (matches_of (app_for names takes) words) (parts_of names (word_count takes) (drop 1 words))
  unfolding parts_of
  read words utf8 = rw (faults_are words, rows_are words) (answers c names takes rules (drop 1 words) (later_utf8 words utf8))

  is_simple_app : is_simple (app_for names takes) ≡ true
  is_simple_app = (halves (is_simple (app_for names takes)) (is_free_app (built (app_for names takes))) (simple names takes)).0

  parts_apart : (words : List Text) (parts : List Part) → parts_of names (word_count takes) (drop 1 words) ≡ Some parts → HasNoOperand parts
  unfolding parts_of
  parts_apart words parts e = no_operand_parts names (word_count takes) parts (no_operand names distinct) (fitting_fits names (word_count takes) (parts_from None (drop 1 words)) parts e)

  pub parsed : (words : List Text) → AllByRecursion IsUtf8 words → (m : ArgMatches) → fault_of (app_for names takes) words ≡ [] → HasMatchesOf (app_for names takes) words m → HasParts names takes words m
  parsed words utf8 m clean same = go (parts_of names (word_count takes) (drop 1 words)) refl
    where
      answer : (o : Option (List Part)) → parts_of names (word_count takes) (drop 1 words) ≡ o → Answers (fault_of (app_for names takes) words) [] (matches_of (app_for names takes) words) o
      answer o e = subst (Answers (fault_of (app_for names takes) words) [] (matches_of (app_for names takes) words)) e (read words utf8)

      go : (o : Option (List Part)) → parts_of names (word_count takes) (drop 1 words) ≡ o → HasParts names takes words m
      go None e = absurd (answer None e clean)
      go (Some parts) e = record {
        parts = parts;
        of = e;
        same = record { rows = (same is_simple_app).0 ∙ (answer (Some parts) e).1; apart = parts_apart words parts e };
      }

  any_refusal : (words : List Text) (fault : WordsFault) → parts_of names (word_count takes) (drop 1 words) ≡ None → IsRefusal names takes words fault
  any_refusal words Usage none = none
  any_refusal words NoMemory none = tt

  among_some : (k : ErrorKind) (kinds : Kinds) → IsAmong k kinds → kinds ≢ []
  among_some k [] here = absurd here
  among_some k (x ∷ kinds) here = λ e. cc

  pub refused : (words : List Text) → AllByRecursion IsUtf8 words → (e : Error) → HasKind (fault_of (app_for names takes) words) e → IsRefusal names takes words (fault_of_kind (kind_of e))
  refused words utf8 e (inl memory) = subst (λ (k : ErrorKind). IsRefusal names takes words (fault_of_kind k)) (sym memory) tt
  refused words utf8 e (inr among) = any_refusal words (fault_of_kind (kind_of e)) (go (parts_of names (word_count takes) (drop 1 words)) refl)
    where
      go : (o : Option (List Part)) → parts_of names (word_count takes) (drop 1 words) ≡ o → parts_of names (word_count takes) (drop 1 words) ≡ None
      go None h = h
      go (Some parts) h =
          let answer = subst (Answers (fault_of (app_for names takes) words) [] (matches_of (app_for names takes) words)) h (read words utf8) in
          absurd (among_some (kind_of e) (fault_of (app_for names takes) words) among answer.0)

-- a contract of `clap`, at each result
pub fails_clean : (kinds : Kinds) (m : ArgMatches) → FailsBy {T = ArgMatches} kinds (Ok m) → kinds ≡ []
fails_clean kinds m h = h

-- ---- texts of strings

pub all_utf8 : {Z : Type 0} (words : List (String Z)) → AllByRecursion IsUtf8 (map string_bytes words)
all_utf8 [] = tt
all_utf8 (word ∷ words) = (IsUtf8-string_bytes word, all_utf8 words)
