-- The arguments that are asked of `clap`, once the command is built.
use Rattle.std.proofs.Common.{◌≡◌, ℕ, ◌+◌, ◌<◌, length, get_or, take, Bor, ◌&&◌, ◌||◌, not, Bool, true, false, cond, List, [], ◌∷◌, ◌++◌, map, Some, None, is_some, refl, sym, ap, ◌∙◌, true≢false}
use Rattle.std.specs.Prelude.{codes, count_by, fold, if◌then◌else◌}
use Rattle.std.specs.List.{list_all, list_any}
use Rattle.std.specs.Str.{bytes_eq}
use Rattle.std.proofs.lemmas.List.{append-nil, map-append, take_more}
use Rattle.std.proofs.lemmas.Slice.Eq.{bytes_eq-Decides}
use Rattle.clap.specs.Walk.{Row, Rule, Text, arg_by_id, arg_by_index, arg_by_long, arg_by_short, has_row, is_early_multiple, with_default}
use Rattle.clap.specs.Simple.{App, Shape, built, filled_from, is_buildable, is_ready, is_ready_leaf, new_rule, new_shape, with_rule}
use Rattle.clap.specs.Takes.{is_given}
use Rattle.clap.specs.Faults.{defaults_fault, is_free_app, is_simple_and_free}
use Rattle.clap.specs.declared.builder.action.ArgAction.TheVariants.{Set}
use Rattle.clap.specs.declared.builder.range.ValueRange.{ValueRange}
use Rattle.clap.specs.declared.builder.value_parser.ValueParser.TheVariants as vp
use Rattle.pw_top_words.specs.CommandLine.{is_among}
use Rattle.pw_top_words.specs.Reading.{app_for, are_distinct, operand_argument, operand_arguments, operand_id, option_argument}

abbrev pub one : ValueRange
one = record { start_inclusive = 1; end_inclusive = 1 }

-- an option as the built command has it
abbrev pub option_rule : Text → Rule
option_rule name = record (new_rule name) { long = Some name; action = Some Set; parser = Some vp.String; range = Some one }

-- a word without an option as the built command has it
abbrev pub operand_rule : Rule
operand_rule = record (new_rule operand_id) { index = Some 1; action = Some Set; parser = Some vp.String; range = Some one; required = true }

abbrev pub operand_rules : Bool → List Rule
operand_rules takes = if takes then operand_rule ∷ [] else []

abbrev pub rules_for : List Text → Bool → List Rule
rules_for names takes = map option_rule names ++ operand_rules takes

abbrev pub shaped : List Rule → Shape
shaped c = record (new_shape (codes "pawc")) {
  rules = c;
  disable_help_flag = true;
  disable_help_subcommand = true;
  disable_version_flag = true;
  is_built = true;
}

-- ---- what building makes of the arguments

filled_operand : (takes : Bool) → filled_from 1 (operand_arguments takes) ≡ operand_rules takes
filled_operand true = refl
filled_operand false = refl

filled_all : (names : List Text) (takes : Bool) → filled_from 1 (map option_argument names ++ operand_arguments takes) ≡ rules_for names takes
filled_all [] takes = filled_operand takes
filled_all (name ∷ names) takes = ap (λ (rest : List Rule). option_rule name ∷ rest) (filled_all names takes)

abbrev pub made : List Rule → App
made c = record { top = shaped c; subs = [] }

pub built_is : (names : List Text) (takes : Bool) → built (app_for names takes) ≡ made (rules_for names takes)
built_is names takes = ap made (filled_all names takes)

-- ---- tests that each argument passes, or none

all_of : (p : Rule → Bool) (each : Text → Rule) (behind : List Rule) → ((n : Text) → p (each n) ≡ true) → list_all p behind ≡ true → (names : List Text) → list_all p (map each names ++ behind) ≡ true
all_of p each behind passes rest [] = rest
all_of p each behind passes rest (name ∷ names) = rw (passes name) (all_of p each behind passes rest names)

none_of : (p : Rule → Bool) (each : Text → Rule) (behind : List Rule) → ((n : Text) → p (each n) ≡ false) → list_any p behind ≡ false → (names : List Text) → list_any p (map each names ++ behind) ≡ false
none_of p each behind fails rest [] = rest
none_of p each behind fails rest (name ∷ names) = rw (fails name) (none_of p each behind fails rest names)

-- ---- the command is simple, and no argument has a rule on another

-- the test, of what building makes of the command
abbrev is_simple_as : App → App → Bool
is_simple_as a b = (is_buildable a && (is_ready b.top && list_all is_ready_leaf b.subs)) && is_free_app b

pub simple : (names : List Text) (takes : Bool) → is_simple_and_free (app_for names takes) ≡ true
simple names takes = ap (is_simple_as (app_for names takes)) (built_is names takes) ∙ (λ i. ((asked i && true) && ((rules i && not (order i)) && true)) && (free i && true))
  where
    asked_simple : (t : Bool) → list_all (λ (a : Rule). a.is_simple) (operand_arguments t) ≡ true
    asked_simple true = refl
    asked_simple false = refl

    rule_simple : (t : Bool) → list_all (λ (a : Rule). a.is_simple) (operand_rules t) ≡ true
    rule_simple true = refl
    rule_simple false = refl

    rule_free : (t : Bool) → list_all (λ (a : Rule). a.is_free) (operand_rules t) ≡ true
    rule_free true = refl
    rule_free false = refl

    in_order : (n : ℕ) (t : Bool) → list_any (is_early_multiple n) (operand_rules t) ≡ false
    in_order n true = refl
    in_order n false = refl

    asked : list_all (λ (a : Rule). a.is_simple) (map option_argument names ++ operand_arguments takes) ≡ true
    asked = all_of (λ (a : Rule). a.is_simple) option_argument (operand_arguments takes) (λ n. refl) (asked_simple takes) names

    rules : list_all (λ (a : Rule). a.is_simple) (rules_for names takes) ≡ true
    rules = all_of (λ (a : Rule). a.is_simple) option_rule (operand_rules takes) (λ n. refl) (rule_simple takes) names

    order : list_any (is_early_multiple (count_by (λ (a : Rule). is_some a.index) (rules_for names takes))) (rules_for names takes) ≡ false
    order = none_of (is_early_multiple (count_by (λ (a : Rule). is_some a.index) (rules_for names takes))) option_rule (operand_rules takes) (λ n. refl) (in_order (count_by (λ (a : Rule). is_some a.index) (rules_for names takes)) takes) names

    free : list_all (λ (a : Rule). a.is_free) (rules_for names takes) ≡ true
    free = all_of (λ (a : Rule). a.is_free) option_rule (operand_rules takes) (λ n. refl) (rule_free takes) names

-- ---- how arguments are found

pub eq_itself : (n : Text) → bytes_eq n n ≡ true
eq_itself n = (bytes_eq-Decides n n).1 refl

pub record HasRules (c : List Rule) (names : List Text) (takes : Bool) : Type 0 where
  pub by_long : (n : Text) → arg_by_long c n ≡ (if is_among n names then Some (option_rule n) else None)
  pub by_id : (n : Text) → is_among n names ≡ true → arg_by_id c n ≡ Some (option_rule n)
  pub by_operand : takes ≡ true → arg_by_id c operand_id ≡ Some operand_rule
  pub first_place : arg_by_index c 1 ≡ (if takes then Some operand_rule else None)
  pub no_second : arg_by_index c 2 ≡ None
  pub by_short : (x : ℕ) → arg_by_short c x ≡ None
  pub missing : (rows : List Row) → list_any (λ a. a.required && not (is_given a.id rows)) c ≡ (takes && not (is_given operand_id rows))
  pub no_default : (rows : List Row) → fold with_default rows c ≡ rows
  pub no_default_fault : (rows : List Row) → defaults_fault rows c ≡ []
  pub apart : is_among operand_id names ≡ false

long_is : (names : List Text) (takes : Bool) (n : Text) → arg_by_long (rules_for names takes) n ≡ (if is_among n names then Some (option_rule n) else None)
long_is [] true n = refl
long_is [] false n = refl
long_is (m ∷ names) takes n = go (bytes_eq m n) refl (long_is names takes n)
  where
    go : (b : Bool) → bytes_eq m n ≡ b → arg_by_long (rules_for names takes) n ≡ (if is_among n names then Some (option_rule n) else None) → arg_by_long (rules_for (m ∷ names) takes) n ≡ (if is_among n (m ∷ names) then Some (option_rule n) else None)
    go true e rest = let same : m ≡ n = (bytes_eq-Decides m n).0 e in rw e (ap (λ (k : Text). Some (option_rule k)) same)
    go false e rest = rw e rest

id_is : (names : List Text) (takes : Bool) (n : Text) → is_among n names ≡ true → arg_by_id (rules_for names takes) n ≡ Some (option_rule n)
id_is [] takes n h = absurd (true≢false (sym h))
id_is (m ∷ names) takes n h = go (bytes_eq m n) refl (λ later. id_is names takes n later)
  where
    go : (b : Bool) → bytes_eq m n ≡ b → (is_among n names ≡ true → arg_by_id (rules_for names takes) n ≡ Some (option_rule n)) → arg_by_id (rules_for (m ∷ names) takes) n ≡ Some (option_rule n)
    go true e rest = let same : m ≡ n = (bytes_eq-Decides m n).0 e in rw e (ap (λ (k : Text). Some (option_rule k)) same)
    go false e rest = rw e (rest (rw e at h))

or_parts : (a b : Bool) → (a || b) ≡ false → (a ≡ false) × (b ≡ false)
or_parts true b h = absurd (true≢false h)
or_parts false b h = (refl, h)

operand_is : (names : List Text) (takes : Bool) → is_among operand_id names ≡ false → takes ≡ true → arg_by_id (rules_for names takes) operand_id ≡ Some operand_rule
operand_is [] true h t = refl
operand_is [] false h t = absurd (true≢false (sym t))
operand_is (m ∷ names) takes h t =
    let parts = or_parts (bytes_eq m operand_id) (is_among operand_id names) h in
    rw parts.0 (operand_is names takes parts.1 t)

first_is : (names : List Text) (takes : Bool) → arg_by_index (rules_for names takes) 1 ≡ (if takes then Some operand_rule else None)
first_is [] true = refl
first_is [] false = refl
first_is (m ∷ names) takes = first_is names takes

second_is : (names : List Text) (takes : Bool) → arg_by_index (rules_for names takes) 2 ≡ None
second_is [] true = refl
second_is [] false = refl
second_is (m ∷ names) takes = second_is names takes

short_is : (names : List Text) (takes : Bool) (x : ℕ) → arg_by_short (rules_for names takes) x ≡ None
short_is [] true x = refl
short_is [] false x = refl
short_is (m ∷ names) takes x = short_is names takes x

or_nothing : (b : Bool) → (b || false) ≡ b
or_nothing true = refl
or_nothing false = refl

missing_is : (names : List Text) (takes : Bool) (rows : List Row) → list_any (λ a. a.required && not (is_given a.id rows)) (rules_for names takes) ≡ (takes && not (is_given operand_id rows))
missing_is [] true rows = or_nothing (not (is_given operand_id rows))
missing_is [] false rows = refl
missing_is (m ∷ names) takes rows = missing_is names takes rows

either_way : (b : Bool) (rows : List Row) → cond b rows rows ≡ rows
either_way true rows = refl
either_way false rows = refl

default_is : (names : List Text) (takes : Bool) (rows : List Row) → fold with_default rows (rules_for names takes) ≡ rows
default_is [] true rows = either_way (has_row operand_id rows) rows
default_is [] false rows = refl
default_is (m ∷ names) takes rows = ap (λ (r : List Row). fold with_default r (rules_for names takes)) (either_way (has_row m rows) rows) ∙ default_is names takes rows

or_true : (b : Bool) → (b || true) ≡ true
or_true true = refl
or_true false = refl

default_fault_is : (names : List Text) (takes : Bool) (rows : List Row) → defaults_fault rows (rules_for names takes) ≡ []
unfolding defaults_fault
default_fault_is [] true rows = rw (or_true (has_row operand_id rows)) refl
default_fault_is [] false rows = refl
default_fault_is (m ∷ names) takes rows = rw (or_true (has_row m rows), either_way (has_row m rows) rows) (default_fault_is names takes rows)

not_false : (b : Bool) → not b ≡ true → b ≡ false
not_false true h = absurd (true≢false (sym h))
not_false false h = refl

both : (a b : Bool) → (a && b) ≡ true → (a ≡ true) × (b ≡ true)
both true b h = (refl, h)
both false b h = absurd (true≢false (sym h))

pub no_operand : (names : List Text) → are_distinct names ≡ true → is_among operand_id names ≡ false
no_operand [] h = refl
no_operand (m ∷ names) h =
    let first = both _ _ h in
    let second = both _ _ first.1 in
    rw (not_false (bytes_eq m operand_id) first.0) (no_operand names second.1)

pub has_rules : (names : List Text) (takes : Bool) → are_distinct names ≡ true → HasRules (rules_for names takes) names takes
has_rules names takes distinct = record {
  by_long = long_is names takes;
  by_id = id_is names takes;
  by_operand = operand_is names takes (no_operand names distinct);
  first_place = first_is names takes;
  no_second = second_is names takes;
  by_short = short_is names takes;
  missing = missing_is names takes;
  no_default = default_is names takes;
  no_default_fault = default_fault_is names takes;
  apart = no_operand names distinct;
}

-- ---- how the command is made

abbrev asked : List Rule → App
asked rules = record { top = record (new_shape (codes "pawc")) { rules = rules; disable_help_flag = true; disable_version_flag = true }; subs = [] }

pub option_added : (names : List Text) (name : Text) → with_rule (app_for names false) (option_argument name) ≡ app_for (names ++ name ∷ []) false
option_added names name =
    let rules : (map option_argument names ++ []) ++ option_argument name ∷ [] ≡ map option_argument (names ++ name ∷ []) ++ [] =
    ap (λ (rs : List Rule). rs ++ option_argument name ∷ []) (append-nil (map option_argument names)) ∙ sym (map-append option_argument names (name ∷ [])) ∙ sym (append-nil (map option_argument (names ++ name ∷ []))) in
    ap asked rules

pub operand_added : (names : List Text) → with_rule (app_for names false) operand_argument ≡ app_for names true
operand_added names = ap (λ (rs : List Rule). asked (rs ++ operand_argument ∷ [])) (append-nil (map option_argument names))

pub option_next : (before new : App) (options : List (Bor Text)) (i : ℕ) (d : Bor Text) → i < length options → before ≡ app_for (map (λ o. o.now) (take i options)) false
    → new ≡ with_rule before (option_argument (get_or options i d).now) → new ≡ app_for (map (λ o. o.now) (take (i + 1) options)) false
option_next before new options i d less so_far step =
    let name : Text = (get_or options i d).now in
    let more : map (λ (o : Bor Text). o.now) (take (i + 1) options) ≡ map (λ (o : Bor Text). o.now) (take i options) ++ name ∷ [] =
    ap (map (λ (o : Bor Text). o.now)) (take_more options i d less) ∙ map-append (λ (o : Bor Text). o.now) (take i options) (get_or options i d ∷ []) in
    step ∙ ap (λ (a : App). with_rule a (option_argument name)) so_far ∙ option_added (map (λ o. o.now) (take i options)) name ∙ ap (λ (ns : List Text). app_for ns false) (sym more)
