-- The characters of constants and of string literals, one literal behind another.
use Rattle.std.proofs.Common.{◌≡◌, ℕ, zero, suc, ◌+◌, ◌<◌, ◌==◌, Bool, true, false, not, ◌&&◌, ◌||◌, nat_lt, Option, None, Some, List, [], ◌∷◌, ◌++◌, length, take, get_or, refl, ap, sym, ◌∙◌, append_assoc, append-nil, add-one, if◌then◌else◌, is_some, unwrap_or, option_map, arith}
use Rattle.std.specs.List.{list_any}
use Rattle.std.proofs.lemmas.List.Folds.{list_any-append}
use Rattle.pw_check_literals.specs.Characters.{character_constant, character_value, characters_of, characters_of_strings, fits_bytes, one_character}
use Rattle.pw_check_literals.specs.Integers.{constant_of_type, integer_constant, integer_type, integer_value}
use Rattle.pw_check_literals.specs.declared.integers.IntegerConstant.{IntegerConstant}
use Rattle.pw_tree.specs.declared.expr.Word.{Word}
use Rattle.pw_tree.specs.Views.{view_words}
use Rattle.pw_types.specs.declared.kind.IntKind.{IntKind}
use Rattle.pw_types.specs.declared.kind.IntKind.TheVariants as K
use Rattle.pw_types.specs.TypeTrees.{Int}
use Rattle.pw_types.specs.TypedTrees.{Node, Number}
use Rattle.pw_check_rules.specs.Kinds.{plain}
use Rattle.pw_check_rules.specs.Leaves.{texts_of}
use Rattle.pw_check_rules.specs.Operands.{Operand, value_operand}
use Rattle.pw_check_walk.specs.declared.constraints.CheckFault.{CheckFault}
use Rattle.pw_check_walk.specs.declared.constraints.CheckKind.TheVariants.{Constant}
use Rattle.pw_check_walk.specs.Causes.{Point, OneCharacter, EscapeFits, IntegerFits, needs}
use Rattle.pw_check_walk.specs.Found.{found}

-- ---- one character

abbrev pub bad_constant : ℕ → CheckFault
bad_constant token = record { kind = Constant; token = token }

abbrev pub character_point : ℕ → List ℕ → Point
character_point token cs = needs OneCharacter token (length cs == 1) ∷ needs EscapeFits token (fits_bytes cs) ∷ []

module _ (token : ℕ) where
  pub one_met : (cs : List ℕ) (v : ℕ) → one_character cs ≡ Some v → found (character_point token cs) ≡ None
  one_met [] v e = absurd (cc)
  one_met (c ∷ []) v e = by (nat_lt 255 c) e
    where
      by : (b : Bool) → (if b then None else Some (character_value c)) ≡ Some v
          → found (needs OneCharacter token true ∷ needs EscapeFits token (not (b || false)) ∷ []) ≡ None
      by true e = absurd (cc)
      by false e = refl
  one_met (c ∷ d ∷ cs) v e = absurd (cc)

  pub none_told : (cs : List ℕ) → one_character cs ≡ None → found (character_point token cs) ≡ Some (bad_constant token)
  none_told [] e = refl
  none_told (c ∷ []) e = by (nat_lt 255 c) e
    where
      by : (b : Bool) → (if b then None else Some (character_value c)) ≡ None
          → found (needs OneCharacter token true ∷ needs EscapeFits token (not (b || false)) ∷ []) ≡ Some (bad_constant token)
      by true e = refl
      by false e = absurd (cc)
  none_told (c ∷ d ∷ cs) e = by (length (c ∷ d ∷ cs) == 1) (fits_bytes (c ∷ d ∷ cs)) (grind arith)
    where
      by : (one fits : Bool) → one ≡ false → found (needs OneCharacter token one ∷ needs EscapeFits token fits ∷ []) ≡ Some (bad_constant token)
      by true fits h = absurd (cc)
      by false true h = refl
      by false false h = refl

pub one_value : (cs : List ℕ) (v : ℕ) → one_character cs ≡ Some v → v ≡ character_constant cs
one_value [] v e = absurd (cc)
one_value (c ∷ []) v e = by (nat_lt 255 c) e
  where
    by : (b : Bool) → (if b then None else Some (character_value c)) ≡ Some v → v ≡ character_value c
    by true e = absurd (cc)
    by false e = cc
one_value (c ∷ d ∷ cs) v e = absurd (cc)

-- ---- numbers

abbrev pub number_point : ℕ → List ℕ → Point
number_point token text = needs IntegerFits token (is_some (integer_type text)) ∷ []

abbrev number_node : ℕ → IntKind → ℕ → Operand
number_node token kind value = value_operand (Node token (plain (Int kind)) (Number value))

module _ (token : ℕ) (text : List ℕ) (n : IntegerConstant) where
  pub number_met : integer_constant text ≡ Some n → found (number_point token text) ≡ None
  number_met = by (integer_type text)
    where
      by : (o : Option IntKind) → option_map (constant_of_type text) o ≡ Some n → found (needs IntegerFits token (is_some o) ∷ []) ≡ None
      by None e = absurd (cc)
      by (Some kind) e = refl

  pub number_said : integer_constant text ≡ Some n
      → number_node token n.kind n.value ≡ number_node token (unwrap_or (integer_type text) K.Int) (integer_value text)
  number_said = by (integer_type text)
    where
      by : (o : Option IntKind) → option_map (constant_of_type text) o ≡ Some n
          → number_node token n.kind n.value ≡ number_node token (unwrap_or o K.Int) (integer_value text)
      by None e = absurd (cc)
      by (Some kind) e = cc

-- ---- string literals

not_either : (a b : Bool) → not (a || b) ≡ (not a && not b)
not_either true b = refl
not_either false b = refl

pub fits_append : (a b : List ℕ) → fits_bytes (a ++ b) ≡ (fits_bytes a && fits_bytes b)
fits_append a b =
    ap not (list_any-append (λ c. nat_lt 255 c) a b) ∙ not_either (list_any (λ c. nat_lt 255 c) a) (list_any (λ c. nat_lt 255 c) b)

abbrev pub characters_in : List Word → List ℕ
characters_in ws = characters_of_strings (texts_of (view_words ws))

-- a literal more
characters_next : (ws : List Word) (i : ℕ) (d : Word) → i < length ws
    → characters_in (take (suc i) ws) ≡ characters_in (take i ws) ++ characters_of (get_or ws i d).text.items
characters_next [] i d less = absurd (omega arith)
characters_next (w ∷ ws) zero d less = rw append-nil refl
characters_next (w ∷ ws) (suc i) d less =
    ap (λ cs. characters_of w.text.items ++ cs) (characters_next ws i d (omega arith))
    ∙ sym (append_assoc (characters_of w.text.items) (characters_in (take i ws)) (characters_of (get_or ws i d).text.items))

pub characters_more : (ws : List Word) (i : ℕ) (d : Word) → i < length ws
    → characters_in (take (i + 1) ws) ≡ characters_in (take i ws) ++ characters_of (get_or ws i d).text.items
characters_more ws i d less = ap (λ n. characters_in (take n ws)) (add-one i) ∙ characters_next ws i d less

both_false : (a b : Bool) → b ≡ false → (a && b) ≡ false
both_false true b e = e
both_false false b e = refl

-- one that does not fit
pub some_unfit : (ws : List Word) (i : ℕ) (d : Word) → i < length ws → fits_bytes (characters_of (get_or ws i d).text.items) ≡ false
    → fits_bytes (characters_in ws) ≡ false
some_unfit [] i d less e = absurd (omega arith)
some_unfit (w ∷ ws) zero d less e =
    fits_append (characters_of w.text.items) (characters_in ws) ∙ ap (λ b. b && fits_bytes (characters_in ws)) e
some_unfit (w ∷ ws) (suc i) d less e =
    fits_append (characters_of w.text.items) (characters_in ws)
    ∙ both_false (fits_bytes (characters_of w.text.items)) (fits_bytes (characters_in ws)) (some_unfit ws i d (omega arith) e)
