-- Rows of keywords, and types that are said without keywords.
use Rattle.std.proofs.Common.{◌≡◌, ◌-◌, ◌<◌, Bool, true, false, cond, Option, None, Some, List, [], ◌∷◌, length, map, get_or, slice_get, find, option_map, refl, ap, sym, ◌∙◌, arith}
use Rattle.pw_tree.specs.declared.expr.BasicType.{BasicType}
use Rattle.pw_tree.specs.declared.expr.StorageClass.{StorageClass}
use Rattle.pw_types.specs.declared.ctype.QType.{QType}
use Rattle.pw_types.specs.declared.kind.IntKind.{IntKind}
use Rattle.pw_types.specs.TypeTrees.{CType, Void, Int}
use Rattle.pw_types.specs.Views.{view_qtype}
use Rattle.pw_check_rules.specs.Kinds.{plain}
use Rattle.pw_check_rules.specs.SpecifierLists.{first_storage, same_words, type_listed, type_of_words}
use Rattle.pw_check_specifier_facts.specs.declared.keywords.TheConstants.{TABLE}
use Rattle.pw_check_specifier_facts.specs.Rows.{row_found}

-- ---- rows of keywords

abbrev pub type_said : Option IntKind → CType
type_said None = Void
type_said (Some kind) = Int kind

abbrev pub with_type : List BasicType × Option IntKind → List BasicType × CType
with_type row = (row.0, type_said row.1)

-- the first row with these keywords says their type
pub row_says : (words : List BasicType) (rows : List (List BasicType × Option IntKind))
    → option_map (λ row. plain row.1) (find (λ row. same_words row.0 words) (map with_type rows))
    ≡ option_map (λ kind. plain (type_said kind)) (row_found rows words)
row_says words [] = refl
row_says words (r ∷ rows) = by (same_words r.0 words) (row_says words rows)
  where
    by : (b : Bool)
        → option_map (λ row. plain row.1) (find (λ row. same_words row.0 words) (map with_type rows))
        ≡ option_map (λ kind. plain (type_said kind)) (row_found rows words)
        → option_map (λ row. plain row.1) (cond b (Some (with_type r)) (find (λ row. same_words row.0 words) (map with_type rows)))
        ≡ option_map (λ kind. plain (type_said kind)) (option_map (λ row. row.1) (cond b (Some r) (find (λ row. same_words row.0 words) rows)))
    by true rest = refl
    by false rest = rest

pub table_says : (words : List BasicType) (found : Option (Option IntKind)) → found ≡ row_found (map (λ row. (row.0.now, row.1)) TABLE) words
    → type_of_words words ≡ option_map (λ kind. plain (type_said kind)) found
table_says words found e = row_says words (map (λ row. (row.0.now, row.1)) TABLE) ∙ ap (option_map (λ kind. plain (type_said kind))) (sym e)

-- ---- types that are said without keywords

pub none_listed : (words : List BasicType) (others : List QType) → length others ≡ 0
    → type_listed words (map view_qtype others) ≡ type_of_words words
none_listed words [] e = refl
none_listed words (q ∷ others) e = absurd (omega arith)

pub one_listed : (words : List BasicType) (others : List QType) (last : Option QType)
    → length words ≡ 0 → length others ≡ 1 → ((d : QType) → 0 < length others → last ≡ Some (get_or others (length others - 1) d))
    → option_map view_qtype last ≡ type_listed words (map view_qtype others)
one_listed [] (q ∷ []) last e f is = ap (option_map view_qtype) (is q (omega arith))
one_listed [] [] last e f is = absurd (omega arith)
one_listed [] (q ∷ p ∷ others) last e f is = absurd (omega arith)
one_listed (w ∷ words) others last e f is = absurd (omega arith)

pub both_listed : (words : List BasicType) (others : List QType) → 0 < length words → 0 < length others
    → type_listed words (map view_qtype others) ≡ None
both_listed [] others e f = absurd (omega arith)
both_listed (w ∷ words) [] e f = absurd (omega arith)
both_listed (w ∷ words) (q ∷ []) e f = refl
both_listed (w ∷ words) (q ∷ p ∷ others) e f = refl

pub several_listed : (words : List BasicType) (others : List QType) → 1 < length others
    → type_listed words (map view_qtype others) ≡ None
several_listed words [] e = absurd (omega arith)
several_listed words (q ∷ []) e = absurd (omega arith)
several_listed [] (q ∷ p ∷ others) e = refl
several_listed (w ∷ words) (q ∷ p ∷ others) e = refl

-- ---- storage classes

pub first_is : (storages : List StorageClass) → slice_get storages 0 ≡ first_storage storages
first_is [] = refl
first_is (c ∷ rest) = refl
