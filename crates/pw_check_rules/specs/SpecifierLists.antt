-- Lists of specifiers (ISO C90 6.5.1 to 6.5.3).
use Rattle.std.specs.Prelude.{ℕ, ◌+◌, ◌==◌, Bool, true, false, not, ◌&&◌, ◌||◌, nat_le, Option, None, Some, is_some, unwrap_or, option_map, List, [], ◌∷◌, ◌++◌, length, find, count_by}
use Rattle.std.specs.List.{list_all}
use Rattle.std.specs.Option.{option_or}
use Rattle.pw_tree.specs.declared.expr.BasicType.{BasicType}
use Rattle.pw_tree.specs.declared.expr.BasicType.TheVariants as W
use Rattle.pw_tree.specs.declared.expr.Qualifier.{Qualifier}
use Rattle.pw_tree.specs.declared.expr.Qualifier.TheVariants as Q
use Rattle.pw_tree.specs.declared.expr.StorageClass.{StorageClass}
use Rattle.pw_tree.specs.declared.expr.StorageClass.TheVariants as C
use Rattle.pw_types.specs.declared.kind.IntKind.TheVariants as K
use Rattle.pw_types.specs.TypeTrees.{CType, Void, Int, QType, type_of}
use Rattle.pw_check_walk.specs.Causes.{needs, OneStorageClass, ListOfSpecifiers, OneQualifier, UnqualifiedFunction}
use Rattle.pw_check_walk.specs.Walks.{meets, pure, ◌>>◌}
use Rattle.pw_check_rules.specs.Constants.{truth}
use Rattle.pw_check_rules.specs.Kinds.{plain, qualify, is_const_object, is_volatile_object, is_function, int_type}
use Rattle.pw_check_rules.specs.States.{Rule}

-- What a list has, in its order: storage classes, qualifiers, keywords of types, and other types; a tag that it brings in.
pub record Gathered : Type 0 where
  pub storages : List StorageClass
  pub constants : ℕ
  pub volatiles : ℕ
  pub words : List BasicType
  -- a structure, a union, an enumeration or a typedef name
  pub others : List QType
  pub tag : Option ℕ

abbrev pub nothing_gathered : Gathered
nothing_gathered = record { storages = []; constants = 0; volatiles = 0; words = []; others = []; tag = None }

abbrev pub gather_storage : StorageClass → Gathered → Gathered
gather_storage storage g = record g { storages = g.storages ++ storage ∷ [] }

abbrev pub gather_qualifier : Qualifier → Gathered → Gathered
gather_qualifier Q.Const g = record g { constants = g.constants + 1 }
gather_qualifier Q.Volatile g = record g { volatiles = g.volatiles + 1 }

abbrev pub gather_word : BasicType → Gathered → Gathered
gather_word word g = record g { words = g.words ++ word ∷ [] }

abbrev pub gather_type : QType → Option ℕ → Gathered → Gathered
gather_type ty tag g = record g { others = g.others ++ ty ∷ []; tag = option_or tag g.tag }

-- the keywords as numbers, in the order of their list
abbrev pub number_of_word : BasicType → ℕ
number_of_word W.Void = 0
number_of_word W.Char = 1
number_of_word W.Short = 2
number_of_word W.Int = 3
number_of_word W.Long = 4
number_of_word W.Float = 5
number_of_word W.Double = 6
number_of_word W.Signed = 7
number_of_word W.Unsigned = 8

abbrev pub times : BasicType → List BasicType → ℕ
times word words = count_by (λ w. number_of_word w == number_of_word word) words

-- the same keywords, in whatever order
abbrev pub same_words : List BasicType → List BasicType → Bool
same_words a b =
    (length a == length b) && list_all (λ w. times w a == times w b) a

-- 6.5.2; a plain char is a type of its own, and a list without keywords is int
abbrev pub table : List (List BasicType × CType)
table =
    (W.Void ∷ [], Void)
    ∷ (W.Char ∷ [], Int K.Char)
    ∷ (W.Signed ∷ W.Char ∷ [], Int K.SChar)
    ∷ (W.Unsigned ∷ W.Char ∷ [], Int K.UChar)
    ∷ (W.Short ∷ [], Int K.Short)
    ∷ (W.Signed ∷ W.Short ∷ [], Int K.Short)
    ∷ (W.Short ∷ W.Int ∷ [], Int K.Short)
    ∷ (W.Signed ∷ W.Short ∷ W.Int ∷ [], Int K.Short)
    ∷ (W.Unsigned ∷ W.Short ∷ [], Int K.UShort)
    ∷ (W.Unsigned ∷ W.Short ∷ W.Int ∷ [], Int K.UShort)
    ∷ (W.Int ∷ [], Int K.Int)
    ∷ (W.Signed ∷ [], Int K.Int)
    ∷ (W.Signed ∷ W.Int ∷ [], Int K.Int)
    ∷ ([], Int K.Int)
    ∷ (W.Unsigned ∷ [], Int K.UInt)
    ∷ (W.Unsigned ∷ W.Int ∷ [], Int K.UInt)
    ∷ (W.Long ∷ [], Int K.Long)
    ∷ (W.Signed ∷ W.Long ∷ [], Int K.Long)
    ∷ (W.Long ∷ W.Int ∷ [], Int K.Long)
    ∷ (W.Signed ∷ W.Long ∷ W.Int ∷ [], Int K.Long)
    ∷ (W.Unsigned ∷ W.Long ∷ [], Int K.ULong)
    ∷ (W.Unsigned ∷ W.Long ∷ W.Int ∷ [], Int K.ULong)
    ∷ []

abbrev pub type_of_words : List BasicType → Option QType
type_of_words words = option_map (λ row. plain row.1) (find (λ row. same_words row.0 words) table)

-- one type, said by keywords or else
abbrev pub type_listed : List BasicType → List QType → Option QType
type_listed words [] = type_of_words words
type_listed [] (ty ∷ []) = Some ty
type_listed _ _ = None

-- What a list says: the storage class, the type with its qualifiers, the tag that it brings in, its first token.
pub record Specified : Type 0 where
  pub storage : Option StorageClass
  pub ty : QType
  pub tag : Option ℕ
  pub first : ℕ

abbrev pub first_storage : List StorageClass → Option StorageClass
first_storage [] = None
first_storage (c ∷ rest) = Some c

-- each qualifier once, a typedef name's included
abbrev pub qualifiers_once : Gathered → QType → Bool
qualifiers_once g ty =
    nat_le (g.constants + truth (is_const_object ty)) 1 && nat_le (g.volatiles + truth (is_volatile_object ty)) 1

abbrev pub is_qualified_by : Gathered → Bool
is_qualified_by g = not (g.constants == 0) || not (g.volatiles == 0)

unfoldable pub specified : ℕ → Gathered → Rule Specified
specified first g =
    let ty = unwrap_or (type_listed g.words g.others) int_type in
    meets (
    needs OneStorageClass first (nat_le (length g.storages) 1)
    ∷ needs ListOfSpecifiers first (is_some (type_listed g.words g.others))
    ∷ needs OneQualifier first (qualifiers_once g ty)
    ∷ needs UnqualifiedFunction first (not (is_qualified_by g && is_function (type_of ty)))
    ∷ []) >>
    pure (record {
      storage = first_storage g.storages;
      ty = qualify (not (g.constants == 0)) (not (g.volatiles == 0)) ty;
      tag = g.tag;
      first = first;
    })

abbrev pub is_typedef : Option StorageClass → Bool
is_typedef (Some C.Typedef) = true
is_typedef _ = false

abbrev pub is_extern : Option StorageClass → Bool
is_extern (Some C.Extern) = true
is_extern _ = false

abbrev pub is_static : Option StorageClass → Bool
is_static (Some C.Static) = true
is_static _ = false

abbrev pub is_auto : Option StorageClass → Bool
is_auto (Some C.Auto) = true
is_auto _ = false

abbrev pub is_register : Option StorageClass → Bool
is_register (Some C.Register) = true
is_register _ = false
