-- The shape of a type: a text by which modules compare the types of what they share.
use Rattle.std.specs.Prelude.{ℕ, Bool, true, false, ◌||◌, Option, None, Some, List, [], ◌∷◌, ◌++◌, decimal, flat_map, option_map, slice_get, unwrap_or}
use Rattle.std.specs.Option.{option_map_or}
use Rattle.pw_types.specs.TypeTrees.{CType, Void, Int, Pointer, Array, Function, Record, Qualified, QType, QTypes, NoType, OneType, type_of, is_volatile, MemberValue, RecordValue}
use Rattle.pw_types.specs.declared.kind.IntKind.{IntKind}
use Rattle.pw_types.specs.declared.kind.IntKind.TheVariants as K
use Rattle.pw_types.specs.declared.record.RecordKind.{RecordKind}
use Rattle.pw_types.specs.declared.record.RecordKind.TheVariants.{Structure, Union}

-- c, a, h, s, t, i, j, l, m
abbrev pub letter_of_kind : IntKind → ℕ
letter_of_kind K.Char = 99
letter_of_kind K.SChar = 97
letter_of_kind K.UChar = 104
letter_of_kind K.Short = 115
letter_of_kind K.UShort = 116
letter_of_kind K.Int = 105
letter_of_kind K.UInt = 106
letter_of_kind K.Long = 108
letter_of_kind K.ULong = 109

-- The letter of a result or a parameter: v is void, and p a pointer, as which arrays and functions
-- are passed. No structure or union is passed by value.
abbrev pub letter_of : CType → ℕ
letter_of Void = 118
letter_of (Int kind) = letter_of_kind kind
letter_of (Pointer target) = 112
letter_of (Array element count) = 112
letter_of (Function result params) = 112
letter_of (Record number) = 112

-- the letters of several types
abbrev pub letters_of : QTypes → List ℕ
letters_of NoType = []
letters_of (OneType q rest) = letter_of (type_of q) ∷ letters_of rest

-- `f`, the result's letter and the parameters' letters, without marks
abbrev pub signature_shape : QType → QTypes → List ℕ
signature_shape result params = 102 ∷ letter_of (type_of result) ∷ letters_of params

-- `!` before the letter of a volatile type
abbrev pub marked : Bool → ℕ → List ℕ
marked true letter = 33 ∷ letter ∷ []
marked false letter = letter ∷ []

-- `[12]`, or `[]` where the length is not given
abbrev pub length_text : Option ℕ → List ℕ
length_text None = 91 ∷ 93 ∷ []
length_text (Some count) = 91 ∷ (decimal count ++ 93 ∷ [])

-- the brackets of a structure, and of a union
abbrev pub opening : RecordKind → ℕ
opening Structure = 123
opening Union = 60

abbrev pub closing : RecordKind → ℕ
closing Structure = 125
closing Union = 62

-- `{size:members}`, of a union `<size:members>`
abbrev pub record_shape : RecordKind → ℕ → List ℕ → List ℕ
record_shape kind size members = opening kind ∷ (decimal size ++ 58 ∷ (members ++ closing kind ∷ []))

-- of one that is not defined only the brackets are known
abbrev pub unknown_shape : RecordKind → List ℕ
unknown_shape kind = opening kind ∷ closing kind ∷ []

-- the shape of a record by what is known of it
abbrev pub shape_of_record : RecordValue → List ℕ
shape_of_record r = option_map_or (λ c. c.shape) r.content (unknown_shape r.kind)

-- The shape of a type, which is volatile or not. An array's qualifiers are its element's (ISO C90
-- 6.5.3), and a record leaves no mark of its own.
abbrev pub shape_of : List RecordValue → CType → Bool → List ℕ
shape_of records Void volatile = marked volatile 118
shape_of records (Int kind) volatile = marked volatile (letter_of_kind kind)
shape_of records (Pointer target) volatile = marked volatile 112
shape_of records (Array (Qualified ty constant inner) count) volatile =
    length_text count ++ shape_of records ty (volatile || inner)
shape_of records (Function result params) volatile = signature_shape result params
shape_of records (Record number) volatile = unwrap_or (option_map shape_of_record (slice_get records number)) []

-- the shapes of the members of a record, one after another
abbrev pub member_shapes : List RecordValue → List MemberValue → List ℕ
member_shapes records members = flat_map (λ m. shape_of records (type_of m.ty) (is_volatile m.ty)) members
