-- The globals whose values a debugger shows: those that are numbers, in byte order of their names.
use Rattle.std.specs.Prelude.{ℕ, ◌-◌, ◌^◌, ◌==◌, ◌&&◌, ◌||◌, nat_le, if◌then◌else◌, Bool, true, false, Option, Some, None, List, [], ◌∷◌, ◌++◌, codes, decimal}
use Rattle.std.specs.List.Sorted.{IsPermutation, IsSortedBy, IsStableBy}
use Rattle.std.specs.Ordering.{is_lt, nat_cmp}
use Rattle.std.specs.Cmp.Lexicographic.{slice_cmp}
use Rattle.pw_value.specs.declared.value.Kind.{Kind}
use Rattle.pw_value.specs.declared.value.Kind.TheVariants.{S8, U8, S16, U16, W32}
use Rattle.pw_flow.specs.declared.flow.FlowGlobal.{FlowGlobal}
use Rattle.pw_image.specs.declared.image.GlobalObject.{GlobalObject}
use Rattle.pw_where.specs.declared.numbers.Number.{Number}
use Rattle.pw_where.specs.declared.shown.Shown.{Shown}

-- ---- numbers

abbrev pub signed_number : Kind → Number
signed_number kind = record { kind = kind; is_signed = true }

abbrev pub unsigned_number : Kind → Number
unsigned_number kind = record { kind = kind; is_signed = false }

-- the number of a shape's letter: c char, a signed char, h unsigned char, s short, t unsigned short, i int, j unsigned int,
-- l long, m unsigned long
abbrev pub number_of_letter : ℕ → Option Number
number_of_letter letter =
    if (letter == 99) || (letter == 97) then Some (signed_number S8)
    else if letter == 104 then Some (unsigned_number U8)
    else if letter == 115 then Some (signed_number S16)
    else if letter == 116 then Some (unsigned_number U16)
    else if (letter == 105) || (letter == 108) then Some (signed_number W32)
    else if (letter == 106) || (letter == 109) then Some (unsigned_number W32)
    else None

-- the number of a shape, which is a letter, behind `!` where the type is volatile; no other shape is a number's
abbrev pub number_of_shape : List ℕ → Option Number
number_of_shape (letter ∷ []) = number_of_letter letter
number_of_shape (mark ∷ letter ∷ []) = if mark == 33 then number_of_letter letter else None
number_of_shape _ = None

-- a word as a number in decimal; a signed one of at least 2 ^ 31 stands for the negative number that is less by 2 ^ 32
abbrev pub number_text : Bool → ℕ → List ℕ
number_text is_signed word = if is_signed && nat_le (2 ^ 31) word then codes "-" ++ decimal (2 ^ 32 - word) else decimal word

-- ---- globals

-- the name of what a function or an initialiser has for itself holds `:.`
abbrev pub begins_with_dot : List ℕ → Bool
begins_with_dot [] = false
begins_with_dot (a ∷ rest) = a == 46

abbrev pub is_hidden : List ℕ → Bool
is_hidden [] = false
is_hidden (a ∷ rest) = ((a == 58) && begins_with_dot rest) || is_hidden rest

abbrev pub shown_as : GlobalObject → Option Number → List Shown
shown_as object None = []
shown_as object (Some number) = record { object = object; number = number } ∷ []

-- a global, of this shape, where it is shown
abbrev pub shown_one : List ℕ → GlobalObject → List Shown
shown_one shape object = if is_hidden object.name then [] else shown_as object (number_of_shape shape)

-- the globals of a map that are shown; they stand in the map as the modules have them
abbrev pub shown_of : List FlowGlobal → List GlobalObject → List Shown
shown_of [] objects = []
shown_of (g ∷ globals) [] = []
shown_of (g ∷ globals) (object ∷ objects) = shown_one g.shape object ++ shown_of globals objects

-- one name is before another in byte order
abbrev pub is_before : Shown → Shown → Bool
is_before one other = is_lt (slice_cmp nat_cmp one.object.name other.object.name)

-- the same globals in byte order of their names; those of one name stay in their order
pub record IsByName (shown ordered : List Shown) : Type 0 where
  pub same : IsPermutation shown ordered
  pub order : IsSortedBy is_before ordered
  pub stable : IsStableBy is_before shown ordered

-- ---- lines

-- the call's number, and the function's name
abbrev pub call_line : ℕ → List ℕ → List ℕ
call_line k name = codes "call " ++ decimal k ++ codes " " ++ name ++ codes "\n"

-- a global's name, and its value
abbrev pub value_line : Shown → ℕ → List ℕ
value_line g word = g.object.name ++ codes " " ++ number_text g.number.is_signed word ++ codes "\n"
