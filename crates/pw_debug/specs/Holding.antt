-- In which function's words an address lies.
use Rattle.std.specs.Prelude.{ℕ, suc, ◌==◌, nat_le, if◌then◌else◌, Bool, Option, Some, None, option_and_then, List, [], ◌∷◌, bytes_eq}
use Rattle.std.specs.List.{find, list_any}
use Rattle.pw_image.specs.declared.image.Function.{Function}
use Rattle.pw_debug.specs.declared.info.FrameInfo.{FrameInfo}

-- some function begins behind the address
abbrev pub is_before_some : List Function → ℕ → Bool
is_before_some functions a = list_any (λ g. nat_le (suc a) g.address) functions

-- the greater of two addresses
abbrev pub greater : Option ℕ → ℕ → Option ℕ
greater None b = Some b
greater (Some g) b = if nat_le (suc b) g then Some g else Some b

-- the greater of two addresses, if the second is not behind the address that is sought
abbrev pub nearer : ℕ → Option ℕ → ℕ → Option ℕ
nearer a greatest b = if nat_le (suc a) b then greatest else greater greatest b

-- the greatest address at which a function begins that is not behind the address that is sought
abbrev pub nearest : ℕ → Option ℕ → List Function → Option ℕ
nearest a greatest [] = greatest
nearest a greatest (f ∷ rest) = nearest a (nearer a greatest f.address) rest

-- the first function that begins at an address
abbrev pub beginning : List Function → ℕ → Option Function
beginning functions a = find (λ f. f.address == a) functions

-- A function's words go up to the next address of the map, and behind the last address stand none: so an address lies
-- in the words of the function that begins nearest before it, if some function begins behind it.
abbrev pub function_at : List Function → ℕ → Option Function
function_at functions a = if is_before_some functions a then option_and_then (beginning functions) (nearest a None functions) else None

-- what is known of a function of that name
abbrev pub frame_of : List FrameInfo → List ℕ → Option FrameInfo
frame_of frames name = find (λ i. bytes_eq i.function name) frames

-- what is known of the function in whose words an address lies
abbrev pub frame_at : List Function → List FrameInfo → ℕ → Option FrameInfo
frame_at functions frames a = option_and_then (λ f. frame_of frames f.name) (function_at functions a)
