-- Programs made from a number: modules whose functions count in the globals of one another.
use Rattle.std.specs.Prelude.{ℕ, zero, suc, ◌+◌, ◌*◌, ◌/◌, ◌%◌, ◌^◌, ◌==◌, nat_lt, if◌then◌else◌, List, [], ◌∷◌, ◌++◌, codes, flat_map, map}
use Rattle.std.specs.Fmt.{decimal}
use Rattle.std.specs.List.{concat, range_with_len}

-- ---- draws

-- the number behind so many draws from a number
unfoldable pub after : ℕ → ℕ → ℕ
after zero number = number
after (suc n) number = (1664525 * after n number + 1013904223) % 2 ^ 32

-- what a draw gives that left a number, below a bound
abbrev pub drawn : ℕ → ℕ → ℕ
drawn number bound = number / 65536 % bound

-- ---- modules

abbrev pub functions_of_a_module : ℕ
functions_of_a_module = 8

-- the line that declares function J of module K
abbrev pub declaration : ℕ → ℕ → List ℕ
declaration k j = concat (codes "unsigned f" ∷ decimal k ∷ codes "_" ∷ decimal j ∷ codes "(unsigned x);\n" ∷ [])

-- what function J of module K of `count` gives back: what the next of its module gives, else the next module's first, of its
-- parameter and its module's global; in the end its parameter
abbrev pub answer : ℕ → ℕ → ℕ → List ℕ
answer count k j =
    if nat_lt (j + 1) functions_of_a_module
    then concat (codes "f" ∷ decimal k ∷ codes "_" ∷ decimal (j + 1) ∷ codes "(x+g" ∷ decimal k ∷ codes ")" ∷ [])
    else if nat_lt (k + 1) count
    then concat (codes "f" ∷ decimal (k + 1) ∷ codes "_0(x+g" ∷ decimal k ∷ codes ")" ∷ [])
    else codes "x"

-- the front of function J of module K: its module's global times a factor, with the parameter added
abbrev pub factor_part : ℕ → ℕ → ℕ → List ℕ
factor_part k j factor = concat
    (codes "unsigned f" ∷ decimal k ∷ codes "_" ∷ decimal j ∷ codes "(unsigned x){g" ∷ decimal k ∷ codes "=g" ∷ decimal k ∷ codes "*"
    ∷ decimal factor ∷ codes "u+x; " ∷ [])

-- its rest: the global of another module under a mask, and what is given back
abbrev pub mask_part : ℕ → ℕ → List ℕ → List ℕ
mask_part other mask given = concat
    (codes "g" ∷ decimal other ∷ codes "=g" ∷ decimal other ∷ codes "^" ∷ decimal mask ∷ codes "u; return " ∷ given ∷ codes ";}\n" ∷ [])

-- function J of module K with the factor, the mask and the other module that were drawn for it
abbrev pub function : ℕ → ℕ → ℕ → ℕ → ℕ → ℕ → List ℕ
function count k j factor mask other = factor_part k j factor ++ mask_part other mask (answer count k j)

-- the declaration of the function behind J in module K, where there is one
abbrev pub next_declaration : ℕ → ℕ → List ℕ
next_declaration k j = if nat_lt (j + 1) functions_of_a_module then declaration k (j + 1) else []

-- function J of module K, made of three draws from a number, behind the declaration of the next of its module
unfoldable pub member : ℕ → ℕ → ℕ → ℕ → List ℕ
member count k j number =
    next_declaration k j
    ++ function count k j (drawn (after 1 number) 1000) (drawn (after 2 number) 1000) (drawn (after 3 number) count)

-- the first functions of module K, made of the draws from a number: three for each, in order
unfoldable pub members : ℕ → ℕ → ℕ → ℕ → List ℕ
members count k functions number = flat_map (λ j. member count k j (after (3 * j) number)) (range_with_len 0 functions)

-- the draws of the modules before module K
abbrev pub draws_before : ℕ → ℕ
draws_before k = 3 * (functions_of_a_module * k)

abbrev pub foreign_global : ℕ → ℕ → List ℕ
foreign_global k other = if other == k then [] else concat (codes "extern unsigned g" ∷ decimal other ∷ codes ";\n" ∷ [])

-- module K of `count`, made from a number
unfoldable pub module_text : ℕ → ℕ → ℕ → List ℕ
module_text number count k =
    concat (codes "unsigned g" ∷ decimal k ∷ codes ";\n" ∷ [])
    ++ flat_map (foreign_global k) (range_with_len 0 count)
    ++ (if nat_lt (k + 1) count then declaration (k + 1) 0 else [])
    ++ members count k functions_of_a_module (after (draws_before k) number)

-- ---- the program

unfoldable pub module_file : ℕ → List ℕ
module_file k = concat (codes "m" ∷ decimal k ∷ codes ".i" ∷ [])

unfoldable pub main_text : List ℕ
main_text = codes "unsigned f0_0(unsigned x); int main(void){unsigned t; unsigned i; t=0u; for(i=0u;i<100u;i++)t=t+f0_0(i); return t&255u;}\n"

-- module K with the name of its file
abbrev pub module_of : ℕ → ℕ → ℕ → List ℕ × List ℕ
module_of number count k = (module_file k, module_text number count k)

-- the names and the texts of the program's files
abbrev pub generated : ℕ → ℕ → List (List ℕ × List ℕ)
generated number count =
    map (module_of number count) (range_with_len 0 count) ++ (codes "main.i", main_text) ∷ []
