-- The text of an instruction in a listing.
use Rattle.std.specs.Prelude.{ℕ, ℤ, zero, suc, Bool, false, List, [], ◌∷◌, ◌++◌, ◌+◌, ◌*◌, ◌/◌, ◌%◌, ◌^◌, codes, slice_index_or, if◌then◌else◌}
use Rattle.std.specs.Fmt.{decimal, signed_decimal, digit_glyph}
use Rattle.pw_inst.specs.declared.Inst.{Inst}
use Rattle.pw_inst.specs.declared.Inst.TheVariants.{Ldb, Ldh, Ldw, Ldo, Stb, Sth, Stw, Ldil, And, Or, Xor, Sub, Addl, Vshd, Mtctl, Comclr, Subi, Extru, Extrs, Zdep, Combt, Combf, Bl, Bv, Ble, Break}
use Rattle.pw_inst.specs.Fields.{twos_complement}

-- the address to which an instruction at an address branches: 8 further than its own, and four times the displacement
abbrev pub target : ℕ → ℤ → ℕ
target address disp = (address + 8 + 4 * twos_complement 32 disp) % 2 ^ 32

-- the last digits of a number to the base 16, in lower case, as many as the width
abbrev pub hexadecimal : ℕ → ℕ → List ℕ
hexadecimal zero n = []
hexadecimal (suc width) n = hexadecimal width (n / 16) ++ digit_glyph false (n % 16) ∷ []

-- the conditions from 0 on, and their negations
abbrev pub condition : ℕ → List ℕ
condition c = slice_index_or (codes "nv" ∷ codes "=" ∷ codes "<" ∷ codes "<=" ∷ codes "<<" ∷ codes "<<=" ∷ []) c []

abbrev pub negated : ℕ → List ℕ
negated c = slice_index_or (codes "tr" ∷ codes "<>" ∷ codes ">=" ∷ codes ">" ∷ codes ">>=" ∷ codes ">>" ∷ []) c []

-- what nullifies the next instruction
abbrev pub nullification : Bool → List ℕ
nullification n = if n then codes ",n" else []

-- the parts of a text, one after the other
abbrev pub parts : List (List ℕ) → List ℕ
parts [] = []
parts (x ∷ []) = x
parts (x ∷ y ∷ xs) = x ++ parts (y ∷ xs)

abbrev pub load : List ℕ → ℤ → ℕ → ℕ → List ℕ
load name im b t = parts (name ∷ codes " " ∷ signed_decimal im ∷ codes "(" ∷ decimal b ∷ codes ")," ∷ decimal t ∷ [])

abbrev pub store : List ℕ → ℕ → ℤ → ℕ → List ℕ
store name r im b = parts (name ∷ codes " " ∷ decimal r ∷ codes "," ∷ signed_decimal im ∷ codes "(" ∷ decimal b ∷ codes ")" ∷ [])

abbrev pub registers : List ℕ → ℕ → ℕ → ℕ → List ℕ
registers name r1 r2 t = parts (name ∷ codes " " ∷ decimal r1 ∷ codes "," ∷ decimal r2 ∷ codes "," ∷ decimal t ∷ [])

abbrev pub bit_field : List ℕ → ℕ → ℕ → ℕ → ℕ → List ℕ
bit_field name r p len t = parts (name ∷ codes " " ∷ decimal r ∷ codes "," ∷ decimal p ∷ codes "," ∷ decimal len ∷ codes "," ∷ decimal t ∷ [])

abbrev pub compare_branch : List ℕ → ℕ → ℕ → ℕ → ℕ → List ℕ
compare_branch name c r1 r2 to =
    parts (name ∷ codes "," ∷ condition c ∷ codes " " ∷ decimal r1 ∷ codes "," ∷ decimal r2 ∷ codes "," ∷ hexadecimal 8 to ∷ [])

abbrev pub compare_clear : List ℕ → ℕ → Bool → ℕ → ℕ → ℕ → List ℕ
compare_clear name c f r1 r2 t =
    parts (name ∷ codes "," ∷ (if f then negated c else condition c) ∷ codes " " ∷ decimal r1 ∷ codes "," ∷ decimal r2 ∷ codes "," ∷ decimal t ∷ [])

abbrev pub branch_and_link : List ℕ → Bool → ℕ → ℕ → List ℕ
branch_and_link name n to t = parts (name ∷ nullification n ∷ codes " " ∷ hexadecimal 8 to ∷ codes "," ∷ decimal t ∷ [])

abbrev pub pair : List ℕ → ℕ → ℕ → List ℕ
pair name m n = parts (name ∷ codes " " ∷ decimal m ∷ codes "," ∷ decimal n ∷ [])

abbrev pub subtract : List ℕ → ℤ → ℕ → ℕ → List ℕ
subtract name im r t = parts (name ∷ codes " " ∷ signed_decimal im ∷ codes "," ∷ decimal r ∷ codes "," ∷ decimal t ∷ [])

abbrev pub register_branch : List ℕ → Bool → List ℕ → ℕ → List ℕ
register_branch name n space b = parts (name ∷ nullification n ∷ codes " 0(" ∷ space ∷ decimal b ∷ codes ")" ∷ [])

-- the name of an instruction's form
unfoldable pub mnemonic : Inst → List ℕ
mnemonic (Ldb im b t) = codes "LDB"
mnemonic (Ldh im b t) = codes "LDH"
mnemonic (Ldw im b t) = codes "LDW"
mnemonic (Ldo im b t) = codes "LDO"
mnemonic (Stb r im b) = codes "STB"
mnemonic (Sth r im b) = codes "STH"
mnemonic (Stw r im b) = codes "STW"
mnemonic (Ldil im t) = codes "LDIL"
mnemonic (And r1 r2 t) = codes "AND"
mnemonic (Or r1 r2 t) = codes "OR"
mnemonic (Xor r1 r2 t) = codes "XOR"
mnemonic (Sub r1 r2 t) = codes "SUB"
mnemonic (Addl r1 r2 t) = codes "ADDL"
mnemonic (Vshd r1 r2 t) = codes "VSHD"
mnemonic (Mtctl r) = codes "MTCTL"
mnemonic (Comclr c f r1 r2 t) = codes "COMCLR"
mnemonic (Subi im r t) = codes "SUBI"
mnemonic (Extru r p len t) = codes "EXTRU"
mnemonic (Extrs r p len t) = codes "EXTRS"
mnemonic (Zdep r p len t) = codes "ZDEP"
mnemonic (Combt c r1 r2 disp) = codes "COMBT"
mnemonic (Combf c r1 r2 disp) = codes "COMBF"
mnemonic (Bl disp t n) = codes "BL"
mnemonic (Bv b n) = codes "BV"
mnemonic (Ble b n) = codes "BLE"
mnemonic (Break im5 im13) = codes "BREAK"

-- the line of an instruction at an address, with this name
unfoldable pub line : List ℕ → Inst → ℕ → List ℕ
line name (Ldb im b t) address = load name im b t
line name (Ldh im b t) address = load name im b t
line name (Ldw im b t) address = load name im b t
line name (Ldo im b t) address = load name im b t
line name (Stb r im b) address = store name r im b
line name (Sth r im b) address = store name r im b
line name (Stw r im b) address = store name r im b
line name (Ldil im t) address = pair name im t
line name (And r1 r2 t) address = registers name r1 r2 t
line name (Or r1 r2 t) address = registers name r1 r2 t
line name (Xor r1 r2 t) address = registers name r1 r2 t
line name (Sub r1 r2 t) address = registers name r1 r2 t
line name (Addl r1 r2 t) address = registers name r1 r2 t
line name (Vshd r1 r2 t) address = registers name r1 r2 t
line name (Mtctl r) address = pair name r 11
line name (Comclr c f r1 r2 t) address = compare_clear name c f r1 r2 t
line name (Subi im r t) address = subtract name im r t
line name (Extru r p len t) address = bit_field name r p len t
line name (Extrs r p len t) address = bit_field name r p len t
line name (Zdep r p len t) address = bit_field name r p len t
line name (Combt c r1 r2 disp) address = compare_branch name c r1 r2 (target address disp)
line name (Combf c r1 r2 disp) address = compare_branch name c r1 r2 (target address disp)
line name (Bl disp t n) address = branch_and_link name n (target address disp) t
line name (Bv b n) address = register_branch name n [] b
line name (Ble b n) address = register_branch name n (codes "4,") b
line name (Break im5 im13) address = pair name im5 im13

-- the text of an instruction at an address
unfoldable pub listed : Inst → ℕ → List ℕ
listed inst address = line (mnemonic inst) inst address
