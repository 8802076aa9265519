-- The routines as instructions: what their words are decoded to.
use Rattle.std.specs.Prelude.{pos, negsuc, true, false, List, [], ◌∷◌}
use Rattle.pw_inst.specs.declared.Inst.{Inst}
use Rattle.pw_inst.specs.declared.Inst.TheVariants.{Or, Xor, Sub, Addl, Ldo, Comclr, Extru, Zdep, Combt, Combf, Bl, Bv}

-- the unsigned division of register 26 by register 25: the quotient into register 29, the remainder into register 26
abbrev pub dividing : List Inst
dividing =
    Combt 1 25 0 (pos 31) ∷
    Or 0 0 29 ∷
    Extru 26 27 28 1 ∷
    Combt 4 1 25 (pos 3) ∷
    Or 25 0 22 ∷
    Extru 26 23 24 1 ∷
    Combt 5 22 1 (negsuc 1) ∷
    Zdep 22 27 28 22 ∷
    Extru 26 30 31 1 ∷
    Combt 4 1 22 (pos 16) ∷
    Addl 22 22 21 ∷
    Combt 4 1 21 (pos 10) ∷
    Addl 21 21 22 ∷
    Combt 4 1 22 (pos 4) ∷
    Addl 22 22 21 ∷
    Combt 4 26 21 (pos 2) ∷
    Zdep 29 27 28 29 ∷
    Sub 26 21 26 ∷
    Ldo (pos 8) 29 29 ∷
    Combt 4 26 22 (pos 2) ∷
    Extru 22 30 31 21 ∷
    Sub 26 22 26 ∷
    Ldo (pos 4) 29 29 ∷
    Combt 4 26 21 (pos 2) ∷
    Extru 21 30 31 22 ∷
    Sub 26 21 26 ∷
    Ldo (pos 2) 29 29 ∷
    Combt 4 26 22 (pos 2) ∷
    Extru 22 30 31 21 ∷
    Sub 26 22 26 ∷
    Ldo (pos 1) 29 29 ∷
    Combf 1 22 25 (negsuc 17) ∷
    Extru 21 30 31 22 ∷ []

-- the product of registers 26 and 25 into register 29
abbrev pub multiplying : List Inst
multiplying =
    Combt 5 26 25 (pos 2) ∷
    Or 26 0 1 ∷
    Or 25 0 26 ∷
    Or 1 0 25 ∷
    Bl (pos 128) 22 false ∷
    Or 0 0 29 ∷
    Combf 1 26 0 (pos 126) ∷
    Zdep 25 27 28 25 ∷
    Bv 31 true ∷
    Or 0 0 0 ∷
    Or 0 0 0 ∷
    Or 0 0 0 ∷
    Or 0 0 0 ∷
    Or 0 0 0 ∷
    Addl 29 25 29 ∷
    Combf 1 26 0 (pos 117) ∷
    Zdep 25 27 28 25 ∷
    Bv 31 true ∷
    Or 0 0 0 ∷
    Or 0 0 0 ∷
    Or 0 0 0 ∷
    Or 0 0 0 ∷
    Addl 25 25 1 ∷
    Addl 29 1 29 ∷
    Combf 1 26 0 (pos 108) ∷
    Zdep 25 27 28 25 ∷
    Bv 31 true ∷
    Or 0 0 0 ∷
    Or 0 0 0 ∷
    Or 0 0 0 ∷
    Addl 25 25 1 ∷
    Addl 29 25 29 ∷
    Addl 29 1 29 ∷
    Combf 1 26 0 (pos 99) ∷
    Zdep 25 27 28 25 ∷
    Bv 31 true ∷
    Or 0 0 0 ∷
    Or 0 0 0 ∷
    Zdep 25 29 30 1 ∷
    Addl 29 1 29 ∷
    Combf 1 26 0 (pos 92) ∷
    Zdep 25 27 28 25 ∷
    Bv 31 true ∷
    Or 0 0 0 ∷
    Or 0 0 0 ∷
    Or 0 0 0 ∷
    Zdep 25 29 30 1 ∷
    Addl 29 25 29 ∷
    Addl 29 1 29 ∷
    Combf 1 26 0 (pos 83) ∷
    Zdep 25 27 28 25 ∷
    Bv 31 true ∷
    Or 0 0 0 ∷
    Or 0 0 0 ∷
    Addl 25 25 1 ∷
    Addl 29 1 29 ∷
    Addl 1 1 1 ∷
    Addl 29 1 29 ∷
    Combf 1 26 0 (pos 74) ∷
    Zdep 25 27 28 25 ∷
    Bv 31 true ∷
    Or 0 0 0 ∷
    Zdep 25 28 29 1 ∷
    Sub 29 25 29 ∷
    Addl 29 1 29 ∷
    Combf 1 26 0 (pos 67) ∷
    Zdep 25 27 28 25 ∷
    Bv 31 true ∷
    Or 0 0 0 ∷
    Or 0 0 0 ∷
    Zdep 25 28 29 1 ∷
    Addl 29 1 29 ∷
    Combf 1 26 0 (pos 60) ∷
    Zdep 25 27 28 25 ∷
    Bv 31 true ∷
    Or 0 0 0 ∷
    Or 0 0 0 ∷
    Or 0 0 0 ∷
    Zdep 25 28 29 1 ∷
    Addl 29 25 29 ∷
    Addl 29 1 29 ∷
    Combf 1 26 0 (pos 51) ∷
    Zdep 25 27 28 25 ∷
    Bv 31 true ∷
    Or 0 0 0 ∷
    Or 0 0 0 ∷
    Addl 25 25 1 ∷
    Addl 29 1 29 ∷
    Zdep 1 29 30 1 ∷
    Addl 29 1 29 ∷
    Combf 1 26 0 (pos 42) ∷
    Zdep 25 27 28 25 ∷
    Bv 31 true ∷
    Or 0 0 0 ∷
    Addl 25 25 1 ∷
    Addl 29 25 29 ∷
    Addl 29 1 29 ∷
    Zdep 1 29 30 1 ∷
    Addl 29 1 29 ∷
    Combf 1 26 0 (pos 33) ∷
    Zdep 25 27 28 25 ∷
    Bv 31 true ∷
    Zdep 25 29 30 1 ∷
    Addl 29 1 29 ∷
    Addl 1 1 1 ∷
    Addl 29 1 29 ∷
    Combf 1 26 0 (pos 26) ∷
    Zdep 25 27 28 25 ∷
    Bv 31 true ∷
    Or 0 0 0 ∷
    Zdep 25 29 30 1 ∷
    Addl 29 25 29 ∷
    Addl 29 1 29 ∷
    Addl 1 1 1 ∷
    Addl 29 1 29 ∷
    Combf 1 26 0 (pos 17) ∷
    Zdep 25 27 28 25 ∷
    Bv 31 true ∷
    Addl 25 25 1 ∷
    Sub 29 1 29 ∷
    Zdep 1 28 29 1 ∷
    Addl 29 1 29 ∷
    Combf 1 26 0 (pos 10) ∷
    Zdep 25 27 28 25 ∷
    Bv 31 true ∷
    Or 0 0 0 ∷
    Zdep 25 27 28 1 ∷
    Sub 29 25 29 ∷
    Addl 29 1 29 ∷
    Combf 1 26 0 (pos 3) ∷
    Zdep 25 27 28 25 ∷
    Bv 31 true ∷
    Or 0 0 0 ∷
    Or 0 0 0 ∷
    Zdep 26 26 4 1 ∷
    Addl 1 22 1 ∷
    Bv 1 false ∷
    Extru 26 27 28 26 ∷ []

-- the return
abbrev pub back : List Inst
back =
    Bv 31 true ∷ []

-- the return with the remainder
abbrev pub remainder_back : List Inst
remainder_back =
    Or 26 0 29 ∷
    Bv 31 true ∷ []

-- what has the sign of the signed quotient
abbrev pub sign_of_quotient : List Inst
sign_of_quotient =
    Xor 26 25 28 ∷ []

-- what has the sign of the signed remainder
abbrev pub sign_of_remainder : List Inst
sign_of_remainder =
    Or 26 0 28 ∷ []

-- the absolute values of registers 26 and 25
abbrev pub absolutes : List Inst
absolutes =
    Comclr 2 true 26 0 0 ∷
    Sub 0 26 26 ∷
    Comclr 2 true 25 0 0 ∷
    Sub 0 25 25 ∷ []

-- the return with the quotient, below 0 where register 28 is
abbrev pub signed_back : List Inst
signed_back =
    Comclr 2 true 28 0 0 ∷
    Sub 0 29 29 ∷
    Bv 31 true ∷ []

-- the return with the remainder, below 0 where register 28 is
abbrev pub signed_remainder_back : List Inst
signed_remainder_back =
    Or 26 0 29 ∷
    Comclr 2 true 28 0 0 ∷
    Sub 0 26 29 ∷
    Bv 31 true ∷ []
