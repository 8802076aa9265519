-- The words of the routines, beside them their texts. A branch's target is counted in words from the first
-- word of its list.
use Rattle.std.specs.Prelude.{ℕ, List, [], ◌∷◌, ◌++◌}

abbrev pub exit_words : List ℕ
exit_words =
    0x0000_6000 ∷  -- 0: BREAK 0,3
    0xE840_C002 ∷ []  -- 1: BV,n 0(2)

abbrev pub getchar_words : List ℕ
getchar_words =
    0x0000_2000 ∷  -- 0: BREAK 0,1
    0xE840_C002 ∷ []  -- 1: BV,n 0(2)

abbrev pub putchar_words : List ℕ
putchar_words =
    0x0000_4000 ∷  -- 0: BREAK 0,2
    0xE840_C002 ∷ []  -- 1: BV,n 0(2)

abbrev pub mul_words : List ℕ
mul_words =
    0x833A_A010 ∷  -- 0: COMBT,<<= 26,25,4
    0x081A_0241 ∷  -- 1: OR 26,0,1
    0x0819_025A ∷  -- 2: OR 25,0,26
    0x0801_0259 ∷  -- 3: OR 1,0,25
    0xEAC0_0400 ∷  -- 4: BL 134,22
    0x0800_025D ∷  -- 5: OR 0,0,29
    0x881A_23F0 ∷  -- 6: COMBF,= 26,0,134
    0xD739_0884 ∷  -- 7: ZDEP 25,27,28,25
    0xEBE0_C002 ∷  -- 8: BV,n 0(31)
    0x0800_0240 ∷  -- 9: OR 0,0,0
    0x0800_0240 ∷  -- 10: OR 0,0,0
    0x0800_0240 ∷  -- 11: OR 0,0,0
    0x0800_0240 ∷  -- 12: OR 0,0,0
    0x0800_0240 ∷  -- 13: OR 0,0,0
    0x0B3D_0A1D ∷  -- 14: ADDL 29,25,29
    0x881A_23A8 ∷  -- 15: COMBF,= 26,0,134
    0xD739_0884 ∷  -- 16: ZDEP 25,27,28,25
    0xEBE0_C002 ∷  -- 17: BV,n 0(31)
    0x0800_0240 ∷  -- 18: OR 0,0,0
    0x0800_0240 ∷  -- 19: OR 0,0,0
    0x0800_0240 ∷  -- 20: OR 0,0,0
    0x0800_0240 ∷  -- 21: OR 0,0,0
    0x0B39_0A01 ∷  -- 22: ADDL 25,25,1
    0x083D_0A1D ∷  -- 23: ADDL 29,1,29
    0x881A_2360 ∷  -- 24: COMBF,= 26,0,134
    0xD739_0884 ∷  -- 25: ZDEP 25,27,28,25
    0xEBE0_C002 ∷  -- 26: BV,n 0(31)
    0x0800_0240 ∷  -- 27: OR 0,0,0
    0x0800_0240 ∷  -- 28: OR 0,0,0
    0x0800_0240 ∷  -- 29: OR 0,0,0
    0x0B39_0A01 ∷  -- 30: ADDL 25,25,1
    0x0B3D_0A1D ∷  -- 31: ADDL 29,25,29
    0x083D_0A1D ∷  -- 32: ADDL 29,1,29
    0x881A_2318 ∷  -- 33: COMBF,= 26,0,134
    0xD739_0884 ∷  -- 34: ZDEP 25,27,28,25
    0xEBE0_C002 ∷  -- 35: BV,n 0(31)
    0x0800_0240 ∷  -- 36: OR 0,0,0
    0x0800_0240 ∷  -- 37: OR 0,0,0
    0xD439_0842 ∷  -- 38: ZDEP 25,29,30,1
    0x083D_0A1D ∷  -- 39: ADDL 29,1,29
    0x881A_22E0 ∷  -- 40: COMBF,= 26,0,134
    0xD739_0884 ∷  -- 41: ZDEP 25,27,28,25
    0xEBE0_C002 ∷  -- 42: BV,n 0(31)
    0x0800_0240 ∷  -- 43: OR 0,0,0
    0x0800_0240 ∷  -- 44: OR 0,0,0
    0x0800_0240 ∷  -- 45: OR 0,0,0
    0xD439_0842 ∷  -- 46: ZDEP 25,29,30,1
    0x0B3D_0A1D ∷  -- 47: ADDL 29,25,29
    0x083D_0A1D ∷  -- 48: ADDL 29,1,29
    0x881A_2298 ∷  -- 49: COMBF,= 26,0,134
    0xD739_0884 ∷  -- 50: ZDEP 25,27,28,25
    0xEBE0_C002 ∷  -- 51: BV,n 0(31)
    0x0800_0240 ∷  -- 52: OR 0,0,0
    0x0800_0240 ∷  -- 53: OR 0,0,0
    0x0B39_0A01 ∷  -- 54: ADDL 25,25,1
    0x083D_0A1D ∷  -- 55: ADDL 29,1,29
    0x0821_0A01 ∷  -- 56: ADDL 1,1,1
    0x083D_0A1D ∷  -- 57: ADDL 29,1,29
    0x881A_2250 ∷  -- 58: COMBF,= 26,0,134
    0xD739_0884 ∷  -- 59: ZDEP 25,27,28,25
    0xEBE0_C002 ∷  -- 60: BV,n 0(31)
    0x0800_0240 ∷  -- 61: OR 0,0,0
    0xD439_0863 ∷  -- 62: ZDEP 25,28,29,1
    0x0B3D_041D ∷  -- 63: SUB 29,25,29
    0x083D_0A1D ∷  -- 64: ADDL 29,1,29
    0x881A_2218 ∷  -- 65: COMBF,= 26,0,134
    0xD739_0884 ∷  -- 66: ZDEP 25,27,28,25
    0xEBE0_C002 ∷  -- 67: BV,n 0(31)
    0x0800_0240 ∷  -- 68: OR 0,0,0
    0x0800_0240 ∷  -- 69: OR 0,0,0
    0xD439_0863 ∷  -- 70: ZDEP 25,28,29,1
    0x083D_0A1D ∷  -- 71: ADDL 29,1,29
    0x881A_21E0 ∷  -- 72: COMBF,= 26,0,134
    0xD739_0884 ∷  -- 73: ZDEP 25,27,28,25
    0xEBE0_C002 ∷  -- 74: BV,n 0(31)
    0x0800_0240 ∷  -- 75: OR 0,0,0
    0x0800_0240 ∷  -- 76: OR 0,0,0
    0x0800_0240 ∷  -- 77: OR 0,0,0
    0xD439_0863 ∷  -- 78: ZDEP 25,28,29,1
    0x0B3D_0A1D ∷  -- 79: ADDL 29,25,29
    0x083D_0A1D ∷  -- 80: ADDL 29,1,29
    0x881A_2198 ∷  -- 81: COMBF,= 26,0,134
    0xD739_0884 ∷  -- 82: ZDEP 25,27,28,25
    0xEBE0_C002 ∷  -- 83: BV,n 0(31)
    0x0800_0240 ∷  -- 84: OR 0,0,0
    0x0800_0240 ∷  -- 85: OR 0,0,0
    0x0B39_0A01 ∷  -- 86: ADDL 25,25,1
    0x083D_0A1D ∷  -- 87: ADDL 29,1,29
    0xD421_0842 ∷  -- 88: ZDEP 1,29,30,1
    0x083D_0A1D ∷  -- 89: ADDL 29,1,29
    0x881A_2150 ∷  -- 90: COMBF,= 26,0,134
    0xD739_0884 ∷  -- 91: ZDEP 25,27,28,25
    0xEBE0_C002 ∷  -- 92: BV,n 0(31)
    0x0800_0240 ∷  -- 93: OR 0,0,0
    0x0B39_0A01 ∷  -- 94: ADDL 25,25,1
    0x0B3D_0A1D ∷  -- 95: ADDL 29,25,29
    0x083D_0A1D ∷  -- 96: ADDL 29,1,29
    0xD421_0842 ∷  -- 97: ZDEP 1,29,30,1
    0x083D_0A1D ∷  -- 98: ADDL 29,1,29
    0x881A_2108 ∷  -- 99: COMBF,= 26,0,134
    0xD739_0884 ∷  -- 100: ZDEP 25,27,28,25
    0xEBE0_C002 ∷  -- 101: BV,n 0(31)
    0xD439_0842 ∷  -- 102: ZDEP 25,29,30,1
    0x083D_0A1D ∷  -- 103: ADDL 29,1,29
    0x0821_0A01 ∷  -- 104: ADDL 1,1,1
    0x083D_0A1D ∷  -- 105: ADDL 29,1,29
    0x881A_20D0 ∷  -- 106: COMBF,= 26,0,134
    0xD739_0884 ∷  -- 107: ZDEP 25,27,28,25
    0xEBE0_C002 ∷  -- 108: BV,n 0(31)
    0x0800_0240 ∷  -- 109: OR 0,0,0
    0xD439_0842 ∷  -- 110: ZDEP 25,29,30,1
    0x0B3D_0A1D ∷  -- 111: ADDL 29,25,29
    0x083D_0A1D ∷  -- 112: ADDL 29,1,29
    0x0821_0A01 ∷  -- 113: ADDL 1,1,1
    0x083D_0A1D ∷  -- 114: ADDL 29,1,29
    0x881A_2088 ∷  -- 115: COMBF,= 26,0,134
    0xD739_0884 ∷  -- 116: ZDEP 25,27,28,25
    0xEBE0_C002 ∷  -- 117: BV,n 0(31)
    0x0B39_0A01 ∷  -- 118: ADDL 25,25,1
    0x083D_041D ∷  -- 119: SUB 29,1,29
    0xD421_0863 ∷  -- 120: ZDEP 1,28,29,1
    0x083D_0A1D ∷  -- 121: ADDL 29,1,29
    0x881A_2050 ∷  -- 122: COMBF,= 26,0,134
    0xD739_0884 ∷  -- 123: ZDEP 25,27,28,25
    0xEBE0_C002 ∷  -- 124: BV,n 0(31)
    0x0800_0240 ∷  -- 125: OR 0,0,0
    0xD439_0884 ∷  -- 126: ZDEP 25,27,28,1
    0x0B3D_041D ∷  -- 127: SUB 29,25,29
    0x083D_0A1D ∷  -- 128: ADDL 29,1,29
    0x881A_2018 ∷  -- 129: COMBF,= 26,0,134
    0xD739_0884 ∷  -- 130: ZDEP 25,27,28,25
    0xEBE0_C002 ∷  -- 131: BV,n 0(31)
    0x0800_0240 ∷  -- 132: OR 0,0,0
    0x0800_0240 ∷  -- 133: OR 0,0,0
    0xD43A_08BC ∷  -- 134: ZDEP 26,26,4,1
    0x0AC1_0A01 ∷  -- 135: ADDL 1,22,1
    0xE820_C000 ∷  -- 136: BV 0(1)
    0xD35A_1B64 ∷ []  -- 137: EXTRU 26,27,28,26

-- ---- the divisions

-- the unsigned division of register 26 by register 25: the quotient into register 29, the remainder into 26
abbrev pub division : List ℕ
division =
    0x8019_20F8 ∷  -- 0: COMBT,= 25,0,33
    0x0800_025D ∷  -- 1: OR 0,0,29
    0xD341_1B64 ∷  -- 2: EXTRU 26,27,28,1
    0x8321_8018 ∷  -- 3: COMBT,<< 1,25,8
    0x0819_0256 ∷  -- 4: OR 25,0,22
    0xD341_1AE8 ∷  -- 5: EXTRU 26,23,24,1
    0x8036_BFF5 ∷  -- 6: COMBT,<<= 22,1,6
    0xD6D6_0884 ∷  -- 7: ZDEP 22,27,28,22
    0xD341_1BC1 ∷  -- 8: EXTRU 26,30,31,1
    0x82C1_8080 ∷  -- 9: COMBT,<< 1,22,27
    0x0AD6_0A15 ∷  -- 10: ADDL 22,22,21
    0x82A1_8050 ∷  -- 11: COMBT,<< 1,21,23
    0x0AB5_0A16 ∷  -- 12: ADDL 21,21,22
    0x82C1_8020 ∷  -- 13: COMBT,<< 1,22,19
    0x0AD6_0A15 ∷  -- 14: ADDL 22,22,21
    0x82BA_8010 ∷  -- 15: COMBT,<< 26,21,19
    0xD7BD_0884 ∷  -- 16: ZDEP 29,27,28,29
    0x0ABA_041A ∷  -- 17: SUB 26,21,26
    0x37BD_0010 ∷  -- 18: LDO 8(29),29
    0x82DA_8010 ∷  -- 19: COMBT,<< 26,22,23
    0xD2D5_1BC1 ∷  -- 20: EXTRU 22,30,31,21
    0x0ADA_041A ∷  -- 21: SUB 26,22,26
    0x37BD_0008 ∷  -- 22: LDO 4(29),29
    0x82BA_8010 ∷  -- 23: COMBT,<< 26,21,27
    0xD2B6_1BC1 ∷  -- 24: EXTRU 21,30,31,22
    0x0ABA_041A ∷  -- 25: SUB 26,21,26
    0x37BD_0004 ∷  -- 26: LDO 2(29),29
    0x82DA_8010 ∷  -- 27: COMBT,<< 26,22,31
    0xD2D5_1BC1 ∷  -- 28: EXTRU 22,30,31,21
    0x0ADA_041A ∷  -- 29: SUB 26,22,26
    0x37BD_0002 ∷  -- 30: LDO 1(29),29
    0x8B36_3F75 ∷  -- 31: COMBF,= 22,25,15
    0xD2B6_1BC1 ∷ []  -- 32: EXTRU 21,30,31,22

-- the absolute values of registers 26 and 25
abbrev pub absolutes : List ℕ
absolutes =
    0x081A_5880 ∷  -- 0: COMCLR,>= 26,0,0
    0x0B40_041A ∷  -- 1: SUB 0,26,26
    0x0819_5880 ∷  -- 2: COMCLR,>= 25,0,0
    0x0B20_0419 ∷ []  -- 3: SUB 0,25,25

abbrev pub divs_words : List ℕ
divs_words =
    0x0B3A_029C ∷  -- XOR 26,25,28
    absolutes ++ division ++
    0x081C_5880 ∷  -- COMCLR,>= 28,0,0
    0x0BA0_041D ∷  -- SUB 0,29,29
    0xEBE0_C002 ∷ []  -- BV,n 0(31)

abbrev pub divu_words : List ℕ
divu_words =
    division ++
    0xEBE0_C002 ∷ []  -- BV,n 0(31)

abbrev pub rems_words : List ℕ
rems_words =
    0x081A_025C ∷  -- OR 26,0,28
    absolutes ++ division ++
    0x081A_025D ∷  -- OR 26,0,29
    0x081C_5880 ∷  -- COMCLR,>= 28,0,0
    0x0B40_041D ∷  -- SUB 0,26,29
    0xEBE0_C002 ∷ []  -- BV,n 0(31)

abbrev pub remu_words : List ℕ
remu_words =
    division ++
    0x081A_025D ∷  -- OR 26,0,29
    0xEBE0_C002 ∷ []  -- BV,n 0(31)
