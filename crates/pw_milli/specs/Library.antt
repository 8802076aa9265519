-- The routines in the order in which a linked program has them.
use Rattle.std.specs.Prelude.{ℕ, List, [], ◌∷◌, codes}
use Rattle.pw_value.specs.ProgramNames.{exit_name, getchar_name, putchar_name}
use Rattle.pw_milli.specs.declared.routine.Routine.{Routine}
use Rattle.pw_milli.specs.Words.{exit_words, getchar_words, putchar_words, divs_words, divu_words, mul_words, rems_words, remu_words}

-- a routine as the bytes of its name and its words
abbrev pub listed : Routine → List ℕ × List ℕ
listed routine = (routine.name.now, routine.words.now)

abbrev pub routines : List (List ℕ × List ℕ)
routines =
    (exit_name, exit_words) ∷
    (getchar_name, getchar_words) ∷
    (putchar_name, putchar_words) ∷
    (codes "$divs", divs_words) ∷
    (codes "$divu", divu_words) ∷
    (codes "$mul", mul_words) ∷
    (codes "$rems", rems_words) ∷
    (codes "$remu", remu_words) ∷ []
