-- Straight rows: words that act one after the other, without a turn of control.
use Rattle.std.specs.Prelude.{ℕ, ◌≡◌, Some, List, [], ◌∷◌, ◌++◌, map, length}
use Rattle.std.specs.List.{AllByRecursion}
use Rattle.pw_inst.specs.declared.Inst.TheVariants.{Combf}
use Rattle.pw_inst.specs.declared.line.Line.{Line}
use Rattle.pw_inst.specs.declared.line.Line.TheVariants as line
use Rattle.pw_delay.specs.declared.items.Word.{Word}
use Rattle.pw_delay.specs.declared.items.Item.{Item}
use Rattle.pw_delay.specs.declared.items.Item.TheVariants.{Plain}
use Rattle.pw_delay.specs.Items.{bare, slotted}
use Rattle.pw_law_select_memory.specs.FromRunLanguages.Traces.{Event}
use Rattle.pw_law_select_memory.specs.FromRunLanguages.Addresses.{Addresses}
use Rattle.pw_law_select_memory.specs.FromRunLanguages.Acts.{Core, Act, Acts, Full, Fails, acts, settled}
use Rattle.pw_law_select_memory.specs.FromRunLanguages.LineRun.{LineProgram, Machine, On, accesses, left_behind, steps}

-- ---- words

abbrev pub act_then : Act → (Core → Act) → Act
act_then (Acts c) next = next c
act_then Full next = Full
act_then Fails next = Fails

-- what words do one after the other
abbrev pub ran : Addresses → List Word → Core → Act
ran w [] c = Acts c
ran w (x ∷ xs) c = act_then (acts w (settled w x) c) (ran w xs)

-- what has been noted when they have acted, the latest first
abbrev pub noted_by : Act → (Core → List (Event ℕ ℕ)) → List (Event ℕ ℕ)
noted_by (Acts c) next = next c
noted_by Full next = []
noted_by Fails next = []

abbrev pub noted : LineProgram → Addresses → List Word → Core → List (Event ℕ ℕ) → List (Event ℕ ℕ)
noted p w [] c log = log
noted p w (x ∷ xs) c log =
    noted_by (acts w (settled w x) c) (λ d. noted p w xs d (accesses p w (settled w x) c ++ log))

-- ---- lines

-- a word by itself that does not go back, or one with a relocation
abbrev pub IsStraight : Line → Type 0
IsStraight (line.Plain (Combf c r1 r2 disp)) = ⊥
IsStraight (line.Plain x) = Unit {0}
IsStraight (line.Fixed x k s n) = Unit {0}
IsStraight l = ⊥

-- the words of such lines
abbrev pub words_of : List Line → List Word
words_of [] = []
words_of (line.Plain x ∷ rest) = bare x ∷ words_of rest
words_of (line.Fixed x k s n ∷ rest) = record { inst = x; relocation = Some (record { kind = k; symbol = s; addend = n }) } ∷ words_of rest
words_of (l ∷ rest) = words_of rest

-- ---- what is proved

abbrev pub JoinedWordsAct : Type 0
JoinedWordsAct = (w : Addresses) (xs ys : List Word) (c : Core) → ran w (xs ++ ys) c ≡ act_then (ran w xs c) (ran w ys)

abbrev pub JoinedWordsNote : Type 0
JoinedWordsNote =
    (p : LineProgram) (w : Addresses) (xs ys : List Word) (c d : Core) (log : List (Event ℕ ℕ)) → ran w xs c ≡ Acts d
    → noted p w (xs ++ ys) c log ≡ noted p w ys d (noted p w xs c log)

-- the machine behind so many words that have acted
abbrev pub behind_words : LineProgram → Addresses → List Word → List Item → Core → Machine → Machine
behind_words p w xs rest d m = record (left_behind rest m) { core = d; trace = noted p w xs m.core m.trace }

abbrev pub StraightWordsRun : Type 0
StraightWordsRun =
    (p : LineProgram) (w : Addresses) (scratch : ℕ → (ℕ → ℕ) → ℕ → ℕ) (xs : List Word) (rest : List Item) (d : Core) (m : Machine)
    → ran w xs m.core ≡ Acts d
    → steps p w scratch (length xs) (On (left_behind (map Plain xs ++ rest) m)) ≡ On (behind_words p w xs rest d m)

abbrev pub StraightLinesAreWords : Type 0
StraightLinesAreWords =
    (xs rest : List Line) → AllByRecursion IsStraight xs → slotted (xs ++ rest) ≡ map Plain (words_of xs) ++ slotted rest
