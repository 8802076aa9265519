-- Groups of conditional inclusion (ISO/IEC 9899:1990, 6.8.1).
use Rattle.std.specs.Prelude.{ℕ, Bool, true, false, not, ◌&&◌, ◌||◌, if◌then◌else◌, List, [], ◌∷◌, Option, Some, None, codes, bytes_eq}
use Rattle.pw_cpp_directives.specs.declared.groups.Section.{Section}

-- An open `#if` says whether a group of it was taken before or is, whether the group at hand is taken, and whether its `#else` was read.
abbrev pub section : Bool → Bool → Bool → Section
section taken active behind_else = record { taken = taken; active = active; behind_else = behind_else }

-- the sections of a file that are open, the innermost first
abbrev pub Sections : Type 0
Sections = List Section

-- Lines are read where the innermost section's group is taken. A section that opens in a group that is not taken is not among these:
-- it is passed over with its group.
abbrev pub is_reading : Sections → Bool
is_reading [] = true
is_reading (s ∷ outer) = s.active

-- behind `#if`, `#ifdef` or `#ifndef` with what it says
abbrev pub opened : Bool → Sections → Sections
opened holds outer = section holds holds false ∷ outer

-- behind `#elif`, which is evaluated where no group was taken
abbrev pub with_elif : Bool → Section → Section
with_elif holds s = if s.taken then section true false false else section holds holds false

-- behind `#else`
abbrev pub with_else : Section → Section
with_else s = section true (not s.taken) true

-- ---- sections within a group that is passed over: of each that is open, whether its `#else` was read, the innermost first

abbrev pub Nested : Type 0
Nested = List Bool

abbrev pub is_opening : List ℕ → Bool
is_opening name = bytes_eq name (codes "if") || bytes_eq name (codes "ifdef") || bytes_eq name (codes "ifndef")

-- the words that go on with a section
abbrev pub is_turn : List ℕ → Bool
is_turn name = bytes_eq name (codes "elif") || bytes_eq name (codes "else") || bytes_eq name (codes "endif")

-- What a directive's name does to sections that are passed over, of which one at least is open; None where it may not stand there.
abbrev pub nested_after : List ℕ → Bool → Nested → Option Nested
nested_after name behind_else outer =
    if is_opening name then Some (false ∷ behind_else ∷ outer)
    else (if bytes_eq name (codes "elif") then (if behind_else then None else Some (behind_else ∷ outer))
    else (if bytes_eq name (codes "else") then (if behind_else then None else Some (true ∷ outer))
    else (if bytes_eq name (codes "endif") then Some outer
    else Some (behind_else ∷ outer))))
