-- What stands where in a linked program, and what is found by its name.
use Rattle.std.specs.Prelude.{ℕ, ◌≡◌, ◌+◌, ◌*◌, ◌%◌, ◌^◌, ◌<◌, ◌≤◌, ◌⊎◌, Some, List, find, map, length, slice_index_or, Contains}
use Rattle.std.specs.Map.{lookup}
use Rattle.std.specs.Str.{bytes_eq}
use Rattle.pw_value.specs.Limits.{text_start, word_limit}
use Rattle.pw_inst.specs.declared.relocation.Fix.{Fix}
use Rattle.pw_object.specs.declared.object.Object.{Object}
use Rattle.pw_alloc.specs.declared.located.Located.{Located}
use Rattle.pw_alloc.specs.Frames.{head_size, slots_begin, last_reach}
use Rattle.pw_link.specs.Layout.{Piece, piece_of, Placed, Sites}
use Rattle.pw_link.specs.Linking.{linked, piece_words, with_fixes}
use Rattle.pw_law_link.specs.Standing.{sites, HasWords}
use Rattle.pw_machine.specs.Core.{word_at}
use Rattle.pw_select.specs.Selection.{selected}
use Rattle.pw_delay.specs.Placement.{placed}
use Rattle.pw_run_languages.specs.Programs.{Program, names_of}
use Rattle.pw_run_languages.specs.CodeStands.{IsKnown}
use Rattle.pw_run_languages.specs.SelectionLaws.{with_items}
use Rattle.pw_run_languages.specs.LinkingLaws.{compiled, address_of}
use Rattle.pw_law_link_run.specs.Placing.{text_of}
use Rattle.pw_law_linked.specs.Settings.{linked_setting}

-- the name of a piece leads to its address, in a table of names
abbrev pub IsFoundIn : List (List ℕ × ℕ) → Placed → Type 0
IsFoundIn table q = lookup (bytes_eq q.piece.name) table ≡ Some q.address

-- functions as pieces
abbrev pub pieces : List Located → List Piece
pieces ls = map piece_of (map compiled ls)

-- one piece does not begin inside another
abbrev pub BeginsOutside : Placed → Placed → Type 0
BeginsOutside q r = (r.address ≤ q.address) ⊎ (q.address + 4 * length q.piece.words ≤ r.address)

-- the words of a piece, their relocations done, stand at its place
abbrev pub HasItsWords : List ℕ → List Object → ℕ → Placed → Type 0
HasItsWords memory objects stack q = HasWords memory q.address (piece_words (sites objects stack) q)

-- what holds of a function as a piece at its address in the map
abbrev pub AtItsAddress : (Placed → Type 0) → List Object → ℕ → Located → Type 0
AtItsAddress Q objects stack l = Q (record { address = address_of (linked objects stack) l.body.name; piece = piece_of (compiled l) })

-- a function is found by its name
abbrev pub IsFoundAmong : List Located → Located → Type 0
IsFoundAmong ls l = find (λ g. bytes_eq g.body.name l.body.name) ls ≡ Some l

-- The words of a function's code, their relocations done, stand at its address in the memory of the machine, inside the
-- text, and what its relocations are of is known.
pub record CodeAt (p : Program) (functions : List Located) (objects : List Object) (input : List ℕ) (sites : Sites) (l : Located) : Type 0 where
  pub aligned : address_of (linked objects p.stack) l.body.name % 4 ≡ 0
  pub above : text_start ≤ address_of (linked objects p.stack) l.body.name
  pub below : address_of (linked objects p.stack) l.body.name + 4 * length (placed (selected l)).words < text_start + 4 * (linked_setting p functions objects input).start.core.text
  pub few : (linked_setting p functions objects input).start.core.text ≤ word_limit
  pub words : (i : ℕ) → i < length (placed (selected l)).words → word_at (linked_setting p functions objects input).start.core.memory (address_of (linked objects p.stack) l.body.name + 4 * i)
      ≡ slice_index_or (with_fixes sites (address_of (linked objects p.stack) l.body.name) (placed (selected l)).fixes (placed (selected l)).words) i 0
  pub symbols : (f : Fix) → Contains (placed (selected l)).fixes f →
      IsKnown sites (text_of (linked_setting p functions objects input) (with_items l)) (address_of (linked objects p.stack) l.body.name) f f.symbol

-- A function's name is one of the program's, no other function of the program stands at its address, and none begins
-- inside its words.
pub record ItsAddressIsItsOwn (p : Program) (objects : List Object) (l : Located) : Type 0 where
  pub there : Contains (names_of p) l.body.name
  pub own : (f : List ℕ) → Contains (names_of p) f → address_of (linked objects p.stack) f ≡ address_of (linked objects p.stack) l.body.name → f ≡ l.body.name
  pub inside : (f : List ℕ) → Contains (names_of p) f → (address_of (linked objects p.stack) f ≤ address_of (linked objects p.stack) l.body.name)
      ⊎ (address_of (linked objects p.stack) l.body.name + 4 * length (placed (selected l)).words ≤ address_of (linked objects p.stack) f)

-- its frame is that of its head, its saved registers, so many temporaries, and its slots
abbrev pub HasFrame : Located → Type 0
HasFrame l = (n : ℕ) × (l.frame ≡ last_reach (slots_begin (head_size l.body) (length l.saved) n) l.body.slots)

-- a function's words end so far below the greatest address that an instruction fits behind them
abbrev pub EndsBelow : List Object → ℕ → Located → Type 0
EndsBelow objects stack l = address_of (linked objects stack) l.body.name + 4 * length (placed (selected l)).words + 8 < 2 ^ 32
