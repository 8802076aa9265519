-- What the linker's own types stand for.
use Rattle.std.specs.Prelude.{◌≡◌, ℕ, List}
use Rattle.std.specs.Borrow.{Bor}
use Rattle.std.specs.Map.{lookup}
use Rattle.std.specs.Str.{bytes_eq}
use Rattle.pw_link.specs.declared.text.Piece.{Piece}
use Rattle.pw_link.specs.declared.text.Placed.{Placed}
use Rattle.pw_link.specs.declared.data.Standing.{Standing}
use Rattle.pw_link.specs.declared.sites.Sites.{Sites}
use Rattle.pw_link.specs.Layout as plain

abbrev pub piece_view : Piece → plain.Piece
piece_view p = record { name = p.name.now; frame = p.frame; words = p.words.now; fixes = p.fixes.now }

abbrev pub placed_view : Placed → plain.Placed
placed_view p = record { address = p.address; piece = piece_view p.piece }

abbrev pub standing_view : Standing → plain.Standing
standing_view s = record { offset = s.offset; global = s.global.now }

-- a table tells the address of the first of each name
abbrev pub Tells : List (Bor (List ℕ) × ℕ) → List (List ℕ × ℕ) → Type 0
Tells table named = (name : Bor (List ℕ)) → lookup (λ other. bytes_eq name.now other.now) table ≡ lookup (bytes_eq name.now) named

-- what a table of these names and the rest of the addresses stand for
abbrev pub plain_sites : List (List ℕ × ℕ) → Sites → plain.Sites
plain_sites named s = record { named = named; routines = s.routines.items; stack_end = s.stack_end }

-- a table of addresses is that of pieces and objects at their places
pub record StandsFor (s : Sites) (text : List plain.Placed) (begin : ℕ) (stood : List plain.Standing) (end : ℕ) : Type 0 where
  pub names : Tells s.names.entries (plain.named_by text begin stood)
  pub routines : s.routines.items ≡ plain.routine_addresses text
  pub stack_end : s.stack_end ≡ end
