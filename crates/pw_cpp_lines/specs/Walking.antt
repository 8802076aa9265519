-- What is passed over, step by step.
use Rattle.std.specs.Prelude.{◌≡◌, ℕ, zero, suc, ◌+◌, ◌<◌, ◌≤◌, true, false, ◌⊎◌, List, drop, slice_index, Option, Some, None}
use Rattle.pw_token.specs.Tokenization.{BeginsWith}
use Rattle.pw_token.specs.declared.piece.PieceKind.{PieceKind}
use Rattle.pw_cpp_lines.specs.Lines.{NothingAt, is_line_end, is_space}
use Rattle.pw_cpp_lines.specs.Passing.{is_raw_end, quoted_at, step_len}
use Rattle.pw_cpp_lines.specs.declared.passing.Passed.{Passed}
use Rattle.pw_cpp_lines.specs.declared.passing.Passed.TheVariants as passed
use Rattle.pw_cpp_lines.specs.declared.quotes.Unclosed.{Unclosed}

-- The step that there is at a place: over a blank or a comment, a byte of a rest, or what stands in a line that is left out; none where
-- the line ends, or no blank and no comment begins.
abbrev pub IsStep : Passed → List ℕ → ℕ → Option ℕ → Type 0
IsStep passed.Space text at (Some len) = (is_line_end text at ≡ false) × (kind : PieceKind) × (is_space kind ≡ true) × BeginsWith false kind len (drop at text)
IsStep passed.Space text at None = (is_line_end text at ≡ true) ⊎ NothingAt is_space text at
IsStep passed.Rest text at (Some len) = (is_raw_end text at ≡ false) × (len ≡ 1)
IsStep passed.Rest text at None = is_raw_end text at ≡ true
IsStep passed.Line text at (Some len) = (is_raw_end text at ≡ false) × (len ≡ step_len text at)
IsStep passed.Line text at None = is_raw_end text at ≡ true

-- so many steps lead from one place to another
abbrev pub Walks : Passed → List ℕ → ℕ → ℕ → ℕ → Type 0
Walks what text at zero end = at ≡ end
Walks what text at (suc n) end = (len : ℕ) × IsStep what text at (Some len) × Walks what text (at + len) n end

-- steps lead from one place to another, at which there is none
pub record Walked (what : Passed) (text : List ℕ) (at end : ℕ) : Type 0 where
  pub steps : ℕ
  pub walks : Walks what text at steps end
  pub stops : IsStep what text end None

-- ---- quotes that are known not to close

-- Such quotes from one place on and before another do not close in their line.
abbrev pub NoneCloses : List ℕ → ℕ → ℕ → ℕ → Type 0
NoneCloses text quote from before = (k : ℕ) → from ≤ k → k < before → slice_index text k ≡ quote → quoted_at text quote k ≡ 1

abbrev pub AreUnclosed : List ℕ → ℕ → Unclosed → Type 0
AreUnclosed text from unclosed = NoneCloses text 39 from unclosed.single × NoneCloses text 34 from unclosed.double
