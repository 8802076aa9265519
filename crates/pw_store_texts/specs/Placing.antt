-- Modules in the order of their names, and where one more stands among them.
use Rattle.std.specs.Prelude.{◌≡◌, ℕ, ◌<◌, ◌≤◌, if◌then◌else◌, List, [], ◌∷◌, insert, length, slice_set, Result, Ok, Err}
use Rattle.std.specs.Cmp.Lexicographic.{slice_cmp}
use Rattle.std.specs.FinMap.Entries.{put}
use Rattle.std.specs.Ordering.{nat_cmp}
use Rattle.pw_io.specs.Files.{Files, prefix_of}
use Rattle.pw_store_modules.specs.Modules.{Source, text_read}
use Rattle.pw_store_texts.specs.Bytes.{is_crowded}
use Rattle.pw_store_sources.specs.Sources.{Outputs}
use Rattle.pw_store_texts.specs.Seen.{first_name, refused_text, seen_text}

-- with a module of this name and this text in its place, in that of one of its name
abbrev pub placed : List ℕ → List ℕ → List Source → List Source
placed name text sources = put (slice_cmp nat_cmp) name text sources

-- a module of this name stands there; or it would stand there
abbrev pub Places : List Source → List ℕ → Result ℕ ℕ → Type 0
Places sources name (Ok at) = (at < length sources) × ((text : List ℕ) → placed name text sources ≡ slice_set sources at (name, text))
Places sources name (Err at) = (at ≤ length sources) × ((text : List ℕ) → placed name text sources ≡ insert sources at (name, text))

-- modules, with what comes of C sources in their places
abbrev pub with_outputs : List Source → Outputs → List Source
with_outputs sources [] = sources
with_outputs sources (output ∷ outputs) = with_outputs (placed output.0 (prefix_of text_read (seen_text output.1)) sources) outputs

-- modules of which the first has a text that no module may have
abbrev pub refused_sources : List Source → List Source
refused_sources sources = placed (first_name sources) (prefix_of text_read refused_text) sources

-- the same where the texts of files are more bytes than there may be
abbrev pub sources_within : Files → List Source → List Source
sources_within files sources = if is_crowded files then refused_sources sources else sources
