-- The lines of a script name the files of texts alone.
use Rattle.std.proofs.Common.{◌≡◌, ℕ, zero, suc, ◌+◌, ◌-◌, Bool, true, false, cond, ◌&&◌, List, codes, length, Option, Some, None, refl}
use Rattle.std.specs.Option.{option_map_or, option_map, option_and_then}
use Rattle.std.specs.List.{AllByRecursion}
use Rattle.std.specs.Str.{bytes_eq, is_utf8}
use Rattle.pw_store_texts.specs.Names.{is_text_file}
use Rattle.pw_session_script.specs.Script.{Command, PutFile, RemoveFile, BuildAll, RunWith, LineValue, NamesText, by_command, by_line, command_in, command_of, content_of, file_in, first_line, first_word, line_limit, line_within, long_command, put_in, put_limit, run_limit, with_content, words_behind}
use Rattle.pw_top_words.specs.CommandLine.{number_in}
use Rattle.pw_session.specs.Session.{script_lines_from, lines_limit, script_lines, no_line, with_line}

-- the command names a text's file
abbrev NamesFile : Command → Type 0
NamesFile (PutFile file count) = is_text_file file ≡ true
NamesFile (RemoveFile file) = is_text_file file ≡ true
NamesFile BuildAll = Unit {0}
NamesFile (RunWith count) = Unit {0}

abbrev IfNames : Option Command → Type 0
IfNames None = Unit {0}
IfNames (Some command) = NamesFile command

abbrev IsFileOf : Option (List ℕ) → Type 0
IsFileOf None = Unit {0}
IsFileOf (Some file) = is_text_file file ≡ true

file_by : (word : List ℕ) (a b : Bool) → is_text_file word ≡ a → IsFileOf (cond (a && b) (Some word) None)
file_by word true true e = e
file_by word true false e = tt
file_by word false b e = tt

file_names : (word : List ℕ) → IsFileOf (file_in word)
file_names word = file_by word (is_text_file word) (is_utf8 word) refl

remove_names : (file : Option (List ℕ)) → IsFileOf file → IfNames (option_map RemoveFile file)
remove_names None h = tt
remove_names (Some file) h = h

run_names : (count : Option ℕ) → IfNames (option_map RunWith count)
run_names None = tt
run_names (Some count) = tt

count_names : (file : List ℕ) (count : Option ℕ) → is_text_file file ≡ true → IfNames (option_map (PutFile file) count)
count_names file None h = tt
count_names file (Some count) h = h

put_names : (file : Option (List ℕ)) (count : Option ℕ) → IsFileOf file → IfNames (option_and_then (λ f. option_map (PutFile f) count) file)
put_names None count h = tt
put_names (Some file) count h = count_names file count h

put_in_names : (word : List ℕ) (digits : Option (List ℕ)) → IfNames (put_in word digits)
put_in_names word None = tt
put_in_names word (Some digits) = put_names (file_in word) (number_in 0 put_limit digits) (file_names word)

if_names : (b : Bool) (x y : Option Command) → IfNames x → IfNames y → IfNames (cond b x y)
if_names true x y h k = h
if_names false x y h k = k

long_names : (word words : List ℕ) → IfNames (long_command word words)
long_names word words =
    if_names (bytes_eq word (codes "put")) _ _ (put_in_names (first_word words) (words_behind words))
    (if_names (bytes_eq word (codes "remove")) _ _ (remove_names (file_in words) (file_names words))
    (if_names (bytes_eq word (codes "run")) _ _ (run_names (number_in 0 run_limit words)) tt))

command_names : (word : List ℕ) (words : Option (List ℕ)) → IfNames (command_in word words)
command_names word None = if_names (bytes_eq word (codes "build")) _ _ tt tt
command_names word (Some words) = long_names word words

-- ---- lines

abbrev IfNamed : Option (LineValue × List ℕ) → Type 0
IfNamed None = Unit {0}
IfNamed (Some cut) = NamesText cut.0

put_named : (file : List ℕ) (cut : Option (List ℕ × List ℕ)) → is_text_file file ≡ true → IfNamed (option_map (λ c. (LineValue.PutText file c.0, c.1)) cut)
put_named file None h = tt
put_named file (Some cut) h = h

run_named : (cut : Option (List ℕ × List ℕ)) → IfNamed (option_map (λ c. (LineValue.RunProgram c.0, c.1)) cut)
run_named None = tt
run_named (Some cut) = tt

content_named : (command : Command) (script : List ℕ) → NamesFile command → IfNamed (with_content command script)
content_named (PutFile file count) script h = put_named file (content_of count script) h
content_named (RemoveFile file) script h = h
content_named BuildAll script h = tt
content_named (RunWith count) script h = run_named (content_of count script)

by_command_named : (command : Option Command) (script : List ℕ) → IfNames command → IfNamed (by_command command script)
by_command_named None script h = tt
by_command_named (Some command) script h = content_named command script h

by_line_named : (cut : Option (List ℕ × List ℕ)) → IfNamed (by_line cut)
by_line_named None = tt
by_line_named (Some cut) = by_command_named (command_of cut.0) cut.1 (command_names (first_word cut.0) (words_behind cut.0))

first_named : (script : List ℕ) → IfNamed (first_line script)
first_named script = by_line_named (line_within line_limit script)

-- ---- all lines

abbrev AreNamed : List LineValue → Type 0
AreNamed lines = AllByRecursion NamesText lines

cut_named : (n offset : ℕ) (script : List ℕ) (cut : Option (LineValue × List ℕ)) → ((at : ℕ) (rest : List ℕ) → AreNamed (script_lines_from n at rest).lines) → IfNamed cut
    → AreNamed (option_map_or (λ c. with_line c.0 (script_lines_from n (offset + (length script - length c.1)) c.1)) cut (no_line offset script)).lines
cut_named n offset script None behind h = tt
cut_named n offset script (Some cut) behind h = (h, behind (offset + (length script - length cut.1)) cut.1)

lines_named : (n offset : ℕ) (script : List ℕ) → AreNamed (script_lines_from n offset script).lines
unfolding script_lines_from
lines_named zero offset script = tt
lines_named (suc n) offset script = cut_named n offset script (first_line script) (λ at rest. lines_named n at rest) (first_named script)

pub script_named : (script : List ℕ) → AllByRecursion NamesText (script_lines script).lines
unfolding script_lines
script_named script = lines_named lines_limit 0 script
