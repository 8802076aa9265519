-- What holds from turn to turn: the store, the input and the counts of faults.
use Rattle.std.proofs.Common.{◌≡◌, ◌≤◌, ℕ, List, [], ◌∷◌, ◌++◌, Option, Some, None, Result, Ok, Err, refl, sym, ap, ◌∙◌, subst, append_assoc}
use Rattle.std.specs.Prelude.{IfSome}
use Rattle.pw_io.specs.Files.{Told}
use Rattle.pw_io.specs.Streams.{TakesNext}
use Rattle.pw_io.specs.declared.Failed.{Failed}
use Rattle.pw_top_answer.specs.declared.answer.Answer.{Answer}
use Rattle.pw_top_answer.specs.declared.answer.Answer.TheVariants.{Done, ReadFault, WriteFault, StoreFault, NoMemory, BadScript}
use Rattle.pw_top_answer.specs.Outcomes.{InputCount, IsPrintAnswer, OutputCount, StoreCount}
use Rattle.pw_build_files.specs.Genuine.{KeepsGenuine}
use Rattle.pw_session_script.specs.declared.line.TakenLine.{TakenLine}
use Rattle.pw_session_script.specs.declared.line.ScriptFault.{ScriptFault}
use Rattle.pw_session_script.specs.declared.line.ScriptFault.TheVariants as script
use Rattle.pw_session_script.specs.Reading.{IsReadInPart, ReadsLine, ScriptCount}
use Rattle.pw_session_script.specs.Script.{taken_limit}
use Rattle.pw_session.specs.declared.session.Turn.{Turn}
use Rattle.pw_session.specs.declared.session.Turn.TheVariants.{Over, Obeyed}
use Rattle.pw_session.specs.Changes.{MakesSome, after_changes}
use Rattle.pw_session.specs.Outcomes.{IsLastAnswer, IsLineAnswer, IsReadAnswer, IsSessionAnswer, IsLineTaken, IsSessionTurn, LeavesScript, LeavesTurn, last_answer, turn_answer, unread}
use Rattle.pw_session.proofs.ChangeLemmas.{some_then}

-- ---- the store

some_told : (may : List ℕ → Type 0) (answer : Answer) (told : Told) (now new : Option Told) → MakesSome may Done told now → IfSome now (λ t. MakesSome may answer t new) → MakesSome may answer told new
some_told may answer told now new h k = some_then may h.0 answer told new h.1 (subst (λ (o : Option Told). IfSome o (λ t. MakesSome may answer t new)) h.2 k)

pub some_on : (may : List ℕ → Type 0) (answer : Answer) (first now new : Option Told) → IfSome first (λ told. MakesSome may Done told now) → IfSome now (λ told. MakesSome may answer told new) → IfSome first (λ told. MakesSome may answer told new)
some_on may answer None now new h k = tt
some_on may answer (Some told) now new h k = some_told may answer told now new h k

genuine_told : (at : Told) (now new : Option Told) → now ≡ Some at → IfSome now (λ t. KeepsGenuine t.files) → IfSome now (λ t. KeepsGenuine t.files → IfSome new (λ n. KeepsGenuine n.files)) → IfSome new (λ n. KeepsGenuine n.files)
genuine_told at now new e k h =
    subst (λ (o : Option Told). IfSome o (λ t. KeepsGenuine t.files → IfSome new (λ n. KeepsGenuine n.files))) e h (subst (λ (o : Option Told). IfSome o (λ t. KeepsGenuine t.files)) e k)

pub genuine_on : (may : List ℕ → Type 0) (first now new : Option Told) → IfSome first (λ told. MakesSome may Done told now) → IfSome first (λ told. KeepsGenuine told.files → IfSome now (λ t. KeepsGenuine t.files))
    → IfSome now (λ told. KeepsGenuine told.files → IfSome new (λ t. KeepsGenuine t.files)) → IfSome first (λ told. KeepsGenuine told.files → IfSome new (λ t. KeepsGenuine t.files))
genuine_on may None now new some h k = tt
genuine_on may (Some told) now new some h k = λ g. genuine_told (after_changes told some.0) now new some.2 (h g) k

pub genuine_same : (first : Option Told) → IfSome first (λ told. KeepsGenuine told.files → IfSome first (λ t. KeepsGenuine t.files))
genuine_same None = tt
genuine_same (Some told) = λ g. g

pub store_on : (answer : Answer) (first now new : ℕ) → now ≡ first → StoreCount now new answer → StoreCount first new answer
store_on answer first now new e h = subst (λ (n : ℕ). StoreCount n new answer) e h

pub read_on : (answer : Answer) (first now new : ℕ) → now ≡ first → InputCount now new answer → InputCount first new answer
read_on answer first now new e h = subst (λ (n : ℕ). InputCount n new answer) e h

pub write_on : (answer : Answer) (first now new : ℕ) → now ≡ first → OutputCount now new answer → OutputCount first new answer
write_on answer first now new e h = subst (λ (n : ℕ). OutputCount n new answer) e h

-- ---- the input

part_told : (script : List ℕ) (now new : Option (List ℕ)) → IsReadInPart script now → IfSome now (λ left. IsReadInPart left new) → IsReadInPart script new
part_told script None new a b = absurd a
part_told script (Some left) None a b = absurd b
part_told script (Some left) (Some later) a b = (a.0 ++ b.0, a.1 ∙ ap (λ (xs : List ℕ). a.0 ++ xs) b.1 ∙ sym (append_assoc a.0 b.0 later))

pub part_on : (first now new : Option (List ℕ)) → IfSome first (λ script. IsReadInPart script now) → IfSome now (λ script. IsReadInPart script new) → IfSome first (λ script. IsReadInPart script new)
part_on None now new a b = tt
part_on (Some script) now new a b = part_told script now new a b

pub part_start : (first : Option (List ℕ)) → IfSome first (λ script. IsReadInPart script first)
part_start None = tt
part_start (Some script) = ([], refl)

-- an answer behind which a prefix was read
abbrev IsPart : Answer → Type 0
IsPart Done = ⊥
IsPart _ = Unit {0}

leaves_part : (script : List ℕ) (answer : Answer) (new : Option (List ℕ)) → IsPart answer → IsReadInPart script new → LeavesScript script answer new
leaves_part script Done new k h = absurd k
leaves_part script _ new k h = h

end_told : (script : List ℕ) (now new : Option (List ℕ)) → IsReadInPart script now → IfSome now (λ left. new ≡ Some []) → new ≡ Some []
end_told script None new a b = absurd a
end_told script (Some left) new a b = b

leaves_told : (answer : Answer) (script : List ℕ) (now new : Option (List ℕ)) → IsReadInPart script now → IfSome now (λ left. LeavesScript left answer new) → LeavesScript script answer new
leaves_told Done script now new a b = end_told script now new a b
leaves_told _ script now new a b = part_told script now new a b

pub leaves_on : (answer : Answer) (first now new : Option (List ℕ)) → IfSome first (λ script. IsReadInPart script now) → IfSome now (λ script. LeavesScript script answer new) → IfSome first (λ script. LeavesScript script answer new)
leaves_on answer None now new a b = tt
leaves_on answer (Some script) now new a b = leaves_told answer script now new a b

unread_is_part : (fault : ScriptFault) (offset : ℕ) → IsPart (unread fault offset)
unread_is_part script.BadLine offset = tt
unread_is_part script.ReadFault offset = tt
unread_is_part script.NoMemory offset = tt

pub leaves_unread : (fault : ScriptFault) (offset : ℕ) (first new : Option (List ℕ)) → IfSome first (λ script. IsReadInPart script new) → IfSome first (λ script. LeavesScript script (unread fault offset) new)
leaves_unread fault offset None new h = tt
leaves_unread fault offset (Some script) new h = leaves_part script (unread fault offset) new (unread_is_part fault offset) h

line_is_part : (answer : Answer) → IsLineAnswer answer → (answer ≡ Done → ⊥) → IsPart answer
line_is_part Done k ne = absurd (ne refl)
line_is_part _ k ne = tt

pub leaves_line : (answer : Answer) (first new : Option (List ℕ)) → IsLineAnswer answer → (answer ≡ Done → ⊥) → IfSome first (λ script. IsReadInPart script new) → IfSome first (λ script. LeavesScript script answer new)
leaves_line answer None new k ne h = tt
leaves_line answer (Some script) new k ne h = leaves_part script answer new (line_is_part answer k ne) h

pub leaves_end : (first new : Option (List ℕ)) → IfSome first (λ script. ReadsLine script new (Ok None)) → IfSome first (λ script. LeavesScript script Done new)
leaves_end None new h = tt
leaves_end (Some script) new h = h.1

pub leaves_end_so : (found : Option TakenLine) (first new : Option (List ℕ)) → found ≡ None → IfSome first (λ script. ReadsLine script new (Ok found)) → IfSome first (λ script. LeavesScript script Done new)
leaves_end_so found first new e h = leaves_end first new (subst (λ (o : Option TakenLine). IfSome first (λ script. ReadsLine script new (Ok o))) e h)

-- ---- counts of faults

pub unread_store : (fault : ScriptFault) (offset count : ℕ) → StoreCount count count (unread fault offset)
unread_store script.BadLine offset count = refl
unread_store script.ReadFault offset count = refl
unread_store script.NoMemory offset count = refl

pub unread_write : (fault : ScriptFault) (offset count : ℕ) → OutputCount count count (unread fault offset)
unread_write script.BadLine offset count = refl
unread_write script.ReadFault offset count = refl
unread_write script.NoMemory offset count = refl

pub unread_read : (fault : ScriptFault) (offset before now : ℕ) → ScriptCount {T = Option TakenLine} before now (Err fault) → InputCount before now (unread fault offset)
unread_read script.BadLine offset before now h = h
unread_read script.ReadFault offset before now h = h
unread_read script.NoMemory offset before now h = h

pub line_read : (answer : Answer) (before now : ℕ) → IsLineAnswer answer → now ≡ before → InputCount before now answer
line_read ReadFault before now k h = absurd k
line_read _ before now k h = h

-- ---- answers

pub unread_is : (fault : ScriptFault) (offset : ℕ) → IsSessionAnswer (unread fault offset)
unread_is script.BadLine offset = tt
unread_is script.ReadFault offset = tt
unread_is script.NoMemory offset = tt

pub line_is : (answer : Answer) → IsLineAnswer answer → IsSessionAnswer answer
line_is Done k = tt
line_is WriteFault k = tt
line_is StoreFault k = tt
line_is NoMemory k = tt
line_is _ k = absurd k

pub say_is_line : (answer : Answer) → IsPrintAnswer answer → IsLineAnswer answer
say_is_line Done k = tt
say_is_line WriteFault k = tt
say_is_line NoMemory k = tt
say_is_line _ k = absurd k

-- one that leaves the store alone
pub say_store : (answer : Answer) (before now : ℕ) → IsPrintAnswer answer → now ≡ before → StoreCount before now answer
say_store StoreFault before now k h = absurd k
say_store _ before now k h = h

-- ---- a line that was read

pub leaves_taken : (line : TakenLine) (turn : Turn) (first new : Option (List ℕ)) → IsLineTaken line turn → IfSome first (λ script. IsReadInPart script new) → IfSome first (λ script. LeavesTurn script turn new)
leaves_taken line (Over answer) first new k h = leaves_line answer first new k.0 k.1 h
leaves_taken line (Obeyed size) None new k h = tt
leaves_taken line (Obeyed size) (Some script) new k h = tt

pub taken_read : (line : TakenLine) (turn : Turn) (before now : ℕ) → IsLineTaken line turn → now ≡ before → InputCount before now (turn_answer turn)
taken_read line (Over answer) before now k h = line_read answer before now k.0 h
taken_read line (Obeyed size) before now k h = h

pub short_so : (found : Option TakenLine) (line : TakenLine) → found ≡ Some line → IfSome found (λ taken. taken.length ≤ taken_limit) → line.length ≤ taken_limit
short_so found line e h = subst (λ (o : Option TakenLine). IfSome o (λ taken. taken.length ≤ taken_limit)) e h

pub taken_is : (line : TakenLine) (turn : Turn) → IsLineTaken line turn → line.length ≤ taken_limit → IsSessionTurn turn
taken_is line (Over answer) k h = line_is answer k.0
taken_is line (Obeyed size) k h = subst (λ (n : ℕ). n ≤ taken_limit) (sym k) h

-- ---- behind the last line

pub end_is : (found : Option ℕ) (offset : ℕ) (first new : Option (List ℕ)) → TakesNext first new (Ok found) → IfSome first (λ script. IsLastAnswer offset script (last_answer found offset))
end_is found offset None new h = tt
end_is None offset (Some script) new h = subst (λ (s : List ℕ). IsLastAnswer offset s Done) (sym h.0) refl
end_is (Some byte) offset (Some script) None h = absurd h
end_is (Some byte) offset (Some script) (Some later) h = subst (λ (s : List ℕ). IsLastAnswer offset s (BadScript offset)) (sym h) refl

pub fault_is_last : (offset : ℕ) (first : Option (List ℕ)) → IfSome first (λ script. IsLastAnswer offset script ReadFault)
fault_is_last offset None = tt
fault_is_last offset (Some script) = tt

pub end_part : (result : Result (Option ℕ) Failed) (first new : Option (List ℕ)) → TakesNext first new result → IfSome first (λ script. IsReadInPart script new)
end_part result None new h = tt
end_part (Ok None) (Some script) new h = subst (λ (o : Option (List ℕ)). IsReadInPart script o) (sym h.1) ([], h.0)
end_part (Ok (Some byte)) (Some script) None h = absurd h
end_part (Ok (Some byte)) (Some script) (Some later) h = (byte ∷ [], h)
end_part (Err failed) (Some script) new h = subst (λ (o : Option (List ℕ)). IsReadInPart script o) (sym h) ([], refl)

pub end_whole : (found : Option ℕ) (offset : ℕ) (first new : Option (List ℕ)) → TakesNext first new (Ok found) → IfSome first (λ script. LeavesScript script (last_answer found offset) new)
end_whole found offset None new h = tt
end_whole None offset (Some script) new h = h.1
end_whole (Some byte) offset (Some script) None h = absurd h
end_whole (Some byte) offset (Some script) (Some later) h = (byte ∷ [], h)

fault_part : (script : List ℕ) (new : Option (List ℕ)) → IsReadInPart script new → LeavesScript script ReadFault new
fault_part script new h = h

pub fault_whole : (failed : Failed) (first new : Option (List ℕ)) → TakesNext first new (Err failed) → IfSome first (λ script. LeavesScript script ReadFault new)
fault_whole failed None new h = tt
fault_whole failed (Some script) new h = fault_part script new (end_part (Err failed) (Some script) new h)

pub end_read : (found : Option ℕ) (offset before now : ℕ) → now ≡ before → InputCount before now (last_answer found offset)
end_read None offset before now h = h
end_read (Some byte) offset before now h = h

pub end_kind : (found : Option ℕ) (offset : ℕ) → IsReadAnswer (last_answer found offset)
end_kind None offset = tt
end_kind (Some byte) offset = tt

pub read_store : (answer : Answer) (before now : ℕ) → IsReadAnswer answer → now ≡ before → StoreCount before now answer
read_store StoreFault before now k h = absurd k
read_store _ before now k h = h

pub read_write : (answer : Answer) (before now : ℕ) → IsReadAnswer answer → now ≡ before → OutputCount before now answer
read_write WriteFault before now k h = absurd k
read_write _ before now k h = h

pub read_is : (answer : Answer) → IsReadAnswer answer → IsSessionAnswer answer
read_is Done k = tt
read_is ReadFault k = tt
read_is (BadScript at) k = tt
read_is _ k = absurd k
