-- The status and the line of each answer.
use Rattle.std.specs.Prelude.{Bool, ℕ, List, [], ◌++◌, codes, false, true, Option, Some, None}
use Rattle.std.specs.Fmt.{decimal}
use Rattle.pw_cmean.specs.Undefined.{text_of}
use Rattle.pw_cpp_directives.specs.declared.fault.CppKind.{CppKind}
use Rattle.pw_cpp_directives.specs.declared.fault.CppKind.TheVariants as cpp
use Rattle.pw_cpp_directives.specs.declared.fault.CppWhich.{CppWhich}
use Rattle.pw_cpp_directives.specs.declared.fault.CppWhich.TheVariants as limit
use Rattle.pw_machine.specs.declared.ends.Halt.{Halt}
use Rattle.pw_machine.specs.declared.ends.Halt.TheVariants.{Illegal, Unaligned, OutOfMemoryRange, TextWrite, BadBranch, BadBreak}
use Rattle.pw_token.specs.declared.token.Feature.{Feature}
use Rattle.pw_token.specs.declared.token.Feature.TheVariants as feature
use Rattle.pw_token.specs.declared.token.LexFault.{LexFault}
use Rattle.pw_token.specs.declared.token.LexFault.TheVariants as lex
use Rattle.pw_front_end.specs.FromParse.ParseFault.{ParseFault}
use Rattle.pw_front_end.specs.FromParse.ParseFault.TheVariants as parse
use Rattle.pw_front_end.specs.declared.refusal.Refusal.{Refusal}
use Rattle.pw_front_end.specs.declared.refusal.Refusal.TheVariants.{Lex, Unsupported, Parse, Check}
use Rattle.pw_check_walk.specs.declared.constraints.CheckFault.{CheckFault}
use Rattle.pw_check_walk.specs.declared.constraints.CheckKind.{CheckKind}
use Rattle.pw_check_walk.specs.declared.constraints.CheckKind.TheVariants as check
use Rattle.pw_check_walk.specs.declared.constraints.Which.{Which}
use Rattle.pw_check_walk.specs.declared.constraints.Which.TheVariants as which
use Rattle.pw_value.specs.declared.fault.LinkFault.{LinkFault}
use Rattle.pw_value.specs.declared.fault.LinkFault.TheVariants as link
use Rattle.pw_value.specs.declared.fault.What.{What}
use Rattle.pw_value.specs.declared.fault.What.TheVariants.{Modules, TextBytes, Functions, Globals}
use Rattle.pw_store_modules.specs.FileNames.{text_name}
use Rattle.pw_top_answer.specs.declared.answer.Answer.{Answer}
use Rattle.pw_top_answer.specs.declared.answer.Answer.TheVariants.{Done, Ended, Usage, Refused, LinkRefused, StackStop, Spent, Halted, ReadFault, WriteFault, StoreFault, NoMemory, BadFile, BadScript, NoFrames, RefusedSource, Cpp, Undefined, UndefinedSource}

-- the status with which the process ends
abbrev pub status_of : Answer → ℕ
status_of Done = 0
status_of (Ended status) = status
status_of Usage = 112
status_of (Refused name refusal) = 113
status_of (RefusedSource name refusal) = 113
status_of (Cpp fault) = 113
status_of (LinkRefused fault) = 114
status_of StackStop = 115
status_of Spent = 116
status_of (Halted halt at) = 117
status_of ReadFault = 118
status_of WriteFault = 119
status_of StoreFault = 120
status_of NoMemory = 121
status_of (BadFile name at) = 122
status_of (BadScript at) = 123
status_of (Undefined operation name token) = 124
status_of (UndefinedSource operation name token) = 124
status_of (NoFrames address) = 125

-- ---- the line that is told

abbrev pub newline : List ℕ
newline = codes "\n"

abbrev pub feature_name : Feature → List ℕ
feature_name feature.Float = codes "Float"
feature_name feature.Wide = codes "Wide"
feature_name feature.Variadic = codes "Variadic"
feature_name feature.Directive = codes "Directive"
feature_name feature.BitField = codes "BitField"
feature_name feature.OldStyle = codes "OldStyle"
feature_name feature.StructByValue = codes "StructByValue"
feature_name feature.PointerCast = codes "PointerCast"

-- why a text has no tokens, and at which byte, counted from 0; want of memory refuses no text
abbrev pub lex_text : LexFault → List ℕ
lex_text (lex.Bad at) = codes "Bad at byte " ++ decimal at
lex_text (lex.TooMany at) = codes "TooMany at byte " ++ decimal at
lex_text lex.TooLong = codes "TooLong"
lex_text lex.NoMemory = codes "NoMemory"

-- why tokens have no syntax tree, and at which token, counted from 1; want of memory refuses none
abbrev pub parse_text : ParseFault → List ℕ
parse_text (parse.TooDeep token) = codes "TooDeep at token " ++ decimal token
parse_text (parse.Syntax token) = codes "Syntax at token " ++ decimal token
parse_text parse.NoMemory = codes "NoMemory"

abbrev pub which_name : Which → List ℕ
which_name which.NameLength = codes "NameLength"
which_name which.Nodes = codes "Nodes"
which_name which.ObjectSize = codes "ObjectSize"
which_name which.ShapeLength = codes "ShapeLength"
which_name which.Room = codes "Room"
which_name which.TypeDepth = codes "TypeDepth"
which_name which.Parameters = codes "Parameters"

-- what is wrong with a tree, and at which token; a limit with the number that passes it; want of memory refuses none
abbrev pub kind_text : CheckKind → ℕ → List ℕ
kind_text check.UnknownName token = codes "UnknownName" ++ codes " at token " ++ decimal token
kind_text check.Redeclared token = codes "Redeclared" ++ codes " at token " ++ decimal token
kind_text check.Typing token = codes "Typing" ++ codes " at token " ++ decimal token
kind_text check.Constant token = codes "Constant" ++ codes " at token " ++ decimal token
kind_text (check.Unsupported feature) token = codes "Unsupported " ++ feature_name feature ++ codes " at token " ++ decimal token
kind_text (check.Limit which number) token = codes "Limit " ++ which_name which ++ codes " " ++ decimal number ++ codes " at token " ++ decimal token
kind_text check.NoMemory token = codes "NoMemory" ++ codes " at token " ++ decimal token

abbrev pub check_text : CheckFault → List ℕ
check_text fault = kind_text fault.kind fault.token

-- or which feature, and at which token
abbrev pub refusal_text : Refusal → List ℕ
refusal_text (Check fault) = check_text fault
refusal_text (Lex fault) = lex_text fault
refusal_text (Parse fault) = parse_text fault
refusal_text (Unsupported token feature) = codes "Unsupported " ++ feature_name feature ++ codes " at token " ++ decimal token

abbrev pub limit_name : CppWhich → List ℕ
limit_name limit.Depth = codes "Depth"
limit_name limit.Macros = codes "Macros"
limit_name limit.Parameters = codes "Parameters"
limit_name limit.Produced = codes "Produced"
limit_name limit.Length = codes "Length"

-- what the preprocessor finds wrong, with the header that is missing, or the limit and the first number that passes it
abbrev pub cpp_text : CppKind → List ℕ
cpp_text cpp.Lex = codes "Lex"
cpp_text cpp.Directive = codes "Directive"
cpp_text cpp.Macro = codes "Macro"
cpp_text cpp.Condition = codes "Condition"
cpp_text (cpp.Include name) = codes "Include " ++ name
cpp_text cpp.Error = codes "Error"
cpp_text (cpp.Limit which number) = codes "Limit " ++ limit_name which ++ codes " " ++ decimal number
cpp_text cpp.NoMemory = codes "NoMemory"

abbrev pub what_name : What → List ℕ
what_name Modules = codes "Modules"
what_name TextBytes = codes "TextBytes"
what_name Functions = codes "Functions"
what_name Globals = codes "Globals"

-- which fault, and the names or the number that it speaks of
abbrev pub link_text : LinkFault → List ℕ
link_text (link.Undefined name) = codes "Undefined " ++ name
link_text (link.Duplicate name first second) = codes "Duplicate " ++ name ++ codes " " ++ first ++ codes " " ++ second
link_text (link.Conflict name first second) = codes "Conflict " ++ name ++ codes " " ++ first ++ codes " " ++ second
link_text link.NoMain = codes "NoMain"
link_text (link.TextTooLarge bytes) = codes "TextTooLarge " ++ decimal bytes
link_text (link.MemoryTooLarge end) = codes "MemoryTooLarge " ++ decimal end
link_text link.NoMemory = codes "NoMemory"
link_text (link.TooMany what count) = codes "TooMany " ++ what_name what ++ codes " " ++ decimal count

abbrev pub halt_name : Halt → List ℕ
halt_name Illegal = codes "Illegal"
halt_name Unaligned = codes "Unaligned"
halt_name OutOfMemoryRange = codes "OutOfMemoryRange"
halt_name TextWrite = codes "TextWrite"
halt_name BadBranch = codes "BadBranch"
halt_name BadBreak = codes "BadBreak"

-- the file, and where it is refused
abbrev pub bad_file_text : List ℕ → Option ℕ → List ℕ
bad_file_text name None = codes "BadFile " ++ name
bad_file_text name (Some offset) = codes "BadFile " ++ name ++ codes " at " ++ decimal offset

-- No line tells this answer.
abbrev pub is_untold : Answer → Bool
is_untold Done = true
is_untold (Ended status) = true
is_untold answer = false

-- where in a text a refusal stands, where that is known
abbrev pub at_line : Option ℕ → List ℕ
at_line None = []
at_line (Some line) = codes ":" ++ decimal line

-- the file of a module's C source
abbrev pub source_file : List ℕ → List ℕ
source_file name = name ++ codes ".c"

-- The line of an answer, where a refused module is refused, or an undefined operation stands, on this line of its text. A command that is done and a run that ended have none.
abbrev pub line_text : Option ℕ → Answer → List ℕ
line_text line Done = []
line_text line (Ended status) = []
line_text line Usage = codes "usage" ++ newline
line_text line (Refused name refusal) = text_name name ++ at_line line ++ codes ": " ++ refusal_text refusal ++ newline
line_text line (RefusedSource name refusal) = source_file name ++ at_line line ++ codes ": " ++ refusal_text refusal ++ newline
line_text line (Cpp fault) = fault.file ++ codes ":" ++ decimal fault.line ++ codes ": Cpp " ++ cpp_text fault.kind ++ newline
line_text line (LinkRefused fault) = codes "link: " ++ link_text fault ++ newline
line_text line StackStop = codes "StackStop" ++ newline
line_text line Spent = codes "Spent" ++ newline
line_text line (Halted halt at) = codes "Halted " ++ halt_name halt ++ codes " " ++ decimal at ++ newline
line_text line ReadFault = codes "ReadFault" ++ newline
line_text line WriteFault = codes "WriteFault" ++ newline
line_text line StoreFault = codes "StoreFault" ++ newline
line_text line NoMemory = codes "NoMemory" ++ newline
line_text line (BadFile name at) = bad_file_text name at ++ newline
line_text line (BadScript at) = codes "BadScript at " ++ decimal at ++ newline
line_text line (NoFrames address) = codes "NoFrames " ++ decimal address ++ newline
line_text line (Undefined operation name token) = text_name name ++ at_line line ++ codes ": Undefined " ++ text_of operation ++ codes " at token " ++ decimal token ++ newline
line_text line (UndefinedSource operation name token) = source_file name ++ at_line line ++ codes ": Undefined " ++ text_of operation ++ codes " at token " ++ decimal token ++ newline

-- the answers whose lines name something, and are made for them
abbrev pub NeedsMemory : Answer → Type 0
NeedsMemory Done = ⊥
NeedsMemory (Ended status) = ⊥
NeedsMemory Usage = ⊥
NeedsMemory (Refused name refusal) = Unit {0}
NeedsMemory (RefusedSource name refusal) = Unit {0}
NeedsMemory (Cpp fault) = Unit {0}
NeedsMemory (LinkRefused fault) = Unit {0}
NeedsMemory StackStop = ⊥
NeedsMemory Spent = ⊥
NeedsMemory (Halted halt at) = Unit {0}
NeedsMemory ReadFault = ⊥
NeedsMemory WriteFault = ⊥
NeedsMemory StoreFault = ⊥
NeedsMemory NoMemory = ⊥
NeedsMemory (BadFile name at) = Unit {0}
NeedsMemory (BadScript at) = Unit {0}
NeedsMemory (NoFrames address) = Unit {0}
NeedsMemory (Undefined operation name token) = Unit {0}
NeedsMemory (UndefinedSource operation name token) = Unit {0}
