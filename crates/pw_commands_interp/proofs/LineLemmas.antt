-- The line of an answer.
use Rattle.std.proofs.Common.{◌≡◌, inl, inr, ℕ, List, map, Option, Some, None, refl, sym, ap, subst, ◌∙◌}
use Rattle.std.specs.Prelude.{IfSome}
use Rattle.pw_io.specs.Files.{Files, Told}
use Rattle.pw_top_answer.specs.declared.answer.Answer.{Answer}
use Rattle.pw_top_answer.specs.declared.answer.Answer.TheVariants as answer
use Rattle.pw_top_answer.specs.declared.answer.Reply.{Reply}
use Rattle.pw_top_answer.specs.Outcomes.{InputCount, IsLineDue, LeavesStreams, OutputCount, StoreCount}
use Rattle.pw_store_modules.specs.declared.modules.Module.{Module}
use Rattle.pw_store_modules.specs.Modules.{Source, modules_of}
use Rattle.pw_store_modules.specs.Views.{source}
use Rattle.pw_store_texts.specs.Seen.{IsSeen}
use Rattle.pw_build_files.specs.FromBuild.BuildFault.{BuildFault}
use Rattle.pw_build_files.specs.FromBuild.BuildFault.TheVariants as build
use Rattle.pw_build_files.specs.FromBuild.Phases.{IsLine, refused_line}
use Rattle.pw_build_files.specs.Outcomes.{IsNoWant, fault_answer}
use Rattle.pw_build_files.specs.Seen.{SeesModules}
use Rattle.pw_interp_runs.specs.Running.{IsRunAnswer, RepliesTo, TellsToken, run_line}
use Rattle.pw_commands_interp.specs.Interpreting.{IsInterpAnswer, told_line}

-- ---- an answer to a run

pub run_proper : (a : Answer) → IsRunAnswer a → IsInterpAnswer a
run_proper (answer.Ended status) k = tt
run_proper answer.StackStop k = tt
run_proper answer.Spent k = tt
run_proper answer.ReadFault k = tt
run_proper answer.WriteFault k = tt
run_proper answer.NoMemory k = tt
run_proper (answer.Undefined operation name token) k = tt
run_proper _ k = absurd k

pub run_store : (before now : ℕ) (a : Answer) → IsRunAnswer a → now ≡ before → StoreCount before now a
run_store before now answer.StoreFault k e = absurd k
run_store before now _ k e = e

pub run_streams : (a : Answer) (i i' o o' : Option (List ℕ)) → IsRunAnswer a → LeavesStreams a i i' o o'
run_streams answer.Usage i i' o o' k = absurd k
run_streams (answer.Refused name refusal) i i' o o' k = absurd k
run_streams (answer.RefusedSource name refusal) i i' o o' k = absurd k
run_streams (answer.Cpp fault) i i' o o' k = absurd k
run_streams (answer.LinkRefused fault) i i' o o' k = absurd k
run_streams (answer.BadFile name at) i i' o o' k = absurd k
run_streams answer.StoreFault i i' o o' k = absurd k
run_streams _ i i' o o' k = tt

-- what holds of the answer to a run, and of want of memory where it is an undefined operation, holds of the reply
pub of_reply : (P : Answer → Type 0) (sources : List Source) (a : Answer) (reply : Reply) → RepliesTo sources a reply → P a → (TellsToken a → P answer.NoMemory) → P reply.answer
of_reply P sources a reply (inl same) p q = subst P (sym same.0) p
of_reply P sources a reply (inr none) p q = subst P (sym none.0) (q none.1)

due_of_run : (sources : List Source) (a : Answer) (line : Option ℕ) → IsRunAnswer a → line ≡ run_line sources a → IsLineDue (told_line sources a) a line
due_of_run sources (answer.Undefined operation name token) line k is = is
due_of_run sources (answer.Ended status) line k is = tt
due_of_run sources answer.StackStop line k is = tt
due_of_run sources answer.Spent line k is = tt
due_of_run sources answer.ReadFault line k is = tt
due_of_run sources answer.WriteFault line k is = tt
due_of_run sources answer.NoMemory line k is = tt
due_of_run sources _ line k is = absurd k

pub line_of_reply : (sources : List Source) (a : Answer) (reply : Reply) → IsRunAnswer a → RepliesTo sources a reply → IsLineDue (told_line sources reply.answer) reply.answer reply.line
line_of_reply sources a reply k (inl same) = subst (λ (x : Answer). IsLineDue (told_line sources x) x reply.line) (sym same.0) (due_of_run sources a reply.line k same.1)
line_of_reply sources a reply k (inr none) = subst (λ (x : Answer). IsLineDue (told_line sources x) x reply.line) (sym none.0) tt

-- the line of a refusal
due_of_fault : (sources : List Source) (fault : BuildFault) (line : Option ℕ) → IsLine (refused_line sources) fault line → IsLineDue (told_line sources (fault_answer fault)) (fault_answer fault) line
due_of_fault sources (build.Refused name refusal) line h = h
due_of_fault sources (build.LinkRefused fault) line h = tt
due_of_fault sources build.StoreFault line h = tt
due_of_fault sources build.NoMemory line h = tt

pub line_of_fault : (sources : List Source) (fault : BuildFault) (a : Answer) (line : Option ℕ) → a ≡ fault_answer fault → IsLine (refused_line sources) fault line → IsLineDue (told_line sources a) a line
line_of_fault sources fault a line is h = subst (λ (x : Answer). IsLineDue (told_line sources x) x line) (sym is) (due_of_fault sources fault line h)

-- ---- what else holds of a reply to a run

pub reply_proper : (sources : List Source) (a : Answer) (reply : Reply) → IsRunAnswer a → RepliesTo sources a reply → IsInterpAnswer reply.answer
reply_proper sources a reply k r = of_reply IsInterpAnswer sources a reply r (run_proper a k) (λ t. tt)

pub reply_store : (sources : List Source) (a : Answer) (reply : Reply) (before now : ℕ) → IsRunAnswer a → now ≡ before → RepliesTo sources a reply → StoreCount before now reply.answer
reply_store sources a reply before now k e r = of_reply (StoreCount before now) sources a reply r (run_store before now a k e) (λ t. e)

input_still : (a : Answer) (before now : ℕ) → TellsToken a → InputCount before now a → now ≡ before
input_still (answer.Undefined operation name token) before now t h = h
input_still _ before now t h = absurd t

pub reply_read : (sources : List Source) (a : Answer) (reply : Reply) (before now : ℕ) → InputCount before now a → RepliesTo sources a reply → InputCount before now reply.answer
reply_read sources a reply before now h r = of_reply (InputCount before now) sources a reply r h (λ t. input_still a before now t h)

output_still : (a : Answer) (before now : ℕ) → TellsToken a → OutputCount before now a → now ≡ before
output_still (answer.Undefined operation name token) before now t h = h
output_still _ before now t h = absurd t

pub reply_write : (sources : List Source) (a : Answer) (reply : Reply) (before now : ℕ) → OutputCount before now a → RepliesTo sources a reply → OutputCount before now reply.answer
reply_write sources a reply before now h r = of_reply (OutputCount before now) sources a reply r h (λ t. output_still a before now t h)

pub reply_streams : (sources : List Source) (a : Answer) (reply : Reply) (i i' o o' : Option (List ℕ)) → IsRunAnswer a → RepliesTo sources a reply → LeavesStreams reply.answer i i' o o'
reply_streams sources a reply i i' o o' k r = of_reply (λ x. LeavesStreams x i i' o o') sources a reply r (run_streams a i i' o o' k) (λ t. tt)

-- ---- refusals

pub line_read : ((files shown other : Files) → IsSeen files shown → IsSeen files other → shown ≡ other) → (ms : List Module) (told : Option Told) (reply : Reply) → IfSome told (λ t. SeesModules t.files (map source ms)) → IsLineDue (told_line (map source ms) reply.answer) reply.answer reply.line
    → IfSome told (λ t. (shown : Files) → IsSeen t.files shown → IsLineDue (told_line (modules_of shown) reply.answer) reply.answer reply.line)
line_read way ms None reply e h = tt
line_read way ms (Some t) reply e h = λ shown is. subst (λ (ss : List Source). IsLineDue (told_line ss reply.answer) reply.answer reply.line) (e.2 ∙ ap (λ (f : Files). modules_of f) (way t.files e.0 shown e.1 is)) h

pub line_unread : (told : Option Told) (fault : BuildFault) (a : Answer) (line : Option ℕ) → a ≡ fault_answer fault → ((due : Option ℕ) → IsLine due fault line) → IfSome told (λ t. (shown : Files) → IsSeen t.files shown → IsLineDue (told_line (modules_of shown) a) a line)
line_unread None fault a line is h = tt
line_unread (Some t) fault a line is h = λ shown seen. line_of_fault (modules_of shown) fault a line is (h (refused_line (modules_of shown)))

proper_is : (fault : BuildFault) → IsNoWant fault → IsInterpAnswer (fault_answer fault)
proper_is (build.Refused name refusal) h = h
proper_is (build.LinkRefused fault) h = h
proper_is build.StoreFault h = tt
proper_is build.NoMemory h = tt

pub fault_proper : (fault : BuildFault) (a : Answer) → a ≡ fault_answer fault → IsNoWant fault → IsInterpAnswer a
fault_proper fault a is h = subst IsInterpAnswer (sym is) (proper_is fault h)

reads_none : (count : ℕ) (fault : BuildFault) → InputCount count count (fault_answer fault)
reads_none count (build.Refused name refusal) = refl
reads_none count (build.LinkRefused fault) = refl
reads_none count build.StoreFault = refl
reads_none count build.NoMemory = refl

pub fault_reads : (count : ℕ) (fault : BuildFault) (a : Answer) → a ≡ fault_answer fault → InputCount count count a
fault_reads count fault a is = subst (InputCount count count) (sym is) (reads_none count fault)

writes_none : (count : ℕ) (fault : BuildFault) → OutputCount count count (fault_answer fault)
writes_none count (build.Refused name refusal) = refl
writes_none count (build.LinkRefused fault) = refl
writes_none count build.StoreFault = refl
writes_none count build.NoMemory = refl

pub fault_writes : (count : ℕ) (fault : BuildFault) (a : Answer) → a ≡ fault_answer fault → OutputCount count count a
fault_writes count fault a is = subst (OutputCount count count) (sym is) (writes_none count fault)

streams_left : (fault : BuildFault) (input taken : Option (List ℕ)) → LeavesStreams (fault_answer fault) input input taken taken
streams_left (build.Refused name refusal) input taken = (refl, refl)
streams_left (build.LinkRefused fault) input taken = (refl, refl)
streams_left build.StoreFault input taken = (refl, refl)
streams_left build.NoMemory input taken = tt

pub fault_streams : (fault : BuildFault) (a : Answer) (input taken : Option (List ℕ)) → a ≡ fault_answer fault → LeavesStreams a input input taken taken
fault_streams fault a input taken is = subst (λ (x : Answer). LeavesStreams x input input taken taken) (sym is) (streams_left fault input taken)
