-- Where the kept objects are genuine, `build`, `go` and `where` refuse nothing exactly where the modules can be built.
use Rattle.std.proofs.Common.{◌≡◌, ◌≤◌, ℕ, Bool, true, false, ◌⊎◌, ⊎_elim, List, Option, Some, None, Result, Ok, Err, refl, sym, subst}
use Rattle.std.specs.Prelude.{◌↔◌, IfSome, IsOk}
use Rattle.pw_io.specs.Files.{Files, Told}
use Rattle.pw_store_modules.specs.Modules.{modules_of}
use Rattle.pw_front_end.specs.declared.refusal.Refusal.{Refusal}
use Rattle.pw_store_texts.specs.Bytes.{is_crowded}
use Rattle.pw_store_texts.specs.Headers.{headers_of}
use Rattle.pw_store_texts.specs.Outputs.{Output}
use Rattle.pw_store_texts.specs.Seen.{IsSeen}
use Rattle.pw_commands_cpp.specs.Telling.{TellsBy, TellsOrFails, TellsRefusal, TellsWhere, source_at, told_of}
use Rattle.pw_top_answer.specs.declared.answer.Answer.{Answer}
use Rattle.pw_top_answer.specs.declared.answer.Answer.TheVariants.{Refused, RefusedSource, Cpp, LinkRefused, ReadFault, WriteFault, StoreFault, NoMemory, BadFile, BadScript}
use Rattle.pw_top_answer.specs.Outcomes.{IsNoRefusal, RefusesAs}
use Rattle.pw_db.specs.Limits.{colour_limit}
use Rattle.pw_law_session.specs.FromSession.FromBuild.BuildFault.{BuildFault}
use Rattle.pw_law_session.specs.FromSession.FromBuild.BuildFault.TheVariants as build
use Rattle.pw_law_session.specs.FromSession.FromBuildFiles.Building.{BuildOutcome, Outcome}
use Rattle.pw_law_session.specs.FromSession.FromBuildFiles.Seen.{SeenOutcome}
use Rattle.pw_law_session.specs.FromSession.FromBuildFiles.Genuine.{KeepsGenuine}
use Rattle.pw_law_session.specs.FromSession.FromBuildFiles.Outcomes.{AnswersOutcome, fault_answer}
use Rattle.pw_go.specs.Going.{HasBuilt, IfMade}
use Rattle.pw_build_opts.specs.declared.opts.Opts.{Opts}
use Rattle.pw_law_session.specs.FromBuildLaws.Complete.{CanBeBuilt}
use Rattle.pw_top_words.specs.declared.commands.Command.{Command}
use Rattle.pw_top_words.specs.declared.commands.Command.TheVariants.{Go, Build as BuildAll, Where}
use Rattle.pw_top.specs.Commands.{IsComplete}
use Rattle.pw_top.specs.Telling.{BuildsAs}
use Rattle.pw_top.proofs.WholeLemmas.{AreWithin}

-- the laws on which it stands
pub record Laws : Type 0 where
  pub exact : (files : Files) (opts : Opts) (comes : Result Outcome BuildFault) → opts.colours ≤ colour_limit → KeepsGenuine files → BuildOutcome files opts comes → IsOk comes ↔ CanBeBuilt (modules_of files) opts
  pub genuine : (files shown : Files) → IsSeen files shown → KeepsGenuine files → KeepsGenuine shown
  pub way : (files shown other : Files) → IsSeen files shown → IsSeen files other → shown ≡ other

-- ---- what is said of each answer but a fault of the store and want of memory

made : (answer : Answer) (P : Type 0) → P → IfMade answer P
made StoreFault P p = tt
made NoMemory P p = tt
made answer P p = p

made_by : (answer : Answer) (P Q : Type 0) → (P → Q) → IfMade answer P → IfMade answer Q
made_by StoreFault P Q f p = tt
made_by NoMemory P Q f p = tt
made_by answer P Q f p = f p

made_then : (answer : Answer) (P Q : Type 0) → (P → IfMade answer Q) → IfMade answer P → IfMade answer Q
made_then StoreFault P Q f p = tt
made_then NoMemory P Q f p = tt
made_then answer P Q f p = f p

-- ---- a refusal is told by an answer that refuses

refuses_one : (fault : BuildFault) (answer : Answer) → fault_answer fault ≡ answer → IsNoRefusal answer → IfMade answer ⊥
refuses_one (build.Refused name refusal) answer e clear = absurd (subst IsNoRefusal (sym e) clear)
refuses_one (build.LinkRefused fault) answer e clear = absurd (subst IsNoRefusal (sym e) clear)
refuses_one build.StoreFault answer e clear = subst (λ (a : Answer). IfMade a ⊥) e tt
refuses_one build.NoMemory answer e clear = subst (λ (a : Answer). IfMade a ⊥) e tt

refuses : (fault : BuildFault) (answer : Answer) → RefusesAs (fault_answer fault) answer → IfMade answer (IsNoRefusal answer → ⊥)
refuses fault ReadFault h = λ clear. h
refuses fault WriteFault h = λ clear. h
refuses fault StoreFault h = tt
refuses fault NoMemory h = tt
refuses fault (Refused name refusal) h = λ clear. clear
refuses fault (RefusedSource name refusal) h = λ clear. clear
refuses fault (Cpp other) h = λ clear. clear
refuses fault (LinkRefused other) h = λ clear. clear
refuses fault (BadFile name at) h = λ clear. clear
refuses fault (BadScript at) h = λ clear. clear
refuses fault answer h = refuses_one fault answer h

not_ok : (fault : BuildFault) → IsOk {T = Outcome} {E = BuildFault} (Err fault) → ⊥
not_ok fault e = cc

exactly : (comes : Result Outcome BuildFault) (answer : Answer) (P : Type 0) → AnswersOutcome comes answer → (IsOk comes ↔ P) → IfMade answer (IsNoRefusal answer ↔ P)
exactly (Ok outcome) answer P h same = made answer (IsNoRefusal answer ↔ P) (λ clear. same.0 refl, λ p. h)
exactly (Err fault) answer P h same = made_by answer (IsNoRefusal answer → ⊥) (IsNoRefusal answer ↔ P) (λ lacks. (λ clear. absurd (lacks clear), λ p. absurd (not_ok fault (same.1 p)))) (refuses fault answer h)

-- ---- the commands

-- nothing is refused exactly where the modules, as a build sees them, can be built
abbrev RefusesExactly : Files → Opts → Answer → Type 0
RefusesExactly files opts answer = IfMade answer ((shown : Files) → IsSeen files shown → IsNoRefusal answer ↔ CanBeBuilt (modules_of shown) opts)

seen_exactly : Laws → (opts : Opts) → opts.colours ≤ colour_limit → (files : Files) → KeepsGenuine files → (answer : Answer) (comes : Result Outcome BuildFault) → SeenOutcome files opts comes → AnswersOutcome comes answer → RefusesExactly files opts answer
seen_exactly laws opts few files keeps answer comes (shown, is, b) h =
    made_by answer (IsNoRefusal answer ↔ CanBeBuilt (modules_of shown) opts) ((other : Files) → IsSeen files other → IsNoRefusal answer ↔ CanBeBuilt (modules_of other) opts)
    (λ same. λ other are. subst (λ (f : Files). IsNoRefusal answer ↔ CanBeBuilt (modules_of f) opts) (laws.way files shown other is are) same)
    (exactly comes answer (CanBeBuilt (modules_of shown) opts) h (laws.exact shown opts comes few (laws.genuine files shown is keeps) b))

built_exactly : Laws → (opts : Opts) → opts.colours ≤ colour_limit → (answer : Answer) (told : Told) (new : Option Told) → KeepsGenuine told.files → HasBuilt opts answer told new → RefusesExactly told.files opts answer
built_exactly laws opts few answer told new keeps h =
    made_then answer ((comes : Result Outcome BuildFault) × SeenOutcome told.files opts comes) ((shown : Files) → IsSeen told.files shown → IsNoRefusal answer ↔ CanBeBuilt (modules_of shown) opts)
    (λ c. seen_exactly laws opts few told.files keeps answer c.0 c.1 (h.answers c.0 c.1)) h.found

-- ---- what is told of a refusal refuses too

told_source : (opts : Opts) (files : Files) (name : List ℕ) (refusal : Refusal) (output : Output) → RefusesExactly files opts (Refused name refusal) → RefusesExactly files opts (told_of name refusal output)
told_source opts files name refusal (Ok text) p = p
told_source opts files name refusal (Err fault) p = p

told_by_source : (opts : Opts) (files : Files) (name : List ℕ) (refusal : Refusal) (source : Option (List ℕ)) (result : Answer) → TellsBy (headers_of files) name refusal source result → RefusesExactly files opts (Refused name refusal) → RefusesExactly files opts result
told_by_source opts files name refusal None result h p = subst (λ (a : Answer). RefusesExactly files opts a) (sym h) p
told_by_source opts files name refusal (Some text) result h p = subst (λ (a : Answer). RefusesExactly files opts a) (sym h.2) (told_source opts files name refusal h.0 p)

told_where : (opts : Opts) (files : Files) (name : List ℕ) (refusal : Refusal) (crowded : Bool) (result : Answer) → TellsWhere crowded files name refusal result → RefusesExactly files opts (Refused name refusal) → RefusesExactly files opts result
told_where opts files name refusal true result h p = subst (λ (a : Answer). RefusesExactly files opts a) (sym h) p
told_where opts files name refusal false result h p = told_by_source opts files name refusal (source_at files name) result h p

told_refusal : (opts : Opts) (files : Files) (name : List ℕ) (refusal : Refusal) (result : Answer) → TellsRefusal files name refusal result → RefusesExactly files opts (Refused name refusal) → RefusesExactly files opts result
told_refusal opts files name refusal StoreFault h p = tt
told_refusal opts files name refusal NoMemory h p = tt
told_refusal opts files name refusal result h p = told_where opts files name refusal (is_crowded files) result h p

told_exactly : (opts : Opts) (files : Files) (answer result : Answer) → TellsOrFails files answer result → RefusesExactly files opts answer → RefusesExactly files opts result
told_exactly opts files (Refused name refusal) result h p = told_refusal opts files name refusal result h p
told_exactly opts files answer result h p = subst (λ (a : Answer). RefusesExactly files opts a) (sym h) p

memory_exactly : (opts : Opts) (files : Files) (result : Answer) → result ≡ NoMemory → RefusesExactly files opts result
memory_exactly opts files result e = subst (λ (a : Answer). RefusesExactly files opts a) (sym e) tt

answered_exactly : (opts : Opts) (files : Files) (answer result : Answer) → TellsOrFails files answer result ⊎ (result ≡ NoMemory) → RefusesExactly files opts answer → RefusesExactly files opts result
answered_exactly opts files answer result h p = ⊎_elim {C = RefusesExactly files opts result} (λ t. told_exactly opts files answer result t p) (λ e. memory_exactly opts files result e) h

complete_of : Laws → (command : Option Command) (result : Answer) (told : Told) (new : Option Told) → AreWithin command → BuildsAs command result told new → IsComplete command told.files result
complete_of laws (Some (BuildAll opts)) result told new within b = λ keeps. answered_exactly opts told.files b.answer result b.answered (built_exactly laws opts within.colours b.answer told new keeps b.built)
complete_of laws (Some (Go opts)) result told new within b = λ keeps. answered_exactly opts.build told.files b.answer result b.answered (built_exactly laws opts.build within.colours b.answer told new keeps b.built)
complete_of laws (Some (Where k opts)) result told new within b = λ keeps. answered_exactly opts.build told.files b.answer result b.answered (built_exactly laws opts.build within.1.colours b.answer told new keeps b.built)
complete_of laws command result told new within b = tt

pub is_complete : Laws → (command : Option Command) (first new : Option Told) (result : Answer) → AreWithin command → IfSome first (λ t. BuildsAs command result t new) → IfSome first (λ t. IsComplete command t.files result)
is_complete laws command None new result within built = tt
is_complete laws command (Some t) new result within built = complete_of laws command result t new within built
