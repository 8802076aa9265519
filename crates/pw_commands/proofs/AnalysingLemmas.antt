-- What `analyse` answered and put, by the one database of the summaries.
use Rattle.std.proofs.Common.{◌≡◌, ℕ, ⊎_elim, inl, inr, List, [], ◌∷◌, map, Option, Some, None, Result, Ok, Err, refl, sym, ap, ◌∙◌, subst}
use Rattle.std.specs.Prelude.{IfSome, Vec}
use Rattle.std.specs.declared.alloc.Global.{Global}
use Rattle.pw_io.specs.Files.{Told, Keeps}
use Rattle.pw_value.specs.declared.fault.LinkFault.{LinkFault}
use Rattle.pw_link_rules.specs.declared.interface.Interface.{Interface}
use Rattle.pw_link_rules.specs.Linking.{Links, Refusal}
use Rattle.pw_summary.specs.declared.summary.Summary.{Summary}
use Rattle.pw_db.specs.declared.database.Directives.{Directives}
use Rattle.pw_db_file.specs.Spelling.{IsNewFile}
use Rattle.pw_graph.specs.Program.{AreLinked, AreRefused, interface_of}
use Rattle.pw_colour.specs.Colours.{IsDatabaseOf}
use Rattle.pw_store_modules.specs.FileNames.{database_name}
use Rattle.pw_top_answer.specs.declared.answer.Answer.{Answer}
use Rattle.pw_top_answer.specs.declared.answer.Answer.TheVariants.{LinkRefused, StoreFault, NoMemory}
use Rattle.pw_top_answer.specs.Effects.{Effect, PutsFiles, answers_alone, puts_files}
use Rattle.pw_top_answer.specs.Outcomes.{Answers}
use Rattle.pw_commands.specs.Needed.{StopsAs}
use Rattle.pw_commands.specs.Outcome.{IsPutAnswer, IsStop, Obeys}
use Rattle.pw_commands.specs.Analysing.{AnalyseEffect, AnalyseOver, AnalysedFile, AnalysesInto, AnalysesOver, EffectOfSummaries, IsDatabaseFileOf, RefusesSummaries, summaries_of}
use Rattle.pw_commands.proofs.ObeysLemmas.{obeys_fault, obeys_no_memory, obeys_one, put_answers, puts_none, stop_is_answer}

-- the laws on which it stands: one database, one file, one answer
pub record Laws : Type 0 where
  pub database : (ss : List Summary) (colours : ℕ) (d e : List (List ℕ × Directives)) → IsDatabaseOf ss colours d → IsDatabaseOf ss colours e → d ≡ e
  pub file : (bytes others : List ℕ) (fs : List (List ℕ × Directives)) → IsNewFile bytes fs → IsNewFile others fs → bytes ≡ others
  pub not_both : (modules : List Interface) (fault : LinkFault) → Links modules → ¬ Refusal modules fault
  pub one_fault : (modules : List Interface) (fault other : LinkFault) → Refusal modules fault → Refusal modules other → fault ≡ other

one_file : Laws → (ss : List Summary) (colours : ℕ) (bytes others : List ℕ) → IsDatabaseFileOf ss colours bytes → IsDatabaseFileOf ss colours others → bytes ≡ others
one_file laws ss colours bytes others a b =
    let same : b.0 ≡ a.0 = laws.database ss colours b.0 a.0 b.1 a.1 in
    laws.file bytes others a.0 a.2 (subst (IsNewFile others) same b.2)

analysed_alone : Laws → (ss : List Summary) (colours : ℕ) (input bytes : List ℕ) → AreLinked ss → IsDatabaseFileOf ss colours bytes → (e : Effect) → EffectOfSummaries ss colours input e → e ≡ puts_files ((database_name, bytes) ∷ []) input
analysed_alone laws ss colours input bytes linked file e c =
    ⊎_elim {C = e ≡ puts_files ((database_name, bytes) ∷ []) input}
    (λ r. absurd (laws.not_both (map interface_of ss) r.0 linked r.1))
    (λ l. l.1.2 ∙ ap (λ (b : List ℕ). puts_files ((database_name, b) ∷ []) input) (one_file laws ss colours l.1.0 bytes l.1.1 file))
    c

over_analysed : Laws → (wanted : Result (List Summary) Answer) (colours : ℕ) (bytes : List ℕ) (answer : Answer) (told : Told) (new : Option Told) (input : List ℕ) → AnalysedFile wanted colours bytes → IsPutAnswer answer → PutsFiles ((database_name, bytes) ∷ []) answer told new → Obeys (AnalyseOver wanted colours input) answer told new
over_analysed laws (Ok ss) colours bytes answer told new input file h puts =
    obeys_one (AnalyseOver (Ok ss) colours input) (puts_files ((database_name, bytes) ∷ []) input) answer told new (inr (file.0, (bytes, file.1, refl)))
    (analysed_alone laws ss colours input bytes file.0 file.1) (put_answers answer h) puts
over_analysed laws (Err refusal) colours bytes answer told new input file h puts = absurd file

-- the database was put, as far as the store put it
pub obeys_analysed : Laws → (first now new : Option Told) (colours : ℕ) (bytes : List ℕ) (answer : Answer) → IfSome first (λ t. AnalysedFile (summaries_of t.files) colours bytes) → Keeps first now
    → IfSome now (λ t. PutsFiles ((database_name, bytes) ∷ []) answer t new) → IsPutAnswer answer → IfSome first (λ t. (input : List ℕ) → Obeys (AnalyseEffect t.files colours input) answer t new)
obeys_analysed laws None now new colours bytes answer file same puts h = tt
obeys_analysed laws (Some told) now new colours bytes answer file same puts h =
    let P : Option Told → Type 0 = λ o. IfSome o (λ t. PutsFiles ((database_name, bytes) ∷ []) answer t new) in
    λ input. over_analysed laws (summaries_of told.files) colours bytes answer told new input file h (subst P same puts)

refused_alone : Laws → (ss : List Summary) (colours : ℕ) (input : List ℕ) (fault : LinkFault) → AreRefused ss fault → (e : Effect) → EffectOfSummaries ss colours input e → e ≡ answers_alone (LinkRefused fault) input
refused_alone laws ss colours input fault refusal e c =
    ⊎_elim {C = e ≡ answers_alone (LinkRefused fault) input}
    (λ r. r.2 ∙ ap (λ (f : LinkFault). answers_alone (LinkRefused f) input) (laws.one_fault (map interface_of ss) r.0 fault r.1 refusal))
    (λ l. absurd (laws.not_both (map interface_of ss) fault l.0 refusal))
    c

over_refused : Laws → (wanted : Result (List Summary) Answer) (colours : ℕ) (answer : Answer) (told : Told) (new : Option Told) (input : List ℕ) → IsStop answer → RefusesSummaries wanted answer → new ≡ Some told → Obeys (AnalyseOver wanted colours input) answer told new
over_refused laws (Err refusal) colours answer told new input h is e =
    obeys_one (AnalyseOver (Err refusal) colours input) (answers_alone refusal input) answer told new refl (λ x d. d) (subst (λ (a : Answer). Answers a answer) is (stop_is_answer answer h)) (puts_none answer told new e)
over_refused laws (Ok ss) colours (LinkRefused fault) told new input h is e =
    obeys_one (AnalyseOver (Ok ss) colours input) (answers_alone (LinkRefused fault) input) (LinkRefused fault) told new (inl (fault, is, refl)) (refused_alone laws ss colours input fault is) refl e
over_refused laws (Ok ss) colours _ told new input h is e = absurd is

by_answer : Laws → (wanted : Result (List Summary) Answer) (colours : ℕ) (answer : Answer) (told : Told) (new : Option Told) (input : List ℕ) → IsStop answer → AnalysesOver wanted colours (Err answer) → new ≡ Some told → Obeys (AnalyseOver wanted colours input) answer told new
by_answer laws wanted colours StoreFault told new input h is e = obeys_fault (AnalyseOver wanted colours input) told new e
by_answer laws wanted colours NoMemory told new input h is e = obeys_no_memory (AnalyseOver wanted colours input) told new e
by_answer laws wanted colours _ told new input h is e = over_refused laws wanted colours _ told new input h is e

-- the summaries were refused, or something stood in their place
pub obeys_not_analysed : Laws → (first new : Option Told) (colours : ℕ) (answer : Answer) → IfSome first (λ t. AnalysesOver (summaries_of t.files) colours (Err answer)) → Keeps first new → IsStop answer → IfSome first (λ t. (input : List ℕ) → Obeys (AnalyseEffect t.files colours input) answer t new)
obeys_not_analysed laws None new colours answer is same h = tt
obeys_not_analysed laws (Some told) new colours answer is same h = λ input. by_answer laws (summaries_of told.files) colours answer told new input h is same

-- ---- inside

refused_is : (answer : Answer) (wanted : Result (List Summary) Answer) → wanted ≡ Err answer → RefusesSummaries wanted answer
refused_is answer wanted e = subst (λ (w : Result (List Summary) Answer). RefusesSummaries w answer) (sym e) refl

stops_over : (colours : ℕ) (answer : Answer) (wanted : Result (List Summary) Answer) → StopsAs answer wanted → AnalysesOver wanted colours (Err answer)
stops_over colours StoreFault wanted h = tt
stops_over colours NoMemory wanted h = tt
stops_over colours _ wanted h = refused_is _ wanted h

pub stopped_over : (first : Option Told) (colours : ℕ) (answer : Answer) → IfSome first (λ t. StopsAs answer (summaries_of t.files)) → IfSome first (λ t. AnalysesOver (summaries_of t.files) colours (Err answer))
stopped_over None colours answer h = tt
stopped_over (Some t) colours answer h = stops_over colours answer (summaries_of t.files) h

into_over : (ss : List Summary) (colours : ℕ) (result : Result (Vec ℕ Global) Answer) → AnalysesInto ss colours result → AnalysesOver (Ok ss) colours result
into_over ss colours (Ok bytes) h = h
into_over ss colours (Err NoMemory) h = tt
into_over ss colours (Err (LinkRefused fault)) h = h
into_over ss colours (Err _) h = absurd h

pub analysed_over : (first : Option Told) (colours : ℕ) (ss : List Summary) (result : Result (Vec ℕ Global) Answer) → IfSome first (λ t. summaries_of t.files ≡ Ok ss) → AnalysesInto ss colours result → IfSome first (λ t. AnalysesOver (summaries_of t.files) colours result)
analysed_over None colours ss result e h = tt
analysed_over (Some t) colours ss result e h = subst (λ (w : Result (List Summary) Answer). AnalysesOver w colours result) (sym e) (into_over ss colours result h)
