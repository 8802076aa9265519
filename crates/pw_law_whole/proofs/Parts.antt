-- The parts of a full build, as those of an analysed program.
use Rattle.std.proofs.Common.{◌≡◌, ◌↔◌, ◌≤◌, ℕ, Bool, List, [], ◌∷◌, map, refl, sym, subst, arith}
use Rattle.std.specs.Prelude.{All, Ok}
use Rattle.std.specs.List.{AllByRecursion}
use Rattle.std.specs.FinMap as finite
use Rattle.std.proofs.lemmas.List.Elements.{All-from_recursion}
use Rattle.pw_value.specs.Limits.{stack_limit}
use Rattle.pw_files.specs.Rising.{IsRising}
use Rattle.pw_files.proofs.Standing.{Has, has_by, has_map, has_each}
use Rattle.pw_files.proofs.ByteOrder.{strictly_rising}
use Rattle.pw_io.proofs.FileMaps.{keys-order}
use Rattle.pw_flow.specs.declared.flow.FlowModule.{FlowModule}
use Rattle.pw_flow.specs.ValidFlow.{IsValid}
use Rattle.pw_db.specs.Limits.{register_count}
use Rattle.pw_build_opts.specs.Options.{AreOpts}
use Rattle.pw_db.specs.Database.{IsDatabase, HasDirectives}
use Rattle.pw_summary.specs.declared.summary.Summary.{Summary}
use Rattle.pw_summary.specs.Summary.{IsSummary}
use Rattle.pw_summarise.proofs.LawfulLaws.{lawful}
use Rattle.pw_colour.specs.Colours.{IsDatabaseOf}
use Rattle.pw_store_modules.specs.Modules.{Texts}
use Rattle.pw_build_opts.specs.declared.opts.Opts.{Opts}
use Rattle.pw_build_objects.specs.Programs.{DirectivesList, AreForms, AreSummariesOf, Completes, KeepRules, Parts}
use Rattle.pw_law_temps.specs.Laws.{TemporariesServePrograms}
use Rattle.pw_run_languages.specs.LinkingLaws.{frame_in}
use Rattle.pw_cmean.specs.Worlds.{Program, ProgramModule}
use Rattle.pw_law_source.specs.Lowering.{flow_program, AreChecked}
use Rattle.pw_law_source.specs.Accepting.{HasNoColon, AreNamedPlainly, CheckedIsAccepted, IsWhole}
use Rattle.pw_law_layers.specs.Whole.{image_of, IsLaidOut, LoweredHaveRooms, LoweredImplements}
use Rattle.pw_law_analysis.specs.SummaryGraphs.{AllSummarise}
use Rattle.pw_law_analysis.specs.SummaryLaws.{AcceptedHaveShapes, SummariesSayTheSame}
use Rattle.pw_law_whole.specs.Programs.{flow_of, IsProgramOf, HavePlainNames, IsWholeWith, flows_in, functions_under}
use Rattle.pw_link_interface.specs.Interface.{interface}
use Rattle.pw_link_rules.specs.declared.interface.Interface.{Interface}
use Rattle.pw_link_rules.specs.Linking.{Links}
use Rattle.pw_graph.specs.Program.{AreLinked}
use Rattle.pw_law_shown.specs.Alike.{DeclaresMain, shown}
use Rattle.pw_law_opt_links.specs.Less.{AllShowLess}
use Rattle.pw_law_whole.proofs.Shown.{object_shown, objects_show, objects_less}
use Rattle.pw_law_whole.proofs.Forms as formed
use Rattle.pw_law_whole.proofs.Texts.{names_same, all_checked}
use Rattle.pw_law_whole.proofs.Objects.{modules_named, same_globals, code_of_all}

-- ---- summaries

all_summarise : (flows : List FlowModule) (ss : List Summary) → AreSummariesOf flows ss → AllSummarise flows ss
all_summarise [] [] are = tt
all_summarise [] (s ∷ ss) are = absurd are
all_summarise (flow ∷ flows) [] are = absurd are
all_summarise (flow ∷ flows) (s ∷ ss) are = (are.0, all_summarise flows ss are.1)

all_lawful : (flows : List FlowModule) (ss : List Summary) → AllByRecursion IsValid flows → AreSummariesOf flows ss → AllByRecursion IsSummary ss
all_lawful [] [] valid are = tt
all_lawful [] (s ∷ ss) valid are = absurd are
all_lawful (flow ∷ flows) [] valid are = absurd are
all_lawful (flow ∷ flows) (s ∷ ss) valid are = (lawful flow s valid.0 are.0, all_lawful flows ss valid.1 are.1)

-- ---- names

rise : (texts : Texts) (p : Program) → IsProgramOf texts p → IsRising (map (λ m. m.name) p.modules)
rise texts p are =
    subst (λ (names : List (List ℕ)). IsRising names) (sym (names_same (finite.entries texts) p.modules are)) (strictly_rising (finite.keys texts) (keys-order texts))

plain_names : (texts : Texts) (p : Program) → HavePlainNames texts → IsProgramOf texts p → AreNamedPlainly p
plain_names texts p plain are m there =
    has_each HasNoColon (finite.keys texts) m.name plain
    (subst (λ (names : List (List ℕ)). Has m.name names) (names_same (finite.entries texts) p.modules are)
    (has_map (λ (n : ProgramModule). n.name) m p.modules (has_by m p.modules there)))

-- ---- together

-- the laws on which it stands
pub record Laws : Type 0 where
  pub rooms : LoweredHaveRooms
  pub implement : LoweredImplements
  pub accepted_shapes : AcceptedHaveShapes
  pub same : SummariesSayTheSame
  pub serve : TemporariesServePrograms
  pub databases : (ss : List Summary) (colours : ℕ) (d : DirectivesList) → colours ≤ register_count → All IsSummary ss → IsDatabaseOf ss colours d → IsDatabase d
  pub one : (db : DirectivesList) → IsDatabase db → (gs hs : DirectivesList) → All (HasDirectives db) gs → All (HasDirectives db) hs → map (λ f. f.0) gs ≡ map (λ f. f.0) hs → gs ≡ hs
  pub accepted : CheckedIsAccepted
  pub alike : (flows : List FlowModule) (ss : List Summary) → AllByRecursion IsValid flows → AreSummariesOf flows ss → Links (map shown flows) ↔ AreLinked ss
  pub less : (is js : List Interface) → AllShowLess is js → Links is → Links js
  pub lawful_forms : (o : Bool) (flows forms : List FlowModule) → AreForms o flows forms → AllByRecursion IsValid flows → AllByRecursion IsValid forms
  pub forms : formed.Laws

-- modules that keep the rules of linking are accepted in the words of C's meaning
is_whole : Laws → (texts : Texts) (p : Program) (frame_of : List ℕ → ℕ) (stack : ℕ) → AllByRecursion IsValid (map flow_of p.modules) → AllByRecursion DeclaresMain (map flow_of p.modules) → KeepRules (map flow_of p.modules)
    → IsProgramOf texts p → HavePlainNames texts → stack ≤ stack_limit → AreChecked p → IsWhole p frame_of stack
is_whole laws texts p frame_of stack valid declares rules of_texts plain room checked =
    let flows = map flow_of p.modules in
    laws.accepted p frame_of stack (map object_shown flows) checked (plain_names texts p plain of_texts) (rise texts p of_texts) room (objects_show flows declares)
    (laws.less (map shown flows) (map interface (map object_shown flows)) (objects_less flows declares) ((laws.alike flows rules.summaries valid rules.of_flows).1 rules.linked))

pub whole_with : Laws → (texts : Texts) (opts : Opts) (parts : Parts) (p : Program) → AllByRecursion DeclaresMain (map flow_of p.modules) → Completes (map flow_of p.modules) [] opts (Ok parts) → IsProgramOf texts p →
    HavePlainNames texts → AreOpts opts → IsWholeWith p parts opts
whole_with laws texts opts parts p declares (are, linked) of_texts plain limits =
    let frame_of = frame_in (image_of parts.objects opts.stack) in
    let q = flow_program p frame_of opts.stack in
    let db = parts.database in
    let ms = are.forms in
    let has = are.database in
    let lawful_summaries = all_lawful ms has.summaries (laws.lawful_forms opts.optimise (map flow_of p.modules) ms are.of_flows are.lawful) has.of_flows in
    let lawful_db : IsDatabase db = laws.databases has.summaries opts.colours db (omega (arith, limits.colours)) (All-from_recursion IsSummary has.summaries lawful_summaries) has.database in
    let single = laws.one db lawful_db in
    let checked : AreChecked p = λ m there. all_checked (finite.entries texts) p.modules of_texts m (has_by m p.modules there) in
    let whole : IsWhole p frame_of opts.stack = is_whole laws texts p frame_of opts.stack are.lawful declares are.rules of_texts plain limits.most checked in
    let program = formed.program_of_forms laws.forms opts.optimise p q ms are.of_flows whole.accepted.program in
    let summarised : AllSummarise ms has.summaries = all_summarise ms has.summaries has.of_flows in
    let laid : IsLaidOut p (flows_in ms parts opts.stack) db (functions_under ms parts opts.stack) parts.objects = record {
      program = program;
      rooms = formed.rooms_of_forms laws.forms opts.optimise p q ms are.of_flows (laws.rooms p frame_of opts.stack whole.parts whole.accepted);
      frames = refl;
      database = lawful_db;
      serve = laws.serve (flows_in ms parts opts.stack) db lawful_db;
      made = record {
        modules = modules_named db single ms parts.objects parts.fresh are.objects;
        globals = same_globals db single ms parts.objects parts.fresh are.objects;
        code = code_of_all db single ms parts.objects parts.fresh are.objects;
      };
    } in
    record {
      checked = checked;
      whole = whole;
      forms = ms;
      of_program = are.of_flows;
      laid_out = laid;
      summaries = has.summaries;
      summarise = has.of_flows;
      analysed = λ low. record {
        implements = formed.runs_of_forms laws.forms opts.optimise p q ms are.of_flows (laws.implement low p frame_of opts.stack checked whole.parts whole.accepted);
        frames = laid.frames;
        names = formed.names_of_forms laws.forms opts.optimise p q ms are.of_flows whole.names;
        enough = limits.least;
        linked = record { each = lawful_summaries; linked = has.linked };
        few = limits.colours;
        database = has.database;
        alike = laws.same (flows_in ms parts opts.stack) has.summaries has.database.graph program
            (formed.shapes_of_forms laws.forms opts.optimise p q ms are.of_flows (laws.accepted_shapes p frame_of opts.stack whole.accepted)) summarised has.database.graph_of;
        serve = laid.serve;
        made = laid.made;
        fits = linked.fits;
      };
    }
