-- Lawful flow graphs that make a program and that files can hold have parts, whatever is kept: a database, and an object of each module.
use Rattle.std.proofs.Common.{◌≡◌, ℕ, ◌≤◌, Bool, true, false, List, [], ◌∷◌, refl, sym, subst, inl, inr}
use Rattle.std.specs.Prelude.{Option, Some, None}
use Rattle.std.specs.List.{AllByRecursion}
use Rattle.pw_flow.specs.ValidFlow.{IsValid}
use Rattle.pw_flow.specs.declared.flow.FlowModule.{FlowModule}
use Rattle.pw_flowfile.specs.FlowFile.{IsFlowFile}
use Rattle.pw_opt_rules.specs.Optimised.{IsOptimisedModule}
use Rattle.pw_law_opt.specs.Laws.{AreOptimisedModules, none, also}
use Rattle.pw_summary.specs.declared.summary.Summary.{Summary}
use Rattle.pw_summary.specs.Summary.{IsSummary}
use Rattle.pw_summarise.specs.Summarises.{Summarises}
use Rattle.pw_db.specs.Database.{IsStored}
use Rattle.pw_db_file.specs.Spelling.{IsPayload}
use Rattle.pw_db.specs.Limits.{colour_limit}
use Rattle.pw_graph.specs.Program.{AreLinked}
use Rattle.pw_object.specs.declared.object.Object.{Object}
use Rattle.pw_phase_two.specs.Phases.{AreDirectivesIn, IsObjectOf, IsPayloadOf}
use Rattle.pw_colour.specs.Colours.{IsDatabaseOf}
use Rattle.pw_build_objects.specs.Programs.{AreForms, DirectivesList, KeepRules, AreSummariesOf, Stays, IsObjectFrom, IsModuleFrom, AreObjectsFrom, AreParts, Parts, first_kept, kept_behind}
use Rattle.pw_build_opts.specs.declared.opts.Opts.{Opts}
use Rattle.pw_law_answers.specs.Held.{HasFile, HasNames}
use Rattle.pw_law_complete.specs.Forms.{HaveFiles}
use Rattle.pw_law_answers.proofs.Telling.{Told, told_bytes, told_both, told_same}

-- ---- forms

all_optimised : ((m : FlowModule) → (n : FlowModule) × IsOptimisedModule m n) → (ms : List FlowModule) → (ns : List FlowModule) × AreOptimisedModules ms ns
all_optimised each [] = ([], none)
all_optimised each (m ∷ ms) =
    let n = each m in
    let rest = all_optimised each ms in
    (n.0 ∷ rest.0, also m n.0 ms rest.0 n.1 rest.1)

pub forms_exist : ((m : FlowModule) → (n : FlowModule) × IsOptimisedModule m n) → (optimise : Bool) (flows : List FlowModule) → (forms : List FlowModule) × AreForms optimise flows forms
forms_exist each false flows = (flows, refl)
forms_exist each true flows = all_optimised each flows

-- ---- summaries

pub summaries_exist : ((m : FlowModule) → IsValid m → (s : Summary) × Summarises m s × IsSummary s) → (flows : List FlowModule) → AllByRecursion IsValid flows → (ss : List Summary) × AreSummariesOf flows ss × AllByRecursion IsSummary ss
summaries_exist each [] valid = ([], tt, tt)
summaries_exist each (m ∷ flows) valid =
    let s = each m valid.0 in
    let rest = summaries_exist each flows valid.1 in
    (s.0 ∷ rest.0, (s.1, rest.1), (s.2, rest.2))

names_exist : ((m : FlowModule) (s : Summary) → HasFile m → Summarises m s → HasNames s) → (flows : List FlowModule) (ss : List Summary) → AllByRecursion HasFile flows → AreSummariesOf flows ss → AllByRecursion HasNames ss
names_exist each [] [] files of = tt
names_exist each [] (s ∷ ss) files of = absurd of
names_exist each (m ∷ flows) [] files of = absurd of
names_exist each (m ∷ flows) (s ∷ ss) files of = (each m s files.0 of.0, names_exist each flows ss files.1 of.1)

-- ---- what was kept of a module

-- a flow graph has one file, and what is stored of directives one payload
pub record FilesAreOne : Type 0 where
  pub files : (bytes others : List ℕ) (m : FlowModule) → IsFlowFile bytes m → IsFlowFile others m → bytes ≡ others
  pub payloads : (fs s t : DirectivesList) (bytes others : List ℕ) → IsStored fs s → IsStored fs t → IsPayload bytes s → IsPayload others t → bytes ≡ others

module _ (one : FilesAreOne) where
  -- what was kept stays exactly where it has the file and the payload of what is made anew
  told_stays : (flow : FlowModule) (ds : DirectivesList) (old : Option Object) (o : Object) → IsObjectOf flow ds o → Told (Stays flow ds old)
  told_stays flow ds None o is = inr (λ h. h)
  told_stays flow ds (Some k) o is =
      told_same
      (λ same. record { flow_file = subst (λ (bytes : List ℕ). IsFlowFile bytes flow) (sym same.0) is.flow_file; payload = subst (λ (bytes : List ℕ). IsPayloadOf bytes ds) (sym same.1) is.payload })
      (λ made. (one.files k.flow o.flow flow made.flow_file is.flow_file, one.payloads ds made.payload.0 is.payload.0 k.directives o.directives made.payload.1 is.payload.1 made.payload.2 is.payload.2))
      (told_both (told_bytes k.flow o.flow) (told_bytes k.directives o.directives))

  kept_or_anew : (flow : FlowModule) (ds : DirectivesList) (old : Option Object) (o : Object) → IsObjectOf flow ds o → Told (Stays flow ds old) → (k : Object) × (fresh : Bool) × IsObjectFrom flow ds old k fresh
  kept_or_anew flow ds None o is (inl stays) = absurd stays
  kept_or_anew flow ds (Some k) o is (inl stays) = (k, false, (refl, stays))
  kept_or_anew flow ds old o is (inr lacks) = (o, true, (lacks, is))

  object_from : (flow : FlowModule) (ds : DirectivesList) (old : Option Object) → ((o : Object) × IsObjectOf flow ds o) → (k : Object) × (fresh : Bool) × IsObjectFrom flow ds old k fresh
  object_from flow ds old o = kept_or_anew flow ds old o.0 o.1 (told_stays flow ds old o.0 o.1)

-- ---- the objects of all modules

-- each lawful flow graph that a file can hold has an object under the database
abbrev HaveObjects : DirectivesList → Type 0
HaveObjects db = (flow : FlowModule) → IsValid flow → HasFile flow → (ds : DirectivesList) × (o : Object) × AreDirectivesIn db flow ds × IsObjectOf flow ds o

module _ (one : FilesAreOne) (db : DirectivesList) (have : HaveObjects db) where
  module_exists : (flow : FlowModule) (old : Option Object) → IsValid flow → HasFile flow → (o : Object) × (fresh : Bool) × IsModuleFrom db flow old o fresh
  module_exists flow old valid file =
      let anew = have flow valid file in
      let o = object_from one flow anew.0 old (anew.1, anew.3) in
      (o.0, o.1, record { directives = anew.0; in_database = anew.2; object = o.2 })

  objects_exist : (flows : List FlowModule) (kept : List (Option Object)) → AllByRecursion IsValid flows → AllByRecursion HasFile flows → (os : List Object) × (fresh : List Bool) × AreObjectsFrom db flows kept os fresh
  objects_exist [] kept valid files = ([], [], tt)
  objects_exist (flow ∷ flows) kept valid files =
      let o = module_exists flow (first_kept kept) valid.0 files.0 in
      let rest = objects_exist flows (kept_behind kept) valid.1 files.1 in
      (o.0 ∷ rest.0, o.1 ∷ rest.1, (o.2, rest.2))

-- ---- the parts

-- the laws on which it stands
pub record Laws : Type 0 where
  pub forms : (optimise : Bool) (flows : List FlowModule) → (forms : List FlowModule) × AreForms optimise flows forms
  pub summaries : (flows : List FlowModule) → AllByRecursion IsValid flows → (ss : List Summary) × AreSummariesOf flows ss × AllByRecursion IsSummary ss
  pub lawful : (optimise : Bool) (flows forms : List FlowModule) → AreForms optimise flows forms → AllByRecursion IsValid flows → AllByRecursion IsValid forms
  pub rules : (optimise : Bool) (flows forms : List FlowModule) (ss : List Summary) → AreForms optimise flows forms → AllByRecursion IsValid flows → KeepRules flows → AreSummariesOf forms ss → AreLinked ss
  pub names : (m : FlowModule) (s : Summary) → HasFile m → Summarises m s → HasNames s
  pub database : (ss : List Summary) (colours : ℕ) → AllByRecursion IsSummary ss → AllByRecursion HasNames ss → AreLinked ss → (db : DirectivesList) × IsDatabaseOf ss colours db
  pub objects : (ss : List Summary) (colours : ℕ) (db : DirectivesList) → colours ≤ colour_limit → AllByRecursion IsSummary ss → AllByRecursion HasNames ss → AreLinked ss → IsDatabaseOf ss colours db → HaveObjects db
  pub one : FilesAreOne

pub parts_exist : Laws → (flows : List FlowModule) (ss : List Summary) (kept : List (Option Object)) (opts : Opts) → opts.colours ≤ colour_limit → AllByRecursion IsValid flows → HaveFiles flows opts → AreSummariesOf flows ss → AllByRecursion IsSummary ss → AreLinked ss
    → (parts : Parts) × AreParts flows kept opts parts
parts_exist laws flows ss kept opts few valid files of lawful linked =
    let found = laws.forms opts.optimise flows in
    let forms = found.0 in
    let each = files forms found.1 in
    let rules : KeepRules flows = record { summaries = ss; of_flows = of; linked = linked } in
    let fine = laws.lawful opts.optimise flows forms found.1 valid in
    let own = laws.summaries forms fine in
    let together = laws.rules opts.optimise flows forms own.0 found.1 valid rules own.1 in
    let names = names_exist laws.names forms own.0 each own.1 in
    let db = laws.database own.0 opts.colours own.2 names together in
    let os = objects_exist laws.one db.0 (laws.objects own.0 opts.colours db.0 few own.2 names together db.1) forms kept fine each in (
      record { database = db.0; objects = os.0; fresh = os.1 },
      record {
        lawful = valid;
        rules = rules;
        forms = forms;
        of_flows = found.1;
        database = record { summaries = own.0; of_flows = own.1; linked = together; database = db.1 };
        objects = os.2;
      },
    )
