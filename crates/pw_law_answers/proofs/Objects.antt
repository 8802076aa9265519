-- Summaries that make a program have a database, and each lawful flow graph that a file can hold has an object under it.
use Rattle.std.proofs.Common.{◌≡◌, ◌⊎◌, ℕ, ◌^◌, ◌<◌, ◌≤◌, List, [], ◌∷◌, ◌++◌, length, map, All, refl, ap, subst, arith, inl, inr}
use Rattle.std.specs.List.{AllByRecursion}
use Rattle.std.proofs.lemmas.List.Elements.{All-from_recursion}
use Rattle.pw_value.specs.Names.{IsNameLength}
use Rattle.pw_files.proofs.Standing.{Has, contains_by, has_by, has_map_back, stands_or_not}
use Rattle.pw_flow.specs.FlowGraph.{function_names, named_in}
use Rattle.pw_flow.specs.ValidFlow.{IsValid}
use Rattle.pw_flow.specs.declared.flow.FlowModule.{FlowModule}
use Rattle.pw_summary.specs.declared.summary.Summary.{Summary}
use Rattle.pw_summary.specs.Summary.{IsSummary}
use Rattle.pw_summarise.proofs.LawfulLaws.{lawful}
use Rattle.pw_db.specs.Database.{IsDatabase, HasDirectives, empty}
use Rattle.pw_db.specs.Limits.{colour_limit, register_count}
use Rattle.pw_db.specs.declared.database.Directives.{Directives}
use Rattle.pw_db.proofs.ChoosingLaws.{has_found, has_none}
use Rattle.pw_db.proofs.StoringLaws.{module_stored}
use Rattle.pw_graph.specs.declared.graph.CallGraph.{CallGraph}
use Rattle.pw_graph.specs.CallGraph.{IsGraph}
use Rattle.pw_graph.specs.Program.{AreLinked}
use Rattle.pw_object.specs.Object.{object_version}
use Rattle.pw_object.specs.declared.object.Object.{Object}
use Rattle.pw_phase_two.specs.Phases.{AreDirectivesIn, IsObjectOf, IsPayloadOf, all_compiled}
use Rattle.pw_phase_two.proofs.Distinct.{functions_differ}
use Rattle.pw_colour.specs.Colours.{IsDatabaseOf}
use Rattle.pw_law_answers.specs.Held.{HasFile, HasNames}
use Rattle.pw_law_answers.proofs.Ordering.{ordered, ordered_names}
use Rattle.pw_law_answers.proofs.Summaries.{one_item}
use Rattle.pw_law_answers.proofs.Graphs.{graph_exists, graph_named}
use Rattle.pw_law_answers.proofs.Colouring.{RootsAreThere, database_of_graph}
use Rattle.pw_law_answers.proofs.Payloads.{IsSmall, payload_exists}

-- functions by name, each with its directives
abbrev DirectivesList : Type 0
DirectivesList = List (List ℕ × Directives)

-- ---- the database, with its call graph

record Analysed (ss : List Summary) (colours : ℕ) : Type 0 where
  db : DirectivesList
  is : IsDatabaseOf ss colours db
  graph : CallGraph
  is_graph : IsGraph graph
  named : (n : List ℕ) → Has n (graph.functions ++ map (λ v. v.0) graph.globals) → IsNameLength (length n)
  small : (f : List ℕ × Directives) → Has f db → IsSmall graph f

analysed : RootsAreThere → (ss : List Summary) (colours : ℕ) → AllByRecursion IsSummary ss → AllByRecursion HasNames ss → AreLinked ss → Analysed ss colours
analysed roots ss colours lawful names linked =
    let laws = All-from_recursion IsSummary ss lawful in
    let g = graph_exists ss laws linked names in
    let d = database_of_graph roots ss colours g.0 g.1 g.2 in
    record { db = d.0; is = d.1; graph = g.0; is_graph = g.2; named = graph_named ss laws linked names g.0 g.1; small = d.2 }

pub database_exists : RootsAreThere → (ss : List Summary) (colours : ℕ) → AllByRecursion IsSummary ss → AllByRecursion HasNames ss → AreLinked ss → (db : DirectivesList) × IsDatabaseOf ss colours db
database_exists roots ss colours lawful names linked = let a = analysed roots ss colours lawful names linked in (a.db, a.is)

-- ---- the directives of a module

module _ (db : DirectivesList) where
  directives_of_one : (name : List ℕ) → (d : Directives) × HasDirectives db (name, d)
  directives_of_one name = by (stands_or_not name (map (λ f. f.0) db))
    where
      by : Has name (map (λ f. f.0) db) ⊎ (Has name (map (λ f. f.0) db) → ⊥) → (d : Directives) × HasDirectives db (name, d)
      by (inl h) =
          let p = has_map_back (λ (f : List ℕ × Directives). f.0) name db h in
          (p.0.1, has_found db name p.0.1 (contains_by (name, p.0.1) db (subst (λ (n : List ℕ). Has (n, p.0.1) db) p.2 p.1)))
      by (inr lacks) = (empty, has_none db name empty (λ c. lacks (has_by name (map (λ f. f.0) db) c)) refl)

  all_directives : (names : List (List ℕ)) → (ds : DirectivesList) × (map (λ d. d.0) ds ≡ names) × AllByRecursion (HasDirectives db) ds
  all_directives [] = ([], refl, tt)
  all_directives (name ∷ names) =
      let d = directives_of_one name in
      let rest = all_directives names in
      ((name, d.0) ∷ rest.0, ap (λ (ns : List (List ℕ)). name ∷ ns) rest.1, (d.1, rest.2))

  pub directives_exist : (flow : FlowModule) → IsValid flow → IsDatabase db → (ds : DirectivesList) × AreDirectivesIn db flow ds
  directives_exist flow valid is =
      let d = all_directives (function_names flow) in
      let each = All-from_recursion (HasDirectives db) d.0 d.2 in (
        d.0,
        record {
          of_module = record { functions = d.1; storable = module_stored db (function_names flow) d.0 is d.1 each (functions_differ flow valid) };
          each = each;
        },
      )

-- ---- the object of a module

object_exists : (flow : FlowModule) (ds : DirectivesList) → IsValid flow → HasFile flow → ((bytes : List ℕ) × IsPayloadOf bytes ds) → (o : Object) × IsObjectOf flow ds o
object_exists flow ds valid file payload =
    let declared = ordered (λ (d : List ℕ × List ℕ). d.0) flow.declared (one_item (λ (d : List ℕ × List ℕ). d.0) flow.declared valid.names.distinct.declared) in
    let used = ordered_names (named_in flow) in (
      record {
        version = object_version;
        «module» = flow.name;
        flow = file.0;
        directives = payload.0;
        declared = declared.0;
        used = used.0;
        globals = flow.globals;
        functions = all_compiled flow.functions ds;
      },
      record {
        version = refl;
        of_module = refl;
        flow_file = file.1;
        payload = payload.1;
        declared = declared.1;
        used = used.1;
        globals = refl;
        functions = refl;
      },
    )

few_functions : (flow : FlowModule) → HasFile flow → length flow.functions < 2 ^ 32
few_functions flow file = file.1.1.fits.fits.functions.0

-- a module has an object under a database, with its directives
abbrev HasObject : DirectivesList → FlowModule → Type 0
HasObject db flow = (ds : DirectivesList) × (o : Object) × AreDirectivesIn db flow ds × IsObjectOf flow ds o

object_under : (ss : List Summary) (colours : ℕ) (a : Analysed ss colours) → IsDatabase a.db → (flow : FlowModule) → IsValid flow → HasFile flow → HasObject a.db flow
object_under ss colours a is flow valid file =
    let d = directives_exist a.db flow valid is in
    let o = object_exists flow d.0 valid file (payload_exists a.graph a.is_graph a.named a.db a.small flow valid (few_functions flow file) d.0 d.1) in
    (d.0, o.0, d.1, o.1)

few_colours : (colours : ℕ) → colours ≤ colour_limit → colours ≤ register_count
few_colours colours few = omega (arith, few)

module _ (roots : RootsAreThere)
    (lawful_databases : (ss : List Summary) (colours : ℕ) (db : DirectivesList) → colours ≤ register_count → All IsSummary ss → IsDatabaseOf ss colours db → IsDatabase db)
    (one_database : (ss : List Summary) (colours : ℕ) (a b : DirectivesList) → IsDatabaseOf ss colours a → IsDatabaseOf ss colours b → a ≡ b) where
  pub object_exists_under : (ss : List Summary) (colours : ℕ) (db : DirectivesList) → colours ≤ colour_limit → AllByRecursion IsSummary ss → AllByRecursion HasNames ss → AreLinked ss → IsDatabaseOf ss colours db
      → (flow : FlowModule) → IsValid flow → HasFile flow → HasObject db flow
  object_exists_under ss colours db few lawful names linked is flow valid file =
      let a = analysed roots ss colours lawful names linked in
      let same : a.db ≡ db = one_database ss colours a.db db a.is is in
      subst (λ (d : DirectivesList). HasObject d flow) same
      (object_under ss colours a (lawful_databases ss colours a.db (few_colours colours few) (All-from_recursion IsSummary ss lawful) a.is) flow valid file)
