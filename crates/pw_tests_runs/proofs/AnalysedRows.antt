-- Analysed programs exist: bump and main, with the database that the analyser makes of their summary for eight registers,
-- where these flow graphs implement a program. With more registers than webs may have they are not.
use Rattle.std.specs.Prelude.{ℕ, ◌≡◌, ◌≤◌, ◌↔◌, true, false, List, [], ◌∷◌, Contains}
use Rattle.std.specs.List.{AllByRecursion}
use Rattle.std.proofs.Common.{arith, subst, refl}
use Rattle.pw_db.specs.Limits.{colour_limit}
use Rattle.pw_db_sound.specs.CallGraphs.{Node, Graph, Calls, Reads, Writes, SayTheSame, IsMovable}
use Rattle.pw_cmean.specs.Worlds as source
use Rattle.pw_run_languages.specs.LawfulPrograms.{node_of, graph_of}
use Rattle.pw_law_layers.specs.Whole.{Implements}
use Rattle.pw_law_analysis.specs.SummaryGraphs.{named_graph, node_at}
use Rattle.pw_law_analysis.specs.OwedLaws.{IsAnalysed}
use Rattle.pw_tests_runs.proofs.Programs.{bumping, bump_directives, bump, bump_main, start}
use Rattle.pw_tests_runs.proofs.ProgramRows.{apart}
use Rattle.pw_tests_runs.proofs.BuiltRows.{graphs, places, objects, all_serve, small}
use Rattle.pw_tests_runs.proofs.WrittenLists.{each}
use Rattle.pw_tests_runs.proofs.SummaryRows.{summaries, graph, is_summary, linked}
use Rattle.pw_tests_runs.proofs.WebRows.{database}

-- ---- what one graph says, another says, node by node

abbrev AllCalled : Graph → Node → Type 0
AllCalled h n = AllByRecursion (λ b. Calls h n.name b) n.calls

abbrev AllRead : Graph → Node → Type 0
AllRead h n = AllByRecursion (λ v. Reads h n.name v) n.reads

abbrev AllWritten : Graph → Node → Type 0
AllWritten h n = AllByRecursion (λ v. Writes h n.name v) n.writes

abbrev MayMove : Graph → Node → Type 0
MayMove h n = n.defined ≡ true → n.taken ≡ false → IsMovable h n.name

calls_too : (g h : Graph) → AllByRecursion (AllCalled h) g.nodes → (a b : List ℕ) → Calls g a b → Calls h a b
calls_too g h all a b c =
    subst (λ (f : List ℕ). Calls h f b) c.name (each (λ (b : List ℕ). Calls h c.node.name b) c.node.calls (each (AllCalled h) g.nodes all c.node c.there) b c.call)

reads_too : (g h : Graph) → AllByRecursion (AllRead h) g.nodes → (f v : List ℕ) → Reads g f v → Reads h f v
reads_too g h all f v r =
    subst (λ (f : List ℕ). Reads h f v) r.name (each (λ (v : List ℕ). Reads h r.node.name v) r.node.reads (each (AllRead h) g.nodes all r.node r.there) v r.read)

writes_too : (g h : Graph) → AllByRecursion (AllWritten h) g.nodes → (f v : List ℕ) → Writes g f v → Writes h f v
writes_too g h all f v w =
    subst (λ (f : List ℕ). Writes h f v) w.name (each (λ (v : List ℕ). Writes h w.node.name v) w.node.writes (each (AllWritten h) g.nodes all w.node w.there) v w.written)

moves_too : (g h : Graph) → AllByRecursion (MayMove h) g.nodes → (f : List ℕ) → IsMovable g f → IsMovable h f
moves_too g h all f m = subst (IsMovable h) m.name (each (MayMove h) g.nodes all m.node m.there m.defined m.taken)

-- ---- the two graphs

abbrev of_summary : Graph
of_summary = named_graph summaries graph

abbrev of_flow : Graph
of_flow = graph_of bumping

calls_down : AllByRecursion (AllCalled of_flow) of_summary.nodes
unfolding named_graph graph_of
calls_down = (
  (
    record { node = node_of bumping start; there = (2, omega arith, refl); name = refl; call = (1, omega arith, refl) },
    (record { node = node_of bumping start; there = (2, omega arith, refl); name = refl; call = (0, omega arith, refl) }, tt),
  ),
  (
    tt,
    (
      tt,
      (
        tt,
        (
          (
            record { node = node_of bumping bump_main; there = (1, omega arith, refl); name = refl; call = (0, omega arith, refl) },
            (record { node = node_of bumping bump_main; there = (1, omega arith, refl); name = refl; call = (2, omega arith, refl) }, tt),
          ),
          (tt, tt),
        ),
      ),
    ),
  ),
)

calls_up : AllByRecursion (AllCalled of_summary) of_flow.nodes
unfolding named_graph graph_of
calls_up = (
  tt,
  (
    (
      record { node = node_at summaries graph 4; there = (4, omega arith, refl); name = refl; call = (0, omega arith, refl) },
      (
        record { node = node_at summaries graph 4; there = (4, omega arith, refl); name = refl; call = (0, omega arith, refl) },
        (record { node = node_at summaries graph 4; there = (4, omega arith, refl); name = refl; call = (1, omega arith, refl) }, tt),
      ),
    ),
    (
      (
        record { node = node_at summaries graph 0; there = (0, omega arith, refl); name = refl; call = (1, omega arith, refl) },
        (record { node = node_at summaries graph 0; there = (0, omega arith, refl); name = refl; call = (0, omega arith, refl) }, tt),
      ),
      tt,
    ),
  ),
)

reads_down : AllByRecursion (AllRead of_flow) of_summary.nodes
unfolding named_graph graph_of
reads_down = (
  tt,
  (
    (record { node = node_of bumping bump; there = (0, omega arith, refl); name = refl; read = (0, omega arith, refl) }, tt),
    (
      tt,
      (
        tt,
        (
          (record { node = node_of bumping bump_main; there = (1, omega arith, refl); name = refl; read = (0, omega arith, refl) }, tt),
          (tt, tt),
        ),
      ),
    ),
  ),
)

reads_up : AllByRecursion (AllRead of_summary) of_flow.nodes
unfolding named_graph graph_of
reads_up = (
  (record { node = node_at summaries graph 1; there = (1, omega arith, refl); name = refl; read = (0, omega arith, refl) }, tt),
  (
    (
      record { node = node_at summaries graph 4; there = (4, omega arith, refl); name = refl; read = (0, omega arith, refl) },
      (record { node = node_at summaries graph 4; there = (4, omega arith, refl); name = refl; read = (0, omega arith, refl) }, tt),
    ),
    (tt, tt),
  ),
)

writes_down : AllByRecursion (AllWritten of_flow) of_summary.nodes
unfolding named_graph graph_of
writes_down = (
  tt,
  (
    (record { node = node_of bumping bump; there = (0, omega arith, refl); name = refl; written = (0, omega arith, refl) }, tt),
    (tt, (tt, (tt, (tt, tt)))),
  ),
)

writes_up : AllByRecursion (AllWritten of_summary) of_flow.nodes
unfolding named_graph graph_of
writes_up = (
  (record { node = node_at summaries graph 1; there = (1, omega arith, refl); name = refl; written = (0, omega arith, refl) }, tt),
  (tt, (tt, tt)),
)

moves_down : AllByRecursion (MayMove of_flow) of_summary.nodes
unfolding named_graph graph_of
moves_down = (
  (λ d t. record { node = node_of bumping start; there = (2, omega arith, refl); name = refl; defined = refl; taken = refl }),
  (
    (λ d t. record { node = node_of bumping bump; there = (0, omega arith, refl); name = refl; defined = refl; taken = refl }),
    (
      (λ d t. let wrong : false ≡ true = d in absurd cc),
      (
        (λ d t. let wrong : false ≡ true = d in absurd cc),
        (
          (λ d t. record { node = node_of bumping bump_main; there = (1, omega arith, refl); name = refl; defined = refl; taken = refl }),
          ((λ d t. let wrong : false ≡ true = d in absurd cc), tt),
        ),
      ),
    ),
  ),
)

moves_up : AllByRecursion (MayMove of_summary) of_flow.nodes
unfolding named_graph graph_of
moves_up = (
  (λ d t. record { node = node_at summaries graph 1; there = (1, omega arith, refl); name = refl; defined = refl; taken = refl }),
  (
    (λ d t. record { node = node_at summaries graph 4; there = (4, omega arith, refl); name = refl; defined = refl; taken = refl }),
    (
      (λ d t. record { node = node_at summaries graph 0; there = (0, omega arith, refl); name = refl; defined = refl; taken = refl }),
      tt,
    ),
  ),
)

alike : SayTheSame of_summary of_flow
unfolding named_graph graph_of
alike = record {
  calls = λ a b. (calls_too of_summary of_flow calls_down a b, calls_too of_flow of_summary calls_up a b);
  reads = λ f v. (reads_too of_summary of_flow reads_down f v, reads_too of_flow of_summary reads_up f v);
  writes = λ f v. (writes_too of_summary of_flow writes_down f v, writes_too of_flow of_summary writes_up f v);
  eligible = λ v k. ((λ c. c), (λ c. c));
  movable = λ f. (moves_too of_summary of_flow moves_down f, moves_too of_flow of_summary moves_up f);
}

-- ---- the program

pub analysed : (p : source.Program) → Implements p (graphs 4096) → IsAnalysed p (graphs 4096) summaries 8 bump_directives places objects
unfolding graph_of database
analysed p implements = record {
  implements = implements;
  frames = refl;
  names = apart;
  enough = omega arith;
  linked = record { each = (is_summary, tt); linked = linked };
  few = omega arith;
  database = database;
  alike = alike;
  serve = all_serve;
  made = record { modules = refl; globals = refl; code = refl };
  fits = small;
}

too_many : (p : source.Program) → IsAnalysed p (graphs 4096) summaries 9 bump_directives places objects → ⊥
too_many p a = let few : 9 ≤ colour_limit = a.few in omega (arith, few)
