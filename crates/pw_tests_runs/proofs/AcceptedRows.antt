-- Bump and main in C make an accepted program: its flow graphs are lawful, and all declarations of a name agree.
use Rattle.std.specs.Prelude.{ℕ, ◌≡◌, false, Some, None, option_map, unwrap_or, if◌then◌else◌, List, [], ◌∷◌, ◌++◌, map, codes, Contains}
use Rattle.std.specs.List.{flat_map, AllByRecursion}
use Rattle.std.specs.Str.{bytes_eq}
use Rattle.std.proofs.Common.{arith, subst, sym, ap, refl, ◌∙◌}
use mathlib.Core.Logic.{inl}
use Rattle.std.proofs.lemmas.List.Elements.{All-contains, All-from_recursion}
use Rattle.pw_value.specs.ProgramNames.{start_name}
use Rattle.pw_value.specs.Shapes.{Agree}
use Rattle.pw_value.specs.declared.value.Kind.TheVariants.{W32}
use Rattle.pw_flow.specs.declared.flow.BinKind.TheVariants.{Add}
use Rattle.pw_flow.specs.declared.flow.Op.TheVariants.{Const, Bin, LoadG, Call}
use Rattle.pw_flow.specs.declared.flow.End.TheVariants.{Return}
use Rattle.pw_flow.specs.declared.flow.FlowFn.{FlowFn}
use Rattle.pw_flow.specs.declared.flow.FlowGlobal.{FlowGlobal}
use Rattle.pw_flow.specs.declared.flow.FlowModule.{FlowModule}
use Rattle.pw_flow.specs.FlowGraph.{named_in}
use Rattle.pw_flow.specs.ValidFlow.{IsGlobal, IsFunction, IsValid}
use Rattle.pw_flow.proofs.Once.{absent, once}
use Rattle.pw_lower.specs.Modules.{lowered, lowered_function}
use Rattle.pw_lower.specs.Statements.{lower_statement, lower_statements}
use Rattle.pw_lower.specs.Expressions.{lower, place, arguments}
use Rattle.pw_run_languages.specs.Programs.{Program, Library, PutChar, functions_of, globals_of, names_of, library_at, library_shape}
use Rattle.pw_run_languages.specs.LawfulPrograms.{IsProgram, NamesRightly, IsItem, ops_of}
use Rattle.pw_law_source.specs.Lowering.{DeclareAlike, IsAccepted}
use Rattle.pw_tests_runs.proofs.Programs.{block, function, frames, bump, start}
use Rattle.pw_tests_runs.proofs.ProgramRows.{are_distinct, all_differ, distinct, lawful_bump, lawful_start}
use Rattle.pw_tests_runs.proofs.SourceRows.{in_c, tree, well_typed_program}

-- ---- what lowering makes of them

abbrev n_flow : FlowGlobal
n_flow = record { name = codes "n"; size = 4; shape = codes "i"; kind = Some W32; volatile = false; items = [] }

abbrev main_flow : FlowFn
main_flow = function (codes "main") (codes "fi") 0 5
    (block (Call None (codes "bump") [] ∷ Call None (codes "bump") [] ∷ LoadG 0 (codes "n") W32 ∷ Const 1 48
    ∷ Bin Add 2 0 1 ∷ Call (Some 3) (codes "putchar") (2 ∷ []) ∷ LoadG 4 (codes "n") W32 ∷ []) (Return (Some 4))
    ∷ block [] (Return None) ∷ [])

abbrev flows : FlowModule
flows = record {
  name = codes "a";
  globals = n_flow ∷ [];
  functions = bump ∷ main_flow ∷ start ∷ [];
  declared = (codes "n", codes "i") ∷ (codes "bump", codes "fv") ∷ (codes "main", codes "fi") ∷ (codes "putchar", codes "fii") ∷ [];
}

lowers : lowered (codes "a") tree ≡ flows
unfolding lowered lowered_function lower_statement lower_statements lower place arguments
lowers = refl

abbrev graphs : Program
graphs = record { modules = flows ∷ []; frame_of = frames; stack = 4096 }

-- ---- lawful

lawful_n : IsGlobal n_flow
lawful_n = record { size = omega arith; kind = refl; items = tt }

lawful_main : IsFunction main_flow
lawful_main = record {
  few = record { few_params = omega arith; params = omega arith; room = omega arith; start = omega arith };
  blocks = (
    record {
      depth = omega arith;
      ops = (
        (tt, record { few = omega arith; below = tt }),
        (
          (tt, record { few = omega arith; below = tt }),
          (
            omega arith,
            (
              (omega arith, omega arith),
              (
                (omega arith, omega arith, omega arith),
                (
                  (omega arith, record { few = omega arith; below = (omega arith, tt) }),
                  (
                    omega arith,
                    tt,
                  ),
                ),
              ),
            ),
          ),
        ),
      );
      end = omega arith;
    },
    (record { depth = omega arith; ops = tt; end = tt }, tt),
  );
}

lawful_module : IsValid flows
unfolding are_distinct
lawful_module = record {
  parts = record {
    globals = (lawful_n, tt);
    functions = (lawful_bump, (lawful_main, (lawful_start, tt)));
    ordinary = all_differ start_name (named_in flows) refl;
  };
  names = record {
    distinct = record {
      defined = distinct (codes "n" ∷ codes "bump" ∷ codes "main" ∷ codes "$start" ∷ []) refl;
      declared = distinct (codes "n" ∷ codes "bump" ∷ codes "main" ∷ codes "putchar" ∷ []) refl;
    };
    start = record {
      beside = ((λ c. (1, omega arith, refl)), (λ c. (2, omega arith, refl)));
      once = once start_name (codes "bump" ∷ codes "main" ∷ codes "$start" ∷ []) (distinct (codes "bump" ∷ codes "main" ∷ codes "$start" ∷ []) refl);
      no_global = absent start_name (codes "n" ∷ []) (all_differ start_name (codes "n" ∷ []) refl);
    };
  };
}

abbrev all_names : List (List ℕ)
all_names = names_of graphs ++ map (λ g. g.name) (globals_of graphs)

abbrev all_named : List (List ℕ)
all_named = flat_map named_in graphs.modules

all_defined : AllByRecursion (Contains all_names) all_named
all_defined = (
  (6, omega arith, refl),
  (
    (6, omega arith, refl),
    (
      (3, omega arith, refl),
      (
        (3, omega arith, refl),
        (
          (6, omega arith, refl),
          (
            (2, omega arith, refl),
            (
              (6, omega arith, refl),
              (
                (4, omega arith, refl),
                ((0, omega arith, refl), tt),
              ),
            ),
          ),
        ),
      ),
    ),
  ),
)

all_rightly : AllByRecursion (λ f. AllByRecursion (NamesRightly graphs) (ops_of f)) (functions_of graphs)
all_rightly = (
  ((0, omega arith, refl), (tt, (tt, ((0, omega arith, refl), tt)))),
  (
    ((3, omega arith, refl), ((3, omega arith, refl), ((0, omega arith, refl), (tt, (tt, ((2, omega arith, refl), ((0, omega arith, refl), tt))))))),
    (
      ((4, omega arith, refl), ((0, omega arith, refl), tt)),
      tt,
    ),
  ),
)

lawful_program : IsProgram graphs
unfolding are_distinct
lawful_program = record {
  modules = (lawful_module, tt);
  order = (tt, tt);
  names = distinct all_names refl;
  defined = λ name c. All-contains (Contains all_names) all_named name (All-from_recursion (Contains all_names) all_named all_defined) c;
  ops = λ f o c k.
      All-contains (NamesRightly graphs) (ops_of f) o
      (All-from_recursion (NamesRightly graphs) (ops_of f)
      (All-contains (λ (f : FlowFn). AllByRecursion (NamesRightly graphs) (ops_of f)) (functions_of graphs) f
      (All-from_recursion (λ (f : FlowFn). AllByRecursion (NamesRightly graphs) (ops_of f)) (functions_of graphs) all_rightly) c)) k;
  items = λ g c.
      All-contains (λ (g : FlowGlobal). AllByRecursion (λ i. IsItem graphs i.1) g.items) (globals_of graphs) g
      (All-from_recursion (λ (g : FlowGlobal). AllByRecursion (λ i. IsItem graphs i.1) g.items) (globals_of graphs) (tt, tt)) c;
  start = (2, omega arith, refl);
  start_takes_nothing = λ f c e.
      All-contains (λ (f : FlowFn). f.params ≡ 0) (functions_of graphs) f
      (All-from_recursion (λ (f : FlowFn). f.params ≡ 0) (functions_of graphs) (refl, (refl, (refl, tt)))) c;
  stack = omega arith;
}

-- ---- declarations

of_modules : (P : FlowModule → Type 0) → P flows → (m : FlowModule) → Contains graphs.modules m → P m
of_modules P h m c = All-contains P graphs.modules m (All-from_recursion P graphs.modules (h, tt)) c

-- a name's only shape
abbrev shape_for : List ℕ → List ℕ
shape_for name =
    if bytes_eq name (codes "n") then codes "i" else if bytes_eq name (codes "bump") then codes "fv" else
    if bytes_eq name (codes "main") then codes "fi" else codes "fii"

HasIts : List ℕ × List ℕ → Type 0
HasIts d = d.1 ≡ shape_for d.0

its : (m : FlowModule) (name s : List ℕ) → Contains graphs.modules m → Contains m.declared (name, s) → s ≡ shape_for name
unfolding HasIts
its m name s c k =
    of_modules (λ m. Contains m.declared (name, s) → s ≡ shape_for name)
    (λ k. All-contains HasIts flows.declared (name, s) (All-from_recursion HasIts flows.declared (refl, (refl, (refl, (refl, tt))))) k) m c k

OfLibrary : List ℕ × List ℕ → Type 0
OfLibrary d = (g : Library) → library_at d.0 ≡ Some g → Agree d.1 (library_shape g)

put_char : (g : Library) → library_at (codes "putchar") ≡ Some g → Agree (codes "fii") (library_shape g)
put_char g e =
    let is : Some PutChar ≡ Some g = e in
    inl (ap (λ o. unwrap_or (option_map library_shape o) []) is)

alike : DeclareAlike graphs
unfolding OfLibrary
alike = record {
  declared = λ m n name s t c k a b. inl (its m name s c a ∙ sym (its n name t k b));
  library = λ m g name s c k e.
      of_modules (λ m. Contains m.declared (name, s) → Agree s (library_shape g))
      (λ k. All-contains OfLibrary flows.declared (name, s)
      (All-from_recursion OfLibrary flows.declared (
        (λ g e. absurd cc),
        ((λ g e. absurd cc), ((λ g e. absurd cc), ((λ g e. put_char g e), tt))),
      )) k g e) m c k;
  main = λ f e. ap (λ o. unwrap_or (option_map (λ (f : FlowFn). f.shape) o) []) (sym e);
}

accepted : IsAccepted in_c frames 4096
accepted = record {
  typed = well_typed_program;
  program = subst (λ m. IsProgram (record { modules = m ∷ []; frame_of = frames; stack = 4096 })) (sym lowers) lawful_program;
  alike = subst (λ m. DeclareAlike (record { modules = m ∷ []; frame_of = frames; stack = 4096 })) (sym lowers) alike;
}
