-- Lawful programs exist: bump and main are one, with names apart from those of routines.
use Rattle.std.specs.Prelude.{ℕ, ◌≡◌, ◌≢◌, ◌&&◌, Bool, true, false, not, List, [], ◌∷◌, ◌++◌, map, codes, Contains}
use Rattle.std.specs.List.{flat_map, list_all, AllByRecursion}
use Rattle.std.specs.Str.{bytes_eq}
use Rattle.std.proofs.Common.{arith, subst, refl}
use Rattle.std.proofs.lemmas.List.Elements.{All-contains, All-from_recursion}
use Rattle.std.proofs.lemmas.Slice.Eq.{bytes_eq-Decides}
use Rattle.pw_value.specs.ProgramNames.{start_name}
use Rattle.pw_milli.specs.Library.{routines}
use Rattle.pw_flow.specs.declared.flow.FlowFn.{FlowFn}
use Rattle.pw_flow.specs.declared.flow.FlowGlobal.{FlowGlobal}
use Rattle.pw_flow.specs.declared.flow.FlowModule.{FlowModule}
use Rattle.pw_flow.specs.FlowGraph.{named_in}
use Rattle.pw_flow.specs.ValidFlow.{IsGlobal, IsFunction, IsValid, AreDistinct}
use Rattle.pw_flow.proofs.Once.{absent, once}
use Rattle.pw_run_languages.specs.Programs.{functions_of, globals_of, names_of}
use Rattle.pw_run_languages.specs.LawfulPrograms.{IsProgram, NamesRightly, IsItem, ops_of}
use Rattle.pw_run_languages.specs.LinkingLaws.{AreNamesApart}
use Rattle.pw_tests_runs.proofs.Programs.{bumping, bump, bump_main, start, global}

-- ---- names that differ, by a test

both_hold : (a b : Bool) → (a && b) ≡ true → (a ≡ true) × (b ≡ true)
both_hold true true e = (refl, refl)
both_hold true false e = absurd cc
both_hold false b e = absurd cc

pub differ : (a b : List ℕ) → not (bytes_eq a b) ≡ true → a ≢ b
differ a b e same =
    let is : bytes_eq a b ≡ true = (bytes_eq-Decides a b).1 same in
    let wrong : not true ≡ true = subst (λ (t : Bool). not t ≡ true) is e in
    absurd cc

pub all_differ : (name : List ℕ) (others : List (List ℕ)) → list_all (λ other. not (bytes_eq other name)) others ≡ true → AllByRecursion (λ other. other ≢ name) others
all_differ name [] e = tt
all_differ name (x ∷ rest) e =
    let k = both_hold (not (bytes_eq x name)) (list_all (λ other. not (bytes_eq other name)) rest) e in
    (differ x name k.0, all_differ name rest k.1)

unfoldable pub are_distinct : List (List ℕ) → Bool
are_distinct [] = true
are_distinct (name ∷ rest) = list_all (λ other. not (bytes_eq other name)) rest && are_distinct rest

pub distinct : (names : List (List ℕ)) → are_distinct names ≡ true → AreDistinct names
unfolding are_distinct
distinct [] e = tt
distinct (name ∷ rest) e =
    let k = both_hold (list_all (λ other. not (bytes_eq other name)) rest) (are_distinct rest) e in
    (all_differ name rest k.0, distinct rest k.1)

-- ---- the module

abbrev module_of : FlowModule
module_of = record { name = codes "a"; globals = global (codes "n") ∷ []; functions = bump ∷ bump_main ∷ start ∷ []; declared = [] }

lawful_global : IsGlobal (global (codes "n"))
lawful_global = record { size = omega arith; kind = refl; items = tt }

pub lawful_bump : IsFunction bump
lawful_bump = record {
  few = record { few_params = omega arith; params = omega arith; room = omega arith; start = omega arith };
  blocks = (
    record {
      depth = omega arith;
      ops = (omega arith, ((omega arith, omega arith), ((omega arith, omega arith, omega arith), (omega arith, tt))));
      end = tt;
    },
    tt,
  );
}

pub lawful_main : IsFunction bump_main
lawful_main = record {
  few = record { few_params = omega arith; params = omega arith; room = omega arith; start = omega arith };
  blocks = (
    record {
      depth = omega arith;
      ops = (
        (tt, record { few = omega arith; below = tt }),
        (
          (tt, record { few = omega arith; below = tt }),
          (
            omega arith,
            (
              (omega arith, omega arith),
              (
                (omega arith, omega arith, omega arith),
                (
                  (tt, record { few = omega arith; below = (omega arith, tt) }),
                  (
                    omega arith,
                    tt,
                  ),
                ),
              ),
            ),
          ),
        ),
      );
      end = omega arith;
    },
    tt,
  );
}

pub lawful_start : IsFunction start
lawful_start = record {
  few = record { few_params = omega arith; params = omega arith; room = omega arith; start = omega arith };
  blocks = (
    record {
      depth = omega arith;
      ops = (
        (omega arith, record { few = omega arith; below = tt }),
        (
          (tt, record { few = omega arith; below = (omega arith, tt) }),
          tt,
        ),
      );
      end = tt;
    },
    tt,
  );
}

lawful_module : IsValid module_of
unfolding are_distinct
lawful_module = record {
  parts = record {
    globals = (lawful_global, tt);
    functions = (lawful_bump, (lawful_main, (lawful_start, tt)));
    ordinary = all_differ start_name (named_in module_of) refl;
  };
  names = record {
    distinct = record { defined = distinct (codes "n" ∷ codes "bump" ∷ codes "main" ∷ codes "$start" ∷ []) refl; declared = tt };
    start = record {
      beside = ((λ c. (1, omega arith, refl)), (λ c. (2, omega arith, refl)));
      once = once start_name (codes "bump" ∷ codes "main" ∷ codes "$start" ∷ []) (distinct (codes "bump" ∷ codes "main" ∷ codes "$start" ∷ []) refl);
      no_global = absent start_name (codes "n" ∷ []) (all_differ start_name (codes "n" ∷ []) refl);
    };
  };
}

-- ---- the program

abbrev all_names : List (List ℕ)
all_names = names_of bumping ++ map (λ g. g.name) (globals_of bumping)

abbrev all_named : List (List ℕ)
all_named = flat_map named_in bumping.modules

all_defined : AllByRecursion (Contains all_names) all_named
all_defined = (
  (6, omega arith, refl),
  (
    (6, omega arith, refl),
    (
      (3, omega arith, refl),
      (
        (3, omega arith, refl),
        (
          (6, omega arith, refl),
          (
            (2, omega arith, refl),
            (
              (6, omega arith, refl),
              (
                (4, omega arith, refl),
                ((0, omega arith, refl), tt),
              ),
            ),
          ),
        ),
      ),
    ),
  ),
)

all_rightly : AllByRecursion (λ f. AllByRecursion (NamesRightly bumping) (ops_of f)) (functions_of bumping)
all_rightly = (
  ((0, omega arith, refl), (tt, (tt, ((0, omega arith, refl), tt)))),
  (
    ((3, omega arith, refl), ((3, omega arith, refl), ((0, omega arith, refl), (tt, (tt, ((2, omega arith, refl), ((0, omega arith, refl), tt))))))),
    (
      ((4, omega arith, refl), ((0, omega arith, refl), tt)),
      tt,
    ),
  ),
)

pub lawful_program : IsProgram bumping
unfolding are_distinct
lawful_program = record {
  modules = (lawful_module, tt);
  order = (tt, tt);
  names = distinct all_names refl;
  defined = λ name c. All-contains (Contains all_names) all_named name (All-from_recursion (Contains all_names) all_named all_defined) c;
  ops = λ f o c k.
      All-contains (NamesRightly bumping) (ops_of f) o
      (All-from_recursion (NamesRightly bumping) (ops_of f)
      (All-contains (λ (f : FlowFn). AllByRecursion (NamesRightly bumping) (ops_of f)) (functions_of bumping) f
      (All-from_recursion (λ (f : FlowFn). AllByRecursion (NamesRightly bumping) (ops_of f)) (functions_of bumping) all_rightly) c)) k;
  items = λ g c.
      All-contains (λ (g : FlowGlobal). AllByRecursion (λ i. IsItem bumping i.1) g.items) (globals_of bumping) g
      (All-from_recursion (λ (g : FlowGlobal). AllByRecursion (λ i. IsItem bumping i.1) g.items) (globals_of bumping) (tt, tt)) c;
  start = (2, omega arith, refl);
  start_takes_nothing = λ f c e.
      All-contains (λ (f : FlowFn). f.params ≡ 0) (functions_of bumping) f
      (All-from_recursion (λ (f : FlowFn). f.params ≡ 0) (functions_of bumping) (refl, (refl, (refl, tt)))) c;
  stack = omega arith;
}

pub apart : AreNamesApart bumping
unfolding are_distinct
apart = distinct (map (λ r. r.0) routines ++ (map (λ f. f.name) (functions_of bumping) ++ map (λ g. g.name) (globals_of bumping))) refl
