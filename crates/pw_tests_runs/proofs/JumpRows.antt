-- A function that ends with a jump, `int f(int a) { if (a) return 1; else return 2; }`: no caller is left at its end. And a
-- program whose last function ends so has all that linking asks.
use Rattle.std.specs.Prelude.{ℕ, ◌≡◌, None, Some, List, [], ◌∷◌, ◌++◌, map, codes, Contains}
use Rattle.std.specs.List.{flat_map, AllByRecursion}
use Rattle.std.proofs.Common.{arith, subst, sym, ap, refl, ◌∙◌}
use Rattle.pw_value.specs.ProgramNames.{start_name}
use Rattle.pw_milli.specs.Library.{routines}
use Rattle.pw_flow.specs.declared.flow.Op.TheVariants.{Const, Call}
use Rattle.pw_flow.specs.declared.flow.End.TheVariants.{Jump, Branch, Return}
use Rattle.pw_flow.specs.declared.flow.FlowFn.{FlowFn}
use Rattle.pw_flow.specs.declared.flow.FlowModule.{FlowModule}
use Rattle.pw_flow.specs.FlowGraph.{named_in}
use Rattle.pw_flow.specs.ValidFlow.{IsFunction, IsValid}
use Rattle.pw_flow.proofs.Once.{absent, once}
use Rattle.pw_db.specs.Database.{empty}
use Rattle.pw_webflow.specs.Direction.{directed}
use Rattle.pw_alloc.specs.declared.located.Located.{Located}
use Rattle.pw_alloc.specs.Allocation.{entered_from}
use Rattle.pw_tests_runs.proofs.InWords.{in_words, words_serve}
use Rattle.pw_select.specs.Selection.{selected, entered_lines}
use Rattle.pw_delay.specs.declared.items.Turn.TheVariants.{Goto}
use Rattle.pw_delay.specs.declared.items.Item.{Item}
use Rattle.pw_delay.specs.declared.items.Item.TheVariants.{Turns, Mark}
use Rattle.pw_delay.specs.Placement.{laid, placed}
use Rattle.pw_object.specs.declared.object.Object.{Object}
use Rattle.pw_object.specs.Object.{whole_object}
use Rattle.pw_link.specs.Linking.{linked, size_fault}
use Rattle.pw_run_languages.specs.Programs.{Program, functions_of, globals_of, names_of}
use Rattle.pw_run_languages.specs.LawfulPrograms.{IsProgram, NamesRightly, ops_of}
use Rattle.pw_run_languages.specs.Direction.{directed_functions}
use Rattle.pw_run_languages.specs.Serving.{AllServe}
use Rattle.pw_run_languages.specs.LineRun.{LineFn, Frame, IsCalling}
use Rattle.pw_run_languages.specs.SelectionLaws.{with_lines}
use Rattle.pw_run_languages.specs.LinkingLaws.{AreNamesApart, LinkKeeps, LinkKeepsRuns, compiled}
use Rattle.pw_law_link_run.specs.Steps.{Setting}
use Rattle.pw_law_link_run.specs.Simulating.{IsCaller}
use Rattle.pw_tests_runs.proofs.Programs.{function, block, start, frames}
use Rattle.pw_tests_runs.proofs.ProgramRows.{all_differ, are_distinct, distinct, lawful_start}
use Rattle.pw_tests_runs.proofs.BuiltRows.{nothing_lawful}
use Rattle.pw_tests_runs.proofs.WrittenLists.{nowhere, each}

abbrev choosing : FlowFn
choosing = function (codes "f") (codes "fii") 1 3
    (block [] (Branch 0 1 2)
    ∷ block (Const 1 1 ∷ []) (Return (Some 1))
    ∷ block (Const 2 2 ∷ []) (Return (Some 2))
    ∷ block [] (Return None)
    ∷ block [] (Jump 3)
    ∷ block [] (Jump 3) ∷ [])

abbrev chosen : LineFn
chosen = with_lines (in_words (directed choosing (record { webs = []; free = []; saves = [] })))

abbrev last_item : Item → List Item → Item
last_item first [] = first
last_item first (item ∷ items) = last_item item items

ends_with_a_jump : last_item (Mark 0) chosen.items ≡ Turns (Goto 3) None
unfolding directed in_words entered_from selected entered_lines
ends_with_a_jump = refl

last_is : (before : List Item) (call first : Item) → last_item first (before ++ call ∷ []) ≡ call
last_is [] call first = refl
last_is (item ∷ before) call first = last_is before call item

-- so no return address is where the words of the program end, and the library may stand there
nothing_behind : (x : Setting) (g : Frame) → g.function ≡ chosen → g.left ≡ [] → IsCaller x g → ⊥
nothing_behind x g is none caller =
    let parts : chosen.items ≡ caller.before ++ caller.call ∷ [] =
    sym (ap (λ (f : LineFn). f.items) is) ∙ (caller.parts ∙ ap (λ (left : List Item). caller.before ++ caller.call ∷ left) none) in
    let call : Turns (Goto 3) None ≡ caller.call = sym ends_with_a_jump ∙ (ap (last_item (Mark 0)) parts ∙ last_is caller.before caller.call (Mark 0)) in
    subst IsCalling (sym call) caller.calling

-- ---- int main(void) { if (getchar()) return 1; else return 2; }, the last function of its program

abbrev deciding : FlowFn
deciding = function (codes "main") (codes "fi") 0 3
    (block (Call (Some 0) (codes "getchar") [] ∷ []) (Branch 0 1 2)
    ∷ block (Const 1 1 ∷ []) (Return (Some 1))
    ∷ block (Const 2 2 ∷ []) (Return (Some 2))
    ∷ block [] (Return None)
    ∷ block [] (Jump 3)
    ∷ block [] (Jump 3) ∷ [])

abbrev module_of : FlowModule
module_of = record { name = codes "a"; globals = []; functions = start ∷ deciding ∷ []; declared = [] }

abbrev jumping : Program
jumping = record { modules = module_of ∷ []; frame_of = frames; stack = 4096 }

lawful_deciding : IsFunction deciding
lawful_deciding = record {
  few = record { few_params = omega arith; params = omega arith; room = omega arith; start = omega arith };
  blocks = (
    record { depth = omega arith; ops = ((omega arith, record { few = omega arith; below = tt }), tt); end = (omega arith, omega arith, omega arith) },
    (
      record { depth = omega arith; ops = ((omega arith, omega arith), tt); end = omega arith },
      (
        record { depth = omega arith; ops = ((omega arith, omega arith), tt); end = omega arith },
        (
          record { depth = omega arith; ops = tt; end = tt },
          (
            record { depth = omega arith; ops = tt; end = omega arith },
            (record { depth = omega arith; ops = tt; end = omega arith }, tt),
          ),
        ),
      ),
    ),
  );
}

lawful_module : IsValid module_of
unfolding are_distinct
lawful_module = record {
  parts = record { globals = tt; functions = (lawful_start, (lawful_deciding, tt)); ordinary = all_differ start_name (named_in module_of) refl };
  names = record {
    distinct = record { defined = distinct (codes "$start" ∷ codes "main" ∷ []) refl; declared = tt };
    start = record {
      beside = ((λ c. (1, omega arith, refl)), (λ c. (0, omega arith, refl)));
      once = once start_name (codes "$start" ∷ codes "main" ∷ []) (distinct (codes "$start" ∷ codes "main" ∷ []) refl);
      no_global = absent start_name [] tt;
    };
  };
}

abbrev all_names : List (List ℕ)
all_names = names_of jumping ++ map (λ g. g.name) (globals_of jumping)

abbrev all_named : List (List ℕ)
all_named = flat_map named_in jumping.modules

lawful_jumping : IsProgram jumping
unfolding are_distinct
lawful_jumping = record {
  modules = (lawful_module, tt);
  order = (tt, tt);
  names = distinct all_names refl;
  defined = each (Contains all_names) all_named ((4, omega arith, refl), ((0, omega arith, refl), ((1, omega arith, refl), tt)));
  ops = λ f o c k.
      each (NamesRightly jumping) (ops_of f) (each (λ (f : FlowFn). AllByRecursion (NamesRightly jumping) (ops_of f)) (functions_of jumping) (
        ((4, omega arith, refl), ((0, omega arith, refl), tt)),
        (((1, omega arith, refl), (tt, (tt, tt))), tt),
      ) f c) o k;
  items = λ g c. absurd (nowhere g c);
  start = (0, omega arith, refl);
  start_takes_nothing = λ f c e. each (λ (f : FlowFn). f.params ≡ 0) (functions_of jumping) (refl, (refl, tt)) f c;
  stack = omega arith;
}

apart : AreNamesApart jumping
unfolding are_distinct
apart = distinct (map (λ r. r.0) routines ++ (map (λ f. f.name) (functions_of jumping) ++ map (λ g. g.name) (globals_of jumping))) refl

abbrev places : List Located
places = map in_words (directed_functions jumping [])

abbrev objects : List Object
objects = whole_object (codes "a") [] [] [] [] [] (map compiled places) ∷ []

all_serve : AllServe (directed_functions jumping []) places
all_serve = (
  words_serve start empty nothing_lawful refl,
  (words_serve deciding empty nothing_lawful refl, tt),
)

small : size_fault objects 4096 ≡ None
unfolding directed in_words entered_from selected entered_lines placed laid
small = refl

last_ends_with_a_jump : last_item (Mark 0) (with_lines (in_words (directed deciding empty))).items ≡ Turns (Goto 3) None
unfolding directed in_words entered_from selected entered_lines
last_ends_with_a_jump = refl

-- so the law of linking says of it what the machine does, the library behind its words included
linking_says : LinkKeepsRuns → LinkKeeps jumping places (linked objects 4096) []
linking_says law =
    law jumping [] places objects [] lawful_jumping apart tt all_serve (record { modules = refl; globals = refl; code = refl }) small tt
