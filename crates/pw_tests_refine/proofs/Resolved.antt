-- The program of `Examples` is well typed and resolved, so what the law that no run goes wrong asks for is met by a program; and where
-- locals are in scope. By computing the definitions.
use Rattle.std.proofs.Common.{ℕ, ◌<◌, inl, inr, refl, sym, arith, false, true≢false, Contains, []}
use Rattle.std.specs.Prelude.{codes}
use Rattle.pw_value.specs.declared.value.Pointer.TheVariants as P
use Rattle.pw_types.specs.TypedTrees.{Expression, Node, Number, Local, Cast, Statement, Evaluate, Block, NoStatement, OneStatement, FunctionValue}
use Rattle.pw_types.specs.TypeTrees.{Pointer, Qualified}
use Rattle.pw_types.specs.declared.kind.IntKind.TheVariants as K
use Rattle.pw_check_rules.specs.Constants.{constant_of}
use Rattle.pw_cmean.specs.Worlds.{ProgramModule, callable}
use Rattle.pw_cmean.specs.Typed.{IsWellTyped}
use Rattle.pw_law_never.specs.Scopes.{with_range}
use Rattle.pw_law_never.specs.Resolved.{IsResolved, IsResolvedStatement, IsResolvedProgram}
use Rattle.pw_tests_refine.proofs.Examples.{int_type, bump, main, tree, program}
use Rattle.pw_tests_refine.proofs.Accepted.{each, typed}

-- ---- the program

abbrev IsResolvedIn : FunctionValue → Type 0
IsResolvedIn f = IsResolvedStatement program (codes "a") (λ k. k < f.params) f.body

bump_resolved : IsResolvedIn bump
bump_resolved = (tt, (((P.Object 0 0, refl), ((P.Object 0 0, refl), tt)), tt))

main_resolved : IsResolvedIn main
main_resolved = (tt, (((callable (record { name = codes "a"; tree = tree }) bump, refl), tt), ((P.Object 0 0, refl), tt)))

resolved : IsResolvedProgram program
resolved = record {
  bodies = λ m f there inside.
      each (λ (m : ProgramModule). Contains m.tree.functions f → IsResolvedStatement program m.name (λ k. k < f.params) f.body) program.modules
      (λ inside. each IsResolvedIn tree.functions (bump_resolved, (main_resolved, tt)) f inside, tt) m there inside;
  main = (callable (record { name = codes "a"; tree = tree }) main, refl, refl);
}

-- so no premise of `resolved_programs_are_never_wrong` contradicts another
pub both : IsWellTyped program × IsResolvedProgram program
both = (typed, resolved)

-- ---- locals: { int k; k; } and { { int k; } k; }

abbrev local_read : Expression
local_read = Node 9 int_type (Local 0)

abbrev IsResolvedAlone : Statement → Type 0
IsResolvedAlone s = IsResolvedStatement program (codes "a") (λ k. k < 0) s

in_its_block : IsResolvedAlone (Block 5 0 1 [] (OneStatement (Evaluate 8 local_read) NoStatement))
in_its_block = (tt, (inr (omega arith, omega arith), tt))

behind_its_block : IsResolvedAlone (Block 5 0 0 [] (OneStatement (Block 6 0 1 [] NoStatement) (OneStatement (Evaluate 8 local_read) NoStatement))) → ⊥
behind_its_block h = never h.1.1.0
  where
    never : with_range 0 0 (λ k. k < 0) 0 → ⊥
    never (inl below) = omega (arith, below)
    never (inr range) = let below : 0 < 0 = range.1 in omega (arith, below)

-- ---- numbers as pointers: (int *)0 and (int *)1

abbrev to_pointer : ℕ → Expression
to_pointer k = Node 10 (Qualified (Pointer int_type) false false) (Cast (Node 11 int_type (Number k)))

zero_is_null : IsResolved program (codes "a") (λ k. k < 0) (to_pointer 0)
unfolding constant_of
zero_is_null = ((λ q kind is from. refl), tt)

one_is_none : IsResolved program (codes "a") (λ k. k < 0) (to_pointer 1) → ⊥
unfolding constant_of
one_is_none h = true≢false (sym (h.0 int_type K.Int refl refl))
