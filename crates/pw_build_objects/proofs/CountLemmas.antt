-- How many objects are made anew on the way to an answer.
use Rattle.std.proofs.Common.{◌≡◌, ◌⊎◌, inl, inr, arith, ℕ, ◌+◌, List, Option, Result, Err, refl, sym, subst}
use Rattle.std.specs.Prelude.{IfErr, count_by}
use Rattle.pw_value.specs.declared.fault.LinkFault.{LinkFault}
use Rattle.pw_value.specs.declared.fault.LinkFault.TheVariants as link
use Rattle.pw_flow.specs.declared.flow.FlowModule.{FlowModule}
use Rattle.pw_object.specs.declared.object.Object.{Object}
use Rattle.pw_build_objects.specs.Counting.{CountsAnew, CountsUpTo}
use Rattle.pw_build_objects.specs.Programs.{AreParts, BreakRule, Parts}
use Rattle.pw_build_opts.specs.declared.opts.Opts.{Opts}

-- none, where the modules break a rule
pub broken_counted : {V : Type 0} (flows : List FlowModule) (kept : List (Option Object)) (opts : Opts) (n : ℕ) (result : Result V LinkFault) (fault : LinkFault) → result ≡ Err fault → (fault ≡ link.NoMemory) ⊎ BreakRule flows fault
    → IfErr result (λ f. (f ≡ link.NoMemory) ⊎ CountsAnew flows kept opts n n)
broken_counted flows kept opts n result fault e h = subst (λ (r : Result _ LinkFault). IfErr r (λ f. (f ≡ link.NoMemory) ⊎ CountsAnew flows kept opts n n)) (sym e) (by_fault h)
  where
    by_fault : (fault ≡ link.NoMemory) ⊎ BreakRule flows fault → (fault ≡ link.NoMemory) ⊎ CountsAnew flows kept opts n n
    by_fault (inl none) = inl none
    by_fault (inr broken) = inr (0, inl (fault, broken, refl), omega arith)

-- those that are marked, where there are parts
pub made_counted : (flows : List FlowModule) (kept : List (Option Object)) (opts : Opts) (before now : ℕ) (parts : Parts) → AreParts flows kept opts parts → now ≡ before + count_by (λ f. f) parts.fresh → CountsAnew flows kept opts before now
made_counted flows kept opts before now parts are e = (count_by (λ f. f) parts.fresh, inr (parts, are, refl), e)

-- as many modules have the same bound
pub bound_as_many : (most other before now : ℕ) → most ≡ other → CountsUpTo most before now → CountsUpTo other before now
bound_as_many most other before now e h = subst (λ (n : ℕ). CountsUpTo n before now) e h
