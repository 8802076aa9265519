-- What lines inside one function leave of kept registers, and of what has been noted.
use Rattle.std.proofs.Common.{◌≡◌, ◌≢◌, ◌⊎◌, ℕ, ◌+◌, Bool, if◌then◌else◌, List, [], ◌∷◌, ◌++◌, length, refl, ap, sym, subst, ◌∙◌, arith, inl, inr}
use Rattle.std.specs.Prelude.{Contains}
use Rattle.std.specs.List.{AllByRecursion}
use Rattle.std.proofs.lemmas.Bool.{ne_eqb}
use Rattle.pw_value.specs.declared.value.Byte.{Byte}
use Rattle.pw_value.specs.declared.value.Value.{Value}
use Rattle.pw_db.specs.declared.database.Directives.{Directives}
use Rattle.pw_db_sound.specs.CallGraphs.{Graph}
use Rattle.pw_delay.specs.declared.items.Item.{Item}
use Rattle.pw_alloc.specs.declared.located.Located.{Located}
use Rattle.pw_run.specs.Runs.{AreAlike, none, also}
use Rattle.pw_run_languages.specs.Traces.{Event, EventAlike, called, refused, returned, loaded, stored, Called, Refused, Returned, Loaded, Stored, MayChange, KeepRegisters}
use Rattle.pw_run_languages.specs.Calls.{FollowsCalls}
use Rattle.pw_run_languages.specs.Programs.{Program}
use Rattle.pw_run_languages.specs.LawfulPrograms.{graph_of}
use Rattle.pw_run_languages.specs.Acts.{Core, register}
use Rattle.pw_run_languages.specs.Standing.{ByteStands, ValueStands, pointer_address, EventInWords}
use Rattle.pw_run_languages.specs.LineRun.{Frame, Machine, name_of}
use Rattle.pw_law_select_states.specs.Passes.{IsNoneOf, further}
use Rattle.pw_law_select_known.specs.Laws.{IsAccess}
use Rattle.pw_law_select_kept.specs.Keeping.{IsKept, AllLeaveAsFound, AllSavedStay, CallEachOther, KeptRegistersAreSaved, OperationsLeaveAsFound}
use Rattle.pw_law_selection.specs.Following.{AreKept}
use Rattle.pw_law_selection.proofs.Given.{IsFine}

-- ---- what is noted

-- loads and stores alone change nothing of which calls there are
pub calls_without : (g : Graph) (log l : List (Event Byte Value)) → AllByRecursion (λ e. IsAccess e) log → FollowsCalls g (log ++ l) → FollowsCalls g l
calls_without g [] l quiet h = h
calls_without g (Loaded v ∷ log) l quiet h = calls_without g log l quiet.1 h
calls_without g (Stored v ∷ log) l quiet h = calls_without g log l quiet.1 h
calls_without g (Called f gs rs ∷ log) l quiet h = absurd quiet.0
calls_without g (Refused f ∷ log) l quiet h = absurd quiet.0
calls_without g (Returned f inner gs rs ss ∷ log) l quiet h = absurd quiet.0

pub keep_too : (d : List (List ℕ × Directives)) (log l : List (Event ℕ ℕ)) → AllByRecursion (λ e. IsAccess e) log → KeepRegisters d l → KeepRegisters d (log ++ l)
keep_too d [] l quiet h = h
keep_too d (Loaded v ∷ log) l quiet h = (tt, keep_too d log l quiet.1 h)
keep_too d (Stored v ∷ log) l quiet h = (tt, keep_too d log l quiet.1 h)
keep_too d (Called f gs rs ∷ log) l quiet h = absurd quiet.0
keep_too d (Refused f ∷ log) l quiet h = absurd quiet.0
keep_too d (Returned f inner gs rs ss ∷ log) l quiet h = absurd quiet.0

both_lengths : {X : Type 0} (xs ys : List X) → length (xs ++ ys) ≡ length xs + length ys
both_lengths [] ys = omega arith
both_lengths (x ∷ xs) ys = let h = both_lengths xs ys in omega (arith, h)

alike_lengths : {M N : Type 0} (P : M → N → Type 0) (ms : List M) (ns : List N) → AreAlike P ms ns → length ms ≡ length ns
alike_lengths P ms ns none = refl
alike_lengths P ms ns (also m n ms' ns' one rest) = let h = alike_lengths P ms' ns' rest in omega (arith, h)

access_alike : (B : Byte → ℕ → Type 0) (V : Value → ℕ → Type 0) (e : Event Byte Value) (f : Event ℕ ℕ) → IsAccess e → EventAlike B V e f → IsAccess f
access_alike B V e f quiet (called g gs hs rs ss a) = absurd quiet
access_alike B V e f quiet (refused g) = absurd quiet
access_alike B V e f quiet (returned g inner gs hs rs ss ts us a) = absurd quiet
access_alike B V e f quiet (loaded v) = tt
access_alike B V e f quiet (stored v) = tt

module _ (p : Program) (named : List ℕ → ℕ) where
  abbrev Like : List (Event Byte Value) → List (Event ℕ ℕ) → Type 0
  Like ms ns = AreAlike (EventInWords p named) ms ns

  -- what is alike to loads and stores is loads and stores
  pub quiet_too : (log before : List (Event Byte Value)) (own old : List (Event ℕ ℕ)) → AllByRecursion (λ e. IsAccess e) log → length own ≡ length log → Like (log ++ before) (own ++ old) → AllByRecursion (λ e. IsAccess e) own
  quiet_too log before [] old quiet long h = tt
  quiet_too [] before (f ∷ own) old quiet long h = absurd (omega (arith, long))
  quiet_too (e ∷ log) before (f ∷ own) old quiet long (also _ _ _ _ one rest) = (
    access_alike (ByteStands (pointer_address p named one.objects)) (ValueStands (pointer_address p named one.objects)) e f quiet.0 one.alike,
    quiet_too log before own old quiet.1 (omega (arith, long)) rest,
  )

  -- so of what is noted while lines lead on, where the logs before were alike
  pub quiet_lines : (log before : List (Event Byte Value)) (own old : List (Event ℕ ℕ)) → AllByRecursion (λ e. IsAccess e) log → Like before old → Like (log ++ before) (own ++ old) → AllByRecursion (λ e. IsAccess e) own
  quiet_lines log before own old quiet first all =
      let one = alike_lengths (EventInWords p named) before old first in
      let two = alike_lengths (EventInWords p named) (log ++ before) (own ++ old) all in
      let long = both_lengths log before in
      let wide = both_lengths own old in
      quiet_too log before own old quiet (omega (arith, one, two, long, wide)) all

-- ---- kept registers

-- a register that is not the first reads what it holds
pub some_register : (c : Core) (r : ℕ) → r ≢ 0 → register c r ≡ c.registers r
some_register c r some = ap (λ (t : Bool). if t then 0 else c.registers r) (ne_eqb r 0 some)

-- what a caller is left with is said of its function and of what it found at its call
same_frame : (d : List (List ℕ × Directives)) (memory registers : ℕ → ℕ) (l : Frame) (ls : List Frame) (rest : List Item) → AllLeaveAsFound d memory registers (l ∷ ls)
    → AllLeaveAsFound d memory registers (record l { left = rest } ∷ ls)
same_frame d memory registers l ls rest h = (record { whole = h.0.whole; same = h.0.same }, h.1)

calls_alike : (g : Graph) (l : Frame) (ls : List Frame) (rest : List Item) → CallEachOther g (l ∷ ls) → CallEachOther g (record l { left = rest } ∷ ls)
calls_alike g l [] rest h = tt
calls_alike g l (caller ∷ callers) rest h = h

-- the laws of kept registers
pub record KeptLaws : Type 0 where
  pub saved : KeptRegistersAreSaved
  pub leave : OperationsLeaveAsFound

module _ (laws : KeptLaws) (p : Program) (d : List (List ℕ × Directives)) where
  -- of registers that a function may not change it saves each, or its lines leave it
  pub saved_or_same : (f : Located) (l : Frame) (c core : Core) → IsFine p d f → l.function.located ≡ f → ((r : ℕ) → IsNoneOf f r → register core r ≡ register c r)
      → (r : ℕ) → IsKept r → ¬ MayChange d (name_of l) r → Contains l.function.located.saved r ⊎ (core.registers r ≡ c.registers r)
  saved_or_same f l c core fine is same r kept may =
      let low = kept.low in
      let some : r ≢ 0 = λ e. omega (arith, low, e) in
      let named : name_of l ≡ fine.flow.name = ap (λ (x : Located). x.body.name) is ∙ fine.name in
      elim (laws.saved d fine.flow f r fine.serves kept (subst (λ (n : List ℕ). ¬ MayChange d n r) named may)) [
        | inl saved ↦ inl (subst (λ (x : Located). Contains x.saved r) (sym is) saved)
        | inr none_of ↦ inr (sym (some_register core r some) ∙ same r none_of ∙ some_register c r some)
      ]

  -- lines inside a function keep registers
  pub kept_on : (f : Located) (l : Machine) (rest : List Item) (core : Core) (more : ℕ) (log : List (Event ℕ ℕ)) → IsFine p d f → l.frame.function.located ≡ f
      → AllSavedStay l.core.memory core.memory (l.frame ∷ l.callers) → ((r : ℕ) → IsNoneOf f r → register core r ≡ register l.core r) → AllByRecursion (λ e. IsAccess e) log
      → AreKept p d l → AreKept p d (further rest core more log l)
  kept_on f l rest core more log fine is stay same quiet h = record {
    noted = keep_too d log l.trace quiet h.noted;
    calls = calls_alike (graph_of p) l.frame l.callers rest h.calls;
    left = same_frame d core.memory core.registers l.frame l.callers rest
        (laws.leave d l.core.memory core.memory l.core.registers core.registers l.frame l.callers stay (saved_or_same f l.frame l.core core fine is same) h.left);
  }
