-- Turns that call and return.
use Rattle.std.proofs.Common.{ℕ, zero, suc, ◌≡◌, ◌<◌, ◌⊎◌, inl, inr, arith, refl, ap, ◌∙◌, Bool, true, false, cond, if◌then◌else◌, ◌==◌, ◌&&◌, bit_or, Option, Some, None, List, [], ◌∷◌, ◌++◌, map, find, length, slice_index_or, Contains}
use Rattle.std.specs.Int.Bits.{or_zero_r}
use Rattle.std.proofs.lemmas.Bool.{eq-eqb, ne_eqb, cases_eq}
use Rattle.pw_value.specs.ProgramNames.{library_functions}
use Rattle.pw_inst.specs.Registers.{first, return_address, stack_pointer}
use Rattle.pw_inst.specs.declared.Inst.TheVariants.{Or}
use Rattle.pw_inst.specs.declared.relocation.Symbol.TheVariants as symbol
use Rattle.pw_delay.specs.Items.{link_moved}
use Rattle.pw_delay.specs.declared.items.Item.{Item}
use Rattle.pw_delay.specs.declared.items.Item.TheVariants.{Turns}
use Rattle.pw_delay.specs.declared.items.Turn.TheVariants.{CallTo, CallReg, Leave}
use Rattle.pw_run_languages.specs.Traces.{Event}
use Rattle.pw_run_languages.specs.Programs.{Library, library_at, functions_of, names_of}
use Rattle.pw_run_languages.specs.Addresses.{Addresses, AreLawful}
use Rattle.pw_run_languages.specs.Acts.{Core, Acts, acts, executed, register, with_register}
use Rattle.pw_run_languages.specs.LineRun as run
use Rattle.pw_run_languages.specs.LineRun.{LineFn, LineProgram, Frame, Machine, Step, On, Astray, function_named, left_behind, enters, library, calls, calls_at, function_at, linked, returns, and_then, went_on, does, step}
use Rattle.pw_law_select_rows.specs.Making.{NothingIsNoted}
use Rattle.pw_law_select_frames.specs.Calls.{Calls, named_call, valued_call, returned}

-- ---- a call, by what the name is

-- a word in a register
linked_there : (to r : ℕ) (c : Core) → (r == 0) ≡ false → register (with_register r to c) r ≡ to
linked_there to r c some = rw (some, eq-eqb r r refl) refl

called_defined : (p : LineProgram) (w : Addresses) (m : Machine) (to : ℕ) (f : List ℕ) (g : LineFn) → library_at f ≡ None → function_named p f ≡ Some g
    → register m.core 2 ≡ to → calls p w to f m ≡ On (enters p w g m)
called_defined p w m to f g is defined link = rw (eq-eqb (register m.core 2) to link, is, defined) refl

called_library : (p : LineProgram) (w : Addresses) (m : Machine) (to : ℕ) (f : List ℕ) (g : Library) → library_at f ≡ Some g
    → register m.core 2 ≡ to → calls p w to f m ≡ library p w g m
called_library p w m to f g is link = rw (eq-eqb (register m.core 2) to link, is) refl

-- ---- the function that stands at an address

find_own : (named : List ℕ → ℕ) (f : List ℕ) (xs : List (List ℕ)) → ((g : List ℕ) → Contains xs g → named g ≡ named f → g ≡ f) → Contains xs f
    → find (λ g. named g == named f) xs ≡ Some f
find_own named f [] own c = let less = c.1 in absurd (omega (arith, less))
find_own named f (x ∷ xs) own c = by_test (λ (k : Contains xs f). find_own named f xs (λ g k same. own g (later g k) same) k) (cases_eq (named x) (named f))
  where
    later : (g : List ℕ) → Contains xs g → Contains (x ∷ xs) g
    later g k = (suc k.0, omega (arith, k.1), k.2)

    by_place : (named x ≡ named f → ⊥) → (k : ℕ) → k < length (x ∷ xs) → slice_index_or (x ∷ xs) k f ≡ f → Contains xs f
    by_place ne zero less e = absurd (ne (ap named e))
    by_place ne (suc k) less e = (k, omega (arith, less), e)

    by_test : (Contains xs f → find (λ g. named g == named f) xs ≡ Some f) → (named x ≡ named f) ⊎ (named x ≡ named f → ⊥) → find (λ g. named g == named f) (x ∷ xs) ≡ Some f
    by_test rest (inl same) =
        ap (λ (t : Bool). cond t (Some x) (find (λ g. named g == named f) xs)) (eq-eqb (named x) (named f) same)
        ∙ ap (λ (g : List ℕ). Some g) (own x (zero, omega arith, refl) same)
    by_test rest (inr ne) =
        ap (λ (t : Bool). cond t (Some x) (find (λ g. named g == named f) xs)) (ne_eqb (named x) (named f) ne)
        ∙ rest (by_place ne c.0 c.1 c.2)

stands_at : (p : LineProgram) (w : Addresses) (f : List ℕ) (a : ℕ) → AreLawful p.flow w → map (λ g. g.located.body.name) p.functions ≡ map (λ g. g.name) (functions_of p.flow)
    → Contains (names_of p.flow) f → a ≡ w.named f → function_at p w a ≡ Some f
stands_at p w f a lawful names there is =
    ap (λ (ns : List (List ℕ)). find (λ g. w.named g == a) (library_functions ++ ns)) names
    ∙ (ap (λ a. find (λ g. w.named g == a) (names_of p.flow)) is
    ∙ find_own w.named f (names_of p.flow) (λ g also same. lawful.function_own g f also there same) there)

-- ---- steps

module _ (p : LineProgram) (w : Addresses) (scratch : ℕ → (ℕ → ℕ) → ℕ → ℕ) where
  named_step : (f : List ℕ) (rest : List Item) (m : Machine)
      → step p w scratch (left_behind (Turns (CallTo (symbol.Named f) 2) None ∷ rest) m)
      ≡ (if m.core.skip then Astray else calls p w (run.return_address w m.frame rest) f (named_call w rest m))
  unfolding step
  named_step f rest m = refl

  valued_step : (rest : List Item) (m : Machine)
      → step p w scratch (left_behind (Turns CallReg (Some link_moved) ∷ rest) m)
      ≡ (if m.core.skip then Astray else
      and_then (does p w link_moved (linked 31 (run.return_address w m.frame rest) (left_behind rest m))) (calls_at p w (run.return_address w m.frame rest) (function_at p w (register m.core 22))))
  unfolding step
  valued_step rest m = refl

  leave_step : (rest : List Item) (m : Machine)
      → step p w scratch (left_behind (Turns Leave None ∷ rest) m) ≡ (if m.core.skip then Astray else returns p w (register m.core 2) (left_behind rest m))
  unfolding step
  leave_step rest m = refl

  -- the state at a turn
  at_turn : (items : List Item) (m : Machine) → m.frame.left ≡ items → step p w scratch m ≡ step p w scratch (left_behind items m)
  at_turn items m left = ap (λ (is : List Item). step p w scratch (left_behind is m)) left

  pub named_called : (f : List ℕ) (rest : List Item) (m : Machine) → m.frame.left ≡ Turns (CallTo (symbol.Named f) return_address) None ∷ rest → m.core.skip ≡ false
      → Calls p w scratch f m (named_call w rest m)
  named_called f rest m left skip =
      let to = run.return_address w m.frame rest in
      let s = calls p w to f (named_call w rest m) in
      let link = linked_there to 2 m.core refl in
      let goes : step p w scratch m ≡ s =
      at_turn (Turns (CallTo (symbol.Named f) 2) None ∷ rest) m left ∙ (named_step f rest m ∙ ap (λ (t : Bool). if t then Astray else s) skip) in
      record {
        defined = λ g none some. goes ∙ called_defined p w (named_call w rest m) to f g none some link;
        library = λ g is. goes ∙ called_library p w (named_call w rest m) to f g is link;
      }

  -- the word in the slot
  slot_done : (quiet : NothingIsNoted) (to : ℕ) (m : Machine) → m.core.skip ≡ false
      → does p w link_moved (linked 31 to m) ≡ On (record m { core = with_register 2 to (with_register 31 to m.core) })
  slot_done quiet to m skip =
      let c = with_register 31 to m.core in
      let moved = with_register 2 to c in
      let e : acts w (Some (Or 31 0 2)) c ≡ Acts moved =
      ap (λ (t : Bool). if t then Acts (record c { skip = false }) else executed w (Or 31 0 2) c) skip
      ∙ ap (λ v. Acts (with_register 2 v c)) (ap (λ x. bit_or x 0) (linked_there to 31 m.core refl) ∙ or_zero_r to) in
      ap (λ a. went_on p w (Some (Or 31 0 2)) a (linked 31 to m)) e
      ∙ ap (λ (l : List (Event ℕ ℕ)). On (record m { core = moved; trace = l ++ m.trace })) (quiet p w (Or 31 0 2) c refl refl)

  pub valued_called : (quiet : NothingIsNoted) (f : List ℕ) (rest : List Item) (m : Machine)
      → AreLawful p.flow w → map (λ g. g.located.body.name) p.functions ≡ map (λ g. g.name) (functions_of p.flow)
      → m.frame.left ≡ Turns CallReg (Some link_moved) ∷ rest → m.core.skip ≡ false
      → Contains (names_of p.flow) f → register m.core first ≡ w.named f → Calls p w scratch f m (valued_call w rest m)
  valued_called quiet f rest m lawful names left skip there is =
      let to = run.return_address w m.frame rest in
      let u = left_behind rest m in
      let s = calls p w to f (valued_call w rest m) in
      let link = linked_there to 2 (with_register 31 to m.core) refl in
      let at : function_at p w (register m.core 22) ≡ Some f = stands_at p w f (register m.core 22) lawful names there is in
      let goes : step p w scratch m ≡ s =
      at_turn (Turns CallReg (Some link_moved) ∷ rest) m left
      ∙ (valued_step rest m
      ∙ (ap (λ (t : Bool). if t then Astray else and_then (does p w link_moved (linked 31 to u)) (calls_at p w to (function_at p w (register m.core 22)))) skip
      ∙ (ap (λ (x : Step). and_then x (calls_at p w to (function_at p w (register m.core 22)))) (slot_done quiet to u skip)
      ∙ ap (λ (o : Option (List ℕ)). calls_at p w to o (valued_call w rest m)) at))) in
      record {
        defined = λ g none some. goes ∙ called_defined p w (valued_call w rest m) to f g none some link;
        library = λ g is. goes ∙ called_library p w (valued_call w rest m) to f g is link;
      }

  pub function_returns : (rest : List Item) (caller : Frame) (callers : List Frame) (m : Machine)
      → m.frame.left ≡ Turns Leave None ∷ rest → m.core.skip ≡ false → m.callers ≡ caller ∷ callers
      → register m.core return_address ≡ run.return_address w caller caller.left → register m.core stack_pointer ≡ m.frame.stack
      → step p w scratch m ≡ On (returned p w caller callers m)
  function_returns rest caller callers m left skip below link pointer =
      let to = run.return_address w caller caller.left in
      at_turn (Turns Leave None ∷ rest) m left
      ∙ (leave_step rest m
      ∙ (ap (λ (t : Bool). if t then Astray else returns p w (register m.core 2) (left_behind rest m)) skip
      ∙ (ap (λ (cs : List Frame). returns p w (register m.core 2) (left_behind rest (record m { callers = cs }))) below
      ∙ (ap (λ (t : Bool). if t && (register m.core 30 == m.frame.stack) then On (returned p w caller callers m) else Astray) (eq-eqb (register m.core 2) to link)
      ∙ ap (λ (t : Bool). if true && t then On (returned p w caller callers m) else Astray) (eq-eqb (register m.core 30) m.frame.stack pointer)))))
