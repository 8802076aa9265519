-- The names in the relocations of a compiled function: those that its operations name, and the globals of its webs.
use Rattle.std.proofs.Common.{ℕ, ◌+◌, Bool, true, false, if◌then◌else◌, Option, None, Some, List, [], ◌∷◌, ◌++◌, subst, inl, inr}
use Rattle.std.specs.Prelude.{nat_lt}
use Rattle.std.specs.List.{AllByRecursion, flat_map}
use Rattle.std.proofs.lemmas.List.Concat.{flat_map-cons}
use Rattle.pw_flow.specs.declared.flow.FlowFn.{FlowFn}
use Rattle.pw_flow.specs.FlowGraph.{names_in_function}
use Rattle.pw_db.specs.declared.database.Directives.{Directives}
use Rattle.pw_inst.specs.declared.Inst.{Inst}
use Rattle.pw_inst.specs.declared.Inst.TheVariants as i
use Rattle.pw_inst.specs.declared.line.Line.{Line}
use Rattle.pw_inst.specs.declared.line.Line.TheVariants as line
use Rattle.pw_inst.specs.declared.relocation.Symbol.{Symbol}
use Rattle.pw_inst.specs.declared.relocation.Symbol.TheVariants as symbol
use Rattle.pw_inst.specs.declared.relocation.Fix.{Fix}
use Rattle.pw_delay.specs.declared.items.Word.{Word}
use Rattle.pw_delay.specs.declared.items.Relocation.{Relocation}
use Rattle.pw_delay.specs.declared.items.Turn.{Turn}
use Rattle.pw_delay.specs.declared.items.Turn.TheVariants.{Back, Goto, If, CallTo, CallReg, Leave}
use Rattle.pw_delay.specs.declared.items.Item.{Item}
use Rattle.pw_delay.specs.declared.items.Item.TheVariants.{Plain, Turns, Mark}
use Rattle.pw_delay.specs.Items.{begins_next, plain_item, before, slotted}
use Rattle.pw_delay.specs.Filling.{drawn_near, filled}
use Rattle.pw_delay.specs.Placement.{in_slot, size, sizes, mark_at, branch_words, return_words, turn_words, item_words, words_from, fix_at, fixes_from, short_limit, laid, placed}
use Rattle.pw_alloc_temps.specs.Temporaries.{allocated}
use Rattle.pw_delay.proofs.Keeping.{PropertiesMove, properties_stay}
use Rattle.pw_webflow.specs.Direction.{directed}
use Rattle.pw_select.specs.Selection.{selected}
use Rattle.pw_object.specs.Functions.{names_of_symbol}
use Rattle.pw_link_interface.specs.Interface.{names_of_fixes}
use Rattle.pw_phase_two.specs.Phases.{compiled}
use Rattle.pw_files.proofs.Standing.{Has, has_split}
use Rattle.pw_law_shown.proofs.LineNames.{OfSymbol, AreNamed, lines_named}

module _ (P : List ℕ → Type 0) where
  -- ---- items

  abbrev OfRelocation : Option Relocation → Type 0
  OfRelocation None = Unit {0}
  OfRelocation (Some r) = OfSymbol P r.symbol

  abbrev IsNamedWord : Word → Type 0
  IsNamedWord w = OfRelocation w.relocation

  abbrev IsNamedSlot : Option Word → Type 0
  IsNamedSlot None = Unit {0}
  IsNamedSlot (Some w) = IsNamedWord w

  abbrev IsNamedTurn : Turn → Type 0
  IsNamedTurn (CallTo s link) = OfSymbol P s
  IsNamedTurn _ = Unit {0}

  abbrev IsNamedItem : Item → Type 0
  IsNamedItem (Plain w) = IsNamedWord w
  IsNamedItem (Turns turn slot) = IsNamedTurn turn × IsNamedSlot slot
  IsNamedItem (Mark b) = Unit {0}

  plain_named : (x : Inst) → IsNamedItem (plain_item x)
  plain_named (i.Combf c r1 r2 disp) = (tt, tt)
  plain_named x = tt

  jump_by : (b : ℕ) (items : List Item) (t : Bool) → AllByRecursion IsNamedItem items → AllByRecursion IsNamedItem (before (if t then None else Some (Turns (Goto b) None)) items)
  jump_by b items true h = h
  jump_by b items false h = ((tt, tt), h)

  slotted_named : (lines : List Line) → AreNamed P lines → AllByRecursion IsNamedItem (slotted lines)
  slotted_named [] h = tt
  slotted_named (line.Plain x ∷ rest) h = (plain_named x, slotted_named rest h.1)
  slotted_named (line.Fixed x k s n ∷ rest) h = (h.0, slotted_named rest h.1)
  slotted_named (line.Jump b ∷ rest) h = jump_by b (slotted rest) (begins_next b rest) (slotted_named rest h.1)
  slotted_named (line.BranchNonZero r b ∷ rest) h = ((tt, tt), slotted_named rest h.1)
  slotted_named (line.Label b ∷ rest) h = (tt, slotted_named rest h.1)
  slotted_named (line.CallTo s r ∷ rest) h = ((h.0, tt), slotted_named rest h.1)
  slotted_named (line.CallReg ∷ rest) h = ((tt, tt), slotted_named rest h.1)
  slotted_named (line.Leave ∷ rest) h = ((tt, tt), slotted_named rest h.1)

  -- ---- words

  slot_named : (slot : Option Word) → IsNamedSlot slot → IsNamedWord (in_slot slot)
  slot_named None h = tt
  slot_named (Some w) h = h

  branch_named : (long : Bool) (at r to : ℕ) (slot : Option Word) → IsNamedSlot slot → AllByRecursion IsNamedWord (branch_words long at r to slot)
  branch_named false at r to slot h = (tt, (slot_named slot h, tt))
  branch_named true at r to slot h = (tt, (slot_named slot h, (tt, (tt, tt))))

  return_named : (slot : Option Word) → IsNamedSlot slot → AllByRecursion IsNamedWord (return_words slot)
  return_named None h = (tt, tt)
  return_named (Some w) h = (tt, (h, tt))

  turn_named : (long : Bool) (begins : ℕ → ℕ) (at : ℕ) (turn : Turn) (slot : Option Word) → IsNamedTurn turn → IsNamedSlot slot → AllByRecursion IsNamedWord (turn_words long begins at turn slot)
  turn_named long begins at (Back x) slot h k = (tt, (slot_named slot k, tt))
  turn_named long begins at (Goto b) slot h k = (tt, (slot_named slot k, tt))
  turn_named long begins at (If r b) slot h k = branch_named long at r (begins b) slot k
  turn_named long begins at (CallTo s link) slot h k = (h, (slot_named slot k, tt))
  turn_named long begins at CallReg slot h k = (tt, (slot_named slot k, tt))
  turn_named long begins at Leave slot h k = return_named slot k

  item_named : (long : Bool) (begins : ℕ → ℕ) (at : ℕ) (item : Item) → IsNamedItem item → AllByRecursion IsNamedWord (item_words long begins at item)
  item_named long begins at (Plain w) h = (h, tt)
  item_named long begins at (Turns turn slot) h = turn_named long begins at turn slot h.0 h.1
  item_named long begins at (Mark b) h = tt

  both_named : (xs ys : List Word) → AllByRecursion IsNamedWord xs → AllByRecursion IsNamedWord ys → AllByRecursion IsNamedWord (xs ++ ys)
  both_named [] ys h k = k
  both_named (x ∷ xs) ys h k = (h.0, both_named xs ys h.1 k)

  words_named : (long : Bool) (begins : ℕ → ℕ) (at : ℕ) (items : List Item) → AllByRecursion IsNamedItem items → AllByRecursion IsNamedWord (words_from long begins at items)
  words_named long begins at [] h = tt
  words_named long begins at (item ∷ rest) h =
      both_named (item_words long begins at item) (words_from long begins (at + size long item) rest) (item_named long begins at item h.0) (words_named long begins (at + size long item) rest h.1)

  -- ---- relocations

  abbrev IsNamedFix : Fix → Type 0
  IsNamedFix f = OfSymbol P f.symbol

  fix_named : (at : ℕ) (r : Option Relocation) (rest : List Fix) → OfRelocation r → AllByRecursion IsNamedFix rest → AllByRecursion IsNamedFix (fix_at at r ++ rest)
  fix_named at None rest h k = k
  fix_named at (Some r) rest h k = (h, k)

  fixes_named : (at : ℕ) (words : List Word) → AllByRecursion IsNamedWord words → AllByRecursion IsNamedFix (fixes_from at words)
  fixes_named at [] h = tt
  fixes_named at (w ∷ rest) h = fix_named at w.relocation (fixes_from (at + 1) rest) h.0 (fixes_named (at + 1) rest h.1)

  near_named : (turn : Turn) → IsNamedTurn turn → IsNamedTurn (drawn_near turn)
  near_named (Back (i.Combf c r1 r2 disp)) h = tt
  near_named turn h = h

  named_moves : PropertiesMove IsNamedItem
  named_moves w turn plain turns free = (near_named turn turns.0, plain)

  placed_named : (lines : List Line) → AreNamed P lines → AllByRecursion IsNamedFix (placed lines).fixes
  unfolding placed laid
  placed_named lines h =
      let items = filled false (slotted lines) in
      let long = nat_lt short_limit (sizes false (slotted lines)) in
      fixes_named 0 (words_from long (mark_at long 0 items) 0 items)
      (words_named long (mark_at long 0 items) 0 items (properties_stay IsNamedItem false (slotted lines) named_moves (slotted_named lines h)))

  -- ---- names

  symbol_has : (s : Symbol) (n : List ℕ) → OfSymbol P s → Has n (names_of_symbol s) → P n
  symbol_has (symbol.Named name) n h (inl e) = subst P e h
  symbol_has (symbol.Named name) n h (inr k) = absurd k
  symbol_has (symbol.Word w) n h k = absurd k
  symbol_has symbol.StackLimit n h k = absurd k
  symbol_has (symbol.Routine r) n h k = absurd k

  fixes_have : (fixes : List Fix) (n : List ℕ) → AllByRecursion IsNamedFix fixes → Has n (flat_map (λ x. names_of_symbol x.symbol) fixes) → P n
  fixes_have [] n all h = absurd h
  fixes_have (f ∷ fs) n all h =
      elim (has_split n (names_of_symbol f.symbol) (flat_map (λ x. names_of_symbol x.symbol) fs) (subst (λ (ns : List (List ℕ)). Has n ns) (flat_map-cons (λ x. names_of_symbol x.symbol) f fs) h)) [
        | inl k ↦ symbol_has f.symbol n all.0 k
        | inr k ↦ fixes_have fs n all.1 k
      ]

  pub compiled_names : (f : FlowFn) (d : Directives) → ((n : List ℕ) → Has n (names_in_function f) → P n) → AllByRecursion (λ w. P w.0.global) d.webs → (n : List ℕ) → Has n (names_of_fixes (compiled f d)) → P n
  compiled_names f d own known n h =
      let lines = selected (allocated (directed f d)) in
      fixes_have (placed lines).fixes n (placed_named lines (lines_named P f d own known)) h
