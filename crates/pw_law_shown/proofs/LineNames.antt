-- The names in the lines that selection gives: those that the operations name, and the globals of webs that are entered.
use Rattle.std.proofs.Common.{ℕ, Option, None, Some, List, [], ◌∷◌, ◌++◌, map, sym, subst}
use Rattle.std.specs.List.{AllByRecursion, flat_map}
use Rattle.std.proofs.lemmas.List.Concat.{flat_map-cons}
use Rattle.pw_flow.specs.declared.flow.Op.{Op}
use Rattle.pw_flow.specs.declared.flow.Op.TheVariants as op
use Rattle.pw_flow.specs.declared.flow.Block.{Block}
use Rattle.pw_flow.specs.declared.flow.FlowFn.{FlowFn}
use Rattle.pw_flow.specs.FlowGraph.{op_names, names_in_block, names_in_function}
use Rattle.pw_db.specs.declared.database.Web.{Web}
use Rattle.pw_db.specs.declared.database.Role.{Role}
use Rattle.pw_db.specs.declared.database.Directives.{Directives}
use Rattle.pw_inst.specs.declared.line.Line.{Line}
use Rattle.pw_inst.specs.declared.line.Line.TheVariants.{Fixed, CallTo}
use Rattle.pw_inst.specs.declared.relocation.Symbol.{Symbol}
use Rattle.pw_inst.specs.declared.relocation.Symbol.TheVariants as symbol
use Rattle.pw_webflow.specs.Direction.{register_of, read_of, write_of, directed_op, directed_block, directed}
use Rattle.pw_alloc_temps.specs.Temporaries.{allocated}
use Rattle.pw_select.specs.Selection.{selected}
use Rattle.pw_law_select_walk.specs.Rows.{IsAddressed, IsRow, KnowsFlow, KnowsOp, KnowsBlock, KnowsWeb}
use Rattle.pw_law_select_walk.proofs.EachLine.{each_selected}
use Rattle.pw_files.proofs.Standing.{Has, has_left, has_right, each_by}

-- a symbol that is a name has one of these
abbrev pub OfSymbol : (List ℕ → Type 0) → Symbol → Type 0
OfSymbol P (symbol.Named name) = P name
OfSymbol P _ = Unit {0}

abbrev pub IsNamed : (List ℕ → Type 0) → Line → Type 0
IsNamed P (Fixed x k s n) = OfSymbol P s
IsNamed P (CallTo s r) = OfSymbol P s
IsNamed P _ = Unit {0}

abbrev pub AreNamed : (List ℕ → Type 0) → List Line → Type 0
AreNamed P lines = AllByRecursion (IsNamed P) lines

module _ (P : List ℕ → Type 0) where
  addressed_named : (s : Symbol) → IsAddressed P s → OfSymbol P s
  addressed_named (symbol.Named name) h = h
  addressed_named _ h = tt

  row_named : (l : Line) → IsRow P P l → IsNamed P l
  row_named (Fixed x k s n) h = addressed_named s h.1
  row_named (CallTo (symbol.Named f) r) h = h.1
  row_named (CallTo _ r) h = tt
  row_named _ h = tt

  -- ---- operations, by the names in them

  flow_known : (o : Op) → AllByRecursion P (op_names o) → KnowsFlow P P o
  flow_known (op.Call t f args) h = h.0
  flow_known _ h = h

  read_op : (r : Option ℕ) (t : ℕ) (o : Op) → AllByRecursion P (op_names o) → KnowsOp P P (read_of r t o)
  read_op None t o h = flow_known o h
  read_op (Some r) t o h = tt

  write_op : (r : Option ℕ) (a : ℕ) (o : Op) → AllByRecursion P (op_names o) → KnowsOp P P (write_of r a o)
  write_op None a o h = flow_known o h
  write_op (Some r) a o h = tt

  op_known : (webs : List (Web × Role)) (o : Op) → AllByRecursion P (op_names o) → KnowsOp P P (directed_op webs o)
  op_known webs (op.LoadG t g k) h = read_op (register_of webs g) t (op.LoadG t g k) h
  op_known webs (op.StoreG g a k) h = write_op (register_of webs g) a (op.StoreG g a k) h
  op_known webs o h = flow_known o h

  ops_known : (webs : List (Web × Role)) (ops : List Op) → ((n : List ℕ) → Has n (flat_map op_names ops) → P n) → AllByRecursion (KnowsOp P P) (map (directed_op webs) ops)
  ops_known webs [] own = tt
  ops_known webs (o ∷ rest) own =
      let own_split = λ (n : List ℕ) (h : Has n (op_names o ++ flat_map op_names rest)). own n (subst (λ (ns : List (List ℕ)). Has n ns) (sym (flat_map-cons op_names o rest)) h) in (
        op_known webs o (each_by P (op_names o) (λ n h. own_split n (has_left n (op_names o) (flat_map op_names rest) h))),
        ops_known webs rest (λ n h. own_split n (has_right n (op_names o) (flat_map op_names rest) h)),
      )

  blocks_known : (webs : List (Web × Role)) (blocks : List Block) → ((n : List ℕ) → Has n (flat_map names_in_block blocks) → P n) → AllByRecursion (KnowsBlock P P) (map (directed_block webs) blocks)
  blocks_known webs [] own = tt
  blocks_known webs (b ∷ rest) own =
      let own_split = λ (n : List ℕ) (h : Has n (names_in_block b ++ flat_map names_in_block rest)). own n (subst (λ (ns : List (List ℕ)). Has n ns) (sym (flat_map-cons names_in_block b rest)) h) in (
        ops_known webs b.ops (λ n h. own_split n (has_left n (names_in_block b) (flat_map names_in_block rest) h)),
        blocks_known webs rest (λ n h. own_split n (has_right n (names_in_block b) (flat_map names_in_block rest) h)),
      )

  -- the lines of a function under its directives
  pub lines_named : (f : FlowFn) (d : Directives) → ((n : List ℕ) → Has n (names_in_function f) → P n) → AllByRecursion (KnowsWeb P) d.webs → AreNamed P (selected (allocated (directed f d)))
  unfolding allocated directed
  lines_named f d own known =
      each_selected P P (IsNamed P) row_named (λ (b : ℕ). tt) (allocated (directed f d)) (record { blocks = blocks_known d.webs f.blocks own; webs = known })
