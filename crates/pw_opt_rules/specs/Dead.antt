-- Dead operations: those that do no more than define a temporary which is not live directly behind them. All of them are
-- taken out at once.
use Rattle.std.specs.Prelude.{ℕ, ◌==◌, ◌&&◌, Bool, true, false, not, if◌then◌else◌, Option, None, Some, List, [], ◌∷◌, map, find, option_map, bytes_eq}
use Rattle.std.specs.List.{list_any}
use Rattle.pw_flow.specs.declared.flow.Op.{Op}
use Rattle.pw_flow.specs.declared.flow.Op.TheVariants.{Const, Copy, Un, Bin, Ext, AddrGlobal, AddrSlot, AddrFn, LoadG}
use Rattle.pw_flow.specs.declared.flow.Block.{Block}
use Rattle.pw_flow.specs.declared.flow.FlowGlobal.{FlowGlobal}
use Rattle.pw_flow.specs.declared.flow.FlowFn.{FlowFn}
use Rattle.pw_flow.specs.declared.flow.FlowModule.{FlowModule}
use Rattle.pw_flow.specs.Uses.{op_defines, end_uses, successors}
use Rattle.pw_flow.specs.Outline.{Outline, act_of, outline_of}
use Rattle.pw_live.specs.Liveness.{is_live}
use Rattle.pw_opt_rules.specs.Rewriting.{with_blocks}

-- ---- operations that do no more than define a temporary

-- the shape of a global object, as the module defines it or else declares it
abbrev pub shape_in : FlowModule → List ℕ → Option (List ℕ)
shape_in m g = defined_or (find (λ global. bytes_eq global.name g) m.globals)
  where
    declared : Option (List ℕ)
    declared = option_map (λ d. d.1) (find (λ d. bytes_eq d.0 g) m.declared)

    defined_or : Option FlowGlobal → Option (List ℕ)
    defined_or (Some global) = Some global.shape
    defined_or None = declared

-- a shape without `!`, the mark of a volatile type (ISO C90 6.5.3)
abbrev pub is_quiet : Option (List ℕ) → Bool
is_quiet (Some shape) = not (list_any (λ byte. byte == 33) shape)
is_quiet None = false

abbrev pub only_defines : FlowModule → Op → Bool
only_defines m (Const t n) = true
only_defines m (Copy t a) = true
only_defines m (Un k t a) = true
only_defines m (Bin k t a b) = true
only_defines m (Ext k t a) = true
only_defines m (AddrGlobal t g n) = true
only_defines m (AddrSlot t s) = true
only_defines m (AddrFn t f) = true
only_defines m (LoadG t g k) = is_quiet (shape_in m g)
only_defines m _ = false

-- ---- what is left

-- whether what an operation of a block defines is live directly behind it, where these follow
abbrev pub is_needed : Outline → Block → Option ℕ → List Op → Bool
is_needed f b None ops = true
is_needed f b (Some t) ops = is_live f t (map act_of ops) (end_uses b.end) (successors b.end)

abbrev pub is_dead : FlowModule → Outline → Block → Op → List Op → Bool
is_dead m f b o ops = only_defines m o && not (is_needed f b (op_defines o) ops)

abbrev pub live_ops : FlowModule → Outline → Block → List Op → List Op
live_ops m f b [] = []
live_ops m f b (o ∷ ops) = if is_dead m f b o ops then live_ops m f b ops else o ∷ live_ops m f b ops

abbrev pub live_block : FlowModule → Outline → Block → Block
live_block m f b = record { depth = b.depth; ops = live_ops m f b b.ops; end = b.end }

abbrev pub without_dead : FlowModule → FlowFn → FlowFn
without_dead m f = with_blocks f (map (live_block m (outline_of f)) f.blocks)
