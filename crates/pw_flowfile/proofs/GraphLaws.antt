-- Blocks, functions, global objects and declared names: what is read is spelled so and lawful, and
-- what is spelled so and lawful is read again.
use Rattle.std.proofs.Common.{◌≡◌, ℕ, ◌+◌, ◌*◌, ◌^◌, ◌<◌, ◌≤◌, Bool, true, false, List, [], ◌∷◌, ◌++◌, length, Result, Ok, refl, sym, ap, subst, ◌∙◌, arith}
use Rattle.std.specs.Prelude.{Option, Some, None, IfSome, Contains, nat_le, nat_lt, ◌&&◌, not, slice_get}
use Rattle.std.specs.List.{flat_map, AllByRecursion}
use Rattle.std.specs.Cmp.{first_so, second_so}
use Rattle.std.specs.Cmp.Derive.{both_true}
use Rattle.std.proofs.lemmas.Bool.{eqb-true, eq-eqb, leb-true, le-leb, ltb-true, lt-ltb}
use Rattle.std.proofs.lemmas.List.{append-nil}
use Rattle.pw_value.specs.Limits.{parameter_limit, room_limit}
use Rattle.pw_value.specs.declared.program_names.StartName.{StartName}
use Rattle.pw_value.specs.declared.program_names.StartName.TheVariants.{Refused}
use Rattle.pw_value.specs.declared.value.Kind.{Kind}
use Rattle.pw_fields.specs.Fields.{◌>>=◌, done, checked, u32_at, text_at, flag_at, items_at, repeated, u8, u32, text, flag, FitsU32, FitsText, FitInTurn}
use Rattle.pw_fields.specs.FieldLaws.{Spells}
use Rattle.pw_fields.specs.FieldNames.{name_at, name_index, is_among, IsNameTable}
use Rattle.pw_fields.proofs.FieldLaws.{checked_spells, u32_spells, text_spells, flag_spells, found_is, after_passes}
use Rattle.pw_fields.proofs.NameLaws.{name_spells}
use Rattle.pw_fields.proofs.FieldSteps.{items_spell, repeated_spells}
use Rattle.pw_files.specs.Kinds.{kind as kind_byte, kind_at}
use Rattle.pw_files.specs.Names.{shaped}
use Rattle.pw_files.proofs.KindLaws.{kind_spells}
use Rattle.pw_flow.specs.declared.flow.Item.{Item}
use Rattle.pw_flow.specs.declared.flow.FlowGlobal.{FlowGlobal}
use Rattle.pw_flow.specs.declared.flow.Block.{Block}
use Rattle.pw_flow.specs.declared.flow.FlowFn.{FlowFn}
use Rattle.pw_flow.specs.declared.flow.Item.TheVariants.{Bytes, Address}
use Rattle.pw_flow.specs.FlowGraph.{item_names, op_names, names_in_global, names_in_block, names_in_function}
use Rattle.pw_value.specs.Rounding.{slot_room}
use Rattle.pw_flow.specs.ValidFlow.{kind_size, item_size, IsItem, AreItems, IsGlobal, IsOp, IsEnd, IsBlock, rooms, HasFewParts, IsFunction}
use Rattle.pw_flow.proofs.Lists.{all_flat, all_flat_back, all_both, all_first, all_second}
use Rattle.pw_flow.proofs.Rooms.{grows}
use Rattle.pw_flow_ops.specs.Operations.{op, ending, FitsOp, Named, OpFits}
use Rattle.pw_flow_ops.specs.Reading.{one_of_at, op_at, end_at, named_at}
use Rattle.pw_flow_ops.proofs.FieldChains.{Takes, takes_field, takes_done, again_field, chained}
use Rattle.pw_flow_ops.proofs.ChoiceLaws.{Any, one_spells}
use Rattle.pw_flow_ops.proofs.PartLaws.{ruled_spells, named_spells}
use Rattle.pw_flow_ops.proofs.OpLaws.{op_spells}
use Rattle.pw_flow_ops.proofs.EndLaws.{end_spells}
use Rattle.pw_flowfile.specs.declared.globals.ItemForm.{ItemForm}
use Rattle.pw_flowfile.specs.declared.globals.ItemForm.TheVariants as form
use Rattle.pw_flowfile.specs.FlowFile.{item_forms, form_number, item, placed_item, global_body, global, block, function, FitsBlock, FitsFunction, FitsGlobal}
use Rattle.pw_flowfile.specs.Reading.{has_room, content_at, item_at, placed_item_at, next_free, has_kind_size, global_body_at, global_at, block_at, slot_at, next_room, code_at, function_body_at, function_at, fresh_at, declared_body_at, declared_at}

-- ---- a value that is made of what was read

takes_map : {A X : Type 0} (P : List ℕ → List ℕ → X → Type 0) (read : List ℕ → Result (A × List ℕ) ℕ) (f : A → X) → Takes (λ text rest a. P text rest (f a)) read → Takes P (read >>= λ a. done (f a))
takes_map P read f laws = record {
  run = λ bytes x rest fits e.
      let p = after_passes (read bytes) (λ a. done (f a)) x rest e in
      let q = found_is (f p.0) x p.1 rest p.3 in
      let t = laws.run bytes p.0 p.1 fits p.2 in
      (t.0, t.1 ∙ ap (λ (w : List ℕ). t.0 ++ w) q.1, subst (λ (r : List ℕ). P t.0 r x) q.1 (subst (λ y. P t.0 p.1 y) q.0 t.2));
}

again_map : {A X : Type 0} (read : List ℕ → Result (A × List ℕ) ℕ) (f : A → X) (text rest : List ℕ) (a : A) → read (text ++ rest) ≡ Ok (a, rest) → (read >>= λ a. done (f a)) (text ++ rest) ≡ Ok (f a, rest)
again_map read f text rest a e = rw e refl

-- ---- names that are met once

abbrev pub Fresh : List (List ℕ) → List (List ℕ) → List ℕ → Type 0
Fresh names seen name = Contains names name × (is_among seen name ≡ false)

not_true : (b : Bool) → not b ≡ true → b ≡ false
not_true true e = absurd cc
not_true false e = refl

true_not : (b : Bool) → b ≡ false → not b ≡ true
true_not b e = rw e refl

pub fresh_spells : (names : List (List ℕ)) → IsNameTable names → (seen : List (List ℕ)) → Spells (name_index names) (Fresh names seen) (fresh_at names seen)
unfolding fresh_at
fresh_spells names table seen = ruled_spells (name_index names) _ (Fresh names seen) _ (checked_spells (name_index names) (Contains names) (name_at names) (λ name. not (is_among seen name)) (name_spells names table))
    (λ name h. (h.0, not_true _ h.1)) (λ name h. (h.0, true_not _ h.1))

-- ---- blocks

abbrev pub BlockFits : List (List ℕ) → ℕ → ℕ → ℕ → Block → Type 0
BlockFits names temps slots blocks b = IsBlock temps slots blocks b × (FitsBlock b × AllByRecursion (Named Refused names) (names_in_block b))

pub block_spells : (names : List (List ℕ)) → IsNameTable names → (temps slots blocks : ℕ) → temps < 2 ^ 31 → slots < 2 ^ 31 → blocks ≤ 2 ^ 32 → Spells (block names) (BlockFits names temps slots blocks) (block_at names temps slots blocks)
unfolding block_at
block_spells names table temps slots blocks small few most =
    let P = IsOp temps slots in
    let Q = λ (o : _). AllByRecursion (Named Refused names) (op_names o) in
    chained (block names) (BlockFits names temps slots blocks) _
    (takes_field _ u32 FitsU32 u32_at _ u32_spells
    (λ depth d. takes_field _ u32 FitsU32 u32_at _ u32_spells
    (λ count n. takes_field _ (flat_map (op names)) (λ ops. (length ops ≡ count) × AllByRecursion (OpFits names temps slots) ops) (repeated (op_at names temps slots) count) _
    (repeated_spells (op names) (OpFits names temps slots) (op_at names temps slots) (op_spells names table temps slots small few) count)
    (λ ops fit. takes_field _ ending (IsEnd temps blocks) (end_at temps blocks) _ (end_spells temps blocks small most)
    (λ e h. takes_done _ (record { depth = depth; ops = ops; end = e }) (λ rest. (
      ap (λ n. u32 depth ++ (u32 n ++ (flat_map (op names) ops ++ (ending e ++ [])))) (sym fit.0),
      (
        record { depth = d; ops = all_first P (λ o. FitsOp o × Q o) ops fit.1; end = h },
        (
          record { count = rw fit.0 n; ops = all_first FitsOp Q ops (all_second P (λ o. FitsOp o × Q o) ops fit.1) },
          all_flat op_names (Named Refused names) ops (all_second FitsOp Q ops (all_second P (λ o. FitsOp o × Q o) ops fit.1)),
        ),
      ),
    )))))))
    (λ b rest h. again_field u32 FitsU32 u32_at _ u32_spells b.depth h.0.depth (u32 (length b.ops) ++ (flat_map (op names) b.ops ++ (ending b.end ++ []))) rest b
    (again_field u32 FitsU32 u32_at _ u32_spells (length b.ops) h.1.0.count (flat_map (op names) b.ops ++ (ending b.end ++ [])) rest b
    (again_field (flat_map (op names)) (λ ops. (length ops ≡ length b.ops) × AllByRecursion (OpFits names temps slots) ops) (repeated (op_at names temps slots) (length b.ops)) _
    (repeated_spells (op names) (OpFits names temps slots) (op_at names temps slots) (op_spells names table temps slots small few) (length b.ops)) b.ops
    (refl, all_both P (λ o. FitsOp o × Q o) b.ops h.0.ops (all_both FitsOp Q b.ops h.1.0.ops (all_flat_back op_names (Named Refused names) b.ops h.1.1))) (ending b.end ++ []) rest b
    (again_field ending (IsEnd temps blocks) (end_at temps blocks) _ (end_spells temps blocks small most) b.end h.0.end [] rest b refl))))

-- ---- functions

slot_spells : (room : ℕ) → Spells u32 (λ s. room + slot_room s ≤ room_limit) (slot_at room)
unfolding slot_at
slot_spells room = ruled_spells u32 _ (λ s. room + slot_room s ≤ room_limit) _ (checked_spells u32 FitsU32 u32_at (λ s. nat_le (room + slot_room s) room_limit) u32_spells) (λ s h. leb-true _ _ h.1) (λ s h. (omega (arith, h), le-leb _ _ h))

abbrev SlotFits : ℕ → ℕ → Type 0
SlotFits room s = room + slot_room s ≤ room_limit

slots_forth : (room : ℕ) (slots : List ℕ) → room ≤ room_limit → FitInTurn SlotFits next_room room slots → rooms room slots ≤ room_limit
slots_forth room [] h fits = h
slots_forth room (s ∷ slots) h fits = slots_forth (room + slot_room s) slots fits.0 fits.1

slots_back : (room : ℕ) (slots : List ℕ) → rooms room slots ≤ room_limit → FitInTurn SlotFits next_room room slots
slots_back room [] h = tt
slots_back room (s ∷ slots) h = (omega (arith, grows (room + slot_room s) slots), slots_back (room + slot_room s) slots h)

-- each slot takes eight bytes at least
few_slots : (room : ℕ) (slots : List ℕ) → 8 * length slots + room ≤ rooms room slots
few_slots room [] = omega arith
few_slots room (s ∷ slots) = omega (arith, few_slots (room + slot_room s) slots)

abbrev pub FunctionFits : List (List ℕ) → FlowFn → Type 0
FunctionFits names f = IsFunction f × (FitsFunction f × (Contains names f.name × AllByRecursion (Named Refused names) (names_in_function f)))

abbrev pub FunctionStands : List (List ℕ) → List (List ℕ) → FlowFn → Type 0
FunctionStands names seen f = (is_among seen f.name ≡ false) × FunctionFits names f

abbrev temps_rule : ℕ → ℕ → Bool
temps_rule params t = nat_le params t && nat_le (4 * t) room_limit

params_spells : Spells u32 (λ p. p ≤ parameter_limit) (checked (λ p. nat_le p parameter_limit) u32_at)
params_spells = ruled_spells u32 _ (λ p. p ≤ parameter_limit) _ (checked_spells u32 FitsU32 u32_at (λ p. nat_le p parameter_limit) u32_spells) (λ p h. leb-true _ _ h.1) (λ p h. (omega (arith, h), le-leb _ _ h))

abbrev TempsFit : ℕ → ℕ → Type 0
TempsFit params t = (params ≤ t) × (4 * t ≤ room_limit)

temps_spells : (params : ℕ) → Spells u32 (TempsFit params) (checked (λ t. nat_le params t && nat_le (4 * t) room_limit) u32_at)
temps_spells params = ruled_spells u32 _ (TempsFit params) _ (checked_spells u32 FitsU32 u32_at (temps_rule params) u32_spells)
    (λ t h. (leb-true _ _ (first_so (nat_le params t) (nat_le (4 * t) room_limit) h.1), leb-true _ _ (second_so (nat_le params t) (nat_le (4 * t) room_limit) h.1)))
    (λ t h. (omega (arith, h.1), both_true (le-leb _ _ h.0) (le-leb _ _ h.1)))

count_spells : Spells u32 (λ n. FitsU32 n × (0 < n)) (checked (λ n. nat_lt 0 n) u32_at)
count_spells = ruled_spells u32 _ (λ n. FitsU32 n × (0 < n)) _ (checked_spells u32 FitsU32 u32_at (λ n. nat_lt 0 n) u32_spells) (λ n h. (h.0, ltb-true _ _ h.1)) (λ n h. (h.0, lt-ltb _ _ h.1))

function_text : (names : List (List ℕ)) (name shape : List ℕ) (params temps : ℕ) (slots : List ℕ) (blocks : List Block) (m n : ℕ) → List ℕ
function_text names name shape params temps slots blocks m n = name_index names name ++ (text shape ++ (u32 params ++ (u32 temps ++ (u32 m ++ (flat_map u32 slots ++ (u32 n ++ (flat_map (block names) blocks ++ [])))))))

few_by : (temps : ℕ) (slots : List ℕ) (m : ℕ) → length slots ≡ m → rooms (4 * temps) slots ≤ room_limit → m < 2 ^ 31
few_by temps slots m len h = omega (arith, few_slots (4 * temps) slots)

blocks_fit : (names : List (List ℕ)) (temps m n k : ℕ) (blocks : List Block) → k ≡ m → length blocks ≡ n → AllByRecursion (BlockFits names temps m n) blocks → AllByRecursion (BlockFits names temps k (length blocks)) blocks
blocks_fit names temps m n k blocks same len all =
    subst (λ (i : ℕ). AllByRecursion (BlockFits names temps k i) blocks) (sym len) (subst (λ (i : ℕ). AllByRecursion (BlockFits names temps i n) blocks) (sym same) all)

is_function : (names : List (List ℕ)) (f : FlowFn) → HasFewParts f → FitsText f.shape → FitsU32 (length f.blocks) → Contains names f.name → AllByRecursion (BlockFits names f.temps (length f.slots) (length f.blocks)) f.blocks → FunctionFits names f
is_function names f few shape count stands all =
    let P = IsBlock f.temps (length f.slots) (length f.blocks) in
    let Q = λ (b : Block). AllByRecursion (Named Refused names) (names_in_block b) in
    let rest = all_second P (λ b. FitsBlock b × Q b) f.blocks all in (
      record { few = few; blocks = all_first P (λ b. FitsBlock b × Q b) f.blocks all },
      (record { shape = shape; count = count; blocks = all_first FitsBlock Q f.blocks rest }, (stands, all_flat names_in_block (Named Refused names) f.blocks (all_second FitsBlock Q f.blocks rest))),
    )

its_blocks : (names : List (List ℕ)) (f : FlowFn) → FunctionFits names f → AllByRecursion (BlockFits names f.temps (length f.slots) (length f.blocks)) f.blocks
its_blocks names f h =
    let P = IsBlock f.temps (length f.slots) (length f.blocks) in
    let Q = λ (b : Block). AllByRecursion (Named Refused names) (names_in_block b) in
    all_both P (λ b. FitsBlock b × Q b) f.blocks h.0.blocks (all_both FitsBlock Q f.blocks h.1.0.blocks (all_flat_back names_in_block (Named Refused names) f.blocks h.1.1.1))

function_takes : (names : List (List ℕ)) → IsNameTable names → (seen : List (List ℕ)) → Takes (λ text rest f. (text ≡ function names f) × FunctionStands names seen f) (function_at names seen)
unfolding function_at function_body_at code_at
function_takes names table seen =
    takes_field _ (name_index names) (Fresh names seen) (fresh_at names seen) _ (fresh_spells names table seen)
    (λ name fresh. takes_field _ text FitsText text_at _ text_spells
    (λ shape shape_fits. takes_field _ u32 (λ p. p ≤ parameter_limit) (checked (λ p. nat_le p parameter_limit) u32_at) _ params_spells
    (λ params p. takes_field _ u32 (TempsFit params) (checked (λ t. nat_le params t && nat_le (4 * t) room_limit) u32_at) _ (temps_spells params)
    (λ temps t. takes_map _ (code_at names temps) (λ c. record { name = name; shape = shape; params = params; temps = temps; slots = c.0; blocks = c.1 })
    (takes_field _ u32 FitsU32 u32_at _ u32_spells
    (λ slot_count sc. takes_field _ (flat_map u32) (λ ss. (length ss ≡ slot_count) × FitInTurn SlotFits next_room (4 * temps) ss) (items_at slot_at next_room slot_count (4 * temps)) _
    (items_spell u32 SlotFits slot_at next_room slot_spells slot_count (4 * temps))
    (λ slots s. takes_field _ u32 (λ n. FitsU32 n × (0 < n)) (checked (λ n. nat_lt 0 n) u32_at) _ count_spells
    (λ count c.
    let room = slots_forth (4 * temps) slots t.1 s.1 in
    takes_field _ (flat_map (block names)) (λ bs. (length bs ≡ count) × AllByRecursion (BlockFits names temps slot_count count) bs) (repeated (block_at names temps slot_count count) count) _
    (repeated_spells (block names) (BlockFits names temps slot_count count) (block_at names temps slot_count count) (block_spells names table temps slot_count count (omega (arith, t.1)) (few_by temps slots slot_count s.0 room) (omega (arith, c.0))) count)
    (λ blocks b. takes_done _ (slots, blocks) (λ rest. (
      ap (λ m. name_index names name ++ (text shape ++ (u32 params ++ (u32 temps ++ (u32 m ++ (flat_map u32 slots ++ (u32 count ++ (flat_map (block names) blocks ++ [])))))))) (sym s.0)
          ∙ ap (λ n. name_index names name ++ (text shape ++ (u32 params ++ (u32 temps ++ (u32 (length slots) ++ (flat_map u32 slots ++ (u32 n ++ (flat_map (block names) blocks ++ [])))))))) (sym b.0),
      (fresh.1, is_function names (record { name = name; shape = shape; params = params; temps = temps; slots = slots; blocks = blocks }) (record { few_params = p; params = t.0; room = room; start = rw b.0 c.1 }) shape_fits (rw b.0 c.0) fresh.0 (blocks_fit names temps slot_count count (length slots) blocks s.0 b.0 b.1)),
    )))))))))))

function_again : (names : List (List ℕ)) → IsNameTable names → (seen : List (List ℕ)) (f : FlowFn) (rest : List ℕ) → FunctionStands names seen f → function_at names seen (function names f ++ rest) ≡ Ok (f, rest)
unfolding function_at function_body_at code_at
function_again names table seen f rest h =
    let few = h.1.0.few in
    let code : List ℕ × List Block = (f.slots, f.blocks) in
    let temps_few : 4 * f.temps ≤ room_limit = omega (arith, few.room, grows (4 * f.temps) f.slots) in
    let slots_few = few_by f.temps f.slots (length f.slots) refl few.room in
    let blocks_text = flat_map (block names) f.blocks ++ [] in
    let slots_text = flat_map u32 f.slots ++ (u32 (length f.blocks) ++ blocks_text) in
    again_field (name_index names) (Fresh names seen) (fresh_at names seen) _ (fresh_spells names table seen) f.name (h.1.1.1.0, h.0) (text f.shape ++ (u32 f.params ++ (u32 f.temps ++ (u32 (length f.slots) ++ slots_text)))) rest f
    (again_field text FitsText text_at _ text_spells f.shape h.1.1.0.shape (u32 f.params ++ (u32 f.temps ++ (u32 (length f.slots) ++ slots_text))) rest f
    (again_field u32 (λ p. p ≤ parameter_limit) (checked (λ p. nat_le p parameter_limit) u32_at) _ params_spells f.params few.few_params (u32 f.temps ++ (u32 (length f.slots) ++ slots_text)) rest f
    (again_field u32 (TempsFit f.params) (checked (λ t. nat_le f.params t && nat_le (4 * t) room_limit) u32_at) _ (temps_spells f.params) f.temps (few.params, temps_few) (u32 (length f.slots) ++ slots_text) rest f
    (again_map (code_at names f.temps) (λ c. record { name = f.name; shape = f.shape; params = f.params; temps = f.temps; slots = c.0; blocks = c.1 }) (u32 (length f.slots) ++ slots_text) rest code
    (again_field u32 FitsU32 u32_at _ u32_spells (length f.slots) (omega (arith, slots_few)) slots_text rest code
    (again_field (flat_map u32) (λ ss. (length ss ≡ length f.slots) × FitInTurn SlotFits next_room (4 * f.temps) ss) (items_at slot_at next_room (length f.slots) (4 * f.temps)) _
    (items_spell u32 SlotFits slot_at next_room slot_spells (length f.slots) (4 * f.temps)) f.slots (refl, slots_back (4 * f.temps) f.slots few.room) (u32 (length f.blocks) ++ blocks_text) rest code
    (again_field u32 (λ n. FitsU32 n × (0 < n)) (checked (λ n. nat_lt 0 n) u32_at) _ count_spells (length f.blocks) (h.1.1.0.count, few.start) blocks_text rest code
    (again_field (flat_map (block names)) (λ bs. (length bs ≡ length f.blocks) × AllByRecursion (BlockFits names f.temps (length f.slots) (length f.blocks)) bs) (repeated (block_at names f.temps (length f.slots) (length f.blocks)) (length f.blocks)) _
    (repeated_spells (block names) (BlockFits names f.temps (length f.slots) (length f.blocks)) (block_at names f.temps (length f.slots) (length f.blocks)) (block_spells names table f.temps (length f.slots) (length f.blocks) (omega (arith, temps_few)) slots_few (omega (arith, h.1.1.0.count))) (length f.blocks))
    f.blocks (refl, its_blocks names f h.1) [] rest code refl))))))))

pub function_spells : (names : List (List ℕ)) → IsNameTable names → (seen : List (List ℕ)) → Spells (function names) (FunctionStands names seen) (function_at names seen)
function_spells names table seen = chained (function names) (FunctionStands names seen) (function_at names seen) (function_takes names table seen) (function_again names table seen)

-- ---- global objects

abbrev pub PlacedFits : StartName → List (List ℕ) → ℕ → ℕ → ℕ × Item → Type 0
PlacedFits start names size free i = ((free ≤ i.0) × (i.0 + item_size i.1 ≤ size) × IsItem i.1) × AllByRecursion (Named start names) (item_names i.1)

abbrev ContentFits : StartName → List (List ℕ) → ℕ → ℕ → Item → Type 0
ContentFits start names size offset i = (offset + item_size i ≤ size) × (IsItem i × AllByRecursion (Named start names) (item_names i))

bytes_spells : (size offset : ℕ) → size < 2 ^ 32 → Spells text (λ b. offset + length b ≤ size) (checked (λ b. nat_le (offset + length b) size) text_at)
bytes_spells size offset small = ruled_spells text _ (λ b. offset + length b ≤ size) _ (checked_spells text FitsText text_at (λ b. nat_le (offset + length b) size) text_spells) (λ b h. leb-true _ _ h.1) (λ b h. (omega (arith, h), le-leb _ _ h))

form_back : (f : ItemForm) → slice_get item_forms (form_number f) ≡ Some f
form_back form.Bytes = refl
form_back form.Address = refl

pub form_spells : Spells (λ f. u8 (form_number f)) Any (one_of_at item_forms)
form_spells = one_spells form_number item_forms (refl, (refl, tt)) form_back

abbrev RoomFor : ℕ → ℕ → ItemForm → Type 0
RoomFor size offset form.Bytes = Unit {0}
RoomFor size offset form.Address = offset + 4 ≤ size

room_forth : (size offset : ℕ) (f : ItemForm) → has_room f size offset ≡ true → RoomFor size offset f
room_forth size offset form.Bytes e = tt
room_forth size offset form.Address e = leb-true _ _ e

room_back : (size offset : ℕ) (f : ItemForm) → RoomFor size offset f → has_room f size offset ≡ true
room_back size offset form.Bytes h = refl
room_back size offset form.Address h = le-leb _ _ h

form_room_spells : (size offset : ℕ) → Spells (λ f. u8 (form_number f)) (RoomFor size offset) (checked (λ f. has_room f size offset) (one_of_at item_forms))
form_room_spells size offset = ruled_spells (λ f. u8 (form_number f)) _ (RoomFor size offset) _ (checked_spells (λ f. u8 (form_number f)) Any (one_of_at item_forms) (λ f. has_room f size offset) form_spells)
    (λ f h. room_forth size offset f h.1) (λ f h. (tt, room_back size offset f h))

-- the text of an item behind its form
content_take : (start : StartName) (names : List (List ℕ)) → IsNameTable names → (size offset : ℕ) → size < 2 ^ 32 → (f : ItemForm) → RoomFor size offset f
    → Takes (λ text rest i. (u8 (form_number f) ++ text ≡ item names i) × ContentFits start names size offset i) (content_at start names size offset f)
unfolding content_at
content_take start names table size offset small form.Bytes room =
    takes_field _ text (λ b. offset + length b ≤ size) (checked (λ b. nat_le (offset + length b) size) text_at) _ (bytes_spells size offset small) (λ b h. takes_done _ (Bytes b) (λ rest. (refl, (h, (tt, tt)))))
content_take start names table size offset small form.Address room =
    takes_field _ (name_index names) (Named start names) (named_at start names) _ (named_spells start names table)
    (λ name h. takes_field _ u32 FitsU32 u32_at _ u32_spells (λ n i. takes_done _ (Address name n) (λ rest. (refl, (room, (i, (h, tt)))))))

content_again : (start : StartName) (names : List (List ℕ)) → IsNameTable names → (size offset : ℕ) → size < 2 ^ 32 → (i : Item) (rest : List ℕ) → ContentFits start names size offset i
    → item_at start names size offset (item names i ++ rest) ≡ Ok (i, rest)
unfolding item_at content_at
content_again start names table size offset small (Bytes b) rest h =
    again_field (λ f. u8 (form_number f)) (RoomFor size offset) (checked (λ f. has_room f size offset) (one_of_at item_forms)) _ (form_room_spells size offset) form.Bytes tt (text b ++ []) rest (Bytes b)
    (again_field text (λ b. offset + length b ≤ size) (checked (λ b. nat_le (offset + length b) size) text_at) _ (bytes_spells size offset small) b h.0 [] rest (Bytes b) refl)
content_again start names table size offset small (Address name n) rest h =
    again_field (λ f. u8 (form_number f)) (RoomFor size offset) (checked (λ f. has_room f size offset) (one_of_at item_forms)) _ (form_room_spells size offset) form.Address h.0 (name_index names name ++ (u32 n ++ [])) rest (Address name n)
    (again_field (name_index names) (Named start names) (named_at start names) _ (named_spells start names table) name h.1.1.0 (u32 n ++ []) rest (Address name n)
    (again_field u32 FitsU32 u32_at _ u32_spells n h.1.0 [] rest (Address name n) refl))

content_spells : (start : StartName) (names : List (List ℕ)) → IsNameTable names → (size offset : ℕ) → size < 2 ^ 32 → Spells (item names) (ContentFits start names size offset) (item_at start names size offset)
unfolding item_at
content_spells start names table size offset small = chained (item names) (ContentFits start names size offset) _
    (takes_field _ (λ f. u8 (form_number f)) (RoomFor size offset) (checked (λ f. has_room f size offset) (one_of_at item_forms)) _ (form_room_spells size offset) (λ f room. content_take start names table size offset small f room))
    (content_again start names table size offset small)

abbrev OffsetFits : ℕ → ℕ → ℕ → Type 0
OffsetFits size free o = (free ≤ o) × (o ≤ size)

offset_spells : (size free : ℕ) → size < 2 ^ 32 → Spells u32 (OffsetFits size free) (checked (λ o. nat_le free o && nat_le o size) u32_at)
offset_spells size free small = ruled_spells u32 _ (OffsetFits size free) _ (checked_spells u32 FitsU32 u32_at (λ o. nat_le free o && nat_le o size) u32_spells)
    (λ o h. (leb-true _ _ (first_so (nat_le free o) (nat_le o size) h.1), leb-true _ _ (second_so (nat_le free o) (nat_le o size) h.1)))
    (λ o h. (omega (arith, h.1), both_true (le-leb _ _ h.0) (le-leb _ _ h.1)))

pub placed_spells : (start : StartName) (names : List (List ℕ)) → IsNameTable names → (size : ℕ) → size < 2 ^ 32 → (free : ℕ) → Spells (placed_item names) (PlacedFits start names size free) (placed_item_at start names size free)
unfolding placed_item_at
placed_spells start names table size small free = chained (placed_item names) (PlacedFits start names size free) _
    (takes_field _ u32 (OffsetFits size free) (checked (λ o. nat_le free o && nat_le o size) u32_at) _ (offset_spells size free small)
    (λ offset o. takes_field _ (item names) (ContentFits start names size offset) (item_at start names size offset) _ (content_spells start names table size offset small)
    (λ i h. takes_done _ (offset, i) (λ rest. (refl, ((o.0, h.0, h.1.0), h.1.1))))))
    (λ p rest h. again_field u32 (OffsetFits size free) (checked (λ o. nat_le free o && nat_le o size) u32_at) _ (offset_spells size free small) p.0 (h.0.0, omega (arith, h.0.1)) (item names p.1 ++ []) rest p
    (again_field (item names) (ContentFits start names size p.0) (item_at start names size p.0) _ (content_spells start names table size p.0 small) p.1 (h.0.1, (h.0.2, h.1)) [] rest p refl))

abbrev ItemNamed : StartName → List (List ℕ) → ℕ × Item → Type 0
ItemNamed start names i = AllByRecursion (Named start names) (item_names i.1)

items_forth : (start : StartName) (names : List (List ℕ)) (size free : ℕ) (items : List (ℕ × Item)) → FitInTurn (PlacedFits start names size) next_free free items → AreItems size free items × AllByRecursion (ItemNamed start names) items
items_forth start names size free [] fits = (tt, tt)
items_forth start names size free (i ∷ items) fits =
    let rest = items_forth start names size (next_free free i) items fits.1 in
    ((fits.0.0, rest.0), (fits.0.1, rest.1))

items_back : (start : StartName) (names : List (List ℕ)) (size free : ℕ) (items : List (ℕ × Item)) → AreItems size free items → AllByRecursion (ItemNamed start names) items → FitInTurn (PlacedFits start names size) next_free free items
items_back start names size free [] are named = tt
items_back start names size free (i ∷ items) are named = ((are.0, named.0), items_back start names size (next_free free i) items are.1 named.1)

-- the size of a kind
kind_forth : (size : ℕ) (k : Option Kind) → has_kind_size size k ≡ true → IfSome k (λ k. size ≡ kind_size k)
kind_forth size None e = tt
kind_forth size (Some k) e = eqb-true _ _ e

kind_back : (size : ℕ) (k : Option Kind) → IfSome k (λ k. size ≡ kind_size k) → has_kind_size size k ≡ true
kind_back size None h = refl
kind_back size (Some k) h = eq-eqb _ _ h

abbrev KindFits : ℕ → Option Kind → Type 0
KindFits size k = IfSome k (λ k. size ≡ kind_size k)

sized_spells : (size : ℕ) → Spells kind_byte (KindFits size) (checked (has_kind_size size) kind_at)
sized_spells size = ruled_spells kind_byte _ (KindFits size) _ (checked_spells kind_byte Any kind_at (has_kind_size size) kind_spells)
    (λ k h. kind_forth size k h.1) (λ k h. (tt, kind_back size k h))

abbrev pub GlobalFits : StartName → List (List ℕ) → FlowGlobal → Type 0
GlobalFits start names g = IsGlobal g × (FitsGlobal g × AllByRecursion (Named start names) (names_in_global g))

-- an object of this name
abbrev pub BodyFits : StartName → List (List ℕ) → List ℕ → FlowGlobal → Type 0
BodyFits start names name g = (g.name ≡ name) × GlobalFits start names g

body_takes : (start : StartName) (names : List (List ℕ)) → IsNameTable names → (name : List ℕ) → Takes (λ text rest g. (text ≡ global_body names g) × BodyFits start names name g) (global_body_at start names name)
unfolding global_body_at
body_takes start names table name =
    takes_field _ u32 FitsU32 u32_at _ u32_spells
    (λ size size_fits. takes_field _ text FitsText text_at _ text_spells
    (λ shape shape_fits. takes_field _ kind_byte (KindFits size) (checked (has_kind_size size) kind_at) _ (sized_spells size)
    (λ kind k. takes_field _ flag (λ b. Unit {0}) flag_at _ flag_spells
    (λ volatile v. takes_field _ u32 FitsU32 u32_at _ u32_spells
    (λ count c. takes_field _ (flat_map (placed_item names)) (λ is. (length is ≡ count) × FitInTurn (PlacedFits start names size) next_free 0 is) (items_at (placed_item_at start names size) next_free count 0) _
    (items_spell (placed_item names) (PlacedFits start names size) (placed_item_at start names size) next_free (placed_spells start names table size size_fits) count 0)
    (λ items i.
    let are = items_forth start names size 0 items i.1 in
    takes_done _ (record { name = name; size = size; shape = shape; kind = kind; volatile = volatile; items = items }) (λ rest. (
      ap (λ n. u32 size ++ (text shape ++ (kind_byte kind ++ (flag volatile ++ (u32 n ++ (flat_map (placed_item names) items ++ [])))))) (sym i.0),
      (refl, (record { size = size_fits; kind = k; items = are.0 }, (record { shape = shape_fits; count = rw i.0 c }, all_flat (λ placed. item_names placed.1) (Named start names) items are.1))),
    ))))))))

body_again : (start : StartName) (names : List (List ℕ)) → IsNameTable names → (g : FlowGlobal) (rest : List ℕ) → GlobalFits start names g → global_body_at start names g.name (global_body names g ++ rest) ≡ Ok (g, rest)
unfolding global_body_at
body_again start names table g rest h =
    let items_text = flat_map (placed_item names) g.items ++ [] in
    again_field u32 FitsU32 u32_at _ u32_spells g.size h.0.size (text g.shape ++ (kind_byte g.kind ++ (flag g.volatile ++ (u32 (length g.items) ++ items_text)))) rest g
    (again_field text FitsText text_at _ text_spells g.shape h.1.0.shape (kind_byte g.kind ++ (flag g.volatile ++ (u32 (length g.items) ++ items_text))) rest g
    (again_field kind_byte (KindFits g.size) (checked (has_kind_size g.size) kind_at) _ (sized_spells g.size) g.kind h.0.kind (flag g.volatile ++ (u32 (length g.items) ++ items_text)) rest g
    (again_field flag (λ b. Unit {0}) flag_at _ flag_spells g.volatile tt (u32 (length g.items) ++ items_text) rest g
    (again_field u32 FitsU32 u32_at _ u32_spells (length g.items) h.1.0.count items_text rest g
    (again_field (flat_map (placed_item names)) (λ is. (length is ≡ length g.items) × FitInTurn (PlacedFits start names g.size) next_free 0 is) (items_at (placed_item_at start names g.size) next_free (length g.items) 0) _
    (items_spell (placed_item names) (PlacedFits start names g.size) (placed_item_at start names g.size) next_free (placed_spells start names table g.size h.0.size) (length g.items) 0) g.items
    (refl, items_back start names g.size 0 g.items h.0.items (all_flat_back (λ placed. item_names placed.1) (Named start names) g.items h.1.1)) [] rest g refl)))))

pub body_spells : (start : StartName) (names : List (List ℕ)) → IsNameTable names → (name : List ℕ) → Spells (global_body names) (BodyFits start names name) (global_body_at start names name)
body_spells start names table name = chained (global_body names) (BodyFits start names name) (global_body_at start names name) (body_takes start names table name)
    (λ g rest h. subst (λ (n : List ℕ). global_body_at start names n (global_body names g ++ rest) ≡ Ok (g, rest)) h.0 (body_again start names table g rest h.1))

abbrev pub GlobalStands : List (List ℕ) → List (List ℕ) → FlowGlobal → Type 0
GlobalStands names seen g = (is_among seen g.name ≡ false) × (Contains names g.name × GlobalFits Refused names g)

-- the body's text stands behind the name
body_behind : (names : List (List ℕ)) → IsNameTable names → (seen : List (List ℕ)) (name : List ℕ) → Fresh names seen name → Takes (λ text rest g. (name_index names name ++ text ≡ global names g) × GlobalStands names seen g) (global_body_at Refused names name)
body_behind names table seen name fresh = record {
  run = λ bytes g rest fits e.
      let t = (body_takes Refused names table name).run bytes g rest fits e in (
        t.0,
        t.1,
        (
          ap (λ (w : List ℕ). name_index names name ++ w) (t.2.0 ∙ sym (append-nil (global_body names g))) ∙ ap (λ (n : List ℕ). name_index names n ++ (global_body names g ++ [])) (sym t.2.1.0),
          (rw t.2.1.0 fresh.1, (rw t.2.1.0 fresh.0, t.2.1.1)),
        ),
      );
}

pub global_spells : (names : List (List ℕ)) → IsNameTable names → (seen : List (List ℕ)) → Spells (global names) (GlobalStands names seen) (global_at names seen)
unfolding global_at
global_spells names table seen = chained (global names) (GlobalStands names seen) _
    (takes_field _ (name_index names) (Fresh names seen) (fresh_at names seen) _ (fresh_spells names table seen) (λ name fresh. body_behind names table seen name fresh))
    (λ g rest h. again_field (name_index names) (Fresh names seen) (fresh_at names seen) _ (fresh_spells names table seen) g.name (h.1.0, h.0) (global_body names g ++ []) rest g
    (ap (λ (w : List ℕ). global_body_at Refused names g.name (w ++ rest)) (append-nil (global_body names g)) ∙ body_again Refused names table g rest h.1.1))

-- ---- declared names

abbrev pub DeclaredStands : List (List ℕ) → List (List ℕ) → List ℕ × List ℕ → Type 0
DeclaredStands names seen d = (is_among seen d.0 ≡ false) × (Contains names d.0 × FitsText d.1)

pub declared_spells : (names : List (List ℕ)) → IsNameTable names → (seen : List (List ℕ)) → Spells (shaped names) (DeclaredStands names seen) (declared_at names seen)
unfolding declared_at declared_body_at
declared_spells names table seen = chained (shaped names) (DeclaredStands names seen) _
    (takes_field _ (name_index names) (Fresh names seen) (fresh_at names seen) _ (fresh_spells names table seen)
    (λ name fresh. takes_field _ text FitsText text_at _ text_spells (λ shape s. takes_done _ (name, shape) (λ rest. (refl, (fresh.1, (fresh.0, s)))))))
    (λ d rest h. again_field (name_index names) (Fresh names seen) (fresh_at names seen) _ (fresh_spells names table seen) d.0 (h.1.0, h.0) (text d.1 ++ []) rest d
    (again_field text FitsText text_at _ text_spells d.1 h.1.1 [] rest d refl))
