-- How the code collects what a summary holds.
use Rattle.std.specs.Prelude.{ℕ, ◌+◌, if◌then◌else◌, List, min}
use Rattle.std.specs.List.{fold}
use Rattle.std.specs.Str.{bytes_eq}
use Rattle.pw_flow.specs.declared.flow.Op.{Op}
use Rattle.pw_flow.specs.declared.flow.Block.{Block}
use Rattle.pw_flow.specs.declared.flow.Op.TheVariants.{LoadG, StoreG}
use Rattle.pw_flow.specs.FlowGraph.{op_names}
use Rattle.pw_summarise.specs.declared.names.Part.{Part}
use Rattle.pw_summarise.specs.declared.names.Part.TheVariants.{Named, Called, Referenced, Addressed}
use Rattle.pw_summarise.specs.Summarises.{called, referenced, addressed, most, weight}

-- the names of an operation that are asked for
abbrev pub names_as : Part → Op → List (List ℕ)
names_as Named op = op_names op
names_as Called op = called op
names_as Referenced op = referenced op
names_as Addressed op = addressed op

-- ---- weights, one operation after the other

abbrev pub with_weight : ℕ → ℕ → ℕ
with_weight sum weight = min most (sum + weight)

abbrev pub with_read : ℕ → List ℕ → List ℕ × ℕ × ℕ → List ℕ × ℕ × ℕ
with_read weight name r = (r.0, (if bytes_eq name r.0 then with_weight r.1 weight else r.1), r.2)

abbrev pub with_write : ℕ → List ℕ → List ℕ × ℕ × ℕ → List ℕ × ℕ × ℕ
with_write weight name r = (r.0, r.1, (if bytes_eq name r.0 then with_weight r.2 weight else r.2))

abbrev pub with_op : ℕ → List ℕ × ℕ × ℕ → Op → List ℕ × ℕ × ℕ
with_op weight r (LoadG t name k) = with_read weight name r
with_op weight r (StoreG name a k) = with_write weight name r
with_op weight r _ = r

abbrev pub with_ops : ℕ → List Op → List ℕ × ℕ × ℕ → List ℕ × ℕ × ℕ
with_ops weight ops r = fold (with_op weight) r ops

abbrev pub with_blocks : List Block → List ℕ × ℕ × ℕ → List ℕ × ℕ × ℕ
with_blocks blocks r = fold (λ r b. with_ops (weight b.depth) b.ops r) r blocks

-- a global before any operation
abbrev pub none_yet : List ℕ → List ℕ × ℕ × ℕ
none_yet name = (name, 0, 0)
