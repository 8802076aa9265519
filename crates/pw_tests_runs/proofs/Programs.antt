-- Small programs as flow graphs, and directives for them.
use Rattle.std.specs.Prelude.{ℕ, false, true, Some, None, List, [], ◌∷◌, ◌++◌, codes, if◌then◌else◌}
use Rattle.std.specs.Str.{bytes_eq}
use Rattle.pw_value.specs.declared.value.Kind.TheVariants.{W32}
use Rattle.pw_flow.specs.declared.flow.BinKind.TheVariants.{Add, Sub}
use Rattle.pw_flow.specs.declared.flow.Op.{Op}
use Rattle.pw_flow.specs.declared.flow.Op.TheVariants.{Const, Bin, AddrGlobal, AddrFn, LoadG, StoreG, Call, CallInd}
use Rattle.pw_flow.specs.declared.flow.End.{End}
use Rattle.pw_flow.specs.declared.flow.End.TheVariants.{Jump, Branch, Return}
use Rattle.pw_flow.specs.declared.flow.Block.{Block}
use Rattle.pw_flow.specs.declared.flow.FlowGlobal.{FlowGlobal}
use Rattle.pw_flow.specs.declared.flow.FlowFn.{FlowFn}
use Rattle.pw_db.specs.declared.database.Web.{Web}
use Rattle.pw_db.specs.declared.database.Role.{Role}
use Rattle.pw_db.specs.declared.database.Role.TheVariants.{Entry, Member}
use Rattle.pw_db.specs.declared.database.Directives.{Directives}
use Rattle.pw_run_languages.specs.Programs.{Program}

abbrev pub block : List Op → End → Block
block ops end = record { depth = 0; ops = ops; end = end }

abbrev pub function : List ℕ → List ℕ → ℕ → ℕ → List Block → FlowFn
function name shape params temps blocks =
    record { name = name; shape = shape; params = params; temps = temps; slots = []; blocks = blocks }

abbrev pub global : List ℕ → FlowGlobal
global name = record { name = name; size = 4; shape = codes "i!"; kind = Some W32; volatile = false; items = [] }

abbrev pub start : FlowFn
start = function (codes "$start") (codes "fv") 0 1
    (block (Call (Some 0) (codes "main") [] ∷ Call None (codes "exit") (0 ∷ []) ∷ []) (Return None) ∷ [])

-- each function but the library's takes 64 bytes
abbrev pub frames : List ℕ → ℕ
frames name = if bytes_eq name (codes "putchar") then 0 else if bytes_eq name (codes "exit") then 0 else 64

abbrev pub program : List FlowGlobal → List FlowFn → ℕ → Program
program globals functions stack = record {
  modules = record { name = codes "a"; globals = globals; functions = functions ++ start ∷ []; declared = [] } ∷ [];
  frame_of = frames;
  stack = stack;
}

abbrev pub web : ℕ → List ℕ → ℕ → Web
web id name reg = record { id = id; global = name; kind = W32; reg = reg; writes = true }

abbrev pub only : Web → Role → Directives
only w role = record { webs = (w, role) ∷ []; free = []; saves = [] }

-- ---- void bump(void) { n = n + 1; }  int main(void) { bump(); bump(); putchar(n + 48); return n; }

abbrev pub bump : FlowFn
bump = function (codes "bump") (codes "fv") 0 3
    (block (LoadG 0 (codes "n") W32 ∷ Const 1 1 ∷ Bin Add 2 0 1 ∷ StoreG (codes "n") 2 W32 ∷ []) (Return None) ∷ [])

abbrev pub bump_main : FlowFn
bump_main = function (codes "main") (codes "fi") 0 4
    (block (Call None (codes "bump") [] ∷ Call None (codes "bump") [] ∷ LoadG 0 (codes "n") W32 ∷ Const 1 48
    ∷ Bin Add 2 0 1 ∷ Call None (codes "putchar") (2 ∷ []) ∷ LoadG 3 (codes "n") W32 ∷ []) (Return (Some 3)) ∷ [])

abbrev pub bumping : Program
bumping = program (global (codes "n") ∷ []) (bump ∷ bump_main ∷ []) 4096

abbrev pub bump_directives : List (List ℕ × Directives)
bump_directives = (codes "bump", only (web 0 (codes "n") 3) Member) ∷ (codes "main", only (web 0 (codes "n") 3) Entry) ∷ []

-- ---- void f(int x) { n = n + x; if (x) f(x - 1); }  int main(void) { f(2); return n; }

abbrev pub summing : FlowFn
summing = function (codes "f") (codes "fvi") 1 5
    (block (LoadG 1 (codes "n") W32 ∷ Bin Add 2 1 0 ∷ StoreG (codes "n") 2 W32 ∷ []) (Branch 0 1 2)
    ∷ block (Const 3 1 ∷ Bin Sub 4 0 3 ∷ Call None (codes "f") (4 ∷ []) ∷ []) (Jump 2)
    ∷ block [] (Return None) ∷ [])

abbrev pub summing_main : FlowFn
summing_main = function (codes "main") (codes "fi") 0 2
    (block (Const 0 2 ∷ Call None (codes "f") (0 ∷ []) ∷ LoadG 1 (codes "n") W32 ∷ []) (Return (Some 1)) ∷ [])

abbrev pub recursion : ℕ → Program
recursion stack = program (global (codes "n") ∷ []) (summing ∷ summing_main ∷ []) stack

abbrev pub recursion_directives : List (List ℕ × Directives)
recursion_directives = (codes "f", only (web 0 (codes "n") 4) Member) ∷ (codes "main", only (web 0 (codes "n") 4) Entry) ∷ []

-- ---- int main(void) { n = n + 1; if (n - 2) main(); return n; }, where the web is entered by `$start`

abbrev pub again : FlowFn
again = function (codes "main") (codes "fi") 0 6
    (block (LoadG 0 (codes "n") W32 ∷ Const 1 1 ∷ Bin Add 2 0 1 ∷ StoreG (codes "n") 2 W32 ∷ Const 3 2 ∷ Bin Sub 4 2 3 ∷ []) (Branch 4 1 2)
    ∷ block (Call None (codes "main") [] ∷ []) (Jump 2)
    ∷ block (LoadG 5 (codes "n") W32 ∷ []) (Return (Some 5)) ∷ [])

abbrev pub starting : Program
starting = program (global (codes "n") ∷ []) (again ∷ []) 4096

abbrev pub start_directives : List (List ℕ × Directives)
start_directives = (codes "$start", only (web 0 (codes "n") 3) Entry) ∷ (codes "main", only (web 0 (codes "n") 3) Member) ∷ []

-- ---- two webs in one register, one inside the other: main has n, k has none, and h has m

abbrev pub nest_h : FlowFn
nest_h = function (codes "h") (codes "fv") 0 2
    (block (Const 0 7 ∷ StoreG (codes "m") 0 W32 ∷ Const 1 65 ∷ Call None (codes "putchar") (1 ∷ []) ∷ []) (Return None) ∷ [])

abbrev pub nest_k : FlowFn
nest_k = function (codes "k") (codes "fv") 0 0 (block (Call None (codes "h") [] ∷ []) (Return None) ∷ [])

abbrev pub nest_main : FlowFn
nest_main = function (codes "main") (codes "fi") 0 2
    (block (Const 0 5 ∷ StoreG (codes "n") 0 W32 ∷ Call None (codes "k") [] ∷ LoadG 1 (codes "n") W32 ∷ []) (Return (Some 1)) ∷ [])

abbrev pub nesting : Program
nesting = program (global (codes "n") ∷ global (codes "m") ∷ []) (nest_h ∷ nest_k ∷ nest_main ∷ []) 4096

abbrev pub nest_directives : List (List ℕ × Directives)
nest_directives = (codes "h", only (web 1 (codes "m") 3) Entry) ∷ (codes "main", only (web 0 (codes "n") 3) Entry) ∷ []

-- ---- int g(int x) { n = n + x; return n; }  int main(void) { int (*f)(int) = g; return f(4) + n; }

abbrev pub pointed : FlowFn
pointed = function (codes "g") (codes "fii") 1 3
    (block (LoadG 1 (codes "n") W32 ∷ Bin Add 2 1 0 ∷ StoreG (codes "n") 2 W32 ∷ []) (Return (Some 2)) ∷ [])

abbrev pub pointing_main : FlowFn
pointing_main = function (codes "main") (codes "fi") 0 5
    (block (AddrFn 0 (codes "g") ∷ Const 1 4 ∷ CallInd (Some 2) 0 (codes "fii") (1 ∷ []) ∷ LoadG 3 (codes "n") W32 ∷ Bin Add 4 2 3 ∷ []) (Return (Some 4)) ∷ [])

abbrev pub pointing : Program
pointing = program (global (codes "n") ∷ []) (pointed ∷ pointing_main ∷ []) 4096

abbrev pub pointing_directives : List (List ℕ × Directives)
pointing_directives = (codes "g", only (web 0 (codes "n") 3) Member) ∷ (codes "main", only (web 0 (codes "n") 3) Entry) ∷ []

-- ---- main branches on a pointer that leads nowhere: the address of n less 8192, which is where n stands in words

abbrev pub losing_main : FlowFn
losing_main = function (codes "main") (codes "fi") 0 2
    (block (Const 1 3 ∷ AddrGlobal 0 (codes "n") 4294959104 ∷ []) (Branch 0 1 1) ∷ block [] (Return (Some 1)) ∷ [])

abbrev pub losing : Program
losing = program (global (codes "n") ∷ []) (losing_main ∷ []) 4096
