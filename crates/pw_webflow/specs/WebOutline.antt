-- Uses and definitions in directed graphs, and the outline of a directed function. A copy from the register of a web
-- writes a temporary, a copy to it reads one, and neither calls.
use Rattle.std.specs.Prelude.{ℕ, Bool, false, Option, Some, None, List, [], ◌∷◌, map}
use Rattle.pw_flow.specs.Uses.{op_uses, op_defines, op_calls, end_uses, successors}
use Rattle.pw_flow.specs.Outline.{Act, Stretch, Outline}
use Rattle.pw_webflow.specs.declared.web.WebOp.{WebOp}
use Rattle.pw_webflow.specs.declared.web.WebOp.TheVariants.{Flow, Read, Write}
use Rattle.pw_webflow.specs.declared.web.WebBlock.{WebBlock}
use Rattle.pw_webflow.specs.declared.web.WebFn.{WebFn}

-- the temporaries that an operation reads
abbrev pub uses : WebOp → List ℕ
uses (Flow o) = op_uses o
uses (Read t r) = []
uses (Write r a) = a ∷ []

-- the temporary that it writes
abbrev pub defines : WebOp → Option ℕ
defines (Flow o) = op_defines o
defines (Read t r) = Some t
defines (Write r a) = None

-- whether it calls a function
abbrev pub calls : WebOp → Bool
calls (Flow o) = op_calls o
calls (Read t r) = false
calls (Write r a) = false

abbrev pub web_act : WebOp → Act
web_act o = record { defines = defines o; uses = uses o; calls = calls o }

abbrev pub web_stretch : WebBlock → Stretch
web_stretch b = record { depth = b.depth; acts = map web_act b.ops; uses = end_uses b.end; next = successors b.end }

abbrev pub web_outline : WebFn → Outline
web_outline f = record { params = f.params; temps = f.temps; blocks = map web_stretch f.blocks }
