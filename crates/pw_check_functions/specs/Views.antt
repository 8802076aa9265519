-- The plain data that the parts of a function's definition show.
use Rattle.pw_typed.specs.Views.{view_locals, view_symbol}
use Rattle.pw_types.specs.TypedTrees.{FunctionValue, Statement}
use Rattle.pw_types.specs.Views.{view_qtype}
use Rattle.pw_check_functions.specs.declared.functions.Outline.{Outline}

-- a function of this outline, with its body
abbrev pub outlined : Outline → Statement → FunctionValue
outlined o body =
    record {
      name = view_symbol o.name;
      token = o.token;
      ty = view_qtype o.ty;
      params = o.params;
      locals = view_locals o.locals.items;
      labels = o.labels;
      named = o.named.items;
      body = body;
    }
