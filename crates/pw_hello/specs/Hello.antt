-- A program of one module: its text, its syntax tree, its typed tree, and what it does.
use Rattle.std.specs.Prelude.{ℕ, ◌+◌, false, Some, None, List, [], ◌∷◌, codes}
use Rattle.pw_tree.specs.declared.expr.BasicType.TheVariants as W
use Rattle.pw_tree.specs.Trees as S
use Rattle.pw_types.specs.declared.kind.IntKind.TheVariants as K
use Rattle.pw_types.specs.TypeTrees.{Int, Function, QType, Qualified, NoType, OneType}
use Rattle.pw_types.specs.TypedTrees.{External, Node, Expression, ModuleValue}
use Rattle.pw_types.specs.TypedTrees as T
use Rattle.pw_cmean.specs.Worlds.{Program, ProgramModule}
use Rattle.pw_cmean.specs.Acts.{Exit}
use Rattle.pw_cmean.specs.SourceRun.{Run}

-- ---- the text

abbrev pub hello_text : List ℕ
hello_text = codes "int putchar(int c); int main(void) { putchar('H'); putchar('i'); return 0; }"

-- ---- its syntax tree

abbrev pub word : ℕ → List ℕ → S.Word
word token text = record { token = token; text = text }

-- `putchar('C');`
abbrev pub putting : ℕ → List ℕ → S.Stmt
putting t character = S.Expression (S.Postfix (S.Identifier (word t (codes "putchar"))) (S.Call (t + 1) (S.Argument (S.Character (word (t + 2) character)) S.NoArgument) S.NoPostfix))

abbrev pub hello_syntax : S.Module
hello_syntax = record {
  externals =
      S.Declaration (record {
        specifiers = S.Basic 1 W.Int S.NoSpecifier;
        declarators = record {
          declarator = S.Declaring [] (S.Name (word 2 (codes "putchar"))) (S.Prototype 3 (S.Parameter (S.Basic 4 W.Int S.NoSpecifier) (S.Declaring [] (S.Name (word 5 (codes "c"))) S.NoSuffix) S.NoParameter) S.NoSuffix);
          initializer = None;
        } ∷ [];
      })
      ∷ S.Definition (record {
        specifiers = S.Basic 8 W.Int S.NoSpecifier;
        declarator = S.Declaring [] (S.Name (word 9 (codes "main"))) (S.Prototype 10 (S.Parameter (S.Basic 11 W.Void S.NoSpecifier) (S.Declaring [] S.Absent S.NoSuffix) S.NoParameter) S.NoSuffix);
        declarations = [];
        body = S.Braced 13 [] (S.Next (putting 14 (codes "'H'")) (S.Next (putting 19 (codes "'i'")) (S.Next (S.Return 24 (Some (S.Number (word 25 (codes "0"))))) S.NoStmt)));
      })
      ∷ [];
}

-- ---- its typed tree

abbrev pub int_type : QType
int_type = Qualified (Int K.Int) false false

abbrev pub putchar_type : QType
putchar_type = Qualified (Function int_type (OneType int_type NoType)) false false

abbrev pub main_type : QType
main_type = Qualified (Function int_type NoType) false false

-- the same, typed
abbrev pub put : ℕ → ℕ → T.Statement
put t n = T.Evaluate t (Node (t + 1) int_type (T.Call (External (codes "putchar")) (T.OneExpression (Node (t + 2) int_type (T.Number n)) T.NoExpression)))

abbrev pub hello_body : T.Statement
hello_body = T.Block 13 0 0 [] (T.OneStatement (put 14 72) (T.OneStatement (put 19 105) (T.OneStatement (T.Return 24 (Some (Node 25 int_type (T.Number 0)))) T.NoStatement)))

abbrev pub hello_main : T.FunctionValue
hello_main = record {
  name = External (codes "main");
  token = 9;
  ty = main_type;
  params = 0;
  locals = [];
  labels = 0;
  named = [];
  body = hello_body;
}

abbrev pub hello_tree : ModuleValue
hello_tree = record {
  records = [];
  globals = [];
  functions = hello_main ∷ [];
  declared = record { name = codes "putchar"; ty = putchar_type } ∷ record { name = codes "main"; ty = main_type } ∷ [];
}

-- ---- the program

abbrev pub hello_name : List ℕ
hello_name = codes "hello"

abbrev pub hello_module : ProgramModule
hello_module = record { name = hello_name; tree = hello_tree }

abbrev pub hello : Program
hello = record { modules = hello_module ∷ [] }

abbrev pub hello_output : List ℕ
hello_output = codes "Hi"

-- it writes "Hi" and ends with the status 0
abbrev pub hello_run : Run
hello_run = record { end = Exit 0; out = hello_output; read = 0 }
