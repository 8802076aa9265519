-- Two tiny modules: what the rules say of them is a law.
use Rattle.std.specs.Prelude.{ℕ, false, Some, List, [], ◌∷◌, codes}
use Rattle.pw_tree.specs.declared.expr.BasicType.TheVariants as W
use Rattle.pw_tree.specs.Trees.{Module}
use Rattle.pw_tree.specs.Trees as S
use Rattle.pw_types.specs.declared.kind.IntKind.TheVariants as K
use Rattle.pw_types.specs.TypeTrees.{Int, Function, QType, Qualified, NoType}
use Rattle.pw_types.specs.TypedTrees.{External, Node, ModuleValue}
use Rattle.pw_types.specs.TypedTrees as T

abbrev pub word : ℕ → List ℕ → S.Word
word token text = record { token = token; text = text }

-- `int main(void){return E;}`
abbrev pub main_returning : S.Expr → Module
main_returning e =
    record {
      externals =
          S.Definition (record {
            specifiers = S.Basic 1 W.Int S.NoSpecifier;
            declarator =
                S.Declaring [] (S.Name (word 2 (codes "main")))
                (S.Prototype 3
                (S.Parameter (S.Basic 4 W.Void S.NoSpecifier) (S.Declaring [] S.Absent S.NoSuffix) S.NoParameter)
                S.NoSuffix);
            declarations = [];
            body = S.Braced 6 [] (S.Next (S.Return 7 (Some e)) S.NoStmt);
          }) ∷ [];
    }

-- `7`, and a name that nothing declares
abbrev pub seven : S.Expr
seven = S.Number (word 8 (codes "7"))

abbrev pub unknown : S.Expr
unknown = S.Identifier (word 8 (codes "x"))

abbrev pub int_type : QType
int_type = Qualified (Int K.Int) false false

abbrev pub main_type : QType
main_type = Qualified (Function int_type NoType) false false

abbrev pub main_of_seven : ModuleValue
main_of_seven =
    record {
      records = [];
      globals = [];
      functions = record {
        name = External (codes "main");
        token = 2;
        ty = main_type;
        params = 0;
        locals = [];
        labels = 0;
        named = [];
        body = T.Block 6 0 0 [] (T.OneStatement (T.Return 7 (Some (Node 8 int_type (T.Number 7)))) T.NoStatement);
      } ∷ [];
      declared = record { name = codes "main"; ty = main_type } ∷ [];
    }
