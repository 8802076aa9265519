mod FunctionLaws
